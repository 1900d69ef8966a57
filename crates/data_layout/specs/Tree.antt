-- The tree that entries make by their levels: an entry has as its parts those that follow it with higher
-- levels, up to the first that has none.
use Rattle.std.specs.Prelude.{ℕ, ◌||◌, ◌==◌, nat_lt, ◌≡◌, ◌<◌, ◌≤◌, List, [], ◌∷◌, length, if◌then◌else◌}
use Rattle.cobol_syntax.specs.declared.program.Entry.{Entry}

-- how deep a level stands: a 77 stands beside the 01, and an 88 under any item. Levels that no entry has
-- stand beside these.
abbrev pub rank : ℕ → ℕ
rank level = if level == 77 || level == 0 then 1 else (if nat_lt 88 level then 88 else level)

-- entries side by side, each with its parts
pub data Forest : Type 0 where
  nothing : Forest
  node : Entry → Forest → Forest → Forest

-- those of a row that lie within the rank, up to the first that doesn't
abbrev pub within : ℕ → Forest → Forest
within rank_around nothing = nothing
within rank_around (node e parts next) =
    if nat_lt rank_around (rank e.level) then node e parts (within rank_around next) else nothing

-- those of a row from the first on that doesn't lie within the rank
abbrev pub beyond : ℕ → Forest → Forest
beyond rank_around nothing = nothing
beyond rank_around (node e parts next) =
    if nat_lt rank_around (rank e.level) then beyond rank_around next else node e parts next

-- the entries as a tree
abbrev pub forest : List Entry → Forest
forest [] = nothing
forest (e ∷ es) = node e (within (rank e.level) (forest es)) (beyond (rank e.level) (forest es))

-- the parts of an entry, of those that follow it, and what stands beside it
abbrev pub parts_of : Entry → List Entry → Forest
parts_of e inner = within (rank e.level) (forest inner)

abbrev pub beside : Entry → List Entry → Forest
beside e inner = beyond (rank e.level) (forest inner)

-- the entries begin with one within the rank
pub record BeginsWithin (around : ℕ) (entries : List Entry) (e : Entry) (inner : List Entry) : Type 0 where
  pub parts : within around (forest entries) ≡ node e (parts_of e inner) (within around (beside e inner))
  pub others : beyond around (forest entries) ≡ beyond around (beside e inner)
  pub shorter : length inner < length entries

-- the entries don't begin with one within the rank
pub record BeginsBeyond (around : ℕ) (entries : List Entry) : Type 0 where
  pub parts : within around (forest entries) ≡ nothing
  pub others : beyond around (forest entries) ≡ forest entries

-- the entries go on after those within the rank
pub record GoesOn (around : ℕ) (entries rest : List Entry) : Type 0 where
  pub others : forest rest ≡ beyond around (forest entries)
  pub shorter : length rest ≤ length entries
