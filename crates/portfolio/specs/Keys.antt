-- The keys of a manifest, in the order in which faults of one kind are named.
use Rattle.std.specs.Prelude.{ℕ, Bool, List, [], ◌∷◌, codes}
use Rattle.std.specs.List.{list_any}
use Rattle.std.specs.Str.{bytes_eq}
use Rattle.portfolio.specs.declared.key.Key.{Key}
use Rattle.portfolio.specs.declared.key.Key.TheVariants.{Version, Pivot, Programs, Copybooks, Seeds, Window, Files, Jobs}

-- how a key is written
abbrev pub word : Key → List ℕ
word Version = codes "version"
word Pivot = codes "pivot"
word Programs = codes "programs"
word Copybooks = codes "copybooks"
word Seeds = codes "seeds"
word Window = codes "window"
word Files = codes "files"
word Jobs = codes "jobs"

abbrev pub all_keys : List Key
all_keys = Version ∷ Pivot ∷ Programs ∷ Copybooks ∷ Seeds ∷ Window ∷ Files ∷ Jobs ∷ []

-- those without which a table is no manifest
abbrev pub needed_keys : List Key
needed_keys = Version ∷ Pivot ∷ Programs ∷ []

-- whether one of these keys is written so
abbrev pub is_word_of : List Key → List ℕ → Bool
is_word_of keys text = list_any (λ key. bytes_eq (word key) text) keys
