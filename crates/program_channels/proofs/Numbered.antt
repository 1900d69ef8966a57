-- The number of a name is how many names stand before it.
use Rattle.std.proofs.Common.{◌≡◌, ℕ, suc, ◌+◌, ◌==◌, ◌&&◌, Bool, true, false, true≢false, cond, List, [], ◌∷◌, length, map, Option, Some, refl, sym, ap, ap₂, ◌∙◌, arith}
use Rattle.std.specs.Prelude.{if◌then◌else◌}
use Rattle.std.specs.Str.{bytes_eq}
use Rattle.cobol_syntax.specs.declared.program.FileEntry.{FileEntry}
use Rattle.cobol_syntax.specs.declared.program.Select.{Select}
use Rattle.data_layout.specs.declared.portfolio.FileUse.{FileUse}
use Rattle.program_meaning.specs.Entries as entries
use Rattle.program_meaning.specs.Layout.{same_name}
use Rattle.program_meaning.specs.Portfolio.{index_of, file_names, channels_of}
use Rattle.program_meaning.specs.State as state
use Rattle.program_meaning.specs.Tree.{Name}
use Rattle.tree_reading.specs.Reading.{read_file, read_select, place_if}
use Rattle.layout_reading.specs.Reading.{externals}
use Rattle.program_channels.specs.Numbers.{number_or, numbers_of_files, numbers_of_entries}
use Rattle.program_channels.specs.Tables.{channels_by}

nat-eq-sym : (c d : ℕ) → (c == d) ≡ (d == c)
nat-eq-sym c d = grind arith

-- two names are the same where their bytes are equal
pub same-name : (a b : Name) → bytes_eq a b ≡ same_name b a
same-name [] [] = refl
same-name [] (d ∷ ds) = refl
same-name (c ∷ cs) [] = refl
same-name (c ∷ cs) (d ∷ ds) = ap₂ (λ (x y : Bool). x && y) (nat-eq-sym c d) (same-name cs ds)

-- one name more in front
one-more : (k count rest : ℕ) (found : Option ℕ) (b t : Bool) → b ≡ t → number_or ((k + 1) + count) found ≡ (k + 1) + rest
    → number_or (k + suc count) (if b then Some k else found) ≡ k + cond t 0 (rest + 1)
one-more k count rest found true true same h = omega arith
one-more k count rest found false false same h =
    let counts : k + suc count ≡ (k + 1) + count = omega arith in
    let there : (k + 1) + rest ≡ k + (rest + 1) = omega arith in
    ap (λ (n : ℕ). number_or n found) counts ∙ h ∙ there
one-more k count rest found true false same h = absurd (true≢false same)
one-more k count rest found false true same h = absurd (true≢false (sym same))

pub file-number : (n : Name) (k : ℕ) (files : List FileUse) → number_or (k + length files) (numbers_of_files k files n) ≡ k + index_of n (externals files)
file-number n k [] = refl
file-number n k (file ∷ files) =
    one-more k (length files) (index_of n (externals files)) (numbers_of_files (k + 1) files n) (bytes_eq file.external n) (same_name n file.external)
    (same-name file.external n) (file-number n (k + 1) files)

pub entry-number : (n : Name) (k : ℕ) (fds : List FileEntry) → number_or (k + length fds) (numbers_of_entries k fds n) ≡ k + index_of n (file_names (map read_file fds))
entry-number n k [] = refl
entry-number n k (fd ∷ fds) =
    one-more k (length fds) (index_of n (file_names (map read_file fds))) (numbers_of_entries (k + 1) fds n) (bytes_eq fd.name n) (same_name n fd.name)
    (same-name fd.name n) (entry-number n (k + 1) fds)

-- files with these numbers are those of the meaning
pub all-numbered : (file area : Name → ℕ) (known : List Name) (fds : List entries.FileEntry) → ((n : Name) → file n ≡ index_of n known)
    → ((n : Name) → area n ≡ index_of n (file_names fds)) → (ss : List Select) → channels_by file area ss ≡ channels_of known fds (map read_select ss)
all-numbered file area known fds files areas [] = refl
all-numbered file area known fds files areas (s ∷ ss) =
    ap₂ (λ (c : state.Channel) (cs : List state.Channel). c ∷ cs)
    (ap₂ (λ (x y : ℕ). record { name = s.name; file = x; area = y; status = place_if s.status }) (files s.external) (areas s.name))
    (all-numbered file area known fds files areas ss)
