-- What is read of texts is sound.
use Rattle.std.proofs.Common.{◌≡◌, ℕ, ◌+◌, ◌≤◌, Bool, true, false, cond, nat_lt, List, [], ◌∷◌, Option, refl, ap, arith, ltb-false}
use Rattle.std.specs.List.{AllByRecursion}
use Rattle.std.proofs.lemmas.Bool.{true≢false}
use Rattle.cobol_syntax.specs.declared.program.Program.{Program}
use Rattle.copy_origins.specs.declared.books.Book.{Book}
use Rattle.data_layout.specs.declared.item.Area.{Area}
use Rattle.data_layout.specs.declared.item.Layout.{Layout}
use Rattle.data_layout.specs.declared.portfolio.Portfolio.{Portfolio}
use Rattle.portfolio.specs.declared.manifest.Named.{Named}
use Rattle.program_reader.specs.declared.fault.Refused.{Refused}
use Rattle.program_names.specs.Areas.{bytes_of, full, faults_of_areas}
use Rattle.program_texts.specs.Programs.{Before, nothing, after, AreMembers}
use Rattle.program_texts.specs.declared.line.Source.{Source}
use Rattle.program_texts.specs.declared.line.TextWords.{TextWords}
use Rattle.file_uses.specs.Names.{name_of}
use Rattle.gathered.specs.Portfolios.{IsPortfolioOf}
use Rattle.tree_words.proofs.Programs.{program-fits}
use Rattle.gathered.specs.Sound.{AreLaid, bytes_of_all, AreOwn, AreUsed, FitsItsWords, IsSound}

abbrev is_cons : List Refused → Bool
is_cons [] = false
is_cons (x ∷ xs) = true

module _ (p : Program) (l : Layout) where
  within_step : (a : Area) (rest : List Area) (before : ℕ) (b : Bool) → nat_lt 4000000 (before + a.length) ≡ b
      → ((before + a.length ≤ 4000000) → faults_of_areas p l (before + a.length) rest ≡ [] → (before + a.length) + bytes_of rest ≤ 4000000)
      → cond b (full p l a ∷ []) (faults_of_areas p l (before + a.length) rest) ≡ [] → before + (a.length + bytes_of rest) ≤ 4000000
  within_step a rest before true t ih e = absurd (true≢false (ap is_cons e))
  within_step a rest before false t ih e = omega (arith, ih (omega (arith, ltb-false 4000000 (before + a.length) t)) e)

  within : (areas : List Area) (before : ℕ) → before ≤ 4000000 → faults_of_areas p l before areas ≡ [] → before + bytes_of areas ≤ 4000000
  within [] before few e = omega (arith, few)
  within (a ∷ rest) before few e = within_step a rest before (nat_lt 4000000 (before + a.length)) refl (λ few e. within rest (before + a.length) few e) e

module _ (books : List Book) where
  trees : (before : Before) (ss : List Source) (ps : List Program) (ls : List Layout) → AreMembers books before ss ps ls → AllByRecursion FitsItsWords ps
  trees before [] [] [] m = record {}
  trees before [] [] (l ∷ ls) m = absurd m
  trees before [] (p ∷ ps) ls m = absurd m
  trees before (s ∷ ss) [] ls m = absurd m
  trees before (s ∷ ss) (p ∷ ps) [] m = absurd m
  trees before (s ∷ ss) (p ∷ ps) (l ∷ ls) m =
      let (expanded, _, read) = m.0.tree in (program-fits expanded before.programs s.file p read.0, trees (after before p l) ss ps ls m.1)

  laid : (before : Before) (ss : List Source) (ps : List Program) (ls : List Layout) → AreMembers books before ss ps ls → AreLaid before.area ps ls
  laid before [] [] [] m = record {}
  laid before [] [] (l ∷ ls) m = absurd m
  laid before [] (p ∷ ps) ls m = absurd m
  laid before (s ∷ ss) [] ls m = absurd m
  laid before (s ∷ ss) (p ∷ ps) [] m = absurd m
  laid before (s ∷ ss) (p ∷ ps) (l ∷ ls) m = (m.0.laid, laid (after before p l) ss ps ls m.1)

  most : (before : Before) (ss : List Source) (ps : List Program) (ls : List Layout) → before.bytes ≤ 4000000 → AreMembers books before ss ps ls → before.bytes + bytes_of_all ls ≤ 4000000
  most before [] [] [] few m = omega (arith, few)
  most before [] [] (l ∷ ls) few m = absurd m
  most before [] (p ∷ ps) ls few m = absurd m
  most before (s ∷ ss) [] ls few m = absurd m
  most before (s ∷ ss) (p ∷ ps) [] few m = absurd m
  most before (s ∷ ss) (p ∷ ps) (l ∷ ls) few m =
      omega (arith, most (after before p l) ss ps ls (within p l l.areas before.bytes few m.0.free.0) m.1)

  own : (before : Before) (ss : List Source) (ps : List Program) (ls : List Layout) → AreMembers books before ss ps ls → AreOwn before.names ps
  own before [] [] [] m = record {}
  own before [] [] (l ∷ ls) m = absurd m
  own before [] (p ∷ ps) ls m = absurd m
  own before (s ∷ ss) [] ls m = absurd m
  own before (s ∷ ss) (p ∷ ps) [] m = absurd m
  own before (s ∷ ss) (p ∷ ps) (l ∷ ls) m = (m.0.free.1.0, own (after before p l) ss ps ls m.1)

  used : (before : Before) (ss : List Source) (ps : List Program) (ls : List Layout) → AreMembers books before ss ps ls → AreUsed ps ls
  used before [] [] [] m = record {}
  used before [] [] (l ∷ ls) m = absurd m
  used before [] (p ∷ ps) ls m = absurd m
  used before (s ∷ ss) [] ls m = absurd m
  used before (s ∷ ss) (p ∷ ps) [] m = absurd m
  used before (s ∷ ss) (p ∷ ps) (l ∷ ls) m = (m.0.free.1.1, used (after before p l) ss ps ls m.1)

pub sound : (words : TextWords) (files : Option (List Named)) (p : Portfolio) → IsPortfolioOf words files p → IsSound p
sound words files p h = record {
  trees = trees words.books.list nothing words.sources p.programs p.layouts h.members;
  laid = laid words.books.list nothing words.sources p.programs p.layouts h.members;
  most = omega (arith, most words.books.list nothing words.sources p.programs p.layouts (omega arith) h.members);
  own = own words.books.list nothing words.sources p.programs p.layouts h.members;
  used = used words.books.list nothing words.sources p.programs p.layouts h.members;
  names = name_of files;
  listed = h.files_used.is;
  lengths = h.files_used.lengths;
}
