-- Statements inside which no statement stands are read as the grammar says.
use Rattle.std.proofs.Common.{◌≡◌, ℕ, ◌+◌, Bool, true, false, ◌⊎◌, inl, inr, List, [], ◌∷◌, Option, Some, None, refl, ap, sym, subst, ◌∙◌, if◌then◌else◌}
use Rattle.cobol_syntax.specs.declared.statement.Form.{Form}
use Rattle.cobol_syntax.specs.declared.statement.Form.TheVariants as form
use Rattle.proc_reader.specs.declared.keyword.Keyword.TheVariants as k
use Rattle.proc_reader.specs.Source.{Source, has, after}
use Rattle.proc_reader.specs.Moves.{moved, shown, accepted}
use Rattle.proc_reader.specs.Files.{opened, closed, written}
use Rattle.proc_reader.specs.Performs.{performed}
use Rattle.proc_reader.specs.Simple.{gone, word_alone, single, simple}
use Rattle.proc_reader.specs.Grammar.{Single, Simple}
use Rattle.proc_reader.specs.Grammar.Single.{perform, go_to, write, accept, show, stop_run, exit, continue}
use Rattle.proc_reader.specs.Grammar.Simple.{move, open_files, close_files, single as single_form}
use Rattle.proc_reader.proofs.Steps.{part_of, word_of, if_cases, moved_to}
use Rattle.proc_reader.proofs.WordLaws.{word-here, after-sound}
use Rattle.proc_reader.proofs.HeadLaws.{moved-sound, shown-sound, accepted-sound, gone-sound}
use Rattle.proc_reader.proofs.FileLaws.{opened-sound, closed-sound, written-sound}
use Rattle.proc_reader.proofs.PerformLaws.{performed-sound}

module _ (t : Source) where
  word-alone-sound : (level i j : ℕ) (f : Form) → word_alone t i ≡ Some (f, j) → Single t level i j f
  unfolding word_alone
  word-alone-sound level i j f h =
      elim (if_cases (has t k.Exit i) _ _ _ h) [
        | inl a ↦ moved_to (Single t level) i (i + 1) j form.Nothing f (exit (word-here t k.Exit i a.0)) a.1
        | inr a ↦ elim (if_cases (has t k.Continue i) _ _ _ a.1) [
          | inl b ↦ moved_to (Single t level) i (i + 1) j form.Nothing f (continue (word-here t k.Continue i b.0)) b.1
          | inr b ↦
              let c = word_of _ _ _ b.1 in
              let d = word_of _ _ _ c.rest in
              moved_to (Single t level) i d.end j form.Stop f (stop_run (after-sound t k.Stop i c.end c.read) (after-sound t k.Run c.end d.end d.read)) d.rest
        ]
      ]

  single-sound : (level i j : ℕ) (f : Form) → single t level i ≡ Some (f, j) → Single t level i j f
  unfolding single
  single-sound level i j f h =
      elim (if_cases (has t k.Perform i) _ _ _ h) [
        | inl a ↦ perform (performed-sound t level i (i + 1) j f (word-here t k.Perform i a.0) a.1)
        | inr a ↦ elim (if_cases (has t k.Go i) _ _ _ a.1) [
          | inl b ↦ go_to (gone-sound t i (i + 1) j f (word-here t k.Go i b.0) b.1)
          | inr b ↦ elim (if_cases (has t k.Write i) _ _ _ b.1) [
            | inl c ↦ write (written-sound t level i (i + 1) j f (word-here t k.Write i c.0) c.1)
            | inr c ↦ elim (if_cases (has t k.Accept i) _ _ _ c.1) [
              | inl d ↦ accept (accepted-sound t level i (i + 1) j f (word-here t k.Accept i d.0) d.1)
              | inr d ↦ elim (if_cases (has t k.Display i) _ _ _ d.1) [
                | inl g ↦ show (shown-sound t level i (i + 1) j f (word-here t k.Display i g.0) g.1)
                | inr g ↦ word-alone-sound level i j f g.1
              ]
            ]
          ]
        ]
      ]

  pub simple-sound : (level i j : ℕ) (fs : List Form) → simple t level i ≡ Some (fs, j) → Simple t level i j fs
  unfolding simple
  simple-sound level i j fs h =
      elim (if_cases (has t k.Move i) _ _ _ h) [
        | inl a ↦ move (moved-sound t level i (i + 1) j fs (word-here t k.Move i a.0) a.1)
        | inr a ↦ elim (if_cases (has t k.Open i) _ _ _ a.1) [
          | inl b ↦ let c = part_of _ _ _ b.1 in
              moved_to (Simple t level) i c.end j (c.value.forms) fs (open_files (opened-sound t i (i + 1) c.end c.value (word-here t k.Open i b.0) c.read)) c.rest
          | inr b ↦ elim (if_cases (has t k.Close i) _ _ _ b.1) [
            | inl c ↦ close_files (closed-sound t i (i + 1) j fs (word-here t k.Close i c.0) c.1)
            | inr c ↦ let d = part_of _ _ _ c.1 in
                moved_to (Simple t level) i d.end j (d.value ∷ []) fs (single_form (single-sound level i d.end d.value d.read)) d.rest
          ]
        ]
      ]
