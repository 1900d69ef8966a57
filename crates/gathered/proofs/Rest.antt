-- What is read of the rest is of the whole.
use Rattle.std.proofs.Common.{◌≡◌, ℕ, ◌<◌, List, [], ◌∷◌, ◌++◌, length, Option, inl, inr, sym, subst, append_assoc, arith}
use Rattle.std.proofs.lemmas.List.{append-nil}
use Rattle.y2k_base.specs.declared.text.Text.{Text}
use Rattle.fixed_format.specs.Columns.{lines}
use Rattle.fixed_format.specs.Joined.{faults_in}
use Rattle.program_texts.specs.Texts.{with_texts, words_of, AreWhole}
use Rattle.shelf.specs.Contents.{Files}
use Rattle.gathered.specs.Shelved.{AreTexts, HasTextFault, IsRead, IsText, IsTextFault, with_loaded}
use Rattle.gathered.specs.declared.fault.GatherFault.{GatherFault}
use Rattle.gathered.specs.declared.shelved.Listed.{Listed}
use Rattle.gathered.specs.declared.shelved.Shelved.{Shelved}

-- with these texts before the rest, what the rest is the whole is
pub record Goes (folder : List ℕ) (used : ℕ) (told : Option Files) (listed : List Listed) (now : Shelved) (rest : List Listed) : Type 0 where
  pub texts : (ts : List Text) → AreTexts folder now.used told rest ts → AreTexts folder used told listed (now.texts ++ ts)
  pub words : (ts : List Text) → with_texts now.words now.number ts ≡ words_of (now.texts ++ ts)
  pub whole : (ts : List Text) → AreWhole ts → AreWhole (now.texts ++ ts)
  pub fault : (f : GatherFault) → HasTextFault folder now.used told now.number rest f → HasTextFault folder used told 0 listed f

module _ (folder : List ℕ) (used : ℕ) (told : Option Files) (listed : List Listed) where
  goes_by : (now : Shelved) (l : Listed) (more : List Listed) (t : Text) → IsText folder now.used told l t → faults_in (lines t.bytes) ≡ []
      → Goes folder used told listed now (l ∷ more) → Goes folder used told listed (with_loaded now t) more
  goes_by now l more t held whole g = record {
    texts = λ ts h. subst (AreTexts folder used told listed) (sym (append_assoc now.texts (t ∷ []) ts)) (g.texts (t ∷ ts) (held, h));
    words = λ ts. subst (λ (xs : List Text). with_texts now.words now.number (t ∷ ts) ≡ words_of xs) (sym (append_assoc now.texts (t ∷ []) ts)) (g.words (t ∷ ts));
    whole = λ ts h. subst AreWhole (sym (append_assoc now.texts (t ∷ []) ts)) (g.whole (t ∷ ts) (whole, h));
    fault = λ f h. g.fault f (inr (t, held, whole, h));
  }

  pub goes_on : (now next : Shelved) (l : Listed) (more : List Listed) → IsRead folder told l now next
      → Goes folder used told listed now (l ∷ more) → Goes folder used told listed next more
  goes_on now next l more (t, held, whole, is) g =
      subst (λ (x : Shelved). Goes folder used told listed x more) (sym is) (goes_by now l more t held whole g)

  pub texts_read : (now : Shelved) (rest : List Listed) → length rest < 1 → Goes folder used told listed now rest → AreTexts folder used told listed now.texts
  texts_read now [] few g = subst (AreTexts folder used told listed) (append-nil now.texts) (g.texts [] tt)
  texts_read now (l ∷ ls) few g = absurd (omega (arith, few))

  pub words_read : (now : Shelved) (rest : List Listed) → Goes folder used told listed now rest → now.words ≡ words_of now.texts
  words_read now rest g = subst (λ (xs : List Text). now.words ≡ words_of xs) (append-nil now.texts) (g.words [])

  pub whole_read : (now : Shelved) (rest : List Listed) → Goes folder used told listed now rest → AreWhole now.texts
  whole_read now rest g = subst AreWhole (append-nil now.texts) (g.whole [] tt)

  pub fault_here : (now : Shelved) (l : Listed) (more : List Listed) (f : GatherFault) → Goes folder used told listed now (l ∷ more)
      → IsTextFault folder now.used told now.number l f → HasTextFault folder used told 0 listed f
  fault_here now l more f g h = g.fault f (inl h)
