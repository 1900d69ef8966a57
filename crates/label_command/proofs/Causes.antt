-- What a refusal's cause leads to.
use Rattle.std.proofs.Common.{◌≡◌, ℕ, List, Option, None, Result, Ok, Err, IfOk, IfErr, subst}
use Rattle.y2k_base.specs.declared.text.Text.{Text}
use Rattle.data_layout.specs.declared.portfolio.Portfolio.{Portfolio}
use Rattle.gathered.specs.Portfolios.{IsPortfolio}
use Rattle.shelf.specs.Contents.{Files}
use Rattle.text_load.specs.Texts.{HasText}
use Rattle.label_command.specs.declared.labels.Labels.{Labels}
use Rattle.label_command.specs.declared.refusal.Refusal.{Refusal}
use Rattle.label_command.specs.declared.refusal.Refusal.TheVariants as r
use Rattle.label_command.specs.Labels.{AreLabels}
use Rattle.label_command.specs.Answer.{AreLabelsIn, AreLabelsOf, HasCause, HasItemCause, HasTextCause, HasTextsCause, IsLabelled}

-- what a portfolio leads to, its texts do
item_cause : (texts : List Text) (item : List ℕ) (p : Portfolio) → IsPortfolio texts None p → (refusal : Refusal) → HasItemCause p item refusal
    → HasTextsCause texts item refusal
item_cause texts item p of_texts r.Missing h = h
item_cause texts item p of_texts r.TooLarge h = h
item_cause texts item p of_texts (r.At kind at) h = absurd h
item_cause texts item p of_texts (r.FileUnknown name) h = absurd h
item_cause texts item p of_texts (r.RecordLengths name) h = absurd h
item_cause texts item p of_texts r.SeedUnknown h = (p, of_texts, h)
item_cause texts item p of_texts r.Shelf h = h
item_cause texts item p of_texts r.Memory h = tt

pub caused : (texts : List Text) (item : List ℕ) (p : Portfolio) (result : Result Labels Refusal) → IsPortfolio texts None p
    → IfErr result (HasItemCause p item) → IfErr result (HasTextsCause texts item)
caused texts item p (Ok labels) of_texts h = tt
caused texts item p (Err refusal) of_texts h = item_cause texts item p of_texts refusal h

pub labelled : (texts : List Text) (item : List ℕ) (p : Portfolio) (result : Result Labels Refusal) → IsPortfolio texts None p
    → IfOk result (λ labels. AreLabels p item labels.clean labels.text) → IfOk result (λ labels. AreLabelsIn texts item labels.clean labels.text)
labelled texts item p (Ok labels) of_texts h = (p, of_texts, h)
labelled texts item p (Err refusal) of_texts h = tt

-- what a text leads to, the file that holds it does
text_cause : (source item bytes : List ℕ) (told : Option Files) → HasText source 0 bytes told → (refusal : Refusal)
    → HasTextCause source bytes item refusal → HasCause source item told refusal
text_cause source item bytes told text r.Missing h = absurd h
text_cause source item bytes told text r.TooLarge h = absurd h
text_cause source item bytes told text (r.At kind at) h = (bytes, text, h)
text_cause source item bytes told text (r.FileUnknown name) h = (bytes, text, h)
text_cause source item bytes told text (r.RecordLengths name) h = (bytes, text, h)
text_cause source item bytes told text r.SeedUnknown h = (bytes, text, h)
text_cause source item bytes told text r.Shelf h = tt
text_cause source item bytes told text r.Memory h = tt

pub cause_told : (source item bytes : List ℕ) (told : Option Files) (result : Result Labels Refusal) → HasText source 0 bytes told
    → IfErr result (HasTextCause source bytes item) → IfErr result (HasCause source item told)
cause_told source item bytes told (Ok labels) text h = tt
cause_told source item bytes told (Err refusal) text h = text_cause source item bytes told text refusal h

pub labels_told : (source item bytes : List ℕ) (told : Option Files) (result : Result Labels Refusal) → HasText source 0 bytes told
    → IfOk result (λ labels. IsLabelled source bytes item labels.clean labels.text)
    → IfOk result (λ labels. AreLabelsOf source item told labels.clean labels.text)
labels_told source item bytes told (Ok labels) text h = (bytes, text, h)
labels_told source item bytes told (Err refusal) text h = tt

-- a text is no reason for an answer of the shelf
pub never_shelf : (source bytes item : List ℕ) (result : Result Labels Refusal) → IfErr result (HasTextCause source bytes item) → result ≡ Err r.Shelf → ⊥
never_shelf source bytes item result h is =
    subst (λ (x : Result Labels Refusal). IfErr x (HasTextCause source bytes item)) is h
