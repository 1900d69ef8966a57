-- Words are read as the grammar says.
use Rattle.std.proofs.Common.{◌≡◌, ℕ, ◌+◌, Bool, true, false, Option, Some, None, rules, refl, ap, sym, ◌∙◌, eq-eqb, if◌then◌else◌}
use denote.Enum.Bare.{same_true}
use Rattle.cond_reader.specs.declared.symbol.Symbol.{Symbol}
use Rattle.cond_reader.specs.Text.{symbol, sees}
use Rattle.cond_reader.specs.Grammar.{Is}
use Rattle.cond_reader.proofs.Seen.{if_some, not_true}
use Rattle.cond_reader.proofs.Words.{same-true, sees-is}
use Rattle.proc_reader.specs.contracts.keyword.Keyword.{the_type}
use Rattle.proc_reader.specs.declared.keyword.Keyword.{Keyword}
use Rattle.proc_reader.specs.Keywords.{same_keyword}
use Rattle.proc_reader.specs.Source.{Source, keyword, has, skip, after, skip_symbol, after_symbol}
use Rattle.proc_reader.specs.Grammar.{Word, MaybeWord, MaybeMark}
use Rattle.proc_reader.specs.Grammar.MaybeWord.{given, absent}
use Rattle.proc_reader.specs.Grammar.MaybeMark.{marked, unmarked}
use Rattle.proc_reader.proofs.Steps.{some_same}

keyword-true : (a b : Keyword) → same_keyword a b ≡ true → a ≡ b
unfolding same_keyword
keyword-true a b e = same_true the_type (search rules) a b e

keyword-self : (a : Keyword) → same_keyword a a ≡ true
unfolding same_keyword
keyword-self a = eq-eqb _ _ refl

module _ (t : Source) where
  pub has-true : (word : Keyword) (i : ℕ) → has t word i ≡ true → keyword t i ≡ word
  has-true word i e = keyword-true _ _ e

  pub has-is : (word : Keyword) (i : ℕ) → keyword t i ≡ word → has t word i ≡ true
  has-is word i e = ap (λ x. same_keyword x word) e ∙ keyword-self word

  pub has-false : (word : Keyword) (i : ℕ) → has t word i ≡ false → keyword t i ≡ word → ⊥
  has-false word i e is = let seen = has-is word i is in cc

  -- another word stands here
  pub has-not : (word here : Keyword) (i : ℕ) → keyword t i ≡ here → (here ≡ word → ⊥) → has t word i ≡ false
  has-not word here i is different = not_true (has t word i) (λ e. different (sym is ∙ has-true word i e))

  pub lacks : (word : Keyword) (i : ℕ) → (keyword t i ≡ word → ⊥) → has t word i ≡ false
  lacks word i different = not_true (has t word i) (λ e. different (has-true word i e))

  pub word-here : (word : Keyword) (i : ℕ) → has t word i ≡ true → Word t word i (i + 1)
  word-here word i e = record { is_word = has-true word i e; next_is = refl }

  pub after-sound : (word : Keyword) (i j : ℕ) → after t word i ≡ Some j → Word t word i j
  unfolding after
  after-sound word i j h =
      let seen = if_some (has t word i) (Some (i + 1)) j h in
      record { is_word = has-true word i seen.0; next_is = sym (some_same (i + 1) j seen.1) }

  pub skip-sound : (word : Keyword) (i : ℕ) → MaybeWord t word i (skip t word i)
  unfolding skip
  skip-sound word i =
      elim (has t word i) as (λ (b : Bool). has t word i ≡ b → MaybeWord t word i (if b then i + 1 else i)) [
        | true ↦ λ e. given (word-here word i e)
        | false ↦ λ e. absent (has-false word i e)
      ] refl

  pub skip-best : (word : Keyword) (i j : ℕ) → MaybeWord t word i j → skip t word i ≡ j
  unfolding skip
  skip-best word i j (given w) = ap (λ (b : Bool). if b then i + 1 else i) (has-is word i w.is_word) ∙ sym w.next_is
  skip-best word i _ (absent different) = ap (λ (b : Bool). if b then i + 1 else i) (lacks word i different)

  pub mark-here : (mark : Symbol) (i : ℕ) → sees t.text mark i ≡ true → Is t.text mark i (i + 1)
  mark-here mark i e = record { kind_is = same-true _ _ e; next_is = refl }

  pub sees-false : (mark : Symbol) (i : ℕ) → sees t.text mark i ≡ false → symbol t.text i ≡ mark → ⊥
  sees-false mark i e is = let seen = sees-is t.text mark i is in cc

  pub after-mark-sound : (mark : Symbol) (i j : ℕ) → after_symbol t mark i ≡ Some j → Is t.text mark i j
  unfolding after_symbol
  after-mark-sound mark i j h =
      let seen = if_some (sees t.text mark i) (Some (i + 1)) j h in
      record { kind_is = same-true _ _ seen.0; next_is = sym (some_same (i + 1) j seen.1) }

  pub skip-mark-sound : (mark : Symbol) (i : ℕ) → MaybeMark t mark i (skip_symbol t mark i)
  unfolding skip_symbol
  skip-mark-sound mark i =
      elim (sees t.text mark i) as (λ (b : Bool). sees t.text mark i ≡ b → MaybeMark t mark i (if b then i + 1 else i)) [
        | true ↦ λ e. marked (mark-here mark i e)
        | false ↦ λ e. unmarked (sees-false mark i e)
      ] refl
