-- The smallest parts of units are read as the grammar says.
use Rattle.std.proofs.Common.{◌≡◌, ℕ, ◌+◌, Bool, true, false, List, Option, Some, None, slice_get, refl, ap, sym, subst, ◌∙◌, arith, rules, if◌then◌else◌}
use denote.Enum.Bare.{same_true}
use Rattle.decimal_bytes.specs.declared.form.Scaled.{Scaled}
use Rattle.cobol_syntax.specs.declared.expr.Operand.{Operand}
use Rattle.cobol_syntax.specs.declared.place.Place.{Place}
use Rattle.cobol_syntax.specs.declared.expr.Operand.TheVariants as o
use Rattle.cond_reader.specs.declared.symbol.Symbol.{Symbol}
use Rattle.cond_reader.specs.declared.symbol.Symbol.TheVariants as s
use Rattle.cond_reader.specs.Text.{Text, symbol, sees, spelling}
use Rattle.cond_reader.specs.Chars.{whole, numeral}
use Rattle.cond_reader.specs.Places.{name, place}
use Rattle.cond_reader.specs.Exprs.{figure, number_operand, figure_operand, constant}
use Rattle.cond_reader.specs.Grammar.{Is, Name, IsPlace}
use Rattle.cond_reader.specs.Longest.{IsLongest}
use Rattle.cond_reader.proofs.LongestLaws.{longest_place}
use Rattle.cond_reader.proofs.Seen.{if_some, found, then_some}
use Rattle.cond_reader.proofs.Words.{same-true}
use Rattle.program_reader.specs.contracts.term.Term.{the_type}
use Rattle.program_reader.specs.declared.term.Term.{Term}
use Rattle.program_reader.specs.declared.term.Term.TheVariants as k
use Rattle.program_reader.specs.Terms.{same_term}
use Rattle.program_reader.specs.Views.{View, is_at, has, past, past_is, past_is_or_are, ended, header, headers, named, count, counted, closed_by}
use Rattle.program_reader.specs.Grammar.{Then, Either, one, other, Maybe, absent, given, A, S, Period, IsOrAre, Header, Headers, NameUnit, Count, IsConstant, LongestPlace}
use Rattle.program_reader.specs.Grammar.IsConstant.{number as of_number, literal as of_literal, figurative as of_figure}

term-true : (a b : Term) → same_term a b ≡ true → a ≡ b
unfolding same_term
term-true a b e = same_true the_type (search rules) a b e

-- what stands before a part that is closed
pub closed-some : {X : Type 0} (a b : X) (r : Option ℕ) (j : ℕ) → ◌≡◌ {A = Option (X × ℕ)} (closed_by a r) (Some (b, j)) → (a ≡ b) × (r ≡ Some j)
closed-some a b None j h = absurd (cc)
closed-some a b (Some m) j h = let same = found a b m j h in (same.0, ap (λ x. Some x) same.1)

module _ (v : View) where
  pub has-sound : (k : Term) (i : ℕ) → has v k i ≡ true → A v k i (i + 1)
  unfolding has
  has-sound k i h =
      elim (slice_get v.terms i) as (λ (r : Option Term). slice_get v.terms i ≡ r → is_at k r ≡ true → A v k i (i + 1)) [
        | None ↦ λ e b. absurd (cc)
        | Some t ↦ λ e b. record { term_is = e ∙ ap (λ x. Some x) (term-true t k b); next_is = refl }
      ] refl h

  pub sees-sound : (k : Symbol) (i : ℕ) → sees v.text k i ≡ true → S v k i (i + 1)
  sees-sound k i h = record { kind_is = same-true _ _ h; next_is = refl }

  pub past-sound : (k : Term) (i : ℕ) → Maybe (A v k) i (past v k i)
  unfolding past
  past-sound k i =
      elim (has v k i) as (λ (b : Bool). has v k i ≡ b → Maybe (A v k) i (if b then i + 1 else i)) [
        | true ↦ λ e. given (has-sound k i e)
        | false ↦ λ e. absent
      ] refl

  pub past-is-sound : (i : ℕ) → Maybe (S v s.Is) i (past_is v i)
  unfolding past_is
  past-is-sound i =
      elim (sees v.text s.Is i) as (λ (b : Bool). sees v.text s.Is i ≡ b → Maybe (S v s.Is) i (if b then i + 1 else i)) [
        | true ↦ λ e. given (sees-sound s.Is i e)
        | false ↦ λ e. absent
      ] refl

  with-is : (i j : ℕ) → Maybe (A v k.Are) i j → Maybe (IsOrAre v) i j
  with-is i j absent = absent
  with-is i j (given are) = given (other are)

  past-are-sound : (i : ℕ) → Maybe (IsOrAre v) i (past v k.Are i)
  past-are-sound i = with-is i (past v k.Are i) (past-sound k.Are i)

  pub past-is-or-are-sound : (i : ℕ) → Maybe (IsOrAre v) i (past_is_or_are v i)
  unfolding past_is_or_are
  past-is-or-are-sound i =
      elim (sees v.text s.Is i) as (λ (b : Bool). sees v.text s.Is i ≡ b → Maybe (IsOrAre v) i (if b then i + 1 else past v k.Are i)) [
        | true ↦ λ e. given (one (sees-sound s.Is i e))
        | false ↦ λ e. past-are-sound i
      ] refl

  pub ended-sound : (i j : ℕ) → ended v i ≡ Some j → Period v i j
  unfolding ended
  ended-sound i j h =
      let parts = if_some (sees v.text s.Period i) (Some (i + 1)) j h in
      let same : i + 1 ≡ j = let e = parts.1 in cc in
      subst (λ (m : ℕ). Period v i m) same (sees-sound s.Period i parts.0)

  pub header-sound : (k : Term) (i j : ℕ) → header v k i ≡ Some j → Header v k i j
  unfolding header
  header-sound k i j h =
      let parts = if_some (has v k i) (ended v (i + 1)) j h in
      record { middle = i + 1; first = has-sound k i parts.0; second = ended-sound (i + 1) j parts.1 }

  pub headers-sound : (a b : Term) (i j : ℕ) → headers v a b i ≡ Some j → Headers v a b i j
  unfolding headers
  headers-sound a b i j h =
      let parts = if_some (has v a i) (header v b (i + 1)) j h in
      record { middle = i + 1; first = has-sound a i parts.0; second = header-sound b (i + 1) j parts.1 }

  pub name-sound : (i j : ℕ) (n : List ℕ) → name v.text i ≡ Some (n, j) → Name v.text i j n
  unfolding name
  name-sound i j n h =
      let parts = if_some (sees v.text s.Name i) (Some (spelling v.text i, i + 1)) (n, j) h in
      let same = found (spelling v.text i) n (i + 1) j parts.1 in
      record { word = subst (λ (m : ℕ). Is v.text s.Name i m) same.1 (sees-sound s.Name i parts.0); text = sym same.0 }

  pub named-sound : (i j : ℕ) (n : List ℕ) → named v i ≡ Some (n, j) → NameUnit v i j n
  unfolding named
  named-sound i j n h =
      let step = then_some (name v.text i) (λ m l. closed_by m (ended v l)) (n, j) h in
      let rest = closed-some step.part n (ended v step.end) j step.rest in
      record {
        middle = step.end;
        name = subst (λ (m : List ℕ). Name v.text i step.end m) rest.0 (name-sound i step.end step.part step.read);
        period = ended-sound step.end j rest.1;
      }

  counted-some : (i j n : ℕ) (r : Option ℕ) → counted i r ≡ Some (n, j) → (r ≡ Some n) × (i + 1 ≡ j)
  counted-some i j n None h = absurd (cc)
  counted-some i j n (Some m) h = let same = found m n (i + 1) j h in (ap (λ x. Some x) same.0, same.1)

  pub count-sound : (i j n : ℕ) → count v i ≡ Some (n, j) → Count v i j n
  unfolding count
  count-sound i j n h =
      let parts = if_some (sees v.text s.Number i) (counted i (whole (spelling v.text i))) (n, j) h in
      let read = counted-some i j n (whole (spelling v.text i)) parts.1 in
      record { word = subst (λ (m : ℕ). Is v.text s.Number i m) read.1 (sees-sound s.Number i parts.0); value = read.0 }

  abbrev by_kind : Bool → Bool → ℕ → Option (Operand × ℕ)
  by_kind is_number is_literal i =
      if is_number then number_operand v.text i (numeral (spelling v.text i))
      else (if is_literal then Some (o.Text (spelling v.text i) i, i + 1) else figure_operand v.text i (figure (symbol v.text i)))

  constant-by : (i : ℕ) → constant v.text i ≡ by_kind (sees v.text s.Number i) (sees v.text s.Literal i) i
  unfolding constant
  constant-by i = refl

  constant-cases : (i j : ℕ) (x : Operand) (a b : Bool) → sees v.text s.Number i ≡ a → sees v.text s.Literal i ≡ b → by_kind a b i ≡ Some (x, j) → IsConstant v i j x
  constant-cases i j x true b q r h =
      elim (numeral (spelling v.text i)) as (λ (n : Option (Scaled × ℕ)). numeral (spelling v.text i) ≡ n → IsConstant v i j x) [
        | None ↦ λ none. let nothing = ap (number_operand v.text i) none in absurd (cc)
        | Some n ↦ λ some.
            let same = found (o.Number (n.0) (n.1) i) x (i + 1) j (sym (ap (number_operand v.text i) some) ∙ h) in
            subst (λ (y : Operand). IsConstant v i j y) same.0 (of_number (subst (λ (m : ℕ). S v s.Number i m) same.1 (sees-sound s.Number i q)) some)
      ] refl
  constant-cases i j x false true q r h =
      let same = found (o.Text (spelling v.text i) i) x (i + 1) j h in
      subst (λ (y : Operand). IsConstant v i j y) same.0 (of_literal (subst (λ (m : ℕ). S v s.Literal i m) same.1 (sees-sound s.Literal i r)))
  constant-cases i j x false false q r h =
      elim (figure (symbol v.text i)) as (λ (n : Option ℕ). figure (symbol v.text i) ≡ n → IsConstant v i j x) [
        | None ↦ λ none. let nothing = ap (figure_operand v.text i) none in absurd (cc)
        | Some byte ↦ λ some.
            let same = found (o.Figure byte i) x (i + 1) j (sym (ap (figure_operand v.text i) some) ∙ h) in
            subst (λ (y : Operand). IsConstant v i j y) same.0 (of_figure some (sym same.1))
      ] refl

  pub constant-sound : (i j : ℕ) (x : Operand) → constant v.text i ≡ Some (x, j) → IsConstant v i j x
  constant-sound i j x h = constant-cases i j x _ _ refl refl (sym (constant-by i) ∙ h)

  pub constant-next : (i j : ℕ) (x : Operand) → IsConstant v i j x → j ≡ i + 1
  constant-next i j _ (of_number word value) = word.next_is
  constant-next i j _ (of_literal word) = word.next_is
  constant-next i j _ (of_figure some next) = next

  pub place-sound : (i j : ℕ) (x : Place) → place v.text 64 i ≡ Some (x, j) → LongestPlace v i j x
  place-sound i j x h = subst (λ (r : Option (Place × ℕ)). IsLongest (IsPlace v.text 64) i r) h (longest_place v.text 64 i)
