-- The reading of sides and pairs finds exactly what is written.
use Rattle.std.proofs.Common.{◌≡◌, ◌+◌, ◌<◌, Bool, true, false, Option, Some, None, List, [], ◌∷◌, ◌++◌, length, option_map, refl, ap, sym, ◌∙◌, subst, arith, if◌then◌else◌}
use Rattle.std.specs.List.{AllByRecursion}
use Rattle.std.specs.Prelude.{option_and_then}
use Rattle.std.proofs.lemmas.List.{length-append}
use Rattle.y2k_base.specs.declared.word.Word.{Word}
use Rattle.copy_origins.specs.declared.sign.Sign.TheVariants as s
use Rattle.copy_origins.specs.Signs.{is}
use Rattle.copy_origins.specs.Statement.{Side, One, Between, side_then, side_text, IsInner, IsSide, Exchange, exchange_then, IsExchange}
use Rattle.copy_origins.specs.Reads.{until, side_at, after_old, pair_at}
use Rattle.copy_origins.proofs.Signs.{is-other, name-double, period-double, period-name, some-eq}

until-takes : (text : List Word) (close : Word) (more : List Word) → AllByRecursion IsInner text → is s.Double close ≡ true → until (text ++ close ∷ more) ≡ Some (text, more)
until-takes [] close more f e = rw e refl
until-takes (w ∷ ws) close more f e = rw f.0 (rw (until-takes ws close more f.1 e) refl)

pub record Cut (ws before after : List Word) : Type 0 where
  pub close : Word
  pub free : AllByRecursion IsInner before
  pub closed : is s.Double close ≡ true
  pub spelled : ws ≡ before ++ close ∷ after

until-found : (ws : List Word) (r : List Word × List Word) → until ws ≡ Some r → Cut ws r.0 r.1
until-found [] r h = cc
until-found (w ∷ ws) r h =
    elim (is s.Double w) as (λ (t : Bool). is s.Double w ≡ t → (if t then Some ([], ws) else option_map (λ q. (w ∷ q.0, q.1)) (until ws)) ≡ Some r → Cut (w ∷ ws) r.0 r.1) [
      | true ↦ λ e g. subst (λ (q : List Word × List Word). Cut (w ∷ ws) q.0 q.1) (some-eq g) record { close = w; free = tt; closed = e; spelled = refl }
      | false ↦ λ e g.
          elim (until ws) as (λ (o : Option (List Word × List Word)). until ws ≡ o → option_map (λ q. (w ∷ q.0, q.1)) o ≡ Some r → Cut (w ∷ ws) r.0 r.1) [
            | None ↦ λ k m. cc
            | Some p ↦ λ k m.
                let inner = until-found ws p k in
                subst (λ (q : List Word × List Word). Cut (w ∷ ws) q.0 q.1) (some-eq m)
                record { close = inner.close; free = (e, inner.free); closed = inner.closed; spelled = ap (λ xs. w ∷ xs) inner.spelled }
          ] refl g
    ] refl h

pub side-takes : (x : Side) (more : List Word) → IsSide x → side_at (side_then x more) ≡ Some (side_text x, more)
side-takes (One name) more f = rw (is-other s.Name s.Double name f name-double) (rw f refl)
side-takes (Between mark text close) more f = rw f.0 (until-takes text close more f.1 f.2)

pub record SideCut (ws text after : List Word) : Type 0 where
  pub tree : Side
  pub formed : IsSide tree
  pub spelled : ws ≡ side_then tree after
  pub told : side_text tree ≡ text

pub side-found : (ws : List Word) (r : List Word × List Word) → side_at ws ≡ Some r → SideCut ws r.0 r.1
side-found [] r h = cc
side-found (w ∷ ws) r h =
    elim (is s.Double w) as (λ (t : Bool). is s.Double w ≡ t → (if t then until ws else (if is s.Name w then Some (w ∷ [], ws) else None)) ≡ Some r → SideCut (w ∷ ws) r.0 r.1) [
      | true ↦ λ e g.
          let inner = until-found ws r g in
          record { tree = Between w r.0 inner.close; formed = (e, inner.free, inner.closed); spelled = ap (λ xs. w ∷ xs) inner.spelled; told = refl }
      | false ↦ λ e g.
          elim (is s.Name w) as (λ (t : Bool). is s.Name w ≡ t → (if t then Some (w ∷ [], ws) else None) ≡ Some r → SideCut (w ∷ ws) r.0 r.1) [
            | true ↦ λ k m. subst (λ (q : List Word × List Word). SideCut (w ∷ ws) q.0 q.1) (some-eq m) record { tree = One w; formed = k; spelled = refl; told = refl }
            | false ↦ λ k m. cc
          ] refl g
    ] refl h

after-takes : (old : List Word) (by : Word) (ws new more : List Word) → (old ≡ [] → ⊥) → is s.By by ≡ true → side_at ws ≡ Some (new, more)
    → after_old old (by ∷ ws) ≡ Some (old, new, more)
after-takes [] by ws new more ne e h = absurd (ne refl)
after-takes (o ∷ os) by ws new more ne e h = rw e (rw h refl)

pub pair-takes : (x : Exchange) (more : List Word) → IsExchange x → pair_at (exchange_then x more) ≡ Some (side_text x.old, side_text x.new, more)
pair-takes x more f =
    rw (side-takes x.old (x.by ∷ side_then x.new more) f.0)
    (after-takes (side_text x.old) x.by (side_then x.new more) (side_text x.new) more f.3 f.1 (side-takes x.new more f.2))

pub record PairCut (ws old new after : List Word) : Type 0 where
  pub tree : Exchange
  pub formed : IsExchange tree
  pub spelled : ws ≡ exchange_then tree after
  pub old_is : side_text tree.old ≡ old
  pub new_is : side_text tree.new ≡ new

pub record AfterCut (old ws : List Word) (r : List Word × List Word × List Word) : Type 0 where
  pub filled : old ≡ [] → ⊥
  pub by : Word
  pub is_by : is s.By by ≡ true
  pub tree : Side
  pub formed : IsSide tree
  pub spelled : ws ≡ by ∷ side_then tree r.2
  pub old_is : old ≡ r.0
  pub new_is : side_text tree ≡ r.1

filled : {A : Type 0} (x : A) (xs : List A) → x ∷ xs ≡ [] → ⊥
filled x xs e = cc

after-found : (old ws : List Word) (r : List Word × List Word × List Word) → after_old old ws ≡ Some r → AfterCut old ws r
after-found [] ws r h = cc
after-found (o ∷ os) [] r h = cc
after-found (o ∷ os) (w ∷ ws) r h =
    elim (is s.By w) as (λ (t : Bool). is s.By w ≡ t → (if t then option_map (λ q. (o ∷ os, q.0, q.1)) (side_at ws) else None) ≡ Some r → AfterCut (o ∷ os) (w ∷ ws) r) [
      | true ↦ λ e g.
          elim (side_at ws) as (λ (a : Option (List Word × List Word)). side_at ws ≡ a → option_map (λ q. (o ∷ os, q.0, q.1)) a ≡ Some r → AfterCut (o ∷ os) (w ∷ ws) r) [
            | None ↦ λ k m. cc
            | Some p ↦ λ k m.
                let inner = side-found ws p k in
                subst (λ (q : List Word × List Word × List Word). AfterCut (o ∷ os) (w ∷ ws) q) (some-eq m)
                record { filled = filled o os; by = w; is_by = e; tree = inner.tree; formed = inner.formed; spelled = ap (λ xs. w ∷ xs) inner.spelled; old_is = refl; new_is = inner.told }
          ] refl g
      | false ↦ λ e g. cc
    ] refl h

pub pair-found : (ws : List Word) (r : List Word × List Word × List Word) → pair_at ws ≡ Some r → PairCut ws r.0 r.1 r.2
pair-found ws r h =
    elim (side_at ws) as (λ (a : Option (List Word × List Word)). side_at ws ≡ a → option_and_then (λ q. after_old q.0 q.1) a ≡ Some r → PairCut ws r.0 r.1 r.2) [
      | None ↦ λ k m. cc
      | Some p ↦ λ k m.
          let first = side-found ws p k in
          let other = after-found p.0 p.1 r m in
          record {
            tree = record { old = first.tree; by = other.by; new = other.tree };
            formed = (first.formed, other.is_by, other.formed, λ e. other.filled (sym first.told ∙ e));
            spelled = first.spelled ∙ ap (λ xs. side_then first.tree xs) other.spelled;
            old_is = first.told ∙ other.old_is;
            new_is = other.new_is;
          }
    ] refl h

pub period-no-pair : (w : Word) (ws : List Word) → is s.Period w ≡ true → pair_at (w ∷ ws) ≡ None
period-no-pair w ws e = rw (is-other s.Period s.Double w e period-double) (rw (is-other s.Period s.Name w e period-name) refl)

side-longer : (x : Side) (more : List Word) → length more < length (side_then x more)
side-longer (One name) more = omega arith
side-longer (Between mark text close) more =
    let n : length (text ++ close ∷ more) ≡ length text + length (close ∷ more) = length-append text (close ∷ more) in
    omega arith

pub exchange-longer : (x : Exchange) (more : List Word) → length more < length (exchange_then x more)
exchange-longer x more =
    let a : length more < length (side_then x.new more) = side-longer x.new more in
    let b : length (x.by ∷ side_then x.new more) < length (exchange_then x more) = side-longer x.old (x.by ∷ side_then x.new more) in
    omega arith
