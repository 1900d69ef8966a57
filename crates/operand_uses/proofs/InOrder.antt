-- Which of several faults comes first.
use Rattle.std.proofs.Common.{◌≡◌, Bool, true, false, cond, refl, sym, ap, ◌∙◌, Option, Some, None, arith}
use Rattle.std.specs.Prelude.{nat_le}
use Rattle.std.proofs.lemmas.Bool.{leb-true, leb-false, le-leb, lt-leb}
use Rattle.operand_uses.specs.declared.fault.UseFault.{UseFault}
use Rattle.operand_uses.specs.Order.{turn, sooner_of, sooner}

-- the one of three that comes first, where the comparisons are so
by_turns : (a b c : UseFault) → sooner_of (sooner_of a b) c ≡ sooner_of a (sooner_of b c)
by_turns a b c =
    elim (nat_le (turn a) (turn b)) as (λ (p : Bool). nat_le (turn a) (turn b) ≡ p → sooner_of (cond p a b) c ≡ sooner_of a (sooner_of b c)) [
      | true ↦ λ ab. elim (nat_le (turn b) (turn c)) as (λ (q : Bool). nat_le (turn b) (turn c) ≡ q → sooner_of a c ≡ sooner_of a (cond q b c)) [
        | true ↦ λ bc. ap (λ (r : Bool). cond r a c) (over ab bc) ∙ sym (ap (λ (r : Bool). cond r a b) ab)
        | false ↦ λ bc. refl
      ] refl
      | false ↦ λ ab. elim (nat_le (turn b) (turn c)) as (λ (q : Bool). nat_le (turn b) (turn c) ≡ q → sooner_of b c ≡ sooner_of a (cond q b c)) [
        | true ↦ λ bc. ap (λ (r : Bool). cond r b c) bc ∙ sym (ap (λ (r : Bool). cond r a b) ab)
        | false ↦ λ bc. ap (λ (r : Bool). cond r b c) bc ∙ sym (ap (λ (r : Bool). cond r a c) (under ab bc))
      ] refl
    ] refl
  where
    over : nat_le (turn a) (turn b) ≡ true → nat_le (turn b) (turn c) ≡ true → nat_le (turn a) (turn c) ≡ true
    over ab bc = le-leb (turn a) (turn c) (omega (arith, leb-true (turn a) (turn b) ab, leb-true (turn b) (turn c) bc))

    under : nat_le (turn a) (turn b) ≡ false → nat_le (turn b) (turn c) ≡ false → nat_le (turn a) (turn c) ≡ false
    under ab bc = lt-leb (turn a) (turn c) (omega (arith, leb-false (turn a) (turn b) ab, leb-false (turn b) (turn c) bc))

pub sooner-sooner : (x y z : Option UseFault) → sooner (sooner x y) z ≡ sooner x (sooner y z)
sooner-sooner None y z = refl
sooner-sooner (Some a) None z = refl
sooner-sooner (Some a) (Some b) None = refl
sooner-sooner (Some a) (Some b) (Some c) = ap (λ (f : UseFault). Some f) (by_turns a b c)

pub sooner-none : (x : Option UseFault) → sooner x None ≡ x
sooner-none None = refl
sooner-none (Some a) = refl
