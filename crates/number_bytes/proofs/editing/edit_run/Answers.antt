use Rattle.std.proofs.Common.{◌≡◌, ℕ, suc, ◌+◌, ◌-◌, ◌<◌, Bool, true, false, List, ◌∷◌, [], ◌++◌, cond, length, take, set, replicate, refl, ap, sym, ◌∙◌, arith}
use Rattle.std.proofs.lemmas.List.{take_more_set, append_assoc, length-set}
use Rattle.program_meaning.specs.Kind.{Symbol, symbol_of}
use Rattle.number_bytes.specs.Editing.{shows_digit, still_shown}
use Rattle.number_bytes.proofs.EditLaws.{digit_left, digit_taken}
use Rattle.number_bytes.proofs.editing.edit_run.Goals as goal

pub loop-place-init : goal.loop-place-init
loop-place-init c =
    let s : Symbol = symbol_of c.args.run.symbol in
    let start : c.args.at + 0 ≡ c.args.at = omega arith in
    let whole : c.args.run.count - 0 ≡ c.args.run.count = omega arith in (
      λ ss. ap (λ (i : ℕ). take i c.args.into.now ++ still_shown c.args.editing (replicate (c.args.run.count - 0) s ++ ss)) start
          ∙ ap (λ (n : ℕ). take c.args.at c.args.into.now ++ still_shown c.args.editing (replicate n s ++ ss)) whole,
      none (shows_digit s) c.args.editing.left,
      refl,
    )
  where
    none : (b : Bool) (n : ℕ) → n + cond b 0 0 ≡ n
    none true n = omega arith
    none false n = omega arith

pub show-byte-requires : goal.show-byte-requires
show-byte-requires c =
    digit_left (shows_digit (symbol_of c.args.run.symbol)) c.loop-place.place c.args.run.count c.loop-place.now.left c.args.editing.left c.loop-place.invariant.1 c.requires.digits c.loop-place-test.true

pub loop-place-preserved : goal.loop-place-preserved
loop-place-preserved c =
    let s : Symbol = symbol_of c.args.run.symbol in
    let loop = c.loop-place in
    let place : ℕ = loop.place in
    let count : ℕ = c.args.run.count in
    let byte = c.show-byte.result.0 in
    let next = c.show-byte.result.1 in
    let i : ℕ = c.args.at + place in
    let within : i < length loop.into = omega arith in
    let further : c.args.at + (place + 1) ≡ i + 1 = omega arith in
    let left : suc (count - (place + 1)) ≡ count - place = omega arith in (
      λ ss. let rest : List Symbol = replicate (count - (place + 1)) s ++ ss in
          ap (λ (k : ℕ). take k (set loop.into i byte) ++ still_shown next rest) further
          ∙ ap (λ (xs : List ℕ). xs ++ still_shown next rest) (take_more_set loop.into i byte within)
          ∙ append_assoc (take i loop.into) (byte ∷ []) (still_shown next rest)
          ∙ ap (λ (xs : List ℕ). take i loop.into ++ xs) (sym (c.show-byte.ensures.shown rest))
          ∙ ap (λ (n : ℕ). take i loop.into ++ still_shown loop.now (replicate n s ++ ss)) left
          ∙ loop.invariant.0 ss,
      digit_taken (shows_digit s) place loop.now.left next.left c.args.editing.left loop.invariant.1 c.show-byte.ensures.left,
      length-set loop.into i byte ∙ loop.invariant.2,
    )

pub returns-clause-shown : goal.returns-clause-shown
returns-clause-shown c =
    let s : Symbol = symbol_of c.args.run.symbol in
    let loop = c.loop-place in
    let place : loop.place ≡ c.args.run.count = omega arith in
    let none : c.args.run.count - loop.place ≡ 0 = omega arith in
    λ ss. ap (λ (n : ℕ). take (c.args.at + n) loop.into ++ still_shown loop.now ss) (sym place)
    ∙ ap (λ (n : ℕ). take (c.args.at + loop.place) loop.into ++ still_shown loop.now (replicate n s ++ ss)) (sym none)
    ∙ loop.invariant.0 ss
