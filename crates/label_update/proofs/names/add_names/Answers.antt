use Rattle.std.proofs.Common.{rules, ◌≡◌, ◌+◌, ◌<◌, ◌++◌, ◌∷◌, [], ◌∙◌, refl, sym, ap, subst, ℕ, List, Option, take, drop, length, get_or, arith}
use Rattle.std.proofs.lemmas.List.{append-nil, drop_all}
use Rattle.name_tables.specs.Table.{held, with_value}
use Rattle.data_layout.specs.declared.item.Area.{Area}
use Rattle.label_update.specs.Names.{count_named, name_text, names_after, turn_in}
use Rattle.label_update.specs.declared.names.AreaName.{AreaName}
use Rattle.label_update.proofs.Turns.{names_more, take_one, turns_more}
use Rattle.label_update.proofs.names.add_names.Goals as goal

pub loop-i-init : goal.loop-i-init
loop-i-init c = record { names = refl; turns = λ name. ap (λ (t : List ℕ → Option ℕ). turn_in (t name)) c.new-turns.ensures }

pub loop-i-preserved : goal.loop-i-preserved
loop-i-preserved c =
    let areas = c.args.areas.now in
    let i = c.loop-i.i in
    let area : Area = c.index-areas-i.result in
    let low : i < length areas = c.loop-i-test.true in
    let is : area ≡ get_or areas i area = c.index-areas-i.is in
    let text : c.name_text.result.now ≡ name_text area.name = c.name_text.ensures in
    let turn : c.in_ok-turn.turn ≡ turn_in (held c.loop-i.turns (name_text area.name)) + 1 =
    c.in_ok-turn.ensures.turn ∙ ap (λ (n : List ℕ). turn_in (held c.loop-i.turns n) + 1) text in
    let next : held c.next_turn.new.turns ≡ with_value (held c.loop-i.turns) (name_text area.name) c.in_ok-turn.turn =
    c.in_ok-turn.ensures.counted ∙ ap (λ (n : List ℕ). with_value (held c.loop-i.turns) n c.in_ok-turn.turn) text in
    let counted : c.in_ok-turn.turn ≡ count_named (name_text area.name) (take i areas) + 1 =
    turn ∙ ap (λ (n : ℕ). n + 1) (c.loop-i.invariant.turns (name_text area.name)) in
    let front : take (i + 1) areas ≡ take i areas ++ area ∷ [] = take_one areas i area low is in
    record {
      names = ap (λ (names : List AreaName). names ++ names_after c.args.program.now (take (i + 1) areas) (drop (i + 1) areas))
          (c.in_ok-push.ensures.ok ∙ ap (λ (name : AreaName). c.loop-i.names ++ name ∷ []) c.in_ok-name.ensures)
          ∙ ap (λ (before : List Area). (c.loop-i.names ++ record { program = c.args.program.now; name = name_text area.name; turn = c.in_ok-turn.turn } ∷ []) ++ names_after c.args.program.now before (drop (i + 1) areas)) front
          ∙ names_more c.args.program.now areas i area c.in_ok-turn.turn c.loop-i.names _ low is counted c.loop-i.invariant.names;
      turns = λ name. turns_more (held c.loop-i.turns) (take i areas) area c.in_ok-turn.turn c.loop-i.invariant.turns turn (held c.next_turn.new.turns) next name
          ∙ ap (λ (before : List Area). count_named name before) (sym front);
    }

pub returns : goal.returns
returns c =
    let end : drop c.loop-i.i c.args.areas.now ≡ [] = drop_all c.loop-i.i c.args.areas.now c.loop-i-test.false in
    sym (append-nil c.loop-i.names)
    ∙ ap (λ (left : List Area). c.loop-i.names ++ names_after c.args.program.now (take c.loop-i.i c.args.areas.now) left) (sym end)
    ∙ c.loop-i.invariant.names
