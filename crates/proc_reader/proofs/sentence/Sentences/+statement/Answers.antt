use Rattle.std.proofs.Common.{◌+◌, length, sym, ap, ◌∙◌, arith}
use Rattle.proc_reader.specs.Reading.{spot, repeated}
use Rattle.proc_reader.specs.Evaluates.{more_groups, groups_turn, group}
use Rattle.proc_reader.specs.Sentences.{statements, inside, more_statements, statements_turn, statement_at}
use Rattle.proc_reader.specs.View.{source_of}
use Rattle.proc_reader.proofs.Repeats.{turn_over, turn_goes_on, turn_unread, turns_past}
use Rattle.proc_reader.proofs.TurnLaws.{handed_on, groups_over, groups_on, groups_unread, statements_over, statements_on, statements_unread}
use Rattle.proc_reader.proofs.sentence.Sentences.+statement.Goals as goal

pub more_groups-returns-in-None-clause-read : goal.more_groups-returns-in-None-clause-read
more_groups-returns-in-None-clause-read t c =
    let s = source_of c.args.self.now in
    let lists = statements s c.args.level in
    turn_over (groups_turn s c.args.level lists c.args.subject.now) (length c.args.self.now.parts.kinds.now + 1) c.loop-turn._turn c.loop-turn.groups c.loop-turn.spot
    c.loop-turn.invariant (omega arith)
    (groups_over s c.args.level lists c.args.subject.now c.loop-turn.groups c.loop-turn.spot (sym c.in_ok-heads.ensures ∙ c.in-None.is))

pub more_groups-returns-in_err-group-in-Some-clause-unread : goal.more_groups-returns-in_err-group-in-Some-clause-unread
more_groups-returns-in_err-group-in-Some-clause-unread t c =
    let s = source_of c.args.self.now in
    let lists = statements s c.args.level in
    let at = c.loop-turn.spot in
    handed_on (group s lists at.at c.in-Some.test (spot c.in-Some.body_at at.number)) (more_groups s c.args.level lists c.args.subject.now c.args.groups c.args.spot)
    c.from_residual-in_err-group-in-Some.result c.in_err-group-in-Some.field-0.0 c.from_residual-in_err-group-in-Some.ensures.1 c.in_err-group-in-Some.ensures.unread
    (λ none. turn_unread (groups_turn s c.args.level lists c.args.subject.now) (length c.args.self.now.parts.kinds.now + 1) c.loop-turn._turn c.loop-turn.groups at
    c.loop-turn.invariant (omega arith)
    (groups_unread s c.args.level lists c.args.subject.now c.loop-turn.groups at c.in-Some.test c.in-Some.body_at (sym c.in_ok-heads.ensures ∙ c.in-Some.is) none))

pub more_groups-loop-turn-preserved : goal.more_groups-loop-turn-preserved
more_groups-loop-turn-preserved t c =
    let s = source_of c.args.self.now in
    let lists = statements s c.args.level in
    let at = c.loop-turn.spot in
    rw c.in_ok-push-in-Some.ensures.ok
    (turn_goes_on (groups_turn s c.args.level lists c.args.subject.now) (length c.args.self.now.parts.kinds.now + 1) c.loop-turn._turn c.loop-turn.groups at _ c.in_ok-group-in-Some.next
    c.loop-turn.invariant (omega arith)
    (groups_on s c.args.level lists c.args.subject.now c.loop-turn.groups at c.in-Some.test c.in-Some.body_at c.in_ok-group-in-Some.group c.in_ok-group-in-Some.next
    (sym c.in_ok-heads.ensures ∙ c.in-Some.is) c.in_ok-group-in-Some.ensures.read))

pub more_groups-returns-clause-unread : goal.more_groups-returns-clause-unread
more_groups-returns-clause-unread t c =
    let s = source_of c.args.self.now in
    let lists = statements s c.args.level in
    turns_past (groups_turn s c.args.level lists c.args.subject.now) (length c.args.self.now.parts.kinds.now + 1) c.loop-turn._turn c.loop-turn.groups c.loop-turn.spot
    c.loop-turn.invariant (omega arith)

pub more_statements-returns-then-not-begins-clause-read : goal.more_statements-returns-then-not-begins-clause-read
more_statements-returns-then-not-begins-clause-read t c =
    let s = source_of c.args.self.now in
    let lists = inside s c.args.level in
    turn_over (statements_turn s c.args.level lists) (length c.args.self.now.parts.kinds.now + 1) c.loop-turn._turn c.loop-turn.list c.loop-turn.spot
    c.loop-turn.invariant (omega arith)
    (statements_over s c.args.level lists c.loop-turn.list c.loop-turn.spot (sym c.begins.ensures ∙ c.if-not-begins.true))

pub more_statements-returns-in_err-more-clause-unread : goal.more_statements-returns-in_err-more-clause-unread
more_statements-returns-in_err-more-clause-unread t c =
    let s = source_of c.args.self.now in
    let lists = inside s c.args.level in
    let at = c.loop-turn.spot in
    handed_on (statement_at s c.args.level lists at) (more_statements s c.args.level lists c.args.list c.args.spot)
    c.from_residual.result c.in_err-more.field-0.0 c.from_residual.ensures.1 c.in_err-more.ensures.unread
    (λ none. turn_unread (statements_turn s c.args.level lists) (length c.args.self.now.parts.kinds.now + 1) c.loop-turn._turn c.loop-turn.list at
    c.loop-turn.invariant (omega arith)
    (statements_unread s c.args.level lists c.loop-turn.list at (sym c.begins.ensures ∙ c.if-not-begins.false) none))

pub more_statements-loop-turn-preserved : goal.more_statements-loop-turn-preserved
more_statements-loop-turn-preserved t c =
    let s = source_of c.args.self.now in
    let lists = inside s c.args.level in
    let at = c.loop-turn.spot in
    rw c.in_ok-list.ensures
    (turn_goes_on (statements_turn s c.args.level lists) (length c.args.self.now.parts.kinds.now + 1) c.loop-turn._turn c.loop-turn.list at _ c.in_ok-more.next
    c.loop-turn.invariant (omega arith)
    (statements_on s c.args.level lists c.loop-turn.list at c.in_ok-more.more c.in_ok-more.next (sym c.begins.ensures ∙ c.if-not-begins.false) c.in_ok-more.ensures.read))

pub more_statements-returns-clause-unread : goal.more_statements-returns-clause-unread
more_statements-returns-clause-unread t c =
    let s = source_of c.args.self.now in
    let lists = inside s c.args.level in
    turns_past (statements_turn s c.args.level lists) (length c.args.self.now.parts.kinds.now + 1) c.loop-turn._turn c.loop-turn.list c.loop-turn.spot
    c.loop-turn.invariant (omega arith)
