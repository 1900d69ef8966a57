use Rattle.std.proofs.Common.{rules, ◌≡◌, ◌+◌, ◌++◌, [], ◌∷◌, map, None, Some, arith, sym, ◌∙◌}
use Rattle.fixed_format.specs.Columns.{line_of}
use Rattle.fixed_format.specs.Shown.{text_lines}
use Rattle.source_edit.specs.Changes.{changed}
use Rattle.source_edit.specs.Rows.{placed, on_line, behind_line}
use Rattle.source_edit.proofs.ByNumber.{empty_by, next_rows, next_left, last_rows, last_left}
use Rattle.source_edit.proofs.row.rows_of.Goals as goal

pub loop-line-preserved : goal.loop-line-preserved
loop-line-preserved c =
    let before = c.loop-line in
    let at : line_of (text_lines c.args.lines.now) before.number ≡ Some c.in-Some.line.now = search rules in
    let own : c.in_ok-words.words ≡ map (placed (changed c.args.changes.now)) (on_line before.number before.rest.now) = c.in_ok-words.ensures.own in
    let more : c.in_ok-words.more.now ≡ behind_line before.number before.rest.now = c.in_ok-words.ensures.rest in
    let pushed : c.push.new.self ≡ before.rows ++ record { line = c.in-Some.line.now; words = c.in_ok-words.words } ∷ [] = search rules in
    let one : c.in_ok-number.number ≡ before.number + 1 = c.in_ok-number.ensures in (
      next_rows _ (text_lines c.args.lines.now) before.rest.now _ before.rows _ _ before.number _ c.in-Some.line.now _ before.invariant.0 before.invariant.2 at own more pushed one,
      next_left (text_lines c.args.lines.now) before.rest.now _ _ before.number _ c.in-Some.line.now before.invariant.1 before.invariant.2 at more one,
      omega (arith, one),
    )

pub returns-then-is_empty : goal.returns-then-is_empty
returns-then-is_empty c =
    let before = c.loop-line in
    let none : line_of (text_lines c.args.lines.now) before.number ≡ None = search rules in
    let empty : before.rest.now ≡ [] = empty_by before.rest.now (sym c.is_empty.ensures ∙ c.if-is_empty.true) in (
      last_rows _ (text_lines c.args.lines.now) before.rest.now before.rows _ before.number before.invariant.0 before.invariant.2 none,
      last_left (text_lines c.args.lines.now) before.rest.now _ before.number before.invariant.1 before.invariant.2 none empty,
    )
