use Rattle.std.proofs.Common.{arith, ◌∙◌, inr, sym}
use Rattle.attr_text.proofs.Reading.{some-bytes, no-bytes, lines_of-parts, behind-shorter, write_lines-skip, write_lines-push, write_lines-bad}
use Rattle.attr_text.proofs.read.read_lines.Goals as goal
use Rattle.attr_text.proofs.read.read_lines.Goals.{then-not-is_empty+in_ok-read+in-Some+in_ok-push, else-not-is_empty}

pub returns-in_default-clause-err : goal.returns-in_default-clause-err
returns-in_default-clause-err c =
    let first = lines_of-parts c.loop-rest.rest.now c.first_line.result.0.now c.first_line.result.1.now (some-bytes _ c.loop-rest-test.ensures) c.first_line.ensures in
    inr (write_lines-bad c.loop-rest.number c.loop-rest.lines.items c.loop-rest.rest.now c.first_line.result.0.now c.first_line.result.1.now _
    c.loop-rest.invariant.0 first (some-bytes _ c.if-not-is_empty.ensures) (sym c.in_ok-read.ensures ∙ c.in_default.is))

pub loop-rest-smaller : goal.loop-rest-smaller
loop-rest-smaller c = behind-shorter _ _ _ (some-bytes _ c.loop-rest-test.ensures) c.first_line.ensures

pub loop-rest-preserved : goal.loop-rest-preserved
loop-rest-preserved c =
    let some = some-bytes c.loop-rest.rest.now c.loop-rest-test.ensures in
    let first = lines_of-parts c.loop-rest.rest.now c.first_line.result.0.now c.first_line.result.1.now some c.first_line.ensures in
    let shorter = behind-shorter c.loop-rest.rest.now c.first_line.result.0.now c.first_line.result.1.now some c.first_line.ensures in
    elim c.if-not-is_empty.branch [
      | then-not-is_empty+in_ok-read+in-Some+in_ok-push w ↦ (
        rw (w.lines-is, w.in_ok-push.ensures.items)
            (write_lines-push c.loop-rest.number c.loop-rest.lines.items c.loop-rest.rest.now c.first_line.result.0.now c.first_line.result.1.now _ w.in-Some.read
            c.loop-rest.invariant.0 first (some-bytes _ w.if-not-is_empty.ensures) (sym w.in_ok-read.ensures ∙ w.in-Some.is)),
        omega (arith, c.loop-rest.invariant.1),
      )
      | else-not-is_empty w ↦ (
        rw w.lines-is
            (write_lines-skip c.loop-rest.number c.loop-rest.lines.items c.loop-rest.rest.now c.first_line.result.0.now c.first_line.result.1.now _
            c.loop-rest.invariant.0 first (no-bytes _ w.if-not-is_empty.ensures)),
        omega (arith, c.loop-rest.invariant.1),
      )
    ]
