use Rattle.attr_text.proofs.Reading.{behind-shorter, some-bytes}
use Rattle.script_text.proofs.ValueLines.{shown-more}
use Rattle.script_text.proofs.shown.print_shown.Goals as goal

pub loop-rest-smaller : goal.loop-rest-smaller
loop-rest-smaller c = behind-shorter _ _ _ (some-bytes _ c.loop-rest-test.ensures) c.first_line.ensures

pub loop-rest-preserved : goal.loop-rest-preserved
loop-rest-preserved c =
    rw c.in_ok-push_shown.ensures (shown-more c.loop-rest.out.items c.loop-rest.rest.now c.first_line.result.0.now c.first_line.result.1.now _
    (some-bytes _ c.loop-rest-test.ensures) c.first_line.ensures c.loop-rest.invariant)
