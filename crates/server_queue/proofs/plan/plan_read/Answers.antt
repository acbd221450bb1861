use Rattle.std.proofs.Common.{◌++◌, subst, arith}
use Rattle.server_queue.specs.Blocks.{queue_blocks}
use Rattle.server_queue.specs.Given.{GivesIfItFits}
use Rattle.server_queue.specs.Shown.{printed_as}
use Rattle.server_queue.proofs.Fits.{given_more, queue-runs}
use Rattle.server_queue.proofs.plan.plan_read.Goals as goal

pub places-preserved : goal.places-preserved
places-preserved c =
    let entries = c.args.owed.now.items ++ c.args.extra.now in
    let shown = c.in_queue-shown.result in
    let text = printed_as c.entry_at-entry.result.now.name shown in
    let runs = queue-runs c.args.max (queue_blocks entries) entries c.places.place c.entry_at-entry.result.now text c.places.run c.entry_at-entry.ensures c.in_queue-shown.ensures c.places.invariant.runs in
    let gives = subst (GivesIfItFits text c.places.run c.put.new.self) c.if-not-branch.false c.in_ok-put.ensures.ok in
    record {
      few = omega (arith, gives.count, c.places.invariant.few);
      runs = given_more c.args.max (queue_blocks entries) _ _ c.places.run runs c.put.new.self gives;
    }
