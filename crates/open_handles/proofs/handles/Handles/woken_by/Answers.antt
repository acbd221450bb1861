use Rattle.std.proofs.Common.{take, sym, ap, ◌∙◌}
use Rattle.std.proofs.lemmas.List.{take_all}
use Rattle.sub_reader.specs.Woken.{woken_by}
use Rattle.open_handles.specs.Whole.{handles_in}
use Rattle.open_handles.specs.United.{united}
use Rattle.open_handles.proofs.Finds.{is_rising}
use Rattle.open_handles.proofs.Wakes.{woken_none, woken_more, more_taken}
use Rattle.open_handles.proofs.handles.Handles.woken_by.Goals as goal

pub loop-entry-init : goal.loop-entry-init
loop-entry-init c = c.new-woken.ensures.items ∙ sym (woken_none (handles_in c.args.self.now))

pub loop-entry-preserved : goal.loop-entry-preserved
loop-entry-preserved c =
    c.in_ok-woken.ensures
    ∙ (λ i. united (c.loop-entry.invariant i) (c.in_ok-more.ensures i))
    ∙ woken_more (handles_in c.args.self.now) (is_rising 0 c.args.self.now.rows.next (handles_in c.args.self.now) c.handles_are_placed.ensures.rise) (take c.loop-entry.entry-index c.args.entries.now) c.entry-item.result
    ∙ ap (λ es. woken_by es (handles_in c.args.self.now)) (more_taken c.args.entries.now c.loop-entry.entry-index c.entry-item.result c.loop-entry-test.true c.entry-item.is)

pub returns : goal.returns
returns c = c.loop-entry.invariant ∙ ap (λ es. woken_by es (handles_in c.args.self.now)) (take_all c.loop-entry.entry-index c.args.entries.now c.loop-entry-test.false)
