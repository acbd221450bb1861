use Rattle.std.proofs.Common.{◌≡◌, ap, subst, ◌∙◌}
use Rattle.std.specs.Prelude.{IfOk, filter, map, slice_range}
use Rattle.sub_reader.specs.Rows.{number_in, rows_in, rows_of}
use Rattle.sub_reader.specs.Woken.{woken_by}
use Rattle.topics.specs.QueueRows.{IsQueued}
use Rattle.topics.specs.Woken.{wakes_at}
use Rattle.topics.proofs.Offering.{each-queued}
use Rattle.topics.proofs.Spans.{all-within, woken-within}
use Rattle.topics.proofs.Waking.{woken-rows}
use Rattle.topics.proofs.server_handles.ServerHandles.woken_by.Goals as goal

pub within-slots-requires-clause-bound : goal.within-slots-requires-clause-bound
within-slots-requires-clause-bound c = rw c.slots.ensures (c.find_span-span.ensures c.self.inside.object).bound

pub within-slots-requires-clause-order : goal.within-slots-requires-clause-order
within-slots-requires-clause-order c = (c.find_span-span.ensures c.self.inside.object).order

pub find_woken-requires : goal.find_woken-requires
find_woken-requires c =
    let s = c.self.inside in
    let span = c.find_span-span.result in
    rw (c.within-slots.ensures, c.slots.ensures) (all-within IsQueued span.from span.to s.rows.slots (each-queued s.object (rows_of s.rows) c.self.invariant.each))

pub returns : goal.returns
returns c =
    let s = c.self.inside in
    let es = c.args.entries.now in
    let span = c.find_span-span.result in
    let within = woken-within s.object es span.from span.to s.rows.slots (each-queued s.object (rows_of s.rows) c.self.invariant.each) (c.find_span-span.ensures s.object) in
    subst (λ numbers. IfOk c.find_woken.result (λ woken. woken.items ≡ numbers))
    ((λ j. map number_in (filter (wakes_at (c.number.ensures.same j) es) (rows_in (c.within-slots.ensures j))))
    ∙ (λ j. map number_in (filter (wakes_at s.object es) (rows_in (slice_range (c.slots.ensures j) span.from span.to))))
    ∙ ap (map number_in) within
    ∙ woken-rows s.object s.name es (rows_of s.rows)
    ∙ ap (λ v. woken_by es v.handles) c.self.view_is)
    c.find_woken.ensures
