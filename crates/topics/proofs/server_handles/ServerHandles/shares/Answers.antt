use Rattle.std.proofs.Common.{◌≡◌, ◌∙◌, [], ◌∷◌, length, ap, subst}
use Rattle.std.specs.Prelude.{IfOk, filter, slice_range}
use Rattle.pps_types.specs.Reading.{OpenHandle, visible}
use Rattle.pps_types.specs.Rests.{Progress}
use Rattle.sub_reader.specs.Rows.{rows_in, rows_of}
use Rattle.topics.specs.QueueRows.{IsQueued, sees}
use Rattle.topics.specs.Spans.{IsSpan, IsUnseen}
use Rattle.topics.proofs.Offering.{count-handles, each-queued}
use Rattle.topics.proofs.Spans.{all-within, seers-within}
use Rattle.topics.proofs.server_handles.ServerHandles.shares.Goals as goal

pub within-slots-requires-clause-bound : goal.within-slots-requires-clause-bound
within-slots-requires-clause-bound c = rw c.slots.ensures (c.find_span-span.ensures c.self.inside.object).bound

pub within-slots-requires-clause-order : goal.within-slots-requires-clause-order
within-slots-requires-clause-order c = (c.find_span-span.ensures c.self.inside.object).order

pub count_seers-count-requires : goal.count_seers-count-requires
count_seers-count-requires c =
    let s = c.self.inside in
    let span = c.find_span-span.result in
    rw (c.within-slots.ensures, c.slots.ensures) (all-within IsQueued span.from span.to s.rows.slots (each-queued s.object (rows_of s.rows) c.self.invariant.each))

pub returns : goal.returns
returns c =
    let s = c.self.inside in
    let e = c.args.entry in
    let span = c.find_span-span.result in
    let covers : IsSpan (IsUnseen s.object (e ∷ [])) span.from span.to s.rows.slots = subst (λ es. IsSpan (IsUnseen s.object es) span.from span.to s.rows.slots) c.from_ref.ensures.value (c.find_span-span.ensures s.object) in
    let within = seers-within s.object e span.from span.to s.rows.slots (each-queued s.object (rows_of s.rows) c.self.invariant.each) covers in
    let count : c.count_seers-count.result ≡ length (filter (λ (h : OpenHandle Progress). visible h e) c.args.self.now.handles) =
    c.count_seers-count.ensures
    ∙ (λ j. length (filter (sees (c.number.ensures.same j) e) (rows_in (c.within-slots.ensures j))))
    ∙ (λ j. length (filter (sees s.object e) (rows_in (slice_range (c.slots.ensures j) span.from span.to))))
    ∙ ap length within
    ∙ count-handles s.object s.name e (rows_of s.rows) ∙ ap (λ v. length (filter (λ (h : OpenHandle Progress). visible h e) v.handles)) c.self.view_is in
    subst (λ n. IfOk c.new.result (λ shares. shares ≡ record { entry = e; count = n })) count c.new.ensures
