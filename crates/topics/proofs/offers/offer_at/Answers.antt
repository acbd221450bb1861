use Rattle.std.proofs.Common.{◌≡◌, ◌∙◌, true, false, sym, ap, subst, arith}
use Rattle.pps_types.specs.History.{Entry}
use Rattle.server_queue.specs.Queued.{Queued}
use Rattle.sub_reader.specs.Rows.{row_at, with_progress}
use Rattle.topics.specs.QueueRows.{IsQueued, sees}
use Rattle.topics.specs.Offers.{Gets, IsOffered}
use Rattle.topics.proofs.Offering.{count-nowhere, unseen-offered, seen-offered}
use Rattle.topics.proofs.Moves.{progress-is}
use Rattle.topics.proofs.Walks.{some-all, goes-nowhere, goes-same, goes-changed}
use Rattle.topics.proofs.offers.offer_at.Goals as goal

pub returns-in_default-clause-slots : goal.returns-in_default-clause-slots
returns-in_default-clause-slots c = goes-nowhere (IsOffered c.args.object c.args.shares.now.entry) c.args.place c.args.rows.now.slots c.requires.place (sym c.in_default.ensures.row)

pub returns-in_default-clause-count : goal.returns-in_default-clause-count
returns-in_default-clause-count c = omega (arith, count-nowhere c.args.object c.args.shares.now.entry (row_at c.args.place c.args.rows.now.slots) (sym c.in_default.ensures.row))

pub is_given-requires : goal.is_given-requires
is_given-requires c = some-all IsQueued (row_at c.args.place c.args.rows.now.slots) c.in-Some.row.now c.in-Some.ensures.row c.requires.queue

pub returns-then-not-is_given-clause-slots : goal.returns-then-not-is_given-clause-slots
returns-then-not-is_given-clause-slots c =
    let e = c.args.shares.now.entry in
    let x = c.in-Some.row.now in
    let unseen : sees c.args.object e x ≡ false = ap (λ (y : Entry). sees c.args.object y x) (sym c.entry.ensures) ∙ sym c.is_given.ensures ∙ c.if-not-is_given.true in
    goes-same (IsOffered c.args.object e) c.args.place c.args.rows.now.slots x c.in-Some.ensures.row (unseen-offered c.args.object e x unseen)

pub returns-clause-slots : goal.returns-clause-slots
returns-clause-slots c =
    let e = c.args.shares.now.entry in
    let ss = c.args.rows.now.slots in
    let x = c.in-Some.row.now in
    let q = c.progress_mut.result.now in
    let w = c.push_share.new.queue in
    let seen : sees c.args.object e x ≡ true = ap (λ (y : Entry). sees c.args.object y x) (sym c.entry.ensures) ∙ sym c.is_given.ensures ∙ c.if-not-is_given.false in
    let same : q ≡ x.progress = sym (progress-is (row_at c.args.place ss) x q c.in-Some.ensures.row c.progress_mut.ensures.value) in
    goes-changed (IsOffered c.args.object e) c.args.place ss (with_progress w) x c.in-Some.ensures.row
    (seen-offered c.args.object e x w seen (subst (λ (z : Queued). Gets e z w) same c.push_share.ensures.queue))
