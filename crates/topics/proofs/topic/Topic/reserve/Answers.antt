use Rattle.std.proofs.Common.{◌≤◌, length, sym, subst, le_trans}
use Rattle.topics.specs.HandlesOf.{IsReady}
use Rattle.topics.specs.Standing.{IsReady as IsServiceReady}
use Rattle.topics.proofs.Shared.{succeeds}
use Rattle.topics.proofs.topic.Topic.reserve.Goals as goal

pub returns-in-Readers-clause-room : goal.returns-in-Readers-clause-room
returns-in-Readers-clause-room c = λ entries ready.
    let placed : length entries ≤ c.in-Readers.target.value.room = subst (IsReady entries) c.in-Readers.is (c.place.ensures.room entries ready) in
    le_trans placed (subst (λ t. t.room ≤ c.reserve.new.self.room) c.deref_mut.ensures.value c.reserve.ensures.kept)

pub returns-in-Readers-clause-succeeds : goal.returns-in-Readers-clause-succeeds
returns-in-Readers-clause-succeeds c = λ ready.
    let placed : length c.args.entries.now ≤ c.in-Readers.target.value.room =
    subst (IsReady c.args.entries.now) c.in-Readers.is (c.place.ensures.room c.args.entries.now ready) in
    succeeds c.reserve.result c.reserve.ensures.lacking (subst (λ t. length c.args.entries.now ≤ t.room) (sym c.deref_mut.ensures.value) placed)

pub returns-in-Served-clause-room : goal.returns-in-Served-clause-room
returns-in-Served-clause-room c = λ entries ready.
    let placed : IsServiceReady entries c.in-Served.service.value = subst (IsReady entries) c.in-Served.is (c.place.ensures.room entries ready) in
    c.reserve-in-Served.ensures.kept entries (subst (IsServiceReady entries) (sym c.deref_mut-in-Served.ensures.value) placed)

pub returns-in-Served-clause-succeeds : goal.returns-in-Served-clause-succeeds
returns-in-Served-clause-succeeds c = λ ready.
    let placed : IsServiceReady c.args.entries.now c.in-Served.service.value =
    subst (IsReady c.args.entries.now) c.in-Served.is (c.place.ensures.room c.args.entries.now ready) in
    c.reserve-in-Served.ensures.succeeds (subst (IsServiceReady c.args.entries.now) (sym c.deref_mut-in-Served.ensures.value) placed)
