use Rattle.std.proofs.Common.{◌≤◌, length, sym, subst}
use Rattle.topics.specs.HandlesOf.{IsReady}
use Rattle.topics.specs.Standing.{IsReady as IsServiceReady}
use Rattle.topics.proofs.topic.Topic.reserve_handle.Goals as goal

pub returns-in-Readers-clause-room : goal.returns-in-Readers-clause-room
returns-in-Readers-clause-room c = λ entries ready.
    let placed : length entries ≤ c.in-Readers.target.value.room = subst (IsReady entries) c.in-Readers.is (c.place.ensures.room entries ready) in
    subst (λ t. length entries ≤ t.room) (sym c.reserve_handle.ensures.same) (subst (λ t. length entries ≤ t.room) (sym c.deref_mut.ensures.value) placed)

pub returns-in-Served-clause-room : goal.returns-in-Served-clause-room
returns-in-Served-clause-room c = λ entries ready.
    let placed : IsServiceReady entries c.in-Served.service.value = subst (IsReady entries) c.in-Served.is (c.place.ensures.room entries ready) in
    subst (IsServiceReady entries) (sym c.reserve_handle-in-Served.ensures.same) (subst (IsServiceReady entries) (sym c.deref_mut-in-Served.ensures.value) placed)
