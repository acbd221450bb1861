use Rattle.std.proofs.Common.{rules}
use Rattle.std.proofs.lemmas.List.Sorted.{answers_always}
use Rattle.pps_types.proofs.RisingPlaces.{searched}
use Rattle.notify_box.specs.Standing.{number_of}
use Rattle.notify_box.proofs.attached.search_by_order.Goals as goal

-- the closure gives a connection's number
pub returns : goal.returns
returns c =
    let facts = c.binary_search_by_key.ensures in
    let by_key = rw c.number.ensures.same at (facts.position number_of (answers_always _ _ _ (λ f a r h called. search rules))) in
    let found = searched number_of c.args.attached.now c.requires c.args.conn c.binary_search_by_key.result facts.bound by_key in
    record { found = found.found; absent = found.absent; place = found.place; gap = found.gap }
