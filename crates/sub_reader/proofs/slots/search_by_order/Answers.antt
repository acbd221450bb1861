use Rattle.std.proofs.Common.{rules}
use Rattle.std.proofs.lemmas.List.Sorted.{answers_always}
use Rattle.pps_types.proofs.RisingPlaces.{searched}
use Rattle.sub_reader.specs.Rows.{number_at}
use Rattle.sub_reader.proofs.slots.search_by_order.Goals as goal

-- the closure gives a slot's number
pub returns : goal.returns
returns g c =
    let facts = c.binary_search_by_key.ensures in
    let by_key = facts.position number_at (answers_always _ _ _ (λ f a r h called. search rules)) in
    let found = searched number_at c.args.slots.now c.requires c.args.number c.binary_search_by_key.result facts.bound by_key in
    record { found = found.found; absent = found.absent; place = found.place }
