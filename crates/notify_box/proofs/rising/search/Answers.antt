use Rattle.std.proofs.Common.{rules}
use Rattle.std.proofs.lemmas.List.Sorted.{answers_always}
use Rattle.pps_types.proofs.RisingPlaces.{searched}
use Rattle.notify_box.proofs.rising.search.Goals as goal

-- the closure gives an entry's number
pub returns : goal.returns
returns g c =
    let facts = c.binary_search_by_key.ensures in
    let by_key = facts.position g.T.Numbered.number_of (answers_always _ _ _ (λ f a r h called. search rules)) in
    let found = searched g.T.Numbered.number_of c.args.entries.now c.requires c.args.number c.binary_search_by_key.result facts.bound by_key in
    record { found = found.found; absent = found.absent; place = found.place; gap = found.gap }
