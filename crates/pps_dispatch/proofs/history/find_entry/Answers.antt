use Rattle.std.proofs.Common.{refl, ◌∙◌, ap}
use Rattle.pps_dispatch.proofs.Searching.{finds_each-entry, found_entry}
use Rattle.pps_dispatch.proofs.history.find_entry.Goals as goal

pub returns : goal.returns
returns c =
    let next = c.in_ok-next.ensures in
    finds_each-entry c.args.asked.now c.args.answered.now c.args.found.now _ c.args.place.segment c.args.place.index c.in-Some.number
    c.index-asked-number.result c.index-answered-number.result _ c.in_ok-next.next c.args.entry.now
    c.requires.distinct c.requires.answered c.requires.found c.in-Some.ensures.bound c.index-asked-number.is c.index-answered-number.is
    (λ d. c.in-Some.ensures.own d ∙ ap (λ e. e.conn) c.event.ensures) refl (found_entry _ _ _ _ _ _ refl next.events next.receipts)
