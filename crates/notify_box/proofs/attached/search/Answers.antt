use Rattle.std.proofs.Common.{◌≡◌, ◌<◌, ◌∙◌, length, ap, sym, rules}
use Rattle.std.proofs.lemmas.List.{get_or_default}
use Rattle.pps_types.proofs.RisingPlaces.{place_found}
use Rattle.notify_box.specs.Standing.{number_of}
use Rattle.notify_box.proofs.attached.search.Goals as goal

-- the connection at the place that was looked at has that number
pub returns-then-eq-clause-found : goal.returns-then-eq-clause-found
returns-then-eq-clause-found c =
    let there = c.index-attached-place in
    let within : c.saturating_sub-place.result < length c.args.attached.now = search (rules, c.if-place-attached.true) in
    let numbered : number_of there.result ≡ c.args.conn = search (rules, c.there.view_is, c.eq.ensures, c.if-eq.true) in
    place_found number_of c.args.attached.now c.args.conn c.saturating_sub-place.result c.requires within
    (λ d. ap number_of (get_or_default c.args.attached.now c.saturating_sub-place.result d there.result within ∙ sym there.is) ∙ numbered)
