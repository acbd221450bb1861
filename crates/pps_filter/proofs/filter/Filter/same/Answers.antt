use Rattle.std.proofs.Common.{◌∙◌, sym, ap}
use Rattle.pps_filter.specs.Seen.{parts_seen}
use Rattle.pps_filter.proofs.Seen.{parts_seen-injective}
use Rattle.pps_filter.proofs.filter.Filter.same.Goals as goal

pub returns : goal.returns
returns c =
    let own = c.as_slice.ensures.value in
    let others = c.as_slice-2.ensures.value in (
      λ same. sym c.self.view_is ∙ ap parts_seen (sym own ∙ c.are_same.ensures.0 same ∙ others) ∙ c.other.view_is,
      λ same. c.are_same.ensures.1 (own ∙ parts_seen-injective _ _ (c.self.view_is ∙ same ∙ sym c.other.view_is) ∙ sym others),
    )
