use Rattle.std.proofs.Common.{◌≡◌, ◌∙◌, true, sym, ap}
use Rattle.std.specs.Prelude.{◌&&◌}
use Rattle.pps_types.specs.AttributeContent.{content_text}
use Rattle.pps_types.specs.HeldBytes.{is_short}
use Rattle.pps_types.specs.LentLine.{lent_line}
use Rattle.object_state.specs.Short.{is_short_line}
use Rattle.object_state.proofs.lines.is_short.Goals as goal

pub returns-then-fits_in_place : goal.returns-then-fits_in_place
returns-then-fits_in_place c =
    let is = sym (ap lent_line c.in-Set.is) ∙ c.parts.ensures in
    let short_name : is_short c.in-Set.name.now ≡ true = sym c.fits_in_place.ensures ∙ c.if-fits_in_place.true in
    c.fits_in_place-then-fits_in_place.ensures ∙ ap is_short c.text.ensures
    ∙ (λ i. sym short_name i && is_short (content_text c.in-Set.content))
    ∙ ap is_short_line is
