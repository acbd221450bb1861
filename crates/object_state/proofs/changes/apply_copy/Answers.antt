use Rattle.std.proofs.Common.{◌∙◌, sym, ap}
use Rattle.std.proofs.lemmas.Bool.{and_parts}
use Rattle.pps_types.specs.AttributeContent.{content_text}
use Rattle.pps_types.specs.HeldBytes.{is_short}
use Rattle.pps_types.specs.LentLine.{lent_line}
use Rattle.object_state.specs.Short.{is_short_line}
use Rattle.object_state.proofs.changes.apply_copy.Goals as goal

pub short_copy-requires : goal.short_copy-requires
short_copy-requires c =
    let is = sym (ap lent_line c.in-Set.is) ∙ c.parts.ensures in
    (and_parts (is_short c.in-Set.name.now) (is_short (content_text c.in-Set.content)) (ap is_short_line is ∙ c.requires.short)).1
