use Rattle.std.proofs.Common.{sym, ap, subst, ◌∙◌}
use Rattle.pps_types.specs.Image.{read_image}
use Rattle.image_laws.specs.Restored.{AreSavedAlike}
use Rattle.pps_persist.proofs.again.loaded_is_saved_alike.Goals as goal

pub returns : goal.returns
returns c from to h is =
    let saved = c.args.saved.now.content in
    subst (AreSavedAlike saved) (sym h.loaded.stands.same)
    (c.read_is_saved_alike.ensures saved c.can_be_saved.ensures.read h.loaded.image (ap read_image (sym is) ∙ h.loaded.read))
