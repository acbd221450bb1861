use Rattle.std.proofs.Common.{List, ℕ, subst, ◌∙◌}
use Rattle.pps_types.specs.Device.{device_inner}
use Rattle.pps_types.specs.Image.{Saved, image_text, saved}
use Rattle.pps_persist.specs.Sent.{Saves}
use Rattle.pps_persist.proofs.saving.save.Goals as goal

pub returns-in-Ok-clause-saves : goal.returns-in-Ok-clause-saves
returns-in-Ok-clause-saves g c =
    let contents = g.W.Write.contents in
    let before = contents (device_inner c.args.device.now) in
    let after = contents (device_inner c.save_entries.new.device) in
    let content = c.args.engine.now.content in
    subst (λ (d : ℕ). Saves before after (image_text d (saved content)) c.save_entries.result) c.limit.ensures
    (subst (λ (es : List Saved). Saves before after (image_text c.limit.result es) c.save_entries.result) (c.deref.ensures.value ∙ c.in-Ok.ensures.saved) c.save_entries.ensures.saves)
