use Rattle.std.proofs.Common.{◌∙◌, ap}
use Rattle.object_state.specs.Effect.{noted_in}
use Rattle.object_state.proofs.ByOrder.{noted_by_order}
use Rattle.object_state.proofs.noted.Noted.get.Goals as goal

pub returns : goal.returns
returns g c =
    let name = c.args.name.now in
    c.get.ensures.value ∙ noted_by_order c.self.inside.by_name.entries name ∙ ap (λ notes. noted_in notes name) c.self.view_is
