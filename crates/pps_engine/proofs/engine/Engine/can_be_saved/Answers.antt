use Rattle.std.proofs.Common.{subst}
use Rattle.image_laws.specs.Laws.{IsReadAgain}
use Rattle.image_laws.specs.Savable.{CanBeSaved}
use Rattle.service_state.specs.Tables.{content_in}
use Rattle.pps_engine.specs.Serving.{Serving}
use Rattle.pps_engine.proofs.engine.Engine.can_be_saved.Goals as goal

pub returns-clause-can : goal.returns-clause-can
returns-clause-can c = subst (λ (s : Serving). CanBeSaved s.content) c.self.view_is c.self.invariant.0.can

pub returns-clause-read : goal.returns-clause-read
returns-clause-read c =
    let sound = c.self.invariant.0 in
    subst (λ (s : Serving). IsReadAgain s.content.default_limit s.content) c.self.view_is
    (c.saved_is_read_again.ensures (content_in c.self.inside.tables.value) sound.formed sound.bound sound.can)
