use Rattle.std.specs.Prelude.{List, [], ◌∷◌}
use Rattle.std.proofs.Common.{refl, ap}
use Rattle.pps_types.specs.Plan as planning
use Rattle.notify_box.specs.Standing.{Standing}
use Rattle.service_state.specs.Tables.{content_in}
use Rattle.service_state.proofs.Ties.{Step, both_stepped, moved_from}
use Rattle.service_state.specs.contracts.tables.Tables.{the_view}
use Rattle.service_state.proofs.Waits.{caught_aside}
use Rattle.service_state.proofs.tables.Tables.catch_up.Goals as goal

step : (c : goal.After-catch_up) → Step (planning.CatchesUp c.args.handle ∷ []) (the_view c.self.inside) (record (the_view c.self.inside) { handles = c.catch_up.new.self; connections = c.self.inside.connections })
step c =
    both_stepped c.connections_are_found.ensures (planning.CatchesUp c.args.handle ∷ []) (the_view c.self.inside) (c.catch_up.new.self) (c.self.inside.connections) (λ (xs : List Standing). xs) c.self.invariant
    (caught_aside (content_in (the_view c.self.inside)) c.args.handle) (c.catch_up.ensures.handles) (c.catch_up.ensures.sites) (ap (λ r. r.next) c.catch_up.ensures.rows) (refl) (c.connections_are_told.ensures.kept (content_in (the_view c.self.inside)) (planning.CatchesUp c.args.handle ∷ []) refl) (c.self.invariant.rise)

pub invariant_of-self : goal.invariant_of-self
invariant_of-self c = (step c).tied

pub returns : goal.returns
returns c = moved_from (planning.CatchesUp c.args.handle ∷ []) (the_view c.self.inside) (record (the_view c.self.inside) { handles = c.catch_up.new.self; connections = c.self.inside.connections }) c.args.self.now c.self.view_is (step c)
