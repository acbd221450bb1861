use Rattle.std.specs.Prelude.{List, [], ◌∷◌}
use Rattle.std.proofs.Common.{refl, ap}
use Rattle.pps_types.specs.Plan as planning
use Rattle.notify_box.specs.Standing.{Standing}
use Rattle.service_state.specs.Tables.{content_in}
use Rattle.service_state.proofs.Ties.{Step, both_stepped, moved_from}
use Rattle.service_state.specs.contracts.tables.Tables.{the_view}
use Rattle.service_state.proofs.Waits.{passed_aside}
use Rattle.service_state.proofs.tables.Tables.pass.Goals as goal

step : (c : goal.After-pass) → Step (planning.Advances c.args.handle c.args.count ∷ []) (the_view c.self.inside) (record (the_view c.self.inside) { handles = c.pass.new.self; connections = c.self.inside.connections })
step c =
    both_stepped c.connections_are_found.ensures (planning.Advances c.args.handle c.args.count ∷ []) (the_view c.self.inside) (c.pass.new.self) (c.self.inside.connections) (λ (xs : List Standing). xs) c.self.invariant
    (passed_aside (content_in (the_view c.self.inside)) c.args.handle c.args.count) (c.pass.ensures.handles) (c.pass.ensures.sites) (ap (λ r. r.next) c.pass.ensures.rows) (refl) (c.connections_are_told.ensures.kept (content_in (the_view c.self.inside)) (planning.Advances c.args.handle c.args.count ∷ []) refl) (c.self.invariant.rise)

pub invariant_of-self : goal.invariant_of-self
invariant_of-self c = (step c).tied

pub returns : goal.returns
returns c = moved_from (planning.Advances c.args.handle c.args.count ∷ []) (the_view c.self.inside) (record (the_view c.self.inside) { handles = c.pass.new.self; connections = c.self.inside.connections }) c.args.self.now c.self.view_is (step c)
