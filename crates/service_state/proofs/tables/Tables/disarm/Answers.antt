use Rattle.std.specs.Prelude.{[], ◌∷◌, None}
use Rattle.std.proofs.Common.{refl, sym, ap, subst}
use Rattle.pps_types.specs.Plan as planning
use Rattle.pps_types.specs.Content.{own_handle}
use Rattle.notify_box.specs.Standing.{with_outbox}
use Rattle.pps_types.specs.Outbox.{disarmed}
use Rattle.service_state.specs.Tables.{content_in}
use Rattle.service_state.proofs.Ties.{Step, both_stepped, moved_from}
use Rattle.service_state.specs.contracts.tables.Tables.{the_view}
use Rattle.service_state.proofs.Waits.{armed_aside, some_known}
use Rattle.std.specs.Prelude.{IsSome}
use Rattle.service_state.proofs.tables.Tables.disarm.Goals as goal

step : (c : goal.After-disarm) → Step (planning.Arms c.args.handle None ∷ []) (the_view c.self.inside) (record (the_view c.self.inside) { handles = c.arm.new.self; connections = c.disarm.new.self })
step c =
    let known = some_known (own_handle (content_in (the_view c.self.inside)) c.args.conn c.args.handle) (subst (λ t. IsSome (own_handle (content_in t) c.args.conn c.args.handle)) (sym c.self.view_is) c.requires) in
    both_stepped c.connections_are_found.ensures (planning.Arms c.args.handle None ∷ []) (the_view c.self.inside) (c.arm.new.self) (c.disarm.new.self) (with_outbox c.args.conn (λ box. disarmed box c.args.handle)) c.self.invariant
    (armed_aside (content_in (the_view c.self.inside)) c.args.handle None) (c.arm.ensures.handles) (c.arm.ensures.sites) (ap (λ r. r.next) c.arm.ensures.rows) (c.disarm.ensures.standing) (c.connections_are_told.ensures.disarmed (content_in (the_view c.self.inside)) c.handles_are_placed.ensures.rise c.self.invariant.rise c.args.conn c.args.handle known.0 known.1.0) (c.premises_stay.ensures.connections (content_in (the_view c.self.inside)) (planning.Arms c.args.handle None ∷ []) c.self.invariant.rise refl)

pub invariant_of-self : goal.invariant_of-self
invariant_of-self c = (step c).tied

pub returns : goal.returns
returns c = moved_from (planning.Arms c.args.handle None ∷ []) (the_view c.self.inside) (record (the_view c.self.inside) { handles = c.arm.new.self; connections = c.disarm.new.self }) c.args.self.now c.self.view_is (step c)
