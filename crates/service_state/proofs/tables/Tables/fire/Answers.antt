use Rattle.std.specs.Prelude.{◌≡◌, Some, option_map}
use Rattle.std.proofs.Common.{refl, sym, ap, subst}
use Rattle.pps_types.specs.Reading.{OpenHandle}
use Rattle.pps_types.specs.Rests.{Progress}
use Rattle.pps_types.specs.Content.{own_handle}
use Rattle.notify_box.specs.Standing.{with_outbox}
use Rattle.pps_types.specs.Outbox.{fired_in}
use Rattle.service_state.specs.Tables.{content_in}
use Rattle.service_state.specs.Moves.{firing}
use Rattle.service_state.proofs.Ties.{Step, both_stepped, moved_from}
use Rattle.service_state.specs.contracts.tables.Tables.{the_view}
use Rattle.service_state.proofs.Waits.{fired_aside, known_by}
use Rattle.service_state.proofs.tables.Tables.fire.Goals as goal

step : (c : goal.After-fire) → Step (firing c.args.conn c.args.handle (c.args.pulse.code, c.args.pulse.value)) (the_view c.self.inside) (record (the_view c.self.inside) { handles = c.arm.new.self; connections = c.fire.new.self })
step c =
    let known = known_by (λ (h : OpenHandle Progress). h.armed) (own_handle (content_in (the_view c.self.inside)) c.args.conn c.args.handle) (Some (c.args.pulse.code, c.args.pulse.value)) (subst (λ t. option_map (λ (h : OpenHandle Progress). h.armed) (own_handle (content_in t) c.args.conn c.args.handle) ≡ Some (Some (c.args.pulse.code, c.args.pulse.value))) (sym c.self.view_is) c.requires) in
    both_stepped c.connections_are_found.ensures (firing c.args.conn c.args.handle (c.args.pulse.code, c.args.pulse.value)) (the_view c.self.inside) (c.arm.new.self) (c.fire.new.self) (with_outbox c.args.conn (λ box. fired_in box c.args.handle)) c.self.invariant
    (fired_aside (content_in (the_view c.self.inside)) c.args.conn c.args.handle (c.args.pulse.code, c.args.pulse.value)) (c.arm.ensures.handles) (c.arm.ensures.sites) (ap (λ r. r.next) c.arm.ensures.rows) (c.fire.ensures.standing) (c.connections_are_told.ensures.fired (content_in (the_view c.self.inside)) c.handles_are_placed.ensures.rise c.self.invariant.rise c.args.conn c.args.handle known.0 known.1.0 (c.args.pulse.code, c.args.pulse.value) known.1.1) (c.premises_stay.ensures.connections (content_in (the_view c.self.inside)) (firing c.args.conn c.args.handle (c.args.pulse.code, c.args.pulse.value)) c.self.invariant.rise refl)

pub invariant_of-self : goal.invariant_of-self
invariant_of-self c = (step c).tied

pub returns : goal.returns
returns c = moved_from (firing c.args.conn c.args.handle (c.args.pulse.code, c.args.pulse.value)) (the_view c.self.inside) (record (the_view c.self.inside) { handles = c.arm.new.self; connections = c.fire.new.self }) c.args.self.now c.self.view_is (step c)
