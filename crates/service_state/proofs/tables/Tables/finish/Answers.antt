use Rattle.std.specs.Prelude.{◌≡◌, Some, option_map, is_some, true}
use Rattle.std.proofs.Common.{refl, sym, ap, subst}
use Rattle.pps_types.specs.Reading.{OpenHandle}
use Rattle.pps_types.specs.Rests.{Progress}
use Rattle.pps_types.specs.Content.{own_handle}
use Rattle.notify_box.specs.Standing.{HasParked, with_outbox}
use Rattle.pps_types.specs.Outbox.{finished_in}
use Rattle.service_state.specs.Tables.{content_in}
use Rattle.service_state.specs.Moves.{finishing}
use Rattle.service_state.proofs.Ties.{Step, both_stepped, moved_from}
use Rattle.service_state.specs.contracts.tables.Tables.{the_view}
use Rattle.service_state.proofs.Waits.{finished_aside, known_by, held_parked}
use Rattle.service_state.proofs.tables.Tables.finish.Goals as goal

step : (c : goal.After-finish) → Step (finishing c.args.conn c.args.handle c.args.reply) (the_view c.self.inside) (record (the_view c.self.inside) { handles = c.park.new.self; connections = c.finish.new.self })
step c =
    let known = known_by (λ (h : OpenHandle Progress). is_some h.parked) (own_handle (content_in (the_view c.self.inside)) c.args.conn c.args.handle) (true) (subst (λ t. option_map (λ (h : OpenHandle Progress). is_some h.parked) (own_handle (content_in t) c.args.conn c.args.handle) ≡ Some (true)) (sym c.self.view_is) c.requires) in
    both_stepped c.connections_are_found.ensures (finishing c.args.conn c.args.handle c.args.reply) (the_view c.self.inside) (c.park.new.self) (c.finish.new.self) (with_outbox c.args.conn (λ box. finished_in box c.args.handle c.args.reply)) c.self.invariant
    (finished_aside (content_in (the_view c.self.inside)) c.args.conn c.args.handle c.args.reply) (c.park.ensures.handles) (c.park.ensures.sites) (ap (λ r. r.next) c.park.ensures.rows) (c.finish.ensures.standing) (c.connections_are_told.ensures.finished (content_in (the_view c.self.inside)) c.handles_are_placed.ensures.rise c.self.invariant.rise c.args.conn c.args.handle known.0 known.1.0 c.args.reply) (c.premises_stay.ensures.connections (content_in (the_view c.self.inside)) (finishing c.args.conn c.args.handle c.args.reply) c.self.invariant.rise refl)

pub invariant_of-self : goal.invariant_of-self
invariant_of-self c = (step c).tied

pub returns : goal.returns
returns c = moved_from (finishing c.args.conn c.args.handle c.args.reply) (the_view c.self.inside) (record (the_view c.self.inside) { handles = c.park.new.self; connections = c.finish.new.self }) c.args.self.now c.self.view_is (step c)

pub finish-requires : goal.finish-requires
finish-requires c =
    let known = known_by (λ (h : OpenHandle Progress). is_some h.parked) (own_handle (content_in (the_view c.self.inside)) c.args.conn c.args.handle) (true) (subst (λ t. option_map (λ (h : OpenHandle Progress). is_some h.parked) (own_handle (content_in t) c.args.conn c.args.handle) ≡ Some (true)) (sym c.self.view_is) c.requires) in
    subst (HasParked c.args.conn c.args.handle) (sym c.self.invariant.connected)
    (held_parked c.connections_are_found.ensures (content_in (the_view c.self.inside)) c.handles_are_placed.ensures.rise c.args.conn c.args.handle known.0 known.1.0 known.1.1)
