use Rattle.std.specs.Prelude.{◌≡◌, [], ◌∷◌, Some, None, option_map}
use Rattle.std.proofs.Common.{refl, sym, ap, subst}
use Rattle.pps_types.specs.Plan as planning
use Rattle.pps_types.specs.Reading.{OpenHandle}
use Rattle.pps_types.specs.Rests.{Progress}
use Rattle.pps_types.specs.Content.{own_handle}
use Rattle.notify_box.specs.Standing.{with_outbox}
use Rattle.pps_types.specs.Outbox.{with_parked}
use Rattle.service_state.specs.Tables.{content_in}
use Rattle.service_state.proofs.Ties.{Step, both_stepped, moved_from}
use Rattle.service_state.specs.contracts.tables.Tables.{the_view}
use Rattle.service_state.proofs.Waits.{parked_aside, known_by}
use Rattle.service_state.proofs.tables.Tables.park.Goals as goal

step : (c : goal.After-park-2) → Step (planning.Parks c.args.handle (Some c.args.size) ∷ []) (the_view c.self.inside) (record (the_view c.self.inside) { handles = c.park.new.self; connections = c.park-2.new.self })
step c =
    let known = known_by (λ (h : OpenHandle Progress). h.parked) (own_handle (content_in (the_view c.self.inside)) c.args.conn c.args.handle) (None) (subst (λ t. option_map (λ (h : OpenHandle Progress). h.parked) (own_handle (content_in t) c.args.conn c.args.handle) ≡ Some (None)) (sym c.self.view_is) c.requires.own) in
    both_stepped c.connections_are_found.ensures (planning.Parks c.args.handle (Some c.args.size) ∷ []) (the_view c.self.inside) (c.park.new.self) (c.park-2.new.self) (with_outbox c.args.conn (λ box. with_parked box c.args.handle)) c.self.invariant
    (parked_aside (content_in (the_view c.self.inside)) c.args.handle (Some c.args.size)) (c.park.ensures.handles) (c.park.ensures.sites) (ap (λ r. r.next) c.park.ensures.rows) (c.park-2.ensures.standing) (c.connections_are_told.ensures.parked (content_in (the_view c.self.inside)) c.handles_are_placed.ensures.rise c.self.invariant.rise c.args.conn c.args.handle known.0 known.1.0 known.1.1 c.args.size) (c.premises_stay.ensures.connections (content_in (the_view c.self.inside)) (planning.Parks c.args.handle (Some c.args.size) ∷ []) c.self.invariant.rise refl)

pub invariant_of-self : goal.invariant_of-self
invariant_of-self c = (step c).tied

pub returns : goal.returns
returns c = moved_from (planning.Parks c.args.handle (Some c.args.size) ∷ []) (the_view c.self.inside) (record (the_view c.self.inside) { handles = c.park.new.self; connections = c.park-2.new.self }) c.args.self.now c.self.view_is (step c)
