use Rattle.std.specs.Prelude.{◌≡◌, Some, option_map, is_some, ◌==◌}
use Rattle.std.proofs.Common.{sym, ◌∙◌, ap, subst}
use Rattle.pps_types.specs.Plan as planning
use Rattle.pps_types.specs.Reading.{OpenHandle}
use Rattle.pps_types.specs.Rests.{Progress}
use Rattle.pps_types.specs.Content.{own_handle}
use Rattle.notify_box.specs.Standing.{with_outbox, with_handles, parked_ended}
use Rattle.pps_types.specs.Outbox.{disarmed}
use Rattle.service_state.specs.Tables.{content_in}
use Rattle.service_state.specs.Moves.{closing}
use Rattle.service_state.proofs.Ties.{Step, both_stepped, moved_from}
use Rattle.service_state.specs.contracts.tables.Tables.{the_view}
use Rattle.service_state.proofs.Waits.{closed_aside, closed_handles, closed_told, closing_comes_none, known_by}
use Rattle.service_state.proofs.tables.Tables.close.Goals as goal

step : (c : goal.After-closed) → Step (closing c.args.conn c.args.handle c.args.is_parked) (the_view c.self.inside) (record (the_view c.self.inside) { handles = c.close.new.self; connections = c.closed.new.self })
step c =
    let known = known_by (λ (h : OpenHandle Progress). is_some h.parked) (own_handle (content_in (the_view c.self.inside)) c.args.conn c.args.handle) (c.args.is_parked) (subst (λ t. option_map (λ (h : OpenHandle Progress). is_some h.parked) (own_handle (content_in t) c.args.conn c.args.handle) ≡ Some (c.args.is_parked)) (sym c.self.view_is) c.requires) in
    both_stepped c.connections_are_found.ensures (closing c.args.conn c.args.handle c.args.is_parked) (the_view c.self.inside) (c.close.new.self) (c.closed.new.self) (λ xs. with_handles c.args.conn (λ hs. planning.without_first (λ k. k == c.args.handle) hs) (with_outbox c.args.conn (λ box. parked_ended box c.args.handle) (with_outbox c.args.conn (λ box. disarmed box c.args.handle) xs))) c.self.invariant
    (closed_aside (content_in (the_view c.self.inside)) c.args.conn c.args.handle c.args.is_parked) (c.close.ensures.handles ∙ sym (closed_handles (content_in (the_view c.self.inside)) c.args.conn c.args.handle c.args.is_parked)) (c.close.ensures.sites) (c.close.ensures.rows.next) (c.closed.ensures.handles.standing ∙ ap (λ xs. with_handles c.args.conn (λ hs. planning.without_first (λ k. k == c.args.handle) hs) xs) (c.end_parked.ensures.standing ∙ ap (λ xs. with_outbox c.args.conn (λ box. parked_ended box c.args.handle) xs) c.disarm.ensures.standing)) (closed_told c.connections_are_told.ensures (content_in (the_view c.self.inside)) c.handles_are_placed.ensures.rise c.self.invariant.rise c.args.conn c.args.handle known.0 known.1.0 c.args.is_parked known.1.1) (c.premises_stay.ensures.connections (content_in (the_view c.self.inside)) (closing c.args.conn c.args.handle c.args.is_parked) c.self.invariant.rise (closing_comes_none c.args.conn c.args.handle c.args.is_parked))

pub invariant_of-self : goal.invariant_of-self
invariant_of-self c = (step c).tied

pub returns-clause-moves : goal.returns-clause-moves
returns-clause-moves c = moved_from (closing c.args.conn c.args.handle c.args.is_parked) (the_view c.self.inside) (record (the_view c.self.inside) { handles = c.close.new.self; connections = c.closed.new.self }) c.args.self.now c.self.view_is (step c)
