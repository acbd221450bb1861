use Rattle.std.specs.Prelude.{◌≡◌, ◌+◌, ◌<◌, [], ◌∷◌}
use Rattle.std.specs.List.{AllByRecursion}
use Rattle.std.proofs.Common.{refl, sym, ◌∙◌, ap, subst}
use Rattle.pps_types.specs.Plan as planning
use Rattle.sub_reader.specs.Opened.{opened, number_of}
use Rattle.open_handles.specs.Whole.{name_at}
use Rattle.notify_box.specs.Standing.{handles_of}
use Rattle.notify_box.specs.Connections.{connections_of}
use Rattle.service_state.specs.Tables.{content_in}
use Rattle.service_state.proofs.Ties.{Step}
use Rattle.service_state.proofs.Comes.{numbers_below, opened_step}
use Rattle.service_state.specs.contracts.tables.Tables.{the_view}
use Rattle.service_state.proofs.tables.Tables.open.Goals as goal

step : (c : goal.After-opened) → Step (planning.Opens (opened (number_of c.args.found) (name_at c.args.found c.self.inside.handles) c.args.opening) ∷ []) (the_view c.self.inside) (record (the_view c.self.inside) { handles = c.open.new.self; connections = c.opened.new.self })
step c = opened_step c.connections_are_found.ensures c.connections_are_told.ensures c.premises_stay.ensures (the_view c.self.inside) c.open.new.self c.opened.new.self (opened (number_of c.args.found) (name_at c.args.found c.self.inside.handles) c.args.opening) c.self.invariant refl refl
    c.open.ensures.handles (c.open.ensures.next ∙ ap (λ n. n + 1) (c.requires.number ∙ ap (λ t. (content_in t).next_handle) (sym c.self.view_is))) c.open.ensures.sites c.opened.ensures.handles.standing

pub invariant_of-self : goal.invariant_of-self
invariant_of-self c = (step c).tied

pub returns : goal.returns
returns c = subst (λ t. content_in (record (the_view c.self.inside) { handles = c.open.new.self; connections = c.opened.new.self })
    ≡ planning.apply_all_seen (planning.Opens (opened (number_of c.args.found) (name_at c.args.found t.handles) c.args.opening) ∷ []) (content_in t)) c.self.view_is (step c).moved

pub opened-requires-clause-above : goal.opened-requires-clause-above
opened-requires-clause-above c =
    let number = c.requires.number ∙ ap (λ t. (content_in t).next_handle) (sym c.self.view_is) in
    subst (λ xs. AllByRecursion (λ h. h < c.args.opening.number) (handles_of c.args.opening.connection xs)) (sym c.self.invariant.connected)
    (subst (λ n. AllByRecursion (λ h. h < n) (handles_of c.args.opening.connection (connections_of (content_in (the_view c.self.inside))))) (sym number)
    (numbers_below c.connections_are_found.ensures (content_in (the_view c.self.inside)) c.handles_are_placed.ensures.rise c.args.opening.connection))
