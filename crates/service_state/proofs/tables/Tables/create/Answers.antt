use Rattle.std.specs.Prelude.{◌≡◌, ◌+◌, [], ◌∷◌, Some, map, option_map}
use Rattle.std.proofs.Common.{refl, sym, ◌∙◌, ap, subst}
use Rattle.pps_types.specs.declared.found.Found.TheVariants.{Object as FoundObject}
use Rattle.pps_types.specs.Content.{LiveObject}
use Rattle.pps_types.specs.WellFormed.{RiseBetween}
use Rattle.pps_types.specs.Plan as planning
use Rattle.open_handles.specs.Whole.{site_of, site_at, handles_in}
use Rattle.service_state.specs.Tables.{content_in}
use Rattle.service_state.specs.Objects.{new_object}
use Rattle.service_state.proofs.Ties.{Step}
use Rattle.service_state.proofs.Comes.{created_step}
use Rattle.service_state.specs.contracts.tables.Tables.{the_view}
use Rattle.service_state.proofs.tables.Tables.create.Goals as goal

step : (c : goal.After-self-1) → Step (planning.Creates (new_object c.args.object (the_view c.self.inside)) ∷ []) (the_view c.self.inside)
    (record (the_view c.self.inside) { records = c.self.inside.records + 1; names = c.create-number.new.self; handles = c.add_object.new.self })
step c =
    let number : c.args.object.site.object ≡ c.self.inside.names.objects.next = c.requires.number ∙ ap (λ t. (content_in t).next_object) (sym c.self.view_is) in
    let made : c.args.object.creation.entry ≡ planning.creation (new_object c.args.object (the_view c.self.inside)) = c.requires.record_is ∙ ap (λ t. planning.creation (new_object c.args.object t)) (sym c.self.view_is) in
    created_step c.connections_are_found.ensures c.connections_are_told.ensures c.moves_are_told.ensures (the_view c.self.inside) c.create-number.new.self c.add_object.new.self
    (new_object c.args.object (the_view c.self.inside)) c.self.invariant refl
    (subst (λ t. RiseBetween 0 (map (λ (o : LiveObject). o.object.number) (content_in t).objects) (content_in t).next_object) (sym c.self.view_is) c.requires.order)
    c.create-number.ensures.standing
    (c.add_object.ensures.handles ∙ c.offer.ensures.handles ∙ ap (λ e. map (planning.offer e) (handles_in c.self.inside.handles)) made)
    (c.add_object.ensures.rows ∙ c.offer.ensures.rows)
    (ap (λ n. site_at (FoundObject n) c.add_object.new.self) (sym number) ∙ c.add_object.ensures.added ∙ ap Some c.requires.site)
    (λ f other. ap (option_map site_of) (c.add_object.ensures.others f (λ same. other (same ∙ ap FoundObject number))) ∙ c.offer.ensures.sites.sites f)
    (c.add_object.ensures.next ∙ ap (λ n. n + 1) number)
    (c.add_object.ensures.directories.next ∙ c.offer.ensures.sites.directories.next)

pub invariant_of-self : goal.invariant_of-self
invariant_of-self c = (step c).tied

pub returns-clause-moves : goal.returns-clause-moves
returns-clause-moves c =
    subst (λ t. content_in (record (the_view c.self.inside) { records = c.self.inside.records + 1; names = c.create-number.new.self; handles = c.add_object.new.self })
    ≡ planning.apply_all_seen (planning.Creates (new_object c.args.object t) ∷ []) (content_in t)) c.self.view_is (step c).moved
