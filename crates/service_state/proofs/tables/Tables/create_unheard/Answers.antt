use Rattle.std.specs.Prelude.{◌≡◌, ◌+◌, [], ◌∷◌, Some, map, option_map}
use Rattle.std.proofs.Common.{refl, sym, ◌∙◌, ap, subst}
use Rattle.pps_types.specs.declared.found.Found.TheVariants.{Object as FoundObject}
use Rattle.pps_types.specs.Content.{LiveObject}
use Rattle.pps_types.specs.WellFormed.{RiseBetween}
use Rattle.pps_types.specs.Plan as planning
use Rattle.open_handles.specs.Whole.{site_of, site_at, plain_site, handles_in}
use Rattle.service_state.specs.Tables.{Tabled, content_in}
use Rattle.service_state.specs.Objects.{plain_object}
use Rattle.service_state.proofs.Ties.{Step, moved_from}
use Rattle.service_state.proofs.Comes.{created_step}
use Rattle.service_state.specs.contracts.tables.Tables.{the_view}
use Rattle.service_state.proofs.tables.Tables.create_unheard.Goals as goal

abbrev after : goal.After-self-1 → Tabled
after c = record (the_view c.self.inside) { records = c.self.inside.records + 1; names = c.create-number.new.self; handles = c.add_bare_object.new.self }

step : (c : goal.After-self-1) → Step (planning.Creates (plain_object c.args.path.items c.args.directory (the_view c.self.inside)) ∷ []) (the_view c.self.inside) (after c)
step c =
    let t = the_view c.self.inside in
    let o = plain_object c.args.path.items c.args.directory t in
    let nobody = ap (λ (u : Tabled). handles_in u.handles) c.self.view_is ∙ c.requires.nobody in
    let number = c.create-number.ensures.number in
    created_step c.connections_are_found.ensures c.connections_are_told.ensures c.moves_are_told.ensures t c.create-number.new.self c.add_bare_object.new.self
    o c.self.invariant refl
    (subst (λ u. RiseBetween 0 (map (λ (o : LiveObject). o.object.number) (content_in u).objects) (content_in u).next_object) (sym c.self.view_is) c.requires.order)
    c.create-number.ensures.standing
    (c.add_bare_object.ensures.handles ∙ nobody ∙ sym (ap (map (planning.offer (planning.creation o))) nobody))
    c.add_bare_object.ensures.rows
    (ap (λ n. site_at (FoundObject n) c.add_bare_object.new.self) (sym number) ∙ c.add_bare_object.ensures.added ∙ ap (λ name. Some (plain_site name)) c.requires.named)
    (λ f other. ap (option_map site_of) (c.add_bare_object.ensures.others f (λ same. other (same ∙ ap FoundObject number))))
    (c.add_bare_object.ensures.next ∙ ap (λ n. n + 1) number)
    c.add_bare_object.ensures.directories.next

pub invariant_of-self : goal.invariant_of-self
invariant_of-self c = (step c).tied

pub returns : goal.returns
returns c =
    subst (λ t. content_in (after c) ≡ planning.apply_all_seen (planning.Creates (plain_object c.args.path.items c.args.directory t) ∷ []) (content_in t)) c.self.view_is (step c).moved
