use Rattle.std.specs.Prelude.{◌≡◌, ◌+◌, [], ◌∷◌, map, option_map, Some, false}
use Rattle.std.proofs.Common.{sym, ◌∙◌, ap, subst}
use Rattle.pps_types.specs.declared.found.Found.TheVariants.{Directory as FoundDirectory}
use Rattle.pps_types.specs.Content.{Directory}
use Rattle.pps_types.specs.WellFormed.{RiseBetween}
use Rattle.pps_types.specs.Plan as planning
use Rattle.open_handles.specs.Whole.{site_of, site_at}
use Rattle.service_state.specs.Tables.{content_in}
use Rattle.service_state.proofs.Ties.{Step, moved_from}
use Rattle.service_state.proofs.Comes.{made_step}
use Rattle.service_state.specs.contracts.tables.Tables.{the_view}
use Rattle.service_state.proofs.tables.Tables.make_directory.Goals as goal

step : (c : goal.After-add_directory) → Step (planning.MakesDirectory c.args.path.items ∷ []) (the_view c.self.inside) (record (the_view c.self.inside) { names = c.make_directory-directory.new.self; handles = c.add_directory.new.self })
step c =
    let order = subst (λ t. RiseBetween 0 (map (λ (d : Directory). d.number) (content_in t).directories) (content_in t).next_directory) (sym c.self.view_is) c.requires.order in
    made_step c.connections_are_found.ensures c.connections_are_told.ensures c.moves_are_told.ensures (the_view c.self.inside) c.make_directory-directory.new.self c.add_directory.new.self c.args.path.items c.self.invariant order c.make_directory-directory.ensures.standing
    c.add_directory.ensures.handles c.add_directory.ensures.rows
    (subst (λ d. site_at (FoundDirectory d) c.add_directory.new.self ≡ Some (record { name = []; service = false })) c.make_directory-directory.ensures.number c.add_directory.ensures.added)
    (λ f other. ap (option_map site_of) (c.add_directory.ensures.others f (λ same. other (same ∙ ap FoundDirectory c.make_directory-directory.ensures.number))))
    c.add_directory.ensures.objects.next
    (c.add_directory.ensures.next ∙ ap (λ n. n + 1) c.make_directory-directory.ensures.number)

pub invariant_of-self : goal.invariant_of-self
invariant_of-self c = (step c).tied

pub returns : goal.returns
returns c = moved_from (planning.MakesDirectory c.args.path.items ∷ []) (the_view c.self.inside) (record (the_view c.self.inside) { names = c.make_directory-directory.new.self; handles = c.add_directory.new.self }) c.args.self.now c.self.view_is (step c)
