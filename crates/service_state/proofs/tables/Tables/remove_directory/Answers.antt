use Rattle.std.specs.Prelude.{[], ◌∷◌, map, option_map}
use Rattle.std.proofs.Common.{sym, ap, subst}
use Rattle.pps_types.specs.Content.{Directory}
use Rattle.pps_types.specs.WellFormed.{RiseBetween}
use Rattle.pps_types.specs.Plan as planning
use Rattle.open_handles.specs.Whole.{site_of}
use Rattle.service_state.specs.Tables.{content_in}
use Rattle.service_state.proofs.Ties.{Step, moved_from}
use Rattle.service_state.proofs.Comes.{removed_step}
use Rattle.service_state.specs.contracts.tables.Tables.{the_view}
use Rattle.service_state.proofs.tables.Tables.remove_directory.Goals as goal

step : (c : goal.After-drop_directory) → Step (planning.RemovesDirectory c.args.directory ∷ []) (the_view c.self.inside) (record (the_view c.self.inside) { names = c.remove_directory.new.self; handles = c.drop_directory.new.self })
step c =
    let order = subst (λ t. RiseBetween 0 (map (λ (d : Directory). d.number) (content_in t).directories) (content_in t).next_directory) (sym c.self.view_is) c.requires.order in
    removed_step c.connections_are_found.ensures c.connections_are_told.ensures c.moves_are_told.ensures (the_view c.self.inside) c.remove_directory.new.self c.drop_directory.new.self c.args.directory c.self.invariant order c.remove_directory.ensures.standing
    c.drop_directory.ensures.handles c.drop_directory.ensures.rows
    (λ f other. ap (option_map site_of) (c.drop_directory.ensures.others f other))
    (ap (λ t. t.next) c.drop_directory.ensures.objects) c.drop_directory.ensures.directories.next

pub invariant_of-self : goal.invariant_of-self
invariant_of-self c = (step c).tied

pub returns : goal.returns
returns c = moved_from (planning.RemovesDirectory c.args.directory ∷ []) (the_view c.self.inside) (record (the_view c.self.inside) { names = c.remove_directory.new.self; handles = c.drop_directory.new.self }) c.args.self.now c.self.view_is (step c)
