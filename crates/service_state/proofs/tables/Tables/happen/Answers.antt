use Rattle.std.specs.Prelude.{◌≡◌, ◌+◌, [], ◌∷◌}
use Rattle.std.proofs.Common.{sym, ◌∙◌, ap}
use Rattle.pps_types.specs.declared.found.Found.TheVariants.{Object as FoundObject, Directory as FoundDirectory}
use Rattle.pps_types.specs.Plan as planning
use Rattle.name_table.specs.Standing.{standing_of, happened}
use Rattle.service_state.specs.Lines.{deletes}
use Rattle.service_state.proofs.Ties.{Step, moved_from}
use Rattle.service_state.proofs.Tells.{happened_step, deleted_gone}
use Rattle.service_state.specs.contracts.tables.Tables.{the_view}
use Rattle.service_state.proofs.tables.Tables.happen.Goals as goal

step : (c : goal.After-self-1) → Step (planning.AppendsRecord c.args.told.entry ∷ []) (the_view c.self.inside) (record (the_view c.self.inside) { records = c.self.inside.records + 1; names = c.change_names.new.names; handles = c.drop_deleted.new.handles })
step c =
    let object : c.record.result.now.object ≡ c.args.told.entry.record_of.object = ap (λ r. r.object) (c.record.ensures ∙ ap (λ e. e.record_of) c.entry-2.ensures) in
    let kind = ap (λ e. deletes e.record_of.kind) c.entry-3.ensures in
    happened_step c.connections_are_found.ensures c.connections_are_told.ensures c.moves_are_told.ensures (the_view c.self.inside) c.change_names.new.names c.drop_deleted.new.handles
    c.args.told.entry c.self.invariant
    (c.change_names.ensures ∙ ap (λ e. happened e.record_of.object e.record_of.kind (standing_of c.self.inside.names)) c.entry.ensures)
    (c.drop_deleted.ensures.handles ∙ c.offer.ensures.handles)
    (ap (λ r. r.next) (c.drop_deleted.ensures.rows ∙ c.offer.ensures.rows))
    (λ o alive. c.drop_deleted.ensures.others (FoundObject o.object.number)
    (λ deleted same. deleted_gone c.args.told.entry o (sym kind ∙ sym c.is_deletion-is_deleted.ensures ∙ deleted) (let is : o.object.number ≡ c.record.result.now.object = cc in is ∙ object) alive)
    ∙ c.offer.ensures.sites.sites (FoundObject o.object.number))
    (λ d. c.drop_deleted.ensures.others (FoundDirectory d) (λ deleted same. let bad = same in cc) ∙ c.offer.ensures.sites.sites (FoundDirectory d))
    (c.drop_deleted.ensures.objects.next ∙ c.offer.ensures.sites.objects.next)
    (c.drop_deleted.ensures.directories.next ∙ c.offer.ensures.sites.directories.next)

pub invariant_of-self : goal.invariant_of-self
invariant_of-self c = (step c).tied

pub returns-clause-moves : goal.returns-clause-moves
returns-clause-moves c = moved_from (planning.AppendsRecord c.args.told.entry ∷ []) (the_view c.self.inside) (record (the_view c.self.inside) { records = c.self.inside.records + 1; names = c.change_names.new.names; handles = c.drop_deleted.new.handles }) c.args.self.now c.self.view_is (step c)
