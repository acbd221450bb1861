use Rattle.std.specs.Prelude.{◌≡◌, ◌+◌, [], ◌∷◌, map}
use Rattle.std.proofs.Common.{refl, sym, ◌∙◌, ap}
use Rattle.pps_types.specs.declared.record.Kind.TheVariants.{Change}
use Rattle.pps_types.specs.History.{Entry}
use Rattle.pps_types.specs.Plan as planning
use Rattle.open_handles.specs.Whole.{handles_in}
use Rattle.name_table.specs.Standing.{standing_of, happened}
use Rattle.service_state.specs.Tables.{Tabled}
use Rattle.service_state.proofs.Ties.{Step, moved_from}
use Rattle.service_state.proofs.Tells.{happened_step, changed_by, change_exists}
use Rattle.service_state.specs.contracts.tables.Tables.{the_view}
use Rattle.service_state.proofs.tables.Tables.change_unheard.Goals as goal

abbrev pub after : goal.After-self-1 → Tabled
after c = record (the_view c.self.inside) { records = c.self.inside.records + 1; names = c.change.new.self }

step : (c : goal.After-self-1) (e : Entry) → e.record_of.object ≡ c.args.object → e.record_of.kind ≡ Change c.args.lines.now → Step (planning.AppendsRecord e ∷ []) (the_view c.self.inside) (after c)
step c e object kind =
    let t = the_view c.self.inside in
    let nobody = ap (λ (u : Tabled). handles_in u.handles) c.self.view_is ∙ c.requires.nobody in
    happened_step c.connections_are_found.ensures c.connections_are_told.ensures c.moves_are_told.ensures t c.change.new.self c.self.inside.handles e c.self.invariant
    (changed_by c.args.lines.now c.args.object e.record_of.kind (standing_of c.self.inside.names) (standing_of c.change.new.self) kind c.change.ensures.standing
    ∙ ap (λ n. happened n e.record_of.kind (standing_of c.self.inside.names)) (sym object))
    (nobody ∙ sym (ap (map (planning.offer e)) nobody)) refl (λ o alive. refl) (λ d. refl) refl refl

pub invariant_of-self : goal.invariant_of-self
invariant_of-self c = change_exists c.args.lines.now c.args.object (λ e object kind. (step c e object kind).tied)

pub returns : goal.returns
returns c = record {
  moves = λ e object kind. moved_from (planning.AppendsRecord e ∷ []) (the_view c.self.inside) (after c) c.args.self.now c.self.view_is (step c e object kind);
}
