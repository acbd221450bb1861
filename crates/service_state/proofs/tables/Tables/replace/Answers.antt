use Rattle.std.specs.Prelude.{◌≡◌, ◌+◌, [], ◌∷◌, Some, map, option_map, IsSomeAnd, IfSome}
use Rattle.std.proofs.Common.{refl, sym, ◌∙◌, ap, subst, arith}
use Rattle.pps_types.specs.declared.found.Found.TheVariants.{Object as FoundObject, Directory as FoundDirectory}
use Rattle.pps_types.specs.declared.record.Kind.TheVariants.{Deleted}
use Rattle.pps_types.specs.Plan as planning
use Rattle.name_table.specs.Standing.{Placed, placed_at, standing_of, happened, after}
use Rattle.open_handles.specs.Whole.{site_of, site_at, handles_in}
use Rattle.service_state.specs.Lines.{deletes}
use Rattle.service_state.specs.Objects.{CanReplace, replacing_object}
use Rattle.service_state.specs.Tied.{Moves}
use Rattle.service_state.proofs.Ties.{Step}
use Rattle.service_state.proofs.Tells.{deleted_gone}
use Rattle.service_state.proofs.Replaces.{replaced_step, there, if_there}
use Rattle.service_state.specs.contracts.tables.Tables.{the_view}
use Rattle.service_state.proofs.tables.Tables.replace.Goals as goal

given : (c : goal.After-self-1) → (gone : Placed) × ((placed_at c.args.replacement.object c.self.inside.names ≡ Some gone) × CanReplace c.args.replacement (the_view c.self.inside) gone)
given c = there (placed_at c.args.replacement.object c.self.inside.names) (CanReplace c.args.replacement (the_view c.self.inside))
    (subst (λ t. IsSomeAnd (placed_at c.args.replacement.object t.names) (CanReplace c.args.replacement t)) (sym c.self.view_is) c.requires)

step : (c : goal.After-self-1) (gone : Placed) → placed_at c.args.replacement.object c.self.inside.names ≡ Some gone → CanReplace c.args.replacement (the_view c.self.inside) gone
    → Step (planning.AppendsRecord c.args.replacement.deletion.entry ∷ planning.Creates (replacing_object c.args.replacement gone.object (the_view c.self.inside)) ∷ []) (the_view c.self.inside)
    (record (the_view c.self.inside) { records = c.self.inside.records + 2; names = c.replace-number.new.self; handles = c.add_object.new.self })
step c gone is can =
    let r = c.args.replacement in
    let e = r.deletion.entry in
    let o = replacing_object r gone.object (the_view c.self.inside) in
    let standing : standing_of c.replace-number.new.self ≡ after (planning.Creates o) (happened r.object Deleted (standing_of c.self.inside.names)) =
    subst (λ p. IfSome p (λ (gone : Placed). standing_of c.replace-number.new.self ≡ after (planning.Creates (replacing_object c.args.replacement gone.object (the_view c.self.inside))) (happened c.args.replacement.object Deleted (standing_of c.self.inside.names)))) is c.replace-number.ensures.standing in
    replaced_step c.connections_are_found.ensures c.connections_are_told.ensures c.moves_are_told.ensures (the_view c.self.inside) c.replace-number.new.self c.add_object.new.self
    e o (c.self.inside.records + 2) (omega arith) c.self.invariant refl can.order
    (standing ∙ ap (λ n. after (planning.Creates o) (happened n Deleted (standing_of c.self.inside.names))) (sym can.deleted) ∙ ap (λ k. after (planning.Creates o) (happened e.record_of.object k (standing_of c.self.inside.names))) (sym can.deletes))
    (c.add_object.ensures.handles ∙ c.drop_object.ensures.handles ∙ c.tell_both.ensures.handles ∙ ap (λ x. map (planning.offer x) (map (planning.offer e) (handles_in c.self.inside.handles))) can.record_is)
    (c.add_object.ensures.rows ∙ c.drop_object.ensures.rows ∙ c.tell_both.ensures.rows)
    (ap (λ n. site_at (FoundObject n) c.add_object.new.self) (sym can.number) ∙ c.add_object.ensures.added ∙ ap Some can.site)
    (λ p other alive. ap (option_map site_of) (c.add_object.ensures.others (FoundObject p.object.number) (λ same. other (let is : p.object.number ≡ r.site.object = cc in is ∙ can.number)))
    ∙ ap (option_map site_of) (c.drop_object.ensures.others (FoundObject p.object.number) (λ same. deleted_gone e p (ap deletes can.deletes) (let is : p.object.number ≡ r.object = cc in is ∙ sym can.deleted) alive))
    ∙ c.tell_both.ensures.sites.sites (FoundObject p.object.number))
    (λ d. ap (option_map site_of) (c.add_object.ensures.others (FoundDirectory d) (λ same. let bad = same in cc))
    ∙ ap (option_map site_of) (c.drop_object.ensures.others (FoundDirectory d) (λ same. let bad = same in cc)) ∙ c.tell_both.ensures.sites.sites (FoundDirectory d))
    (c.add_object.ensures.next ∙ ap (λ n. n + 1) can.number)
    (c.add_object.ensures.directories.next ∙ ap (λ t. t.next) c.drop_object.ensures.directories ∙ c.tell_both.ensures.sites.directories.next)

pub invariant_of-self : goal.invariant_of-self
invariant_of-self c = let g = given c in (step c g.0 g.1.0 g.1.1).tied

pub returns-clause-moves : goal.returns-clause-moves
returns-clause-moves c =
    let g = given c in
    subst (λ t. IfSome (placed_at c.args.replacement.object t.names) (λ gone. Moves (planning.AppendsRecord c.args.replacement.deletion.entry ∷ planning.Creates (replacing_object c.args.replacement gone.object t) ∷ []) t
    (record (the_view c.self.inside) { records = c.self.inside.records + 2; names = c.replace-number.new.self; handles = c.add_object.new.self }))) c.self.view_is
    (if_there (placed_at c.args.replacement.object c.self.inside.names) g.0 (λ gone. Moves (planning.AppendsRecord c.args.replacement.deletion.entry ∷ planning.Creates (replacing_object c.args.replacement gone.object (the_view c.self.inside)) ∷ []) (the_view c.self.inside)
    (record (the_view c.self.inside) { records = c.self.inside.records + 2; names = c.replace-number.new.self; handles = c.add_object.new.self })) g.1.0 (step c g.0 g.1.0 g.1.1).moved)
