use Rattle.std.proofs.Common.{[], ◌∷◌, ◌<◌, length, set, Some, None, sym, subst, ◌∙◌}
use Rattle.std.specs.List.{remove}
use Rattle.pps_types.specs.declared.found.Found.TheVariants.{Object as FoundObject, Directory as FoundDirectory}
use Rattle.alloc_tree.specs.Path.{Changes}
use Rattle.alloc_tree.specs.Refused.{left_by}
use Rattle.alloc_tree.specs.View.{standing, made_of, node_found}
use Rattle.alloc_tree.specs.declared.directory.Node.TheVariants.{Object}
use Rattle.alloc_tree.specs.Entries.{NamesRise}
use Rattle.alloc_tree.proofs.Places.{at_place, at_read}
use Rattle.alloc_tree.proofs.Refusals.{edit_last}
use Rattle.alloc_tree.proofs.Edits.{changes_set, changes_remove, changes_other, changes_gone, rising_set, rising_remove}
use Rattle.alloc_tree.proofs.entries.edit_entry.Goals as goal

pub returns-in-Err-clause-refusal : goal.returns-in-Err-clause-refusal
returns-in-Err-clause-refusal g c n id place = c.in-Err.ensures.refusal ∙ sym (edit_last id _ _ _ c.args.edit _ (at_place _ _ _ n c.requires.rising place c.index.ensures))

pub returns-in-Some-clause-refusal : goal.returns-in-Some-clause-refusal
returns-in-Some-clause-refusal g c n id place = c.in_default.ensures.refusal ∙ sym (edit_last id _ _ _ c.args.edit _ (at_place _ _ _ n c.requires.rising place c.index.ensures))

pub returns-in-Some-clause-ok : goal.returns-in-Some-clause-ok
returns-in-Some-clause-ok g c n id place =
    let here = at_place _ _ _ n c.requires.rising place c.index.ensures in
    let one : Changes (standing c.index.result.now.node) (([], FoundObject c.in-Some.id) ∷ []) [] (Some (FoundObject c.in-Some.id)) = subst (λ l. Changes l (([], FoundObject c.in-Some.id) ∷ []) [] (Some (FoundObject c.in-Some.id))) (sym c.in_default.ensures.alone) (changes_other (node_found c.index.result.now.node) (FoundObject c.in-Some.id)) in
    let all = changes_set standing (FoundDirectory id) c.args.entries.now.items c.args.i n c.index.result.now record { name = c.index.result.now.name; node = Object c.in-Some.id } [] (Some (FoundObject c.in-Some.id)) here here.name one in
    subst (λ l. Changes (made_of id c.args.entries.now.items) (made_of id l) (n ∷ []) (left_by c.args.edit)) (sym (c.put_object.ensures c.index.result.now c.index.ensures))
    (subst (λ v. Changes (made_of id c.args.entries.now.items) (made_of id (set c.args.entries.now.items c.args.i record { name = c.index.result.now.name; node = Object c.in-Some.id })) (n ∷ []) v) c.in-Some.ensures all)

pub returns-in-Some-clause-rising : goal.returns-in-Some-clause-rising
returns-in-Some-clause-rising g c =
    let within : c.args.i < length c.args.entries.now.items = subst (λ k. c.args.i < k) c.args.entries.now.ok.0 c.requires.in_range in
    let here = at_read c.args.entries.now.items c.args.i c.index.result.now c.requires.rising within c.index.ensures in
    subst NamesRise (sym (c.put_object.ensures c.index.result.now c.index.ensures)) (rising_set _ _ _ _ _ c.requires.rising here here.name)

pub returns-clause-refusal : goal.returns-clause-refusal
returns-clause-refusal g c n id place = c.in_default.ensures.refusal ∙ sym (edit_last id _ _ _ c.args.edit _ (at_place _ _ _ n c.requires.rising place c.index.ensures))

pub returns-clause-ok : goal.returns-clause-ok
returns-clause-ok g c n id place =
    let here = at_place _ _ _ n c.requires.rising place c.index.ensures in
    let one : Changes (standing c.index.result.now.node) [] [] None = subst (λ l. Changes l [] [] None) (sym c.in_default.ensures.alone) (changes_gone (node_found c.index.result.now.node)) in
    let all = changes_remove standing (FoundDirectory id) c.args.entries.now.items c.args.i n c.index.result.now [] None here one in
    subst (λ l. Changes (made_of id c.args.entries.now.items) (made_of id l) (n ∷ []) (left_by c.args.edit)) (sym c.take_out.ensures)
    (subst (λ v. Changes (made_of id c.args.entries.now.items) (made_of id (remove c.args.entries.now.items c.args.i)) (n ∷ []) v) c.in_default-replacement.ensures all)

pub returns-clause-rising : goal.returns-clause-rising
returns-clause-rising g c =
    let within : c.args.i < length c.args.entries.now.items = subst (λ k. c.args.i < k) c.args.entries.now.ok.0 c.requires.in_range in
    let here = at_read c.args.entries.now.items c.args.i c.index.result.now c.requires.rising within c.index.ensures in
    subst NamesRise (sym c.take_out.ensures) (rising_remove _ _ _ _ c.requires.rising here)
