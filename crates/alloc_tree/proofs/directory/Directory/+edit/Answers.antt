use Rattle.std.proofs.Common.{◌≡◌, ℕ, Some, [], ◌∷◌, sym, ap, subst, ◌∙◌}
use Rattle.std.proofs.lemmas.Result.{on_ok_weaker, on_err_weaker}
use Rattle.std.specs.Box.{with_value}
use Rattle.std.specs.Vec.{with_item}
use Rattle.pps_types.specs.declared.found.Found.TheVariants.{Directory as FoundDirectory}
use Rattle.alloc_tree.specs.declared.directory.Node.TheVariants.{Directory}
use Rattle.alloc_tree.specs.Path.{Changes}
use Rattle.alloc_tree.specs.Contents.{whole}
use Rattle.alloc_tree.specs.Refused.{edit_refused, left_by}
use Rattle.alloc_tree.specs.View.{standing, made_of}
use Rattle.pps_types.specs.Names.{Name}
use Rattle.alloc_tree.specs.Entries.{IsPlaceOf}
use Rattle.alloc_tree.proofs.Ordered.{whole_is, changed}
use Rattle.alloc_tree.proofs.Places.{at_place}
use Rattle.alloc_tree.proofs.Levels.{no_names, no_length, word_at}
use Rattle.alloc_tree.proofs.Refusals.{edit_root, edit_gap, edit_below, edit_object}
use Rattle.alloc_tree.proofs.Edits.{rising_set, changes_set, same_contents}
use Rattle.alloc_tree.proofs.directory.Directory.+edit.Goals as goal

pub returns-in_default-clause-refusal : goal.returns-in_default-clause-refusal
returns-in_default-clause-refusal g t c = ap Some c.root_refusal.ensures ∙ sym (ap (edit_refused c.args.edit (whole c.args.self.now)) (no_length c.args.path.now c.in_default.ensures.cases) ∙ edit_root c.args.edit c.args.self.now)

pub returns-in-Err-clause-refusal : goal.returns-in-Err-clause-refusal
returns-in-Err-clause-refusal g t c =
    word_at (edit_refused c.args.edit) (whole_is c.self.inside.id c.self.inside.entries _ c.self.view_is c.self.invariant) c.in-Some.ensures.cases.0 (sym (edit_gap c.self.inside.id _ _ _ c.args.edit c.in-Some.rest.now (rw (c.deref.ensures.value, c.as_slice.ensures) at c.in-Err.ensures.absent)))

pub returns-then-is_empty-clause-refusal : goal.returns-then-is_empty-clause-refusal
returns-then-is_empty-clause-refusal g t c =
    let none : c.in-Some.rest.now ≡ [] = no_names c.in-Some.rest.now (cc) in
    word_at (edit_refused c.args.edit) (whole_is c.self.inside.id c.self.inside.entries _ c.self.view_is c.self.invariant) (c.in-Some.ensures.cases.0 ∙ ap (λ p. c.in-Some.name.now ∷ p) none)
    (c.edit_entry.ensures.refusal c.in-Some.name.now c.self.inside.id (rw (c.deref.ensures.value, c.as_slice.ensures) at c.in-Ok.ensures.found))

pub returns-then-is_empty-clause-ok : goal.returns-then-is_empty-clause-ok
returns-then-is_empty-clause-ok g t c =
    let none : c.in-Some.rest.now ≡ [] = no_names c.in-Some.rest.now (cc) in
    let place = rw (c.deref.ensures.value, c.as_slice.ensures) at c.in-Ok.ensures.found in
    rw (← c.self.view_is, c.in-Some.ensures.cases.0, none)
    (on_ok_weaker c.edit_entry.result (λ (h : (n : Name) (id : ℕ) → IsPlaceOf c.self.inside.entries.items n c.in-Ok.i → Changes (made_of id c.self.inside.entries.items) (made_of id c.edit_entry.new.entries.items) (n ∷ []) (left_by c.args.edit)).
    changed c.self.inside.id c.self.inside.entries c.edit_entry.new.entries (c.in-Some.name.now ∷ []) (left_by c.args.edit) c.self.invariant c.edit_entry.ensures.rising (h c.in-Some.name.now c.self.inside.id place)) c.edit_entry.ensures.ok)

pub returns-in_default-node-clause-refusal : goal.returns-in_default-node-clause-refusal
returns-in_default-node-clause-refusal g t c =
    let here = at_place _ _ _ _ c.self.invariant (rw (c.deref.ensures.value, c.as_slice.ensures) at c.in-Ok.ensures.found) c.index_mut-entry.ensures.value in
    word_at (edit_refused c.args.edit) (whole_is c.self.inside.id c.self.inside.entries _ c.self.view_is c.self.invariant) c.in-Some.ensures.cases.0
    (sym (edit_below c.self.inside.id _ _ _ c.args.edit _ c.in-Some.rest.now here (cc) ∙ ap (λ n. edit_refused c.args.edit (standing n) c.in-Some.rest.now) c.in_default-node.is ∙ edit_object c.args.edit c.in_default-node.field-0 c.in-Some.rest.now (cc)))

pub invariant_of-self-2 : goal.invariant_of-self-2
invariant_of-self-2 g t c =
    let here = at_place _ _ _ _ c.self.invariant (rw (c.deref.ensures.value, c.as_slice.ensures) at c.in-Ok.ensures.found) c.index_mut-entry.ensures.value in
    rising_set _ _ _ _ _ c.self.invariant here here.name

pub returns-clause-refusal : goal.returns-clause-refusal
returns-clause-refusal g t c =
    let here = at_place _ _ _ _ c.self.invariant (rw (c.deref.ensures.value, c.as_slice.ensures) at c.in-Ok.ensures.found) c.index_mut-entry.ensures.value in
    word_at (edit_refused c.args.edit) (whole_is c.self.inside.id c.self.inside.entries _ c.self.view_is c.self.invariant) c.in-Some.ensures.cases.0
    (c.edit.ensures.refusal ∙ ap (λ d. edit_refused c.args.edit (whole d) c.in-Some.rest.now) c.deref_mut.ensures.value ∙ sym (edit_below c.self.inside.id _ _ _ c.args.edit _ c.in-Some.rest.now here (cc) ∙ ap (λ n. edit_refused c.args.edit (standing n) c.in-Some.rest.now) c.in-Directory.is))

pub returns-clause-ok : goal.returns-clause-ok
returns-clause-ok g t c =
    let here = at_place _ _ _ _ c.self.invariant (rw (c.deref.ensures.value, c.as_slice.ensures) at c.in-Ok.ensures.found) c.index_mut-entry.ensures.value in
    rw (← c.self.view_is, c.in-Some.ensures.cases.0)
    (on_ok_weaker c.edit.result (λ (h : Changes (whole c.deref_mut.result.now) (whole c.edit.new.self) c.in-Some.rest.now (left_by c.args.edit)).
    changed c.self.inside.id c.self.inside.entries (with_item c.self.inside.entries c.in-Ok.i record { name = c.index_mut-entry.result.now.name; node = Directory (with_value c.in-Directory.inner c.edit.new.self) }) (c.in-Some.name.now ∷ c.in-Some.rest.now) (left_by c.args.edit) c.self.invariant (invariant_of-self-2 g t c)
    (changes_set standing (FoundDirectory c.self.inside.id) _ _ _ c.index_mut-entry.result.now _ c.in-Some.rest.now (left_by c.args.edit) here here.name (subst (λ n. Changes (standing n) (whole c.edit.new.self) c.in-Some.rest.now (left_by c.args.edit)) (sym c.in-Directory.is) (rw c.deref_mut.ensures.value at h)))) c.edit.ensures.ok)

pub returns-clause-err : goal.returns-clause-err
returns-clause-err g t c =
    on_err_weaker c.edit.result (λ (h : c.edit.new.self ≡ c.deref_mut.result.now). same_contents c.self.inside.id c.self.inside.entries c.in-Ok.i c.index_mut-entry.result.now (Directory (with_value c.in-Directory.inner c.edit.new.self)) c.index_mut-entry.ensures.value (c.in-Directory.is ∙ ap (λ d. Directory (with_value c.in-Directory.inner d)) (sym (h ∙ c.deref_mut.ensures.value))) ∙ c.self.view_is) c.edit.ensures.err
