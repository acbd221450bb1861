use Rattle.std.proofs.Common.{◌≡◌, [], ◌∷◌, ◌<◌, Some, rules, arith, refl, sym, ap, subst, ◌∙◌}
use Rattle.std.proofs.lemmas.Result.{on_ok_weaker, on_err_weaker}
use Rattle.std.specs.Box.{with_value}
use Rattle.std.specs.Vec.{with_item}
use Rattle.pps_types.specs.declared.found.Found.TheVariants.{Directory as FoundDirectory}
use Rattle.alloc_tree.specs.declared.directory.Node.TheVariants.{Directory}
use Rattle.pps_types.specs.Names.{last_name}
use Rattle.alloc_tree.specs.Contents.{whole}
use Rattle.alloc_tree.specs.Refused.{new_refused}
use Rattle.alloc_tree.specs.View.{standing}
use Rattle.alloc_tree.proofs.Ordered.{whole_is, whole_view, whole_same}
use Rattle.alloc_tree.proofs.Places.{at_place}
use Rattle.alloc_tree.proofs.Levels.{no_names, no_length, word_at}
use Rattle.alloc_tree.proofs.News.{refused_entry, refused_taken, refused_absent, refused_gap, refused_object, refused_root, full_here, room_here, room_at, at_set, flatten_set_same}
use Rattle.alloc_tree.proofs.Edits.{rising_set, same_contents}
use Rattle.alloc_tree.proofs.directory.Directory.+prepare.Goals as goal

pub returns-in_default-clause-refusal : goal.returns-in_default-clause-refusal
returns-in_default-clause-refusal g t c _ = sym (ap (new_refused c.args.kind (whole c.args.self.now)) (no_length c.args.path.now c.in_default.ensures.cases) ∙ (refused_root c.args.kind c.args.self.now))

pub returns-then-not-is_empty-clause-refusal : goal.returns-then-not-is_empty-clause-refusal
returns-then-not-is_empty-clause-refusal g t c _ =
    word_at (new_refused c.args.kind) (whole_is c.self.inside.id c.self.inside.entries _ c.self.view_is c.self.invariant) c.in-Some.ensures.cases.0 (sym (refused_absent c.self.inside.id _ _ _ c.args.kind c.in-Some.rest.now (rw (c.deref.ensures.value, c.as_slice.ensures) at c.in-Err.ensures.absent) (cc)))

pub returns-then-is_full-clause-refusal : goal.returns-then-is_full-clause-refusal
returns-then-is_full-clause-refusal g t c _ =
    let none : c.in-Some.rest.now ≡ [] = no_names c.in-Some.rest.now (cc) in
    word_at (new_refused c.args.kind) (whole_is c.self.inside.id c.self.inside.entries _ c.self.view_is c.self.invariant) (c.in-Some.ensures.cases.0 ∙ ap (λ p. c.in-Some.name.now ∷ p) none)
    (sym (refused_gap c.self.inside.id _ _ _ c.args.kind (rw (c.deref.ensures.value, c.as_slice.ensures) at c.in-Err.ensures.absent) ∙ full_here _ (sym (rw c.deref-in-Err.ensures.value at c.is_full.ensures) ∙ c.if-is_full.true)))

pub returns-in-Ok-make_ready-clause-refusal : goal.returns-in-Ok-make_ready-clause-refusal
returns-in-Ok-make_ready-clause-refusal g t c _ =
    let none : c.in-Some.rest.now ≡ [] = no_names c.in-Some.rest.now (cc) in
    word_at (new_refused c.args.kind) (whole_is c.self.inside.id c.self.inside.entries _ c.self.view_is c.self.invariant) (c.in-Some.ensures.cases.0 ∙ ap (λ p. c.in-Some.name.now ∷ p) none)
    (sym (refused_gap c.self.inside.id _ _ _ c.args.kind (rw (c.deref.ensures.value, c.as_slice.ensures) at c.in-Err.ensures.absent) ∙ room_here _ (sym (rw c.deref-in-Err.ensures.value at c.is_full.ensures) ∙ c.if-is_full.false)))

pub returns-in-Ok-make_ready-clause-ready : goal.returns-in-Ok-make_ready-clause-ready
returns-in-Ok-make_ready-clause-ready g t c =
    let none : c.in-Some.rest.now ≡ [] = no_names c.in-Some.rest.now (cc) in
    c.in-Ok-make_ready.ensures.ready ∙ ap (λ n. Some (c.args.kind, n)) (c.as_slice-in-Err.ensures ∙ sym (ap last_name (c.in-Some.ensures.cases.0 ∙ ap (λ p. c.in-Some.name.now ∷ p) none)))

pub returns-in-Ok-make_ready-clause-same : goal.returns-in-Ok-make_ready-clause-same
returns-in-Ok-make_ready-clause-same g t c = whole_same c.self.inside.id c.self.inside.entries c.make_ready.new.entries c.self.invariant c.make_ready.ensures.items ∙ ap whole c.self.view_is

pub returns-in-Ok-make_ready-clause-room : goal.returns-in-Ok-make_ready-clause-room
returns-in-Ok-make_ready-clause-room g t c =
    let none : c.in-Some.rest.now ≡ [] = no_names c.in-Some.rest.now (cc) in
    rw (c.in-Some.ensures.cases.0, none) c.in-Ok-make_ready.ensures.room

pub returns-then-is_empty-clause-refusal : goal.returns-then-is_empty-clause-refusal
returns-then-is_empty-clause-refusal g t c _ =
    let none : c.in-Some.rest.now ≡ [] = no_names c.in-Some.rest.now (cc) in
    word_at (new_refused c.args.kind) (whole_is c.self.inside.id c.self.inside.entries _ c.self.view_is c.self.invariant) (c.in-Some.ensures.cases.0 ∙ ap (λ p. c.in-Some.name.now ∷ p) none) (sym (refused_taken c.self.inside.id _ _ _ c.args.kind c.self.invariant (rw (c.deref.ensures.value, c.as_slice.ensures) at c.in-Ok.ensures.found)))

pub returns-in_default-node-clause-refusal : goal.returns-in_default-node-clause-refusal
returns-in_default-node-clause-refusal g t c _ =
    let here = at_place _ _ _ _ c.self.invariant (rw (c.deref.ensures.value, c.as_slice.ensures) at c.in-Ok.ensures.found) c.index_mut-entry.ensures.value in
    word_at (new_refused c.args.kind) (whole_is c.self.inside.id c.self.inside.entries _ c.self.view_is c.self.invariant) c.in-Some.ensures.cases.0
    (sym (refused_entry c.self.inside.id _ _ _ c.args.kind _ c.in-Some.rest.now here (cc) ∙ ap (λ n. new_refused c.args.kind (standing n) c.in-Some.rest.now) c.in_default-node.is ∙ refused_object c.args.kind c.in_default-node.field-0 c.in-Some.rest.now (cc)))

pub invariant_of-self-2 : goal.invariant_of-self-2
invariant_of-self-2 g t c =
    let here = at_place _ _ _ _ c.self.invariant (rw (c.deref.ensures.value, c.as_slice.ensures) at c.in-Ok.ensures.found) c.index_mut-entry.ensures.value in
    rising_set _ _ _ _ _ c.self.invariant here here.name

pub returns-clause-refusal : goal.returns-clause-refusal
returns-clause-refusal g t c =
    let here = at_place _ _ _ _ c.self.invariant (rw (c.deref.ensures.value, c.as_slice.ensures) at c.in-Ok.ensures.found) c.index_mut-entry.ensures.value in
    λ h. word_at (new_refused c.args.kind) (whole_is c.self.inside.id c.self.inside.entries _ c.self.view_is c.self.invariant) c.in-Some.ensures.cases.0 (c.prepare.ensures.refusal h ∙ ap (λ d. new_refused c.args.kind (whole d) c.in-Some.rest.now) c.deref_mut.ensures.value ∙ sym (refused_entry c.self.inside.id _ _ _ c.args.kind _ c.in-Some.rest.now here (cc) ∙ ap (λ n. new_refused c.args.kind (standing n) c.in-Some.rest.now) c.in-Directory.is))

pub returns-clause-same : goal.returns-clause-same
returns-clause-same g t c =
    let here = at_place _ _ _ _ c.self.invariant (rw (c.deref.ensures.value, c.as_slice.ensures) at c.in-Ok.ensures.found) c.index_mut-entry.ensures.value in
    whole_view c.self.inside.id (with_item c.self.inside.entries c.in-Ok.i record { name = c.index_mut-entry.result.now.name; node = Directory (with_value c.in-Directory.inner c.prepare.new.self) }) (invariant_of-self-2 g t c)
    ∙ ap (λ l. ([], FoundDirectory c.self.inside.id) ∷ l) (flatten_set_same standing c.self.inside.entries.items c.in-Ok.i c.index_mut-entry.result.now _ (Directory (with_value c.in-Directory.inner c.prepare.new.self)) here (c.prepare.ensures.same ∙ ap whole c.deref_mut.ensures.value ∙ sym (ap standing c.in-Directory.is)))
    ∙ sym (whole_is c.self.inside.id c.self.inside.entries _ c.self.view_is c.self.invariant)

pub returns-clause-room : goal.returns-clause-room
returns-clause-room g t c =
    let here = at_place _ _ _ _ c.self.invariant (rw (c.deref.ensures.value, c.as_slice.ensures) at c.in-Ok.ensures.found) c.index_mut-entry.ensures.value in
    rw c.in-Some.ensures.cases.0
    (on_ok_weaker c.prepare.result (λ h. subst (λ k. 0 < k) (sym (room_at c.self.inside.id _ c.in-Ok.i _ _ _ c.in-Some.rest.now (at_set c.self.inside.entries.items c.in-Ok.i c.index_mut-entry.result.now record { name = c.index_mut-entry.result.now.name; node = Directory (with_value c.in-Directory.inner c.prepare.new.self) } _ here here.name) (cc))) h) c.prepare.ensures.room)

pub returns-clause-err : goal.returns-clause-err
returns-clause-err g t c =
    on_err_weaker c.prepare.result (λ (h : c.prepare.new.self ≡ c.deref_mut.result.now). same_contents c.self.inside.id c.self.inside.entries c.in-Ok.i c.index_mut-entry.result.now (Directory (with_value c.in-Directory.inner c.prepare.new.self)) c.index_mut-entry.ensures.value (c.in-Directory.is ∙ ap (λ d. Directory (with_value c.in-Directory.inner d)) (sym (h ∙ c.deref_mut.ensures.value))) ∙ c.self.view_is) c.prepare.ensures.err

pub search-requires : goal.search-requires
search-requires g t c = rw c.deref.ensures.value c.self.invariant

pub same-self : goal.same-self
same-self g t c = refl

pub same-self-then-is_full : goal.same-self-then-is_full
same-self-then-is_full g t c = refl

pub invariant_of-self : goal.invariant_of-self
invariant_of-self g t c = rw c.make_ready.ensures.items c.self.invariant

pub invariant_of-self-in-Err-make_ready : goal.invariant_of-self-in-Err-make_ready
invariant_of-self-in-Err-make_ready g t c = rw c.make_ready.ensures.items c.self.invariant

pub same-self-then-is_empty : goal.same-self-then-is_empty
same-self-then-is_empty g t c = refl

pub index_mut-entry-requires : goal.index_mut-entry-requires
index_mut-entry-requires g t c = omega (arith, c.in-Ok.ensures.found.in_range, c.deref.ensures.len)

pub invariant_of-self-in_default-node : goal.invariant_of-self-in_default-node
invariant_of-self-in_default-node g t c =
    let here = at_place _ _ _ _ c.self.invariant (rw (c.deref.ensures.value, c.as_slice.ensures) at c.in-Ok.ensures.found) c.index_mut-entry.ensures.value in
    rising_set _ _ _ _ _ c.self.invariant here here.name

pub prepare-requires : goal.prepare-requires
prepare-requires g t c κs within = (search rules, search rules)
