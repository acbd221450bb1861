use Rattle.std.proofs.Common.{rules, true, ◌≡◌, [], ◌<◌, ◌-◌, ℕ, subst, ◌∙◌, arith, Some}
use Rattle.std.specs.Result.{is_ok}
use Rattle.std.specs.List.{insert}
use Rattle.std.specs.Box.{with_value}
use Rattle.std.specs.Vec.{with_item}
use Rattle.pps_types.specs.declared.found.Found.TheVariants.{Directory as FoundDirectory}
use Rattle.alloc_tree.specs.declared.directory.Node.TheVariants.{Directory}
use Rattle.alloc_tree.specs.View.{standing, node_found}
use Rattle.alloc_tree.proofs.Ordered.{whole_is, changed}
use Rattle.alloc_tree.proofs.Places.{at_place}
use Rattle.alloc_tree.proofs.Levels.{no_names}
use Rattle.alloc_tree.proofs.News.{ends_at_gap, goes_on, free_below, no_object_there, room_at, last_of}
use Rattle.alloc_tree.proofs.Edits.{rising_set, rising_insert, rising_if, changes_set, changes_insert, changes_new}
use Rattle.alloc_tree.proofs.directory.Directory.+place.Goals as goal

pub invariant_of-self : goal.invariant_of-self
invariant_of-self g t c =
    let gap = rw (c.deref.ensures.value, c.as_slice.ensures) at c.in-Err.ensures.absent in
    let free = rw (whole_is c.self.inside.id c.self.inside.entries _ c.self.view_is c.self.invariant, c.in-Some.ensures.cases.0) at c.requires.free in
    let none : c.in-Some.rest.now ≡ [] = no_names c.in-Some.rest.now (ends_at_gap c.self.inside.id _ _ _ c.in-Some.rest.now free gap) in
    let is : c.args.name.items ≡ c.in-Some.first.now = rw (c.in-Some.ensures.cases.0, none) at c.requires.name in
    rw c.insert.ensures.items (rising_if (is_ok c.insert.result) c.self.inside.entries.items _ c.self.invariant (rising_insert c.self.inside.entries.items c.in-Err.i record { name = c.args.name; node = c.args.node } _ c.self.invariant gap is))

pub returns-in-Err : goal.returns-in-Err
returns-in-Err g t c =
    let gap = rw (c.deref.ensures.value, c.as_slice.ensures) at c.in-Err.ensures.absent in
    let free = rw (whole_is c.self.inside.id c.self.inside.entries _ c.self.view_is c.self.invariant, c.in-Some.ensures.cases.0) at c.requires.free in
    let none : c.in-Some.rest.now ≡ [] = no_names c.in-Some.rest.now (ends_at_gap c.self.inside.id _ _ _ c.in-Some.rest.now free gap) in
    let is : c.args.name.items ≡ c.in-Some.first.now = rw (c.in-Some.ensures.cases.0, none) at c.requires.name in
    let room = rw (← c.self.view_is, c.in-Some.ensures.cases.0, none) at c.requires.room in
    let went : is_ok c.insert.result ≡ true = c.insert.ensures.succeeds (omega (arith, room)) in
    let now : c.insert.new.self.items ≡ insert c.self.inside.entries.items c.in-Err.i record { name = c.args.name; node = c.args.node } = rw went at c.insert.ensures.items in
    rw (← c.self.view_is, c.in-Some.ensures.cases.0, none)
    (changed c.self.inside.id c.self.inside.entries c.insert.new.self _ _ c.self.invariant (invariant_of-self g t c) (rw now (changes_insert standing (FoundDirectory c.self.inside.id) _ _ _ record { name = c.args.name; node = c.args.node } [] (Some (node_found c.args.node)) gap is (rw c.requires.alone (changes_new (node_found c.args.node))))))

pub unreachable-requires-in_default-node : goal.unreachable-requires-in_default-node
unreachable-requires-in_default-node g t c =
    let here = at_place _ _ _ _ c.self.invariant (rw (c.deref.ensures.value, c.as_slice.ensures) at c.in-Ok.ensures.found) c.index_mut-entry.ensures.value in
    no_object_there c.self.inside.id _ _ _ c.in-Some.rest.now (rw (whole_is c.self.inside.id c.self.inside.entries _ c.self.view_is c.self.invariant, c.in-Some.ensures.cases.0) at c.requires.free) _ c.in_default-node.field-0 here c.in_default-node.is

pub place-requires : goal.place-requires
place-requires g t c κs within =
    let here = at_place _ _ _ _ c.self.invariant (rw (c.deref.ensures.value, c.as_slice.ensures) at c.in-Ok.ensures.found) c.index_mut-entry.ensures.value in
    let free = rw (whole_is c.self.inside.id c.self.inside.entries _ c.self.view_is c.self.invariant, c.in-Some.ensures.cases.0) at c.requires.free in
    let on = goes_on c.self.inside.id _ _ _ c.in-Some.rest.now free _ here in
    let room = rw (← c.self.view_is, c.in-Some.ensures.cases.0) at c.requires.room in
    let kept = subst (λ (k : ℕ). 0 < k) (room_at c.self.inside.id c.self.inside.entries.items c.in-Ok.i c.in-Some.first.now (c.self.inside.entries.cap - c.self.inside.entries.len) c.index_mut-entry.result.now c.in-Some.rest.now here on) room in
    let last = (rw c.in-Some.ensures.cases.0 at c.requires.name) ∙ last_of c.in-Some.first.now c.in-Some.rest.now on in
    (search rules, (search rules, (rw (c.in-Directory.is, ← c.deref_mut.ensures.value) at (free_below c.self.inside.id _ _ _ c.in-Some.rest.now free _ here), (rw (c.in-Directory.is, ← c.deref_mut.ensures.value) at kept, (last, c.requires.alone)))))

pub invariant_of-self-2 : goal.invariant_of-self-2
invariant_of-self-2 g t c =
    let here = at_place _ _ _ _ c.self.invariant (rw (c.deref.ensures.value, c.as_slice.ensures) at c.in-Ok.ensures.found) c.index_mut-entry.ensures.value in
    rising_set _ _ _ _ _ c.self.invariant here here.name

pub returns : goal.returns
returns g t c =
    let here = at_place _ _ _ _ c.self.invariant (rw (c.deref.ensures.value, c.as_slice.ensures) at c.in-Ok.ensures.found) c.index_mut-entry.ensures.value in
    rw (← c.self.view_is, c.in-Some.ensures.cases.0)
    (changed c.self.inside.id c.self.inside.entries (with_item c.self.inside.entries c.in-Ok.i record { name = c.index_mut-entry.result.now.name; node = Directory (with_value c.in-Directory.inner c.place.new.self) }) _ _ c.self.invariant (invariant_of-self-2 g t c) (changes_set standing (FoundDirectory c.self.inside.id) _ _ _ c.index_mut-entry.result.now _ c.in-Some.rest.now (Some (node_found c.args.node)) here here.name (rw (c.in-Directory.is, ← c.deref_mut.ensures.value) c.place.ensures)))
