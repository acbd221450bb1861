use Rattle.alloc_tree.proofs.Ordered.{whole_is}
use Rattle.alloc_tree.proofs.Places.{at_place}
use Rattle.alloc_tree.proofs.Ways.{way_in, way_past_object, way_absent}
use Rattle.alloc_tree.proofs.directory.Directory.child.Goals as goal

pub returns-in-Err-clause-none : goal.returns-in-Err-clause-none
returns-in-Err-clause-none g c =
    rw (whole_is c.self.inside.id c.self.inside.entries _ c.self.view_is c.self.invariant)
    (way_absent c.self.inside.id _ _ _ (rw c.deref.ensures.value at c.in-Err.ensures.absent))

pub returns-in-Object-clause-none : goal.returns-in-Object-clause-none
returns-in-Object-clause-none g c =
    let here = at_place _ _ _ _ c.self.invariant (rw c.deref.ensures.value at c.in-Ok.ensures.found) c.index.ensures in
    rw (whole_is c.self.inside.id c.self.inside.entries _ c.self.view_is c.self.invariant)
    (way_past_object c.self.inside.id _ _ _ _ c.in-Object.field-0 here c.in-Object.is)

pub returns-in-Directory-clause-found : goal.returns-in-Directory-clause-found
returns-in-Directory-clause-found g c =
    let here = at_place _ _ _ _ c.self.invariant (rw c.deref.ensures.value at c.in-Ok.ensures.found) c.index.ensures in
    rw (whole_is c.self.inside.id c.self.inside.entries _ c.self.view_is c.self.invariant)
    (rw c.as_ref.ensures (way_in c.self.inside.id _ _ _ _ c.in-Directory.inner here c.in-Directory.is))
