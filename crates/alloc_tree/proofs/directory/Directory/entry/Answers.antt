use Rattle.std.proofs.Common.{[], Some, sym, ap, ◌∙◌}
use Rattle.alloc_tree.specs.View.{standing}
use Rattle.alloc_tree.proofs.Ordered.{whole_is}
use Rattle.alloc_tree.proofs.Places.{at_place}
use Rattle.alloc_tree.proofs.Levels.{at_entry, at_gap}
use Rattle.alloc_tree.proofs.Ways.{found_alone}
use Rattle.alloc_tree.proofs.directory.Directory.entry.Goals as goal

pub returns-in-Err : goal.returns-in-Err
returns-in-Err g c =
    rw (whole_is c.self.inside.id c.self.inside.entries _ c.self.view_is c.self.invariant)
    (sym (at_gap standing c.self.inside.entries.items _ c.args.name.now [] (rw c.deref.ensures.value at c.in-Err.ensures.absent)))

pub returns-in-Ok : goal.returns-in-Ok
returns-in-Ok g c =
    let here = at_place _ _ _ _ c.self.invariant (rw c.deref.ensures.value at c.in-Ok.ensures.found) c.index.ensures in
    rw (whole_is c.self.inside.id c.self.inside.entries _ c.self.view_is c.self.invariant)
    (ap Some c.found_of.ensures ∙ sym (at_entry standing c.self.inside.entries.items _ _ c.args.name.now [] here ∙ found_alone _))
