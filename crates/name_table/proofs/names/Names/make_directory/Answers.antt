use Rattle.name_table.proofs.Made.{made_named}
use Rattle.name_table.proofs.names.Names.make_directory.Goals as goal

pub invariant_of-self : goal.invariant_of-self
invariant_of-self c =
    rw (c.mkdir_commit.ensures.map, c.push_reserved.ensures.entries, c.push_reserved.ensures.next, c.deref.ensures.value, c.new.ensures, c.new-2.ensures, c.next-number.ensures)
    (made_named c.self.inside.tree.map c.self.inside.objects.entries c.self.inside.objects.next c.self.inside.directories.entries c.self.inside.directories.next c.self.invariant
    c.args.path.items (rw (← c.self.view_is) at c.requires.ready.tree.free))
