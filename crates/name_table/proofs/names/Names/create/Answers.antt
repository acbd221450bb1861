use Rattle.pps_types.specs.Names.{last_name}
use Rattle.std.proofs.Common.{refl}
use Rattle.name_table.specs.Standing.{content_of, standing_by}
use Rattle.name_table.proofs.Created.{created_named, added_path, above_found}
use Rattle.name_table.proofs.names.Names.create.Goals as goal

pub invariant_of-self : goal.invariant_of-self
invariant_of-self c =
    rw (c.add_commit.ensures.map, c.push_reserved.ensures.entries, c.push_reserved.ensures.next, c.deref.ensures.value, c.new.ensures, c.new-2.ensures, c.next-number.ensures)
    (created_named c.self.inside.tree.map c.self.inside.objects.entries c.self.inside.objects.next c.self.inside.directories.entries c.self.inside.directories.next c.self.invariant
    c.args.path.items
    (record { number = c.self.inside.objects.next; directory = c.args.directory; name = last_name c.args.path.items; nopersist = c.args.nopersist; server = c.args.server })
    c.new-attributes.result
    (added_path c.self.inside.tree.map c.self.inside.objects.entries c.self.inside.objects.next c.self.inside.directories.entries c.self.inside.directories.next c.self.invariant c.args.path.items (rw (← c.self.view_is) at c.requires.ready.tree.free)) (above_found (content_of (standing_by c.self.inside.objects.entries c.self.inside.objects.next c.self.inside.directories.entries c.self.inside.directories.next)) c.args.path.items c.args.directory (rw (← c.self.view_is) at c.requires.above)) refl refl c.new-attributes.ensures.attributes)
