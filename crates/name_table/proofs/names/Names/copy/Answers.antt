use Rattle.name_table.proofs.Copied.{copied_named, copied_standing}
use Rattle.name_table.proofs.names.Names.copy.Goals as goal

pub invariant_of-result : goal.invariant_of-result
invariant_of-result c =
    copied_named c.self.inside.tree.map c.in_ok-tree.tree.map c.self.inside.objects.entries c.in_ok-objects.objects.entries c.self.inside.objects.next c.in_ok-objects.objects.next c.self.inside.directories.entries c.in_ok-directories.directories.entries c.self.inside.directories.next c.in_ok-directories.directories.next c.self.invariant
    c.in_ok-tree.ensures.map c.in_ok-objects.ensures.clones c.in_ok-objects.ensures.next (c.in_ok-directories.ensures.entries (λ value clone is. is)) c.in_ok-directories.ensures.next

pub returns-clause-standing : goal.returns-clause-standing
returns-clause-standing c =
    rw (← c.self.view_is)
    (copied_standing c.self.inside.tree.map c.in_ok-tree.tree.map c.self.inside.objects.entries c.in_ok-objects.objects.entries c.self.inside.objects.next c.in_ok-objects.objects.next c.self.inside.directories.entries c.in_ok-directories.directories.entries c.self.inside.directories.next c.in_ok-directories.directories.next c.self.invariant
    c.in_ok-tree.ensures.map c.in_ok-objects.ensures.clones c.in_ok-objects.ensures.next (c.in_ok-directories.ensures.entries (λ value clone is. is)) c.in_ok-directories.ensures.next)
