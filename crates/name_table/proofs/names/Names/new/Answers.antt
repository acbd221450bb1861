use Rattle.name_table.proofs.First.{first}
use Rattle.name_table.proofs.names.Names.new.Goals as goal

pub invariant_of-result : goal.invariant_of-result
invariant_of-result c =
    rw (c.push_reserved.ensures.entries, c.reserve.ensures.entries, c.new-directories.ensures.entries, c.new.ensures, c.new-2.ensures.items, c.push_reserved.ensures.next, c.new-3.ensures.map, c.new-4.ensures.entries, c.new-4.ensures.next)
    first
