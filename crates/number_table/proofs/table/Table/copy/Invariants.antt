use Rattle.std.proofs.Common.{◌≡◌, ◌≤◌, ◌+◌, ◌++◌, List, length, map}
use Rattle.std.specs.List.{AllZip}
use Rattle.number_table.specs.Numbered.{Entry, IsCloneEntry}
use Rattle.number_table.specs.Index.{Rises, entries_in, slots_in}
use Rattle.number_table.proofs.table.Table.copy.Given as goal

-- the copy has clones of the entries so far, and room for those that are left, whose numbers go on rising
abbrev pub invariant-loop-first : goal.invariant-loop-first
invariant-loop-first g l =
    let left = entries_in (slots_in l.self-inside.values l.rest) in
    record {
      rises : Rises l.copy.next (map (λ e. e.number) left) l.self.next;
      room : length left ≤ l.copy.room;
      taken : l.copy.taken + length left ≡ length l.self.entries;
      clones : (es : List (Entry g.row.T.Denot)) × (l.self.entries ≡ es ++ left) × AllZip (IsCloneEntry g.T.Clone.is_clone) es l.copy.entries;
    }

abbrev pub decreases-loop-first : goal.decreases-loop-first
decreases-loop-first g l = length (entries_in (slots_in l.self-inside.values l.rest))
