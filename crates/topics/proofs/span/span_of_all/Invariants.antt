use Rattle.std.proofs.Common.{◌≤◌, ℕ, length, take}
use Rattle.std.specs.List.{AllByRecursion}
use Rattle.topics.specs.Spans.{rows_from, IsUnseen}
use Rattle.topics.proofs.span.span_of_all.Given as goal

-- behind the end none is given one of the records so far
abbrev pub invariant-entries : goal.invariant-entries
invariant-entries l = record {
  bound : l.end ≤ length l.rows.slots;
  behind : (object : ℕ) → AllByRecursion (IsUnseen object (take l.entry-index l.entries)) (rows_from l.end l.rows.slots);
}
