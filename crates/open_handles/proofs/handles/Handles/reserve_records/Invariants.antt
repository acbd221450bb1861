use Rattle.std.proofs.Common.{take, IfSome}
use Rattle.std.specs.List.{AllByRecursion}
use Rattle.open_handles.specs.Whole.{IsReserved, IsReadyFor}
use Rattle.open_handles.proofs.handles.Handles.reserve_records.Given as goal

abbrev pub invariant-loop-entry : goal.invariant-loop-entry
invariant-loop-entry l = record {
  reserved : IsReserved l.fn.self l.self;
  ready : AllByRecursion (IsReadyFor l.entries l.self) (take l.entry-index l.entries);
  before : IfSome l.before (λ e. IsReadyFor l.entries l.self e.now);
}
