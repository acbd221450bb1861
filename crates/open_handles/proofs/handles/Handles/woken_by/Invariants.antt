use Rattle.std.proofs.Common.{◌≡◌, take}
use Rattle.sub_reader.specs.Woken.{woken_by}
use Rattle.open_handles.specs.Whole.{handles_in}
use Rattle.open_handles.proofs.handles.Handles.woken_by.Given as goal

abbrev pub invariant-loop-entry : goal.invariant-loop-entry
invariant-loop-entry l = l.woken.items ≡ woken_by (take l.entry-index l.entries) (handles_in l.self)
