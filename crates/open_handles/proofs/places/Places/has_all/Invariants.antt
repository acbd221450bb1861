use Rattle.std.specs.List.{AllByRecursion}
use Rattle.open_handles.specs.Whole.{HasSame}
use Rattle.open_handles.proofs.places.Places.has_all.Given as goal

-- so far they have the same, so what is left decides
abbrev pub invariant-loop-each : goal.invariant-loop-each
invariant-loop-each l = (AllByRecursion (HasSame l.fn.self) l.fn.topic → AllByRecursion (HasSame l.fn.self) l.rest) × (AllByRecursion (HasSame l.fn.self) l.rest → AllByRecursion (HasSame l.fn.self) l.fn.topic)
