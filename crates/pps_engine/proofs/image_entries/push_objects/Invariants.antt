use Rattle.std.proofs.Common.{◌≡◌, ◌++◌}
use Rattle.pps_engine.specs.Entries.{saved_objects}
use Rattle.pps_engine.proofs.image_entries.push_objects.Given as goal

-- those that were pushed, and those still to come
abbrev pub invariant-loop-object : goal.invariant-loop-object
invariant-loop-object l = l.entries.items ++ saved_objects l.object-iterator ≡ l.initial.entries.items ++ saved_objects l.fn.objects
