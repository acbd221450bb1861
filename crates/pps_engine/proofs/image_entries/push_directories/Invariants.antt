use Rattle.std.proofs.Common.{◌≡◌, ◌++◌}
use Rattle.pps_engine.specs.Entries.{saved_directories}
use Rattle.pps_engine.proofs.image_entries.push_directories.Given as goal

-- those that were pushed, and those still to come
abbrev pub invariant-loop-directory : goal.invariant-loop-directory
invariant-loop-directory l = l.entries.items ++ saved_directories l.directory-iterator ≡ l.initial.entries.items ++ saved_directories l.fn.directories
