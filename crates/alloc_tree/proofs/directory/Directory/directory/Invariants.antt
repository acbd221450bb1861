use Rattle.std.proofs.Common.{take}
use Rattle.alloc_tree.specs.Contents.{whole}
use Rattle.alloc_tree.specs.Walk.{LeadsTo}
use Rattle.alloc_tree.proofs.directory.Directory.directory.Given as goal

abbrev pub invariant-loop-name : goal.invariant-loop-name
invariant-loop-name g l = LeadsTo (whole l.self) (take l.name-index l.path) (whole l.here)
