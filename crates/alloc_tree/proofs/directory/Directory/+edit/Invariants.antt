use Rattle.std.proofs.Common.{length}
use Rattle.alloc_tree.proofs.directory.Directory.+edit.Given as goal

abbrev pub decreases-edit : goal.decreases-edit
decreases-edit g l = length l.path.now
