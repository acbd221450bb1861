use Rattle.std.proofs.Common.{length}
use Rattle.alloc_tree.proofs.directory.Directory.+prepare.Given as goal

abbrev pub decreases-prepare : goal.decreases-prepare
decreases-prepare g l = length l.path.now
