use Rattle.std.proofs.Common.{length}
use Rattle.alloc_tree.proofs.directory.Directory.+place.Given as goal

abbrev pub decreases-place : goal.decreases-place
decreases-place g l = length l.path.now
