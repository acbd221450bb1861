use Rattle.std.proofs.Common.{length}
use Rattle.service_rows.proofs.images.+restore_lines.Given as goal

abbrev pub decreases-restore_lines : goal.decreases-restore_lines
decreases-restore_lines l = length l.lines.now
