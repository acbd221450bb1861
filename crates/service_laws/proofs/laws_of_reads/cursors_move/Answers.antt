use Rattle.service_laws.proofs.ReadMoves.{cursors-move}
use Rattle.service_laws.proofs.laws_of_reads.cursors_move.Goals as goal

pub returns : goal.returns
returns c = cursors-move
