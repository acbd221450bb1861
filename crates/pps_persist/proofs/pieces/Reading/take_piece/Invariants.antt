use Rattle.std.proofs.Common.{length}
use Rattle.pps_persist.specs.Begun.{IsSplit}
use Rattle.pps_persist.proofs.pieces.Reading.take_piece.Given as goal

abbrev pub invariant-lines : goal.invariant-lines
invariant-lines l = IsSplit l.fn.self l.piece l.reading l.rest

abbrev pub decreases-lines : goal.decreases-lines
decreases-lines l = length l.rest
