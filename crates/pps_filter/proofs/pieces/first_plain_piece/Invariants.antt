use Rattle.std.proofs.Common.{◌≡◌, false, take, drop}
use Rattle.pps_types.specs.Bytes.{plain_pieces}
use Rattle.pps_filter.proofs.Plain.{in_front}
use Rattle.pps_filter.proofs.pieces.first_plain_piece.Given as goal

-- what stands before the index goes in front of the first piece of the rest
abbrev pub invariant-loop-i : goal.invariant-loop-i
invariant-loop-i l = in_front (take l.i l.bytes) (plain_pieces l.escaped l.separator (drop l.i l.bytes)) ≡ plain_pieces false l.separator l.bytes
