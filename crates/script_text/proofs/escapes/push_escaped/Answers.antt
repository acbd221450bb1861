use Rattle.std.proofs.lemmas.List.{take_rest}
use Rattle.script_text.proofs.Escaping.{piece-behind}
use Rattle.script_text.proofs.escapes.push_escaped.Goals as goal

pub pieces-preserved : goal.pieces-preserved
pieces-preserved c =
    rw (take_rest, c.in_ok-extend_from_slice.ensures.items, c.write_piece-taken.ensures.text) (piece-behind c.pieces.out.items c.pieces.rest.now _ c.write_piece-taken.result.0 c.pieces.invariant)
