use Rattle.std.proofs.Common.{◌≡◌, ◌∙◌, ◌&&◌, ◌==◌, not, false, get_or, sym, rules, arith}
use Rattle.pps_filter.proofs.Plain.{in_front-nil, plain_pieces-some, pieces-step}
use Rattle.pps_filter.proofs.pieces.first_plain_piece.Goals as goal
use Rattle.pps_filter.proofs.pieces.first_plain_piece.Goals.{else-not-escaped-via-then-not-escaped+else-byte-separator, else-not-escaped-via-else-not-escaped}

pub loop-i-init : goal.loop-i-init
loop-i-init c = in_front-nil _ (plain_pieces-some false c.args.separator c.args.bytes.now)

pub loop-i-preserved : goal.loop-i-preserved
loop-i-preserved c =
    let e = c.loop-i.escaped in
    let byte = get_or c.args.bytes.now c.loop-i.i 0 in
    let other : (not e && byte == c.args.separator) ≡ false = elim c.else-not-escaped.branch [
      | else-not-escaped-via-then-not-escaped+else-byte-separator w ↦ search rules
      | else-not-escaped-via-else-not-escaped w ↦ search rules
    ] in
    sym (pieces-step e c.escapes-escaped.result c.args.separator c.args.bytes.now c.loop-i.i (omega arith) other c.escapes-escaped.ensures) ∙ c.loop-i.invariant
