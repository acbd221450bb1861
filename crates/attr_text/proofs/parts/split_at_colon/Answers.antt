use Rattle.std.proofs.lemmas.List.{take_rest}
use Rattle.pps_types.proofs.Cuts.{split_at_first-is}
use Rattle.attr_text.proofs.parts.split_at_colon.Goals as goal

pub returns-in_err-at : goal.returns-in_err-at
returns-in_err-at c = rw c.from_residual.ensures (rw c.in_err-at.was at (split_at_first-is 58 c.args.bytes.now c.colon_in.result c.colon_in.ensures))

pub returns : goal.returns
returns c = rw take_rest (rw c.in_ok-at.was at (split_at_first-is 58 c.args.bytes.now c.colon_in.result c.colon_in.ensures))
