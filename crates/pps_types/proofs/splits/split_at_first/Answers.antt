use Rattle.std.proofs.lemmas.List.{take_rest}
use Rattle.pps_types.proofs.Cuts.{split_at_first-is}
use Rattle.pps_types.proofs.splits.split_at_first.Goals as goal

pub returns-in_err-at : goal.returns-in_err-at
returns-in_err-at c = rw c.from_residual.ensures (rw c.in_err-at.was at (split_at_first-is c.args.byte c.args.bytes.now c.memchr.result c.memchr.ensures))

pub returns : goal.returns
returns c = rw take_rest (rw c.in_ok-at.was at (split_at_first-is c.args.byte c.args.bytes.now c.memchr.result c.memchr.ensures))
