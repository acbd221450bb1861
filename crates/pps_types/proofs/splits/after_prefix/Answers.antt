use Rattle.pps_types.proofs.Cuts.{after_prefix-stripped}
use Rattle.pps_types.proofs.splits.after_prefix.Goals as goal

pub returns : goal.returns
returns c = after_prefix-stripped c.args.prefix.now c.args.bytes.now c.strip_prefix.result c.strip_prefix.ensures.cases
