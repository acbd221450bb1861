-- What joins the pieces of a line.
use Rattle.std.proofs.Common.{append_assoc}

pub ruleset regroup = (append_assoc)
