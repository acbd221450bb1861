use Rattle.std.proofs.Common.{◌∙◌, sym, arith}
use Rattle.pps_filter.proofs.Escapes.{open-step}
use Rattle.pps_filter.proofs.read.ends_open.Goals as goal

pub loop-byte-preserved : goal.loop-byte-preserved
loop-byte-preserved c = sym (open-step _ _ c.args.value.now c.loop-byte.byte-index (omega arith) c.escapes-escaped.ensures) ∙ c.loop-byte.invariant
