use Rattle.std.proofs.Common.{◌∙◌, ap, sym, arith, Some}
use Rattle.pps_filter.proofs.Escapes.{value-all}
use Rattle.pps_filter.proofs.read.read_value.Goals as goal

pub returns-clause-ok : goal.returns-clause-ok
returns-clause-ok c =
    let read = value-all c.loop-byte.escaped c.loop-byte.bytes.items c.args.value.now c.loop-byte.byte-index (omega arith) c.loop-byte.invariant.rest c.loop-byte.invariant.closed in
    read ∙ ap Some (sym c.new.ensures)
