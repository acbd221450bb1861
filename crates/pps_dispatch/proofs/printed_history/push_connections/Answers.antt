use Rattle.std.proofs.Common.{ap, ◌∙◌, ◌++◌}
use Rattle.std.specs.Prelude.{codes, decimal}
use Rattle.pps_dispatch.proofs.Texts.{history-next}
use Rattle.pps_dispatch.proofs.printed_history.push_connections.Goals as goal

pub loop-entry-preserved : goal.loop-entry-preserved
loop-entry-preserved c =
    history-next c.args.entries.now c.loop-entry.entry-index c.entry-item.result c.args.out.now.items c.loop-entry.out.items c.extend_from_slice.new.self.items c.as_bytes.result.now
    c.loop-entry-test.true c.entry-item.is c.loop-entry.invariant c.in_ok-extend_from_slice.ensures.items
    (c.as_bytes.ensures.value ∙ c.in_ok-line.ensures.ok ∙ ap (λ n. decimal n ++ codes "\n") (c.number-number.ensures.same ∙ ap (λ e. e.conn) c.event.ensures))
