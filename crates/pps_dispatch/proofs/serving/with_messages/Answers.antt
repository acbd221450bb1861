use Rattle.std.proofs.Common.{sym, ◌∙◌, arith}
use Rattle.pps_dispatch.specs.History.{with_messages_of}
use Rattle.pps_dispatch.proofs.Exchanging.{one_exchanged, all_exchanged}
use Rattle.pps_dispatch.proofs.serving.with_messages.Goals as goal

pub loop-number-preserved : goal.loop-number-preserved
loop-number-preserved c =
    let before = c.loop-number.invariant in
    one_exchanged _ _ _ _ _ _ _ _ _ before (sym c.requires) (omega (arith, c.loop-number-test.true, c.len-number-end.ensures, c.args.answered.ok))
    (c.exchange_messages.ensures ∙ (λ i. with_messages_of (c.index_mut.ensures.value i) (c.index_mut-in-loop-number.ensures.value i)))

pub returns : goal.returns
returns c =
    all_exchanged _ _ _ _ _ c.loop-number.invariant (omega (arith, c.loop-number-test.false, c.len-number-end.ensures, c.args.answered.ok))
