use Rattle.std.proofs.Common.{◌∙◌, sym, arith}
use Rattle.alloc_tree.proofs.FourBytes.{four_decide, four_pass}
use Rattle.alloc_tree.proofs.compare.order.Goals as goal

pub returns-then-mine-others : goal.returns-then-mine-others
returns-then-mine-others c =
    let within = c.loop-passed.invariant.within in
    let mine = c.four_at-mine.ensures in
    let others = c.four_at-others.ensures in
    four_decide c.args.one.now c.args.other.now c.loop-passed.passed (omega (arith, c.min-shorter.ensures, c.min-both.ensures)) (omega (arith, c.min-shorter.ensures, c.min-both.ensures)) mine.bytes others.bytes
    c.cmp.result (rw (← mine.value, ← others.value) c.cmp.ensures) (rw (← mine.value, ← others.value) c.if-mine-others.true)
    ∙ sym c.loop-passed.invariant.rest

pub loop-passed-preserved : goal.loop-passed-preserved
loop-passed-preserved c =
    let mine = c.four_at-mine.ensures in
    let others = c.four_at-others.ensures in
    record {
      within = omega (arith, c.loop-passed.invariant.within);
      rest = c.loop-passed.invariant.rest ∙ four_pass c.args.one.now c.args.other.now c.loop-passed.passed (omega (arith, c.min-shorter.ensures, c.min-both.ensures)) (omega (arith, c.min-shorter.ensures, c.min-both.ensures)) mine.bytes others.bytes (sym mine.value ∙ c.if-mine-others.false ∙ others.value);
    }
