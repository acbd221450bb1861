use Rattle.std.proofs.Common.{◌≡◌, ◌≤◌, drop, length, ap, subst, arith}
use Rattle.sub_reader.specs.Rows.{rows_in}
use Rattle.topics.specs.QueueRows.{IsOfClient, IsLed}
use Rattle.topics.specs.Spans.{rows_from}
use Rattle.topics.proofs.Spans.{span-is, whole-span, first-span}
use Rattle.topics.proofs.span.span_of_servers.Goals as goal

pub returns-then-not-led : goal.returns-then-not-led
returns-then-not-led c = span-is IsOfClient _ _ _ _ c.args.rows.now.slots c.whole_span.ensures.from c.whole_span.ensures.to (whole-span IsOfClient c.args.rows.now.slots)

pub returns : goal.returns
returns c =
    let ss = c.args.rows.now.slots in
    let n = c.end_of_first.result in
    let bound : n ≤ length ss = omega (arith, c.end_of_first.ensures.bound, ap length c.slots.ensures) in
    let rows : rows_from n ss ≡ drop 1 (rows_in ss) = rw c.slots.ensures at c.end_of_first.ensures.rows in
    first-span n ss bound rows (subst (λ b. IsLed b (rows_in ss)) c.if-not-led.false c.requires)
