use Rattle.std.proofs.Common.{sym, subst}
use Rattle.std.proofs.Math.Numerals.{add-one}
use Rattle.topics.specs.Spans.{IsSpan, IsOther}
use Rattle.topics.proofs.Spans.{place-span, gap-span}
use Rattle.topics.proofs.span.span_of_one.Goals as goal

pub returns-in-None : goal.returns-in-None
returns-in-None c = gap-span c.args.number c.in-None.ensures.absent.0 c.args.rows.now.slots c.in-None.ensures.absent.1

pub returns-in-Some : goal.returns-in-Some
returns-in-Some c = subst (λ n. IsSpan (IsOther c.args.number) c.in-Some.place n c.args.rows.now.slots) (sym (add-one c.in-Some.place))
    (place-span c.args.number c.in-Some.place c.args.rows.now.slots c.in-Some.ensures.row c.in-Some.ensures.found)
