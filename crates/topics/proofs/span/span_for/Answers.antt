use Rattle.std.proofs.Common.{sym, subst}
use Rattle.pps_types.specs.declared.record.Kind.TheVariants.{Opened, Closed, FromClient, ToClient}
use Rattle.topics.specs.QueueRows.{IsQueued, IsOfClient}
use Rattle.topics.specs.Spans.{IsSpan, IsOther, IsBlind}
use Rattle.topics.proofs.Spans.{span-is, span-other, whole-span, none-span, other-blind, from-blind, opened-blind, closed-blind}
use Rattle.topics.proofs.span.span_for.Goals as goal

pub returns-in-ToClient : goal.returns-in-ToClient
returns-in-ToClient c =
    subst (λ k. IsSpan (IsBlind k) c.span_of_one.result.from c.span_of_one.result.to c.args.rows.now.slots) (sym c.in-ToClient.is)
    (span-other IsQueued (IsOther c.in-ToClient.id) (IsBlind (ToClient c.in-ToClient.id c.in-ToClient.field-1)) (other-blind c.in-ToClient.id c.in-ToClient.field-1) c.span_of_one.result.from c.span_of_one.result.to c.args.rows.now.slots c.requires.queue
    c.span_of_one.ensures)

pub returns-in-FromClient : goal.returns-in-FromClient
returns-in-FromClient c =
    let span = c.span_of_servers.result in
    subst (λ k. IsSpan (IsBlind k) span.from span.to c.args.rows.now.slots) (sym c.in-FromClient.is)
    (span-other IsQueued IsOfClient (IsBlind (FromClient c.in-FromClient.field-0 c.in-FromClient.field-1)) (from-blind c.in-FromClient.field-0 c.in-FromClient.field-1) span.from span.to c.args.rows.now.slots c.requires.queue c.span_of_servers.ensures)

pub returns-in-Opened : goal.returns-in-Opened
returns-in-Opened c =
    let span = c.span_of_servers-in-Opened.result in
    subst (λ k. IsSpan (IsBlind k) span.from span.to c.args.rows.now.slots) (sym c.in-Opened.is)
    (span-other IsQueued IsOfClient (IsBlind (Opened c.in-Opened.field-0)) (opened-blind c.in-Opened.field-0) span.from span.to c.args.rows.now.slots c.requires.queue c.span_of_servers-in-Opened.ensures)

pub returns-in-Closed : goal.returns-in-Closed
returns-in-Closed c =
    let span = c.span_of_servers-in-Closed.result in
    subst (λ k. IsSpan (IsBlind k) span.from span.to c.args.rows.now.slots) (sym c.in-Closed.is)
    (span-other IsQueued IsOfClient (IsBlind (Closed c.in-Closed.field-0)) (closed-blind c.in-Closed.field-0) span.from span.to c.args.rows.now.slots c.requires.queue c.span_of_servers-in-Closed.ensures)

pub returns-in-ToAll : goal.returns-in-ToAll
returns-in-ToAll c = span-is (IsBlind c.args.kind.now) _ _ _ _ c.args.rows.now.slots c.whole_span.ensures.from c.whole_span.ensures.to (whole-span (IsBlind c.args.kind.now) c.args.rows.now.slots)

pub returns-in-Deleted : goal.returns-in-Deleted
returns-in-Deleted c = span-is (IsBlind c.args.kind.now) _ _ _ _ c.args.rows.now.slots c.whole_span-in-Deleted.ensures.from c.whole_span-in-Deleted.ensures.to (whole-span (IsBlind c.args.kind.now) c.args.rows.now.slots)

pub returns-in_default : goal.returns-in_default
returns-in_default c = let no = c.in_default in none-span c.args.kind.now no.not-Deleted no.not-Opened no.not-Closed no.not-FromClient no.not-ToClient no.not-ToAll c.args.rows.now.slots c.requires.queue
