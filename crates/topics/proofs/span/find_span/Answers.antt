use Rattle.std.proofs.Common.{◌≡◌, [], ◌∷◌, sym, subst}
use Rattle.pps_types.specs.declared.record.Record.{Record}
use Rattle.topics.specs.QueueRows.{IsQueued}
use Rattle.topics.specs.Spans.{IsSpan, IsBlind, IsUnseen}
use Rattle.topics.proofs.Spans.{span-other, blind-unseen, only-one}
use Rattle.topics.proofs.span.find_span.Goals as goal

pub returns-in-len1 : goal.returns-in-len1
returns-in-len1 c object =
    let span = c.span_for.result in
    let e = c.entry-item.result in
    let one : c.args.entries.now ≡ e ∷ [] = only-one e c.args.entries.now c.in-len1.len_at_least c.in-len1.len_below c.entry-item.is in
    let blind : IsSpan (IsBlind e.record_of.kind) span.from span.to c.args.rows.now.slots = subst (λ (r : Record). IsSpan (IsBlind r.kind) span.from span.to c.args.rows.now.slots) c.record.ensures c.span_for.ensures in
    subst (λ es. IsSpan (IsUnseen object es) span.from span.to c.args.rows.now.slots) (sym one)
    (span-other IsQueued (IsBlind e.record_of.kind) (IsUnseen object (e ∷ [])) (λ x is none. (blind-unseen object e x none, tt)) span.from span.to c.args.rows.now.slots c.requires.queue blind)
