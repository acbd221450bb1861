use Rattle.std.proofs.Common.{◌≡◌, ◌+◌, ◌<◌, [], ◌∷◌, ◌++◌, length, take, sym, ap, subst, ◌∙◌, arith}
use Rattle.std.specs.List.{AllByRecursion}
use Rattle.std.proofs.lemmas.List.{take_more, take_all}
use Rattle.pps_types.specs.declared.record.Record.{Record}
use Rattle.topics.specs.Spans.{rows_from, IsBlind, IsUnseen}
use Rattle.topics.proofs.Spans.{rest-more}
use Rattle.topics.proofs.span.span_of_all.Goals as goal

pub entries-preserved : goal.entries-preserved
entries-preserved c =
    let es = c.args.entries.now in
    let i = c.entries.entry-index in
    let e = c.entry-item.result in
    let ss = c.args.rows.now.slots in
    let lt : i < length es = omega arith in
    let one : take (i + 1) es ≡ take i es ++ e ∷ [] = take_more es i e lt ∙ ap (λ x. take i es ++ x ∷ []) (sym c.entry-item.is) in
    record {
      bound = omega (arith, c.entries.invariant.bound, c.span_for-span.ensures.bound);
      behind = λ object.
          subst (λ xs. AllByRecursion (IsUnseen object xs) (rows_from c.max-end.result ss)) (sym one)
          (rest-more object (take i es) e c.entries.end c.span_for-span.result.to c.max-end.result ss (omega arith) (omega arith) (c.entries.invariant.behind object)
          (subst (λ (r : Record). AllByRecursion (IsBlind r.kind) (rows_from c.span_for-span.result.to ss)) c.record.ensures c.span_for-span.ensures.behind));
    }

pub returns : goal.returns
returns c = λ object. record {
  order = omega arith;
  bound = c.entries.invariant.bound;
  before = tt;
  behind = subst (λ xs. AllByRecursion (IsUnseen object xs) (rows_from c.entries.end c.args.rows.now.slots)) (take_all c.entries.entry-index c.args.entries.now (omega arith)) (c.entries.invariant.behind object);
}
