use Rattle.std.proofs.Common.{◌≡◌, ◌∙◌, [], sym, ap, arith, drop, ◌-◌}
use Rattle.pps_types.specs.Reading.{visible}
use Rattle.pps_types.specs.Rests.{from_first, past}
use Rattle.sub_reader.specs.Opened.{opened}
use Rattle.sub_reader.proofs.Skips.{skipped, counted, first, at_end}
use Rattle.sub_reader.proofs.passed.behind.Goals as goal

pub rest-preserved-then-not-is_visible : goal.rest-preserved-then-not-is_visible
rest-preserved-then-not-is_visible c = record {
  same = skipped (visible (opened c.args.target [] c.args.opening.now)) c.args.records.now.start c.args.records.now.items c.rest.position c.at.result.now (omega arith) c.at.ensures c.rest.left (sym c.is_visible.ensures ∙ c.if-not-is_visible.true)
      ∙ c.rest.invariant.same;
}

pub returns-then-left-eq0-clause-place : goal.returns-then-left-eq0-clause-place
returns-then-left-eq0-clause-place c =
    first (visible (opened c.args.target [] c.args.opening.now)) c.args.records.now.start c.args.records.now.items c.rest.position c.at.result.now (omega arith) c.at.ensures (sym c.is_visible.ensures ∙ c.if-not-is_visible.false)
    ∙ ap (λ n. from_first (visible (opened c.args.target [] c.args.opening.now)) (past (visible (opened c.args.target [] c.args.opening.now)) n (drop (c.rest.position - c.args.records.now.start) c.args.records.now.items))) (let z : 0 ≡ c.rest.left = omega arith in z)
    ∙ c.rest.invariant.same

pub rest-preserved : goal.rest-preserved
rest-preserved c = record {
  same = counted (visible (opened c.args.target [] c.args.opening.now)) c.args.records.now.start c.args.records.now.items c.rest.position c.at.result.now (omega arith) c.at.ensures c.rest.left (sym c.is_visible.ensures ∙ c.if-not-is_visible.false) (omega arith)
      ∙ c.rest.invariant.same;
}

pub returns-clause-place : goal.returns-clause-place
returns-clause-place c =
    at_end (visible (opened c.args.target [] c.args.opening.now)) c.args.records.now.start c.args.records.now.items c.rest.left c.end-end.result (omega arith)
    ∙ ap (λ n. from_first (visible (opened c.args.target [] c.args.opening.now)) (past (visible (opened c.args.target [] c.args.opening.now)) c.rest.left (drop (n - c.args.records.now.start) c.args.records.now.items))) (let z : c.end-end.result ≡ c.rest.position = omega arith in z)
    ∙ c.rest.invariant.same
