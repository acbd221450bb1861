use Rattle.std.proofs.Common.{[], sym, ap, subst, ◌∙◌, arith}
use Rattle.pps_types.specs.Plan.{left}
use Rattle.sub_reader.specs.Opened.{opened}
use Rattle.sub_reader.specs.Places.{seen_at, IsPlace, IsAt}
use Rattle.sub_reader.proofs.Passing.{passed-all, passed-at, passed-seen, passed-other}
use Rattle.sub_reader.proofs.passed.passed.Goals as goal

pub returns-in_default : goal.returns-in_default
returns-in_default c = record {
  is = c.requires;
  seen = passed-other (opened c.args.target [] c.args.opening.now) c.args.records.now.start c.args.records.now.items c.args.count c.args.place c.requires c.in_default.not-At;
}

pub returns-then-count-owed-clause-seen : goal.returns-then-count-owed-clause-seen
returns-then-count-owed-clause-seen c =
    let h = opened c.args.target [] c.args.opening.now in
    let is : IsAt h c.args.records.now.start c.args.records.now.items c.in-At.first c.in-At.owed = subst (IsPlace h c.args.records.now.start c.args.records.now.items) c.in-At.is c.requires in
    passed-all h c.args.records.now.start c.args.records.now.items c.in-At.first c.in-At.owed c.args.count is (omega (arith, c.if-count-owed.true))
    ∙ sym (ap (λ p. left h c.args.count (seen_at c.args.records.now.start c.args.records.now.items p)) c.in-At.is)

pub returns-clause-is : goal.returns-clause-is
returns-clause-is c =
    let h = opened c.args.target [] c.args.opening.now in
    let is : IsAt h c.args.records.now.start c.args.records.now.items c.in-At.first c.in-At.owed = subst (IsPlace h c.args.records.now.start c.args.records.now.items) c.in-At.is c.requires in
    passed-at h c.args.records.now.start c.args.records.now.items c.in-At.first c.in-At.owed c.args.count c.behind.result is (omega (arith, c.if-count-owed.false)) (omega (arith, is.from_start, c.behind.ensures.from_start)) c.behind.ensures.place

pub returns-clause-seen : goal.returns-clause-seen
returns-clause-seen c =
    let h = opened c.args.target [] c.args.opening.now in
    let is : IsAt h c.args.records.now.start c.args.records.now.items c.in-At.first c.in-At.owed = subst (IsPlace h c.args.records.now.start c.args.records.now.items) c.in-At.is c.requires in
    passed-seen h c.args.records.now.start c.args.records.now.items c.in-At.first c.in-At.owed c.args.count c.behind.result is (omega (arith, c.if-count-owed.false)) (omega (arith, is.from_start, c.behind.ensures.from_start)) c.behind.ensures.place
    ∙ sym (ap (λ p. left h c.args.count (seen_at c.args.records.now.start c.args.records.now.items p)) c.in-At.is)
