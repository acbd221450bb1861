use Rattle.name_table.proofs.Alongside.{same_so_far, not_same, not_as_long, same_in_all, nothing_left}
use Rattle.name_table.proofs.compared.same_directories.Goals as goal

pub loop-our-init : goal.loop-our-init
loop-our-init c = ((λ e. e), (λ e. e))

pub returns-in_default-next : goal.returns-in_default-next
returns-in_default-next c =
    ((λ h. absurd (let no = h in cc)), (λ same. absurd (not_as_long c.args.one c.args.other c.loop-our.ours c.loop-our.theirs c.loop-our.invariant c.in-Some.our.now c.next.new.self c.in-Some.ensures.steps c.in_default-next.ensures.steps.0 same)))

pub returns-then-not-same_directory : goal.returns-then-not-same_directory
returns-then-not-same_directory c = (
  (λ h. absurd (let no = h in cc)),
  (λ same. absurd (not_same c.args.one c.args.other c.loop-our.ours c.loop-our.theirs c.loop-our.invariant c.in-Some.our.now c.in-Some-next.their.now c.next.new.self c.next-in-Some.new.self c.in-Some.ensures.steps c.in-Some-next.ensures.steps
      (λ is. let yes = c.if-not-same_directory.ensures.1 is in cc) same)),
)

pub loop-our-preserved : goal.loop-our-preserved
loop-our-preserved c =
    same_so_far c.args.one c.args.other c.loop-our.ours c.loop-our.theirs c.loop-our.invariant c.in-Some.our.now c.in-Some-next.their.now c.next.new.self c.next-in-Some.new.self c.in-Some.ensures.steps c.in-Some-next.ensures.steps
    (c.same_directory.ensures.0 c.if-not-same_directory.false)

pub returns : goal.returns
returns c =
    let ends = nothing_left c.loop-our.theirs c.next-2.new.self c.next-2.result c.is_none.result c.next-2.ensures.steps c.is_none.ensures in
    let both = same_in_all c.args.one c.args.other c.loop-our.ours c.loop-our.theirs c.loop-our.invariant c.in_default.ensures.steps.0 in
    ((λ is. both.1 (ends.0 is)), (λ same. ends.1 (both.0 same)))
