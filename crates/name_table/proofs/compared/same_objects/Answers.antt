use Rattle.std.proofs.Common.{map, ap}
use Rattle.name_table.specs.Standing.{known_of}
use Rattle.name_table.proofs.Alongside.{same_so_far, not_same, not_as_long, same_in_all, nothing_left, no_knowns}
use Rattle.name_table.proofs.compared.same_objects.Goals as goal

pub loop-our-init : goal.loop-our-init
loop-our-init c = ((λ e. e), (λ e. e))

pub returns-in_default-next : goal.returns-in_default-next
returns-in_default-next c =
    ((λ h. absurd (let no = h in cc)), (λ same. absurd (not_as_long (map known_of c.args.one) (map known_of c.args.other) (map known_of c.loop-our.ours) (map known_of c.loop-our.theirs) c.loop-our.invariant (known_of c.in-Some.our.now) (map known_of c.next.new.self) (ap (map known_of) c.in-Some.ensures.steps) (ap (map known_of) c.in_default-next.ensures.steps.0) same)))

pub returns-then-not-same_object : goal.returns-then-not-same_object
returns-then-not-same_object c = (
  (λ h. absurd (let no = h in cc)),
  (λ same. absurd (not_same (map known_of c.args.one) (map known_of c.args.other) (map known_of c.loop-our.ours) (map known_of c.loop-our.theirs) c.loop-our.invariant (known_of c.in-Some.our.now) (known_of c.in-Some-next.their.now) (map known_of c.next.new.self) (map known_of c.next-in-Some.new.self) (ap (map known_of) c.in-Some.ensures.steps) (ap (map known_of) c.in-Some-next.ensures.steps)
      (λ is. let yes = c.if-not-same_object.ensures.1 is in cc) same)),
)

pub loop-our-preserved : goal.loop-our-preserved
loop-our-preserved c =
    same_so_far (map known_of c.args.one) (map known_of c.args.other) (map known_of c.loop-our.ours) (map known_of c.loop-our.theirs) c.loop-our.invariant (known_of c.in-Some.our.now) (known_of c.in-Some-next.their.now) (map known_of c.next.new.self) (map known_of c.next-in-Some.new.self) (ap (map known_of) c.in-Some.ensures.steps) (ap (map known_of) c.in-Some-next.ensures.steps)
    (c.same_object.ensures.0 c.if-not-same_object.false)

pub returns : goal.returns
returns c =
    let ends = nothing_left c.loop-our.theirs c.next-2.new.self c.next-2.result c.is_none.result c.next-2.ensures.steps c.is_none.ensures in
    let both = same_in_all (map known_of c.args.one) (map known_of c.args.other) (map known_of c.loop-our.ours) (map known_of c.loop-our.theirs) c.loop-our.invariant (ap (map known_of) c.in_default.ensures.steps.0) in
    ((λ is. both.1 (ap (map known_of) (ends.0 is))), (λ same. ends.1 (no_knowns c.loop-our.theirs (both.0 same))))
