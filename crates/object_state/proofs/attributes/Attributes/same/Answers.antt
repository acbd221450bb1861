use Rattle.std.proofs.Common.{◌≡◌, refl, arith, length}
use Rattle.object_state.proofs.Kept.{all-same}
use Rattle.object_state.proofs.attributes.Attributes.same.Goals as goal

pub returns : goal.returns
returns c =
    let len : length c.args.self.now.entries ≡ length c.args.other.now.entries = omega (arith, c.len-len.ensures.len, c.len.ensures.len, c.if-len.false) in (
      λ is. all-same c.args.self.now.entries c.args.other.now.entries len (λ i within. c.places.invariant i (omega (arith, within, c.places-test.false, c.len-len.ensures.len))),
      λ is. refl,
    )
