use Rattle.std.proofs.Common.{ℕ, Bool, cond, ltb, eqb, bit_or, ◌≤◌, ◌≡◌, refl, arith, take}
use Rattle.std.proofs.lemmas.Simd.{length-chunk}
use lib.Lanes.{chunk}
use Rattle.script_text.specs.Escapes.{escaped}
use Rattle.script_text.proofs.Escaping.{joined, splat-left, splat-right, plain-front}
use Rattle.script_text.proofs.chunks.plain_front.Goals as goal

abbrev lanes-of : (ℕ → ℕ → Bool) → ℕ → ℕ → ℕ
lanes-of t a b = cond (t a b) 255 0

front : (c : goal.After-before_bits) → (c.before_bits.result ≤ 16) × (escaped (take c.before_bits.result c.args.bytes.now) ≡ take c.before_bits.result c.args.bytes.now)
front c =
    let bs = c.args.bytes.now in
    let v = chunk 0 16 bs in
    let long = length-chunk 0 16 bs (omega (arith, c.requires)) in
    plain-front bs _ _ _ c.requires c.type_inv.bytes c.before_bits.ensures
    (joined bit_or _ _ v (joined bit_or _ _ v (splat-right (lanes-of ltb) v 16 32 long) (splat-left (lanes-of ltb) v 16 126 long))
    (splat-right (lanes-of eqb) v 16 92 long)) refl

pub returns-clause-within : goal.returns-clause-within
returns-clause-within c = (front c).0

pub returns-clause-plain : goal.returns-clause-plain
returns-clause-plain c = (front c).1
