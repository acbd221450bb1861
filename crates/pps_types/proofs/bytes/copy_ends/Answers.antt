use Rattle.std.proofs.Common.{◌≡◌, ◌+◌, ◌-◌, ◌≤◌, ◌++◌, ◌∙◌, ℕ, List, length, take, drop, length-append, ap, arith, rules}
use Rattle.std.proofs.lemmas.List.{length-take, length-drop, take-append-le, take-take, take-append-drop, take_rest}
use Rattle.std.proofs.lemmas.Slice.{take-put_mid}
use borrow.Rule.Slice.PartMut.{put_mid}
use Rattle.pps_types.proofs.bytes.copy_ends.Goals as goal

-- a list is there whole if its front and its end are written to their places, and meet
ends-written : (content out : List ℕ) (width last k : ℕ) → last + width ≡ length content → last ≤ width
    → take (length content) (put_mid last k (take width content ++ drop width out) (drop last content)) ≡ content
ends-written content out width last k parts meet =
    let front : last ≤ length (take width content) = omega (arith, length-take width content) in
    let within : last ≤ length (take width content ++ drop width out) = omega (arith, length-append (take width content) (drop width out)) in
    take-put_mid last k (take width content ++ drop width out) (drop last content) (length content) (omega (arith, length-drop last content)) within
    ∙ ap (λ bytes. bytes ++ drop last content) (take-append-le last (take width content) (drop width out) front ∙ take-take last width content meet)
    ∙ take-append-drop last content

pub returns : goal.returns
returns c =
    let content = c.args.content.now in
    let last : ℕ = length content - c.args.width in
    let front : c.copy_from_slice.new.self ≡ take c.args.width content = search rules in
    let part : c.copy_from_slice-2.new.self ≡ take (length content - last) (drop last content) = search rules in
    let end : c.copy_from_slice-2.new.self ≡ drop last content = part ∙ take_rest content last in
    rw (front, end) (ends-written content c.args.out.now c.args.width last (length content - last) (omega arith) (omega arith))
