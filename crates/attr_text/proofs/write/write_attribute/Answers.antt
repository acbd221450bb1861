use Rattle.std.proofs.Common.{◌≡◌, ◌≤◌, ◌+◌, ◌++◌, ◌∷◌, [], ◌∙◌, ℕ, List, length, length-append, append_assoc, sym, ap, arith}
use Rattle.std.specs.Prelude.{if◌then◌else◌, codes}
use Rattle.attr_text.specs.Printed.{attribute_text}
use Rattle.attr_text.specs.Written.{overwritten}
use Rattle.attr_text.proofs.Overwritten.{next-piece}
use Rattle.attr_text.proofs.write.write_attribute.Goals as goal

pub returns-clause-text : goal.returns-clause-text
returns-clause-text c =
    let xs = c.args.out.now in
    let bracket : List ℕ = if c.n.result then codes "[n]" else [] in
    let name : List ℕ = c.args.name.now ++ 58 ∷ [] in
    let content : List ℕ = c.text.result.now ++ 10 ∷ [] in
    let whole : ((bracket ++ name) ++ content) ≡ attribute_text c.args.name.now c.args.content.now =
    (λ i. ((if c.n.ensures i then codes "[n]" else []) ++ name) ++ (c.text.ensures i ++ 10 ∷ [])) ∙ simp append_assoc in
    let fits : c.args.at + length ((bracket ++ name) ++ content) ≤ length xs = rw whole c.requires in
    let two : length (bracket ++ name) ≡ length bracket + length name = length-append bracket name in
    let three : length ((bracket ++ name) ++ content) ≡ length (bracket ++ name) + length content = length-append (bracket ++ name) content in
    let named = next-piece xs c.write_bracket-at.new.out c.write_name-at.new.out c.args.at c.write_bracket-at.result bracket name (omega arith) c.write_bracket-at.ensures.text c.write_bracket-at.ensures.end c.write_name-at.ensures.text in
    let name-len : length name ≡ length c.args.name.now + 1 = length-append c.args.name.now (58 ∷ []) in
    let written = next-piece xs c.write_name-at.new.out c.write_ended.new.out c.args.at c.write_name-at.result (bracket ++ name) content (omega arith) named (omega (arith, c.write_name-at.ensures.end, c.write_bracket-at.ensures.end)) c.write_ended.ensures.text in
    written ∙ ap (overwritten xs c.args.at) whole
