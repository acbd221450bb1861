use Rattle.std.proofs.Common.{◌≡◌, ◌+◌, ◌++◌, ◌∷◌, [], ℕ, List, length, length-append, arith}
use Rattle.std.specs.Prelude.{codes}
use Rattle.std.specs.Option.{option_to_list}
use Rattle.attr_text.proofs.Overwritten.{next-piece}
use Rattle.attr_text.proofs.write.write_header.Goals as goal

pub returns-clause-text : goal.returns-clause-text
returns-clause-text c =
    let xs = c.args.out.now in
    let mark : List ℕ = option_to_list c.args.mark ++ codes "@" in
    let name : List ℕ = c.args.name.now in
    let two : length (mark ++ name) ≡ length mark + length name = length-append mark name in
    let three : length ((mark ++ name) ++ 10 ∷ []) ≡ length (mark ++ name) + 1 = length-append (mark ++ name) (10 ∷ []) in
    let named = next-piece xs c.write_mark-marked.new.out c.write_many-named.new.out c.args.at c.write_mark-marked.result mark name (omega (arith, c.requires.room)) c.write_mark-marked.ensures.text c.write_mark-marked.ensures.end c.write_many-named.ensures.text in
    next-piece xs c.write_many-named.new.out c.write_byte.new.out c.args.at c.write_many-named.result (mark ++ name) (10 ∷ []) (omega (arith, c.requires.room)) named (omega (arith, c.write_many-named.ensures.end, c.write_mark-marked.ensures.end)) c.write_byte.ensures.text
