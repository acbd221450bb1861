use Rattle.std.proofs.Common.{◌≡◌, ◌≤◌, ◌+◌, ◌++◌, ◌∷◌, [], ◌∙◌, ℕ, List, length, length-append, append_assoc, ap, arith}
use Rattle.std.specs.Prelude.{codes, decimal}
use Rattle.std.specs.Option.{option_to_list}
use Rattle.attr_text.specs.Written.{overwritten}
use Rattle.attr_text.proofs.Overwritten.{next-piece}
use Rattle.attr_text.proofs.write.write_client_header.Goals as goal

pub returns-clause-text : goal.returns-clause-text
returns-clause-text c =
    let xs = c.args.out.now in
    let mark : List ℕ = option_to_list c.args.mark ++ codes "@" in
    let name : List ℕ = c.args.name.now ++ 46 ∷ [] in
    let digits : List ℕ = c.as_bytes.result.now ++ 10 ∷ [] in
    let number : c.as_bytes.result.now ≡ decimal c.args.client = grind arith in
    let name-len : length name ≡ length c.args.name.now + 1 = length-append c.args.name.now (46 ∷ []) in
    let whole : ((mark ++ name) ++ digits) ≡ mark ++ (c.args.name.now ++ codes "." ++ decimal c.args.client) ++ 10 ∷ [] = rw number (simp append_assoc) in
    let fits : c.args.at + length ((mark ++ name) ++ digits) ≤ length xs = rw whole c.requires.room in
    let two : length (mark ++ name) ≡ length mark + length name = length-append mark name in
    let three : length ((mark ++ name) ++ digits) ≡ length (mark ++ name) + length digits = length-append (mark ++ name) digits in
    let named = next-piece xs c.write_mark-marked.new.out c.write_ended-named.new.out c.args.at c.write_mark-marked.result mark name (omega arith) c.write_mark-marked.ensures.text c.write_mark-marked.ensures.end c.write_ended-named.ensures.text in
    let ended = next-piece xs c.write_ended-named.new.out c.write_ended.new.out c.args.at c.write_ended-named.result (mark ++ name) digits (omega arith) named (omega (arith, c.write_ended-named.ensures.end, c.write_mark-marked.ensures.end)) c.write_ended.ensures.text in
    ended ∙ ap (overwritten xs c.args.at) whole
