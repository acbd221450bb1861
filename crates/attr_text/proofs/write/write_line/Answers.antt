use Rattle.std.proofs.Common.{◌≡◌, ◌∷◌, ◌++◌, ◌∙◌, [], ℕ, ◌+◌, List, length, ap, sym, arith, length-append}
use Rattle.pps_types.specs.HeldLine.{start_of, text_of}
use Rattle.pps_types.specs.Text.{print_line}
use Rattle.attr_text.specs.Written.{overwritten}
use Rattle.attr_text.proofs.Lines.{print_line-is}
use Rattle.attr_text.proofs.Overwritten.{next-piece}
use Rattle.attr_text.proofs.write.write_line.Goals as goal

pub returns-clause-text : goal.returns-clause-text
returns-clause-text c =
    let xs = c.args.out.now in
    let start : List ℕ = c.start.result.now in
    let rest : List ℕ = c.text.result.now ++ 10 ∷ [] in
    let is : print_line c.args.line.now ≡ start ++ rest =
    print_line-is c.args.line.now ∙ (λ i. sym c.start.ensures i ++ (sym c.text.ensures i ++ 10 ∷ [])) in
    let len : length (print_line c.args.line.now) ≡ length start + length rest = ap length is ∙ length-append start rest in
    next-piece xs c.write_bytes-started.new.out c.write_ended.new.out c.args.at c.write_bytes-started.result start rest (omega (arith, c.requires)) c.write_bytes-started.ensures.text c.write_bytes-started.ensures.end c.write_ended.ensures.text
    ∙ ap (overwritten xs c.args.at) (sym is)
