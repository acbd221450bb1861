use Rattle.std.proofs.Common.{subst, sym, ◌∙◌, arith}
use Rattle.std.proofs.lemmas.Bool.{eqb-true}
use Rattle.std.proofs.lemmas.List.{length-map}
use Rattle.number_table.specs.declared.index.Place.{Place}
use Rattle.number_table.specs.Index.{IsPlace, numbers_in}
use Rattle.number_table.proofs.Standing.{is_place_of}
use Rattle.number_table.proofs.index.is_at.Goals as goal

pub returns-then-hint-index : goal.returns-then-hint-index
returns-then-hint-index c is =
    let ns = numbers_in c.args.index.now in
    let n = length-map c.args.index.now (λ (p : Place). p.number) in
    subst (λ n. IsPlace n c.args.hint ns) (sym c.number_at.ensures ∙ eqb-true _ _ is) (is_place_of 0 ns c.requires.0 c.args.hint c.requires.1 (let e = c.if-hint-index.true in omega arith))
