use Rattle.std.proofs.Common.{List, ℕ, ◌+◌, ◌++◌, sym, subst, ap, ◌∙◌}
use Rattle.std.proofs.lemmas.Result.{err_from_is_err_and}
use Rattle.pps_persist.specs.Begun.{GoesOn}
use Rattle.pps_persist.proofs.Cuts.{cut-at, no-cut, whole-piece, told-in-line, told-at-line, line-more, shorter-rest}
use Rattle.pps_persist.proofs.pieces.Reading.take_piece.Goals as goal

pub extend-requires : goal.extend-requires
extend-requires c = (cut-at c.lines.rest.now c.in-Some.line.now c.in-Some.behind.now (sym c.in-Some.ensures)).plain

pub extend-requires-2 : goal.extend-requires-2
extend-requires-2 c = no-cut c.lines.rest.now (sym c.in_default.ensures)

pub returns-in_err-extend : goal.returns-in_err-extend
returns-in_err-extend c =
    let p = err_from_is_err_and c.from_residual.result c.from_residual.ensures.1 in
    let cut = cut-at c.lines.rest.now c.in-Some.line.now c.in-Some.behind.now (sym c.in-Some.ensures) in
    let i = c.lines.invariant in
    rw (p.1, p.2) (λ taken h. told-in-line c.args.self c.args.piece.now c.lines.reading c.lines.rest.now i c.in-Some.line.now c.in-Some.behind.now cut c.in_err-extend.field-0.0 taken
    (c.in_err-extend.ensures.goes (taken ++ i.front) (i.goes taken h)))

pub returns-in_err-reading : goal.returns-in_err-reading
returns-in_err-reading c =
    let p = err_from_is_err_and c.from_residual-in_err-reading.result c.from_residual-in_err-reading.ensures.1 in
    let cut = cut-at c.lines.rest.now c.in-Some.line.now c.in-Some.behind.now (sym c.in-Some.ensures) in
    let i = c.lines.invariant in
    rw (p.1, p.2) (λ taken h. told-at-line c.args.self c.args.piece.now c.lines.reading c.lines.rest.now i c.in-Some.line.now c.in-Some.behind.now cut c.in_err-reading.field-0.0 taken
    (c.in_err-reading.ensures.goes ((taken ++ i.front) ++ c.in-Some.line.now) (c.in_ok-extend.ensures.goes (taken ++ i.front) (i.goes taken h))))

pub end_line-requires-clause-begun : goal.end_line-requires-clause-begun
end_line-requires-clause-begun c =
    let b = c.requires.begun in
    let i = c.lines.invariant in
    record { taken = (b.taken ++ i.front) ++ c.in-Some.line.now; is = c.in_ok-extend.ensures.goes (b.taken ++ i.front) (i.goes b.taken b.is) }

pub lines-smaller : goal.lines-smaller
lines-smaller c =
    shorter-rest c.args.self c.args.piece.now c.lines.reading c.lines.rest.now c.lines.invariant c.in-Some.line.now c.in-Some.behind.now
    (cut-at c.lines.rest.now c.in-Some.line.now c.in-Some.behind.now (sym c.in-Some.ensures))

pub lines-preserved : goal.lines-preserved
lines-preserved c =
    let cut = cut-at c.lines.rest.now c.in-Some.line.now c.in-Some.behind.now (sym c.in-Some.ensures) in
    let i = c.lines.invariant in
    line-more c.args.self c.args.piece.now c.lines.reading c.lines.rest.now i c.in-Some.line.now c.in-Some.behind.now cut c.in_ok-reading.reading
    (λ taken h. c.in_ok-reading.ensures.goes ((taken ++ i.front) ++ c.in-Some.line.now) (c.in_ok-extend.ensures.goes (taken ++ i.front) h))
    (c.in_ok-reading.ensures.number ∙ ap (λ (n : ℕ). n + 1) c.in_ok-extend.ensures.number)

pub returns : goal.returns
returns c =
    let i = c.lines.invariant in
    λ taken h. subst (λ (x : List ℕ). GoesOn x c.extend-2.result) (whole-piece c.args.self c.args.piece.now c.lines.reading c.lines.rest.now i taken)
    (c.extend-2.ensures.goes (taken ++ i.front) (i.goes taken h))
