use Rattle.std.proofs.Common.{◌≡◌, ◌++◌, ◌∙◌}
use Rattle.std.specs.Prelude.{codes, decimal, string_bytes}
use Rattle.std.proofs.lemmas.Result.{IfOk-weaker}
use Rattle.pps_dispatch.proofs.Texts.{line-parts}
use Rattle.pps_dispatch.proofs.printed_sessions.first_line.Goals as goal

pub returns : goal.returns
returns c =
    let number = c.number-number.result in
    IfOk-weaker c.format.result _ _
    (λ s e. let printed : string_bytes s ≡ codes "session " ++ (decimal number ++ (codes " " ++ (c.args.file.now ++ codes "\n"))) = e in
    printed ∙ line-parts number c.args.conn c.args.file.now c.number-number.ensures.same)
    c.format.ensures.ok
