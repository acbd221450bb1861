use Rattle.std.proofs.Common.{◌≡◌, refl, inl, inr, ◌⊎◌, ap}
use Rattle.std.proofs.lemmas.Result.{err_from_is_err_and}
use Rattle.pps_types.specs.Frame.{bad_frame}
use Rattle.frame_codec.specs.declared.ends.Ended.{Ended}
use Rattle.frame_codec.specs.declared.ends.Ended.TheVariants.{Malformed, Truncated}
use Rattle.pps_frame.specs.Served.{closing}
use Rattle.pps_frame.proofs.Taken.{first-refused}
use Rattle.pps_frame.proofs.closing.answer_end.Goals as goal

-- an end that is no clean one is answered by the same frame
same-frame : (ended : Ended) → (ended ≡ Malformed) ⊎ (ended ≡ Truncated) → closing ended ≡ bad_frame
same-frame ended (inl e) = ap closing e
same-frame ended (inr e) = ap closing e

pub returns-in_err-answer-in-Malformed-clause-bytes : goal.returns-in_err-answer-in-Malformed-clause-bytes
returns-in_err-answer-in-Malformed-clause-bytes g c =
    let p = err_from_is_err_and c.from_residual.result c.from_residual.ensures.1 in
    let e = same-frame c.args.ended c.in-Malformed.is in
    rw (p.1, p.2, e) (first-refused (Unit {0}) _ _ _ _ _ c.in_err-answer-in-Malformed.field-0.0 c.in_err-answer-in-Malformed.ensures.bytes)

pub returns-in_ok-answer-in-Malformed-clause-bytes : goal.returns-in_ok-answer-in-Malformed-clause-bytes
returns-in_ok-answer-in-Malformed-clause-bytes g c =
    let e = same-frame c.args.ended c.in-Malformed.is in
    rw e (refl, c.in_ok-answer-in-Malformed.ensures.bytes)
