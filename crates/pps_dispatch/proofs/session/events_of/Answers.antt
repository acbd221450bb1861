use Rattle.std.proofs.Common.{refl, inr, ◌∙◌}
use Rattle.pps_dispatch.proofs.Frames.{no-frames-bad, no-frames-rest}
use Rattle.pps_dispatch.proofs.session.events_of.Goals as goal

pub returns-then-bad-clause-err : goal.returns-then-bad-clause-err
returns-then-bad-clause-err c = inr (refl, no-frames-bad _ _ _ _ _ c.new-decoder.ensures.rest c.in-Ok.ensures.fed c.if-bad.true)

pub returns-then-rest-ne0-clause-err : goal.returns-then-rest-ne0-clause-err
returns-then-rest-ne0-clause-err c = inr (refl, no-frames-rest _ _ _ _ _ c.new-decoder.ensures.rest c.in-Ok.ensures.fed c.if-bad.false (λ none. c.if-rest-ne0.true (c.rest.ensures ∙ none)))
