use Rattle.std.proofs.Common.{◌∙◌, refl, ap, inl}
use Rattle.service_state.specs.Tables.{content_in}
use Rattle.handle_requests.specs.Writes.{tells, is_past}
use Rattle.handle_requests.proofs.ready.begun.Goals as goal

pub returns-then-is_last-clause-err : goal.returns-then-is_last-clause-err
returns-then-is_last-clause-err c =
    inl (refl, ap (λ e. is_past (content_in c.args.tables.now) (tells e)) c.in-Some.is ∙ c.is_last-is_last.ensures.past c.in-Some.entry ∙ c.if-is_last.true)
