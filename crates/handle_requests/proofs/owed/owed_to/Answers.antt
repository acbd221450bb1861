use Rattle.std.specs.Prelude.{◌≡◌, ◌&&◌, false, is_none}
use Rattle.std.proofs.Common.{sym, ◌∙◌}
use Rattle.std.proofs.lemmas.Result.{err_from_is_err_and}
use Rattle.sub_reader.specs.Opened.{handle_at}
use Rattle.topics.specs.HandlesOf.{handles_of}
use Rattle.handle_requests.specs.Reads.{is_given_all}
use Rattle.handle_requests.proofs.Debts.{owed_refuses, none_owed}
use Rattle.handle_requests.proofs.owed.owed_to.Goals as goal

pub returns-then-not-asked-clause-ok : goal.returns-then-not-asked-clause-ok
returns-then-not-asked-clause-ok c =
    none_owed c.args.size c.nothing.result c.nothing.ensures.count c.nothing.ensures.text (handle_at c.args.handle (handles_of c.args.asked.now.topic.now))
    (sym c.requires.news ∙ c.if-not-asked.true)

pub returns-in_err-given-clause-err : goal.returns-in_err-given-clause-err
returns-in_err-given-clause-err c =
    let o = handle_at c.args.handle (handles_of c.args.asked.now.topic.now) in
    let some : is_given_all o ≡ false = (λ i. is_none (sym c.requires.owed i) && sym c.requires.news i) ∙ sym c.is_given_all.ensures ∙ c.if-is_given_all.false in
    let p = err_from_is_err_and c.from_residual.result c.from_residual.ensures.1 in
    rw (p.1, p.2) (owed_refuses c.args.size c.in_err-given.field-0.0 o some c.in_err-given.ensures.refusal c.in_err-given.ensures.memory c.in_err-given.ensures.some)
