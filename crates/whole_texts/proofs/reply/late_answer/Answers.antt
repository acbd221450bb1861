use Rattle.std.proofs.Common.{subst, true, OnErr, IfOk, ◌≡◌}
use Rattle.whole_texts.specs.Replied.{meant, wants_memory}
use Rattle.whole_texts.proofs.Same.{reply-same}
use Rattle.whole_texts.proofs.reply.late_answer.Goals as goal

pub returns-clause-ok : goal.returns-clause-ok
returns-clause-ok c h dead members is shows =
    subst (λ a. IfOk c.reply_to_opened.result (λ r. meant r ≡ a)) (reply-same c.args.told.now h dead members c.args.size c.args.target c.args.opening.now is shows) c.reply_to_opened.ensures.ok

pub returns-clause-lacking : goal.returns-clause-lacking
returns-clause-lacking c h dead members is shows =
    subst (λ a. OnErr c.reply_to_opened.result (wants_memory a ≡ true)) (reply-same c.args.told.now h dead members c.args.size c.args.target c.args.opening.now is shows) c.reply_to_opened.ensures.lacking
