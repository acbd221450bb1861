use Rattle.std.proofs.Common.{◌≡◌, false, sym, subst, ap, ◌∙◌}
use Rattle.std.proofs.lemmas.Result.{err_from_is_err_and}
use Rattle.pps_types.specs.Content.{Content, is_attached}
use Rattle.notify_box.specs.Connections.{AreOwned}
use Rattle.service_state.specs.Tables.{content_in}
use Rattle.pps_types.specs.Checks.{attach_checks}
use Rattle.notify_box.specs.declared.outbox.Outbox.{Outbox}
use Rattle.service_state.specs.Refused.{Fails}
use Rattle.pps_engine.proofs.Within.{attach_does, attach_fails, attach_lacks, attach_passes}
use Rattle.pps_engine.proofs.asking.attach.Goals as goal

pub returns-in_err-outbox-clause-err : goal.returns-in_err-outbox-clause-err
returns-in_err-outbox-clause-err c =
    let p = err_from_is_err_and c.from_residual.result c.from_residual.ensures.1 in
    rw (p.1, p.2) (attach_fails (content_in c.args.tables.now) c.args.conn _ c.in_err-outbox.ensures.err)

pub returns-in_err-outbox-2-clause-err : goal.returns-in_err-outbox-2-clause-err
returns-in_err-outbox-2-clause-err c =
    let p = err_from_is_err_and c.from_residual-in_err-outbox-2.result c.from_residual-in_err-outbox-2.ensures.1 in
    rw (p.1, p.2) (attach_fails (content_in c.args.tables.now) c.args.conn _
    (subst (Fails (attach_checks (content_in c.args.tables.now) c.args.conn)) (sym c.in_err-outbox-2.ensures.err) (attach_lacks (content_in c.args.tables.now) c.args.conn c.in_ok-outbox.ensures.passes)))

pub returns-clause-ok : goal.returns-clause-ok
returns-clause-ok c = record {
  passes = attach_passes (content_in c.args.tables.now) c.args.conn c.events_are_settled.ensures c.numbers_are_within.ensures c.in_ok-outbox.ensures.passes;
  does = attach_does (content_in c.args.tables.now) c.args.conn;
  ready = record {
    low = c.in_ok-outbox.ensures.low;
    high = c.in_ok-outbox.ensures.high;
    absent = subst (λ (k : Content). is_attached k c.args.conn ≡ false) (sym c.in_ok-outbox.ensures.content) c.in_ok-outbox.ensures.absent;
    owned = subst AreOwned (sym c.in_ok-outbox.ensures.content) c.requires.held.owners;
    empty = ap (λ (o : Outbox). o.outbox) c.in_ok-outbox-2.ensures.ok ∙ c.in_ok-outbox.ensures.empty;
    room = c.in_ok-outbox.ensures.room;
  };
  wants = λ e. absurd (let bad = e in cc);
}
