use Rattle.std.specs.Prelude.{◌≡◌, Some, None}
use Rattle.std.proofs.Common.{◌∙◌, sym}
use Rattle.std.proofs.lemmas.Result.{err_from_is_err_and}
use Rattle.pps_types.specs.declared.refusal.Refusal.TheVariants.{OutOfMemory}
use Rattle.handle_requests.proofs.Noticed.{notice_told, quiet_passes, armed_passes, armed_fails}
use Rattle.handle_requests.proofs.notifying.notify.Goals.{then-is_some+in_ok-arm_ready, else-is_some}
use Rattle.service_state.specs.Tables.{content_in}
use Rattle.handle_requests.proofs.notifying.notify.Goals as goal

pub returns-in_err-arm_ready-clause-err : goal.returns-in_err-arm_ready-clause-err
returns-in_err-arm_ready-clause-err c =
    let p = err_from_is_err_and c.from_residual-in_err-arm_ready.result c.from_residual-in_err-arm_ready.ensures.1 in
    rw (p.1, p.2) (armed_fails (content_in c.args.tables.now) c.args.conn c.args.handle c.args.action c.args.pulse c.in_ok-notified.notified c.in_ok-notified.ensures.ok
    (sym c.is_some.ensures ∙ c.if-is_some.true) c.in_err-arm_ready.field-0.0 c.in_err-arm_ready.ensures.refusal c.in_err-arm_ready.ensures.free)

pub returns-clause-passes : goal.returns-clause-passes
returns-clause-passes c = elim c.if-is_some.branch [
  | then-is_some+in_ok-arm_ready w ↦ armed_passes (content_in c.args.tables.now) c.args.conn c.args.handle c.args.action c.args.pulse c.in_ok-notified.notified c.in_ok-notified.ensures.ok
      (sym c.is_some.ensures ∙ w.if-is_some.true) (sym (w.in_ok-arm_ready.ensures.refusal (λ e. let bad : None ≡ Some OutOfMemory = e in cc)))
  | else-is_some w ↦ quiet_passes (content_in c.args.tables.now) c.args.conn c.args.handle c.args.action c.args.pulse c.in_ok-notified.notified c.in_ok-notified.ensures.ok (sym c.is_some.ensures ∙ w.if-is_some.false)
]

pub returns-clause-does : goal.returns-clause-does
returns-clause-does c = notice_told (content_in c.args.tables.now) c.args.conn c.args.handle c.args.action c.args.pulse c.in_ok-notified.notified c.in_ok-notified.ensures.ok
