use Rattle.std.proofs.Common.{◌≡◌, ◌+◌, ◌++◌, ◌∷◌, [], Ok, take, length, ap, sym, ◌∙◌, subst, arith}
use Rattle.std.proofs.lemmas.List.{take_more}
use Rattle.std.specs.Arc.{arc_value}
use Rattle.pps_types.specs.declared.event.Event.{Event}
use Rattle.pps_lock.specs.Trace.{Log, Replays, IsEntered}
use Rattle.pps_lock.proofs.Replaying.{enter-recorded, enters-more}
use Rattle.pps_lock.proofs.shared.Shared.enter_each.Goals as goal

pub loop-message-preserved : goal.loop-message-preserved
loop-message-preserved g c =
    let before = c.loop-message.invariant in
    let i = c.loop-message.message-index in
    let messages = c.args.messages.now in
    let e = c.message-item.result in
    let replays = subst (λ (b : Log). Replays b.base b.trace b.engine) c.deref.ensures (record { seen = c.replays.ensures.seen; sends = c.replays.ensures.sends }) in
    let entered = enter-recorded c.deref_mut.result.now c.enter-entered.new.self (arc_value c.in_ok-shared.field-0) (Ok c.in-Ok.name) replays
    c.in-Ok.ensures.enters c.in-Ok.ensures.named c.in-Ok.ensures.same in
    let one = subst (λ (event : Event). IsEntered event c.in-Ok.name) c.in_ok-shared.ensures entered in
    let more = take_more messages i e c.loop-message-test.true ∙ ap (λ x. take i messages ++ x ∷ []) (sym c.message-item.is) in (
      enters-more (take i messages) (take (i + 1) messages) c.args.names.now.items c.loop-message.names.items c.push_reserved.new.self.items e c.in-Ok.name
          more before.0 one c.push_reserved.ensures.items,
      omega (arith, before.1, c.loop-message-test.true, c.push_reserved.ensures.len, c.push_reserved.ensures.capacity),
    )
