use Rattle.std.proofs.Common.{◌≡◌, ◌++◌, [], OnOk, ap, sym, subst, ◌∙◌, append_assoc}
use Rattle.std.specs.List.{flat_map}
use Rattle.pps_types.specs.Plan.{late_reply}
use Rattle.sub_reader.specs.Opened.{opened}
use Rattle.whole_texts.specs.Replied.{meant}
use Rattle.whole_texts.specs.Woken.{Waiting, IsWoken}
use Rattle.whole_texts.specs.Followed.{moves_of, fired_by}
use Rattle.whole_texts.proofs.Same.{follows-some, shows-some}
use Rattle.whole_texts.proofs.following.follow.Goals as goal

pub returns-clause-ok : goal.returns-clause-ok
returns-clause-ok c h dead members is shows =
    let w : Waiting = record { target = c.woken.inside.target; opening = c.woken.inside.opening.now; parked = c.woken.inside.parked; armed = c.woken.inside.armed } in
    let woken : IsWoken w h = subst (λ v. IsWoken v h) (sym c.woken.view_is) is in
    let b = c.args.told.now in
    let before = flat_map moves_of c.args.changes.now.items in
    let answered = c.in_ok-reply.ensures.ok h dead members woken.opened (shows-some w b h dead members woken c.in-Some.size c.in-Some.is shows) in
    subst (λ ms. OnOk c.push_reply.result (flat_map moves_of c.push_reply.new.changes.items ≡ ms))
    (ap (λ ms. ms ++ late_reply (opened 0 [] w.opening) (meant c.in_ok-reply.reply)) c.in_ok-push_pulse.ensures.ok
    ∙ append_assoc before (fired_by w.opening w.armed) (late_reply (opened 0 [] w.opening) (meant c.in_ok-reply.reply))
    ∙ ap (λ a. before ++ (fired_by w.opening w.armed ++ late_reply (opened 0 [] w.opening) a)) answered
    ∙ ap (λ ms. before ++ ms) (follows-some w b h dead members woken c.in-Some.size c.in-Some.is))
    c.push_reply.ensures.ok
