use Rattle.std.proofs.Common.{List, sym, subst, arith}
use Rattle.std.specs.Prelude.{All}
use Rattle.pps_lock.specs.Trace.{Piece}
use Rattle.pps_dispatch.specs.Sessions.{Conversation}
use Rattle.pps_dispatch.specs.Named.{Names}
use Rattle.pps_dispatch.specs.History.{HaveFrames, AreServed}
use Rattle.pps_dispatch.proofs.Names.{served-names}
use Rattle.pps_dispatch.proofs.FramesMade.{framed_of, all-changed}
use Rattle.pps_dispatch.proofs.serving.serve.Goals as goal

pub frame_answers-requires : goal.frame_answers-requires
frame_answers-requires g c =
    subst (λ (p : List Piece × List Conversation). All (Names p.0) p.1) (λ i. (sym c.as_slice.ensures.value i, sym c.as_mut_slice.ensures.value i))
    (served-names _ _ _ _ _ c.in_ok-served.ensures.joins c.in_ok-served.ensures.named)

pub returns-clause-served : goal.returns-clause-served
returns-clause-served g c =
    let ps = c.in_ok-served.served.segments.items in
    let named = c.in_ok-served.served.sessions.items in
    let framed = c.frame_answers.new.sessions in
    let have : HaveFrames ps named framed =
    subst (λ (p : List Piece × List Conversation). HaveFrames p.0 p.1 framed) (λ i. (c.as_slice.ensures.value i, c.as_mut_slice.ensures.value i)) c.in_ok-frame_answers.ensures in
    subst (λ (ss : List Conversation). AreServed ps c.args.sessions.items ss)
    (sym (all-changed c.in_ok-served.served.sessions.len framed named have.count (omega (arith, c.in_ok-served.served.sessions.ok))))
    (framed_of ps c.args.sessions.items named framed c.in_ok-served.ensures.named have)
