use Rattle.std.proofs.Common.{◌≡◌, ◌++◌, ◌&&◌, ◌∙◌, OnOk, ap, subst}
use Rattle.std.specs.Prelude.{is_some}
use Rattle.std.specs.List.{flat_map}
use Rattle.pps_types.specs.SettlingReplies.{gives_everything, pulse_and_reply}
use Rattle.whole_texts.specs.Followed.{moves_of}
use Rattle.whole_texts.specs.Woken.{Behind}
use Rattle.pps_engine.proofs.Shown.{records-shown}
use Rattle.pps_engine.proofs.settled_replies.follow_records.Goals as goal

pub returns : goal.returns
returns c h dead members is none =
    let told = ap (λ (b : Behind). b.entries) c.new-told.ensures in
    subst (λ es. OnOk c.follow.result (flat_map moves_of c.follow.new.changes.items ≡ flat_map moves_of c.args.following.now.items ++ pulse_and_reply h es dead members)) told
    (c.follow.ensures.ok h dead members is (records-shown c.new-told.result h dead members (ap (λ es. is_some h.parked && gives_everything h es) told ∙ none)))
