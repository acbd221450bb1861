use Rattle.std.proofs.Common.{◌≡◌, ◌++◌, ◌∙◌, OnOk, map, ap, sym, subst}
use Rattle.std.specs.List.{flat_map}
use Rattle.pps_types.specs.SettlingReplies.{pulse_and_reply}
use Rattle.name_table.specs.Standing.{content_of, standing_of}
use Rattle.whole_texts.specs.Followed.{moves_of}
use Rattle.whole_texts.specs.Woken.{Behind}
use Rattle.pps_engine.specs.Behind.{row_member, rows_behind, is_dead_behind, members_behind}
use Rattle.pps_engine.proofs.Shown.{directory-shown}
use Rattle.pps_engine.proofs.settled_replies.follow_directory.Goals as goal

pub returns : goal.returns
returns c h is target directory =
    let k = content_of (standing_of c.args.names.now) in
    let es = c.args.entries.now in
    let told = ap (λ (b : Behind). b.entries) c.new-told.ensures in
    subst (λ es. OnOk c.follow.result (flat_map moves_of c.follow.new.changes.items ≡ flat_map moves_of c.args.following.now.items ++ pulse_and_reply h es (is_dead_behind k c.args.entries.now h) (members_behind k c.args.entries.now h))) told
    (c.follow.ensures.ok h (is_dead_behind k es h) (members_behind k es h) is
    (directory-shown c.new-told.result k es h directory (ap (λ (b : Behind). b.alive) c.new-told.ensures)
    (ap (λ (b : Behind). b.members) c.new-told.ensures ∙ c.deref-2.ensures.value ∙ c.in_ok-members.ensures ∙ ap (map row_member) (c.deref.ensures.value ∙ c.in_ok-rows.ensures ∙ ap (rows_behind k es) (sym target)))))
