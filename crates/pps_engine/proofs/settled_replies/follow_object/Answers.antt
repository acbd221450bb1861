use Rattle.std.proofs.Common.{◌≡◌, ◌++◌, ◌∷◌, [], ◌∙◌, OnOk, ap, sym, subst, Option, Some, None, refl}
use Rattle.std.specs.Prelude.{is_some, option_map}
use Rattle.std.specs.List.{flat_map}
use Rattle.pps_types.specs.SettlingReplies.{pulse_and_reply}
use Rattle.name_table.specs.Standing.{content_of, standing_of}
use Rattle.whole_texts.specs.Followed.{moves_of}
use Rattle.whole_texts.specs.Woken.{Behind}
use Rattle.pps_engine.specs.Behind.{attributes_in, state_behind, is_dead_behind, members_behind}
use Rattle.pps_engine.proofs.Shown.{object-shown}
use Rattle.pps_engine.proofs.settled_replies.follow_object.Goals as goal

some-is : {X Y : Type 0} (f : X → Y) (o : Option X) → is_some o ≡ is_some (option_map f o)
some-is f None = refl
some-is f (Some x) = refl

pub returns : goal.returns
returns c h is target name object =
    let k = content_of (standing_of c.args.names.now) in
    let es = c.args.entries.now in
    let told = ap (λ (b : Behind). b.entries) c.new-told.ensures in
    subst (λ es. OnOk c.follow.result (flat_map moves_of c.follow.new.changes.items ≡ flat_map moves_of c.args.following.now.items ++ pulse_and_reply h es (is_dead_behind k c.args.entries.now h) (members_behind k c.args.entries.now h))) told
    (c.follow.ensures.ok h (is_dead_behind k es h) (members_behind k es h) is
    (object-shown c.new-told.result k es h (option_map attributes_in c.in_ok-state.state) (c.in_ok-state.ensures ∙ ap (state_behind k es) (sym target)) object
    (ap (λ (b : Behind). b.alive) c.new-told.ensures ∙ c.is_some.ensures ∙ some-is attributes_in c.in_ok-state.state)
    (ap (λ (b : Behind). b.members) c.new-told.ensures ∙ (λ i. record { name = (c.member_of.ensures.name ∙ sym name) i; lines = c.member_of.ensures.lines i } ∷ []))))
