use Rattle.std.proofs.Common.{◌≡◌, ◌++◌, Ok, refl, sym, subst, ap, ◌∙◌}
use Rattle.std.specs.List.{flat_map}
use Rattle.pps_types.specs.Content.{Content}
use Rattle.pps_types.specs.Plan.{apply_all_seen}
use Rattle.pps_types.specs.Stands.{StepsSeen}
use Rattle.service_laws.proofs.Settlings.{moves-append}
use Rattle.whole_texts.specs.Followed as following
use Rattle.service_state.specs.Following.{CanFollowAll}
use Rattle.service_state.specs.Tables.{content_in}
use Rattle.pps_engine.specs.Doing.{moves_in}
use Rattle.pps_engine.proofs.AtOnce.{asked-done, asked-refused, refused-step, wanting-step, done-step}
use Rattle.pps_engine.proofs.EventPlans.{can_follow, plans}
use Rattle.pps_engine.proofs.at_once.finish.Goals as goal

pub returns-in-Err : goal.returns-in-Err
returns-in-Err c =
    let before = content_in c.args.tables.now in
    refused-step before c.args.event.now c.in-Err.refusal c.requires.sound (asked-refused before c.args.event.now c.args.asked c.in-Err.refusal c.in-Err.is c.requires.refused)

pub returns-in-Err-settled : goal.returns-in-Err-settled
returns-in-Err-settled c =
    let before = content_in c.args.tables.now in
    let done = asked-done before c.args.tables.now c.args.event.now c.args.asked c.in-Ok.done c.in-Ok.is c.requires.done in
    wanting-step before c.args.event.now c.requires.sound (done.wants c.in-Err-settled.ensures.lacking)

pub follow_all-requires : goal.follow_all-requires
follow_all-requires c =
    let before = content_in c.args.tables.now in
    let done = asked-done before c.args.tables.now c.args.event.now c.args.asked c.in-Ok.done c.in-Ok.is c.requires.done in
    subst (λ (k : Content). CanFollowAll k c.in-Ok-settled.following.items) (sym c.carry_out.ensures)
    (can_follow before c.args.event.now c.args.tables.now refl c.in-Ok.done done c.in-Ok-settled.following.items c.in-Ok-settled.ensures.ok)

pub returns : goal.returns
returns c =
    let before = content_in c.args.tables.now in
    let done = asked-done before c.args.tables.now c.args.event.now c.args.asked c.in-Ok.done c.in-Ok.is c.requires.done in
    let doing = moves_in c.in-Ok.done.doing c.args.tables.now in
    let behind = flat_map following.moves_of c.in-Ok-settled.following.items in
    let carried : content_in c.follow_all.new.self ≡ apply_all_seen (doing ++ behind) before =
    c.follow_all.ensures ∙ ap (apply_all_seen behind) c.carry_out.ensures ∙ sym (moves-append doing behind before) in
    done-step before (content_in c.follow_all.new.self) c.args.event.now c.in-Ok.done.reply c.requires.sound
    (subst (StepsSeen before c.args.event.now (Ok c.in-Ok.done.reply)) (sym carried)
    (plans before c.args.event.now c.args.tables.now refl c.in-Ok.done done c.in-Ok-settled.following.items c.in-Ok-settled.ensures.ok))
