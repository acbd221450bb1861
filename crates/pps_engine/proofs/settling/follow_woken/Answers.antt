use Rattle.std.proofs.Common.{◌++◌, [], ap, sym, ◌∙◌, take, cond, append-nil}
use Rattle.std.specs.Option.{option_map_or}
use Rattle.std.specs.List.{flat_map}
use Rattle.std.proofs.lemmas.List.{flat_map_more}
use Rattle.pps_types.specs.Content.{handle_numbered}
use Rattle.name_table.specs.Standing.{content_of, standing_of}
use Rattle.sub_reader.specs.Opened.{handle_at}
use Rattle.whole_texts.specs.Followed.{moves_of}
use Rattle.open_handles.specs.Whole.{handles_in}
use Rattle.open_handles.proofs.Wakes.{more_taken}
use Rattle.service_state.specs.Tables.{content_in}
use Rattle.pps_engine.specs.Behind.{follows_behind, follows_numbered}
use Rattle.pps_engine.proofs.settling.follow_woken.Goals.{then-not-is_closing+in_ok-follow_handle, else-not-is_closing}
use Rattle.pps_engine.proofs.settling.follow_woken.Goals as goal

pub woken-preserved : goal.woken-preserved
woken-preserved c =
    let k = content_in c.args.tables.now in
    let es = c.args.entries.now in
    let f = follows_numbered k es c.args.closing.now in
    let n = c.handle-item.result in
    let one = option_map_or (follows_behind k es) (handle_numbered k n) [] in
    let before = flat_map f (take c.woken.handle-index c.args.woken.now) in
    let more = flat_map_more f [] (take c.woken.handle-index c.args.woken.now) n ∙ ap (flat_map f) (more_taken c.args.woken.now c.woken.handle-index n c.woken-test.true c.handle-item.is) in
    elim c.if-not-is_closing.branch [
      | then-not-is_closing+in_ok-follow_handle w ↦
          ap (λ v. flat_map moves_of v.items) w.following-is
          ∙ w.in_ok-follow_handle.ensures
          ∙ (λ i. c.woken.invariant i ++ option_map_or (follows_behind (content_of (standing_of (c.names-names.ensures i))) es) (handle_at n (handles_in (c.handles-handles.ensures i))) [])
          ∙ ap (λ b. before ++ cond b [] one) (sym (sym c.is_closing.ensures ∙ w.if-not-is_closing.true))
          ∙ more
      | else-not-is_closing w ↦
          ap (λ v. flat_map moves_of v.items) w.following-is
          ∙ c.woken.invariant
          ∙ sym (append-nil before)
          ∙ ap (λ b. before ++ cond b [] one) (sym (sym c.is_closing.ensures ∙ w.if-not-is_closing.false))
          ∙ more
    ]
