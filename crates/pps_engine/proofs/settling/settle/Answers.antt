use Rattle.std.proofs.Common.{◌≡◌, [], ap, sym, subst, ◌∙◌, rules}
use Rattle.std.specs.List.{flat_map}
use Rattle.pps_types.specs.Plan as planning
use Rattle.sub_reader.specs.Woken.{woken_by}
use Rattle.whole_texts.specs.Followed.{moves_of}
use Rattle.open_handles.specs.Whole.{Whole, handles_in}
use Rattle.service_state.specs.Tables.{content_in}
use Rattle.pps_engine.specs.Behind.{follows_numbered}
use Rattle.pps_engine.proofs.Able.{AreAble}
use Rattle.pps_engine.proofs.Follows.{can-follow}
use Rattle.pps_engine.proofs.SettledHandles.{none-woken, settled-by, able-numbers}
use Rattle.pps_engine.proofs.settling.settle.Goals as goal

pub returns-then-is_empty-clause-follows : goal.returns-then-is_empty-clause-follows
returns-then-is_empty-clause-follows c conn request told =
    let k = content_in c.args.tables.now in
    let none : c.args.entries.now ≡ [] = search rules in
    ap (flat_map moves_of) c.new.ensures.items
    ∙ sym (none-woken k c.args.entries.now c.args.closing.now none)
    ∙ settled-by k c.requires c.events_are_settled.ensures conn request c.args.entries.now c.args.closing.now told

pub returns-in-Ok-clause-follows : goal.returns-in-Ok-clause-follows
returns-in-Ok-clause-follows c conn request told =
    let k = content_in c.args.tables.now in
    let es = c.args.entries.now in
    c.in-Ok.ensures
    ∙ ap (flat_map (follows_numbered k es c.args.closing.now)) (c.deref.ensures.value ∙ c.in_ok-woken.ensures ∙ ap (λ (w : Whole). woken_by es (handles_in w)) c.handles.ensures)
    ∙ settled-by k c.requires c.events_are_settled.ensures conn request es c.args.closing.now told

pub returns-in-Ok-clause-can : goal.returns-in-Ok-clause-can
returns-in-Ok-clause-can c conn request told =
    let k = content_in c.args.tables.now in
    let es = c.args.entries.now in
    let behind = planning.apply_all_seen (planning.effect k conn request).1 k in
    can-follow c.in-Ok.following.items behind
    (subst (AreAble behind)
    (sym (c.in-Ok.ensures
    ∙ ap (flat_map (follows_numbered k es c.args.closing.now)) (c.deref.ensures.value ∙ c.in_ok-woken.ensures ∙ ap (λ (w : Whole). woken_by es (handles_in w)) c.handles.ensures)))
    (able-numbers k c.requires c.events_are_settled.ensures conn request es c.args.closing.now told))
