use Rattle.std.specs.Prelude.{◌≤◌, [], ◌∷◌, filter, length}
use Rattle.std.proofs.Common.{sym, ◌∙◌, ap, subst, inl, le_refl}
use Rattle.pps_types.specs.Reading.{OpenHandle, visible}
use Rattle.pps_types.specs.Rests.{Progress}
use Rattle.open_handles.specs.Whole.{is_on, handles_in, handles_at}
use Rattle.open_handles.proofs.Firsts.{room_first}
use Rattle.service_state.proofs.Begins.{shared_stays, same-left, same-offered}
use Rattle.service_state.proofs.creating.tell_both.Goals as goal

pub offer-requires-clause-room : goal.offer-requires-clause-room
offer-requires-clause-room c = room_first c.args.first.entry (c.args.second.entry ∷ []) c.args.handles.now c.requires.room

pub offer-requires-2-clause-room : goal.offer-requires-2-clause-room
offer-requires-2-clause-room c = c.offer.ensures.records (c.args.second.entry ∷ []) c.requires.room

pub offer-requires-2-clause-enough : goal.offer-requires-2-clause-enough
offer-requires-2-clause-enough c =
    let e = c.args.second.entry in
    let old = c.args.handles.now in
    let new = c.offer.new.self in
    shared_stays c.args.second.count e old new (λ f. inl (c.offer.ensures.sites.sites f))
    (λ f. subst (λ n. n ≤ length (handles_at f c.args.handles.now)) (sym (ap length (c.handles_are_placed-2.ensures.placed f ∙ ap (filter (is_on f)) c.offer.ensures.handles) ∙ same-left c.args.first.entry f (handles_in c.args.handles.now)))
    (subst (λ hs. length (filter (is_on f) (handles_in c.args.handles.now)) ≤ length hs) (sym (c.handles_are_placed.ensures.placed f)) (le_refl (length (filter (is_on f) (handles_in c.args.handles.now))))))
    (λ f. subst (λ n. n ≤ length (filter (λ (h : OpenHandle Progress). visible h c.args.second.entry) (handles_at f c.args.handles.now)))
    (sym (ap (λ hs. length (filter (λ (h : OpenHandle Progress). visible h c.args.second.entry) hs)) (c.handles_are_placed-2.ensures.placed f ∙ ap (filter (is_on f)) c.offer.ensures.handles)
    ∙ same-offered c.args.second.entry c.args.first.entry f (handles_in c.args.handles.now)))
    (subst (λ hs. length (filter (λ (h : OpenHandle Progress). visible h c.args.second.entry) (filter (is_on f) (handles_in c.args.handles.now))) ≤ length (filter (λ (h : OpenHandle Progress). visible h c.args.second.entry) hs))
    (sym (c.handles_are_placed.ensures.placed f)) (le_refl (length (filter (λ (h : OpenHandle Progress). visible h c.args.second.entry) (filter (is_on f) (handles_in c.args.handles.now)))))))
    c.requires.second_shared
