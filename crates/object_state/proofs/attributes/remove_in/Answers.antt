use Rattle.std.proofs.Common.{◌≡◌, ◌∙◌, ap, position, Some, None}
use Rattle.object_state.specs.Kept.{has_name}
use Rattle.object_state.proofs.Kept.{found-at, found-value, missing-value, removed-here, removed-none}
use Rattle.object_state.proofs.attributes.remove_in.Goals as goal

pub returns-in_err-place-clause-value : goal.returns-in_err-place-clause-value
returns-in_err-place-clause-value c =
    let place : None ≡ position (has_name c.args.name.now) c.args.entries.now.items = c.in_err-place.ensures ∙ ap (position (has_name c.args.name.now)) c.deref.ensures.value in
    c.from_residual.ensures ∙ missing-value c.args.name.now c.args.entries.now.items place

pub returns-in_err-place-clause-entries : goal.returns-in_err-place-clause-entries
returns-in_err-place-clause-entries c =
    let place : None ≡ position (has_name c.args.name.now) c.args.entries.now.items = c.in_err-place.ensures ∙ ap (position (has_name c.args.name.now)) c.deref.ensures.value in
    removed-none c.args.name.now c.args.entries.now.items place

pub returns-clause-value : goal.returns-clause-value
returns-clause-value c =
    let place : Some c.in_ok-place.place ≡ position (has_name c.args.name.now) c.args.entries.now.items = c.in_ok-place.ensures ∙ ap (position (has_name c.args.name.now)) c.deref.ensures.value in
    let at = found-at c.args.name.now c.args.entries.now.items c.in_ok-place.place c.remove-content.result place c.remove-content.ensures.value in
    found-value c.args.name.now c.args.entries.now.items c.in_ok-place.place c.remove-content.result place at

pub returns-clause-entries : goal.returns-clause-entries
returns-clause-entries c =
    let place : Some c.in_ok-place.place ≡ position (has_name c.args.name.now) c.args.entries.now.items = c.in_ok-place.ensures ∙ ap (position (has_name c.args.name.now)) c.deref.ensures.value in
    c.remove-content.ensures.items ∙ removed-here c.args.name.now c.args.entries.now.items c.in_ok-place.place place
