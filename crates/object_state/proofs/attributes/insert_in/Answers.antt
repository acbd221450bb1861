use Rattle.std.proofs.Common.{◌≡◌, ◌∙◌, sym, ap, position, Some, None}
use Rattle.object_state.specs.Kept.{has_name}
use Rattle.object_state.proofs.Kept.{found-at, found-value, missing-value, inserted-here, inserted-last}
use Rattle.object_state.proofs.attributes.insert_in.Goals as goal

pub returns-in-Some-clause-old : goal.returns-in-Some-clause-old
returns-in-Some-clause-old c =
    let place : Some c.in-Some.place ≡ position (has_name c.args.name) c.args.entries.now.items = sym c.in-Some.is ∙ c.place_in.ensures ∙ ap (position (has_name c.args.name)) c.deref.ensures.value in
    let at = found-at c.args.name c.args.entries.now.items c.in-Some.place c.index_mut.result.now place c.index_mut.ensures.value in
    ap Some c.replace.ensures.value ∙ found-value c.args.name c.args.entries.now.items c.in-Some.place c.index_mut.result.now place at

pub returns-in-Some-clause-entries : goal.returns-in-Some-clause-entries
returns-in-Some-clause-entries c =
    let place : Some c.in-Some.place ≡ position (has_name c.args.name) c.args.entries.now.items = sym c.in-Some.is ∙ c.place_in.ensures ∙ ap (position (has_name c.args.name)) c.deref.ensures.value in
    let at = found-at c.args.name c.args.entries.now.items c.in-Some.place c.index_mut.result.now place c.index_mut.ensures.value in
    rw c.replace.ensures.after (inserted-here c.args.name c.args.entries.now.items c.in-Some.place c.index_mut.result.now c.args.content place at)

pub returns-in-None-clause-old : goal.returns-in-None-clause-old
returns-in-None-clause-old c =
    let place : None ≡ position (has_name c.args.name) c.args.entries.now.items = sym c.in-None.is ∙ c.place_in.ensures ∙ ap (position (has_name c.args.name)) c.deref.ensures.value in
    missing-value c.args.name c.args.entries.now.items place

pub returns-in-None-clause-entries : goal.returns-in-None-clause-entries
returns-in-None-clause-entries c =
    let place : None ≡ position (has_name c.args.name) c.args.entries.now.items = sym c.in-None.is ∙ c.place_in.ensures ∙ ap (position (has_name c.args.name)) c.deref.ensures.value in
    c.push_reserved.ensures.items ∙ inserted-last c.args.name c.args.entries.now.items c.args.content place
