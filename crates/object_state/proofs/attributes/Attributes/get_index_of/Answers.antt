use Rattle.std.proofs.Common.{◌≡◌, ◌∙◌, sym, ap, position, is_some}
use Rattle.object_state.specs.Kept.{Kept, kept_in, has_name}
use Rattle.object_state.proofs.Kept.{place-named, found-is}
use Rattle.object_state.proofs.attributes.Attributes.get_index_of.Goals as goal

pub returns-in-Few-clause-index : goal.returns-in-Few-clause-index
returns-in-Few-clause-index c =
    let held : c.in-Few.entries.items ≡ c.args.self.now.entries = sym (ap (λ form. (kept_in form).entries) c.in-Few.is) ∙ ap (λ (k : Kept). k.entries) c.self.view_is in
    c.place_in.ensures ∙ ap (position (has_name c.args.name.now)) (c.deref.ensures.value ∙ held) ∙ place-named c.args.name.now c.args.self.now.entries

pub returns-in-Few-clause-found : goal.returns-in-Few-clause-found
returns-in-Few-clause-found c =
    let held : c.in-Few.entries.items ≡ c.args.self.now.entries = sym (ap (λ form. (kept_in form).entries) c.in-Few.is) ∙ ap (λ (k : Kept). k.entries) c.self.view_is in
    ap is_some (c.place_in.ensures ∙ ap (position (has_name c.args.name.now)) (c.deref.ensures.value ∙ held)) ∙ found-is c.args.name.now c.args.self.now.entries
