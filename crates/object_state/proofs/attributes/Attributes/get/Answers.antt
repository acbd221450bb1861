use Rattle.std.proofs.Common.{◌≡◌, ◌∙◌, sym, ap, position, Some, None}
use Rattle.std.specs.Option.{option_copied}
use Rattle.object_state.specs.Kept.{Kept, kept_in, has_name}
use Rattle.object_state.proofs.Kept.{found-at, found-value, missing-value}
use Rattle.object_state.proofs.attributes.Attributes.get.Goals as goal

pub returns-in_err-place-in-Few : goal.returns-in_err-place-in-Few
returns-in_err-place-in-Few c =
    let held : c.in-Few.entries.items ≡ c.args.self.now.entries = sym (ap (λ form. (kept_in form).entries) c.in-Few.is) ∙ ap (λ (k : Kept). k.entries) c.self.view_is in
    let place : None ≡ position (has_name c.args.name.now) c.args.self.now.entries = c.in_err-place-in-Few.ensures ∙ ap (position (has_name c.args.name.now)) (c.deref.ensures.value ∙ held) in
    record { value = ap option_copied c.from_residual.ensures ∙ missing-value c.args.name.now c.args.self.now.entries place }

pub returns-in_ok-place-in-Few : goal.returns-in_ok-place-in-Few
returns-in_ok-place-in-Few c =
    let held : c.in-Few.entries.items ≡ c.args.self.now.entries = sym (ap (λ form. (kept_in form).entries) c.in-Few.is) ∙ ap (λ (k : Kept). k.entries) c.self.view_is in
    let place : Some c.in_ok-place-in-Few.place ≡ position (has_name c.args.name.now) c.args.self.now.entries = c.in_ok-place-in-Few.ensures ∙ ap (position (has_name c.args.name.now)) (c.deref.ensures.value ∙ held) in
    let at = found-at c.args.name.now c.args.self.now.entries c.in_ok-place-in-Few.place c.index.result.now place (rw held at c.index.ensures) in
    record { value = found-value c.args.name.now c.args.self.now.entries c.in_ok-place-in-Few.place c.index.result.now place at }
