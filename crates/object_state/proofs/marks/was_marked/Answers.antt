use Rattle.std.proofs.Common.{◌∙◌, sym, ap, false}
use Rattle.std.specs.Prelude.{unwrap_or}
use Rattle.std.specs.Option.{option_copied}
use Rattle.object_state.specs.Entries.{attributes_of}
use Rattle.object_state.proofs.Entries.{named-none, named-some}
use Rattle.object_state.proofs.Foretold.{marked-named}
use Rattle.object_state.proofs.marks.was_marked.Goals as goal

pub returns-in-None : goal.returns-in-None
returns-in-None c = sym (marked-named c.args.name.now (attributes_of c.args.map.now.entries)
    ∙ ap (λ o. unwrap_or o false) (named-none (λ a. a.n) c.args.name.now c.args.map.now.entries (sym c.get.ensures.value ∙ ap option_copied c.in-None.is)))

pub returns-in-Some : goal.returns-in-Some
returns-in-Some c = c.n.ensures ∙ sym (marked-named c.args.name.now (attributes_of c.args.map.now.entries)
    ∙ ap (λ o. unwrap_or o false) (named-some (λ a. a.n) c.args.name.now c.args.map.now.entries c.in-Some.content.now (sym c.get.ensures.value ∙ ap option_copied c.in-Some.is)))
