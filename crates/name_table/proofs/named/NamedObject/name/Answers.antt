use Rattle.std.proofs.Common.{[], length, ◌-◌, ap, sym, ◌∙◌}
use Rattle.std.specs.Prelude.{slice_get}
use Rattle.std.specs.Option.{option_copied, unwrap_or}
use Rattle.name_table.proofs.Ends.{last_is}
use Rattle.name_table.proofs.named.NamedObject.name.Goals as goal

pub returns-in-Some : goal.returns-in-Some
returns-in-Some c =
    rw (← c.self.view_is)
    (c.as_slice.ensures
    ∙ ap (λ r. unwrap_or (option_copied r) []) (sym c.in-Some.is)
    ∙ ap (λ o. unwrap_or o []) c.last.ensures.value
    ∙ ap (λ p. unwrap_or (slice_get p (length p - 1)) []) c.deref.ensures.value
    ∙ last_is c.self.inside.path.items)
