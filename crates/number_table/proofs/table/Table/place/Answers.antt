use Rattle.std.proofs.Common.{◌∙◌, ap, is_some}
use Rattle.number_table.specs.Numbered.{value_at}
use Rattle.number_table.specs.Index.{slots_in}
use Rattle.number_table.proofs.Entries.{place_tells}
use Rattle.number_table.proofs.table.Table.place.Goals as goal

pub returns : goal.returns
returns g c =
    place_tells c.args.number (slots_in c.self.inside.values c.self.inside.index.items) c.find_place.result (rw c.as_slice.ensures.value at c.find_place.ensures.some) (rw c.as_slice.ensures.value at c.find_place.ensures.none)
    ∙ ap (λ t. is_some (value_at c.args.number t)) c.self.view_is
