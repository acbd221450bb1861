use Rattle.std.proofs.Common.{◌∙◌, ap}
use Rattle.number_table.specs.Numbered.{value_at, value_under}
use Rattle.number_table.specs.Index.{entries_in, slots_in}
use Rattle.number_table.proofs.Told.{find_told}
use Rattle.number_table.proofs.table.Table.get_near.Goals as goal

pub returns-clause-value : goal.returns-clause-value
returns-clause-value g c =
    c.find_value.ensures
    ∙ ap (λ ps. value_under c.args.number (entries_in (slots_in c.self.inside.values ps))) c.as_slice.ensures.value
    ∙ ap (value_at c.args.number) c.self.view_is

pub returns-clause-found : goal.returns-clause-found
returns-clause-found g c f h = returns-clause-value g c ∙ find_told f c.args.number c.args.self.now.entries h
