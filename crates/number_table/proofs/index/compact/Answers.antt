use Rattle.std.proofs.Common.{ap, rules, ◌∙◌}
use Rattle.std.proofs.lemmas.Fn.{filter_same}
use Rattle.number_table.specs.Index.{has_value, slot_at, slots_in}
use Rattle.number_table.proofs.Held.{slots_filter}
use Rattle.number_table.proofs.index.compact.Goals as goal

pub returns-clause-index : goal.returns-clause-index
returns-clause-index g c =
    ap (slots_in c.args.values.now) (filter_same _ (λ p. has_value (slot_at c.args.values.now p)) _ (λ x b f' k. search rules) _ _ c.retain.ensures.filtered)
    ∙ slots_filter c.args.values.now c.args.index.now.items
