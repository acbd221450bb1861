use Rattle.std.proofs.Common.{sym, ap, ◌∙◌}
use Rattle.std.specs.Option.{option_copied}
use Rattle.open_handles.proofs.Goes.{without_absent}
use Rattle.open_handles.proofs.places.drop_unused.Goals as goal

pub returns-in_default-clause-gone : goal.returns-in_default-clause-gone
returns-in_default-clause-gone c = λ none. sym (without_absent c.args.number c.args.table.now.entries (sym c.get.ensures.value ∙ ap option_copied c.in_default.is))
