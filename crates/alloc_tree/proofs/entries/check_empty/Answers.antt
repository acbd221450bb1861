use Rattle.std.proofs.Common.{sym, ap, ◌∙◌}
use Rattle.alloc_tree.specs.View.{empty_refused}
use Rattle.alloc_tree.proofs.Refusals.{not_empty_here}
use Rattle.alloc_tree.proofs.entries.check_empty.Goals as goal

pub returns-in-Directory-2-clause-refusal : goal.returns-in-Directory-2-clause-refusal
returns-in-Directory-2-clause-refusal g c = sym (ap empty_refused c.in-Directory.is ∙ not_empty_here g.row.A.Denot c.in-Directory.inner (rw c.deref.ensures at (sym c.is_empty.ensures.value ∙ c.if-is_empty.false)))
