use Rattle.std.proofs.Common.{sym, ap, ◌∙◌}
use Rattle.std.specs.FinMap.{entries}
use Rattle.alloc_tree.proofs.Maps.{entries_of}
use Rattle.alloc_tree.proofs.tree.Tree.walk.Goals as goal

pub returns-clause-ok : goal.returns-clause-ok
returns-clause-ok g c = c.in_ok-walked.ensures ∙ sym (entries_of c.self.inside.root) ∙ ap (λ h. entries h.map) c.self.view_is
