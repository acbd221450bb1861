use Rattle.std.proofs.Common.{ap, ◌∙◌}
use Rattle.std.specs.FinMap.{from_entries}
use Rattle.pps_types.specs.Names.{path_cmp}
use Rattle.alloc_tree.proofs.tree.Tree.copy.Goals as goal

pub returns-clause-map : goal.returns-clause-map
returns-clause-map g c = ap (from_entries {R = path_cmp}) c.in_ok-copy.ensures ∙ ap (λ h. h.map) c.self.view_is
