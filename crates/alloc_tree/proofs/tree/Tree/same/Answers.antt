use Rattle.std.proofs.Common.{sym, ap, ◌∙◌}
use Rattle.std.specs.FinMap.{from_entries, entries}
use Rattle.pps_types.specs.Names.{path_cmp}
use Rattle.alloc_tree.proofs.Maps.{entries_of}
use Rattle.alloc_tree.proofs.tree.Tree.same.Goals as goal

pub returns : goal.returns
returns g c = (
  λ h. sym (ap (λ x. x.map) c.self.view_is) ∙ ap (from_entries {R = path_cmp}) (c.same.ensures.0 h) ∙ ap (λ x. x.map) c.other.view_is,
  λ e. c.same.ensures.1 (sym (entries_of c.self.inside.root) ∙ ap (entries {R = path_cmp}) (ap (λ x. x.map) c.self.view_is ∙ e ∙ sym (ap (λ x. x.map) c.other.view_is)) ∙ entries_of c.other.inside.root),
)
