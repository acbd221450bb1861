use Rattle.std.proofs.Common.{sym, ap, ◌∙◌}
use Rattle.alloc_tree.specs.View.{standing}
use Rattle.alloc_tree.proofs.Keys.{no_object_is, says_no}
use Rattle.alloc_tree.proofs.entries.same_object.Goals as goal

pub returns-in-Directory : goal.returns-in-Directory
returns-in-Directory g c = says_no _ (λ e. no_object_is g.row.A.Denot c.in-Directory.field-0 c.args.id (sym (ap standing c.in-Directory.is) ∙ e))
