use Rattle.std.proofs.Common.{sym, ap, ◌∙◌, []}
use Rattle.std.proofs.lemmas.Result.{IfOk-weaker}
use Rattle.pps_types.specs.Names.{members_in}
use Rattle.alloc_tree.proofs.Ordered.{whole_is}
use Rattle.alloc_tree.proofs.Members.{members_here}
use Rattle.alloc_tree.proofs.directory.Directory.members.Goals as goal

pub returns : goal.returns
returns g c = IfOk-weaker c.list_entries.result _ _ (λ members h. h ∙ sym (members_here c.self.inside.entries.items) ∙ ap (members_in []) (sym (whole_is c.self.inside.id c.self.inside.entries _ c.self.view_is c.self.invariant))) c.list_entries.ensures
