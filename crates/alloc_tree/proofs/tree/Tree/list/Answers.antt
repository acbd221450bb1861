use Rattle.std.proofs.Common.{sym, ap, ◌∙◌}
use Rattle.std.proofs.lemmas.Result.{IfOk-weaker}
use Rattle.pps_types.specs.Names.{find_at, members_in}
use Rattle.alloc_tree.specs.Contents.{whole}
use Rattle.alloc_tree.proofs.Maps.{get_is_find, entries_of}
use Rattle.alloc_tree.proofs.Refusals.{no_directory}
use Rattle.alloc_tree.proofs.tree.Tree.list.Goals as goal

pub returns-clause-refusal : goal.returns-clause-refusal
returns-clause-refusal g c = rw (← c.self.view_is) (λ h. c.list.ensures.refusal h ∙ ap (λ f. no_directory (find_at f c.args.path.now)) (sym (get_is_find (whole c.self.inside.root))))

pub returns-clause-ok : goal.returns-clause-ok
returns-clause-ok g c = rw (← c.self.view_is) (IfOk-weaker c.list.result _ _ (λ members h. h ∙ ap (members_in c.args.path.now) (sym (entries_of c.self.inside.root))) c.list.ensures.ok)
