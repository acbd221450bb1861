use Rattle.std.proofs.Common.{sym, ap, ◌∙◌}
use Rattle.pps_types.specs.Names.{find_at, members_in}
use Rattle.alloc_tree.specs.Contents.{whole}
use Rattle.alloc_tree.proofs.Maps.{get_is_find, entries_of}
use Rattle.alloc_tree.proofs.Refusals.{no_directory}
use Rattle.alloc_tree.proofs.tree.Tree.lent.Goals as goal

pub returns-in-Err-clause-refusal : goal.returns-in-Err-clause-refusal
returns-in-Err-clause-refusal g c = rw (← c.self.view_is) (c.in-Err.ensures.refusal ∙ ap (λ f. no_directory (find_at f c.args.path.now)) (sym (get_is_find (whole c.self.inside.root))))

pub returns-in-Ok-clause-refusal : goal.returns-in-Ok-clause-refusal
returns-in-Ok-clause-refusal g c = rw (← c.self.view_is) (c.in-Ok.ensures.refusal ∙ ap (λ f. no_directory (find_at f c.args.path.now)) (sym (get_is_find (whole c.self.inside.root))))

pub returns-in-Ok-clause-ok : goal.returns-in-Ok-clause-ok
returns-in-Ok-clause-ok g c = rw (← c.self.view_is) (c.new.ensures ∙ c.in-Ok.ensures.members ∙ ap (members_in c.args.path.now) (sym (entries_of c.self.inside.root)))
