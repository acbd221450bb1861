use Rattle.std.proofs.Common.{sym, ap, ◌∙◌, count_by}
use Rattle.alloc_tree.specs.Contents.{whole}
use Rattle.alloc_tree.specs.Refused.{is_of}
use Rattle.alloc_tree.proofs.Ways.{nowhere_members}
use Rattle.alloc_tree.proofs.directory.Directory.count.Goals as goal

pub returns-in-Err : goal.returns-in-Err
returns-in-Err g c = sym (ap (count_by (λ m. is_of c.args.kind m.1)) (nowhere_members (whole c.args.self.now) c.args.path.now _ c.in-Err.ensures.none))

pub returns-in-Ok : goal.returns-in-Ok
returns-in-Ok g c = c.count_here.ensures ∙ ap (count_by (λ m. is_of c.args.kind m.1)) c.in-Ok.ensures.members
