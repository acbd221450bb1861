use Rattle.std.proofs.Common.{◌++◌, ◌∙◌}
use Rattle.alloc_tree.specs.Contents.{whole}
use Rattle.alloc_tree.proofs.Walks.{beyond_all}
use Rattle.alloc_tree.proofs.directory.Directory.walked.Goals as goal

pub returns : goal.returns
returns g c = c.in_ok-walk.ensures ∙ (λ j. c.new-walked.ensures.items j ++ beyond_all (whole c.args.self.now) j)
