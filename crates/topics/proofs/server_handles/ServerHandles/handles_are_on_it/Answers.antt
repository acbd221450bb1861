use Rattle.std.proofs.Common.{subst, false}
use Rattle.sub_reader.specs.HandlesOf.{AreOn}
use Rattle.sub_reader.specs.Rows.{rows_of}
use Rattle.topics.proofs.HandlesOf.{are-on_topic}
use Rattle.topics.proofs.server_handles.ServerHandles.handles_are_on_it.Goals as goal

pub returns : goal.returns
returns c =
    let s = c.self.inside in
    subst (λ v. AreOn false v.object v.handles) c.self.view_is (are-on_topic s.object s.name s.led (rows_of s.rows) c.self.invariant)
