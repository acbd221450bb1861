use Rattle.std.proofs.Common.{subst}
use Rattle.sub_reader.specs.Opened.{is_directory, number_of}
use Rattle.sub_reader.specs.HandlesOf.{AreOn}
use Rattle.sub_reader.proofs.HandlesOn.{are-on_topic}
use Rattle.sub_reader.specs.Rows.{rows_of}
use Rattle.sub_reader.proofs.subscribers.Subscribers.handles_are_on_it.Goals as goal

pub returns : goal.returns
returns c =
    let t = c.self.inside in
    subst (λ v. AreOn (is_directory v.of) (number_of v.of) v.handles) c.self.view_is
    (are-on_topic (number_of t.of) t.name t.records.start t.records.items (is_directory t.of) (rows_of t.rows) c.self.invariant.loose.each c.self.invariant.loose.rising)
