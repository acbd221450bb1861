use Rattle.std.proofs.Common.{◌≡◌, subst}
use Rattle.std.specs.List.{AllByRecursion}
use Rattle.pps_types.specs.Reading.{OpenHandle, Queue, style}
use Rattle.pps_types.specs.Rests.{Progress}
use Rattle.sub_reader.specs.Rows.{rows_of}
use Rattle.topics.specs.Standing.{Standing}
use Rattle.topics.proofs.HandlesOf.{all-queued, all-named}
use Rattle.topics.proofs.server_handles.ServerHandles.handles_are_queued.Goals as goal

pub returns-clause-queued : goal.returns-clause-queued
returns-clause-queued c =
    let s = c.self.inside in
    subst (λ (v : Standing). AllByRecursion (λ (h : OpenHandle Progress). style h.kind ≡ Queue) v.handles) c.self.view_is (all-queued s.object s.name (rows_of s.rows) c.self.invariant.each)

pub returns-clause-named : goal.returns-clause-named
returns-clause-named c =
    let s = c.self.inside in
    subst (λ (v : Standing). AllByRecursion (λ (h : OpenHandle Progress). h.name ≡ v.name) v.handles) c.self.view_is (all-named s.object s.name (rows_of s.rows))
