use Rattle.std.proofs.Common.{◌≡◌, [], subst}
use Rattle.pps_types.specs.Owed.{longest_rest}
use Rattle.sub_reader.specs.Rows.{rows_of}
use Rattle.topics.proofs.HandlesOf.{none-held}
use Rattle.topics.proofs.server_handles.ServerHandles.shares_no_list.Goals as goal

pub returns : goal.returns
returns c directory target =
    let s = c.self.inside in
    subst (λ v. longest_rest directory target v.handles ≡ []) c.self.view_is (none-held s.object s.name directory target (rows_of s.rows) c.self.invariant.each)
