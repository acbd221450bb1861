use Rattle.std.proofs.Common.{◌∙◌, ap}
use Rattle.std.specs.Prelude.{find, option_map}
use Rattle.pps_types.specs.Reading.{OpenHandle}
use Rattle.pps_types.specs.Rests.{Progress}
use Rattle.sub_reader.specs.Rows.{number_in, rows_in, rows_of}
use Rattle.topics.specs.QueueRows.{is_full_client}
use Rattle.topics.proofs.Given.{is_full, full-found}
use Rattle.topics.proofs.server_handles.ServerHandles.full_client.Goals as goal

pub returns : goal.returns
returns c =
    let s = c.self.inside in
    c.find_full.ensures
    ∙ ap (λ ss. option_map number_in (find is_full_client (rows_in ss))) c.slots.ensures
    ∙ full-found s.object s.name (rows_of s.rows) c.self.invariant.each
    ∙ ap (λ v. option_map (λ (h : OpenHandle Progress). h.number) (find (is_full s.object s.name) v.handles)) c.self.view_is
