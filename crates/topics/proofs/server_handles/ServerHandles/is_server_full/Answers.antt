use Rattle.std.proofs.Common.{◌∙◌, length, ap, Option, Some, None, false, not}
use Rattle.std.specs.Prelude.{filter, nat_le}
use Rattle.std.specs.Option.{option_map_or}
use Rattle.pps_types.specs.Reading.{OpenHandle}
use Rattle.pps_types.specs.Rests.{Progress}
use Rattle.pps_types.specs.Checks.{count_owed, is_message_of}
use Rattle.sub_reader.specs.Opened.{handle_at}
use Rattle.sub_reader.specs.Rows.{rows_of}
use Rattle.topics.proofs.Seen.{found-handle, found-right}
use Rattle.topics.proofs.Given.{count-is, not-lt}
use Rattle.topics.proofs.server_handles.ServerHandles.is_server_full.Goals as goal

pub returns-in-None : goal.returns-in-None
returns-in-None c =
    let t = c.self.inside in
    ap (λ (o : Option (OpenHandle Progress)). option_map_or (λ h. nat_le h.limit (count_owed (is_message_of c.args.client) h)) o false) (found-handle t.object t.name (rows_of t.rows) c.args.server None c.in-None.ensures ∙ ap (λ v. handle_at c.args.server v.handles) c.self.view_is)

pub returns-in-Some : goal.returns-in-Some
returns-in-Some c =
    let t = c.self.inside in
    let x = c.in-Some.row.now in
    let right = found-right t.object t.name (rows_of t.rows) c.args.server x c.self.invariant.each c.in-Some.ensures in
    ap not c.can_take.ensures
    ∙ not-lt (length (filter (is_message_of c.args.client) x.progress.owed)) x.progress.limit
    ∙ (λ i. nat_le (right.limit i) (count-is t.object t.name x right (is_message_of c.args.client) i))
    ∙ ap (λ (o : Option (OpenHandle Progress)). option_map_or (λ h. nat_le h.limit (count_owed (is_message_of c.args.client) h)) o false) (found-handle t.object t.name (rows_of t.rows) c.args.server (Some x) c.in-Some.ensures ∙ ap (λ v. handle_at c.args.server v.handles) c.self.view_is)
