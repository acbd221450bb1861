use Rattle.std.proofs.Common.{ap, sym, length, ◌∙◌, Some, None}
use Rattle.std.specs.Prelude.{option_and_then}
use Rattle.pps_types.specs.Reading.{OpenHandle, visible}
use Rattle.pps_types.specs.Rests.{Progress}
use Rattle.pps_types.specs.Owed.{owed_in_seen}
use Rattle.sub_reader.specs.Opened.{handle_at}
use Rattle.topics.specs.QueueRows.{handle_of}
use Rattle.sub_reader.specs.Rows.{rows_of}
use Rattle.topics.proofs.Seen.{found-handle, found-right, all-kept}
use Rattle.topics.proofs.server_handles.ServerHandles.owed.Goals as goal

pub returns-in-None : goal.returns-in-None
returns-in-None c =
    let t = c.self.inside in
    ap (option_and_then (λ (h : OpenHandle Progress). owed_in_seen h h.seen)) (found-handle t.object t.name (rows_of t.rows) c.args.number None c.in-None.ensures ∙ ap (λ v. handle_at c.args.number v.handles) c.self.view_is)

pub returns-in-Some : goal.returns-in-Some
returns-in-Some c =
    let t = c.self.inside in
    let x = c.in-Some.row.now in
    let right = found-right t.object t.name (rows_of t.rows) c.args.number x c.self.invariant.each c.in-Some.ensures in
    ap Some (c.owed_count.ensures ∙ ap length (sym (all-kept (visible (handle_of t.object t.name x)) x.progress.owed right.owed)))
    ∙ ap (option_and_then (λ (h : OpenHandle Progress). owed_in_seen h h.seen)) (found-handle t.object t.name (rows_of t.rows) c.args.number (Some x) c.in-Some.ensures ∙ ap (λ v. handle_at c.args.number v.handles) c.self.view_is)
