use Rattle.std.proofs.Common.{sym, ap, ◌∙◌, Some, None}
use Rattle.std.specs.Prelude.{option_map}
use Rattle.sub_reader.specs.Opened.{handle_at}
use Rattle.sub_reader.specs.Glances.{glanced, glance_on}
use Rattle.sub_reader.specs.Rows.{rows_of}
use Rattle.topics.proofs.Seen.{found-handle, found-right}
use Rattle.topics.proofs.server_handles.ServerHandles.glance.Goals as goal

pub returns-in-None : goal.returns-in-None
returns-in-None c =
    let t = c.self.inside in
    ap (option_map glanced) (found-handle t.object t.name (rows_of t.rows) c.args.number None c.in-None.ensures ∙ ap (λ v. handle_at c.args.number v.handles) c.self.view_is)

pub returns-in-Some : goal.returns-in-Some
returns-in-Some c =
    let t = c.self.inside in
    let x = c.in-Some.row.now in
    ap (λ v. Some (glance_on v.object v.name c.glance_at.result)) (sym c.self.view_is)
    ∙ ap Some (c.glance_at.ensures t.object t.name (found-right t.object t.name (rows_of t.rows) c.args.number x c.self.invariant.each c.in-Some.ensures))
    ∙ ap (option_map glanced) (found-handle t.object t.name (rows_of t.rows) c.args.number (Some x) c.in-Some.ensures ∙ ap (λ v. handle_at c.args.number v.handles) c.self.view_is)
