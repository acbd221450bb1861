use Rattle.std.proofs.Common.{refl, ap, ◌∙◌}
use Rattle.sub_reader.specs.HandleAt.{armed_at}
use Rattle.sub_reader.specs.Opened.{armed_pulse}
use Rattle.sub_reader.specs.Rows.{rows_of}
use Rattle.sub_reader.proofs.Finds.{armed-seen}
use Rattle.topics.specs.QueueRows.{handle_of}
use Rattle.topics.proofs.server_handles.ServerHandles.armed.Goals as goal

pub returns : goal.returns
returns c =
    let t = c.self.inside in
    ap armed_pulse c.armed.ensures
    ∙ armed-seen (handle_of t.object t.name) (λ r. refl) (λ r. refl) c.args.number (rows_of t.rows)
    ∙ ap (λ v. armed_at c.args.number v.handles) c.self.view_is
