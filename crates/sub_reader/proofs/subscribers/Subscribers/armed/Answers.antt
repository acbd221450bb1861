use Rattle.std.proofs.Common.{refl, ap, ◌∙◌}
use Rattle.sub_reader.specs.HandleAt.{armed_at}
use Rattle.sub_reader.specs.Opened.{number_of, armed_pulse}
use Rattle.sub_reader.specs.Places.{handle_of}
use Rattle.sub_reader.specs.Rows.{rows_of}
use Rattle.sub_reader.proofs.Finds.{armed-seen}
use Rattle.sub_reader.proofs.subscribers.Subscribers.armed.Goals as goal

pub returns : goal.returns
returns c =
    let t = c.self.inside in
    ap armed_pulse c.armed.ensures
    ∙ armed-seen (handle_of (number_of t.of) t.name t.records.start t.records.items) (λ r. refl) (λ r. refl) c.args.number (rows_of t.rows)
    ∙ ap (λ v. armed_at c.args.number v.handles) c.self.view_is
