use Rattle.std.proofs.Common.{refl, ap, ◌∙◌}
use Rattle.sub_reader.specs.HandleAt.{parked_at}
use Rattle.sub_reader.specs.Opened.{number_of}
use Rattle.sub_reader.specs.Places.{handle_of}
use Rattle.sub_reader.specs.Rows.{rows_of}
use Rattle.sub_reader.proofs.Finds.{parked-seen}
use Rattle.sub_reader.proofs.subscribers.Subscribers.parked.Goals as goal

pub returns : goal.returns
returns c =
    let t = c.self.inside in
    c.parked.ensures
    ∙ parked-seen (handle_of (number_of t.of) t.name t.records.start t.records.items) (λ r. refl) (λ r. refl) c.args.number (rows_of t.rows)
    ∙ ap (λ v. parked_at c.args.number v.handles) c.self.view_is
