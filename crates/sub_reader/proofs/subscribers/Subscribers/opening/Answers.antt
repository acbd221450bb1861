use Rattle.std.proofs.Common.{refl, sym, ap, ◌∙◌}
use Rattle.std.specs.Prelude.{option_map}
use Rattle.std.specs.Option.{option_copied}
use Rattle.sub_reader.specs.Opened.{opened, as_opened, handle_at, number_of}
use Rattle.sub_reader.specs.Places.{handle_of}
use Rattle.sub_reader.specs.Rows.{rows_of}
use Rattle.sub_reader.proofs.Finds.{opening-seen}
use Rattle.sub_reader.proofs.subscribers.Subscribers.opening.Goals as goal

pub returns : goal.returns
returns c =
    let t = c.self.inside in
    ap (λ v. option_map (opened (number_of v.of) v.name) (option_copied c.opening.result)) (sym c.self.view_is)
    ∙ ap (option_map (opened (number_of t.of) t.name)) c.opening.ensures
    ∙ opening-seen (handle_of (number_of t.of) t.name t.records.start t.records.items) (λ r. refl) (number_of t.of) t.name (λ r. refl) c.args.number (rows_of t.rows)
    ∙ ap (λ v. option_map as_opened (handle_at c.args.number v.handles)) c.self.view_is
