use Rattle.std.proofs.Common.{sym, ap, ◌∙◌, map}
use Rattle.sub_reader.specs.Opened.{number_of}
use Rattle.sub_reader.specs.Places.{handle_of}
use Rattle.sub_reader.specs.Rows.{rows_of}
use Rattle.sub_reader.proofs.Finds.{map-none}
use Rattle.sub_reader.proofs.subscribers.Subscribers.is_empty.Goals as goal

pub returns : goal.returns
returns c =
    let t = c.self.inside in
    let see = handle_of (number_of t.of) t.name t.records.start t.records.items in (
      λ is. ap (λ v. v.handles) (sym c.self.view_is) ∙ ap (map see) (c.is_empty.ensures.0 is),
      λ none. c.is_empty.ensures.1 (map-none see (rows_of t.rows) (ap (λ v. v.handles) c.self.view_is ∙ none)),
    )
