use Rattle.std.proofs.Common.{map, sym, ap, ◌∙◌}
use Rattle.sub_reader.specs.Rows.{rows_of}
use Rattle.sub_reader.proofs.Finds.{map-none}
use Rattle.topics.specs.QueueRows.{handle_of}
use Rattle.topics.proofs.server_handles.ServerHandles.is_empty.Goals as goal

pub returns : goal.returns
returns c =
    let s = c.self.inside in (
      λ is. ap (λ v. v.handles) (sym c.self.view_is) ∙ ap (map (handle_of s.object s.name)) (c.is_empty.ensures.0 is),
      λ none. c.is_empty.ensures.1 (map-none (handle_of s.object s.name) (rows_of s.rows) (ap (λ v. v.handles) c.self.view_is ∙ none)),
    )
