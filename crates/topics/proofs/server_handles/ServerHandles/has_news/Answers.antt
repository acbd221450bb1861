use Rattle.std.proofs.Common.{ap, ◌∙◌, Option, Some, None, false}
use Rattle.std.specs.Option.{option_map_or}
use Rattle.pps_types.specs.Reading.{OpenHandle}
use Rattle.pps_types.specs.Rests.{Progress}
use Rattle.pps_types.specs.Content.{news}
use Rattle.sub_reader.specs.Opened.{handle_at}
use Rattle.sub_reader.specs.Rows.{rows_of}
use Rattle.topics.proofs.Seen.{found-handle}
use Rattle.topics.proofs.server_handles.ServerHandles.has_news.Goals as goal

pub returns-in-None : goal.returns-in-None
returns-in-None c =
    let t = c.self.inside in
    ap ((λ (o : Option (OpenHandle Progress)). option_map_or news o false)) (found-handle t.object t.name (rows_of t.rows) c.args.number None c.in-None.ensures ∙ ap (λ v. handle_at c.args.number v.handles) c.self.view_is)

pub returns-in-Some : goal.returns-in-Some
returns-in-Some c =
    let t = c.self.inside in
    c.news.ensures
    ∙ ap ((λ (o : Option (OpenHandle Progress)). option_map_or news o false)) (found-handle t.object t.name (rows_of t.rows) c.args.number (Some c.in-Some.row.now) c.in-Some.ensures ∙ ap (λ v. handle_at c.args.number v.handles) c.self.view_is)
