use Rattle.std.proofs.Common.{ap, ◌∙◌, Option, Some, None, false}
use Rattle.std.specs.Option.{option_map_or}
use Rattle.pps_types.specs.Reading.{OpenHandle}
use Rattle.pps_types.specs.Rests.{Progress}
use Rattle.pps_types.specs.Content.{news}
use Rattle.sub_reader.specs.Opened.{handle_at, is_directory, number_of}
use Rattle.sub_reader.proofs.Finds.{found-handle, found-right}
use Rattle.sub_reader.specs.Rows.{rows_of}
use Rattle.sub_reader.proofs.subscribers.Subscribers.has_news.Goals as goal

pub returns-in-None : goal.returns-in-None
returns-in-None c =
    let t = c.self.inside in
    ap ((λ (o : Option (OpenHandle Progress)). option_map_or news o false)) (found-handle (number_of t.of) t.name t.records.start t.records.items (rows_of t.rows) c.args.number None c.in-None.ensures ∙ ap (λ v. handle_at c.args.number v.handles) c.self.view_is)

pub returns-in-Some : goal.returns-in-Some
returns-in-Some c =
    let t = c.self.inside in
    c.has_news.ensures.news (number_of t.of) t.name t.records.start t.records.items (found-right (number_of t.of) t.name t.records.start t.records.items (rows_of t.rows) c.args.number (is_directory t.of) c.in-Some.reader.now c.self.invariant.loose.each c.in-Some.ensures)
    ∙ ap ((λ (o : Option (OpenHandle Progress)). option_map_or news o false)) (found-handle (number_of t.of) t.name t.records.start t.records.items (rows_of t.rows) c.args.number (Some c.in-Some.reader.now) c.in-Some.ensures ∙ ap (λ v. handle_at c.args.number v.handles) c.self.view_is)
