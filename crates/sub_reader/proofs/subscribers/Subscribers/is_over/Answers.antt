use Rattle.std.proofs.Common.{ap, ◌∙◌, Option, Some, None, false}
use Rattle.std.specs.Option.{option_map_or}
use Rattle.pps_types.specs.Reading.{OpenHandle}
use Rattle.pps_types.specs.Rests.{Progress, is_over}
use Rattle.sub_reader.specs.Opened.{handle_at, number_of}
use Rattle.sub_reader.proofs.Finds.{found-handle}
use Rattle.sub_reader.specs.Rows.{rows_of}
use Rattle.sub_reader.proofs.subscribers.Subscribers.is_over.Goals as goal

pub returns-in_default : goal.returns-in_default
returns-in_default c =
    let t = c.self.inside in
    ap ((λ (o : Option (OpenHandle Progress)). option_map_or (λ h. is_over h.seen) o false)) (found-handle (number_of t.of) t.name t.records.start t.records.items (rows_of t.rows) c.args.number None c.in_default.ensures ∙ ap (λ v. handle_at c.args.number v.handles) c.self.view_is)

pub returns : goal.returns
returns c =
    let t = c.self.inside in
    c.is_over.ensures t.records.start t.records.items
    ∙ ap ((λ (o : Option (OpenHandle Progress)). option_map_or (λ h. is_over h.seen) o false)) (found-handle (number_of t.of) t.name t.records.start t.records.items (rows_of t.rows) c.args.number (Some c.in-Some.reader.now) c.in-Some.ensures ∙ ap (λ v. handle_at c.args.number v.handles) c.self.view_is)
