use Rattle.std.proofs.Common.{◌∙◌, map, sym, ap, subst}
use Rattle.std.specs.Prelude.{option_map}
use Rattle.pps_types.specs.WellFormed.{RiseBetween}
use Rattle.sub_reader.specs.Opened.{opened, as_opened, handle_at, number_of}
use Rattle.open_handles.specs.Whole.{Whole, handles_in, name_at}
use Rattle.open_handles.specs.declared.handles.Opened.{Opened as OpenedAs}
use Rattle.service_state.specs.Tables.{content_in}
use Rattle.handle_requests.proofs.Backlogs.{none_meant, some_meant}
use Rattle.handle_requests.proofs.backlog.has_client.Goals as goal

pub returns-in-None : goal.returns-in-None
returns-in-None c =
    none_meant (content_in c.args.tables.now) c.args.tables.now.handles.rows.next
    (subst (λ (w : Whole). RiseBetween 0 (map (λ h. h.number) (handles_in w)) w.rows.next) c.handles-handles.ensures c.handles_are_placed.ensures.rise) c.args.object c.args.id
    (ap (option_map (λ (o : OpenedAs). opened (number_of o.found) (name_at o.found c.handles-handles.result.now) o.opening.now)) (sym c.in-None.is) ∙ c.opening.ensures ∙ ap (λ (w : Whole). option_map as_opened (handle_at c.args.id (handles_in w))) c.handles-handles.ensures)

pub returns-in-Some : goal.returns-in-Some
returns-in-Some c =
    c.is_client_of.ensures
    ∙ some_meant (content_in c.args.tables.now) c.args.tables.now.handles.rows.next
    (subst (λ (w : Whole). RiseBetween 0 (map (λ h. h.number) (handles_in w)) w.rows.next) c.handles-handles.ensures c.handles_are_placed.ensures.rise) c.args.object c.args.id
    (opened (number_of c.in-Some.opened.found) (name_at c.in-Some.opened.found c.handles-handles.result.now) c.in-Some.opened.opening.now)
    (ap (option_map (λ (o : OpenedAs). opened (number_of o.found) (name_at o.found c.handles-handles.result.now) o.opening.now)) (sym c.in-Some.is) ∙ c.opening.ensures ∙ ap (λ (w : Whole). option_map as_opened (handle_at c.args.id (handles_in w))) c.handles-handles.ensures)
