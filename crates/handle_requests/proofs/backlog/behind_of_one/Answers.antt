use Rattle.std.proofs.Common.{◌≡◌, ◌∙◌, false, cond, Some, None, map, sym, ap, subst}
use Rattle.std.specs.Option.{option_map_or}
use Rattle.pps_types.specs.WellFormed.{RiseBetween}
use Rattle.sub_reader.specs.Opened.{handle_at}
use Rattle.open_handles.specs.Whole.{Whole, handles_in}
use Rattle.service_state.specs.Tables.{content_in}
use Rattle.handle_requests.specs.Backlogs.{is_behind}
use Rattle.handle_requests.proofs.Backlogs.{told_there, no_client, client_behind}
use Rattle.handle_requests.proofs.backlog.behind_of_one.Goals as goal

pub returns-then-not-has_client : goal.returns-then-not-has_client
returns-then-not-has_client c =
    no_client (content_in c.args.tables.now) c.args.tables.now.handles.rows.next
    (subst (λ (w : Whole). RiseBetween 0 (map (λ h. h.number) (handles_in w)) w.rows.next) c.handles-handles.ensures c.handles_are_placed.ensures.rise) c.args.object c.args.id
    (sym c.if-not-has_client.true ∙ c.has_client.ensures)

pub returns-then-is_client_full : goal.returns-then-is_client_full
returns-then-is_client_full c =
    ap (λ b. cond b (Some c.args.id) None) (sym c.if-is_client_full.true)
    ∙ client_behind (content_in c.args.tables.now) c.args.tables.now.handles.rows.next
    (subst (λ (w : Whole). RiseBetween 0 (map (λ h. h.number) (handles_in w)) w.rows.next) c.handles-handles.ensures c.handles_are_placed.ensures.rise) c.args.object c.args.id
    (sym c.if-not-has_client.false ∙ c.has_client.ensures) c.is_client_full.result
    (told_there c.args.tables.now c.are_tied.ensures c.args.object c.requires c.handles-handles.result.now c.handles-handles.ensures c.handles_are_placed.ensures.placed
    (λ hs. c.is_client_full.result ≡ option_map_or is_behind (handle_at c.args.id hs) false) c.is_client_full.ensures)

pub returns : goal.returns
returns c =
    ap (λ b. cond b (Some c.args.id) None) (sym c.if-is_client_full.false)
    ∙ client_behind (content_in c.args.tables.now) c.args.tables.now.handles.rows.next
    (subst (λ (w : Whole). RiseBetween 0 (map (λ h. h.number) (handles_in w)) w.rows.next) c.handles-handles.ensures c.handles_are_placed.ensures.rise) c.args.object c.args.id
    (sym c.if-not-has_client.false ∙ c.has_client.ensures) c.is_client_full.result
    (told_there c.args.tables.now c.are_tied.ensures c.args.object c.requires c.handles-handles.result.now c.handles-handles.ensures c.handles_are_placed.ensures.placed
    (λ hs. c.is_client_full.result ≡ option_map_or is_behind (handle_at c.args.id hs) false) c.is_client_full.ensures)
