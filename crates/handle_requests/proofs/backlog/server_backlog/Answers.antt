use Rattle.std.proofs.Common.{◌≡◌, ◌∙◌, false, cond, Some, None, sym, ap}
use Rattle.std.specs.Prelude.{is_some}
use Rattle.std.specs.Option.{option_map_or}
use Rattle.pps_types.specs.declared.refusal.Refusal.TheVariants.{Backlogged}
use Rattle.sub_reader.specs.Opened.{handle_at}
use Rattle.service_state.specs.Tables.{content_in}
use Rattle.handle_requests.proofs.Backlogs.{told_there, owes, no_server, server_behind}
use Rattle.handle_requests.proofs.backlog.server_backlog.Goals as goal

pub returns-in_default : goal.returns-in_default
returns-in_default c = sym (no_server (content_in c.args.tables.now) c.args.object c.args.client (sym c.server_of.ensures ∙ c.in_default.is))

pub returns-then-is_server_full : goal.returns-then-is_server_full
returns-then-is_server_full c = ap (λ b. cond b (Some (Backlogged c.in-Some.server)) None) (sym c.if-is_server_full.true) ∙ server_behind (content_in c.args.tables.now) c.requires c.args.object c.args.client c.in-Some.server (sym c.server_of.ensures ∙ c.in-Some.is) c.is_server_full.result
    (told_there c.args.tables.now c.are_tied.ensures c.args.object (ap is_some (sym c.server_of.ensures ∙ c.in-Some.is)) c.handles-handles.result.now c.handles-handles.ensures c.handles_are_placed.ensures.placed
    (λ hs. c.is_server_full.result ≡ option_map_or (owes c.args.client) (handle_at c.in-Some.server hs) false) c.is_server_full.ensures)

pub returns : goal.returns
returns c = ap (λ b. cond b (Some (Backlogged c.in-Some.server)) None) (sym c.if-is_server_full.false) ∙ server_behind (content_in c.args.tables.now) c.requires c.args.object c.args.client c.in-Some.server (sym c.server_of.ensures ∙ c.in-Some.is) c.is_server_full.result
    (told_there c.args.tables.now c.are_tied.ensures c.args.object (ap is_some (sym c.server_of.ensures ∙ c.in-Some.is)) c.handles-handles.result.now c.handles-handles.ensures c.handles_are_placed.ensures.placed
    (λ hs. c.is_server_full.result ≡ option_map_or (owes c.args.client) (handle_at c.in-Some.server hs) false) c.is_server_full.ensures)
