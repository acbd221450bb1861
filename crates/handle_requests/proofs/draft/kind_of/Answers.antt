use Rattle.std.proofs.Common.{◌≡◌, ◌∙◌, ℕ, List, [], ap}
use Rattle.std.specs.Prelude.{is_some}
use Rattle.std.specs.Option.{option_map_or}
use Rattle.pps_types.specs.declared.found.Found.{Found}
use Rattle.pps_types.specs.Content.{LiveObject}
use Rattle.pps_types.specs.Checks.{is_server}
use Rattle.open_handles.specs.Whole.{Whole, name_at}
use Rattle.service_state.specs.Tables.{content_in}
use Rattle.handle_requests.specs.Backlogs.{server_in}
use Rattle.handle_requests.specs.Writes.{author_of}
use Rattle.handle_requests.proofs.Texts.{server_passes, server_does, server_fails, client_passes, client_does, client_fails, object_passes, object_does, object_fails}
use Rattle.handle_requests.proofs.draft.kind_of.Goals as goal

-- the name by which it was looked up
called : {name : List ℕ} {handles whole : Whole} (found : Found) → name ≡ name_at found handles → handles ≡ whole → name ≡ name_at found whole
called found name same = name ∙ ap (name_at found) same

pub server_kind-requires : goal.server_kind-requires
server_kind-requires c = ap (λ m. is_some (server_in (content_in c.args.tables.now) m)) c.number-object.ensures ∙ c.requires.author.served (ap is_server c.in-Server.is)

pub returns-in-Server-clause-passes : goal.returns-in-Server-clause-passes
returns-in-Server-clause-passes c = server_passes (content_in c.args.tables.now) (author_of c.args.tables.now.handles c.args.writer.now) c.args.writer.now.kind c.args.text c.server_kind.result c.in-Server.is c.number-object.result c.number-object.ensures (rw (called c.args.writer.now.found c.name_of-name.ensures c.handles.ensures) at c.server_kind.ensures.passes) (rw (called c.args.writer.now.found c.name_of-name.ensures c.handles.ensures) at c.server_kind.ensures.does)

pub returns-in-Server-clause-does : goal.returns-in-Server-clause-does
returns-in-Server-clause-does c = server_does (content_in c.args.tables.now) (author_of c.args.tables.now.handles c.args.writer.now) c.args.writer.now.kind c.args.text c.server_kind.result c.in-Server.is c.number-object.result c.number-object.ensures (rw (called c.args.writer.now.found c.name_of-name.ensures c.handles.ensures) at c.server_kind.ensures.does)

pub returns-in-Server-clause-err : goal.returns-in-Server-clause-err
returns-in-Server-clause-err c = server_fails (content_in c.args.tables.now) (author_of c.args.tables.now.handles c.args.writer.now) c.args.writer.now.kind c.args.text c.server_kind.result c.in-Server.is c.number-object.result c.number-object.ensures (rw (called c.args.writer.now.found c.name_of-name.ensures c.handles.ensures) at c.server_kind.ensures.err)

pub returns-in-Client-clause-passes : goal.returns-in-Client-clause-passes
returns-in-Client-clause-passes c = client_passes (content_in c.args.tables.now) (author_of c.args.tables.now.handles c.args.writer.now) c.args.writer.now.kind c.args.text c.client_kind.result c.in-Client.is c.number-object.result c.number-object.ensures (rw (called c.args.writer.now.found c.name_of-name.ensures c.handles.ensures) at c.client_kind.ensures.passes) c.client_kind.ensures.does

pub returns-in-Client-clause-does : goal.returns-in-Client-clause-does
returns-in-Client-clause-does c = client_does (content_in c.args.tables.now) (author_of c.args.tables.now.handles c.args.writer.now) c.args.writer.now.kind c.args.text c.client_kind.result c.in-Client.is c.number-object.result c.number-object.ensures c.client_kind.ensures.does

pub returns-in-Client-clause-err : goal.returns-in-Client-clause-err
returns-in-Client-clause-err c = client_fails (content_in c.args.tables.now) (author_of c.args.tables.now.handles c.args.writer.now) c.args.writer.now.kind c.args.text c.client_kind.result c.in-Client.is c.number-object.result c.number-object.ensures (rw (called c.args.writer.now.found c.name_of-name.ensures c.handles.ensures) at c.client_kind.ensures.err)

pub returns-in_default-clause-passes : goal.returns-in_default-clause-passes
returns-in_default-clause-passes c = object_passes (content_in c.args.tables.now) (author_of c.args.tables.now.handles c.args.writer.now) c.args.text c.args.writer.now.object.now.held.attributes (ap (λ o. option_map_or (λ (o : LiveObject). o.attributes) o []) c.requires.author.known)
    c.args.writer.now.kind c.requires.author.plain c.in_default.not-Server c.in_default.not-Client c.object_kind.result (rw (called c.args.writer.now.found c.name_of-name.ensures c.handles.ensures) at c.object_kind.ensures.passes) c.object_kind.ensures.does

pub returns-in_default-clause-does : goal.returns-in_default-clause-does
returns-in_default-clause-does c = object_does (content_in c.args.tables.now) (author_of c.args.tables.now.handles c.args.writer.now) c.args.text c.args.writer.now.object.now.held.attributes (ap (λ o. option_map_or (λ (o : LiveObject). o.attributes) o []) c.requires.author.known)
    c.args.writer.now.kind c.requires.author.plain c.in_default.not-Server c.in_default.not-Client c.object_kind.result c.object_kind.ensures.does

pub returns-in_default-clause-err : goal.returns-in_default-clause-err
returns-in_default-clause-err c = object_fails (content_in c.args.tables.now) (author_of c.args.tables.now.handles c.args.writer.now) c.args.text c.args.writer.now.object.now.held.attributes (ap (λ o. option_map_or (λ (o : LiveObject). o.attributes) o []) c.requires.author.known)
    c.args.writer.now.kind c.requires.author.plain c.in_default.not-Server c.in_default.not-Client c.object_kind.result (rw (called c.args.writer.now.found c.name_of-name.ensures c.handles.ensures) at c.object_kind.ensures.err)
