use Rattle.std.specs.Prelude.{◌≡◌, ◌++◌, [], ◌∷◌, List, None, IfSome}
use Rattle.std.proofs.Common.{ap, sym, subst, ◌∙◌}
use Rattle.pps_types.specs.declared.found.Found.TheVariants.{Object as FoundObject}
use Rattle.pps_types.specs.Content.{object_numbered}
use Rattle.pps_types.specs.Plan.{AppendsRecord, entry_of}
use Rattle.service_state.specs.declared.beginning.Beginning.{Beginning}
use Rattle.service_state.specs.declared.beginning.Beginning.TheVariants.{AppendsRecord as HappensTo}
use Rattle.service_state.specs.Tables.{content_in}
use Rattle.path_requests.specs.declared.planned_open.Opens.{Opens}
use Rattle.path_requests.specs.Planned.{moves_of, IsReady}
use Rattle.path_requests.proofs.Carried.{opens_at}
use Rattle.path_requests.proofs.Readied.{told_ready, told_moved}
use Rattle.path_requests.proofs.on_found.on_told.Goals as goal

pub returns-clause-moves : goal.returns-clause-moves
returns-clause-moves c =
    subst (λ (o : Opens). IfSome (object_numbered (content_in c.args.tables.now) c.args.object) (λ known. moves_of o c.tell_ready.new.self ≡ AppendsRecord (entry_of known.object c.args.kind None) ∷ opens_at (FoundObject c.args.object) c.args.tables.now c.args.opening)) (sym c.opens_on.ensures)
    (told_moved c.args.tables.now c.open_ready.new.self c.tell_ready.new.self c.push.new.self c.in_ok-told.told c.args.object c.args.kind c.args.opening c.in_ok-entry.entry
    (c.in_ok-push.ensures.items ∙ ap (λ (xs : List Beginning). xs ++ HappensTo c.in_ok-told.told ∷ []) c.new-beginning.ensures.items)
    c.in_ok-told.ensures.entry c.in_ok-entry.ensures.ok c.open_ready.ensures.kept c.tell_ready.ensures.kept)

pub returns-clause-ready : goal.returns-clause-ready
returns-clause-ready c =
    subst (λ (o : Opens). IsReady o c.tell_ready.new.self) (sym c.opens_on.ensures)
    (told_ready c.args.tables.now c.open_ready.new.self c.tell_ready.new.self c.push.new.self c.in_ok-told.told c.args.conn c.args.object c.args.kind c.args.opening c.in_ok-entry.entry
    (c.in_ok-push.ensures.items ∙ ap (λ (xs : List Beginning). xs ++ HappensTo c.in_ok-told.told ∷ []) c.new-beginning.ensures.items)
    c.open_ready.ensures.content c.tell_ready.ensures.content c.requires.able c.requires.connection c.requires.number c.requires.last
    c.in_ok-told.ensures.entry c.in_ok-entry.ensures.ok c.open_ready.ensures.kept c.tell_ready.ensures.kept
    c.in_ok-open_ready.ensures.room c.in_ok-open_ready.ensures.place c.in_ok-open_ready.ensures.connection c.in_ok-told.ensures.room c.in_ok-told.ensures.shared)
