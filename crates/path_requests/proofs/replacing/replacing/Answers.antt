use Rattle.std.specs.Prelude.{Some}
use Rattle.std.proofs.Common.{ap, refl, ◌∙◌}
use Rattle.name_table.specs.Standing.{Named}
use Rattle.service_state.specs.declared.creating.Replacement.{Replacement}
use Rattle.path_requests.proofs.Readied.{replaces_ready, replaced_moves, deleted_there}
use Rattle.path_requests.proofs.replacing.replacing.Goals as goal

pub returns-clause-moves : goal.returns-clause-moves
returns-clause-moves c =
    let r : Replacement = record { object = c.args.object; nopersist = c.args.nopersist; server = Some c.args.opening.number; site = c.in_ok-site.site; deletion = c.in_ok-deletion-2.deletion; creation = c.in_ok-deletion-2.creation } in
    replaced_moves c.args.tables.now c.told_both.new.tables r (c.told_both.ensures.content ∙ c.object_ready.ensures.content) c.requires.content c.is_known.ensures c.requires.alive c.args.opening (ap Some c.requires.number)
    (deleted_there c.args.tables.now c.object_ready.new.tables c.args.object c.in_ok-deletion-2.deletion.entry c.in_ok-deletion.deletion c.object_ready.ensures.content c.in_ok-deletion-2.ensures.first c.in_ok-deletion.ensures.ok)

pub returns-clause-ready : goal.returns-clause-ready
returns-clause-ready c =
    replaces_ready c.args.tables.now c.object_ready.new.tables c.told_both.new.tables _ c.args.opening c.new-number.result c.in_ok-deletion.deletion c.in_ok-creation.creation
    c.object_ready.ensures.content c.told_both.ensures.content c.requires.content c.is_known.ensures c.requires.alive c.in_ok-object_ready.ensures.objects c.told_both.ensures.names c.requires.objects
    c.in_ok-object_ready.ensures.place c.told_both.ensures.kept c.in_ok-site.ensures.object (c.new-number.ensures ∙ c.next_object.ensures ∙ ap (λ (n : Named). n.objects.next) c.names.ensures)
    c.in_ok-site.ensures.site refl c.in_ok-deletion-2.ensures.first c.in_ok-deletion.ensures.ok c.in_ok-deletion-2.ensures.second c.in_ok-creation.ensures.ok
    c.in_ok-deletion-2.ensures.room c.in_ok-deletion-2.ensures.first_shared c.in_ok-deletion-2.ensures.second_shared c.requires.records
    c.in_ok-object_ready.ensures.room c.in_ok-object_ready.ensures.connection c.told_both.ensures.connections c.requires.number c.requires.suits
