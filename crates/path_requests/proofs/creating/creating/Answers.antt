use Rattle.std.proofs.Common.{ap, ◌∙◌}
use Rattle.pps_types.specs.Names as paths
use Rattle.name_table.specs.Standing.{Named}
use Rattle.path_requests.proofs.Readied.{creates_ready}
use Rattle.path_requests.proofs.creating.creating.Goals as goal

pub returns-clause-ready : goal.returns-clause-ready
returns-clause-ready c =
    creates_ready c.args.tables.now c.object_ready.new.tables c.tell_ready.new.self _ c.args.opening c.args.is_served c.new-number.result c.last_name-name.result.now c.deref.result.now c.in_ok-entry.entry
    c.questions_are_told.ensures c.object_ready.ensures.content c.tell_ready.ensures.content c.requires.content c.in_ok-object_ready.ensures.ready c.tell_ready.ensures.names c.deref.ensures.value c.requires.above c.requires.objects
    c.in_ok-object_ready.ensures.place c.tell_ready.ensures.kept (c.new-number.ensures ∙ c.next_object.ensures ∙ ap (λ (n : Named). n.objects.next) c.names.ensures) c.in_ok-site.ensures.object
    (c.in_ok-site.ensures.site ∙ (λ i. record { name = c.in_ok-from_slice.ensures i; service = c.args.is_served })) (c.last_name-name.ensures ∙ ap paths.last_name c.deref-2.ensures.value)
    c.owner-server.ensures c.in_ok-creation.ensures.entry c.in_ok-entry.ensures c.in_ok-creation.ensures.room c.in_ok-creation.ensures.shared c.requires.records
    c.in_ok-object_ready.ensures.room c.in_ok-object_ready.ensures.connection c.tell_ready.ensures.connections c.requires.number c.requires.suits
