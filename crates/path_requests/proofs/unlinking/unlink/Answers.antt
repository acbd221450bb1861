use Rattle.std.specs.Prelude.{◌≡◌, Some, None, map, false, option_map}
use Rattle.std.proofs.Common.{sym, ◌∙◌, ap}
use Rattle.std.proofs.lemmas.Result.{err_from_is_err_and}
use Rattle.pps_types.specs.declared.found.Found.TheVariants.{Object as FoundObject, Directory as FoundDirectory}
use Rattle.pps_types.specs.declared.record.Kind.TheVariants.{Deleted}
use Rattle.pps_types.specs.Content.{LiveObject, at}
use Rattle.pps_types.specs.Checks.{first_refusal, unlink_checks}
use Rattle.pps_types.specs.Plan.{entry_of}
use Rattle.service_state.specs.Tables.{content_in}
use Rattle.service_state.specs.Begun.{bare, telling}
use Rattle.path_requests.proofs.Checked.{unlink_fails}
use Rattle.path_requests.proofs.Gone.{removed_does, removed_bare, numbered_there, no_directory_there, object_there}
use Rattle.path_requests.proofs.Deleted.{deletion_able, deletion_plain, deletion_does, deletion_refusal, deletion_fails, removal_passes}
use Rattle.path_requests.proofs.unlinking.unlink.Goals as goal

pub returns-in_err-found-clause-err : goal.returns-in_err-found-clause-err
returns-in_err-found-clause-err c =
    let p = err_from_is_err_and c.from_residual-in_err-found.result c.from_residual-in_err-found.ensures.1 in
    rw (p.1, p.2) (unlink_fails (content_in c.args.tables.now) c.args.conn c.args.path.now c.in_ok-names.names.items c.deref.result.now c.in_ok-names.ensures.ok c.deref.ensures.value
    c.in_err-found.field-0.0 c.in_err-found.ensures.refusal)

pub returns-in-Directory-clause-passes : goal.returns-in-Directory-clause-passes
returns-in-Directory-clause-passes c =
    let there : at (content_in c.args.tables.now) c.in_ok-names.names.items ≡ Some (FoundDirectory c.in-Directory.directory) = ap (at (content_in c.args.tables.now)) (sym c.deref.ensures.value) ∙ c.in_ok-found.ensures.found ∙ ap Some c.in-Directory.is in
    removal_passes c.events_are_settled.ensures (content_in c.args.tables.now) c.requires c.in_ok-names.names.items c.in-Directory.directory
    (numbered_there (content_in c.args.tables.now) c.requires c.in_ok-names.names.items c.in-Directory.directory there)
    c.args.conn c.args.path.now c.in_ok-names.ensures.ok (sym (c.in_ok-found.ensures.refusal ∙ ap (λ p. first_refusal (unlink_checks (content_in c.args.tables.now) p)) c.deref.ensures.value)) c.numbers_are_within.ensures

pub returns-in-Directory-clause-does : goal.returns-in-Directory-clause-does
returns-in-Directory-clause-does c =
    let there : at (content_in c.args.tables.now) c.in_ok-names.names.items ≡ Some (FoundDirectory c.in-Directory.directory) = ap (at (content_in c.args.tables.now)) (sym c.deref.ensures.value) ∙ c.in_ok-found.ensures.found ∙ ap Some c.in-Directory.is in
    removed_does (content_in c.args.tables.now) c.requires c.in_ok-names.names.items c.in-Directory.directory
    (numbered_there (content_in c.args.tables.now) c.requires c.in_ok-names.names.items c.in-Directory.directory there)
    c.args.conn c.args.path.now c.in_ok-names.ensures.ok

pub returns-in-Directory-clause-ready : goal.returns-in-Directory-clause-ready
returns-in-Directory-clause-ready c =
    let there : at (content_in c.args.tables.now) c.in_ok-names.names.items ≡ Some (FoundDirectory c.in-Directory.directory) = ap (at (content_in c.args.tables.now)) (sym c.deref.ensures.value) ∙ c.in_ok-found.ensures.found ∙ ap Some c.in-Directory.is in
    removed_bare (content_in c.args.tables.now) c.requires c.in_ok-names.names.items c.in-Directory.directory
    (numbered_there (content_in c.args.tables.now) c.requires c.in_ok-names.names.items c.in-Directory.directory there)
    (sym (c.in_ok-found.ensures.refusal ∙ ap (λ p. first_refusal (unlink_checks (content_in c.args.tables.now) p)) c.deref.ensures.value))

pub begin_ready-requires-clause-able : goal.begin_ready-requires-clause-able
begin_ready-requires-clause-able c =
    let there : at (content_in c.args.tables.now) c.in_ok-names.names.items ≡ Some (FoundObject c.in-Object.object) = ap (at (content_in c.args.tables.now)) (sym c.deref.ensures.value) ∙ c.in_ok-found.ensures.found ∙ ap Some c.in-Object.is in
    deletion_able (content_in c.args.tables.now) c.in_ok-names.names.items c.deref-2.result.now
    (ap (map bare) c.deref-2.ensures.value ∙ c.in_ok-beginning.ensures.begun
    ∙ ap (λ o. telling (option_map (λ (k : LiveObject). entry_of k.object Deleted None) o)) (object_there (content_in c.args.tables.now) c.requires c.in_ok-names.names.items c.in-Object.object there))

pub begin_ready-requires-clause-plain : goal.begin_ready-requires-clause-plain
begin_ready-requires-clause-plain c =
    let there : at (content_in c.args.tables.now) c.in_ok-names.names.items ≡ Some (FoundObject c.in-Object.object) = ap (at (content_in c.args.tables.now)) (sym c.deref.ensures.value) ∙ c.in_ok-found.ensures.found ∙ ap Some c.in-Object.is in
    deletion_plain (content_in c.args.tables.now) c.in_ok-names.names.items c.deref-2.result.now
    (ap (map bare) c.deref-2.ensures.value ∙ c.in_ok-beginning.ensures.begun
    ∙ ap (λ o. telling (option_map (λ (k : LiveObject). entry_of k.object Deleted None) o)) (object_there (content_in c.args.tables.now) c.requires c.in_ok-names.names.items c.in-Object.object there))

pub returns-in_err-begin_ready-clause-err : goal.returns-in_err-begin_ready-clause-err
returns-in_err-begin_ready-clause-err c =
    let p = err_from_is_err_and c.from_residual-in_err-begin_ready.result c.from_residual-in_err-begin_ready.ensures.1 in
    let there : at (content_in c.args.tables.now) c.in_ok-names.names.items ≡ Some (FoundObject c.in-Object.object) = ap (at (content_in c.args.tables.now)) (sym c.deref.ensures.value) ∙ c.in_ok-found.ensures.found ∙ ap Some c.in-Object.is in
    rw (p.1, p.2) (deletion_fails (content_in c.args.tables.now) c.in_ok-names.names.items c.deref-2.result.now
    (ap (map bare) c.deref-2.ensures.value ∙ c.in_ok-beginning.ensures.begun
    ∙ ap (λ o. telling (option_map (λ (k : LiveObject). entry_of k.object Deleted None) o)) (object_there (content_in c.args.tables.now) c.requires c.in_ok-names.names.items c.in-Object.object there))
    c.args.conn c.args.path.now c.in_ok-names.ensures.ok (no_directory_there (content_in c.args.tables.now) c.in_ok-names.names.items c.in-Object.object there)
    c.events_are_settled.ensures (sym (c.in_ok-found.ensures.refusal ∙ ap (λ p. first_refusal (unlink_checks (content_in c.args.tables.now) p)) c.deref.ensures.value))
    c.in_err-begin_ready.field-0.0 c.in_err-begin_ready.ensures.err)

pub returns-clause-passes : goal.returns-clause-passes
returns-clause-passes c =
    let there : at (content_in c.args.tables.now) c.in_ok-names.names.items ≡ Some (FoundObject c.in-Object.object) = ap (at (content_in c.args.tables.now)) (sym c.deref.ensures.value) ∙ c.in_ok-found.ensures.found ∙ ap Some c.in-Object.is in
    deletion_refusal (content_in c.args.tables.now) c.in_ok-names.names.items c.deref-2.result.now
    (ap (map bare) c.deref-2.ensures.value ∙ c.in_ok-beginning.ensures.begun
    ∙ ap (λ o. telling (option_map (λ (k : LiveObject). entry_of k.object Deleted None) o)) (object_there (content_in c.args.tables.now) c.requires c.in_ok-names.names.items c.in-Object.object there))
    c.args.conn c.args.path.now c.in_ok-names.ensures.ok (no_directory_there (content_in c.args.tables.now) c.in_ok-names.names.items c.in-Object.object there)
    c.events_are_settled.ensures (sym (c.in_ok-found.ensures.refusal ∙ ap (λ p. first_refusal (unlink_checks (content_in c.args.tables.now) p)) c.deref.ensures.value))
    false c.in_ok-begin_ready.ensures.within

pub returns-clause-does : goal.returns-clause-does
returns-clause-does c =
    let there : at (content_in c.args.tables.now) c.in_ok-names.names.items ≡ Some (FoundObject c.in-Object.object) = ap (at (content_in c.args.tables.now)) (sym c.deref.ensures.value) ∙ c.in_ok-found.ensures.found ∙ ap Some c.in-Object.is in
    deletion_does (content_in c.args.tables.now) c.in_ok-names.names.items c.in_ok-beginning.beginning.items
    (c.in_ok-beginning.ensures.begun ∙ ap (λ o. telling (option_map (λ (k : LiveObject). entry_of k.object Deleted None) o)) (object_there (content_in c.args.tables.now) c.requires c.in_ok-names.names.items c.in-Object.object there))
    c.args.conn c.args.path.now c.in_ok-names.ensures.ok (no_directory_there (content_in c.args.tables.now) c.in_ok-names.names.items c.in-Object.object there)
