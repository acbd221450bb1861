use Rattle.std.specs.Prelude.{◌≡◌, ◌∷◌, [], false, None, Ok}
use Rattle.std.proofs.Common.{sym, ap, subst, ◌∙◌, le_trans}
use Rattle.pps_types.specs.declared.found.Found.TheVariants.{Directory as FoundDirectory}
use Rattle.pps_types.specs.declared.record.Kind.TheVariants.{Created}
use Rattle.pps_types.specs.Names as paths
use Rattle.pps_types.specs.Content.{at}
use Rattle.pps_types.specs.History.{Entry}
use Rattle.name_table.specs.Standing.{Named, IsReadyToCreate}
use Rattle.open_handles.specs.Whole.{HasRoom, IsShared}
use Rattle.service_state.specs.Tables.{content_in}
use Rattle.path_requests.proofs.Places.{above_number}
use Rattle.path_requests.proofs.Readied.{created_ready}
use Rattle.path_requests.proofs.RestoreChecked.{place_free}
use Rattle.path_requests.proofs.restored_objects.creating.Goals as goal

pub directory_above-directory-requires-clause-place : goal.directory_above-directory-requires-clause-place
directory_above-directory-requires-clause-place c =
    let before = content_in c.args.tables.now in
    place_free before c.deref.result.now (ap (paths.new_refusal (at before)) c.deref.ensures.value ∙ c.requires.free)

pub returns-clause-is : goal.returns-clause-is
returns-clause-is c =
    let before = content_in c.args.tables.now in
    let path = c.args.path.items in
    let same = c.tell_ready.ensures.content ∙ c.create_ready.ensures.content in
    let above = subst (λ (p : paths.Path). paths.find_at (at before) (paths.parent p) ≡ Ok (FoundDirectory c.directory_above-directory.result)) c.deref.ensures.value c.directory_above-directory.ensures in
    let directory = above_number before path c.directory_above-directory.result above in
    λ i. record { number = (same i).next_object; directory = sym directory i; name = paths.last_name path; nopersist = false; server = None }

pub returns-clause-ready : goal.returns-clause-ready
returns-clause-ready c =
    let before = content_in c.args.tables.now in
    let path = c.args.path.items in
    let number = c.new-number.ensures ∙ c.next_object.ensures ∙ ap (λ (n : Named). n.objects.next) c.names.ensures in
    let name = c.last_name-name.ensures ∙ ap paths.last_name c.deref-3.ensures.value in
    let told = c.in_ok-creation.ensures.entry in
    created_ready c.args.tables.now c.tell_ready.new.self _ c.questions_are_told.ensures (c.tell_ready.ensures.content ∙ c.create_ready.ensures.content) c.requires.content
    (subst (λ (n : Named). IsReadyToCreate n path) (sym c.tell_ready.ensures.names) (subst (IsReadyToCreate c.create_ready.new.self.names) c.deref-2.ensures.value c.in-Ok.ensures.ready))
    (subst (λ (p : paths.Path). paths.find_at (at before) (paths.parent p) ≡ Ok (FoundDirectory c.directory_above-directory.result)) c.deref.ensures.value c.directory_above-directory.ensures)
    c.requires.objects (le_trans c.in-Ok.ensures.place c.tell_ready.ensures.kept.sites.objects.room) (c.in_ok-site.ensures.object ∙ number)
    (c.in_ok-site.ensures.site ∙ (λ i. record { name = (c.in_ok-from_slice.ensures ∙ name) i; service = false }))
    (told ∙ c.in_ok-entry.ensures ∙ (λ i. record { directory = c.directory_above-directory.result; name = name i; record_of = record { object = number i; kind = Created; writer = None } }))
    (subst (λ (e : Entry). HasRoom (e ∷ []) c.tell_ready.new.self.handles) (sym told) c.in_ok-creation.ensures.room)
    (subst (λ (e : Entry). IsShared c.in_ok-creation.creation.count e c.tell_ready.new.self.handles) (sym told) c.in_ok-creation.ensures.shared) c.requires.records
