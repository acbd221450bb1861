use Rattle.std.specs.Prelude.{◌≡◌, [], ◌∷◌, false, None, Ok}
use Rattle.std.proofs.Common.{sym, ap, subst, ◌∙◌}
use Rattle.pps_types.specs.declared.found.Found.TheVariants.{Directory as FoundDirectory}
use Rattle.pps_types.specs.Names as paths
use Rattle.pps_types.specs.Content.{at}
use Rattle.pps_types.specs.Plan.{Creates, apply_all_seen}
use Rattle.name_table.specs.Standing.{IsReadyToCreate}
use Rattle.service_state.specs.Tables.{content_in}
use Rattle.path_requests.proofs.Places.{above_number}
use Rattle.path_requests.proofs.Readied.{unheard_ready}
use Rattle.path_requests.proofs.RestoreChecked.{place_free}
use Rattle.path_requests.proofs.restored_objects.create_unheard.Goals as goal

pub directory_above-directory-requires-clause-place : goal.directory_above-directory-requires-clause-place
directory_above-directory-requires-clause-place c =
    let before = content_in c.args.tables.now in
    place_free before c.deref.result.now (ap (paths.new_refusal (at before)) c.deref.ensures.value ∙ c.requires.free)

pub create_unheard-requires : goal.create_unheard-requires
create_unheard-requires c =
    let before = content_in c.args.tables.now in
    let path = c.args.path.items in
    unheard_ready c.args.tables.now c.create_ready.new.self path c.directory_above-directory.result c.in_ok-name.name c.questions_are_told.ensures c.create_ready.ensures.content c.requires.content
    (subst (IsReadyToCreate c.create_ready.new.self.names) c.deref-3.ensures.value c.in-Ok.ensures.ready)
    (subst (λ (p : paths.Path). paths.find_at (at before) (paths.parent p) ≡ Ok (FoundDirectory c.directory_above-directory.result)) c.deref.ensures.value c.directory_above-directory.ensures)
    c.requires.objects c.in-Ok.ensures.place (c.in_ok-name.ensures ∙ c.last_name.ensures ∙ ap paths.last_name c.deref-2.ensures.value) c.requires.nobody c.requires.records

pub returns-clause-done : goal.returns-clause-done
returns-clause-done c =
    let before = content_in c.args.tables.now in
    let path = c.args.path.items in
    let same = c.create_ready.ensures.content in
    let above = subst (λ (p : paths.Path). paths.find_at (at before) (paths.parent p) ≡ Ok (FoundDirectory c.directory_above-directory.result)) c.deref.ensures.value c.directory_above-directory.ensures in
    let directory = above_number before path c.directory_above-directory.result above in
    c.create_unheard.ensures
    ∙ (λ i. apply_all_seen (Creates (record { number = (same i).next_object; directory = sym directory i; name = paths.last_name path; nopersist = false; server = None }) ∷ []) (same i))
