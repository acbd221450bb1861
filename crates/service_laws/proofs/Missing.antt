-- Where no check refuses, nothing that the plan looks up is missing.
use Rattle.std.proofs.Common.{◌≡◌, ℕ, Bool, true, false, not, ◌&&◌, cond, List, [], ◌∷◌, ◌++◌, Option, Some, None, Result, Ok, Err, refl, sym, ap, ◌∙◌}
use Rattle.std.specs.Prelude.{is_none, is_some, option_map, ok_or, nat_le, nat_lt, length}
use Rattle.std.specs.Option.{option_map_or, option_or}
use Rattle.pps_types.specs.declared.found.Found.{Found}
use Rattle.pps_types.specs.declared.found.Found.TheVariants.{Object as FoundObject, Directory as FoundDirectory}
use Rattle.pps_types.specs.declared.refusal.Refusal.{Refusal}
use Rattle.pps_types.specs.declared.event.Mode.{Mode}
use Rattle.pps_types.specs.declared.event.Request.TheVariants.{Attach, Detach, Open as OpenRequest, Read, Write, Close, Unlink, Mkdir, List as ListRequest, Notify, Receive}
use Rattle.pps_types.specs.declared.handle_kind.HandleKind.{HandleKind}
use Rattle.pps_types.specs.declared.handle_kind.HandleKind.TheVariants.{Object as ObjectHandle, Directory as DirectoryHandle, Names as NamesHandle, Server as ServerHandle, Client as ClientHandle}
use Rattle.pps_types.specs.Bytes.{is_empty, ◌>>=◌}
use Rattle.pps_types.specs.Text.{WriteText, write_text}
use Rattle.pps_types.specs.Names.{Path, parent, is_object, is_directory, place, find_at, new_refusal, refusal_of}
use Rattle.pps_types.specs.OpenText.{OpenSpec, open_text, path_text}
use Rattle.pps_types.specs.Reading.{OpenHandle, Answer, Everything, Blocks, Needs, TargetGone, Waits, Nothing}
use Rattle.pps_types.specs.Rests.{Progress}
use Rattle.pps_types.specs.Content.{Content, Directory, LiveObject, directory_at, object_at, subdirectories, own_handle, at, target_is_dead, read_answer, is_attached}
use Rattle.pps_types.specs.Checks.{Check, Refuse, Memory, first_refusal, parsed, on_handle, on_path, refused, letters_fit, mode_fits, all_checks, name_checks, open_checks, read_checks, answer_checks, write_checks, text_checks, client_checks, where_lines, client_backlog, meant, close_checks, unlink_found, unlink_checks, mkdir_checks, list_checks, notify_checks, found_as, Addressee, Everyone, OneClient, Nobody, addressee, checks}
use Rattle.service_laws.specs.PlanLaws.{IsFound, IsRead, is_told, is_somebody, is_addressed, IsWritten, has_place, NothingIsMissing}
use Rattle.service_laws.proofs.Fits.{Tree, tree-in}
use Rattle.service_laws.proofs.Passes.{all-pass, passes-both, behind, at-directory, place-at, not-directory, above-place}

-- what is behind the check on the connection
attached : (c : Content) (conn : ℕ) (cs : List Check) → first_refusal (Refuse (not (is_attached c conn)) Refusal.NotAttached ∷ cs) ≡ None → first_refusal cs ≡ None
attached c conn cs p = (behind (not (is_attached c conn)) Refusal.NotAttached cs p).1

on-own : (c : Content) (conn handle : ℕ) (test : OpenHandle Progress → List Check) (P : OpenHandle Progress → Type 0) → ((h : OpenHandle Progress) → first_refusal (test h) ≡ None → P h)
    → first_refusal (on_handle c conn handle test) ≡ None → IsFound (own_handle c conn handle) P
on-own c conn handle test P holds p = go (own_handle c conn handle) p
  where
    go : (o : Option (OpenHandle Progress)) → first_refusal (option_map_or test o (Refuse true Refusal.BadHandle ∷ [])) ≡ None → IsFound o P
    go None p = absurd (let h = p in cc)
    go (Some h) p = holds h p

on-names : (text : List ℕ) (test : Path → List Check) (P : Path → Type 0) → ((names : Path) → first_refusal (test names) ≡ None → P names) → first_refusal (on_path text test) ≡ None → IsFound (path_text text) P
on-names text test P holds p = go (path_text text) p
  where
    go : (o : Option Path) → first_refusal (parsed (ok_or o Refusal.BadPath) test) ≡ None → IsFound o P
    go None p = absurd (let h = p in cc)
    go (Some names) p = holds names p

-- ---- Read

told : (c : Content) (h : OpenHandle Progress) (a : Answer) → first_refusal (answer_checks c h a) ≡ None → is_told a ≡ true
told c h (Everything text) p = refl
told c h (Blocks count text) p = refl
told c h (Needs need) p = absurd (let h = p in cc)
told c h TargetGone p = absurd (let h = p in cc)
told c h Waits p = refl
told c h Nothing p = refl

read-there : (c : Content) (size : ℕ) (h : OpenHandle Progress) → first_refusal (read_checks c size h) ≡ None → is_told (read_answer c h size) ≡ true
read-there c size h p =
    let first = behind (not h.reads) Refusal.BadMode (Refuse (not (nat_le 1 size && nat_le size 17000000)) Refusal.BadArgument ∷ Refuse (is_some h.parked) Refusal.ReadPending ∷ answer_checks c h (read_answer c h size)) p in
    let second = behind (not (nat_le 1 size && nat_le size 17000000)) Refusal.BadArgument (Refuse (is_some h.parked) Refusal.ReadPending ∷ answer_checks c h (read_answer c h size)) first.1 in
    told c h (read_answer c h size) (behind (is_some h.parked) Refusal.ReadPending (answer_checks c h (read_answer c h size)) second.1).1

-- ---- Write

addressed : (c : Content) (h : OpenHandle Progress) (kind : HandleKind) (text : WriteText) → first_refusal (text_checks c h kind text) ≡ None → is_addressed kind h.name text ≡ true
addressed c h ServerHandle text p = go (addressee h.name text.header) p
  where
    go : (to : Addressee) → first_refusal (client_checks c h.target to ++ where_lines text (client_backlog (meant c h.target to))) ≡ None → is_somebody to ≡ true
    go Everyone p = refl
    go (OneClient id) p = refl
    go Nobody p = absurd (let h = p in cc)
addressed c h ClientHandle text p = refl
addressed c h (ObjectHandle delta) text p = refl
addressed c h (DirectoryHandle delta) text p = refl
addressed c h NamesHandle text p = refl

write-there : (c : Content) (bytes : List ℕ) (h : OpenHandle Progress) → first_refusal (write_checks c bytes h) ≡ None → IsRead (write_text bytes) (IsWritten c h)
write-there c bytes h p =
    let first = behind (not h.writes) Refusal.BadMode (Refuse (nat_lt 65536 (length bytes)) Refusal.TooLarge ∷ Refuse (target_is_dead c h) Refusal.Gone ∷ Memory ∷ parsed (write_text bytes) (text_checks c h h.kind)) p in
    let second = behind (nat_lt 65536 (length bytes)) Refusal.TooLarge (Refuse (target_is_dead c h) Refusal.Gone ∷ Memory ∷ parsed (write_text bytes) (text_checks c h h.kind)) first.1 in
    let third = behind (target_is_dead c h) Refusal.Gone (Memory ∷ parsed (write_text bytes) (text_checks c h h.kind)) second.1 in
    go (write_text bytes) third.0 third.1
  where
    go : (r : Result WriteText Refusal) → target_is_dead c h ≡ false → first_refusal (parsed r (text_checks c h h.kind)) ≡ None → IsRead r (IsWritten c h)
    go (Err r) alive p = absurd (let h = p in cc)
    go (Ok text) alive p = record { alive = alive; addressed = addressed c h h.kind text p }

-- ---- Open

directory-there : (c : Content) (path : Path) (found : Option Found) → place (at c) path ≡ Ok found → is_none found ≡ false → found_as is_object found ≡ false → is_some (directory_at c path) ≡ true
directory-there c path None placed some other = absurd (let h = some in cc)
directory-there c path (Some (FoundObject number)) placed some other = absurd (let h = other in cc)
directory-there c path (Some (FoundDirectory number)) placed some other = at-directory c path (rw (place-at (at c) path (Some (FoundDirectory number)) placed) tt)

open-there : (c : Content) → Tree c → (mode : Mode) (spec : OpenSpec) → first_refusal (open_checks c mode spec) ≡ None → has_place c spec ≡ true
open-there c tree mode spec p = placed (place (at c) spec.names) refl (behind (not (mode_fits mode spec)) Refusal.BadMode (parsed (place (at c) spec.names) (λ found. cond spec.all (all_checks c found) (name_checks c mode spec found))) p).1
  where
    by : (all : Bool) (found : Option Found) → place (at c) spec.names ≡ Ok found → first_refusal (cond all (all_checks c found) (name_checks c mode spec found)) ≡ None → is_some (cond all (directory_at c spec.names) (directory_at c (parent spec.names))) ≡ true
    by true found there p = let tests = all-pass (all_checks c found) p in directory-there c spec.names found there tests.0 tests.1.0
    by false found there p =
        let tests = all-pass (name_checks c mode spec found) p in
        above-place c tree spec.names found there (not-directory c spec.names (ap (found_as is_directory) (place-at (at c) spec.names found there) ∙ tests.1.0))

    placed : (r : Result (Option Found) Refusal) → place (at c) spec.names ≡ r → first_refusal (parsed r (λ found. cond spec.all (all_checks c found) (name_checks c mode spec found))) ≡ None → has_place c spec ≡ true
    placed (Err r) there p = absurd (let h = p in cc)
    placed (Ok found) there p = by spec.all found there p

opened-there : (c : Content) → Tree c → (mode : Mode) (text : List ℕ) → first_refusal (parsed (open_text text) (open_checks c mode)) ≡ None → IsRead (open_text text) (λ spec. has_place c spec ≡ true)
opened-there c tree mode text p = go (open_text text) p
  where
    go : (r : Result OpenSpec Refusal) → first_refusal (parsed r (open_checks c mode)) ≡ None → IsRead r (λ spec. has_place c spec ≡ true)
    go (Err r) p = absurd (let h = p in cc)
    go (Ok spec) p = open-there c tree mode spec p

-- ---- paths

-- where no directory is, what is found is an object
either-there : (c : Content) (path : Path) (found : Found) → at c path ≡ Some found → directory_at c path ≡ None → is_some (object_at c path) ≡ true
either-there c path found e none = go (object_at c path) (ap (λ d. option_or (option_map (λ (d : Directory). FoundDirectory d.number) d) (option_map (λ (o : LiveObject). FoundObject o.object.number) (object_at c path))) (sym none) ∙ e)
  where
    go : (o : Option LiveObject) → option_or (option_map (λ (d : Directory). FoundDirectory d.number) None) (option_map (λ (o : LiveObject). FoundObject o.object.number) o) ≡ Some found → is_some o ≡ true
    go None e = absurd (let h = e in cc)
    go (Some o) e = refl

-- what is found at a path stands there
found-there : (c : Content) (path : Path) (test : Found → List Check) → first_refusal (parsed (find_at (at c) path) test) ≡ None
    → (found : Found) × (place (at c) path ≡ Ok (Some found)) × (first_refusal (test found) ≡ None)
found-there c path test p = go (place (at c) path) refl p
  where
    go : (r : Result (Option Found) Refusal) → place (at c) path ≡ r → first_refusal (parsed (r >>= (λ found. ok_or found Refusal.NotFound)) test) ≡ None → (found : Found) × (place (at c) path ≡ Ok (Some found)) × (first_refusal (test found) ≡ None)
    go (Err r) e p = absurd (let h = p in cc)
    go (Ok None) e p = absurd (let h = p in cc)
    go (Ok (Some found)) e p = (found, e, p)

unlink-there : (c : Content) (names : Path) → first_refusal (unlink_checks c names) ≡ None → (directory_at c names ≡ None) → is_some (object_at c names) ≡ true
unlink-there c names p none =
    let found = found-there c names (unlink_found c names) (behind (is_empty names) Refusal.Busy (parsed (find_at (at c) names) (unlink_found c names)) p).1 in
    either-there c names found.0 (place-at (at c) names (Some found.0) found.1) none

list-there : (c : Content) (names : Path) → first_refusal (list_checks c names) ≡ None → is_some (directory_at c names) ≡ true
list-there c names p =
    let found = found-there c names (λ found. Refuse (is_object found) Refusal.NotDirectory ∷ []) p in
    directory-there c names (Some found.0) found.1 refl (all-pass (Refuse (is_object found.0) Refusal.NotDirectory ∷ []) found.2).0

mkdir-there : (c : Content) → Tree c → (names : Path) → first_refusal (mkdir_checks c names) ≡ None → is_some (directory_at c (parent names)) ≡ true
mkdir-there c tree names p = go (place (at c) names) refl (passes-both (refused (new_refusal (at c) names)) (Refuse (nat_le 256 (length (subdirectories c (parent names)))) Refusal.TableFull ∷ Refuse (nat_lt 65535 (length c.directories)) Refusal.TableFull ∷ []) p).0
  where
    go : (r : Result (Option Found) Refusal) → place (at c) names ≡ r → first_refusal (refused (refusal_of (r >>= (λ found. cond (is_some found) (Err Refusal.Exists) (Ok found))))) ≡ None → is_some (directory_at c (parent names)) ≡ true
    go (Err r) e p = absurd (let h = p in cc)
    go (Ok (Some found)) e p = absurd (let h = p in cc)
    go (Ok None) e p = above-place c tree names None e (not-directory c names (ap (found_as is_directory) (place-at (at c) names None e)))

pub nothing-missing : NothingIsMissing
unfolding checks
nothing-missing c w conn (OpenRequest mode text) p =
    let rest = attached c conn (Refuse (not (letters_fit mode)) Refusal.BadMode ∷ Memory ∷ parsed (open_text text) (open_checks c mode)) p in
    opened-there c (tree-in c w.tree) mode text (behind (not (letters_fit mode)) Refusal.BadMode (Memory ∷ parsed (open_text text) (open_checks c mode)) rest).1
nothing-missing c w conn (Read handle size) p = on-own c conn handle (read_checks c size) _ (read-there c size) (attached c conn (on_handle c conn handle (read_checks c size)) p)
nothing-missing c w conn (Write handle bytes) p = on-own c conn handle (write_checks c bytes) _ (write-there c bytes) (attached c conn (on_handle c conn handle (write_checks c bytes)) p)
nothing-missing c w conn (Close handle) p = on-own c conn handle (close_checks c) _ (λ h q. tt) (attached c conn (on_handle c conn handle (close_checks c)) p)
nothing-missing c w conn (Notify handle action code value) p = on-own c conn handle (notify_checks c action code) _ (λ h q. tt) (attached c conn (on_handle c conn handle (notify_checks c action code)) p)
nothing-missing c w conn (Unlink path) p = on-names path (unlink_checks c) _ (unlink-there c) (attached c conn (Memory ∷ on_path path (unlink_checks c)) p)
nothing-missing c w conn (Mkdir path) p = on-names path (mkdir_checks c) _ (mkdir-there c (tree-in c w.tree)) (attached c conn (Memory ∷ on_path path (mkdir_checks c)) p)
nothing-missing c w conn (ListRequest path) p = on-names path (list_checks c) _ (list-there c) (attached c conn (Memory ∷ on_path path (list_checks c)) p)
nothing-missing c w conn Attach p = tt
nothing-missing c w conn Detach p = tt
nothing-missing c w conn Receive p = tt
