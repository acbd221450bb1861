-- Events keep the bounds, and their answers fit frames.
use Rattle.std.proofs.Common.{arith}
use Rattle.std.specs.Prelude.{◌≡◌, ◌≤◌, ℕ, List, [], ◌∷◌, ◌++◌, ◌==◌, ◌&&◌, not, Bool, true, false, nat_le, Option, Some, None, if◌then◌else◌, Result, Ok, Err, filter, map, length, codes, refl}
use Rattle.std.proofs.lemmas.Bool.Decides.{nat_tests}
use Rattle.std.proofs.lemmas.List.{length-append, length-map}
use Rattle.std.specs.Option.{option_map_or}
use Rattle.std.specs.List.{AllByRecursion, concat}
use Rattle.pps_types.specs.declared.refusal.Refusal.{Refusal}
use Rattle.pps_types.specs.declared.event.Event.{Event}
use Rattle.pps_types.specs.declared.event.Request.{Request}
use Rattle.pps_types.specs.declared.event.Request.TheVariants.{Attach, Detach, Open as OpenRequest, Read, Write, Close, Unlink, Mkdir, List as ListRequest, Notify, Receive}
use Rattle.pps_types.specs.declared.outcome.Outcome.{Outcome}
use Rattle.pps_types.specs.declared.outcome.Item.{Item}
use Rattle.pps_types.specs.declared.outcome.Item.TheVariants.{Pulse, ReadDone}
use Rattle.pps_types.specs.Outcome.{IsSendable}
use Rattle.pps_types.specs.Text.{WriteText, write_text}
use Rattle.pps_types.specs.Names.{Path, same_path, parent, last_name, name_cmp, sorted_by}
use Rattle.pps_types.specs.OpenText.{path_text, OpenSpec, open_text}
use Rattle.pps_types.specs.Reading.{OpenHandle, Answer, Everything, Blocks, Needs, TargetGone, Waits, Nothing}
use Rattle.pps_types.specs.Rests.{Progress}
use Rattle.pps_types.specs.Outbox.{arms, first_of}
use Rattle.pps_types.specs.Content.{Directory, LiveObject, Connection, Content, is_attached, own_handle, connection_numbered, queue_of, members, subdirectories, directory_at, object_at, read_answer, news}
use Rattle.pps_types.specs.Checks.{Refuse, Memory, first_refusal, parsed, on_handle, on_path, letters_fit, open_checks, read_checks, write_checks, close_checks, mkdir_checks, notify_checks, checks}
use Rattle.pps_types.specs.Plan.{Move, Arms, MakesDirectory, effect, opening, found_object, unlinking, writing, passes_last_number, closing, listing, received, read_effect, with_result, decided, all_checks_of, plan, settling, step_seen, apply_all_seen}
use Rattle.pps_types.specs.WellFormed.{IsContent}
use Rattle.pps_types.specs.Machine.{start, content_of}
use Rattle.service_laws.specs.Bounds.{IsBoundObject, IsBoundItem, IsBoundConnection, IsBound}
use Rattle.service_laws.specs.Fit.{AreFit}
use Rattle.service_laws.specs.BoundLaws.{BoundsStay, SizesFit}
use Rattle.service_laws.proofs.Effects.{behind}
use Rattle.service_laws.proofs.Finds.{all-filter, all-find}
use Rattle.service_laws.proofs.Passes.{all-pass, none-fails, passes-both}
use Rattle.service_laws.proofs.BoundedLists.{all-append}
use Rattle.service_laws.proofs.BoundedMoves.{keeps-all}
use Rattle.service_laws.proofs.BoundedOwners.{handled}
use Rattle.service_laws.proofs.BoundedEffects.{fit-append, low-number, bound-handle, write-fit, closing-fit, leaving-fit}
use Rattle.service_laws.proofs.BoundedOpens.{members-crowd, sorted-length, unlink-fit, mkdir-fit, open-fit}
use Rattle.service_laws.proofs.BoundedReplies.{FitsIn, read-fits, settling-fit, needs-fit, names-length, all-sorted}

read-size : (c : Content) (size : ℕ) (h : OpenHandle Progress) → first_refusal (read_checks c size h) ≡ None → size ≤ 17000000
read-size c size h p = go (nat_le 1 size) (nat_le size 17000000) refl (all-pass (read_checks c size h) p).1.0
  where
    go : (a b : Bool) → nat_le size 17000000 ≡ b → not (a && b) ≡ false → size ≤ 17000000
    go true true e f = grind (arith, nat_tests, e)
    go true false e f = absurd (let h = f in cc)
    go false b e f = absurd (let h = f in cc)

read-fit : (c : Content) (h : OpenHandle Progress) (size : ℕ) → size ≤ 17000000 → (a : Answer) → AreFit c (read_effect h size a).1
read-fit c h size le (Everything text) = (tt, tt)
read-fit c h size le (Blocks count text) = (tt, tt)
read-fit c h size le Waits = (le, tt)
read-fit c h size le (Needs need) = tt
read-fit c h size le TargetGone = tt
read-fit c h size le Nothing = tt

effect-fit : (c : Content) (conn : ℕ) (request : Request) → IsContent c → IsBound c → first_refusal (checks c conn request) ≡ None → AreFit c (effect c conn request).1
unfolding checks effect
effect-fit c conn Attach w b p = (tt, tt)
effect-fit c conn Detach w b p = leaving-fit c conn w.order b
effect-fit c conn (OpenRequest mode text) w b p =
    open-fit c conn mode text w.tree b (none-fails (parsed (open_text text) (open_checks c mode)) (all-pass (Refuse (not (is_attached c conn)) Refusal.NotAttached ∷ Refuse (not (letters_fit mode)) Refusal.BadMode ∷ Memory ∷ parsed (open_text text) (open_checks c mode)) p).1.1)
effect-fit c conn (Read handle size) w b p =
    let own = handled c conn handle (read_checks c size) (behind (not (is_attached c conn)) Refusal.NotAttached (on_handle c conn handle (read_checks c size)) p) in
    rw own.1 (read-fit c own.0 size (read-size c size own.0 own.2) (read_answer c own.0 size))
effect-fit c conn (Write handle bytes) w b p =
    let own = handled c conn handle (write_checks c bytes) (behind (not (is_attached c conn)) Refusal.NotAttached (on_handle c conn handle (write_checks c bytes)) p) in
    rw own.1 (write-fit c own.0 (λ h. (h.number == handle) && (h.connection == conn)) bytes w.order b own.1 own.2)
effect-fit c conn (Close handle) w b p =
    let own = handled c conn handle (close_checks c) (behind (not (is_attached c conn)) Refusal.NotAttached (on_handle c conn handle (close_checks c)) p) in
    rw own.1 (closing-fit c own.0 b (low-number c own.0 (λ h. (h.number == handle) && (h.connection == conn)) w.order b own.1))
effect-fit c conn (Unlink path) w b p = unlink-fit c path b
effect-fit c conn (Mkdir path) w b p = mkdir-fit c path b (behind (not (is_attached c conn)) Refusal.NotAttached (Memory ∷ on_path path (mkdir_checks c)) p)
effect-fit c conn (ListRequest path) w b p = go (path_text path)
  where
    go : (o : Option Path) → AreFit c (option_map_or {U = Outcome × List Move} (λ names. (Outcome.Data (listing c names), [])) o (Outcome.Done, [])).1
    go None = tt
    go (Some names) = tt
effect-fit c conn (Notify handle action code value) w b p =
    let own = handled c conn handle (notify_checks c action code) (behind (not (is_attached c conn)) Refusal.NotAttached (on_handle c conn handle (notify_checks c action code)) p) in
    rw own.1 (tt, tt)
effect-fit c conn Receive w b p = go (first_of (queue_of c conn))
  where
    go : (o : Option Item) → AreFit c (received conn o).1
    go None = tt
    go (Some item) = (tt, tt)

-- ---- answers

read-sendable : (h : OpenHandle Progress) (size : ℕ) → size ≤ 17000000 → (a : Answer) → FitsIn size a → IsSendable (Ok (read_effect h size a).0)
read-sendable h size le (Everything text) fits = omega (arith, le, fits)
read-sendable h size le (Blocks count text) fits = omega (arith, le, fits)
read-sendable h size le Waits fits = tt
read-sendable h size le (Needs need) fits = omega arith
read-sendable h size le TargetGone fits = omega arith
read-sendable h size le Nothing fits = omega arith

item-sendable : (item : Item) → IsBoundItem item → IsSendable (Ok (Outcome.Item item))
item-sendable (Pulse code value) b = tt
item-sendable (ReadDone handle (Ok bytes)) b = b
item-sendable (ReadDone handle (Err r)) b = tt

-- a name that is listed has at most 255 bytes, and at most one behind it
abbrev IsListed : List ℕ × List ℕ → Type 0
IsListed e = (length e.0 ≤ 255) × (length e.1 ≤ 1)

objects-listed : (os : List LiveObject) → AllByRecursion IsBoundObject os → AllByRecursion IsListed (map {B = List ℕ × List ℕ} (λ (o : LiveObject). (o.object.name, [])) os)
objects-listed [] all = tt
objects-listed (o ∷ os) all = ((all.0.0, omega arith), objects-listed os all.1)

directories-listed : (ds : List Directory) → AllByRecursion (λ (d : Directory). length (last_name d.path) ≤ 255) ds → AllByRecursion IsListed (map {B = List ℕ × List ℕ} (λ (d : Directory). (last_name d.path, codes "/")) ds)
directories-listed [] all = tt
directories-listed (d ∷ ds) all = ((all.0, omega arith), directories-listed ds all.1)

listed-length : (e : List ℕ × List ℕ) → IsListed e → length (e.0 ++ e.1 ++ (10 ∷ [])) ≤ 300
listed-length e l = simp (length-append) (omega (arith, l.0, l.1))

listing-length : (c : Content) (path : Path) → IsBound c → length (listing c path) ≤ 17000000
listing-length c path b = go (directory_at c path)
  where
    sized : (os : List LiveObject) → AllByRecursion IsBoundObject os → length os ≤ 256 → length (concat (map (λ (e : List ℕ × List ℕ). e.0 ++ e.1 ++ (10 ∷ [])) (sorted_by name_cmp (λ (e : List ℕ × List ℕ). e.0) (map {B = List ℕ × List ℕ} (λ (o : LiveObject). (o.object.name, [])) os ++ map {B = List ℕ × List ℕ} (λ (d : Directory). (last_name d.path, codes "/")) (subdirectories c path))))) ≤ 17000000
    sized os all few =
        let es : List (List ℕ × List ℕ) = map {B = List ℕ × List ℕ} (λ (o : LiveObject). (o.object.name, [])) os ++ map {B = List ℕ × List ℕ} (λ (d : Directory). (last_name d.path, codes "/")) (subdirectories c path) in
        let listed = all-append IsListed (map {B = List ℕ × List ℕ} (λ (o : LiveObject). (o.object.name, [])) os) (map {B = List ℕ × List ℕ} (λ (d : Directory). (last_name d.path, codes "/")) (subdirectories c path)) (objects-listed os all)
        (directories-listed (subdirectories c path) (all-filter (λ (d : Directory). length (last_name d.path) ≤ 255) (λ d. not (same_path d.path []) && same_path (parent d.path) path) c.directories b.directories)) in
        let most = names-length (λ (e : List ℕ × List ℕ). e.0 ++ e.1 ++ (10 ∷ [])) IsListed listed-length (sorted_by name_cmp (λ (e : List ℕ × List ℕ). e.0) es) (all-sorted IsListed name_cmp (λ (e : List ℕ × List ℕ). e.0) es listed) in
        let same = sorted-length name_cmp (λ (e : List ℕ × List ℕ). e.0) es in
        let joined = length-append (map {B = List ℕ × List ℕ} (λ (o : LiveObject). (o.object.name, [])) os) (map {B = List ℕ × List ℕ} (λ (d : Directory). (last_name d.path, codes "/")) (subdirectories c path)) in
        let first = length-map {B = List ℕ × List ℕ} os (λ (o : LiveObject). (o.object.name, [])) in
        let second = length-map {B = List ℕ × List ℕ} (subdirectories c path) (λ (d : Directory). (last_name d.path, codes "/")) in
        omega (arith, most, same, joined, first, second, few, b.branches path)

    go : (o : Option Directory) → length (concat (map (λ (e : List ℕ × List ℕ). e.0 ++ e.1 ++ (10 ∷ [])) (sorted_by name_cmp (λ (e : List ℕ × List ℕ). e.0) (map {B = List ℕ × List ℕ} (λ (o : LiveObject). (o.object.name, [])) (option_map_or (λ (d : Directory). members c d.number) o []) ++ map {B = List ℕ × List ℕ} (λ (d : Directory). (last_name d.path, codes "/")) (subdirectories c path))))) ≤ 17000000
    go None = sized [] tt (omega arith)
    go (Some d) = sized (members c d.number) (all-sorted IsBoundObject name_cmp (λ (o : LiveObject). o.object.name) (filter (λ o. o.object.directory == d.number) c.objects) (all-filter IsBoundObject (λ o. o.object.directory == d.number) c.objects b.objects)) (let same = members-crowd c d.number in omega (arith, same, b.crowds d.number))

queue-bound : (c : Content) (conn : ℕ) → IsBound c → AllByRecursion IsBoundItem (queue_of c conn)
queue-bound c conn b = go (connection_numbered c conn) refl
  where
    go : (o : Option Connection) → connection_numbered c conn ≡ o → AllByRecursion IsBoundItem (option_map_or (λ (x : Connection). x.queue) o [])
    go None e = tt
    go (Some x) e = all-find IsBoundConnection (λ x. x.number == conn) c.connections x b.queues e

effect-sendable : (c : Content) (conn : ℕ) (request : Request) → IsBound c → first_refusal (checks c conn request) ≡ None → IsSendable (Ok (effect c conn request).0)
unfolding checks effect
effect-sendable c conn Attach b p = tt
effect-sendable c conn Detach b p = tt
effect-sendable c conn (OpenRequest mode text) b p = go (open_text text)
  where
    go : (r : Result OpenSpec Refusal) → IsSendable (Ok (with_result r (λ spec. (Outcome.Opened c.next_handle, opening c conn mode spec (found_object c spec)))).0)
    go (Ok spec) = tt
    go (Err r) = tt
effect-sendable c conn (Read handle size) b p =
    let own = handled c conn handle (read_checks c size) (behind (not (is_attached c conn)) Refusal.NotAttached (on_handle c conn handle (read_checks c size)) p) in
    rw own.1 (read-sendable own.0 size (read-size c size own.0 own.2) (read_answer c own.0 size) (read-fits c own.0 size))
effect-sendable c conn (Write handle bytes) b p = on (own_handle c conn handle)
  where
    go : (h : OpenHandle Progress) (r : Result WriteText Refusal) → IsSendable (Ok (with_result r (λ text. (Outcome.Wrote (length bytes), writing c h text))).0)
    go h (Ok text) = tt
    go h (Err r) = tt

    on : (o : Option (OpenHandle Progress)) → IsSendable (Ok (option_map_or {U = Outcome × List Move} (λ h. with_result (write_text bytes) (λ text. (Outcome.Wrote (length bytes), writing c h text))) o (Outcome.Done, [])).0)
    on None = tt
    on (Some h) = go h (write_text bytes)
effect-sendable c conn (Close handle) b p = go (own_handle c conn handle)
  where
    go : (o : Option (OpenHandle Progress)) → IsSendable (Ok (option_map_or {U = Outcome × List Move} (λ h. (Outcome.Done, closing c h)) o (Outcome.Done, [])).0)
    go None = tt
    go (Some h) = tt
effect-sendable c conn (Unlink path) b p = go (path_text path)
  where
    go : (o : Option Path) → IsSendable (Ok (option_map_or {U = Outcome × List Move} (λ names. (Outcome.Done, unlinking (object_at c names) (directory_at c names))) o (Outcome.Done, [])).0)
    go None = tt
    go (Some names) = tt
effect-sendable c conn (Mkdir path) b p = go (path_text path)
  where
    go : (o : Option Path) → IsSendable (Ok (option_map_or {U = Outcome × List Move} (λ names. (Outcome.Done, MakesDirectory names ∷ [])) o (Outcome.Done, [])).0)
    go None = tt
    go (Some names) = tt
effect-sendable c conn (ListRequest path) b p = go (path_text path)
  where
    go : (o : Option Path) → IsSendable (Ok (option_map_or {U = Outcome × List Move} (λ names. (Outcome.Data (listing c names), [])) o (Outcome.Done, [])).0)
    go None = tt
    go (Some names) = listing-length c names b
effect-sendable c conn (Notify handle action code value) b p = go (own_handle c conn handle)
  where
    go : (o : Option (OpenHandle Progress)) → IsSendable (Ok (option_map_or {U = Outcome × List Move} (λ h. (Outcome.Input (news h), Arms h.number (if arms action (news h) then Some (code, value) else None) ∷ [])) o (Outcome.Done, [])).0)
    go None = tt
    go (Some h) = tt
effect-sendable c conn Receive b p = go (queue_of c conn) (queue-bound c conn b)
  where
    go : (items : List Item) → AllByRecursion IsBoundItem items → IsSendable (Ok (received conn (first_of items)).0)
    go [] all = tt
    go (item ∷ items) all = item-sendable item all.0

-- ---- steps

pub step-keeps : (c : Content) → IsContent c → IsBound c → (e : Event) → IsBound (step_seen c e).1
unfolding plan step_seen
step-keeps c w b e = go (first_refusal (all_checks_of c e)) refl
  where
    done : Outcome × List Move
    done = effect c e.conn e.request

    go : (o : Option Refusal) → first_refusal (all_checks_of c e) ≡ o → IsBound (apply_all_seen (decided c done o).1 c)
    go (Some r) p = b
    go None p =
        let fit = effect-fit c e.conn e.request w b (passes-both (checks c e.conn e.request) (Refuse (passes_last_number (apply_all_seen done.1 c)) Refusal.TableFull ∷ []) p).0 in
        let after = keeps-all done.1 c b fit in
        keeps-all (done.1 ++ settling c (apply_all_seen done.1 c)) c b (fit-append done.1 (settling c (apply_all_seen done.1 c)) c fit (settling-fit c (apply_all_seen done.1 c) after))

pub step-sends : (c : Content) → IsBound c → (e : Event) → IsSendable (step_seen c e).0
unfolding plan step_seen
step-sends c b e = go (first_refusal (all_checks_of c e)) refl
  where
    done : Outcome × List Move
    done = effect c e.conn e.request

    go : (o : Option Refusal) → first_refusal (all_checks_of c e) ≡ o → IsSendable (decided c done o).0
    go (Some r) p = tt
    go None p = effect-sendable c e.conn e.request b (passes-both (checks c e.conn e.request) (Refuse (passes_last_number (apply_all_seen done.1 c)) Refusal.TableFull ∷ []) p).0

start-bound : (first_handle default_limit : ℕ) → first_handle ≤ 4294967296 → IsBound (content_of (start first_handle default_limit))
start-bound first_handle default_limit le = record {
  handles_end = le;
  objects = tt;
  crowds = λ directory. omega arith;
  directories = (omega arith, tt);
  branches = λ path. omega arith;
  handles = tt;
  queues = tt;
}

pub bounds-stay : BoundsStay
bounds-stay = record { begins = start-bound; stays = step-keeps }

pub sizes-fit : SizesFit
sizes-fit = record { needs = λ c b number h e max need a. needs-fit c h max need b (bound-handle c h (λ h. h.number == number) b e) a; answers = step-sends }
