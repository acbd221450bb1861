-- Forgetting the history goes before or after a move, with one result.
use Rattle.std.proofs.Common.{◌≡◌, ℕ, ◌+◌, ◌≤◌, ◌<◌, Bool, true, false, cond, eqb, eqb-true, eq-eqb, List, [], ◌∷◌, ◌++◌, length, length-append, map, drop, length-drop, Option, Some, None, refl, sym, ap, subst, ◌∙◌, arith}
use Rattle.std.specs.List.{AllByRecursion}
use Rattle.std.proofs.lemmas.List.{map-append}
use Rattle.pps_types.specs.declared.event.Event.{Event}
use Rattle.pps_types.specs.History.{Entry, state, is_alive}
use Rattle.pps_types.specs.Reading.{OpenHandle, Style, Full, Delta, Queue, style, reseen, visible}
use Rattle.pps_types.specs.Rests.{Progress, News, Unread, Over, Owed, seen_with}
use Rattle.pps_types.specs.Plan.{Move, Attaches, Leaves, Creates, AppendsRecord, Opens, Closes, CatchesUp, Advances, Parks, Arms, Queues, Takes, MakesDirectory, RemovesDirectory, on_numbered, without_number, creation, offer, left, caught_up, apply_seen, apply_all_seen, plan, step_seen}
use Rattle.pps_types.specs.Runs.{Answered, after, after_seen, after_answered, end_of}
use Rattle.pps_types.specs.Machine.{start, Machine, IsMachine, IsMade, IsAlive, AreAlive, IsRecorded, AreCounted, is_for, server_made, known, IsWithin, marked_step, IsLawful, AreLawful, next_after, content_of, shown_handle, apply, apply_all, passed, passed_with, first_cursor, step}
use Rattle.pps_types.proofs.Lists.{all-push, all-weaken, all-on_first, all-without_first, map-on_first, map-without_first, behind-le}
use Rattle.service_laws.proofs.Offers.{shown_handle-push, shown_handle-caught_up, shown_handle-passed, shown_handle-first}
use Rattle.service_laws.proofs.Objects.{objects-push, objects-made}
use Rattle.std.specs.Prelude.{find, option_map}
use Rattle.std.specs.List.{filter_map, cons_option}
use Rattle.pps_types.specs.declared.handle_kind.HandleKind.{HandleKind}
use Rattle.pps_types.specs.declared.handle_kind.HandleKind.TheVariants.{Object as ObjectHandle, Directory as DirectoryHandle, Names as NamesHandle, Server as ServerHandle, Client as ClientHandle}
use Rattle.pps_types.specs.WellFormed.{RiseBetween, IsContent, server_of}
use Rattle.pps_types.specs.Content.{Object, LiveObject, Content, object_numbered}
use Rattle.pps_types.specs.Outcome.{Reply, is_marked}
use Rattle.service_laws.proofs.Lawful.{plan-lawful}
use Rattle.service_laws.proofs.WellSteps.{basis-in, step-content}
use Rattle.service_laws.proofs.Alive.{plan-alive}
use Rattle.service_laws.proofs.Finds.{OfSome, all-find, all-none, find-push, find-last, find-true}
use Rattle.service_laws.proofs.Rising.{found-each, none-numbered}

abbrev IsFor : Machine → OpenHandle (Option ℕ) → Type 0
IsFor m h = is_for h.kind (server_made m h.target) ≡ true

counted-below : (n : ℕ) (os : List Object) → AreCounted n os → AllByRecursion (λ o. o.number < n + length os) os
counted-below n [] all = tt
counted-below n (o ∷ os) all = (let is = all.0 in omega arith, all-weaken {P = λ x. x.number < n + 1 + length os} {Q = λ x. x.number < n + length (o ∷ os)} (λ x lt. omega arith) os (counted-below (n + 1) os all.1))

counted-push : (n : ℕ) (os : List Object) (o : Object) → AreCounted n os → o.number ≡ n + length os → AreCounted n (os ++ o ∷ [])
counted-push n [] o all is = (omega arith, tt)
counted-push n (x ∷ os) o all is = (all.0, counted-push (n + 1) os o all.1 (omega arith))

pub numbered : (m : Machine) → IsMade m → AllByRecursion (λ o. o.number < length m.objects) m.objects
numbered m made = all-weaken {P = λ x. x.number < 0 + length m.objects} {Q = λ x. x.number < length m.objects} (λ x lt. omega arith) m.objects (counted-below 0 m.objects made.counted)

-- ---- handles

handles-push : (H : List Entry) (e : Entry) (hs : List (OpenHandle (Option ℕ))) → AllByRecursion (λ h. IsWithin (length H) h.seen) hs → map (shown_handle (H ++ e ∷ [])) hs ≡ map (offer e) (map (shown_handle H) hs)
handles-push H e [] all = refl
handles-push H e (h ∷ hs) all = λ i. shown_handle-push H e h all.0 i ∷ handles-push H e hs all.1 i

handles-numbered : (H : List Entry) (n : ℕ) (f : OpenHandle (Option ℕ) → OpenHandle (Option ℕ)) (g : OpenHandle Progress → OpenHandle Progress) → ((h : OpenHandle (Option ℕ)) → shown_handle H (f h) ≡ g (shown_handle H h)) → (hs : List (OpenHandle (Option ℕ))) → map (shown_handle H) (on_numbered n f hs) ≡ on_numbered n g (map (shown_handle H) hs)
handles-numbered H n f g same hs = map-on_first (shown_handle H) (λ h. eqb h.number n) (λ h. eqb h.number n) f g (λ h. refl) same hs

handles-without : (H : List Entry) (n : ℕ) (hs : List (OpenHandle (Option ℕ))) → map (shown_handle H) (without_number n hs) ≡ without_number n (map (shown_handle H) hs)
handles-without H n hs = map-without_first (shown_handle H) (λ h. eqb h.number n) (λ h. eqb h.number n) (λ h. refl) hs

length-push : {X : Type 0} (xs : List X) (x : X) → length (xs ++ x ∷ []) ≡ length xs + 1
length-push xs x = omega (arith, length-append xs (x ∷ []))

-- ---- one move

apply-shown : (x : Move) (m : Machine) → IsMade m → IsLawful (length m.objects) x → content_of (apply x m) ≡ apply_seen x (content_of m)
apply-shown (Attaches conn) m made lawful = refl
apply-shown (Leaves conn) m made lawful = refl
apply-shown (Creates o) m made lawful = λ i. record (content_of m) {
  records = length-push m.history (creation o) i;
  objects = objects-made m.history o m.objects (all-weaken {P = λ x. x.number < length m.objects} {Q = λ x. x.number < o.number} (λ x lt. omega arith) m.objects (numbered m made)) i;
  next_object = length-push m.objects o i;
  handles = handles-push m.history (creation o) m.handles made.within i;
}
apply-shown (AppendsRecord e) m made lawful = λ i. record (content_of m) {
  records = length-push m.history e i;
  objects = objects-push m.history e lawful m.objects i;
  handles = handles-push m.history e m.handles made.within i;
}
apply-shown (Opens h) m made lawful = ap (λ hs. record (content_of m) { handles = hs; next_handle = m.next_handle + 1 })
    (map-append (shown_handle m.history) m.handles (reseen (λ h. first_cursor (style h.kind) (length m.history)) h ∷ [])
    ∙ ap (λ g. map (shown_handle m.history) m.handles ++ g ∷ []) (shown_handle-first m.history h))
apply-shown (Closes number) m made lawful = ap (λ hs. record (content_of m) { handles = hs }) (handles-without m.history number m.handles)
apply-shown (CatchesUp number) m made lawful = ap (λ hs. record (content_of m) { handles = hs }) (handles-numbered m.history number (reseen (λ h. Some (length m.history))) (reseen caught_up) (shown_handle-caught_up m.history) m.handles)
apply-shown (Advances number count) m made lawful = ap (λ hs. record (content_of m) { handles = hs }) (handles-numbered m.history number (reseen (λ h. passed h m.history count h.seen)) (reseen (λ h. left h count h.seen)) (shown_handle-passed m.history count) m.handles)
apply-shown (Parks number size) m made lawful = ap (λ hs. record (content_of m) { handles = hs }) (handles-numbered m.history number (λ h. record h { parked = size }) (λ h. record h { parked = size }) (λ h. refl) m.handles)
apply-shown (Arms number pulse) m made lawful = ap (λ hs. record (content_of m) { handles = hs }) (handles-numbered m.history number (λ h. record h { armed = pulse }) (λ h. record h { armed = pulse }) (λ h. refl) m.handles)
apply-shown (Queues conn item) m made lawful = refl
apply-shown (Takes conn) m made lawful = refl
apply-shown (MakesDirectory path) m made lawful = refl
apply-shown (RemovesDirectory number) m made lawful = refl

-- ---- a machine stays one

within-more : (a b : ℕ) (cursor : Option ℕ) → a ≤ b → IsWithin a cursor → IsWithin b cursor
within-more a b None le w = tt
within-more a b (Some cursor) le w = omega arith

all-within : (a b : ℕ) → a ≤ b → (hs : List (OpenHandle (Option ℕ))) → AllByRecursion (λ h. IsWithin a h.seen) hs → AllByRecursion (λ h. IsWithin b h.seen) hs
all-within a b le hs all = all-weaken {P = λ h. IsWithin a h.seen} {Q = λ h. IsWithin b h.seen} (λ h w. within-more a b h.seen le w) hs all

all-numbered : (n end : ℕ) (f : OpenHandle (Option ℕ) → OpenHandle (Option ℕ)) → ((h : OpenHandle (Option ℕ)) → IsWithin end h.seen → IsWithin end (f h).seen) → (hs : List (OpenHandle (Option ℕ))) → AllByRecursion (λ h. IsWithin end h.seen) hs → AllByRecursion (λ h. IsWithin end h.seen) (on_numbered n f hs)
all-numbered n end f keeps hs all = all-on_first (λ h. IsWithin end h.seen) (λ h. eqb h.number n) f keeps hs all

passed-within : (h : OpenHandle (Option ℕ)) (H : List Entry) (n : ℕ) (s : Progress) (cursor : Option ℕ) → IsWithin (length H) cursor → IsWithin (length H) (passed_with h H n s cursor)
passed-within h H n (News b) cursor within = within
passed-within h H n Unread cursor within = within
passed-within h H n Over cursor within = within
passed-within h H n (Owed rest) None within = tt
passed-within h H n (Owed rest) (Some cursor) within = omega (arith, behind-le (visible h) n (drop cursor H), length-drop cursor H)

first-within : (s : Style) (end : ℕ) → IsWithin end (first_cursor s end)
first-within Full end = tt
first-within Delta end = tt
first-within Queue end = omega arith

-- an object that was made stays what it is
for-more : (k : HandleKind) (a b : Option (Option ℕ)) → ((s : Option ℕ) → a ≡ Some s → b ≡ Some s) → is_for k a ≡ true → is_for k b ≡ true
for-more ServerHandle None b f p = absurd (let h = p in cc)
for-more ServerHandle (Some s) b f p = ap (is_for ServerHandle) (f s refl) ∙ p
for-more ClientHandle None b f p = absurd (let h = p in cc)
for-more ClientHandle (Some s) b f p = ap (is_for ClientHandle) (f s refl) ∙ p
for-more (ObjectHandle d) None b f p = absurd (let h = p in cc)
for-more (ObjectHandle d) (Some s) b f p = ap (is_for (ObjectHandle d)) (f s refl) ∙ p
for-more (DirectoryHandle d) a b f p = refl
for-more NamesHandle a b f p = refl

made-for : (m : Machine) (o : Object) (k : HandleKind) (t : ℕ) → is_for k (server_made m t) ≡ true → is_for k (server_made (apply (Creates o) m) t) ≡ true
made-for m o k t p = for-more k (server_made m t) (server_made (apply (Creates o) m) t) (λ s e. go s (find (λ (x : Object). eqb x.number t) m.objects) refl e) p
  where
    go : (s : Option ℕ) (f : Option Object) → find (λ (x : Object). eqb x.number t) m.objects ≡ f → option_map (λ (x : Object). x.server) f ≡ Some s → server_made (apply (Creates o) m) t ≡ Some s
    go s None f e = absurd (let h = e in cc)
    go s (Some x) f e = ap (option_map (λ (x : Object). x.server)) (find-push (λ (x : Object). eqb x.number t) m.objects o x f) ∙ e

-- an object that is alive was made
counted-each : (n : ℕ) (os : List Object) → AreCounted n os → RiseBetween n (map (λ (o : Object). o.number) os) (n + length os)
counted-each n [] all = omega arith
counted-each n (o ∷ os) all = (
  let is = all.0 in omega arith,
  let same : n + 1 + length os ≡ n + length (o ∷ os) = omega arith in let own : o.number + 1 ≡ n + 1 = (let is = all.0 in omega arith) in
      subst (λ low. RiseBetween low (map (λ (o : Object). o.number) os) (n + length (o ∷ os))) (sym own) (subst (λ high. RiseBetween (n + 1) (map (λ (o : Object). o.number) os) high) same (counted-each (n + 1) os all.1)),
)

known-object : (H : List Entry) (o : Object) → OfSome (λ (k : LiveObject). k.object ≡ o) (known H o)
known-object H o = elim (is_alive o.number H) as (λ b. OfSome (λ (k : LiveObject). k.object ≡ o) (cond b (Some (record { object = o; attributes = state o.number H })) None)) [ true ↦ refl | false ↦ tt ]

all-known : (H : List Entry) (P : Object → Type 0) (os : List Object) → AllByRecursion P os → AllByRecursion (λ (k : LiveObject). P k.object) (filter_map (known H) os)
all-known H P [] all = tt
all-known H P (o ∷ os) all = go (known H o) (known-object H o) (all-known H P os all.1)
  where
    go : (k : Option LiveObject) → OfSome (λ (k : LiveObject). k.object ≡ o) k → AllByRecursion (λ (k : LiveObject). P k.object) (filter_map (known H) os) → AllByRecursion (λ (k : LiveObject). P k.object) (cons_option k (filter_map (known H) os))
    go None is rest = rest
    go (Some k) is rest = (subst P (sym is) all.0, rest)

alive-object : (m : Machine) → IsMade m → (t : ℕ) (k : LiveObject) → object_numbered (content_of m) t ≡ Some k → find (λ (x : Object). eqb x.number t) m.objects ≡ Some k.object
alive-object m made t k f =
    let own : k.object.number ≡ t = eqb-true k.object.number t (find-true (λ (k : LiveObject). eqb k.object.number t) (content_of m).objects k f) in
    let found : find (λ (x : Object). eqb x.number k.object.number) m.objects ≡ Some k.object = all-find (λ (k : LiveObject). find (λ (x : Object). eqb x.number k.object.number) m.objects ≡ Some k.object) (λ k. eqb k.object.number t) (content_of m).objects k
    (all-known m.history (λ (o : Object). find (λ (x : Object). eqb x.number o.number) m.objects ≡ Some o) m.objects (found-each (λ (o : Object). o.number) 0 (0 + length m.objects) m.objects (counted-each 0 m.objects made.counted))) f in
    ap (λ n. find (λ (x : Object). eqb x.number n) m.objects) (sym own) ∙ found

alive-made : (m : Machine) → IsMade m → (t : ℕ) (s : Option ℕ) → server_of (content_of m) t ≡ Some s → server_made m t ≡ Some s
alive-made m made t s e = go (object_numbered (content_of m) t) refl e
  where
    go : (k : Option LiveObject) → object_numbered (content_of m) t ≡ k → option_map (λ (k : LiveObject). k.object.server) k ≡ Some s → server_made m t ≡ Some s
    go None f e = absurd (let h = e in cc)
    go (Some k) f e = ap (option_map (λ (x : Object). x.server)) (alive-object m made t k f) ∙ e

-- the object that was made last is found by its number
last-made : (m : Machine) → IsMade m → (o : Object) → o.number ≡ length m.objects → find (λ (x : Object). eqb x.number o.number) (m.objects ++ o ∷ []) ≡ Some o
last-made m made o is =
    find-last (λ (x : Object). eqb x.number o.number) m.objects o (all-none (λ (x : Object). eqb x.number o.number) m.objects (subst (λ n. AllByRecursion (λ (x : Object). eqb x.number n ≡ false) m.objects) (sym is) (none-numbered (λ (x : Object). x.number) (length m.objects) m.objects (numbered m made))))
    ∙ ap (λ b. cond b (Some o) None) (eq-eqb o.number o.number refl)

-- and none that is alive has the next number
pub none-next : (m : Machine) → IsMade m → object_numbered (content_of m) (length m.objects) ≡ None
none-next m made = all-none (λ (k : LiveObject). eqb k.object.number (length m.objects)) (content_of m).objects (all-known m.history (λ (o : Object). eqb o.number (length m.objects) ≡ false) m.objects (none-numbered (λ (x : Object). x.number) (length m.objects) m.objects (numbered m made)))

opened-for : (m : Machine) → IsMade m → (k : HandleKind) (t : ℕ) → is_for k (server_of (content_of m) t) ≡ true → is_for k (server_made m t) ≡ true
opened-for m made k t p = for-more k (server_of (content_of m) t) (server_made m t) (alive-made m made t) p

apply-made : (x : Move) (m : Machine) → IsMade m → IsLawful (length m.objects) x → IsAlive (content_of m) x → IsMade (apply x m)
apply-made (Attaches conn) m made lawful alive = record { counted = made.counted; recorded = made.recorded; within = made.within; targets = made.targets }
apply-made (Leaves conn) m made lawful alive = record { counted = made.counted; recorded = made.recorded; within = made.within; targets = made.targets }
apply-made (Creates o) m made lawful alive = record {
  counted = counted-push 0 m.objects o made.counted (omega (arith, lawful));
  recorded = all-push (IsRecorded (m.objects ++ o ∷ [])) m.history (creation o)
      (all-weaken {P = IsRecorded m.objects} {Q = IsRecorded (m.objects ++ o ∷ [])} (λ e r. record { object = r.object; made = find-push (λ (x : Object). eqb x.number e.record_of.object) m.objects o r.object r.made; in_directory = r.in_directory; under_name = r.under_name }) m.history made.recorded)
      (record { object = o; made = last-made m made o lawful; in_directory = refl; under_name = refl });
  within = all-within (length m.history) (length (m.history ++ creation o ∷ [])) (omega (arith, length-push m.history (creation o))) m.handles made.within;
  targets = all-weaken {P = IsFor m} {Q = IsFor (apply (Creates o) m)} (λ h p. made-for m o h.kind h.target p) m.handles made.targets;
}
apply-made (AppendsRecord e) m made lawful alive = record { counted = made.counted; recorded = all-push (IsRecorded m.objects) m.history e made.recorded (record { object = alive.object.object; made = alive-object m made e.record_of.object alive.object alive.found; in_directory = alive.in_directory; under_name = alive.under_name }); within = all-within (length m.history) (length (m.history ++ e ∷ [])) (omega (arith, length-push m.history e)) m.handles made.within; targets = made.targets }
apply-made (Opens h) m made lawful alive = record { counted = made.counted; recorded = made.recorded; within = all-push (λ h. IsWithin (length m.history) h.seen) m.handles (reseen (λ h. first_cursor (style h.kind) (length m.history)) h) made.within (first-within (style h.kind) (length m.history)); targets = all-push (IsFor m) m.handles (reseen (λ h. first_cursor (style h.kind) (length m.history)) h) made.targets (opened-for m made h.kind h.target alive) }
apply-made (Closes number) m made lawful alive = record { counted = made.counted; recorded = made.recorded; within = all-without_first (λ h. IsWithin (length m.history) h.seen) (λ h. eqb h.number number) m.handles made.within; targets = all-without_first (IsFor m) (λ h. eqb h.number number) m.handles made.targets }
apply-made (CatchesUp number) m made lawful alive = record { counted = made.counted; recorded = made.recorded; within = all-numbered number (length m.history) (reseen (λ h. Some (length m.history))) (λ h w. omega arith) m.handles made.within; targets = all-on_first (IsFor m) (λ h. eqb h.number number) (reseen (λ h. Some (length m.history))) (λ h p. p) m.handles made.targets }
apply-made (Advances number count) m made lawful alive = record { counted = made.counted; recorded = made.recorded; within = all-numbered number (length m.history) (reseen (λ h. passed h m.history count h.seen)) (λ h w. passed-within h m.history count (seen_with h m.history h.seen) h.seen w) m.handles made.within; targets = all-on_first (IsFor m) (λ h. eqb h.number number) (reseen (λ h. passed h m.history count h.seen)) (λ h p. p) m.handles made.targets }
apply-made (Parks number size) m made lawful alive = record { counted = made.counted; recorded = made.recorded; within = all-numbered number (length m.history) (λ h. record h { parked = size }) (λ h w. w) m.handles made.within; targets = all-on_first (IsFor m) (λ h. eqb h.number number) (λ h. record h { parked = size }) (λ h p. p) m.handles made.targets }
apply-made (Arms number pulse) m made lawful alive = record { counted = made.counted; recorded = made.recorded; within = all-numbered number (length m.history) (λ h. record h { armed = pulse }) (λ h w. w) m.handles made.within; targets = all-on_first (IsFor m) (λ h. eqb h.number number) (λ h. record h { armed = pulse }) (λ h p. p) m.handles made.targets }
apply-made (Queues conn item) m made lawful alive = record { counted = made.counted; recorded = made.recorded; within = made.within; targets = made.targets }
apply-made (Takes conn) m made lawful alive = record { counted = made.counted; recorded = made.recorded; within = made.within; targets = made.targets }
apply-made (MakesDirectory path) m made lawful alive = record { counted = made.counted; recorded = made.recorded; within = made.within; targets = made.targets }
apply-made (RemovesDirectory number) m made lawful alive = record { counted = made.counted; recorded = made.recorded; within = made.within; targets = made.targets }

apply-next : (x : Move) (m : Machine) → length (apply x m).objects ≡ next_after (length m.objects) x
apply-next (Creates o) m = length-push m.objects o
apply-next (Attaches conn) m = refl
apply-next (Leaves conn) m = refl
apply-next (AppendsRecord e) m = refl
apply-next (Opens h) m = refl
apply-next (Closes number) m = refl
apply-next (CatchesUp number) m = refl
apply-next (Advances number count) m = refl
apply-next (Parks number size) m = refl
apply-next (Arms number pulse) m = refl
apply-next (Queues conn item) m = refl
apply-next (Takes conn) m = refl
apply-next (MakesDirectory path) m = refl
apply-next (RemovesDirectory number) m = refl

-- ---- the law

pub apply_all-shown : (xs : List Move) (m : Machine) → IsMade m → AreLawful (length m.objects) xs → AreAlive (content_of m) xs → (content_of (apply_all xs m) ≡ apply_all_seen xs (content_of m)) × IsMade (apply_all xs m)
apply_all-shown [] m made lawful alive = (refl, made)
apply_all-shown (x ∷ xs) m made lawful alive =
    let first = apply-shown x m made lawful.0 in
    let rest = apply_all-shown xs (apply x m) (apply-made x m made lawful.0 alive.0) (subst (λ n. AreLawful n xs) (sym (apply-next x m)) lawful.1) (subst (λ c. AreAlive c xs) (sym first) alive.1) in
    (rest.0 ∙ ap (apply_all_seen xs) first, rest.1)

pub made-of : (m : Machine) → IsMachine m → IsMade m
made-of m made = record { counted = made.counted; recorded = made.recorded; within = made.within; targets = made.targets }

pub machine-of : (m : Machine) → IsMade m → IsContent (content_of m) → IsMachine m
machine-of m made standing = record { counted = made.counted; recorded = made.recorded; within = made.within; targets = made.targets; standing = standing }

-- the law: what stands after a step is the step of what stood, and the replies are equal
pub step-shown : (m : Machine) → IsMachine m → (e : Event) → ((step m e).0, content_of (step m e).1) ≡ step_seen (content_of m) e
unfolding step step_seen
step-shown m made e = ap (λ c. ((plan (content_of m) e).0, c)) (apply_all-shown (plan (content_of m) e).1 m (made-of m made) (plan-lawful (content_of m) e) (plan-alive (content_of m) e (basis-in (content_of m) made.standing))).0

pub step-made : (m : Machine) → IsMachine m → (e : Event) → IsMachine (step m e).1
unfolding step
step-made m made e = machine-of (step m e).1 (apply_all-shown (plan (content_of m) e).1 m (made-of m made) (plan-lawful (content_of m) e) (plan-alive (content_of m) e (basis-in (content_of m) made.standing))).1
    (subst IsContent (sym (ap (λ (s : Reply × Content). s.1) (step-shown m made e))) (step-content (content_of m) e made.standing))

pub marked-made : (m : Machine) → IsMachine m → (e : Event) (mark : Bool) → IsMachine (marked_step m e mark).1
marked-made m made e true = made
marked-made m made e false = step-made m made e

pub end-made : (answered : List Answered) (m : Machine) → IsMachine m → IsMachine (end_of m answered)
end-made [] m made = made
end-made (x ∷ xs) m made = end-made xs (after_answered m x) (marked-made m made x.event (is_marked x.reply))

pub start-of : (first limit : ℕ) → IsMade (start first limit)
start-of first limit = record { counted = tt; recorded = tt; within = tt; targets = tt }

pub start-content : (first limit : ℕ) → IsContent (content_of (start first limit))
start-content first limit = record {
  order = record { handles_rise = omega arith; objects_rise = omega arith; directories_rise = (omega arith, omega arith); connections_rise = omega arith };
  tree = record { root = refl; parents = (refl, tt); paths = (refl, tt); free = (refl, tt); names = tt; places = tt };
  held = record { owners = tt; targets = tt };
  served = record { servers = tt; users = tt };
  told = record { fitting = tt; whole = tt; first = tt };
  parked = record { idle = tt };
}

pub start-made : (first limit : ℕ) → IsMachine (start first limit)
start-made first limit = machine-of (start first limit) (start-of first limit) (start-content first limit)

-- a run
pub after-shown : (es : List Event) (m : Machine) → IsMachine m → content_of (after m es) ≡ after_seen (content_of m) es
after-shown [] m made = refl
after-shown (e ∷ es) m made = after-shown es (step m e).1 (step-made m made e) ∙ ap (λ s. after_seen s.1 es) (step-shown m made e)

pub after-content : (es : List Event) (c : Content) → IsContent c → IsContent (after_seen c es)
after-content [] c well = well
after-content (e ∷ es) c well = after-content es (step_seen c e).1 (step-content c e well)
