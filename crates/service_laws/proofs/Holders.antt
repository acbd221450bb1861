-- Fit moves keep the numbers in order, handles on what was made, and what they have seen fitting.
use Rattle.std.proofs.Common.{◌≡◌, ℕ, Bool, true, false, cond, ◌&&◌, eqb, eqb-true, List, [], ◌∷◌, ◌++◌, map, drop, Option, Some, None, refl, sym, ap, ◌∙◌, arith}
use Rattle.std.specs.Prelude.{find, is_some, nat_lt, filter}
use Rattle.std.specs.List.{AllByRecursion}
use Rattle.std.proofs.lemmas.List.{map-append}
use Rattle.pps_types.specs.declared.outcome.Item.{Item}
use Rattle.pps_types.specs.History.{Entry}
use Rattle.pps_types.specs.Outbox.{behind_first}
use Rattle.pps_types.specs.Reading.{OpenHandle, Style, Full, Delta, Queue, reseen, style, is_directory_kind, visible}
use Rattle.pps_types.specs.Rests.{Progress, News, Unread, Over, Owed, stand, unread, seen_of, seen_with, over_limit, keeps, from_first, pushed, past, rest_of}
use Rattle.pps_types.specs.Content.{Object, Directory, LiveObject, Connection, Content, is_attached}
use Rattle.pps_types.specs.Plan.{Move, Attaches, Leaves, Creates, AppendsRecord, Opens, Closes, CatchesUp, Advances, Parks, Arms, Queues, Takes, MakesDirectory, RemovesDirectory, apply_seen, apply_all_seen, creation, offer, offered, caught_up, left, first_seen, touched, on_connection, requeued, on_numbered, with_connection}
use Rattle.pps_types.specs.Machine.{Machine, content_of, shown_handle}
use Rattle.pps_types.specs.WellFormed.{IsTarget, IsWhole, HasFirst, begins, fits, directory_numbered}
use Rattle.pps_types.proofs.Lists.{all-push, all-on_first, all-without_first}
use Rattle.service_laws.proofs.Finds.{OfSome, some-of, is-some, all-both, all-imp, find-true, find-without, some-push}
use Rattle.service_laws.proofs.Rising.{rising-push, rising-without, rising-filter_map, rising-put, same-on_first, same-map}
use Rattle.service_laws.proofs.Fits.{Fits, AreFit, Order, Tree, Held, Told}
use Rattle.service_laws.proofs.Trees.{touched-of, tree-kept}

-- ---- numbers

none-of : {X : Type 0} (o : Option X) → is_some o ≡ false → o ≡ None
none-of None e = refl
none-of (Some x) e = absurd (let h = e in cc)

touched-number : (e : Entry) (o : LiveObject) → OfSome (λ p. p.object.number ≡ o.object.number) (touched e o)
touched-number e o = touched-of (λ p. p.number ≡ o.object.number) e o refl

pub order-kept : (x : Move) (c : Content) → Order c → Fits c x → Order (apply_seen x c)
order-kept (Attaches conn) c r f = (r.0, r.1, r.2, rising-put (λ (x : Connection). x.number) (record { number = conn; queue = [] }) 1 1025 c.connections f.0 (let le = f.1 in omega arith) (none-of _ f.2) r.3)
order-kept (Leaves conn) c r f = (r.0, r.1, r.2, rising-without (λ (x : Connection). x.number) (λ x. eqb x.number conn) 1 1025 c.connections r.3)
order-kept (Creates o) c r f = (
  rw (same-map (λ (h : OpenHandle Progress). h.number) (offer (creation o)) (λ h. refl) c.handles) r.0,
  rw (map-append (λ (k : LiveObject). k.object.number) c.objects (record { object = o; attributes = [] } ∷ []), f.0) (rising-push 0 c.next_object (map (λ k. k.object.number) c.objects) r.1),
  r.2,
  r.3,
)
order-kept (AppendsRecord e) c r f = (
  rw (same-map (λ (h : OpenHandle Progress). h.number) (offer e) (λ h. refl) c.handles) r.0,
  rising-filter_map (λ (k : LiveObject). k.object.number) (touched e) (touched-number e) 0 c.next_object c.objects r.1,
  r.2,
  r.3,
)
order-kept (Opens h) c r f = (
  rw (map-append (λ (h : OpenHandle Progress). h.number) c.handles (reseen (λ h. first_seen h (style h.kind)) h ∷ []), f.0) (rising-push 0 c.next_handle (map (λ h. h.number) c.handles) r.0),
  r.1,
  r.2,
  r.3,
)
order-kept (Closes number) c r f = (rising-without (λ (h : OpenHandle Progress). h.number) (λ h. eqb h.number number) 0 c.next_handle c.handles r.0, r.1, r.2, r.3)
order-kept (CatchesUp number) c r f = (rw (same-on_first (λ (h : OpenHandle Progress). h.number) (λ h. eqb h.number number) (reseen caught_up) (λ h. refl) c.handles) r.0, r.1, r.2, r.3)
order-kept (Advances number count) c r f = (rw (same-on_first (λ (h : OpenHandle Progress). h.number) (λ h. eqb h.number number) (reseen (λ h. left h count h.seen)) (λ h. refl) c.handles) r.0, r.1, r.2, r.3)
order-kept (Parks number size) c r f = (rw (same-on_first (λ (h : OpenHandle Progress). h.number) (λ h. eqb h.number number) (λ h. record h { parked = size }) (λ h. refl) c.handles) r.0, r.1, r.2, r.3)
order-kept (Arms number pulse) c r f = (rw (same-on_first (λ (h : OpenHandle Progress). h.number) (λ h. eqb h.number number) (λ h. record h { armed = pulse }) (λ h. refl) c.handles) r.0, r.1, r.2, r.3)
order-kept (Queues conn item) c r f = (r.0, r.1, r.2, rw (same-on_first (λ (x : Connection). x.number) (λ x. eqb x.number conn) (requeued (λ items. items ++ item ∷ [])) (λ x. refl) c.connections) r.3)
order-kept (Takes conn) c r f = (r.0, r.1, r.2, rw (same-on_first (λ (x : Connection). x.number) (λ x. eqb x.number conn) (requeued behind_first) (λ x. refl) c.connections) r.3)
order-kept (MakesDirectory path) c r f = (
  r.0,
  r.1,
  rw (map-append (λ (d : Directory). d.number) c.directories (record { number = c.next_directory; path = path } ∷ [])) (rising-push 0 c.next_directory (map (λ d. d.number) c.directories) r.2),
  r.3,
)
order-kept (RemovesDirectory number) c r f = (r.0, r.1, rising-without (λ (d : Directory). d.number) (λ d. eqb d.number number) 0 c.next_directory c.directories r.2, r.3)

-- ---- handles and what they are on

pub all-offered : (P : OpenHandle Progress → Type 0) (e : Entry) → ((h : OpenHandle Progress) → P h → P (offer e h)) → (hs : List (OpenHandle Progress)) → AllByRecursion P hs → AllByRecursion P (map (offer e) hs)
all-offered P e keeps [] all = tt
all-offered P e keeps (h ∷ hs) all = (keeps h all.0, all-offered P e keeps hs all.1)

attached-put : (k conn : ℕ) (xs : List Connection) → is_some (find (λ x. eqb x.number k) xs) ≡ true → is_some (find (λ x. eqb x.number k) (with_connection conn xs)) ≡ true
attached-put k conn [] e = absurd (let h = e in cc)
attached-put k conn (x ∷ xs) e = go (nat_lt conn x.number) (eqb conn k) (eqb x.number k) refl e (attached-put k conn xs)
  where
    go : (b own a : Bool) → eqb x.number k ≡ a → is_some (cond a (Some x) (find (λ x. eqb x.number k) xs)) ≡ true → (is_some (find (λ x. eqb x.number k) xs) ≡ true → is_some (find (λ x. eqb x.number k) (with_connection conn xs)) ≡ true)
        → is_some (find (λ x. eqb x.number k) (cond b (record { number = conn; queue = [] } ∷ x ∷ xs) (x ∷ with_connection conn xs))) ≡ true
    go true own a is e rest = by (eqb conn k)
      where
        by : (o : Bool) → is_some (cond o (Some (record { number = conn; queue = [] })) (cond (eqb x.number k) (Some x) (find (λ x. eqb x.number k) xs))) ≡ true
        by true = refl
        by false = ap (λ a. is_some (cond a (Some x) (find (λ x. eqb x.number k) xs))) is ∙ e
    go false own true is e rest = ap (λ a. is_some (cond a (Some x) (find (λ x. eqb x.number k) (with_connection conn xs)))) is
    go false own false is e rest = ap (λ a. is_some (cond a (Some x) (find (λ x. eqb x.number k) (with_connection conn xs)))) is ∙ rest e

attached-on : (k conn : ℕ) (change : List Item → List Item) (xs : List Connection) → is_some (find (λ x. eqb x.number k) (on_connection conn change xs)) ≡ is_some (find (λ x. eqb x.number k) xs)
attached-on k conn change [] = refl
attached-on k conn change (x ∷ xs) = go (eqb x.number conn) (eqb x.number k) (attached-on k conn change xs)
  where
    go : (b a : Bool) → is_some (find (λ x. eqb x.number k) (on_connection conn change xs)) ≡ is_some (find (λ x. eqb x.number k) xs)
        → is_some (find (λ x. eqb x.number k) (cond b (requeued change x ∷ xs) (x ∷ on_connection conn change xs))) ≡ is_some (find (λ x. eqb x.number k) (x ∷ xs))
    go true a rest = by (eqb x.number k)
      where
        by : (a : Bool) → is_some (cond a (Some (requeued change x)) (find (λ x. eqb x.number k) xs)) ≡ is_some (cond a (Some x) (find (λ x. eqb x.number k) xs))
        by true = refl
        by false = refl
    go false a rest = by (eqb x.number k)
      where
        by : (a : Bool) → is_some (cond a (Some x) (find (λ x. eqb x.number k) (on_connection conn change xs))) ≡ is_some (cond a (Some x) (find (λ x. eqb x.number k) xs))
        by true = refl
        by false = rest

abbrev Owner : Content → OpenHandle Progress → Type 0
Owner c h = is_attached c h.connection ≡ true

abbrev Target : Content → OpenHandle Progress → Type 0
Target c h = IsTarget c h.target (is_directory_kind h.kind)

owner-left : (conn : ℕ) (c : Content) (h : OpenHandle Progress) → Owner c h × (eqb h.connection conn ≡ false) → Owner (apply_seen (Leaves conn) c) h
owner-left conn c h p =
    let x = some-of (find (λ (x : Connection). eqb x.number h.connection) c.connections) p.0 in
    let own : x.0.number ≡ h.connection = eqb-true x.0.number h.connection (find-true (λ (x : Connection). eqb x.number h.connection) c.connections x.0 x.1) in
    is-some _ x.0 (find-without (λ (x : Connection). eqb x.number h.connection) (λ x. eqb x.number conn) c.connections x.0 x.1 (ap (λ n. eqb n conn) own ∙ p.1))

target-more : (c : Content) (o : Object) (t : ℕ) (b : Bool) → IsTarget c t b → IsTarget (apply_seen (Creates o) c) t b
target-more c o t true p = p
target-more c o t false p = omega arith

target-made : (c : Content) (path : List (List ℕ)) (t : ℕ) (b : Bool) → IsTarget c t b → IsTarget (apply_seen (MakesDirectory path) c) t b
target-made c path t true p = some-push (λ (d : Directory). eqb d.number t) c.directories (record { number = c.next_directory; path = path }) p
target-made c path t false p = p

target-removed : (c : Content) (number t : ℕ) (b : Bool) → IsTarget c t b × ((b && eqb t number) ≡ false) → IsTarget (apply_seen (RemovesDirectory number) c) t b
target-removed c number t true p =
    let d = some-of (directory_numbered c t) p.0 in
    let own : d.0.number ≡ t = eqb-true d.0.number t (find-true (λ (d : Directory). eqb d.number t) c.directories d.0 d.1) in
    is-some _ d.0 (find-without (λ (d : Directory). eqb d.number t) (λ d. eqb d.number number) c.directories d.0 d.1 (ap (λ n. eqb n number) own ∙ p.1))
target-removed c number t false p = p.0

held-numbered : (c : Content) (n : ℕ) (change : OpenHandle Progress → OpenHandle Progress) → ((h : OpenHandle Progress) → Owner c h → Owner c (change h)) → ((h : OpenHandle Progress) → Target c h → Target c (change h)) → Held c → Held (record c { handles = on_numbered n change c.handles })
held-numbered c n change owns targets p = (all-on_first (Owner c) (λ h. eqb h.number n) change owns c.handles p.0, all-on_first (Target c) (λ h. eqb h.number n) change targets c.handles p.1)

held-kept : (x : Move) (c : Content) → Held c → Fits c x → Held (apply_seen x c)
held-kept (Attaches conn) c p f = (all-imp (Owner c) (Owner (apply_seen (Attaches conn) c)) (λ h. attached-put h.connection conn c.connections) c.handles p.0, p.1)
held-kept (Leaves conn) c p f = (all-imp (λ h. Owner c h × (eqb h.connection conn ≡ false)) (Owner (apply_seen (Leaves conn) c)) (owner-left conn c) c.handles (all-both _ _ c.handles p.0 f), p.1)
held-kept (Creates o) c p f = (
  all-offered (Owner c) (creation o) (λ h q. q) c.handles p.0,
  all-offered (Target (apply_seen (Creates o) c)) (creation o) (λ h q. q) c.handles (all-imp (Target c) (Target (apply_seen (Creates o) c)) (λ h. target-more c o h.target (is_directory_kind h.kind)) c.handles p.1),
)
held-kept (AppendsRecord e) c p f = (all-offered (Owner c) e (λ h q. q) c.handles p.0, all-offered (Target c) e (λ h q. q) c.handles p.1)
held-kept (Opens h) c p f = (all-push (Owner c) c.handles (reseen (λ h. first_seen h (style h.kind)) h) p.0 f.1, all-push (Target c) c.handles (reseen (λ h. first_seen h (style h.kind)) h) p.1 f.2)
held-kept (Closes number) c p f = (all-without_first (Owner c) (λ h. eqb h.number number) c.handles p.0, all-without_first (Target c) (λ h. eqb h.number number) c.handles p.1)
held-kept (CatchesUp number) c p f = held-numbered c number (reseen caught_up) (λ h q. q) (λ h q. q) p
held-kept (Advances number count) c p f = held-numbered c number (reseen (λ h. left h count h.seen)) (λ h q. q) (λ h q. q) p
held-kept (Parks number size) c p f = held-numbered c number (λ h. record h { parked = size }) (λ h q. q) (λ h q. q) p
held-kept (Arms number pulse) c p f = held-numbered c number (λ h. record h { armed = pulse }) (λ h q. q) (λ h q. q) p
held-kept (Queues conn item) c p f = (all-imp (Owner c) (Owner (apply_seen (Queues conn item) c)) (λ h is. attached-on h.connection conn (λ items. items ++ item ∷ []) c.connections ∙ is) c.handles p.0, p.1)
held-kept (Takes conn) c p f = (all-imp (Owner c) (Owner (apply_seen (Takes conn) c)) (λ h is. attached-on h.connection conn behind_first c.connections ∙ is) c.handles p.0, p.1)
held-kept (MakesDirectory path) c p f = (p.0, all-imp (Target c) (Target (apply_seen (MakesDirectory path) c)) (λ h. target-made c path h.target (is_directory_kind h.kind)) c.handles p.1)
held-kept (RemovesDirectory number) c p f = (p.0, all-imp (λ h. Target c h × ((is_directory_kind h.kind && eqb h.target number) ≡ false)) (Target (apply_seen (RemovesDirectory number) c)) (λ h. target-removed c number h.target (is_directory_kind h.kind)) c.handles (all-both _ _ c.handles p.1 f.no_handles))

-- ---- what they have seen

fits-stand : (s : Style) (reads over : Bool) (rest : List Entry) → fits s (stand s reads over rest) ≡ true
fits-stand Full reads over rest = refl
fits-stand Delta reads true rest = refl
fits-stand Delta reads false rest = refl
fits-stand Queue reads over rest = refl

fits-unread : (s : Style) (reads : Bool) → fits s (unread s reads) ≡ true
fits-unread Full reads = refl
fits-unread Delta reads = refl
fits-unread Queue reads = refl

whole-seen : {S : Type 0} (h : OpenHandle S) (xs : List Entry) → IsWhole h (seen_of h xs)
whole-seen h xs = go (style h.kind) refl (over_limit h xs) refl
  where
    go : (s : Style) → style h.kind ≡ s → (o : Bool) → over_limit h xs ≡ o → IsWhole h (stand s h.reads o xs)
    go Full e o f = tt
    go Delta e true f = tt
    go Delta e false f = λ i. stand (e i) h.reads (f i) xs
    go Queue e o f = λ i. stand (e i) h.reads (over_limit h xs) xs

whole-unread : {S : Type 0} (h : OpenHandle S) (s : Style) (reads : Bool) → IsWhole h (unread s reads)
whole-unread h Full reads = tt
whole-unread h Delta reads = tt
whole-unread h Queue reads = tt

first-stand : {S : Type 0} (h : OpenHandle S) (s : Style) (reads over : Bool) (rest : List Entry) → begins (visible h) rest ≡ true → HasFirst h (stand s reads over rest)
first-stand h Full reads over rest e = tt
first-stand h Delta reads true rest e = tt
first-stand h Delta reads false rest e = e
first-stand h Queue reads over rest e = e

first-unread : {S : Type 0} (h : OpenHandle S) (s : Style) (reads : Bool) → HasFirst h (unread s reads)
first-unread h Full reads = tt
first-unread h Delta reads = tt
first-unread h Queue reads = tt

begins-first : (test : Entry → Bool) (xs : List Entry) → begins test (from_first test xs) ≡ true
begins-first test [] = refl
begins-first test (x ∷ xs) = by (test x) refl (begins-first test xs)
  where
    by : (b : Bool) → test x ≡ b → begins test (from_first test xs) ≡ true → begins test (cond b (x ∷ xs) (from_first test xs)) ≡ true
    by true e rest = e
    by false e rest = rest

begins-pushed : (test : Entry → Bool) (e : Entry) (k : Bool) (xs : List Entry) → begins test xs ≡ true → begins test (cond k (pushed test e xs) xs) ≡ true
begins-pushed test e false xs p = p
begins-pushed test e true [] p = by (test e) refl
  where
    by : (b : Bool) → test e ≡ b → begins test (cond b (e ∷ []) []) ≡ true
    by true is = is
    by false is = refl
begins-pushed test e true (x ∷ xs) p = p

abbrev Tells : OpenHandle Progress → Progress → Type 0
Tells h s = (fits (style h.kind) s ≡ true) × IsWhole h s × HasFirst h s

seen-tells : (h : OpenHandle Progress) (rest : List Entry) → begins (visible h) rest ≡ true → Tells h (seen_of h rest)
seen-tells h rest e = (fits-stand (style h.kind) h.reads (over_limit h rest) rest, whole-seen h rest, first-stand h (style h.kind) h.reads (over_limit h rest) rest e)

offered-tells : (h : OpenHandle Progress) (e : Entry) (s : Progress) → Tells h s → Tells h (offered h e s)
offered-tells h e (News b) p = (by (style h.kind) p.0, tt, tt)
  where
    by : (k : Style) → fits k (News b) ≡ true → fits k (offered h e (News b)) ≡ true
    by Full p = refl
    by Delta p = p
    by Queue p = p
offered-tells h e Unread p = p
offered-tells h e Over p = p
offered-tells h e (Owed rest) p = seen-tells h (cond (keeps h e) (pushed (visible h) e rest) rest) (begins-pushed (visible h) e (keeps h e) rest p.2)

left-tells : (h : OpenHandle Progress) (count : ℕ) (s : Progress) → Tells h s → Tells h (left h count s)
left-tells h count (News b) p = p
left-tells h count Unread p = p
left-tells h count Over p = p
left-tells h count (Owed rest) p = seen-tells h (from_first (visible h) (past (visible h) count rest)) (begins-first (visible h) (past (visible h) count rest))

first-tells : {S : Type 0} (h : OpenHandle S) → (fits (style h.kind) (first_seen h (style h.kind)) ≡ true) × IsWhole h (first_seen h (style h.kind)) × HasFirst h (first_seen h (style h.kind))
first-tells h = go (style h.kind) refl
  where
    go : (k : Style) → style h.kind ≡ k → (fits k (first_seen h k) ≡ true) × IsWhole h (first_seen h k) × HasFirst h (first_seen h k)
    go Full e = (refl, tt, tt)
    go Delta e = (refl, tt, tt)
    go Queue e = (ap (λ k. fits k (seen_of h [])) (sym e) ∙ fits-stand (style h.kind) h.reads (over_limit h []) [], whole-seen h [], first-stand h (style h.kind) h.reads (over_limit h []) [] refl)

abbrev pub IsTold : OpenHandle Progress → Type 0
IsTold h = Tells h h.seen

abbrev pub AllTold : Content → Type 0
AllTold c = AllByRecursion IsTold c.handles

pub told-apart : (c : Content) → AllTold c → Told c
told-apart c p = (all-imp IsTold (λ h. fits (style h.kind) h.seen ≡ true) (λ h q. q.0) c.handles p, all-imp IsTold (λ h. IsWhole h h.seen) (λ h q. q.1) c.handles p, all-imp IsTold (λ h. HasFirst h h.seen) (λ h q. q.2) c.handles p)

pub told-both : (c : Content) → Told c → AllTold c
told-both c p = all-imp (λ (h : OpenHandle Progress). (fits (style h.kind) h.seen ≡ true) × (IsWhole h h.seen × HasFirst h h.seen)) IsTold (λ h q. (q.0, q.1.0, q.1.1)) c.handles
    (all-both (λ (h : OpenHandle Progress). fits (style h.kind) h.seen ≡ true) (λ h. IsWhole h h.seen × HasFirst h h.seen) c.handles p.0 (all-both (λ (h : OpenHandle Progress). IsWhole h h.seen) (λ h. HasFirst h h.seen) c.handles p.1 p.2))

pub told-kept : (x : Move) (c : Content) → AllTold c → AllTold (apply_seen x c)
told-kept (Attaches conn) c p = p
told-kept (Leaves conn) c p = p
told-kept (Creates o) c p = all-offered IsTold (creation o) (λ h. offered-tells h (creation o) h.seen) c.handles p
told-kept (AppendsRecord e) c p = all-offered IsTold e (λ h. offered-tells h e h.seen) c.handles p
told-kept (Opens h) c p = all-push IsTold c.handles (reseen (λ h. first_seen h (style h.kind)) h) p (first-tells h)
told-kept (Closes number) c p = all-without_first IsTold (λ h. eqb h.number number) c.handles p
told-kept (CatchesUp number) c p = all-on_first IsTold (λ h. eqb h.number number) (reseen caught_up) (λ h q. seen-tells h [] refl) c.handles p
told-kept (Advances number count) c p = all-on_first IsTold (λ h. eqb h.number number) (reseen (λ h. left h count h.seen)) (λ h. left-tells h count h.seen) c.handles p
told-kept (Parks number size) c p = all-on_first IsTold (λ h. eqb h.number number) (λ h. record h { parked = size }) (λ h q. q) c.handles p
told-kept (Arms number pulse) c p = all-on_first IsTold (λ h. eqb h.number number) (λ h. record h { armed = pulse }) (λ h q. q) c.handles p
told-kept (Queues conn item) c p = p
told-kept (Takes conn) c p = p
told-kept (MakesDirectory path) c p = p
told-kept (RemovesDirectory number) c p = p

-- what stands of a machine tells it
pub shown-told : (m : Machine) → AllTold (content_of m)
shown-told m = go m.handles
  where
    one : (h : OpenHandle (Option ℕ)) (cursor : Option ℕ) → (fits (style h.kind) (seen_with h m.history cursor) ≡ true) × IsWhole h (seen_with h m.history cursor) × HasFirst h (seen_with h m.history cursor)
    one h None = (fits-unread (style h.kind) h.reads, whole-unread h (style h.kind) h.reads, first-unread h (style h.kind) h.reads)
    one h (Some cursor) = (fits-stand (style h.kind) h.reads (over_limit h _) _, whole-seen h _, first-stand h (style h.kind) h.reads (over_limit h (rest_of h (drop cursor m.history))) (rest_of h (drop cursor m.history)) (begins-first (visible h) (filter (keeps h) (drop cursor m.history))))

    go : (hs : List (OpenHandle (Option ℕ))) → AllByRecursion IsTold (map (shown_handle m.history) hs)
    go [] = tt
    go (h ∷ hs) = (one h h.seen, go hs)

-- ---- all of these

-- all that fit moves keep one by one
pub record Basis (c : Content) : Type 0 where
  pub order : Order c
  pub tree : Tree c
  pub held : Held c
  pub told : AllTold c

pub basis-kept : (x : Move) (c : Content) → Basis c → Fits c x → Basis (apply_seen x c)
basis-kept x c b f = record { order = order-kept x c b.order f; tree = tree-kept x c b.order b.tree f; held = held-kept x c b.held f; told = told-kept x c b.told }

pub basis-after : (xs : List Move) (c : Content) → Basis c → AreFit c xs → Basis (apply_all_seen xs c)
basis-after [] c b f = b
basis-after (x ∷ xs) c b f = basis-after xs (apply_seen x c) (basis-kept x c b f.0) f.1
