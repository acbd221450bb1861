-- What the laws want of a content, behind moves.
use Rattle.std.proofs.Common.{◌≡◌, ◌≤◌, ◌<◌, ℕ, ◌+◌, Bool, true, false, cond, List, [], ◌∷◌, ◌++◌, map, Option, Some, None, refl, ap, subst, ◌∙◌, arith}
use Rattle.std.specs.Prelude.{◌==◌, ◌&&◌, find, is_some, option_and_then}
use Rattle.std.proofs.lemmas.Bool.{eqb-true, ne_eqb}
use Rattle.std.proofs.lemmas.List.{map-append}
use Rattle.std.specs.List.{filter_map, cons_option, list_all, AllByRecursion}
use Rattle.pps_types.specs.Reading.{OpenHandle, reseen}
use Rattle.pps_types.specs.Rests.{Progress}
use Rattle.pps_types.specs.Outbox.{behind_first}
use Rattle.pps_types.specs.Content.{Connection, Content, own_handle, is_attached}
use Rattle.pps_types.specs.Plan.{Move, Attaches, Leaves, Creates, AppendsRecord, Opens, Closes, CatchesUp, Advances, Parks, Arms, Queues, Takes, MakesDirectory, RemovesDirectory, requeued, on_first, apply_seen, apply_all_seen, caught_up, left}
use Rattle.pps_types.specs.WellFormed.{RiseBetween}
use Rattle.service_laws.proofs.Finds.{OfSome, and-both, all-find}
use Rattle.pps_types.proofs.Lists.{append-nil, all-weaken}
use Rattle.service_laws.proofs.Rising.{rising-below, rising-push, rising-put, rising-without, rising-filter_map, same-on_first}
use Rattle.service_laws.specs.Told.{HandlesRise, IsNumbered, number_after, AreNumbered, handle_by, handle_after, opened_by, handles_opened}
use Rattle.service_laws.proofs.SettlingHandles.{handle_after-number, handles-after, next_handle-by}
use Rattle.service_laws.proofs.SettlingLists.{rising-behind}
use Rattle.notify_box.specs.Connections.{ConnectionsRise, attaches_none}
use Rattle.notify_box.proofs.ConnectionLists.{passes}

-- ---- handles

handles-by : (c : Content) (x : Move) → HandlesRise c → IsNumbered c.next_handle (opened_by x) → HandlesRise (apply_seen x c)
handles-by c x r n =
    rw (handles-after (x ∷ []) c r (n, tt), next_handle-by c x)
    (rw (map-append (λ (h : OpenHandle Progress). h.number) (filter_map (handle_after (x ∷ [])) c.handles) (handles_opened (x ∷ [])))
    (go (opened_by x) n (rising-filter_map (λ (h : OpenHandle Progress). h.number) (handle_after (x ∷ [])) (handle_after-number (x ∷ [])) 0 c.next_handle c.handles r)))
  where
    go : (o : Option (OpenHandle Progress)) → IsNumbered c.next_handle o → RiseBetween 0 (map (λ h. h.number) (filter_map (handle_after (x ∷ [])) c.handles)) c.next_handle
        → RiseBetween 0 (map (λ h. h.number) (filter_map (handle_after (x ∷ [])) c.handles) ++ map (λ h. h.number) (cons_option (option_and_then (λ h. Some h) o) [])) (number_after c.next_handle o)
    go None n r = rw (append-nil (map (λ (h : OpenHandle Progress). h.number) (filter_map (handle_after (x ∷ [])) c.handles))) r
    go (Some h) n r = rw n (rising-push 0 c.next_handle (map (λ h. h.number) (filter_map (handle_after (x ∷ [])) c.handles)) r)

pub handles-stay : (c : Content) (ms : List Move) → HandlesRise c → AreNumbered c.next_handle ms → HandlesRise (apply_all_seen ms c)
handles-stay c [] r n = r
handles-stay c (x ∷ xs) r n = handles-stay (apply_seen x c) xs (handles-by c x r n.0) (rw (next_handle-by c x) n.1)

-- ---- connections

abbrev rise : List Connection → Type 0
rise xs = RiseBetween 1 (map (λ (x : Connection). x.number) xs) 1025

requeued-rise : (conn : ℕ) (xs : List Connection) (queue : Connection → Connection) → ((x : Connection) → (queue x).number ≡ x.number) → rise xs → rise (on_first (λ x. x.number == conn) queue xs)
requeued-rise conn xs queue keeps r = rw (same-on_first (λ (x : Connection). x.number) (λ x. x.number == conn) queue keeps xs) r

connections-by : (c : Content) (x : Move) → ConnectionsRise c → attaches_none x ≡ true → ConnectionsRise (apply_seen x c)
connections-by c (Attaches conn) r e = absurd (let bad = e in cc)
connections-by c (Leaves conn) r e = rising-without (λ (x : Connection). x.number) (λ x. x.number == conn) 1 1025 c.connections r
connections-by c (Queues conn item) r e = requeued-rise conn c.connections (requeued (λ items. items ++ item ∷ [])) (λ x. refl) r
connections-by c (Takes conn) r e = requeued-rise conn c.connections (requeued behind_first) (λ x. refl) r
connections-by c (Creates o) r e = r
connections-by c (AppendsRecord x) r e = r
connections-by c (Opens h) r e = r
connections-by c (Closes number) r e = r
connections-by c (CatchesUp number) r e = r
connections-by c (Advances number count) r e = r
connections-by c (Parks number size) r e = r
connections-by c (Arms number pulse) r e = r
connections-by c (MakesDirectory path) r e = r
connections-by c (RemovesDirectory number) r e = r

pub connections-stay : (c : Content) (ms : List Move) → ConnectionsRise c → list_all attaches_none ms ≡ true → ConnectionsRise (apply_all_seen ms c)
connections-stay c [] r e = r
connections-stay c (x ∷ xs) r e = let parts = and-both (attaches_none x) (list_all attaches_none xs) e in connections-stay (apply_seen x c) xs (connections-by c x r parts.0) parts.1

pub attached-stays : (c : Content) (conn : ℕ) → ConnectionsRise c → 1 ≤ conn → conn < 1025 → is_attached c conn ≡ false → ConnectionsRise (apply_seen (Attaches conn) c)
attached-stays c conn r low high off = rising-put (λ (x : Connection). x.number) (record { number = conn; queue = [] }) 1 1025 c.connections low high (none (find (λ x. x.number == conn) c.connections) off) r
  where
    none : (o : Option Connection) → is_some o ≡ false → o ≡ None
    none None e = refl
    none (Some x) e = absurd (let bad = e in cc)

-- ---- a handle stays its connection's

kept-cond : (b : Bool) (g h : OpenHandle Progress) → g.connection ≡ h.connection → (cond b g h).connection ≡ h.connection
kept-cond true g h e = e
kept-cond false g h e = refl

connection-by : (x : Move) (h : OpenHandle Progress) → OfSome (λ g. g.connection ≡ h.connection) (handle_by x h)
connection-by (Attaches conn) h = refl
connection-by (Leaves conn) h = refl
connection-by (Creates o) h = refl
connection-by (AppendsRecord e) h = refl
connection-by (Opens g) h = refl
connection-by (Closes number) h = elim (h.number == number) as (λ b. OfSome (λ (g : OpenHandle Progress). g.connection ≡ h.connection) (cond b None (Some h))) [ true ↦ tt | false ↦ refl ]
connection-by (CatchesUp number) h = kept-cond (h.number == number) (reseen caught_up h) h refl
connection-by (Advances number count) h = kept-cond (h.number == number) (reseen (λ h. left h count h.seen) h) h refl
connection-by (Parks number size) h = kept-cond (h.number == number) (record h { parked = size }) h refl
connection-by (Arms number pulse) h = kept-cond (h.number == number) (record h { armed = pulse }) h refl
connection-by (Queues conn item) h = refl
connection-by (Takes conn) h = refl
connection-by (MakesDirectory path) h = refl
connection-by (RemovesDirectory number) h = refl

connection-after : (xs : List Move) (h : OpenHandle Progress) → OfSome (λ g. g.connection ≡ h.connection) (handle_after xs h)
connection-after [] h = refl
connection-after (x ∷ xs) h = go (handle_by x h) (connection-by x h) (λ g. connection-after xs g)
  where
    on : (g : OpenHandle Progress) → g.connection ≡ h.connection → (o : Option (OpenHandle Progress)) → OfSome (λ k. k.connection ≡ g.connection) o → OfSome (λ k. k.connection ≡ h.connection) o
    on g e None k = tt
    on g e (Some k) same = same ∙ e

    go : (o : Option (OpenHandle Progress)) → OfSome (λ g. g.connection ≡ h.connection) o → ((g : OpenHandle Progress) → OfSome (λ k. k.connection ≡ g.connection) (handle_after xs g)) → OfSome (λ g. g.connection ≡ h.connection) (option_and_then (handle_after xs) o)
    go None e rest = tt
    go (Some g) e rest = on g e (handle_after xs g) (rest g)

-- ---- those that are opened have new numbers

number-rises : (next : ℕ) (o : Option (OpenHandle Progress)) → next ≤ number_after next o
number-rises next None = omega arith
number-rises next (Some h) = omega arith

opened-above : (ms : List Move) (next : ℕ) → AreNumbered next ms → AllByRecursion (λ h. next ≤ h.number) (handles_opened ms)
opened-above [] next n = tt
opened-above (x ∷ xs) next n = go (opened_by x) n.0
    (all-weaken {P = λ (h : OpenHandle Progress). number_after next (opened_by x) ≤ h.number} {Q = λ h. next ≤ h.number} (λ h le. omega (arith, le, number-rises next (opened_by x))) (handles_opened xs) (opened-above xs (number_after next (opened_by x)) n.1))
  where
    add : (o : Option (OpenHandle Progress)) → OfSome (λ g. g.number ≡ next) o → AllByRecursion (λ h. next ≤ h.number) (handles_opened xs) → AllByRecursion (λ h. next ≤ h.number) (cons_option o (handles_opened xs))
    add None is rest = rest
    add (Some g) is rest = (omega (arith, is), rest)

    named : (g : OpenHandle Progress) → g.number ≡ next → (o : Option (OpenHandle Progress)) → OfSome (λ k. k.number ≡ g.number) o → OfSome (λ k. k.number ≡ next) o
    named g is None k = tt
    named g is (Some k) same = same ∙ is

    go : (o : Option (OpenHandle Progress)) → IsNumbered next o → AllByRecursion (λ h. next ≤ h.number) (handles_opened xs) → AllByRecursion (λ h. next ≤ h.number) (cons_option (option_and_then (handle_after xs) o) (handles_opened xs))
    go None is rest = rest
    go (Some g) is rest = add (handle_after xs g) (named g is (handle_after xs g) (handle_after-number xs g)) rest

-- ---- what is found behind moves

module _ (test : OpenHandle Progress → Bool) (see : OpenHandle Progress → Option (OpenHandle Progress)) (same : (h : OpenHandle Progress) → OfSome (λ g. test g ≡ test h) (see h)) (others : List (OpenHandle Progress)) where
  none-found : (hs : List (OpenHandle Progress)) → AllByRecursion (λ h. test h ≡ false) hs → find test hs ≡ None
  none-found [] all = refl
  none-found (h ∷ hs) all = ap (λ b. cond b (Some h) (find test hs)) all.0 ∙ none-found hs all.1

  none-behind : (hs : List (OpenHandle Progress)) → AllByRecursion (λ h. test h ≡ false) hs → AllByRecursion (λ h. test h ≡ false) others → find test (filter_map see hs ++ others) ≡ None
  none-behind [] all rest = none-found others rest
  none-behind (h ∷ hs) all rest = by (see h) (same h) (none-behind hs all.1 rest)
    where
      by : (o : Option (OpenHandle Progress)) → OfSome (λ g. test g ≡ test h) o → find test (filter_map see hs ++ others) ≡ None → find test (cons_option o (filter_map see hs) ++ others) ≡ None
      by None k more = more
      by (Some g) k more = ap (λ b. cond b (Some g) (find test (filter_map see hs ++ others))) (k ∙ all.0) ∙ more

  finds-seen : (n : ℕ) → ((h : OpenHandle Progress) → n < h.number → test h ≡ false) → ((h : OpenHandle Progress) → test h ≡ true → h.number ≡ n) → AllByRecursion (λ h. test h ≡ false) others
      → (low high : ℕ) (hs : List (OpenHandle Progress)) → RiseBetween low (map (λ h. h.number) hs) high → (h : OpenHandle Progress) → find test hs ≡ Some h → find test (filter_map see hs ++ others) ≡ see h
  finds-seen n above own rest low high [] r h e = absurd (let bad = e in cc)
  finds-seen n above own rest low high (g ∷ gs) r h e = by (test g) refl e (finds-seen n above own rest (g.number + 1) high gs r.1 h)
    where
      here : test g ≡ true → (o : Option (OpenHandle Progress)) → OfSome (λ k. test k ≡ test g) o → find test (cons_option o (filter_map see gs) ++ others) ≡ o
      here is None k = none-behind gs (all-weaken {P = λ (k : OpenHandle Progress). g.number < k.number} {Q = λ k. test k ≡ false} (λ k lt. above k (subst (λ m. m < k.number) (own g is) lt)) gs (rising-behind (λ (k : OpenHandle Progress). k.number) g.number high gs r.1)) rest
      here is (Some k) same = ap (λ b. cond b (Some k) (find test (filter_map see gs ++ others))) (same ∙ is)

      skip : test g ≡ false → (o : Option (OpenHandle Progress)) → OfSome (λ k. test k ≡ test g) o → find test (cons_option o (filter_map see gs) ++ others) ≡ find test (filter_map see gs ++ others)
      skip is None k = refl
      skip is (Some k) same = ap (λ b. cond b (Some k) (find test (filter_map see gs ++ others))) (same ∙ is)

      by : (b : Bool) → test g ≡ b → cond b (Some g) (find test gs) ≡ Some h → (find test gs ≡ Some h → find test (filter_map see gs ++ others) ≡ see h) → find test (cons_option (see g) (filter_map see gs) ++ others) ≡ see h
      by true is found more = let eq : g ≡ h = cc in here is (see g) (same g) ∙ ap see eq
      by false is found more = skip is (see g) (same g) ∙ more found

abbrev is_own : ℕ → ℕ → OpenHandle Progress → Bool
is_own conn n g = (g.number == n) && (g.connection == conn)

pub own-stays : (c : Content) (ms : List Move) → HandlesRise c → AreNumbered c.next_handle ms → (conn n : ℕ) (h : OpenHandle Progress) → own_handle c conn n ≡ Some h → own_handle (apply_all_seen ms c) conn n ≡ handle_after ms h
own-stays c ms r numbered conn n h e =
    ap (find (is_own conn n)) (handles-after ms c r numbered)
    ∙ finds-seen (is_own conn n) (handle_after ms) (λ g. same g (handle_after ms g) (handle_after-number ms g) (connection-after ms g)) (handles_opened ms) n
    (λ g lt. ap (λ b. b && (g.connection == conn)) (ne_eqb g.number n (λ is. omega (arith, is, lt))))
    (λ g is. eqb-true g.number n (and-both (g.number == n) (g.connection == conn) is).0)
    (all-weaken {P = λ (g : OpenHandle Progress). c.next_handle ≤ g.number} {Q = λ g. is_own conn n g ≡ false} (λ g le. ap (λ b. b && (g.connection == conn)) (ne_eqb g.number n (λ is. omega (arith, is, le, below)))) (handles_opened ms) (opened-above ms c.next_handle numbered))
    0 c.next_handle c.handles r h e
  where
    same : (g : OpenHandle Progress) (o : Option (OpenHandle Progress)) → OfSome (λ k. k.number ≡ g.number) o → OfSome (λ k. k.connection ≡ g.connection) o → OfSome (λ k. is_own conn n k ≡ is_own conn n g) o
    same g None number connection = tt
    same g (Some k) number connection = λ i. (number i == n) && (connection i == conn)

    below : n < c.next_handle
    below = let is : h.number ≡ n = eqb-true h.number n (and-both (h.number == n) (h.connection == conn) (passes (is_own conn n) c.handles h e)).0 in
        subst (λ m. m < c.next_handle) is (all-find (λ (g : OpenHandle Progress). g.number < c.next_handle) (is_own conn n) c.handles h (rising-below (λ (g : OpenHandle Progress). g.number) 0 c.next_handle c.handles r) e)
