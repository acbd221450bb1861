-- Moves that are of no connection, and one that comes.
use Rattle.std.proofs.Common.{◌≡◌, ℕ, Bool, true, false, cond, List, [], ◌∷◌, map, Some, None, refl, sym, ap, ◌∙◌}
use Rattle.std.specs.Prelude.{◌==◌, nat_lt, find, is_some, option_map}
use Rattle.std.specs.Option.{option_map_or}
use Rattle.std.proofs.lemmas.Bool.{eq-eqb}
use Rattle.std.specs.List.{filter_map, list_all, AllByRecursion}
use Rattle.pps_types.specs.declared.outcome.Item.{Item}
use Rattle.pps_types.specs.Reading.{OpenHandle, reseen}
use Rattle.pps_types.specs.Rests.{Progress}
use Rattle.pps_types.specs.Outbox.{empty_outbox, put_rising}
use Rattle.pps_types.specs.Content.{Connection, Content, is_attached, queue_of, handles_of}
use Rattle.pps_types.specs.Plan.{Move, Attaches, Leaves, Creates, AppendsRecord, Opens, Closes, CatchesUp, Advances, Parks, Arms, Queues, Takes, MakesDirectory, RemovesDirectory, with_connection, apply_seen, apply_all_seen, on_numbered, creation, offered, caught_up, left}
use Rattle.service_laws.proofs.Finds.{and-both}
use Rattle.notify_box.specs.Standing.{Standing}
use Rattle.notify_box.specs.Connections.{standing_of, connections_of, is_of_none}
use Rattle.notify_box.proofs.ConnectionLists.{entries-map, entries-on_first, turned}
use Rattle.notify_box.proofs.ConnectionStandings.{pulse_by, read_by, number_by, shown, shown-same, standing-shown}

-- ---- moves of none

-- where the connections stay, and what they show of the handles, so does what stands of them
stays : (c d : Content) → d.connections ≡ c.connections → ((m : ℕ) (q : List Item) → shown d.handles m q ≡ shown c.handles m q) → connections_of d ≡ connections_of c
stays c d is same = ap (map (standing_of d)) is ∙ go c.connections
  where
    queue : (n : ℕ) → queue_of d n ≡ queue_of c n
    queue n = ap (λ xs. option_map_or (λ (x : Connection). x.queue) (find (λ x. x.number == n) xs) []) is

    go : (xs : List Connection) → map (standing_of d) xs ≡ map (standing_of c) xs
    go [] = refl
    go (x ∷ xs) = λ i. (standing-shown d x ∙ same x.number (queue_of d x.number) ∙ ap (shown c.handles x.number) (queue x.number) ∙ sym (standing-shown c x)) i ∷ go xs i

-- what handles have seen is not shown
seen-all : (see : OpenHandle Progress → Progress) (hs : List (OpenHandle Progress)) (m : ℕ) (q : List Item) → shown (map (reseen see) hs) m q ≡ shown hs m q
seen-all see hs m q = shown-same (map (reseen see) hs) hs m q (entries-map (pulse_by m) (reseen see) (λ h. refl) hs) (entries-map (read_by m) (reseen see) (λ h. refl) hs) (entries-map (number_by m) (reseen see) (λ h. refl) hs)

seen-one : (n : ℕ) (see : OpenHandle Progress → Progress) (hs : List (OpenHandle Progress)) (m : ℕ) (q : List Item) → shown (on_numbered n (reseen see) hs) m q ≡ shown hs m q
seen-one n see hs m q = shown-same (on_numbered n (reseen see) hs) hs m q
    (entries-on_first (pulse_by m) (λ h. h.number == n) (reseen see) (λ h. refl) hs)
    (entries-on_first (read_by m) (λ h. h.number == n) (reseen see) (λ h. refl) hs)
    (entries-on_first (number_by m) (λ h. h.number == n) (reseen see) (λ h. refl) hs)

kept-by : (m : Move) → is_of_none m ≡ true → (c : Content) → connections_of (apply_seen m c) ≡ connections_of c
kept-by (Creates o) e c = stays c (apply_seen (Creates o) c) refl (seen-all (λ h. offered h (creation o) h.seen) c.handles)
kept-by (AppendsRecord x) e c = stays c (apply_seen (AppendsRecord x) c) refl (seen-all (λ h. offered h x h.seen) c.handles)
kept-by (CatchesUp number) e c = stays c (apply_seen (CatchesUp number) c) refl (seen-one number caught_up c.handles)
kept-by (Advances number count) e c = stays c (apply_seen (Advances number count) c) refl (seen-one number (λ h. left h count h.seen) c.handles)
kept-by (MakesDirectory path) e c = refl
kept-by (RemovesDirectory number) e c = refl
kept-by (Attaches conn) e c = absurd (let bad = e in cc)
kept-by (Leaves conn) e c = absurd (let bad = e in cc)
kept-by (Opens h) e c = absurd (let bad = e in cc)
kept-by (Closes number) e c = absurd (let bad = e in cc)
kept-by (Parks number size) e c = absurd (let bad = e in cc)
kept-by (Arms number pulse) e c = absurd (let bad = e in cc)
kept-by (Queues conn item) e c = absurd (let bad = e in cc)
kept-by (Takes conn) e c = absurd (let bad = e in cc)

pub kept-told : (c : Content) (ms : List Move) → list_all is_of_none ms ≡ true → connections_of (apply_all_seen ms c) ≡ connections_of c
kept-told c [] e = refl
kept-told c (m ∷ ms) e = let parts = and-both (is_of_none m) (list_all is_of_none ms) e in kept-told (apply_seen m c) ms parts.1 ∙ kept-by m parts.0 c

-- ---- one comes

put-map : (see : Connection → Standing) → ((x : Connection) → (see x).number ≡ x.number) → (x : Connection) (xs : List Connection) → map see (put_rising (λ x. x.number) x xs) ≡ put_rising (λ s. s.number) (see x) (map see xs)
put-map see same x [] = refl
put-map see same x (y ∷ ys) =
    by (nat_lt x.number y.number) (put-map see same x ys)
    ∙ ap (λ n. cond (nat_lt n y.number) (see x ∷ see y ∷ map see ys) (see y ∷ put_rising (λ s. s.number) (see x) (map see ys))) (sym (same x))
    ∙ ap (λ n. cond (nat_lt (see x).number n) (see x ∷ see y ∷ map see ys) (see y ∷ put_rising (λ s. s.number) (see x) (map see ys))) (sym (same y))
  where
    by : (b : Bool) → map see (put_rising (λ x. x.number) x ys) ≡ put_rising (λ s. s.number) (see x) (map see ys) → map see (cond b (x ∷ y ∷ ys) (y ∷ put_rising (λ x. x.number) x ys)) ≡ cond b (see x ∷ see y ∷ map see ys) (see y ∷ put_rising (λ s. s.number) (see x) (map see ys))
    by true rest = refl
    by false rest = ap (λ zs. see y ∷ zs) rest

module _ (c : Content) (conn : ℕ) (off : is_attached c conn ≡ false) (none : handles_of c conn ≡ []) where
  abbrev newcomer : Connection
  newcomer = record { number = conn; queue = [] }

  -- none that stands has the number
  others : (xs : List Connection) → is_some (find (λ x. x.number == conn) xs) ≡ false → AllByRecursion (λ x. (x.number == conn) ≡ false) xs
  others [] e = tt
  others (x ∷ xs) e = by (x.number == conn) refl e (others xs)
    where
      by : (b : Bool) → (x.number == conn) ≡ b → is_some (cond b (Some x) (find (λ x. x.number == conn) xs)) ≡ false → (is_some (find (λ x. x.number == conn) xs) ≡ false → AllByRecursion (λ x. (x.number == conn) ≡ false) xs) → AllByRecursion (λ x. (x.number == conn) ≡ false) (x ∷ xs)
      by true is e rest = absurd (let bad = e in cc)
      by false is e rest = (is, rest e)

  -- it is found, and each other as before
  finds-new : (xs : List Connection) → AllByRecursion (λ x. (x.number == conn) ≡ false) xs → find (λ x. x.number == conn) (with_connection conn xs) ≡ Some newcomer
  finds-new [] all = ap (λ b. cond b (Some newcomer) None) (eq-eqb conn conn refl)
  finds-new (x ∷ xs) all = by (nat_lt conn x.number) (finds-new xs all.1)
    where
      by : (b : Bool) → find (λ x. x.number == conn) (with_connection conn xs) ≡ Some newcomer → find (λ x. x.number == conn) (cond b (newcomer ∷ x ∷ xs) (x ∷ with_connection conn xs)) ≡ Some newcomer
      by true rest = ap (λ b. cond b (Some newcomer) (find (λ x. x.number == conn) (x ∷ xs))) (eq-eqb conn conn refl)
      by false rest = ap (λ b. cond b (Some x) (find (λ x. x.number == conn) (with_connection conn xs))) all.0 ∙ rest

  finds-other : (m : ℕ) → (conn == m) ≡ false → (xs : List Connection) → find (λ x. x.number == m) (with_connection conn xs) ≡ find (λ x. x.number == m) xs
  finds-other m differs [] = ap (λ b. cond b (Some newcomer) None) differs
  finds-other m differs (x ∷ xs) = by (nat_lt conn x.number) (finds-other m differs xs)
    where
      by : (b : Bool) → find (λ x. x.number == m) (with_connection conn xs) ≡ find (λ x. x.number == m) xs → find (λ x. x.number == m) (cond b (newcomer ∷ x ∷ xs) (x ∷ with_connection conn xs)) ≡ find (λ x. x.number == m) (x ∷ xs)
      by true rest = ap (λ b. cond b (Some newcomer) (find (λ x. x.number == m) (x ∷ xs))) differs
      by false rest = ap (λ o. cond (x.number == m) (Some x) o) rest

  abbrev with_newcomer : Content
  with_newcomer = apply_seen (Attaches conn) c

  stands-new : standing_of with_newcomer newcomer ≡ record { number = conn; outbox = empty_outbox; handles = [] }
  stands-new = λ i. record {
    number = conn;
    outbox = record {
      items = option_map_or (λ (x : Connection). x.queue) (finds-new c.connections (others c.connections off) i) [];
      armed = filter_map (λ (h : OpenHandle Progress). option_map (λ pulse. (h.number, pulse)) h.armed) (none i);
      parked = filter_map (λ (h : OpenHandle Progress). option_map (λ size. h.number) h.parked) (none i);
    };
    handles = map (λ (h : OpenHandle Progress). h.number) (none i);
  }

  abbrev by_queue : Connection → List Item → Standing
  by_queue x q = record { number = x.number; outbox = record { items = q; armed = (standing_of c x).outbox.armed; parked = (standing_of c x).outbox.parked }; handles = (standing_of c x).handles }

  stands-other : (x : Connection) → (x.number == conn) ≡ false → standing_of with_newcomer x ≡ standing_of c x
  stands-other x differs = ap (λ o. by_queue x (option_map_or (λ (y : Connection). y.queue) o [])) (finds-other x.number (turned x.number conn differs) c.connections)

  stand-others : (xs : List Connection) → AllByRecursion (λ x. (x.number == conn) ≡ false) xs → map (standing_of with_newcomer) xs ≡ map (standing_of c) xs
  stand-others [] all = refl
  stand-others (x ∷ xs) all = λ i. stands-other x all.0 i ∷ stand-others xs all.1 i

  pub attached-told : connections_of (apply_seen (Attaches conn) c) ≡ put_rising (λ x. x.number) (record { number = conn; outbox = empty_outbox; handles = [] }) (connections_of c)
  attached-told =
      put-map (standing_of with_newcomer) (λ x. refl) newcomer c.connections
      ∙ (λ i. put_rising (λ (s : Standing). s.number) (stands-new i) (stand-others c.connections (others c.connections off) i))
