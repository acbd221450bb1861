-- The connections by the queues and by all handles, and what is found of one.
use Rattle.std.proofs.Common.{◌≡◌, ℕ, Bool, true, false, cond, List, [], ◌∷◌, map, Option, Some, None, refl, sym, ap, ◌∙◌}
use Rattle.std.specs.Prelude.{◌==◌, find, filter, is_some, option_map}
use Rattle.std.specs.Option.{option_map_or}
use Rattle.std.proofs.lemmas.Bool.{eqb-true, eq-eqb}
use Rattle.std.specs.List.{filter_map, AllByRecursion}
use Rattle.pps_types.specs.declared.outcome.Item.{Item}
use Rattle.pps_types.specs.Reading.{OpenHandle}
use Rattle.pps_types.specs.Rests.{Progress}
use Rattle.pps_types.specs.Outbox.{PulseOf, empty_outbox}
use Rattle.pps_types.specs.Content.{Connection, Content, handle_numbered, own_handle, connection_numbered, is_attached, queue_of, handles_of, outbox_of}
use Rattle.service_laws.proofs.Finds.{OfSome}
use Rattle.service_laws.proofs.Rising.{found-each}
use Rattle.notify_box.specs.Standing.{Standing, is_numbered, standing_at, is_attached as is_kept, outbox_of as outbox_at, handles_of as handles_at}
use Rattle.notify_box.specs.ChangeLaws.{queues_of}
use Rattle.notify_box.specs.Connections.{standing_of, connections_of, ConnectionsRise, AreOwned}
use Rattle.notify_box.proofs.ConnectionLists.{passes, find-map, filter_map-filter, map-filter, found-more}

-- ---- what a handle gives to a connection

abbrev pub pulse_by : ℕ → OpenHandle Progress → Option (ℕ × PulseOf)
pulse_by conn h = cond (h.connection == conn) (option_map (λ pulse. (h.number, pulse)) h.armed) None

abbrev pub read_by : ℕ → OpenHandle Progress → Option ℕ
read_by conn h = cond (h.connection == conn) (option_map (λ size. h.number) h.parked) None

abbrev pub number_by : ℕ → OpenHandle Progress → Option ℕ
number_by conn h = cond (h.connection == conn) (Some h.number) None

-- each by the handle's number

keyed-own : {Y : Type 0} (key : Y → ℕ) (n : ℕ) (b : Bool) (o : Option Y) → OfSome (λ y. key y ≡ n) o → OfSome (λ y. key y ≡ n) (cond b o None)
keyed-own key n true o k = k
keyed-own key n false o k = tt

pub pulse-keyed : (conn : ℕ) (h : OpenHandle Progress) → OfSome (λ (a : ℕ × PulseOf). a.0 ≡ h.number) (pulse_by conn h)
pulse-keyed conn h = keyed-own (λ (a : ℕ × PulseOf). a.0) h.number (h.connection == conn) (option_map (λ pulse. (h.number, pulse)) h.armed) (by h.armed)
  where
    by : (o : Option PulseOf) → OfSome (λ (a : ℕ × PulseOf). a.0 ≡ h.number) (option_map (λ pulse. (h.number, pulse)) o)
    by None = tt
    by (Some pulse) = refl

pub read-keyed : (conn : ℕ) (h : OpenHandle Progress) → OfSome (λ (p : ℕ). p ≡ h.number) (read_by conn h)
read-keyed conn h = keyed-own (λ (p : ℕ). p) h.number (h.connection == conn) (option_map (λ size. h.number) h.parked) (by h.parked)
  where
    by : (o : Option ℕ) → OfSome (λ (p : ℕ). p ≡ h.number) (option_map (λ size. h.number) o)
    by None = tt
    by (Some size) = refl

pub number-keyed : (conn : ℕ) (h : OpenHandle Progress) → OfSome (λ (k : ℕ). k ≡ h.number) (number_by conn h)
number-keyed conn h = keyed-own (λ (k : ℕ). k) h.number (h.connection == conn) (Some h.number) refl

-- ---- a connection by its queue and all handles

abbrev pub shown : List (OpenHandle Progress) → ℕ → List Item → Standing
shown hs conn queue = record {
  number = conn;
  outbox = record { items = queue; armed = filter_map (pulse_by conn) hs; parked = filter_map (read_by conn) hs };
  handles = filter_map (number_by conn) hs;
}

-- by its three lists
pub shown-same : (hs gs : List (OpenHandle Progress)) (conn : ℕ) (queue : List Item) → filter_map (pulse_by conn) hs ≡ filter_map (pulse_by conn) gs → filter_map (read_by conn) hs ≡ filter_map (read_by conn) gs → filter_map (number_by conn) hs ≡ filter_map (number_by conn) gs → shown hs conn queue ≡ shown gs conn queue
shown-same hs gs conn queue a p n = λ i. record { number = conn; outbox = record { items = queue; armed = a i; parked = p i }; handles = n i }

pub standing-shown : (c : Content) (x : Connection) → standing_of c x ≡ shown c.handles x.number (queue_of c x.number)
standing-shown c x = λ i. record {
  number = x.number;
  outbox = record {
    items = queue_of c x.number;
    armed = filter_map-filter (λ (h : OpenHandle Progress). option_map (λ pulse. (h.number, pulse)) h.armed) (λ h. h.connection == x.number) c.handles i;
    parked = filter_map-filter (λ (h : OpenHandle Progress). option_map (λ size. h.number) h.parked) (λ h. h.connection == x.number) c.handles i;
  };
  handles = map-filter (λ (h : OpenHandle Progress). h.number) (λ h. h.connection == x.number) c.handles i;
}

-- where connections rise, each has its own queue
pub shown-all : (c : Content) → ConnectionsRise c → connections_of c ≡ map (λ x. shown c.handles x.number x.queue) c.connections
shown-all c rise = go c.connections (found-each (λ (x : Connection). x.number) 1 1025 c.connections rise)
  where
    go : (xs : List Connection) → AllByRecursion (λ y. find (λ x. x.number == y.number) c.connections ≡ Some y) xs → map (standing_of c) xs ≡ map (λ x. shown c.handles x.number x.queue) xs
    go [] all = refl
    go (x ∷ xs) all = λ i. (standing-shown c x ∙ ap (λ o. shown c.handles x.number (option_map_or (λ (y : Connection). y.queue) o [])) all.0) i ∷ go xs all.1 i

-- ---- what is found

pub found-standing : (c : Content) (conn : ℕ) → standing_at conn (connections_of c) ≡ option_map (standing_of c) (connection_numbered c conn)
found-standing c conn = find-map (standing_of c) (is_numbered conn) c.connections

pub found-attached : (c : Content) (conn : ℕ) → is_kept conn (connections_of c) ≡ is_attached c conn
found-attached c conn = ap is_some (found-standing c conn) ∙ by (connection_numbered c conn)
  where
    by : (o : Option Connection) → is_some (option_map (standing_of c) o) ≡ is_some o
    by None = refl
    by (Some x) = refl

pub none-unattached : (c : Content) → AreOwned c → (conn : ℕ) → is_attached c conn ≡ false → handles_of c conn ≡ []
none-unattached c owned conn off = go c.handles owned
  where
    go : (hs : List (OpenHandle Progress)) → AllByRecursion (λ h. is_attached c h.connection ≡ true) hs → filter (λ h. h.connection == conn) hs ≡ []
    go [] all = refl
    go (h ∷ hs) all = by (h.connection == conn) refl (go hs all.1)
      where
        by : (b : Bool) → (h.connection == conn) ≡ b → filter (λ h. h.connection == conn) hs ≡ [] → cond b (h ∷ filter (λ h. h.connection == conn) hs) (filter (λ h. h.connection == conn) hs) ≡ []
        by true is rest = absurd (let on : is_attached c conn ≡ true = ap (is_attached c) (sym (eqb-true h.connection conn is)) ∙ all.0 in let bad : false ≡ true = sym off ∙ on in cc)
        by false is rest = rest

module _ (c : Content) (owned : AreOwned c) (conn : ℕ) where
  -- what is told of a connection that is attached, and of one that is not
  found-any : {Y : Type 0} (see : Standing → Y) (none : Y) (all : ℕ → Y) → ((x : Connection) → see (standing_of c x) ≡ all x.number) → (is_attached c conn ≡ false → none ≡ all conn)
      → option_map_or see (standing_at conn (connections_of c)) none ≡ all conn
  found-any {Y = Y} see none all same off = ap (λ o. option_map_or see o none) (found-standing c conn) ∙ by (connection_numbered c conn) refl
    where
      by : (o : Option Connection) → connection_numbered c conn ≡ o → option_map_or see (option_map (standing_of c) o) none ≡ all conn
      by None e = off (ap is_some e)
      by (Some x) e = same x ∙ ap all (eqb-true x.number conn (passes (λ x. x.number == conn) c.connections x e))

  pub found-outbox : outbox_at conn (connections_of c) ≡ outbox_of c conn
  found-outbox = found-any (λ s. s.outbox) empty_outbox (outbox_of c) (λ x. refl) none
    where
      queue : (o : Option Connection) → is_some o ≡ false → [] ≡ option_map_or (λ (x : Connection). x.queue) o []
      queue None e = refl
      queue (Some x) e = absurd (let bad = e in cc)

      none : is_attached c conn ≡ false → empty_outbox ≡ outbox_of c conn
      none off =
          let hs : handles_of c conn ≡ [] = none-unattached c owned conn off in
          let q : [] ≡ queue_of c conn = queue (connection_numbered c conn) off in
          λ i. record {
            items = q i;
            armed = filter_map (λ (h : OpenHandle Progress). option_map (λ pulse. (h.number, pulse)) h.armed) (sym hs i);
            parked = filter_map (λ (h : OpenHandle Progress). option_map (λ size. h.number) h.parked) (sym hs i);
          }

  pub found-handles : handles_at conn (connections_of c) ≡ map (λ h. h.number) (handles_of c conn)
  found-handles = found-any (λ s. s.handles) [] (λ n. map (λ h. h.number) (handles_of c n)) (λ x. refl) (λ off. ap (λ hs. map (λ (h : OpenHandle Progress). h.number) hs) (sym (none-unattached c owned conn off)))

pub found-queues : (c : Content) → ConnectionsRise c → queues_of (connections_of c) ≡ c.connections
found-queues c rise = ap queues_of (shown-all c rise) ∙ go c.connections
  where
    go : (xs : List Connection) → queues_of (map (λ x. shown c.handles x.number x.queue) xs) ≡ xs
    go [] = refl
    go (x ∷ xs) = ap (λ ys. x ∷ ys) (go xs)

pub found-own : (c : Content) (n : ℕ) (h : OpenHandle Progress) → handle_numbered c n ≡ Some h → own_handle c h.connection n ≡ Some h
found-own c n h e = found-more (λ g. g.number == n) (λ g. g.connection == h.connection) c.handles h e (eq-eqb h.connection h.connection refl)
