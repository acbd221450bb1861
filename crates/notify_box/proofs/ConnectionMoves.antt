-- What moves make of the connections.
use Rattle.std.proofs.Common.{◌≡◌, ℕ, ◌+◌, ◌<◌, Bool, true, false, cond, not, List, [], ◌∷◌, ◌++◌, map, Option, Some, None, Result, Err, refl, sym, ap, subst, ◌∙◌, arith}
use Rattle.std.specs.Prelude.{◌==◌, ◌&&◌, ◌||◌, find, filter, is_some, option_map, if◌then◌else◌}
use Rattle.std.specs.Option.{option_map_or}
use Rattle.std.proofs.lemmas.Bool.{eqb-true, eq-eqb, ne_eqb}
use Rattle.std.proofs.lemmas.List.Elements.{filter_map-append}
use Rattle.std.specs.List.{filter_map, cons_option, list_any, AllByRecursion}
use Rattle.pps_types.specs.declared.refusal.Refusal.{Refusal}
use Rattle.pps_types.specs.declared.refusal.Refusal.TheVariants.{BadHandle}
use Rattle.pps_types.specs.declared.outcome.Item.{Item}
use Rattle.pps_types.specs.declared.outcome.Item.TheVariants.{Pulse, ReadDone}
use Rattle.pps_types.specs.Reading.{OpenHandle, reseen, style}
use Rattle.pps_types.specs.Rests.{Progress}
use Rattle.pps_types.specs.Outbox.{PulseOf, queued, disarmed, with_pulse, with_parked, fired_in, finished_in, behind_first}
use Rattle.pps_types.specs.Content.{Connection, Content, handle_numbered, own_handle}
use Rattle.pps_types.specs.Plan.{Leaves, Opens, Closes, Parks, Arms, Queues, Takes, on_first, without_first, on_numbered, on_connection, requeued, first_seen, apply_seen, apply_all_seen, fired}
use Rattle.pps_types.specs.WellFormed.{RiseBetween}
use Rattle.service_laws.proofs.Finds.{and-both}
use Rattle.pps_types.proofs.Lists.{append-nil, map-without_first}
use Rattle.service_laws.proofs.Rising.{rising-without, same-on_first}
use Rattle.service_laws.specs.Told.{HandlesRise}
use Rattle.service_laws.proofs.SettlingLists.{rising-behind}
use Rattle.notify_box.specs.Standing.{Standing, is_numbered, with_outbox, with_handles, parked_ended}
use Rattle.notify_box.specs.Connections.{connections_of, ConnectionsRise}
use Rattle.notify_box.proofs.ConnectionLists.{passes, on_first-same, on_first-twice, entries-found, entries-without, entries-gone, entries-none, entries-out, entries-put, entries-find, entries-first, entries-any, found-both, turned}
use Rattle.notify_box.proofs.ConnectionStandings.{pulse_by, read_by, number_by, pulse-keyed, read-keyed, number-keyed, shown, shown-same, shown-all, found-own}

-- ---- a change of one connection

abbrev each : List (OpenHandle Progress) → Connection → Standing
each hs x = shown hs x.number x.queue

-- Where its queue changes, and by the handles it alone, the connection of that number is changed.
changed : (c d : Content) (conn : ℕ) (queue : List Item → List Item) (change : Standing → Standing) → ConnectionsRise c → d.connections ≡ on_connection conn queue c.connections
    → ((q : List Item) → shown d.handles conn (queue q) ≡ change (shown c.handles conn q)) → ((m : ℕ) → (m == conn) ≡ false → (q : List Item) → shown d.handles m q ≡ shown c.handles m q)
    → connections_of d ≡ on_first (is_numbered conn) change (connections_of c)
changed c d conn queue change rise is own others =
    shown-all d rises ∙ ap (map (each d.handles)) is ∙ go 1 c.connections rise ∙ ap (on_first (is_numbered conn) change) (sym (shown-all c rise))
  where
    rises : ConnectionsRise d
    rises = subst (λ xs. RiseBetween 1 (map (λ (x : Connection). x.number) xs) 1025) (sym is)
        (subst (λ ns. RiseBetween 1 ns 1025) (sym (same-on_first (λ (x : Connection). x.number) (λ x. x.number == conn) (requeued queue) (λ x. refl) c.connections)) rise)

    later : (xs : List Connection) → AllByRecursion (λ x. conn < x.number) xs → map (each d.handles) xs ≡ map (each c.handles) xs
    later [] all = refl
    later (x ∷ xs) all = λ i. others x.number (ne_eqb x.number conn (λ same. omega (arith, same, all.0))) x.queue i ∷ later xs all.1 i

    go : (low : ℕ) (xs : List Connection) → RiseBetween low (map (λ x. x.number) xs) 1025 → map (each d.handles) (on_connection conn queue xs) ≡ on_first (is_numbered conn) change (map (each c.handles) xs)
    go low [] r = refl
    go low (x ∷ xs) r = by (x.number == conn) refl (go (x.number + 1) xs r.1)
      where
        by : (b : Bool) → (x.number == conn) ≡ b → map (each d.handles) (on_connection conn queue xs) ≡ on_first (is_numbered conn) change (map (each c.handles) xs)
            → map (each d.handles) (cond b (requeued queue x ∷ xs) (x ∷ on_connection conn queue xs)) ≡ cond b (change (each c.handles x) ∷ map (each c.handles) xs) (each c.handles x ∷ on_first (is_numbered conn) change (map (each c.handles) xs))
        by true e rest =
            let number : x.number ≡ conn = eqb-true x.number conn e in
            let here : shown d.handles x.number (queue x.queue) ≡ change (shown c.handles x.number x.queue) = subst (λ m. shown d.handles m (queue x.queue) ≡ change (shown c.handles m x.queue)) (sym number) (own x.queue) in
            λ i. here i ∷ later xs (subst (λ m. AllByRecursion (λ (y : Connection). m < y.number) xs) number (rising-behind (λ (y : Connection). y.number) x.number 1025 xs r.1)) i
        by false e rest = λ i. others x.number e x.queue i ∷ rest i

-- the queues stay
same-queues : (c : Content) (conn : ℕ) → c.connections ≡ on_connection conn (λ q. q) c.connections
same-queues c conn = sym (on_first-same (λ x. x.number == conn) (requeued (λ q. q)) (λ x. refl) c.connections)

-- ---- items

pub queued-told : (c : Content) → ConnectionsRise c → (conn : ℕ) (item : Item) → connections_of (apply_seen (Queues conn item) c) ≡ with_outbox conn (λ box. queued box item) (connections_of c)
queued-told c rise conn item = changed c (apply_seen (Queues conn item) c) conn (λ q. q ++ item ∷ []) (λ s. record s { outbox = queued s.outbox item }) rise refl (λ q. refl) (λ m e q. refl)

pub taken-told : (c : Content) → ConnectionsRise c → (conn : ℕ) → connections_of (apply_seen (Takes conn) c) ≡ with_outbox conn (λ box. record box { items = behind_first box.items }) (connections_of c)
taken-told c rise conn = changed c (apply_seen (Takes conn) c) conn behind_first (λ s. record s { outbox = record s.outbox { items = behind_first s.outbox.items } }) rise refl (λ q. refl) (λ m e q. refl)

-- ---- one leaves

pub left-told : (c : Content) → ConnectionsRise c → (conn : ℕ) → connections_of (apply_seen (Leaves conn) c) ≡ without_first (is_numbered conn) (connections_of c)
left-told c rise conn =
    shown-all (apply_seen (Leaves conn) c) (rising-without (λ (x : Connection). x.number) (λ x. x.number == conn) 1 1025 c.connections rise)
    ∙ map-without_first (λ x. shown c.handles x.number x.queue) (λ x. x.number == conn) (is_numbered conn) (λ x. refl) c.connections
    ∙ ap (without_first (is_numbered conn)) (sym (shown-all c rise))

-- ---- what is none of a connection

none-twice : {Y : Type 0} (b : Bool) (o : Option Y) → o ≡ None → cond b o None ≡ None
none-twice true o e = e
none-twice false o e = refl

off-both : {Y : Type 0} (b : Bool) (o p : Option Y) → b ≡ false → cond b o None ≡ cond b p None
off-both b o p e = ap (λ b. cond b o None) e ∙ sym (ap (λ b. cond b p None) e)

off-none : {Y : Type 0} (b : Bool) (o : Option Y) → b ≡ false → cond b o None ≡ None
off-none b o e = ap (λ b. cond b o None) e

-- ---- one more handle

abbrev opened_as : OpenHandle (Unit {0}) → OpenHandle Progress
opened_as h = reseen (λ h. first_seen h (style h.kind)) h

pub opened-told : (c : Content) → ConnectionsRise c → (h : OpenHandle (Unit {0})) → h.parked ≡ None → h.armed ≡ None → connections_of (apply_seen (Opens h) c) ≡ with_handles h.connection (λ hs. hs ++ h.number ∷ []) (connections_of c)
opened-told c rise h idle unarmed =
    changed c (apply_seen (Opens h) c) h.connection (λ q. q) (λ s. record s { handles = s.handles ++ h.number ∷ [] }) rise (same-queues c h.connection)
    (λ q i. record {
      number = h.connection;
      outbox = record { items = q; armed = nothing (pulse_by h.connection) (pulse h.connection) i; parked = nothing (read_by h.connection) (reads h.connection) i };
      handles = (filter_map-append (number_by h.connection) c.handles (opened_as h ∷ []) ∙ ap (λ o. filter_map (number_by h.connection) c.handles ++ cons_option o []) (ap (λ b. cond b (Some h.number) None) (eq-eqb h.connection h.connection refl))) i;
    })
    (λ m e q. shown-same (c.handles ++ opened_as h ∷ []) c.handles m q (nothing (pulse_by m) (pulse m)) (nothing (read_by m) (reads m)) (nothing (number_by m) (off-none (h.connection == m) (Some h.number) (turned m h.connection e))))
  where
    nothing : {Y : Type 0} (see : OpenHandle Progress → Option Y) → see (opened_as h) ≡ None → filter_map see (c.handles ++ opened_as h ∷ []) ≡ filter_map see c.handles
    nothing see none = filter_map-append see c.handles (opened_as h ∷ []) ∙ ap (λ o. filter_map see c.handles ++ cons_option o []) none ∙ append-nil (filter_map see c.handles)

    pulse : (m : ℕ) → pulse_by m (opened_as h) ≡ None
    pulse m = ap (λ o. cond (h.connection == m) (option_map (λ (p : PulseOf). (h.number, p)) o) None) unarmed ∙ none-twice (h.connection == m) None refl

    reads : (m : ℕ) → read_by m (opened_as h) ≡ None
    reads m = ap (λ o. cond (h.connection == m) (option_map (λ (size : ℕ). h.number) o) None) idle ∙ none-twice (h.connection == m) None refl

-- ---- a handle of a connection

module _ (c : Content) (rise : HandlesRise c) (rises : ConnectionsRise c) (conn n : ℕ) (h : OpenHandle Progress) (own : own_handle c conn n ≡ Some h) where
  both : ((h.number == n) ≡ true) × ((h.connection == conn) ≡ true)
  both = and-both (h.number == n) (h.connection == conn) (passes (λ g. (g.number == n) && (g.connection == conn)) c.handles h own)

  found : handle_numbered c n ≡ Some h
  found = found-both (λ (g : OpenHandle Progress). g.number) n (λ g. g.connection == conn) 0 c.next_handle c.handles h rise own

  numbered : h.number ≡ n
  numbered = eqb-true h.number n both.0

  elsewhere : (m : ℕ) → (m == conn) ≡ false → (h.connection == m) ≡ false
  elsewhere m e = ap (λ k. k == m) (eqb-true h.connection conn both.1) ∙ turned m conn e

  -- what a change of the handle leaves of another connection
  others-stay : (f : OpenHandle Progress → OpenHandle Progress) → (f h).connection ≡ h.connection → (m : ℕ) → (m == conn) ≡ false → (q : List Item) → shown (on_numbered n f c.handles) m q ≡ shown c.handles m q
  others-stay f keeps m e q = shown-same (on_numbered n f c.handles) c.handles m q
      (entries-found (pulse_by m) (λ g. g.number == n) f h (none (option_map (λ pulse. ((f h).number, pulse)) (f h).armed) (option_map (λ pulse. (h.number, pulse)) h.armed)) c.handles found)
      (entries-found (read_by m) (λ g. g.number == n) f h (none (option_map (λ size. (f h).number) (f h).parked) (option_map (λ size. h.number) h.parked)) c.handles found)
      (entries-found (number_by m) (λ g. g.number == n) f h (none (Some (f h).number) (Some h.number)) c.handles found)
    where
      none : {Y : Type 0} (o p : Option Y) → cond ((f h).connection == m) o None ≡ cond (h.connection == m) p None
      none o p = ap (λ k. cond (k == m) o None) keeps ∙ off-both (h.connection == m) o p (elsewhere m e)

  -- ---- pulses

  abbrev pulses : List (ℕ × PulseOf)
  pulses = filter_map (pulse_by conn) c.handles

  abbrev rearmed : Option PulseOf → OpenHandle Progress → OpenHandle Progress
  rearmed pulse g = record g { armed = pulse }

  same-reads : (pulse : Option PulseOf) → filter_map (read_by conn) (on_numbered n (rearmed pulse) c.handles) ≡ filter_map (read_by conn) c.handles
  same-reads pulse = entries-found (read_by conn) (λ g. g.number == n) (rearmed pulse) h refl c.handles found

  same-numbers : (pulse : Option PulseOf) → filter_map (number_by conn) (on_numbered n (rearmed pulse) c.handles) ≡ filter_map (number_by conn) c.handles
  same-numbers pulse = entries-found (number_by conn) (λ g. g.number == n) (rearmed pulse) h refl c.handles found

  pulse-out : filter_map (pulse_by conn) (on_numbered n (rearmed None) c.handles) ≡ filter (λ a. not (a.0 == n)) pulses
  pulse-out = entries-out (λ (g : OpenHandle Progress). g.number) (λ (a : ℕ × PulseOf). a.0) (pulse_by conn) (pulse-keyed conn) n h (rearmed None) (none-twice (h.connection == conn) None refl) 0 c.next_handle c.handles rise found

  pub armed-told : (pulse : PulseOf) → connections_of (apply_seen (Arms n (Some pulse)) c) ≡ with_outbox conn (λ box. with_pulse box n pulse) (connections_of c)
  armed-told pulse =
      changed c (apply_seen (Arms n (Some pulse)) c) conn (λ q. q) (λ s. record s { outbox = with_pulse s.outbox n pulse }) rises (same-queues c conn)
      (λ q i. record {
        number = conn;
        outbox = record {
          items = q;
          armed = entries-put (λ (g : OpenHandle Progress). g.number) (λ (a : ℕ × PulseOf). a.0) (pulse_by conn) (pulse-keyed conn) n h (rearmed (Some pulse)) (n, pulse) refl (λ i. cond (both.1 i) (Some (numbered i, pulse)) None) 0 c.next_handle c.handles rise found i;
          parked = same-reads (Some pulse) i;
        };
        handles = same-numbers (Some pulse) i;
      })
      (others-stay (rearmed (Some pulse)) refl)

  pub disarmed-told : connections_of (apply_seen (Arms n None) c) ≡ with_outbox conn (λ box. disarmed box n) (connections_of c)
  disarmed-told =
      changed c (apply_seen (Arms n None) c) conn (λ q. q) (λ s. record s { outbox = disarmed s.outbox n }) rises (same-queues c conn)
      (λ q i. record { number = conn; outbox = record { items = q; armed = pulse-out i; parked = same-reads None i }; handles = same-numbers None i })
      (others-stay (rearmed None) refl)

  -- the connection behind a firing, by the pulse that is found
  abbrev by_found : Standing → Option (ℕ × PulseOf) → Standing
  by_found s o = record s { outbox = option_map_or (λ a. queued (disarmed s.outbox n) (Pulse a.1.0 a.1.1)) o s.outbox }

  pub fired-told : (pulse : PulseOf) → h.armed ≡ Some pulse → connections_of (apply_all_seen (Arms n None ∷ Queues conn (Pulse pulse.0 pulse.1) ∷ []) c) ≡ with_outbox conn (λ box. fired_in box n) (connections_of c)
  fired-told pulse armed =
      changed c (apply_all_seen (Arms n None ∷ Queues conn (Pulse pulse.0 pulse.1) ∷ []) c) conn (λ q. q ++ Pulse pulse.0 pulse.1 ∷ []) (λ s. record s { outbox = fired_in s.outbox n }) rises refl
      (λ q. (λ i. record { number = conn; outbox = record { items = q ++ Pulse pulse.0 pulse.1 ∷ []; armed = pulse-out i; parked = same-reads None i }; handles = same-numbers None i })
      ∙ sym (ap (λ o. by_found (shown c.handles conn q) o) is))
      (others-stay (rearmed None) refl)
    where
      is : find (λ a. a.0 == n) pulses ≡ Some (n, pulse)
      is = entries-find (λ (g : OpenHandle Progress). g.number) (λ (a : ℕ × PulseOf). a.0) (pulse_by conn) (pulse-keyed conn) n h (n, pulse) (λ i. cond (both.1 i) (option_map (λ p. (numbered i, p)) (armed i)) None) c.handles found

  pub unarmed-told : h.armed ≡ None → connections_of c ≡ with_outbox conn (λ box. fired_in box n) (connections_of c)
  unarmed-told armed =
      changed c c conn (λ q. q) (λ s. record s { outbox = fired_in s.outbox n }) rises (same-queues c conn)
      (λ q. sym (ap (λ o. by_found (shown c.handles conn q) o) (none-found pulses any)))
      (λ m e q. refl)
    where
      any : list_any (λ a. a.0 == n) pulses ≡ false
      any = entries-any (λ (g : OpenHandle Progress). g.number) (λ (a : ℕ × PulseOf). a.0) (pulse_by conn) (pulse-keyed conn) n h 0 c.next_handle c.handles rise found
          ∙ ap is_some (ap (λ o. cond (h.connection == conn) (option_map (λ (p : PulseOf). (h.number, p)) o) None) armed ∙ none-twice (h.connection == conn) None refl)

      none-found : (xs : List (ℕ × PulseOf)) → list_any (λ a. a.0 == n) xs ≡ false → find (λ a. a.0 == n) xs ≡ None
      none-found [] e = refl
      none-found (x ∷ xs) e = by (x.0 == n) e (none-found xs)
        where
          by : (b : Bool) → (b || list_any (λ a. a.0 == n) xs) ≡ false → (list_any (λ a. a.0 == n) xs ≡ false → find (λ a. a.0 == n) xs ≡ None) → cond b (Some x) (find (λ a. a.0 == n) xs) ≡ None
          by true e rest = absurd (let bad = e in cc)
          by false e rest = rest e

  -- ---- reads

  abbrev reads : List ℕ
  reads = filter_map (read_by conn) c.handles

  abbrev reparked : Option ℕ → OpenHandle Progress → OpenHandle Progress
  reparked size g = record g { parked = size }

  same-pulses : (size : Option ℕ) → filter_map (pulse_by conn) (on_numbered n (reparked size) c.handles) ≡ pulses
  same-pulses size = entries-found (pulse_by conn) (λ g. g.number == n) (reparked size) h refl c.handles found

  numbers-stay : (size : Option ℕ) → filter_map (number_by conn) (on_numbered n (reparked size) c.handles) ≡ filter_map (number_by conn) c.handles
  numbers-stay size = entries-found (number_by conn) (λ g. g.number == n) (reparked size) h refl c.handles found

  idle-none : h.parked ≡ None → read_by conn h ≡ None
  idle-none idle = ap (λ o. cond (h.connection == conn) (option_map (λ (size : ℕ). h.number) o) None) idle ∙ none-twice (h.connection == conn) None refl

  pub parked-told : h.parked ≡ None → (size : ℕ) → connections_of (apply_seen (Parks n (Some size)) c) ≡ with_outbox conn (λ box. with_parked box n) (connections_of c)
  parked-told idle size =
      changed c (apply_seen (Parks n (Some size)) c) conn (λ q. q) (λ s. record s { outbox = with_parked s.outbox n }) rises (same-queues c conn)
      (λ q i. record { number = conn; outbox = record { items = q; armed = same-pulses (Some size) i; parked = put i }; handles = numbers-stay (Some size) i })
      (others-stay (reparked (Some size)) refl)
    where
      put : filter_map (read_by conn) (on_numbered n (reparked (Some size)) c.handles) ≡ (with_parked (record { items = []; armed = []; parked = reads }) n).parked
      put = entries-put (λ (g : OpenHandle Progress). g.number) (λ (p : ℕ). p) (read_by conn) (read-keyed conn) n h (reparked (Some size)) n refl (λ i. cond (both.1 i) (Some (numbered i)) None) 0 c.next_handle c.handles rise found
          ∙ ap (λ ps. (with_parked (record { items = []; armed = []; parked = ps }) n).parked) (entries-none (λ (g : OpenHandle Progress). g.number) (λ (p : ℕ). p) (read_by conn) (read-keyed conn) n h (idle-none idle) 0 c.next_handle c.handles rise found)

  pub finished-told : (result : Result (List ℕ) Refusal) → connections_of (apply_all_seen (Parks n None ∷ Queues conn (ReadDone n result) ∷ []) c) ≡ with_outbox conn (λ box. finished_in box n result) (connections_of c)
  finished-told result =
      changed c (apply_all_seen (Parks n None ∷ Queues conn (ReadDone n result) ∷ []) c) conn (λ q. q ++ ReadDone n result ∷ []) (λ s. record s { outbox = finished_in s.outbox n result }) rises refl
      (λ q i. record { number = conn; outbox = record { items = q ++ ReadDone n result ∷ []; armed = same-pulses None i; parked = out i }; handles = numbers-stay None i })
      (others-stay (reparked None) refl)
    where
      out : filter_map (read_by conn) (on_numbered n (reparked None) c.handles) ≡ filter (λ p. not (p == n)) reads
      out = entries-out (λ (g : OpenHandle Progress). g.number) (λ (p : ℕ). p) (read_by conn) (read-keyed conn) n h (reparked None) (none-twice (h.connection == conn) None refl) 0 c.next_handle c.handles rise found

  -- ---- it closes

  abbrev closing_change : Standing → Standing
  closing_change s = record s { outbox = parked_ended (disarmed s.outbox n) n; handles = without_first (λ k. k == n) s.handles }

  others-left : (m : ℕ) → (m == conn) ≡ false → (q : List Item) → shown (without_first (λ g. g.number == n) c.handles) m q ≡ shown c.handles m q
  others-left m e q = shown-same (without_first (λ g. g.number == n) c.handles) c.handles m q
      (entries-without (pulse_by m) (λ g. g.number == n) h (off-none (h.connection == m) (option_map (λ pulse. (h.number, pulse)) h.armed) (elsewhere m e)) c.handles found)
      (entries-without (read_by m) (λ g. g.number == n) h (off-none (h.connection == m) (option_map (λ size. h.number) h.parked) (elsewhere m e)) c.handles found)
      (entries-without (number_by m) (λ g. g.number == n) h (off-none (h.connection == m) (Some h.number) (elsewhere m e)) c.handles found)

  pulse-gone : filter_map (pulse_by conn) (without_first (λ g. g.number == n) c.handles) ≡ filter (λ a. not (a.0 == n)) pulses
  pulse-gone = entries-gone (λ (g : OpenHandle Progress). g.number) (λ (a : ℕ × PulseOf). a.0) (pulse_by conn) (pulse-keyed conn) n 0 c.next_handle c.handles rise

  number-gone : filter_map (number_by conn) (without_first (λ g. g.number == n) c.handles) ≡ without_first (λ k. k == n) (filter_map (number_by conn) c.handles)
  number-gone = entries-first (λ (g : OpenHandle Progress). g.number) (λ (k : ℕ). k) (number_by conn) (number-keyed conn) n h n (λ i. cond (both.1 i) (Some (numbered i)) None) c.handles found

  any-read : list_any (λ p. p == n) reads ≡ is_some h.parked
  any-read = entries-any (λ (g : OpenHandle Progress). g.number) (λ (p : ℕ). p) (read_by conn) (read-keyed conn) n h 0 c.next_handle c.handles rise found
      ∙ ap (λ b. is_some (cond b (option_map (λ size. h.number) h.parked) None)) both.1 ∙ by h.parked
    where
      by : (o : Option ℕ) → is_some (option_map (λ size. h.number) o) ≡ is_some o
      by None = refl
      by (Some size) = refl

  -- the connection behind it, by whether a read is parked
  abbrev behind_closing : List Item → Bool → Standing
  behind_closing q b = record {
    number = conn;
    outbox = if b then finished_in (disarmed (shown c.handles conn q).outbox n) n (Err BadHandle) else disarmed (shown c.handles conn q).outbox n;
    handles = without_first (λ k. k == n) (filter_map (number_by conn) c.handles);
  }

  three-changes : on_first (is_numbered conn) closing_change (connections_of c) ≡ with_handles conn (λ hs. without_first (λ k. k == n) hs) (with_outbox conn (λ box. parked_ended box n) (with_outbox conn (λ box. disarmed box n) (connections_of c)))
  three-changes = sym (
      ap (with_handles conn (λ hs. without_first (λ k. k == n) hs)) (on_first-twice (is_numbered conn) (λ s. record s { outbox = disarmed s.outbox n }) (λ s. record s { outbox = parked_ended s.outbox n }) (λ s. refl) (connections_of c))
      ∙ on_first-twice (is_numbered conn) (λ s. record s { outbox = parked_ended (disarmed s.outbox n) n }) (λ s. record s { handles = without_first (λ k. k == n) s.handles }) (λ s. refl) (connections_of c)
      )

  pub closed-told : connections_of (apply_all_seen (Closes n ∷ (if is_some h.parked then Queues conn (ReadDone n (Err BadHandle)) ∷ [] else [])) c)
      ≡ with_handles conn (λ hs. without_first (λ k. k == n) hs) (with_outbox conn (λ box. parked_ended box n) (with_outbox conn (λ box. disarmed box n) (connections_of c)))
  closed-told = by h.parked refl ∙ three-changes
    where
      by : (o : Option ℕ) → h.parked ≡ o → connections_of (apply_all_seen (Closes n ∷ cond (is_some o) (Queues conn (ReadDone n (Err BadHandle)) ∷ []) []) c) ≡ on_first (is_numbered conn) closing_change (connections_of c)
      by None e =
          changed c (apply_seen (Closes n) c) conn (λ q. q) closing_change rises (same-queues c conn)
          (λ q. (λ i. record { number = conn; outbox = record { items = q; armed = pulse-gone i; parked = entries-without (read_by conn) (λ g. g.number == n) h (idle-none e) c.handles found i }; handles = number-gone i })
          ∙ sym (ap (behind_closing q) (any-read ∙ ap is_some e)))
          others-left
      by (Some size) e =
          changed c (apply_all_seen (Closes n ∷ Queues conn (ReadDone n (Err BadHandle)) ∷ []) c) conn (λ q. q ++ ReadDone n (Err BadHandle) ∷ []) closing_change rises refl
          (λ q. (λ i. record {
            number = conn;
            outbox = record {
              items = q ++ ReadDone n (Err BadHandle) ∷ [];
              armed = pulse-gone i;
              parked = entries-gone (λ (g : OpenHandle Progress). g.number) (λ (p : ℕ). p) (read_by conn) (read-keyed conn) n 0 c.next_handle c.handles rise i;
            };
            handles = number-gone i;
          })
          ∙ sym (ap (behind_closing q) (any-read ∙ ap is_some e)))
          others-left

-- ---- a pulse that is armed or is not

pub fires-told : (c : Content) → HandlesRise c → ConnectionsRise c → (h : OpenHandle Progress) → handle_numbered c h.number ≡ Some h → connections_of (apply_all_seen (fired h) c) ≡ with_outbox h.connection (λ box. fired_in box h.number) (connections_of c)
fires-told c rise rises h found = by h.armed refl
  where
    own : own_handle c h.connection h.number ≡ Some h
    own = found-own c h.number h found

    by : (o : Option PulseOf) → h.armed ≡ o → connections_of (apply_all_seen (option_map_or (λ pulse. Arms h.number None ∷ Queues h.connection (Pulse pulse.0 pulse.1) ∷ []) o []) c) ≡ with_outbox h.connection (λ box. fired_in box h.number) (connections_of c)
    by None e = unarmed-told c rise rises h.connection h.number h own e
    by (Some pulse) e = fired-told c rise rises h.connection h.number h own pulse e
