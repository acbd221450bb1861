-- Changes of one handle, and of the connection that it belongs to.
use Rattle.std.specs.Prelude.{◌≡◌, ℕ, List, [], ◌∷◌, Bool, true, false, Option, Some, None, is_some, IsSome, Result, option_map, IsTrue, find, ◌==◌, ◌&&◌}
use Rattle.std.specs.List.{list_all}
use Rattle.std.specs.Option.{option_map_or}
use Rattle.std.proofs.Common.{refl, sym, ◌∙◌, ap, subst, cond}
use Rattle.std.proofs.lemmas.Bool.{eqb-true}
use Rattle.pps_types.specs.declared.refusal.Refusal.{Refusal}
use Rattle.pps_types.specs.Reading.{OpenHandle}
use Rattle.pps_types.specs.Rests.{Progress}
use Rattle.pps_types.specs.Outbox.{PulseOf, is_parked, disarmed, empty_outbox}
use Rattle.pps_types.specs.Content.{Content, Connection, own_handle, connection_numbered}
use Rattle.pps_types.specs.Plan.{CatchesUp, Advances, Parks, Arms, Takes, apply_all_seen, without_number, without_first, on_first}
use Rattle.service_laws.specs.Told.{HandlesRise}
use Rattle.notify_box.specs.Standing.{Standing, with_outbox, with_handles, parked_ended, HasParked, is_attached as is_kept, outbox_of as outbox_at}
use Rattle.notify_box.specs.Connections.{standing_of, connections_of, ConnectionsRise, attaches_none}
use Rattle.notify_box.specs.ConnectionLaws.{ConnectionsAreFound, ConnectionsAreTold}
use Rattle.notify_box.proofs.ConnectionLists.{passes, found-both, entries-any}
use Rattle.notify_box.proofs.ConnectionStandings.{read_by, read-keyed, shown, standing-shown}
use Rattle.service_laws.proofs.Finds.{and-both}
use Rattle.service_state.specs.Moves.{closing, firing, finishing}
use Rattle.service_state.proofs.Ties.{Aside}

-- ---- what moves leave aside

pub caught_aside : (c : Content) (n : ℕ) → Aside (CatchesUp n ∷ []) c
caught_aside c n = record { default_limit = refl; records = refl; names = refl; next_handle = refl }

pub passed_aside : (c : Content) (n count : ℕ) → Aside (Advances n count ∷ []) c
passed_aside c n count = record { default_limit = refl; records = refl; names = refl; next_handle = refl }

pub parked_aside : (c : Content) (n : ℕ) (size : Option ℕ) → Aside (Parks n size ∷ []) c
parked_aside c n size = record { default_limit = refl; records = refl; names = refl; next_handle = refl }

pub armed_aside : (c : Content) (n : ℕ) (pulse : Option PulseOf) → Aside (Arms n pulse ∷ []) c
armed_aside c n pulse = record { default_limit = refl; records = refl; names = refl; next_handle = refl }

pub taken_aside : (c : Content) (conn : ℕ) → Aside (Takes conn ∷ []) c
taken_aside c conn = record { default_limit = refl; records = refl; names = refl; next_handle = refl }

pub fired_aside : (c : Content) (conn n : ℕ) (pulse : PulseOf) → Aside (firing conn n pulse) c
fired_aside c conn n pulse = record { default_limit = refl; records = refl; names = refl; next_handle = refl }

pub finished_aside : (c : Content) (conn n : ℕ) (result : Result (List ℕ) Refusal) → Aside (finishing conn n result) c
finished_aside c conn n result = record { default_limit = refl; records = refl; names = refl; next_handle = refl }

pub closed_aside : (c : Content) (conn n : ℕ) (parked : Bool) → Aside (closing conn n parked) c
closed_aside c conn n true = record { default_limit = refl; records = refl; names = refl; next_handle = refl }
closed_aside c conn n false = record { default_limit = refl; records = refl; names = refl; next_handle = refl }

pub closed_handles : (c : Content) (conn n : ℕ) (parked : Bool) → (apply_all_seen (closing conn n parked) c).handles ≡ without_number n c.handles
closed_handles c conn n true = refl
closed_handles c conn n false = refl

-- ---- the handle that a change is of

module _ {X Y : Type 0} where
  -- where something was read off, it is there
  pub known_by : (f : X → Y) (o : Option X) (y : Y) → option_map f o ≡ Some y → (x : X) × ((o ≡ Some x) × (f x ≡ y))
  known_by f None y e = absurd (let bad = e in cc)
  known_by f (Some x) y e = (x, (refl, let is = e in cc))

module _ {X : Type 0} where
  pub some_known : (o : Option X) → IsSome o → (x : X) × ((o ≡ Some x) × Unit {0})
  some_known None s = absurd (let bad : false ≡ true = s in cc)
  some_known (Some x) s = (x, (refl, tt))

-- what the close of a handle makes of the connections
pub closed_told : ConnectionsAreTold → (c : Content) → HandlesRise c → ConnectionsRise c → (conn n : ℕ) (h : OpenHandle Progress) → own_handle c conn n ≡ Some h → (parked : Bool) → is_some h.parked ≡ parked
    → connections_of (apply_all_seen (closing conn n parked) c)
    ≡ with_handles conn (λ hs. without_first (λ k. k == n) hs) (with_outbox conn (λ box. parked_ended box n) (with_outbox conn (λ box. disarmed box n) (connections_of c)))
closed_told told c rise rises conn n h own parked is = ap (λ b. connections_of (apply_all_seen (closing conn n b) c)) (sym is) ∙ told.closed c rise rises conn n h own

pub closing_comes_none : (conn n : ℕ) (parked : Bool) → list_all attaches_none (closing conn n parked) ≡ true
closing_comes_none conn n true = refl
closing_comes_none conn n false = refl

-- a read that waits on a handle is among those of its connection
pub held_parked : ConnectionsAreFound → (c : Content) → HandlesRise c → (conn n : ℕ) (h : OpenHandle Progress) → own_handle c conn n ≡ Some h → is_some h.parked ≡ true
    → HasParked conn n (connections_of c)
held_parked found c rise conn n h own parked = by (connection_numbered c conn) refl
  where
    both : ((h.number == n) ≡ true) × ((h.connection == conn) ≡ true)
    both = and-both (h.number == n) (h.connection == conn) (passes (λ g. (g.number == n) && (g.connection == conn)) c.handles h own)

    read : (b : Bool) (o : Option ℕ) → b ≡ true → is_some o ≡ true → is_some (cond b (option_map (λ size. h.number) o) None) ≡ true
    read true (Some size) is some = refl
    read true None is some = some
    read false o is some = is

    here : is_parked (shown c.handles conn []).outbox n ≡ true
    here = entries-any (λ (g : OpenHandle Progress). g.number) (λ (p : ℕ). p) (read_by conn) (read-keyed conn) n h 0 c.next_handle c.handles rise
        (found-both (λ (g : OpenHandle Progress). g.number) n (λ g. g.connection == conn) 0 c.next_handle c.handles h rise own)
        ∙ read (h.connection == conn) h.parked both.1 parked

    by : (o : Option Connection) → connection_numbered c conn ≡ o → HasParked conn n (connections_of c)
    by None e =
        let none : is_kept conn (connections_of c) ≡ false = ap is_some (found.standing c conn ∙ ap (option_map (standing_of c)) e) in
        λ at. absurd (let bad : false ≡ true = subst IsTrue none at in cc)
    by (Some x) e =
        let same : x.number ≡ conn = eqb-true x.number conn (passes (λ x. x.number == conn) c.connections x e) in
        let there : outbox_at conn (connections_of c) ≡ (standing_of c x).outbox = ap (λ o. option_map_or (λ (s : Standing). s.outbox) o empty_outbox) (found.standing c conn ∙ ap (option_map (standing_of c)) e) in
        let is : is_parked (outbox_at conn (connections_of c)) n ≡ true =
        ap (λ box. is_parked box n) there ∙ ap (λ s. is_parked s.outbox n) (standing-shown c x) ∙ ap (λ k. is_parked (shown c.handles k []).outbox n) same ∙ here in
        λ at. is

-- ---- a handle that stays as it is

module _ {X : Type 0} where
  -- the first that passes is what it is changed to
  first-same : (test : X → Bool) (change : X → X) (xs : List X) (x : X) → find test xs ≡ Some x → change x ≡ x → on_first test change xs ≡ xs
  first-same test change [] x found same = refl
  first-same test change (y ∷ ys) x found same = by (test y) found (first-same test change ys x)
    where
      by : (b : Bool) → cond b (Some y) (find test ys) ≡ Some x → (find test ys ≡ Some x → change x ≡ x → on_first test change ys ≡ ys) → cond b (change y ∷ ys) (y ∷ on_first test change ys) ≡ y ∷ ys
      by true found rest = let is : y ≡ x = cc in ap (λ z. z ∷ ys) (ap change is ∙ same ∙ sym is)
      by false found rest = ap (λ zs. y ∷ zs) (rest found same)

-- none is armed on it, and none is to be
pub unarmed_stays : (c : Content) → HandlesRise c → (conn n : ℕ) → option_map (λ (h : OpenHandle Progress). is_some h.armed) (own_handle c conn n) ≡ Some false
    → c ≡ apply_all_seen (Arms n None ∷ []) c
unarmed_stays c rise conn n unarmed =
    let known = known_by (λ (h : OpenHandle Progress). is_some h.armed) (own_handle c conn n) false unarmed in
    let h = known.0 in
    let same : on_first (λ (g : OpenHandle Progress). g.number == n) (λ g. record g { armed = None }) c.handles ≡ c.handles =
    first-same (λ (g : OpenHandle Progress). g.number == n) (λ g. record g { armed = None }) c.handles h
    (found-both (λ (g : OpenHandle Progress). g.number) n (λ g. g.connection == conn) 0 c.next_handle c.handles h rise known.1.0) (disarmed_stays h h.armed refl known.1.1) in
    ap (λ (hs : List (OpenHandle Progress)). record c { handles = hs }) (sym same)
  where
    disarmed_stays : (h : OpenHandle Progress) (o : Option PulseOf) → h.armed ≡ o → is_some h.armed ≡ false → record h { armed = None } ≡ h
    disarmed_stays h None is none = ap (λ (o : Option PulseOf). record h { armed = o }) (sym is)
    disarmed_stays h (Some pulse) is none = absurd (let bad : true ≡ false = sym (ap is_some is) ∙ none in cc)
