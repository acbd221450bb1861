-- What closing handles begin with, as the moves that they are planned to make, and that each can begin where those before it did.
use Rattle.std.specs.Prelude.{◌≡◌, ◌==◌, ◌&&◌, ◌+◌, ◌<◌, ℕ, List, [], ◌∷◌, ◌++◌, Bool, true, false, Option, Some, None, is_some, Err, filter, find, map, option_map}
use Rattle.std.specs.Option.{option_map_or}
use Rattle.std.specs.List.{AllByRecursion, flat_map, list_all}
use Rattle.std.proofs.Common.{refl, sym, ◌∙◌, ap, subst, cond, arith}
use Rattle.std.proofs.lemmas.Bool.{eqb-true, ne_eqb}
use Rattle.std.proofs.lemmas.Grind.{flat_map-append}
use Rattle.pps_types.specs.declared.refusal.Refusal.TheVariants.{BadHandle}
use Rattle.pps_types.specs.declared.outcome.Item.TheVariants.{ReadDone}
use Rattle.pps_types.specs.declared.handle_kind.HandleKind.{HandleKind}
use Rattle.pps_types.specs.declared.handle_kind.HandleKind.TheVariants.{Object as ObjectHandle, Directory as DirectoryHandle, Names as NamesHandle, Server as ServerHandle, Client as ClientHandle}
use Rattle.pps_types.specs.declared.record.Kind.{Kind}
use Rattle.pps_types.specs.History.{Entry}
use Rattle.pps_types.specs.Reading.{OpenHandle}
use Rattle.pps_types.specs.Rests.{Progress}
use Rattle.pps_types.specs.Content.{LiveObject, Content, object_numbered, handle_numbered, own_handle, handles_of}
use Rattle.pps_types.specs.Plan.{Closes as ClosesHandle, Queues, AppendsRecord as HappensTo, offer, parting, without_number, apply_all_seen}
use Rattle.pps_types.specs.WellFormed.{RiseBetween, IsContent}
use Rattle.service_laws.proofs.Finds.{all-both, all-imp, find-true, find-without}
use Rattle.service_laws.proofs.Rising.{found-each, rising-lower}
use Rattle.service_laws.proofs.SettlingLists.{all-passing, rising-behind}
use Rattle.service_laws.specs.Closings.{server_closed, closing_behind, closings_behind}
use Rattle.notify_box.proofs.ConnectionLists.{find-map, found-more}
use Rattle.service_state.specs.declared.beginning.Beginning.{Beginning}
use Rattle.service_state.specs.declared.beginning.Beginning.TheVariants.{Closes}
use Rattle.service_state.specs.Moves.{closing}
use Rattle.service_state.specs.Beginning.{moves_of, CanBegin, CanBeginAll, is_plain}
use Rattle.handle_requests.specs.Told.{kind_told, record_told, told_of, is_orphan, told_behind}
use Rattle.handle_requests.specs.Begun.{begun, begun_behind}
use Rattle.service_state.specs.Begun.{telling}
use Rattle.service_state.proofs.Begun.{left_true, told_moves}
use Rattle.handle_requests.proofs.Orphans.{IsBehind, AreRest, rest_on, rest_first, behind_told}

-- ---- lines

-- what is told changes no attributes by lines
plain_known : (drops : Bool) (n : ℕ) (kind : HandleKind) (o : Option LiveObject) → list_all is_plain (telling (record_told (kind_told drops n kind) o)) ≡ true
plain_known drops n kind None = dead (kind_told drops n kind)
  where
    dead : (k : Option Kind) → list_all is_plain (telling (record_told k None)) ≡ true
    dead None = refl
    dead (Some k) = refl
plain_known drops n ServerHandle (Some o) = refl
plain_known drops n ClientHandle (Some o) = refl
plain_known true n (ObjectHandle delta) (Some o) = refl
plain_known false n (ObjectHandle delta) (Some o) = refl
plain_known drops n (DirectoryHandle delta) (Some o) = refl
plain_known drops n NamesHandle (Some o) = refl

pub plain_told : {S : Type 0} (c : Content) (h : OpenHandle S) → list_all is_plain (telling (told_of c h)) ≡ true
plain_told c h = plain_known (h.options.critical && h.writes) h.number h.kind (object_numbered c h.target)

plain_behind : (c : Content) (conn : ℕ) (h : OpenHandle Progress) → list_all is_plain (telling (told_behind c conn h)) ≡ true
plain_behind c conn h = by (is_orphan c conn h)
  where
    by : (b : Bool) → list_all is_plain (telling (cond b None (told_of c h))) ≡ true
    by true = refl
    by false = plain_told c h

all_joined : (xs ys : List Beginning) → list_all is_plain xs ≡ true → list_all is_plain ys ≡ true → list_all is_plain (xs ++ ys) ≡ true
all_joined [] ys p q = q
all_joined (x ∷ xs) ys p q = by (is_plain x) p (all_joined xs ys)
  where
    by : (b : Bool) → (b && list_all is_plain xs) ≡ true → (list_all is_plain xs ≡ true → list_all is_plain ys ≡ true → list_all is_plain (xs ++ ys) ≡ true) → (b && list_all is_plain (xs ++ ys)) ≡ true
    by true p rest = rest p q
    by false p rest = p

pub plain_all : (c : Content) (conn : ℕ) (ns : List ℕ) → list_all is_plain (flat_map (begun_behind c conn) ns) ≡ true
plain_all c conn [] = refl
plain_all c conn (n ∷ ns) = all_joined (begun_behind c conn n) (flat_map (begun_behind c conn) ns) (by (own_handle c conn n)) (plain_all c conn ns)
  where
    by : (o : Option (OpenHandle Progress)) → list_all is_plain (option_map_or (λ (h : OpenHandle Progress). begun conn n (is_some h.parked) (told_behind c conn h)) o []) ≡ true
    by None = refl
    by (Some h) = plain_behind c conn h

-- ---- the handles of a connection

module _ (c : Content) (conn : ℕ) where
  abbrev pub IsOwned : OpenHandle Progress → Type 0
  IsOwned h = (own_handle c conn h.number ≡ Some h) × ((h.connection ≡ conn) × Unit {0})

  begun_own : (h : OpenHandle Progress) → IsOwned h → begun_behind c conn h.number ≡ begun conn h.number (is_some h.parked) (told_behind c conn h)
  begun_own h own = ap (λ o. option_map_or (λ (g : OpenHandle Progress). begun conn h.number (is_some g.parked) (told_behind c conn g)) o []) own.0

  -- ---- each can begin

  -- its own handle stands there, and a read waits on it as it did
  abbrev Stands : Content → OpenHandle Progress → Type 0
  Stands d h = (g : OpenHandle Progress) × ((own_handle d conn h.number ≡ Some g) × ((is_some g.parked ≡ is_some h.parked) × Unit {0}))

  closed_still : (n : ℕ) (parked : Bool) → (d : Content) → (apply_all_seen (closing conn n parked) d).handles ≡ without_number n d.handles
  closed_still n true d = refl
  closed_still n false d = refl

  stands_closed : (n : ℕ) (parked : Bool) (d : Content) (h : OpenHandle Progress) → n < h.number → Stands d h → Stands (apply_all_seen (closing conn n parked) d) h
  stands_closed n parked d h above stands =
      let g : OpenHandle Progress = stands.0 in
      let test : OpenHandle Progress → Bool = λ x. (x.number == h.number) && (x.connection == conn) in
      let is = left_true (g.number == h.number) (g.connection == conn) (find-true (λ (x : OpenHandle Progress). (x.number == h.number) && (x.connection == conn)) d.handles g stands.1.0) in
      let same : g.number ≡ h.number = eqb-true g.number h.number is.0 in (
        g,
        (
          ap (find (λ (x : OpenHandle Progress). (x.number == h.number) && (x.connection == conn))) (closed_still n parked d)
              ∙ find-without (λ (x : OpenHandle Progress). (x.number == h.number) && (x.connection == conn)) (λ (x : OpenHandle Progress). x.number == n) d.handles g stands.1.0 (ne_eqb g.number n (λ e. omega (arith, same, above, e))),
          (stands.1.1.0, tt),
        ),
      )

  stands_told : (e : Entry) (d : Content) (h : OpenHandle Progress) → Stands d h → Stands (apply_all_seen (HappensTo e ∷ []) d) h
  stands_told e d h stands =
      (offer e stands.0, (find-map (offer e) (λ (x : OpenHandle Progress). (x.number == h.number) && (x.connection == conn)) d.handles ∙ ap (option_map (offer e)) stands.1.0, (stands.1.1.0, tt)))

  able_all : (hs : List (OpenHandle Progress)) (low high : ℕ) → RiseBetween low (map (λ h. h.number) hs) high → AllByRecursion IsOwned hs → (d : Content) → AllByRecursion (Stands d) hs
      → CanBeginAll d (flat_map (begun_behind c conn) (map (λ h. h.number) hs))
  able_all [] low high rise owned d stand = tt
  able_all (h ∷ hs) low high rise owned d stand =
      subst (λ xs. CanBeginAll d (xs ++ flat_map (begun_behind c conn) (map (λ h. h.number) hs))) (sym (begun_own h owned.0)) (first, by (told_behind c conn h) (able_all hs (h.number + 1) high rise.1 owned.1))
    where
      first : CanBegin d (Closes conn h.number (is_some h.parked))
      first = ap (option_map (λ (g : OpenHandle Progress). is_some g.parked)) stand.0.1.0 ∙ ap Some stand.0.1.1.0

      still : AllByRecursion (Stands (apply_all_seen (closing conn h.number (is_some h.parked)) d)) hs
      still = all-imp (λ (g : OpenHandle Progress). (h.number < g.number) × Stands d g) (Stands (apply_all_seen (closing conn h.number (is_some h.parked)) d)) (λ g q. stands_closed h.number (is_some h.parked) d g q.0 q.1) hs
          (all-both (λ (g : OpenHandle Progress). h.number < g.number) (Stands d) hs (rising-behind (λ (g : OpenHandle Progress). g.number) h.number high hs rise.1) stand.1)

      by : (told : Option Entry) → ((d : Content) → AllByRecursion (Stands d) hs → CanBeginAll d (flat_map (begun_behind c conn) (map (λ h. h.number) hs)))
          → CanBeginAll (apply_all_seen (closing conn h.number (is_some h.parked)) d) (telling told ++ flat_map (begun_behind c conn) (map (λ h. h.number) hs))
      by None more = more (apply_all_seen (closing conn h.number (is_some h.parked)) d) still
      by (Some e) more = (
        tt,
        more (apply_all_seen (HappensTo e ∷ []) (apply_all_seen (closing conn h.number (is_some h.parked)) d))
            (all-imp (Stands (apply_all_seen (closing conn h.number (is_some h.parked)) d)) (Stands (apply_all_seen (HappensTo e ∷ []) (apply_all_seen (closing conn h.number (is_some h.parked)) d))) (stands_told e (apply_all_seen (closing conn h.number (is_some h.parked)) d)) hs still),
      )

  module _ (w : IsContent c) where
    -- each is the connection's own
    owned_all : AllByRecursion IsOwned (handles_of c conn)
    owned_all =
        all-imp (λ (h : OpenHandle Progress). ((h.connection == conn) ≡ true) × (handle_numbered c h.number ≡ Some h)) IsOwned
        (λ h q. (found-more (λ (g : OpenHandle Progress). g.number == h.number) (λ g. g.connection == conn) c.handles h q.1 q.0, (eqb-true h.connection conn q.0, tt))) (handles_of c conn)
        (all-passing (λ (h : OpenHandle Progress). handle_numbered c h.number ≡ Some h) (λ h. h.connection == conn) c.handles (found-each (λ (h : OpenHandle Progress). h.number) 0 c.next_handle c.handles w.order.handles_rise))

    rise_filter : (test : OpenHandle Progress → Bool) (low high : ℕ) (hs : List (OpenHandle Progress)) → RiseBetween low (map (λ h. h.number) hs) high → RiseBetween low (map (λ h. h.number) (filter test hs)) high
    rise_filter test low high [] rise = rise
    rise_filter test low high (h ∷ hs) rise = by (test h) (rise_filter test (h.number + 1) high hs rise.1)
      where
        by : (b : Bool) → RiseBetween (h.number + 1) (map (λ h. h.number) (filter test hs)) high → RiseBetween low (map (λ h. h.number) (cond b (h ∷ filter test hs) (filter test hs))) high
        by true rest = (rise.0, rest)
        by false rest = rising-lower (h.number + 1) low high (map (λ h. h.number) (filter test hs)) (omega (arith, rise.0)) rest

    rise_all : RiseBetween 0 (map (λ h. h.number) (handles_of c conn)) c.next_handle
    rise_all = rise_filter (λ h. h.connection == conn) 0 c.next_handle c.handles w.order.handles_rise

    -- all of them can begin, one behind the other
    pub able_begun : CanBeginAll c (flat_map (begun_behind c conn) (map (λ h. h.number) (handles_of c conn)))
    able_begun = able_all (handles_of c conn) 0 c.next_handle rise_all owned_all c (all-imp IsOwned (Stands c) (λ h own. (h, (own.0, (refl, tt)))) (handles_of c conn) owned_all)

    -- ---- and make the moves that are planned

    moves_all : (before hs : List (OpenHandle Progress)) (low high : ℕ) → AllByRecursion (IsBehind c conn low) before → AreRest c conn before hs → AllByRecursion IsOwned hs → RiseBetween low (map (λ h. h.number) hs) high
        → closings_behind c before hs ≡ flat_map moves_of (flat_map (begun_behind c conn) (map (λ h. h.number) hs))
    moves_all before [] low high behind rest owned rise = refl
    moves_all before (h ∷ hs) low high behind rest owned rise =
        (λ i. one i ++ moves_all (h ∷ before) hs (h.number + 1) high more (rest_on c conn before h hs rest) owned.1 rise.1 i)
        ∙ sym (flat_map-append moves_of (begun_behind c conn h.number) (flat_map (begun_behind c conn) (map (λ h. h.number) hs)))
      where
        here : AllByRecursion (IsBehind c conn h.number) before
        here = all-imp (IsBehind c conn low) (IsBehind c conn h.number) (λ g q. (q.0, omega (arith, q.1, rise.0))) before behind

        more : AllByRecursion (IsBehind c conn (h.number + 1)) (h ∷ before)
        more = ((owned.0.0, omega arith), all-imp (IsBehind c conn low) (IsBehind c conn (h.number + 1)) (λ g q. (q.0, omega (arith, q.1, rise.0))) before behind)

        one : closing_behind c before h ≡ flat_map moves_of (begun_behind c conn h.number)
        one =
            ap (λ k. ClosesHandle h.number ∷ (cond (is_some h.parked) (Queues k (ReadDone h.number (Err BadHandle)) ∷ []) []) ++ cond (server_closed before h.target) [] (parting c h h.kind)) owned.0.1.0
            ∙ ap (λ ms. closing conn h.number (is_some h.parked) ++ ms) (behind_told c conn w before h hs high here rest rise.1 ∙ told_moves (told_behind c conn h))
            ∙ sym (ap (flat_map moves_of) (begun_own h owned.0))

    pub moves_begun : closings_behind c [] (handles_of c conn) ≡ flat_map moves_of (flat_map (begun_behind c conn) (map (λ h. h.number) (handles_of c conn)))
    moves_begun = moves_all [] (handles_of c conn) 0 c.next_handle tt (rest_first c conn) owned_all rise_all
