-- What a move makes of the handles of a server object.
use Rattle.std.proofs.Common.{◌≡◌, ℕ, zero, suc, ◌<◌, ◌==◌, Bool, true, false, ◌&&◌, ◌||◌, arith, List, [], ◌∷◌, ◌++◌, length, map, set, get_or, refl, sym, ap, subst, ◌∙◌, Option, Some, None, IsSome}
use Rattle.std.specs.Prelude.{option_map}
use Rattle.std.specs.List.{AllByRecursion, remove}
use Rattle.std.proofs.lemmas.List.{map-set, get_or-map}
use Rattle.pps_types.specs.declared.handle_kind.HandleKind.{HandleKind}
use Rattle.pps_types.specs.declared.handle_kind.HandleKind.TheVariants.{Object as ObjectHandle, Directory as DirectoryHandle, Names as NamesHandle, Server as ServerHandle, Client as ClientHandle}
use Rattle.pps_types.specs.Bytes.{is_empty}
use Rattle.pps_types.specs.Checks.{is_client}
use Rattle.pps_types.specs.History.{Entry}
use Rattle.pps_types.specs.Reading.{OpenHandle}
use Rattle.pps_types.specs.Rests.{Progress}
use Rattle.pps_types.specs.Plan.{on_first, on_numbered, without_first}
use Rattle.pps_types.proofs.Lists.{all-push}
use Rattle.pps_types.specs.Rising.{IsPlaceOf, IsGapFor}
use Rattle.pps_types.proofs.RisingEdits.{rising_remove}
use Rattle.sub_reader.proofs.Edits.{change_gap, change_place, rising_set, rising_push, place_map, gap_map, on_first_keeps, without_first_keeps}
use Rattle.sub_reader.proofs.Tallies.{all-at, all-set}
use Rattle.sub_reader.specs.declared.opening.Opening.{Opening}
use Rattle.server_queue.specs.Queued.{Queued}
use Rattle.sub_reader.specs.Rows.{number_in, rows_in, row_at, rank}
use Rattle.sub_reader.proofs.Gaps.{rank_within, rank_row}
use Rattle.topics.specs.QueueRows.{QueueRow, QueueSlot, handle_of, IsRowOn, IsOfClient, IsLed, IsService}
use Rattle.topics.specs.Standing.{spare_of, HaveRoom}

all-remove : {X : Type 0} (P : X → Type 0) (xs : List X) (k : ℕ) → AllByRecursion P xs → AllByRecursion P (remove xs k)
all-remove P [] zero all = tt
all-remove P [] (suc k) all = tt
all-remove P (x ∷ xs) zero all = all.1
all-remove P (x ∷ xs) (suc k) all = (all.0, all-remove P xs k all.1)

module _ (object : ℕ) (name : List ℕ) (rows : List QueueRow) where
  abbrev see : QueueRow → OpenHandle Progress
  see = handle_of object name

  -- ---- one handle changes

  pub set-seen : (number k : ℕ) (change : OpenHandle Progress → OpenHandle Progress) (x d : QueueRow) → IsPlaceOf number_in rows number k → k < length rows → see x ≡ change (see (get_or rows k d))
      → map see (set rows k x) ≡ on_numbered number change (map see rows)
  set-seen number k change x d place lt same =
      map-set see rows k x
      ∙ ap (set (map see rows) k) (same ∙ ap change (sym (get_or-map see rows k d (see d) lt)))
      ∙ sym (change_place (λ (h : OpenHandle Progress). h.number) change number (map see rows) k (see d) (place_map number_in (λ (h : OpenHandle Progress). h.number) see (λ x. refl) number rows k place))

  pub same-nowhere : (number k : ℕ) (change : OpenHandle Progress → OpenHandle Progress) → IsGapFor number_in rows number k → map see rows ≡ on_numbered number change (map see rows)
  same-nowhere number k change gap = sym (change_gap (λ (h : OpenHandle Progress). h.number) change number (map see rows) k (gap_map number_in (λ (h : OpenHandle Progress). h.number) see (λ x. refl) number rows k gap))

-- ---- what is always so

led-set : (led : Bool) (xs : List QueueRow) (k : ℕ) (x d : QueueRow) → k < length xs → x.opening ≡ (get_or xs k d).opening → IsLed led xs → IsLed led (set xs k x)
led-set false xs k x d lt same clients = tt
led-set true [] k x d lt same clients = tt
led-set true (y ∷ ys) zero x d lt same clients = clients
led-set true (y ∷ ys) (suc k) x d lt same clients =
    all-set IsOfClient ys k x clients (ap (λ (o : Opening). o.kind) same ∙ all-at IsOfClient ys k d clients (omega arith))

led-gone : (led : Bool) (xs : List QueueRow) (k : ℕ) → IsLed led xs → IsLed led (remove xs k)
led-gone false xs k clients = tt
led-gone true [] zero clients = tt
led-gone true [] (suc k) clients = tt
led-gone true (x ∷ []) zero clients = tt
led-gone true (x ∷ (y ∷ ys)) zero clients = clients.1
led-gone true (x ∷ xs) (suc k) clients = all-remove IsOfClient xs k clients

is-client : (kind : HandleKind) → is_client kind ≡ true → kind ≡ ClientHandle
is-client (ObjectHandle delta) is = absurd cc
is-client (DirectoryHandle delta) is = absurd cc
is-client NamesHandle is = absurd cc
is-client ServerHandle is = absurd cc
is-client ClientHandle is = refl

-- all but the first are known to be clients' where this is so before, and the new one is the first or a client's
led-push : (led : Bool) (xs : List QueueRow) (x : QueueRow) → IsLed led xs → IsLed (led && (is_empty xs || is_client x.opening.kind)) (xs ++ x ∷ [])
led-push false xs x clients = tt
led-push true [] x clients = tt
led-push true (y ∷ ys) x clients = by (is_client x.opening.kind) refl
  where
    by : (b : Bool) → is_client x.opening.kind ≡ b → IsLed b (y ∷ (ys ++ x ∷ []))
    by true is = all-push IsOfClient ys x clients (is-client x.opening.kind is)
    by false is = tt

module _ (object : ℕ) (led : Bool) (rows : List QueueRow) (is : IsService object led rows) where
  pub set-is : (k : ℕ) (x d : QueueRow) → k < length rows → x.opening ≡ (get_or rows k d).opening → IsRowOn object x → IsService object led (set rows k x)
  set-is k x d lt same right = record {
    each = all-set (IsRowOn object) rows k x is.each right;
    rising = rising_set number_in x d rows k is.rising (ap (λ (o : Opening). o.number) same) lt;
    clients = led-set led rows k x d lt same is.clients;
  }

  -- something else waits on a handle
  pub wait-is : (number : ℕ) (change : QueueRow → QueueRow) → ((x : QueueRow) → (change x).opening ≡ x.opening) → ((x : QueueRow) → IsRowOn object x → IsRowOn object (change x)) → IsService object led (on_first (λ x. number_in x == number) change rows)
  wait-is number change same right =
      on_first_keeps (λ x. number_in x == number) change (IsService object led) rows is
      (λ k d lt. set-is k (change (get_or rows k d)) d lt (same (get_or rows k d)) (right (get_or rows k d) (all-at (IsRowOn object) rows k d is.each lt)))

  pub gone-is : (number : ℕ) → IsService object led (without_first (λ x. number_in x == number) rows)
  gone-is number = without_first_keeps (λ x. number_in x == number) (IsService object led) rows is (λ k lt. record {
    each = all-remove (IsRowOn object) rows k is.each;
    rising = rising_remove number_in rows k is.rising;
    clients = led-gone led rows k is.clients;
  })

  pub push-is : (x : QueueRow) → AllByRecursion (λ y. y.opening.number < x.opening.number) rows → IsRowOn object x → IsService object (led && (is_empty rows || is_client x.opening.kind)) (rows ++ x ∷ [])
  push-is x above right = record {
    each = all-push (IsRowOn object) rows x is.each right;
    rising = rising_push number_in rows x is.rising above;
    clients = led-push led rows x is.clients;
  }

pub above-rows : (object : ℕ) (name : List ℕ) (rows : List QueueRow) (number : ℕ) → AllByRecursion (λ (h : OpenHandle Progress). h.number < number) (map (handle_of object name) rows)
    → AllByRecursion (λ (x : QueueRow). x.opening.number < number) rows
above-rows object name [] number all = tt
above-rows object name (x ∷ xs) number all = (all.0, above-rows object name xs number all.1)

-- ---- the room

pub room-gone : (object : ℕ) (name : List ℕ) (entries : List Entry) (rows : List QueueRow) (number : ℕ) → HaveRoom entries (map (handle_of object name) rows) (map spare_of rows)
    → HaveRoom entries (map (handle_of object name) (without_first (λ x. number_in x == number) rows)) (map spare_of (without_first (λ x. number_in x == number) rows))
room-gone object name entries rows number room = without_first_keeps (λ x. number_in x == number) (λ xs. HaveRoom entries (map (handle_of object name) xs) (map spare_of xs)) rows room (λ k lt. by rows k room)
  where
    by : (xs : List QueueRow) (k : ℕ) → HaveRoom entries (map (handle_of object name) xs) (map spare_of xs) → HaveRoom entries (map (handle_of object name) (remove xs k)) (map spare_of (remove xs k))
    by [] zero room = tt
    by [] (suc k) room = tt
    by (x ∷ xs) zero room = room.1
    by (x ∷ xs) (suc k) room = (room.0, by xs k room.1)

pub spares-set : (rows : List QueueRow) (k : ℕ) (x d : QueueRow) → spare_of x ≡ spare_of (get_or rows k d) → map spare_of (set rows k x) ≡ map spare_of rows
spares-set [] k x d same = refl
spares-set (y ∷ ys) zero x d same = ap (λ s. s ∷ map spare_of ys) same
spares-set (y ∷ ys) (suc k) x d same = ap (λ ss. spare_of y ∷ ss) (spares-set ys k x d same)

pub spares-wait : (rows : List QueueRow) (number : ℕ) (change : QueueRow → QueueRow) → ((x : QueueRow) → spare_of (change x) ≡ spare_of x) → map spare_of (on_first (λ x. number_in x == number) change rows) ≡ map spare_of rows
spares-wait rows number change same =
    on_first_keeps (λ x. number_in x == number) change (λ xs. map spare_of xs ≡ map spare_of rows) rows refl
    (λ k d lt. spares-set rows k (change (get_or rows k d)) d (same (get_or rows k d)))

-- ---- the handle at a place changes

-- how far it has read, of one that is there
pub progress-is : (o : Option QueueRow) (x : QueueRow) (q : Queued) → Some x ≡ o → option_map (λ (r : QueueRow). r.progress) o ≡ Some q → x.progress ≡ q
progress-is None x q is at = absurd (cc)
progress-is (Some y) x q is at =
    let same : x ≡ y = cc in
    let progress : y.progress ≡ q = cc in
    ap (λ (r : QueueRow). r.progress) same ∙ progress

module _ (object : ℕ) (name : List ℕ) (slots : List QueueSlot) (place : ℕ) (x y : QueueRow) (at : Some x ≡ row_at place slots) (new : List QueueRow) (is : new ≡ set (rows_in slots) (rank place slots) y) where
  lt-at : rank place slots < length (rows_in slots)
  lt-at = rank_within slots place (subst IsSome at refl)

  x-at : x ≡ get_or (rows_in slots) (rank place slots) x
  x-at = rank_row slots place x x at

  pub right-at : AllByRecursion (IsRowOn object) (rows_in slots) → IsRowOn object x
  right-at all = subst (IsRowOn object) (sym x-at) (all-at (IsRowOn object) (rows_in slots) (rank place slots) x all lt-at)

  pub changed-is : (led : Bool) → IsService object led (rows_in slots) → y.opening ≡ x.opening → IsRowOn object y → IsService object led new
  changed-is led service same right =
      subst (IsService object led) (sym is)
      (set-is object led (rows_in slots) service (rank place slots) y x lt-at (same ∙ ap (λ (r : QueueRow). r.opening) x-at) right)

  pub changed-seen : (number : ℕ) (change : OpenHandle Progress → OpenHandle Progress) → IsPlaceOf number_in (rows_in slots) number (rank place slots) → handle_of object name y ≡ change (handle_of object name x)
      → map (handle_of object name) new ≡ on_numbered number change (map (handle_of object name) (rows_in slots))
  changed-seen number change found same =
      ap (map (handle_of object name)) is
      ∙ set-seen object name (rows_in slots) number (rank place slots) change y x found lt-at (same ∙ ap (λ (r : QueueRow). change (handle_of object name r)) x-at)
