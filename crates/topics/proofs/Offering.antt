-- What offering a record makes of the handles, one after the other.
use Rattle.std.proofs.Common.{◌≡◌, ℕ, zero, suc, ◌+◌, ◌<◌, ◌≤◌, Bool, true, false, cond, ◌||◌, ◌&&◌, List, [], ◌∷◌, ◌++◌, length, map, Option, Some, None, refl, sym, ap, subst, ◌∙◌, arith}
use Rattle.std.specs.Prelude.{filter}
use Rattle.std.specs.Option.{option_map_or}
use Rattle.std.specs.List.{AllByRecursion}
use Rattle.std.proofs.lemmas.List.Sums.{sum_by-cons}
use Rattle.pps_types.specs.declared.handle_kind.HandleKind.{HandleKind}
use Rattle.pps_types.specs.declared.handle_kind.HandleKind.TheVariants.{Object as ObjectHandle, Directory as DirectoryHandle, Names as NamesHandle, Server as ServerHandle, Client as ClientHandle}
use Rattle.pps_types.specs.declared.record.Kind.{Kind}
use Rattle.pps_types.specs.History.{Entry}
use Rattle.pps_types.specs.Reading.{OpenHandle, Queue, style, visible, concerns, is_chained, reseen}
use Rattle.pps_types.specs.Rests.{Progress, Owed, keeps, pushed}
use Rattle.pps_types.specs.Plan.{offered, offer}
use Rattle.pps_types.proofs.Lists.{all-push}
use Rattle.server_queue.specs.Senders.{client_messages}
use Rattle.sub_reader.specs.Opened.{opened, armed_pulse}
use Rattle.sub_reader.specs.declared.opening.Opening.{Opening}
use Rattle.server_queue.specs.Queued.{Queued}
use Rattle.sub_reader.specs.declared.row.Slot.TheVariants.{Row, Gap}
use Rattle.sub_reader.specs.Rows.{rows_in, with_progress}
use Rattle.topics.specs.QueueRows.{QueueRow, QueueSlot, handle_of, sees, seer_count, IsFor, IsQueued, IsRowOn, IsService}
use Rattle.topics.specs.Standing.{spare_of, messages_in, HasRoom, HaveRoom}
use Rattle.topics.specs.Offers.{RoomIn, RoomInEach, Gets, IsOffered, AreOffered, seers_at}
use Rattle.topics.specs.Spans.{rows_from}
use Rattle.topics.proofs.Openings.{service-is}
use Rattle.topics.proofs.Seen.{queue-seen}

-- ---- counting

module _ {X : Type 0} (f : X → Bool) where
  count-cons : (x : X) (xs : List X) → length (filter f (x ∷ xs)) ≡ length (filter f (x ∷ [])) + length (filter f xs)
  count-cons x xs = by (f x)
    where
      by : (b : Bool) → length (cond b (x ∷ filter f xs) (filter f xs)) ≡ length (cond b (x ∷ []) []) + length (filter f xs)
      by true = omega arith
      by false = omega arith

module _ (object : ℕ) (e : Entry) where
  -- the handles from a place on are the one at the place and those after it
  pub count-at : (i : ℕ) (ss : List QueueSlot) → i < length ss → length (filter (sees object e) (rows_from i ss)) ≡ seers_at i object e ss + length (filter (sees object e) (rows_from (suc i) ss))
  count-at i [] lt = absurd (omega arith)
  count-at zero (Row x ∷ ss) lt = count-cons (sees object e) x (rows_in ss)
  count-at zero (Gap m ∷ ss) lt = omega arith
  count-at (suc i) (s ∷ ss) lt = count-at i ss (omega arith)

  pub count-behind : (i : ℕ) (ss : List QueueSlot) → length (filter (sees object e) (rows_from i ss)) ≤ length (filter (sees object e) (rows_in ss))
  count-behind zero ss = omega arith
  count-behind (suc i) [] = omega arith
  count-behind (suc i) (Row x ∷ ss) = omega (arith, count-behind i ss, count-cons (sees object e) x (rows_in ss))
  count-behind (suc i) (Gap m ∷ ss) = count-behind i ss

  pub count-nowhere : (o : Option QueueRow) → o ≡ None → option_map_or (λ x. seer_count object e (x ∷ [])) o 0 ≡ 0
  count-nowhere None is = refl
  count-nowhere (Some y) is = absurd (cc)

  -- one that is not given it is as if it was offered it
  pub unseen-offered : (x : QueueRow) → sees object e x ≡ false → IsOffered object e x x
  unseen-offered x out = record {
    opening = refl;
    parked = refl;
    armed = refl;
    limit = refl;
    owed = sym (ap (λ b. cond b (x.progress.owed ++ e ∷ []) x.progress.owed) out);
    records = omega arith;
    messages = omega arith;
  }

  -- one that is given it is owed it after the others
  pub seen-offered : (x : QueueRow) (q : Queued) → sees object e x ≡ true → Gets e x.progress q → IsOffered object e x (with_progress q x)
  seen-offered x q seen gets = record {
    opening = refl;
    parked = refl;
    armed = refl;
    limit = gets.limit;
    owed = gets.owed ∙ sym (ap (λ b. cond b (x.progress.owed ++ e ∷ []) x.progress.owed) seen);
    records = rw seen (omega (arith, gets.records));
    messages = rw seen gets.messages;
  }

-- ---- what a handle sees

no-chain : (kind : HandleKind) (k : Kind) → style kind ≡ Queue → is_chained kind k ≡ false
no-chain (ObjectHandle true) k is = absurd cc
no-chain (ObjectHandle false) k is = absurd cc
no-chain (DirectoryHandle true) k is = absurd cc
no-chain (DirectoryHandle false) k is = absurd cc
no-chain NamesHandle k is = absurd cc
no-chain ServerHandle k is = refl
no-chain ClientHandle k is = refl

or-none : (a b c : Bool) → c ≡ false → (a || (b && c)) ≡ a
or-none true b c is = refl
or-none false true c is = is
or-none false false c is = refl

keeps-seen : {S : Type 0} (h : OpenHandle S) (e : Entry) → style h.kind ≡ Queue → keeps h e ≡ visible h e
keeps-seen h e kind = or-none (visible h e) (concerns h e) (is_chained h.kind e.record_of.kind) (no-chain h.kind e.record_of.kind kind)

pushed-is : (test : Entry → Bool) (e : Entry) (rest : List Entry) → test e ≡ true → pushed test e rest ≡ rest ++ e ∷ []
pushed-is test e [] is = rw is refl
pushed-is test e (x ∷ xs) is = refl

pub offered-is : {S : Type 0} (h : OpenHandle S) (e : Entry) (rest : List Entry) → style h.kind ≡ Queue → offered h e (Owed rest) ≡ Owed (cond (visible h e) (rest ++ e ∷ []) rest)
offered-is h e rest kind =
    queue-seen h (cond (keeps h e) (pushed (visible h) e rest) rest) kind
    ∙ ap Owed (ap (λ b. cond b (pushed (visible h) e rest) rest) (keeps-seen h e kind) ∙ by (visible h e) refl)
  where
    by : (b : Bool) → visible h e ≡ b → cond b (pushed (visible h) e rest) rest ≡ cond b (rest ++ e ∷ []) rest
    by true is = pushed-is (visible h) e rest is
    by false is = refl

module _ (object : ℕ) (name : List ℕ) (e : Entry) where
  one-seen : (x y : QueueRow) → IsRowOn object x → IsOffered object e x y → handle_of object name y ≡ offer e (handle_of object name x)
  one-seen x y is r =
      (λ i. record (reseen (λ h. Owed (r.owed i)) (opened object name (r.opening i))) { parked = r.parked i; armed = armed_pulse (r.armed i) })
      ∙ ap (λ (seen : Progress). record (reseen (λ h. seen) (opened object name x.opening)) { parked = x.parked; armed = armed_pulse x.armed }) (sym (offered-is (handle_of object name x) e x.progress.owed is.kind))

  pub offers-seen : (xs ys : List QueueRow) → AllByRecursion (IsRowOn object) xs → AreOffered object e xs ys → map (handle_of object name) ys ≡ map (offer e) (map (handle_of object name) xs)
  offers-seen [] [] each all = refl
  offers-seen [] (y ∷ ys) each all = absurd all
  offers-seen (x ∷ xs) [] each all = absurd all
  offers-seen (x ∷ xs) (y ∷ ys) each all = λ i. one-seen x y each.0 all.0 i ∷ offers-seen xs ys each.1 all.1 i

-- ---- what is always so

module _ (object : ℕ) (e : Entry) where
  owed-for : (o : Opening) (owed : List Entry) → IsFor object o owed → IsFor object o (cond (visible (opened object [] o) e) (owed ++ e ∷ []) owed)
  owed-for o owed all = by (visible (opened object [] o) e) refl
    where
      by : (b : Bool) → visible (opened object [] o) e ≡ b → IsFor object o (cond b (owed ++ e ∷ []) owed)
      by true is = all-push (λ e. visible (opened object [] o) e ≡ true) owed e all is
      by false is = all

  one-is : (x y : QueueRow) → IsRowOn object x → IsOffered object e x y → IsRowOn object y
  one-is x y is r = record {
    kind = ap (λ o. style o.kind) r.opening ∙ is.kind;
    limit = r.limit ∙ is.limit ∙ ap (λ o. o.limit) (sym r.opening);
    owed = subst (λ o. IsFor object o y.progress.owed) (sym r.opening) (subst (IsFor object x.opening) (sym r.owed) (owed-for x.opening x.progress.owed is.owed));
  }

  pub offers-is : (led : Bool) (xs ys : List QueueRow) → IsService object led xs → AreOffered object e xs ys → IsService object led ys
  offers-is led xs ys is all = service-is object (IsOffered object e) (λ x y r. r.opening) one-is led xs ys is all

pub each-queued : (object : ℕ) (xs : List QueueRow) → AllByRecursion (IsRowOn object) xs → AllByRecursion IsQueued xs
each-queued object [] each = tt
each-queued object (x ∷ xs) each = (each.0.kind, each-queued object xs each.1)

-- ---- room

module _ (object : ℕ) (name : List ℕ) where
  pub room-each : (entries : List Entry) (xs : List QueueRow) → HaveRoom entries (map (handle_of object name) xs) (map spare_of xs) → RoomInEach object entries xs
  room-each entries [] room = tt
  room-each entries (x ∷ xs) room = (record { records = room.0.records; messages = room.0.messages }, room-each entries xs room.1)

  pub room-all : (entries : List Entry) (xs : List QueueRow) → RoomInEach object entries xs → HaveRoom entries (map (handle_of object name) xs) (map spare_of xs)
  room-all entries [] room = tt
  room-all entries (x ∷ xs) room = (record { records = room.0.records; messages = room.0.messages }, room-all entries xs room.1)

  -- as many are counted
  pub count-handles : (e : Entry) (xs : List QueueRow) → length (filter (sees object e) xs) ≡ length (filter (λ (h : OpenHandle Progress). visible h e) (map (handle_of object name) xs))
  count-handles e [] = refl
  count-handles e (x ∷ xs) = by (sees object e x) (count-handles e xs)
    where
      by : (b : Bool) → length (filter (sees object e) xs) ≡ length (filter (λ (h : OpenHandle Progress). visible h e) (map (handle_of object name) xs))
          → length (cond b (x ∷ filter (sees object e) xs) (filter (sees object e) xs)) ≡ length (cond b (handle_of object name x ∷ filter (λ (h : OpenHandle Progress). visible h e) (map (handle_of object name) xs)) (filter (λ (h : OpenHandle Progress). visible h e) (map (handle_of object name) xs)))
      by true same = ap suc same
      by false same = same

module _ (object : ℕ) (e : Entry) (entries : List Entry) where
  one-room : (x y : QueueRow) → IsOffered object e x y → RoomIn object (e ∷ entries) x → RoomIn object entries y
  one-room x y r room =
      subst (λ o. HasRoom entries (opened object [] o) (spare_of y)) (sym r.opening) (by (sees object e x) refl r.records r.messages room.records room.messages)
    where
      by : (b : Bool) → sees object e x ≡ b → x.progress.room ≤ y.progress.room + cond b 1 0 → x.progress.counters ≤ y.progress.counters + cond b (client_messages e.record_of.kind) 0
          → length (cond b (e ∷ filter (visible (opened object [] x.opening)) entries) (filter (visible (opened object [] x.opening)) entries)) ≤ x.progress.room
          → messages_in (cond b (e ∷ filter (visible (opened object [] x.opening)) entries) (filter (visible (opened object [] x.opening)) entries)) ≤ x.progress.counters
          → HasRoom entries (opened object [] x.opening) (spare_of y)
      by true is few some n m = record {
        records = omega (arith, few, n);
        messages = omega (arith, some, m, sum_by-cons (λ (e : Entry). client_messages e.record_of.kind) e (filter (visible (opened object [] x.opening)) entries));
      }
      by false is few some n m = record { records = omega (arith, few, n); messages = omega (arith, some, m) }

  pub room-after : (xs ys : List QueueRow) → AreOffered object e xs ys → RoomInEach object (e ∷ entries) xs → RoomInEach object entries ys
  room-after [] [] all room = tt
  room-after [] (y ∷ ys) all room = absurd all
  room-after (x ∷ xs) [] all room = absurd all
  room-after (x ∷ xs) (y ∷ ys) all room = (one-room x y all.0 room.0, room-after xs ys all.1 room.1)
