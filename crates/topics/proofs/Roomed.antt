-- Room is made in the queues of the handles, one after the other.
use Rattle.std.proofs.Common.{◌≡◌, ℕ, ◌≤◌, Bool, false, List, [], ◌∷◌, length, map, refl, sym, ap, subst, ◌∙◌, arith}
use Rattle.std.specs.Prelude.{filter, Result, Ok, Err, OnOk}
use Rattle.std.specs.List.{AllByRecursion}
use Rattle.pps_types.specs.History.{Entry}
use Rattle.pps_types.specs.Reading.{style, visible, reseen}
use Rattle.pps_types.specs.Rests.{Owed}
use Rattle.sub_reader.specs.Opened.{opened, armed_pulse}
use Rattle.server_queue.specs.Queued.{Queued}
use Rattle.sub_reader.specs.declared.opening.Opening.{Opening}
use Rattle.sub_reader.specs.Rows.{with_progress}
use Rattle.topics.specs.QueueRows.{QueueRow, handle_of, IsFor, IsRowOn, IsService}
use Rattle.topics.specs.Standing.{spare_of, messages_in, HasRoom}
use Rattle.topics.specs.Offers.{RoomIn, RoomInEach}
use Rattle.topics.specs.Rooms.{IsKept, AreKept}
use Rattle.topics.specs.Spans.{IsUnseen}
use Rattle.topics.proofs.Openings.{service-is}

-- ---- what stays

pub kept-refl : (x : QueueRow) → IsKept x x
kept-refl x = record { opening = refl; parked = refl; armed = refl; limit = refl; owed = refl; records = omega arith; messages = omega arith }

pub queue-kept : (x : QueueRow) (q w : Queued) → x.progress ≡ q → w.limit ≡ q.limit → w.owed ≡ q.owed → (q.room ≤ w.room) × (q.counters ≤ w.counters) → IsKept x (with_progress w x)
queue-kept x q w same limit owed kept = record {
  opening = refl;
  parked = refl;
  armed = refl;
  limit = limit ∙ ap (λ (z : Queued). z.limit) (sym same);
  owed = owed ∙ ap (λ (z : Queued). z.owed) (sym same);
  records = omega (arith, kept.0, ap (λ (z : Queued). z.room) same);
  messages = omega (arith, kept.1, ap (λ (z : Queued). z.counters) same);
}

-- all that is asked of one when room is made in its queue
abbrev pub IsRoomed : ℕ → List Entry → QueueRow → QueueRow → Type 0
IsRoomed object entries x y = IsKept x y × RoomIn object entries y

-- ---- room

module _ (object : ℕ) (entries : List Entry) where
  pub kept-room : (x y : QueueRow) → IsKept x y → RoomIn object entries x → RoomIn object entries y
  kept-room x y k room = subst (λ o. HasRoom entries (opened object [] o) (spare_of y)) (sym k.opening) (record { records = omega (arith, k.records, room.records); messages = omega (arith, k.messages, room.messages) })

  pub kept-rooms : (xs ys : List QueueRow) → AreKept xs ys → RoomInEach object entries xs → RoomInEach object entries ys
  kept-rooms [] [] all room = tt
  kept-rooms [] (y ∷ ys) all room = absurd all
  kept-rooms (x ∷ xs) [] all room = absurd all
  kept-rooms (x ∷ xs) (y ∷ ys) all room = (kept-room x y all.0 room.0, kept-rooms xs ys all.1 room.1)

  -- those who are given none need no room
  unseen-none : (o : Opening) (es : List Entry) → AllByRecursion (λ e. visible (opened object [] o) e ≡ false) es → filter (visible (opened object [] o)) es ≡ []
  unseen-none o [] out = refl
  unseen-none o (e ∷ es) out = rw out.0 (unseen-none o es out.1)

  unseen-room : (x : QueueRow) → IsUnseen object entries x → RoomIn object entries x
  unseen-room x out =
      let none : filter (visible (opened object [] x.opening)) entries ≡ [] = unseen-none x.opening entries out in
      record { records = omega (arith, ap length none); messages = omega (arith, ap messages_in none) }

  pub unseen-roomed : (x : QueueRow) → IsUnseen object entries x → IsRoomed object entries x x
  unseen-roomed x out = (kept-refl x, unseen-room x out)

-- ---- what the handles have seen, and what is always so

module _ (object : ℕ) (name : List ℕ) where
  pub kept-seen : (xs ys : List QueueRow) → AreKept xs ys → map (handle_of object name) ys ≡ map (handle_of object name) xs
  kept-seen [] [] all = refl
  kept-seen [] (y ∷ ys) all = absurd all
  kept-seen (x ∷ xs) [] all = absurd all
  kept-seen (x ∷ xs) (y ∷ ys) all =
      λ i. record (reseen (λ h. Owed (all.0.owed i)) (opened object name (all.0.opening i))) { parked = all.0.parked i; armed = armed_pulse (all.0.armed i) } ∷ kept-seen xs ys all.1 i

module _ (object : ℕ) where
  one-is : (x y : QueueRow) → IsRowOn object x → IsKept x y → IsRowOn object y
  one-is x y is k = record {
    kind = ap (λ o. style o.kind) k.opening ∙ is.kind;
    limit = k.limit ∙ is.limit ∙ ap (λ o. o.limit) (sym k.opening);
    owed = subst (λ o. IsFor object o y.progress.owed) (sym k.opening) (subst (IsFor object x.opening) (sym k.owed) is.owed);
  }

  pub kept-is : (led : Bool) (xs ys : List QueueRow) → IsService object led xs → AreKept xs ys → IsService object led ys
  kept-is led xs ys is all = service-is object IsKept (λ x y k. k.opening) one-is led xs ys is all

pub ok-map : {X E : Type 0} (r : Result X E) (P Q : Type 0) → (P → Q) → OnOk r P → OnOk r Q
ok-map (Ok x) P Q f p = f p
ok-map (Err e) P Q f p = tt
