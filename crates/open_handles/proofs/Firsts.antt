-- Room for several records is room for the first of them.
use Rattle.std.specs.Prelude.{◌≡◌, ◌<◌, ◌≤◌, ℕ, List, [], ◌∷◌, Bool, true, false, length, filter, sum_by}
use Rattle.std.proofs.Common.{cond, arith, le_trans}
use Rattle.std.proofs.lemmas.List.Sums.{sum_by-cons}
use Rattle.pps_types.specs.History.{Entry}
use Rattle.pps_types.specs.Reading.{OpenHandle, visible}
use Rattle.pps_types.specs.Rests.{Progress}
use Rattle.server_queue.specs.Senders.{client_messages}
use Rattle.topics.specs.Standing.{Spare, HaveRoom}
use Rattle.topics.specs.declared.topic.Topic.{Topic}
use Rattle.topics.specs.declared.topic.Topic.TheVariants.{Unused, Readers, Served}
use Rattle.topics.specs.HandlesOf.{IsReady, handles_of}
use Rattle.open_handles.specs.Whole.{Whole, HasRoom, is_told}

first-few : (b : Bool) (e : Entry) (es : List Entry) → length (cond b (e ∷ []) []) ≤ length (cond b (e ∷ es) es)
first-few true e es = omega arith
first-few false e es = omega arith

first-sum : (f : Entry → ℕ) (b : Bool) (e : Entry) (es : List Entry) → sum_by f (cond b (e ∷ []) []) ≤ sum_by f (cond b (e ∷ es) es)
first-sum f true e es = let one = sum_by-cons f e [] in let more = sum_by-cons f e es in let le : sum_by f (e ∷ []) ≤ sum_by f (e ∷ es) = omega arith in le
first-sum f false e es = let le : 0 ≤ sum_by f es = omega arith in le

have_first : (e : Entry) (es : List Entry) (hs : List (OpenHandle Progress)) (ss : List Spare) → HaveRoom (e ∷ es) hs ss → HaveRoom (e ∷ []) hs ss
have_first e es [] ss room = tt
have_first e es (h ∷ hs) [] room = room
have_first e es (h ∷ hs) (s ∷ ss) room = (
  record {
    records = le_trans (first-few (visible h e) e (filter (visible h) es)) room.0.records;
    messages = le_trans (first-sum (λ e. client_messages e.record_of.kind) (visible h e) e (filter (visible h) es)) room.0.messages;
  },
  have_first e es hs ss room.1,
)

ready_first : (e : Entry) (es : List Entry) (s : Topic) → IsReady (e ∷ es) s → IsReady (e ∷ []) s
ready_first e es (Unused u) ready = absurd (let bad : e ∷ es ≡ [] = ready in cc)
ready_first e es (Readers t) ready = let at : length (e ∷ es) ≤ t.value.room = ready in omega arith
ready_first e es (Served s) ready = have_first e es s.value.handles s.value.spares ready

pub room_first : (e : Entry) (es : List Entry) (w : Whole) → HasRoom (e ∷ es) w → HasRoom (e ∷ []) w
room_first e es w room f s at = by (is_told f e) (room f s at)
  where
    by : (b : Bool) → (0 < length (handles_of s) → 0 < length (cond b (e ∷ filter (is_told f) es) (filter (is_told f) es)) → IsReady (cond b (e ∷ filter (is_told f) es) (filter (is_told f) es)) s)
        → (0 < length (handles_of s) → 0 < length (cond b (e ∷ []) []) → IsReady (cond b (e ∷ []) []) s)
    by true room = λ handles some. ready_first e (filter (is_told f) es) s (room handles (omega arith))
    by false room = λ handles some. absurd (omega arith)
