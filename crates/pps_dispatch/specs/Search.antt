-- What is found of the sessions, as the entries of the history are gone through.
use Rattle.std.specs.Prelude.{◌≡◌, ℕ, ◌<◌, Bool, true, List, [], ◌∷◌, ◌++◌, length, slice_index_or, drop, Some, IsSome}
use Rattle.std.specs.List.{list_all}
use Rattle.std.specs.Ordering.{nat_cmp}
use Rattle.std.specs.BTreeMap.{BTreeMap, get}
use Rattle.pps_types.specs.declared.event.Event.{Event}
use Rattle.pps_types.specs.Runs.{Answered}
use Rattle.pps_lock.specs.declared.book.Receipt.{Receipt}
use Rattle.pps_lock.specs.Trace.{Piece}
use Rattle.pps_dispatch.specs.declared.history.Found.{Found}
use Rattle.pps_dispatch.specs.Sessions.{Conversation, is_known}
use Rattle.pps_dispatch.specs.History.{joined, asked_by, named_in, named_for}

-- ---- sessions by their connections

-- The map knows the first sessions, so many of them: each number in it is that of a session with this connection, and each
-- connection of theirs has one.
pub record Knows (numbers : BTreeMap ℕ ℕ) (sessions : List Conversation) (count : ℕ) : Type 0 where
  pub bound : (c k : ℕ) → get nat_cmp numbers c ≡ Some k → k < count
  pub own : (c k : ℕ) (d : Conversation) → get nat_cmp numbers c ≡ Some k → (slice_index_or sessions k d).connection ≡ c
  pub each : (k : ℕ) (d : Conversation) → k < count → IsSome (get nat_cmp numbers (slice_index_or sessions k d).connection)

-- the session of that number has this connection
abbrev pub HasConnectionAt : List Conversation → (number connection : ℕ) → Type 0
HasConnectionAt sessions number connection = (d : Conversation) → (slice_index_or sessions number d).connection ≡ connection

-- ---- of one session

-- nothing has been found
abbrev pub not_begun : Found
not_begun = record { messages = 0 }

-- what has not been found so far
pub record Left : Type 0 where
  pub events : List Event
  pub receipts : List Receipt

abbrev pub nothing_left : Left
nothing_left = record { events = []; receipts = [] }

-- what is left of the messages of the one session and of the names that the other has, after what was found
abbrev pub left_of : Conversation → Conversation → Found → Left
left_of asked answered found = record {
  events = drop found.messages asked.events;
  receipts = drop found.messages answered.receipts;
}

-- what the session asks next is the entry's event
abbrev pub FindsEvent : Conversation → Found → Answered → Found → Type 0
FindsEvent asked found entry next = drop found.messages asked.events ≡ entry.event ∷ drop next.messages asked.events

-- its next answer has this name
abbrev pub FindsReceipt : Conversation → Found → Receipt → Found → Type 0
FindsReceipt answered found place next = drop found.messages answered.receipts ≡ place ∷ drop next.messages answered.receipts

-- between the one and the other these entries are found, the first of which is at that index of its segment
pub record Finds (c number index : ℕ) (xs : List Answered) (before after : Left) : Type 0 where
  pub events : before.events ≡ asked_by c xs ++ after.events
  pub receipts : before.receipts ≡ named_in c number index xs ++ after.receipts

-- these segments are found
pub record FindsAll (c : ℕ) (ps : List Piece) (before after : Left) : Type 0 where
  pub events : before.events ≡ asked_by c (joined ps) ++ after.events
  pub receipts : before.receipts ≡ named_for c ps ++ after.receipts

-- ---- of all sessions

-- the same of the sessions at that place
abbrev pub left_at : List Conversation → List Conversation → List Found → ℕ → Conversation → Found → Left
left_at asked answered found k d f = left_of (slice_index_or asked k d) (slice_index_or answered k d) (slice_index_or found k f)

-- whether each entry is of a session's connection
abbrev pub are_known : List Conversation → List Answered → Bool
are_known sessions xs = list_all (λ x. is_known sessions x.event.conn) xs

-- these entries are found, each of them in one of the sessions
pub record FindsEach (asked answered : List Conversation) (before after : List Found) (number index : ℕ) (xs : List Answered) : Type 0 where
  pub count : length after ≡ length before
  pub known : are_known asked xs ≡ true
  pub each : (k : ℕ) (d : Conversation) (f : Found) → k < length asked
      → Finds (slice_index_or asked k d).connection number index xs (left_at asked answered before k d f) (left_at asked answered after k d f)

-- one entry is found, which has this name
abbrev pub FindsEntry : (asked answered : List Conversation) → (before after : List Found) → Receipt → Answered → Type 0
FindsEntry asked answered before after place entry = FindsEach asked answered before after place.segment place.index (entry ∷ [])

-- the entries of one segment are
abbrev pub FindsSegment : (asked answered : List Conversation) → (before after : List Found) → Piece → Type 0
FindsSegment asked answered before after p = FindsEach asked answered before after p.number 0 p.entries

-- these segments are found
pub record FindsSegments (asked answered : List Conversation) (before after : List Found) (ps : List Piece) : Type 0 where
  pub count : length after ≡ length before
  pub known : are_known asked (joined ps) ≡ true
  pub each : (k : ℕ) (d : Conversation) (f : Found) → k < length asked
      → FindsAll (slice_index_or asked k d).connection ps (left_at asked answered before k d f) (left_at asked answered after k d f)

-- the sessions, as many of them, have the same connections, and nothing of them is left
pub record AreFound (asked answered : List Conversation) (found : List Found) (count : ℕ) : Type 0 where
  pub connections : (k : ℕ) (d : Conversation) → k < count → (slice_index_or answered k d).connection ≡ (slice_index_or asked k d).connection
  pub nothing : (k : ℕ) (d : Conversation) (f : Found) → k < count → left_at asked answered found k d f ≡ nothing_left
