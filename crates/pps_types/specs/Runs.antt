-- Runs of the machine: replies, marks for want of memory, and events with their answers. Own.
use Rattle.std.specs.Prelude.{◌≡◌, List, [], ◌∷◌, ◌++◌, true, ◌==◌, ℕ, if◌then◌else◌, map}
use Rattle.std.specs.List.{flat_map}
use Rattle.pps_types.specs.declared.event.Event.{Event}
use Rattle.pps_types.specs.declared.outcome.Item.{Item}
use Rattle.pps_types.specs.Outcome.{Reply, is_marked}
use Rattle.pps_types.specs.Content.{Content}
use Rattle.pps_types.specs.Plan.{Move, Queues, plan, step_seen, may_lack_memory}
use Rattle.pps_types.specs.Machine.{Machine, content_of, step, marked_step}

-- ---- with all memory

-- the replies, in order
abbrev pub replies : Machine → List Event → List Reply
replies m [] = []
replies m (e ∷ es) = (step m e).0 ∷ replies (step m e).1 es

-- the same, of what stands
abbrev pub replies_seen : Content → List Event → List Reply
replies_seen c [] = []
replies_seen c (e ∷ es) = (step_seen c e).0 ∷ replies_seen (step_seen c e).1 es

-- the machine after all of them
abbrev pub after : Machine → List Event → Machine
after m [] = m
after m (e ∷ es) = after (step m e).1 es

abbrev pub after_seen : Content → List Event → Content
after_seen c [] = c
after_seen c (e ∷ es) = after_seen (step_seen c e).1 es

-- ---- with marks

-- An event and its reply. The event is marked where the reply is OutOfMemory.
pub record Answered : Type 0 where
  pub event : Event
  pub reply : Reply

-- each event with its reply, as far as both go
abbrev pub answered : List Event → List Reply → List Answered
answered [] replies = []
answered (e ∷ es) [] = []
answered (e ∷ es) (r ∷ rs) = record { event = e; reply = r } ∷ answered es rs

abbrev pub events_of : List Answered → List Event
events_of answered = map (λ x. x.event) answered

abbrev pub after_answered : Machine → Answered → Machine
after_answered m x = (marked_step m x.event (is_marked x.reply)).1

-- the reply is the machine's, and it is marked only where a mark may stand
pub record IsReply (m : Machine) (e : Event) (reply : Reply) : Type 0 where
  pub replied : reply ≡ (marked_step m e (is_marked reply)).0
  pub allowed : is_marked reply ≡ true → may_lack_memory (content_of m) e ≡ true

-- one after the other
abbrev pub IsRun : Machine → List Answered → Type 0
IsRun m [] = Unit {0}
IsRun m (x ∷ xs) = IsReply m x.event x.reply × IsRun (after_answered m x) xs

abbrev pub end_of : Machine → List Answered → Machine
end_of m [] = m
end_of m (x ∷ xs) = end_of (after_answered m x) xs

-- ---- what a connection meets

abbrev pub queued_by : ℕ → Move → List Item
queued_by conn (Queues to item) = if to == conn then item ∷ [] else []
queued_by conn move = []

-- the items that one event queues for a connection
abbrev pub items_queued : ℕ → Machine → Answered → List Item
items_queued conn m x = if is_marked x.reply then [] else flat_map (queued_by conn) (plan (content_of m) x.event).1

-- all items that a run queues for a connection, in order
abbrev pub queued_in : ℕ → Machine → List Answered → List Item
queued_in conn m [] = []
queued_in conn m (x ∷ xs) = items_queued conn m x ++ queued_in conn (after_answered m x) xs

-- the replies to a connection, in order
abbrev pub replies_to : ℕ → List Answered → List Reply
replies_to conn [] = []
replies_to conn (x ∷ xs) = if x.event.conn == conn then x.reply ∷ replies_to conn xs else replies_to conn xs
