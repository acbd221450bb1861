-- The machine: all records that were ever made, the names, and a cursor for each open handle; what stands of them; and its steps. Own.
use Rattle.std.specs.Prelude.{◌≡◌, ◌≤◌, ℕ, ◌+◌, List, [], ◌∷◌, ◌++◌, Bool, true, false, not, ◌==◌, if◌then◌else◌, Option, Some, None, is_some, Err, find, map, option_map, length, drop}
use Rattle.std.specs.List.{filter_map, AllByRecursion}
use Rattle.pps_types.specs.declared.event.Event.{Event}
use Rattle.pps_types.specs.declared.refusal.Refusal.TheVariants.{OutOfMemory}
use Rattle.pps_types.specs.declared.record.Kind.{Kind}
use Rattle.pps_types.specs.declared.handle_kind.HandleKind.{HandleKind}
use Rattle.pps_types.specs.declared.handle_kind.HandleKind.TheVariants.{Object as ObjectHandle, Directory as DirectoryHandle, Names as NamesHandle, Server as ServerHandle, Client as ClientHandle}
use Rattle.pps_types.specs.declared.record.Kind.TheVariants.{Created}
use Rattle.pps_types.specs.Outcome.{Reply}
use Rattle.pps_types.specs.History.{Entry, state, is_alive}
use Rattle.pps_types.specs.Reading.{OpenHandle, reseen, Style, Queue, style, visible}
use Rattle.pps_types.specs.Rests.{Progress, Owed, seen_with, behind}
use Rattle.pps_types.specs.Outbox.{behind_first}
use Rattle.pps_types.specs.Content.{Object, Directory, LiveObject, Connection, Content}
use Rattle.pps_types.specs.Checks.{checks}
use Rattle.pps_types.specs.WellFormed.{IsContent, server_of}
use Rattle.pps_types.specs.Plan.{Move, Attaches, Leaves, Creates, AppendsRecord, Opens, Closes, CatchesUp, Advances, Parks, Arms, Queues, Takes, MakesDirectory, RemovesDirectory, without_first, on_numbered, without_number, on_connection, with_connection, without_connection, creation, apply_seen, plan, effect, settling, step_seen}

-- A handle has its cursor, a place in the history, from its first read on; a server's or client's from its opening on.
pub record Machine : Type 0 where
  pub default_limit : ℕ
  pub history : List Entry
  pub objects : List Object
  pub directories : List Directory
  pub next_directory : ℕ
  pub handles : List (OpenHandle (Option ℕ))
  pub next_handle : ℕ
  pub connections : List Connection

-- the root alone, with the number of the first handle and the limit of handles that name none
abbrev pub start : ℕ → ℕ → Machine
start first_handle default_limit = record {
  default_limit = default_limit;
  history = [];
  objects = [];
  directories = record { number = 0; path = [] } ∷ [];
  next_directory = 1;
  handles = [];
  next_handle = first_handle;
  connections = [];
}

-- ---- what stands

-- an object, where it is alive
abbrev pub known : List Entry → Object → Option LiveObject
known history o = if is_alive o.number history then Some (record { object = o; attributes = state o.number history }) else None

abbrev pub shown_handle : List Entry → OpenHandle (Option ℕ) → OpenHandle Progress
shown_handle history = reseen (λ handle. seen_with handle history handle.seen)

abbrev pub content_of : Machine → Content
content_of m = record {
  default_limit = m.default_limit;
  records = length m.history;
  objects = filter_map (known m.history) m.objects;
  next_object = length m.objects;
  directories = m.directories;
  next_directory = m.next_directory;
  handles = map (shown_handle m.history) m.handles;
  next_handle = m.next_handle;
  connections = m.connections;
}

-- ---- what a move does

abbrev pub first_cursor : Style → ℕ → Option ℕ
first_cursor Queue end = Some end
first_cursor _ end = None

-- the cursor behind the first records that it is owed, that many
abbrev pub passed_with : OpenHandle (Option ℕ) → List Entry → ℕ → Progress → Option ℕ → Option ℕ
passed_with handle history count (Owed rest) (Some cursor) = Some (cursor + behind (visible handle) count (drop cursor history))
passed_with handle history count seen cursor = cursor

abbrev pub passed : OpenHandle (Option ℕ) → List Entry → ℕ → Option ℕ → Option ℕ
passed handle history count cursor = passed_with handle history count (seen_with handle history cursor) cursor

-- a record goes to the end of the history, and a read moves a cursor
abbrev pub apply : Move → Machine → Machine
apply (Attaches conn) m = record m { connections = with_connection conn m.connections }
apply (Leaves conn) m = record m { connections = without_connection conn m.connections }
apply (Creates o) m = record m { objects = m.objects ++ o ∷ []; history = m.history ++ creation o ∷ [] }
apply (AppendsRecord e) m = record m { history = m.history ++ e ∷ [] }
apply (Opens handle) m =
    record m { handles = m.handles ++ reseen (λ handle. first_cursor (style handle.kind) (length m.history)) handle ∷ []; next_handle = m.next_handle + 1 }
apply (Closes number) m = record m { handles = without_number number m.handles }
apply (CatchesUp number) m = record m { handles = on_numbered number (reseen (λ handle. Some (length m.history))) m.handles }
apply (Advances number count) m =
    record m { handles = on_numbered number (reseen (λ handle. passed handle m.history count handle.seen)) m.handles }
apply (Parks number size) m = record m { handles = on_numbered number (λ handle. record handle { parked = size }) m.handles }
apply (Arms number pulse) m = record m { handles = on_numbered number (λ handle. record handle { armed = pulse }) m.handles }
apply (Queues conn item) m = record m { connections = on_connection conn (λ items. items ++ item ∷ []) m.connections }
apply (Takes conn) m = record m { connections = on_connection conn behind_first m.connections }
apply (MakesDirectory path) m = record m { directories = m.directories ++ record { number = m.next_directory; path = path } ∷ []; next_directory = m.next_directory + 1 }
apply (RemovesDirectory number) m = record m { directories = without_first (λ d. d.number == number) m.directories }

-- one after the other
abbrev pub apply_all : List Move → Machine → Machine
apply_all [] m = m
apply_all (x ∷ xs) m = apply_all xs (apply x m)

-- ---- the step

-- the plan is read off what stands
unfoldable pub step : Machine → Event → Reply × Machine
step m e = ((plan (content_of m) e).0, apply_all (plan (content_of m) e).1 m)

-- a marked event wants memory, and changes nothing
abbrev pub marked_step : Machine → Event → Bool → Reply × Machine
marked_step m e mark = if mark then (Err OutOfMemory, m) else step m e

-- ---- machines that are well formed

abbrev pub IsWithin : ℕ → Option ℕ → Type 0
IsWithin end None = Unit {0}
IsWithin end (Some cursor) = cursor ≤ end

-- from n on, one after the other
abbrev pub AreCounted : ℕ → List Object → Type 0
AreCounted n [] = Unit {0}
AreCounted n (o ∷ os) = (o.number ≡ n) × AreCounted (n + 1) os

-- the server of an object that was made, alive or dead: none of a plain one
abbrev pub server_made : Machine → ℕ → Option (Option ℕ)
server_made m object = option_map (λ o. o.server) (find (λ o. o.number == object) m.objects)

-- the object was made; a server's and a client's is a server object, and any other object's handle is on a plain one
abbrev pub is_for : HandleKind → Option (Option ℕ) → Bool
is_for ServerHandle (Some server) = is_some server
is_for ServerHandle None = false
is_for ClientHandle (Some server) = is_some server
is_for ClientHandle None = false
is_for (ObjectHandle delta) (Some server) = not (is_some server)
is_for (ObjectHandle delta) None = false
is_for (DirectoryHandle delta) made = true
is_for NamesHandle made = true

-- the record is of an object that was made, under its directory and its name
pub record IsRecorded (objects : List Object) (e : Entry) : Type 0 where
  pub object : Object
  pub made : find (λ o. o.number == e.record_of.object) objects ≡ Some object
  pub in_directory : e.directory ≡ object.directory
  pub under_name : e.name ≡ object.name

-- Objects are numbered 0, 1, 2 and so on, in the order in which they were made; each record is of one of them; no cursor is past the end;
-- each handle is on an object for its kind, alive or dead; and what stands is well formed.
pub record IsMachine (m : Machine) : Type 0 where
  pub counted : AreCounted 0 m.objects
  pub recorded : AllByRecursion (IsRecorded m.objects) m.history
  pub within : AllByRecursion (λ handle. IsWithin (length m.history) handle.seen) m.handles
  pub targets : AllByRecursion (λ handle. is_for handle.kind (server_made m handle.target) ≡ true) m.handles
  pub standing : IsContent (content_of m)

-- All of it but that what stands is well formed, which does not hold between the moves of one event.
pub record IsMade (m : Machine) : Type 0 where
  pub counted : AreCounted 0 m.objects
  pub recorded : AllByRecursion (IsRecorded m.objects) m.history
  pub within : AllByRecursion (λ handle. IsWithin (length m.history) handle.seen) m.handles
  pub targets : AllByRecursion (λ handle. is_for handle.kind (server_made m handle.target) ≡ true) m.handles

-- ---- moves that keep a machine well formed

abbrev pub is_creation : Kind → Bool
is_creation Created = true
is_creation _ = false

-- a new object has the next number, and what happens to one is not that it is created
abbrev pub IsLawful : ℕ → Move → Type 0
IsLawful next (Creates o) = o.number ≡ next
IsLawful next (AppendsRecord e) = is_creation e.record_of.kind ≡ false
IsLawful next _ = Unit {0}

abbrev pub next_after : ℕ → Move → ℕ
next_after next (Creates o) = next + 1
next_after next _ = next

abbrev pub AreLawful : ℕ → List Move → Type 0
AreLawful next [] = Unit {0}
AreLawful next (x ∷ xs) = IsLawful next x × AreLawful (next_after next x) xs

-- the record is of an object that is alive, under its directory and its name
pub record IsOfAlive (objects : List LiveObject) (e : Entry) : Type 0 where
  pub object : LiveObject
  pub found : find (λ o. o.object.number == e.record_of.object) objects ≡ Some object
  pub in_directory : e.directory ≡ object.object.directory
  pub under_name : e.name ≡ object.object.name

-- a handle opens on an object that is alive, for its kind, and only what is alive has records
abbrev pub IsAlive : Content → Move → Type 0
IsAlive c (Opens handle) = is_for handle.kind (server_of c handle.target) ≡ true
IsAlive c (AppendsRecord e) = IsOfAlive c.objects e
IsAlive c x = Unit {0}

-- each where those before it took effect
abbrev pub AreAlive : Content → List Move → Type 0
AreAlive c [] = Unit {0}
AreAlive c (x ∷ xs) = IsAlive c x × AreAlive (apply_seen x c) xs

-- names what opens for a computation of the machine: `unfolding machine` opens it all
unfoldable pub machine : ℕ
unfolding checks effect settling plan step step_seen
machine = 0
