-- What stands is well formed: numbers rise, directories and objects form a tree, handles are on what was made, a server object has its server, and what a handle has seen fits it. Own.
use Rattle.std.specs.Prelude.{◌≡◌, ◌≤◌, ◌<◌, ℕ, ◌+◌, List, [], ◌∷◌, Bool, true, false, not, ◌&&◌, ◌==◌, Option, Some, None, is_some, find, map, option_map}
use Rattle.std.specs.Option.{option_map_or}
use Rattle.std.specs.List.{AllByRecursion}
use Rattle.pps_types.specs.declared.handle_kind.HandleKind.{HandleKind}
use Rattle.pps_types.specs.declared.handle_kind.HandleKind.TheVariants.{Object as ObjectHandle, Server as ServerHandle, Client as ClientHandle}
use Rattle.pps_types.specs.Reading.{OpenHandle, Style, Full, Delta, Queue, style, is_directory_kind, visible}
use Rattle.pps_types.specs.Rests.{Progress, News, Over, Owed, seen_of}
use Rattle.pps_types.specs.History.{Entry}
use Rattle.pps_types.specs.Content.{Object, Directory, Content, directory_at, object_at, object_in, object_numbered, handle_numbered, is_attached, news}
use Rattle.pps_types.specs.Names.{parent}
use Rattle.pps_types.specs.Checks.{is_server}

-- ---- numbers

-- from low on, each above the one before, all below high
abbrev pub RiseBetween : ℕ → List ℕ → ℕ → Type 0
RiseBetween low [] high = low ≤ high
RiseBetween low (n ∷ ns) high = (low ≤ n) × RiseBetween (n + 1) ns high

-- All stand in rising number, below the number of the next one. Connections have the numbers 1 to 1,024.
pub record AreInOrder (c : Content) : Type 0 where
  pub handles_rise : RiseBetween 0 (map (λ handle. handle.number) c.handles) c.next_handle
  pub objects_rise : RiseBetween 0 (map (λ o. o.object.number) c.objects) c.next_object
  pub directories_rise : RiseBetween 0 (map (λ d. d.number) c.directories) c.next_directory
  pub connections_rise : RiseBetween 1 (map (λ x. x.number) c.connections) 1025

-- ---- directories and objects

abbrev pub directory_numbered : Content → ℕ → Option Directory
directory_numbered c number = find (λ d. d.number == number) c.directories

-- root: it has the number 0. parents: the parent of each directory stands, the root being its own.
-- paths: each directory is what stands at its path, so no two have one. free: no object is there.
-- names: each object is what its directory has under its name, so no two have one. places: that directory stands.
pub record AreTree (c : Content) : Type 0 where
  pub root : directory_at c [] ≡ Some (record { number = 0; path = [] })
  pub parents : AllByRecursion (λ d. is_some (directory_at c (parent d.path)) ≡ true) c.directories
  pub paths : AllByRecursion (λ d. directory_at c d.path ≡ Some d) c.directories
  pub free : AllByRecursion (λ d. object_at c d.path ≡ None) c.directories
  pub names : AllByRecursion (λ o. object_in c o.object.name o.object.directory ≡ Some o) c.objects
  pub places : AllByRecursion (λ o. is_some (directory_numbered c o.object.directory) ≡ true) c.objects

-- ---- what handles are on

-- A directory that is a target stands. An object that is one was made, and may be dead.
abbrev pub IsTarget : Content → ℕ → Bool → Type 0
IsTarget c target true = is_some (directory_numbered c target) ≡ true
IsTarget c target false = target < c.next_object

-- the connection of each handle is attached
pub record AreHeld (c : Content) : Type 0 where
  pub owners : AllByRecursion (λ handle. is_attached c handle.connection ≡ true) c.handles
  pub targets : AllByRecursion (λ handle. IsTarget c handle.target (is_directory_kind handle.kind)) c.handles

-- ---- servers

-- the handle of that number is open, a server's, and on that object
abbrev pub is_server_of : Content → ℕ → ℕ → Bool
is_server_of c object number = option_map_or (λ handle. is_server handle.kind && (handle.target == object)) (handle_numbered c number) false

abbrev pub has_server : Content → Object → Bool
has_server c o = option_map_or (is_server_of c o.number) o.server true

-- the server of an alive object: none of a plain one
abbrev pub server_of : Content → ℕ → Option (Option ℕ)
server_of c object = option_map (λ o. o.object.server) (object_numbered c object)

-- What a handle's object may be, where it is alive. A server's is, and names that handle; a client's is a server object; any other's is none.
abbrev pub may_be_on : HandleKind → ℕ → Option (Option ℕ) → Bool
may_be_on ServerHandle number (Some (Some server)) = server == number
may_be_on ServerHandle number (Some None) = false
may_be_on ServerHandle number None = false
may_be_on ClientHandle number (Some server) = is_some server
may_be_on (ObjectHandle delta) number (Some server) = not (is_some server)
may_be_on _ number server = true

-- servers: the server of each server object is open. users: each handle is on an object for its kind, so no other server is on one.
pub record AreServed (c : Content) : Type 0 where
  pub servers : AllByRecursion (λ o. has_server c o.object ≡ true) c.objects
  pub users : AllByRecursion (λ handle. may_be_on handle.kind handle.number (server_of c handle.target) ≡ true) c.handles

-- ---- what handles have seen

-- in full mode it is told whether there is news, in the others what is owed; only in delta mode is there a limit to pass
abbrev pub fits : Style → Progress → Bool
fits Full (News b) = true
fits Full s = false
fits Delta (News b) = false
fits Delta s = true
fits Queue (News b) = false
fits Queue Over = false
fits Queue s = true

-- what it is owed is within its limit, where it has one
abbrev pub IsWhole : {S : Type 0} → OpenHandle S → Progress → Type 0
IsWhole handle (Owed rest) = seen_of handle rest ≡ Owed rest
IsWhole handle s = Unit {0}

-- what it is owed begins with a record that it sees
abbrev pub begins : (Entry → Bool) → List Entry → Bool
begins test [] = true
begins test (e ∷ es) = test e

abbrev pub HasFirst : {S : Type 0} → OpenHandle S → Progress → Type 0
HasFirst handle (Owed rest) = begins (visible handle) rest ≡ true
HasFirst handle s = Unit {0}

pub record AreTold (c : Content) : Type 0 where
  pub fitting : AllByRecursion (λ handle. fits (style handle.kind) handle.seen ≡ true) c.handles
  pub whole : AllByRecursion (λ handle. IsWhole handle handle.seen) c.handles
  pub first : AllByRecursion (λ handle. HasFirst handle handle.seen) c.handles

-- ---- parked reads

-- only a handle that waits has one, and only while it has no news
pub record AreParked (c : Content) : Type 0 where
  pub idle : AllByRecursion (λ handle. is_some handle.parked ≡ true → (handle.options.wait ≡ true) × (news handle ≡ false)) c.handles

-- ---- all of it

pub record IsContent (c : Content) : Type 0 where
  pub order : AreInOrder c
  pub tree : AreTree c
  pub held : AreHeld c
  pub served : AreServed c
  pub told : AreTold c
  pub parked : AreParked c
