-- What moves leave of the objects, of a directory's members and of a handle's target, by what stood before them; and how many records,
-- objects and directories there are then. Own.
use Rattle.std.specs.Prelude.{◌≡◌, ℕ, ◌+◌, ◌-◌, ◌^◌, List, [], ◌∷◌, ◌++◌, Bool, true, false, not, ◌&&◌, ◌||◌, ◌==◌, nat_lt, if◌then◌else◌, Option, Some, None, is_none, option_and_then, filter, fold, length, map}
use Rattle.std.specs.Option.{option_map_or, option_or}
use Rattle.std.specs.List.{filter_map}
use Rattle.pps_types.specs.Names.{name_cmp, insert_by}
use Rattle.pps_types.specs.History.{line_of}
use Rattle.pps_types.specs.Reading.{OpenHandle, is_directory_kind, Member}
use Rattle.pps_types.specs.Rests.{Progress}
use Rattle.pps_types.specs.Content.{Content, LiveObject, object_numbered, object_in, members, member}
use Rattle.pps_types.specs.Plan.{Move, Creates, AppendsRecord, MakesDirectory, still_known, touched, apply_seen}
use Rattle.service_laws.specs.Told.{entries_told}

-- ---- objects

-- what a move leaves of the object of a number, if it is alive
abbrev pub object_by : ℕ → Option LiveObject → Move → Option LiveObject
object_by n known (Creates o) = option_or known (if o.number == n then Some (record { object = o; attributes = [] }) else None)
object_by n known (AppendsRecord e) = if e.record_of.object == n then option_and_then (λ o. still_known o e.record_of.kind) known else known
object_by n known _ = known

-- and a list of moves
abbrev pub object_after : List Move → ℕ → Option LiveObject → Option LiveObject
object_after ms n known = fold (object_by n) known ms

-- what a move leaves of the alive objects
abbrev pub objects_by : List LiveObject → Move → List LiveObject
objects_by os (Creates o) = os ++ record { object = o; attributes = [] } ∷ []
objects_by os (AppendsRecord e) = filter_map (touched e) os
objects_by os _ = os

-- and a list of moves
abbrev pub objects_after : List Move → List LiveObject → List LiveObject
objects_after ms os = fold objects_by os ms

-- ---- members

-- the name of an object that a move creates is free in its directory
abbrev pub NameIsFree : Content → Move → Type 0
NameIsFree c (Creates o) = object_in c o.name o.directory ≡ None
NameIsFree c _ = Unit {0}

-- each where those before it took effect
abbrev pub NamesAreFree : Content → List Move → Type 0
NamesAreFree c [] = Unit {0}
NamesAreFree c (x ∷ xs) = NameIsFree c x × NamesAreFree (apply_seen x c) xs

-- what a move leaves of a directory's members, which stand in byte order of their names
abbrev pub members_by : ℕ → List LiveObject → Move → List LiveObject
members_by directory os (Creates o) = if o.directory == directory then insert_by name_cmp (λ k. k.object.name) (record { object = o; attributes = [] }) os else os
members_by directory os (AppendsRecord e) = filter_map (touched e) os
members_by directory os _ = os

-- and a list of moves, of the members of that directory
abbrev pub members_after : List Move → ℕ → List LiveObject → List LiveObject
members_after ms directory os = fold (members_by directory) os ms

-- ---- a handle's target

-- its members after moves: an object is its own one member, a dead one too
abbrev pub target_members_after : Content → List Move → OpenHandle Progress → List Member
target_members_after c ms handle =
    if is_directory_kind handle.kind then map member (members_after ms handle.target (members c handle.target))
    else record {
      name = handle.name;
      lines = map line_of (option_map_or (λ o. o.attributes) (object_after ms handle.target (object_numbered c handle.target)) []);
    } ∷ []

-- whether it is a dead object after them
abbrev pub target_is_dead_after : Content → List Move → OpenHandle Progress → Bool
target_is_dead_after c ms handle =
    not (is_directory_kind handle.kind) && is_none (object_after ms handle.target (object_numbered c handle.target))

-- ---- how many there are

-- moves that create an object, and that make a directory
abbrev pub makes_object : Move → Bool
makes_object (Creates o) = true
makes_object _ = false

abbrev pub makes_directory : Move → Bool
makes_directory (MakesDirectory path) = true
makes_directory _ = false

-- whether the last number is passed once so many more records, objects and directories were made
abbrev pub last_number_passed : Content → ℕ → ℕ → ℕ → Bool
last_number_passed c records objects directories =
    nat_lt (2 ^ 64 - 1) (c.records + records) || nat_lt (2 ^ 64 - 1) (c.next_object + objects)
    || nat_lt (2 ^ 64 - 1) (c.next_directory + directories)

-- the same of what moves make
abbrev pub last_number_passed_after : Content → List Move → Bool
last_number_passed_after c ms =
    last_number_passed c (length (entries_told ms)) (length (filter makes_object ms)) (length (filter makes_directory ms))
