-- The plain words: what a handle is owed, whether it is past its limit, whether it has news, what a read answers and how many records
-- have to be kept, each straight from the history and the cursor. That what stands says the same is proved. Own.
use Rattle.std.specs.Prelude.{ℕ, ◌+◌, List, [], ◌∷◌, Bool, true, false, not, ◌&&◌, ◌||◌, ◌==◌, nat_lt, if◌then◌else◌, Option, Some, None, is_none, is_some, option_map, option_and_then, filter, find, map, length, drop, min, max}
use Rattle.std.specs.Option.{option_map_or}
use Rattle.std.specs.List.{filter_map}
use Rattle.pps_types.specs.declared.found.Found.{Found}
use Rattle.pps_types.specs.declared.found.Found.TheVariants.{Object as FoundObject, Directory as FoundDirectory}
use Rattle.pps_types.specs.Bytes.{is_empty}
use Rattle.pps_types.specs.Names.{Path, name_cmp, sorted_by}
use Rattle.pps_types.specs.History.{Entry, line_of}
use Rattle.pps_types.specs.declared.handle_kind.HandleKind.TheVariants.{Object as ObjectHandle, Names as NamesHandle}
use Rattle.pps_types.specs.Reading.{OpenHandle, style, is_full_style, is_delta_style, is_directory_kind, visible, is_chained, block, Member, everything_of, Answer, whole_answer, owed_answer}
use Rattle.pps_types.specs.Rests.{Progress, Owed}
use Rattle.pps_types.specs.Content.{LiveObject, Content, at, member, handle_numbered}
use Rattle.pps_types.specs.Machine.{Machine, known, content_of}

-- ---- owed, over, news

-- the visible records from the cursor on; without a cursor none
abbrev pub owed : {S : Type 0} → OpenHandle S → List Entry → Option ℕ → List Entry
owed handle history None = []
owed handle history (Some cursor) = filter (visible handle) (drop cursor history)

-- more of them than the limit of a handle in delta mode
abbrev pub is_past_limit : {S : Type 0} → OpenHandle S → List Entry → Bool
is_past_limit handle debt = is_delta_style (style handle.kind) && nat_lt handle.limit (length debt)

-- it reads, and it has not read yet or is owed something
abbrev pub has_news : {S : Type 0} → OpenHandle S → List Entry → Option ℕ → Bool
has_news handle history cursor = handle.reads && (is_none cursor || not (is_empty (owed handle history cursor)))

-- ---- everything

-- the alive objects directly in a directory, in byte order of names
abbrev pub alive_members : Machine → ℕ → List LiveObject
alive_members m directory = sorted_by name_cmp (λ o. o.object.name) (filter_map (known m.history) (filter (λ o. o.directory == directory) m.objects))

-- the object of that number, where it is alive
abbrev pub alive_object : Machine → ℕ → Option LiveObject
alive_object m number = option_and_then (known m.history) (find (λ o. o.number == number) m.objects)

abbrev pub is_dead : {S : Type 0} → Machine → OpenHandle S → Bool
is_dead m handle = not (is_directory_kind handle.kind) && is_none (alive_object m handle.target)

abbrev pub members_of_target : {S : Type 0} → Machine → OpenHandle S → List Member
members_of_target m handle =
    if is_directory_kind handle.kind then map member (alive_members m handle.target)
    else record { name = handle.name; lines = map line_of (option_map_or (λ o. o.attributes) (alive_object m handle.target) []) } ∷ []

-- ---- the answer

-- at the first read, past the limit, and in full mode with news
abbrev pub takes_everything : {S : Type 0} → OpenHandle S → List Entry → Option ℕ → Bool
takes_everything handle debt cursor =
    is_none cursor || is_past_limit handle debt || (is_full_style (style handle.kind) && not (is_empty debt))

-- Everything; or else the longest run of whole owed blocks that fits; or else that the object is gone, that the read waits, or nothing.
abbrev pub answer_with : {S : Type 0} → OpenHandle S → List Entry → Option ℕ → List ℕ → Bool → ℕ → Answer
answer_with handle history cursor everything dead max =
    if takes_everything handle (owed handle history cursor) cursor then whole_answer everything max
    else owed_answer handle.options.wait (map (block handle) (owed handle history cursor)) dead max

abbrev pub answer_of : Machine → OpenHandle (Option ℕ) → ℕ → Answer
answer_of m handle max =
    answer_with handle m.history handle.seen
    (everything_of handle.kind handle.options.filter (is_past_limit handle (owed handle m.history handle.seen)) (not (is_dead m handle)) (members_of_target m handle)) (is_dead m handle) max

-- ---- how much a handle is owed

-- none of no such handle, of one in full mode, of one without a cursor and of one past its limit
abbrev pub owed_by : Machine → ℕ → Option ℕ
owed_by m number =
    option_and_then (λ handle. counted handle (is_some handle.seen && not (is_full_style (style handle.kind)) && not (is_past_limit handle (owed handle m.history handle.seen)))) (find (λ handle. handle.number == number) m.handles)
  where
    counted : OpenHandle (Option ℕ) → Bool → Option ℕ
    counted handle counts = if counts then Some (length (owed handle m.history handle.seen)) else None

abbrev pub owed_in_seen : OpenHandle Progress → Progress → Option ℕ
owed_in_seen handle (Owed rest) = Some (length (filter (visible handle) rest))
owed_in_seen handle seen = None

-- the same, of what stands
abbrev pub owed_by_seen : Content → ℕ → Option ℕ
owed_by_seen c number = option_and_then (λ handle. owed_in_seen handle handle.seen) (handle_numbered c number)

-- ---- how much is kept

-- a record of a directory's or an object's chain
abbrev pub in_chain : Bool → ℕ → Entry → Bool
in_chain true target e = (e.directory == target) && is_chained NamesHandle e.record_of.kind
in_chain false target e = (e.record_of.object == target) && is_chained (ObjectHandle true) e.record_of.kind

-- how far the first that passes is from the front
abbrev pub first_place : (Entry → Bool) → ℕ → List Entry → Option ℕ
first_place test n [] = None
first_place test n (e ∷ es) = if test e then Some n else first_place test (n + 1) es

-- the place of the first record that it is owed
abbrev pub first_owed : {S : Type 0} → OpenHandle S → List Entry → Option ℕ → Option ℕ
first_owed handle history None = None
first_owed handle history (Some cursor) = first_place (visible handle) cursor (drop cursor history)

abbrev pub older : Option ℕ → Option ℕ → Option ℕ
older None b = b
older (Some a) None = Some a
older (Some a) (Some b) = Some (min a b)

abbrev pub same_flag : Bool → Bool → Bool
same_flag true b = b
same_flag false b = not b

-- a handle in delta mode, or a names handle, of that directory or object
abbrev pub is_of : {S : Type 0} → Bool → ℕ → OpenHandle S → Bool
is_of directory target handle =
    is_delta_style (style handle.kind) && same_flag (is_directory_kind handle.kind) directory && (handle.target == target)

-- the place of the oldest record that is owed to one of them that is not past its limit
abbrev pub oldest : Bool → ℕ → List Entry → List (OpenHandle (Option ℕ)) → Option ℕ
oldest directory target history [] = None
oldest directory target history (handle ∷ handles) =
    older (if is_of directory target handle && not (is_past_limit handle (owed handle history handle.seen)) then first_owed handle history handle.seen else None)
    (oldest directory target history handles)

-- the records of a directory or an object from a place in the history on
abbrev pub records_from : Bool → ℕ → List Entry → Option ℕ → List Entry
records_from directory target history None = []
records_from directory target history (Some place) = filter (in_chain directory target) (drop place history)

-- the records of an object or a directory from the oldest that is owed, up to the newest
abbrev pub kept_records : Machine → Bool → ℕ → List Entry
kept_records m directory target = records_from directory target m.history (oldest directory target m.history m.handles)

-- how many they are
abbrev pub kept_of : Machine → Bool → ℕ → ℕ
kept_of m directory target = length (kept_records m directory target)

abbrev pub kept_at : (Bool → ℕ → ℕ) → Found → ℕ
kept_at count (FoundObject number) = count false number
kept_at count (FoundDirectory number) = count true number

-- of what a path names, if anything
abbrev pub kept : Machine → Path → Option ℕ
kept m path = option_map (kept_at (kept_of m)) (at (content_of m) path)

-- ---- the same, of what stands

abbrev pub rest_seen : Progress → List Entry
rest_seen (Owed rest) = rest
rest_seen _ = []

-- the length of the longest rest
abbrev pub longest : Bool → ℕ → List (OpenHandle Progress) → ℕ
longest directory target [] = 0
longest directory target (handle ∷ handles) =
    max (if is_of directory target handle then length (rest_seen handle.seen) else 0) (longest directory target handles)

abbrev pub kept_seen : Content → Path → Option ℕ
kept_seen c path = option_map (kept_at (λ directory target. longest directory target c.handles)) (at c path)

-- the longer of two lists, the first where they are equally long
abbrev pub longer : List Entry → List Entry → List Entry
longer first second = if nat_lt (length first) (length second) then second else first

-- the longest rest of the delta and names handles of that directory or object
abbrev pub longest_rest : Bool → ℕ → List (OpenHandle Progress) → List Entry
longest_rest directory target [] = []
longest_rest directory target (handle ∷ handles) =
    longer (if is_of directory target handle then rest_seen handle.seen else []) (longest_rest directory target handles)

-- the records of an object or a directory that have to be kept
abbrev pub kept_records_seen : Content → Bool → ℕ → List Entry
kept_records_seen c directory target = longest_rest directory target c.handles
