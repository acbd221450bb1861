-- Everything of a directory, by its objects as they are lent.
use Rattle.std.specs.Prelude.{ℕ, List, [], Bool, true, false, Option, Some, None, map, length}
use Rattle.std.specs.Borrow.{Bor}
use Rattle.std.specs.Option.{option_copied}
use Rattle.std.specs.List.{filter_map, flat_map}
use Rattle.pps_types.specs.declared.handle_kind.HandleKind.{HandleKind}
use Rattle.pps_types.specs.Filter.{Part}
use Rattle.pps_types.specs.Reading.{Answer, Member, whole_answer}
use Rattle.pps_types.specs.Content.{LiveObject, member}
use Rattle.name_table.specs.Standing.{Placed, known_of}
use Rattle.server_queue.specs.declared.plan.GivenBlocks.{GivenBlocks}
use Rattle.whole_texts.specs.Answered.{answer_by}
use Rattle.whole_texts.specs.Whole.{Source, print_one, everything}

-- the part of an object, where one is there
abbrev pub part_of : HandleKind → Option (List Part) → Option LiveObject → List ℕ
part_of kind parts None = []
part_of kind parts (Some o) = print_one kind parts false true (member o)

-- the parts of all that are there
abbrev pub parts_of : HandleKind → Option (List Part) → List (Option LiveObject) → List ℕ
parts_of kind parts os = flat_map (part_of kind parts) os

-- what everything of a directory is read from
abbrev pub directory_source : HandleKind → Option (List Part) → Bool → List (Option LiveObject) → Source
directory_source kind parts over os = record { kind = kind; parts = parts; over = over; alive = true; members = map member (filter_map (λ o. o) os) }

-- the objects that are there, in their order
abbrev pub members_of : List (Option LiveObject) → List Member
members_of os = map member (filter_map (λ o. o) os)

-- ---- by the filter as it is lent

-- the length of an object's part
abbrev pub part_len : HandleKind → Option (Bor (List Part)) → Placed → ℕ
part_len kind filter o = length (print_one kind (option_copied filter) false true (member (known_of o)))

-- the length of all parts
abbrev pub parts_len : HandleKind → Option (Bor (List Part)) → List (Option LiveObject) → ℕ
parts_len kind filter os = length (parts_of kind (option_copied filter) os)

-- the length of everything
abbrev pub everything_len : HandleKind → Option (Bor (List Part)) → Bool → List (Option LiveObject) → ℕ
everything_len kind filter over os = length (everything (directory_source kind (option_copied filter) over os))

-- what a read of at most so many bytes answers that is given everything
abbrev pub whole_given : HandleKind → Option (Bor (List Part)) → Bool → List (Option LiveObject) → ℕ → Answer
whole_given kind filter over os size = whole_answer (everything (directory_source kind (option_copied filter) over os)) size

-- and what it answers by the blocks that it is owed, where these are lent
abbrev pub directory_answer : HandleKind → Option (Bor (List Part)) → Bool → List (Option LiveObject) → Bool → ℕ → Option GivenBlocks
    → Answer
directory_answer kind filter over os waits size owed =
    answer_by (directory_source kind (option_copied filter) over os) waits size owed
