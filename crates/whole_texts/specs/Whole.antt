-- Everything of a target: what it is read from, and its text.
use Rattle.std.specs.Prelude.{◌≡◌, ℕ, List, [], ◌++◌, Bool, true, false, not, ◌&&◌, Option, codes, map}
use Rattle.std.specs.Option.{option_map_or, option_copied, option_to_list}
use Rattle.std.specs.List.{concat}
use Rattle.std.specs.Borrow.{Bor}
use Rattle.pps_types.specs.declared.handle_kind.HandleKind.{HandleKind}
use Rattle.pps_types.specs.declared.handle_kind.HandleKind.TheVariants.{Object as ObjectHandle, Directory as DirectoryHandle, Names as NamesHandle, Server as ServerHandle, Client as ClientHandle}
use Rattle.pps_types.specs.declared.line.Line.{Line}
use Rattle.pps_types.specs.Filter.{Part}
use Rattle.pps_types.specs.History.{line_of}
use Rattle.pps_types.specs.Text.{print_header}
use Rattle.pps_types.specs.Reading as reading
use Rattle.pps_types.specs.Reading.{OpenHandle, Member, print_member, overflow_mark, overflow_line, everything_of, is_directory_kind, whole_answer}
use Rattle.pps_types.specs.Rests.{Progress, is_over}
use Rattle.pps_types.specs.Content.{Content, target_members, target_is_dead}
use Rattle.object_state.specs.Held.{Held}

-- what everything is read from: the handle's kind and filter, whether it is owed more than its limit, and its target
pub record Source : Type 0 where
  pub kind : HandleKind
  pub parts : Option (List Part)
  pub over : Bool
  pub alive : Bool
  pub members : List Member

-- the text of it
abbrev pub everything : Source → List ℕ
everything w = everything_of w.kind w.parts w.over w.alive w.members

-- it is an object's, which is deleted
abbrev pub is_dead : Source → Bool
is_dead w = not (is_directory_kind w.kind) && not w.alive

-- a member's part of everything
abbrev pub print_one : HandleKind → Option (List Part) → Bool → Bool → Member → List ℕ
print_one (ObjectHandle delta) parts over false m = print_header (codes "-") m.name
print_one (ObjectHandle delta) parts over true m = print_member (overflow_mark over) parts m
print_one (DirectoryHandle delta) parts over alive m = print_member [] parts m
print_one NamesHandle parts over alive m = print_header [] m.name
print_one ServerHandle parts over alive m = []
print_one ClientHandle parts over alive m = []

-- what stands before the members
abbrev pub print_opening : HandleKind → Bool → List ℕ
print_opening (DirectoryHandle delta) over = overflow_line over
print_opening NamesHandle over = overflow_line over
print_opening kind over = []

abbrev pub print_all : HandleKind → Option (List Part) → Bool → Bool → List Member → List ℕ
print_all kind parts over alive members = concat (map (print_one kind parts over alive) members)

-- an object's attributes as lines, or none
abbrev pub lines_of : Option Held → List Line
lines_of held = option_map_or (λ o. map line_of o.attributes) held []

-- what everything of a handle's target is read from
abbrev pub source_of : Content → OpenHandle Progress → Source
source_of c handle =
    record { kind = handle.kind; parts = handle.options.filter; over = is_over handle.seen; alive = not (target_is_dead c handle); members = target_members c handle }

-- ---- a read that is answered by everything

-- it gives everything, or the size that it needs
abbrev pub everything_answer : Source → ℕ → reading.Answer
everything_answer w max = whole_answer (everything w) max

-- where everything fits, it gives this text
abbrev pub IsWholeAnswer : Source → ℕ → List ℕ → Type 0
IsWholeAnswer w max text = reading.Everything text ≡ whole_answer (everything w) max

-- ---- by a filter that is lent

-- what everything is read from
abbrev pub lent_source : HandleKind → Option (Bor (List Part)) → Bool → Bool → List Member → Source
lent_source kind lent over alive members = record { kind = kind; parts = option_copied lent; over = over; alive = alive; members = members }

-- a header with its mark, if it has one, and the lines that match
abbrev pub marked_text : Option ℕ → Option (Bor (List Part)) → Member → List ℕ
marked_text mark lent m = print_member (option_to_list mark) (option_copied lent) m

-- a member's part of everything
abbrev pub part_text : HandleKind → Option (Bor (List Part)) → Bool → Bool → Member → List ℕ
part_text kind lent over alive m = print_one kind (option_copied lent) over alive m

-- the parts of all members
abbrev pub parts_text : HandleKind → Option (Bor (List Part)) → Bool → Bool → List Member → List ℕ
parts_text kind lent over alive members = print_all kind (option_copied lent) over alive members

-- these, and what comes before them
abbrev pub whole_text : HandleKind → Option (Bor (List Part)) → Bool → Bool → List Member → List ℕ
whole_text kind lent over alive members = print_opening kind over ++ print_all kind (option_copied lent) over alive members
