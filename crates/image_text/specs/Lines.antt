-- What the lines of an image say to its reader. Own.
use Rattle.std.specs.Prelude.{◌≡◌, ◌<◌, ◌≤◌, ◌==◌, ◌^◌, ℕ, Bool, true, false, List, length, if◌then◌else◌, Option, Some, None, option_map, option_and_then}
use Rattle.std.specs.List.{list_all}
use Rattle.pps_types.specs.declared.line.Line.{Line}
use Rattle.pps_types.specs.declared.line.Mark.TheVariants.{Keep}
use Rattle.pps_types.specs.Bytes.{is_empty}
use Rattle.pps_types.specs.Text.{set_line}
use Rattle.pps_types.specs.Names.{Path}
use Rattle.pps_types.specs.Image.{SavedDirectory, Position, Between, Behind, Loaded, may_follow, with_entry, object_of, plain_number, loaded_with, as_line, set_of}
use Rattle.image_laws.specs.Images.{is_plain, IsImageLine, IsSavedPath}
use Rattle.image_text.specs.declared.reading.Beginning.{Beginning}
use Rattle.image_text.specs.declared.reading.EntryLine.{EntryLine}
use Rattle.image_text.specs.declared.reading.EntryLine.TheVariants.{Directory, Object, End}

-- whether it has no line feed
abbrev pub is_plain_line : List ℕ → Bool
is_plain_line line = list_all is_plain line

-- it has no line feed
abbrev pub IsPlain : List ℕ → Type 0
IsPlain line = list_all is_plain line ≡ true

-- no number below this has these digits, without a leading zero
abbrev pub SpellsNoneBelow : ℕ → List ℕ → Type 0
SpellsNoneBelow most digits = (number : ℕ) → plain_number digits ≡ Some number → most ≤ number

-- where a reader is after a first line that says this, if one says anything
abbrev pub begun_by : Option Beginning → Option Position
begun_by beginning = option_map (λ (b : Beginning). loaded_with b.longest b.default_limit) beginning

-- the attribute that a line sets, if it sets one: as a line without bracket
abbrev pub attribute_in : List ℕ → Option Line
attribute_in line = option_map as_line (option_and_then set_of (set_line Keep line))

-- where a reader stands behind such a line, if it may stand there
abbrev pub position_after : Loaded → EntryLine → Option Position
position_after r (Directory path) = if may_follow r.entries (SavedDirectory path) then Some (Between (with_entry r (SavedDirectory path))) else None
position_after r (Object path count) = object_of r (Some path) (Some count)
position_after r (End count) = if count == length r.entries then Some (Behind (record { default_limit = r.default_limit; entries = r.entries })) else None

-- whatever was loaded, the line leads to where what was read of it leads
abbrev pub ReadsAs : (Loaded → List ℕ → Option Position) → List ℕ → Option EntryLine → Type 0
ReadsAs line text read = (r : Loaded) → line r text ≡ option_and_then (position_after r) read

-- the same where fewer than 2^32 entries were loaded
abbrev pub ReadsAfterFew : (Loaded → List ℕ → Option Position) → List ℕ → Option EntryLine → Type 0
ReadsAfterFew line text read = (r : Loaded) → length r.entries < 2 ^ 32 → line r text ≡ option_and_then (position_after r) read

-- an attribute that an image may have, as the line that sets it
abbrev pub IsImageAttribute : Line → Type 0
IsImageAttribute line = IsImageLine line

-- a path that an image may have, or the root's
abbrev pub IsImagePath : Path → Type 0
IsImagePath path = IsSavedPath path

-- a path that was read: the root's, or one that an image may have
abbrev pub IsReadPath : Path → Type 0
IsReadPath path = is_empty path ≡ false → IsSavedPath path

-- the path that such a line names, if it names one, is one that was read
abbrev pub NamesReadPath : EntryLine → Type 0
NamesReadPath (Directory path) = IsReadPath path
NamesReadPath (Object path count) = IsReadPath path
NamesReadPath (End count) = Unit {0}
