-- What a loader has taken of its input: whole lines, and the line that has begun.
use Rattle.std.specs.Prelude.{◌≡◌, ◌≤◌, ◌<◌, ◌+◌, ℕ, List, [], ◌++◌, Bool, true, false, nat_lt, length, Result, Ok, Err}
use Rattle.std.specs.List.{list_all}
use Rattle.pps_types.specs.Stands.{Stands}
use Rattle.pps_types.specs.Image.{Image, read_image, started}
use Rattle.image_laws.specs.Images.{is_plain, are_plain, joined}
use Rattle.pps_engine.specs.Serving.{Serving}
use Rattle.pps_persist.specs.declared.errors.LoadError.{LoadError}
use Rattle.pps_persist.specs.declared.errors.LoadError.TheVariants.{OutOfMemory, BadImage, ReadFault}
use Rattle.pps_persist.specs.declared.pieces.Reading.{Reading}
use Rattle.pps_persist.specs.declared.place.Place.{Place}
use Rattle.pps_persist.specs.declared.place.Place.TheVariants as places
use Rattle.pps_persist.specs.Held.{IsAt}

-- behind the end no line has begun
abbrev pub IsEmptyBehind : Place → List ℕ → Type 0
IsEmptyBehind (places.Behind engine) line = line ≡ []
IsEmptyBehind places.First line = Unit {0}
IsEmptyBehind (places.Between l) line = Unit {0}
IsEmptyBehind (places.Within l o) line = Unit {0}

-- whether a line may have so many bytes there
abbrev pub has_room : Place → ℕ → Bool
has_room (places.Behind engine) count = false
has_room places.First count = nat_lt count 65536
has_room (places.Between l) count = nat_lt count 65536
has_room (places.Within l o) count = nat_lt count 65536

-- these bytes are whole lines, which lead to where one stands, and the beginning of another
pub record IsReading (taken : List ℕ) (s : Reading) : Type 0 where
  pub lines : List (List ℕ)
  pub plain : are_plain lines ≡ true
  pub begun : list_all is_plain s.line.items ≡ true
  pub whole : taken ≡ joined lines ++ s.line.items
  pub at : IsAt lines s.place
  pub number : s.number ≡ 1 + length lines
  pub short : length s.line.items < 65536
  pub behind : IsEmptyBehind s.place s.line.items

-- so it is of some bytes
pub record IsBegun (s : Reading) : Type 0 where
  pub taken : List ℕ
  pub is : IsReading taken s

-- Once these bytes were taken: a line is refused only where no image begins with them, and whatever follows is told at that line.
abbrev pub GoesOn : List ℕ → Result Reading LoadError → Type 0
GoesOn bytes (Ok s) = IsReading bytes s
GoesOn bytes (Err OutOfMemory) = Unit {0}
GoesOn bytes (Err (BadImage line)) = (more : List ℕ) → read_image (bytes ++ more) ≡ Err line
GoesOn bytes (Err ReadFault) = ⊥

-- whatever was taken, these bytes are taken after it
abbrev pub TakesBytes : Reading → List ℕ → Result Reading LoadError → Type 0
TakesBytes s bytes result = (taken : List ℕ) → IsReading taken s → GoesOn (taken ++ bytes) result

-- some bytes at the front of a piece were taken
pub record IsSplit (old : Reading) (piece : List ℕ) (new : Reading) (rest : List ℕ) : Type 0 where
  pub front : List ℕ
  pub parts : piece ≡ front ++ rest
  pub goes : (taken : List ℕ) → IsReading taken old → IsReading (taken ++ front) new
  pub count : new.number + length rest ≤ old.number + length piece

-- an engine for the machine that these bytes start
pub record IsLoadedFrom (bytes : List ℕ) (engine : Serving) : Type 0 where
  pub image : Image
  pub read : read_image bytes ≡ Ok image
  pub stands : Stands engine.content (started image)

-- where the input ends behind these bytes
abbrev pub Finishes : List ℕ → Result Serving LoadError → Type 0
Finishes bytes (Ok engine) = IsLoadedFrom bytes engine
Finishes bytes (Err (BadImage line)) = read_image bytes ≡ Err line
Finishes bytes (Err OutOfMemory) = ⊥
Finishes bytes (Err ReadFault) = ⊥
