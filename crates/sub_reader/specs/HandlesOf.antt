-- The handles of one object or directory.
use Rattle.std.specs.Prelude.{◌≡◌, ℕ, Bool, true, List}
use Rattle.std.specs.List.{AllByRecursion}
use Rattle.pps_types.specs.declared.found.Found.{Found}
use Rattle.pps_types.specs.declared.handle_kind.HandleKind.{HandleKind}
use Rattle.pps_types.specs.History.{Entry}
use Rattle.pps_types.specs.Reading.{OpenHandle, is_directory_kind}
use Rattle.pps_types.specs.Rests.{Progress}
use Rattle.pps_types.specs.WellFormed.{IsWhole}
use Rattle.pps_types.specs.Rising.{IsRising}
use Rattle.pps_types.specs.Owed.{same_flag, longest_rest}
use Rattle.sub_reader.specs.Opened.{is_directory, number_of, is_reader}

-- It is on the directory or the object of that number, and what it is owed is within its limit.
pub record IsOn (directory : Bool) (target : ℕ) (handle : OpenHandle Progress) : Type 0 where
  pub flag : is_directory_kind handle.kind ≡ directory
  pub on : handle.target ≡ target
  pub whole : IsWhole handle handle.seen

-- each of them, and their numbers rise
pub record AreOn (directory : Bool) (target : ℕ) (handles : List (OpenHandle Progress)) : Type 0 where
  pub each : AllByRecursion (IsOn directory target) handles
  pub rising : IsRising (λ handle. handle.number) handles

-- ---- of an object or a directory

-- each of them is on it, and their numbers rise
abbrev pub AreOnFound : Found → List (OpenHandle Progress) → Type 0
AreOnFound found handles = AreOn (is_directory found) (number_of found) handles

-- a handle of that kind is on a directory if that is one, and else on an object
abbrev pub SuitsTarget : HandleKind → Found → Type 0
SuitsTarget kind found = same_flag (is_directory_kind kind) (is_directory found) ≡ true

-- the longest rest that one of them is owed
abbrev pub longest_rest_on : Found → List (OpenHandle Progress) → List Entry
longest_rest_on found handles = longest_rest (is_directory found) (number_of found) handles

-- each of them has this name
abbrev pub HaveName : List ℕ → List (OpenHandle Progress) → Type 0
HaveName name handles = AllByRecursion (λ (handle : OpenHandle Progress). handle.name ≡ name) handles

-- each of them reads in full or delta mode
abbrev pub AreReaders : List (OpenHandle Progress) → Type 0
AreReaders handles = AllByRecursion (λ (handle : OpenHandle Progress). is_reader handle.kind ≡ true) handles
