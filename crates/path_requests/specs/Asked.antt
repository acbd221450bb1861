-- What an open is on, once no check refuses it.
use Rattle.std.specs.Prelude.{◌≡◌, ℕ, List, Bool, true, false, Option, Some, None, Ok, unwrap_or, if◌then◌else◌}
use Rattle.pps_types.specs.declared.event.Mode.{Mode}
use Rattle.pps_types.specs.declared.found.Found.{Found}
use Rattle.pps_types.specs.declared.found.Found.TheVariants.{Object as FoundObject, Directory as FoundDirectory}
use Rattle.pps_types.specs.declared.handle_kind.HandleKind.{HandleKind}
use Rattle.pps_types.specs.declared.handle_kind.HandleKind.TheVariants.{Object as ObjectHandle, Directory as DirectoryHandle, Names as NamesHandle, Server as ServerHandle, Client as ClientHandle}
use Rattle.pps_types.specs.Names.{Name, place}
use Rattle.pps_types.specs.OpenText.{OpenSpec}
use Rattle.pps_types.specs.Reading.{OpenHandle}
use Rattle.pps_types.specs.Content.{Content, at}
use Rattle.pps_types.specs.Checks.{mode_fits}
use Rattle.sub_reader.specs.declared.opening.Opening.{Opening}
use Rattle.sub_reader.specs.Opened.{opened}
use Rattle.path_requests.specs.declared.checks.Spot.{Spot}
use Rattle.path_requests.specs.declared.checks.Spot.TheVariants.{All, Alive, Free}
use Rattle.path_requests.specs.declared.checks.NumberedSpot.{NumberedSpot}

-- what stands there
abbrev pub found_by : Spot → Option Found
found_by (All directory) = Some (FoundDirectory directory)
found_by (Alive object) = Some (FoundObject object)
found_by Free = None

abbrev pub is_all : Spot → Bool
is_all (All directory) = true
is_all spot = false

-- It is on that spot, to which its path leads, and gets the next number.
pub record IsAsked (c : Content) (mode : Mode) (spec : OpenSpec) (a : NumberedSpot) : Type 0 where
  pub fits : mode_fits mode spec ≡ true
  pub all : spec.all ≡ is_all a.spot
  pub place : place (at c) spec.names ≡ Ok (found_by a.spot)
  pub number : a.number ≡ c.next_handle

-- ---- its handle

-- the kind of the handle, where a server object is at the path or not
abbrev pub kind_by : OpenSpec → Bool → HandleKind
kind_by spec served =
    if spec.options.server then ServerHandle else
    if spec.all then (if spec.options.deltadir then NamesHandle else DirectoryHandle spec.options.delta) else
    if served then ClientHandle else ObjectHandle spec.options.delta

-- the handle, of that kind and on the target of that number and name
abbrev pub handle_by : Content → ℕ → Mode → OpenSpec → HandleKind → ℕ × Name → OpenHandle (Unit {0})
handle_by c conn mode spec kind target = record {
  number = c.next_handle;
  connection = conn;
  target = target.0;
  name = target.1;
  kind = kind;
  reads = mode.r;
  writes = mode.w;
  options = spec.options.of_handle;
  limit = unwrap_or spec.options.limit c.default_limit;
  seen = tt;
  parked = None;
  armed = None;
}

-- on each target, the opening makes that handle
abbrev pub FixesHandle : Content → ℕ → Mode → OpenSpec → HandleKind → Opening → Type 0
FixesHandle c conn mode spec kind opening =
    (target : ℕ) (name : List ℕ) → opened target name opening ≡ handle_by c conn mode spec kind (target, name)
