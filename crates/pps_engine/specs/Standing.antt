-- What this body holds, and what will stand.
use Rattle.std.specs.Prelude.{◌≡◌, ℕ, List, ◌++◌, Bool, true, false, Option, Some, None, map}
use Rattle.pps_types.specs.Content.{Content}
use Rattle.pps_types.specs.Owed.{kept_records_seen}
use Rattle.pps_types.specs.Plan.{apply_all_seen}
use Rattle.pps_types.specs.WellFormed.{IsContent}
use Rattle.service_laws.specs.Bounds.{IsBound}
use Rattle.image_laws.specs.Savable.{CanBeSaved}
use Rattle.open_handles.specs.Whole.{HandlesOf, kept_for}
use Rattle.service_state.specs.Tables.{Tabled, content_in}
use Rattle.pps_engine.specs.declared.planned.Pending.{Pending}
use Rattle.pps_engine.specs.Events.{moves_pending, CanCarry}
use Rattle.pps_engine.specs.declared.engine.Ready.{Ready}
use Rattle.pps_engine.specs.Serving.{Chained, Upcoming, held_records}

-- it is well formed and within its bounds, and can be saved
pub record IsSound (c : Content) : Type 0 where
  pub formed : IsContent c
  pub bound : IsBound c
  pub can : CanBeSaved c

-- what stands once it is carried out
abbrev pub after : Tabled → Pending → Content
after t p = apply_all_seen (moves_pending p t) (content_in t)

-- the plan that is ready
abbrev pub coming : Tabled → Ready → Upcoming
coming t r = record { content = after t r.pending; reply = r.reply.value }

-- where a plan is ready it can be carried out, and what stands then is sound
abbrev pub IsPending : Tabled → Option Ready → Type 0
IsPending t None = Unit {0}
IsPending t (Some r) = CanCarry r.pending t × IsSound (after t r.pending)

-- ---- what is held

-- the list of records of an object or a directory
abbrev pub chain_of : Bool → HandlesOf → Chained
chain_of directory e = record { directory = directory; target = e.number; records = kept_for e }

-- of all objects and of all directories
abbrev pub chains_of : Tabled → List Chained
chains_of t = map (chain_of false) t.handles.objects.entries ++ map (chain_of true) t.handles.directories.entries

-- just the records that have to be kept
abbrev pub HoldsJust : Tabled → Type 0
HoldsJust t = (directory : Bool) (target : ℕ) → held_records directory target (chains_of t) ≡ kept_records_seen (content_in t) directory target
