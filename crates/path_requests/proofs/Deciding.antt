-- What the checks of an open come to, by where its path leads.
use Rattle.std.specs.Prelude.{◌≡◌, ◌∷◌, ℕ, Bool, true, false, not, Option, Some, None, Result, Ok, Err, IfOk}
use Rattle.std.proofs.Common.{sym, ◌∙◌, ap, cond}
use Rattle.pps_types.specs.declared.found.Found.{Found}
use Rattle.pps_types.specs.declared.found.Found.TheVariants.{Directory as FoundDirectory}
use Rattle.pps_types.specs.declared.refusal.Refusal.{Refusal}
use Rattle.pps_types.specs.declared.refusal.Refusal.TheVariants.{BadMode}
use Rattle.pps_types.specs.declared.event.Mode.{Mode}
use Rattle.pps_types.specs.Names.{Path, parent, place, find_at}
use Rattle.pps_types.specs.OpenText.{OpenSpec}
use Rattle.pps_types.specs.Content.{Content, at}
use Rattle.pps_types.specs.WellFormed.{IsContent}
use Rattle.pps_types.specs.Checks.{Refuse, first_refusal, parsed, mode_fits, all_checks, name_checks, open_checks}
use Rattle.name_table.specs.Laws.{QuestionsAreTold}
use Rattle.name_table.specs.Standing.{Named, content_of, standing_of}
use Rattle.service_state.specs.Tables.{Tabled, content_in}
use Rattle.path_requests.specs.declared.checks.NumberedSpot.{NumberedSpot}
use Rattle.path_requests.specs.Asked.{IsAsked, found_by, is_all}
use Rattle.path_requests.proofs.Places.{above_free}

-- ---- what names tell

pub place_told : QuestionsAreTold → (t : Tabled) (n : Named) (p path : Path) (r : Result (Option Found) Refusal) → r ≡ place (at (content_of (standing_of n))) p → n ≡ t.names → p ≡ path → place (at (content_in t)) path ≡ r
place_told told t n p path r e names same =
    sym (e ∙ ap (λ (n : Named). place (at (content_of (standing_of n))) p) names ∙ ap (λ (a : Path → Option Found). place a p) (told.at (content_in t)) ∙ ap (place (at (content_in t))) same)

pub find_told : QuestionsAreTold → (t : Tabled) (n : Named) (p path : Path) (r : Result Found Refusal) → r ≡ find_at (at (content_of (standing_of n))) p → n ≡ t.names → p ≡ path → find_at (at (content_in t)) path ≡ r
find_told told t n p path r e names same =
    sym (e ∙ ap (λ (n : Named). find_at (at (content_of (standing_of n))) p) names ∙ ap (λ (a : Path → Option Found). find_at a p) (told.at (content_in t)) ∙ ap (find_at (at (content_in t))) same)

-- a directory is found above a free place
pub above_found : (c : Content) → IsContent c → (path : Path) → place (at c) path ≡ Ok None → (r : Result Found Refusal) → find_at (at c) (parent path) ≡ r → (d : ℕ) × (r ≡ Ok (FoundDirectory d))
above_found c is path free r e = let above = above_free c is path free in (above.0, sym e ∙ above.1)

-- ---- the checks

fits_told : (mode : Mode) (spec : OpenSpec) (fits : Bool) → fits ≡ mode_fits mode spec → fits ≡ true → mode_fits mode spec ≡ true
fits_told mode spec fits e f = sym e ∙ f

open_by : (c : Content) (mode : Mode) (spec : OpenSpec) (r : Result (Option Found) Refusal) → mode_fits mode spec ≡ true → place (at c) spec.names ≡ r
    → first_refusal (open_checks c mode spec) ≡ first_refusal (parsed r (λ found. cond spec.all (all_checks c found) (name_checks c mode spec found)))
open_by c mode spec r fits placed =
    ap (λ (b : Bool). first_refusal (Refuse (not b) BadMode ∷ parsed (place (at c) spec.names) (λ found. cond spec.all (all_checks c found) (name_checks c mode spec found)))) fits
    ∙ ap (λ (r : Result (Option Found) Refusal). first_refusal (parsed r (λ found. cond spec.all (all_checks c found) (name_checks c mode spec found)))) placed

pub way_lost : (c : Content) (mode : Mode) (spec : OpenSpec) (fits : Bool) (r : Refusal) → fits ≡ mode_fits mode spec → fits ≡ true → place (at c) spec.names ≡ Err r → Some r ≡ first_refusal (open_checks c mode spec)
way_lost c mode spec fits r e f placed = sym (open_by c mode spec (Err r) (fits_told mode spec fits e f) placed)

pub all_decides : (c : Content) (mode : Mode) (spec : OpenSpec) (fits : Bool) (found : Option Found) (refused : Option Refusal) → fits ≡ mode_fits mode spec → fits ≡ true → place (at c) spec.names ≡ Ok found → spec.all ≡ true
    → refused ≡ first_refusal (all_checks c found) → refused ≡ first_refusal (open_checks c mode spec)
all_decides c mode spec fits found refused e f placed all is =
    is ∙ sym (open_by c mode spec (Ok found) (fits_told mode spec fits e f) placed ∙ ap (λ (b : Bool). first_refusal (cond b (all_checks c found) (name_checks c mode spec found))) all)

pub name_decides : (c : Content) (mode : Mode) (spec : OpenSpec) (fits : Bool) (found : Option Found) (refused : Option Refusal) → fits ≡ mode_fits mode spec → fits ≡ true → place (at c) spec.names ≡ Ok found → spec.all ≡ false
    → refused ≡ first_refusal (name_checks c mode spec found) → refused ≡ first_refusal (open_checks c mode spec)
name_decides c mode spec fits found refused e f placed all is =
    is ∙ sym (open_by c mode spec (Ok found) (fits_told mode spec fits e f) placed ∙ ap (λ (b : Bool). first_refusal (cond b (all_checks c found) (name_checks c mode spec found))) all)

pub asked_told : (c : Content) (mode : Mode) (spec : OpenSpec) (fits : Bool) (found : Option Found) (all : Bool) (r : Result NumberedSpot Refusal) → fits ≡ mode_fits mode spec → fits ≡ true → place (at c) spec.names ≡ Ok found → spec.all ≡ all
    → IfOk r (λ a. is_all a.spot ≡ all) → IfOk r (λ a. found ≡ found_by a.spot) → IfOk r (λ a. a.number ≡ c.next_handle) → IfOk r (IsAsked c mode spec)
asked_told c mode spec fits found all (Err r) e f placed is spots founds numbers = tt
asked_told c mode spec fits found all (Ok a) e f placed is spots founds numbers = record {
  fits = fits_told mode spec fits e f;
  all = is ∙ sym spots;
  place = placed ∙ ap (λ (o : Option Found). let r : Result (Option Found) Refusal = Ok o in r) founds;
  number = numbers;
}
