-- How many records and objects an open makes, and whether a last number is passed by them.
use Rattle.std.specs.Prelude.{◌≡◌, ◌<◌, ◌≤◌, ◌+◌, ◌-◌, ◌^◌, ◌++◌, ◌||◌, ℕ, Bool, true, false, [], ◌∷◌, Option, Some, None, IsSome, IsSomeAnd, nat_lt}
use Rattle.std.proofs.Common.{refl, ◌∙◌, ap, arith, lit≤}
use Rattle.std.proofs.lemmas.Bool.Decides.{Decides-ltb}
use Rattle.pps_types.specs.OpenText.{OpenSpec}
use Rattle.pps_types.specs.Reading.{OpenHandle}
use Rattle.pps_types.specs.Content.{Content, LiveObject, object_numbered}
use Rattle.pps_types.specs.Plan.{Opens as OpensHandle, new_object}
use Rattle.pps_types.specs.declared.handle_kind.HandleKind.{HandleKind}
use Rattle.service_laws.specs.SettlingTargets.{last_number_passed, last_number_passed_after}
use Rattle.service_state.specs.Tables.{Tabled, content_in}
use Rattle.path_requests.specs.declared.ways.Step.{Step}
use Rattle.path_requests.specs.declared.ways.Step.TheVariants.{Stays, Tells, Creates, Replaces}
use Rattle.path_requests.specs.Ways.{CanStep, IsFollowedBy, step_moves, step_records, step_objects}

-- the counts of a step are those of its moves
pub step_counted : (t : Tabled) (spec : OpenSpec) (kind : HandleKind) (step : Step) (h : OpenHandle (Unit {0})) → CanStep t spec kind step
    → last_number_passed_after (content_in t) (step_moves (content_in t) spec step ++ OpensHandle h ∷ []) ≡ last_number_passed (content_in t) (step_records step) (step_objects step) 0
step_counted t spec kind (Stays found) h able = refl
step_counted t spec kind (Creates directory) h able = refl
step_counted t spec kind (Tells object told) h able = by (object_numbered (content_in t) object) refl able.alive
  where
    by : (o : Option LiveObject) → object_numbered (content_in t) object ≡ o → IsSome o
        → last_number_passed_after (content_in t) (step_moves (content_in t) spec (Tells object told) ++ OpensHandle h ∷ []) ≡ last_number_passed (content_in t) 1 0 0
    by None e some = absurd (let no = some in cc)
    by (Some o) e some = rw e refl
step_counted t spec kind (Replaces object) h able = by (object_numbered (content_in t) object) refl able.alive
  where
    by : (o : Option LiveObject) → object_numbered (content_in t) object ≡ o → IsSomeAnd o (λ o. IsFollowedBy (new_object (content_in t) spec) o.object)
        → last_number_passed_after (content_in t) (step_moves (content_in t) spec (Replaces object) ++ OpensHandle h ∷ []) ≡ last_number_passed (content_in t) 2 1 0
    by None e some = absurd some
    by (Some o) e some = rw e refl

-- ---- the last numbers

less_true : (a b : ℕ) → a < b → nat_lt a b ≡ true
less_true a b less = (Decides-ltb a b).1 less

less_false : (a b : ℕ) → b ≤ a → nat_lt a b ≡ false
less_false a b most = by (nat_lt a b) refl
  where
    by : (t : Bool) → nat_lt a b ≡ t → t ≡ false
    by true e = absurd (let less = (Decides-ltb a b).0 e in omega (arith, less, most))
    by false e = refl

pub few_records : (s : Step) → step_records s ≤ 2
few_records (Stays found) = lit≤ tt
few_records (Tells object kind) = lit≤ tt
few_records (Creates directory) = lit≤ tt
few_records (Replaces object) = lit≤ tt

pub few_objects : (s : Step) → step_objects s ≤ 1
few_objects (Stays found) = lit≤ tt
few_objects (Tells object kind) = lit≤ tt
few_objects (Creates directory) = lit≤ tt
few_objects (Replaces object) = lit≤ tt

pub too_many_records : (c : Content) (r o : ℕ) → (2 ^ 64 - 1) - r < c.records → last_number_passed c r o 0 ≡ true
too_many_records c r o more = ap (λ b. b || nat_lt (2 ^ 64 - 1) (c.next_object + o) || nat_lt (2 ^ 64 - 1) (c.next_directory + 0)) (less_true (2 ^ 64 - 1) (c.records + r) (omega (arith, more)))

pub too_many_objects : (c : Content) (r o : ℕ) → (2 ^ 64 - 1) - o < c.next_object → last_number_passed c r o 0 ≡ true
too_many_objects c r o more = ap (λ b. nat_lt (2 ^ 64 - 1) (c.records + r) || b || nat_lt (2 ^ 64 - 1) (c.next_directory + 0)) (less_true (2 ^ 64 - 1) (c.next_object + o) (omega (arith, more))) ∙ by (nat_lt (2 ^ 64 - 1) (c.records + r))
  where
    by : (b : Bool) → (b || true || nat_lt (2 ^ 64 - 1) (c.next_directory + 0)) ≡ true
    by true = refl
    by false = refl

pub not_too_many : (c : Content) (r o : ℕ) → c.records ≤ (2 ^ 64 - 1) - r → r ≤ 2 → c.next_object ≤ (2 ^ 64 - 1) - o → o ≤ 1 → c.next_directory < 2 ^ 64 → last_number_passed c r o 0 ≡ false
not_too_many c r o records few objects one directories = λ i.
    less_false (2 ^ 64 - 1) (c.records + r) (omega (arith, records, few)) i
    || less_false (2 ^ 64 - 1) (c.next_object + o) (omega (arith, objects, one)) i
    || less_false (2 ^ 64 - 1) (c.next_directory + 0) (omega (arith, directories)) i
