-- What is begun is ready where there is room for its records.
use Rattle.std.specs.Prelude.{◌≡◌, ◌+◌, ◌-◌, ◌<◌, ◌≤◌, ◌^◌, ◌||◌, ℕ, List, [], ◌∷◌, Bool, true, false, nat_lt, filter, length}
use Rattle.std.specs.List.{AllByRecursion, list_all}
use Rattle.std.proofs.Common.{refl, sym, ◌∙◌, ap, subst, inl, arith, le_refl}
use Rattle.std.proofs.lemmas.Bool.Decides.{nat_tests}
use Rattle.pps_types.specs.declared.found.Found.{Found}
use Rattle.pps_types.specs.History.{Entry}
use Rattle.pps_types.specs.Reading.{OpenHandle, visible}
use Rattle.pps_types.specs.Rests.{Progress}
use Rattle.pps_types.specs.Content.{Content}
use Rattle.service_laws.specs.SettlingTargets.{last_number_passed}
use Rattle.open_handles.specs.Whole.{Whole, HasRoom, handles_at, handles_in, is_on}
use Rattle.service_state.specs.declared.beginning.Beginning.{Beginning}
use Rattle.service_state.specs.declared.beginning.Beginning.TheVariants.{Closes, AppendsRecord}
use Rattle.service_state.specs.Beginning.{entries_in, CanBeginAll, AreReady, IsSharedBy, is_plain}
use Rattle.service_state.specs.Tables.{Tabled, content_in}
use Rattle.service_state.specs.Tied.{KeepsHandleRoom}
use Rattle.service_state.proofs.Begins.{shared_stays}
use Rattle.service_state.proofs.Begun.{have_lines}

-- the handles of each place are those of all that are on it
abbrev pub ArePlaced : Whole → Type 0
ArePlaced w = (f : Found) → handles_at f w ≡ filter (is_on f) (handles_in w)

module _ (old new : Tabled) (same : content_in new ≡ content_in old) (kept : KeepsHandleRoom old new) (placed : ArePlaced old.handles) (placed_new : ArePlaced new.handles) where
  same_handles : (f : Found) → handles_at f new.handles ≡ handles_at f old.handles
  same_handles f = placed_new f ∙ ap (λ (c : Content). filter (is_on f) c.handles) same ∙ sym (placed f)

  no_more : (e : Entry) (f : Found) → length (filter (λ (h : OpenHandle Progress). visible h e) (handles_at f new.handles)) ≤ length (filter (λ (h : OpenHandle Progress). visible h e) (handles_at f old.handles))
  no_more e f = subst (λ hs. length (filter (λ (h : OpenHandle Progress). visible h e) hs) ≤ length (filter (λ (h : OpenHandle Progress). visible h e) (handles_at f old.handles))) (sym (same_handles f)) (le_refl (length (filter (λ (h : OpenHandle Progress). visible h e) (handles_at f old.handles))))

  no_newcomer : (f : Found) → length (handles_at f new.handles) ≤ length (handles_at f old.handles)
  no_newcomer f = subst (λ hs. length hs ≤ length (handles_at f old.handles)) (sym (same_handles f)) (le_refl (length (handles_at f old.handles)))

  still_shared : (xs : List Beginning) → AllByRecursion (IsSharedBy old.handles) xs → AllByRecursion (IsSharedBy new.handles) xs
  still_shared [] shared = tt
  still_shared (Closes conn handle parked ∷ xs) shared = (tt, still_shared xs shared.1)
  still_shared (AppendsRecord told ∷ xs) shared = (shared_stays told.count told.entry old.handles new.handles (λ f. inl (kept.sites.sites f)) no_newcomer (no_more told.entry) shared.0, still_shared xs shared.1)

  pub ready_begun : (xs : List Beginning) → CanBeginAll (content_in old) xs → list_all is_plain xs ≡ true → AllByRecursion (IsSharedBy old.handles) xs → HasRoom (entries_in xs) new.handles
      → old.records + length (entries_in xs) < 2 ^ 64 → AreReady xs new
  ready_begun xs able plain shared room numbers = record {
    able = subst (λ c. CanBeginAll c xs) (sym same) able;
    room = room;
    lines = have_lines xs new.names plain;
    shared = still_shared xs shared;
    numbers = subst (λ r. r + length (entries_in xs) < 2 ^ 64) (sym (ap (λ (c : Content). c.records) same)) numbers;
  }

-- ---- the last number

left_false : (a b : Bool) → (a || b) ≡ false → a ≡ false
left_false true b e = e
left_false false b e = refl

-- it is not passed by the records
pub records_within : (c : Content) (records : ℕ) → last_number_passed c records 0 0 ≡ false → c.records + records < 2 ^ 64
records_within c records e =
    let first : nat_lt (2 ^ 64 - 1) (c.records + records) ≡ false =
    left_false (nat_lt (2 ^ 64 - 1) (c.records + records)) (nat_lt (2 ^ 64 - 1) (c.next_object + 0)) (left_false (nat_lt (2 ^ 64 - 1) (c.records + records) || nat_lt (2 ^ 64 - 1) (c.next_object + 0)) (nat_lt (2 ^ 64 - 1) (c.next_directory + 0)) e) in
    grind (arith, nat_tests, first)
