-- A whole plan, by what stood before.
use Rattle.std.proofs.Common.{◌≡◌, ℕ, ◌+◌, Bool, true, false, cond, ◌||◌, List, [], ◌∷◌, ◌++◌, length, Option, Some, None, Ok, refl, ap, ◌∙◌, arith}
use Rattle.std.specs.Prelude.{◌^◌, ◌-◌, nat_lt, filter}
use Rattle.std.specs.List.{filter_map, flat_map, cons_option}
use Rattle.pps_types.specs.declared.refusal.Refusal.{Refusal}
use Rattle.pps_types.specs.declared.refusal.Refusal.TheVariants.{TableFull}
use Rattle.pps_types.specs.declared.event.Event.{Event}
use Rattle.pps_types.specs.declared.event.Request.{Request}
use Rattle.pps_types.specs.Checks.{Refuse, first_refusal, checks}
use Rattle.pps_types.specs.Content.{Content}
use Rattle.pps_types.specs.WellFormed.{IsContent}
use Rattle.pps_types.specs.Plan.{Move, Attaches, Leaves, Creates, AppendsRecord, Opens, Closes, CatchesUp, Advances, Parks, Arms, Queues, Takes, MakesDirectory, RemovesDirectory, apply_seen, apply_all_seen, effect, settling, plan, decided, step_seen, all_checks_of, passes_last_number}
use Rattle.pps_types.proofs.Lists.{append-nil, all-all}
use Rattle.service_laws.proofs.Fits.{AreFit, fit-append, safe-fit}
use Rattle.service_laws.proofs.Passes.{passes-both, effect-fit, settling-safe}
use Rattle.service_laws.proofs.WellSteps.{basis-in}
use Rattle.service_laws.specs.Told.{entry_told, entries_told, handle_after, handles_opened, AreNumbered, is_woken}
use Rattle.service_laws.specs.SettlingTargets.{NamesAreFree, makes_object, makes_directory, last_number_passed_after}
use Rattle.service_laws.specs.SettlingMoves.{follows_in, follows}
use Rattle.service_laws.proofs.SettlingLists.{flat_map-same}
use Rattle.service_laws.proofs.SettlingHandles.{handles-after}
use Rattle.service_laws.proofs.SettlingTargets.{follows-before, free-fit}
use Rattle.service_laws.proofs.SettlingEvents.{numbered-fit, effect-quiet, event-follows, woken-all, nobody}

-- ---- how many there are after moves

one-more : {X : Type 0} (b : Bool) (x : X) (xs : List X) (n m : ℕ) → m ≡ (n + length (cond b (x ∷ []) [])) + length xs → m ≡ n + length (cond b (x ∷ xs) xs)
one-more true x xs n m e = omega (arith, e)
one-more false x xs n m e = omega (arith, e)

one-told : {X : Type 0} (o : Option X) (xs : List X) (n m : ℕ) → m ≡ (n + length (cons_option o [])) + length xs → m ≡ n + length (cons_option o xs)
one-told None xs n m e = omega (arith, e)
one-told (Some x) xs n m e = omega (arith, e)

none-more : (n : ℕ) → n ≡ n + 0
none-more n = omega arith

records-by : (c : Content) (x : Move) → (apply_seen x c).records ≡ c.records + length (cons_option (entry_told x) [])
records-by c (Creates o) = refl
records-by c (AppendsRecord e) = refl
records-by c (Attaches conn) = none-more c.records
records-by c (Leaves conn) = none-more c.records
records-by c (Opens h) = none-more c.records
records-by c (Closes number) = none-more c.records
records-by c (CatchesUp number) = none-more c.records
records-by c (Advances number count) = none-more c.records
records-by c (Parks number size) = none-more c.records
records-by c (Arms number pulse) = none-more c.records
records-by c (Queues conn item) = none-more c.records
records-by c (Takes conn) = none-more c.records
records-by c (MakesDirectory path) = none-more c.records
records-by c (RemovesDirectory number) = none-more c.records

records-after : (xs : List Move) (c : Content) → (apply_all_seen xs c).records ≡ c.records + length (entries_told xs)
records-after [] c = none-more c.records
records-after (x ∷ xs) c = one-told (entry_told x) (entries_told xs) c.records _ (records-after xs (apply_seen x c) ∙ ap (λ n. n + length (entries_told xs)) (records-by c x))

objects-by : (c : Content) (x : Move) → (apply_seen x c).next_object ≡ c.next_object + length (cond (makes_object x) (x ∷ []) [])
objects-by c (Creates o) = refl
objects-by c (AppendsRecord e) = none-more c.next_object
objects-by c (Attaches conn) = none-more c.next_object
objects-by c (Leaves conn) = none-more c.next_object
objects-by c (Opens h) = none-more c.next_object
objects-by c (Closes number) = none-more c.next_object
objects-by c (CatchesUp number) = none-more c.next_object
objects-by c (Advances number count) = none-more c.next_object
objects-by c (Parks number size) = none-more c.next_object
objects-by c (Arms number pulse) = none-more c.next_object
objects-by c (Queues conn item) = none-more c.next_object
objects-by c (Takes conn) = none-more c.next_object
objects-by c (MakesDirectory path) = none-more c.next_object
objects-by c (RemovesDirectory number) = none-more c.next_object

made-after : (xs : List Move) (c : Content) → (apply_all_seen xs c).next_object ≡ c.next_object + length (filter makes_object xs)
made-after [] c = none-more c.next_object
made-after (x ∷ xs) c = one-more (makes_object x) x (filter makes_object xs) c.next_object _ (made-after xs (apply_seen x c) ∙ ap (λ n. n + length (filter makes_object xs)) (objects-by c x))

directories-by : (c : Content) (x : Move) → (apply_seen x c).next_directory ≡ c.next_directory + length (cond (makes_directory x) (x ∷ []) [])
directories-by c (MakesDirectory path) = refl
directories-by c (Creates o) = none-more c.next_directory
directories-by c (AppendsRecord e) = none-more c.next_directory
directories-by c (Attaches conn) = none-more c.next_directory
directories-by c (Leaves conn) = none-more c.next_directory
directories-by c (Opens h) = none-more c.next_directory
directories-by c (Closes number) = none-more c.next_directory
directories-by c (CatchesUp number) = none-more c.next_directory
directories-by c (Advances number count) = none-more c.next_directory
directories-by c (Parks number size) = none-more c.next_directory
directories-by c (Arms number pulse) = none-more c.next_directory
directories-by c (Queues conn item) = none-more c.next_directory
directories-by c (Takes conn) = none-more c.next_directory
directories-by c (RemovesDirectory number) = none-more c.next_directory

directories-after : (xs : List Move) (c : Content) → (apply_all_seen xs c).next_directory ≡ c.next_directory + length (filter makes_directory xs)
directories-after [] c = none-more c.next_directory
directories-after (x ∷ xs) c = one-more (makes_directory x) x (filter makes_directory xs) c.next_directory _ (directories-after xs (apply_seen x c) ∙ ap (λ n. n + length (filter makes_directory xs)) (directories-by c x))

-- Whether the last number is passed, by what stood before.
pub last-number : (xs : List Move) (c : Content) → passes_last_number (apply_all_seen xs c) ≡ last_number_passed_after c xs
last-number xs c = λ i. nat_lt (2 ^ 64 - 1) (records-after xs c i) || nat_lt (2 ^ 64 - 1) (made-after xs c i) || nat_lt (2 ^ 64 - 1) (directories-after xs c i)

-- ---- an event that no check refuses

module _ (c : Content) (w : IsContent c) where
  fit : (conn : ℕ) (request : Request) → first_refusal (checks c conn request) ≡ None → AreFit c (effect c conn request).1
  fit conn request passes = effect-fit c conn request (basis-in c w) passes

  pub effect-numbered : (conn : ℕ) (request : Request) → first_refusal (checks c conn request) ≡ None → AreNumbered c.next_handle (effect c conn request).1
  effect-numbered conn request passes = numbered-fit (effect c conn request).1 c (fit conn request passes)

  pub effect-free : (conn : ℕ) (request : Request) → first_refusal (checks c conn request) ≡ None → NamesAreFree c (effect c conn request).1
  effect-free conn request passes = free-fit (effect c conn request).1 c (basis-in c w) (fit conn request passes)

  -- All that follows, by what stood before.
  pub event-settled : (conn : ℕ) (request : Request) → first_refusal (checks c conn request) ≡ None
      → settling c (apply_all_seen (effect c conn request).1 c) ≡ flat_map (follows c (effect c conn request).1) (filter (is_woken (effect c conn request).1) c.handles)
  event-settled conn request passes =
      event-follows c w.order.handles_rise conn request (effect-numbered conn request passes) (effect-quiet c conn request)
      ∙ woken-all c done d w.told.fitting
      ∙ flat_map-same (follows_in d (entries_told done)) (follows c done) (filter (is_woken done) c.handles)
      (all-all {P = λ h. follows_in d (entries_told done) h ≡ follows c done h} (λ h. follows-before done c h (effect-free conn request passes)) (filter (is_woken done) c.handles))
    where
      done : List Move
      done = (effect c conn request).1

      d : Content
      d = apply_all_seen done c

  first-checks : (e : Event) → first_refusal (all_checks_of c e) ≡ None → first_refusal (checks c e.conn e.request) ≡ None
  first-checks e passes = (passes-both (checks c e.conn e.request) (Refuse (passes_last_number (apply_all_seen (effect c e.conn e.request).1 c)) TableFull ∷ []) passes).0

  -- The whole plan.
  pub event-planned : (e : Event) → first_refusal (all_checks_of c e) ≡ None
      → plan c e ≡ (Ok (effect c e.conn e.request).0, (effect c e.conn e.request).1 ++ flat_map (follows c (effect c e.conn e.request).1) (filter (is_woken (effect c e.conn e.request).1) c.handles))
  unfolding plan
  event-planned e passes = rw passes (λ i. (Ok (effect c e.conn e.request).0, (effect c e.conn e.request).1 ++ event-settled e.conn e.request (first-checks e passes) i))

  -- Where no record is told, nothing follows.
  pub event-silent : (e : Event) → first_refusal (all_checks_of c e) ≡ None → entries_told (effect c e.conn e.request).1 ≡ [] → plan c e ≡ (Ok (effect c e.conn e.request).0, (effect c e.conn e.request).1)
  event-silent e passes silent =
      event-planned e passes
      ∙ ap (λ hs. (Ok (effect c e.conn e.request).0, (effect c e.conn e.request).1 ++ flat_map (follows c (effect c e.conn e.request).1) hs)) (nobody (effect c e.conn e.request).1 c.handles silent)
      ∙ ap (λ ms. (Ok (effect c e.conn e.request).0, ms)) (append-nil (effect c e.conn e.request).1)

  -- Each handle behind the step.
  pub step-handles : (e : Event) → (step_seen c e).1.handles ≡ filter_map (handle_after (plan c e).1) c.handles ++ handles_opened (plan c e).1
  unfolding step_seen plan
  step-handles e = by (first_refusal (all_checks_of c e)) refl
    where
      done : List Move
      done = (effect c e.conn e.request).1

      later : List Move
      later = settling c (apply_all_seen done c)

      by : (o : Option Refusal) → first_refusal (all_checks_of c e) ≡ o
          → (apply_all_seen (decided c (effect c e.conn e.request) o).1 c).handles ≡ filter_map (handle_after (decided c (effect c e.conn e.request) o).1) c.handles ++ handles_opened (decided c (effect c e.conn e.request) o).1
      by (Some refusal) is = handles-after [] c w.order.handles_rise tt
      by None is = handles-after (done ++ later) c w.order.handles_rise
          (numbered-fit (done ++ later) c (fit-append done later c (fit e.conn e.request (first-checks e is)) (safe-fit later (apply_all_seen done c) (settling-safe c (apply_all_seen done c)))))
