-- How what is asked by a path is checked, and what it does.
use Rattle.std.specs.Prelude.{◌≡◌, ◌≢◌, ◌⊎◌, ◌+◌, ◌-◌, ◌<◌, ◌^◌, ◌||◌, ℕ, List, [], ◌∷◌, ◌++◌, Bool, true, false, nat_lt, Option, Some, None, ok_or, map}
use Rattle.std.specs.Option.{option_map_or}
use Rattle.std.specs.List.{concat}
use Rattle.std.proofs.Common.{refl, sym, ◌∙◌, ap, subst, cond, inl, inr, arith}
use Rattle.std.proofs.lemmas.Bool.Decides.{nat_tests}
use Rattle.pps_types.specs.declared.refusal.Refusal.{Refusal}
use Rattle.pps_types.specs.declared.refusal.Refusal.TheVariants.{BadPath, OutOfMemory, TableFull}
use Rattle.pps_types.specs.declared.event.Request.TheVariants.{Unlink, Mkdir, List as ListRequest}
use Rattle.pps_types.specs.declared.outcome.Outcome.{Outcome}
use Rattle.pps_types.specs.declared.outcome.Outcome.TheVariants.{Done, Data}
use Rattle.pps_types.specs.declared.found.Found.{Found}
use Rattle.pps_types.specs.Names.{Name, Path, find_at, is_object, is_directory}
use Rattle.pps_types.specs.OpenText.{path_text}
use Rattle.pps_types.specs.Content.{Content}
use Rattle.pps_types.specs.Checks.{Check, Refuse, Memory, first_refusal, parsed, on_path, list_checks, mkdir_checks, unlink_checks}
use Rattle.pps_types.specs.Plan.{Move, MakesDirectory, effect, with_path, listing, apply_all_seen, passes_last_number}
use Rattle.service_laws.specs.SettlingTargets.{last_number_passed, last_number_passed_after}
use Rattle.service_laws.specs.SettlingLaws.{EventsAreSettled}
use Rattle.name_table.specs.Listed.{suffix, members_at, MembersAreListed}
use Rattle.name_table.specs.Standing.{Standing, content_of, standing_in}
use Rattle.name_table.specs.Laws.{QuestionsAreTold}
use Rattle.open_options.specs.Refused.{IsPathRefusal}
use Rattle.service_state.specs.Refused.{Fails, all_request_checks}
use Rattle.service_state.proofs.Memory.{memory_or}
use Rattle.path_requests.specs.Listed.{line_listed}

-- ---- a text that is a path, or none

on_names : (text : List ℕ) (checks : Path → List Check) (names : Path) → path_text text ≡ Some names → on_path text checks ≡ checks names
on_names text checks names is = ap (λ o. parsed (ok_or o BadPath) checks) is

-- checks one behind the other
behind_none : (xs ys : List Check) → first_refusal xs ≡ None → first_refusal (xs ++ ys) ≡ first_refusal ys
behind_none [] ys e = refl
behind_none (Memory ∷ xs) ys e = behind_none xs ys e
behind_none (Refuse b r ∷ xs) ys e = by b e (behind_none xs ys)
  where
    by : (b : Bool) → cond b (Some r) (first_refusal xs) ≡ None → (first_refusal xs ≡ None → first_refusal (xs ++ ys) ≡ first_refusal ys) → cond b (Some r) (first_refusal (xs ++ ys)) ≡ first_refusal ys
    by true e rest = absurd (let bad = e in cc)
    by false e rest = rest e

behind_some : (xs ys : List Check) (r : Refusal) → first_refusal xs ≡ Some r → first_refusal (xs ++ ys) ≡ Some r
behind_some [] ys r e = absurd (let bad = e in cc)
behind_some (Memory ∷ xs) ys r e = behind_some xs ys r e
behind_some (Refuse b s ∷ xs) ys r e = by b e (behind_some xs ys r)
  where
    by : (b : Bool) → cond b (Some s) (first_refusal xs) ≡ Some r → (first_refusal xs ≡ Some r → first_refusal (xs ++ ys) ≡ Some r) → cond b (Some s) (first_refusal (xs ++ ys)) ≡ Some r
    by true e rest = e
    by false e rest = rest e

module _ (text : List ℕ) (checks : Path → List Check) (tail : List Check) where
  abbrev pub late : List Check
  late = (Memory ∷ on_path text checks) ++ tail

  pub late_memory : (r : Refusal) → r ≡ OutOfMemory → Fails late r
  late_memory r is = inr (is, refl)

  pub late_text : (r : Refusal) → IsPathRefusal (path_text text) r → Fails late r
  late_text r (inl memory) = inr (memory, refl)
  late_text r (inr bad) = inl (behind_some (on_path text checks) tail r (ap (λ o. first_refusal (parsed (ok_or o BadPath) checks)) bad.1 ∙ ap Some (sym bad.0)))

  pub late_fails : (names : Path) → path_text text ≡ Some names → (r : Refusal) → first_refusal (checks names) ≡ Some r → Fails late r
  late_fails names is r e = inl (behind_some (on_path text checks) tail r (ap first_refusal (on_names text checks names is) ∙ e))

  pub late_behind : (names : Path) → path_text text ≡ Some names → first_refusal (checks names) ≡ None → first_refusal late ≡ first_refusal tail
  late_behind names is e = behind_none (on_path text checks) tail (ap first_refusal (on_names text checks names is) ∙ e)

append_none : (xs : List Check) → xs ++ [] ≡ xs
append_none [] = refl
append_none (x ∷ xs) = ap (λ ys. x ∷ ys) (append_none xs)

-- with no check behind
pub alone : (text : List ℕ) (checks : Path → List Check) → late text checks [] ≡ Memory ∷ on_path text checks
alone text checks = append_none (Memory ∷ on_path text checks)

pub fails_alone : (text : List ℕ) (checks : Path → List Check) (r : Refusal) → Fails (late text checks []) r → Fails (Memory ∷ on_path text checks) r
fails_alone text checks r fails = subst (λ cs. Fails cs r) (alone text checks) fails

-- ---- List

-- what is listed is what stands there
listed_lines : MembersAreListed → (c : Content) (path : Path) → concat (map line_listed (members_at c path)) ≡ listing c path
listed_lines listed c path = ap concat (split (members_at c path)) ∙ ap (λ es. concat (map (λ (e : List ℕ × List ℕ). e.0 ++ e.1 ++ (10 ∷ [])) es)) (listed c path)
  where
    split : (ms : List (Name × Found)) → map line_listed ms ≡ map (λ (e : List ℕ × List ℕ). e.0 ++ e.1 ++ (10 ∷ [])) (map (λ (m : Name × Found). (m.0, suffix (is_directory m.1))) ms)
    split [] = refl
    split (m ∷ ms) = ap (λ ls. line_listed m ∷ ls) (split ms)

pub list_does : MembersAreListed → (c : Content) (conn : ℕ) (text : List ℕ) (names : Path) → path_text text ≡ Some names → (lines : List ℕ) → lines ≡ concat (map line_listed (members_at (content_of (standing_in c)) names))
    → effect c conn (ListRequest text) ≡ (Data lines, [])
unfolding effect
list_does listed c conn text names is lines e =
    ap (λ o. option_map_or {U = Outcome × List Move} (λ (names : Path). (Data (listing c names), [])) o (Done, [])) is
    ∙ ap {B = Outcome × List Move} (λ (l : List ℕ). (Data l, [])) (sym (e ∙ listed_lines listed (content_of (standing_in c)) names))

pub list_same : QuestionsAreTold → (c : Content) (names : Path) → list_checks (content_of (standing_in c)) names ≡ list_checks c names
list_same told c names = ap (λ (a : Path → Option Found). parsed (find_at a names) (λ found. Refuse (is_object found) Refusal.NotDirectory ∷ [])) (told.at c)

-- ---- Mkdir

mkdir_does_by : (text : List ℕ) (names : Path) → path_text text ≡ Some names → with_path text (λ names. (Done, MakesDirectory names ∷ [])) ≡ (Done, MakesDirectory names ∷ [])
mkdir_does_by text names is = ap (λ o. option_map_or {U = Outcome × List Move} (λ (names : Path). (Done, MakesDirectory names ∷ [])) o (Done, [])) is

pub mkdir_does : (c : Content) (conn : ℕ) (text : List ℕ) (names : Path) → path_text text ≡ Some names → effect c conn (Mkdir text) ≡ (Done, MakesDirectory names ∷ [])
unfolding effect
mkdir_does c conn text names is = mkdir_does_by text names is

module _ (settled : EventsAreSettled) (c : Content) (conn : ℕ) (text : List ℕ) (names : Path) (is : path_text text ≡ Some names) where
  mkdir_last : passes_last_number (apply_all_seen (effect c conn (Mkdir text)).1 c) ≡ last_number_passed c 0 0 1
  mkdir_last = settled.numbers (effect c conn (Mkdir text)).1 c ∙ ap (λ m. last_number_passed_after c (m.1)) (mkdir_does c conn text names is)

  pub mkdir_refusal_last : first_refusal (mkdir_checks c names) ≡ None → (last : Bool) → last ≡ last_number_passed c 0 0 1 → first_refusal (all_request_checks c conn (Mkdir text)) ≡ cond last (Some TableFull) None
  mkdir_refusal_last passes last last-is =
      late_behind text (mkdir_checks c) (Refuse (passes_last_number (apply_all_seen (effect c conn (Mkdir text)).1 c)) TableFull ∷ []) names is passes
      ∙ ap (λ b. cond b (Some TableFull) None) (mkdir_last ∙ sym last-is)

-- ---- the last number

left_false : (a b : Bool) → (a || b) ≡ false → (a ≡ false) × ((b ≡ false) × Unit {0})
left_false true b e = absurd (let bad = e in cc)
left_false false b e = (refl, (e, tt))

pub directory_within : (c : Content) → last_number_passed c 0 0 1 ≡ false → c.next_directory + 1 < 2 ^ 64
directory_within c e =
    let last : nat_lt (2 ^ 64 - 1) (c.next_directory + 1) ≡ false = (left_false (nat_lt (2 ^ 64 - 1) (c.records + 0) || nat_lt (2 ^ 64 - 1) (c.next_object + 0)) (nat_lt (2 ^ 64 - 1) (c.next_directory + 1)) e).1.0 in
    grind (arith, nat_tests, last)

pub directory_passed : (c : Content) → c.records < 2 ^ 64 → c.next_object < 2 ^ 64 → (b : Bool) → b ≡ nat_lt (2 ^ 64 - 1) (c.next_directory + 1) → b ≡ last_number_passed c 0 0 1
directory_passed c records objects b is =
    let no_record : nat_lt (2 ^ 64 - 1) (c.records + 0) ≡ false = grind (arith, nat_tests, records) in
    let no_object : nat_lt (2 ^ 64 - 1) (c.next_object + 0) ≡ false = grind (arith, nat_tests, objects) in
    is ∙ or_none (nat_lt (2 ^ 64 - 1) (c.records + 0)) (nat_lt (2 ^ 64 - 1) (c.next_object + 0)) (nat_lt (2 ^ 64 - 1) (c.next_directory + 1)) no_record no_object
  where
    or_none : (a b c : Bool) → a ≡ false → b ≡ false → c ≡ ((a || b) || c)
    or_none false false c p q = refl
    or_none true b c p q = absurd (let bad = p in cc)
    or_none false true c p q = absurd (let bad = q in cc)

-- ---- in other words

pub list_fails : QuestionsAreTold → (c : Content) (text : List ℕ) (names given : Path) → path_text text ≡ Some names → given ≡ names → (s : Standing) → s ≡ standing_in c → (r : Refusal)
    → (Some r ≢ Some OutOfMemory → Some r ≡ first_refusal (list_checks (content_of s) given)) → Fails (Memory ∷ on_path text (list_checks c)) r
list_fails told c text names given is same s standing r refuses = fails_alone text (list_checks c) r (by (memory_or r))
  where
    by : (r ≡ OutOfMemory) ⊎ (Some r ≢ Some OutOfMemory) → Fails (late text (list_checks c) []) r
    by (inl memory) = inr (memory, refl)
    by (inr other) = late_fails text (list_checks c) [] names is r
        (sym (refuses other ∙ ap (λ s. first_refusal (list_checks (content_of s) given)) standing ∙ ap (λ p. first_refusal (list_checks (content_of (standing_in c)) p)) same ∙ ap first_refusal (list_same told c names)))

pub list_passes : QuestionsAreTold → (c : Content) (text : List ℕ) (names given : Path) → path_text text ≡ Some names → given ≡ names → (s : Standing) → s ≡ standing_in c
    → None ≡ first_refusal (list_checks (content_of s) given) → first_refusal (Memory ∷ on_path text (list_checks c)) ≡ None
list_passes told c text names given is same s standing passes =
    ap first_refusal (on_names text (list_checks c) names is)
    ∙ sym (passes ∙ ap (λ s. first_refusal (list_checks (content_of s) given)) standing ∙ ap (λ p. first_refusal (list_checks (content_of (standing_in c)) p)) same ∙ ap first_refusal (list_same told c names))

pub make_fails : (c : Content) (conn : ℕ) (text : List ℕ) (names given : Path) → path_text text ≡ Some names → given ≡ names → (r : Refusal) → Some r ≡ first_refusal (mkdir_checks c given) → Fails (all_request_checks c conn (Mkdir text)) r
make_fails c conn text names given is same r refuses =
    late_fails text (mkdir_checks c) (Refuse (passes_last_number (apply_all_seen (effect c conn (Mkdir text)).1 c)) TableFull ∷ []) names is r (sym (refuses ∙ ap (λ p. first_refusal (mkdir_checks c p)) same))

pub unlink_fails : (c : Content) (conn : ℕ) (text : List ℕ) (names given : Path) → path_text text ≡ Some names → given ≡ names → (r : Refusal) → Some r ≡ first_refusal (unlink_checks c given) → Fails (all_request_checks c conn (Unlink text)) r
unlink_fails c conn text names given is same r refuses =
    late_fails text (unlink_checks c) (Refuse (passes_last_number (apply_all_seen (effect c conn (Unlink text)).1 c)) TableFull ∷ []) names is r (sym (refuses ∙ ap (λ p. first_refusal (unlink_checks c p)) same))

pub unlink_last : (c : Content) (conn : ℕ) (text : List ℕ) (names : Path) → path_text text ≡ Some names → first_refusal (unlink_checks c names) ≡ None → (last : Bool) → passes_last_number (apply_all_seen (effect c conn (Unlink text)).1 c) ≡ last
    → first_refusal (all_request_checks c conn (Unlink text)) ≡ cond last (Some TableFull) None
unlink_last c conn text names is passes last last-is =
    late_behind text (unlink_checks c) (Refuse (passes_last_number (apply_all_seen (effect c conn (Unlink text)).1 c)) TableFull ∷ []) names is passes ∙ ap (λ b. cond b (Some TableFull) None) last-is
