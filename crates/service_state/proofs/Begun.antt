-- What an event begins with, as the moves that it makes: without shares, how many records it tells, and that lines are ready.
use Rattle.std.specs.Prelude.{◌≡◌, ◌&&◌, ℕ, List, [], ◌∷◌, ◌++◌, Bool, true, false, not, Option, Some, None, Err, filter, length, map}
use Rattle.std.specs.Option.{option_map_or}
use Rattle.std.specs.List.{cons_option, flat_map, list_all}
use Rattle.std.proofs.Common.{refl, ◌∙◌, ap, cond, append-nil}
use Rattle.pps_types.specs.declared.refusal.Refusal.TheVariants.{BadHandle}
use Rattle.pps_types.specs.declared.outcome.Item.TheVariants.{ReadDone}
use Rattle.pps_types.specs.declared.record.Kind.{Kind}
use Rattle.pps_types.specs.declared.record.Kind.TheVariants.{Change}
use Rattle.pps_types.specs.History.{Entry}
use Rattle.pps_types.specs.Content.{Content}
use Rattle.pps_types.specs.Plan.{Move, Closes as ClosesHandle, Queues, AppendsRecord as HappensTo, apply_all_seen}
use Rattle.service_laws.specs.Told.{entry_told, entries_told}
use Rattle.service_laws.specs.SettlingTargets.{makes_object, makes_directory, last_number_passed, last_number_passed_after}
use Rattle.name_table.specs.Standing.{Named}
use Rattle.service_state.specs.declared.beginning.Beginning.{Beginning}
use Rattle.service_state.specs.declared.beginning.Beginning.TheVariants.{Closes, AppendsRecord}
use Rattle.service_state.specs.Moves.{closing}
use Rattle.service_state.specs.Lines.{HasLinesFor, is_change}
use Rattle.service_state.specs.Beginning.{moves_of, entries_in, CanBeginAll, is_plain, HaveLines}
use Rattle.service_state.specs.Begun.{bare, telling}

-- ---- shares aside

pub bare_moves : (xs : List Beginning) → flat_map moves_of (map bare xs) ≡ flat_map moves_of xs
bare_moves [] = refl
bare_moves (Closes conn n parked ∷ xs) = ap (λ ms. closing conn n parked ++ ms) (bare_moves xs)
bare_moves (AppendsRecord told ∷ xs) = ap (λ ms. HappensTo told.entry ∷ ms) (bare_moves xs)

pub bare_plain : (xs : List Beginning) → list_all is_plain (map bare xs) ≡ list_all is_plain xs
bare_plain [] = refl
bare_plain (Closes conn n parked ∷ xs) = bare_plain xs
bare_plain (AppendsRecord told ∷ xs) = ap (λ b. not (is_change told.entry.record_of.kind) && b) (bare_plain xs)

pub bare_able : (xs : List Beginning) (c : Content) → CanBeginAll c (map bare xs) → CanBeginAll c xs
bare_able [] c able = tt
bare_able (Closes conn n parked ∷ xs) c able = (able.0, bare_able xs (apply_all_seen (closing conn n parked) c) able.1)
bare_able (AppendsRecord told ∷ xs) c able = (tt, bare_able xs (apply_all_seen (HappensTo told.entry ∷ []) c) able.1)

-- ---- how many records

told_apart : (xs ys : List Move) → entries_told (xs ++ ys) ≡ entries_told xs ++ entries_told ys
told_apart [] ys = refl
told_apart (x ∷ xs) ys = by (entry_told x) (told_apart xs ys)
  where
    by : (o : Option Entry) → entries_told (xs ++ ys) ≡ entries_told xs ++ entries_told ys → cons_option o (entries_told (xs ++ ys)) ≡ cons_option o (entries_told xs) ++ entries_told ys
    by None rest = rest
    by (Some e) rest = ap (λ es. e ∷ es) rest

closing_untold : (conn n : ℕ) (parked : Bool) (ms : List Move) → entries_told (closing conn n parked ++ ms) ≡ entries_told ms
closing_untold conn n true ms = refl
closing_untold conn n false ms = refl

pub told_begun : (xs : List Beginning) → entries_told (flat_map moves_of xs) ≡ entries_in xs
told_begun [] = refl
told_begun (Closes conn n parked ∷ xs) = closing_untold conn n parked (flat_map moves_of xs) ∙ told_begun xs
told_begun (AppendsRecord told ∷ xs) = ap (λ es. told.entry ∷ es) (told_begun xs)

-- a move that makes neither an object nor a directory, in front of others
made_none : (test : Move → Bool) → ((n : ℕ) → test (ClosesHandle n) ≡ false) → ((conn n : ℕ) → test (Queues conn (ReadDone n (Err BadHandle))) ≡ false) → ((e : Entry) → test (HappensTo e) ≡ false)
    → (xs : List Beginning) (ms : List Move) → filter test ms ≡ [] → filter test (flat_map moves_of xs ++ ms) ≡ []
made_none test closes queues happens [] ms none = none
made_none test closes queues happens (AppendsRecord told ∷ xs) ms none =
    ap (λ b. cond b (HappensTo told.entry ∷ filter test (flat_map moves_of xs ++ ms)) (filter test (flat_map moves_of xs ++ ms))) (happens told.entry) ∙ made_none test closes queues happens xs ms none
made_none test closes queues happens (Closes conn n parked ∷ xs) ms none = by parked ∙ made_none test closes queues happens xs ms none
  where
    rest : List Move
    rest = flat_map moves_of xs ++ ms

    by : (parked : Bool) → filter test ((closing conn n parked ++ flat_map moves_of xs) ++ ms) ≡ filter test (flat_map moves_of xs ++ ms)
    by true = ap (λ b. cond b (ClosesHandle n ∷ filter test (Queues conn (ReadDone n (Err BadHandle)) ∷ (flat_map moves_of xs ++ ms))) (filter test (Queues conn (ReadDone n (Err BadHandle)) ∷ (flat_map moves_of xs ++ ms)))) (closes n)
        ∙ ap (λ b. cond b (Queues conn (ReadDone n (Err BadHandle)) ∷ filter test (flat_map moves_of xs ++ ms)) (filter test (flat_map moves_of xs ++ ms))) (queues conn n)
    by false = ap (λ b. cond b (ClosesHandle n ∷ filter test (flat_map moves_of xs ++ ms)) (filter test (flat_map moves_of xs ++ ms))) (closes n)

-- whether the last number is passed, by what is begun; none of the moves behind counts
pub numbers_begun : (c : Content) (xs : List Beginning) (ms : List Move) → entries_told ms ≡ [] → filter makes_object ms ≡ [] → filter makes_directory ms ≡ []
    → last_number_passed_after c (flat_map moves_of xs ++ ms) ≡ last_number_passed c (length (entries_in xs)) 0 0
numbers_begun c xs ms untold objects directories =
    let told : entries_told (flat_map moves_of xs ++ ms) ≡ entries_in xs =
    told_apart (flat_map moves_of xs) ms ∙ ap (λ es. entries_told (flat_map moves_of xs) ++ es) untold ∙ append-nil (entries_told (flat_map moves_of xs)) ∙ told_begun xs in
    λ i. last_number_passed c (length (told i)) (length (made_none makes_object (λ n. refl) (λ conn n. refl) (λ e. refl) xs ms objects i)) (length (made_none makes_directory (λ n. refl) (λ conn n. refl) (λ e. refl) xs ms directories i))

-- ---- lines

plain_kind : (kind : Kind) (number : ℕ) (n : Named) → not (is_change kind) ≡ true → HasLinesFor kind number n
plain_kind (Change lines) number n plain = absurd (let bad = plain in cc)
plain_kind kind number n plain = tt

pub left_true : (a b : Bool) → (a && b) ≡ true → (a ≡ true) × ((b ≡ true) × Unit {0})
left_true true b e = (refl, (e, tt))
left_true false b e = absurd (let bad = e in cc)

pub have_lines : (xs : List Beginning) (n : Named) → list_all is_plain xs ≡ true → HaveLines xs n
have_lines [] n plain = tt
have_lines (Closes conn k parked ∷ xs) n plain = have_lines xs n plain
have_lines (AppendsRecord told ∷ xs) n plain =
    let is = left_true (not (is_change told.entry.record_of.kind)) (list_all is_plain xs) plain in
    (plain_kind told.entry.record_of.kind told.entry.record_of.object n is.0, is.1.0)

-- ---- moves

-- what is told by a move, where something is
abbrev pub moves_told : Option Entry → List Move
moves_told told = option_map_or (λ e. HappensTo e ∷ []) told []

pub told_moves : (o : Option Entry) → moves_told o ≡ flat_map moves_of (telling o)
told_moves None = refl
told_moves (Some e) = refl
