-- What slots hold once a value has left or was changed.
use Rattle.std.proofs.Common.{◌≡◌, ◌≢◌, ℕ, zero, suc, ◌+◌, Bool, true, false, cond, List, [], ◌∷◌, length, find, Option, Some, None, IsSome, get_or, refl, sym, ap, ◌∙◌, arith}
use Rattle.std.proofs.Math.ListN.{set}
use Rattle.std.proofs.lemmas.Bool.{false≢true, ne_eqb, eq-eqb}
use Rattle.std.proofs.lemmas.Option.{none-some}
use Rattle.number_table.specs.Numbered.{Entry, has_number, on_first, without_first}
use Rattle.number_table.specs.Index.{Slot, StandsAt, entry_before, entries_in}

-- ---- a value that has left

without_here : {T : Type 0} (number n : ℕ) (o : Option T) (rest : List (Entry T)) → n ≡ number → IsSome o → rest ≡ without_first (has_number number) (entry_before n o rest)
without_here number n None rest e h = absurd (false≢true h)
without_here number n (Some x) rest e h = rw (eq-eqb n number e) refl

without_past : {T : Type 0} (number n : ℕ) (o : Option T) (rest : List (Entry T)) → n ≢ number → entry_before n o (without_first (has_number number) rest) ≡ without_first (has_number number) (entry_before n o rest)
without_past number n None rest h = refl
without_past number n (Some x) rest h = rw (ne_eqb n number h) refl

pub entries_removed : {T : Type 0} (number place : ℕ) (ss : List (Slot T)) (n : ℕ) → StandsAt number place ss → entries_in (set ss place (record { number = n; value = None })) ≡ without_first (has_number number) (entries_in ss)
entries_removed number place [] n h = absurd h
entries_removed number zero (s ∷ ss) n h = without_here number s.number s.value (entries_in ss) h.0 h.1
entries_removed number (suc place) (s ∷ ss) n h =
    ap (entry_before s.number s.value) (entries_removed number place ss n h.1)
    ∙ without_past number s.number s.value (entries_in ss) (let e = h.0 in omega arith)

without_absent_step : {T : Type 0} (test : Entry T → Bool) (e : Entry T) (es : List (Entry T)) (b : Bool) → test e ≡ b → cond b (Some e) (find test es) ≡ None → (find test es ≡ None → without_first test es ≡ es) → cond b es (e ∷ without_first test es) ≡ e ∷ es
without_absent_step test e es true h k f = absurd (none-some e (sym k))
without_absent_step test e es false h k f = ap (λ xs. e ∷ xs) (f k)

-- nothing is taken out where nothing is found
pub without_absent : {T : Type 0} (test : Entry T → Bool) (es : List (Entry T)) → find test es ≡ None → without_first test es ≡ es
without_absent test [] h = refl
without_absent test (e ∷ es) h = without_absent_step test e es (test e) refl h (λ k. without_absent test es k)

length_here : {T : Type 0} (n : ℕ) (o : Option T) (rest : List (Entry T)) → IsSome o → suc (length rest) ≡ length (entry_before n o rest)
length_here n None rest h = absurd (false≢true h)
length_here n (Some x) rest h = refl

length_past : {T : Type 0} (n : ℕ) (o : Option T) (xs ys : List (Entry T)) → suc (length xs) ≡ length ys → suc (length (entry_before n o xs)) ≡ length (entry_before n o ys)
length_past n None xs ys h = h
length_past n (Some x) xs ys h = ap suc h

-- one fewer
pub length_removed : {T : Type 0} (number place : ℕ) (ss : List (Slot T)) (n : ℕ) → StandsAt number place ss → suc (length (entries_in (set ss place (record { number = n; value = None })))) ≡ length (entries_in ss)
length_removed number place [] n h = absurd h
length_removed number zero (s ∷ ss) n h = length_here s.number s.value (entries_in ss) h.1
length_removed number (suc place) (s ∷ ss) n h = length_past s.number s.value (entries_in (set ss place (record { number = n; value = None }))) (entries_in ss) (length_removed number place ss n h.1)

-- ---- a value that was changed

on_here : {T : Type 0} (number n : ℕ) (o : Option T) (w : T) (rest : List (Entry T)) → n ≡ number → IsSome o → record { number = n; value = w } ∷ rest ≡ on_first (has_number number) (λ e. record e { value = w }) (entry_before n o rest)
on_here number n None w rest e h = absurd (false≢true h)
on_here number n (Some x) w rest e h = rw (eq-eqb n number e) refl

on_past : {T : Type 0} (number n : ℕ) (o : Option T) (w : T) (rest : List (Entry T)) → n ≢ number → entry_before n o (on_first (has_number number) (λ e. record e { value = w }) rest) ≡ on_first (has_number number) (λ e. record e { value = w }) (entry_before n o rest)
on_past number n None w rest h = refl
on_past number n (Some x) w rest h = rw (ne_eqb n number h) refl

pub entries_changed : {T : Type 0} (number place : ℕ) (ss : List (Slot T)) (d : Slot T) (n : ℕ) (w : T) → n ≡ (get_or ss place d).number → StandsAt number place ss → entries_in (set ss place (record { number = n; value = Some w })) ≡ on_first (has_number number) (λ e. record e { value = w }) (entries_in ss)
entries_changed number place [] d n w e h = absurd h
entries_changed number zero (s ∷ ss) d n w e h = ap (λ m. record { number = m; value = w } ∷ entries_in ss) e ∙ on_here number s.number s.value w (entries_in ss) h.0 h.1
entries_changed number (suc place) (s ∷ ss) d n w e h =
    ap (entry_before s.number s.value) (entries_changed number place ss d n w e h.1)
    ∙ on_past number s.number s.value w (entries_in ss) (let e = h.0 in omega arith)

length_on : {T : Type 0} (n : ℕ) (o : Option T) (xs ys : List (Entry T)) → length xs ≡ length ys → length (entry_before n o xs) ≡ length (entry_before n o ys)
length_on n None xs ys h = h
length_on n (Some x) xs ys h = ap suc h

-- as many
pub length_changed : {T : Type 0} (number place : ℕ) (ss : List (Slot T)) (n : ℕ) (w : T) → StandsAt number place ss → length (entries_in (set ss place (record { number = n; value = Some w }))) ≡ length (entries_in ss)
length_changed number place [] n w h = absurd h
length_changed number zero (s ∷ ss) n w h = length_here s.number s.value (entries_in ss) h.1
length_changed number (suc place) (s ∷ ss) n w h = length_on s.number s.value (entries_in (set ss place (record { number = n; value = Some w }))) (entries_in ss) (length_changed number place ss n w h.1)

-- the count of what is left
pub count_removed : {T : Type 0} (number place : ℕ) (ss : List (Slot T)) (n count : ℕ) → count ≡ length (entries_in ss) → StandsAt number place ss → count ≡ length (entries_in (set ss place (record { number = n; value = None }))) + 1
count_removed number place ss n count k h = let l = length_removed number place ss n h in omega arith
