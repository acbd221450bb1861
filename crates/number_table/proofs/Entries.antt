-- What slots hold, and how a number is found among them.
use Rattle.std.proofs.Common.{◌≡◌, ◌≢◌, ℕ, zero, suc, ◌<◌, ◌≤◌, ◌==◌, ◌&&◌, Bool, true, false, cond, List, [], ◌∷◌, ◌++◌, length, filter, find, map, Option, Some, None, is_some, IsSome, IfSome, IfNone, get_or, refl, sym, ap, ◌∙◌, inl, inr, arith}
use Rattle.std.specs.Option.{option_map}
use Rattle.std.proofs.Math.ListN.{set}
use Rattle.std.proofs.lemmas.Bool.{cases_eq, false≢true, ne_eqb, eq-eqb, eqb-true}
use Rattle.number_table.specs.Numbered.{Entry, has_number, value_under}
use Rattle.number_table.specs.Index.{Slot, Rises, IsPlace, StandsAt, numbers_of, has_value, stands, entry_before, entries_in}
use Rattle.number_table.proofs.Standing.{rises_lower}

-- entry_before leaves what comes behind
entry_before_append : {T : Type 0} (n : ℕ) (o : Option T) (xs ys : List (Entry T)) → entry_before n o (xs ++ ys) ≡ entry_before n o xs ++ ys
entry_before_append n None xs ys = refl
entry_before_append n (Some x) xs ys = refl

-- one more slot, with a value
pub entries_push : {T : Type 0} (ss : List (Slot T)) (n : ℕ) (x : T) → entries_in (ss ++ record { number = n; value = Some x } ∷ []) ≡ entries_in ss ++ record { number = n; value = x } ∷ []
entries_push [] n x = refl
entries_push (s ∷ ss) n x = ap (entry_before s.number s.value) (entries_push ss n x) ∙ entry_before_append s.number s.value (entries_in ss) (record { number = n; value = x } ∷ [])

pub numbers_push : {T : Type 0} (ss : List (Slot T)) (s : Slot T) → numbers_of (ss ++ s ∷ []) ≡ numbers_of ss ++ s.number ∷ []
numbers_push [] s = refl
numbers_push (t ∷ ss) s = ap (λ ns. t.number ∷ ns) (numbers_push ss s)

length_before : {T : Type 0} (n : ℕ) (o : Option T) (rest : List (Entry T)) → length (entry_before n o rest) ≤ suc (length rest)
length_before n None rest = omega arith
length_before n (Some x) rest = omega arith

-- there are no more values than slots
pub length_entries : {T : Type 0} (ss : List (Slot T)) → length (entries_in ss) ≤ length ss
length_entries [] = omega arith
length_entries (s ∷ ss) = let e = length_before s.number s.value (entries_in ss) in let f = length_entries ss in omega arith

-- ---- without the slots that have no value

filter_step : {T : Type 0} (n : ℕ) (o : Option T) (kept : List (Slot T)) (rest : List (Entry T)) → entries_in kept ≡ rest → entries_in (cond (is_some o) (record { number = n; value = o } ∷ kept) kept) ≡ entry_before n o rest
filter_step n None kept rest e = e
filter_step n (Some x) kept rest e = ap (λ es. record { number = n; value = x } ∷ es) e

pub entries_filter : {T : Type 0} (ss : List (Slot T)) → entries_in (filter has_value ss) ≡ entries_in ss
entries_filter [] = refl
entries_filter (s ∷ ss) = filter_step s.number s.value (filter has_value ss) (entries_in ss) (entries_filter ss)

rises_step : {T : Type 0} (low n : ℕ) (o : Option T) (kept : List (Slot T)) (bound : ℕ) → low ≤ n → Rises (suc n) (numbers_of kept) bound → Rises low (numbers_of (cond (is_some o) (record { number = n; value = o } ∷ kept) kept)) bound
rises_step low n None kept bound h r = rises_lower low (suc n) (numbers_of kept) bound (omega arith) r
rises_step low n (Some x) kept bound h r = (h, r)

pub rises_filter : {T : Type 0} (low : ℕ) (ss : List (Slot T)) (bound : ℕ) → Rises low (numbers_of ss) bound → Rises low (numbers_of (filter has_value ss)) bound
rises_filter low [] bound r = r
rises_filter low (s ∷ ss) bound r = rises_step low s.number s.value (filter has_value ss) bound r.0 (rises_filter (suc s.number) ss bound r.1)

rises_entry : {T : Type 0} (low n : ℕ) (o : Option T) (rest : List (Entry T)) (bound : ℕ) → low ≤ n → Rises (suc n) (map (λ e. e.number) rest) bound → Rises low (map (λ e. e.number) (entry_before n o rest)) bound
rises_entry low n None rest bound h r = rises_lower low (suc n) (map (λ e. e.number) rest) bound (omega arith) r
rises_entry low n (Some x) rest bound h r = (h, r)

-- the numbers of the entries rise too
pub rises_entries : {T : Type 0} (low : ℕ) (ss : List (Slot T)) (bound : ℕ) → Rises low (numbers_of ss) bound → Rises low (map (λ e. e.number) (entries_in ss)) bound
rises_entries low [] bound r = r
rises_entries low (s ∷ ss) bound r = rises_entry low s.number s.value (entries_in ss) bound r.0 (rises_entries (suc s.number) ss bound r.1)

length_step : {T : Type 0} (n : ℕ) (o : Option T) (kept : List (Slot T)) (rest : List (Entry T)) → length kept ≡ length rest → length (cond (is_some o) (record { number = n; value = o } ∷ kept) kept) ≡ length (entry_before n o rest)
length_step n None kept rest e = e
length_step n (Some x) kept rest e = ap suc e

pub length_filter : {T : Type 0} (ss : List (Slot T)) → length (filter has_value ss) ≡ length (entries_in ss)
length_filter [] = refl
length_filter (s ∷ ss) = length_step s.number s.value (filter has_value ss) (entries_in ss) (length_filter ss)

-- ---- finding

-- a slot of another number is passed over
find_past : {T : Type 0} (number n : ℕ) (o : Option T) (rest : List (Entry T)) → n ≢ number → find (has_number number) (entry_before n o rest) ≡ find (has_number number) rest
find_past number n None rest h = refl
find_past number n (Some x) rest h = rw (ne_eqb n number h) refl

-- a number below all of these is not among them
find_below : {T : Type 0} (number low : ℕ) (ss : List (Slot T)) (bound : ℕ) → number < low → Rises low (numbers_of ss) bound → find (has_number number) (entries_in ss) ≡ None
find_below number low [] bound h r = refl
find_below number low (s ∷ ss) bound h r =
    find_past number s.number s.value (entries_in ss) (let e = r.0 in omega arith)
    ∙ find_below number (suc s.number) ss bound (let e = r.0 in omega arith) r.1

and_false : (b : Bool) → b && false ≡ false
and_false true = refl
and_false false = refl

and_of_true : (b : Bool) → b && true ≡ true → b ≡ true
and_of_true true h = refl
and_of_true false h = h

and_true : (b : Bool) → b && true ≡ false → b ≡ false
and_true true h = h
and_true false h = refl

absent_here : {T : Type 0} (number n : ℕ) (o : Option T) (rest : List (Entry T)) → (n == number) && is_some o ≡ false → find (has_number number) rest ≡ None → find (has_number number) (entry_before n o rest) ≡ None
absent_here number n None rest h e = e
absent_here number n (Some x) rest h e = rw (and_true (n == number) h) e

-- a number whose place is at the end, or taken by a slot that is none of it or has no value, has no value
pub absent : {T : Type 0} (number place low : ℕ) (ss : List (Slot T)) (bound : ℕ) → IsPlace number place (numbers_of ss) → Rises low (numbers_of ss) bound → ((d : Slot T) → place < length ss → stands number (get_or ss place d) ≡ false) → find (has_number number) (entries_in ss) ≡ None
absent number place low [] bound p r h = refl
absent number zero low (s ∷ ss) bound p r h = absent_here number s.number s.value (entries_in ss) (h s (omega arith)) (find_below number (suc s.number) ss bound (omega arith) r.1)
absent number (suc place) low (s ∷ ss) bound p r h =
    find_past number s.number s.value (entries_in ss) (let e = p.0 in omega arith)
    ∙ absent number place (suc s.number) ss bound p.1 r.1 (λ d l. h d (omega arith))

stands_here : {T : Type 0} (number n : ℕ) (o : Option T) → (n == number) && is_some o ≡ true → (n ≡ number) × IsSome o
stands_here number n None h = absurd (false≢true (sym (and_false (n == number)) ∙ h))
stands_here number n (Some x) h = (eqb-true n number (and_of_true (n == number) h), refl)

-- where a number stands, by its place
pub stands_at : {T : Type 0} (number place : ℕ) (ss : List (Slot T)) (d : Slot T) → IsPlace number place (numbers_of ss) → place < length ss → stands number (get_or ss place d) ≡ true → StandsAt number place ss
stands_at number place [] d p h e = absurd (omega arith)
stands_at number zero (s ∷ ss) d p h e = stands_here number s.number s.value e
stands_at number (suc place) (s ∷ ss) d p h e = (p.0, stands_at number place ss d p.1 (omega arith) e)

value_here : {T : Type 0} (number n : ℕ) (o : Option T) (rest : List (Entry T)) → n ≡ number → find (has_number number) rest ≡ None → o ≡ value_under number (entry_before n o rest)
value_here number n None rest e h = ap (option_map (λ e. e.value)) (sym h)
value_here number n (Some x) rest e h = rw (eq-eqb n number e) refl

-- at the place of a number, a slot of that number has what it has
pub value_at_place : {T : Type 0} (number place low : ℕ) (ss : List (Slot T)) (d : Slot T) (bound : ℕ) → IsPlace number place (numbers_of ss) → Rises low (numbers_of ss) bound → place < length ss → (get_or ss place d).number ≡ number → (get_or ss place d).value ≡ value_under number (entries_in ss)
value_at_place number place low [] d bound p r l e = absurd (omega arith)
value_at_place number zero low (s ∷ ss) d bound p r l e = value_here number s.number s.value (entries_in ss) e (find_below number (suc s.number) ss bound (omega arith) r.1)
value_at_place number (suc place) low (s ∷ ss) d bound p r l e =
    value_at_place number place (suc s.number) ss d bound p.1 r.1 (omega arith) e
    ∙ ap (option_map (λ e. e.value)) (sym (find_past number s.number s.value (entries_in ss) (let f = p.0 in omega arith)))

-- a number that has a value stands at its place
pub known_stands : {T : Type 0} (number place low : ℕ) (ss : List (Slot T)) (bound : ℕ) → IsPlace number place (numbers_of ss) → Rises low (numbers_of ss) bound → IsSome (value_under number (entries_in ss)) → StandsAt number place ss
known_stands number place low [] bound p r h = absurd (false≢true h)
known_stands number zero low (s ∷ ss) bound p r h =
    let below = find_below number (suc s.number) ss bound (omega arith) r.1 in
    elim (cases_eq s.number number) [
      | inl same ↦ (same, rw (value_here number s.number s.value (entries_in ss) same below) h)
      | inr differs ↦
          let none = find_past number s.number s.value (entries_in ss) differs ∙ below in
          absurd (false≢true (rw none at h))
    ]
known_stands number (suc place) low (s ∷ ss) bound p r h =
    (p.0, known_stands number place (suc s.number) ss bound p.1 r.1 (rw (find_past number s.number s.value (entries_in ss) (let f = p.0 in omega arith)) at h))

-- ---- a slot at which a number stands

pub stands_within : {T : Type 0} (number place : ℕ) (ss : List (Slot T)) → StandsAt number place ss → place < length ss
stands_within number place [] h = absurd h
stands_within number zero (s ∷ ss) h = omega arith
stands_within number (suc place) (s ∷ ss) h = let e = stands_within number place ss h.1 in omega arith

find_here : {T : Type 0} (number n : ℕ) (o : Option T) (rest : List (Entry T)) → n ≡ number → IsSome o → o ≡ value_under number (entry_before n o rest)
find_here number n None rest e h = absurd (false≢true h)
find_here number n (Some x) rest e h = rw (eq-eqb n number e) refl

-- the slot has the value of that number
pub stands_value : {T : Type 0} (number place : ℕ) (ss : List (Slot T)) (d : Slot T) → StandsAt number place ss → (get_or ss place d).value ≡ value_under number (entries_in ss)
stands_value number place [] d h = absurd h
stands_value number zero (s ∷ ss) d h = find_here number s.number s.value (entries_in ss) h.0 h.1
stands_value number (suc place) (s ∷ ss) d h =
    stands_value number place ss d h.1
    ∙ ap (option_map (λ e. e.value)) (sym (find_past number s.number s.value (entries_in ss) (let e = h.0 in omega arith)))

pub stands_has_value : {T : Type 0} (number place : ℕ) (ss : List (Slot T)) (d : Slot T) → StandsAt number place ss → IsSome (get_or ss place d).value
stands_has_value number place [] d h = absurd h
stands_has_value number zero (s ∷ ss) d h = h.1
stands_has_value number (suc place) (s ∷ ss) d h = stands_has_value number place ss d h.1

-- a slot that keeps its number leaves the numbers as they are
pub numbers_set : {T : Type 0} (place : ℕ) (ss : List (Slot T)) (d : Slot T) (n : ℕ) (o : Option T) → n ≡ (get_or ss place d).number → numbers_of (set ss place (record { number = n; value = o })) ≡ numbers_of ss
numbers_set place [] d n o e = refl
numbers_set zero (s ∷ ss) d n o e = ap (λ m. m ∷ numbers_of ss) e
numbers_set (suc place) (s ∷ ss) d n o e = ap (λ ns. s.number ∷ ns) (numbers_set place ss d n o e)

stands_some_here : {T : Type 0} (number n : ℕ) (o : Option T) (rest : List (Entry T)) → n ≡ number → IsSome o → IsSome (value_under number (entry_before n o rest))
stands_some_here number n None rest e h = absurd (false≢true h)
stands_some_here number n (Some x) rest e h = rw (eq-eqb n number e) refl

-- where a number stands, it has a value
stands_some : {T : Type 0} (number place : ℕ) (ss : List (Slot T)) → StandsAt number place ss → IsSome (value_under number (entries_in ss))
stands_some number place [] h = absurd h
stands_some number zero (s ∷ ss) h = stands_some_here number s.number s.value (entries_in ss) h.0 h.1
stands_some number (suc place) (s ∷ ss) h = rw (find_past number s.number s.value (entries_in ss) (let e = h.0 in omega arith)) (stands_some number place ss h.1)

-- what finding says, in one
pub place_tells : {T : Type 0} (number : ℕ) (ss : List (Slot T)) (r : Option ℕ) → IfSome r (λ place. StandsAt number place ss) → IfNone r (find (has_number number) (entries_in ss) ≡ None) → is_some r ≡ is_some (value_under number (entries_in ss))
place_tells number ss None h k = ap (λ o. is_some (option_map (λ e. e.value) o)) (sym k)
place_tells number ss (Some place) h k = sym (stands_some number place ss h)
