-- Values that tell their numbers: what is said of the entries, said of the values.
use Rattle.std.proofs.Common.{◌≡◌, ℕ, ◌==◌, Bool, true, false, cond, List, [], ◌∷◌, ◌++◌, map, find, Option, Some, None, refl, sym, ap, subst, ◌∙◌}
use Rattle.std.specs.Option.{option_map}
use Rattle.std.proofs.lemmas.Bool.{eqb-true}
use Rattle.std.proofs.lemmas.Option.{none-some}
use Rattle.number_table.specs.Numbered.{Entry, Numbered, values_of, value_at, with_value, has_number, on_first, without_first, AllTell, IsNumberedBy, value_under}

find_step : {T : Type 0} (b : Bool) (e : Entry T) (r : Option (Entry T)) (s : Option T) → option_map (λ e. e.value) r ≡ s → option_map (λ e. e.value) (cond b (Some e) r) ≡ cond b (Some e.value) s
find_step true e r s h = refl
find_step false e r s h = h

-- a look-up
pub find_told : {T : Type 0} (f : T → ℕ) (number : ℕ) (es : List (Entry T)) → AllTell f es → value_under number es ≡ find (λ x. f x == number) (map (λ e. e.value) es)
find_told f number [] h = refl
find_told f number (e ∷ es) h = rw h.0 (find_step (e.number == number) e (find (has_number number) es) (find (λ x. f x == number) (map (λ e. e.value) es)) (find_told f number es h.1))

map_step : {T : Type 0} (b : Bool) (e : Entry T) (es fs : List (Entry T)) (ys zs : List T) → map (λ e. e.value) es ≡ ys → map (λ e. e.value) fs ≡ zs → map (λ e. e.value) (cond b es (e ∷ fs)) ≡ cond b ys (e.value ∷ zs)
map_step true e es fs ys zs h k = h
map_step false e es fs ys zs h k = ap (λ xs. e.value ∷ xs) k

-- a removal
pub without_told : {T : Type 0} (f : T → ℕ) (number : ℕ) (es : List (Entry T)) → AllTell f es → map (λ e. e.value) (without_first (has_number number) es) ≡ without_first (λ x. f x == number) (map (λ e. e.value) es)
without_told f number [] h = refl
without_told f number (e ∷ es) h = rw h.0 (map_step (e.number == number) e es (without_first (has_number number) es) (map (λ e. e.value) es) (without_first (λ x. f x == number) (map (λ e. e.value) es)) refl (without_told f number es h.1))

some_is : {T : Type 0} (x y : T) → Some x ≡ Some y → x ≡ y
some_is x y h = cc

on_step : {T : Type 0} (b : Bool) (e : Entry T) (change : T → T) (w : T) (es fs : List (Entry T)) (ys zs : List T) → map (λ e. e.value) es ≡ ys → (b ≡ true → w ≡ change e.value) → (b ≡ false → map (λ e. e.value) fs ≡ zs) → map (λ e. e.value) (cond b (record { number = e.number; value = w } ∷ es) (e ∷ fs)) ≡ cond b (change e.value ∷ ys) (e.value ∷ zs)
on_step true e change w es fs ys zs h f k = rw (f refl) (ap (λ xs. change e.value ∷ xs) h)
on_step false e change w es fs ys zs h f k = ap (λ xs. e.value ∷ xs) (k refl)

-- A change: the value of that number, where there is one, became what `change` makes of it.
on_told : {T : Type 0} (f : T → ℕ) (number : ℕ) (change : T → T) (w : T) (es : List (Entry T)) → AllTell f es → ((x : T) → value_under number es ≡ Some x → w ≡ change x) → map (λ e. e.value) (on_first (has_number number) (λ e. record e { value = w }) es) ≡ on_first (λ x. f x == number) change (map (λ e. e.value) es)
on_told f number change w [] h k = refl
on_told {T} f number change w (e ∷ es) h k =
    rw h.0 (on_step (e.number == number) e change w es (on_first (has_number number) (λ e. record e { value = w }) es) (map (λ e. e.value) es) (on_first (λ x. f x == number) change (map (λ e. e.value) es)) refl
    (λ b. k e.value (ap (λ b. option_map (λ (e : Entry T). e.value) (cond b (Some e) (find (has_number number) es))) b))
    (λ b. on_told f number change w es h.1 (λ x l. k x (ap (λ b. option_map (λ (e : Entry T). e.value) (cond b (Some e) (find (has_number number) es))) b ∙ l))))

-- ---- they still tell them

tell_cond : {T : Type 0} (f : T → ℕ) (b : Bool) (es fs : List (Entry T)) → AllTell f es → AllTell f fs → AllTell f (cond b es fs)
tell_cond f true es fs h k = h
tell_cond f false es fs h k = k

pub tell_without : {T : Type 0} (f : T → ℕ) (number : ℕ) (es : List (Entry T)) → AllTell f es → AllTell f (without_first (has_number number) es)
tell_without f number [] h = tt
tell_without f number (e ∷ es) h = tell_cond f (e.number == number) es (e ∷ without_first (has_number number) es) h.1 (h.0, tell_without f number es h.1)

pub tell_push : {T : Type 0} (f : T → ℕ) (es : List (Entry T)) (number : ℕ) (x : T) → AllTell f es → f x ≡ number → AllTell f (es ++ record { number = number; value = x } ∷ [])
tell_push f [] number x h k = (k, tt)
tell_push f (e ∷ es) number x h k = (h.0, tell_push f es number x h.1 k)

tell_on_step : {T : Type 0} (f : T → ℕ) (b : Bool) (e : Entry T) (w : T) (es fs : List (Entry T)) → (b ≡ true → f w ≡ e.number) → f e.value ≡ e.number → AllTell f es → AllTell f fs → AllTell f (cond b (record { number = e.number; value = w } ∷ es) (e ∷ fs))
tell_on_step f true e w es fs h g k l = (h refl, k)
tell_on_step f false e w es fs h g k l = (g, l)

tell_on : {T : Type 0} (f : T → ℕ) (number : ℕ) (w : T) (es : List (Entry T)) → AllTell f es → f w ≡ number → AllTell f (on_first (has_number number) (λ e. record e { value = w }) es)
tell_on f number w [] h k = tt
tell_on f number w (e ∷ es) h k =
    tell_on_step f (e.number == number) e w es (on_first (has_number number) (λ e. record e { value = w }) es) (λ b. let t = eqb-true e.number number b in cc) h.0 h.1 (tell_on f number w es h.1 k)

on_absent_step : {X : Type 0} (test : X → Bool) (change : X → X) (x : X) (xs : List X) (b : Bool) → cond b (Some x) (find test xs) ≡ None → (find test xs ≡ None → on_first test change xs ≡ xs) → cond b (change x ∷ xs) (x ∷ on_first test change xs) ≡ x ∷ xs
on_absent_step test change x xs true h k = absurd (none-some x (sym h))
on_absent_step test change x xs false h k = ap (λ ys. x ∷ ys) (k h)

-- no change where nothing is found
on_absent : {X : Type 0} (test : X → Bool) (change : X → X) (xs : List X) → find test xs ≡ None → on_first test change xs ≡ xs
on_absent test change [] h = refl
on_absent test change (x ∷ xs) h = on_absent_step test change x xs (test x) h (on_absent test change xs)

found_step : {X : Type 0} (test : X → Bool) (x y : X) (rest : Option X) (b : Bool) → test y ≡ b → cond b (Some y) rest ≡ Some x → (rest ≡ Some x → test x ≡ true) → test x ≡ true
found_step test x y rest true e h k = subst (λ z. test z ≡ true) (some_is y x h) e
found_step test x y rest false e h k = k h

-- what is found passes
found_passes : {X : Type 0} (test : X → Bool) (x : X) (xs : List X) → find test xs ≡ Some x → test x ≡ true
found_passes test x [] h = absurd (none-some x h)
found_passes test x (y ∷ ys) h = found_step test x y (find test ys) (test y) refl h (found_passes test x ys)

-- ---- for callers of `get_mut` and `value_mut`

-- the values where one was changed as `change` does
pub changed_values : {T : Type 0} (f : T → ℕ) (number : ℕ) (change : T → T) (x w : T) (t : Numbered T) → IsNumberedBy f t → value_at number t ≡ Some x → w ≡ change x → values_of (with_value t number w) ≡ on_first (λ x. f x == number) change (values_of t)
changed_values f number change x w t h e k = on_told f number change w t.entries h (λ y l. k ∙ ap change (some_is x y (sym e ∙ l)))

-- they tell their numbers where the change leaves the number
pub changed_told : {T : Type 0} (f : T → ℕ) (number : ℕ) (x w : T) (t : Numbered T) → IsNumberedBy f t → value_at number t ≡ Some x → f w ≡ f x → IsNumberedBy f (with_value t number w)
changed_told f number x w t h e k =
    tell_on f number w t.entries h (k ∙ eqb-true (f x) number (found_passes (λ x. f x == number) x (values_of t) (sym (find_told f number t.entries h) ∙ e)))

-- nothing changes where there is no such value
pub absent_values : {T : Type 0} (f : T → ℕ) (number : ℕ) (change : T → T) (t : Numbered T) → IsNumberedBy f t → value_at number t ≡ None → values_of t ≡ on_first (λ x. f x == number) change (values_of t)
absent_values f number change t h e = sym (on_absent (λ x. f x == number) change (values_of t) (sym (find_told f number t.entries h) ∙ e))
