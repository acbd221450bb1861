-- What an index finds in a slab, before and after the slab changes at one key.
use Rattle.std.proofs.Common.{◌≡◌, ◌≢◌, ℕ, zero, suc, ◌+◌, ◌<◌, ◌≤◌, ◌==◌, Bool, true, false, cond, List, [], ◌∷◌, ◌++◌, length, filter, Option, Some, None, is_some, IsSome, get_or, refl, sym, ap, ◌∙◌, inl, inr, arith}
use Rattle.std.specs.Option.{option_map}
use Rattle.std.proofs.Math.ListN.{set}
use Rattle.std.proofs.lemmas.Bool.{cases_eq, false≢true, ne_eqb, eq-eqb, eqb-true}
use Rattle.std.proofs.lemmas.List.{map-append}
use Rattle.std.proofs.lemmas.List.Sums.{sum_by-set}
use Rattle.slab.specs.Slab.{Slab, get, slab_len, Updates, with_value}
use Rattle.slab.proofs.SlabLemmas.{Updates-with_value}
use Rattle.number_table.specs.declared.index.Place.{Place}
use Rattle.number_table.specs.declared.index.Held.{Held}
use Rattle.number_table.specs.Numbered.{value_under, has_number, on_first}
use Rattle.number_table.specs.Index.{Slot, Rises, StandsAt, has_value, numbers_in, numbers_of, IsSound, key_at, value_for, slot_at, slots_in, entries_in, with_held_value}
use Rattle.number_table.proofs.Standing.{rises_within}
use Rattle.number_table.proofs.Entries.{stands_value, stands_has_value}
use Rattle.number_table.proofs.Edits.{entries_changed, length_changed, count_removed}

-- the slots have the numbers of the index
pub numbers_listed : {T : Type 0} (values : Slab (Held T)) (ps : List Place) → numbers_of (slots_in values ps) ≡ numbers_in ps
numbers_listed values [] = refl
numbers_listed values (p ∷ ps) = ap (λ ns. p.number ∷ ns) (numbers_listed values ps)

pub length_listed : {T : Type 0} (values : Slab (Held T)) (ps : List Place) → length (slots_in values ps) ≡ length ps
length_listed values [] = refl
length_listed values (p ∷ ps) = ap suc (length_listed values ps)

pub slot_read : {T : Type 0} (values : Slab (Held T)) (place : ℕ) (ps : List Place) (d : Place) → get_or (slots_in values ps) place (slot_at values d) ≡ slot_at values (get_or ps place d)
slot_read values place [] d = refl
slot_read values zero (p ∷ ps) d = refl
slot_read values (suc place) (p ∷ ps) d = slot_read values place ps d

-- ---- other numbers

-- what a key has is of that number, if it has something
abbrev pub IsOf : {T : Type 0} → ℕ → Option (Held T) → Type 0
IsOf number None = Unit {0}
IsOf number (Some held) = held.number ≡ number

-- all numbers are others
abbrev AreOthers : ℕ → List Place → Type 0
AreOthers number [] = Unit {0}
AreOthers number (p ∷ ps) = (p.number ≢ number) × AreOthers number ps

others_above : (number low : ℕ) (ps : List Place) (bound : ℕ) → number < low → Rises low (numbers_in ps) bound → AreOthers number ps
others_above number low [] bound h r = tt
others_above number low (p ∷ ps) bound h r = (λ e. absurd (let f = r.0 in omega arith), others_above number (suc p.number) ps bound (let f = r.0 in omega arith) r.1)

others_below : (number low : ℕ) (ps : List Place) (bound : ℕ) → bound ≤ number → Rises low (numbers_in ps) bound → AreOthers number ps
others_below number low [] bound h r = tt
others_below number low (p ∷ ps) bound h r =
    (λ e. absurd (let f = rises_within (suc p.number) (numbers_in ps) bound r.1 in omega arith), others_below number (suc p.number) ps bound h r.1)

value_for_other : {T : Type 0} (number other : ℕ) (o : Option (Held T)) → IsOf number o → other ≢ number → value_for other o ≡ None
value_for_other number other None h d = refl
value_for_other number other (Some held) h d = rw (ne_eqb held.number other (λ e. d (sym e ∙ h))) refl

slot_kept : {T : Type 0} (number key : ℕ) (old new : Slab (Held T)) (o : Option (Held T)) → Updates old new key o → IsOf number (get old key) → IsOf number o → (p : Place) → p.number ≢ number → slot_at new p ≡ slot_at old p
slot_kept {T} number key old new o u h k p d =
    let slot : Option T → Slot T = λ v. record { number = p.number; value = v } in
    elim (cases_eq p.key key) [
      | inl same ↦
          let after = ap (λ i. value_for p.number (get new i)) same ∙ ap (value_for p.number) u.changed ∙ value_for_other number p.number o k d in
          let before = ap (λ i. value_for p.number (get old i)) same ∙ value_for_other number p.number (get old key) h d in
          ap slot (after ∙ sym before)
      | inr differs ↦ ap (λ h. slot (value_for p.number h)) (u.others p.key differs)
    ]

both : {X : Type 0} (x y : X) (xs ys : List X) → x ≡ y → xs ≡ ys → x ∷ xs ≡ y ∷ ys
both x y xs ys e f = rw (e, f) refl

-- where a key changes that is of one number alone, the slots of other numbers stay
slots_kept : {T : Type 0} (number key : ℕ) (old new : Slab (Held T)) (o : Option (Held T)) → Updates old new key o → IsOf number (get old key) → IsOf number o → (ps : List Place) → AreOthers number ps → slots_in new ps ≡ slots_in old ps
slots_kept number key old new o u h k [] a = refl
slots_kept number key old new o u h k (p ∷ ps) a =
    both (slot_at new p) (slot_at old p) (slots_in new ps) (slots_in old ps) (slot_kept number key old new o u h k p a.0) (slots_kept number key old new o u h k ps a.1)

-- ---- a value more

own_value : {T : Type 0} (n : ℕ) (x : T) → value_for n (Some (record { number = n; value = x })) ≡ Some x
own_value n x = rw (eq-eqb n n refl) refl

pub slots_pushed : {T : Type 0} (n key low : ℕ) (x : T) (old new : Slab (Held T)) (ps : List Place) (bound : ℕ) → Rises low (numbers_in ps) bound → bound ≤ n → get old key ≡ None → Updates old new key (Some (record { number = n; value = x })) → slots_in new (ps ++ record { number = n; key = key } ∷ []) ≡ slots_in old ps ++ record { number = n; value = Some x } ∷ []
slots_pushed {T} n key low x old new ps bound r h vacant u =
    let p : Place = record { number = n; key = key } in
    let slot : Option T → Slot T = λ v. record { number = n; value = v } in
    let last : slot_at new p ≡ slot (Some x) = ap (λ o. slot (value_for n o)) u.changed ∙ ap slot (own_value n x) in
    map-append (slot_at new) ps (p ∷ [])
    ∙ ap (λ ss. ss ++ slot_at new p ∷ []) (slots_kept n key old new (Some (record { number = n; value = x })) u (rw vacant tt) refl ps (others_below n low ps bound h r))
    ∙ ap (λ s. slots_in old ps ++ s ∷ []) last

-- ---- one number's key

of_some : {T : Type 0} (number : ℕ) (o : Option (Held T)) → IsSome (value_for number o) → IsOf number o
of_some number None h = absurd (false≢true h)
of_some number (Some held) h = by_test (held.number == number) refl h
  where
    by_test : (b : Bool) → held.number == number ≡ b → IsSome (cond b (Some held.value) None) → held.number ≡ number
    by_test true e h = eqb-true held.number number e
    by_test false e h = absurd (false≢true h)

some_of : {T : Type 0} (number : ℕ) (o : Option (Held T)) → IsSome (value_for number o) → IsSome o
some_of number None h = absurd (false≢true h)
some_of number (Some held) h = refl

value_of : {T : Type 0} (number : ℕ) (o : Option (Held T)) → IsSome (value_for number o) → option_map (λ h. h.value) o ≡ value_for number o
value_of number None h = refl
value_of number (Some held) h = rw (eq-eqb held.number number (of_some number (Some held) h)) refl

-- the key of the place where a number stands
module _ {T : Type 0} (number place : ℕ) (values : Slab (Held T)) (ps : List Place) (d : Place) (at : StandsAt number place (slots_in values ps)) where
  number_is : (ss : List (Slot T)) (i : ℕ) (e : Slot T) → StandsAt number i ss → (get_or ss i e).number ≡ number
  number_is [] i e h = absurd h
  number_is (s ∷ ss) zero e h = h.0
  number_is (s ∷ ss) (suc i) e h = number_is ss i e h.1

  place_number : (get_or ps place d).number ≡ number
  place_number = sym (ap (λ (s : Slot T). s.number) (slot_read values place ps d)) ∙ number_is (slots_in values ps) place (slot_at values d) at

  there : IsSome (value_for number (get values (get_or ps place d).key))
  there =
      rw place_number at (rw (slot_read values place ps d) at (stands_has_value number place (slots_in values ps) (slot_at values d) at))

  pub key_is_of : IsOf number (get values (get_or ps place d).key)
  key_is_of = of_some number (get values (get_or ps place d).key) there

  pub key_has_value : IsSome (get values (get_or ps place d).key)
  key_has_value = some_of number (get values (get_or ps place d).key) there

  pub key_value : option_map (λ h. h.value) (get values (get_or ps place d).key) ≡ value_under number (entries_in (slots_in values ps))
  key_value =
      value_of number (get values (get_or ps place d).key) there
      ∙ sym (ap (λ n. value_for n (get values (get_or ps place d).key)) place_number)
      ∙ sym (ap (λ (s : Slot T). s.value) (slot_read values place ps d))
      ∙ stands_value number place (slots_in values ps) (slot_at values d) at

set_step : {T : Type 0} (number key place : ℕ) (old new : Slab (Held T)) (o : Option (Held T)) → Updates old new key o → IsOf number (get old key) → IsOf number o → (low : ℕ) (ps : List Place) (d : Place) (bound : ℕ) → Rises low (numbers_in ps) bound → StandsAt number place (slots_in old ps) → key ≡ (get_or ps place d).key → slots_in new ps ≡ set (slots_in old ps) place (record { number = number; value = value_for number o })
set_step number key place old new o u h k low [] d bound r at is = absurd at
set_step {T} number key zero old new o u h k low (p ∷ ps) d bound r at is =
    let here : slot_at new p ≡ record { number = number; value = value_for number o } =
    rw (at.0, ← is, u.changed) refl in
    both (slot_at new p) (record { number = number; value = value_for number o }) (slots_in new ps) (slots_in old ps) here
    (slots_kept number key old new o u h k ps (others_above number (suc p.number) ps bound (let e = at.0 in omega arith) r.1))
set_step number key (suc place) old new o u h k low (p ∷ ps) d bound r at is =
    both (slot_at new p) (slot_at old p) (slots_in new ps) (set (slots_in old ps) place (record { number = number; value = value_for number o }))
    (slot_kept number key old new o u h k p (λ e. absurd (let f = at.0 in omega arith)))
    (set_step number key place old new o u h k (suc p.number) ps d bound r.1 at.1 is)

-- where the key of a number changes, and is of that number before and after, its slot alone changes
pub slots_set : {T : Type 0} (number place : ℕ) (old new : Slab (Held T)) (o : Option (Held T)) (ps : List Place) (d : Place) (bound : ℕ) → Rises 0 (numbers_in ps) bound → StandsAt number place (slots_in old ps) → Updates old new (get_or ps place d).key o → IsOf number o → slots_in new ps ≡ set (slots_in old ps) place (record { number = number; value = value_for number o })
slots_set number place old new o ps d bound r at u k =
    set_step number (get_or ps place d).key place old new o u (key_is_of number place old ps d at) k 0 ps d bound r at refl

-- ---- numbers without a value are dropped

filter_step : {T : Type 0} (values : Slab (Held T)) (p : Place) (ps : List Place) (ss : List (Slot T)) (b : Bool) → slots_in values ps ≡ ss → slots_in values (cond b (p ∷ ps) ps) ≡ cond b (slot_at values p ∷ ss) ss
filter_step values p ps ss true e = ap (λ ss. slot_at values p ∷ ss) e
filter_step values p ps ss false e = e

pub slots_filter : {T : Type 0} (values : Slab (Held T)) (ps : List Place) → slots_in values (filter (λ p. has_value (slot_at values p)) ps) ≡ filter has_value (slots_in values ps)
slots_filter values [] = refl
slots_filter values (p ∷ ps) =
    filter_step values p (filter (λ p. has_value (slot_at values p)) ps) (filter has_value (slots_in values ps)) (has_value (slot_at values p)) (slots_filter values ps)

-- ---- a value that is changed

within : {X : Type 0} (xs : List (Option X)) (i : ℕ) → IsSome (get_or xs i None) → i < length xs
within [] i h = absurd (false≢true h)
within (x ∷ xs) zero h = omega arith
within (x ∷ xs) (suc i) h = let e = within xs i h in omega arith

-- there are as many
len_with_value : {X : Type 0} (s : Slab X) (key : ℕ) (x : X) → IsSome (get s key) → slab_len (with_value s key x) ≡ slab_len s
len_with_value s key x h =
    let one : ℕ = 1 in
    let e : slab_len (with_value s key x) + cond (is_some (get s key)) 1 0 ≡ slab_len s + one = sum_by-set (λ o. cond (is_some o) 1 0) s.slots key (Some x) None (within s.slots key h) in
    let f : cond (is_some (get s key)) 1 0 ≡ one = ap (λ b. cond b 1 0) h in
    omega (arith, e, f)

-- a place where a number stands, and a value that is written there
module _ {T : Type 0} (number place : ℕ) (values : Slab (Held T)) (ps : List Place) (next : ℕ) (sound : IsSound values ps next) (at : StandsAt number place (slots_in values ps)) (key : ℕ) (is : key ≡ key_at ps place) (h : Held T) (read : get values key ≡ Some h) (w : T) where
  abbrev blank : Place
  blank = record { number = 0; key = 0 }

  of_number : h.number ≡ number
  of_number = rw (← is, read) at (key_is_of number place values ps blank at)

  updated : Updates values (with_value values key (with_held_value h w)) (get_or ps place blank).key (Some (with_held_value h w))
  updated = rw (← is) (Updates-with_value values key (with_held_value h w) (rw read refl))

  slots_written : slots_in (with_value values key (with_held_value h w)) ps ≡ set (slots_in values ps) place (record { number = number; value = Some w })
  slots_written =
      slots_set number place values (with_value values key (with_held_value h w)) (Some (with_held_value h w)) ps blank next sound.rises at updated of_number
      ∙ ap (λ v. set (slots_in values ps) place (record { number = number; value = v })) (rw (eq-eqb h.number number of_number) refl)

  pub len_written : slab_len (with_value values key (with_held_value h w)) ≡ slab_len values
  len_written = len_with_value values key (with_held_value h w) (rw read refl)

  number_there : number ≡ (get_or (slots_in values ps) place (slot_at values blank)).number
  number_there = sym (ap (λ (s : Slot T). s.number) (slot_read values place ps blank) ∙ place_number number place values ps blank at)

  pub entries_written : entries_in (slots_in (with_value values key (with_held_value h w)) ps) ≡ on_first (has_number number) (λ e. record e { value = w }) (entries_in (slots_in values ps))
  entries_written = ap entries_in slots_written ∙ entries_changed number place (slots_in values ps) (slot_at values blank) number w number_there at

  pub sound_written : IsSound (with_value values key (with_held_value h w)) ps next
  sound_written = record {
    rises = sound.rises;
    counted = len_written ∙ sound.counted ∙ sym (ap (λ ss. length (entries_in ss)) slots_written ∙ length_changed number place (slots_in values ps) number w at);
    dense = rw len_written sound.dense;
    fits = rw len_written sound.fits;
  }

-- a value that has left
pub counted_left : {T : Type 0} (number place : ℕ) (old new : Slab (Held T)) (ps : List Place) (next : ℕ) → IsSound old ps next → StandsAt number place (slots_in old ps) → Updates old new (key_at ps place) None → slab_len new + 1 ≡ slab_len old → slab_len new ≡ length (entries_in (slots_in new ps))
counted_left number place old new ps next sound at gone len =
    let blank : Place = record { number = 0; key = 0 } in
    let slots = slots_set number place old new None ps blank next sound.rises at gone tt in
    let less = count_removed number place (slots_in old ps) number (slab_len old) sound.counted at in
    let same = ap (λ ss. length (entries_in ss)) slots in
    omega (arith, less, same, len)
