-- Objects whose attributes change by lines.
use Rattle.std.proofs.Common.{◌≡◌, ℕ, Bool, true, false, cond, eqb, List, [], ◌∷◌, find, Option, Some, None, IfSome, IsSomeAnd, OnOk, Result, Ok, Err, refl, ap, sym, subst, ◌∙◌}
use Rattle.std.specs.Option.{option_map}
use Rattle.std.specs.List.{filter_map, cons_option}
use Rattle.pps_types.specs.declared.record.Kind.TheVariants.{Opened}
use Rattle.pps_types.specs.declared.refusal.Refusal.{Refusal}
use Rattle.pps_types.specs.Content.{LiveObject}
use Rattle.pps_types.specs.Plan.{touched, still_known}
use Rattle.number_table.specs.Numbered.{Entry, has_number, on_first, value_under}
use Rattle.name_table.specs.Standing.{Placed, bare_entry}

-- an opening leaves what stands
pub noticed : (n : ℕ) (xs : List LiveObject) → filter_map (touched (bare_entry n (Opened 0))) xs ≡ xs
noticed n [] = refl
noticed n (x ∷ xs) = (λ i. cons_option (each (eqb n x.object.number) i) (noticed n xs i))
  where
    each : (b : Bool) → cond b (still_known x (Opened 0)) (Some x) ≡ Some x
    each true = refl
    each false = refl

-- the value that came is found
pub found_set : (n : ℕ) (w x : Placed) (es : List (Entry Placed)) → value_under n es ≡ Some x → value_under n (on_first (has_number n) (λ e. record e { value = w }) es) ≡ Some w
found_set n w x [] found = absurd (let no = found in cc)
found_set n w x (e ∷ es) found = by (eqb e.number n) refl (λ h. found_set n w x es h) found
  where
    by : (b : Bool) → eqb e.number n ≡ b → (value_under n es ≡ Some x → value_under n (on_first (has_number n) (λ e. record e { value = w }) es) ≡ Some w)
        → option_map (λ (e : Entry Placed). e.value) (cond b (Some e) (find (has_number n) es)) ≡ Some x
        → value_under n (cond b (record { number = e.number; value = w } ∷ es) (e ∷ on_first (has_number n) (λ e. record e { value = w }) es)) ≡ Some w
    by true is rest found = ap (λ b. option_map (λ (e : Entry Placed). e.value) (cond b (Some (record { number = e.number; value = w })) (find (has_number n) es))) is
    by false is rest found = ap (λ b. option_map (λ (e : Entry Placed). e.value) (cond b (Some e) (find (has_number n) (on_first (has_number n) (λ e. record e { value = w }) es)))) is ∙ rest found

some_is : {X : Type 0} (x y : X) → Some x ≡ Some y → x ≡ y
some_is x y h = cc

-- the object that is there has what is said of it
pub sure : (o : Option Placed) (x : Placed) (P : Placed → Type 0) → o ≡ Some x → IsSomeAnd o P → P x
sure None x P found p = absurd p
sure (Some y) x P found p = subst P (some_is y x found) p

-- where something is said of an object, there is one
pub nobody : (o : Option Placed) (P : Placed → Type 0) → o ≡ None → IsSomeAnd o P → ⊥
nobody None P none p = p
nobody (Some x) P none p = absurd (let no = none in cc)

pub none_said : (o : Option Placed) (P : Placed → Type 0) → o ≡ None → IfSome o P
none_said None P none = tt
none_said (Some x) P none = absurd (let no = none in cc)

pub said : (o : Option Placed) (x : Placed) (P : Placed → Type 0) → o ≡ Some x → P x → IfSome o P
said None x P found p = tt
said (Some y) x P found p = subst P (sym (some_is y x found)) p

pub on_ok : {T : Type 0} (r : Result T Refusal) (A B : Type 0) → (A → B) → OnOk r A → OnOk r B
on_ok (Ok x) A B f a = f a
on_ok (Err e) A B f a = tt
