-- One handle comes, with its row.
use Rattle.std.proofs.Common.{◌≡◌, ◌<◌, ◌≤◌, ℕ, ◌+◌, Bool, true, false, cond, eqb, eqb-true, eq-eqb, ne_eqb, List, [], ◌∷◌, ◌++◌, map, Option, Some, None, refl, sym, ap, ◌∙◌, subst, arith, ◌⊎◌, inl, inr}
use Rattle.std.specs.Prelude.{find, is_some, option_map}
use Rattle.std.specs.List.{AllByRecursion, filter_map, cons_option}
use Rattle.pps_types.specs.declared.found.Found.{Found}
use Rattle.pps_types.specs.Reading.{OpenHandle}
use Rattle.pps_types.specs.Rests.{Progress}
use Rattle.pps_types.specs.WellFormed.{RiseBetween}
use Rattle.service_laws.proofs.Finds.{all-imp, some-of, find-push, find-last}
use Rattle.service_laws.proofs.Rising.{rising-below}
use Rattle.number_table.specs.Numbered.{Entry as Numbering, has_number, value_under}
use Rattle.sub_reader.specs.Opened.{handle_at, is_directory, number_of}
use Rattle.sub_reader.specs.HandlesOf.{AreOn}
use Rattle.open_handles.specs.Whole.{row_handle, AreRowed}
use Rattle.open_handles.proofs.Finds.{found_cases, NoneNumbered, none_at}
use Rattle.open_handles.proofs.Rows.{none_anywhere}

-- ---- what is under numbers, with one more

module _ {T : Type 0} where
  abbrev told : Numbering T → T
  told e = e.value

  pub under_push : (m n : ℕ) (x y : T) (es : List (Numbering T)) → value_under m es ≡ Some y → value_under m (es ++ record { number = n; value = x } ∷ []) ≡ Some y
  under_push m n x y [] is = absurd (let bad = is in cc)
  under_push m n x y (e ∷ es) is = by (eqb e.number m) is (under_push m n x y es)
    where
      by : (b : Bool) → option_map told (cond b (Some e) (find (has_number m) es)) ≡ Some y → (value_under m es ≡ Some y → value_under m (es ++ record { number = n; value = x } ∷ []) ≡ Some y)
          → option_map told (cond b (Some e) (find (has_number m) (es ++ record { number = n; value = x } ∷ []))) ≡ Some y
      by true is rest = is
      by false is rest = rest is

  pub under_new : (m n : ℕ) (x : T) (es : List (Numbering T)) → value_under m es ≡ None → value_under m (es ++ record { number = n; value = x } ∷ []) ≡ cond (eqb n m) (Some x) None
  under_new m n x [] none = elim (eqb n m) as (λ b. option_map told (cond b (Some (record { number = n; value = x })) None) ≡ cond b (Some x) None) [ true ↦ refl | false ↦ refl ]
  under_new m n x (e ∷ es) none = by (eqb e.number m) none (under_new m n x es)
    where
      by : (b : Bool) → option_map told (cond b (Some e) (find (has_number m) es)) ≡ None → (value_under m es ≡ None → value_under m (es ++ record { number = n; value = x } ∷ []) ≡ cond (eqb n m) (Some x) None)
          → option_map told (cond b (Some e) (find (has_number m) (es ++ record { number = n; value = x } ∷ []))) ≡ cond (eqb n m) (Some x) None
      by true none rest = absurd (let bad = none in cc)
      by false none rest = rest none

  -- a number above all has nothing
  pub under_none : (n low high : ℕ) (es : List (Numbering T)) → high ≤ n → RiseBetween low (map (λ (e : Numbering T). e.number) es) high → value_under n es ≡ None
  under_none n low high [] le r = refl
  under_none n low high (e ∷ es) le r =
      ap (λ b. option_map told (cond b (Some e) (find (has_number n) es))) (ne_eqb e.number n (λ same. let lt = (rising-below (λ (e : Numbering T). e.number) low high (e ∷ es) r).0 in absurd (omega arith)))
      ∙ under_none n (e.number + 1) high es le r.1

  pub rise_push : (low high n : ℕ) (x : T) (es : List (Numbering T)) → high ≤ n → RiseBetween low (map (λ (e : Numbering T). e.number) es) high → RiseBetween low (map (λ (e : Numbering T). e.number) (es ++ record { number = n; value = x } ∷ [])) (n + 1)
  rise_push low high n x [] le r = (let lt = r in omega arith, omega arith)
  rise_push low high n x (e ∷ es) le r = (r.0, rise_push (e.number + 1) high n x es le r.1)

  -- a number with something under it is below the next
  pub below_next : (m low high : ℕ) (y : T) (es : List (Numbering T)) → RiseBetween low (map (λ (e : Numbering T). e.number) es) high → value_under m es ≡ Some y → m < high
  below_next m low high y [] r is = absurd (let bad = is in cc)
  below_next m low high y (e ∷ es) r is = by (eqb e.number m) refl is (below_next m (e.number + 1) high y es r.1)
    where
      by : (b : Bool) → eqb e.number m ≡ b → option_map told (cond b (Some e) (find (has_number m) es)) ≡ Some y → (value_under m es ≡ Some y → m < high) → m < high
      by true same is rest = let at = eqb-true e.number m same in let lt = (rising-below (λ (e : Numbering T). e.number) low high (e ∷ es) r).0 in omega arith
      by false same is rest = rest is

-- ---- a handle comes

at_last : (n : ℕ) (h : OpenHandle Progress) (hs : List (OpenHandle Progress)) → h.number ≡ n → NoneNumbered n hs → handle_at n (hs ++ h ∷ []) ≡ Some h
at_last n h hs same none =
    find-last (λ (g : OpenHandle Progress). eqb g.number n) hs h (none_at n hs none)
    ∙ ap (λ b. cond b (Some h) None) (eq-eqb h.number n same)

all_push : (P : OpenHandle Progress → Type 0) (hs : List (OpenHandle Progress)) (h : OpenHandle Progress) → AllByRecursion P hs → P h → AllByRecursion P (hs ++ h ∷ [])
all_push P [] h all p = (p, tt)
all_push P (g ∷ hs) h all p = (all.0, all_push P hs h all.1 p)

-- all numbers are lower
pub below_at : (on : Found → List (OpenHandle Progress)) (rows : List (Numbering Found)) (next : ℕ) → AreRowed on rows next → (n : ℕ) → next ≤ n → (g : Found) → AllByRecursion (λ (x : OpenHandle Progress). x.number < n) (on g)
below_at on rows next rowed n above g = all-imp (λ (x : OpenHandle Progress). value_under x.number rows ≡ Some g) (λ (x : OpenHandle Progress). x.number < n) (λ x own. let lt = below_next x.number 0 next g rows rowed.rise own in omega arith) (on g) (rowed.own g)

module _ (on then : Found → List (OpenHandle Progress)) (rows : List (Numbering Found)) (next : ℕ) (rowed : AreRowed on rows next) (n : ℕ) (f : Found) (above : next ≤ n)
    (elsewhere : (g : Found) → (g ≡ f → ⊥) → then g ≡ on g) (h : OpenHandle Progress) (same : h.number ≡ n) (is : then f ≡ on f ++ h ∷ []) where
  stays : (m : ℕ) (g : Found) (x : OpenHandle Progress) → handle_at m (on g) ≡ Some x → handle_at m (then g) ≡ Some x
  stays m g x at = by (found_cases g f)
    where
      by : (g ≡ f) ⊎ (g ≡ f → ⊥) → handle_at m (then g) ≡ Some x
      by (inl here) = subst (λ g. handle_at m (then g) ≡ Some x) (sym here) (ap (handle_at m) is ∙ find-push (λ (y : OpenHandle Progress). eqb y.number m) (on f) h x (subst (λ g. handle_at m (on g) ≡ Some x) here at))
      by (inr other) = ap (handle_at m) (elsewhere g other) ∙ at

  row_stays : (e : Numbering Found) → is_some (row_handle on e) ≡ true → row_handle then e ≡ row_handle on e
  row_stays e some = let there = some-of (row_handle on e) some in stays e.number e.value there.0 there.1 ∙ sym there.1

  rows_stay : (es : List (Numbering Found)) → AllByRecursion (λ (e : Numbering Found). is_some (row_handle on e) ≡ true) es → filter_map (row_handle then) (es ++ record { number = n; value = f } ∷ []) ≡ filter_map (row_handle on) es ++ h ∷ []
  rows_stay [] each = ap (λ o. cons_option o []) (ap (handle_at n) is ∙ at_last n h (on f) same (none_anywhere on rows next rowed n f (under_none n 0 next rows above rowed.rise)))
  rows_stay (e ∷ es) each =
      ap (λ o. cons_option o (filter_map (row_handle then) (es ++ record { number = n; value = f } ∷ []))) (row_stays e each.0)
      ∙ ap (cons_option (row_handle on e)) (rows_stay es each.1)
      ∙ by (row_handle on e)
    where
      by : (o : Option (OpenHandle Progress)) → cons_option o (filter_map (row_handle on) es ++ h ∷ []) ≡ cons_option o (filter_map (row_handle on) es) ++ h ∷ []
      by None = refl
      by (Some x) = refl

  pub opened : filter_map (row_handle then) (rows ++ record { number = n; value = f } ∷ []) ≡ filter_map (row_handle on) rows ++ h ∷ []
  opened = rows_stay rows rowed.each

  each_push : (es : List (Numbering Found)) → AllByRecursion (λ (e : Numbering Found). is_some (row_handle on e) ≡ true) es → AllByRecursion (λ (e : Numbering Found). is_some (row_handle then e) ≡ true) (es ++ record { number = n; value = f } ∷ [])
  each_push [] each = (ap is_some (ap (handle_at n) is ∙ at_last n h (on f) same (none_anywhere on rows next rowed n f (under_none n 0 next rows above rowed.rise))), tt)
  each_push (e ∷ es) each = (ap is_some (row_stays e each.0) ∙ each.0, each_push es each.1)

  own_push : (g : Found) → AllByRecursion (λ (x : OpenHandle Progress). value_under x.number (rows ++ record { number = n; value = f } ∷ []) ≡ Some g) (then g)
  own_push g = by (found_cases g f)
    where
      old : AllByRecursion (λ (x : OpenHandle Progress). value_under x.number (rows ++ record { number = n; value = f } ∷ []) ≡ Some g) (on g)
      old = all-imp (λ (x : OpenHandle Progress). value_under x.number rows ≡ Some g) (λ (x : OpenHandle Progress). value_under x.number (rows ++ record { number = n; value = f } ∷ []) ≡ Some g) (λ x own. under_push x.number n f g rows own) (on g) (rowed.own g)

      new : value_under h.number (rows ++ record { number = n; value = f } ∷ []) ≡ Some f
      new = ap (λ m. value_under m (rows ++ record { number = n; value = f } ∷ [])) same ∙ under_new n n f rows (under_none n 0 next rows above rowed.rise) ∙ ap (λ b. cond b (Some f) None) (eq-eqb n n refl)

      by : (g ≡ f) ⊎ (g ≡ f → ⊥) → AllByRecursion (λ (x : OpenHandle Progress). value_under x.number (rows ++ record { number = n; value = f } ∷ []) ≡ Some g) (then g)
      by (inl here) =
          let hs : then g ≡ on g ++ h ∷ [] = subst (λ g. then g ≡ on g ++ h ∷ []) (sym here) is in
          subst (AllByRecursion (λ (x : OpenHandle Progress). value_under x.number (rows ++ record { number = n; value = f } ∷ []) ≡ Some g)) (sym hs)
          (all_push (λ (x : OpenHandle Progress). value_under x.number (rows ++ record { number = n; value = f } ∷ []) ≡ Some g) (on g) h old (new ∙ ap Some (sym here)))
      by (inr other) = subst (AllByRecursion (λ (x : OpenHandle Progress). value_under x.number (rows ++ record { number = n; value = f } ∷ []) ≡ Some g)) (sym (elsewhere g other)) old

  pub opened_rowed : ((g : Found) → AreOn (is_directory g) (number_of g) (then g)) → AreRowed then (rows ++ record { number = n; value = f } ∷ []) (n + 1)
  opened_rowed on_topic = record {
    rise = rise_push 0 next n f rows above rowed.rise;
    on_topic = on_topic;
    each = each_push rows rowed.each;
    own = own_push;
  }
