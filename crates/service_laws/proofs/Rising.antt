-- Numbers that rise.
use Rattle.std.proofs.Common.{◌≡◌, ◌≤◌, ◌<◌, ℕ, ◌+◌, Bool, true, false, cond, eqb, eqb-true, eq-eqb, ne_eqb, List, [], ◌∷◌, ◌++◌, map, Option, Some, None, refl, sym, ap, ◌∙◌, arith}
use Rattle.std.specs.Prelude.{find, nat_lt}
use Rattle.std.proofs.lemmas.Bool.Decides.{nat_tests}
use Rattle.std.specs.List.{AllByRecursion, filter_map, cons_option}
use Rattle.pps_types.specs.Outbox.{put_rising}
use Rattle.pps_types.specs.Plan.{on_first, without_first}
use Rattle.pps_types.specs.WellFormed.{RiseBetween}
use Rattle.pps_types.proofs.Lists.{all-weaken}
use Rattle.service_laws.proofs.Finds.{OfSome, all-find}

pub rising-lower : (low lower high : ℕ) (ns : List ℕ) → lower ≤ low → RiseBetween low ns high → RiseBetween lower ns high
rising-lower low lower high [] le r = omega (arith, r)
rising-lower low lower high (n ∷ ns) le r = (omega (arith, r.0), r.1)

pub rising-ends : (low high : ℕ) (ns : List ℕ) → RiseBetween low ns high → low ≤ high
rising-ends low high [] r = r
rising-ends low high (n ∷ ns) r = let rest = rising-ends (n + 1) high ns r.1 in omega (arith, r.0)

pub rising-push : (low high : ℕ) (ns : List ℕ) → RiseBetween low ns high → RiseBetween low (ns ++ high ∷ []) (high + 1)
rising-push low high [] r = (r, omega arith)
rising-push low high (n ∷ ns) r = (r.0, rising-push (n + 1) high ns r.1)

module _ {X : Type 0} (number : X → ℕ) where
  pub rising-below : (low high : ℕ) (xs : List X) → RiseBetween low (map number xs) high → AllByRecursion (λ x. number x < high) xs
  rising-below low high [] r = tt
  rising-below low high (x ∷ xs) r = (let rest = rising-ends (number x + 1) high (map number xs) r.1 in omega arith, rising-below (number x + 1) high xs r.1)

  pub rising-above : (low high : ℕ) (xs : List X) → RiseBetween low (map number xs) high → AllByRecursion (λ x. low ≤ number x) xs
  rising-above low high [] r = tt
  rising-above low high (x ∷ xs) r = (r.0, all-weaken {P = λ y. number x + 1 ≤ number y} {Q = λ y. low ≤ number y} (λ y le. omega (arith, le, r.0)) xs (rising-above (number x + 1) high xs r.1))

  pub rising-without : (test : X → Bool) (low high : ℕ) (xs : List X) → RiseBetween low (map number xs) high → RiseBetween low (map number (without_first test xs)) high
  rising-without test low high [] r = r
  rising-without test low high (x ∷ xs) r =
      elim (test x) as (λ b. RiseBetween low (map number (cond b xs (x ∷ without_first test xs))) high)
      [ true ↦ rising-lower (number x + 1) low high (map number xs) (omega (arith, r.0)) r.1 | false ↦ (r.0, rising-without test (number x + 1) high xs r.1) ]

  pub rising-filter_map : (change : X → Option X) → ((x : X) → OfSome (λ y. number y ≡ number x) (change x)) → (low high : ℕ) (xs : List X) → RiseBetween low (map number xs) high → RiseBetween low (map number (filter_map change xs)) high
  rising-filter_map change keeps low high [] r = r
  rising-filter_map change keeps low high (x ∷ xs) r = go (change x) (keeps x) (rising-filter_map change keeps (number x + 1) high xs r.1)
    where
      go : (o : Option X) → OfSome (λ y. number y ≡ number x) o → RiseBetween (number x + 1) (map number (filter_map change xs)) high → RiseBetween low (map number (cons_option o (filter_map change xs))) high
      go None k rest = rising-lower (number x + 1) low high (map number (filter_map change xs)) (omega (arith, r.0)) rest
      go (Some y) k rest = rw k (r.0, rest)

  -- one more in its place, of a number that none has
  pub rising-put : (y : X) (low high : ℕ) (xs : List X) → low ≤ number y → number y < high → find (λ x. eqb (number x) (number y)) xs ≡ None → RiseBetween low (map number xs) high → RiseBetween low (map number (put_rising number y xs)) high
  rising-put y low high [] le lt none r = (le, omega arith)
  rising-put y low high (x ∷ xs) le lt none r = go (rising-put y (number x + 1) high xs) (eqb (number x) (number y)) refl none (nat_lt (number y) (number x)) refl
    where
      go : (number x + 1 ≤ number y → number y < high → find (λ x. eqb (number x) (number y)) xs ≡ None → RiseBetween (number x + 1) (map number xs) high → RiseBetween (number x + 1) (map number (put_rising number y xs)) high)
          → (a : Bool) → eqb (number x) (number y) ≡ a → cond a (Some x) (find (λ x. eqb (number x) (number y)) xs) ≡ None → (b : Bool) → nat_lt (number y) (number x) ≡ b → RiseBetween low (map number (cond b (y ∷ x ∷ xs) (x ∷ put_rising number y xs))) high
      go more true e f b g = absurd (let h = f in cc)
      go more false e f true g = let less : number y < number x = grind (arith, nat_tests) in (le, (omega arith, r.1))
      go more false e f false g =
          let most : number x ≤ number y = grind (arith, nat_tests) in
          (r.0, more (let other : number x ≡ number y → ⊥ = (λ is. let t = eq-eqb (number x) (number y) is in let bad : false ≡ true = sym e ∙ t in cc) in omega arith) lt f r.1)

  pub same-on_first : (test : X → Bool) (change : X → X) → ((x : X) → number (change x) ≡ number x) → (xs : List X) → map number (on_first test change xs) ≡ map number xs
  same-on_first test change keeps [] = refl
  same-on_first test change keeps (x ∷ xs) =
      elim (test x) as (λ b. map number (cond b (change x ∷ xs) (x ∷ on_first test change xs)) ≡ number x ∷ map number xs)
      [ true ↦ ap (λ n. n ∷ map number xs) (keeps x) | false ↦ ap (λ ns. number x ∷ ns) (same-on_first test change keeps xs) ]

  pub same-map : (change : X → X) → ((x : X) → number (change x) ≡ number x) → (xs : List X) → map number (map change xs) ≡ map number xs
  same-map change keeps [] = refl
  same-map change keeps (x ∷ xs) = λ i. keeps x i ∷ same-map change keeps xs i

  -- what is found is the only one of its number
  pub only-one : (test : X → Bool) (low high : ℕ) (xs : List X) → RiseBetween low (map number xs) high → (x : X) → find test xs ≡ Some x → AllByRecursion (λ y. number y ≡ number x → y ≡ x) xs
  only-one test low high [] r x e = tt
  only-one test low high (y ∷ ys) r x e = go (test y) e (only-one test (number y + 1) high ys r.1 x)
    where
      above : AllByRecursion (λ z. number y + 1 ≤ number z) ys
      above = rising-above (number y + 1) high ys r.1

      go : (b : Bool) → cond b (Some y) (find test ys) ≡ Some x → (find test ys ≡ Some x → AllByRecursion (λ y. number y ≡ number x → y ≡ x) ys) → AllByRecursion (λ y. number y ≡ number x → y ≡ x) (y ∷ ys)
      go true found rest = let is : y ≡ x = cc in ((λ same. is), all-weaken {P = λ z. number y + 1 ≤ number z} {Q = λ z. number z ≡ number x → z ≡ x} (λ z lt same. absurd (let n : number y ≡ number x = ap number is in omega (arith, lt, same))) ys above)
      go false found rest = ((λ same. absurd (let lt : number y + 1 ≤ number x = all-find (λ z. number y + 1 ≤ number z) test ys x above found in omega (arith, lt, same))), rest found)

  pub one-number : (test other : X → Bool) (low high : ℕ) (xs : List X) → RiseBetween low (map number xs) high → (x y : X) → find test xs ≡ Some x → find other xs ≡ Some y → number y ≡ number x → y ≡ x
  one-number test other low high xs r x y e f same = all-find (λ y. number y ≡ number x → y ≡ x) other xs y (only-one test low high xs r x e) f same

  -- once it is taken out, none has its number
  pub none-left : (n low high : ℕ) (xs : List X) → RiseBetween low (map number xs) high → AllByRecursion (λ x. eqb (number x) n ≡ false) (without_first (λ x. eqb (number x) n) xs)
  none-left n low high [] r = tt
  none-left n low high (x ∷ xs) r = go (eqb (number x) n) refl (none-left n (number x + 1) high xs r.1)
    where
      go : (b : Bool) → eqb (number x) n ≡ b → AllByRecursion (λ x. eqb (number x) n ≡ false) (without_first (λ x. eqb (number x) n) xs) → AllByRecursion (λ x. eqb (number x) n ≡ false) (cond b xs (x ∷ without_first (λ x. eqb (number x) n) xs))
      go true e rest = let is : number x ≡ n = eqb-true (number x) n e in all-weaken {P = λ z. number x + 1 ≤ number z} {Q = λ z. eqb (number z) n ≡ false} (λ z lt. ne_eqb (number z) n (λ same. absurd (omega (arith, lt, same)))) xs (rising-above (number x + 1) high xs r.1)
      go false e rest = (e, rest)

  -- each is found by its number
  pub found-each : (low high : ℕ) (xs : List X) → RiseBetween low (map number xs) high → AllByRecursion (λ y. find (λ x. eqb (number x) (number y)) xs ≡ Some y) xs
  found-each low high [] r = tt
  found-each low high (x ∷ xs) r = (
    ap (λ b. cond b (Some x) (find (λ z. eqb (number z) (number x)) xs)) (eq-eqb (number x) (number x) refl),
    more xs (rising-above (number x + 1) high xs r.1) (found-each (number x + 1) high xs r.1),
  )
    where
      more : (ys : List X) → AllByRecursion (λ z. number x + 1 ≤ number z) ys → AllByRecursion (λ y. find (λ z. eqb (number z) (number y)) xs ≡ Some y) ys → AllByRecursion (λ y. find (λ z. eqb (number z) (number y)) (x ∷ xs) ≡ Some y) ys
      more [] above all = tt
      more (y ∷ ys) above all = (ap (λ b. cond b (Some x) (find (λ z. eqb (number z) (number y)) xs)) (ne_eqb (number x) (number y) (λ same. let lt = above.0 in absurd (omega arith))) ∙ all.0, more ys above.1 all.1)

pub none-numbered : {X : Type 0} (number : X → ℕ) (n : ℕ) (xs : List X) → AllByRecursion (λ x. number x < n) xs → AllByRecursion (λ x. eqb (number x) n ≡ false) xs
none-numbered number n [] lt = tt
none-numbered number n (x ∷ xs) lt = (ne_eqb (number x) n (λ same. let l = lt.0 in absurd (omega arith)), none-numbered number n xs lt.1)
