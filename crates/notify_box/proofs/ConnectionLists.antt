-- What a list makes of the entries that its elements have, where the elements rise in number and the first of a number is changed or taken out.
use Rattle.std.proofs.Common.{◌≡◌, ℕ, ◌+◌, ◌≤◌, ◌<◌, Bool, true, false, cond, not, ◌&&◌, ◌||◌, List, [], ◌∷◌, map, Option, Some, None, refl, sym, ap, ◌∙◌, arith}
use Rattle.std.specs.Prelude.{◌==◌, nat_lt, find, filter, is_some, option_map}
use Rattle.std.proofs.lemmas.Bool.{eqb-true, eq-eqb, ne_eqb}
use Rattle.std.proofs.lemmas.Bool.Decides.{nat_tests}
use Rattle.std.specs.List.{filter_map, cons_option, list_any, AllByRecursion}
use Rattle.pps_types.specs.Outbox.{put_rising}
use Rattle.pps_types.specs.Plan.{on_first, without_first}
use Rattle.pps_types.specs.WellFormed.{RiseBetween}
use Rattle.service_laws.proofs.Finds.{OfSome, all-find}
use Rattle.service_laws.proofs.Rising.{rising-above}
use Rattle.service_laws.proofs.SettlingLists.{rising-behind}

module _ {X : Type 0} where
  -- what is found passes
  pub passes : (test : X → Bool) (xs : List X) (x : X) → find test xs ≡ Some x → test x ≡ true
  passes test [] x e = absurd (let bad = e in cc)
  passes test (y ∷ ys) x e = by (test y) refl e (passes test ys x)
    where
      by : (b : Bool) → test y ≡ b → cond b (Some y) (find test ys) ≡ Some x → (find test ys ≡ Some x → test x ≡ true) → test x ≡ true
      by true is found rest = let same : y ≡ x = cc in ap test (sym same) ∙ is
      by false is found rest = rest found

  pub find-map : {Y : Type 0} (f : X → Y) (test : Y → Bool) (xs : List X) → find test (map f xs) ≡ option_map f (find (λ x. test (f x)) xs)
  find-map f test [] = refl
  find-map f test (x ∷ xs) = by (test (f x)) (find-map f test xs)
    where
      by : (b : Bool) → find test (map f xs) ≡ option_map f (find (λ x. test (f x)) xs) → cond b (Some (f x)) (find test (map f xs)) ≡ option_map f (cond b (Some x) (find (λ x. test (f x)) xs))
      by true rest = refl
      by false rest = rest

  pub on_first-same : (test : X → Bool) (change : X → X) → ((x : X) → change x ≡ x) → (xs : List X) → on_first test change xs ≡ xs
  on_first-same test change same [] = refl
  on_first-same test change same (x ∷ xs) = by (test x) (on_first-same test change same xs)
    where
      by : (b : Bool) → on_first test change xs ≡ xs → cond b (change x ∷ xs) (x ∷ on_first test change xs) ≡ x ∷ xs
      by true rest = ap (λ y. y ∷ xs) (same x)
      by false rest = ap (λ ys. x ∷ ys) rest

  -- two changes of the same one
  pub on_first-twice : (test : X → Bool) (f g : X → X) → ((x : X) → test (f x) ≡ test x) → (xs : List X) → on_first test g (on_first test f xs) ≡ on_first test (λ x. g (f x)) xs
  on_first-twice test f g keeps [] = refl
  on_first-twice test f g keeps (x ∷ xs) = by (test x) refl (on_first-twice test f g keeps xs)
    where
      by : (b : Bool) → test x ≡ b → on_first test g (on_first test f xs) ≡ on_first test (λ x. g (f x)) xs → on_first test g (cond b (f x ∷ xs) (x ∷ on_first test f xs)) ≡ cond b (g (f x) ∷ xs) (x ∷ on_first test (λ x. g (f x)) xs)
      by true is rest = ap (λ b. cond b (g (f x) ∷ xs) (f x ∷ on_first test g xs)) (keeps x ∙ is)
      by false is rest = ap (λ b. cond b (g x ∷ on_first test f xs) (x ∷ on_first test g (on_first test f xs))) is ∙ ap (λ ys. x ∷ ys) rest

  pub filter_map-filter : {Y : Type 0} (see : X → Option Y) (test : X → Bool) (xs : List X) → filter_map see (filter test xs) ≡ filter_map (λ x. cond (test x) (see x) None) xs
  filter_map-filter see test [] = refl
  filter_map-filter {Y = Y} see test (x ∷ xs) = by (test x) (filter_map-filter see test xs)
    where
      by : (b : Bool) → filter_map see (filter test xs) ≡ filter_map (λ x. cond (test x) (see x) None) xs → filter_map see (cond b (x ∷ filter test xs) (filter test xs)) ≡ cons_option (cond b (see x) None) (filter_map (λ x. cond (test x) (see x) None) xs)
      by true rest = ap (cons_option (see x)) rest
      by false rest = rest

  pub map-filter : {Y : Type 0} (see : X → Y) (test : X → Bool) (xs : List X) → map see (filter test xs) ≡ filter_map (λ x. cond (test x) (Some (see x)) None) xs
  map-filter see test [] = refl
  map-filter {Y = Y} see test (x ∷ xs) = by (test x) (map-filter see test xs)
    where
      by : (b : Bool) → map see (filter test xs) ≡ filter_map (λ x. cond (test x) (Some (see x)) None) xs → map see (cond b (x ∷ filter test xs) (filter test xs)) ≡ cons_option (cond b (Some (see x)) None) (filter_map (λ x. cond (test x) (Some (see x)) None) xs)
      by true rest = ap (λ ys. see x ∷ ys) rest
      by false rest = rest

  -- ---- changes that no entry shows

  pub entries-map : {Y : Type 0} (see : X → Option Y) (f : X → X) → ((x : X) → see (f x) ≡ see x) → (xs : List X) → filter_map see (map f xs) ≡ filter_map see xs
  entries-map see f same [] = refl
  entries-map see f same (x ∷ xs) = λ i. cons_option (same x i) (entries-map see f same xs i)

  pub entries-on_first : {Y : Type 0} (see : X → Option Y) (test : X → Bool) (f : X → X) → ((x : X) → see (f x) ≡ see x) → (xs : List X) → filter_map see (on_first test f xs) ≡ filter_map see xs
  entries-on_first see test f same [] = refl
  entries-on_first see test f same (x ∷ xs) = by (test x) (entries-on_first see test f same xs)
    where
      by : (b : Bool) → filter_map see (on_first test f xs) ≡ filter_map see xs → filter_map see (cond b (f x ∷ xs) (x ∷ on_first test f xs)) ≡ cons_option (see x) (filter_map see xs)
      by true rest = ap (λ o. cons_option o (filter_map see xs)) (same x)
      by false rest = ap (cons_option (see x)) rest

  -- the one that is found is changed or taken out

  pub entries-found : {Y : Type 0} (see : X → Option Y) (test : X → Bool) (f : X → X) (x : X) → see (f x) ≡ see x → (xs : List X) → find test xs ≡ Some x → filter_map see (on_first test f xs) ≡ filter_map see xs
  entries-found see test f x same [] e = refl
  entries-found see test f x same (y ∷ ys) e = by (test y) e (entries-found see test f x same ys)
    where
      by : (b : Bool) → cond b (Some y) (find test ys) ≡ Some x → (find test ys ≡ Some x → filter_map see (on_first test f ys) ≡ filter_map see ys) → filter_map see (cond b (f y ∷ ys) (y ∷ on_first test f ys)) ≡ cons_option (see y) (filter_map see ys)
      by true found rest = let is : y ≡ x = cc in ap (λ o. cons_option o (filter_map see ys)) (ap (λ z. see (f z)) is ∙ same ∙ ap see (sym is))
      by false found rest = ap (cons_option (see y)) (rest found)

  pub entries-without : {Y : Type 0} (see : X → Option Y) (test : X → Bool) (x : X) → see x ≡ None → (xs : List X) → find test xs ≡ Some x → filter_map see (without_first test xs) ≡ filter_map see xs
  entries-without see test x none [] e = refl
  entries-without see test x none (y ∷ ys) e = by (test y) e (entries-without see test x none ys)
    where
      by : (b : Bool) → cond b (Some y) (find test ys) ≡ Some x → (find test ys ≡ Some x → filter_map see (without_first test ys) ≡ filter_map see ys) → filter_map see (cond b ys (y ∷ without_first test ys)) ≡ cons_option (see y) (filter_map see ys)
      by true found rest = let is : y ≡ x = cc in sym (ap (λ o. cons_option o (filter_map see ys)) (ap see is ∙ none))
      by false found rest = ap (cons_option (see y)) (rest found)

-- ---- entries with the number of their element

module _ {X Y : Type 0} (number : X → ℕ) (key : Y → ℕ) (see : X → Option Y) (keyed : (x : X) → OfSome (λ y. key y ≡ number x) (see x)) (n : ℕ) where
  abbrev numbered : X → Bool
  numbered x = number x == n

  abbrev kept : List Y → List Y
  kept ys = filter (λ y. not (key y == n)) ys

  -- the element of the number has an entry of it, and no other has
  own-kept : (x : X) → number x ≡ n → (ys : List Y) → kept (cons_option (see x) ys) ≡ kept ys
  own-kept x is ys = by (see x) (keyed x)
    where
      by : (o : Option Y) → OfSome (λ y. key y ≡ number x) o → kept (cons_option o ys) ≡ kept ys
      by None k = refl
      by (Some y) k = ap (λ b. cond (not b) (y ∷ kept ys) (kept ys)) (eq-eqb (key y) n (k ∙ is))

  other-kept : (x : X) → (number x == n) ≡ false → (ys : List Y) → kept (cons_option (see x) ys) ≡ cons_option (see x) (kept ys)
  other-kept x differs ys = by (see x) (keyed x)
    where
      by : (o : Option Y) → OfSome (λ y. key y ≡ number x) o → kept (cons_option o ys) ≡ cons_option o (kept ys)
      by None k = refl
      by (Some y) k = ap (λ b. cond (not b) (y ∷ kept ys) (kept ys)) (ap (λ m. m == n) k ∙ differs)

  above-kept : (xs : List X) → AllByRecursion (λ x. n < number x) xs → kept (filter_map see xs) ≡ filter_map see xs
  above-kept [] all = refl
  above-kept (x ∷ xs) all = other-kept x (ne_eqb (number x) n (λ same. omega (arith, same, all.0))) (filter_map see xs) ∙ ap (cons_option (see x)) (above-kept xs all.1)

  -- a new entry goes before those above it, and behind those below
  above-put : (y : Y) → key y ≡ n → (xs : List X) → AllByRecursion (λ x. n < number x) xs → put_rising key y (filter_map see xs) ≡ y ∷ filter_map see xs
  above-put y is [] all = refl
  above-put y is (x ∷ xs) all = by (see x) (keyed x) (above-put y is xs all.1)
    where
      by : (o : Option Y) → OfSome (λ z. key z ≡ number x) o → put_rising key y (filter_map see xs) ≡ y ∷ filter_map see xs → put_rising key y (cons_option o (filter_map see xs)) ≡ y ∷ cons_option o (filter_map see xs)
      by None k rest = rest
      by (Some z) k rest =
          let less : nat_lt (key y) (key z) ≡ true = grind (arith, nat_tests, is, k, all.0) in
          ap (λ b. cond b (y ∷ z ∷ filter_map see xs) (z ∷ put_rising key y (filter_map see xs))) less

  below-put : (y : Y) → key y ≡ n → (x : X) → number x < n → (ys : List Y) → put_rising key y (cons_option (see x) ys) ≡ cons_option (see x) (put_rising key y ys)
  below-put y is x lower ys = by (see x) (keyed x)
    where
      by : (o : Option Y) → OfSome (λ z. key z ≡ number x) o → put_rising key y (cons_option o ys) ≡ cons_option o (put_rising key y ys)
      by None k = refl
      by (Some z) k =
          let most : nat_lt (key y) (key z) ≡ false = grind (arith, nat_tests, is, k, lower) in
          ap (λ b. cond b (y ∷ z ∷ ys) (z ∷ put_rising key y ys)) most

  behind : (x : X) (high : ℕ) (xs : List X) → number x ≡ n → RiseBetween (number x + 1) (map number xs) high → AllByRecursion (λ x. n < number x) xs
  behind x high xs is r = rising-behind number n high xs (rw (← is) r)

  -- it is taken out, and its entry with it
  pub entries-gone : (low high : ℕ) (xs : List X) → RiseBetween low (map number xs) high → filter_map see (without_first numbered xs) ≡ kept (filter_map see xs)
  entries-gone low high [] r = refl
  entries-gone low high (x ∷ xs) r = by (number x == n) refl (entries-gone (number x + 1) high xs r.1)
    where
      by : (b : Bool) → (number x == n) ≡ b → filter_map see (without_first numbered xs) ≡ kept (filter_map see xs) → filter_map see (cond b xs (x ∷ without_first numbered xs)) ≡ kept (cons_option (see x) (filter_map see xs))
      by true e rest = let is : number x ≡ n = eqb-true (number x) n e in sym (own-kept x is (filter_map see xs) ∙ above-kept xs (behind x high xs is r.1))
      by false e rest = ap (cons_option (see x)) rest ∙ sym (other-kept x e (filter_map see xs))

  module _ (x : X) where
    -- where it has none, no other has its number
    pub entries-none : see x ≡ None → (low high : ℕ) (xs : List X) → RiseBetween low (map number xs) high → find numbered xs ≡ Some x → kept (filter_map see xs) ≡ filter_map see xs
    entries-none none low high xs r e = sym (entries-gone low high xs r) ∙ entries-without see numbered x none xs e

    -- it loses its entry
    pub entries-out : (f : X → X) → see (f x) ≡ None → (low high : ℕ) (xs : List X) → RiseBetween low (map number xs) high → find numbered xs ≡ Some x → filter_map see (on_first numbered f xs) ≡ kept (filter_map see xs)
    entries-out f none low high [] r e = refl
    entries-out f none low high (z ∷ zs) r e = by (number z == n) refl e (entries-out f none (number z + 1) high zs r.1)
      where
        by : (b : Bool) → (number z == n) ≡ b → cond b (Some z) (find numbered zs) ≡ Some x → (find numbered zs ≡ Some x → filter_map see (on_first numbered f zs) ≡ kept (filter_map see zs))
            → filter_map see (cond b (f z ∷ zs) (z ∷ on_first numbered f zs)) ≡ kept (cons_option (see z) (filter_map see zs))
        by true e found rest =
            let is : z ≡ x = cc in
            let own : number z ≡ n = eqb-true (number z) n e in
            ap (λ o. cons_option o (filter_map see zs)) (ap (λ w. see (f w)) is ∙ none) ∙ sym (own-kept z own (filter_map see zs) ∙ above-kept zs (behind z high zs own r.1))
        by false e found rest = ap (cons_option (see z)) (rest found) ∙ sym (other-kept z e (filter_map see zs))

    -- it gets an entry, or another one
    pub entries-put : (f : X → X) (y : Y) → key y ≡ n → see (f x) ≡ Some y → (low high : ℕ) (xs : List X) → RiseBetween low (map number xs) high → find numbered xs ≡ Some x → filter_map see (on_first numbered f xs) ≡ put_rising key y (kept (filter_map see xs))
    entries-put f y named some low high [] r e = absurd (let bad = e in cc)
    entries-put f y named some low high (z ∷ zs) r e = by (number z == n) refl e (entries-put f y named some (number z + 1) high zs r.1)
      where
        by : (b : Bool) → (number z == n) ≡ b → cond b (Some z) (find numbered zs) ≡ Some x → (find numbered zs ≡ Some x → filter_map see (on_first numbered f zs) ≡ put_rising key y (kept (filter_map see zs)))
            → filter_map see (cond b (f z ∷ zs) (z ∷ on_first numbered f zs)) ≡ put_rising key y (kept (cons_option (see z) (filter_map see zs)))
        by true e found rest =
            let is : z ≡ x = cc in
            let own : number z ≡ n = eqb-true (number z) n e in
            let all : AllByRecursion (λ x. n < number x) zs = behind z high zs own r.1 in
            ap (λ o. cons_option o (filter_map see zs)) (ap (λ w. see (f w)) is ∙ some)
            ∙ sym (ap (put_rising key y) (own-kept z own (filter_map see zs) ∙ above-kept zs all) ∙ above-put y named zs all)
        by false e found rest =
            let above : number z + 1 ≤ number x = all-find (λ w. number z + 1 ≤ number w) numbered zs x (rising-above number (number z + 1) high zs r.1) found in
            let own : number x ≡ n = eqb-true (number x) n (passes numbered zs x found) in
            let lower : number z < n = omega (arith, above, own) in
            ap (cons_option (see z)) (rest found)
            ∙ sym (ap (put_rising key y) (other-kept z e (filter_map see zs)) ∙ below-put y named z lower (kept (filter_map see zs)))

    -- its entry is found by its number
    pub entries-find : (y : Y) → see x ≡ Some y → (xs : List X) → find numbered xs ≡ Some x → find (λ y. key y == n) (filter_map see xs) ≡ Some y
    entries-find y some [] e = absurd (let bad = e in cc)
    entries-find y some (z ∷ zs) e = by (number z == n) refl e (entries-find y some zs)
      where
        skip : (o : Option Y) → OfSome (λ w. key w ≡ number z) o → (number z == n) ≡ false → find (λ y. key y == n) (cons_option o (filter_map see zs)) ≡ find (λ y. key y == n) (filter_map see zs)
        skip None k e = refl
        skip (Some w) k e = ap (λ b. cond b (Some w) (find (λ y. key y == n) (filter_map see zs))) (ap (λ m. m == n) k ∙ e)

        here : (o : Option Y) → OfSome (λ w. key w ≡ number z) o → o ≡ Some y → number z ≡ n → find (λ y. key y == n) (cons_option o (filter_map see zs)) ≡ Some y
        here None k is own = absurd (let bad = is in cc)
        here (Some w) k is own = ap (λ b. cond b (Some w) (find (λ y. key y == n) (filter_map see zs))) (eq-eqb (key w) n (k ∙ own)) ∙ is

        by : (b : Bool) → (number z == n) ≡ b → cond b (Some z) (find numbered zs) ≡ Some x → (find numbered zs ≡ Some x → find (λ y. key y == n) (filter_map see zs) ≡ Some y) → find (λ y. key y == n) (cons_option (see z) (filter_map see zs)) ≡ Some y
        by true e found rest = let is : z ≡ x = cc in here (see z) (keyed z) (ap see is ∙ some) (eqb-true (number z) n e)
        by false e found rest = skip (see z) (keyed z) e ∙ rest found

    -- its entry is the first of its number that is taken out
    pub entries-first : (y : Y) → see x ≡ Some y → (xs : List X) → find numbered xs ≡ Some x → filter_map see (without_first numbered xs) ≡ without_first (λ y. key y == n) (filter_map see xs)
    entries-first y some [] e = refl
    entries-first y some (z ∷ zs) e = by (number z == n) refl e (entries-first y some zs)
      where
        skip : (o : Option Y) → OfSome (λ w. key w ≡ number z) o → (number z == n) ≡ false → without_first (λ y. key y == n) (cons_option o (filter_map see zs)) ≡ cons_option o (without_first (λ y. key y == n) (filter_map see zs))
        skip None k e = refl
        skip (Some w) k e = ap (λ b. cond b (filter_map see zs) (w ∷ without_first (λ y. key y == n) (filter_map see zs))) (ap (λ m. m == n) k ∙ e)

        here : (o : Option Y) → OfSome (λ w. key w ≡ number z) o → o ≡ Some y → number z ≡ n → without_first (λ y. key y == n) (cons_option o (filter_map see zs)) ≡ filter_map see zs
        here None k is own = absurd (let bad = is in cc)
        here (Some w) k is own = ap (λ b. cond b (filter_map see zs) (w ∷ without_first (λ y. key y == n) (filter_map see zs))) (eq-eqb (key w) n (k ∙ own))

        by : (b : Bool) → (number z == n) ≡ b → cond b (Some z) (find numbered zs) ≡ Some x → (find numbered zs ≡ Some x → filter_map see (without_first numbered zs) ≡ without_first (λ y. key y == n) (filter_map see zs))
            → filter_map see (cond b zs (z ∷ without_first numbered zs)) ≡ without_first (λ y. key y == n) (cons_option (see z) (filter_map see zs))
        by true e found rest = let is : z ≡ x = cc in sym (here (see z) (keyed z) (ap see is ∙ some) (eqb-true (number z) n e))
        by false e found rest = ap (cons_option (see z)) (rest found) ∙ sym (skip (see z) (keyed z) e)

  -- whether there is an entry of the number
  none-any : (xs : List X) → AllByRecursion (λ x. n < number x) xs → list_any (λ y. key y == n) (filter_map see xs) ≡ false
  none-any [] all = refl
  none-any (x ∷ xs) all = by (see x) (keyed x) (none-any xs all.1)
    where
      by : (o : Option Y) → OfSome (λ y. key y ≡ number x) o → list_any (λ y. key y == n) (filter_map see xs) ≡ false → list_any (λ y. key y == n) (cons_option o (filter_map see xs)) ≡ false
      by None k rest = rest
      by (Some y) k rest = ap (λ b. b || list_any (λ y. key y == n) (filter_map see xs)) (ne_eqb (key y) n (λ same. omega (arith, same, k, all.0))) ∙ rest

  pub entries-any : (x : X) (low high : ℕ) (xs : List X) → RiseBetween low (map number xs) high → find numbered xs ≡ Some x → list_any (λ y. key y == n) (filter_map see xs) ≡ is_some (see x)
  entries-any x low high [] r e = absurd (let bad = e in cc)
  entries-any x low high (z ∷ zs) r e = by (number z == n) refl e (entries-any x (number z + 1) high zs r.1)
    where
      skip : (o : Option Y) → OfSome (λ w. key w ≡ number z) o → (number z == n) ≡ false → list_any (λ y. key y == n) (cons_option o (filter_map see zs)) ≡ list_any (λ y. key y == n) (filter_map see zs)
      skip None k e = refl
      skip (Some w) k e = ap (λ b. b || list_any (λ y. key y == n) (filter_map see zs)) (ap (λ m. m == n) k ∙ e)

      here : (o : Option Y) → OfSome (λ w. key w ≡ number z) o → number z ≡ n → list_any (λ y. key y == n) (cons_option o (filter_map see zs)) ≡ is_some o
      here None k own = none-any zs (behind z high zs own r.1)
      here (Some w) k own = ap (λ b. b || list_any (λ y. key y == n) (filter_map see zs)) (eq-eqb (key w) n (k ∙ own))

      by : (b : Bool) → (number z == n) ≡ b → cond b (Some z) (find numbered zs) ≡ Some x → (find numbered zs ≡ Some x → list_any (λ y. key y == n) (filter_map see zs) ≡ is_some (see x)) → list_any (λ y. key y == n) (cons_option (see z) (filter_map see zs)) ≡ is_some (see x)
      by true e found rest = let is : z ≡ x = cc in here (see z) (keyed z) (eqb-true (number z) n e) ∙ ap (λ w. is_some (see w)) is
      by false e found rest = skip (see z) (keyed z) e ∙ rest found

-- where numbers rise, one that is found by its number and by more is found by its number
pub found-both : {X : Type 0} (number : X → ℕ) (n : ℕ) (test : X → Bool) (low high : ℕ) (xs : List X) (x : X) → RiseBetween low (map number xs) high → find (λ x. (number x == n) && test x) xs ≡ Some x → find (λ x. number x == n) xs ≡ Some x
found-both number n test low high [] x r e = e
found-both {X = X} number n test low high (y ∷ ys) x r e = by (number y == n) refl (test y) e (found-both number n test (number y + 1) high ys x r.1)
  where
    left : (a b : Bool) → (a && b) ≡ true → a ≡ true
    left true b e = refl
    left false b e = absurd (let bad = e in cc)

    by : (b : Bool) → (number y == n) ≡ b → (t : Bool) → cond (b && t) (Some y) (find (λ x. (number x == n) && test x) ys) ≡ Some x → (find (λ x. (number x == n) && test x) ys ≡ Some x → find (λ x. number x == n) ys ≡ Some x) → cond b (Some y) (find (λ x. number x == n) ys) ≡ Some x
    by true is true found rest = found
    by true is false found rest =
        let above : number y + 1 ≤ number x = all-find (λ w. number y + 1 ≤ number w) (λ x. (number x == n) && test x) ys x (rising-above number (number y + 1) high ys r.1) found in
        let here : number y ≡ n = eqb-true (number y) n is in
        let there : number x ≡ n = eqb-true (number x) n (left (number x == n) (test x) (passes (λ x. (number x == n) && test x) ys x found)) in
        absurd (omega (arith, above, here, there))
    by false is t found rest = rest found

-- and one that is found by its number, and passes more, is found by both
pub found-more : {X : Type 0} (test more : X → Bool) (xs : List X) (x : X) → find test xs ≡ Some x → more x ≡ true → find (λ x. test x && more x) xs ≡ Some x
found-more test more [] x e m = e
found-more test more (y ∷ ys) x e m = by (test y) e (λ found. found-more test more ys x found m)
  where
    by : (b : Bool) → cond b (Some y) (find test ys) ≡ Some x → (find test ys ≡ Some x → find (λ x. test x && more x) ys ≡ Some x) → cond (b && more y) (Some y) (find (λ x. test x && more x) ys) ≡ Some x
    by true found rest = let is : y ≡ x = cc in ap (λ b. cond b (Some y) (find (λ x. test x && more x) ys)) (ap more is ∙ m) ∙ found
    by false found rest = rest found

-- that numbers differ, the other way round
pub turned : (m n : ℕ) → (m == n) ≡ false → (n == m) ≡ false
turned m n e = by (n == m) refl
  where
    by : (b : Bool) → (n == m) ≡ b → b ≡ false
    by true is = let same : (m == n) ≡ true = eq-eqb m n (sym (eqb-true n m is)) in let bad : false ≡ true = sym e ∙ same in cc
    by false is = refl
