-- Records that are passed over, one by one.
use Rattle.std.proofs.Common.{◌≡◌, ℕ, zero, suc, ◌+◌, ◌-◌, ◌≤◌, ◌<◌, Bool, true, false, cond, List, [], ◌∷◌, length, drop, refl, sym, ap, ◌∙◌, arith}
use Rattle.std.specs.Prelude.{slice_get, Some}
use Rattle.std.proofs.lemmas.List.{drop_all}
use Rattle.pps_types.specs.Rests.{from_first, past}
use Rattle.pps_types.proofs.Places.{from_place}

module _ {X : Type 0} where
  module _ (test : X → Bool) (start : ℕ) (xs : List X) where
    module _ (position : ℕ) (x : X) (from : start ≤ position) (at : slice_get xs (position - start) ≡ Some x) where
      pub here : drop (position - start) xs ≡ x ∷ drop (position + 1 - start) xs
      here = from_place xs (position - start) x at ∙ ap (λ n. x ∷ drop n xs) (let e : position - start + 1 ≡ position + 1 - start = omega arith in e)

      -- one that does not pass is passed over
      pub skipped : (n : ℕ) → test x ≡ false → from_first test (past test n (drop (position + 1 - start) xs)) ≡ from_first test (past test n (drop (position - start) xs))
      skipped zero hidden = sym (ap (from_first test) here ∙ ap (λ b. cond b (x ∷ drop (position + 1 - start) xs) (from_first test (drop (position + 1 - start) xs))) hidden)
      skipped (suc n) hidden = sym (ap (λ ys. from_first test (past test (suc n) ys)) here
          ∙ ap (λ b. from_first test (cond b (past test n (drop (position + 1 - start) xs)) (past test (suc n) (drop (position + 1 - start) xs)))) hidden)

      -- one that passes is counted
      pub counted : (n : ℕ) → test x ≡ true → 0 < n → from_first test (past test (n - 1) (drop (position + 1 - start) xs)) ≡ from_first test (past test n (drop (position - start) xs))
      counted zero seen some = absurd (omega arith)
      counted (suc n) seen some =
          ap (λ m. from_first test (past test m (drop (position + 1 - start) xs))) (let e : suc n - 1 ≡ n = omega arith in e)
          ∙ sym (ap (λ ys. from_first test (past test (suc n) ys)) here
          ∙ ap (λ b. from_first test (cond b (past test n (drop (position + 1 - start) xs)) (past test (suc n) (drop (position + 1 - start) xs)))) seen)

      -- the first that passes
      pub first : test x ≡ true → drop (position - start) xs ≡ from_first test (past test 0 (drop (position - start) xs))
      first seen = here ∙ sym (ap (from_first test) here ∙ ap (λ b. cond b (x ∷ drop (position + 1 - start) xs) (from_first test (drop (position + 1 - start) xs))) seen)

    past-none : (n : ℕ) → past test n [] ≡ []
    past-none zero = refl
    past-none (suc n) = refl

    pub at_end : (n position : ℕ) → start + length xs ≤ position → drop (position - start) xs ≡ from_first test (past test n (drop (position - start) xs))
    at_end n position le =
        let none : drop (position - start) xs ≡ [] = drop_all (position - start) xs (omega arith) in
        none ∙ sym (ap (λ ys. from_first test (past test n ys)) none ∙ ap (from_first test) (past-none n))
