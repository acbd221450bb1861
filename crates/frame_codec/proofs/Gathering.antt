-- What is gathered of a frame that has begun.
use Rattle.std.proofs.Common.{◌≡◌, ℕ, ◌+◌, ◌-◌, ◌<◌, ◌≤◌, min, Bool, true, false, ltb, List, [], ◌∷◌, ◌++◌, length, take, drop, ◌⊎◌, inl, inr, refl, sym, ap, ◌∙◌, arith, append_assoc}
use Rattle.std.proofs.lemmas.Bool.{ltb-true, ltb-false, le-ltb, lt-ltb, cond-true, cond-false}
use Rattle.std.proofs.lemmas.List.{length-append, length-take-le, length-drop, drop_all, take-append-le}
use Rattle.std.proofs.Math.Seq.{take-add}
use Rattle.std.specs.Int.{from_be_bytes, w32}
use Rattle.pps_types.specs.Frame.{told, longest_body, IsPartial}
use Rattle.frame_codec.specs.Front.{lacks, IsGathered}

-- ---- what is lacking, by cases

lacks_none : (bytes : List ℕ) → length bytes ≡ 0 → lacks bytes ≡ 0
lacks_none [] none = refl
lacks_none (b ∷ bytes) none = absurd (omega (arith, none))

pub lacks_length : (bytes : List ℕ) → 0 < length bytes → length bytes < 4 → lacks bytes ≡ 4 - length bytes
lacks_length [] some short = absurd (omega (arith, some))
lacks_length (b ∷ bytes) some short = cond-true _ _ _ (lt-ltb (length (b ∷ bytes)) 4 short)

pub lacks_body : (bytes : List ℕ) → 4 ≤ length bytes → told bytes ≤ longest_body → lacks bytes ≡ 4 + told bytes - length bytes
lacks_body [] long right = absurd (omega (arith, long))
lacks_body (b ∷ bytes) long right =
    cond-false _ _ _ (le-ltb (length (b ∷ bytes)) 4 long) ∙ cond-false _ _ _ (le-ltb longest_body (told (b ∷ bytes)) right)

lacks_wrong : (bytes : List ℕ) → 4 ≤ length bytes → longest_body < told bytes → lacks bytes ≡ 0
lacks_wrong [] long wrong = absurd (omega (arith, long))
lacks_wrong (b ∷ bytes) long wrong =
    cond-false _ _ _ (le-ltb (length (b ∷ bytes)) 4 long) ∙ cond-true _ _ _ (lt-ltb longest_body (told (b ∷ bytes)) wrong)

-- what is added behind the length leaves it as it is
pub told_front : (bytes more : List ℕ) → 4 ≤ length bytes → told (bytes ++ more) ≡ told bytes
told_front bytes more long = ap (λ (x : List ℕ). from_be_bytes w32 x) (take-append-le 4 bytes more long)

-- ---- what is gathered

-- how long things are and what they tell, before the first addition, between both, and behind the second
record Sizes (old piece half new : List ℕ) (first second : ℕ) : Type 0 where
  first_is : first ≡ min (lacks old) (length piece)
  half_is : length half ≡ length old + first
  second_is : second ≡ min (lacks half) (length piece - first)
  new_is : length new ≡ length half + second
  half_told : 4 ≤ length old → told half ≡ told old
  new_told : 4 ≤ length half → told new ≡ told half

module _ (old piece half new : List ℕ) (first second : ℕ) (s : Sizes old piece half new first second) where
  -- where the length is still cut short, the piece is used up
  cut_short : 0 < length half → length half < 4 → first ≡ length piece
  cut_short some short = by (ltb 0 (length old)) refl where
    by : (b : Bool) → ltb 0 (length old) ≡ b → first ≡ length piece
    by true q = omega (arith, some, short, s.first_is, s.half_is, s.second_is, lacks_length old (ltb-true 0 (length old) q) (omega (arith, s.half_is, short)))
    by false q = let none = ltb-false 0 (length old) q in omega (arith, none, some, s.first_is, s.half_is, lacks_none old (omega (arith, none)))

  -- no more than the frame is gathered
  half_least : IsPartial old → 4 ≤ length half → told half ≤ longest_body → length half ≤ 4 + told half
  half_least partial long right = by (ltb (length old) 4) (ltb 0 (length old)) refl refl where
    by : (b a : Bool) → ltb (length old) 4 ≡ b → ltb 0 (length old) ≡ a → length half ≤ 4 + told half
    by true true q p =
        omega (arith, s.first_is, s.half_is, lacks_length old (ltb-true 0 (length old) p) (ltb-true (length old) 4 q), ltb-true (length old) 4 q)
    by true false q p = let none = ltb-false 0 (length old) p in omega (arith, none, long, s.first_is, s.half_is, lacks_none old (omega (arith, none)))
    by false a q p =
        let some = ltb-false (length old) 4 q in
        let so = partial.so_far some in
        omega (arith, so.0, so.1, so.2, s.half_told some, s.first_is, s.half_is, lacks_body old some so.1)

  new_least : IsPartial old → 4 ≤ length new → told new ≤ longest_body → length new ≤ 4 + told new
  new_least partial long right = by (ltb (length half) 4) (ltb 0 (length half)) refl refl where
    by : (b a : Bool) → ltb (length half) 4 ≡ b → ltb 0 (length half) ≡ a → length new ≤ 4 + told new
    by true true q p =
        let short = ltb-true (length half) 4 q in
        absurd (omega (arith, long, short, s.new_is, s.second_is, s.first_is, cut_short (ltb-true 0 (length half) p) short))
    by true false q p =
        let none = ltb-false 0 (length half) p in
        absurd (omega (arith, none, long, s.new_is, s.second_is, lacks_none half (omega (arith, none))))
    by false a q p =
        let some = ltb-false (length half) 4 q in
        let same = s.new_told some in
        let low : told half ≤ longest_body = omega (arith, same, right) in
        omega (arith, same, s.new_is, s.second_is, lacks_body half some low, half_least partial some low)

  -- the frame is whole, or all of the piece is gathered
  new_whole : (lacks new ≡ 0) ⊎ (length piece ≤ first + second)
  new_whole = by (ltb (length half) 4) (ltb 0 (length half)) (ltb longest_body (told half)) (ltb (first + second) (length piece)) refl refl refl refl where
    by : (b a w r : Bool) → ltb (length half) 4 ≡ b → ltb 0 (length half) ≡ a → ltb longest_body (told half) ≡ w
        → ltb (first + second) (length piece) ≡ r → (lacks new ≡ 0) ⊎ (length piece ≤ first + second)
    by b a w false q p o t = inr (ltb-false (first + second) (length piece) t)
    by true true w true q p o t = inr (omega (arith, cut_short (ltb-true 0 (length half) p) (ltb-true (length half) 4 q)))
    by true false w true q p o t =
        let none = ltb-false 0 (length half) p in
        inl (lacks_none new (omega (arith, none, s.new_is, s.second_is, lacks_none half (omega (arith, none)))))
    by false a true true q p o t =
        let some = ltb-false (length half) 4 q in
        let wrong = ltb-true longest_body (told half) o in
        inl (lacks_wrong new (omega (arith, some, s.new_is)) (omega (arith, wrong, s.new_told some)))
    by false a false true q p o t =
        let some = ltb-false (length half) 4 q in
        let right = ltb-false longest_body (told half) o in
        let left = ltb-true (first + second) (length piece) t in
        let body = lacks_body new (omega (arith, some, s.new_is)) (omega (arith, right, s.new_told some)) in
        inl (body ∙ omega (arith, left, s.new_told some, s.new_is, s.second_is, lacks_body half some right))

pub gathers : (old piece half new : List ℕ) (first second : ℕ) → IsPartial old
    → first ≡ min (lacks old) (length piece) → half ≡ old ++ take first piece
    → second ≡ min (lacks half) (length (drop first piece)) → new ≡ half ++ take second (drop first piece)
    → IsGathered old piece (first + second) new
gathers old piece half new first second partial first_is half_is second_is new_is =
    let left = length-drop first piece in
    let sizes : Sizes old piece half new first second = record {
      first_is = first_is;
      half_is = ap length half_is ∙ length-append old (take first piece) ∙ ap (λ (n : ℕ). length old + n) (length-take-le first piece (omega (arith, first_is)));
      second_is = second_is ∙ ap (min (lacks half)) left;
      new_is = ap length new_is ∙ length-append half (take second (drop first piece))
          ∙ ap (λ (n : ℕ). length half + n) (length-take-le second (drop first piece) (omega (arith, second_is)));
      half_told = λ some. ap told half_is ∙ told_front old (take first piece) some;
      new_told = λ some. ap told new_is ∙ told_front half (take second (drop first piece)) some;
    } in
    record {
      within = omega (arith, first_is, second_is, left);
      items = new_is ∙ ap (λ (x : List ℕ). x ++ take second (drop first piece)) half_is ∙ append_assoc old (take first piece) (take second (drop first piece))
          ∙ ap (λ (x : List ℕ). old ++ x) (sym (take-add first second piece));
      whole = elim (new_whole old piece half new first second sizes) [
        | inl q ↦ inl q
        | inr q ↦ inr (drop_all (first + second) piece q)
      ];
      least = new_least old piece half new first second sizes partial;
    }
