-- Each kind of step keeps the run queue's rule, and what the rule says of single numbers.
use Rattle.std.proofs.Common.{◌≡◌, ℕ, zero, suc, ◌+◌, ◌-◌, ◌<◌, ◌≤◌, ◌==◌, List, [], ◌∷◌, ◌++◌, length, set, sym, refl, ap, ◌∙◌, arith, inl, inr}
use Rattle.std.specs.Prelude.{if◌then◌else◌}
use Rattle.std.proofs.lemmas.Bool.Decides.{nat_tests}
use Rattle.std.proofs.lemmas.Bool.{cases_lt}
use mathlib.Core.Option.{some, some-injective, some-ne-none}
use lib.ListN.{get_elem?}
use Rattle.crossbeam_queue.specs.Fifo.{Pushes, Pops, Forks, Merges, Learns}
use Rattle.pps_dispatch.specs.RunQueue.{weigh, numbers_from, HoldEach, times, NoneTwice}

-- ---- weights

pub weigh-append : {X : Type 0} (h : X → ℕ) → (xs ys : List X) → weigh h (xs ++ ys) ≡ weigh h xs + weigh h ys
weigh-append h [] ys = omega arith
weigh-append h (x ∷ xs) ys = omega (arith, weigh-append h xs ys)

weigh-ones : (xs : List ℕ) → weigh (λ _. 1) xs ≡ length xs
weigh-ones [] = refl
weigh-ones (x ∷ xs) = omega (arith, weigh-ones xs)

length-numbers_from : (k n : ℕ) → length (numbers_from k n) ≡ n
length-numbers_from k zero = refl
length-numbers_from k (suc n) = omega (arith, length-numbers_from (suc k) n)

-- one view is another now
weigh-set : (f : List ℕ → ℕ) (views : List (List ℕ)) (port : ℕ) (v w : List ℕ) → get_elem? views port ≡ some v → weigh f (set views port w) + f v ≡ weigh f views + f w
weigh-set f [] port v w at = absurd (some-ne-none v (sym at))
weigh-set f (u ∷ us) zero v w at = let e : f u ≡ f v = ap f (some-injective u v at) in omega (arith, e)
weigh-set f (u ∷ us) (suc port) v w at = omega (arith, weigh-set f us port v w at)

-- one view weighs no more than all
weigh_at : (f : List ℕ → ℕ) (views : List (List ℕ)) (port : ℕ) (v : List ℕ) → get_elem? views port ≡ some v → f v ≤ weigh f views
weigh_at f [] port v at = absurd (some-ne-none v (sym at))
weigh_at f (u ∷ us) zero v at = let e : f u ≡ f v = ap f (some-injective u v at) in omega (arith, e)
weigh_at f (u ∷ us) (suc port) v at = omega (arith, weigh_at f us port v at)

-- ---- how often a number stands in a row of numbers

not_above : (x k n : ℕ) → k + n ≤ x → times x (numbers_from k n) ≡ 0
not_above x k zero le = refl
not_above x k (suc n) le =
    let rest = not_above x (suc k) n (omega arith) in
    grind (arith, nat_tests, rest)

not_below : (x k n : ℕ) → x < k → times x (numbers_from k n) ≡ 0
not_below x k zero lt = refl
not_below x k (suc n) lt =
    let rest = not_below x (suc k) n (omega arith) in
    grind (arith, nat_tests, rest)

at_most_once : (x k n : ℕ) → times x (numbers_from k n) ≤ 1
at_most_once x k zero = omega arith
at_most_once x k (suc n) =
    let none : k ≡ x → times x (numbers_from (suc k) n) ≡ 0 = λ e. not_below x (suc k) n (omega (arith, e)) in
    let rest = at_most_once x (suc k) n in
    grind (arith, nat_tests, rest, none)

is_below : (x n : ℕ) → 0 < times x (numbers_from 0 n) → x < n
is_below x n some_of_it = elim (cases_lt x n) [ inl lt ↦ lt | inr le ↦ let none = not_above x 0 n (omega arith) in absurd (omega arith) ]

pub none-twice : (n : ℕ) (items : List ℕ) (views : List (List ℕ)) → HoldEach n items views → NoneTwice n items views
none-twice n items views each = record {
  once = λ x. let e = each (λ y. if y == x then 1 else 0) in let one = at_most_once x 0 n in omega (arith, e, one);
  sessions = λ x le. let e = each (λ y. if y == x then 1 else 0) in let none = not_above x 0 n (omega arith) in omega (arith, e, none);
}

-- ---- the steps

-- a pass is made, which has all numbers
pub makes : (n : ℕ) → HoldEach n [] (numbers_from 0 n ∷ [])
makes n h = omega arith

-- a number leaves a view for the queue
pub pushes : (n room port : ℕ) (v : List ℕ) (x : ℕ) (rest : List ℕ) → v ≡ x ∷ rest → Pushes (HoldEach n) room port v x (λ w. v ≡ x ∷ w)
pushes n room port v x rest is items views short each at = (
  rest,
  (λ h.
      let changed = weigh-set (weigh h) views port v rest at in
      let e : weigh h v ≡ h x + weigh h rest = ap (weigh h) is in
      omega (arith, changed, e, each h, weigh-append h items (x ∷ []))),
  is,
)

-- what is queued and what a view has are no more numbers than there are
pub learns : (n port : ℕ) (v : List ℕ) → Learns (HoldEach n) port v (λ items. length items + length v ≤ n)
learns n port v items views each at =
    let e = each (λ _. 1) in
    let part = weigh_at (weigh (λ _. 1)) views port v at in
    omega (arith, e, part, weigh-ones items, weigh-ones v, weigh-ones (numbers_from 0 n), length-numbers_from 0 n)

-- a number leaves the queue for a view
pub pops : (n port : ℕ) (v : List ℕ) → Pops (HoldEach n) port v (λ x w. (w ≡ x ∷ v) × (x < n))
pops n port v x items views each at = (
  x ∷ v,
  (λ h. let changed = weigh-set (weigh h) views port v (x ∷ v) at in omega (arith, changed, each h)),
  (refl, is_below x n (grind (arith, nat_tests, each (λ y. if y == x then 1 else 0)))),
)

-- a pass is split off, and has nothing
pub forks : (n port : ℕ) (v : List ℕ) → Forks (HoldEach n) port v v []
forks n port v items views each at h =
    let changed = weigh-set (weigh h) views port v v at in
    omega (arith, changed, each h, weigh-append (weigh h) (set views port v) ([] ∷ []))

-- two passes are joined, and one is left with nothing
pub merges : (n port : ℕ) (v : List ℕ) (other : ℕ) (u : List ℕ) → Merges (HoldEach n) port v other u (v ++ u) []
merges n port v other u items views each at apart at_other h =
    let first = weigh-set (weigh h) views port v (v ++ u) at in
    let second = weigh-set (weigh h) (set views port (v ++ u)) other u [] at_other in
    omega (arith, first, second, each h, weigh-append h v u)

-- ---- filling the queue

numbers-step : (i n : ℕ) → i < n → numbers_from i (n - i) ≡ i ∷ numbers_from (i + 1) (n - (i + 1))
numbers-step i n lt =
    let e : n - i ≡ suc (n - (i + 1)) = omega arith in
    let f : suc i ≡ i + 1 = omega arith in
    ap (numbers_from i) e ∙ ap (λ k. i ∷ numbers_from k (n - (i + 1))) f

behind_first : List ℕ → List ℕ
behind_first [] = []
behind_first (x ∷ xs) = xs

-- what a pass still has once it has pushed one number more of those in a row
pub one_filled : (i n : ℕ) (v w : List ℕ) → i < n → v ≡ numbers_from i (n - i) → v ≡ i ∷ w → w ≡ numbers_from (i + 1) (n - (i + 1))
unfolding behind_first
one_filled i n v w lt is now = ap behind_first (sym now ∙ is ∙ numbers-step i n lt)
