-- The run queue's rule: where the numbers of sessions stand, in the queue and in what passes hold.
use Rattle.std.specs.Prelude.{◌≡◌, ℕ, zero, suc, ◌+◌, ◌≤◌, List, [], ◌∷◌, ◌==◌, if◌then◌else◌}

-- the weights of all, added up
abbrev pub weigh : {X : Type 0} → (X → ℕ) → List X → ℕ
weigh h [] = 0
weigh h (x ∷ xs) = h x + weigh h xs

-- as many numbers in a row, the first of them given
abbrev pub numbers_from : ℕ → ℕ → List ℕ
numbers_from first zero = []
numbers_from first (suc count) = first ∷ numbers_from (suc first) count

-- Whatever each number weighs, the queue and the views weigh together what the numbers below the count weigh. So where each
-- weighs 1 it says how many stand there, and where one alone weighs 1 how often that one does.
abbrev pub HoldEach : ℕ → List ℕ → List (List ℕ) → Type 0
HoldEach count items views = (h : ℕ → ℕ) → weigh h items + weigh (weigh h) views ≡ weigh h (numbers_from 0 count)

-- how often the number stands in the list
abbrev pub times : ℕ → List ℕ → ℕ
times x xs = weigh (λ y. if y == x then 1 else 0) xs

-- how often it stands in the queue and in all views
abbrev pub times_in : ℕ → List ℕ → List (List ℕ) → ℕ
times_in x items views = times x items + weigh (times x) views

-- no number stands there twice, and none that is no session's
pub record NoneTwice (count : ℕ) (items : List ℕ) (views : List (List ℕ)) : Type 0 where
  pub once : (x : ℕ) → times_in x items views ≤ 1
  pub sessions : (x : ℕ) → count ≤ x → times_in x items views ≡ 0

-- where the queue and the views weigh together what the numbers below the count weigh, none of these is there twice
abbrev pub EachIsHeldOnce : Type 0
EachIsHeldOnce = (count : ℕ) (items : List ℕ) (views : List (List ℕ)) → HoldEach count items views → NoneTwice count items views
