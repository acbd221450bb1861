-- What is found after a change, and what a content says of the same changes.
use Rattle.std.proofs.Common.{◌≡◌, ◌≢◌, ℕ, Bool, true, false, List, [], ◌∷◌, ◌==◌, if◌then◌else◌, nat_lt, Some, option_map, find, refl, sym, ap, ◌∙◌}
use Rattle.std.proofs.lemmas.Bool.{eqb-true}
use Rattle.pps_types.specs.declared.outcome.Item.{Item}
use Rattle.pps_types.specs.Outbox.{Outbox, put_rising}
use Rattle.pps_types.specs.Content.{Connection}
use Rattle.pps_types.specs.Plan.{on_first, without_first, on_connection, without_connection}
use Rattle.notify_box.specs.Standing.{Standing, is_numbered, standing_at, with_outbox, with_handles}
use Rattle.notify_box.specs.ChangeLaws.{queues_of}

-- ---- what is found

module _ (conn : ℕ) (f : Standing → Standing) (keeps : (x : Standing) → (f x).number ≡ x.number) where
  own_step : (x : Standing) (xs : List Standing) (b : Bool) → (x.number == conn) ≡ b → find (is_numbered conn) (on_first (is_numbered conn) f xs) ≡ option_map f (find (is_numbered conn) xs) → find (is_numbered conn) (if b then f x ∷ xs else x ∷ on_first (is_numbered conn) f xs) ≡ option_map f (if b then Some x else find (is_numbered conn) xs)
  own_step x xs true is rest = rw (keeps x, is) refl
  own_step x xs false is rest = rw is rest

  pub own_found : (xs : List Standing) → find (is_numbered conn) (on_first (is_numbered conn) f xs) ≡ option_map f (find (is_numbered conn) xs)
  own_found [] = refl
  own_found (x ∷ xs) = own_step x xs (x.number == conn) refl (own_found xs)

  differs_step : (other : ℕ) (x : Standing) (xs : List Standing) (b c : Bool) → (x.number == conn) ≡ b → (x.number == other) ≡ c → other ≢ conn → find (is_numbered other) (on_first (is_numbered conn) f xs) ≡ find (is_numbered other) xs → find (is_numbered other) (if b then f x ∷ xs else x ∷ on_first (is_numbered conn) f xs) ≡ (if c then Some x else find (is_numbered other) xs)
  differs_step other x xs true true is at different rest = absurd (different (sym (eqb-true x.number other at) ∙ eqb-true x.number conn is))
  differs_step other x xs true false is at different rest = rw (keeps x, at) refl
  differs_step other x xs false true is at different rest = rw at refl
  differs_step other x xs false false is at different rest = rw at rest

  pub other_found : (other : ℕ) (xs : List Standing) → other ≢ conn → find (is_numbered other) (on_first (is_numbered conn) f xs) ≡ find (is_numbered other) xs
  other_found other [] different = refl
  other_found other (x ∷ xs) different = differs_step other x xs (x.number == conn) (x.number == other) refl refl different (other_found other xs different)

-- ---- queues

queue_of : Standing → Connection
queue_of x = record { number = x.number; queue = x.outbox.items }

put_step : (s x : Standing) (xs : List Standing) (b : Bool) (rest : List Connection) → queues_of (put_rising (λ (x : Standing). x.number) s xs) ≡ rest → queues_of (if b then s ∷ x ∷ xs else x ∷ put_rising (λ (x : Standing). x.number) s xs) ≡ (if b then queue_of s ∷ queue_of x ∷ queues_of xs else queue_of x ∷ rest)
unfolding queue_of
put_step s x xs true rest same = refl
put_step s x xs false rest same = ap (λ ys. queue_of x ∷ ys) same

pub put_told : (s : Standing) (xs : List Standing) → queues_of (put_rising (λ (x : Standing). x.number) s xs) ≡ put_rising (λ (x : Connection). x.number) (record { number = s.number; queue = s.outbox.items }) (queues_of xs)
unfolding queue_of
put_told s [] = refl
put_told s (x ∷ xs) = put_step s x xs (nat_lt s.number x.number) (put_rising (λ (x : Connection). x.number) (queue_of s) (queues_of xs)) (put_told s xs)

left_step : (conn : ℕ) (x : Standing) (xs : List Standing) (b : Bool) (rest : List Connection) → queues_of (without_first (is_numbered conn) xs) ≡ rest → queues_of (if b then xs else x ∷ without_first (is_numbered conn) xs) ≡ (if b then queues_of xs else queue_of x ∷ rest)
unfolding queue_of
left_step conn x xs true rest same = refl
left_step conn x xs false rest same = ap (λ ys. queue_of x ∷ ys) same

pub left_told : (conn : ℕ) (xs : List Standing) → queues_of (without_first (is_numbered conn) xs) ≡ without_connection conn (queues_of xs)
unfolding queue_of
left_told conn [] = refl
left_told conn (x ∷ xs) = left_step conn x xs (x.number == conn) (without_connection conn (queues_of xs)) (left_told conn xs)

requeue_step : (conn : ℕ) (change : Outbox → Outbox) (queue : List Item → List Item) (x : Standing) (xs : List Standing) (b : Bool) (rest : List Connection) → (b ≡ true → (change x.outbox).items ≡ queue x.outbox.items) → (b ≡ false → queues_of (with_outbox conn change xs) ≡ rest) → queues_of (if b then record x { outbox = change x.outbox } ∷ xs else x ∷ with_outbox conn change xs) ≡ (if b then record { number = x.number; queue = queue x.outbox.items } ∷ queues_of xs else queue_of x ∷ rest)
unfolding queue_of
requeue_step conn change queue x xs true rest here there = ap (λ is. record { number = x.number; queue = is } ∷ queues_of xs) (here refl)
requeue_step conn change queue x xs false rest here there = ap (λ ys. queue_of x ∷ ys) (there refl)

pub requeue_told : (conn : ℕ) (change : Outbox → Outbox) (queue : List Item → List Item) (xs : List Standing) → ((x : Standing) → standing_at conn xs ≡ Some x → (change x.outbox).items ≡ queue x.outbox.items) → queues_of (with_outbox conn change xs) ≡ on_connection conn queue (queues_of xs)
unfolding queue_of
requeue_told conn change queue [] told = refl
requeue_told conn change queue (x ∷ xs) told =
    requeue_step conn change queue x xs (x.number == conn) (on_connection conn queue (queues_of xs))
    (λ is. told x (ap (λ b. if b then Some x else find (is_numbered conn) xs) is))
    (λ is. requeue_told conn change queue xs (λ y found. told y (ap (λ b. if b then Some x else find (is_numbered conn) xs) is ∙ found)))

kept_step : (conn : ℕ) (change : List ℕ → List ℕ) (x : Standing) (xs : List Standing) (b : Bool) → queues_of (with_handles conn change xs) ≡ queues_of xs → queues_of (if b then record x { handles = change x.handles } ∷ xs else x ∷ with_handles conn change xs) ≡ queue_of x ∷ queues_of xs
unfolding queue_of
kept_step conn change x xs true same = refl
kept_step conn change x xs false same = ap (λ ys. queue_of x ∷ ys) same

pub kept_told : (conn : ℕ) (change : List ℕ → List ℕ) (xs : List Standing) → queues_of (with_handles conn change xs) ≡ queues_of xs
unfolding queue_of
kept_told conn change [] = refl
kept_told conn change (x ∷ xs) = kept_step conn change x xs (x.number == conn) (kept_told conn change xs)
