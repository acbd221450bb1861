-- A walk over slots: something happened to the handles at so many places, one after the other.
use Rattle.std.proofs.Common.{◌≡◌, ℕ, zero, suc, ◌<◌, List, [], ◌∷◌, length, refl, sym, ap, subst, Option, Some, None, IfSome, arith}
use Rattle.std.specs.List.{AllByRecursion, AllZip}
use Rattle.sub_reader.specs.declared.row.Slot.TheVariants.{Row, Gap}
use Rattle.sub_reader.specs.Rows.{rows_in, row_at, changed_at}
use Rattle.topics.specs.QueueRows.{QueueRow, QueueSlot}
use Rattle.topics.specs.Spans.{rows_before, rows_from}
use Rattle.topics.specs.Walks.{InSlot, GoesAt}

-- what is so of all handles is so of the one at a place
pub row-all : (P : QueueRow → Type 0) (i : ℕ) (ss : List QueueSlot) → AllByRecursion P (rows_in ss) → IfSome (row_at i ss) P
row-all P i [] all = tt
row-all P zero (Row x ∷ ss) all = all.0
row-all P zero (Gap m ∷ ss) all = tt
row-all P (suc i) (Row x ∷ ss) all = row-all P i ss all.1
row-all P (suc i) (Gap m ∷ ss) all = row-all P i ss all

pub all-such : (P : QueueRow → Type 0) → ((x : QueueRow) → P x) → (xs : List QueueRow) → AllByRecursion P xs
all-such P such [] = tt
all-such P such (x ∷ xs) = (such x, all-such P such xs)

pub some-all : {X : Type 0} (P : X → Type 0) (o : Option X) (x : X) → Some x ≡ o → IfSome o P → P x
some-all P None x is all = absurd (cc)
some-all P (Some y) x is all = let same : y ≡ x = cc in subst P same all

-- what is so of it once it has changed
pub changed-such : (P : QueueRow → Type 0) (i : ℕ) (ss : List QueueSlot) (change : QueueRow → QueueRow) (x : QueueRow) → Some x ≡ row_at i ss → P (change x) → IfSome (row_at i (changed_at i change ss)) P
changed-such P i [] change x is so = absurd (cc)
changed-such P zero (Row y ∷ ss) change x is so = let same : x ≡ y = cc in subst (λ z. P (change z)) same so
changed-such P zero (Gap m ∷ ss) change x is so = absurd (cc)
changed-such P (suc i) (s ∷ ss) change x is so = changed-such P i ss change x is so

-- ---- one place

module _ (Goes : QueueRow → QueueRow → Type 0) where
  pub goes-nowhere : (i : ℕ) (ss : List QueueSlot) → i < length ss → row_at i ss ≡ None → GoesAt Goes i ss ss
  goes-nowhere i [] lt none = absurd (omega arith)
  goes-nowhere zero (Row x ∷ ss) lt none = absurd (cc)
  goes-nowhere zero (Gap m ∷ ss) lt none = (tt, refl)
  goes-nowhere (suc i) (s ∷ ss) lt none = (refl, goes-nowhere i ss (omega arith) none)

  pub goes-same : (i : ℕ) (ss : List QueueSlot) (x : QueueRow) → Some x ≡ row_at i ss → Goes x x → GoesAt Goes i ss ss
  goes-same i [] x is goes = absurd (cc)
  goes-same zero (Row y ∷ ss) x is goes = let same : x ≡ y = cc in (subst (λ z. Goes z z) same goes, refl)
  goes-same zero (Gap m ∷ ss) x is goes = absurd (cc)
  goes-same (suc i) (s ∷ ss) x is goes = (refl, goes-same i ss x is goes)

  pub goes-changed : (i : ℕ) (ss : List QueueSlot) (change : QueueRow → QueueRow) (x : QueueRow) → Some x ≡ row_at i ss → Goes x (change x) → GoesAt Goes i ss (changed_at i change ss)
  goes-changed i [] change x is goes = absurd (cc)
  goes-changed zero (Row y ∷ ss) change x is goes = let same : x ≡ y = cc in (subst (λ z. Goes z (change z)) same goes, refl)
  goes-changed zero (Gap m ∷ ss) change x is goes = absurd (cc)
  goes-changed (suc i) (s ∷ ss) change x is goes = (refl, goes-changed i ss change x is goes)

  -- ---- so many of the first slots went, the others stay

  abbrev pub Went : ℕ → List QueueSlot → List QueueSlot → Type 0
  Went zero ss ts = ts ≡ ss
  Went (suc n) [] ts = ts ≡ []
  Went (suc n) (s ∷ ss) [] = ⊥
  Went (suc n) (s ∷ ss) (t ∷ ts) = InSlot Goes s t × Went n ss ts

  pub went-at : (n : ℕ) (ss ts : List QueueSlot) → Went n ss ts → row_at n ts ≡ row_at n ss
  went-at zero ss ts w = ap (row_at zero) w
  went-at (suc n) [] ts w = ap (row_at (suc n)) w
  went-at (suc n) (s ∷ ss) [] w = absurd w
  went-at (suc n) (s ∷ ss) (t ∷ ts) w = went-at n ss ts w.1

  pub went-length : (n : ℕ) (ss ts : List QueueSlot) → Went n ss ts → length ts ≡ length ss
  went-length zero ss ts w = ap length w
  went-length (suc n) [] ts w = ap length w
  went-length (suc n) (s ∷ ss) [] w = absurd w
  went-length (suc n) (s ∷ ss) (t ∷ ts) w = ap suc (went-length n ss ts w.1)

  went-one : (ss us : List QueueSlot) → GoesAt Goes zero ss us → Went (suc zero) ss us
  went-one [] us goes = absurd goes
  went-one (s ∷ ss) [] goes = absurd goes
  went-one (s ∷ ss) (u ∷ us) goes = goes

  pub went-on : (n : ℕ) (ss ts us : List QueueSlot) → Went n ss ts → GoesAt Goes n ts us → Went (suc n) ss us
  went-on zero ss ts us w goes = went-one ss us (subst (λ l. GoesAt Goes zero l us) w goes)
  went-on (suc n) [] ts us w goes = absurd (subst (λ l. GoesAt Goes (suc n) l us) w goes)
  went-on (suc n) (s ∷ ss) [] us w goes = absurd w
  went-on (suc n) (s ∷ ss) (t ∷ ts) [] w goes = absurd goes
  went-on (suc n) (s ∷ ss) (t ∷ ts) (u ∷ us) w goes = (subst (InSlot Goes s) (sym goes.0) w.0, went-on n ss ts us w.1 goes.1)

  -- those outside went too, where this is so of one that stays
  module _ (Out : QueueRow → Type 0) (stays : (x : QueueRow) → Out x → Goes x x) where
    pub went-before : (n : ℕ) (ss : List QueueSlot) → AllByRecursion Out (rows_before n ss) → Went n ss ss
    went-before zero ss out = refl
    went-before (suc n) [] out = refl
    went-before (suc n) (Row x ∷ ss) out = (stays x out.0, went-before n ss out.1)
    went-before (suc n) (Gap m ∷ ss) out = (tt, went-before n ss out)

    all-stay : (xs : List QueueRow) → AllByRecursion Out xs → AllZip Goes xs xs
    all-stay [] out = tt
    all-stay (x ∷ xs) out = (stays x out.0, all-stay xs out.1)

    pub went-all : (n : ℕ) (ss ts : List QueueSlot) → Went n ss ts → AllByRecursion Out (rows_from n ss) → AllZip Goes (rows_in ss) (rows_in ts)
    went-all zero ss ts w out = subst (λ l. AllZip Goes (rows_in ss) (rows_in l)) (sym w) (all-stay (rows_in ss) out)
    went-all (suc n) [] ts w out = subst (λ l. AllZip Goes [] (rows_in l)) (sym w) tt
    went-all (suc n) (s ∷ ss) [] w out = absurd w
    went-all (suc n) (Row x ∷ ss) (Row y ∷ ts) w out = (w.0, went-all n ss ts w.1 out)
    went-all (suc n) (Row x ∷ ss) (Gap k ∷ ts) w out = absurd w.0
    went-all (suc n) (Gap m ∷ ss) (Row y ∷ ts) w out = absurd w.0
    went-all (suc n) (Gap m ∷ ss) (Gap k ∷ ts) w out = went-all n ss ts w.1 out

-- what is so of those that went is so of all where it is so of what stays
module _ (Goes Other : QueueRow → QueueRow → Type 0) (weak : (x y : QueueRow) → Goes x y → Other x y) where
  slot-weak : (s t : QueueSlot) → InSlot Goes s t → InSlot Other s t
  slot-weak (Row x) (Row y) goes = weak x y goes
  slot-weak (Row x) (Gap n) goes = absurd goes
  slot-weak (Gap m) (Row y) goes = absurd goes
  slot-weak (Gap m) (Gap n) goes = tt

  pub went-weak : (n : ℕ) (ss ts : List QueueSlot) → Went Goes n ss ts → Went Other n ss ts
  went-weak zero ss ts w = w
  went-weak (suc n) [] ts w = w
  went-weak (suc n) (s ∷ ss) [] w = absurd w
  went-weak (suc n) (s ∷ ss) (t ∷ ts) w = (slot-weak s t w.0, went-weak n ss ts w.1)

  pub zip-weak : (xs ys : List QueueRow) → AllZip Goes xs ys → AllZip Other xs ys
  zip-weak [] [] all = tt
  zip-weak [] (y ∷ ys) all = absurd all
  zip-weak (x ∷ xs) [] all = absurd all
  zip-weak (x ∷ xs) (y ∷ ys) all = (weak x y all.0, zip-weak xs ys all.1)

-- what is so of each that it becomes
pub zip-second : (Goes : QueueRow → QueueRow → Type 0) (P : QueueRow → Type 0) → ((x y : QueueRow) → Goes x y → P y) → (xs ys : List QueueRow) → AllZip Goes xs ys → AllByRecursion P ys
zip-second Goes P so [] [] all = tt
zip-second Goes P so [] (y ∷ ys) all = absurd all
zip-second Goes P so (x ∷ xs) [] all = absurd all
zip-second Goes P so (x ∷ xs) (y ∷ ys) all = (so x y all.0, zip-second Goes P so xs ys all.1)

-- one that went is such now
pub goes-and : (Goes : QueueRow → QueueRow → Type 0) (P : QueueRow → Type 0) (i : ℕ) (ss ts : List QueueSlot) → GoesAt Goes i ss ts → IfSome (row_at i ts) P → GoesAt (λ x y. Goes x y × P y) i ss ts
goes-and Goes P zero [] ts goes so = absurd goes
goes-and Goes P zero (s ∷ ss) [] goes so = absurd goes
goes-and Goes P zero (Row x ∷ ss) (Row y ∷ ts) goes so = ((goes.0, so), goes.1)
goes-and Goes P zero (Row x ∷ ss) (Gap k ∷ ts) goes so = absurd goes.0
goes-and Goes P zero (Gap m ∷ ss) (Row y ∷ ts) goes so = absurd goes.0
goes-and Goes P zero (Gap m ∷ ss) (Gap k ∷ ts) goes so = (tt, goes.1)
goes-and Goes P (suc i) [] ts goes so = absurd goes
goes-and Goes P (suc i) (s ∷ ss) [] goes so = absurd goes
goes-and Goes P (suc i) (s ∷ ss) (t ∷ ts) goes so = (goes.0, goes-and Goes P i ss ts goes.1 so)
