-- Runs of slots outside of which no handle is given a record.
use Rattle.std.proofs.Common.{◌≡◌, ℕ, zero, suc, ◌-◌, ◌<◌, ◌≤◌, eqb, Bool, true, false, cond, not, ◌&&◌, List, [], ◌∷◌, ◌++◌, length, take, drop, get_or, refl, sym, ap, subst, ◌∙◌, Option, None, IsSome, arith}
use Rattle.std.specs.Prelude.{is_some, filter, slice_range}
use Rattle.std.specs.List.{AllByRecursion, list_any}
use Rattle.std.proofs.lemmas.Bool.{false≢true}
use Rattle.std.proofs.lemmas.Bool.Decides.{nat_tests}
use Rattle.pps_types.specs.declared.handle_kind.HandleKind.{HandleKind}
use Rattle.pps_types.specs.declared.handle_kind.HandleKind.TheVariants.{Object as ObjectHandle, Directory as DirectoryHandle, Names as NamesHandle, Server as ServerHandle, Client as ClientHandle}
use Rattle.pps_types.specs.declared.line.Lines.{Lines}
use Rattle.pps_types.specs.declared.record.Kind.{Kind}
use Rattle.pps_types.specs.declared.record.Kind.TheVariants.{Created, Change, Truncated, Dropped, Deleted, Opened, Closed, FromClient, ToClient, ToAll}
use Rattle.pps_types.specs.Bytes.{is_empty}
use Rattle.pps_types.specs.Filter.{Part}
use Rattle.pps_types.specs.History.{Entry}
use Rattle.pps_types.specs.Reading.{Shown, Queue, style, shown, shown_to_server, shown_to_client, with_lines}
use Rattle.pps_types.specs.Rising.{AllAbove, IsPlaceOf, IsGapFor}
use Rattle.sub_reader.specs.declared.row.Slot.TheVariants.{Row, Gap}
use Rattle.sub_reader.specs.Rows.{number_in, rows_in, row_at, rank}
use Rattle.sub_reader.proofs.Gaps.{place_within}
use Rattle.topics.specs.QueueRows.{QueueRow, QueueSlot, sees, IsQueued, IsOfClient, IsLed}
use Rattle.topics.specs.Spans.{rows_before, rows_from, IsSpan, IsOther, IsBlind, IsUnseen}
use Rattle.topics.specs.Woken.{waits_at, wakes_at}

-- ---- the handle of a number alone

above-other : (n : ℕ) (xs : List QueueRow) → AllAbove number_in n xs → AllByRecursion (IsOther n) xs
above-other n [] above = tt
above-other n (x ∷ xs) above = ((λ same. omega (arith, same, above.0)), above-other n xs above.1)

other-before : (n i : ℕ) (ss : List QueueSlot) → IsSome (row_at i ss) → IsPlaceOf number_in (rows_in ss) n (rank i ss) → AllByRecursion (IsOther n) (rows_before i ss)
other-before n i [] some place = absurd (false≢true some)
other-before n zero (s ∷ ss) some place = tt
other-before n (suc i) (Row x ∷ ss) some place = ((λ same. omega (arith, same, place.0)), other-before n i ss some place.1)
other-before n (suc i) (Gap m ∷ ss) some place = other-before n i ss some place

other-behind : (n i : ℕ) (ss : List QueueSlot) → IsSome (row_at i ss) → IsPlaceOf number_in (rows_in ss) n (rank i ss) → AllByRecursion (IsOther n) (rows_from (suc i) ss)
other-behind n i [] some place = absurd (false≢true some)
other-behind n zero (Row x ∷ ss) some place = above-other n (rows_in ss) place.1
other-behind n zero (Gap m ∷ ss) some place = absurd (false≢true some)
other-behind n (suc i) (Row x ∷ ss) some place = other-behind n i ss some place.1
other-behind n (suc i) (Gap m ∷ ss) some place = other-behind n i ss some place

pub place-span : (n i : ℕ) (ss : List QueueSlot) → IsSome (row_at i ss) → IsPlaceOf number_in (rows_in ss) n (rank i ss) → IsSpan (IsOther n) i (suc i) ss
place-span n i ss some place = record { order = omega arith; bound = omega (arith, place_within ss i some); before = other-before n i ss some place; behind = other-behind n i ss some place }

gap-other : (n i : ℕ) (xs : List QueueRow) → IsGapFor number_in xs n i → AllByRecursion (IsOther n) xs
gap-other n zero xs gap = above-other n xs gap
gap-other n (suc i) [] gap = tt
gap-other n (suc i) (x ∷ xs) gap = ((λ same. omega (arith, same, gap.0)), gap-other n i xs gap.1)

-- ---- no slots, and all

module _ (Out : QueueRow → Type 0) where
  pub no-span : (ss : List QueueSlot) → AllByRecursion Out (rows_in ss) → IsSpan Out 0 0 ss
  no-span ss all = record { order = omega arith; bound = omega arith; before = tt; behind = all }

  rest-none : (ss : List QueueSlot) → AllByRecursion Out (rows_from (length ss) ss)
  rest-none [] = tt
  rest-none (s ∷ ss) = rest-none ss

  pub whole-span : (ss : List QueueSlot) → IsSpan Out 0 (length ss) ss
  whole-span ss = record { order = omega arith; bound = omega arith; before = tt; behind = rest-none ss }

pub gap-span : (n i : ℕ) (ss : List QueueSlot) → IsGapFor number_in (rows_in ss) n i → IsSpan (IsOther n) 0 0 ss
gap-span n i ss gap = no-span (IsOther n) ss (gap-other n i (rows_in ss) gap)

-- ---- the first handle alone

led-rest : (xs : List QueueRow) → IsLed true xs → AllByRecursion IsOfClient (drop 1 xs)
led-rest [] led = tt
led-rest (x ∷ xs) led = led

pub first-span : (n : ℕ) (ss : List QueueSlot) → n ≤ length ss → rows_from n ss ≡ drop 1 (rows_in ss) → IsLed true (rows_in ss) → IsSpan IsOfClient 0 n ss
first-span n ss bound rows led = record { order = omega arith; bound = bound; before = tt; behind = subst (AllByRecursion IsOfClient) (sym rows) (led-rest (rows_in ss) led) }

-- ---- who is outside for one reason is for another

module _ (Is P Q : QueueRow → Type 0) (f : (x : QueueRow) → Is x → P x → Q x) where
  all-before : (n : ℕ) (ss : List QueueSlot) → AllByRecursion Is (rows_in ss) → AllByRecursion P (rows_before n ss) → AllByRecursion Q (rows_before n ss)
  all-before zero ss is all = tt
  all-before (suc n) [] is all = tt
  all-before (suc n) (Row x ∷ ss) is all = (f x is.0 all.0, all-before n ss is.1 all.1)
  all-before (suc n) (Gap m ∷ ss) is all = all-before n ss is all

  all-other : (xs : List QueueRow) → AllByRecursion Is xs → AllByRecursion P xs → AllByRecursion Q xs
  all-other [] is all = tt
  all-other (x ∷ xs) is all = (f x is.0 all.0, all-other xs is.1 all.1)

  all-from : (n : ℕ) (ss : List QueueSlot) → AllByRecursion Is (rows_in ss) → AllByRecursion P (rows_from n ss) → AllByRecursion Q (rows_from n ss)
  all-from zero ss is all = all-other (rows_in ss) is all
  all-from (suc n) [] is all = tt
  all-from (suc n) (Row x ∷ ss) is all = all-from n ss is.1 all
  all-from (suc n) (Gap m ∷ ss) is all = all-from n ss is all

  pub span-other : (from to : ℕ) (ss : List QueueSlot) → AllByRecursion Is (rows_in ss) → IsSpan P from to ss → IsSpan Q from to ss
  span-other from to ss is span = record { order = span.order; bound = span.bound; before = all-before from ss is span.before; behind = all-from to ss is span.behind }

-- ---- who has no block

other-client : (n id : ℕ) (lines : Lines) → (n ≡ id → ⊥) → is_some (shown_to_client n (ToClient id lines)) ≡ false
other-client n id lines other = by (eqb id n) refl
  where
    by : (b : Bool) → eqb id n ≡ b → is_some {T = Shown} (cond b (with_lines lines) None) ≡ false
    by true is = absurd (other (grind (arith, nat_tests)))
    by false is = refl

to-other : (kind : HandleKind) (n : ℕ) (filter : Option (List Part)) (id : ℕ) (lines : Lines) → style kind ≡ Queue → (n ≡ id → ⊥) → is_some (shown kind n filter (ToClient id lines)) ≡ false
to-other (ObjectHandle true) n filter id lines is other = absurd cc
to-other (ObjectHandle false) n filter id lines is other = absurd cc
to-other (DirectoryHandle true) n filter id lines is other = absurd cc
to-other (DirectoryHandle false) n filter id lines is other = absurd cc
to-other NamesHandle n filter id lines is other = absurd cc
to-other ServerHandle n filter id lines is other = refl
to-other ClientHandle n filter id lines is other = other-client n id lines other

pub other-blind : (id : ℕ) (lines : Lines) (x : QueueRow) → IsQueued x → IsOther id x → IsBlind (ToClient id lines) x
other-blind id lines x queued other = to-other x.opening.kind x.opening.number x.opening.options.filter id lines queued other

-- a client has no block for what is its server's
pub from-blind : (id : ℕ) (lines : Lines) (x : QueueRow) → IsQueued x → IsOfClient x → IsBlind (FromClient id lines) x
from-blind id lines x queued client = ap (λ k. is_some (shown k x.opening.number x.opening.options.filter (FromClient id lines))) client

pub opened-blind : (id : ℕ) (x : QueueRow) → IsQueued x → IsOfClient x → IsBlind (Opened id) x
opened-blind id x queued client = ap (λ k. is_some (shown k x.opening.number x.opening.options.filter (Opened id))) client

pub closed-blind : (id : ℕ) (x : QueueRow) → IsQueued x → IsOfClient x → IsBlind (Closed id) x
closed-blind id x queued client = ap (λ k. is_some (shown k x.opening.number x.opening.options.filter (Closed id))) client

-- ---- who has no block is given nothing

and-false : (a b c : Bool) → c ≡ false → (a && (b && c)) ≡ false
and-false true true c is = is
and-false true false c is = refl
and-false false b c is = refl

pub blind-unseen : (object : ℕ) (e : Entry) (x : QueueRow) → IsBlind e.record_of.kind x → sees object e x ≡ false
blind-unseen object e x blind = grind (arith, blind)

pub span-is : (Out : QueueRow → Type 0) (from to a b : ℕ) (xs : List QueueSlot) → from ≡ a → to ≡ b → IsSpan Out a b xs → IsSpan Out from to xs
span-is Out from to a b xs first last span = subst (λ m. IsSpan Out m to xs) (sym first) (subst (λ m. IsSpan Out a m xs) (sym last) span)

-- ---- a run of all slots up to one, after which no handle is given one of some records

module _ (P : QueueRow → Type 0) where
  rest-of : (n : ℕ) (ss : List QueueSlot) → AllByRecursion P (rows_in ss) → AllByRecursion P (rows_from n ss)
  rest-of zero ss all = all
  rest-of (suc n) [] all = tt
  rest-of (suc n) (Row x ∷ ss) all = rest-of n ss all.1
  rest-of (suc n) (Gap m ∷ ss) all = rest-of n ss all

  rest-fewer : (m n : ℕ) (ss : List QueueSlot) → m ≤ n → AllByRecursion P (rows_from m ss) → AllByRecursion P (rows_from n ss)
  rest-fewer zero n ss le rest = rest-of n ss rest
  rest-fewer (suc m) zero ss le rest = absurd (omega arith)
  rest-fewer (suc m) (suc n) [] le rest = tt
  rest-fewer (suc m) (suc n) (s ∷ ss) le rest = rest-fewer m n ss (omega arith) rest

unseen-push : (object : ℕ) (es : List Entry) (e : Entry) (x : QueueRow) → IsUnseen object es x → IsBlind e.record_of.kind x → IsUnseen object (es ++ e ∷ []) x
unseen-push object [] e x out blind = (blind-unseen object e x blind, tt)
unseen-push object (y ∷ es) e x out blind = (out.0, unseen-push object es e x out.1 blind)

-- one record more
pub rest-more : (object : ℕ) (es : List Entry) (e : Entry) (m n k : ℕ) (ss : List QueueSlot) → m ≤ k → n ≤ k → AllByRecursion (IsUnseen object es) (rows_from m ss) → AllByRecursion (IsBlind e.record_of.kind) (rows_from n ss) → AllByRecursion (IsUnseen object (es ++ e ∷ [])) (rows_from k ss)
rest-more object es e m n k ss le lt out blind =
    all-other (IsUnseen object es) (IsBlind e.record_of.kind) (IsUnseen object (es ++ e ∷ [])) (unseen-push object es e) (rows_from k ss)
    (rest-fewer (IsUnseen object es) m k ss le out) (rest-fewer (IsBlind e.record_of.kind) n k ss lt blind)

-- ---- what is for nobody

module _ (k : Kind) (deleted : k ≡ Deleted → ⊥) (opened : (id : ℕ) → k ≡ Opened id → ⊥) (closed : (id : ℕ) → k ≡ Closed id → ⊥)
    (from : (id : ℕ) (lines : Lines) → k ≡ FromClient id lines → ⊥) (one : (id : ℕ) (lines : Lines) → k ≡ ToClient id lines → ⊥) (all : (lines : Lines) → k ≡ ToAll lines → ⊥) where
  no-block : (n : ℕ) → (is_some (shown_to_server k) ≡ false) × (is_some (shown_to_client n k) ≡ false)
  no-block n = by k refl
    where
      by : (j : Kind) → k ≡ j → (is_some (shown_to_server j) ≡ false) × (is_some (shown_to_client n j) ≡ false)
      by Created is = (refl, refl)
      by (Change lines) is = (refl, refl)
      by Truncated is = (refl, refl)
      by Dropped is = (refl, refl)
      by Deleted is = absurd (deleted is)
      by (Opened id) is = absurd (opened id is)
      by (Closed id) is = absurd (closed id is)
      by (FromClient id lines) is = absurd (from id lines is)
      by (ToClient id lines) is = absurd (one id lines is)
      by (ToAll lines) is = absurd (all lines is)

  no-kind : (kind : HandleKind) (n : ℕ) (filter : Option (List Part)) → style kind ≡ Queue → is_some (shown kind n filter k) ≡ false
  no-kind (ObjectHandle true) n filter is = absurd cc
  no-kind (ObjectHandle false) n filter is = absurd cc
  no-kind (DirectoryHandle true) n filter is = absurd cc
  no-kind (DirectoryHandle false) n filter is = absurd cc
  no-kind NamesHandle n filter is = absurd cc
  no-kind ServerHandle n filter is = (no-block n).0
  no-kind ClientHandle n filter is = (no-block n).1

  all-blind : (xs : List QueueRow) → AllByRecursion IsQueued xs → AllByRecursion (IsBlind k) xs
  all-blind [] queued = tt
  all-blind (x ∷ xs) queued = (no-kind x.opening.kind x.opening.number x.opening.options.filter queued.0, all-blind xs queued.1)

  pub none-span : (ss : List QueueSlot) → AllByRecursion IsQueued (rows_in ss) → IsSpan (IsBlind k) 0 0 ss
  none-span ss queued = no-span (IsBlind k) ss (all-blind (rows_in ss) queued)

pub only-one : (e : Entry) (es : List Entry) → 1 ≤ length es → length es < 2 → e ≡ get_or es 0 e → es ≡ e ∷ []
only-one e [] some few is = absurd (omega arith)
only-one e (x ∷ []) some few is = ap (λ y. y ∷ []) (sym is)
only-one e (x ∷ (y ∷ es)) some few is = absurd (omega arith)

-- ---- what passes is within a run

module _ (f : QueueRow → Bool) where
  filter-none : (xs : List QueueRow) → AllByRecursion (λ x. f x ≡ false) xs → filter f xs ≡ []
  filter-none [] out = refl
  filter-none (x ∷ xs) out = rw out.0 (filter-none xs out.1)

  -- of the first slots
  filter-first : (n : ℕ) (ss : List QueueSlot) → AllByRecursion (λ x. f x ≡ false) (rows_from n ss) → filter f (rows_in (take n ss)) ≡ filter f (rows_in ss)
  filter-first zero ss out = sym (filter-none (rows_in ss) out)
  filter-first (suc n) [] out = refl
  filter-first (suc n) (Row x ∷ ss) out = ap (λ ys. cond (f x) (x ∷ ys) ys) (filter-first n ss out)
  filter-first (suc n) (Gap m ∷ ss) out = filter-first n ss out

  none-taken : (n : ℕ) → filter f (rows_in (take n [])) ≡ []
  none-taken zero = refl
  none-taken (suc n) = refl

  filter-past : (x : QueueRow) (xs : List QueueRow) → f x ≡ false → filter f (x ∷ xs) ≡ filter f xs
  filter-past x xs out = rw out refl

  pub filter-within : (from to : ℕ) (ss : List QueueSlot) → from ≤ to → AllByRecursion (λ x. f x ≡ false) (rows_before from ss) → AllByRecursion (λ x. f x ≡ false) (rows_from to ss)
      → filter f (rows_in (slice_range ss from to)) ≡ filter f (rows_in ss)
  filter-within zero to ss order before behind = ap (λ n. filter f (rows_in (take n ss))) (let e : to - 0 ≡ to = omega arith in e) ∙ filter-first to ss behind
  filter-within (suc from) zero ss order before behind = absurd (omega arith)
  filter-within (suc from) (suc to) [] order before behind = none-taken (suc to - suc from)
  filter-within (suc from) (suc to) (Row x ∷ ss) order before behind =
      ap (λ n. filter f (rows_in (take n (drop from ss)))) (let e : suc to - suc from ≡ to - from = omega arith in e)
      ∙ filter-within from to ss (omega arith) before.1 behind
      ∙ sym (filter-past x (rows_in ss) before.0)
  filter-within (suc from) (suc to) (Gap m ∷ ss) order before behind =
      ap (λ n. filter f (rows_in (take n (drop from ss)))) (let e : suc to - suc from ≡ to - from = omega arith in e)
      ∙ filter-within from to ss (omega arith) before behind

-- what is so of all handles is so of those within a run
module _ (P : QueueRow → Type 0) where
  all-first : (n : ℕ) (ss : List QueueSlot) → AllByRecursion P (rows_in ss) → AllByRecursion P (rows_in (take n ss))
  all-first zero ss all = tt
  all-first (suc n) [] all = tt
  all-first (suc n) (Row x ∷ ss) all = (all.0, all-first n ss all.1)
  all-first (suc n) (Gap m ∷ ss) all = all-first n ss all

  pub all-within : (from to : ℕ) (ss : List QueueSlot) → AllByRecursion P (rows_in ss) → AllByRecursion P (rows_in (slice_range ss from to))
  all-within from to ss all = all-first (to - from) (drop from ss) (rest-of P from ss all)

-- one record is not given to those outside
pub unseen-span : (object : ℕ) (e : Entry) (from to : ℕ) (ss : List QueueSlot) → AllByRecursion IsQueued (rows_in ss) → IsSpan (IsUnseen object (e ∷ [])) from to ss → IsSpan (λ x. sees object e x ≡ false) from to ss
unseen-span object e from to ss queued span = span-other IsQueued (IsUnseen object (e ∷ [])) (λ x. sees object e x ≡ false) (λ x is out. out.0) from to ss queued span

pub seers-within : (object : ℕ) (e : Entry) (from to : ℕ) (ss : List QueueSlot) → AllByRecursion IsQueued (rows_in ss) → IsSpan (IsUnseen object (e ∷ [])) from to ss
    → filter (sees object e) (rows_in (slice_range ss from to)) ≡ filter (sees object e) (rows_in ss)
seers-within object e from to ss queued span =
    let out = unseen-span object e from to ss queued span in
    filter-within (sees object e) from to ss out.order out.before out.behind

-- ---- they are not woken

none-any : (object : ℕ) (x : QueueRow) (es : List Entry) → IsUnseen object es x → list_any (λ e. sees object e x) es ≡ false
none-any object x [] out = refl
none-any object x (e ∷ es) out = rw out.0 (none-any object x es out.1)

asleep : (object : ℕ) (es : List Entry) (x : QueueRow) → IsUnseen object es x → wakes_at object es x ≡ false
asleep object es x out = and-false (waits_at x) (not (not (is_empty x.progress.owed))) (list_any (λ e. sees object e x) es) (none-any object x es out)

pub woken-within : (object : ℕ) (es : List Entry) (from to : ℕ) (ss : List QueueSlot) → AllByRecursion IsQueued (rows_in ss) → IsSpan (IsUnseen object es) from to ss
    → filter (wakes_at object es) (rows_in (slice_range ss from to)) ≡ filter (wakes_at object es) (rows_in ss)
woken-within object es from to ss queued span =
    let out = span-other IsQueued (IsUnseen object es) (λ x. wakes_at object es x ≡ false) (λ x is out. asleep object es x out) from to ss queued span in
    filter-within (wakes_at object es) from to ss out.order out.before out.behind
