-- What stands of a handle says what the plain words say: what is owed, whether there is news, what a read answers.
use Rattle.std.proofs.Common.{arith, ◌≡◌, ℕ, Bool, true, false, cond, not, ◌&&◌, ◌||◌, List, [], ◌∷◌, length, map, drop, Option, Some, None, refl, ap, ◌∙◌}
use Rattle.std.specs.Prelude.{filter, nat_lt}
use Rattle.std.proofs.lemmas.Bool.Decides.{nat_tests}
use Rattle.std.specs.Prelude.{nat_lt}
use Rattle.pps_types.specs.Bytes.{is_empty}
use Rattle.pps_types.specs.History.{Entry}
use Rattle.pps_types.specs.Reading.{is_full_style, is_delta_style, OpenHandle, Style, Full, Delta, Queue, style, visible, whole_answer, owed_answer, block}
use Rattle.pps_types.specs.Rests.{news_in, Over, Owed, Progress, News, stand, unread, keeps, from_first, seen_with, rest_of, answer}
use Rattle.pps_types.specs.Owed.{has_news, answer_with}
use Rattle.pps_types.proofs.Lists.{filter-from_first}
use Rattle.pps_types.proofs.Chains.{visible-keeps}
use Rattle.service_laws.proofs.Offers.{visible-reads}

module _ {X : Type 0} (test keep : X → Bool) where
  -- a weaker filter before plays no part
  pub filter-weaker : ((x : X) → test x ≡ true → keep x ≡ true) → (xs : List X) → filter test (filter keep xs) ≡ filter test xs
  filter-weaker kept [] = refl
  filter-weaker kept (x ∷ xs) = by (filter-weaker kept xs) (keep x) refl (test x) refl
    where
      by : filter test (filter keep xs) ≡ filter test xs → (k : Bool) → keep x ≡ k → (b : Bool) → test x ≡ b → filter test (cond k (x ∷ filter keep xs) (filter keep xs)) ≡ cond b (x ∷ filter test xs) (filter test xs)
      by rec true k true e = ap (λ b. cond b (x ∷ filter test (filter keep xs)) (filter test (filter keep xs))) e ∙ ap (λ rest. x ∷ rest) rec
      by rec true k false e = ap (λ b. cond b (x ∷ filter test (filter keep xs)) (filter test (filter keep xs))) e ∙ rec
      by rec false k true e = absurd (let h = kept x e in cc)
      by rec false k false e = rec

is_empty-from_first : (test : Entry → Bool) (xs : List Entry) → is_empty (from_first test xs) ≡ is_empty (filter test xs)
is_empty-from_first test [] = refl
is_empty-from_first test (x ∷ xs) =
    elim (test x) as (λ b. is_empty (cond b (x ∷ xs) (from_first test xs)) ≡ is_empty (cond b (x ∷ filter test xs) (filter test xs)))
    [ true ↦ refl | false ↦ is_empty-from_first test xs ]

-- the visible ones of the rest are the debt
pub rest-owed : {S : Type 0} (h : OpenHandle S) (xs : List Entry) → filter (visible h) (rest_of h xs) ≡ filter (visible h) xs
rest-owed h xs = filter-from_first (visible h) (filter (keeps h) xs) ∙ filter-weaker (visible h) (keeps h) (visible-keeps h) xs

pub rest-is_empty : {S : Type 0} (h : OpenHandle S) (xs : List Entry) → is_empty (rest_of h xs) ≡ is_empty (filter (visible h) xs)
rest-is_empty h xs = is_empty-from_first (visible h) (filter (keeps h) xs) ∙ ap is_empty (filter-weaker (visible h) (keeps h) (visible-keeps h) xs)

-- a read
pub answer-same : (h : OpenHandle Progress) (H : List Entry) (cursor : Option ℕ) (everything : List ℕ) (dead : Bool) (max : ℕ) → h.reads ≡ true → answer h (seen_with h H cursor) everything dead max ≡ answer_with h H cursor everything dead max
answer-same h H None everything dead max reads = by (style h.kind)
  where
    by : (s : Style) → answer h (unread s h.reads) everything dead max ≡ whole_answer everything max
    by Full = ap (λ r. answer h (News r) everything dead max) reads
    by Delta = refl
    by Queue = refl
answer-same h H (Some cursor) everything dead max reads =
    (λ i. answer h (stand (style h.kind) (reads i) (nat_lt h.limit (length (rest-owed h (drop cursor H) i))) (rest_of h (drop cursor H))) everything dead max)
    ∙ by (style h.kind) (nat_lt h.limit (length (filter (visible h) (drop cursor H)))) (rest_of h (drop cursor H)) (filter (visible h) (drop cursor H)) (rest-owed h (drop cursor H)) (rest-is_empty h (drop cursor H))
  where
    by : (s : Style) (o : Bool) (rest debt : List Entry) → filter (visible h) rest ≡ debt → is_empty rest ≡ is_empty debt → answer h (stand s true o rest) everything dead max ≡ cond (is_delta_style s && o || (is_full_style s && not (is_empty debt))) (whole_answer everything max) (owed_answer h.options.wait (map (block h) debt) dead max)
    by Full o rest [] same empty = ap (λ b. answer h (News (not b)) everything dead max) empty
    by Full o rest (x ∷ xs) same empty = ap (λ b. answer h (News (not b)) everything dead max) empty
    by Delta true rest debt same empty = refl
    by Delta false rest debt same empty = ap (λ d. owed_answer h.options.wait (map (block h) d) dead max) same
    by Queue o rest debt same empty = ap (λ d. owed_answer h.options.wait (map (block h) d) dead max) same

pub none-over : (n : ℕ) → nat_lt n 0 ≡ false
none-over n = grind (arith, nat_tests)

-- news
debt-reads : {S : Type 0} (h : OpenHandle S) (xs : List Entry) → h.reads ≡ false → is_empty (filter (visible h) xs) ≡ true
debt-reads h [] reads = refl
debt-reads h (e ∷ es) reads = by (visible h e) (visible-reads h e) (debt-reads h es reads)
  where
    by : (v : Bool) → (v ≡ true → h.reads ≡ true) → is_empty (filter (visible h) es) ≡ true → is_empty (cond v (e ∷ filter (visible h) es) (filter (visible h) es)) ≡ true
    by true f rec = absurd (let g = f refl in cc)
    by false f rec = rec

pub news-same : {S : Type 0} (h : OpenHandle S) (H : List Entry) (cursor : Option ℕ) → news_in h.reads (seen_with h H cursor) ≡ has_news h H cursor
news-same h H None = by (style h.kind) h.reads
  where
    by : (s : Style) (r : Bool) → news_in r (unread s r) ≡ (r && true)
    by Full true = refl
    by Full false = refl
    by Delta true = refl
    by Delta false = refl
    by Queue true = refl
    by Queue false = refl
news-same h H (Some cursor) =
    (λ i. news_in h.reads (stand (style h.kind) h.reads (nat_lt h.limit (length (rest-owed h (drop cursor H) i))) (rest_of h (drop cursor H))))
    ∙ by (style h.kind) h.reads (rest_of h (drop cursor H)) (filter (visible h) (drop cursor H)) (rest-is_empty h (drop cursor H)) (debt-reads h (drop cursor H))
  where
    some : (debt : List Entry) (r : Bool) → (r ≡ false → is_empty debt ≡ true) → not (is_empty debt) ≡ (r && not (is_empty debt))
    some debt true f = refl
    some debt false f = ap not (f refl)

    by : (s : Style) (r : Bool) (rest debt : List Entry) → is_empty rest ≡ is_empty debt → (r ≡ false → is_empty debt ≡ true) → news_in r (stand s r (nat_lt h.limit (length debt)) rest) ≡ (r && not (is_empty debt))
    by Full r rest debt e f = ap (λ b. r && not b) e
    by Delta r rest [] e f = ap (λ o. news_in r (cond o Over (Owed rest))) (none-over h.limit) ∙ ap not e ∙ some [] r f
    by Delta r rest (x ∷ xs) e f = over (nat_lt h.limit (length (x ∷ xs)))
      where
        over : (o : Bool) → news_in r (cond o Over (Owed rest)) ≡ (r && true)
        over true = some (x ∷ xs) r f
        over false = ap not e ∙ some (x ∷ xs) r f
    by Queue r rest debt e f = ap not e ∙ some debt r f
