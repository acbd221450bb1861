-- Where a read leaves the cursor, of the words themselves.
use Rattle.std.proofs.Common.{◌≡◌, ℕ, zero, suc, ◌+◌, Bool, true, false, cond, not, ◌&&◌, ◌||◌, List, [], ◌∷◌, length, drop, Option, Some, None, refl, sym, ap, ◌∙◌}
use Rattle.std.specs.Prelude.{filter, nat_lt, is_none}
use Rattle.std.proofs.Math.Seq.{drop-length, drop-nil}
use Rattle.std.proofs.lemmas.List.{drop-drop}
use Rattle.pps_types.specs.Bytes.{is_empty}
use Rattle.pps_types.specs.History.{Entry}
use Rattle.pps_types.specs.Reading.{OpenHandle, Style, Full, Delta, Queue, style, is_full_style, is_delta_style, visible}
use Rattle.pps_types.specs.Rests.{Progress, News, Unread, Over, Owed, stand, rest_of, seen_with, past, behind}
use Rattle.pps_types.specs.Machine.{passed, passed_with}
use Rattle.pps_types.specs.Owed.{owed, is_past_limit, has_news}
use Rattle.pps_types.proofs.Lists.{filter-behind}
use Rattle.service_laws.proofs.Bridge.{rest-owed}

-- where all pass, the first n that pass are the first n
past-filter : {X : Type 0} (test : X → Bool) (n : ℕ) (xs : List X) → past test n (filter test xs) ≡ drop n (filter test xs)
past-filter test zero xs = refl
past-filter test (suc n) [] = refl
past-filter test (suc n) (x ∷ xs) = by (past-filter test n xs) (past-filter test (suc n) xs) (test x) refl
  where
    by : past test n (filter test xs) ≡ drop n (filter test xs) → past test (suc n) (filter test xs) ≡ drop (suc n) (filter test xs) → (b : Bool) → test x ≡ b
        → past test (suc n) (cond b (x ∷ filter test xs) (filter test xs)) ≡ drop (suc n) (cond b (x ∷ filter test xs) (filter test xs))
    by one more true e = ap (λ b. cond b (past test n (filter test xs)) (past test (suc n) (filter test xs))) e ∙ one
    by one more false e = more

owed-behind : {S : Type 0} (h : OpenHandle S) (H : List Entry) (n cursor : ℕ) → owed h H (Some (cursor + behind (visible h) n (drop cursor H))) ≡ drop n (owed h H (Some cursor))
owed-behind h H n cursor =
    ap (filter (visible h)) (sym (drop-drop (behind (visible h) n (drop cursor H)) cursor H))
    ∙ filter-behind (visible h) (visible h) (λ x e. e) n (drop cursor H)
    ∙ past-filter (visible h) n (drop cursor H)

-- not past its limit, it is shown what it is owed
seen-owed : {S : Type 0} (h : OpenHandle S) (H : List Entry) (cursor : ℕ) → is_full_style (style h.kind) ≡ false → is_past_limit h (owed h H (Some cursor)) ≡ false → seen_with h H (Some cursor) ≡ Owed (rest_of h (drop cursor H))
seen-owed h H cursor full past =
    (λ i. stand (style h.kind) h.reads (nat_lt h.limit (length (rest-owed h (drop cursor H) i))) (rest_of h (drop cursor H)))
    ∙ by (style h.kind) (nat_lt h.limit (length (owed h H (Some cursor)))) full past
  where
    by : (s : Style) (o : Bool) → is_full_style s ≡ false → (is_delta_style s && o) ≡ false → stand s h.reads o (rest_of h (drop cursor H)) ≡ Owed (rest_of h (drop cursor H))
    by Full o f p = absurd cc
    by Delta true f p = absurd cc
    by Delta false f p = refl
    by Queue o f p = refl

passed-none : (h : OpenHandle (Option ℕ)) (H : List Entry) (n : ℕ) (s : Progress) → passed_with h H n s None ≡ None
passed-none h H n (News b) = refl
passed-none h H n Unread = refl
passed-none h H n Over = refl
passed-none h H n (Owed rest) = refl

pub passed-drops : (h : OpenHandle (Option ℕ)) (H : List Entry) (n : ℕ) (cursor : Option ℕ) → is_full_style (style h.kind) ≡ false → is_past_limit h (owed h H cursor) ≡ false → owed h H (passed h H n cursor) ≡ drop n (owed h H cursor)
passed-drops h H n None full past = ap (owed h H) (passed-none h H n (seen_with h H None)) ∙ sym (drop-nil n)
passed-drops h H n (Some cursor) full past = ap (λ s. owed h H (passed_with h H n s (Some cursor))) (seen-owed h H cursor full past) ∙ owed-behind h H n cursor

-- a cursor moves past the first records that it is owed
pub passed-past : (h : OpenHandle (Option ℕ)) (H : List Entry) (n : ℕ) (cursor : Option ℕ) → is_none cursor ≡ false → is_full_style (style h.kind) ≡ false → is_past_limit h (owed h H cursor) ≡ false
    → (place : ℕ) × (owed h H (Some place) ≡ drop n (owed h H cursor)) × (passed h H n cursor ≡ Some place)
passed-past h H n None none full past = absurd (let no = none in cc)
passed-past h H n (Some cursor) none full past = (cursor + behind (visible h) n (drop cursor H), owed-behind h H n cursor, ap (λ s. passed_with h H n s (Some cursor)) (seen-owed h H cursor full past))

pub end-owed : {S : Type 0} (h : OpenHandle S) (H : List Entry) → owed h H (Some (length H)) ≡ []
end-owed h H = ap (filter (visible h)) (drop-length H)

-- ---- a read gives no news

empty-nil : {X : Type 0} (xs : List X) → is_empty xs ≡ true → xs ≡ []
empty-nil [] e = refl
empty-nil (x ∷ xs) e = absurd (let h = e in cc)

none-is_empty : {X : Type 0} (xs : List X) → not (is_empty xs) ≡ false → is_empty xs ≡ true
none-is_empty [] e = refl
none-is_empty (x ∷ xs) e = absurd (let h = e in cc)

none-dropped : {X : Type 0} (n : ℕ) (xs : List X) → is_empty xs ≡ true → is_empty (drop n xs) ≡ true
none-dropped n xs e = ap (λ ys. is_empty (drop n ys)) (empty-nil xs e) ∙ ap is_empty (drop-nil n)

quiet : {S : Type 0} (h : OpenHandle S) (debt : List Entry) → is_empty debt ≡ true → (h.reads && (false || not (is_empty debt))) ≡ false
quiet h debt e = ap (λ b. h.reads && not b) e ∙ by h.reads
  where
    by : (r : Bool) → (r && false) ≡ false
    by true = refl
    by false = refl

pub end-quiet : {S : Type 0} (h : OpenHandle S) (H : List Entry) → has_news h H (Some (length H)) ≡ false
end-quiet h H = quiet h (owed h H (Some (length H))) (ap is_empty (end-owed h H))

pub passed-quiet : (h : OpenHandle (Option ℕ)) (H : List Entry) (n : ℕ) (cursor : Option ℕ) → has_news h H cursor ≡ false → has_news h H (passed h H n cursor) ≡ false
passed-quiet h H n None e = ap (has_news h H) (passed-none h H n (seen_with h H None)) ∙ e
passed-quiet h H n (Some cursor) e = go (seen_with h H (Some cursor))
  where
    by : (r : Bool) → h.reads ≡ r → (r && not (is_empty (owed h H (Some cursor)))) ≡ false → has_news h H (Some (cursor + behind (visible h) n (drop cursor H))) ≡ false
    by false is none = ap (λ r. r && not (is_empty (owed h H (Some (cursor + behind (visible h) n (drop cursor H)))))) is
    by true is none = quiet h (owed h H (Some (cursor + behind (visible h) n (drop cursor H)))) (ap is_empty (owed-behind h H n cursor) ∙ none-dropped n (owed h H (Some cursor)) (none-is_empty (owed h H (Some cursor)) none))

    go : (s : Progress) → has_news h H (passed_with h H n s (Some cursor)) ≡ false
    go (News b) = e
    go Unread = e
    go Over = e
    go (Owed rest) = by h.reads refl e
