-- What is kept is the longest rest.
use Rattle.std.proofs.Common.{◌≡◌, ℕ, zero, suc, ◌+◌, ◌-◌, ◌≤◌, ◌<◌, Bool, true, false, cond, not, ◌&&◌, eqb, List, [], ◌∷◌, ◌++◌, length, map, take, drop, Option, Some, None, refl, sym, ap, ◌∙◌, arith, ⊎_elim}
use Rattle.std.specs.Prelude.{filter, find, nat_lt, min}
use Rattle.std.proofs.lemmas.Bool.{cases_lt}
use Rattle.std.proofs.lemmas.List.{drop-drop, take-append-drop}
use Rattle.std.proofs.lemmas.List.Elements.{filter-append}
use Rattle.std.specs.Option.{option_map_or}
use Rattle.pps_types.specs.History.{Entry}
use Rattle.pps_types.specs.Reading.{is_delta_style, OpenHandle, Style, Full, Delta, Queue, style, visible}
use Rattle.pps_types.specs.Rests.{stand, unread, keeps, from_first, seen_with, rest_of}
use Rattle.pps_types.specs.Machine.{Machine, content_of, shown_handle}
use Rattle.pps_types.specs.Owed.{owed, is_past_limit, in_chain, first_place, first_owed, older, is_of, oldest, records_from, kept_records, kept_of, rest_seen, longest, longer, longest_rest, kept_records_seen}
use Rattle.pps_types.proofs.Lists.{append-nil}
use Rattle.pps_types.proofs.Chains.{visible-keeps, IsOf, apart, keeps-chain, longer-first, longer-second, longer-none, longest-length}
use Rattle.service_laws.proofs.Bridge.{rest-owed}

-- ---- places

module _ (test keep : Entry → Bool) where
  filter-first : ((x : Entry) → test x ≡ true → keep x ≡ true) → (xs : List Entry) → filter keep (from_first test xs) ≡ from_first test (filter keep xs)
  filter-first kept [] = refl
  filter-first kept (x ∷ xs) = by (filter-first kept xs) (test x) refl (keep x) refl
    where
      by : filter keep (from_first test xs) ≡ from_first test (filter keep xs) → (b : Bool) → test x ≡ b → (k : Bool) → keep x ≡ k → filter keep (cond b (x ∷ xs) (from_first test xs)) ≡ from_first test (cond k (x ∷ filter keep xs) (filter keep xs))
      by rec true e true k = ap (λ c. cond c (x ∷ filter keep xs) (filter keep xs)) k ∙ sym (ap (λ b. cond b (x ∷ filter keep xs) (from_first test (filter keep xs))) e)
      by rec true e false k = absurd (let h = kept x e in cc)
      by rec false e true k = rec ∙ sym (ap (λ b. cond b (x ∷ filter keep xs) (from_first test (filter keep xs))) e)
      by rec false e false k = rec

place-drop : (test : Entry → Bool) (H : List Entry) (n : ℕ) (xs : List Entry) → drop n H ≡ xs → option_map_or (λ p. drop p H) (first_place test n xs) [] ≡ from_first test xs
place-drop test H n [] e = refl
place-drop test H n (x ∷ xs) e =
    elim (test x) as (λ b. option_map_or (λ p. drop p H) (cond b (Some n) (first_place test (n + 1) xs)) [] ≡ cond b (x ∷ xs) (from_first test xs))
    [ true ↦ e | false ↦ place-drop test H (n + 1) xs (sym (drop-drop 1 n H) ∙ ap (drop 1) e) ]

records-place : (d : Bool) (t : ℕ) (H : List Entry) (o : Option ℕ) → records_from d t H o ≡ filter (in_chain d t) (option_map_or (λ p. drop p H) o [])
records-place d t H None = refl
records-place d t H (Some p) = refl

pub filter-agree : (p q : Entry → Bool) → ((x : Entry) → p x ≡ q x) → (xs : List Entry) → filter p xs ≡ filter q xs
filter-agree p q same [] = refl
filter-agree p q same (x ∷ xs) = λ i. cond (same x i) (x ∷ filter-agree p q same xs i) (filter-agree p q same xs i)

-- one handle: what is kept for it
kept-one : (d : Bool) (t : ℕ) (H : List Entry) (h : OpenHandle (Option ℕ)) → IsOf d t h → (cursor : Option ℕ) → records_from d t H (cond (not (is_past_limit h (owed h H cursor))) (first_owed h H cursor) None) ≡ rest_seen (seen_with h H cursor)
kept-one d t H h of None = by (not (is_past_limit h [])) (style h.kind)
  where
    by : (b : Bool) (s : Style) → records_from d t H (cond {A = Option ℕ} b None None) ≡ rest_seen (unread s h.reads)
    by true Full = refl
    by true Delta = refl
    by true Queue = refl
    by false Full = refl
    by false Delta = refl
    by false Queue = refl
kept-one d t H h of (Some cursor) =
    (λ i. records_from d t H (cond (not (is_delta_style (delta-style (style h.kind) of.delta i) && nat_lt h.limit (length (filter (visible h) (drop cursor H))))) (first_place (visible h) cursor (drop cursor H)) None))
    ∙ by (nat_lt h.limit (length (filter (visible h) (drop cursor H))))
    ∙ sym (λ i. rest_seen (stand (delta-style (style h.kind) of.delta i) h.reads (nat_lt h.limit (length (rest-owed h (drop cursor H) i))) (rest_of h (drop cursor H))))
  where
    delta-style : (s : Style) → is_delta_style s ≡ true → s ≡ Delta
    delta-style Delta e = refl
    delta-style Full e = absurd cc
    delta-style Queue e = absurd cc

    records : records_from d t H (first_place (visible h) cursor (drop cursor H)) ≡ rest_of h (drop cursor H)
    records =
        records-place d t H (first_place (visible h) cursor (drop cursor H))
        ∙ ap (filter (in_chain d t)) (place-drop (visible h) H cursor (drop cursor H) refl)
        ∙ sym (filter-agree (keeps h) (in_chain d t) (keeps-chain d t h of) (from_first (visible h) (drop cursor H)))
        ∙ filter-first (visible h) (keeps h) (visible-keeps h) (drop cursor H)

    by : (o : Bool) → records_from d t H (cond (not (true && o)) (first_place (visible h) cursor (drop cursor H)) None) ≡ rest_seen (stand Delta h.reads o (rest_of h (drop cursor H)))
    by true = refl
    by false = records

-- ---- the oldest

filter-drop : (test : Entry → Bool) (k : ℕ) (xs : List Entry) → length (filter test (drop k xs)) ≤ length (filter test xs)
filter-drop test zero xs = omega arith
filter-drop test (suc k) [] = omega arith
filter-drop test (suc k) (x ∷ xs) =
    elim (test x) as (λ b. length (filter test (drop k xs)) ≤ length (cond b (x ∷ filter test xs) (filter test xs)))
    [ true ↦ omega (arith, filter-drop test k xs) | false ↦ filter-drop test k xs ]

-- what is dropped and takes nothing away had nothing that passes
filter-drop-all : (test : Entry → Bool) (k : ℕ) (xs : List Entry) → length (filter test xs) ≤ length (filter test (drop k xs)) → filter test (drop k xs) ≡ filter test xs
filter-drop-all test zero xs le = refl
filter-drop-all test (suc k) [] le = refl
filter-drop-all test (suc k) (x ∷ xs) le = by (filter-drop test k xs) (filter-drop-all test k xs) (test x) le
  where
    by : length (filter test (drop k xs)) ≤ length (filter test xs) → (length (filter test xs) ≤ length (filter test (drop k xs)) → filter test (drop k xs) ≡ filter test xs)
        → (b : Bool) → length (cond b (x ∷ filter test xs) (filter test xs)) ≤ length (filter test (drop k xs)) → filter test (drop k xs) ≡ cond b (x ∷ filter test xs) (filter test xs)
    by less rec true le = absurd (omega arith)
    by less rec false le = rec le

-- the records from a later place on are an end of those from an earlier one
records-end : (d : Bool) (t : ℕ) (H : List Entry) (a b : ℕ) → a ≤ b → records_from d t H (Some b) ≡ filter (in_chain d t) (drop (b - a) (drop a H))
records-end d t H a b le = ap (filter (in_chain d t)) (ap (λ n. drop n H) (let e : b ≡ a + (b - a) = omega arith in e) ∙ sym (drop-drop (b - a) a H))

records-less : (d : Bool) (t : ℕ) (H : List Entry) (a b : ℕ) → a ≤ b → length (records_from d t H (Some b)) ≤ length (records_from d t H (Some a))
records-less d t H a b le = omega (arith, ap length (records-end d t H a b le), filter-drop (in_chain d t) (b - a) (drop a H))

records-same : (d : Bool) (t : ℕ) (H : List Entry) (a b : ℕ) → a ≤ b → length (records_from d t H (Some a)) ≤ length (records_from d t H (Some b)) → records_from d t H (Some b) ≡ records_from d t H (Some a)
records-same d t H a b le all = let e = records-end d t H a b le in e ∙ filter-drop-all (in_chain d t) (b - a) (drop a H) (omega (arith, ap length e))

records-older : (d : Bool) (t : ℕ) (H : List Entry) (a b : Option ℕ) → records_from d t H (older a b) ≡ longer (records_from d t H a) (records_from d t H b)
records-older d t H None b = sym (longer-none (records_from d t H b))
records-older d t H (Some a) None = sym (longer-first (records_from d t H (Some a)) [] (omega arith))
records-older d t H (Some a) (Some b) = ⊎_elim first second (cases_lt a b)
  where
    first : a < b → records_from d t H (Some (min a b)) ≡ longer (records_from d t H (Some a)) (records_from d t H (Some b))
    first lt =
        ap (λ n. records_from d t H (Some n)) (let e : min a b ≡ a = omega arith in e)
        ∙ sym (longer-first (records_from d t H (Some a)) (records_from d t H (Some b)) (records-less d t H a b (omega arith)))

    second : b ≤ a → records_from d t H (Some (min a b)) ≡ longer (records_from d t H (Some a)) (records_from d t H (Some b))
    second le =
        ap (λ n. records_from d t H (Some n)) (let e : min a b ≡ b = omega arith in e)
        ∙ ⊎_elim
        (λ lt. sym (longer-second (records_from d t H (Some a)) (records_from d t H (Some b)) lt))
        (λ all. sym (records-same d t H b a le all) ∙ sym (longer-first (records_from d t H (Some a)) (records_from d t H (Some b)) all))
        (cases_lt (length (records_from d t H (Some a))) (length (records_from d t H (Some b))))

-- what is kept
kept-all : (d : Bool) (t : ℕ) (H : List Entry) (hs : List (OpenHandle (Option ℕ))) → records_from d t H (oldest d t H hs) ≡ longest_rest d t (map (shown_handle H) hs)
kept-all d t H [] = refl
kept-all d t H (h ∷ hs) =
    records-older d t H (cond (is_of d t h && not (is_past_limit h (owed h H h.seen))) (first_owed h H h.seen) None) (oldest d t H hs)
    ∙ (λ i. longer (one (is_of d t h) refl i) (kept-all d t H hs i))
  where
    one : (b : Bool) → is_of d t h ≡ b → records_from d t H (cond (b && not (is_past_limit h (owed h H h.seen))) (first_owed h H h.seen) None) ≡ cond b (rest_seen (seen_with h H h.seen)) []
    one true e = kept-one d t H h (apart d t h e) h.seen
    one false e = refl

pub records-shown : (m : Machine) (directory : Bool) (target : ℕ) → kept_records_seen (content_of m) directory target ≡ kept_records m directory target
records-shown m directory target = sym (kept-all directory target m.history m.handles)

pub kept-shown : (m : Machine) (directory : Bool) (target : ℕ) → kept_of m directory target ≡ longest directory target (content_of m).handles
kept-shown m directory target = sym (ap length (records-shown m directory target)) ∙ longest-length directory target (content_of m).handles

-- ---- all that is owed is kept

filter-first-all : (test : Entry → Bool) (xs : List Entry) → filter test (from_first test xs) ≡ filter test xs
filter-first-all test [] = refl
filter-first-all test (x ∷ xs) = by (test x) refl (filter-first-all test xs)
  where
    by : (b : Bool) → test x ≡ b → filter test (from_first test xs) ≡ filter test xs → filter test (cond b (x ∷ xs) (from_first test xs)) ≡ cond b (x ∷ filter test xs) (filter test xs)
    by true e rec = ap (λ b. cond b (x ∷ filter test xs) (filter test xs)) e
    by false e rec = rec

filter-both : (test keep : Entry → Bool) → ((x : Entry) → test x ≡ true → keep x ≡ true) → (xs : List Entry) → filter test (filter keep xs) ≡ filter test xs
filter-both test keep kept [] = refl
filter-both test keep kept (x ∷ xs) = by (filter-both test keep kept xs) (test x) refl (keep x) refl
  where
    by : filter test (filter keep xs) ≡ filter test xs → (b : Bool) → test x ≡ b → (k : Bool) → keep x ≡ k → filter test (cond k (x ∷ filter keep xs) (filter keep xs)) ≡ cond b (x ∷ filter test xs) (filter test xs)
    by rec true e true k = ap (λ b. cond b (x ∷ filter test (filter keep xs)) (filter test (filter keep xs))) e ∙ ap (λ ys. x ∷ ys) rec
    by rec true e false k = absurd (let h = kept x e in cc)
    by rec false e true k = ap (λ b. cond b (x ∷ filter test (filter keep xs)) (filter test (filter keep xs))) e ∙ rec
    by rec false e false k = rec

-- a place that is no later than another
abbrev IsUpTo : Option ℕ → ℕ → Type 0
IsUpTo None q = ⊥
IsUpTo (Some p) q = p ≤ q

older-first : (a : Option ℕ) (b : Option ℕ) (q : ℕ) → a ≡ Some q → IsUpTo (older a b) q
older-first None b q e = absurd (let h = e in cc)
older-first (Some a) None q e = let is : a ≡ q = cc in omega arith
older-first (Some a) (Some b) q e = let is : a ≡ q = cc in omega arith

older-second : (a : Option ℕ) (b : Option ℕ) (q : ℕ) → IsUpTo b q → IsUpTo (older a b) q
older-second None b q le = le
older-second (Some a) None q le = absurd le
older-second (Some a) (Some b) q le = omega arith

oldest-up-to : (d : Bool) (t : ℕ) (H : List Entry) (number : ℕ) (h : OpenHandle (Option ℕ)) (q : ℕ) → is_of d t h ≡ true → is_past_limit h (owed h H h.seen) ≡ false → first_owed h H h.seen ≡ Some q
    → (hs : List (OpenHandle (Option ℕ))) → find (λ h. eqb h.number number) hs ≡ Some h → IsUpTo (oldest d t H hs) q
oldest-up-to d t H number h q of over first [] found = absurd (let e = found in cc)
oldest-up-to d t H number h q of over first (x ∷ hs) found = by (oldest-up-to d t H number h q of over first hs) (eqb x.number number) found
  where
    place : OpenHandle (Option ℕ) → Option ℕ
    place x = cond (is_of d t x && not (is_past_limit x (owed x H x.seen))) (first_owed x H x.seen) None

    own : place h ≡ Some q
    own = (λ i. cond (of i && not (over i)) (first_owed h H h.seen) None) ∙ first

    by : (find (λ h. eqb h.number number) hs ≡ Some h → IsUpTo (oldest d t H hs) q) → (b : Bool) → cond b (Some x) (find (λ h. eqb h.number number) hs) ≡ Some h → IsUpTo (older (place x) (oldest d t H hs)) q
    by rec true e = let is : x ≡ h = cc in older-first (place x) (oldest d t H hs) q (ap place is ∙ own)
    by rec false e = older-second (place x) (oldest d t H hs) q (rec e)

pub owed-kept : (m : Machine) (d : Bool) (t number : ℕ) (h : OpenHandle (Option ℕ)) → find (λ h. eqb h.number number) m.handles ≡ Some h → is_of d t h ≡ true → is_past_limit h (owed h m.history h.seen) ≡ false
    → (read : List Entry) × (filter (visible h) (kept_records m d t) ≡ read ++ owed h m.history h.seen)
owed-kept m d t number h found of over = go h.seen refl (first_owed h m.history h.seen) refl
  where
    seen-chained : (e : Entry) → visible h e ≡ true → in_chain d t e ≡ true
    seen-chained e sees = sym (keeps-chain d t h (apart d t h of) e) ∙ visible-keeps h e sees

    all : (n : ℕ) → filter (visible h) (records_from d t m.history (Some n)) ≡ filter (visible h) (drop n m.history)
    all n = filter-both (visible h) (in_chain d t) seen-chained (drop n m.history)

    from : (p q : ℕ) → p ≤ q → (read : List Entry) × (filter (visible h) (records_from d t m.history (Some p)) ≡ read ++ filter (visible h) (drop q m.history))
    from p q le = (
      filter (visible h) (take (q - p) (drop p m.history)),
      all p ∙ ap (filter (visible h)) (sym (take-append-drop (q - p) (drop p m.history)))
          ∙ filter-append (visible h) (take (q - p) (drop p m.history)) (drop (q - p) (drop p m.history))
          ∙ ap (λ xs. filter (visible h) (take (q - p) (drop p m.history)) ++ filter (visible h) xs) (drop-drop (q - p) p m.history ∙ ap (λ n. drop n m.history) (let e : p + (q - p) ≡ q = omega arith in e)),
    )

    up-to : (o : Option ℕ) (q : ℕ) → IsUpTo o q → (read : List Entry) × (filter (visible h) (records_from d t m.history o) ≡ read ++ filter (visible h) (drop q m.history))
    up-to None q le = absurd le
    up-to (Some p) q le = from p q le

    -- what is owed is what is seen from the place of its first record on
    owed-from : (cursor : ℕ) (o : Option ℕ) → first_owed h m.history (Some cursor) ≡ o → owed h m.history (Some cursor) ≡ filter (visible h) (option_map_or (λ p. drop p m.history) o [])
    owed-from cursor o e = sym (filter-first-all (visible h) (drop cursor m.history)) ∙ ap (filter (visible h)) (sym (place-drop (visible h) m.history cursor (drop cursor m.history) refl) ∙ ap (λ o. option_map_or (λ p. drop p m.history) o []) e)

    none : (xs : List Entry) → xs ≡ [] → (read : List Entry) × (filter (visible h) (kept_records m d t) ≡ read ++ xs)
    none xs e = (filter (visible h) (kept_records m d t), sym (append-nil (filter (visible h) (kept_records m d t))) ∙ ap (λ ys. filter (visible h) (kept_records m d t) ++ ys) (sym e))

    go : (s : Option ℕ) → h.seen ≡ s → (o : Option ℕ) → first_owed h m.history h.seen ≡ o → (read : List Entry) × (filter (visible h) (kept_records m d t) ≡ read ++ owed h m.history h.seen)
    go None is o e = none (owed h m.history h.seen) (ap (owed h m.history) is)
    go (Some cursor) is None e = none (owed h m.history h.seen) (ap (owed h m.history) is ∙ owed-from cursor None (ap (first_owed h m.history) (sym is) ∙ e))
    go (Some cursor) is (Some q) e =
        let kept = up-to (oldest d t m.history m.handles) q (oldest-up-to d t m.history number h q of over e m.handles found) in
        (kept.0, kept.1 ∙ ap (λ xs. kept.0 ++ xs) (sym (ap (owed h m.history) is ∙ owed-from cursor (Some q) (ap (first_owed h m.history) (sym is) ∙ e))))
