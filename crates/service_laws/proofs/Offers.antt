-- What one more record does to what a handle has seen, and what a read leaves.
use Rattle.std.proofs.Common.{◌≡◌, ℕ, ◌+◌, ◌≤◌, Bool, true, false, cond, not, ◌&&◌, ◌||◌, List, [], ◌∷◌, ◌++◌, length, length-append, drop, Option, Some, None, refl, sym, ap, ◌∙◌, arith}
use Rattle.std.specs.Prelude.{filter, nat_lt, is_some}
use Rattle.std.proofs.lemmas.Bool.Decides.{nat_tests}
use Rattle.std.proofs.lemmas.List.{drop-append-le, drop-drop}
use Rattle.std.proofs.lemmas.List.Elements.{filter-append}
use Rattle.pps_types.specs.Bytes.{is_empty}
use Rattle.pps_types.specs.History.{Entry}
use Rattle.pps_types.specs.Reading.{OpenHandle, Style, Full, Delta, Queue, style, reseen, visible, concerns, is_writer, is_object_kind, shown}
use Rattle.pps_types.specs.Rests.{Progress, News, Unread, Over, Owed, stand, unread, keeps, from_first, pushed, past, behind, seen_of, seen_with, over_limit, rest_of}
use Rattle.pps_types.specs.Plan.{offered, offer, left, caught_up, first_seen}
use Rattle.pps_types.specs.Machine.{IsWithin, shown_handle, passed, passed_with, first_cursor}
use Rattle.pps_types.proofs.Chains.{visible-keeps}
use Rattle.pps_types.proofs.Lists.{append-nil, from_first-push, past-from_first, filter-behind}

pub visible-reads : {S : Type 0} (h : OpenHandle S) (e : Entry) → visible h e ≡ true → h.reads ≡ true
visible-reads h e = by (concerns h e) h.reads (not (is_writer h.number e.record_of.writer) || (h.options.reflect && is_object_kind h.kind)) (is_some (shown h.kind h.number h.options.filter e.record_of.kind))
  where
    by : (a b c d : Bool) → (a && (b && c && d)) ≡ true → b ≡ true
    by a true c d v = refl
    by true false c d v = v
    by false false c d v = v

-- the rest after one more record
abbrev pub grown : {S : Type 0} → OpenHandle S → Entry → List Entry → List Entry
grown h e rest = cond (keeps h e) (pushed (visible h) e rest) rest

rest-push : {S : Type 0} (h : OpenHandle S) (e : Entry) (xs : List Entry) → rest_of h (xs ++ e ∷ []) ≡ grown h e (rest_of h xs)
rest-push h e xs = ap (from_first (visible h)) (filter-append (keeps h) xs (e ∷ [])) ∙ by (keeps h e)
  where
    by : (k : Bool) → from_first (visible h) (filter (keeps h) xs ++ cond k (e ∷ []) []) ≡ cond k (pushed (visible h) e (rest_of h xs)) (rest_of h xs)
    by true = from_first-push (visible h) (filter (keeps h) xs) e
    by false = ap (from_first (visible h)) (append-nil (filter (keeps h) xs))

-- a full handle: news was there, or is there by this record
is_empty-pushed : (test : Entry → Bool) (e : Entry) (rest : List Entry) → not (is_empty (pushed test e rest)) ≡ (not (is_empty rest) || test e)
is_empty-pushed test e [] = by (test e)
  where
    by : (v : Bool) → not (is_empty (cond v (e ∷ []) [])) ≡ v
    by true = refl
    by false = refl
is_empty-pushed test e (x ∷ xs) = refl

or-false : (b : Bool) → b ≡ (b || false)
or-false true = refl
or-false false = refl

full-grown : {S : Type 0} (h : OpenHandle S) (e : Entry) (rest : List Entry) → (h.reads && not (is_empty (grown h e rest))) ≡ ((h.reads && not (is_empty rest)) || visible h e)
full-grown h e rest = by h.reads (keeps h e) (visible h e) (visible-reads h e) (visible-keeps h e) (is_empty-pushed (visible h) e rest)
  where
    by : (r k v : Bool) → (v ≡ true → r ≡ true) → (v ≡ true → k ≡ true) → not (is_empty (pushed (visible h) e rest)) ≡ (not (is_empty rest) || v) → (r && not (is_empty (cond k (pushed (visible h) e rest) rest))) ≡ ((r && not (is_empty rest)) || v)
    by true true v f g p = p
    by true false true f g p = let e = g refl in cc
    by true false false f g p = or-false (not (is_empty rest))
    by false k true f g p = f refl
    by false k false f g p = refl

-- a debt past the limit stays there
filter-pushed : (test : Entry → Bool) (e : Entry) (rest : List Entry) → length (filter test rest) ≤ length (filter test (pushed test e rest))
filter-pushed test e [] = omega arith
filter-pushed test e (x ∷ xs) = omega (arith, ap length (filter-append test (x ∷ xs) (e ∷ [])), length-append (filter test (x ∷ xs)) (filter test (e ∷ [])))

lt-more : (a b c : ℕ) → b ≤ c → nat_lt a b ≡ true → nat_lt a c ≡ true
lt-more a b c le lt = grind (arith, nat_tests)

over-grown : {S : Type 0} (h : OpenHandle S) (e : Entry) (rest : List Entry) → over_limit h rest ≡ true → over_limit h (grown h e rest) ≡ true
over-grown h e rest over = by (keeps h e)
  where
    by : (k : Bool) → over_limit h (cond k (pushed (visible h) e rest) rest) ≡ true
    by true = lt-more h.limit (length (filter (visible h) rest)) (length (filter (visible h) (pushed (visible h) e rest))) (filter-pushed (visible h) e rest) over
    by false = over

seen_of-grown : {S : Type 0} (h : OpenHandle S) (e : Entry) (rest : List Entry) → seen_of h (grown h e rest) ≡ offered h e (seen_of h rest)
seen_of-grown h e rest = by (style h.kind) refl
  where
    delta : style h.kind ≡ Delta → (o : Bool) → over_limit h rest ≡ o → stand Delta h.reads (over_limit h (grown h e rest)) (grown h e rest) ≡ offered h e (stand Delta h.reads o rest)
    delta is true over = ap (λ o. cond o Over (Owed (grown h e rest))) (over-grown h e rest over)
    delta is false over = ap (λ s. stand s h.reads (over_limit h (grown h e rest)) (grown h e rest)) (sym is)

    by : (s : Style) → style h.kind ≡ s → stand s h.reads (over_limit h (grown h e rest)) (grown h e rest) ≡ offered h e (stand s h.reads (over_limit h rest) rest)
    by Full is = ap News (full-grown h e rest)
    by Delta is = delta is (over_limit h rest) refl
    by Queue is = ap (λ s. stand s h.reads (over_limit h (grown h e rest)) (grown h e rest)) (sym is)

unread-offered : {S : Type 0} (h : OpenHandle S) (e : Entry) (s : Style) → unread s h.reads ≡ offered h e (unread s h.reads)
unread-offered h e Full = by h.reads (visible h e) (visible-reads h e)
  where
    by : (r v : Bool) → (v ≡ true → r ≡ true) → News r ≡ News (r || v)
    by true v f = refl
    by false true f = ap News (f refl)
    by false false f = refl
unread-offered h e Delta = refl
unread-offered h e Queue = refl

pub seen_with-push : {S : Type 0} (h : OpenHandle S) (H : List Entry) (e : Entry) (cursor : Option ℕ) → IsWithin (length H) cursor → seen_with h (H ++ e ∷ []) cursor ≡ offered h e (seen_with h H cursor)
seen_with-push h H e None within = unread-offered h e (style h.kind)
seen_with-push h H e (Some cursor) within =
    ap (λ xs. seen_of h (rest_of h xs)) (drop-append-le cursor H (e ∷ []) within)
    ∙ ap (seen_of h) (rest-push h e (drop cursor H))
    ∙ seen_of-grown h e (rest_of h (drop cursor H))

-- one more record at the end of the history
pub shown_handle-push : (H : List Entry) (e : Entry) (h : OpenHandle (Option ℕ)) → IsWithin (length H) h.seen → shown_handle (H ++ e ∷ []) h ≡ offer e (shown_handle H h)
shown_handle-push H e h within = ap (λ s. record (shown_handle H h) { seen = s }) (seen_with-push h H e h.seen within)

drop-length : (xs : List Entry) → drop (length xs) xs ≡ []
drop-length [] = refl
drop-length (x ∷ xs) = drop-length xs

-- a read of everything
pub shown_handle-caught_up : (H : List Entry) (h : OpenHandle (Option ℕ)) → shown_handle H (reseen (λ g. Some (length H)) h) ≡ reseen caught_up (shown_handle H h)
shown_handle-caught_up H h = ap (λ xs. record (shown_handle H h) { seen = seen_of h (rest_of h xs) }) (drop-length H)

-- a read of blocks
stand-owed : (s : Style) (reads over : Bool) (rest owed : List Entry) → stand s reads over rest ≡ Owed owed → rest ≡ owed
stand-owed Full reads over rest owed e = absurd cc
stand-owed Delta reads true rest owed e = absurd cc
stand-owed Delta reads false rest owed e = cc
stand-owed Queue reads over rest owed e = cc

drop-more : (a b : ℕ) (xs : List Entry) → drop (a + b) xs ≡ drop b (drop a xs)
drop-more a b xs = sym (drop-drop b a xs)

rest-passed : {S : Type 0} (h : OpenHandle S) (n : ℕ) (xs : List Entry) → rest_of h (drop (behind (visible h) n xs) xs) ≡ from_first (visible h) (past (visible h) n (rest_of h xs))
rest-passed h n xs = ap (from_first (visible h)) (filter-behind (visible h) (keeps h) (visible-keeps h) n xs) ∙ sym (past-from_first (visible h) n (filter (keeps h) xs))

passed-owed : (h : OpenHandle (Option ℕ)) (H : List Entry) (n : ℕ) (seen : Progress) (cursor : Option ℕ) → seen_with h H cursor ≡ seen → seen_with h H (passed_with h H n seen cursor) ≡ left h n seen
passed-owed h H n (News b) cursor e = e
passed-owed h H n Unread cursor e = e
passed-owed h H n Over cursor e = e
passed-owed h H n (Owed rest) None e = absurd (unread-not (style h.kind) h.reads rest e)
  where
    unread-not : (s : Style) (reads : Bool) (rest : List Entry) → unread s reads ≡ Owed rest → ⊥
    unread-not Full reads rest e = cc
    unread-not Delta reads rest e = cc
    unread-not Queue reads rest e = cc
passed-owed h H n (Owed rest) (Some cursor) e =
    ap (λ xs. seen_of h (rest_of h xs)) (drop-more cursor (behind (visible h) n (drop cursor H)) H)
    ∙ ap (seen_of h) (rest-passed h n (drop cursor H))
    ∙ ap (λ r. seen_of h (from_first (visible h) (past (visible h) n r))) (stand-owed (style h.kind) h.reads (over_limit h (rest_of h (drop cursor H))) (rest_of h (drop cursor H)) rest e)

pub shown_handle-passed : (H : List Entry) (n : ℕ) (h : OpenHandle (Option ℕ)) → shown_handle H (reseen (λ g. passed g H n g.seen) h) ≡ reseen (λ g. left g n g.seen) (shown_handle H h)
shown_handle-passed H n h = ap (λ s. record (shown_handle H h) { seen = s }) (passed-owed h H n (seen_with h H h.seen) h.seen refl)

-- a new handle
pub shown_handle-first : (H : List Entry) (h : OpenHandle (Unit {0})) → shown_handle H (reseen (λ g. first_cursor (style g.kind) (length H)) h) ≡ reseen (λ g. first_seen g (style g.kind)) h
shown_handle-first H h = ap (λ s. record (reseen (λ g. first_seen g (style g.kind)) h) { seen = s }) (by (style h.kind) refl)
  where
    by : (s : Style) → style h.kind ≡ s → seen_with h H (first_cursor s (length H)) ≡ first_seen h s
    by Full is = ap (λ s. unread s h.reads) is
    by Delta is = ap (λ s. unread s h.reads) is
    by Queue is = ap (λ xs. seen_of h (rest_of h xs)) (drop-length H)
