-- What is found of the sessions in one trace and then in the next is found in both, one behind the other.
use Rattle.std.proofs.Common.{◌≡◌, ℕ, ◌+◌, ◌==◌, ◌<◌, Bool, true, false, take, List, [], ◌∷◌, ◌++◌, refl, sym, ap, ◌∙◌, subst, append_assoc, length, map, arith, inl, inr}
use Rattle.std.specs.Prelude.{if◌then◌else◌, ◌&&◌, slice_index_or, slice_set, replicate}
use Rattle.std.specs.List.{list_all, list_any}
use Rattle.std.proofs.lemmas.Bool.{cases_Bool, cases_eq}
use Rattle.std.proofs.lemmas.Bool.Decides.{nat_tests}
use Rattle.std.proofs.lemmas.List.{map-append, append-nil, length-set, get_or-set_same, get_or-set_other, get_or_default, get_or_read_under, take_more, length-take-le, get_or-replicate}
use Rattle.std.proofs.lemmas.List.Elements.{filter-append, All-map}
use Rattle.std.proofs.lemmas.List.Folds.{list_all-append}
use Rattle.pps_types.specs.Merge.{Session, entries_of, are_distinct}
use Rattle.pps_types.specs.Runs.{Answered, events_of}
use Rattle.pps_lock.specs.declared.book.Receipt.{Receipt}
use Rattle.pps_lock.specs.Trace.{Piece, receipt}
use Rattle.pps_dispatch.specs.declared.history.Found.{Found}
use Rattle.pps_dispatch.specs.Sessions.{Conversation, asked, is_known}
use Rattle.pps_dispatch.specs.History.{joined, asked_by, named_in, named_for, AreNamed, Merges}
use Rattle.pps_dispatch.specs.Search.{not_begun, Left, left_of, left_at, Finds, FindsAll, FindsEach, FindsSegments, are_known, AreFound}
use Rattle.pps_dispatch.proofs.Connections.{list_any-map, known_at, same_place}

-- ---- what one connection has of two traces

asked_by-append : (c : ℕ) (xs ys : List Answered) → asked_by c (xs ++ ys) ≡ asked_by c xs ++ asked_by c ys
asked_by-append c xs ys = ap events_of (filter-append (λ (x : Answered). x.event.conn == c) xs ys) ∙ map-append (λ (x : Answered). x.event) (entries_of c xs) (entries_of c ys)

named_cons : (c number i : ℕ) (x : Answered) (xs : List Answered) (rest : List Receipt) → named_in c number (i + 1) xs ≡ rest
    → named_in c number i (x ∷ xs) ≡ (if x.event.conn == c then receipt number i ∷ rest else rest)
named_cons c number i x xs rest is = ap (λ (l : List Receipt). if x.event.conn == c then receipt number i ∷ l else l) is

named_in-append : (c number i : ℕ) (xs ys : List Answered) → named_in c number i (xs ++ ys) ≡ named_in c number i xs ++ named_in c number (i + length xs) ys
named_in-append c number i [] ys = ap (λ j. named_in c number j ys) (omega arith)
named_in-append c number i (x ∷ xs) ys =
    let rest = named_in-append c number (i + 1) xs ys in
    let at : (i + 1) + length xs ≡ i + length (x ∷ xs) = omega arith in
    let tail = rest ∙ ap (λ j. named_in c number (i + 1) xs ++ named_in c number j ys) at in
    elim (cases_Bool (x.event.conn == c)) [
      | inl own ↦ rw own (ap (λ (l : List Receipt). receipt number i ∷ l) tail)
      | inr other ↦ rw other tail
    ]

joined-append : (ps qs : List Piece) → joined (ps ++ qs) ≡ joined ps ++ joined qs
joined-append [] qs = refl
joined-append (p ∷ ps) qs = ap (λ (l : List Answered). p.entries ++ l) (joined-append ps qs) ∙ sym (append_assoc p.entries (joined ps) (joined qs))

named_for-append : (c : ℕ) (ps qs : List Piece) → named_for c (ps ++ qs) ≡ named_for c ps ++ named_for c qs
named_for-append c [] qs = refl
named_for-append c (p ∷ ps) qs = ap (λ (l : List Receipt). named_in c p.number 0 p.entries ++ l) (named_for-append c ps qs) ∙ sym (append_assoc (named_in c p.number 0 p.entries) (named_for c ps) (named_for c qs))

-- two parts of a list, of which the first comes in two parts as well
behind : {X : Type 0} (a b x whole first second : List X) → whole ≡ first ++ second → a ≡ first ++ b → b ≡ second ++ x → a ≡ whole ++ x
behind a b x whole first second parts is next = is ∙ ap (λ l. first ++ l) next ∙ sym (append_assoc first second x) ∙ ap (λ l. l ++ x) (sym parts)

-- ---- of one session

finds-append : (c number i j : ℕ) (xs ys : List Answered) (a b x : Left) → j ≡ i + length xs → Finds c number i xs a b → Finds c number j ys b x → Finds c number i (xs ++ ys) a x
finds-append c number i j xs ys a b x is first second = record {
  events = behind _ _ _ _ _ _ (asked_by-append c xs ys) first.events second.events;
  receipts = behind _ _ _ _ _ _ (named_in-append c number i xs ys ∙ ap (λ k. named_in c number i xs ++ named_in c number k ys) (sym is)) first.receipts second.receipts;
}

finds_all-segment : (c : ℕ) (ps : List Piece) (p : Piece) (a b x : Left) → FindsAll c ps a b → Finds c p.number 0 p.entries b x → FindsAll c (ps ++ p ∷ []) a x
finds_all-segment c ps p a b x first second =
    let one : joined (p ∷ []) ≡ p.entries = append-nil p.entries in
    let names : named_for c (p ∷ []) ≡ named_in c p.number 0 p.entries = append-nil (named_in c p.number 0 p.entries) in
    let whole = joined-append ps (p ∷ []) ∙ ap (λ (l : List Answered). joined ps ++ l) one in record {
      events = behind _ _ _ _ _ _ (ap (asked_by c) whole ∙ asked_by-append c (joined ps) p.entries) first.events second.events;
      receipts = behind _ _ _ _ _ _ (named_for-append c ps (p ∷ []) ∙ ap (λ (l : List Receipt). named_for c ps ++ l) names) first.receipts second.receipts;
    }

-- one entry, of a session's connection
pub found_entry : (c number i : ℕ) (x : Answered) (a b : Left) → x.event.conn ≡ c → a.events ≡ x.event ∷ b.events → a.receipts ≡ receipt number i ∷ b.receipts
    → Finds c number i (x ∷ []) a b
found_entry c number i x a b own events receipts =
    let test : (x.event.conn == c) ≡ true = grind (arith, nat_tests, own) in record {
      events = rw test events;
      receipts = rw test receipts;
    }

-- of another connection
pub passed_entry : (c number i : ℕ) (x : Answered) (a : Left) → (x.event.conn ≡ c → ⊥) → Finds c number i (x ∷ []) a a
passed_entry c number i x a other =
    let test : (x.event.conn == c) ≡ false = grind (arith, nat_tests, other) in record { events = rw test refl; receipts = rw test refl }

both_true : {a b : Bool} → a ≡ true → b ≡ true → (a && b) ≡ true
both_true p q = rw p q

-- ---- of all sessions

pub no_entry : (asked answered : List Conversation) (found : List Found) (number : ℕ) → FindsEach asked answered found found number 0 []
no_entry asked answered found number = record { count = refl; known = refl; each = λ k d f lt. record { events = refl; receipts = refl } }

pub finds_each-append : (asked answered : List Conversation) (a b x : List Found) (number i j : ℕ) (xs ys : List Answered) → j ≡ i + length xs
    → FindsEach asked answered a b number i xs → FindsEach asked answered b x number j ys → FindsEach asked answered a x number i (xs ++ ys)
finds_each-append asked answered a b x number i j xs ys is first second = record {
  count = second.count ∙ first.count;
  known = list_all-append (λ (y : Answered). is_known asked y.event.conn) xs ys ∙ both_true first.known second.known;
  each = λ k d f lt. finds-append _ _ _ _ _ _ _ _ _ is (first.each k d f lt) (second.each k d f lt);
}

pub no_segment : (asked answered : List Conversation) (found : List Found) → FindsSegments asked answered found found []
no_segment asked answered found = record { count = refl; known = refl; each = λ k d f lt. record { events = refl; receipts = refl } }

pub finds_segments-one : (asked answered : List Conversation) (a b x : List Found) (ps : List Piece) (p : Piece)
    → FindsSegments asked answered a b ps → FindsEach asked answered b x p.number 0 p.entries → FindsSegments asked answered a x (ps ++ p ∷ [])
finds_segments-one asked answered a b x ps p first second =
    let whole = joined-append ps (p ∷ []) ∙ ap (λ (l : List Answered). joined ps ++ l) (append-nil p.entries) in record {
      count = second.count ∙ first.count;
      known = ap (are_known asked) whole ∙ list_all-append (λ (y : Answered). is_known asked y.event.conn) (joined ps) p.entries ∙ both_true first.known second.known;
      each = λ k d f lt. finds_all-segment _ _ _ _ _ _ (first.each k d f lt) (second.each k d f lt);
    }

-- one entry more of a segment, of which so many are found
pub finds_each-more : (asked answered : List Conversation) (a b x : List Found) (number i : ℕ) (xs ys : List Answered) (e : Answered) → ys ≡ xs → i < length ys → e ≡ slice_index_or ys i e
    → FindsEach asked answered a b number 0 (take i xs) → FindsEach asked answered b x number i (e ∷ []) → FindsEach asked answered a x number 0 (take (i + 1) xs)
finds_each-more asked answered a b x number i xs ys e same lt at first second =
    let within : i < length xs = subst (λ (l : List Answered). i < length l) same lt in
    let read : slice_index_or xs i e ≡ e = ap (λ (l : List Answered). slice_index_or l i e) (sym same) ∙ sym at in
    let parts : take (i + 1) xs ≡ take i xs ++ e ∷ [] = take_more xs i e within ∙ ap (λ (y : Answered). take i xs ++ y ∷ []) read in
    let count = length-take-le i xs (omega (arith, within)) in
    let place : i ≡ 0 + length (take i xs) = omega (arith, count) in
    subst (λ (l : List Answered). FindsEach asked answered a x number 0 l) (sym parts) (finds_each-append asked answered a b x number 0 i (take i xs) (e ∷ []) place first second)

-- one segment more
pub finds_segments-more : (asked answered : List Conversation) (a b x : List Found) (i : ℕ) (ps : List Piece) (p : Piece) → i < length ps → p ≡ slice_index_or ps i p
    → FindsSegments asked answered a b (take i ps) → FindsEach asked answered b x p.number 0 p.entries → FindsSegments asked answered a x (take (i + 1) ps)
finds_segments-more asked answered a b x i ps p lt at first second =
    let parts : take (i + 1) ps ≡ take i ps ++ p ∷ [] = take_more ps i p lt ∙ ap (λ (q : Piece). take i ps ++ q ∷ []) (sym at) in
    subst (λ (l : List Piece). FindsSegments asked answered a x l) (sym parts) (finds_segments-one asked answered a b x (take i ps) p first second)

nobody : Conversation
nobody = record { connection = 0; events = []; replies = []; receipts = [] }

-- the entry is that of the session at this place, and of no other
pub finds_each-entry : (asked answered : List Conversation) (before after : List Found) (number i j : ℕ) (s t : Conversation) (g next : Found) (x : Answered)
    → are_distinct (map (λ (s : Conversation). s.connection) asked) ≡ true → length answered ≡ length asked → length before ≡ length asked → j < length asked
    → s ≡ slice_index_or asked j s → t ≡ slice_index_or answered j t → ((d : Conversation) → (slice_index_or asked j d).connection ≡ x.event.conn)
    → after ≡ slice_set before j next → Finds x.event.conn number i (x ∷ []) (left_of s t (slice_index_or before j g)) (left_of s t next)
    → FindsEach asked answered before after number i (x ∷ [])
finds_each-entry asked answered before after number i j s t g next x distinct as_many count lt at_s at_t own is found = record {
  count = ap length is ∙ length-set before j next;
  known = both_true (known_at asked j nobody x.event.conn lt (own nobody)) refl;
  each = λ k d f below. elim (cases_eq k j) [
    | inl same ↦
        let now : slice_index_or after k f ≡ next = ap (λ (l : List Found). slice_index_or l k f) is ∙ ap (λ n. slice_index_or (slice_set before j next) n f) same ∙ get_or-set_same before j next f (omega (arith, lt, count)) in
        let asks : s ≡ slice_index_or asked k d = get_or_read_under asked j (length asked) s d at_s lt refl ∙ ap (λ n. slice_index_or asked n d) (sym same) in
        let answers : t ≡ slice_index_or answered k d = get_or_read_under answered j (length answered) t d at_t (omega (arith, lt, as_many)) refl ∙ ap (λ n. slice_index_or answered n d) (sym same) in
        let was : slice_index_or before j g ≡ slice_index_or before k f = get_or_default before j g f (omega (arith, lt, count)) ∙ ap (λ n. slice_index_or before n f) (sym same) in
        let c : x.event.conn ≡ (slice_index_or asked k d).connection = sym (ap (λ n. (slice_index_or asked n d).connection) same ∙ own d) in
        subst (λ (p : ℕ × Conversation × Conversation × Found × Found). Finds p.0 number i (x ∷ []) (left_of p.1 p.2 p.3) (left_of p.1 p.2 p.4)) (λ u. (c u, asks u, answers u, was u, sym now u)) found
    | inr other ↦
        let now : slice_index_or after k f ≡ slice_index_or before k f = ap (λ (l : List Found). slice_index_or l k f) is ∙ get_or-set_other before j k next f other in
        let none : (x.event.conn ≡ (slice_index_or asked k d).connection → ⊥) = λ e. other (same_place asked k j d d distinct below lt (sym e ∙ sym (own d))) in
        subst (λ (h : Found). Finds (slice_index_or asked k d).connection number i (x ∷ []) (left_at asked answered before k d f) (left_of (slice_index_or asked k d) (slice_index_or answered k d) h)) (sym now) (passed_entry _ number i x (left_at asked answered before k d f) none)
  ];
}

-- ---- at the end

-- all is found, and nothing is left
pub named_of : (asked answered : List Conversation) (before found : List Found) (ps : List Piece) → FindsSegments asked answered before found ps
    → before ≡ replicate (length asked) not_begun
    → length answered ≡ length asked → AreFound asked answered found (length asked) → AreNamed ps asked answered
named_of asked answered before found ps finds none count end = record {
  count = count;
  each = λ k d lt.
      let f = not_begun in
      let first = finds.each k d f lt in
      let begun : left_at asked answered before k d f ≡ left_of (slice_index_or asked k d) (slice_index_or answered k d) f = ap (left_of (slice_index_or asked k d) (slice_index_or answered k d)) (ap (λ (l : List Found). slice_index_or l k f) none ∙ get_or-replicate (length asked) k not_begun f lt) in
      let all = subst (λ (p : Left × Left). FindsAll (slice_index_or asked k d).connection ps p.0 p.1) (λ t. (begun t, end.nothing k d f lt t)) first in record {
        connection = end.connections k d lt;
        asked = sym (all.events ∙ append-nil (asked_by (slice_index_or asked k d).connection (joined ps)));
        receipts = all.receipts ∙ append-nil (named_for (slice_index_or asked k d).connection ps);
      };
}

known_asked : (sessions : List Conversation) (c : ℕ) → list_any (λ (s : Session). s.connection == c) (map asked sessions) ≡ is_known sessions c
known_asked sessions c = list_any-map asked (λ (s : Session). s.connection == c) sessions

known_all : (sessions : List Conversation) (xs : List Answered) → list_all (λ (x : Answered). list_any (λ (s : Session). s.connection == x.event.conn) (map asked sessions)) xs ≡ are_known sessions xs
known_all sessions [] = refl
known_all sessions (x ∷ xs) = ap (λ b. b && list_all (λ (x : Answered). list_any (λ (s : Session). s.connection == x.event.conn) (map asked sessions)) xs) (known_asked sessions x.event.conn)
    ∙ ap (λ b. is_known sessions x.event.conn && b) (known_all sessions xs)

pub merge_of : (sessions answered : List Conversation) (ps : List Piece) → are_known sessions (joined ps) ≡ true → AreNamed ps sessions answered → Merges sessions ps
merge_of sessions answered ps known named = record {
  known = known_all sessions (joined ps) ∙ known;
  each = All-map (λ (s : Session). asked_by s.connection (joined ps) ≡ s.events) asked sessions (λ k d lt. (named.each k d lt).asked);
}
