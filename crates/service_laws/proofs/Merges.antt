-- Merges grow with each entry.
use Rattle.std.proofs.Common.{◌≡◌, ℕ, Bool, true, false, cond, ◌&&◌, ◌||◌, eqb, eqb-true, List, [], ◌∷◌, ◌++◌, map, refl, sym, ap, ◌∙◌, arith}
use Rattle.std.specs.Prelude.{All}
use Rattle.std.specs.List.{list_any, list_all}
use Rattle.std.proofs.lemmas.Bool.Decides.{nat_tests}
use Rattle.std.proofs.lemmas.List.{map-append}
use Rattle.std.proofs.lemmas.List.Elements.{filter-append, All-nil, All-cons, All-push, All-map, All-weaker}
use Rattle.std.proofs.lemmas.List.Folds.{list_any-append, list_all-append}
use Rattle.pps_types.specs.declared.event.Event.{Event}
use Rattle.pps_types.specs.Runs.{Answered, events_of}
use Rattle.pps_types.specs.Merge.{Session, IsMerge, entries_of, with_event}
use Rattle.service_laws.specs.RunLaws.{MergesGrow}
use Rattle.pps_types.proofs.Lists.{append-nil}
use Rattle.service_laws.proofs.Finds.{and-both}

eqb-turned : (a b : ℕ) → eqb a b ≡ eqb b a
eqb-turned a b = grind (arith, nat_tests)

-- a session's events are its entries'
abbrev IsWhole : List Answered → Session → Type 0
IsWhole trace s = events_of (entries_of s.connection trace) ≡ s.events

-- ---- before anything is sent

none-sent : (connections : List ℕ) → All (IsWhole []) (map (λ n. record { connection = n; events = [] }) connections)
none-sent [] = All-nil (IsWhole [])
none-sent (n ∷ ns) = All-cons (IsWhole []) (record { connection = n; events = [] }) (map (λ n. record { connection = n; events = [] }) ns) refl (none-sent ns)

-- ---- one more entry

same-number : (e : Event) (s : Session) → (with_event e s).connection ≡ s.connection
same-number e s = elim (eqb s.connection e.conn) as (λ b. (cond b (record s { events = s.events ++ e ∷ [] }) s).connection ≡ s.connection) [ true ↦ refl | false ↦ refl ]

same-numbers : (e : Event) (sessions : List Session) → map (λ s. s.connection) (map (with_event e) sessions) ≡ map (λ s. s.connection) sessions
same-numbers e [] = refl
same-numbers e (s ∷ sessions) = λ i. same-number e s i ∷ same-numbers e sessions i

any-same : (e : Event) (n : ℕ) (sessions : List Session) → list_any (λ s. eqb s.connection n) (map (with_event e) sessions) ≡ list_any (λ s. eqb s.connection n) sessions
any-same e n [] = refl
any-same e n (s ∷ sessions) = λ i. eqb (same-number e s i) n || any-same e n sessions i

-- the events of one more entry, of the session's connection or another's
whole-more : (trace : List Answered) (x : Answered) (s : Session) → IsWhole trace s → IsWhole (trace ++ x ∷ []) (with_event x.event s)
whole-more trace x s whole = by (eqb s.connection x.event.conn) refl
  where
    entries : events_of (entries_of s.connection (trace ++ x ∷ [])) ≡ s.events ++ events_of (cond (eqb s.connection x.event.conn) (x ∷ []) [])
    entries =
        ap events_of (filter-append (λ (y : Answered). eqb y.event.conn s.connection) trace (x ∷ []))
        ∙ map-append (λ (y : Answered). y.event) (entries_of s.connection trace) (entries_of s.connection (x ∷ []))
        ∙ (λ i. whole i ++ events_of (cond (eqb-turned x.event.conn s.connection i) (x ∷ []) []))

    by : (b : Bool) → eqb s.connection x.event.conn ≡ b
        → events_of (entries_of (cond b (record s { events = s.events ++ x.event ∷ [] }) s).connection (trace ++ x ∷ [])) ≡ (cond b (record s { events = s.events ++ x.event ∷ [] }) s).events
    by true e = entries ∙ ap (λ b. s.events ++ events_of (cond b (x ∷ []) [])) e
    by false e = entries ∙ ap (λ b. s.events ++ events_of (cond b (x ∷ []) [])) e ∙ append-nil s.events

merge-grows : (trace : List Answered) (sessions : List Session) (x : Answered) → IsMerge trace sessions → list_any (λ s. eqb s.connection x.event.conn) sessions ≡ true
    → IsMerge (trace ++ x ∷ []) (map (with_event x.event) sessions)
merge-grows trace sessions x merge own = record {
  known =
      (λ i. list_all (λ (y : Answered). any-same x.event y.event.conn sessions i) (trace ++ x ∷ []))
      ∙ list_all-append (λ (y : Answered). list_any (λ s. eqb s.connection y.event.conn) sessions) trace (x ∷ [])
      ∙ (λ i. merge.known i && (own i && true));
  each = All-map (IsWhole (trace ++ x ∷ [])) (with_event x.event) sessions (All-weaker (IsWhole trace) (λ s. IsWhole (trace ++ x ∷ []) (with_event x.event s)) (whole-more trace x) sessions merge.each);
}

-- ---- one more session

all-more : {X : Type 0} (p q : X → Bool) → ((x : X) → p x ≡ true → q x ≡ true) → (xs : List X) → list_all p xs ≡ true → list_all q xs ≡ true
all-more p q f [] all = refl
all-more p q f (x ∷ xs) all = let both = and-both (p x) (list_all p xs) all in λ i. f x both.0 i && all-more p q f xs both.1 i

or-more : (a b : Bool) → a ≡ true → (a || b) ≡ true
or-more true b e = refl
or-more false b e = absurd cc

none-of : (sessions : List Session) (conn : ℕ) → list_any (λ s. eqb s.connection conn) sessions ≡ false → (trace : List Answered)
    → list_all (λ (x : Answered). list_any (λ s. eqb s.connection x.event.conn) sessions) trace ≡ true → entries_of conn trace ≡ []
none-of sessions conn new [] known = refl
none-of sessions conn new (x ∷ trace) known = by (and-both (list_any (λ s. eqb s.connection x.event.conn) sessions) (list_all (λ (y : Answered). list_any (λ s. eqb s.connection y.event.conn) sessions) trace) known) (none-of sessions conn new trace) (eqb x.event.conn conn) refl
  where
    by : (list_any (λ s. eqb s.connection x.event.conn) sessions ≡ true) × (list_all (λ (y : Answered). list_any (λ s. eqb s.connection y.event.conn) sessions) trace ≡ true)
        → (list_all (λ (y : Answered). list_any (λ s. eqb s.connection y.event.conn) sessions) trace ≡ true → entries_of conn trace ≡ [])
        → (b : Bool) → eqb x.event.conn conn ≡ b → cond b (x ∷ entries_of conn trace) (entries_of conn trace) ≡ []
    by all rec true e = absurd (let no = sym (ap (λ n. list_any (λ (s : Session). eqb s.connection n) sessions) (eqb-true x.event.conn conn e)) ∙ all.0 in let no2 = sym new ∙ no in cc)
    by all rec false e = rec all.1

merge-attaches : (trace : List Answered) (sessions : List Session) (conn : ℕ) → IsMerge trace sessions → list_any (λ s. eqb s.connection conn) sessions ≡ false
    → IsMerge trace (sessions ++ record { connection = conn; events = [] } ∷ [])
merge-attaches trace sessions conn merge new = record {
  known = all-more (λ (x : Answered). list_any (λ s. eqb s.connection x.event.conn) sessions) (λ (x : Answered). list_any (λ s. eqb s.connection x.event.conn) (sessions ++ record { connection = conn; events = [] } ∷ []))
      (λ x any. list_any-append (λ (s : Session). eqb s.connection x.event.conn) sessions (record { connection = conn; events = [] } ∷ []) ∙ or-more (list_any (λ s. eqb s.connection x.event.conn) sessions) (eqb conn x.event.conn || false) any)
      trace merge.known;
  each = All-push (IsWhole trace) sessions (record { connection = conn; events = [] }) merge.each (ap events_of (none-of sessions conn new trace merge.known));
}

pub merges-grow : MergesGrow
merges-grow = record {
  begins = λ connections. record { known = refl; each = none-sent connections };
  grows = merge-grows;
  same = same-numbers;
  attaches = merge-attaches;
}
