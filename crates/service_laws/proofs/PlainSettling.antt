-- What follows an event is what the plain words say.
use Rattle.std.proofs.Common.{◌≡◌, ℕ, Bool, true, false, cond, not, ◌&&◌, ◌||◌, eqb, List, [], ◌∷◌, ◌++◌, map, Option, Some, None, Ok, refl, sym, ap, subst, ◌∙◌}
use Rattle.std.specs.Prelude.{find, option_map, is_none}
use Rattle.std.specs.Option.{option_map_or}
use Rattle.std.specs.List.{flat_map}
use Rattle.pps_types.specs.declared.event.Event.{Event}
use Rattle.pps_types.specs.Bytes.{is_empty}
use Rattle.pps_types.specs.History.{Entry}
use Rattle.pps_types.specs.Reading.{OpenHandle, Answer, Everything, Blocks, Needs, TargetGone, Waits, Nothing}
use Rattle.pps_types.specs.Rests.{Progress}
use Rattle.pps_types.specs.Content.{Content, news, read_answer}
use Rattle.pps_types.specs.Checks.{first_refusal}
use Rattle.pps_types.specs.Plan.{Move, apply_seen, apply_all_seen, all_checks_of, effect, plan, decided, fired, late_reply, late_replies, settling_handle, settling}
use Rattle.pps_types.specs.Machine.{Machine, IsMachine, AreLawful, next_after, content_of, shown_handle, step, apply, apply_all, AreAlive, IsMade}
use Rattle.pps_types.specs.Owed.{has_news, owed, answer_of}
use Rattle.service_laws.specs.ReadLaws.{had_news_of, follows_for, what_follows}
use Rattle.service_laws.proofs.Bridge.{news-same}
use Rattle.service_laws.proofs.PlainWords.{answer-shown}
use Rattle.service_laws.proofs.Lawful.{plan-lawful}
use Rattle.service_laws.proofs.Alive.{plan-alive}
use Rattle.service_laws.proofs.WellSteps.{basis-in}
use Rattle.service_laws.proofs.Law.{made-of, apply_all-shown}
use Rattle.service_laws.proofs.BasicLaws.{steps-decided}

-- ---- one handle

-- what is found in what is seen of a list
pub find-seen : {X Y : Type 0} (see : X → Y) (test : X → Bool) (seen_test : Y → Bool) → ((x : X) → seen_test (see x) ≡ test x) → (xs : List X) → find seen_test (map see xs) ≡ option_map see (find test xs)
find-seen see test seen_test same [] = refl
find-seen see test seen_test same (x ∷ xs) = ap (λ b. cond b (Some (see x)) (find seen_test (map see xs))) (same x) ∙ by (test x) (find-seen see test seen_test same xs)
  where
    by : (b : Bool) → find seen_test (map see xs) ≡ option_map see (find test xs) → cond b (Some (see x)) (find seen_test (map see xs)) ≡ option_map see (cond b (Some x) (find test xs))
    by true rec = refl
    by false rec = rec

had-same : (before : Machine) (number : ℕ) → option_map_or news (find (λ (h : OpenHandle Progress). eqb h.number number) (content_of before).handles) false ≡ had_news_of before number
had-same before number = ap (λ o. option_map_or news o false) (find-seen (shown_handle before.history) (λ h. eqb h.number number) (λ h. eqb h.number number) (λ h. refl) before.handles) ∙ by (find (λ h. eqb h.number number) before.handles)
  where
    by : (o : Option (OpenHandle (Option ℕ))) → option_map_or news (option_map (shown_handle before.history) o) false ≡ option_map_or (λ h. has_news h before.history h.seen) o false
    by None = refl
    by (Some h) = news-same h before.history h.seen

reply-same : (H : List Entry) (h : OpenHandle (Option ℕ)) (a : Answer) → late_reply (shown_handle H h) a ≡ late_reply h a
reply-same H h (Everything text) = refl
reply-same H h (Blocks n text) = refl
reply-same H h (Needs need) = refl
reply-same H h TargetGone = refl
reply-same H h Waits = refl
reply-same H h Nothing = refl

pub news-reads : {S : Type 0} (h : OpenHandle S) (H : List Entry) (cursor : Option ℕ) → has_news h H cursor ≡ true → h.reads ≡ true
news-reads h H cursor e = by h.reads e
  where
    by : (r : Bool) → (r && (is_none cursor || not (is_empty (owed h H cursor)))) ≡ true → r ≡ true
    by true e = refl
    by false e = absurd (let no = e in cc)

handle-same : (before now : Machine) (h : OpenHandle (Option ℕ)) → settling_handle (content_of before) (content_of now) (shown_handle now.history h) ≡ follows_for before now h
handle-same before now h =
    (λ i. cond (not (had-same before h.number i) && news-same h now.history h.seen i) (fired (shown_handle now.history h) ++ late_replies (content_of now) (shown_handle now.history h)) [])
    ∙ by (not (had_news_of before h.number)) (has_news h now.history h.seen) refl
  where
    late : h.reads ≡ true → (o : Option ℕ) → option_map_or (λ size. late_reply (shown_handle now.history h) (read_answer (content_of now) (shown_handle now.history h) size)) o [] ≡ option_map_or (λ size. late_reply h (answer_of now h size)) o []
    late reads None = refl
    late reads (Some size) = reply-same now.history h (read_answer (content_of now) (shown_handle now.history h) size) ∙ ap (late_reply h) (answer-shown now h size reads)

    by : (a b : Bool) → has_news h now.history h.seen ≡ b → cond (a && b) (fired (shown_handle now.history h) ++ late_replies (content_of now) (shown_handle now.history h)) [] ≡ cond (a && b) (fired h ++ option_map_or (λ size. late_reply h (answer_of now h size)) h.parked []) []
    by false b e = refl
    by true false e = refl
    by true true e = ap (λ ys. fired h ++ ys) (late (news-reads h now.history h.seen e) h.parked)

-- ---- all of them

handles-same : (before now : Machine) (hs : List (OpenHandle (Option ℕ))) → flat_map (settling_handle (content_of before) (content_of now)) (map (shown_handle now.history) hs) ≡ flat_map (follows_for before now) hs
handles-same before now [] = refl
handles-same before now (h ∷ hs) = λ i. handle-same before now h i ++ handles-same before now hs i

pub settling-same : (before now : Machine) → settling (content_of before) (content_of now) ≡ what_follows before now
unfolding settling
settling-same before now = handles-same before now now.handles

-- ---- steps

lawful-first : (xs ys : List Move) (n : ℕ) → AreLawful n (xs ++ ys) → AreLawful n xs
lawful-first [] ys n p = tt
lawful-first (x ∷ xs) ys n p = (p.0, lawful-first xs ys (next_after n x) p.1)

alive-first : (xs ys : List Move) (c : Content) → AreAlive c (xs ++ ys) → AreAlive c xs
alive-first [] ys c p = tt
alive-first (x ∷ xs) ys c p = (p.0, alive-first xs ys (apply_seen x c) p.1)

pub moves-then : (xs ys : List Move) (m : Machine) → apply_all (xs ++ ys) m ≡ apply_all ys (apply_all xs m)
moves-then [] ys m = refl
moves-then (x ∷ xs) ys m = moves-then xs ys (apply x m)

-- what stands after an event's own moves
pub effect-shown : (m : Machine) → IsMachine m → (e : Event) → first_refusal (all_checks_of (content_of m) e) ≡ None
    → let done = (effect (content_of m) e.conn e.request).1 in
    (content_of (apply_all done m) ≡ apply_all_seen done (content_of m)) × IsMade (apply_all done m)
unfolding plan
effect-shown m made e is =
    let c = content_of m in
    let done = (effect c e.conn e.request).1 in
    let all = ap (λ o. (decided c (effect c e.conn e.request) o).1) is in
    apply_all-shown done m (made-of m made)
    (lawful-first done (settling c (apply_all_seen done c)) c.next_object (subst (AreLawful c.next_object) all (plan-lawful c e)))
    (alive-first done (settling c (apply_all_seen done c)) c (subst (AreAlive c) all (plan-alive c e (basis-in c made.standing))))

-- an event's own moves, and then what follows
pub steps-plain : (m : Machine) → IsMachine m → (e : Event) → first_refusal (all_checks_of (content_of m) e) ≡ None
    → let done = effect (content_of m) e.conn e.request in
    let now = apply_all done.1 m in
    step m e ≡ (Ok done.0, apply_all (what_follows m now) now)
steps-plain m made e is =
    let done = effect (content_of m) e.conn e.request in
    let now = apply_all done.1 m in
    steps-decided.accepted m e is
    ∙ ap (λ n. (Ok done.0, n)) (ap (λ c. apply_all (done.1 ++ settling (content_of m) c) m) (sym (effect-shown m made e is).0) ∙ ap (λ ys. apply_all (done.1 ++ ys) m) (settling-same m now) ∙ moves-then done.1 (what_follows m now) m)
