-- Lists of events with their replies are runs, and one run behind another is a run.
use Rattle.std.proofs.Common.{◌≡◌, false, List, [], ◌∷◌, ◌++◌, refl, sym, ap, subst, ◌∙◌}
use Rattle.std.specs.List.{AllByRecursion}
use Rattle.pps_types.specs.declared.event.Event.{Event}
use Rattle.pps_types.specs.Outcome.{Reply, is_marked}
use Rattle.pps_types.specs.Content.{Content}
use Rattle.pps_types.specs.Plan.{step_seen}
use Rattle.pps_types.specs.Machine.{Machine, IsMachine, content_of, step, marked_step}
use Rattle.pps_types.specs.Runs.{Answered, IsReply, IsRun, answered, events_of, replies, replies_seen, after, after_seen, after_answered, end_of}
use Rattle.pps_types.specs.Stands.{Stands, RunsSeen, Runs, marked_seen}
use Rattle.service_laws.specs.RunLaws.{RepliesAreShown, RepliesAreRuns, RunsJoin, SeenRunsJoin}
use Rattle.service_laws.proofs.Law.{step-shown, step-made, after-shown}
use Rattle.service_laws.proofs.Wants.{unmarked, unmarked-seen}

-- ---- replies

replies-each : (es : List Event) (m : Machine) → IsMachine m → replies m es ≡ replies_seen (content_of m) es
replies-each [] m made = refl
replies-each (e ∷ es) m made = ap (λ rs. (step m e).0 ∷ rs) (replies-each es (step m e).1 (step-made m made e)) ∙ ap (λ (s : Reply × Content). s.0 ∷ replies_seen s.1 es) (step-shown m made e)

pub replies-shown : RepliesAreShown
replies-shown m made es = (replies-each es m made, after-shown es m made)

-- ---- with no mark

answered-events : (es : List Event) (m : Machine) → events_of (answered es (replies m es)) ≡ es
answered-events [] m = refl
answered-events (e ∷ es) m = ap (λ es. e ∷ es) (answered-events es (step m e).1)

-- an event whose reply is no mark takes its step
no-mark : (m : Machine) (e : Event) (reply : Reply) → is_marked reply ≡ false → marked_step m e (is_marked reply) ≡ step m e
no-mark m e reply none = ap (marked_step m e) none

step-replies : (m : Machine) (e : Event) → IsReply m e (step m e).0
step-replies m e = record { replied = ap (λ (s : Reply × Machine). s.0) (sym (no-mark m e (step m e).0 (unmarked m e))); allowed = λ marked. absurd (let no = sym marked ∙ unmarked m e in cc) }

step-after : (m : Machine) (e : Event) → (step m e).1 ≡ after_answered m (record { event = e; reply = (step m e).0 })
step-after m e = ap (λ (s : Reply × Machine). s.1) (sym (no-mark m e (step m e).0 (unmarked m e)))

answered-runs : (es : List Event) (m : Machine) → IsRun m (answered es (replies m es))
answered-runs [] m = tt
answered-runs (e ∷ es) m = (step-replies m e, subst (λ n. IsRun n (answered es (replies (step m e).1 es))) (step-after m e) (answered-runs es (step m e).1))

answered-end : (es : List Event) (m : Machine) → end_of m (answered es (replies m es)) ≡ after m es
answered-end [] m = refl
answered-end (e ∷ es) m = ap (λ n. end_of n (answered es (replies (step m e).1 es))) (sym (step-after m e)) ∙ answered-end es (step m e).1

answered-seen : (es : List Event) (c : Content) → RunsSeen c (answered es (replies_seen c es)) (after_seen c es)
answered-seen [] c = refl
answered-seen (e ∷ es) c = (
  (step_seen c e).1,
  record { taken = sym (ap (marked_seen c e) (unmarked-seen c e)); allowed = λ marked. absurd (let no = sym marked ∙ unmarked-seen c e in cc) },
  answered-seen es (step_seen c e).1,
)

answered-only : (run : List Answered) (m : Machine) → IsRun m run → AllByRecursion (λ x. is_marked x.reply ≡ false) run → run ≡ answered (events_of run) (replies m (events_of run))
answered-only [] m runs none = refl
answered-only (x ∷ run) m runs none =
    let steps : marked_step m x.event (is_marked x.reply) ≡ step m x.event = no-mark m x.event x.reply none.0 in
    let first : x.reply ≡ (step m x.event).0 = runs.0.replied ∙ ap (λ (s : Reply × Machine). s.0) steps in
    let rest = answered-only run (after_answered m x) runs.1 none.1 in
    let end : after_answered m x ≡ (step m x.event).1 = ap (λ (s : Reply × Machine). s.1) steps in
    let all : run ≡ answered (events_of run) (replies (step m x.event).1 (events_of run)) = rest ∙ ap (λ n. answered (events_of run) (replies n (events_of run))) end in
    λ i. record { event = x.event; reply = first i } ∷ all i

pub replies-runs : RepliesAreRuns
replies-runs = record {
  events = λ m es. answered-events es m;
  runs = λ m es. answered-runs es m;
  ends = λ m es. answered-end es m;
  seen = λ c es. answered-seen es c;
  only = λ m run runs none. answered-only run m runs none;
}

-- ---- one run behind another

run-joined : (first second : List Answered) (m : Machine) → IsRun m first → IsRun (end_of m first) second → IsRun m (first ++ second)
run-joined [] second m a b = b
run-joined (x ∷ first) second m a b = (a.0, run-joined first second (after_answered m x) a.1 b)

run-parted : (first second : List Answered) (m : Machine) → IsRun m (first ++ second) → IsRun m first × IsRun (end_of m first) second
run-parted [] second m a = (tt, a)
run-parted (x ∷ first) second m a = let rest = run-parted first second (after_answered m x) a.1 in ((a.0, rest.0), rest.1)

run-ends : (first second : List Answered) (m : Machine) → end_of m (first ++ second) ≡ end_of (end_of m first) second
run-ends [] second m = refl
run-ends (x ∷ first) second m = run-ends first second (after_answered m x)

pub runs-join : RunsJoin
runs-join = record {
  joined = λ m first second a b. run-joined first second m a b;
  parted = λ m first second a. run-parted first second m a;
  ends = λ m first second. run-ends first second m;
  one_more = λ m run x a b. run-joined run (x ∷ []) m a (b, tt);
}

pub runs-append : (old middle new : Content) (first second : List Answered) → RunsSeen old first middle → RunsSeen middle second new → RunsSeen old (first ++ second) new
runs-append old middle new [] second a b = subst (λ (c : Content). RunsSeen c second new) a b
runs-append old middle new (x ∷ first) second a b = (a.0, a.1, runs-append a.0 middle new first second a.2 b)

seen-parted : (first second : List Answered) (old new : Content) → RunsSeen old (first ++ second) new → (middle : Content) × RunsSeen old first middle × RunsSeen middle second new
seen-parted [] second old new a = (old, refl, a)
seen-parted (x ∷ first) second old new a = let rest = seen-parted first second a.0 new a.2 in (rest.0, (a.0, a.1, rest.1), rest.2)

machines-join : (old middle new : Content) (first second : List Answered) → Runs old first middle → Runs middle second new → Runs old (first ++ second) new
machines-join old middle new first second f g m stands =
    let a = f m stands in
    let b = g (end_of m first) a.stands in
    record { replies = run-joined first second m a.replies b.replies; stands = subst (Stands new) (sym (run-ends first second m)) b.stands }

pub seen-runs-join : SeenRunsJoin
seen-runs-join = record {
  joined = runs-append;
  parted = λ old new first second a. seen-parted first second old new a;
  one_more = λ old middle new run e reply a b. runs-append old middle new run (record { event = e; reply = reply } ∷ []) a (new, b, refl);
  machines = machines-join;
}
