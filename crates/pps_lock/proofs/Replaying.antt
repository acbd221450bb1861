-- Traces that replay, from none to one entry more.
use Rattle.std.proofs.Common.{◌≡◌, List, [], ◌∷◌, ◌++◌, true, Err, Some, length, take, refl, sym, subst, ap, ◌∙◌, arith}
use Rattle.std.specs.Prelude.{Result, Ok, IfOk, OnOk, slice_get}
use Rattle.std.proofs.lemmas.List.{append_assoc, append-nil, length-append}
use Rattle.std.proofs.lemmas.List.Elements.{All-nil, All-push}
use Rattle.std.proofs.Math.Seq.{take-append_seam}
use Rattle.pps_types.specs.declared.event.Event.{Event}
use Rattle.pps_types.specs.declared.refusal.Refusal.TheVariants.{OutOfMemory}
use Rattle.pps_types.specs.Outcome.{Reply, IsSendable}
use Rattle.pps_types.specs.Content.{Content}
use Rattle.pps_types.specs.Plan.{may_lack_memory}
use Rattle.pps_types.specs.Runs.{Answered}
use Rattle.pps_types.specs.Stands.{StepsSeen}
use Rattle.pps_engine.proofs.Runs.{runs-append}
use Rattle.pps_lock.specs.declared.book.Receipt.{Receipt}
use Rattle.pps_lock.specs.declared.book.Stepped.{Stepped}
use Rattle.pps_lock.specs.declared.book.TraceFull.{TraceFull}
use Rattle.pps_lock.specs.Trace.{Log, Replays, Enters, IsRecorded, IsEntered, AreEntered, EntersAll, EntersFirst, KeepsSegment, answer_to, receipt, next_receipt, numbered}

-- an event that may be marked for want of memory, and is, leaves what stands
pub marked : (c : Content) (e : Event) → may_lack_memory c e ≡ true → StepsSeen c e (Err OutOfMemory) c
marked c e may = record { taken = refl; allowed = λ m. may }

-- no entry leads nowhere
pub replays-empty : (c d : Content) → d ≡ c → Replays c [] d
replays-empty c d same = record { seen = same; sends = All-nil (λ (x : Answered). IsSendable x.reply) }

-- one entry more, whose event and answer are told apart
pub replays-longer : (b c d : Content) (xs now : List Answered) (x : Answered) (e : Event) (r : Reply) → Replays b xs c → StepsSeen c e r d → IsSendable r
    → x.event ≡ e → x.reply ≡ r → now ≡ xs ++ x ∷ [] → Replays b now d
replays-longer b c d xs now x e r before steps sends is_e is_r is =
    let stepped : StepsSeen c x.event x.reply d = subst (λ (y : Event × Reply). StepsSeen c y.0 y.1 d) (λ i. (sym is_e i, sym is_r i)) steps in
    let sent : IsSendable x.reply = subst IsSendable (sym is_r) sends in
    subst (λ (ys : List Answered). Replays b ys d) (sym is) (record {
      seen = runs-append b c d xs (x ∷ []) before.seen (d, stepped, refl);
      sends = All-push (λ (y : Answered). IsSendable y.reply) xs x before.sends sent;
    })

-- the last of the entries has its place
last-entry : (xs : List Answered) (x : Answered) → slice_get (xs ++ x ∷ []) (length xs) ≡ Some x
last-entry [] x = refl
last-entry (y ∷ ys) x = last-entry ys x

-- the entry that a book has just taken
recorded : (old new : Log) (e : Event) (r : Reply) (place : Receipt) → Replays new.base new.trace new.engine → new.number ≡ old.number
    → new.trace ≡ old.trace ++ answer_to e r ∷ [] → place ≡ receipt old.number (length old.trace) → IsRecorded e r place
recorded old new e r place replays number added named = record {
  segment = numbered new;
  number = number ∙ sym (ap (λ (p : Receipt). p.segment) named);
  replays = replays;
  entry = ap (slice_get new.trace) (ap (λ (p : Receipt). p.index) named) ∙ ap (λ xs. slice_get xs (length old.trace)) added ∙ last-entry old.trace (answer_to e r);
}

-- what a book has stepped is recorded in it
pub step-recorded : (old new : Log) (e : Event) (result : Result Stepped TraceFull) → Replays new.base new.trace new.engine
    → IfOk result (λ s. new.trace ≡ old.trace ++ answer_to e s.reply ∷ []) → IfOk result (λ s. s.receipt ≡ receipt old.number (length old.trace))
    → OnOk result ((new.base ≡ old.base) × (new.number ≡ old.number) × (new.limit ≡ old.limit)) → IfOk result (λ s. IsRecorded e s.reply s.receipt)
step-recorded old new e (Ok s) replays added named same = recorded old new e s.reply s.receipt replays same.1 added named
step-recorded old new e (Err f) replays added named same = tt

-- what a book has entered is recorded in it
pub enter-recorded : (old new : Log) (e : Event) (result : Result Receipt TraceFull) → Replays new.base new.trace new.engine
    → OnOk result (Enters old new e) → IfOk result (λ name. name ≡ next_receipt old) → OnOk result (KeepsSegment old new) → IfOk result (λ name. IsEntered e name)
enter-recorded old new e (Ok name) replays enters named same =
    record { reply = enters.reply; recorded = recorded old new e enters.reply name replays same.1 enters.added named }
enter-recorded old new e (Err f) replays enters named same = tt

-- one more event is entered
entered-longer : (es : List Event) (ns : List Receipt) (e : Event) (n : Receipt) → AreEntered es ns → IsEntered e n → AreEntered (es ++ e ∷ []) (ns ++ n ∷ [])
entered-longer [] [] e n all one = (one, tt)
entered-longer [] (m ∷ ns) e n all one = absurd all
entered-longer (x ∷ es) [] e n all one = absurd all
entered-longer (x ∷ es) (m ∷ ns) e n all one = (all.0, entered-longer es ns e n all.1 one)

-- of no events, no name is added
pub enters-none : (old : List Receipt) → EntersAll [] old old
enters-none old = record { names = []; added = sym (append-nil old); entered = tt }

-- and of one more, one more
pub enters-more : (es now : List Event) (old before after : List Receipt) (e : Event) (n : Receipt) → now ≡ es ++ e ∷ [] → EntersAll es old before
    → IsEntered e n → after ≡ before ++ n ∷ [] → EntersAll now old after
enters-more es now old before after e n is so_far one added = record {
  names = so_far.names ++ n ∷ [];
  added = added ∙ ap (λ ns. ns ++ n ∷ []) so_far.added ∙ append_assoc old so_far.names (n ∷ []);
  entered = subst (λ xs. AreEntered xs (so_far.names ++ n ∷ [])) (sym is) (entered-longer es so_far.names e n so_far.entered one);
}

-- the events of some that are entered are the first of these and others
pub enters-first : (es rest all : List Event) (old new : List Receipt) → all ≡ es ++ rest → EntersAll es old new → EntersFirst all old new
enters-first es rest all old new is so_far = record {
  count = length es;
  within = omega (arith, ap length is, length-append es rest);
  entered = subst (λ xs. EntersAll xs old new) (sym (ap (take (length es)) is ∙ take-append_seam es rest)) so_far;
}
