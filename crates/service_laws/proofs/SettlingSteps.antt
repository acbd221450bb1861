-- What follows, handle by handle while it is carried out: it tells no record, and leaves every other handle.
use Rattle.std.proofs.Common.{◌≡◌, ℕ, Bool, false, cond, List, [], ◌∷◌, ◌++◌, Option, Some, None, refl, ap, ◌∙◌}
use Rattle.std.specs.Prelude.{◌==◌, option_and_then}
use Rattle.std.proofs.lemmas.List.Elements.{filter_map-append}
use Rattle.std.specs.Option.{option_map_or}
use Rattle.std.specs.List.{flat_map, AllByRecursion}
use Rattle.pps_types.specs.declared.outcome.Item.{Item}
use Rattle.pps_types.specs.History.{Entry}
use Rattle.pps_types.specs.Reading.{OpenHandle, Member, Answer, Everything, Blocks, Needs, TargetGone, Waits, Nothing}
use Rattle.pps_types.specs.Rests.{Progress}
use Rattle.pps_types.specs.Content.{Content, read_answer}
use Rattle.pps_types.specs.Plan.{Move, Arms, Queues, apply_all_seen, fired, late_reply}
use Rattle.service_laws.proofs.Settlings.{all-append, all-or}
use Rattle.service_laws.specs.Told.{entry_told, entries_told, handle_by, handle_after}
use Rattle.pps_types.specs.SettlingReplies.{late_answer, pulse_and_reply}
use Rattle.service_laws.specs.SettlingMoves.{follows_in, follows_in_turn}
use Rattle.service_laws.proofs.SettlingObjects.{objects-after, silent-objects}

-- ---- moves that tell no record change no answer

objects-stay : (ms : List Move) (c : Content) → entries_told ms ≡ [] → (apply_all_seen ms c).objects ≡ c.objects
objects-stay ms c silent = objects-after ms c ∙ silent-objects ms c.objects silent

pub answer-stays : (ms : List Move) (c : Content) (h : OpenHandle Progress) (size : ℕ) → entries_told ms ≡ [] → read_answer (apply_all_seen ms c) h size ≡ read_answer c h size
answer-stays ms c h size silent = ap (λ os. read_answer (record c { objects = os }) h size) (objects-stay ms c silent)

follows-stays : (ms : List Move) (c : Content) (es : List Entry) (h : OpenHandle Progress) → entries_told ms ≡ [] → follows_in (apply_all_seen ms c) es h ≡ follows_in c es h
follows-stays ms c es h silent = ap (λ os. follows_in (record c { objects = os }) es h) (objects-stay ms c silent)

-- ---- what follows for a handle tells no record

reply-silent : (h : OpenHandle Progress) (a : Answer) → entries_told (late_reply h a) ≡ []
reply-silent h (Everything text) = refl
reply-silent h (Blocks count text) = refl
reply-silent h (Needs need) = refl
reply-silent h TargetGone = refl
reply-silent h Waits = refl
reply-silent h Nothing = refl

follows-silent : (h : OpenHandle Progress) (es : List Entry) (dead : Bool) (members : List Member) → entries_told (pulse_and_reply h es dead members) ≡ []
follows-silent h es dead members = filter_map-append entry_told (fired h) (option_map_or (λ size. late_reply h (late_answer h es dead members size)) h.parked []) ∙ (λ i. pulses h.armed i ++ replies h.parked i)
  where
    pulses : (a : Option (ℕ × ℕ)) → entries_told (option_map_or (λ pulse. Arms h.number None ∷ Queues h.connection (Item.Pulse pulse.0 pulse.1) ∷ []) a []) ≡ []
    pulses None = refl
    pulses (Some a) = refl

    replies : (p : Option ℕ) → entries_told (option_map_or (λ size. late_reply h (late_answer h es dead members size)) p []) ≡ []
    replies None = refl
    replies (Some size) = reply-silent h (late_answer h es dead members size)

-- Each reply may be worked out where those before it were carried out: it is the same.
pub in-turn : (hs : List (OpenHandle Progress)) (c : Content) (es : List Entry) → follows_in_turn c es hs ≡ flat_map (follows_in c es) hs
in-turn [] c es = refl
in-turn (h ∷ hs) c es = ap (λ ms. follows_in c es h ++ ms) (in-turn hs (apply_all_seen (follows_in c es h) c) es ∙ same hs)
  where
    same : (gs : List (OpenHandle Progress)) → flat_map (follows_in (apply_all_seen (follows_in c es h) c) es) gs ≡ flat_map (follows_in c es) gs
    same [] = refl
    same (g ∷ gs) = λ i. follows-stays (follows_in c es h) c es g (follows-silent h es _ _) i ++ same gs i

-- ---- it leaves every other handle

abbrev IsLeft : OpenHandle Progress → Move → Type 0
IsLeft g x = handle_by x g ≡ Some g

left-all : (xs : List Move) (g : OpenHandle Progress) → AllByRecursion (IsLeft g) xs → handle_after xs g ≡ Some g
left-all [] g left = refl
left-all (x ∷ xs) g left = ap (option_and_then (handle_after xs)) left.0 ∙ left-all xs g left.1

pub others-left : (g h : OpenHandle Progress) (es : List Entry) (dead : Bool) (members : List Member) → (g.number == h.number) ≡ false → handle_after (pulse_and_reply h es dead members) g ≡ Some g
others-left g h es dead members other =
    left-all (pulse_and_reply h es dead members) g
    (all-append (IsLeft g) (fired h) (option_map_or (λ size. late_reply h (late_answer h es dead members size)) h.parked [])
    (all-or (IsLeft g) (λ pulse. Arms h.number None ∷ Queues h.connection (Item.Pulse pulse.0 pulse.1) ∷ []) (λ pulse. (stays _, (refl, tt))) h.armed)
    (all-or (IsLeft g) (λ size. late_reply h (late_answer h es dead members size)) (λ size. replies (late_answer h es dead members size)) h.parked))
  where
    stays : (k : OpenHandle Progress) → Some (cond (g.number == h.number) k g) ≡ Some g
    stays k = ap (λ b. Some (cond b k g)) other

    replies : (a : Answer) → AllByRecursion (IsLeft g) (late_reply h a)
    replies (Everything text) = (stays _, (stays _, (refl, tt)))
    replies (Blocks count text) = (stays _, (stays _, (refl, tt)))
    replies (Needs need) = (stays _, (refl, tt))
    replies TargetGone = tt
    replies Waits = tt
    replies Nothing = tt
