-- What a decoder finds at the front of a stream, by the definition's laws.
use Rattle.std.proofs.Common.{◌≡◌, ℕ, ◌+◌, ◌-◌, List, [], ◌∷◌, ◌++◌, length, take, drop, All, sym, ap, subst, ◌∙◌, append_assoc, append-nil}
use Rattle.std.specs.List.{flat_map}
use Rattle.std.proofs.lemmas.Grind.{flat_map-append}
use Rattle.std.proofs.lemmas.List.{drop-drop, take_rest}
use Rattle.std.proofs.lemmas.List.Concat.{flat_map-cons}
use Rattle.std.proofs.lemmas.List.Elements.{All-nil, All-cons, All-append}
use Rattle.pps_types.specs.declared.event.Event.{Event}
use Rattle.pps_types.specs.Frame as frames
use Rattle.pps_types.specs.Frame.{IsBytes, frame, HasFrame, stream_of, front_of}
use Rattle.frame_codec.proofs.FrameStreams.{IsFront, fronts}
use Rattle.frame_codec.specs.declared.decoder.Front.{Front}
use Rattle.frame_codec.specs.Front.{IsFirst}

pub front_is : (bytes : List ℕ) (front : frames.Front) → IsBytes bytes → front ≡ front_of bytes → IsFront bytes front
front_is bytes front fits q = subst (IsFront bytes) (sym q) (fronts bytes fits)

-- one more event's frame, and then the rest
pub stream_more : (events : List Event) (e : Event) (rest : List ℕ) → stream_of (events ++ e ∷ []) rest ≡ stream_of events (frame e ++ rest)
stream_more events e rest =
    ap (λ (t : List ℕ). t ++ rest) (flat_map-append frame events (e ∷ []))
    ∙ ap (λ (t : List ℕ). (flat_map frame events ++ t) ++ rest) (flat_map-cons frame e [] ∙ append-nil (frame e))
    ∙ append_assoc (flat_map frame events) (frame e) rest

-- a whole frame at the place that is reached is one event more, and the place behind it is reached
pub goes_on : (old events : List Event) (bytes : List ℕ) (used len : ℕ) (e : Event)
    → stream_of old bytes ≡ stream_of events (drop used bytes)
    → drop used bytes ≡ frame e ++ drop len (drop used bytes)
    → stream_of old bytes ≡ stream_of (events ++ e ∷ []) (drop (used + len) bytes)
goes_on old events bytes used len e so_far front =
    so_far ∙ ap (stream_of events) front ∙ sym (stream_more events e (drop len (drop used bytes)))
    ∙ ap (stream_of (events ++ e ∷ [])) (drop-drop len used bytes)

pub one_more : (events : List Event) (e : Event) → All HasFrame events → HasFrame e → All HasFrame (events ++ e ∷ [])
one_more events e all has = All-append HasFrame events (e ∷ []) all (All-cons HasFrame e [] has (All-nil HasFrame))

-- what was found behind so many bytes, by its case
pub first_at : (bytes : List ℕ) (used : ℕ) (old new : List Event) (front case : Front) → front ≡ case
    → IsFirst (take (length bytes - used) (drop used bytes)) old new front → IsFirst (drop used bytes) old new case
first_at bytes used old new front case is first =
    subst (IsFirst (drop used bytes) old new) is (subst (λ (x : List ℕ). IsFirst x old new front) (take_rest bytes used) first)
