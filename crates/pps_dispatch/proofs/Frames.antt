-- Whether bytes are whole frames, as a decoder tells that has taken them from the beginning.
use Rattle.std.proofs.Common.{◌≡◌, ℕ, Bool, true, false, List, [], ◌++◌, inl, inr, sym, ◌∙◌, arith, length, ap}
use Rattle.std.specs.Prelude.{◌≢◌}
use Rattle.std.proofs.lemmas.List.{nil_from_length}
use Rattle.pps_types.specs.declared.event.Event.{Event}
use Rattle.pps_types.specs.Frame.{stream_of, IsPartial, IsMalformed, too_short, too_long, no_event, Held, Feeds}
use Rattle.frame_codec.proofs.FrameStreams.{one_reading}
use Rattle.pps_dispatch.specs.Sessions.{AreFrames, AreNoFrames}

-- no bytes are the beginning of a frame
empty-partial : IsPartial []
empty-partial = record { so_far = λ h. absurd (omega (arith, h)) }

-- no bytes are no malformed frame
malformed-some : (bytes : List ℕ) → IsMalformed bytes → bytes ≢ []
malformed-some bytes (too_short le lt) is = let n : length bytes ≡ 0 = ap length is in absurd (omega (arith, le, n))
malformed-some bytes (too_long le lt) is = let n : length bytes ≡ 0 = ap length is in absurd (omega (arith, le, n))
malformed-some bytes (no_event le none) is = let n : length bytes ≡ 0 = ap length is in absurd (omega (arith, le, n))

-- all was taken, and nothing is left
pub whole_frames : (held bytes : List ℕ) (events : List Event) (bad : Bool) (new : Held) → held ≡ [] → Feeds (held ++ bytes) events bad new
    → bad ≡ false → length new.rest ≡ 0 → AreFrames bytes events
whole_frames held bytes events bad new none fed good end =
    let stream : (held ++ bytes) ≡ bytes = ap (λ (l : List ℕ). l ++ bytes) none in
    let rest : new.rest ≡ [] = nil_from_length new.rest end in
    record { fit = fed.each; bytes_are = sym stream ∙ (fed.good good).0 ∙ ap (λ (l : List ℕ). stream_of events l) rest }

-- a malformed frame was met
pub no-frames-bad : (held bytes : List ℕ) (events : List Event) (bad : Bool) (new : Held) → held ≡ [] → Feeds (held ++ bytes) events bad new
    → bad ≡ true → AreNoFrames bytes
no-frames-bad held bytes events bad new none fed is others fit whole =
    let stream : (held ++ bytes) ≡ bytes = ap (λ (l : List ℕ). l ++ bytes) none in
    let tail = fed.malformed is in
    malformed-some tail.1 tail.3 (one_reading events others tail.1 [] fed.each fit (sym tail.2 ∙ stream ∙ whole) (inr tail.3) (inl empty-partial)).1

-- something is left
pub no-frames-rest : (held bytes : List ℕ) (events : List Event) (bad : Bool) (new : Held) → held ≡ [] → Feeds (held ++ bytes) events bad new
    → bad ≡ false → length new.rest ≢ 0 → AreNoFrames bytes
no-frames-rest held bytes events bad new none fed good left others fit whole =
    let stream : (held ++ bytes) ≡ bytes = ap (λ (l : List ℕ). l ++ bytes) none in
    let rest = fed.good good in
    left (ap length (one_reading events others new.rest [] fed.each fit (sym rest.0 ∙ stream ∙ whole) (inl rest.1) (inl empty-partial)).1)
