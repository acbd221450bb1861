-- A stream of frames is read in one way, and `read_stream` reads it so.
use Rattle.std.proofs.Common.{◌≡◌, ℕ, zero, suc, ◌+◌, ◌<◌, ◌≤◌, Bool, true, false, ltb, ◌||◌, List, [], ◌∷◌, ◌++◌, length, take, drop, All}
use Rattle.std.proofs.Common.{Option, Some, None, refl, sym, ap, subst, ◌∙◌, append_assoc, append-nil, arith, inl, inr}
use Rattle.std.proofs.lemmas.Bool.{ltb-true, ltb-false}
use Rattle.std.proofs.lemmas.List.{take_at, drop_at, length-append, length-take-le, take-append-drop}
use Rattle.std.proofs.lemmas.List.Concat.{flat_map-cons}
use Rattle.std.proofs.lemmas.List.Elements.{All-nil, All-cons, All-head, All-tail}
use Rattle.std.proofs.lemmas.Option.{same_Some}
use Rattle.std.proofs.lemmas.Nat.{be_bytes_4, from_be_bytes-to_be_bytes_4}
use Rattle.pps_types.specs.declared.event.Event.{Event}
use Rattle.pps_types.specs.Frame.{four_bytes, from_four, IsBytes, event_body, longest_body, event_of, frame, HasFrame, stream_of, told}
use Rattle.pps_types.specs.Frame.{IsPartial, IsMalformed, too_short, too_long, no_event, IsEnd}
use Rattle.pps_types.specs.Frame.{Front, Whole, Partial, Wrong, whole_front, front_behind, front_of, Ending, Clean, Truncated, Malformed}
use Rattle.pps_types.specs.Frame.{StreamReading, ending_within, behind_event, by_front, read_frames, read_stream, EndsAs, IsReading}
use Rattle.frame_codec.proofs.FrameEvents.{IsBytes-take, IsBytes-drop, event_takes, event_again, no_body}

-- ---- one frame

-- where a frame stands at the front: the length that is told, the body, and what follows
pub told_frame : (e : Event) (s : List ℕ) → HasFrame e → told (frame e ++ s) ≡ length (event_body e)
told_frame e s h = from_be_bytes-to_be_bytes_4 (length (event_body e)) (omega (arith, h.short))

body_in_frame : (e : Event) (s : List ℕ) → take (length (event_body e)) (drop 4 (frame e ++ s)) ≡ event_body e
body_in_frame e s = take_at (event_body e) s (length (event_body e)) refl

rest_behind_frame : (e : Event) (s : List ℕ) → drop (length (event_body e)) (drop 4 (frame e ++ s)) ≡ s
rest_behind_frame e s = drop_at (event_body e) s (length (event_body e)) refl

-- one frame stands at the front
pub same_front : (e f : Event) (s u : List ℕ) → HasFrame e → HasFrame f → frame e ++ s ≡ frame f ++ u → (e ≡ f) × (s ≡ u)
same_front e f s u h k q =
    let n : length (event_body e) ≡ length (event_body f) = sym (told_frame e s h) ∙ ap told q ∙ told_frame f u k in
    let b : event_body e ≡ event_body f =
    sym (body_in_frame e s)
    ∙ ap (λ (y : List ℕ). take (length (event_body e)) (drop 4 y)) q
    ∙ ap (λ (m : ℕ). take m (drop 4 (frame f ++ u))) n
    ∙ body_in_frame f u in
    let r : s ≡ u =
    sym (rest_behind_frame e s)
    ∙ ap (λ (y : List ℕ). drop (length (event_body e)) (drop 4 y)) q
    ∙ ap (λ (m : ℕ). drop m (drop 4 (frame f ++ u))) n
    ∙ rest_behind_frame f u in
    (same_Some e f (sym (event_again e h.fits) ∙ ap event_of b ∙ event_again f k.fits), r)

pub same_frame : (e f : Event) → HasFrame e → HasFrame f → frame e ≡ frame f → e ≡ f
same_frame e f h k q = (same_front e f [] [] h k (ap (λ (x : List ℕ). x ++ []) q)).0

-- no frame is a proper prefix of another
pub no_prefix : (e f : Event) (more : List ℕ) → HasFrame e → HasFrame f → frame e ++ more ≡ frame f → more ≡ []
no_prefix e f more h k q = (same_front e f more [] h k (q ∙ sym (append-nil (frame f)))).1

-- ---- one reading

pub stream_cons : (e : Event) (es : List Event) (x : List ℕ) → stream_of (e ∷ es) x ≡ frame e ++ stream_of es x
stream_cons e es x = ap (λ (t : List ℕ). t ++ x) (flat_map-cons frame e es) ∙ append_assoc (frame e) _ x

-- what begins with a whole frame is no end
no_end : (e : Event) (s x : List ℕ) → HasFrame e → x ≡ frame e ++ s → IsEnd x → ⊥
no_end e s x h q end =
    let t : told x ≡ length (event_body e) = ap told q ∙ told_frame e s h in
    let n : length x ≡ 4 + length (event_body e) + length s = omega (arith, ap length q, length-append (frame e) s) in
    elim end [
      | inl partial ↦ let so = partial.so_far (omega (arith, n)) in omega (arith, so.2, t, n)
      | inr (too_short some low) ↦ omega (arith, h.short, low, t)
      | inr (too_long some high) ↦ omega (arith, h.short, high, t)
      | inr (no_event some none) ↦ none e h.fits
          (sym (ap (λ (m : ℕ). take m (drop 4 x)) t ∙ ap (λ (y : List ℕ). take (length (event_body e)) (drop 4 y)) q ∙ body_in_frame e s))
    ]

-- two readings of a stream have the same first frame, and so on to the end
pub one_reading : (es fs : List Event) (x y : List ℕ) → All HasFrame es → All HasFrame fs
    → stream_of es x ≡ stream_of fs y → IsEnd x → IsEnd y → (es ≡ fs) × (x ≡ y)
one_reading [] [] x y h k q p r = (refl, q)
one_reading [] (f ∷ fs) x y h k q p r = absurd (no_end f (stream_of fs y) x (All-head HasFrame f fs k) (q ∙ stream_cons f fs y) p)
one_reading (e ∷ es) [] x y h k q p r = absurd (no_end e (stream_of es x) y (All-head HasFrame e es h) (sym q ∙ stream_cons e es x) r)
one_reading (e ∷ es) (f ∷ fs) x y h k q p r =
    let whole = sym (stream_cons e es x) ∙ q ∙ stream_cons f fs y in
    let a = same_front e f (stream_of es x) (stream_of fs y) (All-head HasFrame e es h) (All-head HasFrame f fs k) whole in
    let b = one_reading es fs x y (All-tail HasFrame e es h) (All-tail HasFrame f fs k) a.1 p r in
    (ap (λ (g : Event). g ∷ es) a.0 ∙ ap (λ (gs : List Event). f ∷ gs) b.0, b.1)

-- ---- the front of a stream

-- what a front tells of the bytes
abbrev pub IsFront : List ℕ → Front → Type 0
IsFront bytes (Whole e rest) = HasFrame e × (bytes ≡ frame e ++ rest)
IsFront bytes Partial = IsPartial bytes
IsFront bytes Wrong = IsMalformed bytes

-- a body that is read makes a whole frame with the length before it
begins : (a b c d : ℕ) (rest : List ℕ) (e : Event) → IsBytes (a ∷ b ∷ c ∷ d ∷ rest)
    → from_four a b c d ≤ longest_body → from_four a b c d ≤ length rest
    → event_of (take (from_four a b c d) rest) ≡ Some e
    → HasFrame e × (a ∷ b ∷ c ∷ d ∷ rest ≡ frame e ++ drop (from_four a b c d) rest)
begins a b c d rest e fits low within is =
    let n = from_four a b c d in
    let all : List ℕ = a ∷ b ∷ c ∷ d ∷ rest in
    let t = event_takes (take n rest) e (IsBytes-take n rest (IsBytes-drop 4 all fits)) is in
    let len : length (event_body e) ≡ n = ap length t.1 ∙ length-take-le n rest within in
    let head : four_bytes n ≡ a ∷ b ∷ c ∷ d ∷ [] = be_bytes_4 (a ∷ b ∷ c ∷ d ∷ []) n refl (IsBytes-take 4 all fits) refl in
    let is_frame : frame e ≡ a ∷ b ∷ c ∷ d ∷ take n rest =
    ap (λ (k : ℕ). four_bytes k ++ event_body e) len
    ∙ ap (λ (x : List ℕ). x ++ event_body e) head
    ∙ ap (λ (x : List ℕ). a ∷ b ∷ c ∷ d ∷ x) t.1 in
    let whole : frame e ++ drop n rest ≡ all =
    ap (λ (x : List ℕ). x ++ drop n rest) is_frame ∙ ap (λ (x : List ℕ). a ∷ b ∷ c ∷ d ∷ x) (take-append-drop n rest) in
    (record { fits = t.0; short = omega (arith, len) }, sym whole)

-- the front of bytes that are there as far as their length tells
front_whole : (a b c d : ℕ) (rest : List ℕ) (o : Option Event) → event_of (take (from_four a b c d) rest) ≡ o
    → IsBytes (a ∷ b ∷ c ∷ d ∷ rest) → from_four a b c d ≤ longest_body → from_four a b c d ≤ length rest
    → IsFront (a ∷ b ∷ c ∷ d ∷ rest) (whole_front o (drop (from_four a b c d) rest))
front_whole a b c d rest (Some e) is fits low within = begins a b c d rest e fits low within is
front_whole a b c d rest None is fits low within = no_event (omega arith) (no_body (take (from_four a b c d) rest) is)

-- the front by what the length's tests gave
front_told : (a b c d : ℕ) (rest : List ℕ) (short long fewer : Bool)
    → ltb (from_four a b c d) 3 ≡ short → ltb longest_body (from_four a b c d) ≡ long → ltb (length rest) (from_four a b c d) ≡ fewer
    → IsBytes (a ∷ b ∷ c ∷ d ∷ rest)
    → IsFront (a ∷ b ∷ c ∷ d ∷ rest) (front_behind (short || long) fewer (from_four a b c d) rest)
front_told a b c d rest true long fewer p q r fits = too_short (omega arith) (ltb-true (from_four a b c d) 3 p)
front_told a b c d rest false true fewer p q r fits = too_long (omega arith) (ltb-true longest_body (from_four a b c d) q)
front_told a b c d rest false false true p q r fits =
    let low : 3 ≤ from_four a b c d = ltb-false (from_four a b c d) 3 p in
    let high : from_four a b c d ≤ longest_body = ltb-false longest_body (from_four a b c d) q in
    let lacks : length rest < from_four a b c d = ltb-true (length rest) (from_four a b c d) r in
    record { so_far = λ some. (low, high, omega arith) }
front_told a b c d rest false false false p q r fits =
    front_whole a b c d rest (event_of (take (from_four a b c d) rest)) refl fits
    (ltb-false longest_body (from_four a b c d) q) (ltb-false (length rest) (from_four a b c d) r)

pub fronts : (bytes : List ℕ) → IsBytes bytes → IsFront bytes (front_of bytes)
unfolding front_of
fronts (a ∷ b ∷ c ∷ d ∷ rest) fits = front_told a b c d rest _ _ _ refl refl refl fits
fronts [] fits = record { so_far = λ some. absurd (omega (arith, some)) }
fronts (a ∷ []) fits = record { so_far = λ some. absurd (omega (arith, some)) }
fronts (a ∷ b ∷ []) fits = record { so_far = λ some. absurd (omega (arith, some)) }
fronts (a ∷ b ∷ c ∷ []) fits = record { so_far = λ some. absurd (omega (arith, some)) }

-- ---- the reading of a stream

ends_within : (bytes : List ℕ) → IsPartial bytes → EndsAs (ending_within bytes) bytes
ends_within [] partial = refl
ends_within (b ∷ bytes) partial = ((λ empty. absurd (let e : b ∷ bytes ≡ [] = empty in cc)), partial)

ends_so : (ending : Ending) (rest : List ℕ) → EndsAs ending rest → IsEnd rest
ends_so Clean rest ends = inl (record { so_far = λ some. absurd (omega (arith, some, ap length ends)) })
ends_so Truncated rest ends = inl ends.1
ends_so Malformed rest ends = inr ends

-- a reading of what stands behind a whole frame, and that frame's event before it
reads_behind : (e : Event) (rest stream : List ℕ) (reading : StreamReading) → HasFrame e → stream ≡ frame e ++ rest
    → IsReading rest reading → IsReading stream (behind_event e reading)
reads_behind e rest stream reading h q r = record {
  each = All-cons HasFrame e reading.events h r.each;
  parts = q ∙ ap (λ (x : List ℕ). frame e ++ x) r.parts ∙ sym (stream_cons e reading.events reading.rest);
  ends = r.ends;
}

-- a reading by the front, where `more` reads whatever is shorter
reads_front : (more : List ℕ → StreamReading) (bytes : List ℕ) (front : Front) → IsFront bytes front → IsBytes bytes
    → ((rest : List ℕ) → IsBytes rest → length rest < length bytes → IsReading rest (more rest))
    → IsReading bytes (by_front more bytes front)
reads_front more bytes (Whole e rest) is fits reads =
    let less : length rest < length bytes = omega (arith, ap length is.1, length-append (frame e) rest) in
    let behind : drop (length (frame e)) bytes ≡ rest = ap (λ (x : List ℕ). drop (length (frame e)) x) is.1 ∙ drop_at (frame e) rest _ refl in
    let bytes_behind = subst IsBytes behind (IsBytes-drop (length (frame e)) bytes fits) in
    reads_behind e rest bytes (more rest) is.0 is.1 (reads rest bytes_behind less)
reads_front more bytes Partial is fits reads = record { each = All-nil HasFrame; parts = refl; ends = ends_within bytes is }
reads_front more bytes Wrong is fits reads = record { each = All-nil HasFrame; parts = refl; ends = is }

-- no more frames than bytes are there, so the count is enough
frames_are_read : (count : ℕ) (bytes : List ℕ) → IsBytes bytes → length bytes ≤ count → IsReading bytes (read_frames count bytes)
unfolding read_frames
frames_are_read zero [] fits le = record { each = All-nil HasFrame; parts = refl; ends = refl }
frames_are_read zero (b ∷ bytes) fits le = absurd (omega (arith, le))
frames_are_read (suc count) bytes fits le =
    reads_front (read_frames count) bytes (front_of bytes) (fronts bytes fits) fits
    (λ rest are less. frames_are_read count rest are (omega arith))

pub stream_is_read : (stream : List ℕ) → IsBytes stream → IsReading stream (read_stream stream)
unfolding read_stream
stream_is_read stream fits = frames_are_read (length stream) stream fits (omega arith)

-- every other way to read the stream gives the same
pub only_reading : (stream : List ℕ) (events : List Event) (rest : List ℕ) → IsBytes stream → All HasFrame events → IsEnd rest
    → stream ≡ stream_of events rest → ((read_stream stream).events ≡ events) × ((read_stream stream).rest ≡ rest)
only_reading stream events rest fits each end parts =
    let r = stream_is_read stream fits in
    one_reading (read_stream stream).events events (read_stream stream).rest rest r.each each (sym r.parts ∙ parts) (ends_so _ _ r.ends) end
