-- A piece of a stream behind what is held.
use Rattle.std.proofs.Common.{◌≡◌, ℕ, ◌+◌, ◌≤◌, Bool, true, false, ltb, List, [], ◌∷◌, ◌++◌, length, take, drop, All, ◌⊎◌, inl, inr, refl, sym, ap, subst, ◌∙◌, arith, append_assoc, append-nil}
use Rattle.std.proofs.lemmas.Bool.{ltb-true, ltb-false}
use Rattle.std.proofs.lemmas.List.{length-append, length-drop, take-append-drop, take-append-le, drop-append-le, drop_all}
use Rattle.std.proofs.lemmas.List.Elements.{All-nil, All-head}
use Rattle.std.specs.List.{flat_map}
use Rattle.pps_types.specs.declared.event.Event.{Event}
use Rattle.pps_types.specs.Frame.{told, longest_body, event_body, frame, HasFrame, stream_of, IsPartial, IsMalformed, too_short, too_long, no_event, Feeds, IsNoBody}
use Rattle.frame_codec.proofs.FrameStreams.{told_frame, stream_cons}
use Rattle.frame_codec.specs.declared.decoder.Taken.{Taken}
use Rattle.frame_codec.specs.Front.{lacks, Takes, IsGathered}
use Rattle.frame_codec.proofs.Gathering.{told_front, lacks_length, lacks_body}

-- what follows a malformed frame leaves it malformed
pub malformed_more : (x y : List ℕ) → IsMalformed x → IsMalformed (x ++ y)
malformed_more x y bad =
    let len = length-append x y in
    elim bad [
      | too_short some low ↦ too_short (omega (arith, some, len)) (omega (arith, low, told_front x y some))
      | too_long some high ↦ too_long (omega (arith, some, len)) (omega (arith, high, told_front x y some))
      | no_event some none ↦
          let same = told_front x y (omega (arith, some)) in
          let body : take (told (x ++ y)) (drop 4 (x ++ y)) ≡ take (told x) (drop 4 x) =
          ap (λ (n : ℕ). take n (drop 4 (x ++ y))) same
          ∙ ap (take (told x)) (drop-append-le 4 x y (omega (arith, some)))
          ∙ take-append-le (told x) (drop 4 x) y (omega (arith, some, length-drop 4 x)) in
          no_event (omega (arith, some, same, len)) (subst IsNoBody (sym body) none)
    ]

-- a malformed frame has bytes
not_empty : (x : List ℕ) → IsMalformed x → x ≡ [] → ⊥
not_empty x bad none = elim bad [
  | too_short some low ↦ omega (arith, some, ap length none)
  | too_long some high ↦ omega (arith, some, ap length none)
  | no_event some body ↦ omega (arith, some, ap length none)
]

-- the frames of what was gathered leave nothing, where it is a whole frame
one_frame : (held left : List ℕ) (events : List Event) → 4 ≤ length held → lacks held ≡ 0 → (told held ≤ longest_body → length held ≤ 4 + told held)
    → All HasFrame events → held ≡ stream_of events left → IsPartial left → left ≡ []
one_frame held left [] some none least each is partial =
    let same : held ≡ left = is in
    let so = (subst IsPartial (sym same) partial).so_far some in
    absurd (omega (arith, so.2, none, lacks_body held some so.1))
one_frame held left (e ∷ events) some none least each is partial =
    let has = All-head HasFrame e events each in
    let parts = is ∙ stream_cons e events left in
    let tells : told held ≡ length (event_body e) = ap told parts ∙ told_frame e (stream_of events left) has in
    let low : told held ≤ longest_body = omega (arith, tells, has.short) in
    let size : length held ≡ 4 + length (event_body e) + length (stream_of events left) =
    omega (arith, ap length parts, length-append (frame e) (stream_of events left)) in
    drop_all 0 left (omega (arith, size, tells, least low, length-append (flat_map frame events) left))

pub left_or_rest : (old piece : List ℕ) (cut : ℕ) (held left : List ℕ) (events : List Event) → IsGathered old piece cut held
    → All HasFrame events → held ≡ stream_of events left → IsPartial left → (left ≡ []) ⊎ (drop cut piece ≡ [])
left_or_rest old piece cut held left events gathered each is partial = elim gathered.whole [
  | inr q ↦ inr q
  | inl none ↦ inl (by (ltb (length held) 4) (ltb 0 (length held)) refl refl none)
] where
  by : (b a : Bool) → ltb (length held) 4 ≡ b → ltb 0 (length held) ≡ a → lacks held ≡ 0 → left ≡ []
  by true true q p none = absurd (omega (arith, none, ltb-true (length held) 4 q, lacks_length held (ltb-true 0 (length held) p) (ltb-true (length held) 4 q)))
  by true false q p none = drop_all 0 left (omega (arith, ltb-false 0 (length held) p, ap length is, length-append (flat_map frame events) left))
  by false a q p none = let some = ltb-false (length held) 4 q in one_frame held left events some none (gathered.least some) each is partial

-- what is held with what of the piece was not gathered, is what was held before with the whole piece
joined : (old piece : List ℕ) (cut : ℕ) (held : List ℕ) → IsGathered old piece cut held → old ++ piece ≡ held ++ drop cut piece
joined old piece cut held gathered =
    ap (λ (x : List ℕ). old ++ x) (sym (take-append-drop cut piece))
    ∙ sym (append_assoc old (take cut piece) (drop cut piece))
    ∙ ap (λ (x : List ℕ). x ++ drop cut piece) (sym gathered.items)

stream_behind : (events : List Event) (left more : List ℕ) → stream_of events left ++ more ≡ stream_of events (left ++ more)
stream_behind events left more = append_assoc (flat_map frame events) left more

-- ---- what a piece gives

-- where a malformed frame was gathered
pub fails_front : (old piece : List ℕ) (cut : ℕ) (held kept : List ℕ) (events : List Event) (front : Taken)
    → IsGathered old piece cut held → Takes held [] events front → front.bad ≡ true → kept ≡ []
    → Feeds (old ++ piece) events true (record { rest = kept; failed = true })
fails_front old piece cut held kept events front gathered takes bad none =
    let left = drop front.used held in
    let stream = joined old piece cut held gathered ∙ ap (λ (x : List ℕ). x ++ drop cut piece) takes.stream
    ∙ stream_behind events left (drop cut piece) in
    record {
      each = takes.each (All-nil HasFrame);
      flag = refl;
      good = λ q. absurd (let e : true ≡ false = q in cc);
      malformed = λ _. (none, left ++ drop cut piece, stream, malformed_more left (drop cut piece) (takes.malformed bad));
    }

module _ (old piece : List ℕ) (cut : ℕ) (held kept : List ℕ) (first events : List Event) (front behind : Taken)
    (gathered : IsGathered old piece cut held) (takes : Takes held [] first front) (sound : front.bad ≡ false)
    (more : Takes (drop cut piece) first events behind) where
  -- where all that was gathered was taken
  stream_on : drop front.used held ≡ [] → old ++ piece ≡ stream_of events (drop behind.used (drop cut piece))
  stream_on none =
      joined old piece cut held gathered ∙ ap (λ (x : List ℕ). x ++ drop cut piece) takes.stream
      ∙ ap (λ (x : List ℕ). stream_of first x ++ drop cut piece) none
      ∙ stream_behind first [] (drop cut piece) ∙ more.stream

  -- where nothing of the piece is left
  stream_held : drop cut piece ≡ [] → old ++ piece ≡ stream_of events (drop front.used held)
  stream_held none =
      let left = drop front.used held in
      let rest : drop behind.used (drop cut piece) ≡ [] = ap (drop behind.used) none ∙ drop_all behind.used [] (omega arith) in
      let same : flat_map frame first ≡ flat_map frame events =
      sym (append-nil (flat_map frame first)) ∙ ap (stream_of first) (sym none) ∙ more.stream ∙ ap (stream_of events) rest ∙ append-nil (flat_map frame events) in
      joined old piece cut held gathered ∙ ap (λ (x : List ℕ). held ++ x) none ∙ append-nil held
      ∙ takes.stream ∙ ap (λ (x : List ℕ). x ++ left) same

  ends : (drop front.used held ≡ []) ⊎ (drop cut piece ≡ [])
  ends = left_or_rest old piece cut held (drop front.used held) first gathered (takes.each (All-nil HasFrame)) takes.stream (takes.good sound)

  -- where a malformed frame stands in the piece
  pub fails_behind : behind.bad ≡ true → kept ≡ [] → Feeds (old ++ piece) events true (record { rest = kept; failed = true })
  fails_behind bad none =
      let malformed = more.malformed bad in
      let stream : old ++ piece ≡ stream_of events (drop behind.used (drop cut piece)) = elim ends [
        | inl left ↦ stream_on left
        | inr rest ↦ absurd (not_empty (drop behind.used (drop cut piece)) malformed (ap (drop behind.used) rest ∙ drop_all behind.used [] (omega arith)))
      ] in
      record {
        each = more.each (takes.each (All-nil HasFrame));
        flag = refl;
        good = λ q. absurd (let e : true ≡ false = q in cc);
        malformed = λ _. (none, drop behind.used (drop cut piece), stream, malformed);
      }

  -- where less than a frame is left
  pub goes_on : behind.bad ≡ false → kept ≡ drop front.used (held ++ drop behind.used (drop cut piece))
      → Feeds (old ++ piece) events false (record { rest = kept; failed = false })
  goes_on good is =
      let left = drop front.used held in
      let rest = drop behind.used (drop cut piece) in
      let parts : kept ≡ left ++ rest = is ∙ drop-append-le front.used held rest takes.within in
      let both : (old ++ piece ≡ stream_of events (left ++ rest)) × IsPartial (left ++ rest) = elim ends [
        | inl none ↦
            let only : rest ≡ left ++ rest = sym (ap (λ (x : List ℕ). x ++ rest) none) in
            (stream_on none ∙ ap (stream_of events) only, subst IsPartial only (more.good good))
        | inr none ↦
            let empty : rest ≡ [] = ap (drop behind.used) none ∙ drop_all behind.used [] (omega arith) in
            let only : left ≡ left ++ rest = sym (ap (λ (x : List ℕ). left ++ x) empty ∙ append-nil left) in
            (stream_held none ∙ ap (stream_of events) only, subst IsPartial only (takes.good sound))
      ] in
      record {
        each = more.each (takes.each (All-nil HasFrame));
        flag = refl;
        good = λ _. (both.0 ∙ ap (stream_of events) (sym parts), subst IsPartial (sym parts) both.1);
        malformed = λ q. absurd (let e : false ≡ true = q in cc);
      }

-- the same of equal bytes and events
pub takes_of : (bytes other : List ℕ) (old before new : List Event) (taken : Taken) → other ≡ bytes → before ≡ old → Takes other before new taken
    → Takes bytes old new taken
takes_of bytes other old before new taken same none takes =
    subst (λ (es : List Event). Takes bytes es new taken) none (subst (λ (x : List ℕ). Takes x before new taken) same takes)
