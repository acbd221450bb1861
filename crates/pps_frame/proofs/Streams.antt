-- A stream of requests that is served piece after piece: what was read, answered and held so far.
use Rattle.std.proofs.Common.{◌≡◌, ◌<◌, ℕ, arith, Bool, true, false, List, [], ◌++◌, length, take, All, Option, Result, Ok, Err, refl, sym, ap, subst, ◌∙◌, append_assoc, append-nil}
use Rattle.std.specs.List.{flat_map}
use Rattle.std.specs.Io.KnownBytes.{Appends, Consumes, IsAtEnd, ReadConsumes}
use Rattle.std.proofs.lemmas.Grind.{flat_map-append}
use Rattle.std.proofs.lemmas.List.Elements.{All-nil, All-append, All-take}
use Rattle.std.proofs.Math.Seq.{take-append_seam}
use Rattle.pps_types.specs.declared.event.Event.{Event}
use Rattle.pps_types.specs.Content.{Content}
use Rattle.pps_types.specs.Frame.{HasFrame, frame, stream_of, Held, Feeds, IsMalformed, IsPartial}
use Rattle.pps_types.specs.Runs.{Answered, events_of}
use Rattle.pps_types.specs.Writing.{SendsPart, Holds}
use Rattle.pps_types.proofs.KnownBytes.{Appends-same, Consumes-none, Consumes-then, Consumes-same, keeps_itself}
use Rattle.pps_engine.proofs.Runs.{runs-append, runs-stand}
use Rattle.pps_types.proofs.Writing.{holds-none, holds-then, holds-part, holds-sent}
use Rattle.frame_codec.specs.declared.ends.Ended.{Ended}
use Rattle.frame_codec.specs.declared.ends.Ended.TheVariants.{Clean, Truncated, Malformed}
use Rattle.pps_frame.specs.declared.ends.RunError.{RunError}
use Rattle.pps_frame.specs.declared.ends.RunError.TheVariants.{OutOfMemory, ReadFault, WriteFault}
use Rattle.frame_codec.specs.Ends.{IsTail}
use Rattle.pps_frame.specs.Served.{answers_of, closing, MayEnd, Serves, AnswersWhole}
use Rattle.pps_frame.specs.Sent.{AnswersFirst, ServesAll, ServesPart, ServesPiece, StopsInPiece, AnswersEndOr, Goes, HoldsAll, StopsStream, RunsStream}
use Rattle.pps_frame.proofs.Taken.{events-append, answers-append, first-then, first-none}

stream-append : (first second : List Event) (tail : List ℕ) → stream_of (first ++ second) tail ≡ stream_of first (stream_of second tail)
stream-append first second tail =
    ap (λ (x : List ℕ). x ++ tail) (flat_map-append frame first second) ∙ append_assoc (flat_map frame first) (flat_map frame second) tail

-- ---- one piece

-- what comes after the events that a piece gave
rest-of : (stream : List ℕ) (events : List Event) (bad : Bool) (held : Held) → Feeds stream events bad held
    → (tail : List ℕ) × (stream ≡ stream_of events tail)
rest-of stream events true held fed = let m = fed.malformed refl in (m.1, m.2)
rest-of stream events false held fed = (held.rest, (fed.good refl).0)

pub piece-served : (a b : Option (List ℕ)) (held left : List ℕ) (old new : Content) (stream : List ℕ) (events : List Event) (bad : Bool) (rest : Held)
    → Feeds stream events bad rest → ServesAll a held b left old new events → ServesPiece a held b left old new stream rest bad
piece-served a b held left old new stream events bad rest fed all = record {
  answered = all.answered;
  fed = subst (λ (es : List Event). Feeds stream es bad rest) (sym all.same) fed;
  seen = all.seen;
  written = all.written;
}

pub piece-stops : (fault : RunError) (a b : Option (List ℕ)) (held left : List ℕ) (old new : Content) (stream : List ℕ) (events : List Event) (bad : Bool) (rest : Held)
    → Feeds stream events bad rest → ServesPart fault a held b left old new events → StopsInPiece fault a held b left old new stream
piece-stops fault a b held left old new stream events bad rest fed part =
    let others = rest-of stream events bad rest fed in
    let each = subst (All HasFrame) part.parts fed.each in
    record {
      answered = part.answered;
      tail = stream_of part.more others.0;
      each = subst (All HasFrame) (take-append_seam (events_of part.answered) part.more) (All-take HasFrame (length (events_of part.answered)) (events_of part.answered ++ part.more) each);
      whole = others.1 ∙ ap (λ (es : List Event). stream_of es others.0) part.parts ∙ stream-append (events_of part.answered) part.more others.0;
      seen = part.seen;
      written = part.written;
    }

-- a piece for which memory was wanting
pub piece-refused : (a : Option (List ℕ)) (held : List ℕ) (c : Content) (stream : List ℕ) → StopsInPiece OutOfMemory a held a held c c stream
piece-refused a held c stream = record {
  answered = [];
  tail = stream;
  each = All-nil HasFrame;
  whole = refl;
  seen = refl;
  written = first-none a held [];
}

-- ---- piece after piece

pub goes-none : (from before : Option (List ℕ)) (c : Content) (rest : List ℕ) → rest ≡ [] → Goes from from before before [] c c rest
goes-none from before c rest none = record {
  answered = [];
  each = All-nil HasFrame;
  read = Consumes-same from from _ _ (sym none) (Consumes-none from from (keeps_itself from));
  seen = refl;
  written = holds-none before;
}

serves-of : (from to before after : Option (List ℕ)) (left : List ℕ) (old new : Content) (tail : List ℕ) → (goes : Goes from to before after left old new tail)
    → Serves from to old new goes.answered tail
serves-of from to before after left old new tail goes = record {
  each = goes.each;
  read = goes.read;
  runs = runs-stand goes.answered old new goes.seen;
  seen = goes.seen;
}

-- an end may be one of those that come before all is taken
pub may-end : (ended : Ended) (tail : List ℕ) (to : Option (List ℕ)) → IsTail ended tail to → MayEnd ended tail to
may-end Clean tail to is = tt
may-end Truncated tail to is = is
may-end Malformed tail to is = is

-- no bytes begin a frame
pub partial-none : (rest : List ℕ) → rest ≡ [] → IsPartial rest
partial-none rest none = record { so_far = λ long. absurd (omega (arith, long, ap length none)) }

-- a read of no bytes, into a buffer that has room
pub read-none : {E : Type 0} (old new : Option (List ℕ)) (r : Result ℕ E) (buffer : List ℕ) (n : ℕ) → ReadConsumes old new r buffer → r ≡ Ok n → n ≡ 0 → 0 < length buffer → Consumes old new [] × IsAtEnd new
read-none old new (Ok m) buffer n reads is zero room =
    let none : m ≡ 0 = (let same : m ≡ n = cc in same ∙ zero) in
    (subst (λ k. Consumes old new (take k buffer)) none reads.0, reads.1 none room)
read-none old new (Err e) buffer n reads is zero room = absurd (let h = is in cc)

module _ (from here before middle : Option (List ℕ)) (left : List ℕ) (old next : Content) (rest : List ℕ) (goes : Goes from here before middle left old next rest) where
  -- all that was held is sent, and then more can be read
  pub goes-sent : (here' sent after : Option (List ℕ)) (none : List ℕ) → here' ≡ here → Appends middle sent left → after ≡ sent → none ≡ []
      → Goes from here' before after none old next rest
  goes-sent here' sent after none same sends is empty = record {
    answered = goes.answered;
    each = goes.each;
    read = subst (λ t. Consumes from t (stream_of (events_of goes.answered) rest)) (sym same) goes.read;
    seen = goes.seen;
    written = record {
      sent = answers_of goes.answered;
      written = subst (λ t. Appends before t (answers_of goes.answered)) (sym is) (holds-sent before middle sent left _ goes.written sends);
      parts = sym (append-nil (answers_of goes.answered)) ∙ ap (λ t. answers_of goes.answered ++ t) (sym empty);
    };
  }

  -- or a part of it
  pub goes-unsent : (to after : Option (List ℕ)) (other : List ℕ) → to ≡ here → SendsPart middle after left → StopsStream WriteFault from to before after other old next
  goes-unsent to after other same sends = record {
    answered = goes.answered;
    tail = rest;
    ended = Clean;
    served = subst (λ t. Serves from t old next goes.answered rest) (sym same) (serves-of from here before middle left old next rest goes);
    behind = tt;
    written = holds-part before middle after left (answers_of goes.answered) [] goes.written (subst (λ t. SendsPart middle after t) (sym (append-nil left)) sends);
  }

  -- no more can be read
  pub goes-whole : (to : Option (List ℕ)) → Consumes here to [] → left ≡ [] → IsPartial rest → AnswersWhole from to before middle old next
  goes-whole to reads none partial = record {
    answered = goes.answered;
    tail = rest;
    served = record {
      each = goes.each;
      read = Consumes-same from to _ _ (append-nil (stream_of (events_of goes.answered) rest)) (Consumes-then from here to _ [] goes.read reads);
      runs = runs-stand goes.answered old next goes.seen;
      seen = goes.seen;
    };
    behind = partial;
    written = Appends-same before middle _ _ (sym (goes.written.parts ∙ ap (λ t. goes.written.sent ++ t) none ∙ append-nil goes.written.sent)) goes.written.written;
  }

  -- the end of what is read
  pub goes-end : (to : Option (List ℕ)) → Consumes here to [] → Goes from to before middle left old next rest
  goes-end to reads = record {
    answered = goes.answered;
    each = goes.each;
    read = Consumes-same from to _ _ (append-nil (stream_of (events_of goes.answered) rest)) (Consumes-then from here to _ [] goes.read reads);
    seen = goes.seen;
    written = goes.written;
  }

  module _ (to after : Option (List ℕ)) (other : List ℕ) (new : Content) (piece : List ℕ) (reads : Consumes here to piece) where
    -- what was read so far, with the frames of the piece
    read-on : (answered : List Answered) (tail : List ℕ) → rest ++ piece ≡ stream_of (events_of answered) tail
        → Consumes from to (stream_of (events_of (goes.answered ++ answered)) tail)
    read-on answered tail whole =
        let parts : stream_of (events_of goes.answered) rest ++ piece ≡ stream_of (events_of (goes.answered ++ answered)) tail =
        append_assoc (flat_map frame (events_of goes.answered)) rest piece
        ∙ ap (stream_of (events_of goes.answered)) whole
        ∙ sym (stream-append (events_of goes.answered) (events_of answered) tail)
        ∙ ap (λ (es : List Event). stream_of es tail) (sym (events-append goes.answered answered)) in
        Consumes-same from to _ _ parts (Consumes-then from here to _ piece goes.read reads)

    each-on : (answered : List Answered) → All HasFrame (events_of answered) → All HasFrame (events_of (goes.answered ++ answered))
    each-on answered each =
        subst (All HasFrame) (sym (events-append goes.answered answered)) (All-append HasFrame (events_of goes.answered) (events_of answered) goes.each each)

    written-on : (answered : List Answered) → Holds middle after other (left ++ answers_of answered) → Holds before after other (answers_of (goes.answered ++ answered))
    written-on answered written =
        subst (λ t. Holds before after other t) (sym (answers-append goes.answered answered))
        (holds-then before middle after left other (answers_of goes.answered) (answers_of answered) goes.written written)

    pub goes-on : (held : Held) → ServesPiece middle left after other next new (rest ++ piece) held false → Goes from to before after other old new held.rest
    goes-on held served = record {
      answered = goes.answered ++ served.answered;
      each = each-on served.answered served.fed.each;
      read = read-on served.answered held.rest (served.fed.good refl).0;
      seen = runs-append old next new goes.answered served.answered goes.seen served.seen;
      written = written-on served.answered served.written;
    }

    -- the malformed frame after the events of the piece
    pub goes-wrong : (held : Held) → ServesPiece middle left after other next new (rest ++ piece) held true
        → (tail : List ℕ) × Goes from to before after other old new tail × IsMalformed tail
    goes-wrong held served =
        let bad = served.fed.malformed refl in (
          bad.1,
          record {
            answered = goes.answered ++ served.answered;
            each = each-on served.answered served.fed.each;
            read = read-on served.answered bad.1 bad.2;
            seen = runs-append old next new goes.answered served.answered goes.seen served.seen;
            written = written-on served.answered served.written;
          },
          bad.3,
        )

    pub goes-stop : (fault : RunError) → StopsInPiece fault middle left after other next new (rest ++ piece) → StopsStream fault from to before after other old new
    goes-stop fault stops =
        let seen = runs-append old next new goes.answered stops.answered goes.seen stops.seen in
        record {
          answered = goes.answered ++ stops.answered;
          tail = stops.tail;
          ended = Clean;
          served = record {
            each = each-on stops.answered stops.each;
            read = read-on stops.answered stops.tail stops.whole;
            runs = runs-stand (goes.answered ++ stops.answered) old new seen;
            seen = seen;
          };
          behind = tt;
          written = subst (λ t. AnswersFirst fault before [] after other t) (sym (append-nil (answers_of (goes.answered ++ stops.answered)) ∙ answers-append goes.answered stops.answered))
              (first-then before middle after [] left other (answers_of goes.answered) (answers_of stops.answered) fault goes.written stops.written);
        }

-- a stream that stopped by a fault has ended so
pub stopped : (from to before after : Option (List ℕ)) (left : List ℕ) (old new : Content) (fault : RunError) → StopsStream fault from to before after left old new
    → RunsStream from to before after left old new (Err fault)
stopped from to before after left old new OutOfMemory s = s
stopped from to before after left old new WriteFault s = s
stopped from to before after left old new ReadFault s = absurd s.written

-- the end is answered, or a part of that
pub ends-so : (from to before middle after : Option (List ℕ)) (left other : List ℕ) (old new : Content) (tail : List ℕ) (ended : Ended) (result : Result Ended RunError)
    → Goes from to before middle left old new tail → IsTail ended tail to → AnswersEndOr middle left after other ended result → RunsStream from to before after other old new result
ends-so from to before middle after left other old new tail ended (Ok said) goes is (same, holds) =
    subst (λ (e : Ended). HoldsAll from to before after other old new e) (sym same) record {
      answered = goes.answered;
      tail = tail;
      served = serves-of from to before middle left old new tail goes;
      behind = is;
      written = holds-then before middle after left other (answers_of goes.answered) (closing ended) goes.written holds;
    }
ends-so from to before middle after left other old new tail ended (Err fault) goes is part =
    stopped from to before after other old new fault record {
      answered = goes.answered;
      tail = tail;
      ended = ended;
      served = serves-of from to before middle left old new tail goes;
      behind = may-end ended tail to is;
      written = first-then before middle after [] left other (answers_of goes.answered) (closing ended) fault goes.written part;
    }
