-- What became of a stream, once all that was held is sent.
use Rattle.std.proofs.Common.{◌≡◌, ℕ, length, take, true, false, List, [], ◌++◌, Option, Result, Ok, Err, refl, sym, ap, subst, append-nil}
use Rattle.std.proofs.lemmas.List.Elements.{All-nil}
use Rattle.std.proofs.Math.Seq.{take-length}
use Rattle.std.specs.Io.KnownBytes.{Appends}
use Rattle.pps_types.specs.Content.{Content}
use Rattle.pps_types.specs.Frame.{HasFrame}
use Rattle.pps_types.specs.Writing.{SendsPart}
use Rattle.pps_types.proofs.KnownBytes.{Appends-none, Appends-same, Consumes-none, keeps_itself}
use Rattle.pps_engine.proofs.Runs.{runs-stand}
use Rattle.pps_types.proofs.Writing.{holds-part, holds-sent, part-more}
use Rattle.frame_codec.specs.declared.ends.Ended.{Ended}
use Rattle.frame_codec.specs.declared.ends.Ended.TheVariants.{Clean}
use Rattle.pps_frame.specs.declared.ends.RunError.{RunError}
use Rattle.pps_frame.specs.declared.ends.RunError.TheVariants.{OutOfMemory, ReadFault, WriteFault}
use Rattle.pps_frame.specs.Served.{answers_of, closing, Stops, Ran}
use Rattle.pps_frame.specs.Sent.{StopsStream, RunsStream, ends_cut_off}
use Rattle.pps_frame.proofs.Streams.{may-end}

-- nothing was read
pub stops-first : (from before : Option (List ℕ)) (c : Content) → Stops from from before before c c
stops-first from before c = record {
  answered = [];
  tail = [];
  ended = Clean;
  sent = 0;
  served = record { each = All-nil HasFrame; read = Consumes-none from from (keeps_itself from); runs = runs-stand [] c c refl; seen = refl };
  behind = tt;
  written = Appends-none before;
}

-- where reading or writing failed, nothing more is sent
pub ran-cut_off : (from to before after : Option (List ℕ)) (left : List ℕ) (old new : Content) (r : Result Ended RunError) → ends_cut_off r ≡ true
    → RunsStream from to before after left old new r → Ran from to before after old new r
ran-cut_off from to before after left old new (Err ReadFault) cut s = s
ran-cut_off from to before after left old new (Err WriteFault) cut s = record {
  answered = s.answered;
  tail = s.tail;
  ended = s.ended;
  sent = s.written.sent;
  served = s.served;
  behind = s.behind;
  written = s.written.written;
}
ran-cut_off from to before after left old new (Ok ended) cut s = absurd (let h = cut in cc)
ran-cut_off from to before after left old new (Err OutOfMemory) cut s = absurd (let h = cut in cc)

-- else all that is held is sent, or a part of it
module _ (from to before middle after : Option (List ℕ)) (left : List ℕ) (old new : Content) where
  -- the first of what answers the stream, if a part of these is written
  first-part : (s : StopsStream OutOfMemory from to before middle left old new) → SendsPart before after s.written.first → Stops from to before after old new
  first-part s sends =
      let part = part-more before after s.written.first s.written.others sends in
      record {
        answered = s.answered;
        tail = s.tail;
        ended = s.ended;
        sent = part.sent;
        served = s.served;
        behind = s.behind;
        written = Appends-same before after _ _ (ap (take part.sent) (sym s.written.parts)) part.written;
      }

  pub ran-sent : (r : Result Ended RunError) → ends_cut_off r ≡ false → RunsStream from to before middle left old new r → Appends middle after left
      → Ran from to before after old new r
  ran-sent (Ok ended) whole s sends = record {
    answered = s.answered;
    tail = s.tail;
    served = s.served;
    behind = s.behind;
    written = holds-sent before middle after left _ s.written sends;
  }
  ran-sent (Err OutOfMemory) whole s sends =
      first-part s record {
        sent = length s.written.first;
        written = Appends-same before after _ _ (sym (take-length s.written.first)) (holds-sent before middle after left s.written.first s.written.written sends);
      }
  ran-sent (Err ReadFault) whole s sends = absurd (let h = whole in cc)
  ran-sent (Err WriteFault) whole s sends = absurd (let h = whole in cc)

  pub ran-unsent : (r : Result Ended RunError) → ends_cut_off r ≡ false → RunsStream from to before middle left old new r → SendsPart middle after left
      → Stops from to before after old new
  ran-unsent (Ok ended) whole s sends =
      let part = holds-part before middle after left _ [] s.written (subst (λ t. SendsPart middle after t) (sym (append-nil left)) sends) in
      record {
        answered = s.answered;
        tail = s.tail;
        ended = ended;
        sent = part.sent;
        served = s.served;
        behind = may-end ended s.tail to s.behind;
        written = Appends-same before after _ _ (ap (take part.sent) (append-nil (answers_of s.answered ++ closing ended))) part.written;
      }
  ran-unsent (Err OutOfMemory) whole s sends =
      first-part s (subst (λ t. SendsPart before after t) (append-nil s.written.first)
      (holds-part before middle after left s.written.first [] s.written.written (subst (λ t. SendsPart middle after t) (sym (append-nil left)) sends)))
  ran-unsent (Err ReadFault) whole s sends = absurd (let h = whole in cc)
  ran-unsent (Err WriteFault) whole s sends = absurd (let h = whole in cc)
