-- What a service does with a stream of requests: what it reads, what it answers, and where it stops.
use Rattle.std.specs.Prelude.{◌≡◌, ◌≢◌, ◌⊎◌, ℕ, ◌+◌, min, Bool, true, false, List, [], ◌++◌, take, All, Option, Result, Ok, Err}
use Rattle.std.specs.List.{flat_map}
use Rattle.std.specs.Io.KnownBytes.{Appends, Consumes, IsAtEnd}
use Rattle.pps_types.specs.Content.{Content}
use Rattle.pps_types.specs.Device.{counted_once_more, last_count}
use Rattle.pps_types.specs.Frame.{HasFrame, stream_of, IsPartial, IsMalformed, answer_frame, bad_frame}
use Rattle.pps_types.specs.Runs.{Answered, events_of}
use Rattle.pps_types.specs.Stands.{Runs, RunsSeen}
use Rattle.frame_codec.specs.declared.ends.Ended.{Ended}
use Rattle.frame_codec.specs.declared.ends.Ended.TheVariants.{Clean, Malformed, Truncated}
use Rattle.frame_codec.specs.Ends.{IsTail}
use Rattle.pps_frame.specs.declared.ends.RunError.{RunError}
use Rattle.pps_frame.specs.declared.ends.RunError.TheVariants.{OutOfMemory, ReadFault, WriteFault}

-- the frames of the answers
abbrev pub answers_of : List Answered → List ℕ
answers_of answered = flat_map (λ x. answer_frame x.event.conn x.reply) answered

-- what is written behind the answers
abbrev pub closing : Ended → List ℕ
closing Clean = []
closing Truncated = bad_frame
closing Malformed = bad_frame

-- The events were taken from the bytes that were read, in order, and these answers are the machine's.
pub record Serves (from to : Option (List ℕ)) (old new : Content) (answered : List Answered) (tail : List ℕ) : Type 0 where
  pub each : All HasFrame (events_of answered)
  pub read : Consumes from to (stream_of (events_of answered) tail)
  pub runs : Runs old answered new
  pub seen : RunsSeen old answered new

-- All whole frames that were read are answered, then the end is told where it is no clean one, and nothing else is written.
pub record AnswersAll (from to before after : Option (List ℕ)) (old new : Content) (ended : Ended) : Type 0 where
  pub answered : List Answered
  pub tail : List ℕ
  pub served : Serves from to old new answered tail
  pub behind : IsTail ended tail to
  pub written : Appends before after (answers_of answered ++ closing ended)

-- whether the end may be among what is told
abbrev pub MayEnd : Ended → List ℕ → Option (List ℕ) → Type 0
MayEnd Clean tail left = Unit {0}
MayEnd Truncated tail left = IsTail Truncated tail left
MayEnd Malformed tail left = IsTail Malformed tail left

-- No more could be read: all whole frames that were read are answered, and nothing else is written.
pub record AnswersWhole (from to before after : Option (List ℕ)) (old new : Content) : Type 0 where
  pub answered : List Answered
  pub tail : List ℕ
  pub served : Serves from to old new answered tail
  pub behind : IsPartial tail
  pub written : Appends before after (answers_of answered)

-- The first whole frames that were read are taken, and a part of what answers them is written.
pub record Stops (from to before after : Option (List ℕ)) (old new : Content) : Type 0 where
  pub answered : List Answered
  pub tail : List ℕ
  pub ended : Ended
  pub sent : ℕ
  pub served : Serves from to old new answered tail
  pub behind : MayEnd ended tail to
  pub written : Appends before after (take sent (answers_of answered ++ closing ended))

-- what became of a stream
abbrev pub Ran : (from to before after : Option (List ℕ)) → Content → Content → Result Ended RunError → Type 0
Ran from to before after old new (Ok ended) = AnswersAll from to before after old new ended
Ran from to before after old new (Err ReadFault) = AnswersWhole from to before after old new
Ran from to before after old new (Err OutOfMemory) = Stops from to before after old new
Ran from to before after old new (Err WriteFault) = Stops from to before after old new

-- after how many reads an input counts as one that can't be read
abbrev pub most_reads : ℕ
most_reads = 4294967295

-- so many reads after others, as far as they are counted
abbrev pub reads_from : ℕ → ℕ → ℕ
reads_from n more = min (n + more) last_count

-- a fault is told where the device failed, after the last read, or where a write took nothing
abbrev pub FaultsAre : Result Ended RunError → (read_failed write_failed : Bool) → (reads_old reads_new stalls_old stalls_new : ℕ) → Type 0
FaultsAre (Ok ended) r w reads_old reads_new stalls_old stalls_new = (r ≡ false) × (w ≡ false)
FaultsAre (Err OutOfMemory) r w reads_old reads_new stalls_old stalls_new = (r ≡ false) × (w ≡ false)
FaultsAre (Err ReadFault) r w reads_old reads_new stalls_old stalls_new = ((r ≡ true) ⊎ (reads_new ≡ reads_from reads_old most_reads)) × (w ≡ false)
FaultsAre (Err WriteFault) r w reads_old reads_new stalls_old stalls_new = (r ≡ false) × ((w ≡ true) ⊎ (stalls_new ≡ counted_once_more stalls_old))
