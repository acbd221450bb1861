-- What a decoder finds at the front of a stream, and what it gathers of a frame that has begun.
use Rattle.std.specs.Prelude.{◌≡◌, ◌<◌, ◌≤◌, ◌+◌, ◌-◌, ℕ, true, false, nat_lt, if◌then◌else◌, List, ◌++◌, ◌∷◌, length, min, take, drop, All, [], ◌⊎◌, Bool, Option, Some, None, Vec}
use Rattle.pps_types.specs.Bytes.{is_empty}
use Rattle.pps_types.specs.declared.event.Event.{Event}
use Rattle.pps_types.specs.declared.event.Request.{Request}
use Rattle.pps_types.specs.Frame as frames
use Rattle.pps_types.specs.Frame.{told, longest_body, stream_of, HasFrame, Held, Feeds, IsPartial, IsMalformed, front_of}
use Rattle.frame_codec.specs.declared.decoder.Front.{Front}
use Rattle.frame_codec.specs.declared.decoder.Front.TheVariants.{Whole, Partial, Malformed}
use Rattle.frame_codec.specs.declared.decoder.Taken.{Taken}
use Rattle.frame_codec.specs.declared.decoder.Fed.{Fed}

-- this event was added behind the old ones, or none was where there is none
abbrev pub IsAdded : Option Event → List Event → List Event → Bool → Type 0
IsAdded found old new true = (event : Event) × (found ≡ Some event) × (new ≡ old ++ event ∷ [])
IsAdded found old new false = (found ≡ None) × (new ≡ old)

-- likewise with a request of this connection
abbrev pub IsPushed : ℕ → Option Request → List Event → List Event → Bool → Type 0
IsPushed conn found old new true = (request : Request) × (found ≡ Some request) × (new ≡ old ++ record { conn = conn; request = request } ∷ [])
IsPushed conn found old new false = (found ≡ None) × (new ≡ old)

-- the same of a vector of events
abbrev pub Pushes : {A : Type 0} → ℕ → Option Request → (old new : Vec Event A) → Bool → Type 0
Pushes conn found old new = IsPushed conn found old.items new.items

-- What the definition finds at the front. The event of a whole frame was added, and the frame takes some bytes, and no more than are there.
abbrev pub IsFirst : List ℕ → List Event → List Event → Front → Type 0
IsFirst bytes old new (Whole len) = (event : Event) × (frames.Whole event (drop len bytes) ≡ front_of bytes) × (new ≡ old ++ event ∷ []) × (0 < len) × (len ≤ length bytes)
IsFirst bytes old new Partial = (frames.Partial ≡ front_of bytes) × (new ≡ old)
IsFirst bytes old new Malformed = (frames.Wrong ≡ front_of bytes) × (new ≡ old)

-- The frames at the front of the bytes are those of the events that were added; less than a frame follows, or a malformed one.
pub record Takes (bytes : List ℕ) (old new : List Event) (taken : Taken) : Type 0 where
  pub within : taken.used ≤ length bytes
  pub stream : stream_of old bytes ≡ stream_of new (drop taken.used bytes)
  pub each : All HasFrame old → All HasFrame new
  pub good : taken.bad ≡ false → IsPartial (drop taken.used bytes)
  pub malformed : taken.bad ≡ true → IsMalformed (drop taken.used bytes)

-- how many bytes more a frame wants that begins so: its length first, and then its body
abbrev pub lacks : List ℕ → ℕ
lacks bytes =
    if is_empty bytes then 0 else (
    if nat_lt (length bytes) 4 then 4 - length bytes else (
    if nat_lt longest_body (told bytes) then 0 else 4 + told bytes - length bytes))

-- so many bytes of a piece were added: what a frame lacks that begins so, as far as it is there
abbrev pub AddsLacking : (old piece : List ℕ) → (cut : ℕ) → (new : List ℕ) → Type 0
AddsLacking old piece cut new = (cut ≡ min (lacks old) (length piece)) × (new ≡ old ++ take cut piece)

-- what makes a frame that has begun whole is gathered, as far as it is there
pub record IsGathered (old piece : List ℕ) (cut : ℕ) (new : List ℕ) : Type 0 where
  pub within : cut ≤ length piece
  pub items : new ≡ old ++ take cut piece
  pub whole : lacks new ≡ 0 ⊎ drop cut piece ≡ []
  pub least : 4 ≤ length new → told new ≤ longest_body → length new ≤ 4 + told new

-- ---- a piece of a stream

-- it was taken after the bytes that were held: these requests are whole now, and this is held
abbrev pub FeedsPiece : (held piece : List ℕ) → Fed → Held → Type 0
FeedsPiece held piece fed new = Feeds (held ++ piece) fed.events.items fed.bad new

-- the same, where these bytes are left, and a malformed frame is remembered
abbrev pub FeedsBytes : (held piece : List ℕ) → Fed → (left : List ℕ) → Type 0
FeedsBytes held piece fed left = Feeds (held ++ piece) fed.events.items fed.bad (record { rest = left; failed = fed.bad })
