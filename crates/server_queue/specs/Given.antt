-- What a read gives of blocks, the longest run of whole ones that fits, and what refuses it.
use Rattle.std.specs.Prelude.{◌≡◌, ◌≢◌, ◌<◌, ◌≤◌, ◌+◌, ◌^◌, ◌++◌, ◌⊎◌, ℕ, List, [], ◌∷◌, Bool, true, false, Option, Some, None, Result, IfOk, length, nat_lt, if◌then◌else◌}
use Rattle.pps_types.specs.declared.refusal.Refusal.{Refusal}
use Rattle.pps_types.specs.declared.refusal.Refusal.TheVariants.{TooSmall, OutOfMemory}
use Rattle.pps_types.specs.Names.{refusal_of}
use Rattle.pps_types.specs.Reading.{Answer, Needs, fitting, owed_answer}
use Rattle.server_queue.specs.declared.fitting.Fitting.{Fitting}
use Rattle.server_queue.specs.declared.plan.GivenBlocks.{GivenBlocks}

-- ---- what refuses a read

abbrev pub needed : Answer → Option Refusal
needed (Needs n) = Some (TooSmall n)
needed answer = None

-- what refuses a read of these: the first does not fit
abbrev pub refused_for : ℕ → List (List ℕ) → Option Refusal
refused_for max blocks = needed (owed_answer false blocks false max)

abbrev pub first_len : List (List ℕ) → ℕ
first_len [] = 0
first_len (b ∷ bs) = length b

-- the refusal of a read that needs so many bytes, which are a number of 32 bits or else more than there is memory for
abbrev pub needs : ℕ → Refusal
needs n = if nat_lt n (2 ^ 32) then TooSmall n else OutOfMemory

-- the same, if it is known how many these are; else they are no number of 64 bits
abbrev pub needs_len : Option ℕ → Refusal
needs_len None = OutOfMemory
needs_len (Some n) = needs n

-- ---- what a read of so many bytes answers, of the blocks that are owed

-- it gives the longest run of whole ones that fits
abbrev pub GivesFitting : ℕ → List (List ℕ) → Result GivenBlocks Refusal → Type 0
GivesFitting max blocks result = IfOk result (λ g. (g.count, g.text.items) ≡ fitting max blocks)

-- unless memory runs out, it is refused just if the first does not fit
abbrev pub RefusesTooSmall : {X : Type 0} → ℕ → List (List ℕ) → Result X Refusal → Type 0
RefusesTooSmall max blocks result = refusal_of result ≢ Some OutOfMemory → refusal_of result ≡ refused_for max blocks

-- memory runs out only if the first fits, or its length is no number of 32 bits
abbrev pub ChecksSizeFirst : {X : Type 0} → ℕ → List (List ℕ) → Result X Refusal → Type 0
ChecksSizeFirst max blocks result =
    refusal_of result ≡ Some OutOfMemory → first_len blocks < 2 ^ 32 → refused_for max blocks ≡ None

-- memory runs out only if there is a block
abbrev pub NeedsMemoryForBlocks : {X : Type 0} → List (List ℕ) → Result X Refusal → Type 0
NeedsMemoryForBlocks blocks result = refusal_of result ≡ Some OutOfMemory → 0 < length blocks

-- ---- one block more

-- nothing is given yet, and there is room for so many bytes
pub record GivesNothing (max : ℕ) (run : Fitting) : Type 0 where
  pub count : run.given.count ≡ 0
  pub text : run.given.text.items ≡ []
  pub room : run.room ≡ max

-- the block is given after all others, and takes its part of the room
pub record Gives (block : List ℕ) (old new : Fitting) : Type 0 where
  pub count : new.given.count ≡ old.given.count + 1
  pub text : new.given.text.items ≡ old.given.text.items ++ block
  pub room : new.room + length block ≡ old.room

-- the run ends before the block: others are given, and it is longer than the room that they leave
pub record EndsBefore (block : List ℕ) (old new : Fitting) : Type 0 where
  pub some : 0 < old.given.count
  pub long : old.room < length block
  pub same : new ≡ old

-- the same is given, and there is as much room
pub record GivesTheSame (old new : Fitting) : Type 0 where
  pub count : new.given.count ≡ old.given.count
  pub text : new.given.text.items ≡ old.given.text.items
  pub room : new.room ≡ old.room

-- it says whether the block is given, which is so just if there is room for it
abbrev pub GivesIfItFits : List ℕ → Fitting → Fitting → Bool → Type 0
GivesIfItFits block old new true = Gives block old new
GivesIfItFits block old new false = EndsBefore block old new

-- the block would be the first, and is longer than all the room: the refusal says which size it needs
pub record NeedsItsSize (block : List ℕ) (run : Fitting) (refusal : Refusal) : Type 0 where
  pub first : run.given.count ≡ 0
  pub long : run.room < length block
  pub size : refusal ≡ needs (length block)

-- there is room for the block, but no memory
pub record NeedsItsMemory (block : List ℕ) (run : Fitting) (refusal : Refusal) : Type 0 where
  pub fits : length block ≤ run.room
  pub memory : refusal ≡ OutOfMemory

-- what refuses a read at a block
abbrev pub RefusesBlock : List ℕ → Fitting → Refusal → Type 0
RefusesBlock block run refusal = NeedsItsSize block run refusal ⊎ NeedsItsMemory block run refusal
