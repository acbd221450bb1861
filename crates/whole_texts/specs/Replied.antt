-- The late reply to a read that waits.
use Rattle.std.specs.Prelude.{◌≡◌, ℕ, ◌^◌, List, [], Bool, true, false, ◌||◌, nat_lt, nat_le, if◌then◌else◌, filter, length}
use Rattle.pps_types.specs.History.{Entry}
use Rattle.pps_types.specs.Reading as reading
use Rattle.pps_types.specs.Reading.{OpenHandle, Member, style, is_full_style, visible, everything_of, whole_answer, owed_answer}
use Rattle.pps_types.specs.Owed.{is_past_limit}
use Rattle.sub_reader.specs.declared.opening.Opening.{Opening}
use Rattle.sub_reader.specs.Opened.{opened}
use Rattle.sub_reader.specs.Blocks.{blocks_given}
use Rattle.whole_texts.specs.declared.reply.Reply.{Reply}
use Rattle.whole_texts.specs.declared.reply.Reply.TheVariants.{Everything, Blocks, TooSmall, Waits, Nothing}
use Rattle.whole_texts.specs.Woken.{Behind}

-- the answer that it stands for
abbrev pub meant : Reply → reading.Answer
meant (Everything text) = reading.Everything text.items
meant (Blocks count text) = reading.Blocks count text.items
meant (TooSmall need) = reading.Needs need
meant Waits = reading.Waits
meant Nothing = reading.Nothing

-- there are bytes to give, or a size is needed that is no number of 32 bits
abbrev pub wants_memory : reading.Answer → Bool
wants_memory (reading.Everything text) = nat_lt 0 (length text)
wants_memory (reading.Blocks count text) = true
wants_memory (reading.Needs n) = nat_le (2 ^ 32) n
wants_memory a = false

-- the reply takes memory
abbrev pub NeedsMemory : reading.Answer → Type 0
NeedsMemory a = wants_memory a ≡ true

-- ---- by what its open fixed of a handle

-- those of the records that it is given
abbrev pub entries_given : ℕ → Opening → List Entry → List Entry
entries_given target o es = filter (visible (opened target [] o)) es

-- they are more than it may be owed
abbrev pub is_given_too_many : ℕ → Opening → List Entry → Bool
is_given_too_many target o es = is_past_limit (opened target [] o) (filter (visible (opened target [] o)) es)

-- the blocks of those that it is given
abbrev pub blocks_for : ℕ → Opening → List Entry → List (List ℕ)
blocks_for target o es = blocks_given (opened target [] o) es

-- the late reply that gives blocks
abbrev pub blocks_by : ℕ → Opening → List Entry → ℕ → reading.Answer
blocks_by target o es size = owed_answer o.options.wait (blocks_for target o es) false size

-- ---- the whole reply

-- the late reply to a handle, whatever it has seen
abbrev pub reply_to : {S : Type 0} → OpenHandle S → List Entry → Bool → List Member → ℕ → reading.Answer
reply_to handle es alive members size =
    if is_past_limit handle (filter (visible handle) es) || is_full_style (style handle.kind)
    then whole_answer (everything_of handle.kind handle.options.filter (is_past_limit handle (filter (visible handle) es)) alive members) size
    else owed_answer handle.options.wait (blocks_given handle es) false size

-- the same by what its open fixed, its target being as this shows it
abbrev pub reply_by : ℕ → Opening → Behind → ℕ → reading.Answer
reply_by target o told size = reply_to (opened target [] o) told.entries told.alive told.members size
