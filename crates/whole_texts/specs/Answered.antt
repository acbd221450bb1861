-- What a read answers, by what is owed.
use Rattle.std.specs.Prelude.{◌≡◌, ℕ, ◌^◌, List, [], ◌∷◌, Bool, true, false, ◌==◌, nat_le, nat_lt, if◌then◌else◌, Option, Some, None, filter, map, length}
use Rattle.pps_types.specs.declared.refusal.Refusal.{Refusal}
use Rattle.pps_types.specs.declared.refusal.Refusal.TheVariants.{TooSmall, Gone}
use Rattle.pps_types.specs.Reading as reading
use Rattle.pps_types.specs.Reading.{OpenHandle, block, visible, fitting, whole_answer, idle_answer, owed_answer}
use Rattle.pps_types.specs.Rests.{Progress, News, Unread, Over, Owed}
use Rattle.pps_types.specs.Content.{Content, read_answer}
use Rattle.pps_types.specs.Plan.{Move, CatchesUp, Advances, Parks, read_effect}
use Rattle.whole_texts.specs.declared.answer.Answer.{Answer}
use Rattle.whole_texts.specs.declared.answer.Answer.TheVariants.{Everything, Blocks, Waits, Nothing}
use Rattle.server_queue.specs.declared.plan.GivenBlocks.{GivenBlocks}
use Rattle.whole_texts.specs.declared.answer.Effect.{Effect}
use Rattle.whole_texts.specs.declared.answer.Effect.TheVariants.{CatchesUp as EffectCatchesUp, Advances as EffectPasses, Parks as EffectParks, Stays}
use Rattle.whole_texts.specs.Whole.{Source, everything, is_dead, source_of}

-- the answer that it stands for
abbrev pub meant : Answer → reading.Answer
meant (Everything text) = reading.Everything text.items
meant (Blocks count text) = reading.Blocks count text.items
meant Waits = reading.Waits
meant Nothing = reading.Nothing

-- the refusal that an answer is told by
abbrev pub refusal_in : reading.Answer → Option Refusal
refusal_in (reading.Needs n) = Some (TooSmall n)
refusal_in reading.TargetGone = Some Gone
refusal_in a = None

-- there are bytes to give, or a size is needed that is no number of 32 bits
abbrev pub wants_memory : reading.Answer → Bool
wants_memory (reading.Everything text) = nat_lt 0 (length text)
wants_memory (reading.Needs n) = nat_le (2 ^ 32) n
wants_memory a = false

-- the answer takes memory
abbrev pub NeedsMemory : reading.Answer → Type 0
NeedsMemory a = wants_memory a ≡ true

-- where the blocks that fit are known
abbrev pub fitted_answer : Bool → Bool → ℕ → List ℕ → reading.Answer
fitted_answer dead wait count text = if count == 0 then idle_answer dead wait else reading.Blocks count text

-- the answer that gives these
abbrev pub answer_giving : Bool → Bool → GivenBlocks → reading.Answer
answer_giving dead wait g = fitted_answer dead wait g.count g.text.items

-- Everything is to be given, where no fitted blocks are lent.
abbrev pub answer_by : Source → Bool → ℕ → Option GivenBlocks → reading.Answer
answer_by w wait max None = whole_answer (everything w) max
answer_by w wait max (Some g) = fitted_answer (is_dead w) wait g.count g.text.items

-- these are the blocks that fit of a list, of which the first fits
pub record AreFitting (max : ℕ) (blocks : List (List ℕ)) (g : GivenBlocks) : Type 0 where
  pub same : (g.count, g.text.items) ≡ fitting max blocks
  pub fits : refusal_in (owed_answer false blocks false max) ≡ None

-- what a handle that has seen this is owed: everything, or blocks
abbrev pub Owes : {S : Type 0} → ℕ → OpenHandle S → Progress → Option GivenBlocks → Type 0
Owes max handle (News true) owed = owed ≡ None
Owes max handle (News false) None = ⊥
Owes max handle (News false) (Some g) = AreFitting max [] g
Owes max handle Unread owed = owed ≡ None
Owes max handle Over owed = owed ≡ None
Owes max handle (Owed rest) None = ⊥
Owes max handle (Owed rest) (Some g) = AreFitting max (map (block handle) (filter (visible handle) rest)) g

-- what a read leaves of the handle of that number, as moves
abbrev pub moves_of : ℕ → Effect → List Move
moves_of number EffectCatchesUp = CatchesUp number ∷ []
moves_of number (EffectPasses count) = Advances number count ∷ []
moves_of number (EffectParks size) = Parks number (Some size) ∷ []
moves_of number Stays = []

-- the moves of a read of that size, which is answered so
abbrev pub read_moves : OpenHandle Progress → ℕ → reading.Answer → List Move
read_moves handle size a = (read_effect handle size a).1

-- the answer to a read of so many bytes is told by what the handle is owed and by its target
abbrev pub AnswersAreRead : Type 0
AnswersAreRead = (c : Content) (handle : OpenHandle Progress) (max : ℕ) (owed : Option GivenBlocks) → Owes max handle handle.seen owed
    → read_answer c handle max ≡ answer_by (source_of c handle) handle.options.wait max owed
