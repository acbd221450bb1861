-- Which machines a content stands for, and that its steps and runs are theirs. Own.
use Rattle.std.specs.Prelude.{◌≡◌, List, [], ◌∷◌, Bool, true, if◌then◌else◌, Err}
use Rattle.pps_types.specs.declared.event.Event.{Event}
use Rattle.pps_types.specs.declared.refusal.Refusal.TheVariants.{OutOfMemory}
use Rattle.pps_types.specs.Outcome.{Reply, is_marked}
use Rattle.pps_types.specs.Content.{Content}
use Rattle.pps_types.specs.Plan.{step_seen, may_lack_memory}
use Rattle.pps_types.specs.Machine.{Machine, IsMachine, content_of, marked_step}
use Rattle.pps_types.specs.Runs.{Answered, IsReply, IsRun, end_of}

pub record Stands (c : Content) (m : Machine) : Type 0 where
  pub made : IsMachine m
  pub same : c ≡ content_of m

-- ---- one event

-- from m the reply is the machine's, and the new content stands for its next state
pub record StepsFrom (m : Machine) (e : Event) (reply : Reply) (new : Content) : Type 0 where
  pub replies : IsReply m e reply
  pub stands : Stands new (marked_step m e (is_marked reply)).1

-- for each machine that the old content stands for
abbrev pub Steps : Content → Event → Reply → Content → Type 0
Steps old e reply new = (m : Machine) → Stands old m → StepsFrom m e reply new

-- ---- a list of events

pub record RunsFrom (m : Machine) (answered : List Answered) (new : Content) : Type 0 where
  pub replies : IsRun m answered
  pub stands : Stands new (end_of m answered)

abbrev pub Runs : Content → List Answered → Content → Type 0
Runs old answered new = (m : Machine) → Stands old m → RunsFrom m answered new

-- ---- the same of contents alone

abbrev pub marked_seen : Content → Event → Bool → Reply × Content
marked_seen c e mark = if mark then (Err OutOfMemory, c) else step_seen c e

pub record StepsSeen (old : Content) (e : Event) (reply : Reply) (new : Content) : Type 0 where
  pub taken : (reply, new) ≡ marked_seen old e (is_marked reply)
  pub allowed : is_marked reply ≡ true → may_lack_memory old e ≡ true

abbrev pub RunsSeen : Content → List Answered → Content → Type 0
RunsSeen old [] new = new ≡ old
RunsSeen old (x ∷ xs) new = (next : Content) × StepsSeen old x.event x.reply next × RunsSeen next xs new
