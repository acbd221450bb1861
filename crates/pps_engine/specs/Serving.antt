-- What callers know of an engine, whatever its body.
use Rattle.std.specs.Prelude.{◌≡◌, ℕ, List, [], ◌∷◌, Bool, true, ◌&&◌, ◌==◌, if◌then◌else◌, Option, Some, Ok, length}
use Rattle.pps_types.specs.declared.event.Event.{Event}
use Rattle.pps_types.specs.declared.outcome.Outcome.{Outcome}
use Rattle.pps_types.specs.Outcome.{Reply, has_bytes}
use Rattle.pps_types.specs.History.{Entry}
use Rattle.pps_types.specs.Content.{Content}
use Rattle.pps_types.specs.Plan.{may_lack_memory}
use Rattle.pps_types.specs.Runs.{answered}
use Rattle.pps_types.specs.Stands.{StepsSeen, Runs, RunsSeen}
use Rattle.pps_types.specs.Owed.{same_flag, longer, kept_records_seen}

-- A list of records that the body holds for the delta and names handles of an object or a directory.
pub record Chained : Type 0 where
  pub directory : Bool
  pub target : ℕ
  pub records : List Entry

-- A plan, as callers see it: what will stand once it is carried out, and what its event is answered.
pub record Upcoming : Type 0 where
  pub content : Content
  pub reply : Outcome

-- content: what stands. next: the latest plan, where it is ready. chains: all lists of records that are held for delta and
-- names handles. Only the first is what an engine stands for.
pub record Serving : Type 0 where
  pub content : Content
  pub next : Option Upcoming
  pub chains : List Chained

-- The plan is ready, and it is the latest of the engine, which has not changed since.
abbrev pub IsLatest : Upcoming → Serving → Type 0
IsLatest plan engine = engine.next ≡ Some plan

-- it is the plan of this event: of its answer, and of what there is then
abbrev pub IsPlanOf : Content → Event → Upcoming → Type 0
IsPlanOf c e plan = StepsSeen c e (Ok plan.reply) plan.content

-- it answers bytes only where memory may lack for the event
abbrev pub MarksBytes : Content → Event → Upcoming → Type 0
MarksBytes c e plan = has_bytes plan.reply ≡ true → may_lack_memory c e ≡ true

-- ---- a list of events

-- there is an answer for each
abbrev pub AnswersEach : List Event → List Reply → Type 0
AnswersEach events replies = length replies ≡ length events

-- the engine runs the events, with these answers
abbrev pub RunsAnswered : Serving → List Event → List Reply → Serving → Type 0
RunsAnswered old events replies new = Runs old.content (answered events replies) new.content

-- the same of the contents alone
abbrev pub RunsSeenAnswered : Serving → List Event → List Reply → Serving → Type 0
RunsSeenAnswered old events replies new = RunsSeen old.content (answered events replies) new.content

-- ---- what is held

-- the longest list that is held for that directory or object
abbrev pub held_records : Bool → ℕ → List Chained → List Entry
held_records directory target [] = []
held_records directory target (x ∷ xs) = longer (if same_flag x.directory directory && (x.target == target) then x.records else []) (held_records directory target xs)

-- Just the records that have to be kept are held: of each object and directory the longest rest that is owed.
abbrev pub IsExact : Serving → Type 0
IsExact s = (directory : Bool) (target : ℕ) → held_records directory target s.chains ≡ kept_records_seen s.content directory target
