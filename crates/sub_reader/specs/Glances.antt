-- What is seen of a handle at one look, as the definitions have it.
use Rattle.std.specs.Prelude.{◌≡◌, ℕ, Bool, List, Option, is_some, option_map}
use Rattle.pps_types.specs.History.{Entry}
use Rattle.pps_types.specs.Reading.{OpenHandle}
use Rattle.pps_types.specs.Rests.{Progress, is_over}
use Rattle.pps_types.specs.Owed.{owed_in_seen}
use Rattle.pps_types.specs.Content.{news}
use Rattle.sub_reader.specs.declared.glance.Glance.{Glance}
use Rattle.sub_reader.specs.declared.place.Place.{Place}
use Rattle.sub_reader.specs.Readers.{Reader}
use Rattle.sub_reader.specs.Opened.{opened, as_opened, handle_at}
use Rattle.sub_reader.specs.Places.{seen_at, handle_of, IsPlace}

-- opening: what its open fixed. parked: the size of the read that waits. armed: whether a pulse is armed on it. news: whether a read would give something new.
-- over: whether it is owed more than its limit. owed: how many records it is owed, where that is told.
pub record Glanced : Type 0 where
  pub opening : OpenHandle (Unit {0})
  pub parked : Option ℕ
  pub armed : Bool
  pub news : Bool
  pub over : Bool
  pub owed : Option ℕ

abbrev pub glanced : OpenHandle Progress → Glanced
glanced handle =
    record { opening = as_opened handle; parked = handle.parked; armed = is_some handle.armed; news = news handle; over = is_over handle.seen; owed = owed_in_seen handle handle.seen }

-- what is told of a handle on the target of that number and name
abbrev pub glance_on : ℕ → List ℕ → Glance → Glanced
glance_on target name g = record { opening = opened target name g.opening.now; parked = g.parked; armed = g.is_armed; news = g.has_news; over = g.is_over; owed = g.owed }

-- what is seen of the handle of a number, if it is among those on the target of that number and name
abbrev pub IsGlanceAt : ℕ → ℕ → List ℕ → List (OpenHandle Progress) → Option Glance → Type 0
IsGlanceAt number target name handles glance =
    option_map (glance_on target name) glance ≡ option_map glanced (handle_at number handles)

-- ---- the same of a handle at its place, whatever target it is on and whatever records that holds

-- what is seen of it at one look
abbrev pub IsGlanceOf : Reader → Glance → Type 0
IsGlanceOf r glance =
    (target : ℕ) (name : List ℕ) (start : ℕ) (entries : List Entry) → IsPlace (opened target name r.opening) start entries r.progress
    → glance_on target name glance ≡ glanced (handle_of target name start entries r)

-- whether a read would give it something new
abbrev pub IsNewsOf : Reader → Bool → Type 0
IsNewsOf r answer =
    (target : ℕ) (name : List ℕ) (start : ℕ) (entries : List Entry) → IsPlace (opened target name r.opening) start entries r.progress
    → answer ≡ news (handle_of target name start entries r)

-- how many records it is owed, where that is told
abbrev pub IsOwedCountOf : Reader → Option ℕ → Type 0
IsOwedCountOf r answer =
    (target : ℕ) (name : List ℕ) (start : ℕ) (entries : List Entry) → IsPlace (opened target name r.opening) start entries r.progress
    → answer ≡ owed_in_seen (handle_of target name start entries r) (handle_of target name start entries r).seen

-- whether it is owed more than its limit
abbrev pub IsOverflowOf : Place → Bool → Type 0
IsOverflowOf place answer = (start : ℕ) (entries : List Entry) → answer ≡ is_over (seen_at start entries place)
