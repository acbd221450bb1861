-- What a service says of the same moves.
use Rattle.std.specs.Prelude.{◌≡◌, ℕ, option_map}
use Rattle.pps_types.specs.History.{Entry}
use Rattle.pps_types.specs.Names.{Path}
use Rattle.pps_types.specs.Content.{Object, Content, at, object_at}
use Rattle.pps_types.specs.Plan.{Creates, AppendsRecord, MakesDirectory, RemovesDirectory, apply_seen}
use Rattle.name_table.specs.Standing.{Standing, Named, standing_in, in_content, content_of, after, happened, known_of, placed_at, live_object}

-- The moves of names are those of a whole service, whatever else stands there, and no part of it is lost.
pub record MovesAreTold : Type 0 where
  pub created : (o : Object) (c : Content) → standing_in (apply_seen (Creates o) c) ≡ after (Creates o) (standing_in c)
  pub happened : (e : Entry) (c : Content) → standing_in (apply_seen (AppendsRecord e) c) ≡ happened e.record_of.object e.record_of.kind (standing_in c)
  pub made : (path : Path) (c : Content) → standing_in (apply_seen (MakesDirectory path) c) ≡ after (MakesDirectory path) (standing_in c)
  pub removed : (number : ℕ) (c : Content) → standing_in (apply_seen (RemovesDirectory number) c) ≡ after (RemovesDirectory number) (standing_in c)
  pub put : (s : Standing) (c : Content) → standing_in (in_content s c) ≡ s
  pub kept : (c : Content) → in_content (standing_in c) c ≡ c

-- What stands at a path is the same in a service in which nothing else stands. All other questions of objects and
-- directories compute to the same there.
pub record QuestionsAreTold : Type 0 where
  pub at : (c : Content) → at (content_of (standing_in c)) ≡ at c
  pub object_at : (c : Content) → object_at (content_of (standing_in c)) ≡ object_at c

-- What is found under each number is the alive object of that number.
abbrev pub ObjectsAreKnown : Named → Type 0
ObjectsAreKnown n = (number : ℕ) → option_map known_of (placed_at number n) ≡ live_object number n
