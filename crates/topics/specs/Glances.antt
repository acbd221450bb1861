-- What is seen of a handle of a server object at one look.
use Rattle.std.specs.Prelude.{◌≡◌, ℕ, List}
use Rattle.sub_reader.specs.declared.glance.Glance.{Glance}
use Rattle.sub_reader.specs.Glances.{glance_on, glanced}
use Rattle.topics.specs.QueueRows.{QueueRow, IsRowOn, handle_of}

-- it is what is seen of the handle, on whatever object that is
abbrev pub IsGlanceOf : QueueRow → Glance → Type 0
IsGlanceOf row glance =
    (object : ℕ) (name : List ℕ) → IsRowOn object row → glance_on object name glance ≡ glanced (handle_of object name row)
