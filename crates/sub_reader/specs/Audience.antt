-- What a record is to all handles of its target that have no filter.
use Rattle.std.specs.Prelude.{◌≡◌, ℕ, ◌&&◌, ◌==◌, not, None, is_some}
use Rattle.pps_types.specs.History.{Entry}
use Rattle.pps_types.specs.Reading.{shown_to_object, shown_to_directory, shown_to_names}
use Rattle.sub_reader.specs.declared.audience.Audience.{Audience}

-- Who wrote it, and which kinds of handles on the target of that number have a block of it: an object's where it is an object, and a
-- directory's where it is a directory.
pub record IsAudience (target : ℕ) (e : Entry) (a : Audience) : Type 0 where
  pub writer : a.writer ≡ e.record_of.writer
  pub objects : a.objects ≡ (not a.is_of_directory && (e.record_of.object == target && is_some (shown_to_object None e.record_of.kind)))
  pub directories : a.directories ≡ (a.is_of_directory && (e.directory == target && is_some (shown_to_directory None e.record_of.kind)))
  pub names : a.names ≡ (a.is_of_directory && (e.directory == target && is_some (shown_to_names e.record_of.kind)))
