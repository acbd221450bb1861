-- Records of objects, and what they make of their objects.
use Rattle.std.specs.Prelude.{ℕ, List, Bool, Option}
use Rattle.pps_types.specs.declared.record.Kind.{Kind}
use Rattle.pps_types.specs.History.{Entry}
use Rattle.name_table.specs.Standing.{Standing, happened}
use Rattle.service_state.specs.Lines.{deletes}

-- a record of the object of that number, directory and name, with the handle that wrote it, if one did
abbrev pub entry_about : ℕ → ℕ → List ℕ → Kind → Option ℕ → Entry
entry_about object directory name kind writer =
    record { directory = directory; name = name; record_of = record { object = object; kind = kind; writer = writer } }

-- it deletes its object
abbrev pub is_deletion : Entry → Bool
is_deletion e = deletes e.record_of.kind

-- what there is of objects and directories after the record
abbrev pub after_record : Entry → Standing → Standing
after_record e s = happened e.record_of.object e.record_of.kind s
