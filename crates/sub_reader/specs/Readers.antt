-- A handle on an object or a directory, at its place among the records.
use Rattle.sub_reader.specs.declared.place.Place.{Place}
use Rattle.sub_reader.specs.declared.row.HandleRow.{HandleRow}

abbrev pub Reader : Type 0
Reader = HandleRow Place
