-- The names of files that a command line has.
use Rattle.std.specs.Prelude.{ℕ, List, map, option_map, Option}
use Rattle.command_line.specs.declared.asked.ServeOptions.{ServeOptions}
use Rattle.command_line.specs.declared.asked.ServiceOptions.{ServiceOptions}

-- the name of the file to which a service is saved, if one is named
abbrev pub saved_to : ServiceOptions → Option (List ℕ)
saved_to options = option_map (λ name. name.now) options.save

-- the names of the script files
abbrev pub scripts_of : ServeOptions → List (List ℕ)
scripts_of options = map (λ file. file.now) options.scripts.items

-- the name of the file to which the order of the messages is written, if one is named
abbrev pub history_of : ServeOptions → Option (List ℕ)
history_of options = option_map (λ name. name.now) options.history
