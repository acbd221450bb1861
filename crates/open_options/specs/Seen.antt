-- What is read, as the definitions have it.
use Rattle.pps_types.specs.OpenText as meant
use Rattle.open_options.specs.declared.path.OpenPath.{OpenPath}
use Rattle.open_options.specs.declared.options.HandleOptions.{HandleOptions}
use Rattle.open_options.specs.declared.options.Options.{Options}

abbrev pub path_seen : OpenPath → meant.OpenPath
path_seen p = record { names = p.names; all = p.all }

abbrev pub handle_options_seen : HandleOptions → meant.HandleOptions
handle_options_seen o = record { wait = o.wait; reflect = o.reflect; critical = o.critical; filter = o.filter }

abbrev pub options_seen : Options → meant.Options
options_seen o = record {
  delta = o.delta;
  deltadir = o.deltadir;
  nopersist = o.nopersist;
  server = o.server;
  limit = o.limit;
  of_handle = handle_options_seen o.of_handle;
}
