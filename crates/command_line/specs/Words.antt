-- What the words of a command line ask for, as `clap` reads them for the program's commands.
use Rattle.std.specs.Prelude.{◌≡◌, ◌≢◌, ◌⊎◌, ◌&&◌, ℕ, Bool, true, false, List, [], ◌∷◌, Option, Some, None, codes, is_some, nat_le, option_map, unwrap_or, pos}
use Rattle.std.specs.Str.Parse.{ParsesUnsigned}
use Rattle.std.specs.declared.num.ParseIntError.{ParseIntError}
use Rattle.clap.specs.Words.{App, IsAmong, Rule, Shape, ReadsOne, app_of, fault_of, first_value, matched_of, new_rule, one_text, raw_values, rows_of, rule_of, shape_of, subcommand_of, with_rule}
use Rattle.clap.specs.Simple.{new_shape}
use Rattle.clap.specs.declared.builder.arg.Arg.{Arg}
use Rattle.clap.specs.declared.builder.command.Command.{Command}
use Rattle.clap.specs.declared.builder.command.Command.TheViews.{out-Command as fields_of}
use Rattle.clap.specs.declared.parser.matches.Found.{Found}
use Rattle.clap.specs.declared.builder.action.ArgAction.TheVariants.{SetTrue, Append, Version}
use Rattle.clap.specs.declared.error.kind.ErrorKind.{ErrorKind}
use Rattle.clap.specs.declared.error.kind.ErrorKind.TheVariants.{DisplayHelp, DisplayVersion}
use Rattle.command_line.specs.declared.fault.WordsFault.{WordsFault}
use Rattle.command_line.specs.declared.fault.WordsFault.TheVariants.{BadCommandLine, OutOfMemory}
use Rattle.clap.specs.declared.builder.value_parser.ValueParser.TheVariants.{Signed}
use Rattle.command_line.specs.declared.asked.Asked.{Asked}
use Rattle.command_line.specs.declared.asked.Asked.TheVariants.{Run, Frames, Serve, Text}
use Rattle.command_line.specs.declared.asked.Beginning.{Beginning}
use Rattle.command_line.specs.declared.asked.Beginning.TheVariants.{Empty, Image}
use Rattle.command_line.specs.declared.asked.RunOptions.{RunOptions}
use Rattle.command_line.specs.declared.asked.ServeOptions.{ServeOptions}
use Rattle.command_line.specs.declared.asked.ServiceOptions.{ServiceOptions}
use Rattle.command_line.specs.Names.{saved_to, scripts_of, history_of}

-- ---- the commands of the program

-- an option that takes no value
abbrev pub flag : List ℕ → Rule
flag name = record (new_rule name) { long = Some name; action = Some SetTrue }

-- an option that takes a value
abbrev pub option : List ℕ → Rule
option name = record (new_rule name) { long = Some name; value_names = 1 }

-- one that takes a number of 16 bits
abbrev pub number : List ℕ → Rule
number name = record (option name) { parser = Some (Signed (pos 0) (pos 65535)) }

-- the options of a service
abbrev pub service_rules : List Rule
service_rules = option (codes "image") ∷ option (codes "save") ∷ number (codes "limit") ∷ []

-- `--workers`
abbrev pub workers_rule : Rule
workers_rule = record (number (codes "workers")) { required = true }

-- the script files of `serve`
abbrev pub scripts_rule : Rule
scripts_rule = record (new_rule (codes "F")) {
  required = true;
  range = Some (record { start_inclusive = 1; end_inclusive = 1024 });
  action = Some Append;
}

abbrev pub run_shape : Shape
run_shape = record (new_shape (codes "run")) {
  rules = flag (codes "show") ∷ flag (codes "interactive") ∷ service_rules;
}

abbrev pub frames_shape : Shape
frames_shape = record (new_shape (codes "frames")) { rules = service_rules }

abbrev pub serve_shape : Shape
serve_shape = record (new_shape (codes "serve")) {
  rules = workers_rule ∷ option (codes "history") ∷ scripts_rule ∷ [];
}

abbrev pub version_rule : Rule
version_rule = record (new_rule (codes "version")) {
  long = Some (codes "version");
  action = Some Version;
}

abbrev pub pps : App
pps = record {
  top = record (new_shape (codes "pps")) {
    rules = version_rule ∷ [];
    is_leaf = false;
    disable_help_subcommand = true;
    disable_version_flag = true;
    has_version = true;
    subcommand_required = true;
  };
  subs = run_shape ∷ frames_shape ∷ serve_shape ∷ [];
}

-- ---- what is read of their options

-- the number that a text is read as, or this one where there is none or it is none
abbrev pub IsNumber : (text : Option (List ℕ)) → (otherwise n : ℕ) → Type 0
IsNumber None otherwise n = n ≡ otherwise
IsNumber (Some text) otherwise n =
    (read : Option ℕ)
    × (ReadsOne {E = ParseIntError} (ParsesUnsigned 16 10) text read × (n ≡ unwrap_or read otherwise))

-- a flag is set by the text `true`, and not by `false` or none
abbrev pub IsFlag : (text : Option (List ℕ)) → Bool → Type 0
IsFlag None set = set ≡ false
IsFlag (Some text) set =
    (text ≡ codes "true" → set ≡ true) × (text ≡ codes "false" → set ≡ false)

-- the image of `--image`, else no more than the limit of `--limit`, or of 256
abbrev pub IsBeginning : (image limit : Option (List ℕ)) → Beginning → Type 0
IsBeginning (Some image) limit (Image file) = file.now ≡ image
IsBeginning (Some image) limit (Empty n) = ⊥
IsBeginning None limit (Image file) = ⊥
IsBeginning None limit (Empty n) = IsNumber limit 256 n.value

-- whether an image and a limit are given
abbrev pub has_both : Found → Bool
has_both found =
    is_some (first_value found (codes "image")) && is_some (matched_of found (codes "limit"))

-- the options of a service, by the entries of a command
pub record ServiceIn (found : Found) (options : ServiceOptions) : Type 0 where
  pub alone : has_both found ≡ false
  pub beginning : IsBeginning (first_value found (codes "image"))
      (one_text found (codes "limit")) options.beginning
  pub saved : saved_to options ≡ first_value found (codes "save")

-- those of a script
pub record ScriptIn (found : Found) (options : RunOptions) : Type 0 where
  pub show : IsFlag (one_text found (codes "show")) options.show
  pub interactive : IsFlag (one_text found (codes "interactive")) options.interactive
  pub service : ServiceIn found options.service

-- those of script files
pub record FilesIn (found : Found) (options : ServeOptions) : Type 0 where
  pub workers_are : IsNumber (one_text found (codes "workers")) 0 options.workers
  pub files_are : option_map raw_values (matched_of found (codes "F")) ≡ Some (scripts_of options)
  pub history_is : history_of options ≡ first_value found (codes "history")

-- what a command asks for, by its name and its entries
abbrev pub CommandAsks : (name : List ℕ) → Found → Asked → Type 0
CommandAsks name found (Run options) = (name ≡ codes "run") × ScriptIn found options
CommandAsks name found (Frames options) = (name ≡ codes "frames") × ServiceIn found options
CommandAsks name found (Serve options) = (name ≡ codes "serve") × FilesIn found options
CommandAsks name found (Text text) = ⊥

-- The words name a command, with the entries that they have for it; and that is what it asks for.
pub record NamesCommand (words : List (List ℕ)) (asked : Asked) : Type 0 where
  pub name : List ℕ
  pub found : Found
  pub taken : fault_of pps words ≡ []
  pub named : subcommand_of pps words ≡ Some (name, rows_of found)
  pub asks : CommandAsks name found asked

-- Among the kinds that `clap` has for the words is this one.
pub record HasFault (words : List (List ℕ)) (P : ErrorKind → Type 0) : Type 0 where
  pub kind : ErrorKind
  pub among : IsAmong kind (fault_of pps words)
  pub is : P kind

-- it is a text that is asked for
abbrev pub IsShown : ErrorKind → Type 0
IsShown k = (k ≡ DisplayHelp) ⊎ (k ≡ DisplayVersion)

-- it is a fault of the words
abbrev pub IsWrong : ErrorKind → Type 0
IsWrong k = (k ≢ DisplayHelp) × (k ≢ DisplayVersion)

-- A job is asked for by the words that name it, and a text by those that `clap` answers with one;
-- which text is not said.
abbrev pub AsksFor : List (List ℕ) → Asked → Type 0
AsksFor words (Text text) = HasFault words IsShown
AsksFor words asked = NamesCommand words asked

-- ---- bad command lines

-- a service begins with an image and with a limit, or its limit is 0
abbrev pub BadService : Found → Type 0
BadService found = (has_both found ≡ true) ⊎ IsNumber (one_text found (codes "limit")) 256 0

-- the workers are not 1 to 8
pub record BadWorkers (found : Found) : Type 0 where
  pub count : ℕ
  pub asked : IsNumber (one_text found (codes "workers")) 0 count
  pub range : (nat_le 1 count && nat_le count 8) ≡ false

-- they are not, or no files are there
abbrev pub BadFiles : Found → Type 0
BadFiles found = BadWorkers found ⊎ (option_map raw_values (matched_of found (codes "F")) ≡ None)

-- it is no command of the program
abbrev pub IsNoCommand : List ℕ → Type 0
IsNoCommand name = (name ≢ codes "run") × ((name ≢ codes "frames") × (name ≢ codes "serve"))

-- a command does not take the entries that it has
abbrev pub CommandFails : (name : List ℕ) → Found → Type 0
CommandFails name found =
    ((name ≡ codes "run") × BadService found)
    ⊎ (((name ≡ codes "frames") × BadService found)
    ⊎ (((name ≡ codes "serve") × BadFiles found) ⊎ IsNoCommand name))

-- why nothing is asked for by a command with these entries, unless memory is wanting
abbrev pub FailsFor : (name : List ℕ) → Found → WordsFault → Type 0
FailsFor name found BadCommandLine = CommandFails name found
FailsFor name found OutOfMemory = Unit {0}

-- words that `clap` takes name a command, which does not take the entries that they have for it
pub record NamesFailing (words : List (List ℕ)) : Type 0 where
  pub name : List ℕ
  pub found : Found
  pub taken : fault_of pps words ≡ []
  pub named : subcommand_of pps words ≡ Some (name, rows_of found)
  pub fails : CommandFails name found

-- Words are a bad command line where `clap` has a fault for them, or takes them and has no command for
-- them that takes its entries. Want of memory may be said of any.
abbrev pub Refuses : List (List ℕ) → WordsFault → Type 0
Refuses words BadCommandLine =
    HasFault words IsWrong ⊎ (NamesFailing words ⊎ (subcommand_of pps words ≡ None))
Refuses words OutOfMemory = Unit {0}

-- ---- what a caller of `clap` knows of the commands that it makes

-- an argument with this rule, for one command
pub record IsRule (rule : Rule) (arg : Arg) : Type 0 where
  pub rule_is : rule_of arg ≡ rule
  pub local : arg.global ≡ false

abbrev pub has_globals : Command → Bool
has_globals command = (fields_of command).has_globals

-- a command of this shape, with no argument for others
pub record IsCommand (shape : Shape) (command : Command) : Type 0 where
  pub shape_is : shape_of command ≡ shape
  pub local : has_globals command ≡ false

-- the options of a service come to those that a command has
pub record AddsService (old new : Command) : Type 0 where
  pub app : has_globals old ≡ false
      → app_of new ≡ with_rule (with_rule (with_rule (app_of old) (option (codes "image")))
      (option (codes "save"))) (number (codes "limit"))
  pub local : has_globals old ≡ false → has_globals new ≡ false
