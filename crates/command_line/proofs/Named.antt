-- What is read of the words of a command line.
use Rattle.std.proofs.Common.{◌≡◌, ◌||◌, ℕ, Bool, true, false, List, [], refl, inl, inr}
use Rattle.std.specs.Prelude.{Option, None, Some, Box, option_map}
use Rattle.std.specs.Box.{box_value}
use Rattle.clap.specs.Walk.{Row, rows_of}
use Rattle.clap.specs.Simple.{is_simple, subcommand_of, subcommand_rows}
use Rattle.clap.specs.Faults.{fault_of, is_simple_and_free}
use Rattle.clap.specs.Kinds.{HasKind}
use Rattle.clap.specs.Values.{kind_of}
use Rattle.clap.specs.declared.error.Error.{Error}
use Rattle.clap.specs.declared.error.kind.ErrorKind.{ErrorKind}
use Rattle.clap.specs.declared.error.kind.ErrorKind.TheVariants as kind
use Rattle.clap.specs.declared.parser.matches.Found.{Found}
use Rattle.clap.specs.declared.parser.matches.SubCommand.{SubCommand}
use Rattle.clap.specs.declared.parser.matches.ArgMatches.TheViews.{out-SubCommand}
use Rattle.clap.proofs.OnLiterals.{clap_on_literals}
use Rattle.command_line.specs.declared.asked.Asked.{Asked}
use Rattle.command_line.specs.declared.asked.Asked.TheVariants.{Run, Frames, Serve, Text}
use Rattle.command_line.specs.declared.fault.WordsFault.{WordsFault}
use Rattle.command_line.specs.declared.fault.WordsFault.TheVariants.{BadCommandLine, OutOfMemory}
use Rattle.command_line.specs.Words.{AsksFor, CommandAsks, FailsFor, HasFault, IsShown, IsWrong, Refuses, pps}

-- the contract of `clap` is exact for the program's commands
pub pps-simple : is_simple pps ≡ true
unfolding clap_on_literals
pps-simple = refl

pub pps-free : is_simple_and_free pps ≡ true
unfolding clap_on_literals
pps-free = refl

-- the name and the entries of the command that was met
module _ {Z : Type 0} where
  pub named : (met : Option (Box SubCommand Z)) (name : List ℕ) (rows : List Row)
      → Some name ≡ option_map (λ b. (out-SubCommand (box_value b)).name.now) met
      → Some rows ≡ option_map (λ p. p.1) (subcommand_rows met)
      → subcommand_rows met ≡ Some (name, rows)
  named None name rows is have = cc
  named (Some b) name rows is have = cc

-- what a command asks for is what the words that name it ask for
pub asks-named : (words : List (List ℕ)) (asked : Asked) (name : List ℕ) (found : Found) → fault_of pps words ≡ []
    → subcommand_of pps words ≡ Some (name, rows_of found) → CommandAsks name found asked → AsksFor words asked
asks-named words (Run options) name found taken met asks = record { name = name; found = found; taken = taken; named = met; asks = asks }
asks-named words (Frames options) name found taken met asks = record { name = name; found = found; taken = taken; named = met; asks = asks }
asks-named words (Serve options) name found taken met asks = record { name = name; found = found; taken = taken; named = met; asks = asks }
asks-named words (Text text) name found taken met asks = absurd asks

-- and what it does not take they name in vain
pub fails-named : (words : List (List ℕ)) (fault : WordsFault) (name : List ℕ) (found : Found) → fault_of pps words ≡ []
    → subcommand_of pps words ≡ Some (name, rows_of found) → FailsFor name found fault → Refuses words fault
fails-named words BadCommandLine name found taken met fails = inr (inl record { name = name; found = found; taken = taken; named = met; fails = fails })
fails-named words OutOfMemory name found taken met fails = tt

-- an error that is no want of memory has a kind that `clap` has for the words
pub has-fault : (words : List (List ℕ)) (e : Error) (P : ErrorKind → Type 0) → HasKind (fault_of pps words) e
    → (kind_of e ≡ kind.OutOfMemory → ⊥) → P (kind_of e) → HasFault words P
has-fault words e P has other is = elim has [
  | inl out ↦ absurd (other out)
  | inr among ↦ record { kind = kind_of e; among = among; is = is }
]

-- a command with no argument for others, and one more such argument
pub local-more : (a b : Bool) → a ≡ false → b ≡ false → (a || b) ≡ false
local-more a b first second = rw (first, second) refl

-- what is no fault is a text
pub shown : (k : ErrorKind) → (IsWrong k → ⊥) → IsShown k
shown kind.InvalidValue right = absurd (right ((λ e. let f = e in cc), (λ e. let f = e in cc)))
shown kind.UnknownArgument right = absurd (right ((λ e. let f = e in cc), (λ e. let f = e in cc)))
shown kind.InvalidSubcommand right = absurd (right ((λ e. let f = e in cc), (λ e. let f = e in cc)))
shown kind.NoEquals right = absurd (right ((λ e. let f = e in cc), (λ e. let f = e in cc)))
shown kind.ValueValidation right = absurd (right ((λ e. let f = e in cc), (λ e. let f = e in cc)))
shown kind.TooManyValues right = absurd (right ((λ e. let f = e in cc), (λ e. let f = e in cc)))
shown kind.TooFewValues right = absurd (right ((λ e. let f = e in cc), (λ e. let f = e in cc)))
shown kind.WrongNumberOfValues right = absurd (right ((λ e. let f = e in cc), (λ e. let f = e in cc)))
shown kind.ArgumentConflict right = absurd (right ((λ e. let f = e in cc), (λ e. let f = e in cc)))
shown kind.MissingRequiredArgument right = absurd (right ((λ e. let f = e in cc), (λ e. let f = e in cc)))
shown kind.MissingSubcommand right = absurd (right ((λ e. let f = e in cc), (λ e. let f = e in cc)))
shown kind.DisplayHelp right = inl refl
shown kind.DisplayHelpOnMissingArgumentOrSubcommand right = absurd (right ((λ e. let f = e in cc), (λ e. let f = e in cc)))
shown kind.DisplayVersion right = inr refl
shown kind.Io right = absurd (right ((λ e. let f = e in cc), (λ e. let f = e in cc)))
shown kind.Format right = absurd (right ((λ e. let f = e in cc), (λ e. let f = e in cc)))
shown kind.OutOfMemory right = absurd (right ((λ e. let f = e in cc), (λ e. let f = e in cc)))
