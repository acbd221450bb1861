-- What is read of a line, or why it is not.
use Rattle.std.specs.Prelude.{◌≡◌, Option, Some, None, Result, Ok, Err}
use Rattle.script_text.specs.declared.fault.LineFault.{LineFault}
use Rattle.script_text.specs.declared.fault.LineFault.TheVariants.{BadLine, OutOfMemory}

-- what is read is what the text says, which is nothing where the line is reported to be bad
abbrev pub Reads : {A : Type 0} → Option A → Result A LineFault → Type 0
Reads said (Ok read) = Some read ≡ said
Reads said (Err BadLine) = None ≡ said
Reads said (Err OutOfMemory) = Unit {0}
