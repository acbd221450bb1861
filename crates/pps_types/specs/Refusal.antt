-- What a refusal is numbered and called, and what it carries, as frames and answers show it. Own.
use Rattle.std.specs.Prelude.{ℕ, List, codes}
use Rattle.pps_types.specs.declared.refusal.Refusal.{Refusal}
use Rattle.pps_types.specs.declared.refusal.Refusal.TheVariants.{OutOfMemory, BadFrame, NotAttached, AlreadyAttached, BadPath, BadOption, NotFound, Exists, NotDirectory, IsDirectory, NotEmpty, Busy, BadHandle, BadMode, BadText, TooLarge, Gone, ReadPending, TooSmall, OutboxFull, Backlogged, NoClient, BadArgument, TableFull}

abbrev pub number_of : Refusal → ℕ
number_of OutOfMemory = 1
number_of BadFrame = 2
number_of NotAttached = 3
number_of AlreadyAttached = 4
number_of BadPath = 5
number_of BadOption = 6
number_of NotFound = 7
number_of Exists = 8
number_of NotDirectory = 9
number_of IsDirectory = 10
number_of NotEmpty = 11
number_of Busy = 12
number_of BadHandle = 13
number_of BadMode = 14
number_of (BadText line) = 15
number_of TooLarge = 16
number_of Gone = 17
number_of ReadPending = 18
number_of (TooSmall need) = 19
number_of OutboxFull = 20
number_of (Backlogged handle) = 21
number_of (NoClient id) = 22
number_of BadArgument = 23
number_of TableFull = 24

abbrev pub name_of : Refusal → List ℕ
name_of OutOfMemory = codes "OutOfMemory"
name_of BadFrame = codes "BadFrame"
name_of NotAttached = codes "NotAttached"
name_of AlreadyAttached = codes "AlreadyAttached"
name_of BadPath = codes "BadPath"
name_of BadOption = codes "BadOption"
name_of NotFound = codes "NotFound"
name_of Exists = codes "Exists"
name_of NotDirectory = codes "NotDirectory"
name_of IsDirectory = codes "IsDirectory"
name_of NotEmpty = codes "NotEmpty"
name_of Busy = codes "Busy"
name_of BadHandle = codes "BadHandle"
name_of BadMode = codes "BadMode"
name_of (BadText line) = codes "BadText"
name_of TooLarge = codes "TooLarge"
name_of Gone = codes "Gone"
name_of ReadPending = codes "ReadPending"
name_of (TooSmall need) = codes "TooSmall"
name_of OutboxFull = codes "OutboxFull"
name_of (Backlogged handle) = codes "Backlogged"
name_of (NoClient id) = codes "NoClient"
name_of BadArgument = codes "BadArgument"
name_of TableFull = codes "TableFull"

-- 0 where it carries nothing
abbrev pub argument_of : Refusal → ℕ
argument_of (BadText line) = line
argument_of (TooSmall need) = need
argument_of (Backlogged handle) = handle
argument_of (NoClient id) = id
argument_of _ = 0
