-- What is written of faults and failures.
use Rattle.std.specs.Prelude.{ℕ, Bool, true, false, List, [], ◌++◌, codes, decimal}
use Rattle.std.specs.Borrow.{Bor}
use Rattle.std.specs.List.{flat_map}
use Rattle.pps_jobs.specs.declared.fault.Failure.{Failure}
use Rattle.pps_jobs.specs.declared.fault.Failure.TheVariants as failures
use Rattle.pps_jobs.specs.declared.fault.Failure.TheVariants.{CannotRead, CannotWrite, BadImage, BadLineOf, Serve}
use Rattle.pps_jobs.specs.declared.fault.Fault.{Fault}
use Rattle.pps_jobs.specs.declared.fault.Fault.TheVariants.{BadLine, BadCommandLine, CannotReadInput, CannotWriteOutput, MalformedFrame, CutFrame, OutOfMemory}
use Rattle.pps_jobs.specs.declared.fault.ServingFault.{ServingFault}
use Rattle.pps_jobs.specs.declared.fault.ServingFault.TheVariants as serving
use Rattle.pps_jobs.specs.declared.wording.Pieces.{Pieces}

-- ---- what failed

abbrev pub fault_text : Fault → List ℕ
fault_text (BadLine line) = codes "line " ++ decimal line ++ codes ": bad script line"
fault_text BadCommandLine = codes "bad command line"
fault_text CannotReadInput = codes "cannot read input"
fault_text CannotWriteOutput = codes "cannot write output"
fault_text MalformedFrame = codes "malformed frame"
fault_text CutFrame = codes "the last frame is cut short"
fault_text OutOfMemory = codes "out of memory"

abbrev pub serving_name : ServingFault → List ℕ
serving_name serving.OutOfMemory = codes "OutOfMemory"
serving_name serving.Mismatch = codes "Mismatch"

abbrev pub failure_text : Failure → List ℕ
failure_text (failures.Fault fault) = fault_text fault
failure_text (CannotRead file) = codes "cannot read " ++ file.now
failure_text (CannotWrite file) = codes "cannot write " ++ file.now
failure_text (BadImage line) = codes "bad image line " ++ decimal line
failure_text (BadLineOf file line) =
    file.now ++ codes ": line " ++ decimal line ++ codes ": bad script line"
failure_text (Serve fault) = codes "serve: " ++ serving_name fault

-- the file or the fault that it names
abbrev pub name_in : Failure → List ℕ
name_in (CannotRead file) = file.now
name_in (CannotWrite file) = file.now
name_in (BadLineOf file line) = file.now
name_in (Serve fault) = serving_name fault
name_in _ = []

-- the line of a script or an image that it names
abbrev pub line_of : Failure → ℕ
line_of (failures.Fault (BadLine line)) = line
line_of (BadImage line) = line
line_of (BadLineOf file line) = line
line_of _ = 0

-- ---- what may help

abbrev pub advice_on_fault : Fault → List ℕ
advice_on_fault (BadLine line) = codes "a line is a connection and a command, as: 1 open rwc /gps"
advice_on_fault BadCommandLine = codes "pps --help lists the commands and their options"
advice_on_fault CannotReadInput = codes "what came whole before that is answered"
advice_on_fault CannotWriteOutput =
    codes "see that whoever reads it goes on, or that its disk has room"
advice_on_fault MalformedFrame =
    codes "a frame is a length of 4 bytes, the highest first, and a request"
advice_on_fault CutFrame = codes "its length says that more bytes have to come"
advice_on_fault OutOfMemory = codes "the program itself, and not only the service, needed more"

abbrev pub advice_on : Failure → List ℕ
advice_on (failures.Fault fault) = advice_on_fault fault
advice_on (CannotRead file) = codes "see that the file is there and may be read"
advice_on (CannotWrite file) = codes "see that its folder is there, may be written, and has room"
advice_on (BadImage line) = codes "an image is what --save wrote, unchanged"
advice_on (BadLineOf file line) =
    codes "a line is a connection, which is the place of its file, and a command"
advice_on (Serve fault) = codes "the sessions were not served to their end"

-- ---- what is written

abbrev pub line_of_text : List ℕ → List ℕ
line_of_text text = codes "pps: " ++ text ++ codes "\n"

abbrev pub line_of_advice : List ℕ → List ℕ
line_of_advice text = codes "     " ++ text ++ codes "\n"

-- its line, and with advice a second one that may help
abbrev pub report_of : (advised : Bool) → Failure → List ℕ
report_of false failure = line_of_text (failure_text failure)
report_of true failure = line_of_text (failure_text failure) ++ line_of_advice (advice_on failure)

-- texts one after the other
abbrev pub texts_joined : List (Bor (List ℕ)) → List ℕ
texts_joined texts = flat_map (λ text. text.now) texts

abbrev pub pieces_joined : Pieces → List ℕ
pieces_joined pieces =
    pieces.head.now ++ pieces.name.now ++ pieces.middle.now ++ pieces.number.now ++ pieces.tail.now
