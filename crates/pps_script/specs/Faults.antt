-- What ends a script where an answer could not be taken.
use Rattle.pps_types.specs.declared.exchange.AnswerFault.{AnswerFault}
use Rattle.pps_types.specs.declared.exchange.AnswerFault.TheVariants as answers
use Rattle.pps_script.specs.declared.fault.ScriptFault.{ScriptFault}
use Rattle.pps_script.specs.declared.fault.ScriptFault.TheVariants.{OutOfMemory, WriteFault}

abbrev pub of_answer : AnswerFault → ScriptFault
of_answer answers.OutOfMemory = OutOfMemory
of_answer answers.WriteFault = WriteFault
