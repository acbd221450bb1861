-- What ends a stream if an answer could not be taken.
use Rattle.pps_types.specs.declared.exchange.AnswerFault.{AnswerFault}
use Rattle.pps_types.specs.declared.exchange.AnswerFault.TheVariants as answers
use Rattle.pps_frame.specs.declared.ends.RunError.{RunError}
use Rattle.pps_frame.specs.declared.ends.RunError.TheVariants.{OutOfMemory, WriteFault}

abbrev pub of_answer : AnswerFault → RunError
of_answer answers.OutOfMemory = OutOfMemory
of_answer answers.WriteFault = WriteFault
