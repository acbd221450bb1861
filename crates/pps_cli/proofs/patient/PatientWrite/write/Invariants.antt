use Rattle.std.specs.Io.KnownBytes.{Keeps}
use Rattle.pps_cli.proofs.patient.PatientWrite.write.Given as goal

abbrev pub invariant-tries : goal.invariant-tries
invariant-tries g l = Keeps (g.O.Write.contents l.initial.self.inner) (g.O.Write.contents l.self.inner)
