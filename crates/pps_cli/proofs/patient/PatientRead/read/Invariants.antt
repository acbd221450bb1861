use Rattle.std.specs.Io.KnownBytes.{Keeps}
use Rattle.pps_cli.proofs.patient.PatientRead.read.Given as goal

abbrev pub invariant-reads : goal.invariant-reads
invariant-reads g l = Keeps (g.I.Read.remaining l.initial.self.inner) (g.I.Read.remaining l.self.inner)
