use Rattle.std.proofs.Common.{◌≡◌, drop, map}
use Rattle.pps_types.specs.Device.{device_inner, device_failed, device_stalls}
use Rattle.pps_types.specs.Writing.{Holds}
use Rattle.pps_dispatch.specs.History.{joined}
use Rattle.pps_dispatch.specs.Printed.{sessions_text, connections_of}
use Rattle.pps_dispatch.proofs.printed_sessions.write_sessions.Given as goal

-- what is not written yet is the text of the other sessions, and no call of the writer failed
abbrev pub invariant-loop-number : goal.invariant-loop-number
invariant-loop-number g l = record {
  written : Holds (g.W.Write.contents (device_inner l.initial.output)) (g.W.Write.contents (device_inner l.output))
      (sessions_text (drop l.number (map (λ file. file.now) l.files)) (drop l.number (connections_of l.sessions)) (joined l.segments))
      (sessions_text (map (λ file. file.now) l.files) (connections_of l.sessions) (joined l.segments));
  failed : device_failed l.output ≡ device_failed l.initial.output;
  stalls : device_stalls l.output ≡ device_stalls l.initial.output;
}
