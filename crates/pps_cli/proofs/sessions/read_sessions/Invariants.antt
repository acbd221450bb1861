use Rattle.std.proofs.Common.{◌≡◌, ◌-◌, ◌^◌, ℕ, List, Bor, map, min, length}
use Rattle.pps_cli.specs.Sessions.{AreOfFiles}
use Rattle.pps_cli.proofs.sessions.read_sessions.Given as goal

abbrev pub invariant-scripts : goal.invariant-scripts
invariant-scripts g l = record {
  count : length l.sessions.items ≡ l.file-index;
  conn : l.conn ≡ min l.file-index (2 ^ 16 - 1);
  of : AreOfFiles (g.F.ImageFiles.held l.files) (map (λ (file : Bor (List ℕ)). file.now) l.scripts) l.sessions.items;
}
