use Rattle.std.proofs.Common.{◌≡◌, ◌==◌, drop, map}
use Rattle.std.specs.List.{list_any}
use Rattle.pps_dispatch.proofs.session.has_conn.Given as goal

abbrev pub invariant-loop-session : goal.invariant-loop-session
invariant-loop-session l =
    list_any (λ d. d == l.conn) (map (λ s. s.connection) l.sessions) ≡ list_any (λ d. d == l.conn) (map (λ s. s.connection) (drop l.session-index l.sessions))
