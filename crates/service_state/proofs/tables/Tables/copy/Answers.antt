use Rattle.std.proofs.Common.{refl}
use Rattle.service_state.proofs.Copied.{copied_tied}
use Rattle.service_state.proofs.tables.Tables.copy.Goals as goal

pub invariant_of-result : goal.invariant_of-result
invariant_of-result c =
    copied_tied
    (record { default_limit = c.self.inside.default_limit; records = c.self.inside.records; names = c.self.inside.names; handles = c.self.inside.handles; connections = c.self.inside.connections })
    (record { default_limit = c.self.inside.default_limit; records = c.self.inside.records; names = c.in_ok-names.names; handles = c.in_ok-handles.handles; connections = c.in_ok-connections.connections })
    refl refl c.in_ok-names.ensures.standing c.in_ok-handles.ensures.handles c.in_ok-handles.ensures.next c.in_ok-connections.ensures.ok
    c.in_ok-handles.ensures.sites c.in_ok-handles.ensures.next_object c.in_ok-handles.ensures.next_directory c.self.invariant
