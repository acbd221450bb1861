use Rattle.std.proofs.Common.{◌∙◌, ap, refl}
use Rattle.sub_reader.specs.Rows.{rows_of}
use Rattle.topics.proofs.Copying.{service_held, held_handles, renamed}
use Rattle.topics.proofs.server_handles.ServerHandles.copy.Goals as goal

pub invariant_of-result : goal.invariant_of-result
invariant_of-result c = service_held c.self.inside.object c.self.inside.led (rows_of c.self.inside.rows) _ c.in_ok-rows.ensures.ok c.self.invariant

pub returns-clause-handles : goal.returns-clause-handles
returns-clause-handles c =
    let s = c.self.inside in
    let told = held_handles s.object s.name (rows_of c.in_ok-rows.rows) (rows_of s.rows) c.in_ok-rows.ensures.ok ∙ ap (λ v. v.handles) c.self.view_is in
    renamed _ s.object _ s.name (rows_of c.in_ok-rows.rows) _ refl c.in_ok-name.ensures told
