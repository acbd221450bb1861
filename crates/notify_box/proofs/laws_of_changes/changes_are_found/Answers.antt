use Rattle.std.proofs.Common.{refl}
use Rattle.notify_box.proofs.QueuesTold.{own_found, other_found}
use Rattle.notify_box.proofs.laws_of_changes.changes_are_found.Goals as goal

pub returns : goal.returns
returns c = record {
  own_outbox = λ conn change xs. own_found conn (λ x. record x { outbox = change x.outbox }) (λ x. refl) xs;
  other_outbox = λ conn other change xs different. other_found conn (λ x. record x { outbox = change x.outbox }) (λ x. refl) other xs different;
  own_handles = λ conn change xs. own_found conn (λ x. record x { handles = change x.handles }) (λ x. refl) xs;
  other_handles = λ conn other change xs different. other_found conn (λ x. record x { handles = change x.handles }) (λ x. refl) other xs different;
}
