use Rattle.std.proofs.Common.{◌∙◌, sym, ap}
use Rattle.server_queue.specs.Printed.{label, name_in}
use Rattle.server_queue.proofs.Labels.{name_in-label}
use Rattle.server_queue.proofs.entry.Entry.new.Goals as goal

pub invariant_of-new : goal.invariant_of-new
invariant_of-new c = record {
  labelled = c.in_ok-text.ensures ∙ ap (λ n. label n c.args.made.kind) (sym (ap (λ t. name_in t c.args.made.kind) c.in_ok-text.ensures ∙ name_in-label c.args.name c.args.made.kind));
}
