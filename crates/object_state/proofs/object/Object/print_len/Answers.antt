use Rattle.std.proofs.Common.{◌∙◌, sym, ap, length}
use Rattle.std.specs.Option.{option_copied}
use Rattle.object_state.specs.Entries.{attributes_of}
use Rattle.object_state.specs.Held.{print_matching}
use Rattle.object_state.proofs.Printing.{matching-all}
use Rattle.object_state.proofs.object.Object.print_len.Goals as goal

pub returns-in-None : goal.returns-in-None
returns-in-None c = c.self.invariant.kept ∙ sym (ap length (matching-all (attributes_of c.self.inside.map.entries)))
    ∙ (λ i. length (print_matching (option_copied (sym c.in-None.is i)) ((c.self.view_is i).attributes)))
