use Rattle.std.proofs.Common.{sym, ap, ◌∙◌, []}
use Rattle.alloc_tree.specs.Refused.{object_refused}
use Rattle.alloc_tree.specs.View.{standing}
use Rattle.alloc_tree.specs.declared.edit.Edit.TheVariants.{RemovesObject}
use Rattle.alloc_tree.proofs.Refusals.{edit_root}
use Rattle.alloc_tree.proofs.entries.check_object.Goals as goal

pub returns-in-Directory-clause-refusal : goal.returns-in-Directory-clause-refusal
returns-in-Directory-clause-refusal g c = sym (ap (λ n. object_refused (standing n) []) c.in-Directory.is ∙ edit_root RemovesObject c.in-Directory.field-0.value)
