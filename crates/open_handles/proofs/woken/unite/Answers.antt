use Rattle.std.proofs.Common.{eqb, sym, ap, ◌∙◌}
use Rattle.open_handles.specs.United.{united}
use Rattle.open_handles.proofs.Wakes.{united_none, nothing}
use Rattle.open_handles.proofs.woken.unite.Goals as goal

pub returns-then-is_empty : goal.returns-then-is_empty
returns-then-is_empty c = ap (λ xs. united xs c.args.other.items) (sym (nothing c.args.one.items (ap (λ n. eqb n 0) (sym c.args.one.ok.0) ∙ sym c.is_empty.ensures ∙ c.if-is_empty.true)))

pub returns-then-is_empty-2 : goal.returns-then-is_empty-2
returns-then-is_empty-2 c = sym (united_none c.args.one.items) ∙ ap (united c.args.one.items) (sym (nothing c.args.other.items (ap (λ n. eqb n 0) (sym c.args.other.ok.0) ∙ sym c.is_empty-2.ensures ∙ c.if-is_empty-2.true)))
