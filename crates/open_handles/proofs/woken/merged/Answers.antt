use Rattle.std.proofs.Common.{◌∷◌, ◌++◌, [], append_assoc, sym, ap, ◌∙◌}
use Rattle.pps_types.proofs.Lists.{append-nil}
use Rattle.open_handles.specs.United.{united}
use Rattle.open_handles.proofs.woken.merged.Goals as goal

pub lowest-preserved : goal.lowest-preserved
lowest-preserved c =
    ap (λ xs. xs ++ united c.in-Some.lowest.one.now c.in-Some.lowest.other.now) c.in_ok-push.ensures.items
    ∙ append_assoc c.lowest.all.items (c.in-Some.lowest.handle ∷ []) (united c.in-Some.lowest.one.now c.in-Some.lowest.other.now)
    ∙ ap (λ xs. c.lowest.all.items ++ xs) (sym c.in-Some.ensures.some)
    ∙ c.lowest.invariant

pub returns : goal.returns
returns c = sym (append-nil c.lowest.all.items) ∙ ap (λ xs. c.lowest.all.items ++ xs) (sym c.in_default.ensures.none) ∙ c.lowest.invariant
