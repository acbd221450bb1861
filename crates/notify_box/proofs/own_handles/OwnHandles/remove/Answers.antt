use Rattle.std.proofs.Common.{◌≡◌, ◌+◌, ◌∙◌, ℕ, suc, drop, sym, arith}
use Rattle.std.specs.List.{remove}
use Rattle.pps_types.specs.Rising.{IsRising}
use Rattle.pps_types.proofs.RisingEdits.{rising_remove}
use Rattle.notify_box.proofs.ConnectionChanges.{without_place, without_gap}
use Rattle.notify_box.proofs.OwnHandles.{first_removed, later_removed}
use Rattle.notify_box.proofs.own_handles.OwnHandles.remove.Goals.{then-place-eq0, else-place-eq0}
use Rattle.notify_box.proofs.own_handles.OwnHandles.remove.Goals as goal

pub returns-in_default-clause-handles : goal.returns-in_default-clause-handles
returns-in_default-clause-handles c =
    sym (without_gap (λ (h : ℕ). h) c.args.handle _ _ (rw (c.as_slice.ensures, c.number.ensures.same) at c.in_default.ensures.absent))

-- the handle at its place is taken out
removed : (c : goal.After-self-1) → drop c.if-place-eq0.closed c.if-place-eq0.self-inside.places.items ≡ remove (drop c.self.inside.closed c.self.inside.places.items) c.in-Ok.place
removed c = elim c.if-place-eq0.branch [
  | then-place-eq0 w ↦
      let next : c.self.inside.closed + 1 ≡ suc c.self.inside.closed = omega arith in
      rw (w.closed-is, w.self-inside-is, w.if-place-eq0.true, next) (first_removed c.self.inside.closed c.self.inside.places.items)
  | else-place-eq0 w ↦ rw (w.closed-is, w.self-inside-is, w.remove.ensures.items) (later_removed c.self.inside.closed c.in-Ok.place c.self.inside.places.items)
]

pub returns-clause-handles : goal.returns-clause-handles
returns-clause-handles c =
    rw (← c.self.view_is) (c.drop_if_many-self-inside.ensures.handles ∙ removed c
    ∙ without_place (λ (h : ℕ). h) c.args.handle _ _ (rw (c.as_slice.ensures, c.number.ensures.same, ← c.self.view_is) at c.in-Ok.ensures.found))

pub returns-clause-rising : goal.returns-clause-rising
returns-clause-rising c =
    rw (c.drop_if_many-self-inside.ensures.handles ∙ removed c) (rising_remove (λ (h : ℕ). h) _ c.in-Ok.place (rw (← c.self.view_is) at c.requires))
