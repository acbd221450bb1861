use Rattle.std.proofs.Common.{◌≡◌, ap, sym, ◌∙◌, subst}
use Rattle.std.specs.List.{AllByRecursion}
use Rattle.open_handles.specs.Whole.{Whole, handles_in, HasSame}
use Rattle.open_handles.proofs.Sames.{same_told, told_same, same_handles, same_entries, objects_same, directories_same}
use Rattle.open_handles.proofs.handles.Handles.same.Goals as goal

-- what is the same of both is the same inside
inside : (a b w v : Whole) → a ≡ w → b ≡ v → handles_in w ≡ handles_in v → handles_in a ≡ handles_in b
inside a b w v one other same = ap handles_in one ∙ same ∙ sym (ap handles_in other)

next_inside : (a b w v : Whole) → a ≡ w → b ≡ v → w.rows.next ≡ v.rows.next → a.rows.next ≡ b.rows.next
next_inside a b w v one other same = ap (λ (w : Whole). w.rows.next) one ∙ same ∙ sym (ap (λ (w : Whole). w.rows.next) other)

pub returns-then-not-same : goal.returns-then-not-same
returns-then-not-same c = (
  λ h. absurd (let no = h in cc),
  λ same.
      let yes = c.same.ensures ∙ told_same c.self.inside.rows c.other.inside.rows (same_entries c.self.inside.rows c.other.inside.rows c.self.inside.places c.other.inside.places c.self.invariant c.other.invariant (inside _ _ _ _ c.self.view_is c.other.view_is same.0)) (next_inside _ _ _ _ c.self.view_is c.other.view_is same.1) in
      cc,
)

pub returns-then-not-has_all : goal.returns-then-not-has_all
returns-then-not-has_all c = (
  λ h. absurd (let no = h in cc),
  λ same.
      let yes = c.has_all.ensures.1 (subst (AllByRecursion (HasSame c.other.inside.places)) (sym c.iter.ensures) (objects_same c.self.inside.rows c.other.inside.rows c.self.inside.places c.other.inside.places c.self.invariant c.other.invariant (inside _ _ _ _ c.self.view_is c.other.view_is same.0))) in
      cc,
)

pub returns : goal.returns
returns c = (
  λ is.
      let rows = same_told c.self.inside.rows c.other.inside.rows (sym c.same.ensures ∙ c.if-not-same.false) in (
        sym (ap handles_in c.self.view_is)
            ∙ same_handles c.self.inside.rows c.other.inside.rows c.self.inside.places c.other.inside.places c.self.invariant c.other.invariant rows.0
            (subst (AllByRecursion (HasSame c.other.inside.places)) c.iter.ensures (c.has_all.ensures.0 c.if-not-has_all.false))
            (subst (AllByRecursion (HasSame c.other.inside.places)) c.iter-2.ensures (c.has_all-2.ensures.0 is))
            ∙ ap handles_in c.other.view_is,
        sym (ap (λ (w : Whole). w.rows.next) c.self.view_is) ∙ rows.1 ∙ ap (λ (w : Whole). w.rows.next) c.other.view_is,
      ),
  λ same.
      c.has_all-2.ensures.1 (subst (AllByRecursion (HasSame c.other.inside.places)) (sym c.iter-2.ensures) (directories_same c.self.inside.rows c.other.inside.rows c.self.inside.places c.other.inside.places c.self.invariant c.other.invariant (inside _ _ _ _ c.self.view_is c.other.view_is same.0))),
)
