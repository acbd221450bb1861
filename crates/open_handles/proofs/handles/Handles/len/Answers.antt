use Rattle.std.proofs.Common.{◌≡◌, length, subst, ◌∙◌}
use Rattle.open_handles.specs.Whole.{Whole, handles_in}
use Rattle.open_handles.proofs.Wholes.{many_in}
use Rattle.open_handles.proofs.handles.Handles.len.Goals as goal

pub returns : goal.returns
returns c =
    subst (λ (w : Whole). c.len.result ≡ length (handles_in w)) c.self.view_is
    (c.len.ensures ∙ many_in (record { rows = c.self.inside.rows; objects = c.self.inside.places.objects; directories = c.self.inside.places.directories }) c.self.invariant)
