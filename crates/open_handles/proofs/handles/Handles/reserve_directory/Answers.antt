use Rattle.std.proofs.Common.{refl}
use Rattle.open_handles.proofs.Wholes.{same_whole}
use Rattle.open_handles.proofs.handles.Handles.reserve_directory.Goals as goal

pub invariant_of-self : goal.invariant_of-self
invariant_of-self c =
    same_whole (record { rows = c.self.inside.rows; objects = c.self.inside.places.objects; directories = c.self.inside.places.directories }) (record { rows = c.self.inside.rows; objects = c.self.inside.places.objects; directories = c.reserve.new.self })
    refl refl refl refl c.reserve.ensures.entries c.reserve.ensures.next c.self.invariant
