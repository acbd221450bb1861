-- A service of which nobody has a handle. Own.
use Rattle.std.specs.Prelude.{◌≡◌, []}
use Rattle.pps_types.specs.Content.{Content}
use Rattle.pps_types.specs.WellFormed.{IsContent}
use Rattle.service_laws.specs.Bounds.{IsBound}
use Rattle.image_laws.specs.Savable.{CanBeSaved}

-- what is there is well formed and within its bounds, and can be saved
pub record IsUnused (c : Content) : Type 0 where
  pub formed : IsContent c
  pub bound : IsBound c
  pub can : CanBeSaved c
  pub handles : c.handles ≡ []
