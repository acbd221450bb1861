-- What follows from an event, for one handle after the other.
use Rattle.std.specs.Prelude.{◌≡◌, List, [], ◌∷◌, true, Some, is_some, option_map}
use Rattle.pps_types.specs.Reading.{OpenHandle}
use Rattle.pps_types.specs.Rests.{Progress}
use Rattle.pps_types.specs.Content.{Content, own_handle}
use Rattle.pps_types.specs.Plan.{apply_all_seen}
use Rattle.whole_texts.specs.declared.following.Following.{Following}
use Rattle.whole_texts.specs.declared.following.Following.TheVariants.{Fires, Ends}
use Rattle.whole_texts.specs.Followed.{moves_of}

-- it can follow: the pulse is armed on the connection's own handle, or a read waits on it
abbrev pub CanFollow : Content → Following → Type 0
CanFollow c (Fires number conn pulse) =
    option_map (λ (handle : OpenHandle Progress). handle.armed) (own_handle c conn number) ≡ Some (Some (pulse.code, pulse.value))
CanFollow c (Ends number conn result) =
    option_map (λ (handle : OpenHandle Progress). is_some handle.parked) (own_handle c conn number) ≡ Some true
CanFollow c _ = Unit {0}

-- each of them, where those before it took effect
abbrev pub CanFollowAll : Content → List Following → Type 0
CanFollowAll c [] = Unit {0}
CanFollowAll c (x ∷ xs) = CanFollow c x × CanFollowAll (apply_all_seen (moves_of x) c) xs
