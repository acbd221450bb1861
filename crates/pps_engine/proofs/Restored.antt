-- What the calls leave that restore an image.
use Rattle.std.specs.Prelude.{◌≡◌, [], Result, Ok, Err, OnOk, OnErr, None, Option}
use Rattle.std.proofs.Common.{sym, subst}
use Rattle.pps_types.specs.declared.refusal.Refusal.{Refusal}
use Rattle.pps_types.specs.Content.{Content}
use Rattle.pps_types.specs.Machine.{Machine}
use Rattle.image_laws.specs.Restored.{Becomes}
use Rattle.image_laws.specs.Unused.{IsUnused}
use Rattle.service_state.specs.Tables.{Tabled, content_in}
use Rattle.pps_engine.specs.declared.engine.Ready.{Ready}
use Rattle.pps_engine.specs.Standing.{IsSound, IsPending}

-- nobody has a handle of it
pub unused_in : (c : Content) → IsSound c → c.handles ≡ [] → IsUnused c
unused_in c sound unused = record { formed = sound.formed; bound = sound.bound; can = sound.can; handles = unused }

-- so it is after a call that left this or was refused
pub left_unused : {T : Type 0} (c d : Content) (call : Result Content Refusal) (r : Result T Refusal) → ((e : Content) → call ≡ Ok e → IsUnused e) → IsUnused c → OnOk r (call ≡ Ok d) → OnErr r (d ≡ c) → IsUnused d
left_unused c d call (Ok x) stays w done kept = stays d done
left_unused c d call (Err e) stays w done kept = subst IsUnused (sym kept) w

-- nothing is pending
pub sound_alone : (t : Tabled) (o : Option Ready) → IsUnused (content_in t) → o ≡ None → IsSound (content_in t) × IsPending t o
sound_alone t o w none = (record { formed = w.formed; bound = w.bound; can = w.can }, subst (IsPending t) (sym none) tt)

-- a call that is done makes of what stood what its law says
pub becomes : {T : Type 0} (made : Machine → Machine) (c d : Content) (call : Result Content Refusal) (r : Result T Refusal) → ((e : Content) → call ≡ Ok e → Becomes made c e) → OnOk r (call ≡ Ok d) → OnOk r (Becomes made c d)
becomes made c d call (Ok x) law done = law d done
becomes made c d call (Err e) law done = tt
