-- Between two moves of an event, what stands of the machine is what the moves so far make of what stood.
use Rattle.std.proofs.Common.{◌≡◌, ℕ, List, [], ◌∷◌, ◌++◌, subst}
use Rattle.pps_types.specs.declared.event.Event.{Event}
use Rattle.pps_types.specs.Content.{Content}
use Rattle.pps_types.specs.Plan.{Move, plan, apply_seen, apply_all_seen}
use Rattle.pps_types.specs.Machine.{Machine, IsMachine, AreLawful, next_after, AreAlive, content_of, apply_all}
use Rattle.service_laws.specs.RunLaws.{PlansAreLawful, MovesAreShown}
use Rattle.service_laws.proofs.Lawful.{plan-lawful}
use Rattle.service_laws.proofs.Alive.{plan-alive}
use Rattle.service_laws.proofs.WellSteps.{basis-in}
use Rattle.service_laws.proofs.Law.{apply_all-shown, made-of, machine-of}

lawful-part : (xs ys : List Move) (n : ℕ) → AreLawful n (xs ++ ys) → AreLawful n xs
lawful-part [] ys n p = tt
lawful-part (x ∷ xs) ys n p = (p.0, lawful-part xs ys (next_after n x) p.1)

alive-part : (xs ys : List Move) (c : Content) → AreAlive c (xs ++ ys) → AreAlive c xs
alive-part [] ys c p = tt
alive-part (x ∷ xs) ys c p = (p.0, alive-part xs ys (apply_seen x c) p.1)

pub between : (m : Machine) → IsMachine m → (e : Event) (done left : List Move) → (plan (content_of m) e).1 ≡ done ++ left → content_of (apply_all done m) ≡ apply_all_seen done (content_of m)
between m made e done left is = (apply_all-shown done m (made-of m made)
    (lawful-part done left (content_of m).next_object (subst (AreLawful (content_of m).next_object) is (plan-lawful (content_of m) e)))
    (alive-part done left (content_of m) (subst (AreAlive (content_of m)) is (plan-alive (content_of m) e (basis-in (content_of m) made.standing))))).0

pub plans-lawful : PlansAreLawful
plans-lawful = record { lawful = plan-lawful; alive = λ c well e. plan-alive c e (basis-in c well) }

pub moves-shown : MovesAreShown
moves-shown = record {
  apart = λ m made. (made-of m made, made.standing);
  whole = machine-of;
  stays = λ m made moves lawful alive. (apply_all-shown moves m made lawful alive).1;
  agrees = λ m made moves lawful alive. (apply_all-shown moves m made lawful alive).0;
  between = between;
}
