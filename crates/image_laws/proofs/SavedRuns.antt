-- A run leaves what can be saved so, and its limit.
use Rattle.std.proofs.Common.{◌≡◌, ℕ, true, false, List, [], ◌∷◌, refl, sym, ap, subst, ◌∙◌}
use Rattle.pps_types.specs.declared.event.Event.{Event}
use Rattle.pps_types.specs.Outcome.{Reply, is_marked}
use Rattle.pps_types.specs.Content.{Content}
use Rattle.pps_types.specs.WellFormed.{IsContent}
use Rattle.pps_types.specs.Plan.{Move, Attaches, Leaves, Creates, AppendsRecord, Opens, Closes, CatchesUp, Advances, Parks, Arms, Queues, Takes, MakesDirectory, RemovesDirectory, apply_seen, apply_all_seen, plan, step_seen}
use Rattle.pps_types.specs.Machine.{Machine, IsMachine, content_of, step, marked_step}
use Rattle.pps_types.specs.Runs.{Answered, after, after_seen, after_answered, end_of}
use Rattle.service_laws.proofs.WellSteps.{basis-in, step-content}
use Rattle.service_laws.proofs.Law.{step-shown, step-made}
use Rattle.service_laws.specs.Bounds.{IsBound}
use Rattle.service_laws.proofs.BoundedEvents.{bounds-stay}
use Rattle.image_laws.specs.Laws.{IsReadAgain, IsReadLater}
use Rattle.image_laws.specs.Savable.{CanBeSaved}
use Rattle.image_laws.proofs.SavedEvents.{step-saved}
use Rattle.image_laws.proofs.Saving.{image-read}

pub after-saved : (es : List Event) (c : Content) → IsContent c → IsBound c → CanBeSaved c → CanBeSaved (after_seen c es)
after-saved [] c well bound can = can
after-saved (e ∷ es) c well bound can = after-saved es (step_seen c e).1 (step-content c e well) (bounds-stay.stays c well bound e) (step-saved c e (basis-in c well) bound can)

-- ---- the limit

limit-kept : (x : Move) (c : Content) → (apply_seen x c).default_limit ≡ c.default_limit
limit-kept (Attaches conn) c = refl
limit-kept (Leaves conn) c = refl
limit-kept (Creates o) c = refl
limit-kept (AppendsRecord e) c = refl
limit-kept (Opens h) c = refl
limit-kept (Closes number) c = refl
limit-kept (CatchesUp number) c = refl
limit-kept (Advances number count) c = refl
limit-kept (Parks number size) c = refl
limit-kept (Arms number pulse) c = refl
limit-kept (Queues conn item) c = refl
limit-kept (Takes conn) c = refl
limit-kept (MakesDirectory path) c = refl
limit-kept (RemovesDirectory number) c = refl

limit-after : (xs : List Move) (c : Content) → (apply_all_seen xs c).default_limit ≡ c.default_limit
limit-after [] c = refl
limit-after (x ∷ xs) c = limit-after xs (apply_seen x c) ∙ limit-kept x c

limit-step : (c : Content) (e : Event) → (step_seen c e).1.default_limit ≡ c.default_limit
unfolding step_seen
limit-step c e = limit-after (plan c e).1 c

-- ---- machines

-- what stands of it can be saved, with that limit
pub record IsSaving (limit : ℕ) (m : Machine) : Type 0 where
  pub made : IsMachine m
  pub bound : IsBound (content_of m)
  pub can : CanBeSaved (content_of m)
  pub keeps : (content_of m).default_limit ≡ limit

step-saving : (limit : ℕ) (m : Machine) (e : Event) → IsSaving limit m → IsSaving limit (step m e).1
step-saving limit m e s =
    let is : (step_seen (content_of m) e).1 ≡ content_of (step m e).1 = sym (ap (λ (r : Reply × Content). r.1) (step-shown m s.made e)) in
    record {
      made = step-made m s.made e;
      bound = subst IsBound is (bounds-stay.stays (content_of m) s.made.standing s.bound e);
      can = subst CanBeSaved is (step-saved (content_of m) e (basis-in (content_of m) s.made.standing) s.bound s.can);
      keeps = ap (λ (c : Content). c.default_limit) (sym is) ∙ limit-step (content_of m) e ∙ s.keeps;
    }

after-saving : (limit : ℕ) (es : List Event) (m : Machine) → IsSaving limit m → IsSaving limit (after m es)
after-saving limit [] m s = s
after-saving limit (e ∷ es) m s = after-saving limit es (step m e).1 (step-saving limit m e s)

end-saving : (limit : ℕ) (answered : List Answered) (m : Machine) → IsSaving limit m → IsSaving limit (end_of m answered)
end-saving limit [] m s = s
end-saving limit (x ∷ xs) m s = end-saving limit xs (after_answered m x)
    (elim (is_marked x.reply) as (λ b. IsSaving limit (marked_step m x.event b).1) [ true ↦ s | false ↦ step-saving limit m x.event s ])

reads-again : (limit : ℕ) (m : Machine) → IsSaving limit m → IsReadAgain limit (content_of m)
reads-again limit m s = subst (λ n. IsReadAgain n (content_of m)) s.keeps (image-read (content_of m) s.made.standing s.bound s.can)

pub read-later : (m : Machine) → IsSaving m.default_limit m → IsReadLater m
read-later m s = record {
  events = λ es. reads-again m.default_limit (after m es) (after-saving m.default_limit es m s);
  answered = λ answered. reads-again m.default_limit (end_of m answered) (end-saving m.default_limit answered m s);
}
