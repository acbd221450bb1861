-- Plans that are ready, and what is held.
use Rattle.std.proofs.Common.{subst, ap, sym, ◌∙◌, append-nil, arith, eqb, eqb-true, ne_eqb}
use Rattle.std.specs.Prelude.{◌≡◌, ◌<◌, ◌+◌, ℕ, List, [], ◌∷◌, ◌++◌, Bool, true, false, cond, map, find, length, nat_lt, option_map, Option, Some, Ok, refl}
use Rattle.std.proofs.lemmas.Bool.Decides.{nat_tests}
use Rattle.pps_types.specs.declared.event.Event.{Event}
use Rattle.pps_types.specs.declared.found.Found.{Found}
use Rattle.pps_types.specs.declared.found.Found.TheVariants.{Object as FoundObject, Directory as FoundDirectory}
use Rattle.pps_types.specs.declared.outcome.Outcome.{Outcome}
use Rattle.pps_types.specs.History.{Entry}
use Rattle.pps_types.specs.Outcome.{IsSendable}
use Rattle.pps_types.specs.Owed.{longer, longest, kept_records_seen, kept_seen, kept_at as kept_number}
use Rattle.pps_types.specs.Plan.{step_seen, apply_all_seen}
use Rattle.pps_types.specs.Names.{Path}
use Rattle.pps_types.specs.Reading.{OpenHandle}
use Rattle.pps_types.specs.Rests.{Progress}
use Rattle.pps_types.specs.Content.{Content, at}
use Rattle.pps_types.specs.Stands.{StepsSeen}
use Rattle.pps_types.specs.WellFormed.{RiseBetween}
use Rattle.pps_types.proofs.Chains.{longer-none, longest-length}
use Rattle.service_laws.proofs.WellSteps.{step-content}
use Rattle.service_laws.specs.Bounds.{IsBound}
use Rattle.service_laws.proofs.BoundedEvents.{step-keeps, step-sends}
use Rattle.image_laws.proofs.Proved.{saving-stays}
use Rattle.sub_reader.specs.Opened.{is_directory, number_of}
use Rattle.open_handles.specs.Whole.{HandlesOf, kept_at, kept_for, kept_if, kept_under}
use Rattle.service_state.specs.Tables.{Tabled, content_in}
use Rattle.pps_engine.specs.declared.planned.Pending.{Pending}
use Rattle.pps_engine.specs.Events.{moves_pending, CanCarry}
use Rattle.pps_engine.specs.declared.engine.Ready.{Ready}
use Rattle.pps_engine.specs.Serving.{Chained, Upcoming, held_records}
use Rattle.pps_engine.specs.Standing.{IsSound, IsPending, after, coming, chain_of, HoldsJust}

-- ---- what a plan promises

-- a plan of what stands in other tables is one of what stands in these
pub planned-here : (t u : Tabled) (e : Event) (reply : Outcome) (p : Pending) → content_in u ≡ content_in t
    → StepsSeen (content_in t) e (Ok reply) (apply_all_seen (moves_pending p u) (content_in t)) → StepsSeen (content_in t) e (Ok reply) (after u p)
planned-here t u e reply p same steps =
    subst (λ c. StepsSeen (content_in t) e (Ok reply) (apply_all_seen (moves_pending p u) c)) (sym same) steps

-- what is kept of it is what the plan says
pub planned-as : (c : Content) (t u v : Tabled) (e : Event) (reply : Outcome) (p : Pending) (r : Ready) (plan : Upcoming) → content_in t ≡ c
    → content_in u ≡ content_in t → v ≡ u → r.pending ≡ p → coming v r ≡ plan → plan.reply ≡ reply
    → StepsSeen (content_in t) e (Ok reply) (apply_all_seen (moves_pending p u) (content_in t)) → StepsSeen c e (Ok plan.reply) plan.content
planned-as c t u v e reply p r plan is same is_v is_p latest is_reply steps =
    let content : plan.content ≡ after u p = sym (ap (λ (x : Upcoming). x.content) latest) ∙ ap (λ w. after w r.pending) is_v ∙ ap (after u) is_p in
    rw (content, is_reply) (subst (λ (d : Content). StepsSeen d e (Ok reply) (after u p)) is (planned-here t u e reply p same steps))

pub planned-latest : (u v : Tabled) (r : Ready) (plan : Upcoming) (o : Option Ready) → o ≡ Some r → v ≡ u → coming v r ≡ plan → option_map (coming u) o ≡ Some plan
planned-latest u v r plan o is is_v latest = ap (option_map (coming u)) is ∙ ap Some (ap (λ w. coming w r) (sym is_v) ∙ latest)

pub planned-reply : (c d : Content) (e : Event) (reply : Outcome) → StepsSeen c e (Ok reply) d → (step_seen c e).0 ≡ Ok reply
planned-reply c d e reply s = sym (ap (λ p. p.0) s.taken)

pub planned-sound : (c d : Content) (e : Event) (reply : Outcome) → IsSound c → StepsSeen c e (Ok reply) d → IsSound d
planned-sound c d e reply sound s =
    subst IsSound (sym (ap (λ p. p.1) s.taken)) (record { formed = step-content c e sound.formed; bound = step-keeps c sound.formed sound.bound e; can = saving-stays.stays c sound.formed sound.bound sound.can e })

pub planned-sends : (c d : Content) (e : Event) (reply : Outcome) → IsBound c → StepsSeen c e (Ok reply) d → IsSendable (Ok reply)
planned-sends c d e reply b s = subst IsSendable (planned-reply c d e reply s) (step-sends c b e)

-- what is planned can be carried out, and leaves what is sound
pub planned-pending : (t u : Tabled) (e : Event) (reply : Outcome) (p : Pending) (r : Ready) (o : Option Ready) → IsSound (content_in t) → content_in u ≡ content_in t
    → StepsSeen (content_in t) e (Ok reply) (apply_all_seen (moves_pending p u) (content_in t)) → CanCarry p u → r.pending ≡ p → o ≡ Some r
    → IsSound (content_in u) × IsPending u o
planned-pending t u e reply p r o sound same steps can is_p is = (
  subst IsSound (sym same) sound,
  subst (IsPending u) (sym is) (subst (λ (q : Pending). CanCarry q u × IsSound (after u q)) (sym is_p)
      (can, planned-sound (content_in t) (after u p) e reply sound (planned-here t u e reply p same steps))),
)

-- ---- what is held

longer-nothing : (xs : List Entry) → longer xs [] ≡ xs
longer-nothing xs = let e : nat_lt (length xs) 0 ≡ false = grind (arith, nat_tests) in ap (λ b. cond b [] xs) e

-- the lists of another kind of target
held-other : (d : Bool) (target : ℕ) (es : List HandlesOf) (zs : List Chained) → held_records d target (map (chain_of (cond d false true)) es ++ zs) ≡ held_records d target zs
held-other d target [] zs = refl
held-other true target (e ∷ es) zs = longer-none (held_records true target (map (chain_of false) es ++ zs)) ∙ held-other true target es zs
held-other false target (e ∷ es) zs = longer-none (held_records false target (map (chain_of true) es ++ zs)) ∙ held-other false target es zs

-- a list of the target's own kind
held-first : (d : Bool) (target : ℕ) (e : HandlesOf) (zs : List Chained) → held_records d target (chain_of d e ∷ zs) ≡ longer (cond (eqb e.number target) (kept_for e) []) (held_records d target zs)
held-first true target e zs = refl
held-first false target e zs = refl

module _ (d : Bool) (target : ℕ) (zs : List Chained) (none : held_records d target zs ≡ []) where
  held-above : (low high : ℕ) (es : List HandlesOf) → target < low → RiseBetween low (map (λ (e : HandlesOf). e.number) es) high → held_records d target (map (chain_of d) es ++ zs) ≡ []
  held-above low high [] lt r = none
  held-above low high (e ∷ es) lt r =
      held-first d target e (map (chain_of d) es ++ zs)
      ∙ ap (λ b. longer (cond b (kept_for e) []) (held_records d target (map (chain_of d) es ++ zs))) (ne_eqb e.number target (λ same. let le = r.0 in omega arith))
      ∙ longer-none (held_records d target (map (chain_of d) es ++ zs))
      ∙ held-above (e.number + 1) high es (let le = r.0 in omega arith) r.1

  held-own : (low high : ℕ) (es : List HandlesOf) → RiseBetween low (map (λ (e : HandlesOf). e.number) es) high → held_records d target (map (chain_of d) es ++ zs) ≡ kept_under target es
  held-own low high [] r = none
  held-own low high (e ∷ es) r = held-first d target e (map (chain_of d) es ++ zs) ∙ by (eqb e.number target) refl (held-own (e.number + 1) high es r.1)
    where
      by : (b : Bool) → eqb e.number target ≡ b → held_records d target (map (chain_of d) es ++ zs) ≡ kept_under target es
          → longer (cond b (kept_for e) []) (held_records d target (map (chain_of d) es ++ zs)) ≡ kept_if (cond b (Some e) (find (λ (x : HandlesOf). eqb x.number target) es))
      by true is rest = ap (longer (kept_for e)) (held-above (e.number + 1) high es (let same = eqb-true e.number target is in omega arith) r.1) ∙ longer-nothing (kept_for e)
      by false is rest = longer-none (held_records d target (map (chain_of d) es ++ zs)) ∙ rest

pub holds-just : (t : Tabled) → ((f : Found) → kept_at f t.handles ≡ kept_records_seen (content_in t) (is_directory f) (number_of f))
    → RiseBetween 0 (map (λ (e : HandlesOf). e.number) t.handles.objects.entries) t.handles.objects.next
    → RiseBetween 0 (map (λ (e : HandlesOf). e.number) t.handles.directories.entries) t.handles.directories.next → HoldsJust t
holds-just t owed objects directories true target =
    held-other true target t.handles.objects.entries (map (chain_of true) t.handles.directories.entries)
    ∙ ap (held_records true target) (sym (append-nil (map (chain_of true) t.handles.directories.entries)))
    ∙ held-own true target [] refl 0 t.handles.directories.next t.handles.directories.entries directories
    ∙ owed (FoundDirectory target)
holds-just t owed objects directories false target =
    held-own false target (map (chain_of true) t.handles.directories.entries) nothing 0 t.handles.objects.next t.handles.objects.entries objects ∙ owed (FoundObject target)
  where
    nothing : held_records false target (map (chain_of true) t.handles.directories.entries) ≡ []
    nothing = ap (held_records false target) (sym (append-nil (map (chain_of true) t.handles.directories.entries))) ∙ held-other false target t.handles.directories.entries []

-- how many records are held of what stands at a path
pub kept-told : (t : Tabled) (path : Path) (f : Found) (n : ℕ) → at (content_in t) path ≡ Some f → kept_at f t.handles ≡ kept_records_seen (content_in t) (is_directory f) (number_of f) → n ≡ length (kept_at f t.handles)
    → Some n ≡ kept_seen (content_in t) path
kept-told t path f n there owed is =
    ap Some (is ∙ ap length owed ∙ longest-length (is_directory f) (number_of f) hs ∙ by f)
    ∙ sym (ap (option_map (kept_number (λ directory target. longest directory target hs))) there)
  where
    hs : List (OpenHandle Progress)
    hs = (content_in t).handles

    by : (f : Found) → longest (is_directory f) (number_of f) hs ≡ kept_number (λ directory target. longest directory target hs) f
    by (FoundObject number) = refl
    by (FoundDirectory number) = refl
