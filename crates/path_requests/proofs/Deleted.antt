-- What an Unlink does, by what it begins with.
use Rattle.std.specs.Prelude.{◌≡◌, ◌⊎◌, ℕ, List, [], ◌∷◌, ◌++◌, Bool, true, false, Option, Some, None, length, map, option_map}
use Rattle.std.specs.List.{flat_map, list_all}
use Rattle.std.proofs.Common.{refl, sym, ◌∙◌, ap, subst, cond, inl, inr}
use Rattle.pps_types.specs.declared.refusal.Refusal.{Refusal}
use Rattle.pps_types.specs.declared.refusal.Refusal.TheVariants.{OutOfMemory, TableFull}
use Rattle.pps_types.specs.declared.event.Request.TheVariants.{Unlink}
use Rattle.pps_types.specs.declared.outcome.Outcome.TheVariants.{Done}
use Rattle.pps_types.specs.declared.record.Kind.TheVariants.{Deleted}
use Rattle.pps_types.specs.Names.{Path}
use Rattle.pps_types.specs.OpenText.{path_text}
use Rattle.pps_types.specs.History.{Entry}
use Rattle.pps_types.specs.Content.{Content, LiveObject, Directory, object_at, directory_at}
use Rattle.pps_types.specs.Checks.{first_refusal, unlink_checks}
use Rattle.pps_types.specs.Plan.{Move, entry_of, effect, apply_all_seen, passes_last_number}
use Rattle.pps_types.specs.WellFormed.{IsContent}
use Rattle.service_laws.specs.SettlingTargets.{last_number_passed, last_number_passed_after}
use Rattle.service_laws.specs.SettlingLaws.{EventsAreSettled}
use Rattle.service_state.specs.declared.beginning.Beginning.{Beginning}
use Rattle.service_state.specs.Beginning.{moves_of, entries_in, CanBeginAll, is_plain}
use Rattle.service_state.specs.Refused.{Fails, all_request_checks}
use Rattle.service_state.specs.Begun.{bare, telling}
use Rattle.service_state.proofs.Begun.{bare_moves, bare_plain, bare_able, numbers_begun, told_moves}
use Rattle.path_requests.proofs.Checked.{unlink_last}
use Rattle.path_requests.proofs.Gone.{told_does, removed_does}

-- the record of the object at a path
abbrev pub deletion_at : Content → Path → Option Entry
deletion_at c names = option_map (λ (o : LiveObject). entry_of o.object Deleted None) (object_at c names)

module _ (c : Content) (names : Path) (xs : List Beginning) (begins : map bare xs ≡ telling (deletion_at c names)) where
  pub deletion_able : CanBeginAll c xs
  deletion_able = bare_able xs c (subst (CanBeginAll c) (sym begins) (by (deletion_at c names)))
    where
      by : (o : Option Entry) → CanBeginAll c (telling o)
      by None = tt
      by (Some e) = (tt, tt)

  pub deletion_plain : list_all is_plain xs ≡ true
  deletion_plain = sym (bare_plain xs) ∙ ap (list_all is_plain) begins ∙ by (object_at c names)
    where
      by : (o : Option LiveObject) → list_all is_plain (telling (option_map (λ (o : LiveObject). entry_of o.object Deleted None) o)) ≡ true
      by None = refl
      by (Some o) = refl

  module _ (conn : ℕ) (text : List ℕ) (is : path_text text ≡ Some names) (none : directory_at c names ≡ None) where
    pub deletion_does : effect c conn (Unlink text) ≡ (Done, flat_map moves_of xs)
    deletion_does = told_does c conn text names is none ∙ (λ i. (Done, (told_moves (deletion_at c names) ∙ sym (ap (flat_map moves_of) begins) ∙ bare_moves xs) i))

    module _ (settled : EventsAreSettled) where
      deletion_last : passes_last_number (apply_all_seen (effect c conn (Unlink text)).1 c) ≡ last_number_passed c (length (entries_in xs)) 0 0
      deletion_last =
          settled.numbers (effect c conn (Unlink text)).1 c ∙ ap (λ m. last_number_passed_after c (m.1)) deletion_does ∙ ap (last_number_passed_after c) (sym (append_none (flat_map moves_of xs))) ∙ numbers_begun c xs [] refl refl refl
        where
          append_none : (ms : List Move) → ms ++ [] ≡ ms
          append_none [] = refl
          append_none (m ∷ ms) = ap (λ xs. m ∷ xs) (append_none ms)

      pub deletion_refusal : first_refusal (unlink_checks c names) ≡ None → (last : Bool) → last_number_passed c (length (entries_in xs)) 0 0 ≡ last → first_refusal (all_request_checks c conn (Unlink text)) ≡ cond last (Some TableFull) None
      deletion_refusal passes last last-is = unlink_last c conn text names is passes last (deletion_last ∙ last-is)

      pub deletion_fails : first_refusal (unlink_checks c names) ≡ None → (r : Refusal) → (r ≡ OutOfMemory) ⊎ ((r ≡ TableFull) × (last_number_passed c (length (entries_in xs)) 0 0 ≡ true)) → Fails (all_request_checks c conn (Unlink text)) r
      deletion_fails passes r (inl memory) = inr (memory, refl)
      deletion_fails passes r (inr full) = inl (deletion_refusal passes true full.1 ∙ ap Some (sym full.0))

-- a directory is removed
pub removal_passes : EventsAreSettled → (c : Content) → IsContent c → (names : Path) (n : ℕ) → option_map (λ (d : Directory). d.number) (directory_at c names) ≡ Some n → (conn : ℕ) (text : List ℕ) → path_text text ≡ Some names
    → first_refusal (unlink_checks c names) ≡ None → last_number_passed c 0 0 0 ≡ false → first_refusal (all_request_checks c conn (Unlink text)) ≡ None
removal_passes settled c w names n there conn text is passes within =
    unlink_last c conn text names is passes false (settled.numbers (effect c conn (Unlink text)).1 c ∙ ap (λ m. last_number_passed_after c (m.1)) (removed_does c w names n there conn text is) ∙ within)

-- none is there
pub none_there : (c : Content) (names : Path) → None ≡ option_map (λ (d : Directory). d.number) (directory_at c names) → directory_at c names ≡ None
none_there c names e = by (directory_at c names) e
  where
    by : (d : Option Directory) → None ≡ option_map (λ (d : Directory). d.number) d → d ≡ None
    by None e = refl
    by (Some d) e = absurd (let bad = e in cc)
