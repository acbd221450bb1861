-- What follows from an event, by the numbers of those that its records wake.
use Rattle.std.proofs.Common.{◌≡◌, ℕ, List, [], sym, ap, ◌∙◌, subst, ◌⊎◌, inl, inr}
use Rattle.std.specs.Prelude.{filter}
use Rattle.std.specs.List.{flat_map, AllByRecursion}
use Rattle.pps_types.specs.declared.event.Request.{Request}
use Rattle.pps_types.specs.History.{Entry}
use Rattle.pps_types.specs.WellFormed.{IsContent}
use Rattle.pps_types.specs.Content.{Content}
use Rattle.pps_types.specs.Plan.{Move, apply_all_seen, effect, settling}
use Rattle.pps_types.proofs.Lists.{all-weaken, all-all}
use Rattle.service_laws.specs.Told.{entries_told, is_woken}
use Rattle.service_laws.specs.SettlingMoves.{follows}
use Rattle.service_laws.specs.SettlingLaws.{EventsAreSettled}
use Rattle.service_laws.proofs.SettlingLists.{flat_map-same}
use Rattle.service_laws.proofs.SettlingEvents.{nobody}
use Rattle.sub_reader.specs.Woken.{woken_by}
use Rattle.pps_engine.specs.SettlingTold.{IsToldBy}
use Rattle.pps_engine.specs.Behind.{follows_behind, follows_numbered, is_dead_behind, members_behind}
use Rattle.pps_engine.proofs.SettlingTells.{IsPlain, AreTelling, effect-tells}
use Rattle.pps_engine.proofs.Targets.{follows-told}
use Rattle.pps_engine.proofs.Wakes.{wakes-told, none-wakes}
use Rattle.pps_engine.proofs.Able.{AreAble, able-behind}

-- where no record is told, nobody wakes
pub none-woken : (c : Content) (es : List Entry) (closing : List ℕ) → es ≡ [] → flat_map (follows_numbered c es closing) (woken_by es c.handles) ≡ []
none-woken c es closing none = ap (λ ns. flat_map (follows_numbered c es closing) ns) (ap (λ es. woken_by es c.handles) none ∙ none-wakes c.handles)

plain-all : (xs : List Move) → AreTelling xs → AllByRecursion IsPlain xs
plain-all xs tells = all-weaken {Q = IsPlain} (λ x p. p.1) xs tells

module _ (c : Content) (is : IsContent c) (laws : EventsAreSettled) (conn : ℕ) (request : Request) (es : List Entry) (closing : List ℕ) (told : IsToldBy c conn request es closing) where
  -- those that its records wake, of whom those that close are left out
  pub by-numbers : flat_map (follows_numbered c es closing) (woken_by es c.handles) ≡ flat_map (follows_behind c es) (filter (is_woken (effect c conn request).1) c.handles)
  by-numbers = subst (λ es. flat_map (follows_numbered c es closing) (woken_by es c.handles) ≡ flat_map (follows_behind c es) (filter (is_woken (effect c conn request).1) c.handles)) told.told
      (subst (λ closing. flat_map (follows_numbered c (entries_told (effect c conn request).1) closing) (woken_by (entries_told (effect c conn request).1) c.handles) ≡ flat_map (follows_behind c (entries_told (effect c conn request).1)) (filter (is_woken (effect c conn request).1) c.handles)) told.closed
      (wakes-told c is.order.handles_rise (effect c conn request).1))

  by-records : AreTelling (effect c conn request).1 ⊎ (entries_told (effect c conn request).1 ≡ [])
      → flat_map (follows_behind c (entries_told (effect c conn request).1)) (filter (is_woken (effect c conn request).1) c.handles) ≡ flat_map (follows c (effect c conn request).1) (filter (is_woken (effect c conn request).1) c.handles)
  by-records (inl tells) = flat_map-same (follows_behind c (entries_told (effect c conn request).1)) (follows c (effect c conn request).1) (filter (is_woken (effect c conn request).1) c.handles)
      (all-all {P = λ h. follows_behind c (entries_told (effect c conn request).1) h ≡ follows c (effect c conn request).1 h} (λ h. sym (follows-told c (effect c conn request).1 (plain-all (effect c conn request).1 tells) h)) (filter (is_woken (effect c conn request).1) c.handles))
  by-records (inr silent) =
      ap (flat_map (follows_behind c (entries_told (effect c conn request).1))) (nobody (effect c conn request).1 c.handles silent)
      ∙ sym (ap (flat_map (follows c (effect c conn request).1)) (nobody (effect c conn request).1 c.handles silent))

  -- all that follows
  pub settled-by : flat_map (follows_numbered c es closing) (woken_by es c.handles) ≡ settling c (apply_all_seen (effect c conn request).1 c)
  settled-by =
      by-numbers
      ∙ ap (λ es. flat_map (follows_behind c es) (filter (is_woken (effect c conn request).1) c.handles)) (sym told.told)
      ∙ by-records (effect-tells c conn request)
      ∙ sym (laws.settled c is conn request told.passes)

  able-by : AreTelling (effect c conn request).1 ⊎ (entries_told (effect c conn request).1 ≡ [])
      → AreAble (apply_all_seen (effect c conn request).1 c) (flat_map (follows_behind c es) (filter (is_woken (effect c conn request).1) c.handles))
  able-by (inl tells) = able-behind c is.order.handles_rise (effect c conn request).1 (laws.numbered c is conn request told.passes) tells es (is_dead_behind c es) (members_behind c es)
  able-by (inr silent) = subst (λ hs. AreAble (apply_all_seen (effect c conn request).1 c) (flat_map (follows_behind c es) hs)) (sym (nobody (effect c conn request).1 c.handles silent)) tt

  -- and it can be made behind the event
  pub able-numbers : AreAble (apply_all_seen (effect c conn request).1 c) (flat_map (follows_numbered c es closing) (woken_by es c.handles))
  able-numbers = subst (AreAble (apply_all_seen (effect c conn request).1 c)) (sym by-numbers) (able-by (effect-tells c conn request))
