-- Whom records wake, by what stands of each handle.
use Rattle.std.proofs.Common.{◌≡◌, ℕ, Bool, true, false, cond, not, ◌&&◌, ◌||◌, List, [], ◌∷◌, Option, Some, None, refl, ap, ◌∙◌}
use Rattle.std.specs.Prelude.{filter, map, is_some, option_map}
use Rattle.std.specs.List.{list_any}
use Rattle.pps_types.specs.Bytes.{is_empty}
use Rattle.pps_types.specs.History.{Entry}
use Rattle.pps_types.specs.Reading.{OpenHandle}
use Rattle.pps_types.specs.Rests.{Progress}
use Rattle.pps_types.specs.Content.{is_waiting, learns}
use Rattle.sub_reader.specs.Woken.{woken_by}
use Rattle.sub_reader.specs.Rows.{number_in}
use Rattle.topics.specs.QueueRows.{QueueRow, handle_of, sees}
use Rattle.topics.specs.Woken.{wakes_at}

some-mapped : {X Y : Type 0} (f : X → Y) (o : Option X) → is_some o ≡ is_some (option_map f o)
some-mapped f None = refl
some-mapped f (Some x) = refl

module _ (object : ℕ) (name : List ℕ) (es : List Entry) where
  wakes-same : (x : QueueRow) → wakes_at object es x ≡ (is_waiting (handle_of object name x) && learns es (handle_of object name x))
  wakes-same x = ap (λ b. (is_some x.parked || b) && (not (not (is_empty x.progress.owed)) && list_any (λ e. sees object e x) es)) (some-mapped (λ p. (p.code, p.value)) x.armed)

  pub woken-rows : (xs : List QueueRow) → map number_in (filter (wakes_at object es) xs) ≡ woken_by es (map (handle_of object name) xs)
  woken-rows [] = refl
  woken-rows (x ∷ xs) =
      ap (λ b. map number_in (cond b (x ∷ filter (wakes_at object es) xs) (filter (wakes_at object es) xs))) (wakes-same x)
      ∙ by (is_waiting (handle_of object name x) && learns es (handle_of object name x)) (woken-rows xs)
    where
      by : (b : Bool) → map number_in (filter (wakes_at object es) xs) ≡ woken_by es (map (handle_of object name) xs)
          → map number_in (cond b (x ∷ filter (wakes_at object es) xs) (filter (wakes_at object es) xs))
          ≡ map {A = OpenHandle Progress} (λ h. h.number) (cond b (handle_of object name x ∷ filter (λ h. is_waiting h && learns es h) (map (handle_of object name) xs)) (filter (λ h. is_waiting h && learns es h) (map (handle_of object name) xs)))
      by true rec = ap (λ ns. number_in x ∷ ns) rec
      by false rec = rec
