-- Whom records wake, by their places.
use Rattle.std.proofs.Common.{◌≡◌, ℕ, ◌-◌, Bool, true, false, cond, not, ◌&&◌, ◌||◌, List, [], ◌∷◌, Option, Some, None, drop, refl, ap, ◌∙◌}
use Rattle.std.specs.Prelude.{filter, map, is_some, option_map}
use Rattle.std.specs.List.{AllByRecursion, list_any}
use Rattle.pps_types.specs.History.{Entry}
use Rattle.pps_types.specs.Reading.{OpenHandle, visible}
use Rattle.pps_types.specs.Rests.{Progress, news_in, Owed}
use Rattle.pps_types.specs.Content.{is_waiting, learns}
use Rattle.sub_reader.specs.declared.place.Place.{Place}
use Rattle.sub_reader.specs.declared.place.Place.TheVariants.{News, Fresh, Over, Idle, At}
use Rattle.sub_reader.specs.Readers.{Reader}
use Rattle.sub_reader.specs.Opened.{opened}
use Rattle.sub_reader.specs.Places.{seen_at, handle_of, Begins, IsPlace, IsReader}
use Rattle.sub_reader.specs.Woken.{woken_by, news_at, wakes_at}

some-mapped : {X Y : Type 0} (f : X → Y) (o : Option X) → is_some o ≡ is_some (option_map f o)
some-mapped f None = refl
some-mapped f (Some x) = refl

-- a list that begins with something is not empty
begun : (test : Entry → Bool) (reads : Bool) (rest : List Entry) → Begins test rest → true ≡ news_in reads (Owed rest)
begun test reads [] is = absurd is
begun test reads (e ∷ es) is = refl

news-place : {S : Type 0} (h : OpenHandle S) (start : ℕ) (entries : List Entry) (p : Place) → IsPlace h start entries p → news_at h.reads p ≡ news_in h.reads (seen_at start entries p)
news-place h start entries (News b) is = refl
news-place h start entries Fresh is = refl
news-place h start entries Over is = refl
news-place h start entries Idle is = refl
news-place h start entries (At first owed) is = begun (visible h) h.reads (drop (first - start) entries) is.begins

module _ (t : ℕ) (name : List ℕ) (start : ℕ) (entries : List Entry) (es : List Entry) where
  wakes-same : (r : Reader) → IsPlace (opened t name r.opening) start entries r.progress
      → wakes_at t es r ≡ (is_waiting (handle_of t name start entries r) && learns es (handle_of t name start entries r))
  wakes-same r is =
      ap (λ b. (is_some r.parked || b) && (not (news_at r.opening.reads r.progress) && list_any (visible (opened t [] r.opening)) es)) (some-mapped (λ p. (p.code, p.value)) r.armed)
      ∙ ap (λ b. is_waiting (handle_of t name start entries r) && (not b && list_any (visible (opened t [] r.opening)) es)) (news-place (opened t name r.opening) start entries r.progress is)

  pub woken-readers : (d : Bool) (rs : List Reader) → AllByRecursion (IsReader d t name start entries) rs
      → map (λ r. r.opening.number) (filter (wakes_at t es) rs) ≡ woken_by es (map (handle_of t name start entries) rs)
  woken-readers d [] all = refl
  woken-readers d (r ∷ rs) all =
      ap (λ b. map {A = Reader} (λ x. x.opening.number) (cond b (r ∷ filter (wakes_at t es) rs) (filter (wakes_at t es) rs))) (wakes-same r all.0.place)
      ∙ by (is_waiting (handle_of t name start entries r) && learns es (handle_of t name start entries r)) (woken-readers d rs all.1)
    where
      by : (b : Bool) → map (λ r. r.opening.number) (filter (wakes_at t es) rs) ≡ woken_by es (map (handle_of t name start entries) rs)
          → map {A = Reader} (λ x. x.opening.number) (cond b (r ∷ filter (wakes_at t es) rs) (filter (wakes_at t es) rs))
          ≡ map {A = OpenHandle Progress} (λ h. h.number) (cond b (handle_of t name start entries r ∷ filter (λ h. is_waiting h && learns es h) (map (handle_of t name start entries) rs)) (filter (λ h. is_waiting h && learns es h) (map (handle_of t name start entries) rs)))
      by true rec = ap (λ ns. r.opening.number ∷ ns) rec
      by false rec = rec
