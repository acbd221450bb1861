-- The handles of a target, as they stand on it.
use Rattle.std.proofs.Common.{◌≡◌, ◌≤◌, ℕ, ◌-◌, Bool, true, false, ◌||◌, List, [], ◌∷◌, map, length, drop, refl, arith}
use Rattle.std.specs.Prelude.{filter}
use Rattle.std.proofs.lemmas.Bool.{le-ltb}
use Rattle.std.specs.List.{AllByRecursion}
use Rattle.pps_types.specs.History.{Entry}
use Rattle.pps_types.specs.Reading.{OpenHandle, Style, Full, Delta, Queue, style, is_full_style, is_delta_style, is_directory_kind, visible}
use Rattle.pps_types.specs.Rests.{Progress, News as SeenNews, Unread, Over as SeenOver, Owed, stand, over_limit, seen_of}
use Rattle.pps_types.specs.Owed.{same_flag}
use Rattle.pps_types.specs.WellFormed.{IsWhole}
use Rattle.pps_types.specs.Rising.{IsRising, AllAbove}
use Rattle.sub_reader.specs.declared.place.Place.{Place}
use Rattle.sub_reader.specs.declared.place.Place.TheVariants.{News, Fresh, Over, Idle, At}
use Rattle.sub_reader.specs.Readers.{Reader}
use Rattle.sub_reader.specs.Opened.{opened, is_reader}
use Rattle.sub_reader.specs.Places.{seen_at, handle_of, IsPlace, IsReader}
use Rattle.sub_reader.specs.Rows.{number_in}
use Rattle.sub_reader.specs.HandlesOf.{IsOn, AreOn}

flag-is : (a b : Bool) → same_flag a b ≡ true → a ≡ b
flag-is true true is = refl
flag-is true false is = absurd cc
flag-is false true is = absurd cc
flag-is false false is = refl

either : (a b : Bool) → b ≡ true → a || b ≡ true
either true b is = refl
either false b is = is

-- within the limit, in delta mode
stand-owed : (s : Style) (reads over : Bool) (rest : List Entry) → is_delta_style s ≡ true → over ≡ false → stand s reads over rest ≡ Owed rest
stand-owed Full reads over rest delta few = absurd cc
stand-owed Delta reads true rest delta few = absurd cc
stand-owed Delta reads false rest delta few = refl
stand-owed Queue reads over rest delta few = absurd cc

-- a place in the list, with a rest that is within the limit
owed-whole : (t : ℕ) (name : List ℕ) (start : ℕ) (entries : List Entry) (r : Reader) (rest : List Entry) → is_delta_style (style r.opening.kind) ≡ true
    → length (filter (visible (opened t name r.opening)) rest) ≤ r.opening.limit → seen_of (opened t name r.opening) rest ≡ Owed rest
owed-whole t name start entries r rest delta few =
    let h = opened t name r.opening in
    stand-owed (style r.opening.kind) r.opening.reads (over_limit h rest) rest delta (le-ltb r.opening.limit (length (filter (visible h) rest)) few)

module _ (t : ℕ) (name : List ℕ) (start : ℕ) (entries : List Entry) where
  whole-at : (r : Reader) (p : Place) → IsPlace (opened t name r.opening) start entries p → IsWhole (opened t name r.opening) (seen_at start entries p)
  whole-at r (News b) is = tt
  whole-at r Fresh is = tt
  whole-at r Over is = tt
  whole-at r Idle is = owed-whole t name start entries r [] is (omega arith)
  whole-at r (At first owed) is = owed-whole t name start entries r (drop (first - start) entries) is.delta (omega (arith, is.count, is.few))

  whole-same : (r : Reader) (s : Progress) → IsWhole (opened t name r.opening) s → s ≡ seen_at start entries r.progress → IsWhole (handle_of t name start entries r) s
  whole-same r (SeenNews b) is same = tt
  whole-same r Unread is same = tt
  whole-same r SeenOver is same = tt
  whole-same r (Owed rest) is same = is

  on_topic : (d : Bool) (r : Reader) → IsReader d t name start entries r → IsOn d t (handle_of t name start entries r)
  on_topic d r is = record {
    flag = flag-is (is_directory_kind r.opening.kind) d is.flag;
    on = refl;
    whole = whole-same r (seen_at start entries r.progress) (whole-at r r.progress is.place) refl;
  }

  all-on_topic : (d : Bool) (rs : List Reader) → AllByRecursion (IsReader d t name start entries) rs → AllByRecursion (IsOn d t) (map (handle_of t name start entries) rs)
  all-on_topic d [] all = tt
  all-on_topic d (r ∷ rs) all = (on_topic d r all.0, all-on_topic d rs all.1)

  above-on_topic : (n : ℕ) (rs : List Reader) → AllAbove number_in n rs → AllAbove (λ h. h.number) n (map (handle_of t name start entries) rs)
  above-on_topic n [] all = tt
  above-on_topic n (r ∷ rs) all = (all.0, above-on_topic n rs all.1)

  rising-on_topic : (rs : List Reader) → IsRising number_in rs → IsRising (λ h. h.number) (map (handle_of t name start entries) rs)
  rising-on_topic [] all = tt
  rising-on_topic (r ∷ rs) all = (above-on_topic r.opening.number rs all.0, rising-on_topic rs all.1)

  pub are-on_topic : (d : Bool) (rs : List Reader) → AllByRecursion (IsReader d t name start entries) rs → IsRising number_in rs → AreOn d t (map (handle_of t name start entries) rs)
  are-on_topic d rs each rising = record { each = all-on_topic d rs each; rising = rising-on_topic rs rising }

  -- ---- of which kind they are, and what they are called

  reads : (r : Reader) (p : Place) → IsPlace (opened t name r.opening) start entries p → is_reader r.opening.kind ≡ true
  reads r (News b) is = rw is refl
  reads r Fresh is = either (is_full_style (style r.opening.kind)) (is_delta_style (style r.opening.kind)) is
  reads r Over is = either (is_full_style (style r.opening.kind)) (is_delta_style (style r.opening.kind)) is
  reads r Idle is = either (is_full_style (style r.opening.kind)) (is_delta_style (style r.opening.kind)) is
  reads r (At first owed) is = either (is_full_style (style r.opening.kind)) (is_delta_style (style r.opening.kind)) is.delta

  pub all-read : (d : Bool) (rs : List Reader) → AllByRecursion (IsReader d t name start entries) rs → AllByRecursion (λ (h : OpenHandle Progress). is_reader h.kind ≡ true) (map (handle_of t name start entries) rs)
  all-read d [] all = tt
  all-read d (r ∷ rs) all = (reads r r.progress all.0.place, all-read d rs all.1)

  pub all-named : (rs : List Reader) → AllByRecursion (λ (h : OpenHandle Progress). h.name ≡ name) (map (handle_of t name start entries) rs)
  all-named [] = tt
  all-named (r ∷ rs) = (refl, all-named rs)
