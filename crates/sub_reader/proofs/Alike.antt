-- The same handles, by how far behind the first record that is held they stand.
use Rattle.std.proofs.Common.{◌≡◌, ◌<◌, ℕ, ◌-◌, Bool, List, [], ◌∷◌, length, map, drop, refl, sym, ap, subst, ◌∙◌, arith, Option, Some, None}
use Rattle.std.proofs.lemmas.List.{length-drop}
use Rattle.std.specs.Prelude.{filter}
use Rattle.std.specs.List.{AllByRecursion}
use Rattle.pps_types.specs.History.{Entry}
use Rattle.pps_types.specs.Reading.{OpenHandle, reseen, visible}
use Rattle.pps_types.specs.Rests.{Progress, News as SeenNews, Owed}
use Rattle.open_options.proofs.Kept.{handle_options-is}
use Rattle.sub_reader.specs.declared.place.Place.{Place}
use Rattle.sub_reader.specs.declared.place.Place.TheVariants.{News, Fresh, Over, Idle, At}
use Rattle.sub_reader.specs.declared.opening.Opening.{Opening}
use Rattle.sub_reader.specs.declared.opening.Pulse.{Pulse}
use Rattle.sub_reader.specs.Readers.{Reader}
use Rattle.sub_reader.specs.Opened.{opened, armed_pulse}
use Rattle.sub_reader.specs.Places.{seen_at, handle_of, waiting, Begins, IsPlace, IsAt, IsReader}
use Rattle.pps_types.specs.Owed.{longest_rest}
use Rattle.pps_types.specs.declared.found.Found.{Found}
use Rattle.sub_reader.specs.Opened.{is_directory, number_of}
use Rattle.sub_reader.specs.Standing.{IsTarget}
use Rattle.sub_reader.specs.Alike.{place_from, reader_from}
use Rattle.sub_reader.proofs.Kept.{kept-rest}

-- ---- told from the first record that is held

less-none : (n : ℕ) → n - 0 ≡ n
less-none n = omega arith

seen-from : (start : ℕ) (entries : List Entry) (p : Place) → seen_at start entries p ≡ seen_at 0 entries (place_from start p)
seen-from start entries (News b) = refl
seen-from start entries Fresh = refl
seen-from start entries Over = refl
seen-from start entries Idle = refl
seen-from start entries (At first owed) = ap (λ k. Owed (drop k entries)) (sym (less-none (first - start)))

module _ (t : ℕ) (name : List ℕ) (start : ℕ) (entries : List Entry) where
  handle-from : (r : Reader) → handle_of t name start entries r ≡ handle_of t name 0 entries (reader_from start r)
  handle-from r = ap (λ (s : Progress). waiting r (reseen (λ h. s) (opened t name r.opening))) (seen-from start entries r.progress)

  pub handles-from : (rs : List Reader) → map (handle_of t name start entries) rs ≡ map (handle_of t name 0 entries) (map (reader_from start) rs)
  handles-from [] = refl
  handles-from (r ∷ rs) = λ i. handle-from r i ∷ handles-from rs i

place-from : {S : Type 0} (h : OpenHandle S) (start : ℕ) (entries : List Entry) (p : Place) → IsPlace h start entries p → IsPlace h 0 entries (place_from start p)
place-from h start entries (News b) is = is
place-from h start entries Fresh is = is
place-from h start entries Over is = is
place-from h start entries Idle is = is
place-from h start entries (At first owed) is = record {
  delta = is.delta;
  from_start = omega arith;
  before_end = omega (arith, is.from_start, is.before_end);
  begins = subst (λ k. Begins (visible h) (drop k entries)) (sym (less-none (first - start))) is.begins;
  count = ap (λ k. length (filter (visible h) (drop k entries))) (less-none (first - start)) ∙ is.count;
  few = is.few;
}

-- ---- what a handle has seen tells its place

news-is : (a b : Bool) → SeenNews a ≡ SeenNews b → a ≡ b
news-is a b same = cc

owed-is : (xs ys : List Entry) → Owed xs ≡ Owed ys → xs ≡ ys
owed-is xs ys same = cc

drop-is : (entries : List Entry) (i j : ℕ) → i < length entries → j < length entries → drop i entries ≡ drop j entries → i ≡ j
drop-is entries i j here there same = omega (arith, here, there, ap length same, length-drop i entries, length-drop j entries)

module _ {S : Type 0} (h : OpenHandle S) (entries : List Entry) where
  at-is : (f o g k : ℕ) → IsAt h 0 entries f o → IsAt h 0 entries g k → drop (f - 0) entries ≡ drop (g - 0) entries → At f o ≡ At g k
  at-is f o g k is other same =
      let place : f ≡ g = omega (arith, drop-is entries (f - 0) (g - 0) (omega (arith, is.before_end)) (omega (arith, other.before_end)) same) in
      let count : o ≡ k = sym is.count ∙ ap (λ xs. length (filter (visible h) xs)) same ∙ other.count in
      λ i. At (place i) (count i)

  place-is : (p q : Place) → IsPlace h 0 entries p → IsPlace h 0 entries q → seen_at 0 entries p ≡ seen_at 0 entries q → p ≡ q
  place-is (News a) (News b) is other same = ap News (news-is a b same)
  place-is (News a) Fresh is other same = cc
  place-is (News a) Over is other same = cc
  place-is (News a) Idle is other same = cc
  place-is (News a) (At g k) is other same = cc
  place-is Fresh (News b) is other same = cc
  place-is Fresh Fresh is other same = refl
  place-is Fresh Over is other same = cc
  place-is Fresh Idle is other same = cc
  place-is Fresh (At g k) is other same = cc
  place-is Over (News b) is other same = cc
  place-is Over Fresh is other same = cc
  place-is Over Over is other same = refl
  place-is Over Idle is other same = cc
  place-is Over (At g k) is other same = cc
  place-is Idle (News b) is other same = cc
  place-is Idle Fresh is other same = cc
  place-is Idle Over is other same = cc
  place-is Idle Idle is other same = refl
  place-is Idle (At g k) is other same = absurd (subst (Begins (visible h)) (sym (owed-is [] (drop (g - 0) entries) same)) other.begins)
  place-is (At f o) (News b) is other same = cc
  place-is (At f o) Fresh is other same = cc
  place-is (At f o) Over is other same = cc
  place-is (At f o) Idle is other same = absurd (subst (Begins (visible h)) (owed-is (drop (f - 0) entries) [] same) is.begins)
  place-is (At f o) (At g k) is other same = at-is f o g k is other (owed-is (drop (f - 0) entries) (drop (g - 0) entries) same)

-- ---- and so a handle tells all that stands of it

some-is : {X : Type 0} (x y : X) → Some x ≡ Some y → x ≡ y
some-is x y same = cc

pulse-is : (p q : Pulse) → p.code ≡ q.code → p.value ≡ q.value → p ≡ q
pulse-is p q code value = λ i. record { code = code i; value = value i }

pub armed-is : (a b : Option Pulse) → armed_pulse a ≡ armed_pulse b → a ≡ b
armed-is None None same = refl
armed-is None (Some q) same = cc
armed-is (Some p) None same = cc
armed-is (Some p) (Some q) same =
    let pair = some-is (p.code, p.value) (q.code, q.value) same in
    ap Some (pulse-is p q (ap (λ x. x.0) pair) (ap (λ x. x.1) pair))

pub opening-is : (o p : Opening) (target : ℕ) (name : List ℕ) → opened target name o ≡ opened target name p → o ≡ p
opening-is o p target name same = λ i. record { number = (same i).number; connection = (same i).connection; kind = (same i).kind; reads = (same i).reads; writes = (same i).writes; options = handle_options-is o.options p.options (λ j. (same j).options) i; limit = (same i).limit }

module _ (t : ℕ) (name : List ℕ) (entries : List Entry) where
  reader-is : (x y : Reader) → IsPlace (opened t name x.opening) 0 entries x.progress → IsPlace (opened t name y.opening) 0 entries y.progress
      → handle_of t name 0 entries x ≡ handle_of t name 0 entries y → x ≡ y
  reader-is x y is other same =
      let opens = opening-is x.opening y.opening t name (ap (λ (h : OpenHandle Progress). record (reseen (λ s. tt) h) { parked = None; armed = None }) same) in
      let place = place-is (opened t name y.opening) entries x.progress y.progress (subst (λ o. IsPlace (opened t name o) 0 entries x.progress) opens is) other (ap (λ (h : OpenHandle Progress). h.seen) same) in
      let parked = ap (λ (h : OpenHandle Progress). h.parked) same in
      let armed = armed-is x.armed y.armed (ap (λ (h : OpenHandle Progress). h.armed) same) in
      λ i. record { opening = opens i; progress = place i; parked = parked i; armed = armed i }

  cons-first : (x y : OpenHandle Progress) (xs ys : List (OpenHandle Progress)) → x ∷ xs ≡ y ∷ ys → x ≡ y
  cons-first x y xs ys same = cc

  cons-rest : (x y : OpenHandle Progress) (xs ys : List (OpenHandle Progress)) → x ∷ xs ≡ y ∷ ys → xs ≡ ys
  cons-rest x y xs ys same = cc

  readers-is : (s u : ℕ) (d e : Bool) (xs ys : List Reader) → AllByRecursion (IsReader d t name s entries) xs → AllByRecursion (IsReader e t name u entries) ys
      → map (handle_of t name 0 entries) (map (reader_from s) xs) ≡ map (handle_of t name 0 entries) (map (reader_from u) ys)
      → map (reader_from s) xs ≡ map (reader_from u) ys
  readers-is s u d e [] [] all every same = refl
  readers-is s u d e [] (y ∷ ys) all every same = cc
  readers-is s u d e (x ∷ xs) [] all every same = cc
  readers-is s u d e (x ∷ xs) (y ∷ ys) all every same =
      let a = reader_from s x in
      let b = reader_from u y in
      let firsts = map (handle_of t name 0 entries) (map (reader_from s) xs) in
      let seconds = map (handle_of t name 0 entries) (map (reader_from u) ys) in
      let head = reader-is a b (place-from (opened t name x.opening) s entries x.progress all.0.place) (place-from (opened t name y.opening) u entries y.progress every.0.place)
      (cons-first (handle_of t name 0 entries a) (handle_of t name 0 entries b) firsts seconds same) in
      let rest = readers-is s u d e xs ys all.1 every.1 (cons-rest (handle_of t name 0 entries a) (handle_of t name 0 entries b) firsts seconds same) in
      λ i. head i ∷ rest i

  -- handles that hold the same records are the same exactly where the same stands of all
  pub told-alike : (s u : ℕ) (xs ys : List Reader) → map (reader_from s) xs ≡ map (reader_from u) ys → map (handle_of t name s entries) xs ≡ map (handle_of t name u entries) ys
  told-alike s u xs ys same = handles-from t name s entries xs ∙ ap (map (handle_of t name 0 entries)) same ∙ sym (handles-from t name u entries ys)

  pub stand-alike : (s u : ℕ) (d e : Bool) (xs ys : List Reader) → AllByRecursion (IsReader d t name s entries) xs → AllByRecursion (IsReader e t name u entries) ys
      → map (handle_of t name s entries) xs ≡ map (handle_of t name u entries) ys → map (reader_from s) xs ≡ map (reader_from u) ys
  stand-alike s u d e xs ys all every same = readers-is s u d e xs ys all every (sym (handles-from t name s entries xs) ∙ same ∙ handles-from t name u entries ys)

-- ---- two of the same target

module _ (of other : Found) (name called : List ℕ) (start begin : ℕ) (xs ys : List Entry) (cs ds : List ℕ) (rs qs : List Reader) (hs gs : List (OpenHandle Progress))
    (same-of : of ≡ other) (same-name : name ≡ called)
    (is : IsTarget (is_directory of) (number_of of) name start xs cs rs) (also : IsTarget (is_directory other) (number_of other) called begin ys ds qs)
    (seen : map (handle_of (number_of of) name start xs) rs ≡ hs) (known : map (handle_of (number_of other) called begin ys) qs ≡ gs) where
  -- they hold the same records, where their handles are the same
  pub kept-alike : hs ≡ gs → xs ≡ ys
  kept-alike same =
      kept-rest (is_directory of) (number_of of) name start xs cs rs is
      ∙ (λ i. longest_rest (is_directory (same-of i)) (number_of (same-of i)) ((seen ∙ same ∙ sym known) i))
      ∙ sym (kept-rest (is_directory other) (number_of other) called begin ys ds qs also)

  module _ (held : xs ≡ ys) where
    moved : map (handle_of (number_of of) name begin xs) qs ≡ map (handle_of (number_of other) called begin ys) qs
    moved = λ i. map (handle_of (number_of (same-of i)) (same-name i) begin (held i)) qs

    each : AllByRecursion (IsReader (is_directory other) (number_of of) name begin xs) qs
    each =
        subst (λ o. AllByRecursion (IsReader (is_directory other) (number_of o) name begin xs) qs) (sym same-of)
        (subst (λ n. AllByRecursion (IsReader (is_directory other) (number_of other) n begin xs) qs) (sym same-name)
        (subst (λ es. AllByRecursion (IsReader (is_directory other) (number_of other) called begin es) qs) (sym held) also.loose.each))

    -- and then the handles are, exactly where the same stands of all
    pub all-alike : (map (reader_from start) rs ≡ map (reader_from begin) qs → hs ≡ gs) × (hs ≡ gs → map (reader_from start) rs ≡ map (reader_from begin) qs)
    all-alike = (
      λ same. sym seen ∙ told-alike (number_of of) name xs start begin rs qs same ∙ moved ∙ known,
      λ same. stand-alike (number_of of) name xs start begin (is_directory of) (is_directory other) rs qs is.loose.each each (seen ∙ same ∙ sym known ∙ sym moved),
    )
