-- What a move makes of a target's parts.
use Rattle.std.proofs.Common.{◌≡◌, ℕ, zero, suc, ◌+◌, ◌-◌, ◌≤◌, ◌<◌, ◌^◌, Bool, true, false, cond, eqb, ◌&&◌, List, [], ◌∷◌, ◌++◌, length, map, drop, set, get_or, refl, sym, ap, subst, ◌∙◌, arith, ⊎_elim, length-append}
use Rattle.std.specs.List.{AllByRecursion, remove}
use Rattle.std.proofs.lemmas.Bool.{eqb-true, eq-eqb, cases_lt}
use Rattle.std.proofs.lemmas.List.{length-drop, map-set, get_or-map, map-append}
use Rattle.std.proofs.Math.ListN.{get_or-append}
use Rattle.std.proofs.Math.Seq.{get_or-append_right}
use Rattle.std.proofs.lemmas.List.Sums.{sum_by-cons, sum_by-remove, sum_by-set, sum_by_push, get_or-le-sum_by}
use Rattle.pps_types.specs.declared.handle_kind.HandleKind.{HandleKind}
use Rattle.pps_types.specs.History.{Entry}
use Rattle.pps_types.specs.Reading.{OpenHandle, is_directory_kind, is_delta_style, is_full_style, style}
use Rattle.pps_types.specs.Rests.{Progress}
use Rattle.pps_types.specs.Plan.{offer, on_numbered}
use Rattle.pps_types.specs.Owed.{in_chain, is_of, same_flag, rest_seen, longest}
use Rattle.pps_types.proofs.Lists.{all-push}
use Rattle.pps_types.specs.Rising.{IsRising, IsPlaceOf, IsGapFor}
use Rattle.pps_types.proofs.RisingEdits.{rising_remove}
use Rattle.sub_reader.specs.declared.place.Place.{Place}
use Rattle.sub_reader.specs.declared.place.Place.TheVariants.{News, Fresh, Over, Idle, At}
use Rattle.sub_reader.specs.Readers.{Reader}
use Rattle.sub_reader.specs.Opened.{opened}
use Rattle.sub_reader.specs.Places.{seen_at, handle_of, reader_after, IsPlace, IsReader, first_place}
use Rattle.sub_reader.specs.Counts.{stands, uncounted, standing, IsCounted, IsWithin, zeros}
use Rattle.sub_reader.specs.Rows.{number_in}
use Rattle.sub_reader.specs.Standing.{IsLoose, IsTarget, room_of}
use Rattle.sub_reader.proofs.Offered.{reader-offered, reader-other}
use Rattle.sub_reader.proofs.Tallies.{all-at, all-set, cut-is, cut-seen, uncounted-length, uncounted-at}
use Rattle.sub_reader.proofs.Edits.{change_gap, change_place, rising_map, rising_set, rising_push, place_map, gap_map}

-- ---- the cut

pub settle-is : (d : Bool) (t : ℕ) (name : List ℕ) (start : ℕ) (entries : List Entry) (counts : List ℕ) (readers : List Reader) → IsLoose d t name start entries counts readers
    → (s : ℕ) (es : List Entry) (cs : List ℕ) → s ≡ start + zeros counts → es ≡ drop (zeros counts) entries → cs ≡ drop (zeros counts) counts → IsTarget d t name s es cs readers
settle-is d t name start entries counts readers loose s es cs a b c =
    subst (λ x. IsTarget d t name x es cs readers) (sym a)
    (subst (λ x. IsTarget d t name (start + zeros counts) x cs readers) (sym b)
    (subst (λ x. IsTarget d t name (start + zeros counts) (drop (zeros counts) entries) x readers) (sym c)
    (cut-is d t name start entries counts readers loose)))

pub settle-seen : (d : Bool) (t : ℕ) (name : List ℕ) (start : ℕ) (entries : List Entry) (counts : List ℕ) (readers : List Reader) → IsLoose d t name start entries counts readers
    → (s : ℕ) (es : List Entry) → s ≡ start + zeros counts → es ≡ drop (zeros counts) entries → map (handle_of t name s es) readers ≡ map (handle_of t name start entries) readers
settle-seen d t name start entries counts readers loose s es a b = (λ i. map (handle_of t name (a i) (b i)) readers) ∙ cut-seen d t name start entries counts readers loose

-- ---- places

place-within : {S : Type 0} (h : OpenHandle S) (start end : ℕ) (entries : List Entry) (p : Place) → start + length entries ≤ end → IsPlace h start entries p → IsWithin start end p
place-within h start end entries (News b) le is = tt
place-within h start end entries Fresh le is = tt
place-within h start end entries Over le is = tt
place-within h start end entries Idle le is = tt
place-within h start end entries (At first owed) le is = (is.from_start, omega (arith, is.before_end))

pub each-within : (d : Bool) (t : ℕ) (name : List ℕ) (start end : ℕ) (entries : List Entry) (readers : List Reader) → start + length entries ≤ end → AllByRecursion (IsReader d t name start entries) readers → AllByRecursion (λ (s : Reader). IsWithin start end s.progress) readers
each-within d t name start end entries [] le all = tt
each-within d t name start end entries (s ∷ ss) le all = (place-within (opened t name s.opening) start end entries s.progress le all.0.place, each-within d t name start end entries ss le all.1)

stands-none : (start end : ℕ) (p : Place) → IsWithin start end p → stands end p ≡ 0
stands-none start end (News b) is = refl
stands-none start end Fresh is = refl
stands-none start end Over is = refl
stands-none start end Idle is = refl
stands-none start end (At first owed) is = by (eqb first end) refl
  where
    by : (b : Bool) → eqb first end ≡ b → ◌≡◌ {A = ℕ} (cond b 1 0) 0
    by true e = absurd (let same = eqb-true first end e in let lt = is.1 in omega arith)
    by false e = refl

standing-none : (start end : ℕ) (readers : List Reader) → AllByRecursion (λ (s : Reader). IsWithin start end s.progress) readers → standing readers end ≡ 0
standing-none start end [] all = refl
standing-none start end (s ∷ ss) all = omega (arith, sum_by-cons (λ (x : Reader). stands end x.progress) s ss, stands-none start end s.progress all.0, standing-none start end ss all.1)

-- ---- one more record

pub room-fits : (end a b : ℕ) → 0 < room_of end a b → end + 1 < 2 ^ 64
room-fits end a b is = omega (arith, is)

pub room-pushed : (end a b : ℕ) → 0 < a → 0 < b → room_of end a b ≤ room_of (end + 1) (a - 1) (b - 1) + 1
room-pushed end a b one two = omega arith

pub room-more : (end a b c d : ℕ) → a ≤ c → b ≤ d → room_of end a b ≤ room_of end c d
room-more end a b c d one two = omega arith

zeros-le : (counts : List ℕ) → zeros counts ≤ length counts
zeros-le [] = omega arith
zeros-le (zero ∷ counts) = omega (arith, zeros-le counts)
zeros-le (suc n ∷ counts) = omega arith

module _ (d : Bool) (t : ℕ) (name : List ℕ) (start : ℕ) (entries : List Entry) (counts : List ℕ) (readers : List Reader) (loose : IsLoose d t name start entries counts readers) where
  pub offer-within : (cs : List ℕ) → cs ≡ counts ++ 0 ∷ [] → AllByRecursion (λ (s : Reader). IsWithin start (start + length cs) s.progress) readers
  offer-within cs is = each-within d t name start (start + length cs) entries readers (omega (arith, ap length is, length-append counts (0 ∷ []), loose.paired)) loose.each

  pub offer-agree : (cs : List ℕ) → cs ≡ counts ++ 0 ∷ [] → IsCounted start readers cs
  offer-agree cs is i lt = ap (λ xs. get_or xs i 0) is ∙ ⊎_elim
      (λ (in_front : i < length counts). get_or-append counts (0 ∷ []) 0 i in_front ∙ loose.agree i in_front)
      (λ (behind : length counts ≤ i). let at : i ≡ length counts = omega (arith, ap length is, length-append counts (0 ∷ [])) in
      get_or-append_right counts (0 ∷ []) i 0 behind
      ∙ ap (λ n. get_or (0 ∷ []) n 0) (let z : i - length counts ≡ 0 = omega arith in z)
      ∙ sym (ap (standing readers) (let e : start + i ≡ start + length entries = omega (arith, loose.paired) in e) ∙ standing-none start (start + length entries) readers (each-within d t name start (start + length entries) entries readers (omega arith) loose.each)))
      (cases_lt i (length counts))

  module _ (e : Entry) where
    offered-each : (ss : List Reader) → in_chain d t e ≡ true → AllByRecursion (IsReader d t name start entries) ss → AllByRecursion (IsReader d t name start (entries ++ e ∷ [])) (map (reader_after t e (start + length entries)) ss)
    offered-each [] here all = tt
    offered-each (s ∷ ss) here all = ((reader-offered d t name start entries e s here all.0).0, offered-each ss here all.1)

    offered-seen : (ss : List Reader) → in_chain d t e ≡ true → AllByRecursion (IsReader d t name start entries) ss → map (handle_of t name start (entries ++ e ∷ [])) (map (reader_after t e (start + length entries)) ss) ≡ map (offer e) (map (handle_of t name start entries) ss)
    offered-seen [] here all = refl
    offered-seen (s ∷ ss) here all = λ i. (reader-offered d t name start entries e s here all.0).1 i ∷ offered-seen ss here all.1 i

    other-seen : (ss : List Reader) → in_chain d t e ≡ false → AllByRecursion (IsReader d t name start entries) ss → map (handle_of t name start entries) ss ≡ map (offer e) (map (handle_of t name start entries) ss)
    other-seen [] out all = refl
    other-seen (s ∷ ss) out all = λ i. reader-other d t name start entries e s out all.0 i ∷ other-seen ss out all.1 i

    pub offer-other : in_chain d t e ≡ false → map (handle_of t name start entries) readers ≡ map (offer e) (map (handle_of t name start entries) readers)
    offer-other out = other-seen readers out loose.each

    module _ (here : in_chain d t e ≡ true) (position : ℕ) (at : position ≡ start + length entries) (es : List Entry) (cs : List ℕ) (ss : List Reader) (entries_are : es ≡ entries ++ e ∷ []) (readers_are : ss ≡ map (reader_after t e position) readers) where
      readers_at : ss ≡ map (reader_after t e (start + length entries)) readers
      readers_at = readers_are ∙ ap (λ p. map (reader_after t e p) readers) at

      pub offer-loose : start + length entries + 1 < 2 ^ 64 → IsCounted start ss cs → length cs ≡ length counts + 1 → IsLoose d t name start es cs ss
      offer-loose fits agree long = record {
        paired = omega (arith, long, loose.paired, ap length entries_are, length-append entries (e ∷ []));
        fits = omega (arith, fits, ap length entries_are, length-append entries (e ∷ []));
        each = subst (λ xs. AllByRecursion (IsReader d t name start xs) ss) (sym entries_are) (subst (AllByRecursion (IsReader d t name start (entries ++ e ∷ []))) (sym readers_at) (offered-each readers here loose.each));
        agree = agree;
        rising = subst (IsRising number_in) (sym readers_are) (rising_map number_in (reader_after t e position) (λ x. refl) readers loose.rising);
      }

      pub offer-seen : map (handle_of t name start es) ss ≡ map (offer e) (map (handle_of t name start entries) readers)
      offer-seen = (λ i. map (handle_of t name start (entries_are i)) (readers_at i)) ∙ offered-seen readers here loose.each

-- ---- how much is kept

rest-le : {S : Type 0} (h : OpenHandle S) (start : ℕ) (entries : List Entry) (p : Place) → length (rest_seen (seen_at start entries p)) ≤ length entries
rest-le h start entries (News b) = omega arith
rest-le h start entries Fresh = omega arith
rest-le h start entries Over = omega arith
rest-le h start entries Idle = omega arith
rest-le h start entries (At first owed) = omega (arith, length-drop (first - start) entries)

cond-le : (b : Bool) (m n : ℕ) → m ≤ n → cond b m 0 ≤ n
cond-le true m n le = le
cond-le false m n le = omega arith

longest-le : (d : Bool) (t : ℕ) (name : List ℕ) (start : ℕ) (entries : List Entry) (readers : List Reader) → longest d t (map (handle_of t name start entries) readers) ≤ length entries
longest-le d t name start entries [] = omega arith
longest-le d t name start entries (s ∷ ss) =
    let one : cond (is_of d t (handle_of t name start entries s)) (length (rest_seen (seen_at start entries s.progress))) 0 ≤ length entries = cond-le (is_of d t (handle_of t name start entries s)) (length (rest_seen (seen_at start entries s.progress))) (length entries) (rest-le (opened t name s.opening) start entries s.progress) in
    omega (arith, longest-le d t name start entries ss)

of-all : (a b c : Bool) → a ≡ true → b ≡ true → c ≡ true → (a && b && c) ≡ true
of-all true true true a b c = refl
of-all true true false a b c = c
of-all true false z a b c = b
of-all false y z a b c = a

first-kept : (d : Bool) (t : ℕ) (name : List ℕ) (start : ℕ) (entries : List Entry) (s : Reader) (p : Place) → same_flag (is_directory_kind s.opening.kind) d ≡ true → IsPlace (opened t name s.opening) start entries p → 0 < stands start p → length entries ≤ cond (is_of d t (opened t name s.opening)) (length (rest_seen (seen_at start entries p))) 0
first-kept d t name start entries s (News b) flag is lt = absurd (omega arith)
first-kept d t name start entries s Fresh flag is lt = absurd (omega arith)
first-kept d t name start entries s Over flag is lt = absurd (omega arith)
first-kept d t name start entries s Idle flag is lt = absurd (omega arith)
first-kept d t name start entries s (At first owed) flag is lt = by (eqb first start) refl lt
  where
    by : (b : Bool) → eqb first start ≡ b → 0 < cond b 1 0 → length entries ≤ cond (is_of d t (opened t name s.opening)) (length (drop (first - start) entries)) 0
    by true e lt =
        subst (λ b. length entries ≤ cond b (length (drop (first - start) entries)) 0) (sym (of-all (is_delta_style (style s.opening.kind)) (same_flag (is_directory_kind s.opening.kind) d) (eqb t t) is.delta flag (eq-eqb t t refl)))
        (omega (arith, eqb-true first start e, length-drop (first - start) entries))
    by false e lt = absurd (omega arith)

longest-ge : (d : Bool) (t : ℕ) (name : List ℕ) (start : ℕ) (entries : List Entry) (readers : List Reader) → AllByRecursion (IsReader d t name start entries) readers → 0 < standing readers start → length entries ≤ longest d t (map (handle_of t name start entries) readers)
longest-ge d t name start entries [] all lt = absurd (omega arith)
longest-ge d t name start entries (s ∷ ss) all lt = ⊎_elim
    (λ (here : 0 < stands start s.progress). omega (arith, first-kept d t name start entries s s.progress all.0.flag all.0.place here))
    (λ (none : stands start s.progress ≤ 0). omega (arith, longest-ge d t name start entries ss all.1 (omega (arith, sum_by-cons (λ (x : Reader). stands start x.progress) s ss))))
    (cases_lt 0 (stands start s.progress))

front-some : (counts : List ℕ) → zeros counts ≡ 0 → 0 < length counts → 0 < get_or counts 0 0
front-some [] z lt = absurd (omega arith)
front-some (zero ∷ counts) z lt = absurd (omega arith)
front-some (suc n ∷ counts) z lt = omega arith

pub kept-longest : (d : Bool) (t : ℕ) (name : List ℕ) (start : ℕ) (entries : List Entry) (counts : List ℕ) (readers : List Reader) → IsTarget d t name start entries counts readers → length entries ≡ longest d t (map (handle_of t name start entries) readers)
kept-longest d t name start entries counts readers is = ⊎_elim
    (λ (some : 0 < length entries). let lt : 0 < length counts = omega (arith, is.loose.paired) in
    let front = is.loose.agree 0 lt in let at = ap (standing readers) (let e : start + 0 ≡ start = omega arith in e) in
    let here : 0 < standing readers start = omega (arith, front-some counts is.exact lt) in
    omega (arith, longest-le d t name start entries readers, longest-ge d t name start entries readers is.loose.each here))
    (λ (none : length entries ≤ 0). omega (arith, longest-le d t name start entries readers))
    (cases_lt 0 (length entries))

-- ---- one handle changes

all-remove : {X : Type 0} (P : X → Type 0) (xs : List X) (k : ℕ) → AllByRecursion P xs → AllByRecursion P (remove xs k)
all-remove P [] zero all = tt
all-remove P [] (suc k) all = tt
all-remove P (x ∷ xs) zero all = all.1
all-remove P (x ∷ xs) (suc k) all = (all.0, all-remove P xs k all.1)

module _ (d : Bool) (t : ℕ) (name : List ℕ) (start : ℕ) (entries : List Entry) (counts : List ℕ) (readers : List Reader) (loose : IsLoose d t name start entries counts readers) where
  pub put-within : AllByRecursion (λ (s : Reader). IsWithin start (start + length counts) s.progress) readers
  put-within = each-within d t name start (start + length counts) entries readers (omega (arith, loose.paired)) loose.each

  abbrev pub see : Reader → OpenHandle Progress
  see = handle_of t name start entries

  module _ (k : ℕ) (r x : Reader) (lt : k < length readers) (opens : r.opening ≡ (get_or readers k x).opening) (is : IsPlace (opened t name r.opening) start entries r.progress) where
    pub set-to : IsWithin start (start + length counts) r.progress
    set-to = place-within (opened t name r.opening) start (start + length counts) entries r.progress (omega (arith, loose.paired)) is

    pub set-loose : (ss : List Reader) (cs : List ℕ) → ss ≡ set readers k r → IsCounted start ss cs → length cs ≡ length counts → IsLoose d t name start entries cs ss
    set-loose ss cs are agree long =
        let old = all-at (IsReader d t name start entries) readers k x loose.each lt in
        let number = ap (λ o. o.number) opens in
        record {
          paired = omega (arith, long, loose.paired);
          fits = loose.fits;
          each = subst (AllByRecursion (IsReader d t name start entries)) (sym are) (all-set (IsReader d t name start entries) readers k r loose.each (record { flag = ap (λ o. same_flag (is_directory_kind o.kind) d) opens ∙ old.flag; place = is }));
          agree = agree;
          rising = subst (IsRising number_in) (sym are) (rising_set number_in r x readers k loose.rising number lt);
        }

    -- it stands where it stood
    pub set-agree : (ss : List Reader) → ss ≡ set readers k r → r.progress ≡ (get_or readers k x).progress → IsCounted start ss counts
    set-agree ss are same i within =
        loose.agree i within ∙ sym (ap (λ xs. standing xs (start + i)) are ∙ (let f = sum_by-set (λ (y : Reader). stands (start + i) y.progress) readers k r x lt in let e = ap (stands (start + i)) same in omega arith))

  pub set-seen : (number k : ℕ) (change : OpenHandle Progress → OpenHandle Progress) (r x : Reader) (ss : List Reader) → ss ≡ set readers k r → IsPlaceOf number_in readers number k → k < length readers → see r ≡ change (see (get_or readers k x))
      → map see ss ≡ on_numbered number change (map see readers)
  set-seen number k change r x ss are place lt same =
      ap (map see) are
      ∙ map-set see readers k r
      ∙ ap (set (map see readers) k) (same ∙ ap change (sym (get_or-map see readers k x (see x) lt)))
      ∙ sym (change_place (λ (h : OpenHandle Progress). h.number) change number (map see readers) k (see x) (place_map number_in (λ (h : OpenHandle Progress). h.number) see (λ x. refl) number readers k place))

  pub same-nowhere : (number k : ℕ) (change : OpenHandle Progress → OpenHandle Progress) → IsGapFor number_in readers number k → map see readers ≡ on_numbered number change (map see readers)
  same-nowhere number k change gap = sym (change_gap (λ (h : OpenHandle Progress). h.number) change number (map see readers) k (gap_map number_in (λ (h : OpenHandle Progress). h.number) see (λ x. refl) number readers k gap))

  -- ---- one handle leaves

  module _ (k : ℕ) (s : Reader) (lt : k < length readers) where
    gone-agree : (cs : List ℕ) → cs ≡ uncounted start (get_or readers k s).progress counts → IsCounted start (remove readers k) cs
    gone-agree cs is i within =
        let from : IsWithin start (start + length counts) (get_or readers k s).progress = all-at (λ (x : Reader). IsWithin start (start + length counts) x.progress) readers k s put-within lt in
        let here : i < length counts = omega (arith, ap length is, uncounted-length start (get_or readers k s).progress counts) in
        ap (λ xs. get_or xs i 0) is ∙ uncounted-at start (get_or readers k s).progress counts i from here ∙ ap (λ n. n - stands (start + i) (get_or readers k s).progress) (loose.agree i here)
        ∙ (let f = sum_by-remove (λ (x : Reader). stands (start + i) x.progress) readers k s lt in omega arith)

    pub gone-there : (i : ℕ) → i < length counts → stands (start + i) (get_or readers k s).progress ≤ get_or counts i 0
    gone-there i within = let le = get_or-le-sum_by (λ (x : Reader). stands (start + i) x.progress) readers k s lt in omega (arith, loose.agree i within)

    pub gone-loose : (ss : List Reader) (cs : List ℕ) → ss ≡ remove readers k → cs ≡ uncounted start (get_or readers k s).progress counts → IsLoose d t name start entries cs ss
    gone-loose ss cs are is = subst (IsLoose d t name start entries cs) (sym are) (record {
      paired = omega (arith, ap length is, uncounted-length start (get_or readers k s).progress counts, loose.paired);
      fits = loose.fits;
      each = all-remove (IsReader d t name start entries) readers k loose.each;
      agree = gone-agree cs is;
      rising = rising_remove number_in readers k loose.rising;
    })

  -- ---- one more handle

  pub open-loose : (s : Reader) (ss : List Reader) → ss ≡ readers ++ s ∷ [] → AllByRecursion (λ x. x.opening.number < s.opening.number) readers
      → IsReader d t name start entries s → ((position : ℕ) → stands position s.progress ≡ 0) → IsLoose d t name start entries counts ss
  open-loose s ss is above right none = record {
    paired = loose.paired;
    fits = loose.fits;
    each = subst (AllByRecursion (IsReader d t name start entries)) (sym is) (all-push (IsReader d t name start entries) readers s loose.each right);
    agree = λ i lt. loose.agree i lt ∙ sym (ap (λ xs. standing xs (start + i)) is ∙ sum_by_push (λ (x : Reader). stands (start + i) x.progress) readers s ∙ (let z = none (start + i) in omega arith));
    rising = subst (IsRising number_in) (sym is) (rising_push number_in readers s loose.rising above);
  }

  pub open-seen : (s : Reader) (ss : List Reader) → ss ≡ readers ++ s ∷ [] → map see ss ≡ map see readers ++ see s ∷ []
  open-seen s ss is = ap (map see) is ∙ map-append see readers (s ∷ [])

pub first-stands : (kind : HandleKind) (reads : Bool) (position : ℕ) → stands position (first_place kind reads) ≡ 0
first-stands kind reads position = by (is_full_style (style kind))
  where
    by : (b : Bool) → stands position (cond b (News reads) Fresh) ≡ 0
    by true = refl
    by false = refl

pub above-readers : (t : ℕ) (name : List ℕ) (start : ℕ) (entries : List Entry) (readers : List Reader) (number : ℕ) → AllByRecursion (λ (h : OpenHandle Progress). h.number < number) (map (handle_of t name start entries) readers)
    → AllByRecursion (λ (r : Reader). r.opening.number < number) readers
above-readers t name start entries [] number all = tt
above-readers t name start entries (r ∷ rs) number all = (all.0, above-readers t name start entries rs number all.1)
