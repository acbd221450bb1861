-- What a record makes of the place of a handle, and of what it has seen.
use Rattle.std.proofs.Common.{◌≡◌, ℕ, ◌+◌, ◌-◌, ◌≤◌, ◌<◌, Bool, true, false, cond, ltb, ◌||◌, List, [], ◌∷◌, ◌++◌, length, drop, refl, sym, ap, subst, ◌∙◌, arith, length-append}
use Rattle.std.specs.Prelude.{filter}
use Rattle.std.proofs.lemmas.Bool.Decides.{nat_tests}
use Rattle.std.proofs.lemmas.List.{drop-append-le, drop_all}
use Rattle.std.proofs.lemmas.List.Elements.{filter-append}
use Rattle.pps_types.specs.declared.handle_kind.HandleKind.{HandleKind}
use Rattle.pps_types.specs.declared.handle_kind.HandleKind.TheVariants.{Object as ObjectHandle, Directory as DirectoryHandle, Names as NamesHandle, Server as ServerHandle, Client as ClientHandle}
use Rattle.pps_types.specs.History.{Entry}
use Rattle.pps_types.specs.Reading.{OpenHandle, Style, Full, Delta, Queue, style, is_full_style, is_delta_style, is_directory_kind, visible, reseen}
use Rattle.pps_types.specs.Rests.{News as SeenNews, Over as SeenOver, Owed, stand, keeps, pushed, seen_of, over_limit}
use Rattle.pps_types.specs.Plan.{offered, offer}
use Rattle.pps_types.specs.Owed.{same_flag, in_chain}
use Rattle.pps_types.proofs.Chains.{visible-keeps, keeps-chain}
use Rattle.sub_reader.specs.declared.place.Place.{Place}
use Rattle.sub_reader.specs.declared.place.Place.TheVariants.{News, Fresh, Over, Idle, At}
use Rattle.sub_reader.specs.Readers.{Reader}
use Rattle.sub_reader.specs.Opened.{opened}
use Rattle.sub_reader.specs.Places.{seen_at, waiting, handle_of, place_after, reader_after, Begins, IsAt, IsPlace, IsReader}

-- ---- the style

delta-style : (s : Style) → is_delta_style s ≡ true → s ≡ Delta
delta-style Delta e = refl
delta-style Full e = absurd cc
delta-style Queue e = absurd cc

pub seen-delta : {S : Type 0} (h : OpenHandle S) (rest : List Entry) → is_delta_style (style h.kind) ≡ true → seen_of h rest ≡ cond (over_limit h rest) SeenOver (Owed rest)
seen-delta h rest d = ap (λ s. stand s h.reads (over_limit h rest) rest) (delta-style (style h.kind) d)

pub seen-within : {S : Type 0} (h : OpenHandle S) (rest : List Entry) → is_delta_style (style h.kind) ≡ true → length (filter (visible h) rest) ≤ h.limit → seen_of h rest ≡ Owed rest
seen-within h rest d le = seen-delta h rest d ∙ ap (λ b. cond b SeenOver (Owed rest)) (let f : over_limit h rest ≡ false = grind (arith, nat_tests) in f)

pushed-begins : (test : Entry → Bool) (e : Entry) (rest : List Entry) → Begins test rest → pushed test e rest ≡ rest ++ e ∷ []
pushed-begins test e [] b = absurd b
pushed-begins test e (x ∷ xs) b = refl

begins-push : (test : Entry → Bool) (e : Entry) (rest : List Entry) → Begins test rest → Begins test (rest ++ e ∷ [])
begins-push test e [] b = absurd b
begins-push test e (x ∷ xs) b = b

filter-one : (test : Entry → Bool) (e : Entry) (b : Bool) → test e ≡ b → length (filter test (e ∷ [])) ≡ cond b 1 0
filter-one test e true is = ap (λ b. length (cond b (e ∷ []) [])) is
filter-one test e false is = ap (λ b. length (cond b (e ∷ []) [])) is

filter-more : (test : Entry → Bool) (rest : List Entry) (e : Entry) (b : Bool) → test e ≡ b → length (filter test (rest ++ e ∷ [])) ≡ length (filter test rest) + cond b 1 0
filter-more test rest e b is = ap length (filter-append test rest (e ∷ [])) ∙ length-append (filter test rest) (filter test (e ∷ [])) ∙ ap (λ k. length (filter test rest) + k) (filter-one test e b is)

-- ---- a record of the chain

module _ {S : Type 0} (h : OpenHandle S) (start : ℕ) (entries : List Entry) (e : Entry) where
  -- q is where p leads
  abbrev pub Leads : Place → Place → Type 0
  Leads p q = IsPlace h start (entries ++ e ∷ []) q × (seen_at start (entries ++ e ∷ []) q ≡ offered h e (seen_at start entries p))

  offer-kept : is_delta_style (style h.kind) ≡ true → keeps h e ≡ true → (rest : List Entry) → offered h e (Owed rest) ≡ cond (over_limit h (pushed (visible h) e rest)) SeenOver (Owed (pushed (visible h) e rest))
  offer-kept d k rest = ap (λ b. seen_of h (cond b (pushed (visible h) e rest) rest)) k ∙ seen-delta h (pushed (visible h) e rest) d

  last : drop ((start + length entries) - start) (entries ++ e ∷ []) ≡ e ∷ []
  last = ap (λ n. drop n (entries ++ e ∷ [])) (let f : (start + length entries) - start ≡ length entries = omega arith in f) ∙ drop-append-le (length entries) entries (e ∷ []) (omega arith) ∙ ap (λ xs. xs ++ e ∷ []) (drop_all (length entries) entries (omega arith))

  long : start + length (entries ++ e ∷ []) ≡ start + length entries + 1
  long = omega (arith, length-append entries (e ∷ []))

  idle : is_delta_style (style h.kind) ≡ true → keeps h e ≡ true → (b : Bool) → visible h e ≡ b → Leads Idle (place_after h.limit b (start + length entries) Idle)
  idle d k false v = (d, sym (offer-kept d k [] ∙ ap (λ b. cond (over_limit h (cond b (e ∷ []) [])) SeenOver (Owed (cond b (e ∷ []) []))) v ∙ (let f : ltb h.limit 0 ≡ false = grind (arith, nat_tests) in ap (λ b. cond b SeenOver (Owed [])) f)))
  idle d k true v = by (ltb 0 h.limit) refl
    where
      offer : offered h e (Owed []) ≡ cond (ltb h.limit 1) SeenOver (Owed (e ∷ []))
      offer = offer-kept d k [] ∙ ap (λ b. cond (over_limit h (cond b (e ∷ []) [])) SeenOver (Owed (cond b (e ∷ []) []))) v ∙ ap (λ n. cond (ltb h.limit n) SeenOver (Owed (e ∷ []))) (filter-one (visible h) e true v)

      by : (b : Bool) → ltb 0 h.limit ≡ b → Leads Idle (cond b (At (start + length entries) 1) Over)
      by true lt = (
        record {
          delta = d;
          from_start = omega arith;
          before_end = omega (arith, long);
          begins = subst (Begins (visible h)) (sym last) v;
          count = ap (λ xs. length (filter (visible h) xs)) last ∙ filter-one (visible h) e true v;
          few = (let f : 0 < h.limit = grind (arith, nat_tests) in omega arith);
        },
        ap Owed last ∙ sym (offer ∙ (let f : ltb h.limit 1 ≡ false = grind (arith, nat_tests) in ap (λ b. cond b SeenOver (Owed (e ∷ []))) f)),
      )
      by false lt = (d, sym (offer ∙ (let f : ltb h.limit 1 ≡ true = grind (arith, nat_tests) in ap (λ b. cond b SeenOver (Owed (e ∷ []))) f)))

  module _ (first owed : ℕ) (a : IsAt h start entries first owed) (k : keeps h e ≡ true) where
    rest : List Entry
    rest = drop (first - start) entries

    more : drop (first - start) (entries ++ e ∷ []) ≡ drop (first - start) entries ++ e ∷ []
    more = drop-append-le (first - start) entries (e ∷ []) (omega (arith, a.before_end, a.from_start))

    many : (b : Bool) → visible h e ≡ b → length (filter (visible h) (drop (first - start) entries ++ e ∷ [])) ≡ owed + cond b 1 0
    many b v = filter-more (visible h) (drop (first - start) entries) e b v ∙ ap (λ n. n + cond b 1 0) a.count

    still : (b : Bool) → visible h e ≡ b → owed + cond b 1 0 ≤ h.limit → IsAt h start (entries ++ e ∷ []) first (owed + cond b 1 0)
    still b v few = record {
      delta = a.delta;
      from_start = a.from_start;
      before_end = omega (arith, long, a.before_end);
      begins = subst (Begins (visible h)) (sym more) (begins-push (visible h) e (drop (first - start) entries) a.begins);
      count = ap (λ xs. length (filter (visible h) xs)) more ∙ many b v;
      few = few;
    }

    offer-at : (b : Bool) → visible h e ≡ b → offered h e (Owed (drop (first - start) entries)) ≡ cond (ltb h.limit (owed + cond b 1 0)) SeenOver (Owed (drop (first - start) entries ++ e ∷ []))
    offer-at b v =
        offer-kept a.delta k (drop (first - start) entries)
        ∙ ap (λ xs. cond (over_limit h xs) SeenOver (Owed xs)) (pushed-begins (visible h) e (drop (first - start) entries) a.begins)
        ∙ ap (λ n. cond (ltb h.limit n) SeenOver (Owed (drop (first - start) entries ++ e ∷ []))) (many b v)

    at : (b : Bool) → visible h e ≡ b → Leads (At first owed) (place_after h.limit b (start + length entries) (At first owed))
    at true v = by (ltb owed h.limit) refl
      where
        by : (b : Bool) → ltb owed h.limit ≡ b → Leads (At first owed) (cond b (At first (owed + 1)) Over)
        by true lt = let le : owed + 1 ≤ h.limit = grind (arith, nat_tests) in (still true v le, ap Owed more ∙ sym (offer-at true v ∙ (let f : ltb h.limit (owed + 1) ≡ false = grind (arith, nat_tests) in ap (λ b. cond b SeenOver (Owed (drop (first - start) entries ++ e ∷ []))) f)))
        by false lt = (a.delta, sym (offer-at true v ∙ (let f : ltb h.limit (owed + 1) ≡ true = grind (arith, nat_tests) in ap (λ b. cond b SeenOver (Owed (drop (first - start) entries ++ e ∷ []))) f)))
    at false v =
        let z : owed + 0 ≡ owed = omega arith in
        let le : owed + 0 ≤ h.limit = omega (arith, a.few) in
        (subst (IsAt h start (entries ++ e ∷ []) first) z (still false v le), ap Owed more ∙ sym (offer-at false v ∙ (let f : ltb h.limit (owed + 0) ≡ false = grind (arith, nat_tests) in ap (λ b. cond b SeenOver (Owed (drop (first - start) entries ++ e ∷ []))) f)))

  pub place-offered : (p : Place) → IsPlace h start entries p → (is_delta_style (style h.kind) ≡ true → keeps h e ≡ true) → Leads p (place_after h.limit (visible h e) (start + length entries) p)
  place-offered (News b) is k = (is, refl)
  place-offered Fresh is k = (is, refl)
  place-offered Over is k = (is, refl)
  place-offered Idle is k = idle is (k is) (visible h e) refl
  place-offered (At first owed) is k = at first owed is (k is.delta) (visible h e) refl

  -- ---- any other record

  or-false : (b : Bool) → b ≡ (b || false)
  or-false true = refl
  or-false false = refl

  pub place-other : (p : Place) → IsPlace h start entries p → visible h e ≡ false → (is_delta_style (style h.kind) ≡ true → keeps h e ≡ false) → seen_at start entries p ≡ offered h e (seen_at start entries p)
  place-other (News b) is v k = ap SeenNews (or-false b ∙ ap (λ x. b || x) (sym v))
  place-other Fresh is v k = refl
  place-other Over is v k = refl
  place-other Idle is v k = sym (ap (λ b. seen_of h (cond b (pushed (visible h) e []) [])) (k is) ∙ seen-within h [] is (omega arith))
  place-other (At first owed) is v k = sym (ap (λ b. seen_of h (cond b (pushed (visible h) e (drop (first - start) entries)) (drop (first - start) entries))) (k is.delta) ∙ seen-within h (drop (first - start) entries) is.delta (omega (arith, is.count, is.few)))

-- ---- which records are of the chain

delta-read : {S : Type 0} (h : OpenHandle S) → is_delta_style (style h.kind) ≡ true → (is_full_style (style h.kind) || is_delta_style (style h.kind)) ≡ true
delta-read h e = by (is_full_style (style h.kind)) e
  where
    by : (b : Bool) → is_delta_style (style h.kind) ≡ true → (b || is_delta_style (style h.kind)) ≡ true
    by true e = refl
    by false e = e

pub place-style : {S : Type 0} (h : OpenHandle S) (start : ℕ) (entries : List Entry) (p : Place) → IsPlace h start entries p → (is_full_style (style h.kind) || is_delta_style (style h.kind)) ≡ true
place-style h start entries (News b) is = ap (λ b. b || is_delta_style (style h.kind)) is
place-style h start entries Fresh is = delta-read h is
place-style h start entries Over is = delta-read h is
place-style h start entries Idle is = delta-read h is
place-style h start entries (At first owed) is = delta-read h is.delta

-- the kind that sees the same in delta mode
abbrev twin : HandleKind → HandleKind
twin (ObjectHandle delta) = ObjectHandle true
twin (DirectoryHandle delta) = DirectoryHandle true
twin NamesHandle = NamesHandle
twin ServerHandle = ServerHandle
twin ClientHandle = ClientHandle

twin-flag : (k : HandleKind) (d : Bool) → same_flag (is_directory_kind (twin k)) d ≡ same_flag (is_directory_kind k) d
twin-flag (ObjectHandle delta) d = refl
twin-flag (DirectoryHandle delta) d = refl
twin-flag NamesHandle d = refl
twin-flag ServerHandle d = refl
twin-flag ClientHandle d = refl

twin-delta : (k : HandleKind) → (is_full_style (style k) || is_delta_style (style k)) ≡ true → is_delta_style (style (twin k)) ≡ true
twin-delta (ObjectHandle delta) e = refl
twin-delta (DirectoryHandle delta) e = refl
twin-delta NamesHandle e = refl
twin-delta ServerHandle e = absurd cc
twin-delta ClientHandle e = absurd cc

twin-visible : {S : Type 0} (h : OpenHandle S) (e : Entry) (k : HandleKind) → visible (record h { kind = k }) e ≡ visible (record h { kind = twin k }) e
twin-visible h e (ObjectHandle delta) = refl
twin-visible h e (DirectoryHandle delta) = refl
twin-visible h e NamesHandle = refl
twin-visible h e ServerHandle = refl
twin-visible h e ClientHandle = refl

pub visible-chain : {S : Type 0} (d : Bool) (t : ℕ) (h : OpenHandle S) → (is_full_style (style h.kind) || is_delta_style (style h.kind)) ≡ true → same_flag (is_directory_kind h.kind) d ≡ true → h.target ≡ t → (e : Entry) → visible h e ≡ true → in_chain d t e ≡ true
visible-chain d t h read flag target e v =
    sym (keeps-chain d t (record h { kind = twin h.kind }) (record { delta = twin-delta h.kind read; flag = twin-flag h.kind d ∙ flag; target = target }) e)
    ∙ visible-keeps (record h { kind = twin h.kind }) e (sym (twin-visible h e h.kind) ∙ v)

pub unseen : {S : Type 0} (d : Bool) (t : ℕ) (h : OpenHandle S) → (is_full_style (style h.kind) || is_delta_style (style h.kind)) ≡ true → same_flag (is_directory_kind h.kind) d ≡ true → h.target ≡ t → (e : Entry) → in_chain d t e ≡ false → visible h e ≡ false
unseen d t h read flag target e out = by (visible h e) refl
  where
    by : (b : Bool) → visible h e ≡ b → b ≡ false
    by true v = sym (visible-chain d t h read flag target e v) ∙ out
    by false v = refl

-- ---- handles of the target

pub reader-offered : (d : Bool) (t : ℕ) (name : List ℕ) (start : ℕ) (entries : List Entry) (e : Entry) (s : Reader) → in_chain d t e ≡ true → IsReader d t name start entries s
    → IsReader d t name start (entries ++ e ∷ []) (reader_after t e (start + length entries) s) × (handle_of t name start (entries ++ e ∷ []) (reader_after t e (start + length entries) s) ≡ offer e (handle_of t name start entries s))
reader-offered d t name start entries e s here is =
    let l = place-offered (opened t name s.opening) start entries e s.progress is.place (λ delta. keeps-chain d t (opened t name s.opening) (record { delta = delta; flag = is.flag; target = refl }) e ∙ here) in
    (record { flag = is.flag; place = l.0 }, ap (λ x. waiting s (reseen (λ h. x) (opened t name s.opening))) l.1)

pub reader-other : (d : Bool) (t : ℕ) (name : List ℕ) (start : ℕ) (entries : List Entry) (e : Entry) (s : Reader) → in_chain d t e ≡ false → IsReader d t name start entries s → handle_of t name start entries s ≡ offer e (handle_of t name start entries s)
reader-other d t name start entries e s out is =
    ap (λ x. waiting s (reseen (λ h. x) (opened t name s.opening)))
    (place-other (opened t name s.opening) start entries e s.progress is.place
    (unseen d t (opened t name s.opening) (place-style (opened t name s.opening) start entries s.progress is.place) is.flag refl e out)
    (λ delta. keeps-chain d t (opened t name s.opening) (record { delta = delta; flag = is.flag; target = refl }) e ∙ out))
