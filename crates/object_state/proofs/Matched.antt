-- Where attributes stand that a filter matches.
use Rattle.std.proofs.Common.{◌≡◌, ℕ, zero, suc, ◌+◌, ◌<◌, ◌≤◌, Bool, true, false, cond, List, [], ◌∷◌, ◌++◌, length, get_or, take, drop, Option, Some, None, option_map, length-append, refl, sym, ap, ◌∙◌, arith}
use Rattle.std.specs.Prelude.{is_some, position, slice_get, nat_eq, nat_le, nat_lt, ◌&&◌, ◌||◌}
use Rattle.std.specs.List.{IsDistinct}
use Rattle.std.specs.Option.{option_map_or}
use Rattle.std.specs.Map.{keys_of, lookup}
use Rattle.std.proofs.lemmas.Bool.Decides.{nat_tests}
use Rattle.std.proofs.lemmas.List.{take_more, map-append}
use Rattle.std.proofs.lemmas.List.Folds.{list_any-append}
use Rattle.std.proofs.lemmas.List.Quantifiers.{position-Some}
use Rattle.std.proofs.lemmas.Map.Keys.{apart_from_distinct}
use Rattle.std.proofs.lemmas.Option.{slice_get-map, slice_get_within, get_or_from_slice_get}
use lib.Pointwise.{pointwise}
use Rattle.pps_types.specs.Bytes.{same}
use Rattle.pps_types.specs.Filter.{Part, matches, part_matches, value_meets}
use Rattle.pps_types.specs.History.{Attribute, line_of}
use Rattle.pps_types.specs.Text.{print_line}
use Rattle.pps_filter.specs.declared.filter.Part.{Part as HeldPart}
use Rattle.pps_filter.specs.Seen.{part_seen, parts_seen}
use Rattle.pps_types.specs.AttributeContent.{Content}
use Rattle.object_state.specs.Entries.{attribute_of, attributes_of}
use Rattle.object_state.specs.Held.{print_matching}
use Rattle.object_state.specs.Places.{IsPlaceOf, IsFirstPlace, IsReached}
use Rattle.pps_types.proofs.SameBytes.{same-is, same-sym}

not-true : (b : Bool) → (b ≡ true → ⊥) → b ≡ false
not-true true wrong = absurd (wrong refl)
not-true false wrong = refl

both-true : (b c : Bool) → (b && c) ≡ true → (b ≡ true) × (c ≡ true)
both-true true true is = (refl, refl)
both-true true false is = absurd cc
both-true false c is = absurd cc

-- ---- the entries of a name

key-at : (es : List (List ℕ × Content)) (i : ℕ) (e : List ℕ × Content) → slice_get es i ≡ Some e → slice_get (keys_of es) i ≡ Some e.0
key-at es i e at = slice_get-map (λ (f : List ℕ × Content). f.0) es i ∙ ap (option_map (λ (f : List ℕ × Content). f.0)) at

-- none has a name that is not found
none-at : (k : List ℕ) (es : List (List ℕ × Content)) → lookup (same k) es ≡ None → (i : ℕ) (e : List ℕ × Content) → slice_get es i ≡ Some e → same k e.0 ≡ false
none-at k [] none i e at = absurd cc
none-at k (f ∷ es) none i e at = by (λ rest j. none-at k es rest j e) (same k f.0) refl none
  where
    here : ((j : ℕ) → slice_get es j ≡ Some e → same k e.0 ≡ false) → (j : ℕ) → slice_get (f ∷ es) j ≡ Some e → same k f.0 ≡ false → same k e.0 ≡ false
    here rec zero is other = let first : f ≡ e = cc in rw (← first) other
    here rec (suc j) is other = rec j is

    by : (lookup (same k) es ≡ None → (j : ℕ) → slice_get es j ≡ Some e → same k e.0 ≡ false) → (b : Bool) → same k f.0 ≡ b → cond b (Some f.1) (lookup (same k) es) ≡ None → same k e.0 ≡ false
    by rec true first wrong = absurd cc
    by rec false other rest = here (rec rest) i at other

-- the one that is found has it
found-at : (k : List ℕ) (es : List (List ℕ × Content)) (i : ℕ) (e : List ℕ × Content) → position (same k) (keys_of es) ≡ Some i → slice_get es i ≡ Some e → same k e.0 ≡ true
found-at k es i e found at =
    let passes = position-Some (same k) (keys_of es) i [] found in
    let is : get_or (keys_of es) i [] ≡ e.0 = get_or_from_slice_get (keys_of es) i e.0 [] (key-at es i e at) in
    ap (same k) (sym is) ∙ passes.1

-- no other has it
apart-at : (k : List ℕ) (es : List (List ℕ × Content)) → IsDistinct (pointwise nat_eq) (keys_of es) → (i j : ℕ) (e f : List ℕ × Content)
    → slice_get es i ≡ Some e → slice_get es j ≡ Some f → same k e.0 ≡ true → same k f.0 ≡ true → i < j → ⊥
apart-at k es apart i j e f at-i at-j is-i is-j less =
    let within : j < length (keys_of es) = slice_get_within (keys_of es) j f.0 (key-at es j f at-j) in
    let other = apart_from_distinct (pointwise nat_eq) (keys_of es) i j [] apart less within in
    let one : get_or (keys_of es) i [] ≡ e.0 = get_or_from_slice_get (keys_of es) i e.0 [] (key-at es i e at-i) in
    let two : get_or (keys_of es) j [] ≡ f.0 = get_or_from_slice_get (keys_of es) j f.0 [] (key-at es j f at-j) in
    let apart-names : same e.0 f.0 ≡ false = sym (ap (λ n. same n (get_or (keys_of es) j [])) one ∙ ap (same e.0) two) ∙ other in
    let named : same e.0 f.0 ≡ true = ap (λ n. same n f.0) (sym (same-is k e.0 is-i)) ∙ is-j in
    cc

one-place : (k : List ℕ) (es : List (List ℕ × Content)) → IsDistinct (pointwise nat_eq) (keys_of es) → (i j : ℕ) (e f : List ℕ × Content)
    → slice_get es i ≡ Some e → slice_get es j ≡ Some f → same k e.0 ≡ true → same k f.0 ≡ true → i ≡ j
one-place k es apart i j e f at-i at-j is-i is-j =
    let no-less = apart-at k es apart i j e f at-i at-j is-i is-j in
    let no-more = apart-at k es apart j i f e at-j at-i is-j is-i in
    omega (arith, no-less, no-more)

-- ---- the place of a part

attribute-at : (es : List (List ℕ × Content)) (i : ℕ) (a : Attribute) → slice_get (attributes_of es) i ≡ Some a → (e : List ℕ × Content) × (slice_get es i ≡ Some e) × (attribute_of e ≡ a)
attribute-at es i a at = by (slice_get es i) refl (sym (slice_get-map attribute_of es i) ∙ at)
  where
    by : (o : Option (List ℕ × Content)) → slice_get es i ≡ o → option_map attribute_of o ≡ Some a → (e : List ℕ × Content) × (slice_get es i ≡ Some e) × (attribute_of e ≡ a)
    by None is wrong = absurd cc
    by (Some e) is this = (e, is, cc)

module _ (part : Part) (es : List (List ℕ × Content)) where
  -- an attribute that it matches has its name
  named : (i : ℕ) (a : Attribute) → slice_get (attributes_of es) i ≡ Some a → part_matches (line_of a) part ≡ true
      → (e : List ℕ × Content) × (slice_get es i ≡ Some e) × (same part.name e.0 ≡ true) × (value_meets part.condition e.1.value ≡ true)
  named i a at is =
      let entry = attribute-at es i a at in
      let meets : part_matches (line_of (attribute_of entry.0)) part ≡ true = ap (λ b. part_matches (line_of b) part) entry.2 ∙ is in
      let two = both-true (same entry.0.0 part.name) (value_meets part.condition entry.0.1.value) meets in
      (entry.0, entry.1, same-sym part.name entry.0.0 ∙ two.0, two.1)

  -- where no attribute has the name
  pub place-none : lookup (same part.name) es ≡ None → IsPlaceOf part (attributes_of es) None
  place-none none i a at = (
    λ is. let has = named i a at is in let other = none-at part.name es none i has.0 has.1 in absurd cc,
    λ is. absurd cc,
  )

  module _ (place : ℕ) (e : List ℕ × Content) (apart : IsDistinct (pointwise nat_eq) (keys_of es)) (found : position (same part.name) (keys_of es) ≡ Some place) (at : slice_get es place ≡ Some e) where
    has-place : (i : ℕ) (a : Attribute) → slice_get (attributes_of es) i ≡ Some a → part_matches (line_of a) part ≡ true → place ≡ i
    has-place i a at-i is = let has = named i a at-i is in one-place part.name es apart place i e has.0 at has.1 (found-at part.name es place e found at) has.2

    at-place : (i : ℕ) (a : Attribute) → slice_get (attributes_of es) i ≡ Some a → place ≡ i → attribute_of e ≡ a
    at-place i a at-i is =
        let entry = attribute-at es i a at-i in
        let same-entry : Some e ≡ Some entry.0 = sym at ∙ ap (slice_get es) is ∙ entry.1 in
        let one : e ≡ entry.0 = cc in
        ap attribute_of one ∙ entry.2

    -- where the attribute of the name meets it
    pub place-met : value_meets part.condition e.1.value ≡ true → IsPlaceOf part (attributes_of es) (Some place)
    place-met met i a at-i = (
      λ is. ap Some (has-place i a at-i is),
      λ is.
          let here : place ≡ i = cc in
          ap (λ b. part_matches (line_of b) part) (sym (at-place i a at-i here)) ∙ ap (λ b. b && value_meets part.condition e.1.value) (same-sym e.0 part.name ∙ found-at part.name es place e found at) ∙ met,
    )

    -- where it does not
    pub place-unmet : value_meets part.condition e.1.value ≡ false → IsPlaceOf part (attributes_of es) None
    place-unmet unmet i a at-i = (
      λ is.
          let has = named i a at-i is in
          let here = has-place i a at-i is in
          let one : Some e ≡ Some has.0 = sym at ∙ ap (slice_get es) here ∙ has.1 in
          let meets : value_meets part.condition has.0.1.value ≡ true = has.3 in
          absurd cc,
      λ is. absurd cc,
    )

-- ---- the first place of more parts

abbrev pub earlier : ℕ → ℕ → Option ℕ → ℕ
earlier from first place = option_map_or (λ p. cond (nat_le from p && nat_lt p first) p first) place first

module _ (parts : List Part) (part : Part) (attributes : List Attribute) (from first : ℕ) (was : IsFirstPlace parts attributes from first) where
  any-more : (a : Attribute) → matches (Some (parts ++ part ∷ [])) (line_of a) ≡ (matches (Some parts) (line_of a) || part_matches (line_of a) part)
  any-more a = list_any-append (part_matches (line_of a)) parts (part ∷ []) ∙ ap (λ b. matches (Some parts) (line_of a) || b) (or-false (part_matches (line_of a) part))
    where
      or-false : (b : Bool) → (b || false) ≡ b
      or-false true = refl
      or-false false = refl

  or-true : (b : Bool) → (b || true) ≡ true
  or-true true = refl
  or-true false = refl

  kept : (place : Option ℕ) → IsPlaceOf part attributes place → ((i : ℕ) → from ≤ i → i < first → place ≡ Some i → ⊥) → IsFirstPlace (parts ++ part ∷ []) attributes from first
  kept place is apart = record {
    later = was.later;
    within = was.within;
    matched = λ a at. any-more a ∙ ap (λ b. b || part_matches (line_of a) part) (was.matched a at);
    others = λ i a low high at. any-more a ∙ ap (λ b. b || part_matches (line_of a) part) (was.others i a low high at)
        ∙ not-true (part_matches (line_of a) part) (λ e. apart i low high ((is i a at).0 e));
  }

  taken : (p : ℕ) → IsPlaceOf part attributes (Some p) → from ≤ p → p < first → IsFirstPlace (parts ++ part ∷ []) attributes from p
  taken p is low high = record {
    later = low;
    within = omega (arith, was.within);
    matched = λ a at. any-more a ∙ ap (λ b. matches (Some parts) (line_of a) || b) ((is p a at).1 refl) ∙ or-true (matches (Some parts) (line_of a));
    others = λ i a from-low before at.
        let less : i < first = omega arith in
        any-more a ∙ ap (λ b. b || part_matches (line_of a) part) (was.others i a from-low less at)
        ∙ not-true (part_matches (line_of a) part) (λ e. let here : Some p ≡ Some i = (is i a at).0 e in let one : p ≡ i = cc in omega arith);
  }

  pub first-more : (place : Option ℕ) → IsPlaceOf part attributes place → IsFirstPlace (parts ++ part ∷ []) attributes from (earlier from first place)
  first-more None is = kept None is (λ i low high wrong. cc)
  first-more (Some p) is = by (nat_le from p && nat_lt p first) refl
    where
      by : (b : Bool) → (nat_le from p && nat_lt p first) ≡ b → IsFirstPlace (parts ++ part ∷ []) attributes from (cond b p first)
      by true test = taken p is (grind (arith, nat_tests)) (grind (arith, nat_tests))
      by false test = kept (Some p) is (λ i low high here. let one : p ≡ i = cc in outside i low high one)
        where
          outside : (i : ℕ) → from ≤ i → i < first → p ≡ i → ⊥
          outside i low high one = grind (arith, nat_tests)

pub first-none : (attributes : List Attribute) (from : ℕ) → from ≤ length attributes → IsFirstPlace [] attributes from (length attributes)
first-none attributes from low = record {
  later = low;
  within = omega arith;
  matched = λ a at. let less = slice_get_within attributes (length attributes) a at in absurd (omega arith);
  others = λ i a from-low before at. refl;
}

-- ---- what is printed from a place on

module _ (wanted : Option (List Part)) where
  pub print-skip : (attributes : List Attribute) (from place : ℕ) → from ≤ place → ((i : ℕ) (a : Attribute) → from ≤ i → i < place → slice_get attributes i ≡ Some a → matches wanted (line_of a) ≡ false)
      → print_matching wanted (drop from attributes) ≡ print_matching wanted (drop place attributes)
  print-skip [] from place later others = empty from ∙ sym (empty place)
    where
      empty : (n : ℕ) → print_matching wanted (drop n []) ≡ []
      empty zero = refl
      empty (suc n) = refl
  print-skip (a ∷ rest) zero zero later others = refl
  print-skip (a ∷ rest) zero (suc place) later others =
      first (others 0 a (omega arith) (omega arith) refl) ∙ print-skip rest 0 place (omega arith) (λ i b low high at. others (suc i) b (omega arith) (omega arith) at)
    where
      first : matches wanted (line_of a) ≡ false → print_matching wanted (a ∷ rest) ≡ print_matching wanted rest
      first other = rw other refl
  print-skip (a ∷ rest) (suc from) zero later others = absurd (omega arith)
  print-skip (a ∷ rest) (suc from) (suc place) later others = print-skip rest from place (omega arith) (λ i b low high at. others (suc i) b (omega arith) (omega arith) at)

  pub print-at : (attributes : List Attribute) (place : ℕ) (a : Attribute) → slice_get attributes place ≡ Some a → matches wanted (line_of a) ≡ true
      → print_matching wanted (drop place attributes) ≡ print_line (line_of a) ++ print_matching wanted (drop (suc place) attributes)
  print-at [] place a at is = absurd cc
  print-at (b ∷ rest) zero a at is = by at
    where
      by : Some b ≡ Some a → print_matching wanted (b ∷ rest) ≡ print_line (line_of a) ++ print_matching wanted rest
      by here = let one : b ≡ a = cc in let yes : matches wanted (line_of b) ≡ true = rw one is in rw yes (ap (λ d. print_line (line_of d) ++ print_matching wanted rest) one)
  print-at (b ∷ rest) (suc place) a at is = print-at rest place a at is

  pub print-end : (attributes : List Attribute) (place : ℕ) → length attributes ≤ place → print_matching wanted (drop place attributes) ≡ []
  print-end [] zero past = refl
  print-end [] (suc place) past = refl
  print-end (a ∷ rest) zero past = absurd (omega arith)
  print-end (a ∷ rest) (suc place) past = print-end rest place (omega arith)

pub within-here : (es : List (List ℕ × Content)) (place : ℕ) (name : List ℕ) (content : Content) → slice_get es place ≡ Some (name, content) → place < length es
within-here es place name content at = slice_get_within es place (name, content) at

module _ (parts : List Part) (es : List (List ℕ × Content)) (place : ℕ) where
  pub reached : (from : ℕ) → IsFirstPlace parts (attributes_of es) from place → IsReached parts (attributes_of es) place
  reached from first = record { within = first.within; matched = first.matched }

  pub print-from : (from : ℕ) → IsFirstPlace parts (attributes_of es) from place → print_matching (Some parts) (drop from (attributes_of es)) ≡ print_matching (Some parts) (drop place (attributes_of es))
  print-from from first = print-skip (Some parts) (attributes_of es) from place first.later first.others

  module _ (name : List ℕ) (content : Content) (here : IsReached parts (attributes_of es) place) (at : slice_get es place ≡ Some (name, content)) where
    pub print-here : print_matching (Some parts) (drop place (attributes_of es)) ≡ print_line (line_of (attribute_of (name, content))) ++ print_matching (Some parts) (drop (place + 1) (attributes_of es))
    print-here =
        let stands : slice_get (attributes_of es) place ≡ Some (attribute_of (name, content)) = slice_get-map attribute_of es place ∙ ap (option_map attribute_of) at in
        let next : suc place ≡ place + 1 = omega arith in
        print-at (Some parts) (attributes_of es) place (attribute_of (name, content)) stands (here.matched (attribute_of (name, content)) stands)
        ∙ ap (λ n. print_line (line_of (attribute_of (name, content))) ++ print_matching (Some parts) (drop n (attributes_of es))) next

    pub length-here : length (print_matching (Some parts) (drop place (attributes_of es))) ≡ length (print_line (line_of (attribute_of (name, content)))) + length (print_matching (Some parts) (drop (place + 1) (attributes_of es)))
    length-here = ap length print-here ∙ length-append (print_line (line_of (attribute_of (name, content)))) (print_matching (Some parts) (drop (place + 1) (attributes_of es)))

-- ---- the parts of a filter, one after the other

pub none-found : {X : Type 0} (o : Option X) → false ≡ is_some o → o ≡ None
none-found None is = refl
none-found (Some x) is = absurd cc

pub parts-more : (ps : List HeldPart) (i : ℕ) (part : HeldPart) → i < length ps → part ≡ get_or ps i part → parts_seen (take (i + 1) ps) ≡ parts_seen (take i ps) ++ part_seen part ∷ []
parts-more ps i part less is = ap parts_seen (take_more ps i part less) ∙ map-append part_seen (take i ps) (get_or ps i part ∷ []) ∙ ap (λ p. parts_seen (take i ps) ++ part_seen p ∷ []) (sym is)
