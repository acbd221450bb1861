-- An entry between those before it and those after it.
use Rattle.std.proofs.Common.{◌≡◌, ℕ, suc, ◌+◌, ◌<◌, ◌≤◌, List, [], ◌∷◌, ◌++◌, length, get_or, take, drop, ap, sym, subst, ◌∙◌, arith, add-one}
use Rattle.std.proofs.lemmas.List.{drop_all, set-get_or, set_split, take_more, get_or_default, get_or_read, drop_more}
use Rattle.std.specs.declared.cmp.Ordering.TheVariants.{Less, Equal, Greater}
use Rattle.std.specs.Ordering.{ordering_reverse}
use Rattle.alloc_tree.proofs.Orders.{names_total, names_exact}
use Rattle.pps_types.specs.Names.{Name, name_cmp}
use Rattle.alloc_tree.specs.Entries.{AllNames, AllBelow, AllAbove, NamesRise, IsPlaceOf, IsGapFor}
use Rattle.alloc_tree.specs.declared.directory.Entry.{Entry}

module _ {A : Type 0} where
  pub names_left : (P : Name → Type 0) (a b : List (Entry A)) → AllNames P (a ++ b) → AllNames P a
  names_left P [] b h = tt
  names_left P (x ∷ a) b h = (h.0, names_left P a b h.1)

  pub names_right : (P : Name → Type 0) (a b : List (Entry A)) → AllNames P (a ++ b) → AllNames P b
  names_right P [] b h = h
  names_right P (x ∷ a) b h = names_right P a b h.1

  pub names_joined : (P : Name → Type 0) (a b : List (Entry A)) → AllNames P a → AllNames P b → AllNames P (a ++ b)
  names_joined P [] b g h = h
  names_joined P (x ∷ a) b g h = (g.0, names_joined P a b g.1 h)

  pub rising_left : (a b : List (Entry A)) → NamesRise (a ++ b) → NamesRise a
  rising_left [] b h = tt
  rising_left (x ∷ a) b h = (names_left _ a b h.0, rising_left a b h.1)

  pub rising_right : (a b : List (Entry A)) → NamesRise (a ++ b) → NamesRise b
  rising_right [] b h = h
  rising_right (x ∷ a) b h = rising_right a b h.1

  pub below_of_rising : (a b : List (Entry A)) (e : Entry A) → NamesRise (a ++ e ∷ b) → AllBelow e.name.items a
  below_of_rising [] b e h = tt
  below_of_rising (x ∷ a) b e h = ((names_right _ a (e ∷ b) h.0).0, below_of_rising a b e h.1)

  pub above_of_rising : (a b : List (Entry A)) (e : Entry A) → NamesRise (a ++ e ∷ b) → AllAbove e.name.items b
  above_of_rising a b e h = (rising_right a (e ∷ b) h).0

  -- what stands at a place, and the facts about its neighbours
  pub record IsAt (es : List (Entry A)) (i : ℕ) (e : Entry A) (n : Name) : Type 0 where
    pub in_range : i < length es
    pub split : es ≡ take i es ++ e ∷ drop (suc i) es
    pub name : e.name.items ≡ n
    pub below : AllBelow n (take i es)
    pub above : AllAbove n (drop (suc i) es)

  pub at_place : (es : List (Entry A)) (i : ℕ) (e : Entry A) (n : Name) → NamesRise es → IsPlaceOf es n i → e ≡ get_or es i e → IsAt es i e n
  at_place es i e n rising place read =
      let split : es ≡ take i es ++ e ∷ drop (suc i) es = sym (set-get_or es i e) ∙ set_split es i (get_or es i e) place.in_range ∙ ap (λ x. take i es ++ x ∷ drop (suc i) es) (sym read) in
      let name : e.name.items ≡ n = ap (λ x. x.name.items) read ∙ place.is e in
      let rises : NamesRise (take i es ++ e ∷ drop (suc i) es) = subst NamesRise split rising in
      record {
        in_range = place.in_range;
        split = split;
        name = name;
        below = subst (λ m. AllBelow m (take i es)) name (below_of_rising (take i es) (drop (suc i) es) e rises);
        above = subst (λ m. AllAbove m (drop (suc i) es)) name (above_of_rising (take i es) (drop (suc i) es) e rises);
      }

  -- what a comparison at place i tells
  pub place_here : (es : List (Entry A)) (i : ℕ) (e : Entry A) (n : Name) → i < length es → e ≡ get_or es i e → Equal ≡ name_cmp e.name.items n → IsPlaceOf es n i
  place_here es i e n in_range read equal = record {
    in_range = in_range;
    is = λ d. ap (λ x. x.name.items) (sym (get_or_read es i e in_range read d)) ∙ names_exact _ _ (sym equal);
  }

  above_all : (n : Name) (e : Entry A) (es : List (Entry A)) → name_cmp n e.name.items ≡ Less → AllAbove e.name.items es → AllAbove n es
  above_all n e [] less h = tt
  above_all n e (x ∷ es) less h = (names_total.trans n e.name.items x.name.items less h.0, above_all n e es less h.1)

  below_all : (n : Name) (e : Entry A) (es : List (Entry A)) → name_cmp e.name.items n ≡ Less → AllBelow e.name.items es → AllBelow n es
  below_all n e [] less h = tt
  below_all n e (x ∷ es) less h = (names_total.trans x.name.items e.name.items n h.0 less, below_all n e es less h.1)

  split_here : (es : List (Entry A)) (i : ℕ) (e : Entry A) → i < length es → e ≡ get_or es i e → es ≡ take i es ++ e ∷ drop (suc i) es
  split_here es i e in_range read = sym (set-get_or es i e) ∙ set_split es i (get_or es i e) in_range ∙ ap (λ x. take i es ++ x ∷ drop (suc i) es) (sym read)

  -- so far a name is sought from low on, and before high
  pub record IsBetween (es : List (Entry A)) (n : Name) (low high : ℕ) : Type 0 where
    pub in_order : low ≤ high
    pub in_range : high ≤ length es
    pub below : AllBelow n (take low es)
    pub above : AllAbove n (drop high es)

  pub between_all : (es : List (Entry A)) (n : Name) → IsBetween es n 0 (length es)
  between_all es n = record { in_order = omega arith; in_range = omega arith; below = tt; above = subst (AllAbove n) (sym (drop_all (length es) es (omega arith))) tt }

  pub between_later : (es : List (Entry A)) (n : Name) (low high i : ℕ) (e : Entry A) → NamesRise es → IsBetween es n low high → i < high → e ≡ get_or es i e → Less ≡ name_cmp e.name.items n → IsBetween es n (i + 1) high
  between_later es n low high i e rising before in_range read less =
      let here : i < length es = omega (arith, before.in_range) in
      let rises = subst NamesRise (split_here es i e here read) rising in
      record {
        in_order = omega arith;
        in_range = before.in_range;
        below = subst (AllBelow n) (sym (take_more es i e here)) (names_joined _ (take i es) (get_or es i e ∷ []) (below_all n e (take i es) (sym less) (below_of_rising (take i es) (drop (suc i) es) e rises)) (subst (λ x. name_cmp x.name.items n ≡ Less) read (sym less), tt));
        above = before.above;
      }

  pub between_earlier : (es : List (Entry A)) (n : Name) (low high i : ℕ) (e : Entry A) → NamesRise es → IsBetween es n low high → low ≤ i → i < high → e ≡ get_or es i e → Greater ≡ name_cmp e.name.items n → IsBetween es n low i
  between_earlier es n low high i e rising before order in_range read greater =
      let here : i < length es = omega (arith, before.in_range) in
      let less : name_cmp n e.name.items ≡ Less = names_total.antisymm n e.name.items ∙ ap ordering_reverse (sym greater) in
      let rises = subst NamesRise (split_here es i e here read) rising in
      let rest : drop i es ≡ e ∷ drop (suc i) es = drop_more es i e here ∙ (λ j. sym read j ∷ drop (add-one i j) es) in
      record {
        in_order = order;
        in_range = omega arith;
        below = before.below;
        above = subst (AllAbove n) (sym rest) (less, above_all n e (drop (suc i) es) less (above_of_rising (take i es) (drop (suc i) es) e rises));
      }

  pub gap_between : (es : List (Entry A)) (n : Name) (low high : ℕ) → IsBetween es n low high → high ≤ low → IsGapFor es n low
  gap_between es n low high found met = record {
    in_range = omega (arith, found.in_range);
    below = found.below;
    above = subst (λ k. AllAbove n (drop k es)) (omega (arith, found.in_order)) found.above;
  }

  -- the entry at a name's place, where the code hasn't read it
  pub some_place : (es : List (Entry A)) (i : ℕ) (n : Name) → NamesRise es → IsPlaceOf es n i → (e : Entry A) × IsAt es i e n
  some_place [] i n rising place = absurd (omega (arith, place.in_range))
  some_place (x ∷ es) i n rising place = (get_or (x ∷ es) i x, at_place (x ∷ es) i (get_or (x ∷ es) i x) n rising place (get_or_default (x ∷ es) i x (get_or (x ∷ es) i x) place.in_range))

  -- the entry that the code has read
  pub at_read : (es : List (Entry A)) (i : ℕ) (e : Entry A) → NamesRise es → i < length es → e ≡ get_or es i e → IsAt es i e e.name.items
  at_read es i e rising in_range read = at_place es i e e.name.items rising record { in_range = in_range; is = λ d. ap (λ x. x.name.items) (sym (get_or_read es i e in_range read d)) } read
