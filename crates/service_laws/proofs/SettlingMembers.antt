-- The members of a directory after a record, in byte order of their names.
use Rattle.std.proofs.Common.{◌≡◌, ℕ, Bool, true, false, cond, ◌&&◌, List, [], ◌∷◌, ◌++◌, Option, Some, None, refl, sym, ap, ◌∙◌}
use Rattle.std.specs.Prelude.{◌==◌, filter}
use Rattle.std.specs.Ordering.{is_lt, is_eq, ordering_reverse}
use Rattle.std.specs.declared.cmp.Ordering.{Ordering}
use Rattle.std.specs.declared.cmp.Ordering.TheVariants.{Less, Equal, Greater}
use Rattle.std.specs.Cmp.{IsTotalOrder}
use Rattle.std.specs.Cmp.Lexicographic.{nat_list_cmp_total, texts_ties}
use Rattle.std.proofs.lemmas.Bool.{eq-eqb}
use Rattle.std.proofs.lemmas.List.Elements.{filter-append}
use Rattle.std.specs.List.{filter_map, cons_option, AllByRecursion}
use Rattle.pps_types.specs.Bytes.{same}
use Rattle.pps_types.specs.Names.{Name, name_cmp, insert_by, sorted_by}
use Rattle.pps_types.specs.History.{Entry}
use Rattle.pps_types.specs.Content.{Object, LiveObject, Content, members, object_in}
use Rattle.pps_types.specs.Plan.{Creates, AppendsRecord, apply_seen, touched}
use Rattle.pps_types.proofs.Lists.{append-nil, all-weaken}
use Rattle.service_laws.proofs.Finds.{OfSome, none-all}
use Rattle.service_laws.proofs.Trees.{touched-object}

module _ {X K : Type 0} (cmp : K → K → Ordering) (key : X → K) (total : IsTotalOrder cmp) where
  -- y is not before x
  abbrev IsBehind : X → X → Type 0
  IsBehind x y = is_lt (cmp (key y) (key x)) ≡ false

  abbrev IsSorted : List X → Type 0
  IsSorted [] = Unit {0}
  IsSorted (x ∷ xs) = AllByRecursion (IsBehind x) xs × IsSorted xs

  is-less : (o : Ordering) → is_lt o ≡ true → o ≡ Less
  is-less Less e = refl
  is-less Equal e = absurd (let no = e in cc)
  is-less Greater e = absurd (let no = e in cc)

  less-behind : (a b c : K) → cmp a b ≡ Less → is_lt (cmp c b) ≡ false → cmp a c ≡ Less
  less-behind a b c less behind = go (cmp c b) refl behind
    where
      go : (o : Ordering) → cmp c b ≡ o → is_lt o ≡ false → cmp a c ≡ Less
      go Less e bad = absurd (let h = bad in cc)
      go Equal e bad = total.antisymm a c ∙ ap ordering_reverse (total.congr c b a e) ∙ sym (total.antisymm a b) ∙ less
      go Greater e bad = total.trans a b c less (total.antisymm b c ∙ ap ordering_reverse e)

  not-before : (a b : K) → cmp a b ≡ Less → is_lt (cmp b a) ≡ false
  not-before a b less = ap is_lt (total.antisymm b a ∙ ap ordering_reverse less)

  -- ---- what is put in order stays in order

  all-inserted : (P : X → Type 0) (x : X) (ys : List X) → P x → AllByRecursion P ys → AllByRecursion P (insert_by cmp key x ys)
  all-inserted P x [] p all = (p, tt)
  all-inserted P x (y ∷ ys) p all = elim (is_lt (cmp (key x) (key y))) as (λ b. AllByRecursion P (cond b (x ∷ y ∷ ys) (y ∷ insert_by cmp key x ys))) [ true ↦ (p, all) | false ↦ (all.0, all-inserted P x ys p all.1) ]

  inserted-sorted : (x : X) (ys : List X) → IsSorted ys → IsSorted (insert_by cmp key x ys)
  inserted-sorted x [] s = (tt, tt)
  inserted-sorted x (y ∷ ys) s = by (is_lt (cmp (key x) (key y))) refl (inserted-sorted x ys s.1)
    where
      by : (b : Bool) → is_lt (cmp (key x) (key y)) ≡ b → IsSorted (insert_by cmp key x ys) → IsSorted (cond b (x ∷ y ∷ ys) (y ∷ insert_by cmp key x ys))
      by true e rest =
          let less = is-less (cmp (key x) (key y)) e in
          ((not-before (key x) (key y) less, all-weaken {P = IsBehind y} {Q = IsBehind x} (λ z behind. not-before (key x) (key z) (less-behind (key x) (key y) (key z) less behind)) ys s.0), s)
      by false e rest = (all-inserted (IsBehind y) x ys e s.0, rest)

  sorted : (xs : List X) → IsSorted (sorted_by cmp key xs)
  sorted [] = tt
  sorted (x ∷ xs) = inserted-sorted x (sorted_by cmp key xs) (sorted xs)

  -- ---- some taken out, and others changed that keep their keys

  put-first : (k : K) (y : X) (ys : List X) → key y ≡ k → AllByRecursion (λ z. cmp k (key z) ≡ Less) ys → insert_by cmp key y ys ≡ y ∷ ys
  put-first k y [] same all = refl
  put-first k y (z ∷ zs) same all = ap (λ b. cond b (y ∷ z ∷ zs) (z ∷ insert_by cmp key y zs)) (ap (λ a. is_lt (cmp a (key z))) same ∙ ap is_lt all.0)

  module _ (f : X → Option X) (keeps : (x : X) → OfSome (λ y. key y ≡ key x) (f x)) where
    less-left : (k : K) (ys : List X) → AllByRecursion (λ z. cmp k (key z) ≡ Less) ys → AllByRecursion (λ z. cmp k (key z) ≡ Less) (filter_map f ys)
    less-left k [] all = tt
    less-left k (y ∷ ys) all = go (f y) (keeps y) (less-left k ys all.1)
      where
        go : (o : Option X) → OfSome (λ z. key z ≡ key y) o → AllByRecursion (λ z. cmp k (key z) ≡ Less) (filter_map f ys) → AllByRecursion (λ z. cmp k (key z) ≡ Less) (cons_option o (filter_map f ys))
        go None same rest = rest
        go (Some z) same rest = (ap (cmp k) same ∙ all.0, rest)

    dropped : (x : X) (ys : List X) → f x ≡ None → filter_map f (insert_by cmp key x ys) ≡ filter_map f ys
    dropped x [] none = ap (λ o. cons_option o []) none
    dropped x (y ∷ ys) none = by (is_lt (cmp (key x) (key y))) (dropped x ys none)
      where
        by : (b : Bool) → filter_map f (insert_by cmp key x ys) ≡ filter_map f ys → filter_map f (cond b (x ∷ y ∷ ys) (y ∷ insert_by cmp key x ys)) ≡ cons_option (f y) (filter_map f ys)
        by true rest = ap (λ o. cons_option o (cons_option (f y) (filter_map f ys))) none
        by false rest = ap (cons_option (f y)) rest

    left-in : (x y : X) (ys : List X) → f x ≡ Some y → key y ≡ key x → IsSorted ys → filter_map f (insert_by cmp key x ys) ≡ insert_by cmp key y (filter_map f ys)
    left-in x y [] some same s = ap (λ o. cons_option o []) some
    left-in x y (z ∷ zs) some same s = by (is_lt (cmp (key x) (key z))) refl (left-in x y zs some same s.1)
      where
        behind : is_lt (cmp (key x) (key z)) ≡ false → (o : Option X) → OfSome (λ w. key w ≡ key z) o → cons_option o (insert_by cmp key y (filter_map f zs)) ≡ insert_by cmp key y (cons_option o (filter_map f zs))
        behind e None k = refl
        behind e (Some w) k = sym (ap (λ b. cond b (y ∷ w ∷ filter_map f zs) (w ∷ insert_by cmp key y (filter_map f zs))) ((λ i. is_lt (cmp (same i) (k i))) ∙ e))

        by : (b : Bool) → is_lt (cmp (key x) (key z)) ≡ b → filter_map f (insert_by cmp key x zs) ≡ insert_by cmp key y (filter_map f zs)
            → filter_map f (cond b (x ∷ z ∷ zs) (z ∷ insert_by cmp key x zs)) ≡ insert_by cmp key y (filter_map f (z ∷ zs))
        by true e rest =
            let less = is-less (cmp (key x) (key z)) e in
            ap (λ o. cons_option o (filter_map f (z ∷ zs))) some
            ∙ sym (put-first (key x) y (filter_map f (z ∷ zs)) same (less-left (key x) (z ∷ zs) (less, all-weaken {P = IsBehind z} {Q = λ w. cmp (key x) (key w) ≡ Less} (λ w back. less-behind (key x) (key z) (key w) less back) zs s.0)))
        by false e rest = ap (cons_option (f z)) rest ∙ behind e (f z) (keeps z)

    sorted-left : (xs : List X) → sorted_by cmp key (filter_map f xs) ≡ filter_map f (sorted_by cmp key xs)
    sorted-left [] = refl
    sorted-left (x ∷ xs) = go (f x) refl (keeps x) (sorted-left xs)
      where
        go : (o : Option X) → f x ≡ o → OfSome (λ y. key y ≡ key x) o → sorted_by cmp key (filter_map f xs) ≡ filter_map f (sorted_by cmp key xs)
            → sorted_by cmp key (cons_option o (filter_map f xs)) ≡ filter_map f (insert_by cmp key x (sorted_by cmp key xs))
        go None is same rest = rest ∙ sym (dropped x (sorted_by cmp key xs) is)
        go (Some y) is same rest = ap (insert_by cmp key y) rest ∙ sym (left-in x y (sorted_by cmp key xs) is same (sorted xs))

  -- ---- one more at the end, of a key that no other has

  swapped : (a k : X) (zs : List X) → is_eq (cmp (key a) (key k)) ≡ false → insert_by cmp key a (insert_by cmp key k zs) ≡ insert_by cmp key k (insert_by cmp key a zs)
  swapped a k [] other = two (cmp (key a) (key k)) refl other
    where
      two : (o : Ordering) → cmp (key a) (key k) ≡ o → is_eq o ≡ false → cond (is_lt (cmp (key a) (key k))) (a ∷ k ∷ []) (k ∷ a ∷ []) ≡ cond (is_lt (cmp (key k) (key a))) (k ∷ a ∷ []) (a ∷ k ∷ [])
      two Less e bad = (λ i. cond (is_lt (e i)) (a ∷ k ∷ []) (k ∷ a ∷ [])) ∙ sym (ap (λ o. cond (is_lt o) (k ∷ a ∷ []) (a ∷ k ∷ [])) (total.antisymm (key k) (key a) ∙ ap ordering_reverse e))
      two Equal e bad = absurd (let h = bad in cc)
      two Greater e bad = (λ i. cond (is_lt (e i)) (a ∷ k ∷ []) (k ∷ a ∷ [])) ∙ sym (ap (λ o. cond (is_lt o) (k ∷ a ∷ []) (a ∷ k ∷ [])) (total.antisymm (key k) (key a) ∙ ap ordering_reverse e))
  swapped a k (z ∷ zs) other = by (is_lt (cmp (key a) (key z))) refl (is_lt (cmp (key k) (key z))) refl (swapped a k zs other)
    where
      ins : X → List X → List X
      ins x ys = insert_by cmp key x ys

      onto : X → X → List X → Bool → List X
      onto x y ys b = cond b (x ∷ y ∷ ys) (y ∷ ins x ys)

      both : is_lt (cmp (key a) (key z)) ≡ true → is_lt (cmp (key k) (key z)) ≡ true → (o : Ordering) → cmp (key a) (key k) ≡ o → is_eq o ≡ false → ins a (k ∷ z ∷ zs) ≡ ins k (a ∷ z ∷ zs)
      both ea ek Less e bad = ap (λ o. onto a k (z ∷ zs) (is_lt o)) e ∙ sym (ap (λ o. onto k a (z ∷ zs) (is_lt o)) (total.antisymm (key k) (key a) ∙ ap ordering_reverse e) ∙ ap (λ ys. a ∷ ys) (ap (onto k z zs) ek))
      both ea ek Equal e bad = absurd (let h = bad in cc)
      both ea ek Greater e bad = ap (λ o. onto a k (z ∷ zs) (is_lt o)) e ∙ ap (λ ys. k ∷ ys) (ap (onto a z zs) ea) ∙ sym (ap (λ o. onto k a (z ∷ zs) (is_lt o)) (total.antisymm (key k) (key a) ∙ ap ordering_reverse e))

      -- the first comes before z, the second does not
      apart : (x y : X) → is_lt (cmp (key x) (key z)) ≡ true → is_lt (cmp (key y) (key z)) ≡ false → is_lt (cmp (key y) (key x)) ≡ false
      apart x y ex ey = not-before (key x) (key y) (less-behind (key x) (key z) (key y) (is-less (cmp (key x) (key z)) ex) ey)

      by : (p : Bool) → is_lt (cmp (key a) (key z)) ≡ p → (q : Bool) → is_lt (cmp (key k) (key z)) ≡ q → ins a (ins k zs) ≡ ins k (ins a zs) → ins a (onto k z zs q) ≡ ins k (onto a z zs p)
      by true ea true ek rest = both ea ek (cmp (key a) (key k)) refl other
      by true ea false ek rest = ap (onto a z (ins k zs)) ea ∙ sym (ap (onto k a (z ∷ zs)) (apart a k ea ek) ∙ ap (λ ys. a ∷ ys) (ap (onto k z zs) ek))
      by false ea true ek rest = ap (onto a k (z ∷ zs)) (apart k a ek ea) ∙ ap (λ ys. k ∷ ys) (ap (onto a z zs) ea) ∙ sym (ap (onto k z (ins a zs)) ek)
      by false ea false ek rest = ap (onto a z (ins k zs)) ea ∙ ap (λ ys. z ∷ ys) rest ∙ sym (ap (onto k z (ins a zs)) ek)

  sorted-push : (xs : List X) (k : X) → AllByRecursion (λ x. is_eq (cmp (key x) (key k)) ≡ false) xs → sorted_by cmp key (xs ++ k ∷ []) ≡ insert_by cmp key k (sorted_by cmp key xs)
  sorted-push [] k all = refl
  sorted-push (x ∷ xs) k all = ap (insert_by cmp key x) (sorted-push xs k all.1) ∙ swapped x k (sorted_by cmp key xs) all.0

-- ---- objects

of-object : {Y : Type 0} (see : Object → Y) (o : LiveObject) (t : Option LiveObject) → OfSome (λ (p : LiveObject). p.object ≡ o.object) t → OfSome (λ (p : LiveObject). see p.object ≡ see o.object) t
of-object see o None e = tt
of-object see o (Some p) e = ap see e

filter-left : (test : LiveObject → Bool) (f : LiveObject → Option LiveObject) → ((x : LiveObject) → OfSome (λ y. test y ≡ test x) (f x)) → (xs : List LiveObject) → filter test (filter_map f xs) ≡ filter_map f (filter test xs)
filter-left test f keeps [] = refl
filter-left test f keeps (x ∷ xs) = go (f x) refl (keeps x) (test x) refl (filter-left test f keeps xs)
  where
    go : (o : Option LiveObject) → f x ≡ o → OfSome (λ y. test y ≡ test x) o → (b : Bool) → test x ≡ b → filter test (filter_map f xs) ≡ filter_map f (filter test xs)
        → filter test (cons_option o (filter_map f xs)) ≡ filter_map f (cond b (x ∷ filter test xs) (filter test xs))
    go None is same true t rest = rest ∙ sym (ap (λ o. cons_option o (filter_map f (filter test xs))) is)
    go None is same false t rest = rest
    go (Some y) is same true t rest = ap (λ b. cond b (y ∷ filter test (filter_map f xs)) (filter test (filter_map f xs))) (same ∙ t) ∙ ap (λ ys. y ∷ ys) rest ∙ sym (ap (λ o. cons_option o (filter_map f (filter test xs))) is)
    go (Some y) is same false t rest = ap (λ b. cond b (y ∷ filter test (filter_map f xs)) (filter test (filter_map f xs))) (same ∙ t) ∙ rest

-- The members after a record: one changes in its place, or is taken out.
pub members-happens : (c : Content) (e : Entry) (directory : ℕ) → members (apply_seen (AppendsRecord e) c) directory ≡ filter_map (touched e) (members c directory)
members-happens c e directory =
    ap (sorted_by name_cmp (λ (o : LiveObject). o.object.name)) (filter-left (λ o. o.object.directory == directory) (touched e) (λ o. of-object (λ o. o.directory == directory) o (touched e o) (touched-object e o)) c.objects)
    ∙ sorted-left name_cmp (λ (o : LiveObject). o.object.name) nat_list_cmp_total (touched e) (λ o. of-object (λ o. o.name) o (touched e o) (touched-object e o)) (filter (λ o. o.object.directory == directory) c.objects)

-- no member of that name
abbrev IsOther : Name → ℕ → LiveObject → Type 0
IsOther name directory x = ((x.object.directory == directory) && same x.object.name name) ≡ false

others : (o : Object) (xs : List LiveObject) → AllByRecursion (IsOther o.name o.directory) xs → AllByRecursion (λ (x : LiveObject). is_eq (name_cmp x.object.name o.name) ≡ false) (filter (λ x. x.object.directory == o.directory) xs)
others o [] all = tt
others o (x ∷ xs) all = by (x.object.directory == o.directory) refl (others o xs all.1)
  where
    by : (b : Bool) → (x.object.directory == o.directory) ≡ b → AllByRecursion (λ (x : LiveObject). is_eq (name_cmp x.object.name o.name) ≡ false) (filter (λ x. x.object.directory == o.directory) xs)
        → AllByRecursion (λ (x : LiveObject). is_eq (name_cmp x.object.name o.name) ≡ false) (cond b (x ∷ filter (λ x. x.object.directory == o.directory) xs) (filter (λ x. x.object.directory == o.directory) xs))
    by true e rest = (sym (texts_ties x.object.name o.name) ∙ ap (λ b. b && same x.object.name o.name) (sym e) ∙ all.0, rest)
    by false e rest = rest

abbrev made_known : Object → LiveObject
made_known o = record { object = o; attributes = [] }

-- a new member stands in its place by its name
pub members-own : (c : Content) (o : Object) → object_in c o.name o.directory ≡ None → members (apply_seen (Creates o) c) o.directory ≡ insert_by name_cmp (λ k. k.object.name) (made_known o) (members c o.directory)
members-own c o none =
    ap (sorted_by name_cmp (λ (k : LiveObject). k.object.name)) (filter-append (λ (k : LiveObject). k.object.directory == o.directory) c.objects (made_known o ∷ []) ∙ ap (λ b. filter (λ (k : LiveObject). k.object.directory == o.directory) c.objects ++ cond b (made_known o ∷ []) []) (eq-eqb o.directory o.directory refl))
    ∙ sorted-push name_cmp (λ (k : LiveObject). k.object.name) nat_list_cmp_total (filter (λ (k : LiveObject). k.object.directory == o.directory) c.objects) (made_known o) (others o c.objects (none-all (λ x. (x.object.directory == o.directory) && same x.object.name o.name) c.objects none))

-- in another directory nothing changes
pub members-other : (c : Content) (o : Object) (directory : ℕ) → (o.directory == directory) ≡ false → members (apply_seen (Creates o) c) directory ≡ members c directory
members-other c o directory other =
    ap (sorted_by name_cmp (λ (k : LiveObject). k.object.name)) (filter-append (λ (k : LiveObject). k.object.directory == directory) c.objects (made_known o ∷ []) ∙ ap (λ b. filter (λ (k : LiveObject). k.object.directory == directory) c.objects ++ cond b (made_known o ∷ []) []) other ∙ append-nil (filter (λ (k : LiveObject). k.object.directory == directory) c.objects))
