-- Entries in the order of their paths may follow one another, where each has its parent among them and there are few enough.
use Rattle.std.proofs.Common.{◌≡◌, ℕ, ◌-◌, ◌≤◌, ◌<◌, Bool, true, false, cond, not, ◌&&◌, ◌||◌, List, [], ◌∷◌, ◌++◌, length, map, refl, sym, ap, subst, ◌∙◌, append_assoc, arith}
use Rattle.std.specs.Prelude.{filter, nat_lt}
use Rattle.std.specs.List.{list_all, list_any, AllByRecursion}
use Rattle.std.specs.Ordering.{is_lt, ordering_reverse}
use Rattle.std.specs.declared.cmp.Ordering.{Ordering}
use Rattle.std.specs.declared.cmp.Ordering.TheVariants.{Less, Equal, Greater}
use Rattle.std.specs.FinMap.{IsAntisymmetric, nat_cmp-IsAntisymmetric, slice_cmp-IsAntisymmetric}
use Rattle.std.proofs.lemmas.Bool.{and_parts, and_from, not-true}
use Rattle.std.proofs.lemmas.Bool.Decides.{nat_tests}
use Rattle.std.proofs.lemmas.Cmp.{nat_list_cmp_total}
use Rattle.std.proofs.lemmas.List.Folds.{list_all-append}
use Rattle.pps_types.specs.Bytes.{is_empty}
use Rattle.pps_types.specs.Names.{Name, Path, same_path, parent, name_cmp, path_cmp, insert_by, sorted_by}
use Rattle.pps_types.specs.Image.{Saved, SavedDirectory, SavedObject, path_of, is_directory_entry, same_sort, has_parent, are_beside, may_follow, SavedLine}
use Rattle.service_laws.proofs.Trees.{same_path-is, path-itself}
use Rattle.image_laws.specs.Images.{AreLines, IsSavedPath}
use Rattle.image_laws.proofs.Good.{IsEntry, AreEntries}
use Rattle.image_laws.proofs.Places.{AreApart}
use Rattle.image_laws.proofs.Sorting.{paths_total, all-sorted, any-sorted, count-sorted}

-- ---- the order of paths

names_exact : IsAntisymmetric name_cmp
names_exact = slice_cmp-IsAntisymmetric nat_cmp-IsAntisymmetric

paths_exact : IsAntisymmetric path_cmp
paths_exact = slice_cmp-IsAntisymmetric names_exact

own-name : (n : Name) → name_cmp n n ≡ Equal
own-name n = by (name_cmp n n) (nat_list_cmp_total.antisymm n n)
  where
    by : (o : Ordering) → o ≡ ordering_reverse o → o ≡ Equal
    by Less h = absurd cc
    by Equal h = refl
    by Greater h = absurd cc

own-path : (p : Path) → path_cmp p p ≡ Equal
own-path [] = refl
own-path (n ∷ p) = rw (own-name n) (own-path p)

-- a parent comes before what is in it
parent-less : (n : Name) (ns : Path) → path_cmp (parent (n ∷ ns)) (n ∷ ns) ≡ Less
parent-less n [] = refl
parent-less n (m ∷ ns) = rw (own-name n) (parent-less m ns)

less-lt : (o : Ordering) → is_lt o ≡ true → o ≡ Less
less-lt Less h = refl
less-lt Equal h = absurd cc
less-lt Greater h = absurd cc

-- another path that is not less is greater
otherwise : (p q : Path) → is_lt (path_cmp p q) ≡ false → same_path p q ≡ false → is_lt (path_cmp q p) ≡ true
otherwise p q lt other = ap is_lt (paths_total.antisymm q p) ∙ by (path_cmp p q) refl lt
  where
    by : (o : Ordering) → path_cmp p q ≡ o → is_lt o ≡ false → is_lt (ordering_reverse o) ≡ true
    by Less e h = absurd cc
    by Equal e h = absurd (let is : p ≡ q = paths_exact p q e in let s = sym (path-itself p) ∙ ap (same_path p) is ∙ other in cc)
    by Greater e h = refl

lt-trans : (p q r : Path) → is_lt (path_cmp p q) ≡ true → is_lt (path_cmp q r) ≡ true → is_lt (path_cmp p r) ≡ true
lt-trans p q r a b = ap is_lt (paths_total.trans p q r (less-lt (path_cmp p q) a) (less-lt (path_cmp q r) b))

pub lt-other : (p q : Path) → is_lt (path_cmp p q) ≡ true → same_path q p ≡ false
lt-other p q lt = by (same_path q p) refl
  where
    by : (t : Bool) → same_path q p ≡ t → same_path q p ≡ false
    by false e = e
    by true e = absurd (let h = sym lt ∙ ap (λ r. is_lt (path_cmp p r)) (same_path-is q p e) ∙ ap is_lt (own-path p) in cc)

-- ---- rising entries

abbrev above : Path → List Saved → Bool
above p es = list_all (λ x. is_lt (path_cmp p (path_of x))) es

abbrev pub PathsRise : List Saved → Type 0
PathsRise [] = Unit {0}
PathsRise (e ∷ es) = (above (path_of e) es ≡ true) × PathsRise es

above-weaken : (p q : Path) (es : List Saved) → is_lt (path_cmp p q) ≡ true → above q es ≡ true → above p es ≡ true
above-weaken p q [] lt h = refl
above-weaken p q (e ∷ es) lt h =
    let parts = and_parts (is_lt (path_cmp q (path_of e))) (above q es) h in
    and_from _ _ (lt-trans p q (path_of e) lt parts.0) (above-weaken p q es lt parts.1)

abbrev insert : Saved → List Saved → List Saved
insert e es = insert_by path_cmp path_of e es

above-insert : (p : Path) (e : Saved) (es : List Saved) → is_lt (path_cmp p (path_of e)) ≡ true → above p es ≡ true → above p (insert e es) ≡ true
above-insert p e [] lt h = and_from _ _ lt refl
above-insert p e (x ∷ es) lt h =
    let parts = and_parts (is_lt (path_cmp p (path_of x))) (above p es) h in
    elim (is_lt (path_cmp (path_of e) (path_of x))) as (λ b. above p (cond b (e ∷ x ∷ es) (x ∷ insert e es)) ≡ true)
    [ true ↦ and_from _ _ lt h | false ↦ and_from _ _ parts.0 (above-insert p e es lt parts.1) ]

abbrev differs : Path → List Saved → Bool
differs p es = list_all (λ x. not (same_path p (path_of x))) es

insert-rising : (e : Saved) (es : List Saved) → differs (path_of e) es ≡ true → PathsRise es → PathsRise (insert e es)
insert-rising e [] apart r = (refl, tt)
insert-rising e (x ∷ es) apart r =
    let parts = and_parts (not (same_path (path_of e) (path_of x))) (differs (path_of e) es) apart in
    by (is_lt (path_cmp (path_of e) (path_of x))) refl (not-true _ parts.0) (insert-rising e es parts.1 r.1)
  where
    by : (b : Bool) → is_lt (path_cmp (path_of e) (path_of x)) ≡ b → same_path (path_of e) (path_of x) ≡ false → PathsRise (insert e es) → PathsRise (cond b (e ∷ x ∷ es) (x ∷ insert e es))
    by true lt other rest = (and_from _ _ lt (above-weaken (path_of e) (path_of x) es lt r.0), r)
    by false lt other rest = (above-insert (path_of x) e es (otherwise (path_of e) (path_of x) lt other) r.0, rest)

abbrev sorted : List Saved → List Saved
sorted es = sorted_by path_cmp path_of es

apart-of : (p : Path) (es : List Saved) → list_all (λ q. not (same_path p q)) (map path_of es) ≡ true → differs p es ≡ true
apart-of p [] h = refl
apart-of p (e ∷ es) h = let parts = and_parts (not (same_path p (path_of e))) (list_all (λ q. not (same_path p q)) (map path_of es)) h in and_from _ _ parts.0 (apart-of p es parts.1)

sorted-rising : (es : List Saved) → AreApart (map path_of es) → PathsRise (sorted es)
sorted-rising [] h = tt
sorted-rising (e ∷ es) h =
    insert-rising e (sorted es) (all-sorted path_cmp path_of (λ x. not (same_path (path_of e) (path_of x))) es ∙ apart-of (path_of e) es h.0) (sorted-rising es h.1)

-- what holds of all
all-insert : (P : Saved → Type 0) (e : Saved) (es : List Saved) → P e → AllByRecursion P es → AllByRecursion P (insert e es)
all-insert P e [] p all = (p, tt)
all-insert P e (x ∷ es) p all =
    elim (is_lt (path_cmp (path_of e) (path_of x))) as (λ b. AllByRecursion P (cond b (e ∷ x ∷ es) (x ∷ insert e es)))
    [ true ↦ (p, all) | false ↦ (all.0, all-insert P e es p all.1) ]

all-of-sorted : (P : Saved → Type 0) (es : List Saved) → AllByRecursion P es → AllByRecursion P (sorted es)
all-of-sorted P [] all = all
all-of-sorted P (e ∷ es) all = all-insert P e (sorted es) all.0 (all-of-sorted P es all.1)

-- ---- entries that are well among all

abbrev pub lines_of : Saved → List SavedLine
lines_of (SavedDirectory path) = []
lines_of (SavedObject path lines) = lines

pub record IsWell (xs : List Saved) (e : Saved) : Type 0 where
  pub path_is : IsSavedPath (path_of e)
  pub some : is_empty (path_of e) ≡ false
  pub parent_is : has_parent xs e ≡ true
  pub beside : length (filter (are_beside e) xs) ≤ 256
  pub all : length (filter (same_sort e) xs) ≤ 65535
  pub few : length (lines_of e) ≤ 1024
  pub lines_are : AreLines 65536 [] (lines_of e)

-- the front of rising entries is below what follows
below-front : (front es : List Saved) (e : Saved) → PathsRise (front ++ e ∷ es) → list_all (λ x. is_lt (path_cmp (path_of x) (path_of e))) front ≡ true
below-front [] es e r = refl
below-front (x ∷ front) es e r =
    let parts = list_all-append (λ y. is_lt (path_cmp (path_of x) (path_of y))) front (e ∷ es) in
    let both = and_parts (above (path_of x) front) (above (path_of x) (e ∷ es)) (sym parts ∙ r.0) in
    and_from _ _ (and_parts (is_lt (path_cmp (path_of x) (path_of e))) (above (path_of x) es) both.1).0 (below-front front es e r.1)

behind-of : (front es : List Saved) (e : Saved) → PathsRise (front ++ e ∷ es) → above (path_of e) es ≡ true
behind-of [] es e r = r.0
behind-of (x ∷ front) es e r = behind-of front es e r.1

-- none of the later ones is the parent
no-later : (p : Path) (es : List Saved) → above p es ≡ true → list_any (λ x. is_directory_entry x && same_path (path_of x) p) es ≡ false
no-later p [] h = refl
no-later p (e ∷ es) h =
    let parts = and_parts (is_lt (path_cmp p (path_of e))) (above p es) h in
    rw (lt-other p (path_of e) parts.0) (by (is_directory_entry e) (no-later p es parts.1))
  where
    by : (t : Bool) → list_any (λ x. is_directory_entry x && same_path (path_of x) p) es ≡ false → ((t && false) || list_any (λ x. is_directory_entry x && same_path (path_of x) p) es) ≡ false
    by true h = h
    by false h = h

any-front : (p : Saved → Bool) (xs ys : List Saved) → list_any p (xs ++ ys) ≡ true → list_any p ys ≡ false → list_any p xs ≡ true
any-front p [] ys e f = absurd (let h = sym e ∙ f in cc)
any-front p (x ∷ xs) ys e f = by (p x) e (λ h. any-front p xs ys h f)
  where
    by : (t : Bool) → (t || list_any p (xs ++ ys)) ≡ true → (list_any p (xs ++ ys) ≡ true → list_any p xs ≡ true) → (t || list_any p xs) ≡ true
    by true e rec = refl
    by false e rec = rec e

count-front : (p : Saved → Bool) (xs ys : List Saved) (e : Saved) (n : ℕ) → p e ≡ true → length (filter p (xs ++ e ∷ ys)) ≤ n → length (filter p xs) < n
count-front p [] ys e n own le = by (p e) own le
  where
    by : (t : Bool) → t ≡ true → length (cond t (e ∷ filter p ys) (filter p ys)) ≤ n → 0 < n
    by true own le = omega arith
    by false own le = absurd cc
count-front p (x ∷ xs) ys e n own le = by (p x) n le (λ m. count-front p xs ys e m own)
  where
    by : (t : Bool) (n : ℕ) → length (cond t (x ∷ filter p (xs ++ e ∷ ys)) (filter p (xs ++ e ∷ ys))) ≤ n → ((m : ℕ) → length (filter p (xs ++ e ∷ ys)) ≤ m → length (filter p xs) < m) → length (cond t (x ∷ filter p xs) (filter p xs)) < n
    by true n le rec = let h = rec (n - 1) (omega arith) in omega arith
    by false n le rec = rec n le

some-parent : (xs : List Saved) (e : Saved) → is_empty (parent (path_of e)) ≡ false → has_parent xs e ≡ true → list_any (λ x. is_directory_entry x && same_path (path_of x) (parent (path_of e))) xs ≡ true
some-parent xs e some h = rw some at h

has-front : (xs front es : List Saved) (e : Saved) (n : Name) (ns : Path) → path_of e ≡ n ∷ ns → sorted xs ≡ front ++ e ∷ es → PathsRise (front ++ e ∷ es) → has_parent xs e ≡ true → has_parent front e ≡ true
has-front xs front es e n ns path is r h = by (is_empty (parent (path_of e))) refl
  where
    test : Saved → Bool
    test x = is_directory_entry x && same_path (path_of x) (parent (path_of e))

    less : is_lt (path_cmp (parent (path_of e)) (path_of e)) ≡ true
    less = rw path (ap is_lt (parent-less n ns))

    by : (t : Bool) → is_empty (parent (path_of e)) ≡ t → (is_empty (parent (path_of e)) || list_any (λ x. is_directory_entry x && same_path (path_of x) (parent (path_of e))) front) ≡ true
    by true at-root = rw at-root refl
    by false at-root =
        let there = any-sorted path_cmp path_of (λ x. is_directory_entry x && same_path (path_of x) (parent (path_of e))) xs ∙ some-parent xs e at-root h in
        rw at-root (any-front (λ x. is_directory_entry x && same_path (path_of x) (parent (path_of e))) front (e ∷ es) (ap (list_any (λ x. is_directory_entry x && same_path (path_of x) (parent (path_of e)))) (sym is) ∙ there)
        (no-later (parent (path_of e)) (e ∷ es) (and_from _ _ less (above-weaken (parent (path_of e)) (path_of e) es less (behind-of front es e r)))))

record Follows (front : List Saved) (e : Saved) : Type 0 where
  pub it : may_follow front e ≡ true

follows-front : (xs front es : List Saved) (e : Saved) (n : Name) (ns : Path) → path_of e ≡ n ∷ ns → sorted xs ≡ front ++ e ∷ es → PathsRise (front ++ e ∷ es) → are_beside e e ≡ true → same_sort e e ≡ true
    → has_parent xs e ≡ true → length (filter (are_beside e) xs) ≤ 256 → length (filter (same_sort e) xs) ≤ 65535 → may_follow front e ≡ true
follows-front xs front es e n ns path is r own-beside own-sort has beside all =
    let few = count-front (are_beside e) front es e 256 own-beside (subst (λ l. l ≤ 256) (sym (count-sorted path_cmp path_of (are_beside e) xs) ∙ ap (λ ys. length (filter (are_beside e) ys)) is) beside) in
    let fewer = count-front (same_sort e) front es e 65535 own-sort (subst (λ l. l ≤ 65535) (sym (count-sorted path_cmp path_of (same_sort e) xs) ∙ ap (λ ys. length (filter (same_sort e) ys)) is) all) in
    let some : is_empty (path_of e) ≡ false = ap is_empty path in
    and_from _ _ (and_from _ _ (and_from _ _ (and_from _ _ (ap not some) (below-front front es e r)) (has-front xs front es e n ns path is r has)) (less _ 256 few)) (less _ 65535 fewer)
  where
    less : (a b : ℕ) → a < b → nat_lt a b ≡ true
    less a b h = grind (arith, nat_tests)

entry-well : (xs front es : List Saved) (e : Saved) → sorted xs ≡ front ++ e ∷ es → PathsRise (front ++ e ∷ es) → IsWell xs e → IsEntry 65536 front e
entry-well xs front es (SavedDirectory []) is r w = absurd (let h = w.some in cc)
entry-well xs front es (SavedDirectory (n ∷ ns)) is r w =
    (w.path_is, follows-front xs front es (SavedDirectory (n ∷ ns)) n ns refl is r (path-itself (parent (n ∷ ns))) refl w.parent_is w.beside w.all)
entry-well xs front es (SavedObject [] lines) is r w = absurd (let h = w.some in cc)
entry-well xs front es (SavedObject (n ∷ ns) lines) is r w =
    (w.path_is, follows-front xs front es (SavedObject (n ∷ ns) lines) n ns refl is r (path-itself (parent (n ∷ ns))) refl w.parent_is w.beside w.all, w.few, w.lines_are)

entries-well : (xs front es : List Saved) → sorted xs ≡ front ++ es → PathsRise (front ++ es) → AllByRecursion (IsWell xs) es → AreEntries 65536 front es
entries-well xs front [] is r all = tt
entries-well xs front (e ∷ es) is r all =
    let on = append_assoc front (e ∷ []) es in
    (entry-well xs front es e is r all.0, entries-well xs (front ++ e ∷ []) es (is ∙ sym on) (subst PathsRise (sym on) r) all.1)

-- entries that are apart, and each well among all, may follow one another once they are in order
pub sorted-entries : (xs : List Saved) → AreApart (map path_of xs) → AllByRecursion (IsWell xs) xs → AreEntries 65536 [] (sorted_by path_cmp path_of xs)
sorted-entries xs apart all = entries-well xs [] (sorted xs) refl (sorted-rising xs apart) (all-of-sorted (IsWell xs) xs all)
