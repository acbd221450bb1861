-- Lines that have a printing leave attributes that have one, each of another name.
use Rattle.std.proofs.Common.{◌≡◌, ◌≤◌, Bool, true, false, cond, not, ◌||◌, List, [], ◌∷◌, ◌++◌, length, map, refl, sym, ap, ◌∙◌, arith}
use Rattle.std.specs.Prelude.{filter, fold}
use Rattle.std.specs.List.{list_any, AllByRecursion}
use Rattle.std.proofs.lemmas.List.Filters.{length-filter_both}
use Rattle.std.specs.Cmp.Lexicographic.{same_text}
use Rattle.pps_types.specs.declared.line.Line.{Line}
use Rattle.pps_types.specs.declared.line.Line.TheVariants.{Set, Del}
use Rattle.pps_types.specs.declared.line.WriteLine.{WriteLine}
use Rattle.pps_types.specs.declared.line.WriteLine.TheVariants.{Set as WriteSet, Del as WriteDel}
use Rattle.pps_types.specs.Bytes.{same}
use Rattle.pps_types.specs.History.{Attribute, put, apply_line, resolved, resolve}
use Rattle.pps_types.specs.Image.{SavedLine, saved_line}
use Rattle.image_laws.specs.Images.{is_saved_line, is_new}
use Rattle.image_laws.specs.Savable.{AreAttributes, AreSavable}
use Rattle.image_laws.proofs.Texts.{IsWritten}
use Rattle.pps_types.proofs.SameBytes.{same-sym}

-- ---- names

-- whatever is new to the first is new to the second
abbrev IsNarrower : List Attribute → List Attribute → Type 0
IsNarrower xs ys = (l : SavedLine) → is_new (map saved_line xs) l ≡ true → is_new (map saved_line ys) l ≡ true

any-push : (l : SavedLine) (xs : List Attribute) (a : Attribute) → list_any (λ x. same x.name l.name) (map saved_line (xs ++ a ∷ [])) ≡ (list_any (λ x. same x.name l.name) (map saved_line xs) || same a.name l.name)
any-push l [] a = elim (same a.name l.name) as (λ t. (t || false) ≡ t) [ true ↦ refl | false ↦ refl ]
any-push l (x ∷ xs) a = elim (same x.name l.name) as (λ t. (t || list_any (λ x. same x.name l.name) (map saved_line (xs ++ a ∷ []))) ≡ ((t || list_any (λ x. same x.name l.name) (map saved_line xs)) || same a.name l.name))
    [ true ↦ refl | false ↦ any-push l xs a ]

new-push : (xs : List Attribute) (a : Attribute) (l : SavedLine) → is_new (map saved_line xs) l ≡ true → same a.name l.name ≡ false → is_new (map saved_line (xs ++ a ∷ [])) l ≡ true
new-push xs a l new other = by (list_any (λ x. same x.name l.name) (map saved_line xs)) (any-push l xs a) new
  where
    by : (t : Bool) → list_any (λ x. same x.name l.name) (map saved_line (xs ++ a ∷ [])) ≡ (t || same a.name l.name) → not t ≡ true → is_new (map saved_line (xs ++ a ∷ [])) l ≡ true
    by true e new = absurd (let h = new in cc)
    by false e new = ap not (e ∙ other)

new-front : (xs : List Attribute) (a : Attribute) (l : SavedLine) → is_new (map saved_line (xs ++ a ∷ [])) l ≡ true → (is_new (map saved_line xs) l ≡ true) × (same a.name l.name ≡ false)
new-front xs a l new = by (list_any (λ x. same x.name l.name) (map saved_line xs)) (same a.name l.name) (sym (ap not (any-push l xs a)) ∙ new)
  where
    by : (t s : Bool) → not (t || s) ≡ true → (not t ≡ true) × (s ≡ false)
    by true s h = absurd (let no = h in cc)
    by false true h = absurd (let no = h in cc)
    by false false h = (refl, refl)

narrower-push : (xs ys : List Attribute) (a : Attribute) → IsNarrower xs ys → IsNarrower (xs ++ a ∷ []) (ys ++ a ∷ [])
narrower-push xs ys a narrow l new = let front = new-front xs a l new in new-push ys a l (narrow l front.0) front.1

narrower-left : (xs ys : List Attribute) (a : Attribute) → IsNarrower xs ys → IsNarrower (xs ++ a ∷ []) ys
narrower-left xs ys a narrow l new = narrow l (new-front xs a l new).0

-- one of the same name
narrower-same : (xs : List Attribute) (a b : Attribute) → a.name ≡ b.name → IsNarrower (xs ++ b ∷ []) (xs ++ a ∷ [])
narrower-same xs a b is l new = let front = new-front xs b l new in new-push xs a l front.0 (ap (λ n. same n l.name) is ∙ front.1)

-- ---- fewer attributes

pub fewer-attributes : (test : Attribute → Bool) (before others attributes : List Attribute) → IsNarrower before others → AreAttributes before attributes → AreAttributes others (filter test attributes)
fewer-attributes test before others [] narrow h = tt
fewer-attributes test before others (a ∷ attributes) narrow h =
    elim (test a) as (λ t. AreAttributes others (cond t (a ∷ filter test attributes) (filter test attributes))) [
      | true ↦ (h.0, narrow (saved_line a) h.1, fewer-attributes test (before ++ a ∷ []) (others ++ a ∷ []) attributes (narrower-push before others a narrow) h.2)
      | false ↦ fewer-attributes test (before ++ a ∷ []) others attributes (narrower-left before others a narrow) h.2
    ]

same-attributes : (before others attributes : List Attribute) → IsNarrower before others → AreAttributes before attributes → AreAttributes others attributes
same-attributes before others [] narrow h = tt
same-attributes before others (a ∷ attributes) narrow h = (h.0, narrow (saved_line a) h.1, same-attributes (before ++ a ∷ []) (others ++ a ∷ []) attributes (narrower-push before others a narrow) h.2)

fewer-length : (test : Attribute → Bool) (attributes : List Attribute) → length (filter test attributes) ≤ length attributes
fewer-length test attributes = omega (arith, length-filter_both test (λ a. not (test a)) (λ a. refl) attributes)

pub savable-fewer : (test : Attribute → Bool) (attributes : List Attribute) → AreSavable attributes → AreSavable (filter test attributes)
savable-fewer test attributes h = (fewer-attributes test [] [] attributes (λ l new. new) h.0, (let le = fewer-length test attributes in omega (arith, h.1)))

-- ---- lines

-- in its place or last
put-attributes : (before attributes : List Attribute) (a : Attribute) → AreAttributes before attributes → is_saved_line (saved_line a) ≡ true → is_new (map saved_line before) (saved_line a) ≡ true → AreAttributes before (put attributes a)
put-attributes before [] a h saved new = (saved, new, tt)
put-attributes before (b ∷ bs) a h saved new = by (same a.name b.name) refl (put-attributes (before ++ b ∷ []) bs a h.2 saved)
  where
    by : (t : Bool) → same a.name b.name ≡ t → (is_new (map saved_line (before ++ b ∷ [])) (saved_line a) ≡ true → AreAttributes (before ++ b ∷ []) (put bs a)) → AreAttributes before (cond t (a ∷ bs) (b ∷ put bs a))
    by true e rec = (saved, new, same-attributes (before ++ b ∷ []) (before ++ a ∷ []) bs (narrower-same before a b (same_text a.name b.name (sym e))) h.2)
    by false e rec = (h.0, h.1, rec (new-push before b (saved_line a) new (same-sym b.name a.name ∙ e)))

-- what a line sets has a printing
abbrev pub IsSetting : Line → Type 0
IsSetting (Set name enc value n) = is_saved_line (record { name = name; enc = enc; value = value }) ≡ true
IsSetting (Del name) = Unit {0}

line-attributes : (attributes : List Attribute) (l : Line) → AreAttributes [] attributes → IsSetting l → AreAttributes [] (apply_line attributes l)
line-attributes attributes (Set name enc value n) h saved = put-attributes [] attributes (record { name = name; enc = enc; value = value; n = n }) h saved refl
line-attributes attributes (Del name) h saved = fewer-attributes (λ a. not (same a.name name)) [] [] attributes (λ l new. new) h

pub lines-attributes : (attributes : List Attribute) (ls : List Line) → AreAttributes [] attributes → AllByRecursion IsSetting ls → AreAttributes [] (fold apply_line attributes ls)
lines-attributes attributes [] h saved = h
lines-attributes attributes (l ∷ ls) h saved = lines-attributes (apply_line attributes l) ls (line-attributes attributes l h saved.0) saved.1

-- the lines of a write, once resolved
pub resolve-setting : (attributes : List Attribute) (ws : List WriteLine) → AllByRecursion IsWritten ws → AllByRecursion IsSetting (resolve attributes ws)
resolve-setting attributes [] all = tt
resolve-setting attributes (w ∷ ws) all = (one w all.0, resolve-setting (apply_line attributes (resolved attributes w)) ws all.1)
  where
    one : (w : WriteLine) → IsWritten w → IsSetting (resolved attributes w)
    one (WriteSet name enc value mark) is = is
    one (WriteDel name) is = tt
