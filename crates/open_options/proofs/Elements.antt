-- The elements of a path, read one after another.
use Rattle.std.proofs.Common.{◌≡◌, ℕ, zero, suc, ◌+◌, ◌<◌, Bool, true, false, cond, List, [], ◌∷◌, ◌++◌, length, take, drop, get_or, Option, Some, None, Bor, inl, inr, refl, sym, ap, ◌∙◌, add-one, arith}
use Rattle.std.specs.Prelude.{not, ◌&&◌, ◌||◌, nat_le, ◌==◌, if◌then◌else◌, option_map, option_and_then, is_some, codes}
use Rattle.std.specs.Option.{option_copied}
use Rattle.std.specs.List.{list_all}
use Rattle.std.proofs.lemmas.Bool.{and_parts}
use Rattle.std.proofs.lemmas.Bool.Decides.{nat_tests}
use Rattle.std.proofs.lemmas.List.{append_assoc, append-nil, length-append}
use Rattle.std.proofs.lemmas.List.Folds.{list_all-append}
use Rattle.std.proofs.lemmas.Slice.Eq.{bytes_eq-Decides}
use Rattle.pps_types.specs.Bytes.{same, is_empty, is_between, starts_with, pieces, onto_first}
use Rattle.pps_types.specs.Names.{Name, Path}
use Rattle.pps_types.specs.OpenText.{OpenPath, open_path, open_path_of, path_text, elements_of, before_all, is_path_name, are_names, names_if}
use Rattle.pps_types.specs.declared.refusal.Refusal.{Refusal}
use Rattle.open_options.specs.Elements.{path_of, elements_left, is_path_byte, is_name_byte}
use Rattle.open_options.specs.Refused.{IsPathRefusal}

abbrev pub open_path_with : Path → Bool → OpenPath
open_path_with names all = record { names = names; all = all }

-- what names that are read already and further elements say
abbrev pub walked : Path → List Name → Option OpenPath
walked names [] = Some (open_path_with names false)
walked names (e ∷ es) =
    if is_empty es && same e (codes ".all") then Some (open_path_with names true) else
    if length names == 32 || not (is_path_name e) then None else walked (names ++ e ∷ []) es

-- ---- `.all` is no name

all_is_no_name : (e : Name) → same e (codes ".all") ≡ true → is_path_name e ≡ false
all_is_no_name e h = let is = (bytes_eq-Decides e (codes ".all")).0 h in rw is

-- names alone do not end in `.all`
before_all-names : (names : Path) → list_all is_path_name names ≡ true → before_all names ≡ None
before_all-names [] h = refl
before_all-names (e ∷ []) h = by (same e (codes ".all")) refl
  where
    by : (b : Bool) → same e (codes ".all") ≡ b → before_all (e ∷ []) ≡ None
    by true is = let none : list_all is_path_name (e ∷ []) ≡ false = rw (all_is_no_name e is) in absurd (cc)
    by false is = rw is
before_all-names (e ∷ f ∷ fs) h =
    let rest : list_all is_path_name (f ∷ fs) ≡ true = (and_parts (is_path_name e) (list_all is_path_name (f ∷ fs)) h).1 in
    rw (before_all-names (f ∷ fs) rest)

-- an element that does not end the path
before_all-cons : (e : Name) (es : List Name) → (is_empty es && same e (codes ".all")) ≡ false → before_all (e ∷ es) ≡ option_map (λ front. e ∷ front) (before_all es)
before_all-cons e [] other = rw other
before_all-cons e (f ∷ fs) other = refl

in_front : (names : Path) (o : Option Path) (e : Name) → option_map (λ front. e ∷ front) (option_map (λ front. names ++ front) o) ≡ option_map (λ front. (e ∷ names) ++ front) o
in_front names None e = refl
in_front names (Some x) e = refl

-- what stands before the last element goes through
before_all-append : (names : Path) (e : Name) (es : List Name) → before_all (names ++ e ∷ es) ≡ option_map (λ front. names ++ front) (before_all (e ∷ es))
before_all-append [] e es = by (before_all (e ∷ es))
  where
    by : (o : Option Path) → o ≡ option_map (λ front. [] ++ front) o
    by None = refl
    by (Some x) = refl
before_all-append (n ∷ []) e es = refl
before_all-append (n ∷ m ∷ names) e es = ap (option_map (λ front. n ∷ front)) (before_all-append (m ∷ names) e es) ∙ in_front (m ∷ names) (before_all (e ∷ es)) n

-- ---- names that are too many, or none

or_left : (a b : Bool) → (a || not b) ≡ true → b ≡ true → a ≡ true
or_left true b h e = refl
or_left false true h e = h
or_left false false h e = e

or_none : (a b : Bool) → (a || not b) ≡ false → (a ≡ false) × (b ≡ true)
or_none true b h = absurd (cc)
or_none false true h = (refl, refl)
or_none false false h = absurd (cc)

refuses : (names : Path) (e : Name) (es : List Name) → (length names == 32 || not (is_path_name e)) ≡ true → are_names (names ++ e ∷ es) ≡ false
refuses names e es h = rw list_all-append (by (is_path_name e) refl)
  where
    ends : (a b c d : Bool) → c ≡ false → (a && (b && (c && d))) ≡ false
    ends true true c d h = rw h
    ends true false c d h = refl
    ends false b c d h = refl

    by : (b : Bool) → is_path_name e ≡ b → (nat_le (length (names ++ e ∷ es)) 32 && (list_all is_path_name names && (is_path_name e && list_all is_path_name es))) ≡ false
    by true is =
        let full : (length names == 32) ≡ true = or_left (length names == 32) (is_path_name e) h is in
        let many : nat_le (length (names ++ e ∷ es)) 32 ≡ false = rw length-append (grind (arith, nat_tests)) in
        rw many
    by false is = ends (nat_le (length (names ++ e ∷ es)) 32) (list_all is_path_name names) (is_path_name e) (list_all is_path_name es) is

accepts : (names : Path) (e : Name) → are_names names ≡ true → (length names == 32 || not (is_path_name e)) ≡ false → are_names (names ++ e ∷ []) ≡ true
accepts names e h good =
    let room = or_none (length names == 32) (is_path_name e) good in
    let few : nat_le (length names) 32 ≡ true = (and_parts (nat_le (length names) 32) (list_all is_path_name names) h).0 in
    let all : list_all is_path_name names ≡ true = (and_parts (nat_le (length names) 32) (list_all is_path_name names) h).1 in
    let none : (length names == 32) ≡ false = room.0 in
    let name : is_path_name e ≡ true = room.1 in
    let fits : nat_le (length (names ++ e ∷ [])) 32 ≡ true = rw length-append (grind (arith, nat_tests)) in
    rw (fits, list_all-append, all, name)

-- ---- the elements as a whole

refused : (names : Path) (e : Name) (o : Option Path) (es : List Name) → (length names == 32 || not (is_path_name e)) ≡ true → open_path_of (names ++ e ∷ es) (option_map (λ front. names ++ front) (option_map (λ front. e ∷ front) o)) ≡ None
refused names e None es h = rw (refuses names e es h)
refused names e (Some front) es h = rw (refuses names e front h)

last-all : (names : Path) (e : Name) (es : List Name) → are_names names ≡ true → (is_empty es && same e (codes ".all")) ≡ true → path_of (names ++ e ∷ es) ≡ Some (open_path_with names true)
last-all names e [] h is = rw (before_all-append names e [], is, append-nil, h)
last-all names e (f ∷ fs) h is = absurd (cc)

bad-element : (names : Path) (e : Name) (es : List Name) → (is_empty es && same e (codes ".all")) ≡ false → (length names == 32 || not (is_path_name e)) ≡ true → path_of (names ++ e ∷ es) ≡ None
bad-element names e es other bad =
    ap (open_path_of (names ++ e ∷ es)) (before_all-append names e es ∙ ap (option_map (λ front. names ++ front)) (before_all-cons e es other))
    ∙ refused names e (before_all es) es bad

pub walked-is : (names : Path) (es : List Name) → are_names names ≡ true → walked names es ≡ path_of (names ++ es)
walked-is names [] h =
    let all : list_all is_path_name names ≡ true = (and_parts (nat_le (length names) 32) (list_all is_path_name names) h).1 in
    rw (append-nil, before_all-names names all, h)
walked-is names (e ∷ es) h = by (is_empty es && same e (codes ".all")) refl (walked-is (names ++ e ∷ []) es)
  where
    on : (b : Bool) → (length names == 32 || not (is_path_name e)) ≡ b → (is_empty es && same e (codes ".all")) ≡ false → (are_names (names ++ e ∷ []) ≡ true → walked (names ++ e ∷ []) es ≡ path_of ((names ++ e ∷ []) ++ es)) → walked names (e ∷ es) ≡ path_of (names ++ e ∷ es)
    on true bad other more = rw (other, bad) (sym (bad-element names e es other bad))
    on false good other more = rw (other, good) (more (accepts names e h good) ∙ ap path_of (append_assoc names (e ∷ []) es))

    by : (b : Bool) → (is_empty es && same e (codes ".all")) ≡ b → (are_names (names ++ e ∷ []) ≡ true → walked (names ++ e ∷ []) es ≡ path_of ((names ++ e ∷ []) ++ es)) → walked names (e ∷ es) ≡ path_of (names ++ e ∷ es)
    by true is more = rw is (sym (last-all names e es h is))
    by false is more = on (length names == 32 || not (is_path_name e)) refl is more

-- ---- a path alone

without_all : OpenPath → Option Path
without_all p = if p.all then None else Some p.names

-- a path is one of an open, without `.all`
path_text-is : (text : List ℕ) → path_text text ≡ option_and_then without_all (open_path text)
unfolding without_all
path_text-is text = by (nat_le (length text) 1024) (elements_of text)
  where
    alone : (o : Option Path) → o ≡ option_and_then without_all (option_map (λ ns. open_path_with ns false) o)
    alone None = refl
    alone (Some names) = refl

    behind : (o : Option Path) → None ≡ option_and_then without_all (option_map (λ ns. open_path_with ns true) o)
    behind None = refl
    behind (Some names) = refl

    none : (es : List Name) (names : Path) (b : Bool) → list_all is_path_name es ≡ b → before_all es ≡ Some names → names_if es ≡ None
    none es names true all is = let no_all = before_all-names es all in absurd (cc)
    none es names false all is = by_count (nat_le (length es) 32)
      where
        by_count : (b : Bool) → (if b && list_all is_path_name es then Some es else None) ≡ None
        by_count true = rw all
        by_count false = refl

    at : (es : List Name) (o : Option Path) → before_all es ≡ o → names_if es ≡ option_and_then without_all (path_of es)
    at es None is = rw is (alone (names_if es))
    at es (Some names) is = rw (is, none es names (list_all is_path_name es) refl is) (behind (names_if names))

    by : (b : Bool) (o : Option (List Name)) → (if b then option_and_then names_if o else None) ≡ option_and_then without_all (if b then option_and_then path_of o else None)
    by true None = refl
    by true (Some es) = at es (before_all es) refl
    by false o = refl

path_text-none : (text : List ℕ) → open_path text ≡ None → path_text text ≡ None
path_text-none text h = path_text-is text ∙ rw h

pub path_text-names : (text : List ℕ) (p : OpenPath) → open_path text ≡ Some p → p.all ≡ false → path_text text ≡ Some p.names
unfolding without_all
path_text-names text p h alone = path_text-is text ∙ rw (h, alone)

pub path_text-all : (text : List ℕ) (p : OpenPath) → open_path text ≡ Some p → p.all ≡ true → path_text text ≡ None
unfolding without_all
path_text-all text p h all = path_text-is text ∙ rw (h, all)

-- ---- steps

pieces-some : (c : ℕ) (bs : List ℕ) → is_empty (pieces c bs) ≡ false
pieces-some c [] = refl
pieces-some c (b ∷ bs) = by (b == c) (pieces c bs)
  where
    onto : (ps : List (List ℕ)) → is_empty (onto_first b ps) ≡ false
    onto [] = refl
    onto (p ∷ ps) = refl

    by : (cut : Bool) (ps : List (List ℕ)) → is_empty (cond cut ([] ∷ pieces c bs) (onto_first b ps)) ≡ false
    by true ps = refl
    by false ps = onto ps

-- where a `/` follows, so does an element
pub elements_left-some : (o : Option (Bor (List ℕ))) → is_some o ≡ true → is_empty (elements_left (option_copied o)) ≡ false
elements_left-some None h = absurd (cc)
elements_left-some (Some rest) h = pieces-some 47 rest.now

-- an element that is no name, or is one too many
pub walked-refused : (names : Path) (e : Name) (es : List Name) → (is_empty es && same e (codes ".all")) ≡ false → (length names == 32 || not (is_path_name e)) ≡ true → walked names (e ∷ es) ≡ None
walked-refused names e es other bad = rw (other, bad)

-- an element that is one more name
pub walked-accepted : (names : Path) (e : Name) (es : List Name) → (is_empty es && same e (codes ".all")) ≡ false → (length names == 32) ≡ false → is_path_name e ≡ true → walked names (e ∷ es) ≡ walked (names ++ e ∷ []) es
walked-accepted names e es other few good = rw (other, few, good)

-- the path of an open that is refused is none alone
pub path-refused : (text : List ℕ) (r : Refusal) → IsPathRefusal (open_path text) r → IsPathRefusal (path_text text) r
path-refused text r (inl wanting) = inl wanting
path-refused text r (inr bad) = inr (bad.0, path_text-none text bad.1)

-- ---- bytes that elements may have

pub all_bytes : (text : List ℕ) → list_all (list_all is_name_byte) (pieces 47 text) ≡ list_all is_path_byte text
all_bytes [] = refl
all_bytes (b ∷ bs) = by (b == 47) refl (pieces 47 bs) (all_bytes bs)
  where
    onto : (ps : List (List ℕ)) → list_all (list_all is_name_byte) (onto_first b ps) ≡ (is_name_byte b && list_all (list_all is_name_byte) ps)
    onto [] = ends (is_name_byte b)
      where
        ends : (x : Bool) → ((x && true) && true) ≡ (x && true)
        ends true = refl
        ends false = refl
    onto (p ∷ ps) = regroup (is_name_byte b) (list_all is_name_byte p) (list_all (list_all is_name_byte) ps)
      where
        regroup : (x y z : Bool) → ((x && y) && z) ≡ (x && (y && z))
        regroup true y z = refl
        regroup false y z = refl

    by : (cut : Bool) → (b == 47) ≡ cut → (ps : List (List ℕ)) → list_all (list_all is_name_byte) ps ≡ list_all is_path_byte bs
        → list_all (list_all is_name_byte) (cond cut ([] ∷ ps) (onto_first b ps)) ≡ (is_path_byte b && list_all is_path_byte bs)
    by true is ps rest =
        let slash : b ≡ 47 = grind (arith, nat_tests, is) in
        let fits : is_path_byte b ≡ true = rw slash in
        rw (fits, rest)
    by false is ps rest = onto ps ∙ rw (is, rest) (drops (is_between 33 126 b) (not (b == 63)) (list_all is_path_byte bs))
      where
        drops : (x y z : Bool) → (((x && true) && y) && z) ≡ ((x && y) && z)
        drops true y z = refl
        drops false y z = refl

-- a name has such bytes alone
name_bytes : (e : Name) → list_all is_name_byte e ≡ false → is_path_name e ≡ false
name_bytes e h = rw h (by (is_empty e) (nat_le (length e) 255) (starts_with 46 e))
  where
    by : (a b c : Bool) → (((not a && b) && false) && not c) ≡ false
    by true b c = refl
    by false true c = refl
    by false false c = refl

no_names : (es : List Name) → list_all (list_all is_name_byte) es ≡ false → list_all is_path_name es ≡ false
no_names [] h = absurd (cc)
no_names (e ∷ es) h = by (list_all is_name_byte e) refl (list_all (list_all is_name_byte) es) refl (no_names es)
  where
    by : (a : Bool) → list_all is_name_byte e ≡ a → (b : Bool) → list_all (list_all is_name_byte) es ≡ b → (list_all (list_all is_name_byte) es ≡ false → list_all is_path_name es ≡ false) → (is_path_name e && list_all is_path_name es) ≡ false
    by false ea b eb rest = rw (name_bytes e ea)
    by true ea false eb rest = rw (rest eb) (ends (is_path_name e))
      where
        ends : (x : Bool) → (x && false) ≡ false
        ends true = refl
        ends false = refl
    by true ea true eb rest = absurd (let all : (list_all is_name_byte e && list_all (list_all is_name_byte) es) ≡ true = rw (ea, eb) in cc)

no_names_if : (es : List Name) → list_all (list_all is_name_byte) es ≡ false → names_if es ≡ None
no_names_if es h = rw (no_names es h) (by (nat_le (length es) 32))
  where
    by : (b : Bool) → (if b && false then Some es else None) ≡ None
    by true = refl
    by false = refl

-- `.all` has such bytes, so that the names before it do not
bytes_before : (es names : List Name) → before_all es ≡ Some names → list_all (list_all is_name_byte) es ≡ list_all (list_all is_name_byte) names
bytes_before [] names h = absurd (cc)
bytes_before (e ∷ []) names h = by (same e (codes ".all")) refl h
  where
    by : (b : Bool) → same e (codes ".all") ≡ b → (if b then Some [] else None) ≡ Some names → list_all (list_all is_name_byte) (e ∷ []) ≡ list_all (list_all is_name_byte) names
    by true is h =
        let all : e ≡ codes ".all" = (bytes_eq-Decides e (codes ".all")).0 is in
        let none : names ≡ [] = cc in
        rw (all, none)
    by false is h = absurd (cc)
bytes_before (e ∷ f ∷ fs) names h = by (before_all (f ∷ fs)) refl h (bytes_before (f ∷ fs))
  where
    by : (o : Option Path) → before_all (f ∷ fs) ≡ o → option_map (λ front. e ∷ front) o ≡ Some names → ((front : List Name) → before_all (f ∷ fs) ≡ Some front → list_all (list_all is_name_byte) (f ∷ fs) ≡ list_all (list_all is_name_byte) front)
        → list_all (list_all is_name_byte) (e ∷ f ∷ fs) ≡ list_all (list_all is_name_byte) names
    by None is h rest = absurd (cc)
    by (Some front) is h rest =
        let first : names ≡ e ∷ front = cc in
        rw first (ap (λ b. list_all is_name_byte e && b) (rest front is))

pub bad_bytes : (text : List ℕ) → list_all is_path_byte text ≡ false → path_of (pieces 47 text) ≡ None
bad_bytes text h = by (before_all (pieces 47 text)) refl
  where
    bad : list_all (list_all is_name_byte) (pieces 47 text) ≡ false
    bad = all_bytes text ∙ h

    by : (o : Option Path) → before_all (pieces 47 text) ≡ o → open_path_of (pieces 47 text) o ≡ None
    by None is = rw (no_names_if (pieces 47 text) bad)
    by (Some names) is = rw (no_names_if names (sym (bytes_before (pieces 47 text) names is) ∙ bad))

-- ---- the first element

cut_behind : (xs : List ℕ) (k : ℕ) → k < length xs → ((j : ℕ) → j < k → get_or xs j 0 ≡ 47 → ⊥) → get_or xs k 0 ≡ 47 → take k xs ∷ pieces 47 (drop (suc k) xs) ≡ pieces 47 xs
cut_behind [] k within before here = absurd (omega (arith, within))
cut_behind (x ∷ xs) zero within before here =
    let e : (x == 47) ≡ true = grind (arith, nat_tests, here) in
    rw e
cut_behind (x ∷ xs) (suc k) within before here =
    let other : x ≡ 47 → ⊥ = before 0 (omega arith) in
    let e : (x == 47) ≡ false = grind (arith, nat_tests, other) in
    rw (e, ← cut_behind xs k (omega (arith, within)) (λ j low. before (suc j) (omega arith)) here)

pub cut_at : (xs : List ℕ) (k : ℕ) → k < length xs → ((j : ℕ) → j < k → get_or xs j 0 ≡ 47 → ⊥) → get_or xs k 0 ≡ 47 → take k xs ∷ pieces 47 (drop (k + 1) xs) ≡ pieces 47 xs
cut_at xs k within before here = rw add-one (cut_behind xs k within before here)

pub cut_none : (xs : List ℕ) → ((j : ℕ) → j < length xs → get_or xs j 0 ≡ 47 → ⊥) → xs ∷ [] ≡ pieces 47 xs
cut_none [] nowhere = refl
cut_none (x ∷ xs) nowhere =
    let other : x ≡ 47 → ⊥ = nowhere 0 (omega arith) in
    let e : (x == 47) ≡ false = grind (arith, nat_tests, other) in
    rw (e, ← cut_none xs (λ j low. nowhere (suc j) (omega arith)))
