-- What the texts of paths, opens and writes say can be saved.
use Rattle.std.proofs.Common.{◌≡◌, ℕ, ◌+◌, Bool, true, false, cond, not, ◌&&◌, eqb, List, [], ◌∷◌, length, Option, Some, None, Result, Ok, Err, refl, ap, subst, ◌∙◌, arith}
use Rattle.std.specs.Prelude.{codes, nat_le, option_and_then, option_map, ok_or}
use Rattle.std.specs.List.{list_all, AllByRecursion}
use Rattle.std.proofs.lemmas.Bool.{and_parts}
use Rattle.pps_types.specs.declared.line.Mark.{Mark}
use Rattle.pps_types.specs.declared.line.Mark.TheVariants.{Keep, On, Off}
use Rattle.pps_types.specs.declared.line.WriteLine.{WriteLine}
use Rattle.pps_types.specs.declared.line.WriteLine.TheVariants.{Set as WriteSet, Del as WriteDel}
use Rattle.pps_types.specs.declared.refusal.Refusal.{Refusal}
use Rattle.pps_types.specs.Bytes.{is_empty, after_prefix, split_at_first, pieces, ◌>>=◌}
use Rattle.pps_types.specs.Text.{is_attribute_name, is_encoding, set_line, deletion_line, write_line, without_empty_end, lines_of, line_or, write_lines, WriteText, with_header, text_after, text_of_lines, write_text}
use Rattle.pps_types.specs.Names.{Name, Path}
use Rattle.pps_types.specs.OpenText.{elements_of, names_if, path_text, before_all, OpenPath, open_path_of, open_path, Options, options_text, OpenSpec, open_parts, open_spec, open_text}
use Rattle.service_laws.proofs.Finds.{OfSome}
use Rattle.service_laws.proofs.BoundedTexts.{OfOk, some-or, some-then}
use Rattle.image_laws.specs.Images.{is_plain, are_plain, is_saved_line, IsSavedPath}
use Rattle.image_laws.proofs.Lines.{pieces-plain}
use Rattle.pps_types.proofs.Cuts.{split-only}
use Rattle.image_laws.proofs.Paths.{path_text-only, prefix-only, plain-end}

-- ---- paths

-- the root has a text too
pub path-saved : (text : List ℕ) (path : Path) → path_text text ≡ Some path → IsSavedPath path
path-saved text [] e = (refl, omega arith)
path-saved text (n ∷ ns) e = (path_text-only text (n ∷ ns) e refl).1

-- where `.all` does not stand behind it, an open's path is a path
open-names : (text : List ℕ) (p : OpenPath) → open_path text ≡ Some p → p.all ≡ false → path_text text ≡ Some p.names
open-names text p e all = by (nat_le (length text) 1024) e
  where
    named : (o : Option Path) → option_map (λ ns. record { names = ns; all = false }) o ≡ Some p → o ≡ Some p.names
    named None e = absurd (let h = e in cc)
    named (Some ns) e = let is : record { names = ns; all = false } ≡ p = cc in ap (λ (p : OpenPath). Some p.names) is

    whole : (o : Option Path) → option_map (λ ns. record { names = ns; all = true }) o ≡ Some p → ⊥
    whole None e = absurd (let h = e in cc)
    whole (Some ns) e = let is : record { names = ns; all = true } ≡ p = cc in let no : true ≡ false = ap (λ (p : OpenPath). p.all) is ∙ all in cc

    of : (elements : List Name) (o : Option Path) → open_path_of elements o ≡ Some p → names_if elements ≡ Some p.names
    of elements None e = named (names_if elements) e
    of elements (Some names) e = absurd (whole (names_if names) e)

    go : (o : Option (List Name)) → option_and_then (λ elements. open_path_of elements (before_all elements)) o ≡ Some p → option_and_then names_if o ≡ Some p.names
    go None e = absurd (let h = e in cc)
    go (Some elements) e = of elements (before_all elements) e

    by : (t : Bool) → cond t (option_and_then (λ elements. open_path_of elements (before_all elements)) (elements_of text)) None ≡ Some p → cond t (option_and_then names_if (elements_of text)) None ≡ Some p.names
    by true e = go (elements_of text) e
    by false e = absurd (let h = e in cc)

-- an open of a name
pub open-saved : (text : List ℕ) → OfOk (λ (spec : OpenSpec). spec.all ≡ false → IsSavedPath spec.names) (open_text text)
open-saved text = go (open_path (open_parts text).0) refl
  where
    with : (p : OpenPath) → open_path (open_parts text).0 ≡ Some p → (o : Option Options)
        → OfOk (λ (spec : OpenSpec). spec.all ≡ false → IsSavedPath spec.names) (do options ← ok_or o Refusal.BadOption; Ok (open_spec p options))
    with p e None = tt
    with p e (Some o) = λ all. path-saved (open_parts text).0 p.names (open-names (open_parts text).0 p e all)

    go : (o : Option OpenPath) → open_path (open_parts text).0 ≡ o
        → OfOk (λ (spec : OpenSpec). spec.all ≡ false → IsSavedPath spec.names) (do path ← ok_or o Refusal.BadPath; options ← ok_or (options_text path.all (open_parts text).1) Refusal.BadOption; Ok (open_spec path options))
    go None e = tt
    go (Some p) e = with p e (options_text p.all (open_parts text).1)

-- ---- lines

-- what it sets has a printing
abbrev pub IsWritten : WriteLine → Type 0
IsWritten (WriteSet name enc value mark) = is_saved_line (record { name = name; enc = enc; value = value }) ≡ true
IsWritten (WriteDel name) = Unit {0}

abbrev IsRest : List ℕ → Type 0
IsRest bs = list_all is_plain bs ≡ true

-- what is behind a colon is plain, and no colon is before it
splits : (bs : List ℕ) → IsRest bs → OfSome (λ (p : List ℕ × List ℕ). (list_all (λ b. not (eqb b 58)) p.0 ≡ true) × IsRest p.1) (split_at_first 58 bs)
splits bs plain = go (split_at_first 58 bs) refl
  where
    go : (o : Option (List ℕ × List ℕ)) → split_at_first 58 bs ≡ o → OfSome (λ (p : List ℕ × List ℕ). (list_all (λ b. not (eqb b 58)) p.0 ≡ true) × IsRest p.1) o
    go None e = tt
    go (Some p) e =
        let is = split-only 58 bs p.0 p.1 e in
        let behind : IsRest (58 ∷ p.1) = plain-end p.0 (58 ∷ p.1) (subst IsRest is.0 plain) in
        (is.1, plain-end (58 ∷ []) p.1 behind)

-- what is behind a prefix is plain
prefixed : (ps bs : List ℕ) → IsRest bs → OfSome IsRest (after_prefix ps bs)
prefixed ps bs plain = go (after_prefix ps bs) refl
  where
    go : (o : Option (List ℕ)) → after_prefix ps bs ≡ o → OfSome IsRest o
    go None e = tt
    go (Some rest) e = plain-end ps rest (subst IsRest (prefix-only ps bs rest e) plain)

set-written : (mark : Mark) (bs : List ℕ) → IsRest bs → OfSome IsWritten (set_line mark bs)
set-written mark bs plain =
    some-then _ IsWritten _ (split_at_first 58 bs) (splits bs plain) (λ named a.
    some-then _ IsWritten _ (split_at_first 58 named.1) (splits named.1 a.1) (λ encoded b.
    by named.0 encoded.0 encoded.1 b (is_attribute_name named.0 && is_encoding encoded.0) refl))
  where
    by : (name enc value : List ℕ) → (list_all (λ b. not (eqb b 58)) enc ≡ true) × IsRest value → (t : Bool) → (is_attribute_name name && is_encoding enc) ≡ t → OfSome IsWritten (cond t (Some (WriteSet name enc value mark)) None)
    by name enc value b false e = tt
    by name enc value b true e = let parts = and_parts (is_attribute_name name) (is_encoding enc) e in rw (parts.0, parts.1, b.0, b.1) refl

deletion-written : (bs : List ℕ) → OfSome IsWritten (deletion_line bs)
deletion-written bs = elim (is_attribute_name bs) as (λ t. OfSome IsWritten (cond t (Some (WriteDel bs)) None)) [ true ↦ tt | false ↦ tt ]

line-written : (bs : List ℕ) → IsRest bs → OfSome IsWritten (write_line bs)
line-written bs plain =
    some-or IsWritten (option_and_then deletion_line (after_prefix (codes "-") bs)) _ (some-then IsRest IsWritten deletion_line (after_prefix (codes "-") bs) (prefixed (codes "-") bs plain) (λ rest p. deletion-written rest))
    (some-or IsWritten (option_and_then (set_line On) (after_prefix (codes "[n]") bs)) _ (some-then IsRest IsWritten (set_line On) (after_prefix (codes "[n]") bs) (prefixed (codes "[n]") bs plain) (λ rest p. set-written On rest p))
    (some-or IsWritten (option_and_then (set_line Off) (after_prefix (codes "[-n]") bs)) _ (some-then IsRest IsWritten (set_line Off) (after_prefix (codes "[-n]") bs) (prefixed (codes "[-n]") bs plain) (λ rest p. set-written Off rest p))
    (set-written Keep bs plain)))

-- ---- all lines

abbrev AreWritten : List WriteLine → Type 0
AreWritten ws = AllByRecursion IsWritten ws

plain-without : (ls : List (List ℕ)) → are_plain ls ≡ true → are_plain (without_empty_end ls) ≡ true
plain-without [] h = refl
plain-without (l ∷ []) h = elim (is_empty l) as (λ t. are_plain (cond t [] (l ∷ [])) ≡ true) [ true ↦ refl | false ↦ h ]
plain-without (l ∷ m ∷ ms) h = let parts = and_parts (list_all is_plain l) (are_plain (m ∷ ms)) h in rw (parts.0) (plain-without (m ∷ ms) parts.1)

lines-written : (n : ℕ) (ls : List (List ℕ)) → are_plain ls ≡ true → OfOk AreWritten (write_lines n ls)
lines-written n [] plain = tt
lines-written n (l ∷ ls) plain =
    let parts = and_parts (list_all is_plain l) (are_plain ls) plain in
    let rest = lines-written (n + 1) ls parts.1 in
    elim (is_empty l) as (λ t. OfOk AreWritten (cond t (write_lines (n + 1) ls) (line_or n (write_line l) (write_lines (n + 1) ls)))) [
      | true ↦ rest
      | false ↦ with (write_line l) (line-written l parts.0) (write_lines (n + 1) ls) rest
    ]
  where
    with : (o : Option WriteLine) → OfSome IsWritten o → (r : Result (List WriteLine) Refusal) → OfOk AreWritten r → OfOk AreWritten (line_or n o r)
    with None p r q = tt
    with (Some w) p (Err e) q = tt
    with (Some w) p (Ok ws) q = (p, q)

abbrev IsText : WriteText → Type 0
IsText text = AreWritten text.lines

headed : (header : Option (List ℕ)) (r : Result (List WriteLine) Refusal) → OfOk AreWritten r → OfOk IsText (with_header header r)
headed header (Err e) p = tt
headed header (Ok ws) p = p

-- each line that a write sets has a printing
pub text-written : (bytes : List ℕ) → OfOk (λ (text : WriteText). AllByRecursion IsWritten text.lines) (write_text bytes)
text-written bytes = go (lines_of bytes) (plain-without (pieces 10 bytes) (pieces-plain bytes))
  where
    after : (o : Option (List ℕ)) (l : List ℕ) (ls : List (List ℕ)) → are_plain (l ∷ ls) ≡ true → OfOk IsText (text_after o (l ∷ ls) ls)
    after None l ls plain = headed None (write_lines 1 (l ∷ ls)) (lines-written 1 (l ∷ ls) plain)
    after (Some header) l ls plain = headed (Some header) (write_lines 2 ls) (lines-written 2 ls (and_parts (list_all is_plain l) (are_plain ls) plain).1)

    go : (ls : List (List ℕ)) → are_plain ls ≡ true → OfOk IsText (text_of_lines ls)
    go [] plain = tt
    go (l ∷ ls) plain = after (after_prefix (codes "@") l) l ls plain
