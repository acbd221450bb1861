-- Paths, and what is opened, made and removed at them.
use Rattle.std.proofs.Common.{arith}
use Rattle.std.specs.Prelude.{◌≡◌, ◌≤◌, ℕ, List, [], ◌∷◌, ◌==◌, ◌&&◌, not, Bool, true, false, cond, nat_le, Option, Some, None, option_and_then, ok_or, Ok, length, refl}
use Rattle.std.proofs.lemmas.Bool.Decides.{nat_tests}
use Rattle.std.specs.List.{list_all}
use Rattle.pps_types.specs.declared.refusal.Refusal.{Refusal}
use Rattle.pps_types.specs.Bytes.{is_empty, is_between, starts_with, ◌>>=◌}
use Rattle.pps_types.specs.Names.{Name, Path, last_name}
use Rattle.pps_types.specs.OpenText.{is_path_name, elements_of, are_names, names_if, path_text, before_all, OpenPath, open_path_of, open_path, Options, options_text, OpenSpec, open_parts, open_spec, open_text}
use Rattle.service_laws.proofs.Finds.{OfSome, and-both}
use Rattle.service_laws.proofs.BoundedTexts.{OfOk, some-then, some-map}

-- ---- names of paths

name-parts : (a b c d : Bool) → (a && b && c && d) ≡ true → b ≡ true
name-parts true true c d e = refl
name-parts true false c d e = e
name-parts false b c d e = absurd (let h = e in cc)

pub last-short : (names : Path) → list_all is_path_name names ≡ true → length (last_name names) ≤ 255
last-short [] e = omega arith
last-short (n ∷ []) e =
    let first = and-both (is_path_name n) true e in
    let sized = name-parts (not (is_empty n)) (nat_le (length n) 255) (list_all (λ b. is_between 33 126 b && not (b == 47) && not (b == 63)) n) (not (starts_with 46 n)) first.0 in
    grind (arith, nat_tests, sized)
last-short (n ∷ m ∷ ms) e = last-short (m ∷ ms) (and-both (is_path_name n) (list_all is_path_name (m ∷ ms)) e).1

abbrev pub HasShortEnd : Path → Type 0
HasShortEnd names = length (last_name names) ≤ 255

short-names_if : (names : Path) → OfSome HasShortEnd (names_if names)
short-names_if names = go (are_names names) refl
  where
    go : (b : Bool) → are_names names ≡ b → OfSome HasShortEnd (cond b (Some names) None)
    go true e = last-short names (and-both (nat_le (length names) 32) (list_all is_path_name names) e).1
    go false e = tt

anything : (o : Option Path) → OfSome (λ (p : Path). Unit {0}) o
anything None = tt
anything (Some p) = tt

pub short-path : (text : List ℕ) → OfSome HasShortEnd (path_text text)
short-path text = elim (nat_le (length text) 1024) as (λ b. OfSome HasShortEnd (cond b (option_and_then names_if (elements_of text)) None))
    [ true ↦ some-then (λ p. Unit {0}) HasShortEnd names_if (elements_of text) (anything (elements_of text)) (λ p u. short-names_if p) | false ↦ tt ]

short-open_path : (text : List ℕ) → OfSome (λ (p : OpenPath). HasShortEnd p.names) (open_path text)
short-open_path text = elim (nat_le (length text) 1024) as (λ b. OfSome (λ (p : OpenPath). HasShortEnd p.names) (cond b (option_and_then (λ elements. open_path_of elements (before_all elements)) (elements_of text)) None))
    [ true ↦ some-then (λ p. Unit {0}) (λ (p : OpenPath). HasShortEnd p.names) (λ elements. open_path_of elements (before_all elements)) (elements_of text) (anything (elements_of text)) (λ p u. of p (before_all p)) | false ↦ tt ]
  where
    of : (elements : List Name) (all : Option Path) → OfSome (λ (p : OpenPath). HasShortEnd p.names) (open_path_of elements all)
    of elements None = some-map HasShortEnd (λ (p : OpenPath). HasShortEnd p.names) (λ ns. record { names = ns; all = false }) (names_if elements) (short-names_if elements) (λ p h. h)
    of elements (Some names) = some-map HasShortEnd (λ (p : OpenPath). HasShortEnd p.names) (λ ns. record { names = ns; all = true }) (names_if names) (short-names_if names) (λ p h. h)

pub short-open_text : (text : List ℕ) → OfOk (λ (spec : OpenSpec). HasShortEnd spec.names) (open_text text)
short-open_text text = go (open_path (open_parts text).0) (short-open_path (open_parts text).0)
  where
    with : (p : OpenPath) → HasShortEnd p.names → (o : Option Options) → OfOk (λ (spec : OpenSpec). HasShortEnd spec.names) (do options ← ok_or o Refusal.BadOption; Ok (open_spec p options))
    with p h None = tt
    with p h (Some o) = h

    go : (o : Option OpenPath) → OfSome (λ (p : OpenPath). HasShortEnd p.names) o → OfOk (λ (spec : OpenSpec). HasShortEnd spec.names) (do path ← ok_or o Refusal.BadPath; options ← ok_or (options_text path.all (open_parts text).1) Refusal.BadOption; Ok (open_spec path options))
    go None h = tt
    go (Some p) h = with p h (options_text p.all (open_parts text).1)
