-- What a line says that a reader took.
use Rattle.std.proofs.Common.{◌≡◌, ℕ, suc, ◌-◌, ◌≤◌, true, cond, ◌&&◌, eqb, List, [], ◌∷◌, ◌++◌, length, map, Option, Some, None, refl, sym, ap, subst, ◌∙◌, append_assoc, arith}
use Rattle.std.specs.Prelude.{nat_le, codes, option_and_then}
use Rattle.std.specs.List.{list_all}
use Rattle.std.specs.Fmt.{decimal}
use Rattle.std.proofs.lemmas.Bool.{and_parts, eqb-true, leb-true}
use Rattle.pps_types.specs.declared.line.Mark.TheVariants.{Keep}
use Rattle.pps_types.specs.declared.line.WriteLine.{WriteLine}
use Rattle.pps_types.specs.declared.line.WriteLine.TheVariants.{Set as WriteSet}
use Rattle.pps_types.specs.Bytes.{split_at_first, after_prefix}
use Rattle.pps_types.specs.Text.{is_attribute_name, is_encoding, set_line, print_lines}
use Rattle.pps_types.specs.Names.{Path}
use Rattle.pps_types.specs.OpenText.{path_text}
use Rattle.pps_types.specs.Image.{SavedLine, SavedDirectory, SavedObject, as_line, print_path, Loaded, Position, Between, Behind, plain_number, may_follow, with_entry, directory_line, in_object, object_of, object_line, end_line, set_of, attribute_line}
use Rattle.image_laws.specs.Images.{is_plain, is_saved_line, IsImageLine, is_new, IsSavedPath, object_head}
use Rattle.image_laws.proofs.Numbers.{plain_number-only}
use Rattle.pps_types.proofs.Cuts.{split-only}
use Rattle.image_laws.proofs.Paths.{path_text-only, prefix-only, plain-end}
use Rattle.image_laws.proofs.Options.{and-then-some, if-some}
use Rattle.image_laws.proofs.Entries.{line_body, follow-parts}

-- ---- a directory

pub record IsDirectoryLine (r : Loaded) (l : List ℕ) (q : Position) (path : Path) : Type 0 where
  pub line : l ≡ codes "D " ++ print_path path
  pub path_is : IsSavedPath path
  pub follows : may_follow r.entries (SavedDirectory path) ≡ true
  pub next : Between (with_entry r (SavedDirectory path)) ≡ q

pub directory_line-only : (r : Loaded) (l text : List ℕ) (q : Position) → after_prefix (codes "D ") l ≡ Some text → directory_line r text ≡ Some q → (path : Path) × IsDirectoryLine r l q path
directory_line-only r l text q p e =
    let one = and-then-some (λ path. cond (may_follow r.entries (SavedDirectory path)) (Some (Between (with_entry r (SavedDirectory path)))) None) (path_text text) q e in
    let two = if-some (may_follow r.entries (SavedDirectory one.0)) (Between (with_entry r (SavedDirectory one.0))) q one.2 in
    let found = path_text-only text one.0 one.1 (follow-parts r.entries (SavedDirectory one.0) two.0).some in (
      one.0,
      record {
        line = prefix-only (codes "D ") l text p ∙ ap (λ t. codes "D " ++ t) (sym found.0);
        path_is = found.1;
        follows = two.0;
        next = two.1;
      },
    )

-- ---- the head of an object

pub record IsObjectLine (r : Loaded) (l : List ℕ) (q : Position) (path : Path) (k : ℕ) : Type 0 where
  pub line : l ≡ object_head path k
  pub path_is : IsSavedPath path
  pub follows : may_follow r.entries (SavedObject path []) ≡ true
  pub few : k ≤ 1024
  pub next : in_object r path [] k ≡ q

pub object_line-only : (r : Loaded) (l text : List ℕ) (q : Position) → after_prefix (codes "O ") l ≡ Some text → object_line r text ≡ Some q → (path : Path) × (k : ℕ) × IsObjectLine r l q path k
object_line-only r l text q p e =
    let one = and-then-some (λ (parts : List ℕ × List ℕ). object_of r (path_text parts.0) (plain_number parts.1)) (split_at_first 32 text) q e in
    of one.0.0 one.0.1 (split-only 32 text one.0.0 one.0.1 one.1).0 (path_text one.0.0) (plain_number one.0.1) refl refl one.2
  where
    of : (front rest : List ℕ) → text ≡ front ++ (32 ∷ rest) → (path : Option Path) (count : Option ℕ) → path_text front ≡ path → plain_number rest ≡ count → object_of r path count ≡ Some q
        → (path : Path) × (k : ℕ) × IsObjectLine r l q path k
    of front rest cut None count x y h = absurd cc
    of front rest cut (Some path) None x y h = absurd cc
    of front rest cut (Some path) (Some k) x y h =
        let two = if-some (may_follow r.entries (SavedObject path []) && nat_le k 1024) (in_object r path [] k) q h in
        let three = and_parts (may_follow r.entries (SavedObject path [])) (nat_le k 1024) two.0 in
        let found = path_text-only front path x (follow-parts r.entries (SavedObject path []) three.0).some in
        let spelled : rest ≡ decimal k = plain_number-only k rest y in (
          path,
          k,
          record {
            line = prefix-only (codes "O ") l text p ∙ ap (λ t. codes "O " ++ t) (cut ∙ (λ i. sym found.0 i ++ (32 ∷ spelled i)) ∙ sym (append_assoc (print_path path) (codes " ") (decimal k)));
            path_is = found.1;
            follows = three.0;
            few = leb-true k 1024 three.1;
            next = two.1;
          },
        )

-- ---- a line of an attribute

pub record IsLineOf (l : List ℕ) (a : SavedLine) : Type 0 where
  pub text : l ≡ line_body a
  pub line : is_saved_line a ≡ true

pub set_line-only : (l : List ℕ) (w : WriteLine) (a : SavedLine) → list_all is_plain l ≡ true → set_line Keep l ≡ Some w → set_of w ≡ Some a → IsLineOf l a
set_line-only l w a plain e s =
    let one = and-then-some (λ named. option_and_then (λ encoded. cond (is_attribute_name named.0 && is_encoding encoded.0) (Some (WriteSet named.0 encoded.0 encoded.1 Keep)) None) (split_at_first 58 named.1)) (split_at_first 58 l) w e in
    let two = and-then-some (λ encoded. cond (is_attribute_name one.0.0 && is_encoding encoded.0) (Some (WriteSet one.0.0 encoded.0 encoded.1 Keep)) None) (split_at_first 58 one.0.1) w one.2 in
    let three = if-some (is_attribute_name one.0.0 && is_encoding two.0.0) (WriteSet one.0.0 two.0.0 two.0.1 Keep) w two.2 in
    of one.0.0 one.0.1 two.0.0 two.0.1 one.1 two.1 three.0 (ap set_of three.1 ∙ s)
  where
    of : (name rest enc value : List ℕ) → split_at_first 58 l ≡ Some (name, rest) → split_at_first 58 rest ≡ Some (enc, value) → (is_attribute_name name && is_encoding enc) ≡ true
        → Some (record { name = name; enc = enc; value = value }) ≡ Some a → IsLineOf l a
    of name rest enc value x y t is =
        let named = split-only 58 l name rest x in
        let encoded = split-only 58 rest enc value y in
        let whole : l ≡ name ++ (58 ∷ (enc ++ (58 ∷ value))) = named.0 ∙ ap (λ r. name ++ (58 ∷ r)) encoded.0 in
        let text : l ≡ name ++ codes ":" ++ enc ++ codes ":" ++ value = whole ∙ sym (simp append_assoc) in
        let b : SavedLine = record { name = name; enc = enc; value = value } in
        let same : b ≡ a = cc in
        let plain-value : list_all is_plain value ≡ true = plain-end (name ++ codes ":" ++ enc ++ codes ":") value (subst (λ bs. list_all is_plain bs ≡ true) text plain) in
        let parts = and_parts (is_attribute_name name) (is_encoding enc) t in
        let line : is_saved_line b ≡ true = rw (parts.0, parts.1, encoded.1, plain-value) refl in
        subst (IsLineOf l) same (record { text = text; line = line })

-- a line that is read sets an attribute as an image has it
pub image-line : (l : List ℕ) (a : SavedLine) → list_all is_plain l ≡ true → option_and_then set_of (set_line Keep l) ≡ Some a → IsImageLine (as_line a)
image-line l a plain e = let two = and-then-some set_of (set_line Keep l) a e in (refl, (set_line-only l two.0 a plain two.1 two.2).line)

pub record IsAttributeLine (r : Loaded) (path : Path) (lines : List SavedLine) (k : ℕ) (l : List ℕ) (q : Position) (a : SavedLine) : Type 0 where
  pub is : IsLineOf l a
  pub new : is_new lines a ≡ true
  pub fits : length (print_lines (map as_line (lines ++ a ∷ []))) ≤ r.longest
  pub next : in_object r path (lines ++ a ∷ []) k ≡ q

pub attribute_line-only : (r : Loaded) (path : Path) (lines : List SavedLine) (k : ℕ) (l : List ℕ) (q : Position) → list_all is_plain l ≡ true → attribute_line r path lines (suc k) l ≡ Some q
    → (a : SavedLine) × IsAttributeLine r path lines k l q a
attribute_line-only r path lines k l q plain e =
    let one = and-then-some (λ a. cond (is_new lines a && nat_le (length (print_lines (map as_line (lines ++ a ∷ [])))) r.longest) (Some (in_object r path (lines ++ a ∷ []) (suc k - 1))) None) (option_and_then set_of (set_line Keep l)) q e in
    let a = one.0 in
    let size = length (print_lines (map as_line (lines ++ a ∷ []))) in
    let two = and-then-some set_of (set_line Keep l) a one.1 in
    let three = if-some (is_new lines a && nat_le size r.longest) (in_object r path (lines ++ a ∷ []) (suc k - 1)) q one.2 in
    let four = and_parts (is_new lines a) (nat_le size r.longest) three.0 in
    let less : k ≡ suc k - 1 = omega arith in (
      a,
      record {
        is = set_line-only l two.0 a plain two.1 two.2;
        new = four.0;
        fits = leb-true size r.longest four.1;
        next = ap (in_object r path (lines ++ a ∷ [])) less ∙ three.1;
      },
    )

-- ---- the end

pub end_line-only : (r : Loaded) (l text : List ℕ) (q : Position) → after_prefix (codes "E ") l ≡ Some text → end_line r text ≡ Some q
    → (l ≡ codes "E " ++ decimal (length r.entries)) × (Behind (record { default_limit = r.default_limit; entries = r.entries }) ≡ q)
end_line-only r l text q p e =
    let one = and-then-some (λ n. cond (eqb n (length r.entries)) (Some (Behind (record { default_limit = r.default_limit; entries = r.entries }))) None) (plain_number text) q e in
    let two = if-some (eqb one.0 (length r.entries)) (Behind (record { default_limit = r.default_limit; entries = r.entries })) q one.2 in (
      prefix-only (codes "E ") l text p ∙ ap (λ t. codes "E " ++ t) (plain_number-only one.0 text one.1 ∙ ap decimal (eqb-true one.0 (length r.entries) two.0)),
      two.1,
    )
