-- What is printed is read as it was.
use Rattle.std.proofs.Common.{◌≡◌, ℕ, ◌+◌, Bool, true, false, not, ◌&&◌, ◌||◌, eqb, List, [], ◌∷◌, ◌++◌, length, map, Some, None, Ok, refl, sym, ap, ◌∙◌, append_assoc}
use Rattle.std.specs.Prelude.{codes, nat_le, if◌then◌else◌}
use Rattle.std.specs.List.{list_all}
use Rattle.std.proofs.lemmas.Bool.{ne_eqb, eq-eqb, and_parts, and_from, or_left}
use Rattle.std.proofs.lemmas.List.Folds.{list_all-append}
use Rattle.pps_types.specs.declared.line.Mark.{Mark}
use Rattle.pps_types.specs.declared.line.Mark.TheVariants.{Keep, On}
use Rattle.pps_types.specs.declared.line.WriteLine.TheVariants.{Set as WriteSet}
use Rattle.pps_types.specs.declared.line.Line.{Line}
use Rattle.pps_types.specs.declared.line.Line.TheVariants.{Set, Del}
use Rattle.pps_types.specs.Bytes.{is_empty, is_between, is_digit, after_prefix, split_at_first, pieces}
use Rattle.pps_types.specs.Text.{starts_name, continues_name, is_attribute_name, is_encoding, set_line, write_line, without_empty_end, lines_of, write_lines, with_header, text_of_lines, print_line, print_lines, has_no_line_feed, has_no_colon, is_line, as_written}
use Rattle.service_laws.specs.TextLaws.{PrintedLinesAreRead, PrintingsAreUnique, PrintingsArePrefixFree}

-- ---- up to the first byte of a kind

-- a byte that passes a test is another than one that does not
other : (p : ℕ → Bool) (c b : ℕ) → p c ≡ false → p b ≡ true → eqb b c ≡ false
other p c b fails passes = ne_eqb b c (λ e. let h = ap p e in cc)

pub split_at_first-append : (p : ℕ → Bool) (c : ℕ) (xs rest : List ℕ) → p c ≡ false → list_all p xs ≡ true → split_at_first c (xs ++ (c ∷ rest)) ≡ Some (xs, rest)
split_at_first-append p c [] rest fails all = rw (eq-eqb c c refl) refl
split_at_first-append p c (x ∷ xs) rest fails all =
    let parts = and_parts (p x) (list_all p xs) all in
    rw (other p c x fails parts.0, split_at_first-append p c xs rest fails parts.1) refl

pub pieces-append : (p : ℕ → Bool) (c : ℕ) (xs rest : List ℕ) → p c ≡ false → list_all p xs ≡ true → pieces c (xs ++ (c ∷ rest)) ≡ xs ∷ pieces c rest
pieces-append p c [] rest fails all = rw (eq-eqb c c refl) refl
pieces-append p c (x ∷ xs) rest fails all =
    let parts = and_parts (p x) (list_all p xs) all in
    rw (other p c x fails parts.0, pieces-append p c xs rest fails parts.1) refl

-- ---- a line without its line feed

is_plain : ℕ → Bool
is_plain b = not (eqb b 10)

plain-weaken : (p : ℕ → Bool) (xs : List ℕ) → p 10 ≡ false → list_all p xs ≡ true → list_all is_plain xs ≡ true
unfolding is_plain
plain-weaken p [] fails all = refl
plain-weaken p (x ∷ xs) fails all =
    let parts = and_parts (p x) (list_all p xs) all in
    and_from _ _ (ap not (other p 10 x fails parts.0)) (plain-weaken p xs fails parts.1)

name-continues : (name : List ℕ) → is_attribute_name name ≡ true → list_all continues_name name ≡ true
name-continues [] is = refl
name-continues (b ∷ bs) is =
    let front = and_parts (starts_name b) (list_all continues_name bs) (and_parts (starts_name b && list_all continues_name bs) (nat_le (length bs) 254) is).0 in
    and_from _ _ (or_left (starts_name b || is_digit b || eqb b 46) (eqb b 45) (or_left (starts_name b || is_digit b) (eqb b 46) (or_left (starts_name b) (is_digit b) front.0))) front.1

abbrev body : Line → List ℕ
body (Set name enc value n) = (if n then codes "[n]" else []) ++ name ++ codes ":" ++ enc ++ codes ":" ++ value
body (Del name) = codes "-" ++ name

print_line-body : (l : Line) → print_line l ≡ body l ++ (10 ∷ [])
print_line-body (Set name enc value n) = refl
print_line-body (Del name) = refl

-- the parts of a line that can be written
record IsSetLine (name enc value : List ℕ) : Type 0 where
  pub named : is_attribute_name name ≡ true
  pub encoded : is_encoding enc ≡ true
  pub no_colon : has_no_colon enc ≡ true
  pub no_line_feed : has_no_line_feed value ≡ true

set-parts : (name enc value : List ℕ) (n : Bool) → is_line (Set name enc value n) ≡ true → IsSetLine name enc value
set-parts name enc value n is =
    let a = and_parts (is_attribute_name name && is_encoding enc && has_no_colon enc) (has_no_line_feed value) is in
    let b = and_parts (is_attribute_name name && is_encoding enc) (has_no_colon enc) a.0 in
    let d = and_parts (is_attribute_name name) (is_encoding enc) b.0 in
    record { named = d.0; encoded = d.1; no_colon = b.1; no_line_feed = a.1 }

colon-plain : list_all is_plain (codes ":") ≡ true
unfolding is_plain
colon-plain = refl

dash-plain : list_all is_plain (codes "-") ≡ true
unfolding is_plain
dash-plain = refl

bracket-plain : (n : Bool) → list_all is_plain (if n then codes "[n]" else []) ≡ true
unfolding is_plain
bracket-plain true = refl
bracket-plain false = refl

append-plain : (xs ys : List ℕ) → list_all is_plain xs ≡ true → list_all is_plain ys ≡ true → list_all is_plain (xs ++ ys) ≡ true
append-plain xs ys a b = list_all-append is_plain xs ys ∙ and_from _ _ a b

name-plain : (name : List ℕ) → is_attribute_name name ≡ true → list_all is_plain name ≡ true
name-plain name is = plain-weaken continues_name name refl (name-continues name is)

body-plain : (l : Line) → is_line l ≡ true → list_all is_plain (body l) ≡ true
body-plain (Set name enc value n) is =
    let parts = set-parts name enc value n is in
    let visible = and_parts (nat_le (length enc) 32) (list_all (λ b. is_between 33 126 b) enc) parts.encoded in
    append-plain _ _ (append-plain _ _ (append-plain _ _ (append-plain _ _ (append-plain _ _ (bracket-plain n)
    (name-plain name parts.named)) colon-plain) (plain-weaken (λ b. is_between 33 126 b) enc refl visible.1)) colon-plain)
    (plain-weaken (λ b. if eqb b 10 then false else is_between 0 255 b) value refl parts.no_line_feed)
body-plain (Del name) is = append-plain (codes "-") name dash-plain (name-plain name is)

-- ---- a body is read as its line

set_line-body : (mark : Mark) (name enc value : List ℕ) → IsSetLine name enc value
    → set_line mark (name ++ codes ":" ++ enc ++ codes ":" ++ value) ≡ Some (WriteSet name enc value mark)
set_line-body mark name enc value parts =
    rw (append_assoc, append_assoc, append_assoc)
    (rw (
      split_at_first-append continues_name 58 name (enc ++ (58 ∷ value)) refl (name-continues name parts.named),
      split_at_first-append (λ b. if eqb b 58 then false else is_between 0 255 b) 58 enc value refl parts.no_colon,
      parts.named,
      parts.encoded,
    ) refl)

-- a byte that starts a name is another than one that does not
start-other : (c b : ℕ) → starts_name c ≡ false → starts_name b ≡ true → eqb c b ≡ false
start-other c b fails passes = ne_eqb c b (λ e. let h = ap starts_name e in cc)

name-starts : (b : ℕ) (bs : List ℕ) → is_attribute_name (b ∷ bs) ≡ true → starts_name b ≡ true
name-starts b bs is =
    (and_parts (starts_name b) (list_all continues_name bs) (and_parts (starts_name b && list_all continues_name bs) (nat_le (length bs) 254) is).0).0

write_line-body : (l : Line) → is_line l ≡ true → write_line (body l) ≡ Some (as_written l)
write_line-body (Set name enc value true) is =
    rw (set_line-body On name enc value (set-parts name enc value true is)) refl
write_line-body (Set [] enc value false) is = absurd (let parts = set-parts [] enc value false is in let named = parts.named in cc)
write_line-body (Set (b ∷ bs) enc value false) is =
    let parts = set-parts (b ∷ bs) enc value false is in
    let starts = name-starts b bs parts.named in
    rw (start-other 45 b refl starts, start-other 91 b refl starts) (set_line-body Keep (b ∷ bs) enc value parts)
write_line-body (Del name) is = rw is refl

body-begins : (l : Line) → is_line l ≡ true → (is_empty (body l) ≡ false) × (after_prefix (codes "@") (body l) ≡ None)
body-begins (Set name enc value true) is = (refl, refl)
body-begins (Set [] enc value false) is = absurd (let parts = set-parts [] enc value false is in let named = parts.named in cc)
body-begins (Set (b ∷ bs) enc value false) is =
    let parts = set-parts (b ∷ bs) enc value false is in
    (refl, rw (start-other 64 b refl (name-starts b bs parts.named)) refl)
body-begins (Del name) is = (refl, refl)

-- ---- a text is read as its lines

pieces-print_lines : (ls : List Line) → list_all is_line ls ≡ true → pieces 10 (print_lines ls) ≡ map body ls ++ ([] ∷ [])
unfolding is_plain
pieces-print_lines [] all = refl
pieces-print_lines (l ∷ ls) all =
    let parts = and_parts (is_line l) (list_all is_line ls) all in
    rw (print_line-body l, append_assoc, pieces-append is_plain 10 (body l) (print_lines ls) refl (body-plain l parts.0), pieces-print_lines ls parts.1) refl

without_empty_end-append : (xs : List (List ℕ)) → without_empty_end (xs ++ ([] ∷ [])) ≡ xs
without_empty_end-append [] = refl
without_empty_end-append (x ∷ []) = refl
without_empty_end-append (x ∷ y ∷ ys) = ap (λ rest. x ∷ rest) (without_empty_end-append (y ∷ ys))

pub lines_of-print_lines : (ls : List Line) → list_all is_line ls ≡ true → lines_of (print_lines ls) ≡ map body ls
lines_of-print_lines ls all = ap without_empty_end (pieces-print_lines ls all) ∙ without_empty_end-append (map body ls)

write_lines-body : (n : ℕ) (ls : List Line) → list_all is_line ls ≡ true → write_lines n (map body ls) ≡ Ok (map as_written ls)
write_lines-body n [] all = refl
write_lines-body n (l ∷ ls) all =
    let parts = and_parts (is_line l) (list_all is_line ls) all in
    rw ((body-begins l parts.0).0, write_line-body l parts.0, write_lines-body (n + 1) ls parts.1) refl

text_of_lines-body : (ls : List Line) → list_all is_line ls ≡ true → text_of_lines (map body ls) ≡ Ok (record { header = None; lines = map as_written ls })
text_of_lines-body [] all = refl
text_of_lines-body (l ∷ ls) all =
    rw ((body-begins l (and_parts (is_line l) (list_all is_line ls) all).0).1) (ap (with_header None) (write_lines-body 1 (l ∷ ls) all))

pub write_text-print_lines : PrintedLinesAreRead
write_text-print_lines ls all = ap text_of_lines (lines_of-print_lines ls all) ∙ text_of_lines-body ls all

-- ---- each line has its own printing

as_written-injective : (l k : Line) → as_written l ≡ as_written k → l ≡ k
as_written-injective (Set a b d true) (Set e f g true) same = cc
as_written-injective (Set a b d false) (Set e f g false) same = cc
as_written-injective (Set a b d true) (Set e f g false) same = cc
as_written-injective (Set a b d false) (Set e f g true) same = cc
as_written-injective (Set a b d n) (Del name) same = cc
as_written-injective (Del name) (Set e f g m) same = cc
as_written-injective (Del name) (Del other) same = cc

split_at_first-print_line : (l : Line) (xs : List ℕ) → is_line l ≡ true → split_at_first 10 (print_line l ++ xs) ≡ Some (body l, xs)
unfolding is_plain
split_at_first-print_line l xs is =
    rw (print_line-body l, append_assoc) (split_at_first-append is_plain 10 (body l) xs refl (body-plain l is))

some-injective : {X : Type 0} (x y : X) → Some x ≡ Some y → x ≡ y
some-injective x y same = cc

pub print_line-prefix_free : PrintingsArePrefixFree
print_line-prefix_free l k xs ys l-is k-is same =
    let parts = some-injective (body l, xs) (body k, ys) (sym (split_at_first-print_line l xs l-is) ∙ ap (split_at_first 10) same ∙ split_at_first-print_line k ys k-is) in
    let written = some-injective (as_written l) (as_written k) (sym (write_line-body l l-is) ∙ ap write_line (ap (λ p. p.0) parts) ∙ write_line-body k k-is) in
    (as_written-injective l k written, ap (λ p. p.1) parts)

pub print_line-unique : PrintingsAreUnique
print_line-unique l k l-is k-is same = (print_line-prefix_free l k [] [] l-is k-is (ap (λ bs. bs ++ []) same)).0
