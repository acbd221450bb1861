-- Lines that may begin an image are read, even where their last object announces more lines than came.
use Rattle.std.proofs.Common.{◌≡◌, ℕ, zero, suc, ◌+◌, ◌-◌, ◌≤◌, true, cond, not, ◌&&◌, eqb, List, [], ◌∷◌, ◌++◌, length, map, Option, Some, None, Ok, refl, sym, ap, subst, ◌∙◌, append_assoc, ⊎_elim, arith}
use Rattle.std.specs.Prelude.{nat_le, codes, option_and_then}
use Rattle.std.specs.List.{list_all}
use Rattle.std.specs.Option.{option_or}
use Rattle.std.specs.Fmt.{decimal}
use Rattle.std.proofs.lemmas.Bool.{and_parts, and_from, eq-eqb}
use Rattle.std.proofs.lemmas.List.Folds.{list_all-append}
use Rattle.pps_types.specs.declared.line.Mark.TheVariants.{Keep}
use Rattle.pps_types.specs.Bytes.{is_digit, pieces}
use Rattle.pps_types.specs.Text.{continues_name, is_attribute_name, set_line, print_lines}
use Rattle.pps_types.specs.Names.{Path}
use Rattle.pps_types.specs.Image.{SavedLine, SavedObject, as_line, print_path, text_line, Image, Loaded, Position, First, Between, Within, Behind, plain_number, may_follow, in_object, object_line, set_of, attribute_line, line_read, read_lines}
use Rattle.pps_types.proofs.Decimals.{decimal-digits}
use Rattle.image_laws.specs.Images.{is_plain, are_plain, joined, read_all, is_new, IsSavedPath, object_head, LowersCount, BeginAnImage}
use Rattle.image_laws.proofs.Lines.{pieces-some, read_all-append}
use Rattle.image_laws.proofs.Numbers.{plain_number-decimal}
use Rattle.image_laws.proofs.Paths.{path_text-print_path}
use Rattle.image_laws.proofs.Options.{and-then-some, or-some}
use Rattle.image_laws.proofs.Entries.{line_body, line-parts, name-continues, no-byte, append-plain, follow-parts, attribute-read, head-read}
use Rattle.image_laws.proofs.Printed.{are-plain-append, images-read}
use Rattle.image_laws.proofs.Said.{object_line-only, set_line-only, attribute_line-only}
use Rattle.image_laws.proofs.Streams.{cut, line-refused, one-more}

-- ---- lines of an object

-- more of them may be to come
more-to-come : (r : Loaded) (path : Path) (before : List SavedLine) (came : List (List ℕ)) (k : ℕ) (q : Position) → are_plain came ≡ true → length came ≤ k
    → read_all (in_object r path before (length came)) came ≡ Some q → (p : Position) × (read_all (in_object r path before k) came ≡ Some p)
more-to-come r path before [] k q plain le e = (in_object r path before k, refl)
more-to-come r path before (l ∷ ls) zero q plain le e = absurd (omega arith)
more-to-come r path before (l ∷ ls) (suc k) q plain le e =
    let parts = and_parts (list_all is_plain l) (are_plain ls) plain in
    let one = and-then-some (λ p. read_all p ls) (attribute_line r path before (suc (length ls)) l) q e in
    let said = attribute_line-only r path before (length ls) l one.0 parts.0 one.1 in
    let a = said.0 in
    let is = said.1 in
    let rest = more-to-come r path (before ++ a ∷ []) ls k q parts.1 (omega arith) (ap (λ p. read_all p ls) is.next ∙ one.2) in
    let taken : attribute_line r path before (suc k) l ≡ Some (in_object r path (before ++ a ∷ []) k) =
    ap (attribute_line r path before (suc k)) is.is.text ∙ attribute-read r path before k a is.is.line is.new is.fits in
    (rest.0, ap (option_and_then (λ p. read_all p ls)) taken ∙ rest.1)

-- the line of an object is none of an attribute
not-a-name : (name rest text : List ℕ) → is_attribute_name name ≡ true → 79 ∷ (32 ∷ text) ≡ name ++ (58 ∷ rest) → ⊥
not-a-name [] rest text is e = absurd (let h = is in cc)
not-a-name (a ∷ []) rest text is e = let h : ◌≡◌ {A = ℕ} 32 58 = cc in omega arith
not-a-name (a ∷ b ∷ bs) rest text is e =
    let second : 32 ≡ b = cc in
    let all = and_parts (continues_name a) (list_all continues_name (b ∷ bs)) (name-continues (a ∷ b ∷ bs) is) in
    let passes : continues_name 32 ≡ true = ap continues_name second ∙ (and_parts (continues_name b) (list_all continues_name bs) all.1).0 in
    absurd cc

no-attribute : (r : Loaded) (path : Path) (lines : List SavedLine) (k : ℕ) (text : List ℕ) (q : Position) → list_all is_plain (79 ∷ (32 ∷ text)) ≡ true → attribute_line r path lines k (79 ∷ (32 ∷ text)) ≡ Some q → ⊥
no-attribute r path lines k text q plain e =
    let l : List ℕ = 79 ∷ (32 ∷ text) in
    let one = and-then-some (λ a. cond (is_new lines a && nat_le (length (print_lines (map as_line (lines ++ a ∷ [])))) r.longest) (Some (in_object r path (lines ++ a ∷ []) (k - 1))) None) (option_and_then set_of (set_line Keep l)) q e in
    let a = one.0 in
    let two = and-then-some set_of (set_line Keep l) a one.1 in
    let is = set_line-only l two.0 a plain two.1 two.2 in
    let shape : line_body a ≡ a.name ++ (58 ∷ (a.enc ++ (58 ∷ a.value))) = simp append_assoc in
    not-a-name a.name (a.enc ++ (58 ∷ a.value)) text (line-parts a is.line).named (is.text ∙ shape)

-- ---- the line of an object is read with another count

has-it : (c : ℕ) (xs ys : List ℕ) → list_all (λ b. not (eqb b c)) (xs ++ (c ∷ ys)) ≡ true → ⊥
has-it c [] ys h = let no = (and_parts (not (eqb c c)) (list_all (λ b. not (eqb b c)) ys) h).0 in let e = eq-eqb c c refl in let f = ap not e in absurd cc
has-it c (x ∷ xs) ys h = has-it c xs ys (and_parts (not (eqb x c)) (list_all (λ b. not (eqb b c)) (xs ++ (c ∷ ys))) h).1

-- what is cut at the last c
cut-last : (c : ℕ) (xs ys zs ws : List ℕ) → list_all (λ b. not (eqb b c)) ys ≡ true → list_all (λ b. not (eqb b c)) ws ≡ true → xs ++ (c ∷ ys) ≡ zs ++ (c ∷ ws) → (xs ≡ zs) × (ys ≡ ws)
cut-last c [] ys [] ws a b e = (refl, cc)
cut-last c [] ys (z ∷ zs) ws a b e = absurd (let is : ys ≡ zs ++ (c ∷ ws) = cc in has-it c zs ws (sym (ap (list_all (λ b. not (eqb b c))) is) ∙ a))
cut-last c (x ∷ xs) ys [] ws a b e = absurd (let is : ws ≡ xs ++ (c ∷ ys) = cc in has-it c xs ys (sym (ap (list_all (λ b. not (eqb b c))) is) ∙ b))
cut-last c (x ∷ xs) ys (z ∷ zs) ws a b e =
    let first : x ≡ z = cc in
    let rest = cut-last c xs ys zs ws a b (let h : xs ++ (c ∷ ys) ≡ zs ++ (c ∷ ws) = cc in h) in
    (λ i. first i ∷ rest.0 i, rest.1)

no-space : (n : ℕ) → n ≤ 1024 → list_all (λ b. not (eqb b 32)) (decimal n) ≡ true
no-space n few = no-byte 32 is_digit (decimal n) refl (decimal-digits n (omega arith))

record IsSameHead (path other : Path) (m k : ℕ) : Type 0 where
  path_is : print_path path ≡ print_path other
  count : m ≡ k

same-head : (path other : Path) (m k : ℕ) → m ≤ 1024 → k ≤ 1024 → object_head path m ≡ object_head other k → IsSameHead path other m k
same-head path other m k few less e =
    let whole : 79 ∷ (32 ∷ (print_path path ++ codes " " ++ decimal m)) ≡ 79 ∷ (32 ∷ (print_path other ++ codes " " ++ decimal k)) = e in
    let texts : print_path path ++ codes " " ++ decimal m ≡ print_path other ++ codes " " ++ decimal k = cc in
    let parts = cut-last 32 (print_path path) (decimal m) (print_path other) (decimal k) (no-space m few) (no-space k less)
    (sym (append_assoc (print_path path) (codes " ") (decimal m)) ∙ texts ∙ append_assoc (print_path other) (codes " ") (decimal k)) in
    let numbers : Some m ≡ Some k = sym (plain_number-decimal m (omega arith)) ∙ ap plain_number parts.1 ∙ plain_number-decimal k (omega arith) in
    record { path_is = parts.0; count = cc }

path-read : (path : Path) (r : Loaded) (k : ℕ) → IsSavedPath path → may_follow r.entries (SavedObject path []) ≡ true → k ≤ 1024 → line_read (Between r) (object_head path k) ≡ Some (in_object r path [] k)
path-read [] r k is follows few = absurd (let e = (follow-parts r.entries (SavedObject [] []) follows).some in cc)
path-read (n ∷ ns) r k is follows few = ap (λ o. option_or o None) (head-read r (n ∷ ns) k is.0 (path_text-print_path n ns is) follows few)

-- after it a reader is in that object
record IsHeadRead (r : Loaded) (path : Path) (m k : ℕ) (q : Position) : Type 0 where
  other : Path
  next : in_object r other [] m ≡ q
  again : line_read (Between r) (object_head path k) ≡ Some (in_object r other [] k)

head-again : (r : Loaded) (path : Path) (m k : ℕ) (q : Position) → m ≤ k → k ≤ 1024 → line_read (Between r) (object_head path m) ≡ Some q → IsHeadRead r path m k q
head-again r path m k q le few e = ⊎_elim of (λ h. absurd (let f = h in cc)) (or-some (object_line r text) None q e)
  where
    text : List ℕ
    text = print_path path ++ codes " " ++ decimal m

    of : object_line r text ≡ Some q → IsHeadRead r path m k q
    of h =
        let said = object_line-only r (object_head path m) text q refl h in
        let other = said.0 in
        let is = said.2 in
        let same = same-head path other m said.1 (omega arith) is.few is.line in
        record {
          other = other;
          next = ap (in_object r other []) same.count ∙ is.next;
          again = ap (λ t. line_read (Between r) (codes "O " ++ t ++ codes " " ++ decimal k)) same.path_is ∙ path-read other r k is.path_is is.follows few;
        }

-- ---- lowered lines

at-head : (p q q' : Position) (path : Path) (count : ℕ) (came : List (List ℕ)) → are_plain came ≡ true → list_all is_plain (object_head path (length came)) ≡ true → length came ≤ count → count ≤ 1024
    → line_read p (object_head path (length came)) ≡ Some q → read_all q came ≡ Some q' → (x : Position) × (read_all p (object_head path count ∷ came) ≡ Some x)
at-head First q q' path count came plain line le few e f = absurd (let h = e in cc)
at-head (Between r) q q' path count came plain line le few e f =
    let head = head-again r path (length came) count q le few e in
    let rest = more-to-come r head.other [] came count q' plain le (ap (λ p. read_all p came) head.next ∙ f) in
    (rest.0, ap (option_and_then (λ p. read_all p came)) head.again ∙ rest.1)
at-head (Within r other lines k) q q' path count came plain line le few e f = absurd (no-attribute r other lines k (print_path path ++ codes " " ++ decimal (length came)) q line e)
at-head (Behind i) q q' path count came plain line le few e f = absurd (let h = e in cc)

read_all-parts : (p q : Position) (ls ms : List (List ℕ)) → read_all p (ls ++ ms) ≡ Some q → (r : Position) × (read_all p ls ≡ Some r) × (read_all r ms ≡ Some q)
read_all-parts p q [] ms e = (p, refl, e)
read_all-parts p q (l ∷ ls) ms e =
    let one = and-then-some (λ r. read_all r (ls ++ ms)) (line_read p l) q e in
    let rest = read_all-parts one.0 q ls ms one.2 in
    (rest.0, ap (option_and_then (λ r. read_all r ls)) one.1 ∙ rest.1, rest.2)

-- lines without line feeds, and the same with the lowered count
record ArePlain (before : List (List ℕ)) (path : Path) (came : List (List ℕ)) : Type 0 where
  came_are : are_plain came ≡ true
  head : list_all is_plain (object_head path (length came)) ≡ true
  all : are_plain (before ++ object_head path (length came) ∷ came) ≡ true

lowered-plain : (before : List (List ℕ)) (path : Path) (count : ℕ) (came : List (List ℕ)) → length came ≤ 1024 → are_plain (before ++ object_head path count ∷ came) ≡ true → ArePlain before path came
lowered-plain before path count came few all =
    let whole = and_parts (are_plain before) (are_plain (object_head path count ∷ came)) (sym (list_all-append (λ l. list_all is_plain l) before (object_head path count ∷ came)) ∙ all) in
    let parts = and_parts (list_all is_plain (object_head path count)) (are_plain came) whole.1 in
    let front : List ℕ = codes "O " ++ print_path path ++ codes " " in
    let text = and_parts (list_all is_plain front) (list_all is_plain (decimal count)) (sym (list_all-append is_plain front (decimal count)) ∙ parts.0) in
    let head = append-plain front (decimal (length came)) text.0 (no-byte 10 is_digit (decimal (length came)) refl (decimal-digits (length came) (omega arith))) in
    record { came_are = parts.1; head = head; all = are-plain-append before (object_head path (length came) ∷ came) whole.0 (and_from _ _ head parts.1) }

-- lines in front of what is read are read
front-read : (n : ℕ) (p : Position) (ls : List (List ℕ)) (rest : List ℕ) (i : Image) → are_plain ls ≡ true → read_lines n p (pieces 10 (joined ls ++ rest)) ≡ Ok i → (q : Position) × (read_all p ls ≡ Some q)
front-read n p [] rest i plain e = (p, refl)
front-read n p (l ∷ ls) rest i plain e =
    let parts = and_parts (list_all is_plain l) (are_plain ls) plain in
    by parts.0 (λ q. front-read (n + 1) q ls rest i parts.1) (ap (λ bs. read_lines n p (pieces 10 bs)) (sym (append_assoc (text_line l) (joined ls) rest)) ∙ e) (line_read p l) refl
  where
    by : list_all is_plain l ≡ true → ((q : Position) → read_lines (n + 1) q (pieces 10 (joined ls ++ rest)) ≡ Ok i → (r : Position) × (read_all q ls ≡ Some r)) → read_lines n p (pieces 10 (text_line l ++ (joined ls ++ rest))) ≡ Ok i
        → (o : Option Position) → line_read p l ≡ o → (r : Position) × (option_and_then (λ q. read_all q ls) o ≡ Some r)
    by line rec h None is = absurd (let f = sym (line-refused n p l (joined ls ++ rest) line is) ∙ h in cc)
    by line rec h (Some q) is =
        let some = pieces-some 10 (joined ls ++ rest) in
        rec q (sym (one-more n p q l (pieces 10 (joined ls ++ rest)) some.0 some.1 some.2 is) ∙ ap (read_lines n p) (sym (cut l (joined ls ++ rest) line)) ∙ h)

-- what may begin an image is read
pub begun-read : (lines : List (List ℕ)) → are_plain lines ≡ true → BeginAnImage lines → (p : Position) × (read_all First lines ≡ Some p)
begun-read lines plain h = ⊎_elim same less h.are
  where
    read : are_plain h.lowered ≡ true → (p : Position) × (read_all First h.lowered ≡ Some p)
    read lines_plain = front-read 1 First h.lowered h.rest (record { default_limit = _; entries = h.image.entries }) lines_plain (images-read (joined h.lowered ++ h.rest) h.image)

    same : h.lowered ≡ lines → (p : Position) × (read_all First lines ≡ Some p)
    same is = subst (λ ls. (p : Position) × (read_all First ls ≡ Some p)) is (read (ap are_plain is ∙ plain))

    less : LowersCount lines h.lowered → (p : Position) × (read_all First lines ≡ Some p)
    less d =
        let fewer = d.fewer in
        let most = d.most in
        let all = lowered-plain d.before d.path d.count d.came (omega arith) (sym (ap are_plain d.lines_are) ∙ plain) in
        let one = read (ap are_plain d.lowered_are ∙ all.all) in
        let two = read_all-parts First one.0 d.before (object_head d.path (length d.came) ∷ d.came) (sym (ap (read_all First) d.lowered_are) ∙ one.1) in
        let three = and-then-some (λ p. read_all p d.came) (line_read two.0 (object_head d.path (length d.came))) one.0 two.2 in
        let found = at-head two.0 three.0 one.0 d.path d.count d.came all.came_are all.head fewer most three.1 three.2 in
        (found.0, ap (read_all First) d.lines_are ∙ read_all-append First two.0 d.before (object_head d.path d.count ∷ d.came) two.1 ∙ found.1)
