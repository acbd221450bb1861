-- How long the lines of a written text are when they are printed.
use Rattle.std.proofs.Common.{arith}
use Rattle.std.specs.Prelude.{◌≡◌, ◌≤◌, ℕ, ◌+◌, ◌*◌, List, [], ◌∷◌, ◌++◌, ◌&&◌, ◌==◌, Bool, true, false, cond, Option, Some, None, option_map, option_and_then, Result, Ok, Err, length, codes, map, filter}
use Rattle.std.proofs.lemmas.List.{length-append}
use Rattle.std.specs.Option.{option_or}
use Rattle.pps_types.specs.declared.refusal.Refusal.{Refusal}
use Rattle.pps_types.specs.declared.line.Line.{Line}
use Rattle.pps_types.specs.declared.line.Line.TheVariants.{Set, Del}
use Rattle.pps_types.specs.declared.line.Mark.{Mark}
use Rattle.pps_types.specs.declared.line.Mark.TheVariants.{Keep, On, Off}
use Rattle.pps_types.specs.declared.line.WriteLine.{WriteLine}
use Rattle.pps_types.specs.declared.line.WriteLine.TheVariants.{Set as WriteSet, Del as WriteDel}
use Rattle.pps_types.specs.Bytes.{is_empty, after_prefix, split_at_first, onto_first, pieces, result_map}
use Rattle.pps_types.specs.Text.{is_attribute_name, is_encoding, set_line, deletion_line, write_line, without_empty_end, lines_of, line_or, write_lines, WriteText, with_header, text_after, text_of_lines, write_text, print_line, print_lines}
use Rattle.pps_types.specs.History.{Attribute, line_of, text_length, resolved, resolve, apply_line, message_line, marked_by, is_marked}
use Rattle.service_laws.proofs.Finds.{OfSome}

-- ---- what holds of a result

abbrev pub OfOk : {X : Type 0} → (X → Type 0) → Result X Refusal → Type 0
OfOk P (Ok x) = P x
OfOk P (Err r) = Unit {0}

pub some-or : {X : Type 0} (P : X → Type 0) (a b : Option X) → OfSome P a → OfSome P b → OfSome P (option_or a b)
some-or P None b p q = q
some-or P (Some x) b p q = p

pub some-then : {X Y : Type 0} (Q : X → Type 0) (P : Y → Type 0) (f : X → Option Y) (o : Option X) → OfSome Q o → ((x : X) → Q x → OfSome P (f x)) → OfSome P (option_and_then f o)
some-then Q P f None q k = tt
some-then Q P f (Some x) q k = k x q

pub some-map : {X Y : Type 0} (Q : X → Type 0) (P : Y → Type 0) (f : X → Y) (o : Option X) → OfSome Q o → ((x : X) → Q x → P (f x)) → OfSome P (option_map f o)
some-map Q P f None q k = tt
some-map Q P f (Some x) q k = k x q

pub some-if : {X : Type 0} (P : X → Type 0) (b : Bool) (x : X) → P x → OfSome P (cond b (Some x) None)
some-if P true x p = p
some-if P false x p = tt

ok-map : {X Y : Type 0} (Q : X → Type 0) (P : Y → Type 0) (f : X → Y) (o : Result X Refusal) → OfOk Q o → ((x : X) → Q x → P (f x)) → OfOk P (result_map f o)
ok-map Q P f (Err r) q k = tt
ok-map Q P f (Ok x) q k = k x q

-- ---- parts of bytes

splits : (c : ℕ) (bs : List ℕ) → OfSome (λ (p : List ℕ × List ℕ). length p.0 + length p.1 + 1 ≡ length bs) (split_at_first c bs)
splits c [] = tt
splits c (b ∷ bs) = elim (b == c) as (λ t. OfSome (λ (p : List ℕ × List ℕ). length p.0 + length p.1 + 1 ≡ length (b ∷ bs)) (cond t (Some ([], bs)) (option_map (λ parts. (b ∷ parts.0, parts.1)) (split_at_first c bs)))) [
  | true ↦ omega arith
  | false ↦ some-map (λ (p : List ℕ × List ℕ). length p.0 + length p.1 + 1 ≡ length bs) (λ (p : List ℕ × List ℕ). length p.0 + length p.1 + 1 ≡ length (b ∷ bs)) (λ parts. (b ∷ parts.0, parts.1)) (split_at_first c bs) (splits c bs) (λ p e. omega (arith, e))
]

prefixes : (ps bs : List ℕ) → OfSome (λ (r : List ℕ). length ps + length r ≡ length bs) (after_prefix ps bs)
prefixes [] bs = omega arith
prefixes (p ∷ ps) [] = tt
prefixes (p ∷ ps) (b ∷ bs) = elim (p == b) as (λ t. OfSome (λ (r : List ℕ). length (p ∷ ps) + length r ≡ length (b ∷ bs)) (cond t (after_prefix ps bs) None))
    [ true ↦ weaker (after_prefix ps bs) (prefixes ps bs) | false ↦ tt ]
  where
    weaker : (o : Option (List ℕ)) → OfSome (λ (r : List ℕ). length ps + length r ≡ length bs) o → OfSome (λ (r : List ℕ). length (p ∷ ps) + length r ≡ length (b ∷ bs)) o
    weaker None h = tt
    weaker (Some r) h = omega (arith, h)

-- ---- written lines

abbrev weight : WriteLine → ℕ
weight (WriteSet name enc value mark) = length name + length enc + length value + 2
weight (WriteDel name) = length name + 1

abbrev IsLight : ℕ → WriteLine → Type 0
IsLight most w = weight w ≤ most

light-set : (mark : Mark) (bs : List ℕ) → OfSome (IsLight (length bs)) (set_line mark bs)
light-set mark bs =
    some-then (λ (p : List ℕ × List ℕ). length p.0 + length p.1 + 1 ≡ length bs) (IsLight (length bs)) _ (split_at_first 58 bs) (splits 58 bs) (λ named e.
    some-then (λ (p : List ℕ × List ℕ). length p.0 + length p.1 + 1 ≡ length named.1) (IsLight (length bs)) _ (split_at_first 58 named.1) (splits 58 named.1) (λ encoded f.
    some-if (IsLight (length bs)) (is_attribute_name named.0 && is_encoding encoded.0) (WriteSet named.0 encoded.0 encoded.1 mark) (omega (arith, e, f))))

light-deletion : (bs : List ℕ) → OfSome (IsLight (length bs + 1)) (deletion_line bs)
light-deletion bs = some-if (IsLight (length bs + 1)) (is_attribute_name bs) (WriteDel bs) (omega arith)

lighter : (most more : ℕ) → most ≤ more → (o : Option WriteLine) → OfSome (IsLight most) o → OfSome (IsLight more) o
lighter most more le None h = tt
lighter most more le (Some w) h = omega (arith, h, le)

light-line : (bs : List ℕ) → OfSome (IsLight (length bs)) (write_line bs)
light-line bs =
    some-or (IsLight (length bs)) (option_and_then deletion_line (after_prefix (codes "-") bs)) _
    (some-then (λ (r : List ℕ). length (codes "-") + length r ≡ length bs) (IsLight (length bs)) deletion_line (after_prefix (codes "-") bs) (prefixes (codes "-") bs) (λ r e. lighter (length r + 1) (length bs) (omega (arith, e)) (deletion_line r) (light-deletion r)))
    (some-or (IsLight (length bs)) (option_and_then (set_line On) (after_prefix (codes "[n]") bs)) _
    (some-then (λ (r : List ℕ). length (codes "[n]") + length r ≡ length bs) (IsLight (length bs)) (set_line On) (after_prefix (codes "[n]") bs) (prefixes (codes "[n]") bs) (λ r e. lighter (length r) (length bs) (omega (arith, e)) (set_line On r) (light-set On r)))
    (some-or (IsLight (length bs)) (option_and_then (set_line Off) (after_prefix (codes "[-n]") bs)) _
    (some-then (λ (r : List ℕ). length (codes "[-n]") + length r ≡ length bs) (IsLight (length bs)) (set_line Off) (after_prefix (codes "[-n]") bs) (prefixes (codes "[-n]") bs) (λ r e. lighter (length r) (length bs) (omega (arith, e)) (set_line Off r) (light-set Off r)))
    (light-set Keep bs)))

-- ---- all lines

-- with one for each line
abbrev total : List (List ℕ) → ℕ
total [] = 0
total (l ∷ ls) = length l + 1 + total ls

abbrev heavy : List WriteLine → ℕ
heavy [] = 0
heavy (w ∷ ws) = weight w + 1 + heavy ws

total-pieces : (c : ℕ) (bs : List ℕ) → total (pieces c bs) ≤ length bs + 1
total-pieces c [] = omega arith
total-pieces c (b ∷ bs) = elim (b == c) as (λ t. total (cond t ([] ∷ pieces c bs) (onto_first b (pieces c bs))) ≤ length (b ∷ bs) + 1) [ true ↦ omega (arith, total-pieces c bs) | false ↦ onto (pieces c bs) (total-pieces c bs) ]
  where
    onto : (ps : List (List ℕ)) → total ps ≤ length bs + 1 → total (onto_first b ps) ≤ length (b ∷ bs) + 1
    onto [] le = omega arith
    onto (p ∷ ps) le = omega (arith, le)

total-without : (ls : List (List ℕ)) → total (without_empty_end ls) ≤ total ls
total-without [] = omega arith
total-without (l ∷ []) = elim (is_empty l) as (λ b. total (cond b [] (l ∷ [])) ≤ length l + 1 + 0) [ true ↦ omega arith | false ↦ omega arith ]
total-without (l ∷ m ∷ ms) = let rest = total-without (m ∷ ms) in omega (arith, rest)

heavy-lines : (n : ℕ) (ls : List (List ℕ)) → OfOk (λ ws. heavy ws ≤ total ls) (write_lines n ls)
heavy-lines n [] = omega arith
heavy-lines n (l ∷ ls) = elim (is_empty l) as (λ b. OfOk (λ ws. heavy ws ≤ total (l ∷ ls)) (cond b (write_lines (n + 1) ls) (line_or n (write_line l) (write_lines (n + 1) ls))))
    [ true ↦ skipped (write_lines (n + 1) ls) (heavy-lines (n + 1) ls) | false ↦ joined (write_line l) (light-line l) (write_lines (n + 1) ls) (heavy-lines (n + 1) ls) ]
  where
    skipped : (r : Result (List WriteLine) Refusal) → OfOk (λ ws. heavy ws ≤ total ls) r → OfOk (λ ws. heavy ws ≤ total (l ∷ ls)) r
    skipped (Ok ws) h = omega (arith, h)
    skipped (Err e) h = tt

    joined : (o : Option WriteLine) → OfSome (IsLight (length l)) o → (r : Result (List WriteLine) Refusal) → OfOk (λ ws. heavy ws ≤ total ls) r → OfOk (λ ws. heavy ws ≤ total (l ∷ ls)) (line_or n o r)
    joined None light r h = tt
    joined (Some w) light (Err e) h = tt
    joined (Some w) light (Ok ws) h = omega (arith, light, h)

heavy-text : (bytes : List ℕ) → OfOk (λ (t : WriteText). heavy t.lines ≤ length bytes + 1) (write_text bytes)
heavy-text bytes = go (lines_of bytes) (let a = total-without (pieces 10 bytes) in let b = total-pieces 10 bytes in omega (arith, a, b))
  where
    headed : (header : Option (List ℕ)) (most : ℕ) (r : Result (List WriteLine) Refusal) → OfOk (λ ws. heavy ws ≤ most) r → most ≤ length bytes + 1 → OfOk (λ (t : WriteText). heavy t.lines ≤ length bytes + 1) (with_header header r)
    headed header most (Ok ws) h le = omega (arith, h, le)
    headed header most (Err e) h le = tt

    go : (ls : List (List ℕ)) → total ls ≤ length bytes + 1 → OfOk (λ (t : WriteText). heavy t.lines ≤ length bytes + 1) (text_of_lines ls)
    go [] le = omega arith
    go (l ∷ ls) le = pick (after_prefix (codes "@") l)
      where
        pick : (o : Option (List ℕ)) → OfOk (λ (t : WriteText). heavy t.lines ≤ length bytes + 1) (text_after o (l ∷ ls) ls)
        pick None = headed None (total (l ∷ ls)) (write_lines 1 (l ∷ ls)) (heavy-lines 1 (l ∷ ls)) le
        pick (Some header) = headed (Some header) (total ls) (write_lines 2 ls) (heavy-lines 2 ls) (omega (arith, le))

-- ---- printings

set-length : (name enc value : List ℕ) (n : Bool) → length (print_line (Set name enc value n)) ≤ length name + length enc + length value + 6
set-length name enc value n = elim n as (λ b. length ((cond b (codes "[n]") []) ++ name ++ codes ":" ++ enc ++ codes ":" ++ value ++ (10 ∷ [])) ≤ length name + length enc + length value + 6)
    [ true ↦ simp (length-append) (omega arith) | false ↦ simp (length-append) (omega arith) ]

del-length : (name : List ℕ) → length (print_line (Del name)) ≤ length name + 2
del-length name = simp (length-append) (omega arith)

resolved-length : (attributes : List Attribute) (w : WriteLine) → length (print_line (resolved attributes w)) ≤ weight w + 4
resolved-length attributes (WriteSet name enc value mark) = let le = set-length name enc value (marked_by mark (is_marked name attributes)) in omega (arith, le)
resolved-length attributes (WriteDel name) = let le = del-length name in omega (arith, le)

message-length : (w : WriteLine) → length (print_line (message_line w)) ≤ weight w + 4
message-length (WriteSet name enc value mark) = let le = set-length name enc value (marked_by mark false) in omega (arith, le)
message-length (WriteDel name) = let le = del-length name in omega (arith, le)

resolve-length : (attributes : List Attribute) (ws : List WriteLine) → length (print_lines (resolve attributes ws)) ≤ 4 * heavy ws
resolve-length attributes [] = omega arith
resolve-length attributes (w ∷ ws) =
    let first = resolved-length attributes w in let rest = resolve-length (apply_line attributes (resolved attributes w)) ws in
    rw (length-append (print_line (resolved attributes w)) (print_lines (resolve (apply_line attributes (resolved attributes w)) ws))) (omega (arith, first, rest))

messages-length : (ws : List WriteLine) → length (print_lines (map message_line ws)) ≤ 4 * heavy ws
messages-length [] = omega arith
messages-length (w ∷ ws) =
    let first = message-length w in let rest = messages-length ws in
    rw (length-append (print_line (message_line w)) (print_lines (map message_line ws))) (omega (arith, first, rest))

-- both ways in which the lines of a text are recorded
abbrev pub PrintsShort : WriteText → Type 0
PrintsShort t = ((attributes : List Attribute) → length (print_lines (resolve attributes t.lines)) ≤ 400000) × (length (print_lines (map message_line t.lines)) ≤ 400000)

pub prints-short : (bytes : List ℕ) → length bytes ≤ 65536 → OfOk PrintsShort (write_text bytes)
prints-short bytes le = go (write_text bytes) (heavy-text bytes)
  where
    go : (r : Result WriteText Refusal) → OfOk (λ (t : WriteText). heavy t.lines ≤ length bytes + 1) r → OfOk PrintsShort r
    go (Err e) h = tt
    go (Ok t) h = ((λ attributes. let long = resolve-length attributes t.lines in omega (arith, long, h, le)), (let long = messages-length t.lines in omega (arith, long, h, le)))

-- ---- attributes taken out

pub kept-length : (p : Attribute → Bool) (attributes : List Attribute) → text_length (filter p attributes) ≤ text_length attributes
kept-length p [] = omega arith
kept-length p (a ∷ attributes) = let rest = kept-length p attributes in
    rw (length-append (print_line (line_of a)) (print_lines (map line_of attributes)))
    (elim (p a) as (λ b. length (print_lines (map line_of (cond b (a ∷ filter p attributes) (filter p attributes)))) ≤ length (print_line (line_of a)) + length (print_lines (map line_of attributes)))
    [ true ↦ rw (length-append (print_line (line_of a)) (print_lines (map line_of (filter p attributes)))) (omega (arith, rest)) | false ↦ omega (arith, rest) ])

pub kept-lines : (p : Line → Bool) (lines : List Line) → length (print_lines (filter p lines)) ≤ length (print_lines lines)
kept-lines p [] = omega arith
kept-lines p (l ∷ lines) = let rest = kept-lines p lines in
    rw (length-append (print_line l) (print_lines lines))
    (elim (p l) as (λ b. length (print_lines (cond b (l ∷ filter p lines) (filter p lines))) ≤ length (print_line l) + length (print_lines lines))
    [ true ↦ rw (length-append (print_line l) (print_lines (filter p lines))) (omega (arith, rest)) | false ↦ omega (arith, rest) ])
