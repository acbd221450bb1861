-- How the definition reads a text from its front.
use Rattle.std.proofs.Common.{◌≡◌, ℕ, suc, ◌+◌, ◌<◌, ◌≤◌, Bool, true, false, eqb, List, [], ◌∷◌, ◌++◌, length, Option, Some, None, Result, Ok, Err, append_assoc, inl, inr, refl, sym, ap, ◌∙◌, arith}
use Rattle.std.specs.Prelude.{◌&&◌, option_map, option_and_then, IfSome, unwrap_or, codes, cond}
use Rattle.std.proofs.lemmas.Bool.{eqb-true, false≢true}
use Rattle.pps_types.specs.declared.refusal.Refusal.{Refusal}
use Rattle.pps_types.specs.declared.refusal.Refusal.TheVariants.{BadText, TooLarge}
use Rattle.pps_types.specs.declared.line.Mark.TheVariants.{Keep}
use Rattle.pps_types.specs.declared.line.WriteLine.{WriteLine}
use Rattle.pps_types.specs.declared.line.WriteLine.TheVariants.{Set as WriteSet}
use Rattle.pps_types.specs.Bytes.{split_at_first, is_empty, after_prefix, pieces, result_map}
use Rattle.pps_types.specs.Text.{is_attribute_name, is_encoding, without_empty_end, lines_of, write_line, line_or, write_lines, with_header, text_after, text_of_lines, write_text}
use Rattle.pps_types.proofs.Cuts.{pieces_of, pieces-split, split_at_first-shorter}
use Rattle.attr_text.specs.ReadWrite.{first_line_of, line_alone, single_line, text_of_line, IsSingle, IsLinesRefusal, IsTextRefusal}

-- ---- the first piece, and the pieces behind it

without_empty_end-cons : (line : List ℕ) (c : ℕ) (xs : List ℕ) → without_empty_end (line ∷ pieces c xs) ≡ line ∷ without_empty_end (pieces c xs)
without_empty_end-cons line c xs = rw pieces-split (by (split_at_first c xs))
  where
    by : (o : Option (List ℕ × List ℕ)) → without_empty_end (line ∷ pieces_of c xs o) ≡ line ∷ without_empty_end (pieces_of c xs o)
    by None = refl
    by (Some parts) = refl

-- a text that is not empty has a first line
pub lines_of-first : (b : ℕ) (bs : List ℕ) → lines_of (b ∷ bs) ≡ (first_line_of (b ∷ bs)).0 ∷ lines_of (first_line_of (b ∷ bs)).1
lines_of-first b bs = ap without_empty_end (pieces-split 10 (b ∷ bs)) ∙ by (split_at_first 10 (b ∷ bs))
  where
    by : (o : Option (List ℕ × List ℕ)) → without_empty_end (pieces_of 10 (b ∷ bs) o)
        ≡ (unwrap_or o (b ∷ bs, [])).0 ∷ lines_of (unwrap_or o (b ∷ bs, [])).1
    by None = refl
    by (Some parts) = without_empty_end-cons parts.0 10 parts.1

-- what stands behind the first is shorter
pub first_line_of-shorter : (b : ℕ) (bs : List ℕ) → length (first_line_of (b ∷ bs)).1 < length (b ∷ bs)
first_line_of-shorter b bs = by (split_at_first 10 (b ∷ bs)) (split_at_first-shorter 10 (b ∷ bs))
  where
    by : (o : Option (List ℕ × List ℕ)) → IfSome {T = List ℕ × List ℕ} o (λ parts. length parts.1 < length (b ∷ bs)) → length (unwrap_or o (b ∷ bs, [])).1 < length (b ∷ bs)
    by None shorter = omega arith
    by (Some parts) shorter = shorter

-- the first line begins as the text does, where that is no line feed
first_line_of-begins : (b : ℕ) (bs : List ℕ) → eqb b 10 ≡ false
    → ◌≡◌ {A = List ℕ × List ℕ} (first_line_of (b ∷ bs)) (b ∷ (first_line_of bs).0, (first_line_of bs).1)
first_line_of-begins b bs other = rw other (by (split_at_first 10 bs))
  where
    by : (o : Option (List ℕ × List ℕ))
        → ◌≡◌ {A = List ℕ × List ℕ} (unwrap_or (option_map (λ parts. (b ∷ parts.0, parts.1)) o) (b ∷ bs, [])) (b ∷ (unwrap_or o (bs, [])).0, (unwrap_or o (bs, [])).1)
    by None = refl
    by (Some parts) = refl

-- ---- headers

-- a text that begins with `@`
at-begins : (bytes behind : List ℕ) → after_prefix (codes "@") bytes ≡ Some behind → bytes ≡ 64 ∷ behind
at-begins [] behind is = cc
at-begins (b ∷ bs) behind is = by (eqb 64 b) refl is
  where
    by : (v : Bool) → eqb 64 b ≡ v → cond v (Some bs) None ≡ Some behind → b ∷ bs ≡ 64 ∷ behind
    by true same rest = let first = eqb-true 64 b same in cc
    by false same rest = cc

pub write_text-header : (bytes behind : List ℕ) → after_prefix (codes "@") bytes ≡ Some behind
    → write_text bytes ≡ with_header (Some (first_line_of behind).0) (write_lines 2 (lines_of (first_line_of behind).1))
write_text-header bytes behind is = ap write_text (at-begins bytes behind is)
    ∙ ap text_of_lines (lines_of-first 64 behind)
    ∙ ap (λ parts. text_of_lines (parts.0 ∷ lines_of parts.1)) (first_line_of-begins 64 behind refl)

first_line_of-plain : (b : ℕ) (bs : List ℕ) → eqb 64 b ≡ false → after_prefix (codes "@") (first_line_of (b ∷ bs)).0 ≡ None
first_line_of-plain b bs other = by (eqb b 10)
  where
    begins : (o : Option (List ℕ × List ℕ)) → after_prefix (codes "@") (unwrap_or {T = List ℕ × List ℕ} (option_map (λ parts. (b ∷ parts.0, parts.1)) o) (b ∷ bs, [])).0 ≡ None
    begins None = rw other refl
    begins (Some parts) = rw other refl

    by : (v : Bool) → after_prefix (codes "@") (unwrap_or {T = List ℕ × List ℕ} (cond v (Some ([], bs)) (option_map (λ parts. (b ∷ parts.0, parts.1)) (split_at_first 10 bs))) (b ∷ bs, [])).0 ≡ None
    by true = refl
    by false = begins (split_at_first 10 bs)

at-other : (b : ℕ) (bs : List ℕ) → after_prefix (codes "@") (b ∷ bs) ≡ None → eqb 64 b ≡ false
at-other b bs none = by (eqb 64 b) none
  where
    by : (v : Bool) → cond v (Some bs) None ≡ None → v ≡ false
    by true no_rest = cc
    by false no_rest = refl

-- a text that does not
pub write_text-plain : (bytes : List ℕ) → after_prefix (codes "@") bytes ≡ None → write_text bytes ≡ with_header None (write_lines 1 (lines_of bytes))
write_text-plain [] none = refl
write_text-plain (b ∷ bs) none =
    ap text_of_lines (lines_of-first b bs)
    ∙ rw (first_line_of-plain b bs (at-other b bs none)) (ap (λ lines. with_header None (write_lines 1 lines)) (sym (lines_of-first b bs)))

pub first_line_of-within : (bytes : List ℕ) → length (first_line_of bytes).1 ≤ length bytes
first_line_of-within [] = omega arith
first_line_of-within (b ∷ bs) = omega (arith, first_line_of-shorter b bs)

-- what a header leaves for the lines
pub header-leaves : (bytes behind header rest : List ℕ) → after_prefix (codes "@") bytes ≡ Some behind
    → ◌≡◌ {A = List ℕ × List ℕ} (header, rest) (first_line_of behind) → length rest ≤ length bytes
header-leaves bytes behind header rest is parts =
    let same : rest ≡ (first_line_of behind).1 = ap (λ p. p.1) parts in
    let begins = at-begins bytes behind is in
    let longer : length bytes ≡ suc (length behind) = ap length begins in
    rw same (omega (arith, longer, first_line_of-within behind))

pub write_text-parts : (bytes behind header rest : List ℕ) → after_prefix (codes "@") bytes ≡ Some behind
    → ◌≡◌ {A = List ℕ × List ℕ} (header, rest) (first_line_of behind)
    → write_text bytes ≡ with_header (Some header) (write_lines 2 (lines_of rest))
write_text-parts bytes behind header rest is parts = write_text-header bytes behind is
    ∙ sym (ap (λ p. with_header (Some p.0) (write_lines 2 (lines_of p.1))) parts)

-- a text is refused as its lines are
pub text-refused : (bytes : List ℕ) (header : Option (List ℕ)) (first : ℕ) (rest : List ℕ) (refusal : Refusal)
    → write_text bytes ≡ with_header header (write_lines first (lines_of rest)) → IsLinesRefusal first rest refusal → IsTextRefusal bytes refusal
text-refused bytes header first rest refusal is (inl wanting) = inl wanting
text-refused bytes header first rest refusal is (inr bad) = inr (is ∙ ap (with_header header) bad)

-- ---- lines, one after the other

-- what was read so far, and then the rest
abbrev pub after_lines : List WriteLine → Result (List WriteLine) Refusal → Result (List WriteLine) Refusal
after_lines lines rest = result_map (λ more. lines ++ more) rest

pub after_lines-push : (lines : List WriteLine) (line : WriteLine) (rest : Result (List WriteLine) Refusal)
    → after_lines lines (result_map (λ more. line ∷ more) rest) ≡ after_lines (lines ++ line ∷ []) rest
after_lines-push lines line (Ok more) = rw append_assoc refl
after_lines-push lines line (Err refusal) = refl

-- ---- one line of a rest that is not empty

-- what the test of emptiness says
pub some-bytes : (xs : List ℕ) → false ≡ eqb (length xs) 0 → 0 < length xs
some-bytes [] test = absurd (false≢true test)
some-bytes (x ∷ xs) test = omega arith

pub no-bytes : (xs : List ℕ) → true ≡ eqb (length xs) 0 → length xs ≡ 0
no-bytes xs test = eqb-true _ _ (sym test)

pub lines_of-parts : (rest line behind : List ℕ) → 0 < length rest → ◌≡◌ {A = List ℕ × List ℕ} (line, behind) (first_line_of rest)
    → lines_of rest ≡ line ∷ lines_of behind
lines_of-parts [] line behind some parts = absurd (omega arith)
lines_of-parts (b ∷ bs) line behind some parts = lines_of-first b bs ∙ sym (ap (λ p. p.0 ∷ lines_of p.1) parts)

pub behind-shorter : (rest line behind : List ℕ) → 0 < length rest → ◌≡◌ {A = List ℕ × List ℕ} (line, behind) (first_line_of rest)
    → length behind < length rest
behind-shorter [] line behind some parts = absurd (omega arith)
behind-shorter (b ∷ bs) line behind some parts =
    let same : behind ≡ (first_line_of (b ∷ bs)).1 = ap (λ p. p.1) parts in
    rw same (first_line_of-shorter b bs)

-- an empty line is skipped
pub write_lines-skip : (n : ℕ) (lines : List WriteLine) (rest line behind : List ℕ) (all : Result (List WriteLine) Refusal)
    → all ≡ after_lines lines (write_lines n (lines_of rest)) → lines_of rest ≡ line ∷ lines_of behind → length line ≡ 0
    → all ≡ after_lines lines (write_lines (n + 1) (lines_of behind))
write_lines-skip n lines rest [] behind all so_far first empty = so_far ∙ ap (λ ls. after_lines lines (write_lines n ls)) first
write_lines-skip n lines rest (b ∷ bs) behind all so_far first empty = absurd (omega arith)

-- a good line is one more
pub write_lines-push : (n : ℕ) (lines : List WriteLine) (rest line behind : List ℕ) (all : Result (List WriteLine) Refusal) (read : WriteLine)
    → all ≡ after_lines lines (write_lines n (lines_of rest)) → lines_of rest ≡ line ∷ lines_of behind → 0 < length line → write_line line ≡ Some read
    → all ≡ after_lines (lines ++ read ∷ []) (write_lines (n + 1) (lines_of behind))
write_lines-push n lines rest [] behind all read so_far first some is = absurd (omega arith)
write_lines-push n lines rest (b ∷ bs) behind all read so_far first some is =
    so_far ∙ ap (λ ls. after_lines lines (write_lines n ls)) first
    ∙ ap (λ o. after_lines lines (line_or n o (write_lines (n + 1) (lines_of behind)))) is
    ∙ after_lines-push lines read (write_lines (n + 1) (lines_of behind))

-- a bad line is named
pub write_lines-bad : (n : ℕ) (lines : List WriteLine) (rest line behind : List ℕ) (all : Result (List WriteLine) Refusal)
    → all ≡ after_lines lines (write_lines n (lines_of rest)) → lines_of rest ≡ line ∷ lines_of behind → 0 < length line → write_line line ≡ None
    → all ≡ Err (BadText n)
write_lines-bad n lines rest [] behind all so_far first some is = absurd (omega arith)
write_lines-bad n lines rest (b ∷ bs) behind all so_far first some is =
    so_far ∙ ap (λ ls. after_lines lines (write_lines n ls)) first
    ∙ ap (λ o. after_lines lines (line_or n o (write_lines (n + 1) (lines_of behind)))) is

-- ---- a text of one line

-- no line that is good begins with `@`
at-no-line : (bs : List ℕ) → write_line (64 ∷ bs) ≡ None
at-no-line bs = named (split_at_first 58 bs)
  where
    encoded : (name : List ℕ) (o : Option (List ℕ × List ℕ))
        → option_and_then (λ (parts : List ℕ × List ℕ). cond (is_attribute_name (64 ∷ name) && is_encoding parts.0) (Some (WriteSet (64 ∷ name) parts.0 parts.1 Keep)) None) o ≡ None
    encoded name None = refl
    encoded name (Some parts) = refl

    named : (o : Option (List ℕ × List ℕ))
        → option_and_then
        (λ (name : List ℕ × List ℕ). option_and_then (λ (parts : List ℕ × List ℕ). cond (is_attribute_name name.0 && is_encoding parts.0) (Some (WriteSet name.0 parts.0 parts.1 Keep)) None) (split_at_first 58 name.1))
        (option_map (λ (parts : List ℕ × List ℕ). (64 ∷ parts.0, parts.1)) o)
        ≡ None
    named None = refl
    named (Some parts) = encoded parts.0 (split_at_first 58 parts.1)

-- so such a line is no header
line-no-header : (l : List ℕ) (line : WriteLine) → write_line l ≡ Some line → after_prefix (codes "@") l ≡ None
line-no-header [] line is = refl
line-no-header (b ∷ bs) line is = by (eqb 64 b) refl
  where
    by : (v : Bool) → eqb 64 b ≡ v → cond v (Some bs) None ≡ None
    by true same =
        let begins : 64 ≡ b = eqb-true 64 b same in
        let none : write_line (b ∷ bs) ≡ None = ap (λ n. write_line (n ∷ bs)) (sym begins) ∙ at-no-line bs in
        absurd (let bad : Some line ≡ None = sym is ∙ none in cc)
    by false same = refl

-- a good line alone is the text
text-of-one : (l : List ℕ) (line : WriteLine) → write_line l ≡ Some line → text_of_lines (l ∷ []) ≡ Ok (text_of_line line)
text-of-one [] line is = absurd (let bad = is in cc)
text-of-one (b ∷ bs) line is =
    ap (λ o. text_after o ((b ∷ bs) ∷ []) []) (line-no-header (b ∷ bs) line is)
    ∙ ap (λ o. with_header None (line_or 1 o (Ok []))) is

text-alone : (ls : List (List ℕ)) (line : WriteLine) → line_alone ls ≡ Some line → text_of_lines ls ≡ Ok (text_of_line line)
text-alone [] line is = absurd (let bad = is in cc)
text-alone (l ∷ []) line is = text-of-one l line is
text-alone (l ∷ m ∷ ms) line is = absurd (let bad = is in cc)

pub single-text : (bytes : List ℕ) (read : Option WriteLine) → read ≡ single_line bytes → IfSome read (IsSingle bytes)
single-text bytes None is = tt
single-text bytes (Some line) is = text-alone (lines_of bytes) line (sym is)

-- the first line, if nothing is after it
pub single-first : (bytes line rest : List ℕ) → ◌≡◌ {A = List ℕ × List ℕ} (line, rest) (first_line_of bytes) → length rest ≡ 0 → write_line line ≡ single_line bytes
single-first [] line rest parts none = ap (λ p. write_line p.0) parts
single-first (b ∷ bs) line [] parts none = sym (ap line_alone (lines_of-parts (b ∷ bs) line [] (omega arith) parts))
single-first (b ∷ bs) line (c ∷ cs) parts none = absurd (omega arith)

-- none, if something is
pub single-none : (bytes line rest : List ℕ) → ◌≡◌ {A = List ℕ × List ℕ} (line, rest) (first_line_of bytes) → 0 < length rest → None ≡ single_line bytes
single-none [] line [] parts some = absurd (omega arith)
single-none [] line (c ∷ cs) parts some = absurd (let bad : c ∷ cs ≡ [] = ap (λ p. p.1) parts in cc)
single-none (b ∷ bs) line [] parts some = absurd (omega arith)
single-none (b ∷ bs) line (c ∷ cs) parts some =
    sym (ap line_alone (lines_of-parts (b ∷ bs) line (c ∷ cs) (omega arith) parts ∙ ap (λ ls. line ∷ ls) (lines_of-first c cs)))

-- ---- no text is refused for its size

map-err : {A B : Type 0} (f : A → B) (r : Result A Refusal) (refusal : Refusal) → result_map f r ≡ Err refusal → r ≡ Err refusal
map-err f (Ok x) refusal is = cc
map-err f (Err e) refusal is = cc

write_lines-fit : (n : ℕ) (ls : List (List ℕ)) → write_lines n ls ≡ Err TooLarge → ⊥
write_lines-fit n [] is = cc
write_lines-fit n (l ∷ ls) is = by (write_lines-fit (n + 1) ls) (is_empty l) (write_line l) is
  where
    by : (write_lines (n + 1) ls ≡ Err TooLarge → ⊥) → (b : Bool) (o : Option WriteLine)
        → cond b (write_lines (n + 1) ls) (line_or n o (write_lines (n + 1) ls)) ≡ Err TooLarge → ⊥
    by rest true o here = rest here
    by rest false None here = cc
    by rest false (Some line) here = rest (map-err _ _ _ here)

pub write_text-fits : (bytes : List ℕ) → write_text bytes ≡ Err TooLarge → ⊥
write_text-fits bytes = by (lines_of bytes)
  where
    after : (o : Option (List ℕ)) (all others : List (List ℕ)) → text_after o all others ≡ Err TooLarge → ⊥
    after None all others is = write_lines-fit 1 all (map-err _ _ _ is)
    after (Some header) all others is = write_lines-fit 2 others (map-err _ _ _ is)

    by : (ls : List (List ℕ)) → text_of_lines ls ≡ Err TooLarge → ⊥
    by [] is = cc
    by (l ∷ ls) is = after (after_prefix (codes "@") l) (l ∷ ls) ls is

pub text-too-large : (bytes : List ℕ) → IsTextRefusal bytes TooLarge → ⊥
text-too-large bytes (inl wanting) = cc
text-too-large bytes (inr bad) = write_text-fits bytes bad
