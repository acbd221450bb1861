-- The bad lines of some lines and others after them, and what is reported of these.
use Rattle.std.proofs.Common.{◌≡◌, ◌≢◌, ◌+◌, ◌-◌, ◌≤◌, ℕ, suc, length, min, take, Bool, true, false, List, [], ◌∷◌, ◌++◌, Option, Some, None, Result, Ok, Err, append_assoc, append-nil, refl, sym, ap, subst, ◌∙◌, arith}
use Rattle.std.proofs.lemmas.List.{length-append}
use Rattle.std.proofs.Math.Seq.{take-append_seam}
use Rattle.pps_types.specs.Bytes.{split_at_first, pieces}
use Rattle.pps_types.specs.Text.{lines_of, without_empty_end}
use Rattle.pps_types.specs.Device.{counted_once_more, last_count}
use Rattle.pps_types.proofs.Cuts.{pieces-first, pieces-one}
use Rattle.script_text.specs.declared.script_line.ScriptLine.{ScriptLine}
use Rattle.script_text.specs.declared.script_line.ScriptLine.TheVariants.{Nothing, Command}
use Rattle.script_text.specs.ScriptLines.{line_of}
use Rattle.script_text.specs.Script.{Script, script, or_nothing, with_line, whole_lines}
use Rattle.script_text.proofs.Pieces.{pieces-some, pieces-behind, none-behind, no-first}
use Rattle.pps_script.specs.declared.fault.ScriptFault.{ScriptFault}
use Rattle.pps_script.specs.Lines.{IsPart}
use Rattle.pps_script.specs.BadLines.{if_bad, bad_after, passed, ReportsEach, ReportsUpTo, ReportsFirst, ReportsLines}

-- ---- the bad ones of two lists of lines

bad_after-append : (count more : ℕ) (xs ys : List (List ℕ)) → count ≤ last_count → more ≡ min (count + length xs) last_count
    → bad_after count (xs ++ ys) ≡ bad_after count xs ++ bad_after more ys
bad_after-append count more [] ys fits is = ap (λ (n : ℕ). bad_after n ys) (omega arith)
bad_after-append count more (x ∷ xs) ys fits is =
    ap (λ (ns : List ℕ). if_bad (counted_once_more count) (line_of x) ++ ns) (bad_after-append (counted_once_more count) more xs ys (omega arith) (omega arith))
    ∙ sym (append_assoc (if_bad (counted_once_more count) (line_of x)) (bad_after (counted_once_more count) xs) (bad_after more ys))

pub passed-append : (patient : Bool) (count more : ℕ) (xs ys : List (List ℕ)) → count ≤ last_count → more ≡ min (count + length xs) last_count
    → passed patient count (xs ++ ys) ≡ passed patient count xs ++ passed patient more ys
passed-append false count more xs ys fits is = refl
passed-append true count more xs ys fits is = bad_after-append count more xs ys fits is

-- a script that goes on after bad lines has none
pub patient-good : (lines : List (List ℕ)) → (script true lines).bad ≡ None
patient-good [] = refl
patient-good (line ∷ lines) = by (line_of line) (patient-good lines)
  where
    by : (said : Option ScriptLine) → (script true lines).bad ≡ None → (with_line (or_nothing true said) (script true lines)).bad ≡ None
    by None good = ap (λ (bad : Option ℕ). (with_line (Some Nothing) record { events = []; bad = bad }).bad) good
    by (Some Nothing) good = ap (λ (bad : Option ℕ). (with_line (Some Nothing) record { events = []; bad = bad }).bad) good
    by (Some (Command e)) good = ap (λ (bad : Option ℕ). (with_line (Some (Command e)) record { events = []; bad = bad }).bad) good

-- so nothing is reported of one that ends in a bad line
pub ends-unreported : (patient : Bool) (count number : ℕ) (lines : List (List ℕ)) (numbers others : List ℕ)
    → (script patient lines).bad ≡ Some number → passed patient count lines ≡ numbers ++ others → numbers ≡ []
ends-unreported true count number lines numbers others bad parts = absurd (let h : None ≡ Some number = sym (patient-good lines) ∙ bad in cc)
ends-unreported false count number lines [] others bad parts = refl
ends-unreported false count number lines (n ∷ ns) others bad parts = absurd (let h = parts in cc)

-- ---- the lines of a text

-- all but the last
but-last : (xs : List (List ℕ)) (last : List ℕ) → take (length (xs ++ last ∷ []) - 1) (xs ++ last ∷ []) ≡ xs
but-last xs last =
    ap (λ (n : ℕ). take n (xs ++ last ∷ [])) (omega (arith, length-append xs (last ∷ [])))
    ∙ take-append_seam xs (last ∷ [])

pub whole-of : (text part : List ℕ) (lines : List (List ℕ)) → pieces 10 text ≡ lines ++ part ∷ [] → whole_lines text ≡ lines
whole-of text part lines parts = ap (λ (ps : List (List ℕ)). take (length ps - 1) ps) parts ∙ but-last lines part

pub whole-none : (text : List ℕ) → None ≡ split_at_first 10 text → whole_lines text ≡ []
whole-none text none = whole-of text text [] (sym (pieces-one 10 text none))

-- one more than those of what comes after it
one-more : (line : List ℕ) (rest : List (List ℕ)) → rest ≢ [] → take (length (line ∷ rest) - 1) (line ∷ rest) ≡ line ∷ take (length rest - 1) rest
one-more line [] some = absurd (some refl)
one-more line (r ∷ rest) some =
    ap (λ (n : ℕ). take n (line ∷ r ∷ rest)) (let e : length (line ∷ r ∷ rest) - 1 ≡ suc (length rest) = omega arith in e)
    ∙ ap (λ (n : ℕ). line ∷ take n (r ∷ rest)) (let e : length rest ≡ length (r ∷ rest) - 1 = omega arith in e)

pub whole-first : (text line behind : List ℕ) → Some (line, behind) ≡ split_at_first 10 text → whole_lines text ≡ line ∷ whole_lines behind
whole-first text line behind cut =
    ap (λ (ps : List (List ℕ)). take (length ps - 1) ps) (sym (pieces-first 10 text line behind cut))
    ∙ one-more line (pieces 10 behind) (pieces-some 10 behind)

-- the line that a piece made whole, and the others
pub whole-behind : (part piece line behind : List ℕ) → IsPart part → Some (line, behind) ≡ split_at_first 10 piece
    → whole_lines (part ++ piece) ≡ (part ++ line) ∷ whole_lines behind
whole-behind part piece line behind is cut =
    ap (λ (ps : List (List ℕ)). take (length ps - 1) ps) (pieces-behind 10 part piece line (pieces 10 behind) is (sym (pieces-first 10 piece line behind cut)))
    ∙ one-more (part ++ line) (pieces 10 behind) (pieces-some 10 behind)

pub whole-none-behind : (part piece : List ℕ) → IsPart part → None ≡ split_at_first 10 piece → whole_lines (part ++ piece) ≡ []
whole-none-behind part piece is none = whole-none (part ++ piece) (sym (none-behind 10 part piece is (sym none)))

-- all lines of a text begin with its whole ones
pub lines-front : (ps : List (List ℕ)) → (others : List (List ℕ)) × (without_empty_end ps ≡ take (length ps - 1) ps ++ others)
lines-front [] = ([], refl)
lines-front (p ∷ []) = (without_empty_end (p ∷ []), refl)
lines-front (p ∷ q ∷ qs) =
    let rest = lines-front (q ∷ qs) in
    (rest.0, ap (λ (ls : List (List ℕ)). p ∷ ls) rest.1 ∙ ap (λ (ls : List (List ℕ)). ls ++ rest.0) (sym (one-more p (q ∷ qs) (λ e. let h = e in cc))))

-- ---- what is reported

pub each-then : {B : Type 0} (reports : B → ℕ → B → Type 0) (a b c : B) (first second : List ℕ) → ReportsEach reports a b first → ReportsEach reports b c second
    → ReportsEach reports a c (first ++ second)
each-then reports a b c [] second one two = subst (λ x. ReportsEach reports x c second) one two
each-then reports a b c (n ∷ ns) second (next, step, rest) two = (next, step, each-then reports next b c ns second rest two)

-- no lines
pub each-none : {B : Type 0} (reports : B → ℕ → B → Type 0) (patient : Bool) (count : ℕ) (a : B) → ReportsEach reports a a (passed patient count [])
each-none reports false count a = refl
each-none reports true count a = refl

pub first-none : {B : Type 0} (reports : B → ℕ → B → Type 0) (a : B) (numbers : List ℕ) → ReportsFirst reports a a numbers
first-none reports a numbers = record { left = numbers; up_to = record { first = []; parts = refl; each = refl } }

pub each-first : {B : Type 0} (reports : B → ℕ → B → Type 0) (a b : B) (numbers : List ℕ) → ReportsEach reports a b numbers → ReportsFirst reports a b numbers
each-first reports a b numbers each = record { left = []; up_to = record { first = numbers; parts = sym (append-nil numbers); each = each } }

-- all of some, and the first of others
pub each-then-first : {B : Type 0} (reports : B → ℕ → B → Type 0) (a b c : B) (first second : List ℕ) → ReportsEach reports a b first → ReportsFirst reports b c second
    → ReportsFirst reports a c (first ++ second)
each-then-first reports a b c first second one two = record {
  left = two.left;
  up_to = record {
    first = first ++ two.up_to.first;
    parts = ap (λ (ns : List ℕ). first ++ ns) two.up_to.parts ∙ sym (append_assoc first two.up_to.first two.left);
    each = each-then reports a b c first two.up_to.first one two.up_to.each;
  };
}

-- more lines follow
pub first-more : {B : Type 0} (reports : B → ℕ → B → Type 0) (a b : B) (numbers more : List ℕ) → ReportsFirst reports a b numbers → ReportsFirst reports a b (numbers ++ more)
first-more reports a b numbers more f = record {
  left = f.left ++ more;
  up_to = record {
    first = f.up_to.first;
    parts = ap (λ (ns : List ℕ). ns ++ more) f.up_to.parts ∙ append_assoc f.up_to.first f.left more;
    each = f.up_to.each;
  };
}

pub first-lines-more : {B : Type 0} (reports : B → ℕ → B → Type 0) (patient : Bool) (count : ℕ) (a b : B) (lines more : List (List ℕ)) → count ≤ last_count
    → ReportsFirst reports a b (passed patient count lines) → ReportsFirst reports a b (passed patient count (lines ++ more))
first-lines-more reports patient count a b lines more fits f =
    subst (λ ns. ReportsFirst reports a b ns) (sym (passed-append patient count (min (count + length lines) last_count) lines more fits refl)) (first-more reports a b _ _ f)

-- lines, and others after them
pub lines-then : {B X : Type 0} (reports : B → ℕ → B → Type 0) (patient : Bool) (count more : ℕ) (a b c : B) (first second : List (List ℕ)) (r : Result X ScriptFault)
    → count ≤ last_count → more ≡ min (count + length first) last_count → ReportsEach reports a b (passed patient count first) → ReportsLines reports patient more second b c r
    → ReportsLines reports patient count (first ++ second) a c r
lines-then reports patient count more a b c first second (Ok x) fits is one two =
    subst (λ ns. ReportsEach reports a c ns) (sym (passed-append patient count more first second fits is)) (each-then reports a b c _ _ one two)
lines-then reports patient count more a b c first second (Err fault) fits is one two =
    subst (λ ns. ReportsFirst reports a c ns) (sym (passed-append patient count more first second fits is)) (each-then-first reports a b c _ _ one two)

-- ---- one line

-- a line that says something or nothing
pub reports-none : {B : Type 0} (reports : B → ℕ → B → Type 0) (patient : Bool) (count : ℕ) (a : B) (line : List ℕ) → line_of line ≢ None
    → ReportsEach reports a a (passed patient count (line ∷ []))
reports-none reports false count a line good = refl
reports-none reports true count a line good = by (line_of line) good
  where
    by : (said : Option ScriptLine) → said ≢ None → ReportsEach reports a a (if_bad (counted_once_more count) said ++ [])
    by None good = absurd (good refl)
    by (Some said) good = refl

-- a bad one that a script goes on after
pub reports-one : {B : Type 0} (reports : B → ℕ → B → Type 0) (patient : Bool) (count number : ℕ) (a b : B) (line : List ℕ) → patient ≡ true → line_of line ≡ None
    → number ≡ counted_once_more count → reports a number b → ReportsEach reports a b (passed patient count (line ∷ []))
reports-one reports patient count number a b line is bad told step =
    subst (λ p. ReportsEach reports a b (passed p count (line ∷ []))) (sym is)
    (subst (λ said. ReportsEach reports a b (if_bad (counted_once_more count) said ++ [])) (sym bad)
    (b, subst (λ n. reports a n b) told step, refl))

-- ---- a text

-- the bad lines before the rest of a text are reported, and it goes on
pub up_to-none : {B : Type 0} (reports : B → ℕ → B → Type 0) (a : B) (numbers : List ℕ) → ReportsUpTo reports a a numbers numbers
up_to-none reports a numbers = record { first = []; parts = refl; each = refl }

up_to-then : {B : Type 0} (reports : B → ℕ → B → Type 0) (a b c : B) (numbers middle left step : List ℕ) → ReportsUpTo reports a b numbers middle
    → middle ≡ step ++ left → ReportsEach reports b c step → ReportsUpTo reports a c numbers left
up_to-then reports a b c numbers middle left step u is each = record {
  first = u.first ++ step;
  parts = u.parts ∙ ap (λ (ns : List ℕ). u.first ++ ns) is ∙ sym (append_assoc u.first step left);
  each = each-then reports a b c u.first step u.each each;
}

first-then : {B : Type 0} (reports : B → ℕ → B → Type 0) (a b c : B) (numbers middle left step : List ℕ) → ReportsUpTo reports a b numbers middle
    → middle ≡ step ++ left → ReportsFirst reports b c step → ReportsFirst reports a c numbers
first-then reports a b c numbers middle left step u is f = record {
  left = f.left ++ left;
  up_to = record {
    first = u.first ++ f.up_to.first;
    parts = u.parts
        ∙ ap (λ (ns : List ℕ). u.first ++ ns) (is ∙ ap (λ (ns : List ℕ). ns ++ left) f.up_to.parts ∙ append_assoc f.up_to.first f.left left)
        ∙ sym (append_assoc u.first f.up_to.first (f.left ++ left));
    each = each-then reports a b c u.first f.up_to.first u.each f.up_to.each;
  };
}

module _ {B : Type 0} (reports : B → ℕ → B → Type 0) (patient : Bool) (now : ℕ) (a b c : B) (numbers rest line behind : List ℕ) (fits : now ≤ last_count)
    (cut : Some (line, behind) ≡ split_at_first 10 rest) (u : ReportsUpTo reports a b numbers (passed patient now (whole_lines rest))) where
  these : (more : ℕ) → more ≡ counted_once_more now
      → passed patient now (whole_lines rest) ≡ passed patient now (line ∷ []) ++ passed patient more (whole_lines behind)
  these more is =
      ap (λ (ls : List (List ℕ)). passed patient now ls) (whole-first rest line behind cut)
      ∙ passed-append patient now more (line ∷ []) (whole_lines behind) fits (omega (arith, is))

  -- one more line is served
  pub up_to-line : (more : ℕ) → more ≡ counted_once_more now → ReportsEach reports b c (passed patient now (line ∷ []))
      → ReportsUpTo reports a c numbers (passed patient more (whole_lines behind))
  up_to-line more is each = up_to-then reports a b c numbers _ _ _ u (these more is) each

  -- or the script ends in it
  pub up_to-stop : ReportsFirst reports b c (passed patient now (line ∷ [])) → ReportsFirst reports a c numbers
  up_to-stop f = first-then reports a b c numbers _ _ _ u (these (counted_once_more now) refl) f

-- no line is left
pub up_to-end : {B : Type 0} (reports : B → ℕ → B → Type 0) (patient : Bool) (now : ℕ) (a b : B) (numbers rest : List ℕ) → None ≡ split_at_first 10 rest
    → ReportsUpTo reports a b numbers (passed patient now (whole_lines rest)) → ReportsEach reports a b numbers
up_to-end reports patient now a b numbers rest none u =
    subst (λ ns. ReportsEach reports a b ns) (sym (u.parts ∙ ap (λ (ns : List ℕ). u.first ++ ns) (nothing patient) ∙ append-nil u.first)) u.each
  where
    nothing : (p : Bool) → passed p now (whole_lines rest) ≡ []
    nothing false = refl
    nothing true = ap (bad_after now) (whole-none rest none)

-- a piece after a part of a line, of which it makes a whole one
module _ {B : Type 0} (reports : B → ℕ → B → Type 0) (patient : Bool) (count : ℕ) (a b : B) (part piece whole line behind : List ℕ) (is : IsPart part)
    (cut : Some (line, behind) ≡ split_at_first 10 piece) (made : whole ≡ part ++ line) (fits : count ≤ last_count) where
  both : whole_lines (part ++ piece) ≡ whole ∷ whole_lines behind
  both = whole-behind part piece line behind is cut ∙ ap (λ (w : List ℕ). w ∷ whole_lines behind) (sym made)

  pub feeds-first : ReportsFirst reports a b (passed patient count (whole ∷ [])) → ReportsFirst reports a b (passed patient count (whole_lines (part ++ piece)))
  feeds-first f =
      subst (λ (ls : List (List ℕ)). ReportsFirst reports a b (passed patient count ls)) (sym both)
      (first-lines-more reports patient count a b (whole ∷ []) (whole_lines behind) fits f)

  pub feeds-on : (X : Type 0) (other : Bool) (now : ℕ) (c : B) (r : Result X ScriptFault) → other ≡ patient → now ≡ counted_once_more count
      → ReportsEach reports a b (passed patient count (whole ∷ [])) → ReportsLines reports other now (whole_lines behind) b c r
      → ReportsLines reports patient count (whole_lines (part ++ piece)) a c r
  feeds-on X other now c r same counted one more =
      subst (λ (ls : List (List ℕ)). ReportsLines reports patient count ls a c r) (sym both)
      (lines-then reports patient count now a b c (whole ∷ []) (whole_lines behind) r fits (omega (arith, counted)) one
      (subst (λ (p : Bool). ReportsLines reports p now (whole_lines behind) b c r) same more))

-- or of which no line comes
pub feeds-none : {B : Type 0} (reports : B → ℕ → B → Type 0) (patient : Bool) (count : ℕ) (a : B) (part piece : List ℕ) → IsPart part → None ≡ split_at_first 10 piece
    → ReportsEach reports a a (passed patient count (whole_lines (part ++ piece)))
feeds-none reports patient count a part piece is none =
    subst (λ (ls : List (List ℕ)). ReportsEach reports a a (passed patient count ls)) (sym (whole-none-behind part piece is none)) (each-none reports patient count a)
