-- The script of some lines and others behind them.
use Rattle.std.proofs.Common.{◌≡◌, ◌+◌, ℕ, suc, length, Bool, List, [], ◌∷◌, ◌++◌, Option, Some, None, append-nil, refl, sym, ap, ◌∙◌, arith}
use Rattle.std.specs.Prelude.{option_map}
use Rattle.pps_types.specs.declared.event.Event.{Event}
use Rattle.script_text.specs.declared.script_line.ScriptLine.{ScriptLine}
use Rattle.script_text.specs.declared.script_line.ScriptLine.TheVariants.{Nothing, Command}
use Rattle.script_text.specs.Script.{Script, script, heard, with_line}
use Rattle.script_text.proofs.Pieces.{no-first}

-- one script without a bad line, of that many lines, and another behind it
abbrev pub joined : Script → ℕ → Script → Script
joined a count b = record { events = a.events ++ b.events; bad = option_map (λ n. count + n) b.bad }

nothing-more : (bad : Option ℕ) → bad ≡ option_map (λ n. 0 + n) bad
nothing-more None = refl
nothing-more (Some n) = ap Some (omega arith)

further : (count : ℕ) (bad : Option ℕ) → option_map (λ n. n + 1) (option_map (λ n. count + n) bad) ≡ option_map (λ n. suc count + n) bad
further count None = refl
further count (Some n) = ap Some (omega arith)

pub script-good : (patient : Bool) (xs ys : List (List ℕ)) → (script patient xs).bad ≡ None → script patient (xs ++ ys) ≡ joined (script patient xs) (length xs) (script patient ys)
script-good patient [] ys good = ap (λ bad. record { events = (script patient ys).events; bad = bad }) (nothing-more (script patient ys).bad)
script-good patient (x ∷ xs) ys good = by (heard patient x) good (script-good patient xs ys)
  where
    by : (said : Option ScriptLine) → (with_line said (script patient xs)).bad ≡ None → ((script patient xs).bad ≡ None → script patient (xs ++ ys) ≡ joined (script patient xs) (length xs) (script patient ys))
        → with_line said (script patient (xs ++ ys)) ≡ joined (with_line said (script patient xs)) (suc (length xs)) (script patient ys)
    by None good rest = absurd (let h = good in cc)
    by (Some Nothing) good rest =
        ap (with_line (Some Nothing)) (rest (no-first _ (script patient xs).bad good))
        ∙ ap (λ bad. record { events = (script patient xs).events ++ (script patient ys).events; bad = bad }) (further (length xs) (script patient ys).bad)
    by (Some (Command e)) good rest =
        ap (with_line (Some (Command e))) (rest (no-first _ (script patient xs).bad good))
        ∙ ap (λ bad. record { events = e ∷ (script patient xs).events ++ (script patient ys).events; bad = bad }) (further (length xs) (script patient ys).bad)

pub script-bad : (patient : Bool) (xs ys : List (List ℕ)) (n : ℕ) → (script patient xs).bad ≡ Some n → script patient (xs ++ ys) ≡ script patient xs
script-bad patient [] ys n bad = absurd (let h = bad in cc)
script-bad patient (x ∷ xs) ys n bad = by (heard patient x) bad (λ m is. script-bad patient xs ys m is) (script patient xs).bad refl
  where
    before : (said : ScriptLine) (b : Option ℕ) → ((m : ℕ) → (script patient xs).bad ≡ Some m → script patient (xs ++ ys) ≡ script patient xs) → option_map (λ n. n + 1) (script patient xs).bad ≡ Some n → (script patient xs).bad ≡ b
        → with_line (Some said) (script patient (xs ++ ys)) ≡ with_line (Some said) (script patient xs)
    before said None rest bad is = absurd (let h = (ap (option_map (λ n. n + 1)) (sym is) ∙ bad) in cc)
    before said (Some m) rest bad is = ap (with_line (Some said)) (rest m is)

    by : (said : Option ScriptLine) → (with_line said (script patient xs)).bad ≡ Some n → ((m : ℕ) → (script patient xs).bad ≡ Some m → script patient (xs ++ ys) ≡ script patient xs) → (b : Option ℕ) → (script patient xs).bad ≡ b
        → with_line said (script patient (xs ++ ys)) ≡ with_line said (script patient xs)
    by None bad rest b is = refl
    by (Some Nothing) bad rest b is = before Nothing b rest bad is
    by (Some (Command e)) bad rest b is = before (Command e) b rest bad is

-- more lines take no event away
pub script-grows : (patient : Bool) (xs ys : List (List ℕ)) → (more : List Event) × ((script patient (xs ++ ys)).events ≡ (script patient xs).events ++ more)
script-grows patient xs ys = by (script patient xs).bad refl
  where
    by : (bad : Option ℕ) → (script patient xs).bad ≡ bad → (more : List Event) × ((script patient (xs ++ ys)).events ≡ (script patient xs).events ++ more)
    by None is = ((script patient ys).events, ap (λ s. s.events) (script-good patient xs ys is))
    by (Some n) is = ([], ap (λ s. s.events) (script-bad patient xs ys n is) ∙ sym (append-nil (script patient xs).events))
