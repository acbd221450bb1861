-- What is in the label of a record.
use Rattle.std.proofs.Common.{◌≡◌, ℕ, ◌+◌, ◌-◌, ◌≤◌, List, [], ◌∷◌, ◌++◌, length, take, drop, Option, Some, None, length-append, append_assoc, refl, sym, ap, ◌∙◌, arith}
use Rattle.std.specs.Prelude.{filter, unwrap_or, option_map}
use Rattle.std.proofs.Math.Seq.{take-append_seam}
use Rattle.pps_types.specs.declared.line.Line.{Line}
use Rattle.pps_types.specs.declared.record.Kind.{Kind}
use Rattle.pps_types.specs.declared.record.Kind.TheVariants.{Created, Change, Truncated, Dropped, Deleted, Opened, Closed, FromClient, ToClient, ToAll}
use Rattle.pps_types.specs.Filter.{matches}
use Rattle.pps_types.specs.Reading.{print_shown, matching_lines}
use Rattle.pps_types.specs.Text.{print_lines}
use Rattle.pps_types.proofs.Lists.{append-nil}
use Rattle.server_queue.specs.Printed.{printed_text, label, object_lines, name_in}

all-match : (lines : List Line) → filter (matches None) lines ≡ lines
all-match [] = refl
all-match (line ∷ lines) = ap (λ ls. line ∷ ls) (all-match lines)

-- a printing: a header, and the lines
pub printed-is : (name : List ℕ) (line : Line) (lines : List Line)
    → printed_text name (Change (line ∷ lines)) ≡ Some (64 ∷ (name ++ 10 ∷ print_lines (line ∷ lines)))
printed-is name line lines = ap Some (
    (λ i. 64 ∷ ((append-nil name i ++ 10 ∷ []) ++ print_lines (line ∷ all-match lines i)))
    ∙ ap (λ t. 64 ∷ t) (append_assoc name (10 ∷ []) (print_lines (line ∷ lines)))
    )

label-is : (name : List ℕ) (line : Line) (lines : List Line)
    → label name (Change (line ∷ lines)) ≡ 64 ∷ (name ++ 10 ∷ print_lines (line ∷ lines))
label-is name line lines = ap (λ o. unwrap_or o name) (printed-is name line lines)

label-length : (name : List ℕ) (line : Line) (lines : List Line)
    → length (label name (Change (line ∷ lines))) ≡ length name + 2 + length (print_lines (line ∷ lines))
label-length name line lines = ap (λ t. length t) (label-is name line lines) ∙ omega (arith, length-append name (10 ∷ print_lines (line ∷ lines)))

-- with its header a label is longer than its lines
pub lines-fit : (text : List ℕ) (kind : Kind) (lines : List Line) → text ≡ label (name_in text kind) kind → object_lines kind ≡ Some lines
    → length (print_lines lines) + 2 ≤ length text
lines-fit text (Change (line ∷ more)) lines labelled is =
    let same : line ∷ more ≡ lines = cc in
    let long : length text ≡ length (label (name_in text (Change (line ∷ more))) (Change (line ∷ more))) = ap (λ t. length t) labelled in
    rw (← same) (omega (arith, long, label-length (name_in text (Change (line ∷ more))) line more))
lines-fit text (Change []) lines labelled is = absurd (let bad = is in cc)
lines-fit text Created lines labelled is = absurd (let bad = is in cc)
lines-fit text Truncated lines labelled is = absurd (let bad = is in cc)
lines-fit text Dropped lines labelled is = absurd (let bad = is in cc)
lines-fit text Deleted lines labelled is = absurd (let bad = is in cc)
lines-fit text (Opened h) lines labelled is = absurd (let bad = is in cc)
lines-fit text (Closed h) lines labelled is = absurd (let bad = is in cc)
lines-fit text (FromClient h ls) lines labelled is = absurd (let bad = is in cc)
lines-fit text (ToClient h ls) lines labelled is = absurd (let bad = is in cc)
lines-fit text (ToAll ls) lines labelled is = absurd (let bad = is in cc)

-- the name is in its label
pub name_in-label : (name : List ℕ) (kind : Kind) → name_in (label name kind) kind ≡ name
name_in-label name (Change (line ∷ lines)) =
    let printed : List ℕ = print_lines (line ∷ lines) in
    let count : length (64 ∷ (name ++ 10 ∷ printed)) - (length printed + 2) ≡ length name = omega (arith, length-append name (10 ∷ printed)) in
    ap (λ t. take (length t - (length printed + 2)) (drop 1 t)) (label-is name line lines)
    ∙ ap (λ n. take n (name ++ 10 ∷ printed)) count ∙ take-append_seam name (10 ∷ printed)
name_in-label name (Change []) = refl
name_in-label name Created = refl
name_in-label name Truncated = refl
name_in-label name Dropped = refl
name_in-label name Deleted = refl
name_in-label name (Opened h) = refl
name_in-label name (Closed h) = refl
name_in-label name (FromClient h ls) = refl
name_in-label name (ToClient h ls) = refl
name_in-label name (ToAll ls) = refl
