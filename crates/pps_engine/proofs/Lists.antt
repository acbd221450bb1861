-- Runs over lists of events.
use Rattle.std.proofs.Common.{append-nil, arith, ap, sym}
use Rattle.std.specs.Prelude.{◌≡◌, ◌≤◌, ◌<◌, ◌+◌, ℕ, zero, suc, List, [], ◌∷◌, ◌++◌, drop, length, refl}
use Rattle.std.proofs.Math.ListN.{get_or}
use Rattle.std.proofs.lemmas.List.{drop_more}
use Rattle.pps_types.specs.declared.event.Event.{Event}
use Rattle.pps_types.specs.Outcome.{Reply}
use Rattle.pps_types.specs.Content.{Content}
use Rattle.pps_types.specs.Stands.{StepsSeen, RunsSeen}
use Rattle.pps_types.specs.Runs.{answered}

append-onto : {X : Type 0} (xs ys : List X) (x : X) → (xs ++ x ∷ []) ++ ys ≡ xs ++ x ∷ ys
append-onto [] ys x = refl
append-onto (y ∷ xs) ys x = ap (λ rest. y ∷ rest) (append-onto xs ys x)

-- What the events that are left run to, all run to: what is run so far, with any answers and any end.
abbrev pub RunsOn : Content → Content → List Event → List Event → List Reply → Type 0
RunsOn old now all left replies = (rest : List Reply) (new : Content) → RunsSeen now (answered left rest) new → RunsSeen old (answered all (replies ++ rest)) new

pub runs-none : (c : Content) (es : List Event) → RunsOn c c es es []
runs-none c es rest new runs = runs

pub runs-more : (old now next : Content) (all : List Event) (i : ℕ) (e : Event) (replies : List Reply) (reply : Reply) → i < length all → e ≡ get_or all i e
    → RunsOn old now all (drop i all) replies → StepsSeen now e reply next → RunsOn old next all (drop (i + 1) all) (replies ++ reply ∷ [])
runs-more old now next all i e replies reply lt is runs steps rest new more =
    rw (append-onto replies rest reply) (runs (reply ∷ rest) new (rw (drop_more all i e lt, sym is) (next, steps, more)))

drop-end : {X : Type 0} (xs : List X) (i : ℕ) → length xs ≤ i → drop i xs ≡ []
drop-end [] zero le = refl
drop-end [] (suc i) le = refl
drop-end (x ∷ xs) zero le = absurd (omega arith)
drop-end (x ∷ xs) (suc i) le = drop-end xs i (omega arith)

pub runs-all : (old now : Content) (all : List Event) (i : ℕ) (replies : List Reply) → length all ≤ i → RunsOn old now all (drop i all) replies → RunsSeen old (answered all replies) now
runs-all old now all i replies le runs = rw (sym (append-nil replies)) (runs [] now (rw (drop-end all i le) refl))
