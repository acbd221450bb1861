-- What is owed tells what a read answers.
use Rattle.std.proofs.Common.{◌≡◌, ℕ, ◌+◌, ◌-◌, Bool, true, false, cond, Option, Some, None, List, [], ◌∷◌, ◌++◌, length, map, filter, refl, sym, ap, ◌∙◌, arith}
use Rattle.std.proofs.lemmas.Bool.{ne_eqb}
use Rattle.std.specs.Prelude.{nat_le, not, ◌&&◌, is_none}
use Rattle.pps_types.specs.declared.refusal.Refusal.TheVariants.{TooSmall}
use Rattle.pps_types.specs.Reading as reading
use Rattle.pps_types.specs.Reading.{OpenHandle, is_directory_kind, block, visible, fitting, with_block, whole_answer, idle_answer, owed_answer, blocks_answer}
use Rattle.pps_types.specs.Rests.{Progress, News, Unread, Over, Owed, answer}
use Rattle.pps_types.specs.Content.{object_numbered}
use Rattle.whole_texts.specs.Whole.{Source, everything, is_dead, source_of}
use Rattle.server_queue.specs.declared.plan.GivenBlocks.{GivenBlocks}
use Rattle.whole_texts.specs.Answered.{refusal_in, fitted_answer, answer_by, AreFitting, Owes, AnswersAreRead}

-- so many blocks, whose text is that
abbrev of_pair : Bool → Bool → ℕ × List ℕ → reading.Answer
of_pair dead wait given = fitted_answer dead wait given.0 given.1

count_some : (dead wait : Bool) (n : ℕ) (text : List ℕ) → fitted_answer dead wait (1 + n) text ≡ reading.Blocks (1 + n) text
count_some dead wait n text = ap (λ c. cond c (idle_answer dead wait) (reading.Blocks (1 + n) text)) (ne_eqb (1 + n) 0 (λ e. omega (arith, e)))

first_fits : (b : List ℕ) (bs : List (List ℕ)) (dead wait : Bool) (max : ℕ) → refusal_in (owed_answer false (b ∷ bs) false max) ≡ None
    → of_pair dead wait (fitting max (b ∷ bs)) ≡ owed_answer wait (b ∷ bs) dead max
first_fits b bs dead wait max fits = by (nat_le (length b) max) refl
  where
    by : (fit : Bool) → nat_le (length b) max ≡ fit → of_pair dead wait (fitting max (b ∷ bs)) ≡ owed_answer wait (b ∷ bs) dead max
    by true is =
        ap (λ c. of_pair dead wait (cond c (with_block b (fitting (max - length b) bs)) (0, []))) is
        ∙ count_some dead wait (fitting (max - length b) bs).0 (b ++ (fitting (max - length b) bs).1)
        ∙ sym (ap (λ c. cond c (blocks_answer (fitting max (b ∷ bs))) (reading.Needs (length b))) is ∙ ap (λ c. blocks_answer (cond c (with_block b (fitting (max - length b) bs)) (0, []))) is)
    by false is =
        let bad : Some (TooSmall (length b)) ≡ None = sym (ap (λ c. refusal_in (cond c (blocks_answer (fitting max (b ∷ bs))) (reading.Needs (length b)))) is) ∙ fits in
        absurd (cc bad)

pub fitted-told : (blocks : List (List ℕ)) (dead wait : Bool) (max : ℕ) (g : GivenBlocks) → AreFitting max blocks g
    → fitted_answer dead wait g.count g.text.items ≡ owed_answer wait blocks dead max
fitted-told [] dead wait max g are = ap (of_pair dead wait) are.same
fitted-told (b ∷ bs) dead wait max g are = ap (of_pair dead wait) are.same ∙ first_fits b bs dead wait max are.fits

told : (h : OpenHandle Progress) (seen : Progress) (w : Source) (max : ℕ) (owed : Option GivenBlocks) → Owes max h seen owed → answer h seen (everything w) (is_dead w) max ≡ answer_by w h.options.wait max owed
told h (News true) w max owed owes = sym (ap (answer_by w h.options.wait max) owes)
told h (News false) w max None owes = absurd owes
told h (News false) w max (Some g) owes = sym (fitted-told [] (is_dead w) h.options.wait max g owes)
told h Unread w max owed owes = sym (ap (answer_by w h.options.wait max) owes)
told h Over w max owed owes = sym (ap (answer_by w h.options.wait max) owes)
told h (Owed rest) w max None owes = absurd owes
told h (Owed rest) w max (Some g) owes = sym (fitted-told (map (block h) (filter (visible h) rest)) (is_dead w) h.options.wait max g owes)

-- an object is dead, and no directory is
dead_is : (directory none : Bool) → not directory && not (not (not directory && none)) ≡ not directory && none
dead_is true none = refl
dead_is false true = refl
dead_is false false = refl

pub answers-read : AnswersAreRead
answers-read c h max owed owes =
    ap (λ dead. answer h h.seen (everything (source_of c h)) dead max) (sym (dead_is (is_directory_kind h.kind) (is_none (object_numbered c h.target))))
    ∙ told h h.seen (source_of c h) max owed owes
