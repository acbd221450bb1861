-- The longest run of whole blocks that fits, one block after the other.
use Rattle.std.proofs.Common.{◌≡◌, ℕ, ◌+◌, ◌<◌, ◌≤◌, Some, None, List, ◌∷◌, ◌++◌, length, drop, sym, ap, subst, ◌∙◌, arith}
use Rattle.std.specs.Prelude.{Result, Ok, Err, IsErrAnd, slice_get}
use Rattle.std.proofs.lemmas.Grind.{common_steps}
use Rattle.pps_types.specs.declared.refusal.Refusal.{Refusal}
use Rattle.pps_types.specs.Names.{refusal_of}
use Rattle.pps_types.specs.Reading.{fitting}
use Rattle.pps_types.specs.History.{Entry}
use Rattle.pps_types.proofs.Places.{from_place}
use Rattle.server_queue.specs.declared.fitting.Fitting.{Fitting}
use Rattle.server_queue.specs.Blocks.{queue_block, queue_blocks}
use Rattle.server_queue.specs.Given.{refused_for, RefusesTooSmall, Gives, EndsBefore, RefusesBlock}

-- ---- a read of so many bytes, of these blocks

module _ (max : ℕ) (all : List (List ℕ)) where
  -- so much is given before the blocks `rest`; what fits of these goes after it
  pub record Runs (rest : List (List ℕ)) (run : Fitting) : Type 0 where
    pub same : fitting max all ≡ (run.given.count + (fitting run.room rest).0, run.given.text.items ++ (fitting run.room rest).1)
    pub few : length rest ≤ length all
    pub none : run.given.count ≡ 0 → (rest ≡ all) × (run.room ≡ max)
    pub some : 0 < run.given.count → refused_for max all ≡ None

  module _ (b : List ℕ) (rest : List (List ℕ)) (old : Fitting) (p : Runs (b ∷ rest) old) where
    pub given_more : (new : Fitting) → Gives b old new → Runs rest new
    given_more new g = grind (arith, common_steps)

    -- the run ends before the block: it is the longest
    pub ended : (new : Fitting) → EndsBefore b old new → (new.given.count, new.given.text.items) ≡ fitting max all
    ended new e = grind (arith, common_steps)

    -- the block is the first, and needs more than there is room for
    pub refused_small : {X : Type 0} (result : Result X Refusal) (r : Refusal) → refusal_of result ≡ Some r → RefusesBlock b old r → RefusesTooSmall max all result
    refused_small result r is refuses = grind (arith, common_steps)

-- the refusal that `?` passes on
pub refusal-is : {X : Type 0} (result : Result X Refusal) (r : Refusal) → IsErrAnd result (λ e. e ≡ r) → refusal_of result ≡ Some r
refusal-is (Ok x) r is = absurd is
refusal-is (Err e) r is = ap Some is

-- ---- the blocks of a queue from a place on

pub queue-runs : (max : ℕ) (all : List (List ℕ)) (entries : List Entry) (i : ℕ) (e : Entry) (text : List ℕ) (run : Fitting) → slice_get entries i ≡ Some e → text ≡ queue_block e
    → Runs max all (queue_blocks (drop i entries)) run → Runs max all (text ∷ queue_blocks (drop (i + 1) entries)) run
queue-runs max all entries i e text run at is p =
    subst (λ bs. Runs max all bs run) (ap queue_blocks (from_place entries i e at) ∙ ap (λ t. t ∷ queue_blocks (drop (i + 1) entries)) (sym is)) p
