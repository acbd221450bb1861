-- The blocks of what a handle is given from a position on.
use Rattle.std.proofs.Common.{◌≡◌, ℕ, ◌+◌, ◌-◌, ◌≤◌, true, false, cond, Some, List, ◌∷◌, drop, filter, map, ap, sym, ◌∙◌, subst}
use Rattle.std.specs.Prelude.{slice_get}
use Rattle.pps_types.specs.History.{Entry}
use Rattle.pps_types.specs.Reading.{OpenHandle, block, visible}
use Rattle.server_queue.specs.declared.fitting.Fitting.{Fitting}
use Rattle.server_queue.proofs.Fits.{Runs}
use Rattle.sub_reader.specs.Blocks.{blocks_given}
use Rattle.sub_reader.proofs.Skips.{here}

module _ {S : Type 0} (h : OpenHandle S) (start : ℕ) (xs : List Entry) (position : ℕ) (e : Entry) (from : start ≤ position) (at : slice_get xs (position - start) ≡ Some e) where
  hidden_next : visible h e ≡ false → blocks_given h (drop (position - start) xs) ≡ blocks_given h (drop (position + 1 - start) xs)
  hidden_next hidden = ap (blocks_given h) (here (visible h) start xs position e from at) ∙ ap (λ b. map (block h) (cond b (e ∷ filter (visible h) (drop (position + 1 - start) xs)) (filter (visible h) (drop (position + 1 - start) xs)))) hidden

  pub given_next : visible h e ≡ true → blocks_given h (drop (position - start) xs) ≡ block h e ∷ blocks_given h (drop (position + 1 - start) xs)
  given_next seen = ap (blocks_given h) (here (visible h) start xs position e from at) ∙ ap (λ b. map (block h) (cond b (e ∷ filter (visible h) (drop (position + 1 - start) xs)) (filter (visible h) (drop (position + 1 - start) xs)))) seen

  -- the same of what a read gives before them
  module _ (max : ℕ) (all : List (List ℕ)) (run : Fitting) (p : Runs max all (blocks_given h (drop (position - start) xs)) run) where
    pub hidden-runs : visible h e ≡ false → Runs max all (blocks_given h (drop (position + 1 - start) xs)) run
    hidden-runs hidden = subst (λ bs. Runs max all bs run) (hidden_next hidden) p

    pub given-runs : (text : List ℕ) → text ≡ block h e → visible h e ≡ true → Runs max all (text ∷ blocks_given h (drop (position + 1 - start) xs)) run
    given-runs text is seen = subst (λ bs. Runs max all bs run) (given_next seen ∙ ap (λ t. t ∷ blocks_given h (drop (position + 1 - start) xs)) (sym is)) p
