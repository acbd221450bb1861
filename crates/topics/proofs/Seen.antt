-- What a server's or a client's handle has seen, by what its queue holds.
use Rattle.std.proofs.Common.{◌≡◌, ℕ, zero, suc, Bool, true, false, cond, eqb, List, [], ◌∷◌, length, map, drop, refl, sym, ap, subst, ◌∙◌, Option, Some}
use Rattle.std.specs.Prelude.{find, filter, option_map}
use Rattle.std.specs.List.{AllByRecursion}
use Rattle.std.proofs.Math.Seq.{drop-length}
use Rattle.pps_types.specs.History.{Entry}
use Rattle.pps_types.specs.Reading.{OpenHandle, Queue, style, visible, reseen}
use Rattle.pps_types.specs.Rests.{Progress, Owed, stand, over_limit, seen_of, from_first, past}
use Rattle.pps_types.specs.Plan.{left, caught_up}
use Rattle.sub_reader.specs.Opened.{opened, handle_at}
use Rattle.sub_reader.proofs.Finds.{found-seen}
use Rattle.topics.specs.QueueRows.{QueueRow, waiting, owed_as, handle_of, IsRowOn}

pub queue-seen : {S : Type 0} (h : OpenHandle S) (rest : List Entry) → style h.kind ≡ Queue → seen_of h rest ≡ Owed rest
queue-seen h rest kind = ap (λ s. stand s h.reads (over_limit h rest) rest) kind

module _ (test : Entry → Bool) where
  -- all of them pass
  pub all-kept : (xs : List Entry) → AllByRecursion (λ e. test e ≡ true) xs → filter test xs ≡ xs
  all-kept [] all = refl
  all-kept (x ∷ xs) all = rw all.0 (ap (λ ys. x ∷ ys) (all-kept xs all.1))

  pub all-from : (xs : List Entry) → AllByRecursion (λ e. test e ≡ true) xs → from_first test xs ≡ xs
  all-from [] all = refl
  all-from (x ∷ xs) all = rw all.0 refl

  pub all-past : (n : ℕ) (xs : List Entry) → AllByRecursion (λ e. test e ≡ true) xs → past test n xs ≡ drop n xs
  all-past zero xs all = refl
  all-past (suc n) [] all = refl
  all-past (suc n) (x ∷ xs) all = rw all.0 (all-past n xs all.1)

  pub all-drop : (n : ℕ) (xs : List Entry) → AllByRecursion (λ e. test e ≡ true) xs → AllByRecursion (λ e. test e ≡ true) (drop n xs)
  all-drop zero xs all = all
  all-drop (suc n) [] all = tt
  all-drop (suc n) (x ∷ xs) all = all-drop n xs all.1

module _ (object : ℕ) (name : List ℕ) (x : QueueRow) (is : IsRowOn object x) where
  pub left-is : (n : ℕ) (owed : List Entry) → owed ≡ drop n x.progress.owed → owed_as object name x owed ≡ reseen (λ h. left h n h.seen) (handle_of object name x)
  left-is n owed same =
      let h = handle_of object name x in
      ap (λ (s : Progress). waiting x (reseen (λ o. s) (opened object name x.opening)))
      (ap Owed same ∙ sym (queue-seen h (from_first (visible h) (past (visible h) n x.progress.owed)) is.kind
      ∙ ap (λ xs. Owed (from_first (visible h) xs)) (all-past (visible h) n x.progress.owed is.owed)
      ∙ ap Owed (all-from (visible h) (drop n x.progress.owed) (all-drop (visible h) n x.progress.owed is.owed))))

  pub caught-is : (owed : List Entry) → owed ≡ drop (length x.progress.owed) x.progress.owed → owed_as object name x owed ≡ reseen caught_up (handle_of object name x)
  caught-is owed same =
      let h = handle_of object name x in
      ap (λ (s : Progress). waiting x (reseen (λ o. s) (opened object name x.opening)))
      (ap Owed (same ∙ drop-length x.progress.owed) ∙ sym (queue-seen h [] is.kind))

-- ---- the handle of a number

module _ (object : ℕ) (name : List ℕ) where
  module _ (xs : List QueueRow) (n : ℕ) where
    -- none, or one, is found
    pub found-handle : (o : Option QueueRow) → o ≡ find (λ x. eqb x.opening.number n) xs → option_map (handle_of object name) o ≡ handle_at n (map (handle_of object name) xs)
    found-handle o is = ap (option_map (handle_of object name)) is ∙ found-seen (handle_of object name) (λ x. refl) n xs

    pub found-right : (x : QueueRow) → AllByRecursion (IsRowOn object) xs → Some x ≡ find (λ x. eqb x.opening.number n) xs → IsRowOn object x
    found-right x all is = by xs all is
      where
        by : (xs : List QueueRow) → AllByRecursion (IsRowOn object) xs → Some x ≡ find (λ x. eqb x.opening.number n) xs → IsRowOn object x
        by [] all is = absurd cc
        by (y ∷ ys) all is = elim (eqb y.opening.number n) as (λ b. Some x ≡ cond b (Some y) (find (λ x. eqb x.opening.number n) ys) → IsRowOn object x)
            [ true ↦ (λ found. let same : y ≡ x = cc in subst (IsRowOn object) same all.0) | false ↦ by ys all.1 ] is
