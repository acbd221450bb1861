-- One of the handles among the gaps changes on a walk: the counts of those at each position follow.
use Rattle.std.proofs.Common.{◌≡◌, ℕ, ◌+◌, ◌<◌, ◌≤◌, List, length, get_or, set, Some, IsSome, refl, sym, ap, subst, ◌∙◌, arith}
use Rattle.std.proofs.lemmas.List.Sums.{get_or-le-sum_by}
use Rattle.sub_reader.specs.declared.place.Place.{Place}
use Rattle.sub_reader.specs.declared.row.Slot.{Slot}
use Rattle.sub_reader.specs.Readers.{Reader}
use Rattle.sub_reader.specs.Rows.{row_at, rows_in, rank, on_row}
use Rattle.sub_reader.specs.Counts.{stands, recounted, IsCounted, IsWithin, AreWithin}
use Rattle.sub_reader.proofs.Tallies.{all-at, all-set, counted-set}
use Rattle.sub_reader.proofs.Gaps.{rank_within, rank_row, rows_set}

module _ (start : ℕ) (ss : List (Slot Place)) (counts : List ℕ) (i : ℕ) (r : Reader) (is : Some r ≡ row_at i ss) (agree : IsCounted start (rows_in ss) counts) (within : AreWithin start (length counts) (rows_in ss)) where
  some : IsSome (row_at i ss)
  some = subst IsSome is refl

  lt : rank i ss < length (rows_in ss)
  lt = rank_within ss i some

  same : r ≡ get_or (rows_in ss) (rank i ss) r
  same = rank_row ss i r r is

  pub row-within : IsWithin start (start + length counts) r.progress
  row-within = subst (λ (x : Reader). IsWithin start (start + length counts) x.progress) (sym same) (all-at (λ (x : Reader). IsWithin start (start + length counts) x.progress) (rows_in ss) (rank i ss) r within lt)

  pub row-there : (j : ℕ) → j < length counts → stands (start + j) r.progress ≤ get_or counts j 0
  row-there j here =
      let le = get_or-le-sum_by (λ (x : Reader). stands (start + j) x.progress) (rows_in ss) (rank i ss) r lt in
      let at = ap (λ (x : Reader). stands (start + j) x.progress) same in
      omega (arith, agree j here, le, at)

  module _ (f : Reader → Reader) (d : Slot Place) (new : List (Slot Place)) (new_is : new ≡ set ss i (on_row f (get_or ss i d))) (to : IsWithin start (start + length counts) (f r).progress) where
    rows-are : rows_in new ≡ set (rows_in ss) (rank i ss) (f r)
    rows-are = ap rows_in new_is ∙ rows_set ss i f d r some ∙ ap (λ (x : Reader). set (rows_in ss) (rank i ss) (f x)) (sym same)

    pub changed-within : AreWithin start (length counts) (rows_in new)
    changed-within = subst (AreWithin start (length counts)) (sym rows-are) (all-set (λ (x : Reader). IsWithin start (start + length counts) x.progress) (rows_in ss) (rank i ss) (f r) within to)

    pub changed-agree : (cs : List ℕ) → cs ≡ recounted start r.progress (f r).progress counts → IsCounted start (rows_in new) cs
    changed-agree cs cs_are =
        subst (IsCounted start (rows_in new)) (sym cs_are)
        (subst (λ rs. IsCounted start rs (recounted start r.progress (f r).progress counts)) (sym rows-are)
        (subst (λ (x : Reader). IsCounted start (set (rows_in ss) (rank i ss) (f r)) (recounted start x.progress (f r).progress counts)) (sym same)
        (counted-set start (rows_in ss) counts (rank i ss) r (f r) agree lt (subst (λ (x : Reader). IsWithin start (start + length counts) x.progress) same row-within) to)))
