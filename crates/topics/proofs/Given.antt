-- What a read gives of a handle's queue, and whether the queue is full.
use Rattle.std.proofs.Common.{◌≡◌, ℕ, suc, ◌<◌, ◌≤◌, ⊎_elim, leb, arith, ◌∙◌, ◌&&◌, cond, Bool, true, false, not, List, [], ◌∷◌, ◌++◌, length, map, refl, sym, ap, Some}
use Rattle.std.specs.Prelude.{filter, find, option_map, nat_le, nat_lt}
use Rattle.std.specs.List.{AllByRecursion}
use Rattle.std.proofs.lemmas.Bool.Decides.{leb_tells}
use Rattle.std.proofs.lemmas.List.{append-nil}
use Rattle.pps_types.specs.History.{Entry}
use Rattle.pps_types.specs.Reading.{OpenHandle, block, visible}
use Rattle.pps_types.specs.Rests.{Progress}
use Rattle.pps_types.specs.Checks.{count_owed, is_client, is_server_message}
use Rattle.server_queue.specs.Blocks.{queue_blocks}
use Rattle.server_queue.specs.OwedTo.{AllVisible}
use Rattle.server_queue.proofs.Columns.{blocks_are}
use Rattle.sub_reader.specs.Blocks.{owed_blocks}
use Rattle.sub_reader.specs.Rows.{number_in}
use Rattle.topics.specs.QueueRows.{QueueRow, handle_of, is_full_client, IsRowOn}
use Rattle.topics.proofs.Seen.{all-kept}

all-visible : (h : OpenHandle Progress) (xs : List Entry) → AllByRecursion (λ e. visible h e ≡ true) xs → AllVisible h xs
all-visible h [] all = tt
all-visible h (x ∷ xs) all = (all.0, all-visible h xs all.1)

module _ (object : ℕ) (name : List ℕ) (x : QueueRow) (is : IsRowOn object x) where
  pub queue-given : queue_blocks (x.progress.owed ++ []) ≡ owed_blocks (Some (handle_of object name x))
  queue-given =
      let h = handle_of object name x in
      ap queue_blocks (append-nil x.progress.owed)
      ∙ blocks_are h x.progress.owed (record { kind = is.kind; seen = all-visible h x.progress.owed is.owed })
      ∙ ap (map (block h)) (sym (all-kept (visible h) x.progress.owed is.owed))

  -- all that is owed is counted
  pub count-is : (test : Entry → Bool) → length (filter test x.progress.owed) ≡ count_owed test (handle_of object name x)
  count-is test = ap (λ xs. length (filter test xs)) (sym (all-kept (visible (handle_of object name x)) x.progress.owed is.owed))

pub not-lt : (a b : ℕ) → not (nat_lt a b) ≡ nat_le b a
not-lt a b = ⊎_elim
    (λ (x : (leb (suc a) b ≡ true) × (suc a ≤ b)). ⊎_elim
    (λ (y : (leb b a ≡ true) × (b ≤ a)). absurd (omega (arith, x.1, y.1)))
    (λ (y : (leb b a ≡ false) × (a < b)). ap not x.0 ∙ sym y.0)
    (leb_tells b a))
    (λ (x : (leb (suc a) b ≡ false) × (b < suc a)). ⊎_elim
    (λ (y : (leb b a ≡ true) × (b ≤ a)). ap not x.0 ∙ sym y.0)
    (λ (y : (leb b a ≡ false) × (a < b)). absurd (omega (arith, x.1, y.1)))
    (leb_tells b a))
    (leb_tells (suc a) b)

-- ---- the first client that is full

module _ (object : ℕ) (name : List ℕ) where
  abbrev pub is_full : OpenHandle Progress → Bool
  is_full h = is_client h.kind && nat_le h.limit (count_owed is_server_message h)

  full-same : (x : QueueRow) → IsRowOn object x → is_full_client x ≡ is_full (handle_of object name x)
  full-same x is = ap (λ b. is_client x.opening.kind && b)
      (not-lt (length (filter is_server_message x.progress.owed)) x.progress.limit ∙ (λ i. nat_le (is.limit i) (count-is object name x is is_server_message i)))

  pub full-found : (xs : List QueueRow) → AllByRecursion (IsRowOn object) xs → option_map number_in (find is_full_client xs) ≡ option_map (λ (h : OpenHandle Progress). h.number) (find is_full (map (handle_of object name) xs))
  full-found [] all = refl
  full-found (x ∷ xs) all =
      ap (λ b. option_map number_in (cond b (Some x) (find is_full_client xs))) (full-same x all.0)
      ∙ by (is_full (handle_of object name x)) (full-found xs all.1)
    where
      by : (b : Bool) → option_map number_in (find is_full_client xs) ≡ option_map (λ (h : OpenHandle Progress). h.number) (find is_full (map (handle_of object name) xs))
          → option_map number_in (cond b (Some x) (find is_full_client xs)) ≡ option_map (λ (h : OpenHandle Progress). h.number) (cond b (Some (handle_of object name x)) (find is_full (map (handle_of object name) xs)))
      by true rec = refl
      by false rec = rec
