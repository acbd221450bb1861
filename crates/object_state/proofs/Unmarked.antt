-- Attributes of which none is nonpersistent, and what lines make of them.
use Rattle.std.proofs.Common.{◌≡◌, ℕ, Bool, true, false, cond, not, List, [], ◌∷◌, refl, sym, ap}
use Rattle.std.specs.Prelude.{filter, fold, ◌&&◌}
use Rattle.std.proofs.lemmas.Bool.{and_parts, or_parts}
use Rattle.pps_types.specs.declared.line.Line.{Line}
use Rattle.pps_types.specs.declared.line.Line.TheVariants.{Set, Del}
use Rattle.pps_types.specs.declared.line.WriteLine.{WriteLine}
use Rattle.pps_types.specs.declared.line.WriteLine.TheVariants.{Set as WriteSet, Del as WriteDel}
use Rattle.pps_types.specs.Bytes.{same}
use Rattle.pps_types.specs.History.{Attribute, put, apply_line, is_marked, marked_by, message_line, resolved}
use Rattle.object_state.specs.Marks.{sets_mark, set_marks, are_unmarked}

-- one more, and all
with-one : (a b : Bool) → a ≡ true → b ≡ true → (a && b) ≡ true
with-one a b x y = (λ i. x i && y i)

unmarked-put : (a : Attribute) (held : List Attribute) → a.n ≡ false → are_unmarked held ≡ true → are_unmarked (put held a) ≡ true
unmarked-put a [] plain all = with-one (not a.n) true (ap not plain) refl
unmarked-put a (b ∷ bs) plain all =
    let parts = and_parts (not b.n) (are_unmarked bs) all in
    by (unmarked-put a bs plain parts.1) parts.0 parts.1 (same a.name b.name)
  where
    by : are_unmarked (put bs a) ≡ true → not b.n ≡ true → are_unmarked bs ≡ true → (t : Bool) → are_unmarked (cond t (a ∷ bs) (b ∷ put bs a)) ≡ true
    by rest first others true = with-one (not a.n) (are_unmarked bs) (ap not plain) others
    by rest first others false = with-one (not b.n) (are_unmarked (put bs a)) first rest

unmarked-filter : (p : Attribute → Bool) (held : List Attribute) → are_unmarked held ≡ true → are_unmarked (filter p held) ≡ true
unmarked-filter p [] all = refl
unmarked-filter p (b ∷ bs) all =
    let parts = and_parts (not b.n) (are_unmarked bs) all in
    by (unmarked-filter p bs parts.1) parts.0 (p b)
  where
    by : are_unmarked (filter p bs) ≡ true → not b.n ≡ true → (t : Bool) → are_unmarked (cond t (b ∷ filter p bs) (filter p bs)) ≡ true
    by rest first true = with-one (not b.n) (are_unmarked (filter p bs)) first rest
    by rest first false = rest

unmarked-line : (line : Line) (held : List Attribute) → sets_mark line ≡ false → are_unmarked held ≡ true → are_unmarked (apply_line held line) ≡ true
unmarked-line (Set name enc value n) held plain all = unmarked-put (record { name = name; enc = enc; value = value; n = n }) held plain all
unmarked-line (Del name) held plain all = unmarked-filter (λ (a : Attribute). not (same a.name name)) held all

-- lines that make none nonpersistent leave none so
pub unmarked-lines : (lines : List Line) (held : List Attribute) → set_marks lines ≡ false → are_unmarked held ≡ true → are_unmarked (fold apply_line held lines) ≡ true
unmarked-lines [] held plain all = all
unmarked-lines (line ∷ lines) held plain all =
    let parts = or_parts (sets_mark line) (set_marks lines) plain in
    unmarked-lines lines (apply_line held line) parts.1 (unmarked-line line held parts.0 all)

-- the persistent ones are not nonpersistent
pub unmarked-persistent : (held : List Attribute) → are_unmarked (filter (λ (a : Attribute). not a.n) held) ≡ true
unmarked-persistent [] = refl
unmarked-persistent (b ∷ bs) = by (unmarked-persistent bs) (not b.n) refl
  where
    by : are_unmarked (filter (λ (a : Attribute). not a.n) bs) ≡ true → (t : Bool) → not b.n ≡ t
        → are_unmarked (cond t (b ∷ filter (λ (a : Attribute). not a.n) bs) (filter (λ (a : Attribute). not a.n) bs)) ≡ true
    by rest true is = with-one (not b.n) (are_unmarked (filter (λ (a : Attribute). not a.n) bs)) is rest
    by rest false is = rest

plain_mark : (n : Bool) → not n ≡ true → n ≡ false
plain_mark true is = absurd (let bad = is in cc)
plain_mark false is = refl

unmarked-name : (name : List ℕ) (held : List Attribute) → are_unmarked held ≡ true → is_marked name held ≡ false
unmarked-name name [] all = refl
unmarked-name name (b ∷ bs) all =
    let parts = and_parts (not b.n) (are_unmarked bs) all in
    by (unmarked-name name bs parts.1) (plain_mark b.n parts.0) (same b.name name)
  where
    by : is_marked name bs ≡ false → b.n ≡ false → (t : Bool) → cond t b.n (is_marked name bs) ≡ false
    by rest first true = first
    by rest first false = rest

-- what a line of a write comes to there
pub unmarked-resolved : (line : WriteLine) (held : List Attribute) → are_unmarked held ≡ true → message_line line ≡ resolved held line
unmarked-resolved (WriteSet name enc value mark) held all = ap (λ n. Set name enc value (marked_by mark n)) (sym (unmarked-name name held all))
unmarked-resolved (WriteDel name) held all = refl
