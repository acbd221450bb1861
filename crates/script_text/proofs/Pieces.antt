-- The lines of a text that arrives in pieces.
use Rattle.std.proofs.Common.{◌≡◌, ◌≢◌, ℕ, Bool, true, false, List, [], ◌∷◌, ◌++◌, Option, Some, None, refl, sym, ap, ◌∙◌, eqb}
use Rattle.std.specs.Prelude.{option_map, cond}
use Rattle.pps_types.specs.Bytes.{split_at_first, pieces, onto_first}
use Rattle.pps_types.specs.Text.{without_empty_end}

pub no-first : {X Y : Type 0} (f : X → Y) (o : Option X) → option_map f o ≡ None → o ≡ None
no-first f None e = refl
no-first f (Some x) e = absurd (let h = e in cc)

pub pieces-behind : (c : ℕ) (part text first : List ℕ) (others : List (List ℕ)) → split_at_first c part ≡ None → pieces c text ≡ first ∷ others → pieces c (part ++ text) ≡ (part ++ first) ∷ others
pieces-behind c [] text first others none is = is
pieces-behind c (b ∷ bs) text first others none is = by (eqb b c) none (pieces-behind c bs text first others)
  where
    by : (t : Bool) → cond {A = Option (List ℕ × List ℕ)} t (Some ([], bs)) (option_map (λ parts. (b ∷ parts.0, parts.1)) (split_at_first c bs)) ≡ None
        → (split_at_first c bs ≡ None → pieces c text ≡ first ∷ others → pieces c (bs ++ text) ≡ (bs ++ first) ∷ others)
        → cond t ([] ∷ pieces c (bs ++ text)) (onto_first b (pieces c (bs ++ text))) ≡ (b ∷ bs ++ first) ∷ others
    by true e rest = absurd (let h = e in cc)
    by false e rest = ap (onto_first b) (rest (no-first _ (split_at_first c bs) e) is)

pub none-behind : (c : ℕ) (part text : List ℕ) → split_at_first c part ≡ None → split_at_first c text ≡ None → split_at_first c (part ++ text) ≡ None
none-behind c [] text none more = more
none-behind c (b ∷ bs) text none more = by (eqb b c) none (none-behind c bs text)
  where
    by : (t : Bool) → cond {A = Option (List ℕ × List ℕ)} t (Some ([], bs)) (option_map (λ parts. (b ∷ parts.0, parts.1)) (split_at_first c bs)) ≡ None
        → (split_at_first c bs ≡ None → split_at_first c text ≡ None → split_at_first c (bs ++ text) ≡ None)
        → cond {A = Option (List ℕ × List ℕ)} t (Some ([], bs ++ text)) (option_map (λ parts. (b ∷ parts.0, parts.1)) (split_at_first c (bs ++ text))) ≡ None
    by true e rest = absurd (let h = e in cc)
    by false e rest = ap (option_map (λ parts. (b ∷ parts.0, parts.1))) (rest (no-first _ (split_at_first c bs) e) more)

-- ---- all pieces of an input

pub head-of : {X : Type 0} (x y : X) (xs ys : List X) → x ∷ xs ≡ y ∷ ys → x ≡ y
head-of x y xs ys e = let h = e in cc

tail-of : {X : Type 0} (x y : X) (xs ys : List X) → x ∷ xs ≡ y ∷ ys → xs ≡ ys
tail-of x y xs ys e = let h = e in cc

pub pieces-some : (c : ℕ) (text : List ℕ) → pieces c text ≡ [] → ⊥
pieces-some c [] e = let h = e in cc
pieces-some c (b ∷ bs) e = by (eqb b c) (pieces c bs) e
  where
    by : (t : Bool) (others : List (List ℕ)) → cond t ([] ∷ others) (onto_first b others) ≡ [] → ⊥
    by true others e = let h = e in cc
    by false [] e = let h = e in cc
    by false (q ∷ qs) e = let h = e in cc

-- what stands behind a text stands behind its last piece
pub pieces-on : (c : ℕ) (text : List ℕ) (lines : List (List ℕ)) (part more : List ℕ) → pieces c text ≡ lines ++ part ∷ [] → pieces c (text ++ more) ≡ lines ++ pieces c (part ++ more)
pieces-on c [] [] part more e = let is : [] ≡ part = head-of [] part [] [] e in rw (sym is) refl
pieces-on c [] (line ∷ []) part more e = absurd (let h = tail-of _ _ _ _ e in cc)
pieces-on c [] (line ∷ l ∷ lines) part more e = absurd (let h = tail-of _ _ _ _ e in cc)
pieces-on c (b ∷ bs) lines part more e = by (λ ls p. pieces-on c bs ls p more) (eqb b c) refl (pieces c bs) refl lines e
  where
    by : ((ls : List (List ℕ)) (p : List ℕ) → pieces c bs ≡ ls ++ p ∷ [] → pieces c (bs ++ more) ≡ ls ++ pieces c (p ++ more)) → (t : Bool) → eqb b c ≡ t → (others : List (List ℕ)) → pieces c bs ≡ others → (lines : List (List ℕ)) → cond t ([] ∷ others) (onto_first b others) ≡ lines ++ part ∷ []
        → cond t ([] ∷ pieces c (bs ++ more)) (onto_first b (pieces c (bs ++ more))) ≡ lines ++ pieces c (part ++ more)
    by on t here [] is ls e = absurd (pieces-some c bs is)
    by on true here (q ∷ qs) is [] e = absurd (let h = tail-of _ _ _ _ e in cc)
    by on true here (q ∷ qs) is (line ∷ ls) e =
        let rest = on ls part (is ∙ tail-of _ _ _ _ e) in
        ap (λ first. first ∷ pieces c (bs ++ more)) (head-of _ _ _ _ e) ∙ ap (λ others. line ∷ others) rest
    by on false here (q ∷ qs) is [] e =
        let first : b ∷ q ≡ part = head-of _ _ _ _ e in
        let none : qs ≡ [] = tail-of _ _ _ _ e in
        let rest = on [] q (is ∙ ap (λ others. q ∷ others) none) in
        ap (onto_first b) rest ∙ ap (λ t. cond t ([] ∷ pieces c (q ++ more)) (onto_first b (pieces c (q ++ more)))) (sym here) ∙ ap (λ p. pieces c (p ++ more)) first
    by on false here (q ∷ qs) is (line ∷ ls) e =
        let first : b ∷ q ≡ line = head-of _ _ _ _ e in
        let rest = on (q ∷ ls) part (is ∙ ap (λ others. q ∷ others) (tail-of _ _ _ _ e)) in
        ap (onto_first b) rest ∙ ap (λ l. l ∷ ls ++ pieces c (part ++ more)) first

-- the lines before the last ones stay
pub last-lines : (lines rest : List (List ℕ)) → rest ≢ [] → without_empty_end (lines ++ rest) ≡ lines ++ without_empty_end rest
last-lines [] rest some = refl
last-lines (line ∷ []) [] some = absurd (some refl)
last-lines (line ∷ []) (r ∷ rest) some = refl
last-lines (line ∷ l ∷ lines) rest some = ap (λ others. line ∷ others) (last-lines (l ∷ lines) rest some)
