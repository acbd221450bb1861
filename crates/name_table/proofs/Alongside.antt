-- Two lists that are gone over side by side.
use Rattle.std.proofs.Common.{◌≡◌, Bool, true, false, map, List, [], ◌∷◌, Option, Some, None, Bor, refl, sym, ◌∙◌}
use Rattle.std.specs.Prelude.{is_some, not}
use Rattle.std.specs.Iterator.{YieldsFirstBy}
use Rattle.number_table.specs.Numbered.{Entry}
use Rattle.name_table.specs.Standing.{Placed, known_of}

module _ {X : Type 0} (one other ours theirs : List X) (so_far : (one ≡ other → ours ≡ theirs) × (ours ≡ theirs → one ≡ other)) where
  pub same_so_far : (a b : X) (xs ys : List X) → ours ≡ a ∷ xs → theirs ≡ b ∷ ys → a ≡ b → (one ≡ other → xs ≡ ys) × (xs ≡ ys → one ≡ other)
  same_so_far a b xs ys e f is = (
    λ same. rests (sym e ∙ so_far.0 same ∙ f),
    λ same. so_far.1 (e ∙ (λ i. is i ∷ same i) ∙ sym f),
  )
    where
      rests : a ∷ xs ≡ b ∷ ys → xs ≡ ys
      rests h = cc

  pub not_same : (a b : X) (xs ys : List X) → ours ≡ a ∷ xs → theirs ≡ b ∷ ys → (a ≡ b → ⊥) → one ≡ other → ⊥
  not_same a b xs ys e f differ same = differ (firsts (sym e ∙ so_far.0 same ∙ f))
    where
      firsts : a ∷ xs ≡ b ∷ ys → a ≡ b
      firsts h = cc

  pub not_as_long : (a : X) (xs : List X) → ours ≡ a ∷ xs → theirs ≡ [] → one ≡ other → ⊥
  not_as_long a xs e f same = let no : a ∷ xs ≡ [] = sym e ∙ so_far.0 same ∙ f in cc

  pub same_in_all : ours ≡ [] → (one ≡ other → theirs ≡ []) × (theirs ≡ [] → one ≡ other)
  same_in_all e = ((λ same. sym (so_far.0 same) ∙ e), (λ f. so_far.1 (e ∙ sym f)))

-- nothing follows where nothing was left
pub nothing_left : {X : Type 0} (theirs rest : List X) (r : Option (Bor X)) (b : Bool) → YieldsFirstBy (λ x. x.now) (λ rest. rest) theirs r rest → is_some r ≡ not b → (b ≡ true → theirs ≡ []) × (theirs ≡ [] → b ≡ true)
nothing_left theirs rest None true h is = ((λ e. h.0), (λ e. refl))
nothing_left theirs rest None false h is = absurd (let no = is in cc)
nothing_left theirs rest (Some x) true h is = absurd (let no = is in cc)
nothing_left theirs rest (Some x) false h is = ((λ e. absurd (let no = e in cc)), (λ e. absurd (let no = sym h ∙ e in cc)))

pub no_knowns : (xs : List Placed) → map known_of xs ≡ [] → xs ≡ []
no_knowns [] e = refl
no_knowns (x ∷ xs) e = absurd (let no = e in cc)

-- what is known of the values under their numbers
pub knowns_of : (es : List (Entry Placed)) → map known_of (map (λ (e : Entry Placed). e.value) es) ≡ map (λ (e : Entry Placed). known_of e.value) es
knowns_of [] = refl
knowns_of (e ∷ es) = λ i. known_of e.value ∷ knowns_of es i
