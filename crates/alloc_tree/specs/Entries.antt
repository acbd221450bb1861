-- The names of a directory's entries, and where a name stands among them.
use Rattle.std.specs.Prelude.{◌≡◌, ℕ, ◌+◌, ◌*◌, ◌<◌, ◌≤◌, List, [], ◌∷◌, length, take, drop, slice_index_or as get_or}
use Rattle.std.specs.declared.cmp.Ordering.TheVariants.{Less}
use Rattle.pps_types.specs.Names.{Name, name_cmp}
use Rattle.alloc_tree.specs.declared.directory.Entry.{Entry}

-- each name has P
abbrev pub AllNames : {A : Type 0} → (Name → Type 0) → List (Entry A) → Type 0
AllNames P [] = Unit {0}
AllNames P (e ∷ es) = P e.name.items × AllNames P es

abbrev pub AllBelow : {A : Type 0} → Name → List (Entry A) → Type 0
AllBelow n = AllNames (λ m. name_cmp m n ≡ Less)

abbrev pub AllAbove : {A : Type 0} → Name → List (Entry A) → Type 0
AllAbove n = AllNames (λ m. name_cmp n m ≡ Less)

-- the names strictly rise
abbrev pub NamesRise : {A : Type 0} → List (Entry A) → Type 0
NamesRise [] = Unit {0}
NamesRise (e ∷ es) = AllAbove e.name.items es × NamesRise es

-- the name stands nowhere, and would go to place i
pub record IsGapFor {A : Type 0} (es : List (Entry A)) (n : Name) (i : ℕ) : Type 0 where
  pub in_range : i ≤ length es
  pub below : AllBelow n (take i es)
  pub above : AllAbove n (drop i es)

-- the name stands at place i
pub record IsPlaceOf {A : Type 0} (es : List (Entry A)) (n : Name) (i : ℕ) : Type 0 where
  pub in_range : i < length es
  pub is : (e : Entry A) → (get_or es i e).name.items ≡ n

-- four bytes of a name as a number, the first counting most
abbrev pub four_bytes : Name → ℕ → ℕ
four_bytes n i = (get_or n i 0 * 256 + get_or n (i + 1) 0) * 65536 + (get_or n (i + 2) 0 * 256 + get_or n (i + 3) 0)

-- four places of a name hold bytes
pub record AreFourBytes (n : Name) (i : ℕ) : Type 0 where
  pub first : get_or n i 0 < 256
  pub second : get_or n (i + 1) 0 < 256
  pub third : get_or n (i + 2) 0 < 256
  pub fourth : get_or n (i + 3) 0 < 256
