-- Whether an attribute of a name is there.
use Rattle.std.proofs.Common.{◌≡◌, Bool, true, false, cond, ◌||◌, List, [], ◌∷◌, ℕ, refl, nat_eq}
use Rattle.std.specs.Prelude.{is_some, Some}
use Rattle.std.specs.Map.{lookup}
use Rattle.std.specs.List.{list_any}
use lib.Pointwise.{pointwise}
use Rattle.pps_types.specs.Bytes.{same}
use Rattle.pps_types.specs.History.{Attribute}
use Rattle.pps_types.proofs.SameBytes.{same-sym}
use Rattle.pps_types.specs.AttributeContent.{Content}
use Rattle.object_state.specs.Entries.{attributes_of}

pub has-key : (k : List ℕ) (es : List (List ℕ × Content)) → is_some (lookup (pointwise nat_eq k) es) ≡ list_any (λ (a : Attribute). same a.name k) (attributes_of es)
has-key k [] = refl
has-key k (e ∷ es) = by (pointwise nat_eq k e.0) (same e.0 k) (same-sym k e.0) (has-key k es)
  where
    by : (a b : Bool) → a ≡ b → is_some (lookup (pointwise nat_eq k) es) ≡ list_any (λ (a : Attribute). same a.name k) (attributes_of es)
        → is_some (cond a (Some e.1) (lookup (pointwise nat_eq k) es)) ≡ (b || list_any (λ (a : Attribute). same a.name k) (attributes_of es))
    by true true is rest = refl
    by false false is rest = rest
    by true false is rest = absurd cc
    by false true is rest = absurd cc
