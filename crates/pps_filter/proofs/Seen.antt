-- A filter's parts, and the definitions' parts that they are.
use Rattle.std.proofs.Common.{◌≡◌, Bool, List, [], ◌∷◌, map, refl, sym, ap, ◌∙◌}
use Rattle.std.specs.Prelude.{◌||◌}
use Rattle.std.specs.List.{list_any}
use Rattle.pps_types.specs.Filter as meant
use Rattle.pps_filter.specs.declared.filter.Condition.{Condition}
use Rattle.pps_filter.specs.declared.filter.Condition.TheVariants.{Always, IsValue, IsOtherValue, IsBelow, IsAbove}
use Rattle.pps_filter.specs.declared.filter.Part.{Part}
use Rattle.pps_filter.specs.Seen.{condition_seen, part_seen, parts_seen}

pub list_any-map : {X Y : Type 0} (p : Y → Bool) (f : X → Y) (xs : List X) → list_any p (map f xs) ≡ list_any (λ x. p (f x)) xs
list_any-map p f [] = refl
list_any-map p f (x ∷ xs) = ap (λ rest. p (f x) || rest) (list_any-map p f xs)

condition_again : meant.Condition → Condition
condition_again meant.Always = Always
condition_again (meant.IsValue v) = IsValue v
condition_again (meant.IsOtherValue v) = IsOtherValue v
condition_again (meant.IsBelow i) = IsBelow i
condition_again (meant.IsAbove i) = IsAbove i

part_again : meant.Part → Part
part_again p = record { name = p.name; condition = condition_again p.condition }

condition_is : (c : Condition) → condition_again (condition_seen c) ≡ c
unfolding condition_again
condition_is Always = refl
condition_is (IsValue v) = refl
condition_is (IsOtherValue v) = refl
condition_is (IsBelow i) = refl
condition_is (IsAbove i) = refl

part_is : (p : Part) → part_again (part_seen p) ≡ p
unfolding part_again
part_is p = ap (λ c. record { name = p.name; condition = c }) (condition_is p.condition)

parts_are : (ps : List Part) → map part_again (parts_seen ps) ≡ ps
parts_are [] = refl
parts_are (p ∷ ps) = rw (part_is p, parts_are ps)

-- what is seen tells the parts apart
pub parts_seen-injective : (ps qs : List Part) → parts_seen ps ≡ parts_seen qs → ps ≡ qs
parts_seen-injective ps qs e = sym (parts_are ps) ∙ ap (map part_again) e ∙ parts_are qs
