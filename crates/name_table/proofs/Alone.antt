-- What stands, in a service in which nothing else does.
use Rattle.std.proofs.Common.{◌≡◌, List, [], ◌∷◌, ◌++◌, map, None, refl, ap, ◌∙◌}
use Rattle.pps_types.specs.Names.{Path}
use Rattle.pps_types.specs.Content.{Directory, Content, at, object_at}
use Rattle.service_laws.proofs.Fits.{Tree}
use Rattle.service_laws.proofs.Finds.{all-imp}
use Rattle.name_table.specs.Standing.{content_of, standing_in}

pub object_alone : (c : Content) (p : Path) → object_at (content_of (standing_in c)) p ≡ object_at c p
object_alone c [] = refl
object_alone c (n ∷ ns) = refl

pub at_alone : (c : Content) (p : Path) → at (content_of (standing_in c)) p ≡ at c p
at_alone c [] = refl
at_alone c (n ∷ ns) = refl

pub tree_alone : (c : Content) → Tree c → Tree (content_of (standing_in c))
tree_alone c t = (t.0, t.1, t.2, all-imp (λ (d : Directory). object_at c d.path ≡ None) (λ (d : Directory). object_at (content_of (standing_in c)) d.path ≡ None) (λ d e. object_alone c d.path ∙ e) c.directories t.3, t.4, t.5)

pub map_push : {X Y : Type 0} (f : X → Y) (xs : List X) (x : X) → map f (xs ++ x ∷ []) ≡ map f xs ++ f x ∷ []
map_push f [] x = refl
map_push f (y ∷ ys) x = ap (λ zs. f y ∷ zs) (map_push f ys x)
