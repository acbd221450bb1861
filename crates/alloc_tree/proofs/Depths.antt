-- A directory is deeper than the directories in it.
use Rattle.std.proofs.Common.{◌≡◌, ℕ, zero, suc, ◌+◌, ◌<◌, ◌≤◌, max, List, [], ◌∷◌, Box, Vec, length, get_or, ap, sym, subst, arith}
use Rattle.alloc_tree.specs.Contents.{Contents}
use Rattle.alloc_tree.specs.View.{node_depth, deepest, contents_of}
use Rattle.alloc_tree.specs.declared.directory.Entry.{Entry}
use Rattle.alloc_tree.specs.declared.directory.Node.TheVariants.{Directory}

depth_at : {A : Type 0} (es : List (Entry A)) (i : ℕ) (e : Entry A) → i < length es → e ≡ get_or es i e → node_depth e.node ≤ deepest es
depth_at [] i e h read = absurd (omega (arith, h))
depth_at (x ∷ es) zero e h read = subst (λ y. node_depth y.node ≤ max (node_depth x.node) (deepest es)) (sym read) (omega arith)
depth_at (x ∷ es) (suc i) e h read = let k = depth_at es i e (omega (arith, h)) read in omega (arith, k)

pub depth_below : {A : Type 0} (id : ℕ) (v : Vec (Entry A) A) (c : Contents) (es : List (Entry A)) (i : ℕ) (e : Entry A) (d : Box Contents A) → contents_of id v ≡ c → es ≡ v.items → i < length es → e ≡ get_or es i e → e.node ≡ Directory d → d.value.depth < c.depth
depth_below id v c es i e d view same h read is =
    let k : node_depth e.node ≤ deepest es = depth_at es i e h read in
    let a : node_depth e.node ≡ d.value.depth = ap node_depth is in
    let b : deepest v.items + 1 ≡ c.depth = ap (λ x. x.depth) view in
    let s : deepest es ≡ deepest v.items = ap deepest same in
    omega (arith, k, a, b, s)
