use Rattle.std.proofs.Common.{◌≡◌, [], ◌∷◌, drop, take, ◌+◌, sym, subst}
use Rattle.std.proofs.lemmas.List.{take_all}
use Rattle.alloc_tree.specs.Contents.{whole}
use Rattle.alloc_tree.specs.Walk.{LeadsTo, LeadsNowhere}
use Rattle.alloc_tree.proofs.Ways.{way_ends, split_at, nowhere_refused, to_directory}
use Rattle.alloc_tree.proofs.directory.Directory.directory.Goals as goal

pub returns-in-Err-clause-none : goal.returns-in-Err-clause-none
returns-in-Err-clause-none g c =
    let rest = drop (c.loop-name.name-index + 1) c.args.path.now in
    let step : LeadsNowhere (whole c.loop-name.here.now) (c.name-item.result ∷ []) c.in-Err.refusal = subst (λ n. LeadsNowhere (whole c.loop-name.here.now) (n ∷ []) c.in-Err.refusal) c.as_slice.ensures c.in-Err.ensures.none in
    subst (λ p. LeadsNowhere (whole c.args.self.now) p c.in-Err.refusal) (sym (split_at c.args.path.now c.loop-name.name-index c.name-item.result c.loop-name-test.true c.name-item.is))
    (way_ends (whole c.args.self.now) (whole c.loop-name.here.now) (take c.loop-name.name-index c.args.path.now) c.name-item.result c.loop-name.invariant rest c.in-Err.refusal step)

pub returns-in-Err-clause-refusal : goal.returns-in-Err-clause-refusal
returns-in-Err-clause-refusal g c = sym (nowhere_refused (whole c.args.self.now) c.args.path.now c.in-Err.refusal (returns-in-Err-clause-none g c))

pub returns-clause-refusal : goal.returns-clause-refusal
returns-clause-refusal g c =
    let all : take c.loop-name.name-index c.args.path.now ≡ c.args.path.now = take_all c.loop-name.name-index c.args.path.now c.loop-name-test.false in
    sym (to_directory (whole c.args.self.now) c.args.path.now c.loop-name.here.now (subst (λ p. LeadsTo (whole c.args.self.now) p (whole c.loop-name.here.now)) all c.loop-name.invariant))
