use Rattle.std.proofs.Common.{[], ◌∷◌, sym, ap, subst, ◌∙◌}
use Rattle.pps_types.specs.declared.found.Found.TheVariants.{Directory}
use Rattle.alloc_tree.specs.View.{flatten, standing}
use Rattle.alloc_tree.specs.Entries.{NamesRise}
use Rattle.alloc_tree.proofs.Ordered.{whole_view}
use Rattle.alloc_tree.proofs.directory.Directory.new.Goals as goal

pub returns-clause-alone : goal.returns-clause-alone
returns-clause-alone g c = whole_view c.args.id c.new.result (subst NamesRise (sym c.new.ensures.items) tt) ∙ ap (λ l. ([], Directory c.args.id) ∷ flatten standing l) c.new.ensures.items
