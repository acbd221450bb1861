use Rattle.std.proofs.Common.{sym, ap, ◌∙◌, nat_eq, [], ◌∷◌}
use Rattle.pps_types.specs.Bytes.{is_empty}
use Rattle.pps_types.specs.Names.{members_in}
use Rattle.pps_types.specs.declared.found.Found.TheVariants.{Directory}
use Rattle.alloc_tree.specs.Contents.{Contents}
use Rattle.alloc_tree.proofs.Ordered.{whole_is}
use Rattle.alloc_tree.proofs.Refusals.{on_true, none_here, made_alone}
use Rattle.alloc_tree.proofs.directory.Directory.is_empty.Goals as goal

pub returns-clause-value : goal.returns-clause-value
returns-clause-value g c =
    c.is_empty.ensures ∙ ap (λ k. nat_eq k 0) c.self.inside.entries.ok.0 ∙ sym (none_here c.self.inside.id c.self.inside.entries.items)
    ∙ ap (λ l. is_empty (members_in [] l)) (sym (whole_is c.self.inside.id c.self.inside.entries _ c.self.view_is c.self.invariant))

pub returns-clause-alone : goal.returns-clause-alone
returns-clause-alone g c = on_true c.is_empty.result _ (λ h.
    whole_is c.self.inside.id c.self.inside.entries _ c.self.view_is c.self.invariant
    ∙ made_alone c.self.inside.id c.self.inside.entries.items (sym (c.is_empty.ensures ∙ ap (λ k. nat_eq k 0) c.self.inside.entries.ok.0) ∙ h)
    ∙ ap (λ (d : Contents). ([], Directory d.id) ∷ []) c.self.view_is)
