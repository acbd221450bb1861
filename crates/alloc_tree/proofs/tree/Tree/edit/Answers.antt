use Rattle.std.proofs.Common.{sym, ap, ◌∙◌}
use Rattle.std.proofs.lemmas.Result.{err_from_is_err_and}
use Rattle.alloc_tree.specs.Contents.{whole}
use Rattle.alloc_tree.specs.Held.{edit_of}
use Rattle.alloc_tree.proofs.Maps.{edit_of_map, map_edited}
use Rattle.alloc_tree.proofs.tree.Tree.edit.Goals as goal

pub returns-clause-refusal : goal.returns-clause-refusal
returns-clause-refusal g c = c.in_ok-edit.ensures.refusal ∙ sym (edit_of_map c.args.edit c.self.inside.root c.args.path.now) ∙ ap (λ h. edit_of c.args.edit h.map c.args.path.now) c.self.view_is

pub returns-clause-map : goal.returns-clause-map
returns-clause-map g c = rw (← c.self.view_is) (map_edited c.args.edit (whole c.self.inside.root) (whole c.edit.new.self) c.args.path.now c.in_ok-edit.ensures.ok)

pub returns-in_err-edit-clause-refusal : goal.returns-in_err-edit-clause-refusal
returns-in_err-edit-clause-refusal g c =
    let p = err_from_is_err_and c.from_residual.result c.from_residual.ensures.1 in
    rw (p.1, p.2) (c.in_err-edit.ensures.refusal ∙ sym (edit_of_map c.args.edit c.self.inside.root c.args.path.now) ∙ ap (λ h. edit_of c.args.edit h.map c.args.path.now) c.self.view_is)
