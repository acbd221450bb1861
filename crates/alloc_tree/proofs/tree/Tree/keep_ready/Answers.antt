use Rattle.std.proofs.Common.{sym, ap, ◌∙◌}
use Rattle.std.proofs.lemmas.Result.{err_from_is_err_and}
use Rattle.alloc_tree.specs.Held.{new_of}
use Rattle.alloc_tree.specs.Refused.{new_refused}
use Rattle.alloc_tree.proofs.Maps.{new_of_map}
use Rattle.alloc_tree.proofs.News.{none_no_memory}
use Rattle.alloc_tree.proofs.tree.Tree.keep_ready.Goals as goal

pub returns-clause-refusal : goal.returns-clause-refusal
returns-clause-refusal g c _ = c.in_ok-prepare.ensures.refusal none_no_memory ∙ sym (new_of_map c.args.kind c.self.inside.root c.args.path.now) ∙ ap (λ h. new_of c.args.kind h.map c.args.path.now) c.self.view_is

pub returns-clause-ok : goal.returns-clause-ok
returns-clause-ok g c = record {
  name = c.in_ok-prepare.ensures.ready;
  room = c.in_ok-prepare.ensures.room;
  free = new_of_map c.args.kind c.prepare.new.self c.args.path.now ∙ ap (λ es. new_refused c.args.kind es c.args.path.now) c.prepare.ensures.same ∙ sym (c.in_ok-prepare.ensures.refusal none_no_memory);
}

pub returns-in_err-prepare-clause-refusal : goal.returns-in_err-prepare-clause-refusal
returns-in_err-prepare-clause-refusal g c =
    let p = err_from_is_err_and c.from_residual.result c.from_residual.ensures.1 in
    rw (p.1, p.2) (λ h. c.in_err-prepare.ensures.refusal h ∙ sym (new_of_map c.args.kind c.self.inside.root c.args.path.now) ∙ ap (λ h. new_of c.args.kind h.map c.args.path.now) c.self.view_is)
