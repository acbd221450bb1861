use Rattle.std.proofs.Common.{rules, ◌<◌, [], ◌∷◌, ◌++◌, sym, ap, subst, ◌∙◌, append_assoc, append-nil}
use Rattle.std.proofs.lemmas.List.{take_all}
use Rattle.pps_types.specs.declared.found.Found.TheVariants.{Object, Directory}
use Rattle.alloc_tree.specs.Contents.{whole}
use Rattle.alloc_tree.specs.Walk.{names, beyond_path}
use Rattle.alloc_tree.specs.View.{flatten, standing}
use Rattle.alloc_tree.proofs.Depths.{depth_below}
use Rattle.alloc_tree.proofs.Ordered.{whole_is}
use Rattle.alloc_tree.proofs.Walks.{walked_more}
use Rattle.alloc_tree.proofs.directory.Directory.+walk.Goals.{in-Object+in_ok-push-in-Object, in-Directory+in_ok-walk-in-Directory}
use Rattle.alloc_tree.proofs.directory.Directory.+walk.Goals as goal

pub walk-requires : goal.walk-requires
walk-requires g t c κs within =
    let below = depth_below c.self.inside.id c.self.inside.entries _ c.deref-entry-items.result.now c.loop-entry.entry-index c.entry-item.result c.in-Directory.inner c.self.view_is c.deref-entry-items.ensures.value c.loop-entry-test.true c.entry-item.is c.in-Directory.is in
    (rw c.deref.ensures (subst (λ k. c.in-Directory.inner.value.depth < k) c.decreases below), search rules)

pub loop-entry-preserved : goal.loop-entry-preserved
loop-entry-preserved g t c =
    let p = names c.args.path.now in
    let q = p ++ c.entry-item.result.name.items ∷ [] in
    elim c.match-entry.branch [
      | in-Object+in_ok-push-in-Object w ↦
          ap (λ v. v.items) w.walked-is ∙ walked_more standing c.deref-entry-items.result.now c.loop-entry.entry-index c.entry-item.result c.loop-entry-test.true c.entry-item.is p _ c.loop-entry.walked.items _
          (w.in_ok-push-in-Object.ensures.items
          ∙ (λ j. c.loop-entry.walked.items ++ (w.new-in-Object.ensures ∙ (λ k. ((c.in_ok-longer.ensures ∙ sym (append-nil q)) k, Object w.in-Object.id))) j ∷ [])
          ∙ ap (λ n. c.loop-entry.walked.items ++ beyond_path q (standing n)) (sym w.in-Object.is))
          c.loop-entry.invariant
      | in-Directory+in_ok-walk-in-Directory w ↦
          ap (λ v. v.items) w.walked-is ∙ walked_more standing c.deref-entry-items.result.now c.loop-entry.entry-index c.entry-item.result c.loop-entry-test.true c.entry-item.is p _ c.loop-entry.walked.items _
          (w.in_ok-walk-in-Directory.ensures
          ∙ (λ j. c.loop-entry.walked.items ++ beyond_path ((ap names w.deref-in-Directory.ensures.value ∙ c.in_ok-longer.ensures) j) ((ap whole w.deref.ensures ∙ ap standing (sym w.in-Directory.is)) j)))
          c.loop-entry.invariant
    ]

pub returns : goal.returns
returns g t c =
    let p = names c.args.path.now in
    c.loop-entry.invariant
    ∙ (λ j. c.in_ok-push.ensures.items j ++ beyond_path p (flatten standing ((take_all c.loop-entry.entry-index c.deref-entry-items.result.now c.loop-entry-test.false ∙ c.deref-entry-items.ensures.value) j)))
    ∙ append_assoc c.args.walked.now.items (c.new.result ∷ []) (beyond_path p (flatten standing c.self.inside.entries.items))
    ∙ (λ j. c.args.walked.now.items ++ (c.new.ensures ∙ (λ k. ((c.in_ok-own.ensures ∙ sym (append-nil p)) k, Directory c.self.inside.id))) j ∷ beyond_path p (flatten standing c.self.inside.entries.items))
    ∙ ap (λ l. c.args.walked.now.items ++ beyond_path p l) (sym (whole_is c.self.inside.id c.self.inside.entries _ c.self.view_is c.self.invariant))
