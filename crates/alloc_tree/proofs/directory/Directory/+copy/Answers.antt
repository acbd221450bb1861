use Rattle.std.proofs.Common.{rules, ◌≡◌, ◌<◌, [], ◌∷◌, ◌++◌, map, sym, ap, subst, ◌∙◌}
use Rattle.std.proofs.lemmas.List.{take_all, map-append}
use Rattle.alloc_tree.specs.Contents.{whole}
use Rattle.alloc_tree.specs.View.{standing}
use Rattle.alloc_tree.proofs.Depths.{depth_below}
use Rattle.alloc_tree.proofs.Keys.{key, rising_by_keys, made_by_keys}
use Rattle.alloc_tree.proofs.Ordered.{whole_is, whole_view}
use Rattle.alloc_tree.proofs.Steps.{map_one_more}
use Rattle.alloc_tree.proofs.directory.Directory.+copy.Goals.{in-Object+in_ok-push-in-Object, in-Directory+in_ok-alloc-in-Directory+in_ok-copy-in-Directory+in_ok-new-in-Directory+in_ok-push-in-Directory}
use Rattle.alloc_tree.proofs.directory.Directory.+copy.Goals as goal

pub copy-requires : goal.copy-requires
copy-requires g t c κs within =
    let below = depth_below c.self.inside.id c.self.inside.entries _ c.deref-entry-items.result.now c.loop-entry.entry-index c.entry-item.result c.in-Directory.inner c.self.view_is c.deref-entry-items.ensures.value c.loop-entry-test.true c.entry-item.is c.in-Directory.is in
    (rw c.deref.ensures (subst (λ k. c.in-Directory.inner.value.depth < k) c.decreases below), search rules)

pub loop-entry-preserved : goal.loop-entry-preserved
loop-entry-preserved g t c =
    let more = map_one_more key c.deref-entry-items.result.now c.loop-entry.entry-index c.entry-item.result c.loop-entry-test.true c.entry-item.is in
    elim c.match-entry.branch [
      | in-Object+in_ok-push-in-Object w ↦
          ap (λ v. map key v.items) w.entries-is ∙ ap (map key) w.in_ok-push-in-Object.ensures.items ∙ map-append key c.loop-entry.entries.items _
          ∙ (λ j. c.loop-entry.invariant j ++ (c.in_ok-name.ensures j, standing (sym w.in-Object.is j)) ∷ []) ∙ sym more
      | in-Directory+in_ok-alloc-in-Directory+in_ok-copy-in-Directory+in_ok-new-in-Directory+in_ok-push-in-Directory w ↦
          ap (λ v. map key v.items) w.entries-is ∙ ap (map key) w.in_ok-push-in-Directory.ensures.items ∙ map-append key c.loop-entry.entries.items _
          ∙ (λ j. c.loop-entry.invariant j ++ (c.in_ok-name.ensures j, (ap whole w.in_ok-new-in-Directory.ensures.ok ∙ w.in_ok-copy-in-Directory.ensures ∙ ap whole w.deref.ensures ∙ ap standing (sym w.in-Directory.is)) j) ∷ []) ∙ sym more
    ]

pub invariant_of-result : goal.invariant_of-result
invariant_of-result g t c =
    let same : map key c.loop-entry.entries.items ≡ map key c.self.inside.entries.items = c.loop-entry.invariant ∙ ap (map key) (take_all c.loop-entry.entry-index c.deref-entry-items.result.now c.loop-entry-test.false ∙ c.deref-entry-items.ensures.value) in
    rising_by_keys _ _ same c.self.invariant

pub returns : goal.returns
returns g t c =
    let same : map key c.loop-entry.entries.items ≡ map key c.self.inside.entries.items = c.loop-entry.invariant ∙ ap (map key) (take_all c.loop-entry.entry-index c.deref-entry-items.result.now c.loop-entry-test.false ∙ c.deref-entry-items.ensures.value) in
    whole_view c.self.inside.id c.loop-entry.entries (rising_by_keys _ _ same c.self.invariant) ∙ made_by_keys c.self.inside.id _ _ same ∙ sym (whole_is c.self.inside.id c.self.inside.entries _ c.self.view_is c.self.invariant)
