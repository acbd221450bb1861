use Rattle.std.proofs.Common.{[], ◌∷◌, ◌++◌, get_or, map, sym, ap, ◌∙◌, arith}
use Rattle.std.proofs.lemmas.List.{take_all}
use Rattle.alloc_tree.specs.View.{node_found}
use Rattle.alloc_tree.proofs.Steps.{map_one_more}
use Rattle.alloc_tree.proofs.entries.list_entries.Goals as goal

pub loop-entry-preserved : goal.loop-entry-preserved
loop-entry-preserved g c =
    c.in_ok-push.ensures.items
    ∙ (λ i. c.loop-entry.invariant i ++ (c.new.ensures ∙ (λ j. (c.in_ok-name.ensures j, c.found_of.ensures j))) i ∷ [])
    ∙ sym (map_one_more (λ e. (e.name.items, node_found e.node)) c.args.entries.now.items c.loop-entry.entry-index c.entry-item.result (omega (arith, c.deref-entry-items.ensures.len, c.args.entries.now.ok.0)) (c.entry-item.is ∙ ap (λ l. get_or l c.loop-entry.entry-index c.entry-item.result) c.deref-entry-items.ensures.value))

pub returns : goal.returns
returns g c = c.loop-entry.invariant ∙ ap (map (λ e. (e.name.items, node_found e.node))) (take_all c.loop-entry.entry-index c.args.entries.now.items (omega (arith, c.loop-entry-test.false, c.deref-entry-items.ensures.len, c.args.entries.now.ok.0)))
