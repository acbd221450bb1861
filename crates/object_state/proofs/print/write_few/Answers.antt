use Rattle.std.proofs.Common.{◌≡◌, ◌+◌, ◌∷◌, ◌∙◌, suc, drop, sym, ap, add-one, List, ℕ}
use Rattle.std.proofs.Math.Seq.{drop-cons}
use Rattle.pps_types.specs.AttributeContent.{Content}
use Rattle.object_state.proofs.Printing.{next-entry}
use Rattle.object_state.proofs.print.write_few.Goals as goal

pub entries-preserved : goal.entries-preserved
entries-preserved c =
    let e : List ℕ × Content = c.entry-item.result in
    let rest : drop c.entries.entry-index c.args.entries.now ≡ e ∷ drop (c.entries.entry-index + 1) c.args.entries.now =
    rw add-one (drop-cons c.args.entries.now c.entries.entry-index e c.entries-test.true ∙ ap (λ (x : List ℕ × Content). x ∷ drop (suc c.entries.entry-index) c.args.entries.now) (sym c.entry-item.is)) in
    let next = next-entry c.entries.out c.write_entry-at.new.out c.entries.at c.write_entry-at.result e _ _ rest c.write_entry-at.ensures.text c.write_entry-at.ensures.end c.entries.invariant.1 c.write_entry-at.auto.out in
    (next.0 ∙ c.entries.invariant.0, next.1)
