use Rattle.std.proofs.Common.{◌∙◌, length, ap, arith}
use Rattle.number_table.specs.Index.{entries_in, slots_in}
use Rattle.number_table.proofs.Entries.{length_entries, length_filter, entries_filter, rises_filter}
use Rattle.number_table.proofs.Held.{numbers_listed, length_listed}
use Rattle.number_table.proofs.index.compact_if_sparse.Goals as goal

pub overflow_sub-gaps : goal.overflow_sub-gaps
overflow_sub-gaps g c =
    let e = length_entries (slots_in c.args.values.now c.args.index.now.items) in
    let n = length_listed c.args.values.now c.args.index.now.items in
    let h = c.requires in
    omega arith

pub returns-then-gaps-count-clause-entries : goal.returns-then-gaps-count-clause-entries
returns-then-gaps-count-clause-entries g c =
    ap entries_in c.compact.ensures.index ∙ entries_filter (slots_in c.args.values.now c.args.index.now.items)

pub returns-then-gaps-count-clause-rises : goal.returns-then-gaps-count-clause-rises
returns-then-gaps-count-clause-rises g c low bound r =
    let old = c.args.index.now.items in
    rw (← numbers_listed c.args.values.now c.compact.new.index.items, c.compact.ensures.index)
    (rises_filter low (slots_in c.args.values.now old) bound (rw (numbers_listed c.args.values.now old) r))

pub returns-then-gaps-count-clause-dense : goal.returns-then-gaps-count-clause-dense
returns-then-gaps-count-clause-dense g c =
    let e = ap length c.compact.ensures.index in
    let f = length_filter (slots_in c.args.values.now c.args.index.now.items) in
    let n = length_listed c.args.values.now c.compact.new.index.items in
    let h = c.requires in
    omega arith

pub returns-then-gaps-count-clause-len : goal.returns-then-gaps-count-clause-len
returns-then-gaps-count-clause-len g c =
    let e = ap length c.compact.ensures.index in
    let f = length_filter (slots_in c.args.values.now c.args.index.now.items) in
    let n = length_listed c.args.values.now c.compact.new.index.items in
    let m = length_listed c.args.values.now c.args.index.now.items in
    let h = length_entries (slots_in c.args.values.now c.args.index.now.items) in
    omega arith
