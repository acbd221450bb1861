use Rattle.sub_reader.proofs.Copying.{copied_rows, same_numbers}
use Rattle.sub_reader.proofs.subscribers.Subscribers.copy.Goals as goal

pub invariant_of-result : goal.invariant_of-result
invariant_of-result c =
    let t = c.self.inside in
    rw (c.in_ok-name.ensures, c.in_ok-records.ensures.start, c.in_ok-records.ensures.ok, same_numbers t.counts.items c.in_ok-counts.counts.items c.in_ok-counts.ensures.cases.0, copied_rows t.rows c.in_ok-rows.rows c.in_ok-rows.ensures.ok)
    c.self.invariant
