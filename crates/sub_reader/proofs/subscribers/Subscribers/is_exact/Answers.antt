use Rattle.std.proofs.Common.{sym, ap, ◌∙◌}
use Rattle.pps_types.specs.Owed.{longest_rest}
use Rattle.sub_reader.specs.Opened.{is_directory, number_of}
use Rattle.sub_reader.proofs.Kept.{kept-rest}
use Rattle.sub_reader.specs.Rows.{rows_of}
use Rattle.sub_reader.proofs.subscribers.Subscribers.is_exact.Goals as goal

pub returns : goal.returns
returns c =
    let t = c.self.inside in
    ap (λ v. v.kept) (sym c.self.view_is)
    ∙ kept-rest (is_directory t.of) (number_of t.of) t.name t.records.start t.records.items t.counts.items (rows_of t.rows) c.self.invariant
    ∙ ap (λ v. longest_rest (is_directory v.of) (number_of v.of) v.handles) c.self.view_is
