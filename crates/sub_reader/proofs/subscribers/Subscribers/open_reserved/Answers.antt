use Rattle.std.proofs.Common.{◌≡◌, ◌∙◌, ◌<◌, true, ap, sym, subst}
use Rattle.std.specs.Prelude.{None}
use Rattle.std.specs.List.{AllByRecursion}
use Rattle.pps_types.specs.Reading.{OpenHandle, is_directory_kind}
use Rattle.pps_types.specs.Rests.{Progress}
use Rattle.pps_types.specs.Owed.{same_flag}
use Rattle.sub_reader.specs.Readers.{Reader}
use Rattle.sub_reader.specs.Opened.{is_directory, number_of, opened}
use Rattle.sub_reader.specs.Places.{IsPlace, IsReader}
use Rattle.sub_reader.specs.Counts.{stands}
use Rattle.sub_reader.specs.Rows.{rows_of}
use Rattle.sub_reader.proofs.Passing.{first-place-is}
use Rattle.sub_reader.proofs.Moves.{open-loose, first-stands, above-readers}
use Rattle.sub_reader.proofs.subscribers.Subscribers.open_reserved.Goals as goal

pub push_reserved-requires-clause-above : goal.push_reserved-requires-clause-above
push_reserved-requires-clause-above c =
    let t = c.self.inside in
    above-readers (number_of t.of) t.name t.records.start t.records.items (rows_of t.rows) c.args.opening.number (subst (λ v. AllByRecursion (λ (h : OpenHandle Progress). h.number < c.args.opening.number) v.handles) (sym c.self.view_is) c.requires.above)

pub invariant_of-self : goal.invariant_of-self
invariant_of-self c =
    let t = c.self.inside in
    let o = c.args.opening in
    let r : Reader = record { opening = o; progress = c.at_first-progress.result; parked = None; armed = None } in
    let right : IsReader (is_directory t.of) (number_of t.of) t.name t.records.start t.records.items r = record {
      flag = subst (λ v. same_flag (is_directory_kind o.kind) (is_directory v.of) ≡ true) (sym c.self.view_is) c.requires.flag;
      place = subst (IsPlace (opened (number_of t.of) t.name o) t.records.start t.records.items) (sym c.at_first-progress.ensures) (first-place-is (opened (number_of t.of) t.name o) t.records.start t.records.items c.requires.reader);
    } in
    record {
      loose = open-loose (is_directory t.of) (number_of t.of) t.name t.records.start t.records.items t.counts.items (rows_of t.rows) c.self.invariant.loose r (rows_of c.push_reserved.new.self) c.push_reserved.ensures.rows
          (above-readers (number_of t.of) t.name t.records.start t.records.items (rows_of t.rows) o.number (subst (λ v. AllByRecursion (λ (h : OpenHandle Progress). h.number < o.number) v.handles) (sym c.self.view_is) c.requires.above)) right
          (λ position. ap (stands position) c.at_first-progress.ensures ∙ first-stands o.kind o.reads position);
      exact = c.self.invariant.exact;
    }
