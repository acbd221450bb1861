use Rattle.std.proofs.Common.{◌≡◌, subst, true}
use Rattle.std.specs.List.{AllByRecursion}
use Rattle.pps_types.specs.Reading.{OpenHandle}
use Rattle.pps_types.specs.Rests.{Progress}
use Rattle.sub_reader.specs.Opened.{is_directory, number_of, is_reader}
use Rattle.sub_reader.specs.Standing.{Standing}
use Rattle.sub_reader.proofs.HandlesOn.{all-read, all-named}
use Rattle.sub_reader.specs.Rows.{rows_of}
use Rattle.sub_reader.proofs.subscribers.Subscribers.handles_are_readers.Goals as goal

pub returns-clause-readers : goal.returns-clause-readers
returns-clause-readers c =
    let t = c.self.inside in
    subst (λ (v : Standing). AllByRecursion (λ (h : OpenHandle Progress). is_reader h.kind ≡ true) v.handles) c.self.view_is
    (all-read (number_of t.of) t.name t.records.start t.records.items (is_directory t.of) (rows_of t.rows) c.self.invariant.loose.each)

pub returns-clause-named : goal.returns-clause-named
returns-clause-named c =
    let t = c.self.inside in
    subst (λ (v : Standing). AllByRecursion (λ (h : OpenHandle Progress). h.name ≡ v.name) v.handles) c.self.view_is
    (all-named (number_of t.of) t.name t.records.start t.records.items (rows_of t.rows))
