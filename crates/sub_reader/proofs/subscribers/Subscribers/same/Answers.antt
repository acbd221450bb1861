use Rattle.std.proofs.Common.{◌∙◌, ap, sym}
use Rattle.sub_reader.proofs.Alike.{kept-alike, all-alike}
use Rattle.sub_reader.specs.Rows.{rows_of}
use Rattle.sub_reader.proofs.subscribers.Subscribers.same.Goals as goal

pub returns-then-not-same_records : goal.returns-then-not-same_records
returns-then-not-same_records c =
    let s = c.self.inside in
    let t = c.other.inside in
    let of = c.is_of_same.ensures.0 c.if-not-is_of_same.false in
    let told = rw (c.if-not-same_records.true) at c.same_records.ensures in (
      λ is. cc,
      λ same. told.1 (kept-alike s.of t.of s.name t.name s.records.start t.records.start s.records.items t.records.items s.counts.items t.counts.items (rows_of s.rows) (rows_of t.rows) c.args.self.now.handles c.args.other.now.handles
          (ap (λ v. v.of) c.self.view_is ∙ of.0 ∙ sym (ap (λ v. v.of) c.other.view_is))
          (ap (λ v. v.name) c.self.view_is ∙ of.1 ∙ sym (ap (λ v. v.name) c.other.view_is))
          c.self.invariant c.other.invariant
          (ap (λ v. v.handles) c.self.view_is) (ap (λ v. v.handles) c.other.view_is) same.2),
    )

pub returns : goal.returns
returns c =
    let s = c.self.inside in
    let t = c.other.inside in
    let of = c.is_of_same.ensures.0 c.if-not-is_of_same.false in
    let records = c.same_records.ensures.0 c.if-not-same_records.false in
    let all = all-alike s.of t.of s.name t.name s.records.start t.records.start s.records.items t.records.items s.counts.items t.counts.items (rows_of s.rows) (rows_of t.rows) c.args.self.now.handles c.args.other.now.handles
    (ap (λ v. v.of) c.self.view_is ∙ of.0 ∙ sym (ap (λ v. v.of) c.other.view_is))
    (ap (λ v. v.name) c.self.view_is ∙ of.1 ∙ sym (ap (λ v. v.name) c.other.view_is))
    c.self.invariant c.other.invariant
    (ap (λ v. v.handles) c.self.view_is) (ap (λ v. v.handles) c.other.view_is) records in
    let told = rw (c.start-start.ensures, c.start-other_start.ensures) at c.same_from.ensures in
    (λ is. (of.0, of.1, all.0 (told.0 is)), λ same. told.1 (all.1 same.2))
