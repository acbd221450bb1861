use Rattle.std.proofs.Common.{◌≡◌, ap, subst, ◌∙◌}
use Rattle.std.specs.Prelude.{IfOk, filter, map}
use Rattle.sub_reader.specs.Readers.{Reader}
use Rattle.sub_reader.specs.Opened.{is_directory, number_of}
use Rattle.sub_reader.specs.Woken.{woken_by, wakes_at}
use Rattle.sub_reader.proofs.Waking.{woken-readers}
use Rattle.sub_reader.specs.Rows.{rows_of, rows_in}
use Rattle.sub_reader.proofs.subscribers.Subscribers.woken_by.Goals as goal

pub returns : goal.returns
returns c =
    let t = c.self.inside in
    subst (λ numbers. IfOk c.find_woken.result (λ woken. woken.items ≡ numbers))
    (ap (λ n. map {A = Reader} (λ r. r.opening.number) (filter (wakes_at n c.args.entries.now) (rows_in c.slots.result.now))) c.number_of.ensures
    ∙ ap (λ ss. map {A = Reader} (λ r. r.opening.number) (filter (wakes_at (number_of t.of) c.args.entries.now) (rows_in ss))) c.slots.ensures
    ∙ woken-readers (number_of t.of) t.name t.records.start t.records.items c.args.entries.now (is_directory t.of) (rows_of t.rows) c.self.invariant.loose.each
    ∙ ap (λ v. woken_by c.args.entries.now v.handles) c.self.view_is)
    c.find_woken.ensures
