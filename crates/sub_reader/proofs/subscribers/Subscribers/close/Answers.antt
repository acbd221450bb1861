use Rattle.std.proofs.Common.{◌≡◌, ◌≤◌, ◌+◌, ◌==◌, length, map, get_or, refl, sym, ap, subst, ◌∙◌}
use Rattle.pps_types.specs.Plan.{without_number}
use Rattle.sub_reader.specs.Readers.{Reader}
use Rattle.sub_reader.specs.Opened.{is_directory, number_of}
use Rattle.sub_reader.specs.Counts.{uncounted, stands, IsWithin}
use Rattle.sub_reader.specs.Places.{handle_of}
use Rattle.sub_reader.specs.Rows.{number_in, rows_of}
use Rattle.sub_reader.specs.Standing.{IsLoose, IsTarget}
use Rattle.sub_reader.proofs.Edits.{first_at, none_first}
use Rattle.sub_reader.proofs.Finds.{gone-seen}
use Rattle.sub_reader.proofs.Moves.{put-within, gone-there, gone-loose, settle-is, settle-seen}
use Rattle.sub_reader.proofs.Tallies.{all-at}
use Rattle.sub_reader.proofs.subscribers.Subscribers.close.Goals as goal

pub returns-in_default-clause-handles : goal.returns-in_default-clause-handles
returns-in_default-clause-handles c =
    let t = c.self.inside in
    ap (map (handle_of (number_of t.of) t.name t.records.start t.records.items)) c.take.ensures.rows
    ∙ gone-seen (handle_of (number_of t.of) t.name t.records.start t.records.items) (λ r. refl) c.args.number (rows_of t.rows)
    ∙ ap (λ v. without_number c.args.number v.handles) c.self.view_is

pub invariant_of-self : goal.invariant_of-self
invariant_of-self c =
    let t = c.self.inside in
    subst (IsTarget (is_directory t.of) (number_of t.of) t.name t.records.start t.records.items t.counts.items) (sym (c.take.ensures.rows ∙ none_first (λ r. number_in r == c.args.number) (rows_of t.rows) c.in_default.ensures.row)) c.self.invariant

pub invariant_of-self-2 : goal.invariant_of-self-2
invariant_of-self-2 c =
    let t = c.self.inside in
    let x = c.in-Some.row in
    let first = first_at (λ r. number_in r == c.args.number) (rows_of t.rows) x c.in-Some.ensures.row in
    let k = first.0 in
    let rs = rows_of c.take.new.self in
    let cs = c.leave.new.counts.items in
    let left : cs ≡ uncounted t.records.start (get_or (rows_of t.rows) k x).progress t.counts.items =
    c.leave.ensures.counts ∙ (λ i. uncounted (c.start-start.ensures i) (ap (λ (r : Reader). r.progress) (first.1.is x) i) t.counts.items) in
    let loose : IsLoose (is_directory t.of) (number_of t.of) t.name t.records.start t.records.items cs rs = gone-loose (is_directory t.of) (number_of t.of) t.name t.records.start t.records.items t.counts.items (rows_of t.rows) c.self.invariant.loose k x first.1.within rs cs (c.take.ensures.rows ∙ first.1.rest) left in
    settle-is (is_directory t.of) (number_of t.of) t.name t.records.start t.records.items cs rs loose c.cut.new.records.start c.cut.new.records.items c.cut.new.counts.items c.cut.ensures.start c.cut.ensures.records c.cut.ensures.counts

pub returns-clause-handles : goal.returns-clause-handles
returns-clause-handles c =
    let t = c.self.inside in
    let x = c.in-Some.row in
    let first = first_at (λ r. number_in r == c.args.number) (rows_of t.rows) x c.in-Some.ensures.row in
    let k = first.0 in
    let rs = rows_of c.take.new.self in
    let cs = c.leave.new.counts.items in
    let left : cs ≡ uncounted t.records.start (get_or (rows_of t.rows) k x).progress t.counts.items =
    c.leave.ensures.counts ∙ (λ i. uncounted (c.start-start.ensures i) (ap (λ (r : Reader). r.progress) (first.1.is x) i) t.counts.items) in
    let loose : IsLoose (is_directory t.of) (number_of t.of) t.name t.records.start t.records.items cs rs = gone-loose (is_directory t.of) (number_of t.of) t.name t.records.start t.records.items t.counts.items (rows_of t.rows) c.self.invariant.loose k x first.1.within rs cs (c.take.ensures.rows ∙ first.1.rest) left in
    settle-seen (is_directory t.of) (number_of t.of) t.name t.records.start t.records.items cs rs loose c.cut.new.records.start c.cut.new.records.items c.cut.ensures.start c.cut.ensures.records
    ∙ ap (map (handle_of (number_of t.of) t.name t.records.start t.records.items)) c.take.ensures.rows
    ∙ gone-seen (handle_of (number_of t.of) t.name t.records.start t.records.items) (λ r. refl) c.args.number (rows_of t.rows)
    ∙ ap (λ v. without_number c.args.number v.handles) c.self.view_is

pub leave-requires-clause-within : goal.leave-requires-clause-within
leave-requires-clause-within c =
    let t = c.self.inside in
    let x = c.in-Some.row in
    let first = first_at (λ r. number_in r == c.args.number) (rows_of t.rows) x c.in-Some.ensures.row in
    let k = first.0 in
    subst (λ s. IsWithin s (s + length t.counts.items) x.progress) (sym c.start-start.ensures)
    (subst (λ (r : Reader). IsWithin t.records.start (t.records.start + length t.counts.items) r.progress) (sym (first.1.is x))
    (all-at (λ (r : Reader). IsWithin t.records.start (t.records.start + length t.counts.items) r.progress) (rows_of t.rows) k x
    (put-within (is_directory t.of) (number_of t.of) t.name t.records.start t.records.items t.counts.items (rows_of t.rows) c.self.invariant.loose) first.1.within))

pub leave-requires-clause-there : goal.leave-requires-clause-there
leave-requires-clause-there c = λ i here.
    let t = c.self.inside in
    let x = c.in-Some.row in
    let first = first_at (λ r. number_in r == c.args.number) (rows_of t.rows) x c.in-Some.ensures.row in
    let k = first.0 in
    subst (λ s. stands (s + i) x.progress ≤ get_or t.counts.items i 0) (sym c.start-start.ensures)
    (subst (λ (r : Reader). stands (t.records.start + i) r.progress ≤ get_or t.counts.items i 0) (sym (first.1.is x))
    (gone-there (is_directory t.of) (number_of t.of) t.name t.records.start t.records.items t.counts.items (rows_of t.rows) c.self.invariant.loose k x first.1.within i here))
