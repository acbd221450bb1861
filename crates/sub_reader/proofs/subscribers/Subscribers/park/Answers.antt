use Rattle.std.proofs.Common.{◌==◌, get_or, map, refl, sym, ap, subst, ◌∙◌}
use Rattle.pps_types.specs.Plan.{on_numbered}
use Rattle.sub_reader.specs.Opened.{is_directory, number_of}
use Rattle.sub_reader.specs.Places.{handle_of}
use Rattle.sub_reader.specs.Rows.{number_in, rows_of, parked_with}
use Rattle.sub_reader.specs.Standing.{IsTarget}
use Rattle.sub_reader.proofs.Edits.{on_first_keeps}
use Rattle.sub_reader.proofs.Finds.{changed-seen}
use Rattle.sub_reader.proofs.Puts.{wait-is}
use Rattle.sub_reader.proofs.subscribers.Subscribers.park.Goals as goal

pub invariant_of-self : goal.invariant_of-self
invariant_of-self c =
    let t = c.self.inside in
    subst (IsTarget (is_directory t.of) (number_of t.of) t.name t.records.start t.records.items t.counts.items) (sym c.park.ensures.rows)
    (on_first_keeps (λ r. number_in r == c.args.number) (parked_with c.args.size) (IsTarget (is_directory t.of) (number_of t.of) t.name t.records.start t.records.items t.counts.items) (rows_of t.rows) c.self.invariant
    (λ k x lt. wait-is (is_directory t.of) (number_of t.of) t.name t.records.start t.records.items t.counts.items (rows_of t.rows) c.self.invariant k x lt (parked_with c.args.size (get_or (rows_of t.rows) k x)) refl refl))

pub returns-clause-handles : goal.returns-clause-handles
returns-clause-handles c =
    let t = c.self.inside in
    ap (map (handle_of (number_of t.of) t.name t.records.start t.records.items)) c.park.ensures.rows
    ∙ changed-seen (handle_of (number_of t.of) t.name t.records.start t.records.items) (λ r. refl) c.args.number (parked_with c.args.size) (λ h. record h { parked = c.args.size }) (λ r. refl) (rows_of t.rows)
    ∙ ap (λ v. on_numbered c.args.number (λ h. record h { parked = c.args.size }) v.handles) c.self.view_is
