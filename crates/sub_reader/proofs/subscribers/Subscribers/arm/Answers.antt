use Rattle.std.proofs.Common.{◌==◌, get_or, map, refl, sym, ap, subst, ◌∙◌}
use Rattle.pps_types.specs.Plan.{on_numbered}
use Rattle.sub_reader.specs.Opened.{armed_pulse, is_directory, number_of}
use Rattle.sub_reader.specs.Places.{handle_of}
use Rattle.sub_reader.specs.Rows.{number_in, rows_of, armed_with}
use Rattle.sub_reader.specs.Standing.{IsTarget}
use Rattle.sub_reader.proofs.Edits.{on_first_keeps}
use Rattle.sub_reader.proofs.Finds.{changed-seen}
use Rattle.sub_reader.proofs.Puts.{wait-is}
use Rattle.sub_reader.proofs.subscribers.Subscribers.arm.Goals as goal

pub invariant_of-self : goal.invariant_of-self
invariant_of-self c =
    let t = c.self.inside in
    subst (IsTarget (is_directory t.of) (number_of t.of) t.name t.records.start t.records.items t.counts.items) (sym c.arm.ensures.rows)
    (on_first_keeps (λ r. number_in r == c.args.number) (armed_with c.args.pulse) (IsTarget (is_directory t.of) (number_of t.of) t.name t.records.start t.records.items t.counts.items) (rows_of t.rows) c.self.invariant
    (λ k x lt. wait-is (is_directory t.of) (number_of t.of) t.name t.records.start t.records.items t.counts.items (rows_of t.rows) c.self.invariant k x lt (armed_with c.args.pulse (get_or (rows_of t.rows) k x)) refl refl))

pub returns-clause-handles : goal.returns-clause-handles
returns-clause-handles c =
    let t = c.self.inside in
    ap (map (handle_of (number_of t.of) t.name t.records.start t.records.items)) c.arm.ensures.rows
    ∙ changed-seen (handle_of (number_of t.of) t.name t.records.start t.records.items) (λ r. refl) c.args.number (armed_with c.args.pulse) (λ h. record h { armed = armed_pulse c.args.pulse }) (λ r. refl) (rows_of t.rows)
    ∙ ap (λ v. on_numbered c.args.number (λ h. record h { armed = armed_pulse c.args.pulse }) v.handles) c.self.view_is
