use Rattle.std.proofs.Common.{◌≡◌, ℕ, ◌+◌, ◌-◌, ◌≤◌, List, Some, [], drop, refl, sym, ap, subst, arith}
use Rattle.std.specs.Prelude.{slice_get}
use Rattle.pps_types.specs.History.{Entry}
use Rattle.pps_types.specs.Reading.{block}
use Rattle.server_queue.specs.declared.fitting.Fitting.{Fitting}
use Rattle.server_queue.proofs.Fits.{Runs, given_more, refusal-is, refused_small}
use Rattle.sub_reader.specs.declared.opening.Opening.{Opening}
use Rattle.sub_reader.specs.declared.shown.Turn.{Turn}
use Rattle.sub_reader.specs.declared.shown.Turn.TheVariants.{Hidden, Given, Full}
use Rattle.sub_reader.specs.Blocks.{blocks_given}
use Rattle.sub_reader.specs.Opened.{opened}
use Rattle.sub_reader.specs.Turns.{PutsRecord}
use Rattle.sub_reader.proofs.BlocksFrom.{hidden-runs, given-runs}
use Rattle.sub_reader.proofs.owed.give.Goals as goal

module _ (target : ℕ) (o : Opening) (start : ℕ) (xs : List Entry) (position : ℕ) (e : Entry) (from : start ≤ position) (at : slice_get xs (position - start) ≡ Some e)
    (max : ℕ) (all : List (List ℕ)) (run new : Fitting) (p : Runs max all (blocks_given (opened target [] o) (drop (position - start) xs)) run) where
  -- a turn that does not end the run leads to the next record
  next : (turn : Turn) → PutsRecord target o e run new turn → (turn ≡ Full → ⊥)
      → (new.given.count ≤ run.given.count + 1) × Runs max all (blocks_given (opened target [] o) (drop (position + 1 - start) xs)) new
  next Hidden puts more = (
    omega (arith, ap (λ (r : Fitting). r.given.count) puts.1),
    subst (λ (r : Fitting). Runs max all (blocks_given (opened target [] o) (drop (position + 1 - start) xs)) r) (sym puts.1) (hidden-runs (opened target [] o) start xs position e from at max all run p puts.0),
  )
  next Given puts more = (
    omega (arith, puts.1.count),
    given_more max all _ _ run (given-runs (opened target [] o) start xs position e from at max all run p (block (opened target [] o) e) refl puts.0) new puts.1,
  )
  next Full puts more = absurd (more refl)

pub returns-in_err-put_record-clause-refusal : goal.returns-in_err-put_record-clause-refusal
returns-in_err-put_record-clause-refusal c =
    let h = opened c.args.target [] c.args.opening.now in
    let start = c.args.records.now.start in
    let xs = c.args.records.now.items in
    let all = blocks_given h (drop (c.args.from - start) xs) in
    let e = c.at-entry.result.now in
    let refused = c.in_err-put_record.ensures.err in
    let runs = given-runs h start xs c.records.position e (omega arith) c.at-entry.ensures c.args.max all c.records.run c.records.invariant.runs (block h e) refl refused.0 in
    refused_small c.args.max all _ _ c.records.run runs c.from_residual.result c.in_err-put_record.field-0.0 (refusal-is _ _ c.from_residual.ensures.1) refused.1

pub records-preserved : goal.records-preserved
records-preserved c =
    let start = c.args.records.now.start in
    let xs = c.args.records.now.items in
    let all = blocks_given (opened c.args.target [] c.args.opening.now) (drop (c.args.from - start) xs) in
    let both = next c.args.target c.args.opening.now start xs c.records.position c.at-entry.result.now (omega arith) c.at-entry.ensures c.args.max all c.records.run c.put_record.new.run c.records.invariant.runs
    c.in_ok-put_record.field-0 c.in_ok-put_record.ensures.ok c.in_default.not-Full in
    record {
      few = omega (arith, both.0, c.records.invariant.few);
      runs = both.1;
    }
