use Rattle.service_laws.proofs.Private.{private-traffic}
use Rattle.pps_types.specs.Runs.{answered}
use Rattle.pps_engine.proofs.private.run_both.Goals as goal

pub returns-clause-private : goal.returns-clause-private
returns-clause-private c conn m here there agree =
    let first = answered c.args.first_events.now c.in_ok-first_answers.first_answers.items in
    let second = answered c.args.second_events.now c.in_ok-second_answers.second_answers.items in
    private-traffic conn m here.made first second (c.in_ok-first_answers.ensures.runs m here).replies (c.in_ok-second_answers.ensures.runs m there).replies agree
