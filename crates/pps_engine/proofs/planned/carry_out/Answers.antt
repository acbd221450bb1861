use Rattle.std.proofs.Common.{sym, ◌∙◌, ap}
use Rattle.std.specs.List.{flat_map}
use Rattle.pps_types.specs.Plan.{apply_all_seen}
use Rattle.service_laws.proofs.Settlings.{moves-append}
use Rattle.whole_texts.specs.Followed as following
use Rattle.service_state.specs.Tables.{content_in}
use Rattle.pps_engine.specs.Doing.{moves_in}
use Rattle.pps_engine.proofs.planned.carry_out.Goals as goal

pub returns : goal.returns
returns c =
    c.follow_all.ensures ∙ ap (apply_all_seen (flat_map following.moves_of c.args.pending.following.items)) c.carry_out.ensures
    ∙ sym (moves-append (moves_in c.args.pending.doing c.args.tables.now) (flat_map following.moves_of c.args.pending.following.items) (content_in c.args.tables.now))
