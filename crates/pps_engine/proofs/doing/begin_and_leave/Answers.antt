use Rattle.std.proofs.Common.{◌∷◌, [], sym, ◌∙◌, ap}
use Rattle.std.specs.List.{flat_map}
use Rattle.pps_types.specs.Plan as planning
use Rattle.pps_types.specs.Plan.{apply_all_seen}
use Rattle.service_laws.proofs.Settlings.{moves-append}
use Rattle.service_state.specs.Beginning.{moves_of}
use Rattle.service_state.specs.Tables.{content_in}
use Rattle.pps_engine.proofs.doing.begin_and_leave.Goals as goal

pub returns : goal.returns
returns c =
    c.leave.ensures ∙ ap (apply_all_seen (planning.Leaves c.args.conn ∷ [])) c.begin_all.ensures.moves
    ∙ sym (moves-append (flat_map moves_of c.args.beginning.items) (planning.Leaves c.args.conn ∷ []) (content_in c.args.tables.now))
