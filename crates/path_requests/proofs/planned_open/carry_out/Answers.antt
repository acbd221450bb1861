use Rattle.std.proofs.Common.{subst, sym}
use Rattle.service_state.specs.Tied.{Moves}
use Rattle.path_requests.specs.declared.planned_open.Opens.{Opens}
use Rattle.path_requests.specs.Planned.{moves_of, IsReady}
use Rattle.path_requests.proofs.Carried.{found_moved}
use Rattle.path_requests.proofs.planned_open.carry_out.Goals as goal

pub returns-in-OnFound : goal.returns-in-OnFound
returns-in-OnFound c =
    subst (λ (o : Opens). Moves (moves_of o c.args.tables.now) c.args.tables.now c.open.new.self) (sym c.in-OnFound.is)
    (found_moved c.in-OnFound.beginning.items c.in-OnFound.found c.in-OnFound.opening c.args.tables.now c.begin_all.new.self c.open.new.self
    (subst (λ (o : Opens). IsReady o c.args.tables.now) c.in-OnFound.is c.requires) c.begin_all.ensures.moves c.begin_all.ensures.sites c.open.ensures)
