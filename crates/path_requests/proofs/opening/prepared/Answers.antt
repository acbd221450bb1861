use Rattle.path_requests.proofs.Stepped.{stays_by, tells_by, creates_by, replaces_by}
use Rattle.path_requests.proofs.opening.prepared.Goals as goal

pub returns-in-Stays-clause-moves : goal.returns-in-Stays-clause-moves
returns-in-Stays-clause-moves c =
    stays_by c.args.tables.now c.on_found.new.tables c.args.conn c.args.mode c.args.passed.spec c.args.passed.way.kind c.new_opening-path.result.1 c.new_opening-path.ensures.opening
    c.in-Stays.found c.args.passed.way.step c.on_found.result c.in-Stays.is c.on_found.ensures.moves

pub returns-in-Tells-clause-moves : goal.returns-in-Tells-clause-moves
returns-in-Tells-clause-moves c =
    tells_by c.args.tables.now c.on_told.new.tables c.args.conn c.args.mode c.args.passed.spec c.args.passed.way.kind c.new_opening-path.result.1 c.new_opening-path.ensures.opening
    c.in-Tells.object c.in-Tells.told c.args.passed.way.step c.on_told.result c.in-Tells.is c.requires.able c.on_told.ensures.moves

pub returns-in-Creates-clause-moves : goal.returns-in-Creates-clause-moves
returns-in-Creates-clause-moves c =
    creates_by c.args.tables.now c.creating.new.tables c.args.conn c.args.mode c.args.passed.spec c.args.passed.way.kind c.new_opening-path.result.1 c.new_opening-path.ensures.opening
    c.in-Creates.directory c.new_opening-path.result.0.items c.nopersist-nopersist.result c.server-is_served.result c.args.passed.way.step c.creating.result c.in-Creates.is c.requires.able
    c.new_opening-path.ensures.path c.nopersist-nopersist.ensures c.server-is_served.ensures c.creating.ensures.moves

pub returns-in-Replaces-clause-moves : goal.returns-in-Replaces-clause-moves
returns-in-Replaces-clause-moves c =
    replaces_by c.args.tables.now c.replacing.new.tables c.args.conn c.args.mode c.args.passed.spec c.args.passed.way.kind c.new_opening-path.result.1 c.new_opening-path.ensures.opening
    c.in-Replaces.object c.nopersist-nopersist.result c.args.passed.way.step c.replacing.result c.in-Replaces.is c.requires.able c.nopersist-nopersist.ensures c.replacing.ensures.moves
