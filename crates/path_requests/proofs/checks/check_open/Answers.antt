use Rattle.std.proofs.Common.{◌∙◌, sym, true, false}
use Rattle.pps_types.specs.Names as paths
use Rattle.service_state.specs.Tables.{content_in}
use Rattle.path_requests.proofs.Deciding.{place_told, way_lost, all_decides, name_decides, asked_told}
use Rattle.path_requests.proofs.checks.check_open.Goals as goal

pub returns-in-Err-clause-refusal : goal.returns-in-Err-clause-refusal
returns-in-Err-clause-refusal c =
    way_lost (content_in c.args.tables.now) c.args.mode c.args.spec.now c.mode_fits.result c.in-Err.refusal c.mode_fits.ensures c.if-not-mode_fits.false
    (place_told c.questions_are_told.ensures c.args.tables.now c.names.result.now c.names-2.result.now c.args.spec.now.names c.place.result c.place.ensures c.names.ensures (c.names-2.ensures ∙ c.path.ensures) ∙ c.in-Err.is)

pub returns-then-all-clause-refusal : goal.returns-then-all-clause-refusal
returns-then-all-clause-refusal c =
    all_decides (content_in c.args.tables.now) c.args.mode c.args.spec.now c.mode_fits.result c.in-Ok.found (paths.refusal_of c.check_all.result) c.mode_fits.ensures c.if-not-mode_fits.false
    (place_told c.questions_are_told.ensures c.args.tables.now c.names.result.now c.names-2.result.now c.args.spec.now.names c.place.result c.place.ensures c.names.ensures (c.names-2.ensures ∙ c.path.ensures) ∙ c.in-Ok.is)
    (sym c.all.ensures ∙ c.if-all.true) c.check_all.ensures.refusal

pub returns-then-all-clause-asked : goal.returns-then-all-clause-asked
returns-then-all-clause-asked c =
    asked_told (content_in c.args.tables.now) c.args.mode c.args.spec.now c.mode_fits.result c.in-Ok.found true c.check_all.result c.mode_fits.ensures c.if-not-mode_fits.false
    (place_told c.questions_are_told.ensures c.args.tables.now c.names.result.now c.names-2.result.now c.args.spec.now.names c.place.result c.place.ensures c.names.ensures (c.names-2.ensures ∙ c.path.ensures) ∙ c.in-Ok.is)
    (sym c.all.ensures ∙ c.if-all.true) c.check_all.ensures.all c.check_all.ensures.spot c.check_all.ensures.number

pub returns-clause-refusal : goal.returns-clause-refusal
returns-clause-refusal c =
    name_decides (content_in c.args.tables.now) c.args.mode c.args.spec.now c.mode_fits.result c.in-Ok.found (paths.refusal_of c.check_name.result) c.mode_fits.ensures c.if-not-mode_fits.false
    (place_told c.questions_are_told.ensures c.args.tables.now c.names.result.now c.names-2.result.now c.args.spec.now.names c.place.result c.place.ensures c.names.ensures (c.names-2.ensures ∙ c.path.ensures) ∙ c.in-Ok.is)
    (sym c.all.ensures ∙ c.if-all.false) c.check_name.ensures.refusal

pub returns-clause-asked : goal.returns-clause-asked
returns-clause-asked c =
    asked_told (content_in c.args.tables.now) c.args.mode c.args.spec.now c.mode_fits.result c.in-Ok.found false c.check_name.result c.mode_fits.ensures c.if-not-mode_fits.false
    (place_told c.questions_are_told.ensures c.args.tables.now c.names.result.now c.names-2.result.now c.args.spec.now.names c.place.result c.place.ensures c.names.ensures (c.names-2.ensures ∙ c.path.ensures) ∙ c.in-Ok.is)
    (sym c.all.ensures ∙ c.if-all.false) c.check_name.ensures.all c.check_name.ensures.spot c.check_name.ensures.number
