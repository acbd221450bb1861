use Rattle.std.specs.Prelude.{◌≡◌, Option, Result, Err}
use Rattle.std.proofs.Common.{◌∙◌, ap}
use Rattle.pps_types.specs.declared.found.Found.{Found}
use Rattle.pps_types.specs.declared.refusal.Refusal.{Refusal}
use Rattle.pps_types.specs.Names.{place}
use Rattle.pps_types.specs.Content.{at}
use Rattle.name_table.specs.Standing.{content_of, standing_of}
use Rattle.service_state.specs.Tables.{Tabled, content_in}
use Rattle.service_state.proofs.Free.{free_by}
use Rattle.service_state.proofs.tables.Tables.check_free.Goals as goal

pub returns-in-Err : goal.returns-in-Err
returns-in-Err c =
    let is : ◌≡◌ {A = Result (Option Found) Refusal} (Err c.in-Err.refusal) c.place.result = cc in
    free_by c.questions_are_told.ensures (content_in c.args.self.now) c.args.path.now (Err c.in-Err.refusal)
    (is ∙ c.place.ensures ∙ ap (λ (t : Tabled). place (at (content_of (standing_of t.names))) c.args.path.now) c.self.view_is)
