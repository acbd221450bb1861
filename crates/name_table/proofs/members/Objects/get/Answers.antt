use Rattle.std.proofs.Common.{Some, [], ap, sym, ◌∙◌}
use Rattle.std.specs.Prelude.{slice_get, option_and_then, unwrap_or}
use Rattle.pps_types.specs.Content.{object_numbered}
use Rattle.name_table.specs.Standing.{standing_of, content_of}
use Rattle.name_table.specs.Listed.{object_number, objects_among}
use Rattle.name_table.proofs.LentMembers.{lent_at}
use Rattle.name_table.proofs.members.Objects.get.Goals as goal

pub returns-in-Object : goal.returns-in-Object
returns-in-Object c =
    let inside = content_of (standing_of c.self.inside.names.now) in
    rw (← c.self.view_is)
    (ap (λ l. slice_get (objects_among (standing_of c.self.inside.names.now) (unwrap_or l [])) c.args.place) c.in-Some.is
    ∙ lent_at inside c.in-Some.listed c.args.place c.found.result c.found.ensures
    ∙ ap (λ f. Some (option_and_then (object_numbered inside) (object_number f))) c.in-Object.is
    ∙ ap Some (sym c.object.ensures.known))

pub returns-in-Directory : goal.returns-in-Directory
returns-in-Directory c =
    let inside = content_of (standing_of c.self.inside.names.now) in
    rw (← c.self.view_is)
    (ap (λ l. slice_get (objects_among (standing_of c.self.inside.names.now) (unwrap_or l [])) c.args.place) c.in-Some.is
    ∙ lent_at inside c.in-Some.listed c.args.place c.found.result c.found.ensures
    ∙ ap (λ f. Some (option_and_then (object_numbered inside) (object_number f))) c.in-Directory.is)
