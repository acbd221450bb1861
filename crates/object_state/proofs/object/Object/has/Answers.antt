use Rattle.std.proofs.Common.{◌∙◌, ap}
use Rattle.std.specs.List.{list_any}
use Rattle.pps_types.specs.Bytes.{same}
use Rattle.pps_types.specs.History.{Attribute}
use Rattle.object_state.specs.Held.{Held}
use Rattle.object_state.proofs.Having.{has-key}
use Rattle.object_state.proofs.object.Object.has.Goals as goal

pub returns : goal.returns
returns c =
    c.is_some.ensures ∙ c.get_index_of.ensures.found ∙ has-key c.args.name.now c.self.inside.map.entries
    ∙ ap (λ (h : Held). list_any (λ (a : Attribute). same a.name c.args.name.now) h.attributes) c.self.view_is
