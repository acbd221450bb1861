use Rattle.std.specs.List.{list_any}
use Rattle.std.proofs.Common.{◌∙◌, [], false, sym, ap}
use Rattle.pps_types.specs.Filter as meant
use Rattle.pps_types.specs.LentLine.{lent_line}
use Rattle.pps_types.specs.declared.line.Line.TheVariants.{Set, Del}
use Rattle.pps_filter.specs.Seen.{part_seen}
use Rattle.pps_filter.proofs.Seen.{list_any-map}
use Rattle.pps_filter.proofs.filter.Filter.matches.Goals as goal

pub returns-in-Set : goal.returns-in-Set
returns-in-Set c =
    let line = sym (ap lent_line c.in-Set.is) ∙ c.parts.ensures in
    c.any_matches_set.ensures
    ∙ (λ i. list_any (λ part. meant.part_matches (Set c.in-Set.name.now [] (c.value.ensures i) false) (part_seen part)) (c.as_slice.ensures.value i))
    ∙ sym (list_any-map (meant.part_matches (Set c.in-Set.name.now c.in-Set.content.enc c.in-Set.content.value c.in-Set.content.n)) part_seen c.self.inside.parts.items)
    ∙ (λ i. list_any (meant.part_matches (line i)) (c.self.view_is i))

pub returns-in-Del : goal.returns-in-Del
returns-in-Del c =
    let line = sym (ap lent_line c.in-Del.is) ∙ c.parts.ensures in
    c.any_matches_removal.ensures
    ∙ (λ i. list_any (λ part. meant.part_matches (Del c.in-Del.name.now) (part_seen part)) (c.as_slice-in-Del.ensures.value i))
    ∙ sym (list_any-map (meant.part_matches (Del c.in-Del.name.now)) part_seen c.self.inside.parts.items)
    ∙ (λ i. list_any (meant.part_matches (line i)) (c.self.view_is i))
