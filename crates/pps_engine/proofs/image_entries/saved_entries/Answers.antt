use Rattle.std.proofs.Common.{◌≡◌, ◌++◌, rules, sym, ap, subst, ◌∙◌}
use Rattle.std.specs.List.{AllByRecursion}
use Rattle.std.specs.List.Sorted.{IsPermutation}
use Rattle.std.proofs.lemmas.List.Sorted.{ranks_by, answers_always}
use Rattle.pps_types.specs.Names.{path_cmp}
use Rattle.pps_types.specs.Image.{path_of}
use Rattle.image_laws.proofs.Sorting.{paths_total}
use Rattle.name_table.specs.Standing.{Standing, content_of}
use Rattle.name_table.specs.Agrees.{HasPath}
use Rattle.pps_engine.specs.Entries.{saved_directories, saved_objects}
use Rattle.pps_engine.proofs.Saved.{entries_saved}
use Rattle.pps_engine.proofs.Unique.{ranks}
use Rattle.pps_engine.proofs.image_entries.saved_entries.Goals as goal

pub returns : goal.returns
returns c content well same =
    let directories = c.directories.result in
    let objects = c.objects.result in
    let all : c.push_objects.new.entries.items ≡ saved_directories directories ++ saved_objects objects =
    c.in_ok-push_objects.ensures ∙ ap (λ es. es ++ saved_objects objects) (c.in_ok-push_directories.ensures ∙ ap (λ es. es ++ saved_directories directories) c.new-entries.ensures.items) in
    entries_saved content well directories objects c.sort_by.new.self.items
    (c.directories.ensures ∙ ap (λ (s : Standing). s.directories) (sym same))
    (c.objects.ensures.known ∙ ap (λ (s : Standing). s.objects) (sym same))
    (subst (λ (s : Standing). AllByRecursion (HasPath (content_of s)) objects) (sym same) c.objects.ensures.paths)
    (subst (λ es. IsPermutation es c.sort_by.new.self.items) all c.in_ok-sort_by.ensures.permutation)
    (c.in_ok-sort_by.ensures.sorted (ranks path_cmp path_of paths_total) (ranks_by paths_total path_of) (answers_always _ _ _ (λ f a r g h. search rules)))
