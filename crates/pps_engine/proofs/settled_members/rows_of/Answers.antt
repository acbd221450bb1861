use Rattle.std.proofs.Common.{Some, [], ◌∷◌, ◌++◌, ◌+◌, map, drop, ap, sym, ◌∙◌, append_assoc}
use Rattle.std.specs.Prelude.{option_map}
use Rattle.std.specs.Option.{option_copied}
use Rattle.std.specs.List.{filter_map}
use Rattle.name_table.specs.Standing.{known_of}
use Rattle.pps_engine.specs.Behind.{row_of}
use Rattle.pps_engine.proofs.Places.{row_some, row_none}
use Rattle.pps_engine.proofs.settled_members.rows_of.Goals.{in-Some+in_ok-push, in_default}
use Rattle.pps_engine.proofs.settled_members.rows_of.Goals as goal

pub places-preserved : goal.places-preserved
places-preserved c =
    let os = c.args.objects.now in
    let behind = map row_of (filter_map (λ o. o) (drop (c.places.place + 1) os)) in
    elim c.match-get.branch [
      | in-Some+in_ok-push w ↦
          let at = row_some os c.places.place (known_of w.in-Some.object.now) (c.get.ensures ∙ ap (λ o. Some (option_map known_of (option_copied o))) w.in-Some.is) in
          ap (λ v. v.items ++ behind) w.rows-is
          ∙ ap (λ l. l ++ behind) w.in_ok-push.ensures.items
          ∙ append_assoc c.places.rows.items (w.standing.result ∷ []) behind
          ∙ ap (λ m. c.places.rows.items ++ m ∷ behind) w.standing.ensures
          ∙ ap (λ l. c.places.rows.items ++ l) (sym at)
          ∙ c.places.invariant
      | in_default w ↦
          let at = row_none os c.places.place (c.get.ensures ∙ ap (λ o. Some (option_map known_of (option_copied o))) w.in_default.is) in
          ap (λ v. v.items ++ behind) w.rows-is ∙ ap (λ l. c.places.rows.items ++ l) (sym at) ∙ c.places.invariant
    ]
