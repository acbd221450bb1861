use Rattle.std.proofs.Common.{Some, [], ◌∷◌, ◌++◌, ◌+◌, map, drop, ap, sym, ◌∙◌, append_assoc}
use Rattle.std.specs.Prelude.{option_map}
use Rattle.std.specs.Option.{option_copied}
use Rattle.std.specs.List.{filter_map}
use Rattle.pps_types.specs.Content.{member}
use Rattle.name_table.specs.Standing.{known_of}
use Rattle.handle_requests.proofs.Parts.{member_some, member_none}
use Rattle.handle_requests.proofs.directories.members_of.Goals.{in-Some+in_ok-push, in_default}
use Rattle.handle_requests.proofs.directories.members_of.Goals as goal

pub places-preserved : goal.places-preserved
places-preserved c =
    let os = c.args.objects.now in
    let behind = map member (filter_map (λ o. o) (drop (c.places.place + 1) os)) in
    elim c.match-get.branch [
      | in-Some+in_ok-push w ↦
          let at = member_some os c.places.place (known_of w.in-Some.object.now) (c.get.ensures ∙ ap (λ o. Some (option_map known_of (option_copied o))) w.in-Some.is) in
          ap (λ v. v.items ++ behind) w.members-is
          ∙ ap (λ l. l ++ behind) w.in_ok-push.ensures.items
          ∙ append_assoc c.places.members.items (w.member_of.result ∷ []) behind
          ∙ ap (λ m. c.places.members.items ++ m ∷ behind) w.member_of.ensures
          ∙ ap (λ l. c.places.members.items ++ l) (sym at)
          ∙ c.places.invariant
      | in_default w ↦
          let at = member_none os c.places.place (c.get.ensures ∙ ap (λ o. Some (option_map known_of (option_copied o))) w.in_default.is) in
          ap (λ v. v.items ++ behind) w.members-is ∙ ap (λ l. c.places.members.items ++ l) (sym at) ∙ c.places.invariant
    ]
