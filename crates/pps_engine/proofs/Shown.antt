-- What a late reply is told of its target.
use Rattle.std.proofs.Common.{◌≡◌, Bool, true, false, cond, not, ◌&&◌, List, [], ◌∷◌, map, Option, Some, None, refl, sym, ap, ◌∙◌}
use Rattle.std.specs.Prelude.{is_some, is_none, unwrap_or}
use Rattle.pps_types.specs.History.{Attribute, Entry, line_of}
use Rattle.pps_types.specs.Reading.{OpenHandle, Member, is_directory_kind}
use Rattle.pps_types.specs.Rests.{Progress}
use Rattle.pps_types.specs.Content.{Content}
use Rattle.pps_types.specs.SettlingReplies.{gives_everything}
use Rattle.whole_texts.specs.Woken.{Behind, ShowsWaiting}
use Rattle.pps_engine.specs.Behind.{state_behind, row_member, rows_behind, is_dead_behind, members_behind}

-- where it is not everything, nothing is
pub records-shown : (b : Behind) (h : OpenHandle Progress) (dead : Bool) (members : List Member) → (is_some h.parked && gives_everything h b.entries) ≡ false → ShowsWaiting b h dead members
records-shown b h dead members none = λ parked gives. absurd (let bad : true ≡ false = sym (λ i. parked i && gives i) ∙ none in cc)

alive-is : (s : Option (List Attribute)) → is_some s ≡ not (is_none s)
alive-is None = refl
alive-is (Some s) = refl

module _ (b : Behind) (c : Content) (es : List Entry) (h : OpenHandle Progress) where
  -- an object
  pub object-shown : (state : Option (List Attribute)) → state ≡ state_behind c es h.target → is_directory_kind h.kind ≡ false → b.alive ≡ is_some state
      → b.members ≡ record { name = h.name; lines = map line_of (unwrap_or state []) } ∷ [] → ShowsWaiting b h (is_dead_behind c es h) (members_behind c es h)
  object-shown state is object alive members = λ parked gives. (
    alive ∙ ap is_some is ∙ alive-is (state_behind c es h.target) ∙ sym (ap (λ d. not (not d && is_none (state_behind c es h.target))) object),
    members ∙ ap (λ s. record { name = h.name; lines = map line_of (unwrap_or s []) } ∷ []) is
        ∙ sym (ap (λ d. cond d (map row_member (rows_behind c es h.target)) (record { name = h.name; lines = map line_of (unwrap_or (state_behind c es h.target) []) } ∷ [])) object),
  )

  -- a directory
  pub directory-shown : is_directory_kind h.kind ≡ true → b.alive ≡ true → b.members ≡ map row_member (rows_behind c es h.target) → ShowsWaiting b h (is_dead_behind c es h) (members_behind c es h)
  directory-shown directory alive members = λ parked gives. (
    alive ∙ sym (ap (λ d. not (not d && is_none (state_behind c es h.target))) directory),
    members ∙ sym (ap (λ d. cond d (map row_member (rows_behind c es h.target)) (record { name = h.name; lines = map line_of (unwrap_or (state_behind c es h.target) []) } ∷ [])) directory),
  )
