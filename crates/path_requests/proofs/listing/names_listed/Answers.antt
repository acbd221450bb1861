use Rattle.std.proofs.Common.{◌≡◌, ℕ, ◌+◌, List, ◌++◌, Some, ap, sym, ◌∙◌, append_assoc, drop, map}
use Rattle.std.specs.List.{concat, slice_get}
use Rattle.std.proofs.lemmas.List.{drop_more}
use Rattle.std.proofs.lemmas.Option.{slice_get_within, get_or_from_slice_get}
use Rattle.pps_types.specs.declared.found.Found.{Found}
use Rattle.pps_types.specs.Names.{Name}
use Rattle.path_requests.specs.Listed.{line_listed}
use Rattle.path_requests.proofs.listing.names_listed.Goals as goal

-- what is listed from a place on begins with the line of what stands there
next : (ms : List (Name × Found)) (i : ℕ) (m : Name × Found) → slice_get ms i ≡ Some m → concat (map line_listed (drop i ms)) ≡ line_listed m ++ concat (map line_listed (drop (i + 1) ms))
next ms i m is =
    ap (λ l. concat (map line_listed l)) (drop_more ms i m (slice_get_within ms i m is))
    ∙ ap (λ n. line_listed n ++ concat (map line_listed (drop (i + 1) ms))) (get_or_from_slice_get ms i m m is)

pub members-preserved : goal.members-preserved
members-preserved c =
    let ms = c.args.members.now in
    ap (λ t. t ++ concat (map line_listed (drop (c.members.place + 1) ms))) c.in_ok-put_name.ensures
    ∙ append_assoc c.members.text.items _ _
    ∙ ap (λ t. c.members.text.items ++ t) (sym (next ms c.members.place _ c.at-found.ensures))
    ∙ c.members.invariant
