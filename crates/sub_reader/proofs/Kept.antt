-- What is held is the longest rest of the handles.
use Rattle.std.proofs.Common.{◌≡◌, ℕ, ◌-◌, ◌≤◌, Bool, true, false, cond, List, [], ◌∷◌, length, map, drop, refl, sym, ap, ◌∙◌, arith, ⊎_elim}
use Rattle.std.specs.Prelude.{nat_lt}
use Rattle.std.proofs.lemmas.Bool.{cases_lt}
use Rattle.std.proofs.lemmas.List.{length-drop, drop_all}
use Rattle.pps_types.specs.History.{Entry}
use Rattle.pps_types.specs.Owed.{is_of, rest_seen, longer, longest_rest}
use Rattle.pps_types.proofs.Chains.{longest-length}
use Rattle.sub_reader.specs.declared.place.Place.{Place}
use Rattle.sub_reader.specs.declared.place.Place.TheVariants.{News, Fresh, Over, Idle, At}
use Rattle.sub_reader.specs.Readers.{Reader}
use Rattle.sub_reader.specs.Places.{seen_at, handle_of}
use Rattle.sub_reader.specs.Standing.{IsTarget}
use Rattle.sub_reader.proofs.Moves.{kept-longest}

-- one list ends another
abbrev IsEnd : List Entry → List Entry → Type 0
IsEnd all rest = (k : ℕ) × (k ≤ length all) × (rest ≡ drop k all)

end-none : (all : List Entry) → IsEnd all []
end-none all = (length all, omega arith, sym (drop_all (length all) all (omega arith)))

end-drop : (all : List Entry) (j : ℕ) → IsEnd all (drop j all)
end-drop all j = ⊎_elim (λ lt. (j, omega arith, refl)) (λ le. (length all, omega arith, drop_all j all le ∙ sym (drop_all (length all) all (omega arith)))) (cases_lt j (length all))

end-rest : (start : ℕ) (entries : List Entry) (p : Place) → IsEnd entries (rest_seen (seen_at start entries p))
end-rest start entries (News b) = end-none entries
end-rest start entries Fresh = end-none entries
end-rest start entries Over = end-none entries
end-rest start entries Idle = end-none entries
end-rest start entries (At first owed) = end-drop entries (first - start)

end-longer : (all xs ys : List Entry) → IsEnd all xs → IsEnd all ys → IsEnd all (longer xs ys)
end-longer all xs ys x y = elim (nat_lt (length xs) (length ys)) as (λ b. IsEnd all (cond b ys xs)) [ true ↦ y | false ↦ x ]

end-if : (all : List Entry) (b : Bool) (rest : List Entry) → IsEnd all rest → IsEnd all (cond b rest [])
end-if all true rest is = is
end-if all false rest is = end-none all

end-longest : (d : Bool) (t : ℕ) (name : List ℕ) (start : ℕ) (entries : List Entry) (readers : List Reader) → IsEnd entries (longest_rest d t (map (handle_of t name start entries) readers))
end-longest d t name start entries [] = end-none entries
end-longest d t name start entries (r ∷ rs) =
    end-longer entries (cond (is_of d t (handle_of t name start entries r)) (rest_seen (seen_at start entries r.progress)) []) (longest_rest d t (map (handle_of t name start entries) rs))
    (end-if entries (is_of d t (handle_of t name start entries r)) (rest_seen (seen_at start entries r.progress)) (end-rest start entries r.progress))
    (end-longest d t name start entries rs)

-- one that ends it and is as long is all of it
end-all : (all rest : List Entry) → IsEnd all rest → length rest ≡ length all → all ≡ rest
end-all all rest is long = let none : is.0 ≡ 0 = omega (arith, ap length is.2, length-drop is.0 all, is.1) in sym (is.2 ∙ ap (λ k. drop k all) none)

pub kept-rest : (d : Bool) (t : ℕ) (name : List ℕ) (start : ℕ) (entries : List Entry) (counts : List ℕ) (readers : List Reader) → IsTarget d t name start entries counts readers
    → entries ≡ longest_rest d t (map (handle_of t name start entries) readers)
kept-rest d t name start entries counts readers is =
    end-all entries (longest_rest d t (map (handle_of t name start entries) readers)) (end-longest d t name start entries readers)
    (longest-length d t (map (handle_of t name start entries) readers) ∙ sym (kept-longest d t name start entries counts readers is))
