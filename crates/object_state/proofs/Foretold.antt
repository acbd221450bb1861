-- What is noted of each name, line after line.
use Rattle.std.proofs.Common.{◌≡◌, ℕ, ◌+◌, ◌-◌, Bool, true, false, cond, List, [], ◌∷◌, length, Option, Some, None, refl, sym, ap, subst, ◌∙◌, arith}
use Rattle.std.specs.Prelude.{unwrap_or, IfSome, IfNone, ◌≤◌, ◌<◌, ◌^◌}
use Rattle.pps_types.specs.declared.line.Line.{Line}
use Rattle.pps_types.specs.Text.{print_line}
use Rattle.pps_types.specs.Bytes.{same}
use Rattle.pps_types.specs.History.{Attribute, put, is_marked}
use Rattle.object_state.specs.Effect.{printed_length, of_named, length_at, noted_or, count_of, bytes_of, Foretells, ForetellsMarks}
use Rattle.pps_types.proofs.SameBytes.{same-is, same-sym}
use Rattle.object_state.proofs.LineChanges.{cut, put-at, cut-at, put-distinct, cut-distinct, put-bytes, put-count, cut-bytes, cut-count}

module _ (noted new : List ℕ → Option (Option ℕ)) (count text : ℕ) (before after : List Attribute) (told : Foretells noted count text before after) where
  pub Foretells-put : (a : Attribute) → ((q : List ℕ) → new q ≡ cond (same a.name q) (Some (Some (printed_length a))) (noted q))
      → Foretells new (count + 1 - count_of (noted_or (noted a.name) (length_at a.name before))) (text + printed_length a - bytes_of (noted_or (noted a.name) (length_at a.name before))) before (put after a)
  Foretells-put a noting = record {
    lens = λ q. by q (same a.name q) refl;
    counted = omega (arith, ap count_of (told.lens a.name), put-count a after, told.counted);
    measured = omega (arith, ap bytes_of (told.lens a.name), put-bytes a after, told.measured);
    distinct = put-distinct a after told.distinct;
  }
    where
      by : (q : List ℕ) (s : Bool) → same a.name q ≡ s → noted_or (new q) (length_at q before) ≡ length_at q (put after a)
      by q true s = ap (λ n. noted_or n (length_at q before)) (noting q ∙ ap (λ t. cond t (Some (Some (printed_length a))) (noted q)) s) ∙ sym (put-at printed_length a q after ∙ ap (λ t. cond t (Some (printed_length a)) (length_at q after)) s)
      by q false s = ap (λ n. noted_or n (length_at q before)) (noting q ∙ ap (λ t. cond t (Some (Some (printed_length a))) (noted q)) s) ∙ told.lens q ∙ sym (put-at printed_length a q after ∙ ap (λ t. cond t (Some (printed_length a)) (length_at q after)) s)

  pub Foretells-cut : (name : List ℕ) → ((q : List ℕ) → new q ≡ cond (same name q) (Some None) (noted q))
      → Foretells new (count + 0 - count_of (noted_or (noted name) (length_at name before))) (text + 0 - bytes_of (noted_or (noted name) (length_at name before))) before (cut name after)
  Foretells-cut name noting = record {
    lens = λ q. by q (same name q) refl;
    counted = omega (arith, ap count_of (told.lens name), cut-count name after told.distinct, told.counted);
    measured = omega (arith, ap bytes_of (told.lens name), cut-bytes name after told.distinct, told.measured);
    distinct = cut-distinct name after told.distinct;
  }
    where
      by : (q : List ℕ) (s : Bool) → same name q ≡ s → noted_or (new q) (length_at q before) ≡ length_at q (cut name after)
      by q true s = ap (λ n. noted_or n (length_at q before)) (noting q ∙ ap (λ t. cond t (Some None) (noted q)) s) ∙ sym (cut-at printed_length name q after ∙ ap (λ t. cond t None (length_at q after)) s)
      by q false s = ap (λ n. noted_or n (length_at q before)) (noting q ∙ ap (λ t. cond t (Some None) (noted q)) s) ∙ told.lens q ∙ sym (cut-at printed_length name q after ∙ ap (λ t. cond t None (length_at q after)) s)

module _ (noted new : List ℕ → Option (Option ℕ)) (count text new_count new_text : ℕ) (before after : List Attribute) (name : List ℕ) (len : Option ℕ)
    (noting : (q : List ℕ) → new q ≡ cond (same name q) (Some len) (noted q))
    (counting : new_count ≡ count + count_of len - count_of (noted_or (noted name) (length_at name before)))
    (measuring : new_text ≡ text + bytes_of len - bytes_of (noted_or (noted name) (length_at name before)))
    (told : Foretells noted count text before after) where
  pub Foretells-set : (a : Attribute) → name ≡ a.name → len ≡ Some (printed_length a) → Foretells new new_count new_text before (put after a)
  Foretells-set a name_is len_is =
      let at = Foretells-put noted new count text before after told a (λ q. noting q ∙ (λ i. cond (same (name_is i) q) (Some (len_is i)) (noted q))) in
      record {
        lens = at.lens;
        counted = counting ∙ (λ i. count + count_of (len_is i) - count_of (noted_or (noted (name_is i)) (length_at (name_is i) before))) ∙ at.counted;
        measured = measuring ∙ (λ i. text + bytes_of (len_is i) - bytes_of (noted_or (noted (name_is i)) (length_at (name_is i) before))) ∙ at.measured;
        distinct = at.distinct;
      }

  pub Foretells-del : (gone : List ℕ) → name ≡ gone → len ≡ None → Foretells new new_count new_text before (cut gone after)
  Foretells-del gone name_is len_is =
      let at = Foretells-cut noted new count text before after told gone (λ q. noting q ∙ (λ i. cond (same (name_is i) q) (Some (len_is i)) (noted q))) in
      record {
        lens = at.lens;
        counted = counting ∙ (λ i. count + count_of (len_is i) - count_of (noted_or (noted (name_is i)) (length_at (name_is i) before))) ∙ at.counted;
        measured = measuring ∙ (λ i. text + bytes_of (len_is i) - bytes_of (noted_or (noted (name_is i)) (length_at (name_is i) before))) ∙ at.measured;
        distinct = at.distinct;
      }

-- ---- marks

pub marked-named : (q : List ℕ) (rest : List Attribute) → is_marked q rest ≡ unwrap_or (of_named (λ a. a.n) q rest) false
marked-named q [] = refl
marked-named q (a ∷ rest) = ap (λ t. cond t a.n (is_marked q rest)) (same-sym a.name q) ∙ by (marked-named q rest) (same q a.name)
  where
    by : is_marked q rest ≡ unwrap_or (of_named (λ a. a.n) q rest) false → (s : Bool) → cond s a.n (is_marked q rest) ≡ unwrap_or (cond s (Some a.n) (of_named (λ a. a.n) q rest)) false
    by rec true = refl
    by rec false = rec

marked-put : (a : Attribute) (q : List ℕ) (rest : List Attribute) → is_marked q (put rest a) ≡ cond (same a.name q) a.n (is_marked q rest)
marked-put a q rest = marked-named q (put rest a) ∙ ap (λ o. unwrap_or o false) (put-at (λ a. a.n) a q rest) ∙ by (same a.name q)
  where
    by : (s : Bool) → unwrap_or (cond s (Some a.n) (of_named (λ a. a.n) q rest)) false ≡ cond s a.n (is_marked q rest)
    by true = refl
    by false = sym (marked-named q rest)

marked-cut : (name q : List ℕ) (rest : List Attribute) → is_marked q (cut name rest) ≡ cond (same name q) false (is_marked q rest)
marked-cut name q rest = marked-named q (cut name rest) ∙ ap (λ o. unwrap_or o false) (cut-at (λ a. a.n) name q rest) ∙ by (same name q)
  where
    by : (s : Bool) → unwrap_or (cond s None (of_named (λ a. a.n) q rest)) false ≡ cond s false (is_marked q rest)
    by true = refl
    by false = sym (marked-named q rest)

module _ (noted new : List ℕ → Option Bool) (before after : List Attribute) (told : ForetellsMarks noted before after) where
  pub ForetellsMarks-put : (a : Attribute) → ((q : List ℕ) → new q ≡ cond (same a.name q) (Some a.n) (noted q)) → ForetellsMarks new before (put after a)
  ForetellsMarks-put a noting = record { marks = λ q. ap (λ n. noted_or n (is_marked q before)) (noting q) ∙ by q (same a.name q) ∙ sym (marked-put a q after) }
    where
      by : (q : List ℕ) (s : Bool) → noted_or (cond s (Some a.n) (noted q)) (is_marked q before) ≡ cond s a.n (is_marked q after)
      by q true = refl
      by q false = told.marks q

  pub ForetellsMarks-cut : (name : List ℕ) → ((q : List ℕ) → new q ≡ cond (same name q) (Some false) (noted q)) → ForetellsMarks new before (cut name after)
  ForetellsMarks-cut name noting = record { marks = λ q. ap (λ n. noted_or n (is_marked q before)) (noting q) ∙ by q (same name q) ∙ sym (marked-cut name q after) }
    where
      by : (q : List ℕ) (s : Bool) → noted_or (cond s (Some false) (noted q)) (is_marked q before) ≡ cond s false (is_marked q after)
      by q true = refl
      by q false = told.marks q

-- a mark that stays needs no note
module _ (noted : List ℕ → Option Bool) (before after : List Attribute) (told : ForetellsMarks noted before after) where
  pub stays-put : (a : Attribute) → a.n ≡ noted_or (noted a.name) (is_marked a.name before) → ForetellsMarks noted before (put after a)
  stays-put a stays = record { marks = λ q. by q (same a.name q) refl ∙ sym (marked-put a q after) }
    where
      by : (q : List ℕ) (s : Bool) → same a.name q ≡ s → noted_or (noted q) (is_marked q before) ≡ cond (same a.name q) a.n (is_marked q after)
      by q true s = subst (λ m. noted_or (noted m) (is_marked m before) ≡ a.n) (same-is a.name q s) (sym stays) ∙ ap (λ t. cond t a.n (is_marked q after)) (sym s)
      by q false s = told.marks q ∙ ap (λ t. cond t a.n (is_marked q after)) (sym s)

  pub stays-cut : (name : List ℕ) → noted_or (noted name) (is_marked name before) ≡ false → ForetellsMarks noted before (cut name after)
  stays-cut name stays = record { marks = λ q. by q (same name q) refl ∙ sym (marked-cut name q after) }
    where
      by : (q : List ℕ) (s : Bool) → same name q ≡ s → noted_or (noted q) (is_marked q before) ≡ cond (same name q) false (is_marked q after)
      by q true s = subst (λ m. noted_or (noted m) (is_marked m before) ≡ false) (same-is name q s) stays ∙ ap (λ t. cond t false (is_marked q after)) (sym s)
      by q false s = told.marks q ∙ ap (λ t. cond t false (is_marked q after)) (sym s)

pub ForetellsMarks-set : (noted new : List ℕ → Option Bool) (before after : List Attribute) (name : List ℕ) (a : Attribute) → name ≡ a.name
    → ((q : List ℕ) → new q ≡ cond (same name q) (Some a.n) (noted q)) → ForetellsMarks noted before after → ForetellsMarks new before (put after a)
ForetellsMarks-set noted new before after name a name_is noting told = ForetellsMarks-put noted new before after told a (λ q. noting q ∙ (λ i. cond (same (name_is i) q) (Some a.n) (noted q)))

pub ForetellsMarks-del : (noted new : List ℕ → Option Bool) (before after : List Attribute) (name gone : List ℕ) → name ≡ gone
    → ((q : List ℕ) → new q ≡ cond (same name q) (Some false) (noted q)) → ForetellsMarks noted before after → ForetellsMarks new before (cut gone after)
ForetellsMarks-del noted new before after name gone name_is noting told = ForetellsMarks-cut noted new before after told gone (λ q. noting q ∙ (λ i. cond (same (name_is i) q) (Some false) (noted q)))

-- a length that is one
pub printed-some : (len : Option ℕ) (line : Line) → IfSome len (λ n. n ≡ length (print_line line)) → IfNone len (2 ^ 64 ≤ length (print_line line)) → length (print_line line) < 2 ^ 64 → len ≡ Some (length (print_line line))
printed-some (Some n) line some none fits = ap (λ n. Some n) some
printed-some None line some none fits = absurd (omega arith)
