-- Texts that are written one after the other.
use Rattle.std.proofs.Common.{◌≡◌, ℕ, ◌+◌, ◌<◌, length, get_or, take, drop, Bor, List, [], ◌++◌, Option, append-nil, sym, ap, subst, ◌∙◌}
use Rattle.std.proofs.lemmas.Grind.{flat_map-append}
use Rattle.std.proofs.lemmas.List.{take_more, take-append-drop, flat_map_more}
use Rattle.std.specs.Io.KnownBytes.{Appends}
use Rattle.pps_types.specs.Writing.{SendsPart, Holds}
use Rattle.pps_types.proofs.Writing.{holds-then, holds-part, part-more}
use Rattle.pps_jobs.specs.Wording.{texts_joined}

module _ (texts : List (Bor (List ℕ))) (k : ℕ) (d : Bor (List ℕ)) (lt : k < length texts) where
  abbrev text : Bor (List ℕ)
  text = get_or texts k d

  one-more : texts_joined (take k texts) ++ text.now ≡ texts_joined (take (k + 1) texts)
  one-more = flat_map_more (λ (t : Bor (List ℕ)). t.now) [] (take k texts) text ∙ ap texts_joined (sym (take_more texts k d lt))

  whole : (texts_joined (take k texts) ++ text.now) ++ texts_joined (drop (k + 1) texts) ≡ texts_joined texts
  whole =
      ap (λ t. t ++ texts_joined (drop (k + 1) texts)) one-more
      ∙ sym (flat_map-append (λ (t : Bor (List ℕ)). t.now) (take (k + 1) texts) (drop (k + 1) texts))
      ∙ ap texts_joined (take-append-drop (k + 1) texts)

  -- one more is written
  pub writes-next : (a b c : Option (List ℕ)) → Holds a b [] (texts_joined (take k texts)) → Appends b c text.now → Holds a c [] (texts_joined (take (k + 1) texts))
  writes-next a b c so_far written =
      subst (λ t. Holds a c [] t) one-more
      (holds-then a b c [] [] (texts_joined (take k texts)) text.now so_far record { sent = text.now; written = written; parts = sym (append-nil text.now) })

  -- or a part of it
  pub writes-part : (a b c : Option (List ℕ)) → Holds a b [] (texts_joined (take k texts)) → SendsPart b c text.now → SendsPart a c (texts_joined texts)
  writes-part a b c so_far part =
      subst (λ t. SendsPart a c t) whole
      (part-more a c (texts_joined (take k texts) ++ text.now) (texts_joined (drop (k + 1) texts))
      (holds-part a b c [] (texts_joined (take k texts)) text.now so_far part))
