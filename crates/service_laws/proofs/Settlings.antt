-- What settling does, as one connection sees it, is read off what it sees.
use Rattle.std.proofs.Common.{◌≡◌, ℕ, ◌<◌, Bool, true, false, cond, not, ◌&&◌, eqb, eqb-true, List, [], ◌∷◌, ◌++◌, map, Option, Some, None, refl, sym, ap, ◌∙◌}
use Rattle.std.specs.Prelude.{find, option_map}
use Rattle.std.specs.Option.{option_map_or}
use Rattle.std.specs.List.{flat_map, AllByRecursion}
use Rattle.std.proofs.lemmas.Grind.{flat_map-append}
use Rattle.pps_types.specs.Reading.{OpenHandle, Answer, Everything, Blocks, Needs, TargetGone, Waits, Nothing}
use Rattle.pps_types.specs.Rests.{Progress}
use Rattle.pps_types.specs.Content.{Content, handle_numbered, news, read_answer}
use Rattle.pps_types.specs.Plan.{Move, apply_all_seen, fired, late_reply, late_replies, had_news, settling_handle, settling}
use Rattle.pps_types.specs.Runs.{queued_by}
use Rattle.service_laws.proofs.Views.{blank, masked, view, masked-own, masked-other, view-moves, views-moves, Owns, MoveOf, other-moves, owned-moves, other-items}

pub moves-append : (xs ys : List Move) (c : Content) → apply_all_seen (xs ++ ys) c ≡ apply_all_seen ys (apply_all_seen xs c)
moves-append [] ys c = refl
moves-append (x ∷ xs) ys c = moves-append xs ys _

module _ {X : Type 0} (P : X → Type 0) where
  pub all-append : (xs ys : List X) → AllByRecursion P xs → AllByRecursion P ys → AllByRecursion P (xs ++ ys)
  all-append [] ys p q = q
  all-append (x ∷ xs) ys p q = (p.0, all-append xs ys p.1 q)

  pub all-or : {Y : Type 0} (f : Y → List X) → ((y : Y) → AllByRecursion P (f y)) → (o : Option Y) → AllByRecursion P (option_map_or f o [])
  all-or f p None = tt
  all-or f p (Some y) = p y

  pub all-cond : (b : Bool) (xs ys : List X) → AllByRecursion P xs → AllByRecursion P ys → AllByRecursion P (cond b xs ys)
  all-cond true xs ys p q = p
  all-cond false xs ys p q = q

pub find-map : {X : Type 0} (see : X → X) (test : X → Bool) → ((x : X) → test (see x) ≡ test x) → (xs : List X) → find test (map see xs) ≡ option_map see (find test xs)
find-map see test same [] = refl
find-map see test same (x ∷ xs) = ap (λ b. cond b (Some (see x)) (find test (map see xs))) (same x) ∙ by (test x) (find-map see test same xs)
  where
    by : (b : Bool) → find test (map see xs) ≡ option_map see (find test xs) → cond b (Some (see x)) (find test (map see xs)) ≡ option_map see (cond b (Some x) (find test xs))
    by true rec = refl
    by false rec = rec

module _ (conn : ℕ) (mine : ℕ → Bool) where
  -- a handle of the connection is found as it is
  pub find-own : (n : ℕ) → mine n ≡ true → (hs : List (OpenHandle Progress)) → Owns conn mine hs → find (λ h. eqb h.number n) (map (masked conn) hs) ≡ find (λ h. eqb h.number n) hs
  find-own n own [] owns = refl
  find-own n own (h ∷ hs) owns = by (eqb h.number n) refl (find-own n own hs owns.1)
    where
      by : (b : Bool) → eqb h.number n ≡ b → find (λ h. eqb h.number n) (map (masked conn) hs) ≡ find (λ h. eqb h.number n) hs → cond b (Some (masked conn h)) (find (λ h. eqb h.number n) (map (masked conn) hs)) ≡ cond b (Some h) (find (λ h. eqb h.number n) hs)
      by true e rec = ap Some (masked-own conn h (owns.0 ∙ ap mine (eqb-true h.number n e) ∙ own))
      by false e rec = rec

  late_reply-of : (b : Bool) (h : OpenHandle Progress) → mine h.number ≡ b → eqb h.connection conn ≡ b → (a : Answer) → AllByRecursion (MoveOf conn mine b) (late_reply h a)
  late_reply-of b h m o (Everything text) = (m, (m, (o, tt)))
  late_reply-of b h m o (Blocks count text) = (m, (m, (o, tt)))
  late_reply-of b h m o (Needs need) = (m, (o, tt))
  late_reply-of b h m o TargetGone = tt
  late_reply-of b h m o Waits = tt
  late_reply-of b h m o Nothing = tt

  pub settling_handle-of : (b : Bool) (before after : Content) (h : OpenHandle Progress) → mine h.number ≡ b → eqb h.connection conn ≡ b → AllByRecursion (MoveOf conn mine b) (settling_handle before after h)
  settling_handle-of b before after h m o = all-cond (MoveOf conn mine b) (not (had_news before h) && news h) (fired h ++ late_replies after h) []
      (all-append (MoveOf conn mine b) (fired h) (late_replies after h) (all-or (MoveOf conn mine b) _ (λ pulse. (m, (o, tt))) h.armed) (all-or (MoveOf conn mine b) _ (λ size. late_reply-of b h m o (read_answer after h size)) h.parked)) tt

  cond-nil : {X : Type 0} (b : Bool) → ◌≡◌ {A = List X} (cond b [] []) []
  cond-nil true = refl
  cond-nil false = refl

  -- what is masked settles nothing
  blank-settles : (before after : Content) (h : OpenHandle Progress) → settling_handle before after (blank conn h) ≡ []
  blank-settles before after h = cond-nil (not (had_news before (blank conn h)) && news (blank conn h))

  pub own-settles : (before after : Content) (h : OpenHandle Progress) → eqb h.connection conn ≡ true → mine h.number ≡ true → Owns conn mine before.handles → settling_handle (view conn before) (view conn after) (masked conn h) ≡ settling_handle before after h
  own-settles before after h own is owns =
      ap (settling_handle (view conn before) (view conn after)) (masked-own conn h own)
      ∙ ap (λ found. cond (not (option_map_or news found false) && news h) (fired h ++ late_replies after h) []) (find-own h.number is before.handles owns)

  record SettlesAs (xs ys : List Move) (d : Content) : Type 0 where
    pub seen : view conn (apply_all_seen xs d) ≡ view conn (apply_all_seen ys d)
    pub items : flat_map (queued_by conn) xs ≡ flat_map (queued_by conn) ys

  settles-as : (before after : Content) → Owns conn mine before.handles → (hs : List (OpenHandle Progress)) → Owns conn mine hs → (d : Content) → Owns conn mine d.handles
      → SettlesAs (flat_map (settling_handle before after) hs) (flat_map (settling_handle (view conn before) (view conn after)) (map (masked conn) hs)) d
  settles-as before after all [] owns d owned = record { seen = refl; items = refl }
  settles-as before after all (h ∷ hs) owns d owned = by (settles-as before after all hs owns.1) (eqb h.connection conn) refl
    where
      by : ((d : Content) → Owns conn mine d.handles → SettlesAs (flat_map (settling_handle before after) hs) (flat_map (settling_handle (view conn before) (view conn after)) (map (masked conn) hs)) d)
          → (b : Bool) → eqb h.connection conn ≡ b → SettlesAs (settling_handle before after h ++ flat_map (settling_handle before after) hs) (settling_handle (view conn before) (view conn after) (masked conn h) ++ flat_map (settling_handle (view conn before) (view conn after)) (map (masked conn) hs)) d
      by more true own =
          let is : mine h.number ≡ true = sym owns.0 ∙ own in
          let same = own-settles before after h own is all in
          let d1 = apply_all_seen (settling_handle before after h) d in
          let rec = more d1 (owned-moves conn mine true (settling_handle before after h) d (settling_handle-of true before after h is own) owned) in
          record {
            seen = ap (view conn) (moves-append (settling_handle before after h) (flat_map (settling_handle before after) hs) d)
                ∙ rec.seen
                ∙ sym (ap (view conn) (moves-append (settling_handle before after h) (flat_map (settling_handle (view conn before) (view conn after)) (map (masked conn) hs)) d))
                ∙ ap (λ xs. view conn (apply_all_seen (xs ++ flat_map (settling_handle (view conn before) (view conn after)) (map (masked conn) hs)) d)) (sym same);
            items = flat_map-append (queued_by conn) (settling_handle before after h) (flat_map (settling_handle before after) hs)
                ∙ ap (λ ys. flat_map (queued_by conn) (settling_handle before after h) ++ ys) rec.items
                ∙ sym (flat_map-append (queued_by conn) (settling_handle before after h) (flat_map (settling_handle (view conn before) (view conn after)) (map (masked conn) hs)))
                ∙ ap (λ xs. flat_map (queued_by conn) (xs ++ flat_map (settling_handle (view conn before) (view conn after)) (map (masked conn) hs))) (sym same);
          }
      by more false other =
          let is : mine h.number ≡ false = sym owns.0 ∙ other in
          let others = settling_handle-of false before after h is other in
          let none : settling_handle (view conn before) (view conn after) (masked conn h) ≡ [] = ap (settling_handle (view conn before) (view conn after)) (masked-other conn h other) ∙ blank-settles (view conn before) (view conn after) h in
          let d1 = apply_all_seen (settling_handle before after h) d in
          let rec = more d1 (owned-moves conn mine false (settling_handle before after h) d others owned) in
          record {
            seen = ap (view conn) (moves-append (settling_handle before after h) (flat_map (settling_handle before after) hs) d)
                ∙ rec.seen
                ∙ views-moves conn (flat_map (settling_handle (view conn before) (view conn after)) (map (masked conn) hs)) d1 d (other-moves conn mine (settling_handle before after h) d others owned)
                ∙ ap (λ xs. view conn (apply_all_seen (xs ++ flat_map (settling_handle (view conn before) (view conn after)) (map (masked conn) hs)) d)) (sym none);
            items = flat_map-append (queued_by conn) (settling_handle before after h) (flat_map (settling_handle before after) hs)
                ∙ ap (λ xs. xs ++ flat_map (queued_by conn) (flat_map (settling_handle before after) hs)) (other-items conn mine (settling_handle before after h) others)
                ∙ rec.items
                ∙ ap (λ xs. flat_map (queued_by conn) (xs ++ flat_map (settling_handle (view conn before) (view conn after)) (map (masked conn) hs))) (sym none);
          }

  -- settling, as the connection sees it, and what it queues for it
  pub settling-seen : (before after : Content) → Owns conn mine before.handles → Owns conn mine after.handles → view conn (apply_all_seen (settling before after) after) ≡ view conn (apply_all_seen (settling (view conn before) (view conn after)) (view conn after))
  unfolding settling
  settling-seen before after all owned = (settles-as before after all after.handles owned after owned).seen ∙ sym (view-moves conn (flat_map (settling_handle (view conn before) (view conn after)) (map (masked conn) after.handles)) after)

  pub settling-items : (before after : Content) → Owns conn mine before.handles → Owns conn mine after.handles → flat_map (queued_by conn) (settling before after) ≡ flat_map (queued_by conn) (settling (view conn before) (view conn after))
  unfolding settling
  settling-items before after all owned = (settles-as before after all after.handles owned after owned).items

-- ---- where nothing happened, nothing follows

-- each handle is found by its number
abbrev pub AreFound : Content → List (OpenHandle Progress) → Type 0
AreFound c hs = AllByRecursion (λ h. handle_numbered c h.number ≡ Some h) hs

both-not : {X : Type 0} (b : Bool) (xs : List X) → cond (not b && b) xs [] ≡ []
both-not true xs = refl
both-not false xs = refl

nothing-settles : (c after : Content) (hs : List (OpenHandle Progress)) → AreFound c hs → flat_map (settling_handle c after) hs ≡ []
nothing-settles c after [] found = refl
nothing-settles c after (h ∷ hs) found =
    ap (λ xs. xs ++ flat_map (settling_handle c after) hs) (ap (λ f. cond (not (option_map_or news f false) && news h) (fired h ++ late_replies after h) []) found.0 ∙ both-not (news h) (fired h ++ late_replies after h))
    ∙ nothing-settles c after hs found.1

pub still : (c : Content) → AreFound c c.handles → settling c c ≡ []
unfolding settling
still c found = nothing-settles c c c.handles found

-- ---- rising numbers

abbrev pub Rising : List ℕ → Type 0
Rising [] = Unit {0}
Rising (n ∷ ns) = AllByRecursion (λ k. n < k) ns × Rising ns
