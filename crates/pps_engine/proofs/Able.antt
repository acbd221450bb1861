-- What follows from an event can follow: each pulse is still armed, and each read still parked, once it is its turn.
use Rattle.std.proofs.Common.{◌≡◌, ◌≤◌, ℕ, ◌+◌, Bool, true, false, cond, ◌&&◌, List, [], ◌∷◌, ◌++◌, map, Option, Some, None, refl, sym, ap, ◌∙◌, arith}
use Rattle.std.specs.Prelude.{◌==◌, filter, find, is_some, option_map}
use Rattle.std.specs.Option.{option_map_or}
use Rattle.std.specs.List.{flat_map, filter_map, cons_option, AllByRecursion}
use Rattle.std.proofs.lemmas.Bool.{ne_eqb, eq-eqb, eqb-true}
use Rattle.pps_types.specs.declared.outcome.Item.TheVariants.{Pulse as PulseItem, ReadDone}
use Rattle.pps_types.specs.History.{Entry}
use Rattle.pps_types.specs.Reading.{OpenHandle, Member, reseen, Answer, Everything, Blocks, Needs, TargetGone, Waits, Nothing}
use Rattle.pps_types.specs.Rests.{Progress}
use Rattle.pps_types.specs.WellFormed.{RiseBetween}
use Rattle.pps_types.specs.Content.{Content, own_handle}
use Rattle.pps_types.specs.Plan.{Move, Attaches, Leaves, Creates, AppendsRecord, Opens, Closes, CatchesUp, Advances, Parks, Arms, Queues, Takes, MakesDirectory, RemovesDirectory, on_first, on_numbered, caught_up, left, apply_seen, apply_all_seen, fired, late_reply}
use Rattle.service_laws.proofs.Finds.{OfSome}
use Rattle.pps_types.proofs.Lists.{all-weaken}
use Rattle.service_laws.proofs.Rising.{rising-above, rising-lower}
use Rattle.service_laws.proofs.Settlings.{all-append, all-or}
use Rattle.service_laws.specs.Told.{entries_told, handle_after, handles_opened, HandlesRise, AreNumbered, is_woken, offer_all}
use Rattle.pps_types.specs.SettlingReplies.{late_answer, pulse_and_reply}
use Rattle.service_laws.proofs.SettlingLists.{all-passing}
use Rattle.service_laws.proofs.SettlingHandles.{handles-after, handle_after-number}
use Rattle.service_laws.proofs.SettlingSight.{handle_after-telling}
use Rattle.service_laws.proofs.SettlingEvents.{woken-parts}
use Rattle.pps_engine.proofs.SettlingTells.{AreTelling, telling-only}

-- ---- moves that can be made

-- a pulse that is queued is armed, and a read that is answered waits
abbrev pub IsAble : Content → Move → List Move → Type 0
IsAble c (Arms n p) (Queues conn (PulseItem code value) ∷ xs) = option_map (λ (h : OpenHandle Progress). h.armed) (own_handle c conn n) ≡ Some (Some (code, value))
IsAble c (Parks n s) (Queues conn (ReadDone handle result) ∷ xs) = option_map (λ (h : OpenHandle Progress). is_some h.parked) (own_handle c conn n) ≡ Some true
IsAble c x xs = Unit {0}

-- each where those before it took effect
abbrev pub AreAble : Content → List Move → Type 0
AreAble c [] = Unit {0}
AreAble c (x ∷ xs) = IsAble c x xs × AreAble (apply_seen x c) xs

-- ---- what a change of one handle leaves

abbrev owns : ℕ → ℕ → OpenHandle Progress → Bool
owns conn n h = (h.number == n) && (h.connection == conn)

module _ (conn n : ℕ) {Y : Type 0} (f : OpenHandle Progress → Y) (test : OpenHandle Progress → Bool) (change : OpenHandle Progress → OpenHandle Progress) where
  -- where it keeps what is asked, of any handle
  kept-by : ((h : OpenHandle Progress) → owns conn n (change h) ≡ owns conn n h) → ((h : OpenHandle Progress) → f (change h) ≡ f h) → (hs : List (OpenHandle Progress))
      → option_map f (find (owns conn n) (on_first test change hs)) ≡ option_map f (find (owns conn n) hs)
  kept-by keeps same [] = refl
  kept-by keeps same (h ∷ hs) = by (test h) (kept-by keeps same hs)
    where
      on : (b : Bool) → option_map f (find (owns conn n) (on_first test change hs)) ≡ option_map f (find (owns conn n) hs)
          → option_map f (cond b (Some h) (find (owns conn n) (on_first test change hs))) ≡ option_map f (cond b (Some h) (find (owns conn n) hs))
      on true rest = refl
      on false rest = rest

      here : (b : Bool) → option_map f (cond b (Some (change h)) (find (owns conn n) hs)) ≡ option_map f (cond b (Some h) (find (owns conn n) hs))
      here true = ap Some (same h)
      here false = refl

      by : (b : Bool) → option_map f (find (owns conn n) (on_first test change hs)) ≡ option_map f (find (owns conn n) hs)
          → option_map f (find (owns conn n) (cond b (change h ∷ hs) (h ∷ on_first test change hs))) ≡ option_map f (find (owns conn n) (h ∷ hs))
      by true rest = ap (λ b. option_map f (cond b (Some (change h)) (find (owns conn n) hs))) (keeps h) ∙ here (owns conn n h)
      by false rest = on (owns conn n h) rest

-- where it is of another number
other-by : (conn n m : ℕ) (change : OpenHandle Progress → OpenHandle Progress) → (m == n) ≡ false → ((h : OpenHandle Progress) → (change h).number ≡ h.number) → (hs : List (OpenHandle Progress))
    → find (owns conn n) (on_numbered m change hs) ≡ find (owns conn n) hs
other-by conn n m change other keeps [] = refl
other-by conn n m change other keeps (h ∷ hs) = by (h.number == m) refl (other-by conn n m change other keeps hs)
  where
    on : (b : Bool) → find (owns conn n) (on_numbered m change hs) ≡ find (owns conn n) hs → cond b (Some h) (find (owns conn n) (on_numbered m change hs)) ≡ cond b (Some h) (find (owns conn n) hs)
    on true rest = refl
    on false rest = rest

    by : (b : Bool) → (h.number == m) ≡ b → find (owns conn n) (on_numbered m change hs) ≡ find (owns conn n) hs
        → find (owns conn n) (cond b (change h ∷ hs) (h ∷ on_numbered m change hs)) ≡ find (owns conn n) (h ∷ hs)
    by true e rest =
        let is : (h.number == n) ≡ false = ap (λ k. k == n) (eqb-true h.number m e) ∙ other in
        ap (λ b. cond (b && ((change h).connection == conn)) (Some (change h)) (find (owns conn n) hs)) (ap (λ k. k == n) (keeps h) ∙ is)
        ∙ sym (ap (λ b. cond (b && (h.connection == conn)) (Some h) (find (owns conn n) hs)) is)
    by false e rest = on (owns conn n h) rest

-- ---- moves of one handle

abbrev IsOf : ℕ → Move → Type 0
IsOf n (Arms m p) = m ≡ n
IsOf n (Parks m s) = m ≡ n
IsOf n (CatchesUp m) = m ≡ n
IsOf n (Advances m count) = m ≡ n
IsOf n (Queues conn item) = Unit {0}
IsOf n _ = ⊥

same-other : (a b n : ℕ) → a ≡ b → (b == n) ≡ false → (a == n) ≡ false
same-other a b n same other = ap (λ k. k == n) same ∙ other

one-stays : (conn n m : ℕ) → (m == n) ≡ false → (x : Move) → IsOf m x → (c : Content) → own_handle (apply_seen x c) conn n ≡ own_handle c conn n
one-stays conn n m other (Arms k p) is c = other-by conn n k (λ h. record h { armed = p }) (same-other k m n is other) (λ h. refl) c.handles
one-stays conn n m other (Parks k s) is c = other-by conn n k (λ h. record h { parked = s }) (same-other k m n is other) (λ h. refl) c.handles
one-stays conn n m other (CatchesUp k) is c = other-by conn n k (reseen caught_up) (same-other k m n is other) (λ h. refl) c.handles
one-stays conn n m other (Advances k count) is c = other-by conn n k (reseen (λ h. left h count h.seen)) (same-other k m n is other) (λ h. refl) c.handles
one-stays conn n m other (Queues to item) is c = refl
one-stays conn n m other (Attaches to) is c = absurd is
one-stays conn n m other (Leaves to) is c = absurd is
one-stays conn n m other (Creates o) is c = absurd is
one-stays conn n m other (AppendsRecord e) is c = absurd is
one-stays conn n m other (Opens h) is c = absurd is
one-stays conn n m other (Closes number) is c = absurd is
one-stays conn n m other (Takes to) is c = absurd is
one-stays conn n m other (MakesDirectory path) is c = absurd is
one-stays conn n m other (RemovesDirectory number) is c = absurd is

all-stay : (conn n m : ℕ) → (m == n) ≡ false → (xs : List Move) → AllByRecursion (IsOf m) xs → (c : Content) → own_handle (apply_all_seen xs c) conn n ≡ own_handle c conn n
all-stay conn n m other [] is c = refl
all-stay conn n m other (x ∷ xs) is c = all-stay conn n m other xs is.1 (apply_seen x c) ∙ one-stays conn n m other x is.0 c

-- what follows for a handle is of it alone
reply-of : (h : OpenHandle Progress) (a : Answer) → AllByRecursion (IsOf h.number) (late_reply h a)
reply-of h (Everything text) = (refl, (refl, (tt, tt)))
reply-of h (Blocks count text) = (refl, (refl, (tt, tt)))
reply-of h (Needs need) = (refl, (tt, tt))
reply-of h TargetGone = tt
reply-of h Waits = tt
reply-of h Nothing = tt

follows-of : (h : OpenHandle Progress) (es : List Entry) (dead : Bool) (members : List Member) → AllByRecursion (IsOf h.number) (pulse_and_reply h es dead members)
follows-of h es dead members =
    all-append (IsOf h.number) (fired h) (option_map_or (λ size. late_reply h (late_answer h es dead members size)) h.parked [])
    (all-or (IsOf h.number) (λ pulse. Arms h.number None ∷ Queues h.connection (PulseItem pulse.0 pulse.1) ∷ []) (λ pulse. (refl, (tt, tt))) h.armed)
    (all-or (IsOf h.number) (λ size. late_reply h (late_answer h es dead members size)) (λ size. reply-of h (late_answer h es dead members size)) h.parked)

-- ---- a handle that stands as it was

pub record Stands (c : Content) (h : OpenHandle Progress) : Type 0 where
  pub armed : option_map (λ (g : OpenHandle Progress). g.armed) (own_handle c h.connection h.number) ≡ Some h.armed
  pub parked : option_map (λ (g : OpenHandle Progress). g.parked) (own_handle c h.connection h.number) ≡ Some h.parked

is_parked_by : (o : Option (OpenHandle Progress)) (p : Option ℕ) → option_map (λ (g : OpenHandle Progress). g.parked) o ≡ Some p → option_map (λ (g : OpenHandle Progress). is_some g.parked) o ≡ Some (is_some p)
is_parked_by None p e = absurd (let bad = e in cc)
is_parked_by (Some g) p e = let same : g.parked ≡ p = (let is = e in cc) in ap (λ p. Some (is_some p)) same

-- its late reply
able-reply : (c : Content) (h : OpenHandle Progress) (a : Answer) (rest : List Move) (size : ℕ) → option_map (λ (g : OpenHandle Progress). g.parked) (own_handle c h.connection h.number) ≡ Some (Some size)
    → AreAble (apply_all_seen (late_reply h a) c) rest → AreAble c (late_reply h a ++ rest)
able-reply c h (Everything text) rest size is able =
    (tt, (is_parked_by _ (Some size) (kept-by h.connection h.number (λ g. g.parked) (λ g. g.number == h.number) (reseen caught_up) (λ g. refl) (λ g. refl) c.handles ∙ is), (tt, able)))
able-reply c h (Blocks count text) rest size is able =
    (tt, (is_parked_by _ (Some size) (kept-by h.connection h.number (λ g. g.parked) (λ g. g.number == h.number) (reseen (λ g. left g count g.seen)) (λ g. refl) (λ g. refl) c.handles ∙ is), (tt, able)))
able-reply c h (Needs need) rest size is able = (is_parked_by _ (Some size) is, (tt, able))
able-reply c h TargetGone rest size is able = able
able-reply c h Waits rest size is able = able
able-reply c h Nothing rest size is able = able

able-replies : (c : Content) (h : OpenHandle Progress) (f : ℕ → Answer) (rest : List Move) (p : Option ℕ) → option_map (λ (g : OpenHandle Progress). g.parked) (own_handle c h.connection h.number) ≡ Some p
    → AreAble (apply_all_seen (option_map_or (λ size. late_reply h (f size)) p []) c) rest → AreAble c (option_map_or (λ size. late_reply h (f size)) p [] ++ rest)
able-replies c h f rest None is able = able
able-replies c h f rest (Some size) is able = able-reply c h (f size) rest size is able

-- its pulse, and then its late reply
able-both : (c : Content) (h : OpenHandle Progress) (f : ℕ → Answer) (rest : List Move) (a : Option (ℕ × ℕ)) (p : Option ℕ)
    → option_map (λ (g : OpenHandle Progress). g.armed) (own_handle c h.connection h.number) ≡ Some a → option_map (λ (g : OpenHandle Progress). g.parked) (own_handle c h.connection h.number) ≡ Some p
    → let ms = option_map_or (λ pulse. Arms h.number None ∷ Queues h.connection (PulseItem pulse.0 pulse.1) ∷ []) a [] ++ option_map_or (λ size. late_reply h (f size)) p [] in
    AreAble (apply_all_seen ms c) rest → AreAble c (ms ++ rest)
able-both c h f rest None p armed parked able = able-replies c h f rest p parked able
able-both c h f rest (Some pulse) p armed parked able = (
  armed,
  (
    tt,
    able-replies (apply_seen (Queues h.connection (PulseItem pulse.0 pulse.1)) (apply_seen (Arms h.number None) c)) h f rest p
        (kept-by h.connection h.number (λ g. g.parked) (λ g. g.number == h.number) (λ g. record g { armed = None }) (λ g. refl) (λ g. refl) c.handles ∙ parked) able,
  ),
)

pub able-follows : (c : Content) (h : OpenHandle Progress) (es : List Entry) (dead : Bool) (members : List Member) (rest : List Move) → Stands c h
    → AreAble (apply_all_seen (pulse_and_reply h es dead members) c) rest → AreAble c (pulse_and_reply h es dead members ++ rest)
able-follows c h es dead members rest s able = able-both c h (late_answer h es dead members) rest h.armed h.parked s.armed s.parked able

-- ---- one handle after the other

module _ (es : List Entry) (dead : OpenHandle Progress → Bool) (members : OpenHandle Progress → List Member) where
  abbrev given : OpenHandle Progress → List Move
  given h = pulse_and_reply h es (dead h) (members h)

  -- those behind it stand as they were
  still-stand : (c : Content) (h : OpenHandle Progress) (high : ℕ) (gs : List (OpenHandle Progress)) → AllByRecursion (λ (g : OpenHandle Progress). h.number + 1 ≤ g.number) gs → AllByRecursion (Stands c) gs → AllByRecursion (Stands (apply_all_seen (given h) c)) gs
  still-stand c h high [] above stand = tt
  still-stand c h high (g ∷ gs) above stand =
      let other : (h.number == g.number) ≡ false = ne_eqb h.number g.number (λ same. omega (arith, same, above.0)) in
      let same = all-stay g.connection g.number h.number other (given h) (follows-of h es (dead h) (members h)) c in (
        record {
          armed = ap (option_map (λ (g : OpenHandle Progress). g.armed)) same ∙ stand.0.armed;
          parked = ap (option_map (λ (g : OpenHandle Progress). g.parked)) same ∙ stand.0.parked;
        },
        still-stand c h high gs above.1 stand.1,
      )

  pub able-all : (low high : ℕ) (hs : List (OpenHandle Progress)) → RiseBetween low (map (λ (h : OpenHandle Progress). h.number) hs) high → (c : Content) → AllByRecursion (Stands c) hs → AreAble c (flat_map given hs)
  able-all low high [] r c stand = tt
  able-all low high (h ∷ hs) r c stand =
      able-follows c h es (dead h) (members h) (flat_map given hs) stand.0
      (able-all (h.number + 1) high hs r.1 (apply_all_seen (given h) c) (still-stand c h high hs (rising-above (λ (h : OpenHandle Progress). h.number) (h.number + 1) high hs r.1) stand.1))

-- ---- the handles that an event wakes, behind its own moves

rising-filter : (test : OpenHandle Progress → Bool) (low high : ℕ) (xs : List (OpenHandle Progress)) → RiseBetween low (map (λ (h : OpenHandle Progress). h.number) xs) high → RiseBetween low (map (λ (h : OpenHandle Progress). h.number) (filter test xs)) high
rising-filter test low high [] r = r
rising-filter test low high (x ∷ xs) r = by (test x) (rising-filter test (x.number + 1) high xs r.1)
  where
    by : (b : Bool) → RiseBetween (x.number + 1) (map (λ (h : OpenHandle Progress). h.number) (filter test xs)) high → RiseBetween low (map (λ (h : OpenHandle Progress). h.number) (cond b (x ∷ filter test xs) (filter test xs))) high
    by true rest = (r.0, rest)
    by false rest = rising-lower (x.number + 1) low high (map (λ (h : OpenHandle Progress). h.number) (filter test xs)) (omega (arith, r.0)) rest

module _ (f : OpenHandle Progress → Option (OpenHandle Progress)) (keeps : (h : OpenHandle Progress) → OfSome (λ g. g.number ≡ h.number) (f h)) (later : List (OpenHandle Progress)) where
  -- what becomes of others is not it
  skip : (x z : OpenHandle Progress) → (z.number == x.number) ≡ false → (zs : List (OpenHandle Progress)) → find (owns x.connection x.number) (cons_option (f z) zs ++ later) ≡ find (owns x.connection x.number) (zs ++ later)
  skip x z other zs = by (f z) (keeps z)
    where
      by : (o : Option (OpenHandle Progress)) → OfSome (λ g. g.number ≡ z.number) o → find (owns x.connection x.number) (cons_option o zs ++ later) ≡ find (owns x.connection x.number) (zs ++ later)
      by None k = refl
      by (Some g) k = ap (λ b. cond (b && (g.connection == x.connection)) (Some g) (find (owns x.connection x.number) (zs ++ later))) (ap (λ m. m == x.number) k ∙ other)

  abbrev IsLeft : List (OpenHandle Progress) → OpenHandle Progress → Type 0
  IsLeft zs x = (y : OpenHandle Progress) → f x ≡ Some y → y.connection ≡ x.connection → find (owns x.connection x.number) (filter_map f zs ++ later) ≡ Some y

  here : (x : OpenHandle Progress) (xs : List (OpenHandle Progress)) → IsLeft (x ∷ xs) x
  here x xs y is same = by (f x) (keeps x) is
    where
      by : (o : Option (OpenHandle Progress)) → OfSome (λ g. g.number ≡ x.number) o → o ≡ Some y → find (owns x.connection x.number) (cons_option o (filter_map f xs) ++ later) ≡ Some y
      by None k e = absurd (let bad = e in cc)
      by (Some g) k e =
          let g-is : g ≡ y = (let i = e in cc) in
          (λ i. cond (eq-eqb g.number x.number k i && eq-eqb g.connection x.connection (ap (λ (h : OpenHandle Progress). h.connection) g-is ∙ same) i) (Some g) (find (owns x.connection x.number) (filter_map f xs ++ later))) ∙ e

  left-each : (low high : ℕ) (xs : List (OpenHandle Progress)) → RiseBetween low (map (λ (h : OpenHandle Progress). h.number) xs) high → AllByRecursion (IsLeft xs) xs
  left-each low high [] r = tt
  left-each low high (x ∷ xs) r = (here x xs, more xs (rising-above (λ (h : OpenHandle Progress). h.number) (x.number + 1) high xs r.1) (left-each (x.number + 1) high xs r.1))
    where
      more : (ys : List (OpenHandle Progress)) → AllByRecursion (λ (y : OpenHandle Progress). x.number + 1 ≤ y.number) ys → AllByRecursion (IsLeft xs) ys → AllByRecursion (IsLeft (x ∷ xs)) ys
      more [] above all = tt
      more (y ∷ ys) above all = (λ z is same. skip y x (ne_eqb x.number y.number (λ n. omega (arith, n, above.0))) (filter_map f xs) ∙ all.0 z is same, more ys above.1 all.1)

module _ (c : Content) (rise : HandlesRise c) (ms : List Move) (numbered : AreNumbered c.next_handle ms) (tells : AreTelling ms) where
  -- it stands as it was, but for what it has seen
  woken-stands : (h : OpenHandle Progress) → is_woken ms h ≡ true → IsLeft (handle_after ms) (handle_after-number ms) (handles_opened ms) c.handles h → Stands (apply_all_seen ms c) h
  woken-stands h wakes left =
      let after : handle_after ms h ≡ Some (offer_all (entries_told ms) h) =
      handle_after-telling ms h (telling-only ms tells) ∙ ap (λ b. cond b None (Some (offer_all (entries_told ms) h))) (woken-parts ms h wakes).3 in
      let own : own_handle (apply_all_seen ms c) h.connection h.number ≡ Some (offer_all (entries_told ms) h) =
      ap (find (owns h.connection h.number)) (handles-after ms c rise numbered) ∙ left (offer_all (entries_told ms) h) after refl in
      record { armed = ap (option_map (λ (g : OpenHandle Progress). g.armed)) own; parked = ap (option_map (λ (g : OpenHandle Progress). g.parked)) own }

  all-woken : AllByRecursion (Stands (apply_all_seen ms c)) (filter (is_woken ms) c.handles)
  all-woken = all-weaken {P = λ h. (is_woken ms h ≡ true) × IsLeft (handle_after ms) (handle_after-number ms) (handles_opened ms) c.handles h} {Q = Stands (apply_all_seen ms c)} (λ h is. woken-stands h is.0 is.1)
      (filter (is_woken ms) c.handles)
      (all-passing (IsLeft (handle_after ms) (handle_after-number ms) (handles_opened ms) c.handles) (is_woken ms) c.handles (left-each (handle_after ms) (handle_after-number ms) (handles_opened ms) 0 c.next_handle c.handles rise))

  -- what follows for them can be made behind the event
  pub able-behind : (es : List Entry) (dead : OpenHandle Progress → Bool) (members : OpenHandle Progress → List Member) → AreAble (apply_all_seen ms c) (flat_map (λ h. pulse_and_reply h es (dead h) (members h)) (filter (is_woken ms) c.handles))
  able-behind es dead members = able-all es dead members 0 c.next_handle (filter (is_woken ms) c.handles) (rising-filter (is_woken ms) 0 c.next_handle c.handles rise) (apply_all_seen ms c) all-woken
