-- What follows from an event, by the handles that it wakes.
use Rattle.std.proofs.Common.{◌≡◌, ℕ, Bool, true, false, cond, not, ◌&&◌, ◌||◌, List, [], ◌∷◌, ◌++◌, Option, Some, None, refl, ap, ◌∙◌}
use Rattle.std.specs.Prelude.{filter, is_some}
use Rattle.std.proofs.lemmas.Grind.{flat_map-append}
use Rattle.std.specs.Option.{option_map_or}
use Rattle.std.specs.List.{filter_map, flat_map, AllByRecursion, list_any, list_all}
use Rattle.pps_types.specs.History.{Entry}
use Rattle.pps_types.specs.Reading.{OpenHandle, visible}
use Rattle.pps_types.specs.Rests.{Progress}
use Rattle.pps_types.specs.Content.{Content, news, handle_numbered, read_answer, is_waiting, learns}
use Rattle.pps_types.specs.Plan.{Move, apply_all_seen, settling, settling_handle, had_news, fired, late_replies, late_reply, Arms, Queues}
use Rattle.pps_types.specs.declared.outcome.Item.TheVariants.{Pulse}
use Rattle.pps_types.proofs.Lists.{append-nil, all-all, all-weaken}
use Rattle.service_laws.proofs.Finds.{OfSome, and-both}
use Rattle.service_laws.proofs.Rising.{found-each}
use Rattle.service_laws.specs.Told.{entries_told, handle_after, handles_opened, HandlesRise, AreNumbered, only_tells, closes_handle, offer_all, is_woken}
use Rattle.service_laws.proofs.SettlingLists.{flat_map-same, flat_map-filter, flat_map-none, flat_map-filter_map, all-passing}
use Rattle.service_laws.proofs.SettlingHandles.{handles-after, handle_after-number}
use Rattle.service_laws.proofs.SettlingSight.{idle-made, handle_after-telling, news-given}

-- it waits for nothing
abbrev pub IsIdle : OpenHandle Progress → Type 0
IsIdle h = is_waiting h ≡ false

-- what follows for a handle that moves wake, by what stands after them
abbrev pub woken : Content → List Entry → OpenHandle Progress → List Move
woken d es h = fired h ++ late_replies d (offer_all es h)

-- what follows for a handle that stood before
abbrev settled_one : Content → List Move → OpenHandle Progress → List Move
settled_one d ms h = option_map_or (λ g. cond (not (news h) && news g) (fired g ++ late_replies d g) []) (handle_after ms h) []

-- nothing follows for a handle that waits for nothing
idle-none : (d : Content) (g : OpenHandle Progress) → IsIdle g → fired g ++ late_replies d g ≡ []
idle-none d g idle = go (λ pulse. Arms g.number None ∷ Queues g.connection (Pulse pulse.0 pulse.1) ∷ []) (λ size. late_reply g (read_answer d g size)) g.armed g.parked idle
  where
    go : (f : ℕ × ℕ → List Move) (k : ℕ → List Move) (a : Option (ℕ × ℕ)) (p : Option ℕ) → (is_some p || is_some a) ≡ false → option_map_or f a [] ++ option_map_or k p [] ≡ []
    go f k None None e = refl
    go f k (Some a) None e = absurd (let no = e in cc)
    go f k None (Some p) e = absurd (let no = e in cc)
    go f k (Some a) (Some p) e = absurd (let no = e in cc)

idle-one : (before d : Content) (g : OpenHandle Progress) → IsIdle g → settling_handle before d g ≡ []
idle-one before d g idle = by (not (had_news before g) && news g)
  where
    by : (b : Bool) → cond b (fired g ++ late_replies d g) [] ≡ []
    by true = idle-none d g idle
    by false = refl

-- a handle that stood before: had_news is by its own news
one-known : (before d : Content) (ms : List Move) (h : OpenHandle Progress) → handle_numbered before h.number ≡ Some h → option_map_or (settling_handle before d) (handle_after ms h) [] ≡ settled_one d ms h
one-known before d ms h found = go (handle_after ms h) (handle_after-number ms h)
  where
    go : (o : Option (OpenHandle Progress)) → OfSome (λ g. g.number ≡ h.number) o → option_map_or (settling_handle before d) o [] ≡ option_map_or (λ g. cond (not (news h) && news g) (fired g ++ late_replies d g) []) o []
    go None same = refl
    go (Some g) same = ap (λ b. cond (not b && news g) (fired g ++ late_replies d g) []) (ap (λ n. option_map_or news (handle_numbered before n) false) same ∙ ap (λ o. option_map_or news o false) found)

-- who had news, or sees none of the records, plays no part
one-untold : (d : Content) (ms : List Move) (h : OpenHandle Progress) → learns (entries_told ms) h ≡ false → settled_one d ms h ≡ []
one-untold d ms h e = by (news h) refl (list_any (visible h) (entries_told ms)) refl e
  where
    quiet : (o : Option (OpenHandle Progress)) → OfSome (λ g. news g ≡ false) o → option_map_or (λ g. cond (news g) (fired g ++ late_replies d g) []) o [] ≡ []
    quiet None same = refl
    quiet (Some g) same = ap (λ b. cond b (fired g ++ late_replies d g) []) same

    had : (o : Option (OpenHandle Progress)) → option_map_or {U = List Move} (λ g. []) o [] ≡ []
    had None = refl
    had (Some g) = refl

    by : (b : Bool) → news h ≡ b → (v : Bool) → list_any (visible h) (entries_told ms) ≡ v → (not b && v) ≡ false → option_map_or (λ g. cond (not (news h) && news g) (fired g ++ late_replies d g) []) (handle_after ms h) [] ≡ []
    by true n v l e = ap (λ b. option_map_or (λ g. cond (not b && news g) (fired g ++ late_replies d g) []) (handle_after ms h) []) n ∙ had (handle_after ms h)
    by false n true l e = absurd (let no = e in cc)
    by false n false l e = ap (λ b. option_map_or (λ g. cond (not b && news g) (fired g ++ late_replies d g) []) (handle_after ms h) []) n ∙ quiet (handle_after ms h) (idle-made ms h n l)

-- What follows from moves: what follows for each handle that stood before, by itself. A handle that opens in them is not woken.
settling-each : (ms : List Move) (c : Content) → HandlesRise c → AreNumbered c.next_handle ms → AllByRecursion IsIdle (handles_opened ms) → settling c (apply_all_seen ms c) ≡ flat_map (settled_one (apply_all_seen ms c) ms) c.handles
unfolding settling
settling-each ms c r n idle =
    ap (flat_map (settling_handle c d)) (handles-after ms c r n)
    ∙ flat_map-append (settling_handle c d) (filter_map (handle_after ms) c.handles) (handles_opened ms)
    ∙ (λ i. flat_map-filter_map (settling_handle c d) (handle_after ms) c.handles i ++ flat_map-none (settling_handle c d) (handles_opened ms) (all-weaken {P = IsIdle} {Q = λ g. settling_handle c d g ≡ []} (idle-one c d) (handles_opened ms) idle) i)
    ∙ append-nil (flat_map (λ h. option_map_or (settling_handle c d) (handle_after ms h) []) c.handles)
    ∙ flat_map-same (λ h. option_map_or (settling_handle c d) (handle_after ms h) []) (settled_one d ms) c.handles
    (all-weaken {P = λ h. handle_numbered c h.number ≡ Some h} {Q = λ h. option_map_or (settling_handle c d) (handle_after ms h) [] ≡ settled_one d ms h} (λ h found. one-known c d ms h found) c.handles (found-each (λ (h : OpenHandle Progress). h.number) 0 c.next_handle c.handles r))
  where
    d : Content
    d = apply_all_seen ms c

-- Where no record is told, nothing follows.
pub settling-silent : (ms : List Move) (c : Content) → HandlesRise c → AreNumbered c.next_handle ms → AllByRecursion IsIdle (handles_opened ms) → entries_told ms ≡ [] → settling c (apply_all_seen ms c) ≡ []
settling-silent ms c r n idle silent =
    settling-each ms c r n idle
    ∙ flat_map-none (settled_one (apply_all_seen ms c) ms) c.handles (all-all {P = λ h. settled_one (apply_all_seen ms c) ms h ≡ []} (λ h. one-untold (apply_all_seen ms c) ms h (ap (λ es. not (news h) && list_any (visible h) es) silent ∙ and-false (not (news h)))) c.handles)
  where
    and-false : (b : Bool) → (b && false) ≡ false
    and-false true = refl
    and-false false = refl

-- ---- moves that only tell

-- a woken handle has news now
one-woken : (d : Content) (ms : List Move) (h : OpenHandle Progress) → list_all only_tells ms ≡ true → is_woken ms h ≡ true → settled_one d ms h ≡ woken d (entries_told ms) h
one-woken d ms h tells wakes_up =
    let outer = and-both (is_waiting h && learns (entries_told ms) h) (not (list_any (closes_handle h.number) ms)) wakes_up in
    let inner = and-both (not (news h)) (list_any (visible h) (entries_told ms)) (and-both (is_waiting h) (learns (entries_told ms) h) outer.0).1 in
    let stays : list_any (closes_handle h.number) ms ≡ false = turned (list_any (closes_handle h.number) ms) outer.1 in
    let none : news h ≡ false = turned (news h) inner.0 in
    ap (λ o. option_map_or (λ g. cond (not (news h) && news g) (fired g ++ late_replies d g) []) o []) (handle_after-telling ms h tells ∙ ap (λ b. cond b None (Some (offer_all (entries_told ms) h))) stays)
    ∙ ap (λ b. cond (not b && news (offer_all (entries_told ms) h)) (fired (offer_all (entries_told ms) h) ++ late_replies d (offer_all (entries_told ms) h)) []) none
    ∙ ap (λ b. cond b (fired (offer_all (entries_told ms) h) ++ late_replies d (offer_all (entries_told ms) h)) []) (news-given h (entries_told ms) none inner.1)
  where
    turned : (b : Bool) → not b ≡ true → b ≡ false
    turned true e = absurd (let no = e in cc)
    turned false e = refl

one-asleep : (d : Content) (ms : List Move) (h : OpenHandle Progress) → list_all only_tells ms ≡ true → is_woken ms h ≡ false → settled_one d ms h ≡ []
one-asleep d ms h tells e = by (is_waiting h) refl (learns (entries_told ms) h) refl (list_any (closes_handle h.number) ms) refl e
  where
    g : OpenHandle Progress
    g = offer_all (entries_told ms) h

    either : (b : Bool) → IsIdle h → cond b (fired g ++ late_replies d g) [] ≡ []
    either true idle = idle-none d g idle
    either false idle = refl

    by : (w : Bool) → is_waiting h ≡ w → (t : Bool) → learns (entries_told ms) h ≡ t → (k : Bool) → list_any (closes_handle h.number) ms ≡ k → (w && t && not k) ≡ false → settled_one d ms h ≡ []
    by w waits_is t told_is true closed e = ap (λ o. option_map_or (λ g. cond (not (news h) && news g) (fired g ++ late_replies d g) []) o []) (handle_after-telling ms h tells ∙ ap (λ b. cond b None (Some g)) closed)
    by false waits_is t told_is false closed e = ap (λ o. option_map_or (λ g. cond (not (news h) && news g) (fired g ++ late_replies d g) []) o []) (handle_after-telling ms h tells ∙ ap (λ b. cond b None (Some g)) closed) ∙ either (not (news h) && news g) waits_is
    by true waits_is false told_is false closed e = one-untold d ms h told_is
    by true waits_is true told_is false closed e = absurd (let no = e in cc)

-- Where the moves only tell: what follows for the handles that wake, in rising number.
pub settling-wakes : (ms : List Move) (c : Content) → HandlesRise c → AreNumbered c.next_handle ms → AllByRecursion IsIdle (handles_opened ms) → list_all only_tells ms ≡ true
    → settling c (apply_all_seen ms c) ≡ flat_map (woken (apply_all_seen ms c) (entries_told ms)) (filter (is_woken ms) c.handles)
settling-wakes ms c r n idle tells =
    settling-each ms c r n idle
    ∙ flat_map-filter (settled_one d ms) (is_woken ms) c.handles (all-all {P = λ h. is_woken ms h ≡ false → settled_one d ms h ≡ []} (λ h. one-asleep d ms h tells) c.handles)
    ∙ flat_map-same (settled_one d ms) (woken d (entries_told ms)) (filter (is_woken ms) c.handles)
    (all-weaken {P = λ h. (is_woken ms h ≡ true) × Unit {0}} {Q = λ h. settled_one d ms h ≡ woken d (entries_told ms) h} (λ h is. one-woken d ms h tells is.0) (filter (is_woken ms) c.handles) (all-passing (λ h. Unit {0}) (is_woken ms) c.handles (all-all {P = λ h. Unit {0}} (λ h. tt) c.handles)))
  where
    d : Content
    d = apply_all_seen ms c
