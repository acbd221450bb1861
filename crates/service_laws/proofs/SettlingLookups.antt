-- Who wakes is among the handles that the records concern: those on their objects, and those on their directories.
use Rattle.std.proofs.Common.{◌≡◌, ◌≤◌, ◌<◌, ℕ, ◌+◌, Bool, true, false, cond, not, ◌&&◌, ◌||◌, List, [], ◌∷◌, map, refl, sym, ap, subst, ◌∙◌, arith}
use Rattle.std.specs.Prelude.{◌==◌, filter, nat_lt}
use Rattle.std.proofs.lemmas.Bool.{ne_eqb}
use Rattle.std.proofs.lemmas.Bool.Decides.{nat_tests}
use Rattle.std.specs.List.{AllByRecursion, list_any}
use Rattle.pps_types.specs.declared.event.Request.{Request}
use Rattle.pps_types.specs.declared.event.Request.TheVariants.{Detach}
use Rattle.pps_types.specs.History.{Entry}
use Rattle.pps_types.specs.Outbox.{put_rising}
use Rattle.pps_types.specs.Reading.{OpenHandle, visible, concerns, is_directory_kind}
use Rattle.pps_types.specs.Rests.{Progress}
use Rattle.pps_types.specs.Content.{Content}
use Rattle.pps_types.specs.WellFormed.{RiseBetween, IsContent, IsTarget}
use Rattle.pps_types.specs.Plan.{Move, effect}
use Rattle.pps_types.proofs.Lists.{all-all, all-weaken}
use Rattle.service_laws.proofs.Finds.{and-both, all-filter}
use Rattle.service_laws.specs.Told.{HandlesRise, entries_told, is_woken}
use Rattle.service_laws.specs.Concerned.{is_concerned, is_on_object, is_on_directory, merged, AreFew}
use Rattle.service_laws.proofs.SettlingLists.{filter-same, rising-behind}
use Rattle.service_laws.proofs.SettlingEvents.{woken-parts}
use Rattle.service_laws.proofs.SettlingFew.{effect-few}

-- ---- whom a plan looks up

filter-within : (p q : OpenHandle Progress → Bool) → ((h : OpenHandle Progress) → p h ≡ true → q h ≡ true) → (hs : List (OpenHandle Progress)) → filter p hs ≡ filter p (filter q hs)
filter-within p q into [] = refl
filter-within p q into (h ∷ hs) = by (p h) refl (q h) refl (filter-within p q into hs)
  where
    by : (a : Bool) → p h ≡ a → (b : Bool) → q h ≡ b → filter p hs ≡ filter p (filter q hs) → cond a (h ∷ filter p hs) (filter p hs) ≡ filter p (cond b (h ∷ filter q hs) (filter q hs))
    by true ea true eb rest = ap (λ xs. h ∷ xs) rest ∙ sym (ap (λ b. cond b (h ∷ filter p (filter q hs)) (filter p (filter q hs))) ea)
    by true ea false eb rest = absurd (let yes = into h ea in cc)
    by false ea true eb rest = rest ∙ sym (ap (λ b. cond b (h ∷ filter p (filter q hs)) (filter p (filter q hs))) ea)
    by false ea false eb rest = rest

any-into : (p q : Entry → Bool) → ((e : Entry) → p e ≡ true → q e ≡ true) → (es : List Entry) → list_any p es ≡ true → list_any q es ≡ true
any-into p q into [] e = e
any-into p q into (x ∷ xs) e = by (p x) refl (q x) refl e (any-into p q into xs)
  where
    by : (a : Bool) → p x ≡ a → (b : Bool) → q x ≡ b → (a || list_any p xs) ≡ true → (list_any p xs ≡ true → list_any q xs ≡ true) → (b || list_any q xs) ≡ true
    by a ea true eb e rest = refl
    by true ea false eb e rest = absurd (let yes = into x ea in cc)
    by false ea false eb e rest = rest e

visible-concerns : (h : OpenHandle Progress) (e : Entry) → visible h e ≡ true → concerns h e ≡ true
visible-concerns h e v = (and-both (concerns h e) _ v).0

woken-concerned : (ms : List Move) (h : OpenHandle Progress) → is_woken ms h ≡ true → is_concerned (entries_told ms) h ≡ true
woken-concerned ms h e = any-into (visible h) (concerns h) (visible-concerns h) (entries_told ms) (woken-parts ms h e).2

-- Only handles on the objects of the records, and on their directories, wake.
pub woken-among : (ms : List Move) (hs : List (OpenHandle Progress)) → filter (is_woken ms) hs ≡ filter (is_woken ms) (filter (is_concerned (entries_told ms)) hs)
woken-among ms hs = filter-within (is_woken ms) (is_concerned (entries_told ms)) (woken-concerned ms) hs

-- ---- two lists of handles as one

put-first : (h : OpenHandle Progress) (ys : List (OpenHandle Progress)) → AllByRecursion (λ y. h.number < y.number) ys → put_rising (λ g. g.number) h ys ≡ h ∷ ys
put-first h [] all = refl
put-first h (y ∷ ys) all = ap (λ b. cond b (h ∷ y ∷ ys) (y ∷ put_rising (λ g. g.number) h ys)) (lower h.number y.number all.0)
  where
    lower : (a b : ℕ) → a < b → nat_lt a b ≡ true
    lower a b lt = grind (arith, nat_tests, lt)

merged-behind : (h : OpenHandle Progress) (xs ys : List (OpenHandle Progress)) → AllByRecursion (λ x. h.number < x.number) xs → merged xs (h ∷ ys) ≡ h ∷ merged xs ys
merged-behind h [] ys all = refl
merged-behind h (x ∷ xs) ys all = ap (λ b. merged xs (cond b (x ∷ h ∷ ys) (h ∷ put_rising (λ g. g.number) x ys))) (higher x.number h.number all.0) ∙ merged-behind h xs (put_rising (λ g. g.number) x ys) all.1
  where
    higher : (a b : ℕ) → b < a → nat_lt a b ≡ false
    higher a b lt = grind (arith, nat_tests, lt)

filter-merged : (p q both : OpenHandle Progress → Bool) → ((h : OpenHandle Progress) → both h ≡ (p h || q h)) → ((h : OpenHandle Progress) → p h ≡ true → q h ≡ false) → (low high : ℕ) (hs : List (OpenHandle Progress)) → RiseBetween low (map (λ h. h.number) hs) high
    → filter both hs ≡ merged (filter p hs) (filter q hs)
filter-merged p q both either apart low high [] r = refl
filter-merged p q both either apart low high (h ∷ hs) r =
    ap (λ b. cond b (h ∷ filter both hs) (filter both hs)) (either h) ∙ by (p h) refl (q h) refl (filter-merged p q both either apart (h.number + 1) high hs r.1)
  where
    above : (test : OpenHandle Progress → Bool) → AllByRecursion (λ x. h.number < x.number) (filter test hs)
    above test = all-filter (λ x. h.number < x.number) test hs (rising-behind (λ (h : OpenHandle Progress). h.number) h.number high hs r.1)

    by : (a : Bool) → p h ≡ a → (b : Bool) → q h ≡ b → filter both hs ≡ merged (filter p hs) (filter q hs) → cond (a || b) (h ∷ filter both hs) (filter both hs) ≡ merged (cond a (h ∷ filter p hs) (filter p hs)) (cond b (h ∷ filter q hs) (filter q hs))
    by true ea true eb rest = absurd (let bad = apart h ea in cc)
    by true ea false eb rest = ap (λ xs. h ∷ xs) rest ∙ sym (ap (λ ys. merged (filter p hs) ys) (put-first h (filter q hs) (above q)) ∙ merged-behind h (filter p hs) (filter q hs) (above p))
    by false ea true eb rest = ap (λ xs. h ∷ xs) rest ∙ sym (merged-behind h (filter p hs) (filter q hs) (above p))
    by false ea false eb rest = rest

-- The handles that records concern: those on their objects, and those on their directories, in rising number.
pub concerned-merged : (es : List Entry) (low high : ℕ) (hs : List (OpenHandle Progress)) → RiseBetween low (map (λ h. h.number) hs) high
    → filter (is_concerned es) hs ≡ merged (filter (λ h. list_any (λ e. is_on_object e.record_of.object h) es) hs) (filter (λ h. list_any (λ e. is_on_directory e.directory h) es) hs)
concerned-merged es low high hs r =
    filter-merged (λ h. list_any (λ e. is_on_object e.record_of.object h) es) (λ h. list_any (λ e. is_on_directory e.directory h) es) (is_concerned es) (either es) (apart es) low high hs r
  where
    either : (es : List Entry) (h : OpenHandle Progress) → is_concerned es h ≡ (list_any (λ e. is_on_object e.record_of.object h) es || list_any (λ e. is_on_directory e.directory h) es)
    either es h = go (is_directory_kind h.kind) es
      where
        or-false : (k a b : Bool) → (cond k b a || false) ≡ (cond k b a)
        or-false true a true = refl
        or-false true a false = refl
        or-false false true b = refl
        or-false false false b = refl

        none : (p : Entry → Bool) (es : List Entry) → list_any (λ e. false && p e) es ≡ false
        none p [] = refl
        none p (e ∷ es) = none p es

        go : (k : Bool) (es : List Entry) → list_any (λ e. cond k (e.directory == h.target) (e.record_of.object == h.target)) es ≡ (list_any (λ e. not k && (e.record_of.object == h.target)) es || list_any (λ e. k && (e.directory == h.target)) es)
        go true es = sym (ap (λ b. b || list_any (λ e. e.directory == h.target) es) (none (λ e. e.record_of.object == h.target) es))
        go false es = sym (ap (λ b. list_any (λ e. e.record_of.object == h.target) es || b) (none (λ e. e.directory == h.target) es) ∙ right (list_any (λ e. e.record_of.object == h.target) es))
          where
            right : (b : Bool) → (b || false) ≡ b
            right true = refl
            right false = refl

    apart : (es : List Entry) (h : OpenHandle Progress) → list_any (λ e. is_on_object e.record_of.object h) es ≡ true → list_any (λ e. is_on_directory e.directory h) es ≡ false
    apart es h = go (is_directory_kind h.kind) es
      where
        none : (p : Entry → Bool) (es : List Entry) → list_any (λ e. false && p e) es ≡ false
        none p [] = refl
        none p (e ∷ es) = none p es

        go : (k : Bool) (es : List Entry) → list_any (λ e. not k && (e.record_of.object == h.target)) es ≡ true → list_any (λ e. k && (e.directory == h.target)) es ≡ false
        go true es bad = absurd (let is = bad in let no' = none (λ e. e.record_of.object == h.target) es in cc)
        go false es bad = none (λ e. e.directory == h.target) es

-- ---- events of one record, and of two in one directory

last-or : (b : Bool) → (b || false) ≡ b
last-or true = refl
last-or false = refl

-- a record: its object's handles and its directory's
pub one-record : (ms : List Move) (c : Content) (e : Entry) → HandlesRise c → entries_told ms ≡ e ∷ []
    → filter (is_woken ms) c.handles ≡ filter (is_woken ms) (merged (filter (is_on_object e.record_of.object) c.handles) (filter (is_on_directory e.directory) c.handles))
one-record ms c e r one =
    woken-among ms c.handles
    ∙ ap (λ es. filter (is_woken ms) (filter (is_concerned es) c.handles)) one
    ∙ ap (filter (is_woken ms)) (concerned-merged (e ∷ []) 0 c.next_handle c.handles r
    ∙ (λ i. merged (filter-same (λ h. is_on_object e.record_of.object h || false) (is_on_object e.record_of.object) c.handles (all-all {P = λ h. (is_on_object e.record_of.object h || false) ≡ is_on_object e.record_of.object h} (λ h. last-or (is_on_object e.record_of.object h)) c.handles) i)
    (filter-same (λ h. is_on_directory e.directory h || false) (is_on_directory e.directory) c.handles (all-all {P = λ h. (is_on_directory e.directory h || false) ≡ is_on_directory e.directory h} (λ h. last-or (is_on_directory e.directory h)) c.handles) i)))

-- nobody is on an object that was not made
none-on : (c : Content) → IsContent c → (n : ℕ) → c.next_object ≤ n → AllByRecursion (λ h. is_on_object n h ≡ false) c.handles
none-on c w n new = all-weaken {P = λ h. IsTarget c h.target (is_directory_kind h.kind)} {Q = λ h. is_on_object n h ≡ false} (λ h p. by h (is_directory_kind h.kind) p) c.handles w.held.targets
  where
    by : (h : OpenHandle Progress) (b : Bool) → IsTarget c h.target b → (not b && (n == h.target)) ≡ false
    by h true p = refl
    by h false p = ne_eqb n h.target (λ is. absurd (omega (arith, is, new, p)))

-- an object takes another's place: nobody has a handle on the new one yet
pub two-records : (ms : List Move) (c : Content) (e f : Entry) → IsContent c → entries_told ms ≡ e ∷ f ∷ [] → f.directory ≡ e.directory → c.next_object ≤ f.record_of.object
    → filter (is_woken ms) c.handles ≡ filter (is_woken ms) (merged (filter (is_on_object e.record_of.object) c.handles) (filter (is_on_directory e.directory) c.handles))
two-records ms c e f w two same new =
    woken-among ms c.handles
    ∙ ap (λ es. filter (is_woken ms) (filter (is_concerned es) c.handles)) two
    ∙ ap (filter (is_woken ms)) (concerned-merged (e ∷ f ∷ []) 0 c.next_handle c.handles w.order.handles_rise
    ∙ (λ i. merged (filter-same (λ h. is_on_object e.record_of.object h || (is_on_object f.record_of.object h || false)) (is_on_object e.record_of.object) c.handles
    (all-weaken {P = λ h. is_on_object f.record_of.object h ≡ false} {Q = λ h. (is_on_object e.record_of.object h || (is_on_object f.record_of.object h || false)) ≡ is_on_object e.record_of.object h} (λ h no-new. ap (λ b. is_on_object e.record_of.object h || (b || false)) no-new ∙ last-or (is_on_object e.record_of.object h)) c.handles (none-on c w f.record_of.object new)) i)
    (filter-same (λ h. is_on_directory e.directory h || (is_on_directory f.directory h || false)) (is_on_directory e.directory) c.handles
    (all-all {P = λ h. (is_on_directory e.directory h || (is_on_directory f.directory h || false)) ≡ is_on_directory e.directory h} (λ h. ap (λ d. is_on_directory e.directory h || (is_on_directory d h || false)) same ∙ twice (is_on_directory e.directory h)) c.handles) i)))
  where
    twice : (b : Bool) → (b || (b || false)) ≡ b
    twice true = refl
    twice false = refl

-- an event's first record says who is looked up
pub first-record : (c : Content) → IsContent c → (conn : ℕ) (request : Request) → (request ≡ Detach → ⊥) → (e : Entry) (es : List Entry) → entries_told (effect c conn request).1 ≡ e ∷ es
    → filter (is_woken (effect c conn request).1) c.handles ≡ filter (is_woken (effect c conn request).1) (merged (filter (is_on_object e.record_of.object) c.handles) (filter (is_on_directory e.directory) c.handles))
first-record c w conn request other e es told = by es told (effect-few c conn request other)
  where
    ms : List Move
    ms = (effect c conn request).1

    by : (es : List Entry) → entries_told ms ≡ e ∷ es → AreFew c (entries_told ms)
        → filter (is_woken ms) c.handles ≡ filter (is_woken ms) (merged (filter (is_on_object e.record_of.object) c.handles) (filter (is_on_directory e.directory) c.handles))
    by [] is few = one-record ms c e w.order.handles_rise is
    by (f ∷ []) is few = let both = subst (AreFew c) is few in two-records ms c e f w is both.0 (omega (arith, both.1))
    by (f ∷ g ∷ es) is few = absurd (subst (AreFew c) is few)
