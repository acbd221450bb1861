-- A read is parked only where the handle waits and has no news.
use Rattle.std.proofs.Common.{◌≡◌, ◌≤◌, ℕ, ◌+◌, Bool, true, false, cond, not, ◌&&◌, eqb, eqb-true, eq-eqb, ne_eqb, List, [], ◌∷◌, ◌++◌, map, length, Option, Some, None, Result, Ok, Err, refl, sym, ap, subst, ◌∙◌, arith}
use Rattle.std.specs.Prelude.{find, filter, is_some, nat_le}
use Rattle.std.specs.Option.{option_map_or}
use Rattle.std.specs.List.{AllByRecursion, flat_map}
use Rattle.pps_types.specs.declared.event.Event.{Event}
use Rattle.pps_types.specs.declared.event.Request.{Request}
use Rattle.pps_types.specs.declared.event.Request.TheVariants.{Attach, Detach, Open as OpenRequest, Read, Write, Close, Unlink, Mkdir, List as ListRequest, Notify, Receive}
use Rattle.pps_types.specs.declared.event.Mode.{Mode}
use Rattle.pps_types.specs.declared.outcome.Outcome.{Outcome}
use Rattle.pps_types.specs.declared.outcome.Outcome.TheVariants.{Done}
use Rattle.pps_types.specs.declared.outcome.Item.{Item}
use Rattle.pps_types.specs.declared.refusal.Refusal.{Refusal}
use Rattle.pps_types.specs.declared.record.Kind.{Kind}
use Rattle.pps_types.specs.declared.record.Kind.TheVariants.{Dropped}
use Rattle.pps_types.specs.declared.handle_kind.HandleKind.{HandleKind}
use Rattle.pps_types.specs.declared.handle_kind.HandleKind.TheVariants.{Object as ObjectHandle, Directory as DirectoryHandle, Names as NamesHandle, Server as ServerHandle, Client as ClientHandle}
use Rattle.pps_types.specs.Bytes.{is_empty}
use Rattle.pps_types.specs.OpenText.{OpenSpec, open_text, path_text}
use Rattle.pps_types.specs.Text.{WriteText, write_text}
use Rattle.pps_types.specs.Outbox.{first_of}
use Rattle.pps_types.specs.Reading.{OpenHandle, reseen, style, visible, block, idle_answer, owed_answer, blocks_answer, fitting, Answer, Everything, Blocks, Needs, TargetGone, Waits, Nothing}
use Rattle.pps_types.specs.Rests.{Progress, News, Unread, Over, Owed, news_in, answer}
use Rattle.pps_types.specs.Content.{Directory, LiveObject, Content, directory_at, object_at, object_numbered, handle_numbered, handles_of, queue_of, news, everything, target_is_dead, read_answer, own_handle}
use Rattle.pps_types.specs.Checks.{Refuse, first_refusal, checks}
use Rattle.pps_types.specs.Plan.{Move, Attaches, Leaves, Creates, AppendsRecord, Opens, Closes, CatchesUp, Advances, Parks, Arms, Queues, Takes, MakesDirectory, RemovesDirectory, apply_seen, apply_all_seen, creation, caught_up, left, first_seen, on_numbered, new_handle, preparing, found_object, written_kind, writing, on_target, parting, closing, closings, unlinking, received, read_effect, with_result, effect, settling, settling_handle, fired, late_replies, late_reply, had_news, all_checks_of, passes_last_number, decided, plan, step_seen}
use Rattle.pps_types.specs.WellFormed.{RiseBetween, HasFirst}
use Rattle.pps_types.proofs.Lists.{all-push, all-on_first, all-without_first}
use Rattle.service_laws.proofs.Settlings.{all-append, all-or, all-cond, moves-append}
use Rattle.service_laws.proofs.Finds.{all-both, all-imp, all-find}
use Rattle.service_laws.proofs.Rising.{rising-above, same-on_first, only-one, found-each}
use Rattle.service_laws.proofs.Fits.{Order, IsSafe, AreSafe, safe-fit}
use Rattle.service_laws.proofs.Holders.{Basis, basis-after, IsTold, all-offered}
use Rattle.service_laws.proofs.Passes.{late_reply-safe, effect-fit, passes-both}

-- ---- who has news is given something, and who waits has none

whole-given : (b : Bool) (text : List ℕ) → cond b (Everything text) (Needs (length text)) ≡ Waits → ⊥
whole-given true text e = cc
whole-given false text e = cc

idle-waits : (dead wait : Bool) → idle_answer dead wait ≡ Waits → wait ≡ true
idle-waits true wait e = absurd (let h = e in cc)
idle-waits false true e = refl
idle-waits false false e = absurd (let h = e in cc)

owed-given : (b : Bool) (given : ℕ × List ℕ) (n : ℕ) → cond b (blocks_answer given) (Needs n) ≡ Waits → ⊥
owed-given true given n e = cc
owed-given false given n e = cc

waits-idle : (h : OpenHandle Progress) (s : Progress) (text : List ℕ) (dead : Bool) (max : ℕ) → HasFirst h s → answer h s text dead max ≡ Waits → (h.options.wait ≡ true) × (news_in h.reads s ≡ false)
waits-idle h (News true) text dead max first e = absurd (whole-given (nat_le (length text) max) text e)
waits-idle h (News false) text dead max first e = (idle-waits dead h.options.wait e, refl)
waits-idle h Unread text dead max first e = absurd (whole-given (nat_le (length text) max) text e)
waits-idle h Over text dead max first e = absurd (whole-given (nat_le (length text) max) text e)
waits-idle h (Owed []) text dead max first e = (idle-waits dead h.options.wait e, refl)
waits-idle h (Owed (x ∷ xs)) text dead max first e =
    absurd (owed-given (nat_le (length (block h x)) max) (fitting max (map (block h) (x ∷ filter (visible h) xs))) (length (block h x))
    (sym (ap (λ b. owed_answer h.options.wait (map (block h) (cond b (x ∷ filter (visible h) xs) (filter (visible h) xs))) dead max) first) ∙ e))

abbrev IsGiven : Answer → Type 0
IsGiven (Everything text) = Unit {0}
IsGiven (Blocks count text) = Unit {0}
IsGiven (Needs need) = Unit {0}
IsGiven TargetGone = ⊥
IsGiven Waits = ⊥
IsGiven Nothing = ⊥

given-whole : (b : Bool) (text : List ℕ) → IsGiven (cond b (Everything text) (Needs (length text)))
given-whole true text = tt
given-whole false text = tt

given-owed : (b : Bool) (given : ℕ × List ℕ) (n : ℕ) → IsGiven (cond b (blocks_answer given) (Needs n))
given-owed true given n = tt
given-owed false given n = tt

given-news : (h : OpenHandle Progress) (s : Progress) (text : List ℕ) (dead : Bool) (max : ℕ) → HasFirst h s → news_in h.reads s ≡ true → IsGiven (answer h s text dead max)
given-news h (News true) text dead max first e = given-whole (nat_le (length text) max) text
given-news h (News false) text dead max first e = absurd (let no = e in cc)
given-news h Unread text dead max first e = given-whole (nat_le (length text) max) text
given-news h Over text dead max first e = given-whole (nat_le (length text) max) text
given-news h (Owed []) text dead max first e = absurd (let no = e in cc)
given-news h (Owed (x ∷ xs)) text dead max first e =
    subst (λ b. IsGiven (owed_answer h.options.wait (map (block h) (cond b (x ∷ filter (visible h) xs) (filter (visible h) xs))) dead max)) (sym first)
    (given-owed (nat_le (length (block h x)) max) (fitting max (map (block h) (x ∷ filter (visible h) xs))) (length (block h x)))

-- ---- the handle of a number

all-numbered : (P Q : OpenHandle Progress → Type 0) (n : ℕ) (f : OpenHandle Progress → OpenHandle Progress) → ((g : OpenHandle Progress) → eqb g.number n ≡ false → P g → Q g) → ((g : OpenHandle Progress) → eqb g.number n ≡ true → P g → Q (f g))
    → (low high : ℕ) (hs : List (OpenHandle Progress)) → RiseBetween low (map (λ (h : OpenHandle Progress). h.number) hs) high → AllByRecursion P hs → AllByRecursion Q (on_numbered n f hs)
all-numbered P Q n f other own low high [] r all = tt
all-numbered P Q n f other own low high (h ∷ hs) r all = go (eqb h.number n) refl (all-numbered P Q n f other own (h.number + 1) high hs r.1 all.1)
  where
    go : (b : Bool) → eqb h.number n ≡ b → AllByRecursion Q (on_numbered n f hs) → AllByRecursion Q (cond b (f h ∷ hs) (h ∷ on_numbered n f hs))
    go false e rest = (other h e all.0, rest)
    go true e rest = (own h e all.0, all-imp (λ (g : OpenHandle Progress). (h.number + 1 ≤ g.number) × P g) Q (λ g p. other g (ne_eqb g.number n (λ is. let same = eqb-true h.number n e in let le = p.0 in absurd (omega arith))) p.1) hs (all-both _ _ hs (rising-above (λ (h : OpenHandle Progress). h.number) (h.number + 1) high hs r.1) all.1))

-- ---- an event parks only where there was no news

abbrev Still : Content → OpenHandle Progress → Type 0
Still c g = is_some g.parked ≡ true → (g.options.wait ≡ true) × (had_news c g ≡ false)

abbrev AreStill : Content → Content → Type 0
AreStill c d = AllByRecursion (Still c) d.handles

abbrev ParksNone : Move → Type 0
ParksNone (Opens h) = h.parked ≡ None
ParksNone (Parks n (Some size)) = ⊥
ParksNone x = Unit {0}

abbrev ParkNone : List Move → Type 0
ParkNone xs = AllByRecursion ParksNone xs

still-move : (c : Content) (x : Move) (d : Content) → ParksNone x → AreStill c d → AreStill c (apply_seen x d)
still-move c (Creates o) d p s = all-offered (Still c) (creation o) (λ h q. q) d.handles s
still-move c (AppendsRecord e) d p s = all-offered (Still c) e (λ h q. q) d.handles s
still-move c (Opens h) d p s = all-push (Still c) d.handles (reseen (λ h. first_seen h (style h.kind)) h) s (λ is. absurd (let no : is_some h.parked ≡ false = ap is_some p in cc))
still-move c (Closes n) d p s = all-without_first (Still c) (λ h. eqb h.number n) d.handles s
still-move c (CatchesUp n) d p s = all-on_first (Still c) (λ h. eqb h.number n) (reseen caught_up) (λ h q. q) d.handles s
still-move c (Advances n count) d p s = all-on_first (Still c) (λ h. eqb h.number n) (reseen (λ h. left h count h.seen)) (λ h q. q) d.handles s
still-move c (Parks n None) d p s = all-on_first (Still c) (λ h. eqb h.number n) (λ h. record h { parked = None }) (λ h q is. absurd (let no = is in cc)) d.handles s
still-move c (Parks n (Some size)) d p s = absurd p
still-move c (Arms n pulse) d p s = all-on_first (Still c) (λ h. eqb h.number n) (λ h. record h { armed = pulse }) (λ h q. q) d.handles s
still-move c (Attaches conn) d p s = s
still-move c (Leaves conn) d p s = s
still-move c (Queues conn item) d p s = s
still-move c (Takes conn) d p s = s
still-move c (MakesDirectory path) d p s = s
still-move c (RemovesDirectory n) d p s = s

still-after : (c : Content) (xs : List Move) (d : Content) → ParkNone xs → AreStill c d → AreStill c (apply_all_seen xs d)
still-after c [] d p s = s
still-after c (x ∷ xs) d p s = still-after c xs (apply_seen x d) p.1 (still-move c x d p.0 s)

on_target-none : (c : Content) (h : OpenHandle Progress) (kind : Kind) (writer : Option ℕ) → ParkNone (on_target c h kind writer)
on_target-none c h kind writer = all-or ParksNone _ (λ o. (tt, tt)) (object_numbered c h.target)

parting-none : (c : Content) (h : OpenHandle Progress) (k : HandleKind) → ParkNone (parting c h k)
parting-none c h ServerHandle = on_target-none c h _ None
parting-none c h ClientHandle = on_target-none c h _ None
parting-none c h NamesHandle = tt
parting-none c h (ObjectHandle delta) = all-cond ParksNone (h.options.critical && h.writes) _ [] (on_target-none c h Dropped None) tt
parting-none c h (DirectoryHandle delta) = tt

closing-none : (c : Content) (h : OpenHandle Progress) → ParkNone (closing c h)
closing-none c h = (tt, all-append ParksNone _ (parting c h h.kind) (all-cond ParksNone (is_some h.parked) _ [] (tt, tt) tt) (parting-none c h h.kind))

closings-none : (c : Content) (hs : List (OpenHandle Progress)) → ParkNone (closings c hs)
closings-none c [] = tt
closings-none c (h ∷ hs) = all-append ParksNone (closing c h) (closings (apply_all_seen (closing c h) c) hs) (closing-none c h) (closings-none (apply_all_seen (closing c h) c) hs)

writing-none : (c : Content) (h : OpenHandle Progress) (text : WriteText) → ParkNone (writing c h text)
writing-none c h text = all-cond ParksNone (is_empty text.lines) [] _ tt (on_target-none c h (written_kind c h h.kind text) (Some h.number))

preparing-none : (c : Content) (mode : Mode) (spec : OpenSpec) (found : Option LiveObject) → ParkNone (preparing c mode spec found)
preparing-none c mode spec None = all-cond ParksNone spec.all [] _ tt (tt, tt)
preparing-none c mode spec (Some o) = all-cond ParksNone spec.options.server _ _ (tt, (tt, tt)) (all-cond ParksNone (is_some o.object.server) _ _ (tt, tt) (all-cond ParksNone mode.t _ [] (tt, tt) tt))

none-outcome : {X : Type 0} (f : X → Outcome × List Move) → ((x : X) → ParkNone (f x).1) → (o : Option X) → ParkNone (option_map_or f o (Done, [])).1
none-outcome f p None = tt
none-outcome f p (Some x) = p x

none-result : {X : Type 0} (f : X → Outcome × List Move) → ((x : X) → ParkNone (f x).1) → (r : Result X Refusal) → ParkNone (with_result r f).1
none-result f p (Err e) = tt
none-result f p (Ok x) = p x

unlinking-none : (o : Option LiveObject) (d : Option Directory) → ParkNone (unlinking o d)
unlinking-none (Some o) d = (tt, tt)
unlinking-none None (Some d) = (tt, tt)
unlinking-none None None = tt

received-none : (conn : ℕ) (i : Option Item) → ParkNone (received conn i).1
received-none conn None = tt
received-none conn (Some i) = (tt, tt)

-- a read that waits
read-still : (c : Content) (conn handle size : ℕ) → Basis c → AreStill c c → AreStill c (apply_all_seen (option_map_or {U = Outcome × List Move} (λ h. read_effect h size (read_answer c h size)) (own_handle c conn handle) (Done, [])).1 c)
read-still c conn handle size b s = go (own_handle c conn handle) refl
  where
    by : (h : OpenHandle Progress) → own_handle c conn handle ≡ Some h → (a : Answer) → read_answer c h size ≡ a → AreStill c (apply_all_seen (read_effect h size a).1 c)
    by h e (Everything text) f = still-after c (CatchesUp h.number ∷ []) c (tt, tt) s
    by h e (Blocks count text) f = still-after c (Advances h.number count ∷ []) c (tt, tt) s
    by h e (Needs need) f = s
    by h e TargetGone f = s
    by h e Nothing f = s
    by h e Waits f =
        let told = all-find IsTold (λ g. eqb g.number handle && eqb g.connection conn) c.handles h b.told e in
        let idle = waits-idle h h.seen (everything c h) (target_is_dead c h) size told.2 f in
        let own : handle_numbered c h.number ≡ Some h = all-find (λ (g : OpenHandle Progress). handle_numbered c g.number ≡ Some g) (λ g. eqb g.number handle && eqb g.connection conn) c.handles h (found-each (λ (g : OpenHandle Progress). g.number) 0 c.next_handle c.handles b.order.0) e in
        all-numbered (λ g. (g.number ≡ h.number → g ≡ h) × Still c g) (Still c) h.number (λ g. record g { parked = Some size }) (λ g other q. q.1)
        (λ g same q parked. let is : g ≡ h = q.0 (eqb-true g.number h.number same) in
        (ap (λ (g : OpenHandle Progress). g.options.wait) is ∙ idle.0, ap (λ (g : OpenHandle Progress). had_news c g) is ∙ ap (λ f. option_map_or news f false) own ∙ idle.1))
        0 c.next_handle c.handles b.order.0
        (all-both _ _ c.handles (only-one (λ (g : OpenHandle Progress). g.number) (λ g. eqb g.number handle && eqb g.connection conn) 0 c.next_handle c.handles b.order.0 h e) s)

    go : (o : Option (OpenHandle Progress)) → own_handle c conn handle ≡ o → AreStill c (apply_all_seen (option_map_or {U = Outcome × List Move} (λ h. read_effect h size (read_answer c h size)) o (Done, [])).1 c)
    go None e = s
    go (Some h) e = by h e (read_answer c h size) refl

effect-still : (c : Content) (conn : ℕ) (request : Request) → Basis c → AreStill c c → AreStill c (apply_all_seen (effect c conn request).1 c)
unfolding effect
effect-still c conn Attach b s = s
effect-still c conn Detach b s = still-after c (closings c (handles_of c conn) ++ Leaves conn ∷ []) c (all-append ParksNone (closings c (handles_of c conn)) (Leaves conn ∷ []) (closings-none c (handles_of c conn)) (tt, tt)) s
effect-still c conn (OpenRequest mode text) b s = still-after c _ c (none-result _ (λ spec. all-append ParksNone (preparing c mode spec (found_object c spec)) (Opens (new_handle c conn mode spec (found_object c spec)) ∷ []) (preparing-none c mode spec (found_object c spec)) (refl, tt)) (open_text text)) s
effect-still c conn (Read handle size) b s = read-still c conn handle size b s
effect-still c conn (Write handle bytes) b s = still-after c _ c (none-outcome _ (λ h. none-result _ (λ text. writing-none c h text) (write_text bytes)) (own_handle c conn handle)) s
effect-still c conn (Close handle) b s = still-after c _ c (none-outcome _ (λ h. closing-none c h) (own_handle c conn handle)) s
effect-still c conn (Unlink path) b s = still-after c _ c (none-outcome _ (λ names. unlinking-none (object_at c names) (directory_at c names)) (path_text path)) s
effect-still c conn (Mkdir path) b s = still-after c _ c (none-outcome _ (λ names. (tt, tt)) (path_text path)) s
effect-still c conn (ListRequest path) b s = still-after c _ c (none-outcome _ (λ names. tt) (path_text path)) s
effect-still c conn (Notify handle action code value) b s = still-after c _ c (none-outcome _ (λ h. (tt, tt)) (own_handle c conn handle)) s
effect-still c conn Receive b s = still-after c _ c (received-none conn (first_of (queue_of c conn))) s

-- ---- what follows answers each parked read that has news

abbrev IsLeft : List (OpenHandle Progress) → OpenHandle Progress → Type 0
IsLeft hs g = is_some (find (λ (h : OpenHandle Progress). eqb h.number g.number) hs) ≡ true

-- it waits, and if it has news it is still to be settled
abbrev Rests : List (OpenHandle Progress) → OpenHandle Progress → Type 0
Rests hs g = is_some g.parked ≡ true → (g.options.wait ≡ true) × (news g ≡ true → IsLeft hs g)

-- the same, but for the handle h that is being settled
abbrev RestsBut : OpenHandle Progress → List (OpenHandle Progress) → OpenHandle Progress → Type 0
RestsBut h hs g = (eqb g.number h.number ≡ true → g.parked ≡ h.parked) × (eqb g.number h.number ≡ false → Rests hs g)

sym-false : (a b : ℕ) → eqb a b ≡ false → eqb b a ≡ false
sym-false a b e = ne_eqb b a (λ is. let yes = eq-eqb a b (sym is) in let no : false ≡ true = sym e ∙ yes in cc)

left-behind : (h : OpenHandle Progress) (hs : List (OpenHandle Progress)) (g : OpenHandle Progress) → eqb g.number h.number ≡ false → IsLeft (h ∷ hs) g → IsLeft hs g
left-behind h hs g other left = subst (λ b. is_some (cond b (Some h) (find (λ (h : OpenHandle Progress). eqb h.number g.number) hs)) ≡ true) (sym-false g.number h.number other) left

module _ (c d : Content) (h : OpenHandle Progress) (hs : List (OpenHandle Progress)) where
  -- a move that keeps it
  abbrev IsMild : Move → Type 0
  IsMild x = (y : Content) → RiseBetween 0 (map (λ (g : OpenHandle Progress). g.number) y.handles) y.next_handle → AllByRecursion (RestsBut h hs) y.handles
      → (RiseBetween 0 (map (λ (g : OpenHandle Progress). g.number) (apply_seen x y).handles) (apply_seen x y).next_handle) × AllByRecursion (RestsBut h hs) (apply_seen x y).handles

  mild-on : (f : OpenHandle Progress → OpenHandle Progress) → ((g : OpenHandle Progress) → (f g).number ≡ g.number) → ((g : OpenHandle Progress) → (f g).parked ≡ g.parked) → (y : Content) → RiseBetween 0 (map (λ (g : OpenHandle Progress). g.number) y.handles) y.next_handle → AllByRecursion (RestsBut h hs) y.handles
      → (RiseBetween 0 (map (λ (g : OpenHandle Progress). g.number) (on_numbered h.number f y.handles)) y.next_handle) × AllByRecursion (RestsBut h hs) (on_numbered h.number f y.handles)
  mild-on f number parked y r all = (
    subst (λ ns. RiseBetween 0 ns y.next_handle) (sym (same-on_first (λ (g : OpenHandle Progress). g.number) (λ g. eqb g.number h.number) f number y.handles)) r,
    all-numbered (RestsBut h hs) (RestsBut h hs) h.number f (λ g other q. q) (λ g own q. ((λ same. parked g ∙ q.0 own), (λ no. absurd (let yes : eqb (f g).number h.number ≡ true = ap (λ n. eqb n h.number) (number g) ∙ own in let bad : false ≡ true = sym no ∙ yes in cc)))) 0 y.next_handle y.handles r all,
  )

  mild-after : (xs : List Move) → AllByRecursion IsMild xs → (y : Content) → RiseBetween 0 (map (λ (g : OpenHandle Progress). g.number) y.handles) y.next_handle → AllByRecursion (RestsBut h hs) y.handles
      → (RiseBetween 0 (map (λ (g : OpenHandle Progress). g.number) (apply_all_seen xs y).handles) (apply_all_seen xs y).next_handle) × AllByRecursion (RestsBut h hs) (apply_all_seen xs y).handles
  mild-after [] mild y r all = (r, all)
  mild-after (x ∷ xs) mild y r all = let one = mild.0 y r all in mild-after xs mild.1 (apply_seen x y) one.0 one.1

  mild-arms : (pulse : Option (ℕ × ℕ)) → IsMild (Arms h.number pulse)
  mild-arms pulse y r all = mild-on (λ g. record g { armed = pulse }) (λ g. refl) (λ g. refl) y r all

  mild-catches : IsMild (CatchesUp h.number)
  mild-catches y r all = mild-on (reseen caught_up) (λ g. refl) (λ g. refl) y r all

  mild-passes : (count : ℕ) → IsMild (Advances h.number count)
  mild-passes count y r all = mild-on (reseen (λ g. left g count g.seen)) (λ g. refl) (λ g. refl) y r all

  fired-mild : AllByRecursion IsMild (fired h)
  fired-mild = all-or IsMild _ (λ pulse. (mild-arms None, ((λ y r all. (r, all)), tt))) h.armed

  -- its read ends
  ends : (y : Content) → RiseBetween 0 (map (λ (g : OpenHandle Progress). g.number) y.handles) y.next_handle → AllByRecursion (RestsBut h hs) y.handles → AllByRecursion (Rests hs) (apply_seen (Parks h.number None) y).handles
  ends y r all = all-numbered (RestsBut h hs) (Rests hs) h.number (λ g. record g { parked = None }) (λ g other q. q.1 other) (λ g own q is. absurd (let no = is in cc)) 0 y.next_handle y.handles r all

  replied : (a : Answer) → IsGiven a → (y : Content) → RiseBetween 0 (map (λ (g : OpenHandle Progress). g.number) y.handles) y.next_handle → AllByRecursion (RestsBut h hs) y.handles → AllByRecursion (Rests hs) (apply_all_seen (late_reply h a) y).handles
  replied (Everything text) given y r all = let one = mild-catches y r all in ends (apply_seen (CatchesUp h.number) y) one.0 one.1
  replied (Blocks count text) given y r all = let one = mild-passes count y r all in ends (apply_seen (Advances h.number count) y) one.0 one.1
  replied (Needs need) given y r all = ends y r all
  replied TargetGone given y r all = absurd given
  replied Waits given y r all = absurd given
  replied Nothing given y r all = absurd given

  settled : (y : Content) → RiseBetween 0 (map (λ (g : OpenHandle Progress). g.number) y.handles) y.next_handle → AllByRecursion (Rests (h ∷ hs)) y.handles → handle_numbered y h.number ≡ Some h → Still c h → HasFirst h h.seen → AllByRecursion (Rests hs) (apply_all_seen (settling_handle c d h) y).handles
  settled y r all found still first = go (not (had_news c h) && news h) refl
    where
      only : AllByRecursion (λ (g : OpenHandle Progress). g.number ≡ h.number → g ≡ h) y.handles
      only = only-one (λ (g : OpenHandle Progress). g.number) (λ g. eqb g.number h.number) 0 y.next_handle y.handles r h found

      both : AllByRecursion (λ (g : OpenHandle Progress). (g.number ≡ h.number → g ≡ h) × Rests (h ∷ hs) g) y.handles
      both = all-both _ _ y.handles only all

      quiet : (not (had_news c h) && news h) ≡ false → (g : OpenHandle Progress) → (g.number ≡ h.number → g ≡ h) × Rests (h ∷ hs) g → Rests hs g
      quiet none g q parked = ((q.1 parked).0, (λ has. by (eqb g.number h.number) refl has))
        where
          by : (b : Bool) → eqb g.number h.number ≡ b → news g ≡ true → IsLeft hs g
          by false other has = left-behind h hs g other ((q.1 parked).1 has)
          by true own has =
              let is : g ≡ h = q.0 (eqb-true g.number h.number own) in
              let had : had_news c h ≡ false = (still (ap (λ (g : OpenHandle Progress). is_some g.parked) (sym is) ∙ parked)).1 in
              let now : news h ≡ true = ap news (sym is) ∙ has in
              absurd (let yes : (not (had_news c h) && news h) ≡ true = (λ i. not (had i) && now i) in let bad : false ≡ true = sym none ∙ yes in cc)

      but : AllByRecursion (RestsBut h hs) y.handles
      but = all-imp (λ (g : OpenHandle Progress). (g.number ≡ h.number → g ≡ h) × Rests (h ∷ hs) g) (RestsBut h hs)
          (λ g q. ((λ own. ap (λ (g : OpenHandle Progress). g.parked) (q.0 (eqb-true g.number h.number own))), (λ other parked. ((q.1 parked).0, (λ has. left-behind h hs g other ((q.1 parked).1 has)))))) y.handles both

      has-news : (a b : Bool) → (not a && b) ≡ true → b ≡ true
      has-news true b e = absurd (let no = e in cc)
      has-news false b e = e

      awake : news h ≡ true → AllByRecursion (Rests hs) (apply_all_seen (fired h ++ late_replies d h) y).handles
      awake now =
          let one = mild-after (fired h) fired-mild y r but in
          subst (λ (z : Content). AllByRecursion (Rests hs) z.handles) (sym (moves-append (fired h) (late_replies d h) y)) (reply h.parked refl one.0 one.1)
        where
          z : Content
          z = apply_all_seen (fired h) y

          reply : (p : Option ℕ) → h.parked ≡ p → RiseBetween 0 (map (λ (g : OpenHandle Progress). g.number) z.handles) z.next_handle → AllByRecursion (RestsBut h hs) z.handles → AllByRecursion (Rests hs) (apply_all_seen (option_map_or (λ size. late_reply h (read_answer d h size)) p []) z).handles
          reply None e r2 all2 = all-imp (RestsBut h hs) (Rests hs) (λ g q parked. by g q (eqb g.number h.number) refl parked) z.handles all2
            where
              by : (g : OpenHandle Progress) → RestsBut h hs g → (b : Bool) → eqb g.number h.number ≡ b → is_some g.parked ≡ true → (g.options.wait ≡ true) × (news g ≡ true → IsLeft hs g)
              by g q false other parked = q.1 other parked
              by g q true own parked = absurd (let none : is_some g.parked ≡ false = ap is_some (q.0 own ∙ e) in let bad : false ≡ true = sym none ∙ parked in cc)
          reply (Some size) e r2 all2 = replied (read_answer d h size) (given-news h h.seen (everything d h) (target_is_dead d h) size first now) z r2 all2

      go : (b : Bool) → (not (had_news c h) && news h) ≡ b → AllByRecursion (Rests hs) (apply_all_seen (cond b (fired h ++ late_replies d h) []) y).handles
      go false none = all-imp (λ (g : OpenHandle Progress). (g.number ≡ h.number → g ≡ h) × Rests (h ∷ hs) g) (Rests hs) (quiet none) y.handles both
      go true some = awake (has-news (had_news c h) (news h) some)

-- ---- others stand as they were

find-far : (n k : ℕ) (f : OpenHandle Progress → OpenHandle Progress) → ((g : OpenHandle Progress) → (f g).number ≡ g.number) → (hs : List (OpenHandle Progress)) (g : OpenHandle Progress) → find (λ (h : OpenHandle Progress). eqb h.number k) hs ≡ Some g → eqb k n ≡ false → find (λ (h : OpenHandle Progress). eqb h.number k) (on_numbered n f hs) ≡ Some g
find-far n k f number [] g e far = e
find-far n k f number (h ∷ hs) g e far = go (eqb h.number n) refl (eqb h.number k) refl e (find-far n k f number hs g)
  where
    go : (b : Bool) → eqb h.number n ≡ b → (a : Bool) → eqb h.number k ≡ a → cond a (Some h) (find (λ (h : OpenHandle Progress). eqb h.number k) hs) ≡ Some g → (find (λ (h : OpenHandle Progress). eqb h.number k) hs ≡ Some g → eqb k n ≡ false → find (λ (h : OpenHandle Progress). eqb h.number k) (on_numbered n f hs) ≡ Some g)
        → find (λ (h : OpenHandle Progress). eqb h.number k) (cond b (f h ∷ hs) (h ∷ on_numbered n f hs)) ≡ Some g
    go true own true same e rest = absurd (let bad : eqb k n ≡ true = ap (λ m. eqb m n) (sym (eqb-true h.number k same)) ∙ own in let no : false ≡ true = sym far ∙ bad in cc)
    go true own false same e rest = ap (λ a. cond a (Some (f h)) (find (λ (h : OpenHandle Progress). eqb h.number k) hs)) (ap (λ m. eqb m k) (number h) ∙ same) ∙ e
    go false own true same e rest = ap (λ a. cond a (Some h) (find (λ (h : OpenHandle Progress). eqb h.number k) (on_numbered n f hs))) same ∙ e
    go false own false same e rest = ap (λ a. cond a (Some h) (find (λ (h : OpenHandle Progress). eqb h.number k) (on_numbered n f hs))) same ∙ rest e far

abbrev IsFar : ℕ → Move → Type 0
IsFar n x = (y : Content) (k : ℕ) (g : OpenHandle Progress) → eqb k n ≡ false → handle_numbered y k ≡ Some g → handle_numbered (apply_seen x y) k ≡ Some g

far-after : (n : ℕ) (xs : List Move) → AllByRecursion (IsFar n) xs → (y : Content) (k : ℕ) (g : OpenHandle Progress) → eqb k n ≡ false → handle_numbered y k ≡ Some g → handle_numbered (apply_all_seen xs y) k ≡ Some g
far-after n [] far y k g other e = e
far-after n (x ∷ xs) far y k g other e = far-after n xs far.1 (apply_seen x y) k g other (far.0 y k g other e)

far-arms : (n : ℕ) (pulse : Option (ℕ × ℕ)) → IsFar n (Arms n pulse)
far-arms n pulse y k g other e = find-far n k (λ h. record h { armed = pulse }) (λ h. refl) y.handles g e other

far-parks : (n : ℕ) (size : Option ℕ) → IsFar n (Parks n size)
far-parks n size y k g other e = find-far n k (λ h. record h { parked = size }) (λ h. refl) y.handles g e other

far-catches : (n : ℕ) → IsFar n (CatchesUp n)
far-catches n y k g other e = find-far n k (reseen caught_up) (λ h. refl) y.handles g e other

far-passes : (n count : ℕ) → IsFar n (Advances n count)
far-passes n count y k g other e = find-far n k (reseen (λ h. left h count h.seen)) (λ h. refl) y.handles g e other

far-reply : (h : OpenHandle Progress) (a : Answer) → AllByRecursion (IsFar h.number) (late_reply h a)
far-reply h (Everything text) = (far-catches h.number, (far-parks h.number None, ((λ y k g other e. e), tt)))
far-reply h (Blocks count text) = (far-passes h.number count, (far-parks h.number None, ((λ y k g other e. e), tt)))
far-reply h (Needs need) = (far-parks h.number None, ((λ y k g other e. e), tt))
far-reply h TargetGone = tt
far-reply h Waits = tt
far-reply h Nothing = tt

far-settling : (c d : Content) (h : OpenHandle Progress) → AllByRecursion (IsFar h.number) (settling_handle c d h)
far-settling c d h = all-cond (IsFar h.number) (not (had_news c h) && news h) (fired h ++ late_replies d h) []
    (all-append (IsFar h.number) (fired h) (late_replies d h) (all-or (IsFar h.number) _ (λ pulse. (far-arms h.number None, ((λ y k g other e. e), tt))) h.armed) (all-or (IsFar h.number) _ (λ size. far-reply h (read_answer d h size)) h.parked)) tt

safe-settling : (c d : Content) (h : OpenHandle Progress) → AreSafe (settling_handle c d h)
safe-settling c d h = all-cond IsSafe (not (had_news c h) && news h) (fired h ++ late_replies d h) []
    (all-append IsSafe (fired h) (late_replies d h) (all-or IsSafe _ (λ pulse. ((λ c. tt), ((λ c. tt), tt))) h.armed) (all-or IsSafe _ (λ size. late_reply-safe h (read_answer d h size)) h.parked)) tt

settled-all : (c d : Content) (hs : List (OpenHandle Progress)) (low high : ℕ) (y : Content) → Basis y → RiseBetween low (map (λ (h : OpenHandle Progress). h.number) hs) high → AllByRecursion (Rests hs) y.handles
    → AllByRecursion (λ (h : OpenHandle Progress). handle_numbered y h.number ≡ Some h) hs → AllByRecursion (λ (h : OpenHandle Progress). Still c h × HasFirst h h.seen) hs → AllByRecursion (Rests []) (apply_all_seen (flat_map (settling_handle c d) hs) y).handles
settled-all c d [] low high y b r all found ready = all
settled-all c d (h ∷ hs) low high y b r all found ready =
    let one = settling_handle c d h in
    let next = apply_all_seen one y in
    subst (λ (z : Content). AllByRecursion (Rests []) z.handles) (sym (moves-append one (flat_map (settling_handle c d) hs) y))
    (settled-all c d hs (h.number + 1) high next (basis-after one y b (safe-fit one y (safe-settling c d h))) r.1 (settled c d h hs y b.order.0 all found.0 ready.0.0 ready.0.1)
    (all-imp (λ (g : OpenHandle Progress). (h.number + 1 ≤ g.number) × (handle_numbered y g.number ≡ Some g)) (λ (g : OpenHandle Progress). handle_numbered next g.number ≡ Some g)
    (λ g p. far-after h.number one (far-settling c d h) y g.number g (ne_eqb g.number h.number (λ is. let le = p.0 in absurd (omega arith))) p.1) hs (all-both _ _ hs (rising-above (λ (h : OpenHandle Progress). h.number) (h.number + 1) high hs r.1) found.1))
    ready.1)

-- ---- each step

abbrev pub IsIdle : OpenHandle Progress → Type 0
IsIdle h = is_some h.parked ≡ true → (h.options.wait ≡ true) × (news h ≡ false)

abbrev pub AreIdle : Content → Type 0
AreIdle c = AllByRecursion IsIdle c.handles

idle-still : (c : Content) → Order c → AreIdle c → AreStill c c
idle-still c r idle = all-imp (λ (h : OpenHandle Progress). (handle_numbered c h.number ≡ Some h) × IsIdle h) (Still c) (λ h q parked. ((q.1 parked).0, ap (λ f. option_map_or news f false) q.0 ∙ (q.1 parked).1)) c.handles
    (all-both _ _ c.handles (found-each (λ (h : OpenHandle Progress). h.number) 0 c.next_handle c.handles r.0) idle)

rests-idle : (g : OpenHandle Progress) → Rests [] g → IsIdle g
rests-idle g rests parked = ((rests parked).0, by (news g) refl)
  where
    by : (b : Bool) → news g ≡ b → b ≡ false
    by false e = refl
    by true e = absurd (let bad = (rests parked).1 e in cc)

settling-idle : (c d : Content) → Basis d → AreStill c d → AreIdle (apply_all_seen (settling c d) d)
unfolding settling
settling-idle c d b still = all-imp (Rests []) IsIdle rests-idle (apply_all_seen (flat_map (settling_handle c d) d.handles) d).handles
    (settled-all c d d.handles 0 d.next_handle d b b.order.0
    (all-imp (λ (h : OpenHandle Progress). (handle_numbered d h.number ≡ Some h) × Still c h) (Rests d.handles) (λ h q parked. ((q.1 parked).0, (λ has. ap is_some q.0))) d.handles (all-both _ _ d.handles found still))
    found
    (all-imp (λ (h : OpenHandle Progress). Still c h × IsTold h) (λ (h : OpenHandle Progress). Still c h × HasFirst h h.seen) (λ h q. (q.0, q.1.2)) d.handles (all-both _ _ d.handles still b.told)))
  where
    found : AllByRecursion (λ (h : OpenHandle Progress). handle_numbered d h.number ≡ Some h) d.handles
    found = found-each (λ (h : OpenHandle Progress). h.number) 0 d.next_handle d.handles b.order.0

pub step-idle : (c : Content) (e : Event) → Basis c → AreIdle c → AreIdle (step_seen c e).1
unfolding step_seen plan
step-idle c e b idle = by (first_refusal (all_checks_of c e)) refl
  where
    by : (r : Option Refusal) → first_refusal (all_checks_of c e) ≡ r → AreIdle (apply_all_seen (decided c (effect c e.conn e.request) r).1 c)
    by (Some r) is = idle
    by None is =
        let done = (effect c e.conn e.request).1 in
        let d = apply_all_seen done c in
        let passes = passes-both (checks c e.conn e.request) (Refuse (passes_last_number d) Refusal.TableFull ∷ []) is in
        subst AreIdle (sym (moves-append done (settling c d) c)) (settling-idle c d (basis-after done c b (effect-fit c e.conn e.request b passes.0)) (effect-still c e.conn e.request b (idle-still c b.order idle)))
