-- How each handle stands after what follows an event.
use Rattle.std.proofs.Common.{◌≡◌, ◌≤◌, ℕ, ◌+◌, Bool, true, false, cond, not, ◌&&◌, ◌||◌, eqb, eqb-true, eq-eqb, ne_eqb, List, [], ◌∷◌, ◌++◌, length, map, Option, Some, None, refl, sym, ap, subst, ◌∙◌, arith}
use Rattle.std.specs.Prelude.{find, is_none, nat_le}
use Rattle.std.specs.Option.{option_map_or}
use Rattle.std.specs.List.{AllByRecursion, flat_map}
use Rattle.pps_types.specs.declared.event.Event.{Event}
use Rattle.pps_types.specs.declared.outcome.Item.TheVariants.{Pulse}
use Rattle.pps_types.specs.declared.refusal.Refusal.TheVariants.{TableFull}
use Rattle.pps_types.specs.Bytes.{is_empty}
use Rattle.pps_types.specs.History.{Entry}
use Rattle.pps_types.specs.Reading.{OpenHandle, reseen, style, is_full_style, block, owed_answer, blocks_answer, fitting, whole_answer, Answer, Everything, Blocks, Needs, TargetGone, Waits, Nothing}
use Rattle.pps_types.specs.Rests.{Progress}
use Rattle.pps_types.specs.Content.{Content}
use Rattle.pps_types.specs.Checks.{Refuse, first_refusal, checks}
use Rattle.pps_types.specs.Plan.{Move, CatchesUp, Advances, Parks, Arms, Queues, on_numbered, apply_all_seen, all_checks_of, passes_last_number, effect, fired, late_reply}
use Rattle.pps_types.specs.WellFormed.{RiseBetween}
use Rattle.pps_types.specs.Machine.{Machine, IsMachine, content_of, passed, step, apply, apply_all}
use Rattle.pps_types.specs.Owed.{has_news, owed, is_past_limit, answer_with, answer_of}
use Rattle.service_laws.specs.ReadLaws.{gets_news, follows_for, IsAnsweredAs, IsAwokenAs, IsSettledAs, Settles, SettlingIsTold}
use Rattle.service_laws.proofs.Finds.{all-imp}
use Rattle.service_laws.proofs.Settlings.{all-append, all-or, all-cond}
use Rattle.service_laws.proofs.Rising.{rising-above}
use Rattle.service_laws.proofs.Passes.{passes-both, effect-fit}
use Rattle.service_laws.proofs.Holders.{basis-after}
use Rattle.service_laws.proofs.WellSteps.{basis-in}
use Rattle.service_laws.proofs.Cursors.{passed-past}
use Rattle.service_laws.proofs.ReadMoves.{blocks-owed, on-found, find-placed, rising-handles}
use Rattle.service_laws.proofs.PlainSettling.{settling-same, effect-shown, moves-then, steps-plain}

-- ---- with news there is an answer

abbrev Gives : Answer → Type 0
Gives (Everything text) = Unit {0}
Gives (Blocks n text) = Unit {0}
Gives (Needs need) = Unit {0}
Gives a = ⊥

gives-whole : (text : List ℕ) (max : ℕ) → Gives (whole_answer text max)
gives-whole text max = elim (nat_le (length text) max) as (λ b. Gives (cond b (Everything text) (Needs (length text)))) [ true ↦ tt | false ↦ tt ]

gives-owed : (wait : Bool) (b : List ℕ) (bs : List (List ℕ)) (dead : Bool) (max : ℕ) → Gives (owed_answer wait (b ∷ bs) dead max)
gives-owed wait b bs dead max = elim (nat_le (length b) max) as (λ f. Gives (cond f (blocks_answer (fitting max (b ∷ bs))) (Needs (length b)))) [ true ↦ tt | false ↦ tt ]

gives-news : {S : Type 0} (h : OpenHandle S) (H : List Entry) (cursor : Option ℕ) (everything : List ℕ) (dead : Bool) (max : ℕ) → has_news h H cursor ≡ true → Gives (answer_with h H cursor everything dead max)
gives-news h H cursor everything dead max e = by h.reads (is_none cursor) (owed h H cursor) (is_past_limit h (owed h H cursor)) (is_full_style (style h.kind)) e
  where
    by : (reads none : Bool) (debt : List Entry) (past full : Bool) → (reads && (none || not (is_empty debt))) ≡ true
        → Gives (cond (none || past || (full && not (is_empty debt))) (whole_answer everything max) (owed_answer h.options.wait (map (block h) debt) dead max))
    by false none debt past full e = absurd (let no = e in cc)
    by true true debt past full e = gives-whole everything max
    by true false debt true full e = gives-whole everything max
    by true false [] false full e = absurd (let no = e in cc)
    by true false (x ∷ xs) false true e = gives-whole everything max
    by true false (x ∷ xs) false false e = gives-owed h.options.wait (block h x) (map (block h) xs) dead max

-- ---- moves of one handle

abbrev handle_of : Machine → ℕ → Option (OpenHandle (Option ℕ))
handle_of m number = find (λ g. eqb g.number number) m.handles

-- others' handles stay, and the records
abbrev IsOwn : ℕ → Move → Type 0
IsOwn n x = (y : Machine) → ((k : ℕ) → eqb k n ≡ false → handle_of (apply x y) k ≡ handle_of y k) × ((apply x y).history ≡ y.history)

find-far : (n k : ℕ) (f : OpenHandle (Option ℕ) → OpenHandle (Option ℕ)) → ((g : OpenHandle (Option ℕ)) → (f g).number ≡ g.number) → eqb k n ≡ false → (hs : List (OpenHandle (Option ℕ))) → find (λ g. eqb g.number k) (on_numbered n f hs) ≡ find (λ g. eqb g.number k) hs
find-far n k f number far [] = refl
find-far n k f number far (h ∷ hs) = go (eqb h.number n) refl (find-far n k f number far hs)
  where
    go : (b : Bool) → eqb h.number n ≡ b → find (λ g. eqb g.number k) (on_numbered n f hs) ≡ find (λ g. eqb g.number k) hs → find (λ g. eqb g.number k) (cond b (f h ∷ hs) (h ∷ on_numbered n f hs)) ≡ cond (eqb h.number k) (Some h) (find (λ g. eqb g.number k) hs)
    go true own rec =
        let other : eqb h.number k ≡ false = ne_eqb h.number k (λ is. let same : eqb k n ≡ true = ap (λ m. eqb m n) (sym is) ∙ own in let bad : false ≡ true = sym far ∙ same in absurd cc) in
        ap (λ b. cond b (Some (f h)) (find (λ g. eqb g.number k) hs)) (ap (λ m. eqb m k) (number h) ∙ other)
        ∙ sym (ap (λ b. cond b (Some h) (find (λ g. eqb g.number k) hs)) other)
    go false own rec = ap (λ o. cond (eqb h.number k) (Some h) o) rec

own-arms : (n : ℕ) (pulse : Option (ℕ × ℕ)) → IsOwn n (Arms n pulse)
own-arms n pulse y = ((λ k far. find-far n k (λ h. record h { armed = pulse }) (λ g. refl) far y.handles), refl)

own-parks : (n : ℕ) (size : Option ℕ) → IsOwn n (Parks n size)
own-parks n size y = ((λ k far. find-far n k (λ h. record h { parked = size }) (λ g. refl) far y.handles), refl)

own-catches : (n : ℕ) → IsOwn n (CatchesUp n)
own-catches n y = ((λ k far. find-far n k (reseen (λ h. Some (length y.history))) (λ g. refl) far y.handles), refl)

own-passes : (n count : ℕ) → IsOwn n (Advances n count)
own-passes n count y = ((λ k far. find-far n k (reseen (λ h. passed h y.history count h.seen)) (λ g. refl) far y.handles), refl)

own-answer : (h : OpenHandle (Option ℕ)) (a : Answer) → AllByRecursion (IsOwn h.number) (late_reply h a)
own-answer h (Everything text) = (own-catches h.number, (own-parks h.number None, ((λ y. ((λ k far. refl), refl)), tt)))
own-answer h (Blocks n text) = (own-passes h.number n, (own-parks h.number None, ((λ y. ((λ k far. refl), refl)), tt)))
own-answer h (Needs need) = (own-parks h.number None, ((λ y. ((λ k far. refl), refl)), tt))
own-answer h TargetGone = tt
own-answer h Waits = tt
own-answer h Nothing = tt

own-pulse : (h : OpenHandle (Option ℕ)) → AllByRecursion (IsOwn h.number) (fired h)
own-pulse h = all-or (IsOwn h.number) _ (λ pulse. (own-arms h.number None, ((λ y. ((λ k far. refl), refl)), tt))) h.armed

own-follows : (before now : Machine) (h : OpenHandle (Option ℕ)) → AllByRecursion (IsOwn h.number) (follows_for before now h)
own-follows before now h = all-cond (IsOwn h.number) (gets_news before now h) (fired h ++ option_map_or (λ size. late_reply h (answer_of now h size)) h.parked []) []
    (all-append (IsOwn h.number) (fired h) (option_map_or (λ size. late_reply h (answer_of now h size)) h.parked [])
    (own-pulse h) (all-or (IsOwn h.number) _ (λ size. own-answer h (answer_of now h size)) h.parked)) tt

own-all : (n : ℕ) (xs : List Move) → AllByRecursion (IsOwn n) xs → (y : Machine) → ((k : ℕ) → eqb k n ≡ false → handle_of (apply_all xs y) k ≡ handle_of y k) × ((apply_all xs y).history ≡ y.history)
own-all n [] own y = ((λ k far. refl), refl)
own-all n (x ∷ xs) own y =
    let one = own.0 y in
    let rest = own-all n xs own.1 (apply x y) in
    ((λ k far. rest.0 k far ∙ one.0 k far), rest.1 ∙ one.1)

-- ---- the handle itself

find-own : (f : OpenHandle (Option ℕ) → OpenHandle (Option ℕ)) → ((g : OpenHandle (Option ℕ)) → (f g).number ≡ g.number) → (n : ℕ) (hs : List (OpenHandle (Option ℕ))) (h : OpenHandle (Option ℕ)) → find (λ g. eqb g.number n) hs ≡ Some h → eqb h.number n ≡ true → find (λ g. eqb g.number n) (on_numbered n f hs) ≡ Some (f h)
find-own f number n hs h e own =
    ap (find (λ g. eqb g.number n)) (on-found (λ g. eqb g.number n) f hs h e)
    ∙ find-placed (λ g. eqb g.number n) (λ g. eqb g.number n) (f h) (λ z other. other) (ap (λ k. eqb k n) (number h) ∙ own) hs h e

fires : (h : OpenHandle (Option ℕ)) (y : Machine) → handle_of y h.number ≡ Some h → handle_of (apply_all (fired h) y) h.number ≡ Some (record h { armed = None })
fires h y e = by h.armed refl
  where
    by : (o : Option (ℕ × ℕ)) → h.armed ≡ o → handle_of (apply_all (option_map_or (λ pulse. Arms h.number None ∷ Queues h.connection (Pulse pulse.0 pulse.1) ∷ []) o []) y) h.number ≡ Some (record h { armed = None })
    by None is = e ∙ ap (λ o. Some (record h { armed = o })) is
    by (Some pulse) is = find-own (λ g. record g { armed = None }) (λ g. refl) h.number y.handles h e (eq-eqb h.number h.number refl)

-- its parked read is answered
answered : (now : Machine) (h : OpenHandle (Option ℕ)) (size : ℕ) (y : Machine) → handle_of y h.number ≡ Some (record h { armed = None }) → y.history ≡ now.history → (a : Answer) → answer_of now h size ≡ a → Gives a
    → (after : OpenHandle (Option ℕ)) × (handle_of (apply_all (late_reply h a) y) h.number ≡ Some after) × IsAnsweredAs now h a after
answered now h size y e same (Everything text) is gives =
    let own = eq-eqb h.number h.number refl in
    let one = find-own (reseen (λ g. Some (length y.history))) (λ g. refl) h.number y.handles (record h { armed = None }) e own in (
      record h { seen = Some (length now.history); parked = None; armed = None },
      find-own (λ g. record g { parked = None }) (λ g. refl) h.number (apply (CatchesUp h.number) y).handles (record h { seen = Some (length y.history); armed = None }) one own
          ∙ ap (λ H. Some (record h { seen = Some (length H); parked = None; armed = None })) same,
      refl,
    )
answered now h size y e same (Blocks n text) is gives =
    let own = eq-eqb h.number h.number refl in
    let one = find-own (reseen (λ g. passed g y.history n g.seen)) (λ g. refl) h.number y.handles (record h { armed = None }) e own in
    let plain = blocks-owed h now.history h.seen _ _ size n text is in
    let p = passed-past h now.history n h.seen plain.0 plain.1 plain.2 in (
      record h { seen = passed h now.history n h.seen; parked = None; armed = None },
      find-own (λ g. record g { parked = None }) (λ g. refl) h.number (apply (Advances h.number n) y).handles (record h { seen = passed h y.history n h.seen; armed = None }) one own
          ∙ ap (λ H. Some (record h { seen = passed h H n h.seen; parked = None; armed = None })) same,
      (p.0, p.1, ap (λ s. record h { seen = s; parked = None; armed = None }) p.2),
    )
answered now h size y e same (Needs need) is gives = (
  record h { parked = None; armed = None },
  find-own (λ g. record g { parked = None }) (λ g. refl) h.number y.handles (record h { armed = None }) e (eq-eqb h.number h.number refl),
  refl,
)
answered now h size y e same TargetGone is gives = absurd gives
answered now h size y e same Waits is gives = absurd gives
answered now h size y e same Nothing is gives = absurd gives

awoken : (now : Machine) (h : OpenHandle (Option ℕ)) (y : Machine) → has_news h now.history h.seen ≡ true → handle_of y h.number ≡ Some h → y.history ≡ now.history
    → (after : OpenHandle (Option ℕ)) × (handle_of (apply_all (fired h ++ option_map_or (λ size. late_reply h (answer_of now h size)) h.parked []) y) h.number ≡ Some after) × IsAwokenAs now h h.parked after
awoken now h y news e same =
    let late = option_map_or (λ size. late_reply h (answer_of now h size)) h.parked [] in
    subst (λ z. (after : OpenHandle (Option ℕ)) × (handle_of z h.number ≡ Some after) × IsAwokenAs now h h.parked after) (sym (moves-then (fired h) late y))
    (by h.parked (apply_all (fired h) y) (fires h y e) ((own-all h.number (fired h) (own-pulse h) y).1 ∙ same))
  where
    by : (o : Option ℕ) (z : Machine) → handle_of z h.number ≡ Some (record h { armed = None }) → z.history ≡ now.history
        → (after : OpenHandle (Option ℕ)) × (handle_of (apply_all (option_map_or (λ size. late_reply h (answer_of now h size)) o []) z) h.number ≡ Some after) × IsAwokenAs now h o after
    by None z e same = (record h { armed = None }, e, refl)
    by (Some size) z e same = answered now h size z e same (answer_of now h size) refl (gives-news h now.history h.seen _ _ size news)

settles-own : (before now : Machine) (h : OpenHandle (Option ℕ)) (y : Machine) → handle_of y h.number ≡ Some h → y.history ≡ now.history
    → (after : OpenHandle (Option ℕ)) × (handle_of (apply_all (follows_for before now h) y) h.number ≡ Some after) × IsSettledAs now h (gets_news before now h) after
settles-own before now h y e same = by (gets_news before now h) refl
  where
    second : (a b : Bool) → (a && b) ≡ true → b ≡ true
    second true b e = e
    second false b e = absurd (let no = e in cc)

    by : (b : Bool) → gets_news before now h ≡ b
        → (after : OpenHandle (Option ℕ)) × (handle_of (apply_all (cond b (fired h ++ option_map_or (λ size. late_reply h (answer_of now h size)) h.parked []) []) y) h.number ≡ Some after) × IsSettledAs now h b after
    by false is = (h, e, refl)
    by true is = awoken now h y (second _ (has_news h now.history h.seen) is) e same

-- ---- all of them

skips : (before now : Machine) (k : ℕ) (hs : List (OpenHandle (Option ℕ))) → AllByRecursion (λ g. eqb k g.number ≡ false) hs → (y : Machine) → handle_of (apply_all (flat_map (follows_for before now) hs) y) k ≡ handle_of y k
skips before now k [] far y = refl
skips before now k (g ∷ gs) far y =
    let one = follows_for before now g in
    ap (λ z. handle_of z k) (moves-then one (flat_map (follows_for before now) gs) y)
    ∙ skips before now k gs far.1 (apply_all one y)
    ∙ (own-all g.number one (own-follows before now g) y).0 k far.0

reaches : (before now : Machine) (k : ℕ) (h : OpenHandle (Option ℕ)) (low high : ℕ) (hs : List (OpenHandle (Option ℕ))) → RiseBetween low (map (λ (g : OpenHandle (Option ℕ)). g.number) hs) high → find (λ g. eqb g.number k) hs ≡ Some h
    → (y : Machine) → handle_of y k ≡ Some h → y.history ≡ now.history
    → (after : OpenHandle (Option ℕ)) × (handle_of (apply_all (flat_map (follows_for before now) hs) y) k ≡ Some after) × IsSettledAs now h (gets_news before now h) after
reaches before now k h low high [] r e y there same = absurd (let no = e in cc)
reaches before now k h low high (g ∷ gs) r e y there same =
    subst (λ z. (after : OpenHandle (Option ℕ)) × (handle_of z k ≡ Some after) × IsSettledAs now h (gets_news before now h) after) (sym (moves-then one (flat_map (follows_for before now) gs) y))
    (go (eqb g.number k) refl e (reaches before now k h (g.number + 1) high gs r.1))
  where
    one : List Move
    one = follows_for before now g

    go : (b : Bool) → eqb g.number k ≡ b → cond b (Some g) (find (λ g. eqb g.number k) gs) ≡ Some h
        → (find (λ g. eqb g.number k) gs ≡ Some h → (y : Machine) → handle_of y k ≡ Some h → y.history ≡ now.history
        → (after : OpenHandle (Option ℕ)) × (handle_of (apply_all (flat_map (follows_for before now) gs) y) k ≡ Some after) × IsSettledAs now h (gets_news before now h) after)
        → (after : OpenHandle (Option ℕ)) × (handle_of (apply_all (flat_map (follows_for before now) gs) (apply_all (follows_for before now g) y)) k ≡ Some after) × IsSettledAs now h (gets_news before now h) after
    go true own e more =
        let is : g ≡ h = cc in
        let number : h.number ≡ k = ap (λ (x : OpenHandle (Option ℕ)). x.number) (sym is) ∙ eqb-true g.number k own in
        let mine = settles-own before now h y (ap (handle_of y) number ∙ there) same in
        let far = all-imp (λ (x : OpenHandle (Option ℕ)). g.number + 1 ≤ x.number) (λ x. eqb k x.number ≡ false) (λ x le. ne_eqb k x.number (λ same. let n = eqb-true g.number k own in absurd (omega arith))) gs (rising-above (λ (x : OpenHandle (Option ℕ)). x.number) (g.number + 1) high gs r.1) in (
          mine.0,
          skips before now k gs far (apply_all (follows_for before now g) y)
              ∙ ap (λ x. handle_of (apply_all (follows_for before now x) y) k) is
              ∙ ap (handle_of (apply_all (follows_for before now h) y)) (sym number)
              ∙ mine.1,
          mine.2,
        )
    go false other e more =
        let far : eqb k g.number ≡ false = ne_eqb k g.number (λ is. let yes = eq-eqb g.number k (sym is) in let bad : false ≡ true = sym other ∙ yes in absurd cc) in
        let past = own-all g.number (follows_for before now g) (own-follows before now g) y in
        more e (apply_all (follows_for before now g) y) (past.0 k far ∙ there) (past.1 ∙ same)

no-records : (before now : Machine) (hs : List (OpenHandle (Option ℕ))) (y : Machine) → (apply_all (flat_map (follows_for before now) hs) y).history ≡ y.history
no-records before now [] y = refl
no-records before now (g ∷ gs) y =
    let one = follows_for before now g in
    ap (λ (z : Machine). z.history) (moves-then one (flat_map (follows_for before now) gs) y)
    ∙ no-records before now gs (apply_all one y)
    ∙ (own-all g.number one (own-follows before now g) y).1

-- ---- the event

rising-now : (m : Machine) → IsMachine m → (e : Event) → first_refusal (all_checks_of (content_of m) e) ≡ None
    → let now = apply_all (effect (content_of m) e.conn e.request).1 m in
    RiseBetween 0 (map (λ (h : OpenHandle (Option ℕ)). h.number) now.handles) now.next_handle
rising-now m made e is =
    let c = content_of m in
    let done = (effect c e.conn e.request).1 in
    let d = apply_all_seen done c in
    let now = apply_all done m in
    let passes = passes-both (checks c e.conn e.request) (Refuse (passes_last_number d) TableFull ∷ []) is in
    let b = basis-in c made.standing in
    rising-handles now.history 0 now.next_handle now.handles
    (subst (λ (c : Content). RiseBetween 0 (map (λ (h : OpenHandle Progress). h.number) c.handles) c.next_handle) (sym (effect-shown m made e is).0) (basis-after done c b (effect-fit c e.conn e.request b passes.0)).order.0)

handles-settle : (m : Machine) → IsMachine m → (e : Event) → first_refusal (all_checks_of (content_of m) e) ≡ None
    → let now = apply_all (effect (content_of m) e.conn e.request).1 m in
    (number : ℕ) (h : OpenHandle (Option ℕ)) → find (λ g. eqb g.number number) now.handles ≡ Some h → Settles m now (step m e).1 number h
handles-settle m made e is number h found =
    let now = apply_all (effect (content_of m) e.conn e.request).1 m in
    let there = reaches m now number h 0 now.next_handle now.handles (rising-now m made e is) found now found refl in
    record { after = there.0; found = ap (λ s. handle_of s.1 number) (steps-plain m made e is) ∙ there.1; settled = there.2 }

pub settling-told : SettlingIsTold
settling-told = record {
  moves = settling-same;
  steps = steps-plain;
  handles = handles-settle;
  records = λ m made e is.
      let now = apply_all (effect (content_of m) e.conn e.request).1 m in
      ap (λ s. s.1.history) (steps-plain m made e is) ∙ no-records m now now.handles now;
}
