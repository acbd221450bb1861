-- What a read replies, and where it leaves the cursor.
use Rattle.std.proofs.Common.{◌≡◌, ℕ, ◌+◌, Bool, true, false, cond, not, ◌&&◌, ◌||◌, eqb, eqb-true, eq-eqb, List, [], ◌∷◌, ◌++◌, length, map, Option, Some, None, refl, sym, ap, subst, ◌∙◌}
use Rattle.std.specs.Prelude.{find, is_some, is_none, nat_le, option_map}
use Rattle.std.specs.Option.{option_map_or, option_or}
use Rattle.std.specs.List.{AllByRecursion, flat_map}
use Rattle.pps_types.specs.declared.event.Request.TheVariants.{Read}
use Rattle.pps_types.specs.declared.outcome.Outcome.{Outcome}
use Rattle.pps_types.specs.declared.outcome.Outcome.TheVariants.{Done, Data, Parked}
use Rattle.pps_types.specs.declared.refusal.Refusal.{Refusal}
use Rattle.pps_types.specs.declared.refusal.Refusal.TheVariants.{NotAttached, BadMode, BadArgument, ReadPending, TableFull}
use Rattle.pps_types.specs.Bytes.{is_empty}
use Rattle.pps_types.specs.History.{Entry}
use Rattle.pps_types.specs.Reading.{OpenHandle, reseen, style, is_full_style, block, idle_answer, owed_answer, whole_answer, Answer, Everything, Blocks, Needs, TargetGone, Waits, Nothing}
use Rattle.pps_types.specs.Rests.{Progress}
use Rattle.pps_types.specs.Outbox.{park_refusal}
use Rattle.pps_types.specs.Content.{Content, is_attached, outbox_of, read_answer}
use Rattle.pps_types.specs.Checks.{Check, Refuse, Memory, refused, first_refusal, on_handle, checks, read_checks, answer_checks}
use Rattle.pps_types.specs.Plan.{Move, CatchesUp, Advances, Parks, on_first, on_numbered, apply_all_seen, all_checks_of, passes_last_number, effect, read_effect, plan, decided, settling, fired, late_reply}
use Rattle.pps_types.specs.WellFormed.{RiseBetween}
use Rattle.pps_types.specs.Machine.{Machine, IsMachine, AreLawful, content_of, shown_handle, passed, step, apply_all, AreAlive}
use Rattle.pps_types.specs.Owed.{has_news, owed, is_past_limit, answer_with, answer_of}
use Rattle.service_laws.specs.ReadLaws.{own_handle, IsReadAs, ReadMoves, answer_refusal, read_refusal, ReadLeaves, had_news_of, gets_news, follows_for, CursorsMove}
use Rattle.pps_types.proofs.Lists.{append-nil, all-on_first}
use Rattle.service_laws.proofs.Finds.{and-both, all-find, all-imp, find-true}
use Rattle.service_laws.proofs.Rising.{found-each}
use Rattle.service_laws.proofs.PlainWords.{answer-shown}
use Rattle.service_laws.proofs.Passes.{passes-both, behind, not-false}
use Rattle.service_laws.proofs.Law.{made-of, apply_all-shown}
use Rattle.service_laws.proofs.Cursors.{passed-drops, passed-past, end-owed, end-quiet, passed-quiet}
use Rattle.service_laws.proofs.PlainSettling.{find-seen, settling-same}

-- ---- an answer of blocks

not-whole : (text : List ℕ) (max n : ℕ) (bytes : List ℕ) → whole_answer text max ≡ Blocks n bytes → ⊥
not-whole text max n bytes e = go (nat_le (length text) max) e
  where
    go : (b : Bool) → cond b (Everything text) (Needs (length text)) ≡ Blocks n bytes → ⊥
    go true e = cc
    go false e = cc

not-idle : (dead wait : Bool) (n : ℕ) (bytes : List ℕ) → idle_answer dead wait ≡ Blocks n bytes → ⊥
not-idle true wait n bytes e = cc
not-idle false true n bytes e = cc
not-idle false false n bytes e = cc

-- is given to a handle that has read, is not in full mode and not past its limit
pub blocks-owed : {S : Type 0} (h : OpenHandle S) (H : List Entry) (cursor : Option ℕ) (everything : List ℕ) (dead : Bool) (max n : ℕ) (bytes : List ℕ) → answer_with h H cursor everything dead max ≡ Blocks n bytes
    → (is_none cursor ≡ false) × (is_full_style (style h.kind) ≡ false) × (is_past_limit h (owed h H cursor) ≡ false)
blocks-owed h H cursor everything dead max n bytes e = by (is_none cursor) (is_past_limit h (owed h H cursor)) (is_full_style (style h.kind)) (owed h H cursor) e
  where
    by : (none past full : Bool) (debt : List Entry) → cond (none || past || (full && not (is_empty debt))) (whole_answer everything max) (owed_answer h.options.wait (map (block h) debt) dead max) ≡ Blocks n bytes → (none ≡ false) × (full ≡ false) × (past ≡ false)
    by true past full debt e = absurd (not-whole everything max n bytes e)
    by false true full debt e = absurd (not-whole everything max n bytes e)
    by false false true [] e = absurd (not-idle dead h.options.wait n bytes e)
    by false false true (x ∷ xs) e = absurd (not-whole everything max n bytes e)
    by false false false debt e = (refl, refl, refl)

-- ---- the handle of that number

module _ {X : Type 0} (test : X → Bool) where
  -- only what is found is changed
  pub on-found : (f : X → X) (xs : List X) (x : X) → find test xs ≡ Some x → on_first test f xs ≡ on_first test (λ y. f x) xs
  on-found f [] x e = refl
  on-found f (y ∷ ys) x e = go (test y) e (on-found f ys x)
    where
      go : (b : Bool) → cond b (Some y) (find test ys) ≡ Some x → (find test ys ≡ Some x → on_first test f ys ≡ on_first test (λ y. f x) ys) → cond b (f y ∷ ys) (y ∷ on_first test f ys) ≡ cond b (f x ∷ ys) (y ∷ on_first test (λ y. f x) ys)
      go true e rest = let is : y ≡ x = cc in ap (λ z. f z ∷ ys) is
      go false e rest = ap (λ zs. y ∷ zs) (rest e)

  on-same : (xs : List X) → on_first test (λ x. x) xs ≡ xs
  on-same [] = refl
  on-same (x ∷ xs) = elim (test x) as (λ b. cond b (x ∷ xs) (x ∷ on_first test (λ x. x) xs) ≡ x ∷ xs) [ true ↦ refl | false ↦ ap (λ ys. x ∷ ys) (on-same xs) ]

  -- what takes the place of what is found, is found there
  pub find-placed : (other : X → Bool) (y : X) → ((z : X) → test z ≡ false → other z ≡ false) → other y ≡ true → (xs : List X) (x : X) → find test xs ≡ Some x → find other (on_first test (λ z. y) xs) ≡ Some y
  find-placed other y less is [] x e = absurd (let h = e in cc)
  find-placed other y less is (z ∷ zs) x e = go (test z) refl e (find-placed other y less is zs x)
    where
      go : (b : Bool) → test z ≡ b → cond b (Some z) (find test zs) ≡ Some x → (find test zs ≡ Some x → find other (on_first test (λ z. y) zs) ≡ Some y) → find other (cond b (y ∷ zs) (z ∷ on_first test (λ z. y) zs)) ≡ Some y
      go true t e rest = ap (λ b. cond b (Some y) (find other zs)) is
      go false t e rest = ap (λ b. cond b (Some z) (find other (on_first test (λ z. y) zs))) (less z t) ∙ rest e

pub rising-handles : (H : List Entry) (low high : ℕ) (hs : List (OpenHandle (Option ℕ))) → RiseBetween low (map (λ (h : OpenHandle Progress). h.number) (map (shown_handle H) hs)) high → RiseBetween low (map (λ (h : OpenHandle (Option ℕ)). h.number) hs) high
rising-handles H low high [] r = r
rising-handles H low high (h ∷ hs) r = (r.0, rising-handles H (h.number + 1) high hs r.1)

-- each handle is found by its number
pub handles-found : (m : Machine) → IsMachine m → AllByRecursion (λ (g : OpenHandle (Option ℕ)). find (λ (h : OpenHandle (Option ℕ)). eqb h.number g.number) m.handles ≡ Some g) m.handles
handles-found m made = found-each (λ (h : OpenHandle (Option ℕ)). h.number) 0 m.next_handle m.handles (rising-handles m.history 0 m.next_handle m.handles made.standing.order.handles_rise)

-- ---- nothing follows

none-follow : (before now : Machine) (hs : List (OpenHandle (Option ℕ))) → AllByRecursion (λ g. gets_news before now g ≡ false) hs → flat_map (follows_for before now) hs ≡ []
none-follow before now [] all = refl
none-follow before now (h ∷ hs) all = ap (λ ys. ys ++ flat_map (follows_for before now) hs) (ap (λ b. cond b (fired h ++ option_map_or (λ size. late_reply h (answer_of now h size)) h.parked []) []) all.0) ∙ none-follow before now hs all.1

-- where a handle has news only if it had some, none gets any
quiet-handles : (m : Machine) → IsMachine m → (n : ℕ) (f : OpenHandle (Option ℕ) → OpenHandle (Option ℕ)) → ((g : OpenHandle (Option ℕ)) → (f g).number ≡ g.number)
    → ((g : OpenHandle (Option ℕ)) → has_news g m.history g.seen ≡ false → has_news (f g) m.history (f g).seen ≡ false)
    → let now = record m { handles = on_numbered n f m.handles } in
    AllByRecursion (λ g. gets_news m now g ≡ false) now.handles
quiet-handles m made n f number keeps =
    let now = record m { handles = on_numbered n f m.handles } in
    all-imp IsQuiet (λ g. gets_news m now g ≡ false) none now.handles
    (all-on_first IsQuiet (λ g. eqb g.number n) f (λ g q e. keeps g (q (ap (had_news_of m) (sym (number g)) ∙ e))) m.handles
    (all-imp (λ g. find (λ (h : OpenHandle (Option ℕ)). eqb h.number g.number) m.handles ≡ Some g) IsQuiet (λ g is e. sym (ap (λ o. option_map_or (λ h. has_news h m.history h.seen) o false) is) ∙ e) m.handles (handles-found m made)))
  where
    IsQuiet : OpenHandle (Option ℕ) → Type 0
    IsQuiet g = had_news_of m g.number ≡ false → has_news g m.history g.seen ≡ false

    none : (g : OpenHandle (Option ℕ)) → (had_news_of m g.number ≡ false → has_news g m.history g.seen ≡ false) → (not (had_news_of m g.number) && has_news g m.history g.seen) ≡ false
    none g q = go (had_news_of m g.number) q
      where
        go : (b : Bool) → (b ≡ false → has_news g m.history g.seen ≡ false) → (not b && has_news g m.history g.seen) ≡ false
        go true q = refl
        go false q = q refl

-- moves that give no handle news are all that is done
alone : (m : Machine) → IsMachine m → (xs : List Move) → AreLawful (length m.objects) xs → AreAlive (content_of m) xs → AllByRecursion (λ g. gets_news m (apply_all xs m) g ≡ false) (apply_all xs m).handles
    → apply_all (xs ++ settling (content_of m) (apply_all_seen xs (content_of m))) m ≡ apply_all xs m
alone m made xs lawful alive none =
    let now = apply_all xs m in
    ap (λ c. apply_all (xs ++ settling (content_of m) c) m) (sym (apply_all-shown xs m (made-of m made) lawful alive).0)
    ∙ ap (λ ys. apply_all (xs ++ ys) m) (settling-same m now ∙ none-follow m now now.handles none)
    ∙ ap (λ ys. apply_all ys m) (append-nil xs)

-- ---- a read

-- the handle in its place
placed : (m : Machine) (h after : OpenHandle (Option ℕ)) → find (λ g. eqb g.number h.number) m.handles ≡ Some h → after.number ≡ h.number → after.connection ≡ h.connection
    → own_handle (record m { handles = on_numbered h.number (λ g. after) m.handles }) h.connection h.number ≡ Some after
placed m h after found number connection = find-placed (λ g. eqb g.number h.number) (λ g. eqb g.number h.number && eqb g.connection h.connection) after
    (λ g other. ap (λ b. b && eqb g.connection h.connection) other)
    (λ i. eq-eqb after.number h.number number i && eq-eqb after.connection h.connection connection i) m.handles h found

-- a read that is not refused
given : (m : Machine) → IsMachine m → (h : OpenHandle (Option ℕ)) (size : ℕ) → find (λ g. eqb g.number h.number) m.handles ≡ Some h → (a : Answer) → answer_of m h size ≡ a
    → let c = content_of m in
    let done = read_effect (shown_handle m.history h) size a in
    first_refusal (answer_checks c (shown_handle m.history h) a) ≡ None → ReadMoves m h size done.0 (apply_all (done.1 ++ settling c (apply_all_seen done.1 c)) m)
given m made h size here (Everything text) e fine =
    let f = reseen (λ h. Some (length m.history)) in
    let rest = alone m made (CatchesUp h.number ∷ []) (tt, tt) (tt, tt) (quiet-handles m made h.number f (λ g. refl) (λ g quiet. end-quiet g m.history))
    ∙ ap (λ hs. record m { handles = hs }) (on-found (λ g. eqb g.number h.number) f m.handles h here) in
    record {
      after = f h;
      moved = subst (λ a. IsReadAs m h size a (Data text) (f h)) (sym e) (refl, refl);
      found = ap (λ n. own_handle n h.connection h.number) rest ∙ placed m h (f h) here refl refl;
      rest = rest;
    }
given m made h size here (Blocks n text) e fine =
    let f = reseen {S = Option ℕ} (λ h. passed h m.history n h.seen) in
    let rest = alone m made (Advances h.number n ∷ []) (tt, tt) (tt, tt) (quiet-handles m made h.number f (λ g. refl) (λ g quiet. passed-quiet g m.history n g.seen quiet))
    ∙ ap (λ hs. record m { handles = hs }) (on-found (λ g. eqb g.number h.number) f m.handles h here) in
    let plain = blocks-owed h m.history h.seen _ _ size n text e in
    let p = passed-past h m.history n h.seen plain.0 plain.1 plain.2 in
    record {
      after = f h;
      moved = subst (λ a. IsReadAs m h size a (Data text) (f h)) (sym e) (refl, (p.0, p.1, ap (λ s. record h { seen = s }) p.2));
      found = ap (λ n. own_handle n h.connection h.number) rest ∙ placed m h (f h) here refl refl;
      rest = rest;
    }
given m made h size here Waits e fine =
    let f = λ (g : OpenHandle (Option ℕ)). record g { parked = Some size } in
    let rest = alone m made (Parks h.number (Some size) ∷ []) (tt, tt) (tt, tt) (quiet-handles m made h.number f (λ g. refl) (λ g quiet. quiet))
    ∙ ap (λ hs. record m { handles = hs }) (on-found (λ g. eqb g.number h.number) f m.handles h here) in
    record {
      after = f h;
      moved = subst (λ a. IsReadAs m h size a Parked (f h)) (sym e) (refl, refl);
      found = ap (λ n. own_handle n h.connection h.number) rest ∙ placed m h (f h) here refl refl;
      rest = rest;
    }
given m made h size here Nothing e fine =
    let f = λ (g : OpenHandle (Option ℕ)). g in
    let same = on-same (λ (g : OpenHandle (Option ℕ)). eqb g.number h.number) m.handles in
    let quiet = subst (λ hs. AllByRecursion (λ g. gets_news m m g ≡ false) hs) same (quiet-handles m made h.number f (λ g. refl) (λ g quiet. quiet)) in
    let rest = alone m made [] tt tt quiet
    ∙ ap (λ hs. record m { handles = hs }) (sym same ∙ on-found (λ g. eqb g.number h.number) f m.handles h here) in
    record {
      after = h;
      moved = subst (λ a. IsReadAs m h size a (Data []) h) (sym e) (refl, refl);
      found = ap (λ n. own_handle n h.connection h.number) rest ∙ placed m h h here refl refl;
      rest = rest;
    }
given m made h size here (Needs need) e fine = absurd (let no = fine in cc)
given m made h size here TargetGone e fine = absurd (let no = fine in cc)

-- ---- why a read is refused

refusal-then : (xs ys : List Check) → first_refusal (xs ++ ys) ≡ option_or (first_refusal xs) (first_refusal ys)
refusal-then [] ys = refl
refusal-then (Memory ∷ xs) ys = refusal-then xs ys
refusal-then (Refuse fails r ∷ xs) ys = by fails (refusal-then xs ys)
  where
    by : (b : Bool) → first_refusal (xs ++ ys) ≡ option_or (first_refusal xs) (first_refusal ys) → cond b (Some r) (first_refusal (xs ++ ys)) ≡ option_or (cond b (Some r) (first_refusal xs)) (first_refusal ys)
    by true rec = refl
    by false rec = rec

answer-refusal : (m : Machine) (h : OpenHandle (Option ℕ)) (a : Answer) → first_refusal (answer_checks (content_of m) (shown_handle m.history h) a) ≡ answer_refusal m h a
answer-refusal m h (Everything text) = refl
answer-refusal m h (Blocks n text) = refl
answer-refusal m h (Needs need) = refl
answer-refusal m h TargetGone = refl
answer-refusal m h Nothing = refl
answer-refusal m h Waits = by (park_refusal (outbox_of (content_of m) h.connection) h.number)
  where
    by : (o : Option Refusal) → first_refusal (refused o ++ Memory ∷ []) ≡ o
    by None = refl
    by (Some r) = refl

-- a read changes no number that the next record, object or directory gets
same-last : (c : Content) (h : OpenHandle Progress) (size : ℕ) (a : Answer) → passes_last_number (apply_all_seen (read_effect h size a).1 c) ≡ passes_last_number c
same-last c h size (Everything text) = refl
same-last c h size (Blocks n text) = refl
same-last c h size (Needs need) = refl
same-last c h size TargetGone = refl
same-last c h size Waits = refl
same-last c h size Nothing = refl

-- the connection's handle, of what stands
record Asked (m : Machine) (conn number : ℕ) (h : OpenHandle (Option ℕ)) : Type 0 where
  own : find (λ (h : OpenHandle Progress). eqb h.number number && eqb h.connection conn) (content_of m).handles ≡ Some (shown_handle m.history h)
  attached : is_attached (content_of m) conn ≡ true
  here : find (λ (g : OpenHandle (Option ℕ)). eqb g.number h.number) m.handles ≡ Some h

asked : (m : Machine) → IsMachine m → (conn number : ℕ) (h : OpenHandle (Option ℕ)) → own_handle m conn number ≡ Some h → Asked m conn number h
asked m made conn number h found =
    let c = content_of m in
    let sh = shown_handle m.history h in
    let test = λ (h : OpenHandle Progress). eqb h.number number && eqb h.connection conn in
    let own : find test c.handles ≡ Some sh = find-seen (shown_handle m.history) (λ h. eqb h.number number && eqb h.connection conn) test (λ h. refl) m.handles ∙ ap (option_map (shown_handle m.history)) found in
    let both = and-both (eqb h.number number) (eqb h.connection conn) (find-true test c.handles sh own) in
    record {
      own = own;
      attached = ap (is_attached c) (sym (eqb-true h.connection conn both.1)) ∙ all-find (λ (g : OpenHandle Progress). is_attached c g.connection ≡ true) test c.handles sh made.standing.held.owners own;
      here = all-find (λ (g : OpenHandle (Option ℕ)). find (λ (h : OpenHandle (Option ℕ)). eqb h.number g.number) m.handles ≡ Some g) (λ h. eqb h.number number && eqb h.connection conn) m.handles h (handles-found m made) found;
    }

refusal-read : (m : Machine) → IsMachine m → (conn number size : ℕ) (h : OpenHandle (Option ℕ)) → Asked m conn number h → first_refusal (all_checks_of (content_of m) (record { conn = conn; request = Read number size })) ≡ read_refusal m h size
unfolding effect checks
refusal-read m made conn number size h a =
    let c = content_of m in
    let sh = shown_handle m.history h in
    let d = apply_all_seen (effect c conn (Read number size)).1 c in
    refusal-then (checks c conn (Read number size)) (Refuse (passes_last_number d) TableFull ∷ [])
    ∙ ap (λ o. option_or o (cond (passes_last_number d) (Some TableFull) None)) first
    ∙ ap (λ b. option_or (cond (not h.reads) (Some BadMode) (cond (not (nat_le 1 size && nat_le size 17000000)) (Some BadArgument) (cond (is_some h.parked) (Some ReadPending) (answer_refusal m h (answer_of m h size))))) (cond b (Some TableFull) None)) last
  where
    last : passes_last_number (apply_all_seen (effect (content_of m) conn (Read number size)).1 (content_of m)) ≡ passes_last_number (content_of m)
    last = ap (λ o. passes_last_number (apply_all_seen (option_map_or {U = Outcome × List Move} (λ h. read_effect h size (read_answer (content_of m) h size)) o (Done, [])).1 (content_of m))) a.own
        ∙ same-last (content_of m) (shown_handle m.history h) size (read_answer (content_of m) (shown_handle m.history h) size)

    told : (reads : Bool) → h.reads ≡ reads → cond (not reads) (Some BadMode) (cond (not (nat_le 1 size && nat_le size 17000000)) (Some BadArgument) (cond (is_some h.parked) (Some ReadPending) (first_refusal (answer_checks (content_of m) (shown_handle m.history h) (read_answer (content_of m) (shown_handle m.history h) size)))))
        ≡ cond (not reads) (Some BadMode) (cond (not (nat_le 1 size && nat_le size 17000000)) (Some BadArgument) (cond (is_some h.parked) (Some ReadPending) (answer_refusal m h (answer_of m h size))))
    told false is = refl
    told true is = ap (λ o. cond (not (nat_le 1 size && nat_le size 17000000)) (Some BadArgument) (cond (is_some h.parked) (Some ReadPending) o))
        (ap (λ a. first_refusal (answer_checks (content_of m) (shown_handle m.history h) a)) (answer-shown m h size is) ∙ answer-refusal m h (answer_of m h size))

    first : first_refusal (checks (content_of m) conn (Read number size)) ≡ cond (not h.reads) (Some BadMode) (cond (not (nat_le 1 size && nat_le size 17000000)) (Some BadArgument) (cond (is_some h.parked) (Some ReadPending) (answer_refusal m h (answer_of m h size))))
    first =
        let own = a.own in
        let there : first_refusal (on_handle (content_of m) conn number (read_checks (content_of m) size)) ≡ first_refusal (read_checks (content_of m) size (shown_handle m.history h)) = rw own refl in
        ap (λ b. cond (not b) (Some NotAttached) (first_refusal (on_handle (content_of m) conn number (read_checks (content_of m) size)))) a.attached ∙ there ∙ told h.reads refl

-- ---- the event

pub read-leaves : (m : Machine) → IsMachine m → (conn number size : ℕ) (h : OpenHandle (Option ℕ)) → own_handle m conn number ≡ Some h
    → let done = step m (record { conn = conn; request = Read number size }) in
    ReadLeaves m h size done.0 done.1
unfolding step plan effect checks
read-leaves m made conn number size h found = by (first_refusal (all_checks_of (content_of m) (record { conn = conn; request = Read number size }))) refl
  where
    why : first_refusal (all_checks_of (content_of m) (record { conn = conn; request = Read number size })) ≡ read_refusal m h size
    why = refusal-read m made conn number size h (asked m made conn number h found)

    by : (o : Option Refusal) → first_refusal (all_checks_of (content_of m) (record { conn = conn; request = Read number size })) ≡ o
        → ReadLeaves m h size (decided (content_of m) (effect (content_of m) conn (Read number size)) o).0 (apply_all (decided (content_of m) (effect (content_of m) conn (Read number size)) o).1 m)
    by (Some r) is = (sym why ∙ is, refl)
    by None is =
        let c = content_of m in
        let sh = shown_handle m.history h in
        let it = asked m made conn number h found in
        let own = it.own in
        let passes = (passes-both (checks c conn (Read number size)) (Refuse (passes_last_number (apply_all_seen (effect c conn (Read number size)).1 c)) TableFull ∷ []) is).0 in
        let seen = (behind (not (is_attached c conn)) NotAttached (on_handle c conn number (read_checks c size)) passes).1 in
        let fine : first_refusal (read_checks c size sh) ≡ None = rw own at seen in
        let answered = answer_checks c sh (read_answer c sh size) in
        let unparked = Refuse (is_some h.parked) ReadPending ∷ answered in
        let reads = behind (not h.reads) BadMode (Refuse (not (nat_le 1 size && nat_le size 17000000)) BadArgument ∷ unparked) fine in
        let sized = behind (not (nat_le 1 size && nat_le size 17000000)) BadArgument unparked reads.1 in
        let free = behind (is_some h.parked) ReadPending answered sized.1 in
        let told = answer-shown m h size (not-false h.reads reads.0) in (
          sym why ∙ is,
          subst (λ o. let done = option_map_or (λ h. read_effect h size (read_answer c h size)) o (Done, []) in
              ReadMoves m h size done.0 (apply_all (done.1 ++ settling c (apply_all_seen done.1 c)) m)) (sym it.own)
              (subst (λ a. let done = read_effect sh size a in ReadMoves m h size done.0 (apply_all (done.1 ++ settling c (apply_all_seen done.1 c)) m)) (sym told)
              (given m made h size it.here (answer_of m h size) refl (ap (λ a. first_refusal (answer_checks c sh a)) (sym told) ∙ free.1))),
        )

pub cursors-move : CursorsMove
cursors-move = record { blocks = passed-drops; everything = end-owed; reads = read-leaves }
