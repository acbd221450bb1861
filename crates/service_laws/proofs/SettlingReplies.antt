-- The answer to a parked read, by its handle before the event and the records of the event.
use Rattle.std.proofs.lemmas.Bool.Decides.{nat_tests}
use Rattle.std.proofs.Common.{◌≡◌, ◌≤◌, ℕ, arith, Bool, true, false, cond, not, ◌&&◌, ◌||◌, List, [], ◌∷◌, ◌++◌, map, length, Option, Some, None, refl, ap, ◌∙◌}
use Rattle.std.specs.Prelude.{nat_le, nat_lt}
use Rattle.std.specs.Option.{option_map_or}
use Rattle.std.specs.List.{list_any}
use Rattle.pps_types.specs.Bytes.{is_empty}
use Rattle.pps_types.specs.History.{Entry}
use Rattle.pps_types.specs.Reading.{OpenHandle, style, visible, block, Member, is_full_style, is_delta_style, owed_answer, whole_answer, blocks_answer, fitting, Answer, Everything, Blocks, Needs, TargetGone, Waits, Nothing, everything_of}
use Rattle.pps_types.specs.Rests.{Progress, seen_of, seen_with, rest_of, is_over, answer}
use Rattle.pps_types.specs.Content.{Content, news, read_answer, target_is_dead, target_members}
use Rattle.pps_types.specs.Owed.{is_past_limit}
use Rattle.pps_types.specs.WellFormed.{fits}
use Rattle.pps_types.specs.Plan.{fired, late_reply}
use Rattle.service_laws.proofs.Bridge.{answer-same}
use Rattle.service_laws.proofs.PlainWords.{over-same}
use Rattle.service_laws.specs.Told.{offer_all}
use Rattle.pps_types.specs.SettlingReplies.{visible_to, gives_everything, late_answer}
use Rattle.service_laws.specs.SettlingMoves.{follows_in}
use Rattle.service_laws.proofs.SettlingSight.{seen-given, any-some, any-reads}
use Rattle.service_laws.proofs.Settling.{woken}

-- the deadness of the target plays no part where something is owed
owed-some : (wait : Bool) (bs : List (List ℕ)) (a b : Bool) (size : ℕ) → not (is_empty bs) ≡ true → owed_answer wait bs a size ≡ owed_answer wait bs b size
owed-some wait [] a b size some = absurd (let no = some in cc)
owed-some wait (x ∷ xs) a b size some = refl

map-some : {X Y : Type 0} (f : X → Y) (xs : List X) → not (is_empty (map f xs)) ≡ not (is_empty xs)
map-some f [] = refl
map-some f (x ∷ xs) = refl

-- what a read answers that finds this seen
abbrev answered : OpenHandle Progress → Progress → Bool → List Member → ℕ → Answer
answered h s dead members size = answer h s (everything_of h.kind h.options.filter (is_over s) (not dead) members) dead size

-- the records stand behind all that it has read
answered-rest : (h : OpenHandle Progress) (es : List Entry) (dead : Bool) (members : List Member) (size : ℕ) → h.reads ≡ true → list_any (visible h) es ≡ true → answered h (seen_of h (rest_of h es)) dead members size ≡ late_answer h es dead members size
answered-rest h es dead members size reads any =
    ap (λ over. answer h (seen_with h es (Some 0)) (everything_of h.kind h.options.filter over (not dead) members) dead size) (over-same h es (Some 0))
    ∙ answer-same h es (Some 0) everything dead size reads
    ∙ ap (λ some. cond (is_past_limit h (visible_to h es) || (is_full_style (style h.kind) && some)) (whole_answer everything size) (owed_answer h.options.wait (map (block h) (visible_to h es)) dead size)) some
    ∙ (λ i. cond (is_past_limit h (visible_to h es) || both (is_full_style (style h.kind)) i) (whole_answer everything size) (owed-some h.options.wait (map (block h) (visible_to h es)) dead false size (map-some (block h) (visible_to h es) ∙ some) i))
  where
    everything : List ℕ
    everything = everything_of h.kind h.options.filter (is_past_limit h (visible_to h es)) (not dead) members

    some : not (is_empty (visible_to h es)) ≡ true
    some = any-some (visible h) es ∙ any

    both : (b : Bool) → (b && true) ≡ b
    both true = refl
    both false = refl

-- The answer to the parked read of a handle that had no news and sees one of the records.
pub late-answer : (c : Content) (h : OpenHandle Progress) (es : List Entry) (size : ℕ) → fits (style h.kind) h.seen ≡ true → news h ≡ false → list_any (visible h) es ≡ true
    → read_answer c (offer_all es h) size ≡ late_answer h es (target_is_dead c h) (target_members c h) size
late-answer c h es size fit none any =
    ap (λ s. answered h s (target_is_dead c h) (target_members c h) size) (seen-given h es fit none any)
    ∙ answered-rest h es (target_is_dead c h) (target_members c h) size (any-reads h es any) any

late-moves : (h : OpenHandle Progress) (es : List Entry) (a : Answer) → late_reply (offer_all es h) a ≡ late_reply h a
late-moves h es (Everything text) = refl
late-moves h es (Blocks count text) = refl
late-moves h es (Needs need) = refl
late-moves h es TargetGone = refl
late-moves h es Waits = refl
late-moves h es Nothing = refl

-- What follows for a woken handle.
pub woken-follows : (c : Content) (h : OpenHandle Progress) (es : List Entry) → fits (style h.kind) h.seen ≡ true → news h ≡ false → list_any (visible h) es ≡ true → woken c es h ≡ follows_in c es h
woken-follows c h es fit none any = ap (λ ms. fired h ++ ms) (go h.parked)
  where
    go : (p : Option ℕ) → option_map_or (λ size. late_reply (offer_all es h) (read_answer c (offer_all es h) size)) p [] ≡ option_map_or (λ size. late_reply h (late_answer h es (target_is_dead c h) (target_members c h) size)) p []
    go None = refl
    go (Some size) = late-moves h es (read_answer c (offer_all es h) size) ∙ ap (late_reply h) (late-answer c h es size fit none any)

-- A woken handle that waits in a read is answered: everything, blocks, or what it needs.
abbrev pub is_given : Answer → Bool
is_given (Everything text) = true
is_given (Blocks count text) = true
is_given (Needs need) = true
is_given _ = false

given-whole : (text : List ℕ) (size : ℕ) → is_given (whole_answer text size) ≡ true
given-whole text size = elim (nat_le (length text) size) as (λ b. is_given (cond b (Everything text) (Needs (length text))) ≡ true) [ true ↦ refl | false ↦ refl ]

given-owed : (wait : Bool) (bs : List (List ℕ)) (dead : Bool) (size : ℕ) → not (is_empty bs) ≡ true → is_given (owed_answer wait bs dead size) ≡ true
given-owed wait [] dead size some = absurd (let no = some in cc)
given-owed wait (b ∷ bs) dead size some = elim (nat_le (length b) size) as (λ k. is_given (cond k (blocks_answer (fitting size (b ∷ bs))) (Needs (length b))) ≡ true) [ true ↦ refl | false ↦ refl ]

pub late-given : (h : OpenHandle Progress) (es : List Entry) (dead : Bool) (members : List Member) (size : ℕ) → list_any (visible h) es ≡ true → is_given (late_answer h es dead members size) ≡ true
late-given h es dead members size any = by (gives_everything h es)
  where
    everything : List ℕ
    everything = everything_of h.kind h.options.filter (is_past_limit h (visible_to h es)) (not dead) members

    by : (b : Bool) → is_given (cond b (whole_answer everything size) (owed_answer h.options.wait (map (block h) (visible_to h es)) false size)) ≡ true
    by true = given-whole everything size
    by false = given-owed h.options.wait (map (block h) (visible_to h es)) false size (map-some (block h) (visible_to h es) ∙ any-some (visible h) es ∙ any)

-- one record alone passes no limit of 1 or more
pub one-within : (h : OpenHandle Progress) (e : Entry) → 1 ≤ h.limit → is_past_limit h (visible_to h (e ∷ [])) ≡ false
one-within h e le = by (is_delta_style (style h.kind)) (visible h e)
  where
    within : (n m : ℕ) → m ≤ n → nat_lt n m ≡ false
    within n m le = grind (arith, nat_tests, le)

    by : (d v : Bool) → (d && nat_lt h.limit (length (cond v (e ∷ []) []))) ≡ false
    by false v = refl
    by true true = within h.limit 1 le
    by true false = within h.limit 0 (omega arith)
