-- How much a read gives, and what late replies are.
use Rattle.std.proofs.Common.{arith}
use Rattle.std.specs.Prelude.{◌≡◌, ◌≤◌, ◌<◌, ℕ, ◌+◌, ◌*◌, ◌^◌, List, [], ◌∷◌, ◌++◌, ◌==◌, ◌&&◌, not, Bool, true, false, cond, nat_le, Option, Some, None, filter, map, length, codes, decimal, refl}
use Rattle.std.proofs.lemmas.Bool.Decides.{nat_tests}
use Rattle.std.proofs.lemmas.List.{length-append, length-map}
use Rattle.std.specs.declared.cmp.Ordering.{Ordering}
use Rattle.std.specs.Ordering.{is_lt}
use Rattle.std.proofs.lemmas.Fmt.{length-decimal-le}
use Rattle.std.specs.Option.{option_map_or}
use Rattle.std.specs.List.{AllByRecursion, concat, flat_map, list_any}
use Rattle.pps_types.specs.declared.outcome.Item.TheVariants.{Pulse}
use Rattle.pps_types.specs.declared.line.Line.{Line}
use Rattle.pps_types.specs.declared.record.Kind.{Kind}
use Rattle.pps_types.specs.declared.record.Kind.TheVariants.{Created, Change, Truncated, Dropped, Deleted, Opened, Closed, FromClient, ToClient, ToAll}
use Rattle.pps_types.specs.declared.handle_kind.HandleKind.{HandleKind}
use Rattle.pps_types.specs.declared.handle_kind.HandleKind.TheVariants.{Object as ObjectHandle, Directory as DirectoryHandle, Names as NamesHandle, Server as ServerHandle, Client as ClientHandle}
use Rattle.pps_types.specs.Filter.{Part, matches}
use Rattle.pps_types.specs.Text.{print_header, print_lines}
use Rattle.pps_types.specs.Names.{sorted_by, insert_by, name_cmp}
use Rattle.pps_types.specs.History.{Entry, line_of, text_length}
use Rattle.pps_types.specs.Reading.{OpenHandle, is_directory_kind, Shown, with_lines, with_client, matching_lines, shown_to_object, shown_to_directory, shown_to_names, shown_to_server, shown_to_client, shown, print_shown, block, visible, Member, print_member, overflow_mark, overflow_line, everything_of, Answer, Everything, Blocks, Needs, TargetGone, Waits, Nothing, fitting, whole_answer, idle_answer, owed_answer}
use Rattle.pps_types.specs.Rests.{Progress, News, Unread, Over, Owed, answer, is_over}
use Rattle.pps_types.specs.Content.{LiveObject, Content, object_numbered, attributes_of, members, member, target_members, target_is_dead, everything, read_answer, news}
use Rattle.pps_types.specs.Plan.{Move, CatchesUp, Advances, Parks, Arms, Queues, fired, late_reply, late_replies, had_news, settling_handle, settling, apply_seen}
use Rattle.pps_types.proofs.Fitting.{fitting-longest}
use Rattle.service_laws.specs.Bounds.{lines_of, client_of, IsShort, AreShort, IsBoundObject, IsReadSize, IsBoundHandle, IsBoundItem, IsBound}
use Rattle.service_laws.specs.Fit.{IsFit, AreFit}
use Rattle.service_laws.proofs.Finds.{all-find, all-filter}
use Rattle.service_laws.proofs.BoundedLists.{all-append}
use Rattle.service_laws.proofs.BoundedTexts.{kept-lines}
use Rattle.service_laws.proofs.BoundedOpens.{members-crowd}

-- ---- an answer fits

abbrev pub FitsIn : ℕ → Answer → Type 0
FitsIn max (Everything text) = length text ≤ max
FitsIn max (Blocks count text) = length text ≤ max
FitsIn max _ = Unit {0}

whole-fits : (text : List ℕ) (max : ℕ) → FitsIn max (whole_answer text max)
whole-fits text max = go (nat_le (length text) max) refl
  where
    go : (b : Bool) → nat_le (length text) max ≡ b → FitsIn max (cond b (Everything text) (Needs (length text)))
    go true e = grind (arith, nat_tests, e)
    go false e = tt

idle-fits : (dead wait : Bool) (max : ℕ) → FitsIn max (idle_answer dead wait)
idle-fits true wait max = tt
idle-fits false true max = tt
idle-fits false false max = tt

owed-fits : (wait : Bool) (bs : List (List ℕ)) (dead : Bool) (max : ℕ) → FitsIn max (owed_answer wait bs dead max)
owed-fits wait [] dead max = idle-fits dead wait max
owed-fits wait (b ∷ bs) dead max = elim (nat_le (length b) max) as (λ k. FitsIn max (cond k (Blocks (fitting max (b ∷ bs)).0 (fitting max (b ∷ bs)).1) (Needs (length b)))) [ true ↦ (fitting-longest max (b ∷ bs)).fits | false ↦ tt ]

answer-fits : (h : OpenHandle Progress) (s : Progress) (text : List ℕ) (dead : Bool) (max : ℕ) → FitsIn max (answer h s text dead max)
answer-fits h (News true) text dead max = whole-fits text max
answer-fits h (News false) text dead max = idle-fits dead h.options.wait max
answer-fits h Unread text dead max = whole-fits text max
answer-fits h Over text dead max = whole-fits text max
answer-fits h (Owed rest) text dead max = owed-fits h.options.wait (map (block h) (filter (visible h) rest)) dead max

pub read-fits : (c : Content) (h : OpenHandle Progress) (max : ℕ) → FitsIn max (read_answer c h max)
read-fits c h max = answer-fits h h.seen (everything c h) (target_is_dead c h) max

-- ---- what follows is fit

-- moves that are fit wherever they are made
abbrev IsPlain : Move → Type 0
IsPlain (CatchesUp number) = Unit {0}
IsPlain (Advances number count) = Unit {0}
IsPlain (Parks number size) = IsReadSize size
IsPlain (Arms number pulse) = Unit {0}
IsPlain (Queues conn item) = IsBoundItem item
IsPlain _ = ⊥

plain-fit : (c : Content) (x : Move) → IsPlain x → IsFit c x
plain-fit c (CatchesUp number) p = tt
plain-fit c (Advances number count) p = tt
plain-fit c (Parks number size) p = p
plain-fit c (Arms number pulse) p = tt
plain-fit c (Queues conn item) p = p
plain-fit c x p = absurd p

all-fit : (xs : List Move) (c : Content) → AllByRecursion IsPlain xs → AreFit c xs
all-fit [] c all = tt
all-fit (x ∷ xs) c all = (plain-fit c x all.0, all-fit xs (apply_seen x c) all.1)

fired-plain : (h : OpenHandle Progress) → AllByRecursion IsPlain (fired h)
fired-plain h = go h.armed
  where
    go : (o : Option (ℕ × ℕ)) → AllByRecursion IsPlain (option_map_or (λ pulse. Arms h.number None ∷ Queues h.connection (Pulse pulse.0 pulse.1) ∷ []) o [])
    go None = tt
    go (Some pulse) = (tt, (tt, tt))

late-plain : (h : OpenHandle Progress) (size : ℕ) → size ≤ 17000000 → (a : Answer) → FitsIn size a → AllByRecursion IsPlain (late_reply h a)
late-plain h size le (Everything text) fits = (tt, (tt, (omega (arith, le, fits), tt)))
late-plain h size le (Blocks count text) fits = (tt, (tt, (omega (arith, le, fits), tt)))
late-plain h size le (Needs need) fits = (tt, (tt, tt))
late-plain h size le TargetGone fits = tt
late-plain h size le Waits fits = tt
late-plain h size le Nothing fits = tt

lates-plain : (c : Content) (h : OpenHandle Progress) → IsReadSize h.parked → AllByRecursion IsPlain (late_replies c h)
lates-plain c h = go h.parked
  where
    go : (o : Option ℕ) → IsReadSize o → AllByRecursion IsPlain (option_map_or (λ size. late_reply h (read_answer c h size)) o [])
    go None le = tt
    go (Some size) le = late-plain h size le (read_answer c h size) (read-fits c h size)

settled-plain : (before c : Content) (hs : List (OpenHandle Progress)) → AllByRecursion IsBoundHandle hs → AllByRecursion IsPlain (flat_map (settling_handle before c) hs)
settled-plain before c [] all = tt
settled-plain before c (h ∷ hs) all = all-append IsPlain (settling_handle before c h) (flat_map (settling_handle before c) hs)
    (elim (not (had_news before h) && news h) as (λ k. AllByRecursion IsPlain (cond k (fired h ++ late_replies c h) [])) [ true ↦ all-append IsPlain (fired h) (late_replies c h) (fired-plain h) (lates-plain c h all.0.parked) | false ↦ tt ])
    (settled-plain before c hs all.1)

pub settling-fit : (before c : Content) → IsBound c → AreFit c (settling before c)
unfolding settling
settling-fit before c b = all-fit (flat_map (settling_handle before c) c.handles) c (settled-plain before c c.handles b.handles)

-- ---- what a read needs

abbrev pub IsSmallNeed : Answer → Type 0
IsSmallNeed (Needs need) = need < 2 ^ 32
IsSmallNeed _ = Unit {0}

small-whole : (text : List ℕ) (max : ℕ) → length text < 2 ^ 32 → IsSmallNeed (whole_answer text max)
small-whole text max lt = elim (nat_le (length text) max) as (λ k. IsSmallNeed (cond k (Everything text) (Needs (length text)))) [ true ↦ tt | false ↦ lt ]

small-idle : (dead wait : Bool) → IsSmallNeed (idle_answer dead wait)
small-idle true wait = tt
small-idle false true = tt
small-idle false false = tt

small-owed : (wait : Bool) (bs : List (List ℕ)) (dead : Bool) (max : ℕ) → AllByRecursion (λ b. length b < 2 ^ 32) bs → IsSmallNeed (owed_answer wait bs dead max)
small-owed wait [] dead max all = small-idle dead wait
small-owed wait (b ∷ bs) dead max all = elim (nat_le (length b) max) as (λ k. IsSmallNeed (cond k (Blocks (fitting max (b ∷ bs)).0 (fitting max (b ∷ bs)).1) (Needs (length b)))) [ true ↦ tt | false ↦ all.0 ]

-- a member's name has at most 255 bytes, and its attributes at most 65,536
abbrev IsSmallMember : Member → Type 0
IsSmallMember m = (length m.name ≤ 255) × (length (print_lines m.lines) ≤ 65536)

header-length : (mark name : List ℕ) → length (print_header mark name) ≡ length mark + length name + 2
header-length mark name = simp (length-append) (omega arith)

-- so many for each
abbrev times : {X : Type 0} → ℕ → List X → ℕ
times most [] = 0
times most (x ∷ xs) = most + times most xs

concat-times : {X : Type 0} (most : ℕ) (f : X → List ℕ) (P : X → Type 0) → ((x : X) → P x → length (f x) ≤ most) → (xs : List X) → AllByRecursion P xs → length (concat (map f xs)) ≤ times most xs
concat-times most f P le [] all = omega arith
concat-times most f P le (x ∷ xs) all =
    let first = le x all.0 in let rest = concat-times most f P le xs all.1 in
    rw (length-append (f x) (concat (map f xs))) (omega (arith, first, rest))

times-66000 : {X : Type 0} (xs : List X) → times 66000 xs ≡ length xs * 66000
times-66000 [] = refl
times-66000 (x ∷ xs) = let rest = times-66000 xs in omega (arith, rest)

times-300 : {X : Type 0} (xs : List X) → times 300 xs ≡ length xs * 300
times-300 [] = refl
times-300 (x ∷ xs) = let rest = times-300 xs in omega (arith, rest)

concat-length : {X : Type 0} (f : X → List ℕ) (P : X → Type 0) → ((x : X) → P x → length (f x) ≤ 66000) → (xs : List X) → AllByRecursion P xs → length (concat (map f xs)) ≤ length xs * 66000
concat-length f P le xs all = let same = times-66000 xs in let most = concat-times 66000 f P le xs all in omega (arith, same, most)

pub names-length : {X : Type 0} (f : X → List ℕ) (P : X → Type 0) → ((x : X) → P x → length (f x) ≤ 300) → (xs : List X) → AllByRecursion P xs → length (concat (map f xs)) ≤ length xs * 300
names-length f P le xs all = let same = times-300 xs in let most = concat-times 300 f P le xs all in omega (arith, same, most)

member-length : (mark : List ℕ) → length mark ≤ 1 → (parts : Option (List Part)) (m : Member) → IsSmallMember m → length (print_member mark parts m) ≤ 66000
member-length mark le parts m small =
    let head = header-length mark m.name in let kept = kept-lines (matches parts) m.lines in
    rw (length-append (print_header mark m.name) (print_lines (filter (matches parts) m.lines))) (omega (arith, head, kept, le, small.0, small.1))

heading-length : (mark : List ℕ) → length mark ≤ 1 → (m : Member) → IsSmallMember m → length (print_header mark m.name) ≤ 66000
heading-length mark le m small = let head = header-length mark m.name in omega (arith, head, le, small.0)

overflow-length : (over : Bool) → length (overflow_line over) ≤ 10
overflow-length true = omega arith
overflow-length false = omega arith

mark-length : (over : Bool) → length (overflow_mark over) ≤ 1
mark-length true = omega arith
mark-length false = omega arith

everything-length : (k : HandleKind) (parts : Option (List Part)) (over alive : Bool) (ms : List Member) → AllByRecursion IsSmallMember ms → length ms ≤ 256 → length (everything_of k parts over alive ms) < 2 ^ 32
everything-length (ObjectHandle delta) parts over false ms all few = let le = concat-length (λ (m : Member). print_header (codes "-") m.name) IsSmallMember (heading-length (codes "-") (omega arith)) ms all in omega (arith, le, few)
everything-length (ObjectHandle delta) parts over true ms all few = let le = concat-length (print_member (overflow_mark over) parts) IsSmallMember (member-length (overflow_mark over) (mark-length over) parts) ms all in omega (arith, le, few)
everything-length (DirectoryHandle delta) parts over alive ms all few =
    let le = concat-length (print_member [] parts) IsSmallMember (member-length [] (omega arith) parts) ms all in let first = overflow-length over in
    rw (length-append (overflow_line over) (concat (map (print_member [] parts) ms))) (omega (arith, le, first, few))
everything-length NamesHandle parts over alive ms all few =
    let le = concat-length (λ (m : Member). print_header [] m.name) IsSmallMember (heading-length [] (omega arith)) ms all in let first = overflow-length over in
    rw (length-append (overflow_line over) (concat (map (λ (m : Member). print_header [] m.name) ms))) (omega (arith, le, first, few))
everything-length ServerHandle parts over alive ms all few = omega arith
everything-length ClientHandle parts over alive ms all few = omega arith

all-inserted : {X K : Type 0} (P : X → Type 0) (cmp : K → K → Ordering) (key : X → K) (x : X) (xs : List X) → P x → AllByRecursion P xs → AllByRecursion P (insert_by cmp key x xs)
all-inserted P cmp key x [] p all = (p, tt)
all-inserted P cmp key x (y ∷ ys) p all = elim (is_lt (cmp (key x) (key y))) as (λ b. AllByRecursion P (cond b (x ∷ y ∷ ys) (y ∷ insert_by cmp key x ys))) [ true ↦ (p, all) | false ↦ (all.0, all-inserted P cmp key x ys p all.1) ]

pub all-sorted : {X K : Type 0} (P : X → Type 0) (cmp : K → K → Ordering) (key : X → K) (xs : List X) → AllByRecursion P xs → AllByRecursion P (sorted_by cmp key xs)
all-sorted P cmp key [] all = all
all-sorted P cmp key (x ∷ xs) all = all-inserted P cmp key x (sorted_by cmp key xs) all.0 (all-sorted P cmp key xs all.1)

small-members : (os : List LiveObject) → AllByRecursion IsBoundObject os → AllByRecursion IsSmallMember (map member os)
small-members [] all = all
small-members (o ∷ os) all = ((all.0.0, all.0.1), small-members os all.1)

attributes-length : (c : Content) (number : ℕ) → IsBound c → text_length (attributes_of c number) ≤ 65536
attributes-length c number b = go (object_numbered c number) refl
  where
    go : (o : Option LiveObject) → object_numbered c number ≡ o → text_length (option_map_or (λ (o : LiveObject). o.attributes) o []) ≤ 65536
    go None e = omega arith
    go (Some o) e = (all-find IsBoundObject (λ o. o.object.number == number) c.objects o b.objects e).1

targets-small : (c : Content) (h : OpenHandle Progress) → IsBound c → length h.name ≤ 255 → AllByRecursion IsSmallMember (target_members c h) × (length (target_members c h) ≤ 256)
targets-small c h b name = elim (is_directory_kind h.kind) as (λ k. AllByRecursion IsSmallMember (cond k (map member (members c h.target)) (record { name = h.name; lines = map line_of (attributes_of c h.target) } ∷ [])) × (length (cond k (map member (members c h.target)) (record { name = h.name; lines = map line_of (attributes_of c h.target) } ∷ [])) ≤ 256)) [
  | true ↦ (
    small-members (members c h.target) (all-sorted IsBoundObject name_cmp (λ (o : LiveObject). o.object.name) (filter (λ o. o.object.directory == h.target) c.objects) (all-filter IsBoundObject (λ o. o.object.directory == h.target) c.objects b.objects)),
    rw (length-map (members c h.target) member, members-crowd c h.target) (b.crowds h.target),
  )
  | false ↦ (((name, attributes-length c h.target b), tt), omega arith)
]

-- ---- blocks

abbrev IsSmallShown : Option Shown → Type 0
IsSmallShown None = Unit {0}
IsSmallShown (Some s) = (length s.mark ≤ 1) × (length s.suffix ≤ 11) × (length (print_lines s.lines) ≤ 400000)

small-client : (mark : List ℕ) → length mark ≤ 1 → (id : ℕ) → id < 2 ^ 32 → (lines : List Line) → length (print_lines lines) ≤ 400000 → IsSmallShown (with_client mark id lines)
small-client mark le id low lines short = (le, (let digits = length-decimal-le 10 id (omega arith) (omega (arith, low)) (omega (arith, low)) in rw (length-append (codes ".") (decimal id)) (omega (arith, digits))), short)

small-matching : (parts : Option (List Part)) (lines : List Line) → length (print_lines lines) ≤ 400000 → IsSmallShown (matching_lines parts lines)
small-matching parts lines short = elim (list_any (matches parts) lines) as (λ k. IsSmallShown (cond k (with_lines (filter (matches parts) lines)) None)) [ true ↦ (omega arith, omega arith, (let kept = kept-lines (matches parts) lines in omega (arith, kept, short))) | false ↦ tt ]

small-object : (parts : Option (List Part)) (k : Kind) → length (print_lines (lines_of k)) ≤ 400000 → IsSmallShown (shown_to_object parts k)
small-object parts Created s = tt
small-object parts (Change lines) s = small-matching parts lines s
small-object parts Truncated s = (omega arith, omega arith, omega arith)
small-object parts Dropped s = (omega arith, omega arith, omega arith)
small-object parts Deleted s = (omega arith, omega arith, omega arith)
small-object parts (Opened id) s = tt
small-object parts (Closed id) s = tt
small-object parts (FromClient id lines) s = tt
small-object parts (ToClient id lines) s = tt
small-object parts (ToAll lines) s = tt

small-directory : (parts : Option (List Part)) (k : Kind) → length (print_lines (lines_of k)) ≤ 400000 → IsSmallShown (shown_to_directory parts k)
small-directory parts Created s = (omega arith, omega arith, omega arith)
small-directory parts (Change lines) s = small-object parts (Change lines) s
small-directory parts Truncated s = small-object parts Truncated s
small-directory parts Dropped s = small-object parts Dropped s
small-directory parts Deleted s = small-object parts Deleted s
small-directory parts (Opened id) s = tt
small-directory parts (Closed id) s = tt
small-directory parts (FromClient id lines) s = tt
small-directory parts (ToClient id lines) s = tt
small-directory parts (ToAll lines) s = tt

small-names : (k : Kind) → IsSmallShown (shown_to_names k)
small-names Created = (omega arith, omega arith, omega arith)
small-names Deleted = (omega arith, omega arith, omega arith)
small-names (Change lines) = tt
small-names Truncated = tt
small-names Dropped = tt
small-names (Opened id) = tt
small-names (Closed id) = tt
small-names (FromClient id lines) = tt
small-names (ToClient id lines) = tt
small-names (ToAll lines) = tt

small-server : (k : Kind) → length (print_lines (lines_of k)) ≤ 400000 → client_of k < 2 ^ 32 → IsSmallShown (shown_to_server k)
small-server (Opened id) s low = small-client (codes "+") (omega arith) id low [] (omega arith)
small-server (Closed id) s low = small-client (codes "-") (omega arith) id low [] (omega arith)
small-server (FromClient id lines) s low = small-client [] (omega arith) id low lines s
small-server Created s low = tt
small-server Deleted s low = tt
small-server (Change lines) s low = tt
small-server Truncated s low = tt
small-server Dropped s low = tt
small-server (ToClient id lines) s low = tt
small-server (ToAll lines) s low = tt

small-to_client : (number : ℕ) (k : Kind) → length (print_lines (lines_of k)) ≤ 400000 → IsSmallShown (shown_to_client number k)
small-to_client number Deleted s = (omega arith, omega arith, omega arith)
small-to_client number (ToClient id lines) s = elim (id == number) as (λ b. IsSmallShown (cond b (with_lines lines) None)) [ true ↦ (omega arith, omega arith, s) | false ↦ tt ]
small-to_client number (ToAll lines) s = (omega arith, omega arith, s)
small-to_client number Created s = tt
small-to_client number (Change lines) s = tt
small-to_client number Truncated s = tt
small-to_client number Dropped s = tt
small-to_client number (Opened id) s = tt
small-to_client number (Closed id) s = tt
small-to_client number (FromClient id lines) s = tt

small-shown : (k : HandleKind) (number : ℕ) (parts : Option (List Part)) (kind : Kind) → length (print_lines (lines_of kind)) ≤ 400000 → client_of kind < 2 ^ 32 → IsSmallShown (shown k number parts kind)
small-shown (ObjectHandle delta) number parts kind s low = small-object parts kind s
small-shown (DirectoryHandle delta) number parts kind s low = small-directory parts kind s
small-shown NamesHandle number parts kind s low = small-names kind
small-shown ServerHandle number parts kind s low = small-server kind s low
small-shown ClientHandle number parts kind s low = small-to_client number kind s

printed-length : (name : List ℕ) → length name ≤ 255 → (o : Option Shown) → IsSmallShown o → length (print_shown name o) < 2 ^ 32
printed-length name le None small = omega arith
printed-length name le (Some s) small =
    let head = header-length s.mark (name ++ s.suffix) in let joined = length-append name s.suffix in
    rw (length-append (print_header s.mark (name ++ s.suffix)) (print_lines s.lines)) (omega (arith, head, joined, le, small.0, small.1, small.2))

block-length : (h : OpenHandle Progress) (e : Entry) → IsShort e → length (block h e) < 2 ^ 32
block-length h e short = printed-length e.name short.0 (shown h.kind h.number h.options.filter e.record_of.kind) (small-shown h.kind h.number h.options.filter e.record_of.kind short.1 short.2)

blocks-length : (h : OpenHandle Progress) (es : List Entry) → AllByRecursion IsShort es → AllByRecursion (λ b. length b < 2 ^ 32) (map (block h) es)
blocks-length h [] all = all
blocks-length h (e ∷ es) all = (block-length h e all.0, blocks-length h es all.1)

-- ---- the answer

small-answer : (h : OpenHandle Progress) (s : Progress) → AreShort s → (text : List ℕ) → length text < 2 ^ 32 → (dead : Bool) (max : ℕ) → IsSmallNeed (answer h s text dead max)
small-answer h (News true) short text lt dead max = small-whole text max lt
small-answer h (News false) short text lt dead max = small-idle dead h.options.wait
small-answer h Unread short text lt dead max = small-whole text max lt
small-answer h Over short text lt dead max = small-whole text max lt
small-answer h (Owed rest) short text lt dead max = small-owed h.options.wait (map (block h) (filter (visible h) rest)) dead max (blocks-length h (filter (visible h) rest) (all-filter IsShort (visible h) rest short))

pub small-read : (c : Content) (h : OpenHandle Progress) (max : ℕ) → IsBound c → IsBoundHandle h → IsSmallNeed (read_answer c h max)
small-read c h max b bound =
    let small = targets-small c h b bound.name in
    small-answer h h.seen bound.owed (everything c h) (everything-length h.kind h.options.filter (is_over h.seen) (not (target_is_dead c h)) (target_members c h) small.0 small.1) (target_is_dead c h) max

pub needs-fit : (c : Content) (h : OpenHandle Progress) (max need : ℕ) → IsBound c → IsBoundHandle h → read_answer c h max ≡ Needs need → need < 2 ^ 32
needs-fit c h max need b bound e = rw e at (small-read c h max b bound)
