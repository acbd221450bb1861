-- What an event that no check refuses changes is fit.
use Rattle.std.proofs.Common.{arith, ap, sym}
use Rattle.std.specs.Prelude.{◌≡◌, ◌≤◌, ◌<◌, ℕ, ◌^◌, List, [], ◌∷◌, ◌++◌, ◌==◌, ◌&&◌, not, Bool, true, false, cond, nat_lt, Option, Some, None, is_some, Result, Ok, Err, find, map, fold, length, refl}
use Rattle.std.proofs.lemmas.Bool.Decides.{nat_tests}
use Rattle.std.specs.Option.{option_map_or}
use Rattle.std.specs.List.{AllByRecursion}
use Rattle.pps_types.specs.declared.refusal.Refusal.{Refusal}
use Rattle.pps_types.specs.declared.refusal.Refusal.TheVariants.{BadHandle}
use Rattle.pps_types.specs.declared.outcome.Outcome.{Outcome}
use Rattle.pps_types.specs.declared.outcome.Item.TheVariants.{ReadDone}
use Rattle.pps_types.specs.declared.record.Kind.{Kind}
use Rattle.pps_types.specs.declared.record.Kind.TheVariants.{Change, Dropped, Deleted, Closed, FromClient, ToClient, ToAll}
use Rattle.pps_types.specs.declared.handle_kind.HandleKind.{HandleKind}
use Rattle.pps_types.specs.declared.handle_kind.HandleKind.TheVariants.{Object as ObjectHandle, Directory as DirectoryHandle, Names as NamesHandle, Server as ServerHandle, Client as ClientHandle}
use Rattle.pps_types.specs.Bytes.{is_empty}
use Rattle.pps_types.specs.Text.{WriteText, write_text, print_lines}
use Rattle.pps_types.specs.History.{Attribute, after_kind, text_length, resolve, message_line, apply_line}
use Rattle.pps_types.specs.Reading.{OpenHandle, is_directory_kind}
use Rattle.pps_types.specs.Rests.{Progress}
use Rattle.pps_types.specs.Content.{LiveObject, Content, object_numbered, attributes_of, handles_of}
use Rattle.pps_types.specs.Checks.{first_refusal, parsed, Addressee, Everyone, OneClient, Nobody, addressee, own_header, limit_checks, changed, text_checks, write_checks}
use Rattle.pps_types.specs.Plan.{Move, AppendsRecord, Closes, Queues, Leaves, apply_seen, apply_all_seen, entry_of, on_target, written_kind, sent, writing, parting, closing, closings, with_result}
use Rattle.pps_types.specs.WellFormed.{AreInOrder}
use Rattle.pps_types.proofs.Lists.{all-weaken}
use Rattle.service_laws.proofs.Finds.{all-find, all-filter}
use Rattle.service_laws.proofs.Rising.{rising-below, only-one}
use Rattle.service_laws.proofs.Passes.{all-pass, none-fails, passes-both, or-false}
use Rattle.service_laws.specs.Bounds.{lines_of, client_of, IsBoundObject, IsBoundHandle, IsBound}
use Rattle.service_laws.specs.Fit.{IsFit, AreFit}
use Rattle.service_laws.proofs.BoundedMoves.{keeps-all}
use Rattle.service_laws.proofs.BoundedTexts.{OfOk, PrintsShort, prints-short, kept-length}

-- ---- moves in a row

pub fit-append : (xs ys : List Move) (c : Content) → AreFit c xs → AreFit (apply_all_seen xs c) ys → AreFit c (xs ++ ys)
fit-append [] ys c f g = g
fit-append (x ∷ xs) ys c f g = (f.0, fit-append xs ys (apply_seen x c) f.1 g)

-- ---- records

-- all objects of the number keep texts of at most 65,536 bytes
abbrev pub AllStay : Content → ℕ → Kind → Type 0
AllStay c number kind = AllByRecursion (λ (o : LiveObject). o.object.number ≡ number → text_length (after_kind o.attributes kind) ≤ 65536) c.objects

-- a record that sets nothing
pub shrink : (kind : Kind) → ((attributes : List Attribute) → text_length (after_kind attributes kind) ≤ text_length attributes) → (c : Content) → IsBound c → (number : ℕ) → AllStay c number kind
shrink kind less c b number = all-weaken {P = IsBoundObject} {Q = λ (o : LiveObject). o.object.number ≡ number → text_length (after_kind o.attributes kind) ≤ 65536} (λ o bound own. (let le = less o.attributes in omega (arith, le, bound.1))) c.objects b.objects

pub found-fit : (c : Content) (o : LiveObject) (test : LiveObject → Bool) (kind : Kind) (writer : Option ℕ) → IsBound c → find test c.objects ≡ Some o → length (print_lines (lines_of kind)) ≤ 400000 → client_of kind < 2 ^ 32 → AllStay c o.object.number kind
    → IsFit c (AppendsRecord (entry_of o.object kind writer))
found-fit c o test kind writer b e lines client stay = (((all-find IsBoundObject test c.objects o b.objects e).0, lines, client), stay)

pub target-fit : (c : Content) (h : OpenHandle Progress) (kind : Kind) (writer : Option ℕ) → IsBound c → length (print_lines (lines_of kind)) ≤ 400000 → client_of kind < 2 ^ 32
    → ((o : LiveObject) → object_numbered c h.target ≡ Some o → AllStay c o.object.number kind) → AreFit c (on_target c h kind writer)
target-fit c h kind writer b lines client stay = go (object_numbered c h.target) refl
  where
    go : (o : Option LiveObject) → object_numbered c h.target ≡ o → AreFit c (option_map_or (λ o. AppendsRecord (entry_of o.object kind writer) ∷ []) o [])
    go None e = tt
    go (Some o) e = (found-fit c o (λ o. o.object.number == h.target) kind writer b e lines client (stay o e), tt)

-- ---- Write

-- a change whose whole result is within the limit
change-stays : (c : Content) (target : ℕ) (text : WriteText) → AreInOrder c → text_length (fold apply_line (attributes_of c target) (resolve (attributes_of c target) text.lines)) ≤ 65536
    → (o : LiveObject) → object_numbered c target ≡ Some o → AllStay c o.object.number (Change (resolve (attributes_of c target) text.lines))
change-stays c target text order le o e =
    all-weaken {P = λ (p : LiveObject). p.object.number ≡ o.object.number → p ≡ o} {Q = λ (p : LiveObject). p.object.number ≡ o.object.number → text_length (fold apply_line p.attributes (resolve (attributes_of c target) text.lines)) ≤ 65536}
    (λ p only own. (let is : p ≡ o = only own in let attributes : attributes_of c target ≡ o.attributes = ap (λ f. option_map_or (λ (o : LiveObject). o.attributes) f []) e in rw (is, sym attributes) le))
    c.objects (only-one (λ (o : LiveObject). o.object.number) (λ (o : LiveObject). o.object.number == target) 0 c.next_object c.objects order.objects_rise o e)

within-limit : (attributes : List Attribute) → first_refusal (limit_checks attributes) ≡ None → text_length attributes ≤ 65536
within-limit attributes p =
    let tests = all-pass (limit_checks attributes) p in
    let long = or-false (nat_lt 1024 (length attributes)) (nat_lt 65536 (text_length attributes)) tests.0 in
    grind (arith, nat_tests, long.1)

sent-fit : (c : Content) (h : OpenHandle Progress) (to : Addressee) (text : WriteText) → IsBound c → length (print_lines (map message_line text.lines)) ≤ 400000 → AreFit c (on_target c h (sent to (map message_line text.lines)) (Some h.number))
sent-fit c h Everyone text b le = target-fit c h (ToAll (map message_line text.lines)) (Some h.number) b le (omega arith) (λ o e. shrink (ToAll (map message_line text.lines)) (λ attributes. omega arith) c b o.object.number)
sent-fit c h Nobody text b le = target-fit c h (ToAll (map message_line text.lines)) (Some h.number) b le (omega arith) (λ o e. shrink (ToAll (map message_line text.lines)) (λ attributes. omega arith) c b o.object.number)
sent-fit c h (OneClient id) text b le = target-fit c h (ToClient id (map message_line text.lines)) (Some h.number) b le (omega arith) (λ o e. shrink (ToClient id (map message_line text.lines)) (λ attributes. omega arith) c b o.object.number)

written-fit : (c : Content) (h : OpenHandle Progress) (kind : HandleKind) (text : WriteText) → AreInOrder c → IsBound c → h.number < 2 ^ 32 → is_directory_kind kind ≡ false → PrintsShort text → first_refusal (text_checks c h kind text) ≡ None
    → AreFit c (on_target c h (written_kind c h kind text) (Some h.number))
written-fit c h (ObjectHandle delta) text order b low plain short p =
    target-fit c h (Change (resolve (attributes_of c h.target) text.lines)) (Some h.number) b (short.0 (attributes_of c h.target)) (omega arith)
    (change-stays c h.target text order (within-limit (changed c h text) (passes-both (own_header h.name text.header) (limit_checks (changed c h text)) p).1))
written-fit c h ServerHandle text order b low plain short p = sent-fit c h (addressee h.name text.header) text b short.1
written-fit c h ClientHandle text order b low plain short p =
    target-fit c h (FromClient h.number (map message_line text.lines)) (Some h.number) b short.1 low (λ o e. shrink (FromClient h.number (map message_line text.lines)) (λ attributes. omega arith) c b o.object.number)
written-fit c h (DirectoryHandle delta) text order b low plain short p = absurd (let h = plain in cc)
written-fit c h NamesHandle text order b low plain short p = absurd (let h = plain in cc)

pub low-number : (c : Content) (h : OpenHandle Progress) (test : OpenHandle Progress → Bool) → AreInOrder c → IsBound c → find test c.handles ≡ Some h → h.number < 2 ^ 32
low-number c h test order b e =
    let below : h.number < c.next_handle = all-find (λ (h : OpenHandle Progress). h.number < c.next_handle) test c.handles h (rising-below (λ (h : OpenHandle Progress). h.number) 0 c.next_handle c.handles order.handles_rise) e in
    omega (arith, below, b.handles_end)

pub bound-handle : (c : Content) (h : OpenHandle Progress) (test : OpenHandle Progress → Bool) → IsBound c → find test c.handles ≡ Some h → IsBoundHandle h
bound-handle c h test b e = all-find IsBoundHandle test c.handles h b.handles e

pub write-fit : (c : Content) (h : OpenHandle Progress) (test : OpenHandle Progress → Bool) (bytes : List ℕ) → AreInOrder c → IsBound c → find test c.handles ≡ Some h → first_refusal (write_checks c bytes h) ≡ None
    → AreFit c (with_result (write_text bytes) (λ text. (Outcome.Wrote (length bytes), writing c h text))).1
write-fit c h test bytes order b e p =
    let tests = all-pass (write_checks c bytes h) p in
    go (write_text bytes) (prints-short bytes (grind (arith, nat_tests, tests.1.0))) (none-fails (parsed (write_text bytes) (text_checks c h h.kind)) tests.1.1.1)
    (elim (is_directory_kind h.kind) as (λ k. (k ≡ true → h.writes ≡ false) → k ≡ false) [ true ↦ (λ listens. absurd (let no = listens refl in let yes = tests.0 in cc)) | false ↦ (λ listens. refl) ] (bound-handle c h test b e).listens)
  where
    go : (r : Result WriteText Refusal) → OfOk PrintsShort r → first_refusal (parsed r (text_checks c h h.kind)) ≡ None → is_directory_kind h.kind ≡ false → AreFit c (with_result r (λ text. (Outcome.Wrote (length bytes), writing c h text))).1
    go (Err r) short q plain = tt
    go (Ok text) short q plain = elim (is_empty text.lines) as (λ k. AreFit c (cond k [] (on_target c h (written_kind c h h.kind text) (Some h.number)))) [ true ↦ tt | false ↦ written-fit c h h.kind text order b (low-number c h test order b e) plain short q ]

-- ---- Close

-- the same objects take the same record
refit : (c d : Content) → d.objects ≡ c.objects → (h : OpenHandle Progress) (kind : Kind) (writer : Option ℕ) → AreFit c (on_target c h kind writer) → AreFit d (on_target c h kind writer)
refit c d same h kind writer = go (object_numbered c h.target)
  where
    go : (o : Option LiveObject) → AreFit c (option_map_or (λ o. AppendsRecord (entry_of o.object kind writer) ∷ []) o []) → AreFit d (option_map_or (λ o. AppendsRecord (entry_of o.object kind writer) ∷ []) o [])
    go None f = tt
    go (Some o) f = ((f.0.0, rw same f.0.1), tt)

parting-fit : (c : Content) (h : OpenHandle Progress) (kind : HandleKind) → IsBound c → h.number < 2 ^ 32 → (d : Content) → d.objects ≡ c.objects → AreFit d (parting c h kind)
parting-fit c h ServerHandle b low d same = refit c d same h Deleted None (target-fit c h Deleted None b (omega arith) (omega arith) (λ o e. shrink Deleted (λ attributes. omega arith) c b o.object.number))
parting-fit c h ClientHandle b low d same = refit c d same h (Closed h.number) None (target-fit c h (Closed h.number) None b (omega arith) low (λ o e. shrink (Closed h.number) (λ attributes. omega arith) c b o.object.number))
parting-fit c h (ObjectHandle delta) b low d same = elim (h.options.critical && h.writes) as (λ k. AreFit d (cond k (on_target c h Dropped None) []))
    [ true ↦ refit c d same h Dropped None (target-fit c h Dropped None b (omega arith) (omega arith) (λ o e. shrink Dropped (λ attributes. kept-length (λ a. not a.n) attributes) c b o.object.number)) | false ↦ tt ]
parting-fit c h (DirectoryHandle delta) b low d same = tt
parting-fit c h NamesHandle b low d same = tt

pub closing-fit : (c : Content) (h : OpenHandle Progress) → IsBound c → h.number < 2 ^ 32 → AreFit c (closing c h)
closing-fit c h b low = (
  tt,
  elim (is_some h.parked) as (λ k. AreFit (apply_seen (Closes h.number) c) ((cond k (Queues h.connection (ReadDone h.number (Err BadHandle)) ∷ []) []) ++ parting c h h.kind)) [
    | true ↦ (tt, parting-fit c h h.kind b low (apply_seen (Queues h.connection (ReadDone h.number (Err BadHandle))) (apply_seen (Closes h.number) c)) refl)
    | false ↦ parting-fit c h h.kind b low (apply_seen (Closes h.number) c) refl
  ],
)

pub closings-fit : (hs : List (OpenHandle Progress)) (c : Content) → IsBound c → AllByRecursion (λ h. h.number < 2 ^ 32) hs → AreFit c (closings c hs)
closings-fit [] c b low = tt
closings-fit (h ∷ hs) c b low =
    let f = closing-fit c h b low.0 in
    fit-append (closing c h) (closings (apply_all_seen (closing c h) c) hs) c f (closings-fit hs (apply_all_seen (closing c h) c) (keeps-all (closing c h) c b f) low.1)

pub leaving-fit : (c : Content) (conn : ℕ) → AreInOrder c → IsBound c → AreFit c (closings c (handles_of c conn) ++ Leaves conn ∷ [])
leaving-fit c conn order b = fit-append (closings c (handles_of c conn)) (Leaves conn ∷ []) c
    (closings-fit (handles_of c conn) c b (all-filter (λ (h : OpenHandle Progress). h.number < 2 ^ 32) (λ h. h.connection == conn) c.handles
    (all-weaken {P = λ (h : OpenHandle Progress). h.number < c.next_handle} {Q = λ (h : OpenHandle Progress). h.number < 2 ^ 32} (λ h below. omega (arith, below, b.handles_end)) c.handles (rising-below (λ (h : OpenHandle Progress). h.number) 0 c.next_handle c.handles order.handles_rise))))
    (tt, tt)
