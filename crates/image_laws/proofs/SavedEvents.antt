-- An event leaves what can be saved so.
use Rattle.std.proofs.Common.{◌≡◌, ◌≤◌, ◌<◌, ℕ, ◌+◌, Bool, true, false, cond, not, ◌&&◌, eqb, eq-eqb, List, [], ◌∷◌, ◌++◌, length, map, Option, Some, None, Result, Ok, Err, refl, sym, ap, subst, ◌∙◌, arith}
use Rattle.std.specs.Prelude.{find, is_some, fold, option_map, unwrap_or, ok_or, nat_le, nat_lt}
use Rattle.std.specs.Option.{option_map_or, option_or}
use Rattle.std.specs.List.{AllByRecursion, filter_map, cons_option, flat_map}
use Rattle.std.proofs.lemmas.Bool.{or_parts}
use Rattle.std.proofs.lemmas.Bool.Decides.{nat_tests}
use Rattle.pps_types.specs.declared.event.Event.{Event}
use Rattle.pps_types.specs.declared.event.Mode.{Mode}
use Rattle.pps_types.specs.declared.event.Request.{Request}
use Rattle.pps_types.specs.declared.event.Request.TheVariants.{Attach, Detach, Open as OpenRequest, Read, Write, Close, Unlink, Mkdir, List as ListRequest, Notify, Receive}
use Rattle.pps_types.specs.declared.found.Found.{Found}
use Rattle.pps_types.specs.declared.found.Found.TheVariants.{Object as FoundObject, Directory as FoundDirectory}
use Rattle.pps_types.specs.declared.handle_kind.HandleKind.{HandleKind}
use Rattle.pps_types.specs.declared.handle_kind.HandleKind.TheVariants.{Object as ObjectHandle, Directory as DirectoryHandle, Names as NamesHandle, Server as ServerHandle, Client as ClientHandle}
use Rattle.pps_types.specs.declared.line.Line.{Line}
use Rattle.pps_types.specs.declared.outcome.Item.{Item}
use Rattle.pps_types.specs.declared.outcome.Outcome.{Outcome}
use Rattle.pps_types.specs.declared.outcome.Outcome.TheVariants.{Done, Opened as OpenedHandle, Wrote}
use Rattle.pps_types.specs.declared.record.Kind.{Kind}
use Rattle.pps_types.specs.declared.record.Kind.TheVariants.{Change, Truncated, Dropped, Deleted, Opened, Closed, FromClient, ToClient, ToAll}
use Rattle.pps_types.specs.declared.refusal.Refusal.{Refusal}
use Rattle.pps_types.specs.Bytes.{same, is_empty}
use Rattle.pps_types.specs.Text.{WriteText, write_text}
use Rattle.pps_types.specs.Names.{Path, same_path, parent, last_name, place, new_refusal}
use Rattle.pps_types.specs.OpenText.{OpenSpec, open_text, path_text}
use Rattle.pps_types.specs.History.{Attribute, apply_line, resolve, message_line, text_length}
use Rattle.pps_types.specs.Reading.{OpenHandle, is_directory_kind, Answer, Everything, Blocks, Needs, TargetGone, Waits, Nothing}
use Rattle.pps_types.specs.Rests.{Progress}
use Rattle.pps_types.specs.Outbox.{first_of}
use Rattle.pps_types.specs.Content.{Directory, LiveObject, Content, directory_at, parent_number, object_at, object_in, object_numbered, attributes_of, at, subdirectories, own_handle, handles_of, is_attached, queue_of, news, read_answer}
use Rattle.pps_types.specs.Checks.{Refuse, Memory, first_refusal, refused, parsed, letters_fit, mode_fits, handle_checks, all_checks, object_checks, name_checks, open_checks, on_handle, Addressee, Everyone, OneClient, Nobody, addressee, own_header, limit_checks, changed, text_checks, write_checks, on_path, mkdir_checks, checks}
use Rattle.pps_types.specs.WellFormed.{directory_numbered}
use Rattle.pps_types.specs.Plan.{Move, Creates, AppendsRecord, Opens, MakesDirectory, apply_all_seen, entry_of, touched, new_object, preparing, new_handle, opening, found_object, read_effect, sent, written_kind, on_target, writing, parting, closing, closings, unlinking, received, with_path, with_result, effect, fired, late_reply, late_replies, had_news, settling_handle, settling, passes_last_number, all_checks_of, decided, plan, step_seen}
use Rattle.pps_types.specs.Image.{directory_path}
use Rattle.service_laws.proofs.Finds.{all-find, all-imp, some-of}
use Rattle.service_laws.proofs.Rising.{only-one, found-each}
use Rattle.service_laws.proofs.Fits.{IsFree, fit-append, safe-fit}
use Rattle.service_laws.proofs.Trees.{above-of, path-of}
use Rattle.service_laws.proofs.Holders.{Basis}
use Rattle.service_laws.proofs.Passes.{all-pass, none-fails, passes-both, behind, place-at, free-place, settling-safe, object-found, effect-fit}
use Rattle.service_laws.proofs.Settlings.{all-append, all-or, all-cond}
use Rattle.service_laws.proofs.Orders.{ordered}
use Rattle.service_laws.proofs.Effects.{accepted}
use Rattle.service_laws.specs.Bounds.{IsBoundHandle, IsBound}
use Rattle.service_laws.proofs.BoundedTexts.{OfOk}
use Rattle.image_laws.specs.Images.{IsSavedPath}
use Rattle.image_laws.specs.Savable.{AreSavable, CanBeSaved}
use Rattle.image_laws.proofs.Places.{home-path}
use Rattle.image_laws.proofs.Texts.{IsWritten, path-saved, open-saved, text-written}
use Rattle.image_laws.proofs.Attributes.{lines-attributes, resolve-setting}
use Rattle.image_laws.proofs.SavedMoves.{LeavesSavable, AreSaving, saving-append, IsQuiet, AreQuiet, quiet-saving, fewer-objects, saved-after}
use Rattle.image_laws.proofs.Started.{parent-last}

-- ---- what is saved alike wherever it is made

quiet-flat : {X : Type 0} (f : X → List Move) → ((x : X) → AreQuiet (f x)) → (xs : List X) → AreQuiet (flat_map f xs)
quiet-flat f p [] = tt
quiet-flat f p (x ∷ xs) = all-append IsQuiet (f x) (flat_map f xs) (p x) (quiet-flat f p xs)

late_reply-quiet : (h : OpenHandle Progress) (a : Answer) → AreQuiet (late_reply h a)
late_reply-quiet h (Everything text) = ((λ c. tt), ((λ c. tt), ((λ c. tt), tt)))
late_reply-quiet h (Blocks count text) = ((λ c. tt), ((λ c. tt), ((λ c. tt), tt)))
late_reply-quiet h (Needs need) = ((λ c. tt), ((λ c. tt), tt))
late_reply-quiet h TargetGone = tt
late_reply-quiet h Waits = tt
late_reply-quiet h Nothing = tt

settling-quiet : (before c : Content) → AreQuiet (settling before c)
unfolding settling
settling-quiet before c = quiet-flat (settling_handle before c) (λ h. all-cond IsQuiet (not (had_news before h) && news h) (fired h ++ late_replies c h) []
    (all-append IsQuiet (fired h) (late_replies c h) (all-or IsQuiet _ (λ pulse. ((λ c. tt), ((λ c. tt), tt))) h.armed) (all-or IsQuiet _ (λ size. late_reply-quiet h (read_answer c h size)) h.parked)) tt) c.handles

target-quiet : (c : Content) (h : OpenHandle Progress) (kind : Kind) (writer : Option ℕ) → ((d : Content) (number : ℕ) → LeavesSavable d number kind) → AreQuiet (on_target c h kind writer)
target-quiet c h kind writer few = all-or IsQuiet _ (λ o. ((λ d. few d o.object.number), tt)) (object_numbered c h.target)

parting-quiet : (c : Content) (h : OpenHandle Progress) (k : HandleKind) → AreQuiet (parting c h k)
parting-quiet c h ServerHandle = target-quiet c h Deleted None (λ d number. tt)
parting-quiet c h ClientHandle = target-quiet c h (Closed h.number) None (λ d number. tt)
parting-quiet c h NamesHandle = tt
parting-quiet c h (ObjectHandle delta) = all-cond IsQuiet (h.options.critical && h.writes) _ [] (target-quiet c h Dropped None (λ d number. tt)) tt
parting-quiet c h (DirectoryHandle delta) = tt

closing-quiet : (c : Content) (h : OpenHandle Progress) → AreQuiet (closing c h)
closing-quiet c h = ((λ c. tt), all-append IsQuiet _ (parting c h h.kind) (all-cond IsQuiet (is_some h.parked) _ [] ((λ c. tt), tt) tt) (parting-quiet c h h.kind))

closings-quiet : (c : Content) (hs : List (OpenHandle Progress)) → AreQuiet (closings c hs)
closings-quiet c [] = tt
closings-quiet c (h ∷ hs) = all-append IsQuiet (closing c h) (closings (apply_all_seen (closing c h) c) hs) (closing-quiet c h) (closings-quiet (apply_all_seen (closing c h) c) hs)

read-quiet : (h : OpenHandle Progress) (size : ℕ) (a : Answer) → AreQuiet (read_effect h size a).1
read-quiet h size (Everything text) = ((λ c. tt), tt)
read-quiet h size (Blocks count text) = ((λ c. tt), tt)
read-quiet h size Waits = ((λ c. tt), tt)
read-quiet h size (Needs need) = tt
read-quiet h size TargetGone = tt
read-quiet h size Nothing = tt

unlinking-quiet : (o : Option LiveObject) (d : Option Directory) → AreQuiet (unlinking o d)
unlinking-quiet (Some o) d = ((λ c. tt), tt)
unlinking-quiet None (Some d) = ((λ c. tt), tt)
unlinking-quiet None None = tt

received-quiet : (conn : ℕ) (i : Option Item) → AreQuiet (received conn i).1
received-quiet conn None = tt
received-quiet conn (Some i) = ((λ c. tt), tt)

quiet-outcome : {X : Type 0} (f : X → Outcome × List Move) → ((x : X) → AreQuiet (f x).1) → (o : Option X) → AreQuiet (option_map_or f o (Done, [])).1
quiet-outcome f p None = tt
quiet-outcome f p (Some x) = p x

-- ---- Write

few-within : (attributes : List Attribute) → first_refusal (limit_checks attributes) ≡ None → length attributes ≤ 1024
few-within attributes p =
    let tests = all-pass (limit_checks attributes) p in
    let many = or_parts (nat_lt 1024 (length attributes)) (nat_lt 65536 (text_length attributes)) tests.0 in
    grind (arith, nat_tests, many.0)

-- a change of lines that have a printing, whose result is within the limit
change-savable : (c : Content) (b : Basis c) (s : CanBeSaved c) (h : OpenHandle Progress) (text : WriteText) → AllByRecursion IsWritten text.lines → length (changed c h text) ≤ 1024
    → (o : LiveObject) → object_numbered c h.target ≡ Some o → LeavesSavable c o.object.number (Change (resolve (attributes_of c h.target) text.lines))
change-savable c b s h text written le o e =
    all-imp (λ (p : LiveObject). p.object.number ≡ o.object.number → p ≡ o) (λ p. p.object.number ≡ o.object.number → AreSavable (fold apply_line p.attributes ls)) (λ p only own. subst (λ p. AreSavable (fold apply_line p.attributes ls)) (sym (only own)) few) c.objects
    (only-one (λ (p : LiveObject). p.object.number) (λ p. eqb p.object.number h.target) 0 c.next_object c.objects b.order.1 o e)
  where
    ls : List Line
    ls = resolve (attributes_of c h.target) text.lines

    same : attributes_of c h.target ≡ o.attributes
    same = ap (λ f. option_map_or (λ (o : LiveObject). o.attributes) f []) e

    few : AreSavable (fold apply_line o.attributes ls)
    few = (
      lines-attributes o.attributes ls (all-find (λ (o : LiveObject). AreSavable o.attributes) (λ o. eqb o.object.number h.target) c.objects o s.attributes e).0 (resolve-setting (attributes_of c h.target) text.lines written),
      subst (λ attributes. length (fold apply_line attributes ls) ≤ 1024) same le,
    )

sent-quiet : (c : Content) (h : OpenHandle Progress) (to : Addressee) (lines : List Line) → AreQuiet (on_target c h (sent to lines) (Some h.number))
sent-quiet c h Everyone lines = target-quiet c h (ToAll lines) (Some h.number) (λ d number. tt)
sent-quiet c h Nobody lines = target-quiet c h (ToAll lines) (Some h.number) (λ d number. tt)
sent-quiet c h (OneClient id) lines = target-quiet c h (ToClient id lines) (Some h.number) (λ d number. tt)

written-saving : (c : Content) → Basis c → CanBeSaved c → (h : OpenHandle Progress) (kind : HandleKind) (text : WriteText) → is_directory_kind kind ≡ false → AllByRecursion IsWritten text.lines → first_refusal (text_checks c h kind text) ≡ None
    → AreSaving c (on_target c h (written_kind c h kind text) (Some h.number))
written-saving c b s h (ObjectHandle delta) text plain written p =
    go (object_numbered c h.target) (change-savable c b s h text written (few-within (changed c h text) (passes-both (own_header h.name text.header) (limit_checks (changed c h text)) p).1))
  where
    go : (f : Option LiveObject) → ((o : LiveObject) → f ≡ Some o → LeavesSavable c o.object.number (Change (resolve (attributes_of c h.target) text.lines)))
        → AreSaving c (option_map_or (λ o. AppendsRecord (entry_of o.object (Change (resolve (attributes_of c h.target) text.lines)) (Some h.number)) ∷ []) f [])
    go None few = tt
    go (Some o) few = (few o refl, tt)
written-saving c b s h ServerHandle text plain written p = quiet-saving _ c (sent-quiet c h (addressee h.name text.header) (map message_line text.lines))
written-saving c b s h ClientHandle text plain written p = quiet-saving _ c (target-quiet c h (FromClient h.number (map message_line text.lines)) (Some h.number) (λ d number. tt))
written-saving c b s h (DirectoryHandle delta) text plain written p = absurd (let no = plain in cc)
written-saving c b s h NamesHandle text plain written p = absurd (let no = plain in cc)

-- a handle on a directory does not write
no-directory : (h : OpenHandle Progress) → IsBoundHandle h → not h.writes ≡ false → is_directory_kind h.kind ≡ false
no-directory h b writes = go (is_directory_kind h.kind) b.listens
  where
    go : (k : Bool) → (k ≡ true → h.writes ≡ false) → k ≡ false
    go true listens = absurd (let no = listens refl in let yes = writes in cc)
    go false listens = refl

write-saving : (c : Content) → Basis c → CanBeSaved c → (h : OpenHandle Progress) → IsBoundHandle h → (bytes : List ℕ) → first_refusal (write_checks c bytes h) ≡ None → AreSaving c (with_result (write_text bytes) (λ text. (Wrote (length bytes), writing c h text))).1
write-saving c b s h bound bytes p =
    let tests = all-pass (write_checks c bytes h) p in
    go (no-directory h bound tests.0) (write_text bytes) (text-written bytes) (none-fails (parsed (write_text bytes) (text_checks c h h.kind)) tests.1.1.1)
  where
    go : is_directory_kind h.kind ≡ false → (r : Result WriteText Refusal) → OfOk (λ (text : WriteText). AllByRecursion IsWritten text.lines) r → first_refusal (parsed r (text_checks c h h.kind)) ≡ None → AreSaving c (with_result r (λ text. (Wrote (length bytes), writing c h text))).1
    go plain (Err r) written q = tt
    go plain (Ok text) written q = elim (is_empty text.lines) as (λ k. AreSaving c (cond k [] (on_target c h (written_kind c h h.kind text) (Some h.number)))) [ true ↦ tt | false ↦ written-saving c b s h h.kind text plain written q ]

-- ---- paths

-- the directory of a path's place, and its last name, are the path
pub made-path : (c : Content) → Basis c → (path : Path) (k : ℕ) → is_empty path ≡ false → parent_number c path ≡ Some k → directory_path c k ++ last_name path ∷ [] ≡ path
made-path c b [] k some e = absurd (let no = some in cc)
made-path c b (n ∷ ns) k some e =
    let above = above-of c (n ∷ ns) k e in
    let own : directory_numbered c above.0.number ≡ Some above.0 = all-find (λ (d : Directory). find (λ x. eqb x.number d.number) c.directories ≡ Some d) (λ d. same_path d.path (parent (n ∷ ns))) c.directories above.0
    (found-each (λ (d : Directory). d.number) 0 c.next_directory c.directories b.order.2) above.1 in
    ap (λ p. p ++ last_name (n ∷ ns) ∷ []) (home-path c k above.0 (ap (directory_numbered c) (sym above.2) ∙ own) ∙ path-of c (parent (n ∷ ns)) above.0 above.1) ∙ parent-last n ns

unwrap-of : (o : Option ℕ) (k : ℕ) → o ≡ Some k → unwrap_or o 0 ≡ k
unwrap-of o k e = ap (λ o. unwrap_or o 0) e

mkdir-saving : (c : Content) (text : List ℕ) → first_refusal (on_path text (mkdir_checks c)) ≡ None → AreSaving c (with_path text (λ names. (Done, MakesDirectory names ∷ []))).1
mkdir-saving c text p = go (path_text text) refl p
  where
    room : (names : Path) → first_refusal (mkdir_checks c names) ≡ None → length c.directories < 65536
    room names p =
        let rest = passes-both (refused (new_refusal (at c) names)) (Refuse (nat_le 256 (length (subdirectories c (parent names)))) Refusal.TableFull ∷ Refuse (nat_lt 65535 (length c.directories)) Refusal.TableFull ∷ []) p in
        let tests = all-pass (Refuse (nat_le 256 (length (subdirectories c (parent names)))) Refusal.TableFull ∷ Refuse (nat_lt 65535 (length c.directories)) Refusal.TableFull ∷ []) rest.1 in
        grind (arith, nat_tests, tests.1.0)

    go : (o : Option Path) → path_text text ≡ o → first_refusal (parsed (ok_or o Refusal.BadPath) (mkdir_checks c)) ≡ None
        → AreSaving c (option_map_or {U = Outcome × List Move} (λ names. (Done, MakesDirectory names ∷ [])) o (Done, [])).1
    go None e p = tt
    go (Some names) e p = ((path-saved text names e, room names p), tt)

-- ---- Open

-- an object deleted is one less
deleted-fewer : (o : LiveObject) (test : LiveObject → Bool) (os : List LiveObject) → find test os ≡ Some o → length (filter_map (touched (entry_of o.object Deleted None)) os) < length os
deleted-fewer o test [] e = absurd (let h = e in cc)
deleted-fewer o test (x ∷ xs) e = by (test x) e (deleted-fewer o test xs) (fewer-objects (touched (entry_of o.object Deleted None)) xs)
  where
    gone : x ≡ o → touched (entry_of o.object Deleted None) x ≡ None
    gone is = ap (touched (entry_of o.object Deleted None)) is ∙ ap (λ t. cond t None (Some o)) (eq-eqb o.object.number o.object.number refl)

    more : (t : Option LiveObject) (ys : List LiveObject) → length (cons_option t ys) ≤ length ys + 1
    more None ys = omega arith
    more (Some y) ys = omega arith

    by : (t : Bool) → cond t (Some x) (find test xs) ≡ Some o → (find test xs ≡ Some o → length (filter_map (touched (entry_of o.object Deleted None)) xs) < length xs) → length (filter_map (touched (entry_of o.object Deleted None)) xs) ≤ length xs
        → length (cons_option (touched (entry_of o.object Deleted None) x) (filter_map (touched (entry_of o.object Deleted None)) xs)) < length (x ∷ xs)
    by true found rec le = let is : x ≡ o = cc in rw (gone is) (omega (arith, le))
    by false found rec le = let lt = rec found in let one = more (touched (entry_of o.object Deleted None) x) (filter_map (touched (entry_of o.object Deleted None)) xs) in omega (arith, lt, one)

module _ (c : Content) (b : Basis c) (s : CanBeSaved c) (mode : Mode) (spec : OpenSpec) (text : IsSavedPath spec.names) where
  new-path : (k : ℕ) → is_empty spec.names ≡ false → parent_number c spec.names ≡ Some k → IsSavedPath (directory_path c (new_object c spec).directory ++ (new_object c spec).name ∷ [])
  new-path k some e = subst IsSavedPath (sym (ap (λ m. directory_path c m ++ last_name spec.names ∷ []) (unwrap-of (parent_number c spec.names) k e) ∙ made-path c b spec.names k some e)) text

  -- another's place is taken, or the object is opened as it is
  found-saving : (o : LiveObject) → object_at c spec.names ≡ Some o → AreSaving c (preparing c mode spec (Some o))
  found-saving o e = go spec.options.server (is_some o.object.server) mode.t
    where
      there : (k : ℕ) × (parent_number c spec.names ≡ Some k) × (object_in c (last_name spec.names) k ≡ Some o)
      there = object-found c spec.names o e

      some : is_empty spec.names ≡ false
      some = by spec.names e
        where
          by : (path : Path) → object_at c path ≡ Some o → is_empty path ≡ false
          by [] e = absurd (let no = e in cc)
          by (n ∷ ns) e = refl

      room : length (filter_map (touched (entry_of o.object Deleted None)) c.objects) < 65535
      room = let less = deleted-fewer o (λ (x : LiveObject). eqb x.object.directory there.0 && same x.object.name (last_name spec.names)) c.objects there.2 in omega (arith, less, s.objects)

      go : (a k t : Bool) → AreSaving c (cond a (AppendsRecord (entry_of o.object Deleted None) ∷ Creates (new_object c spec) ∷ []) (cond k (AppendsRecord (entry_of o.object (Opened c.next_handle) None) ∷ []) (cond t (AppendsRecord (entry_of o.object Truncated None) ∷ []) [])))
      go true k t = (tt, ((new-path there.0 some there.1, room), tt))
      go false true t = (tt, tt)
      go false false true = (tt, tt)
      go false false false = tt

  -- a new object, where nothing is
  none-saving : spec.all ≡ false → (found : Option Found) → place (at c) spec.names ≡ Ok found → object_at c spec.names ≡ None → first_refusal (name_checks c mode spec found) ≡ None → AreSaving c (preparing c mode spec None)
  none-saving all (Some (FoundDirectory number)) placed none p = absurd (let no = (all-pass (name_checks c mode spec (Some (FoundDirectory number))) p).1.0 in cc)
  none-saving all (Some (FoundObject number)) placed none p = absurd (no (directory_at c spec.names) (object_at c spec.names) none (place-at (at c) spec.names (Some (FoundObject number)) placed))
    where
      no : (d : Option Directory) (o : Option LiveObject) → o ≡ None → option_or (option_map (λ (d : Directory). FoundDirectory d.number) d) (option_map (λ (o : LiveObject). FoundObject o.object.number) o) ≡ Some (FoundObject number) → ⊥
      no None None e f = absurd (let h = f in cc)
      no None (Some o) e f = absurd (let h = e in cc)
      no (Some d) o e f = absurd (let h = f in cc)
  none-saving all None placed none p = subst (λ a. AreSaving c (cond a [] (Creates (new_object c spec) ∷ []))) (sym all) ((new-path d.0.number some number, room), tt)
    where
      free : IsFree c spec.names
      free = free-place c b.tree spec.names placed

      d : (d : Directory) × (directory_at c (parent spec.names) ≡ Some d)
      d = some-of (directory_at c (parent spec.names)) free.above

      number : parent_number c spec.names ≡ Some d.0.number
      number = ap (option_map (λ (d : Directory). d.number)) d.1

      some : is_empty spec.names ≡ false
      some = by spec.names free.directory
        where
          by : (path : Path) → directory_at c path ≡ None → is_empty path ≡ false
          by [] e = absurd (let no = sym e ∙ b.tree.0 in cc)
          by (n ∷ ns) e = refl

      room : length c.objects < 65535
      room =
          let rest = passes-both (Refuse (true && not mode.c) Refusal.NotFound ∷ Refuse false Refusal.IsDirectory ∷ Refuse (spec.options.server && false) Refusal.Busy ∷ []) (handle_checks c ++ object_checks c spec.names) p in
          let tests = all-pass (object_checks c spec.names) (passes-both (handle_checks c) (object_checks c spec.names) rest.1).1 in
          grind (arith, nat_tests, tests.1.0)

opening-saving : (c : Content) → Basis c → CanBeSaved c → (conn : ℕ) (mode : Mode) (spec : OpenSpec) → (spec.all ≡ false → IsSavedPath spec.names) → first_refusal (open_checks c mode spec) ≡ None → AreSaving c (opening c conn mode spec (found_object c spec))
opening-saving c b s conn mode spec text p =
    saving-append (preparing c mode spec (found_object c spec)) (Opens (new_handle c conn mode spec (found_object c spec)) ∷ []) c (placed (place (at c) spec.names) refl tests.1) (tt, tt)
  where
    tests : (not (mode_fits mode spec) ≡ false) × (first_refusal (parsed (place (at c) spec.names) (λ found. cond spec.all (all_checks c found) (name_checks c mode spec found))) ≡ None)
    tests = behind (not (mode_fits mode spec)) Refusal.BadMode (parsed (place (at c) spec.names) (λ found. cond spec.all (all_checks c found) (name_checks c mode spec found))) p

    by : (all : Bool) → spec.all ≡ all → (found : Option Found) → place (at c) spec.names ≡ Ok found → first_refusal (cond all (all_checks c found) (name_checks c mode spec found)) ≡ None → AreSaving c (preparing c mode spec (cond all None (object_at c spec.names)))
    by true all found e q = subst (λ a. AreSaving c (cond a [] (Creates (new_object c spec) ∷ []))) (sym all) tt
    by false all found e q = stands (object_at c spec.names) refl
      where
        stands : (o : Option LiveObject) → object_at c spec.names ≡ o → AreSaving c (preparing c mode spec o)
        stands None f = none-saving c b s mode spec (text all) all found e f q
        stands (Some o) f = found-saving c b s mode spec (text all) o f

    placed : (r : Result (Option Found) Refusal) → place (at c) spec.names ≡ r → first_refusal (parsed r (λ found. cond spec.all (all_checks c found) (name_checks c mode spec found))) ≡ None → AreSaving c (preparing c mode spec (found_object c spec))
    placed (Err r) e q = absurd (let h = q in cc)
    placed (Ok found) e q = by spec.all refl found e q

open-saving : (c : Content) → Basis c → CanBeSaved c → (conn : ℕ) (mode : Mode) (text : List ℕ) → first_refusal (parsed (open_text text) (open_checks c mode)) ≡ None
    → AreSaving c (with_result (open_text text) (λ spec. (OpenedHandle c.next_handle, opening c conn mode spec (found_object c spec)))).1
open-saving c b s conn mode text p = go (open_text text) (open-saved text) p
  where
    go : (r : Result OpenSpec Refusal) → OfOk (λ (spec : OpenSpec). spec.all ≡ false → IsSavedPath spec.names) r → first_refusal (parsed r (open_checks c mode)) ≡ None
        → AreSaving c (with_result r (λ spec. (OpenedHandle c.next_handle, opening c conn mode spec (found_object c spec)))).1
    go (Err r) saved q = tt
    go (Ok spec) saved q = opening-saving c b s conn mode spec saved q

-- ---- each event

effect-saving : (c : Content) (conn : ℕ) (request : Request) → Basis c → IsBound c → CanBeSaved c → first_refusal (checks c conn request) ≡ None → AreSaving c (effect c conn request).1
unfolding checks effect
effect-saving c conn Attach b bound s p = (tt, tt)
effect-saving c conn Detach b bound s p = saving-append (closings c (handles_of c conn)) _ c (quiet-saving (closings c (handles_of c conn)) c (closings-quiet c (handles_of c conn))) (tt, tt)
effect-saving c conn (OpenRequest mode text) b bound s p =
    open-saving c b s conn mode text (behind (not (letters_fit mode)) Refusal.BadMode (Memory ∷ parsed (open_text text) (open_checks c mode))
    (behind (not (is_attached c conn)) Refusal.NotAttached (Refuse (not (letters_fit mode)) Refusal.BadMode ∷ Memory ∷ parsed (open_text text) (open_checks c mode)) p).1).1
effect-saving c conn (Read handle size) b bound s p = quiet-saving _ c (quiet-outcome _ (λ h. read-quiet h size (read_answer c h size)) (own_handle c conn handle))
effect-saving c conn (Write handle bytes) b bound s p =
    let own = accepted c conn handle (write_checks c bytes) (ordered c b.order.0) (behind (not (is_attached c conn)) Refusal.NotAttached (on_handle c conn handle (write_checks c bytes)) p).1 in
    rw (own.is_own) (write-saving c b s own.h (all-find IsBoundHandle (λ (h : OpenHandle Progress). eqb h.number handle && eqb h.connection conn) c.handles own.h bound.handles own.is_own) bytes own.fine)
effect-saving c conn (Close handle) b bound s p = quiet-saving _ c (quiet-outcome _ (λ h. closing-quiet c h) (own_handle c conn handle))
effect-saving c conn (Unlink path) b bound s p = quiet-saving _ c (quiet-outcome _ (λ names. unlinking-quiet (object_at c names) (directory_at c names)) (path_text path))
effect-saving c conn (Mkdir path) b bound s p = mkdir-saving c path (behind (not (is_attached c conn)) Refusal.NotAttached (Memory ∷ on_path path (mkdir_checks c)) p).1
effect-saving c conn (ListRequest path) b bound s p = quiet-saving _ c (quiet-outcome _ (λ names. tt) (path_text path))
effect-saving c conn (Notify handle action code value) b bound s p = quiet-saving _ c (quiet-outcome _ (λ h. ((λ c. tt), tt)) (own_handle c conn handle))
effect-saving c conn Receive b bound s p = quiet-saving _ c (received-quiet conn (first_of (queue_of c conn)))

pub step-saved : (c : Content) (e : Event) → Basis c → IsBound c → CanBeSaved c → CanBeSaved (step_seen c e).1
unfolding step_seen plan
step-saved c e b bound s = by (first_refusal (all_checks_of c e)) refl
  where
    by : (r : Option Refusal) → first_refusal (all_checks_of c e) ≡ r → CanBeSaved (apply_all_seen (decided c (effect c e.conn e.request) r).1 c)
    by (Some r) is = s
    by None is =
        let done = (effect c e.conn e.request).1 in
        let d = apply_all_seen done c in
        let passes = passes-both (checks c e.conn e.request) (Refuse (passes_last_number d) Refusal.TableFull ∷ []) is in
        saved-after (done ++ settling c d) c b
        (fit-append done (settling c d) c (effect-fit c e.conn e.request b passes.0) (safe-fit (settling c d) d (settling-safe c d)))
        (saving-append done (settling c d) c (effect-saving c e.conn e.request b bound s passes.0) (quiet-saving (settling c d) d (settling-quiet c d))) s
