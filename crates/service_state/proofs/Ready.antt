-- What the rest of a beginning wants is still there behind each of its steps.
use Rattle.std.specs.Prelude.{◌≡◌, ◌+◌, ◌<◌, ◌≤◌, ◌^◌, ◌==◌, ℕ, List, [], ◌∷◌, Bool, true, Option, length, map, filter, IfSome, not}
use Rattle.std.specs.List.{AllByRecursion, list_all}
use Rattle.std.proofs.Common.{refl, sym, ◌∙◌, ap, subst, inl, arith, le_trans, le_refl}
use Rattle.pps_types.specs.declared.found.Found.{Found}
use Rattle.pps_types.specs.declared.record.Kind.{Kind}
use Rattle.pps_types.specs.declared.record.Kind.TheVariants.{Created, Change, Truncated, Dropped, Deleted, Opened, Closed, FromClient, ToClient, ToAll}
use Rattle.pps_types.specs.History.{Entry}
use Rattle.pps_types.specs.Reading.{OpenHandle, visible}
use Rattle.pps_types.specs.Rests.{Progress}
use Rattle.pps_types.specs.Plan.{AppendsRecord as HappensTo, offer, without_number}
use Rattle.service_laws.proofs.Finds.{and-both}
use Rattle.server_queue.specs.Shared.{Shared}
use Rattle.sub_reader.specs.declared.opening.Opening.{Opening}
use Rattle.name_table.specs.Standing.{Named}
use Rattle.sub_reader.specs.Opened.{is_directory, suits}
use Rattle.open_handles.specs.Whole.{Whole, Site, HasRoom, KeepsSites, KeepsRecords, is_on, handles_in, handles_at}
use Rattle.open_handles.proofs.Firsts.{room_first}
use Rattle.service_state.specs.Tables.{Tabled, content_in}
use Rattle.service_state.specs.Moves.{closing}
use Rattle.service_state.specs.Lines.{HasLinesFor, is_change}
use Rattle.service_state.specs.Tied.{Moves, KeepsOrDrops, KeepsHandleRoom, CanOpen}
use Rattle.service_state.specs.declared.beginning.Beginning.{Beginning}
use Rattle.service_state.specs.declared.beginning.Beginning.TheVariants.{Closes, AppendsRecord}
use Rattle.service_state.specs.Beginning.{entries_in, CanBeginAll, HaveLines, IsSharedBy, AreReady, is_plain}
use Rattle.service_state.proofs.Waits.{closed_aside, closed_handles}
use Rattle.service_state.proofs.Begins.{fewer-without, fewer-left, same-offered, same-left, shared_stays}

-- the handles of each place are those of all that are on it
abbrev pub ArePlaced : Tabled → Type 0
ArePlaced t = (f : Found) → handles_at f t.handles ≡ filter (is_on f) (handles_in t.handles)

-- ---- lines and shares

has_no_lines : (kind : Kind) (number : ℕ) (n : Named) → not (is_change kind) ≡ true → HasLinesFor kind number n
has_no_lines (Change lines) number n plain = absurd (let bad = plain in cc)
has_no_lines Created number n plain = tt
has_no_lines Truncated number n plain = tt
has_no_lines Dropped number n plain = tt
has_no_lines Deleted number n plain = tt
has_no_lines (Opened id) number n plain = tt
has_no_lines (Closed id) number n plain = tt
has_no_lines (FromClient id lines) number n plain = tt
has_no_lines (ToClient id lines) number n plain = tt
has_no_lines (ToAll lines) number n plain = tt

plain_lines : (xs : List Beginning) (n : Named) → list_all is_plain xs ≡ true → HaveLines xs n
plain_lines [] n plain = tt
plain_lines (Closes conn handle parked ∷ xs) n plain = plain_lines xs n plain
plain_lines (AppendsRecord told ∷ xs) n plain =
    let two = and-both (not (is_change told.entry.record_of.kind)) (list_all is_plain xs) plain in
    (has_no_lines told.entry.record_of.kind told.entry.record_of.object n two.0, two.1)

shared_all : (old new : Whole) → KeepsOrDrops old new
    → ((f : Found) → length (handles_at f new) ≤ length (handles_at f old))
    → ((e : Entry) (f : Found) → length (filter (λ (h : OpenHandle Progress). visible h e) (handles_at f new)) ≤ length (filter (λ (h : OpenHandle Progress). visible h e) (handles_at f old)))
    → (xs : List Beginning) → AllByRecursion (IsSharedBy old) xs → AllByRecursion (IsSharedBy new) xs
shared_all old new sites fewer seers [] all = tt
shared_all old new sites fewer seers (Closes conn handle parked ∷ xs) all = (tt, shared_all old new sites fewer seers xs all.1)
shared_all old new sites fewer seers (AppendsRecord told ∷ xs) all = (shared_stays told.count told.entry old new sites fewer (seers told.entry) all.0, shared_all old new sites fewer seers xs all.1)

-- ---- a step

pub closed_ready : (conn n : ℕ) (parked : Bool) (xs : List Beginning) (old new : Tabled) → Moves (closing conn n parked) old new → KeepsRecords old.handles new.handles → new.names ≡ old.names
    → KeepsSites old.handles new.handles → ArePlaced old → ArePlaced new → AreReady (Closes conn n parked ∷ xs) old → AreReady xs new
closed_ready conn n parked xs old new moved room names sites placed placed_new ready =
    let handles : handles_in new.handles ≡ without_number n (handles_in old.handles) = ap (λ c. c.handles) moved ∙ closed_handles (content_in old) conn n parked in
    let records : new.records ≡ old.records = ap (λ c. c.records) moved ∙ sym ((closed_aside (content_in old) conn n parked).records) in
    record {
      able = subst (λ c. CanBeginAll c xs) (sym moved) ready.able.1;
      room = room (entries_in xs) ready.room;
      lines = subst (HaveLines xs) (sym names) ready.lines;
      shared = shared_all old.handles new.handles (λ f. inl (sites.sites f))
          (λ f. subst (λ hs. length hs ≤ length (handles_at f old.handles)) (sym (placed_new f ∙ ap (filter (is_on f)) handles))
          (subst (λ hs. length (filter (is_on f) (without_number n (handles_in old.handles))) ≤ length hs) (sym (placed f)) (fewer-left (is_on f) (λ h. h.number == n) (handles_in old.handles))))
          (λ e f. subst (λ hs. length (filter (λ (h : OpenHandle Progress). visible h e) hs) ≤ length (filter (λ (h : OpenHandle Progress). visible h e) (handles_at f old.handles))) (sym (placed_new f ∙ ap (filter (is_on f)) handles))
          (subst (λ hs. length (filter (λ (h : OpenHandle Progress). visible h e) (filter (is_on f) (without_number n (handles_in old.handles)))) ≤ length (filter (λ (h : OpenHandle Progress). visible h e) hs)) (sym (placed f))
          (fewer-without (λ (h : OpenHandle Progress). visible h e) (is_on f) (λ h. h.number == n) (handles_in old.handles))))
          xs ready.shared.1;
      numbers = subst (λ r. r + length (entries_in xs) < 2 ^ 64) (sym records) ready.numbers;
    }

pub happened_ready : (told : Shared) (xs : List Beginning) (old new : Tabled) → Moves (HappensTo told.entry ∷ []) old new
    → ((es : List Entry) → HasRoom (told.entry ∷ es) old.handles → HasRoom es new.handles) → KeepsOrDrops old.handles new.handles → ArePlaced old → ArePlaced new
    → AreReady (AppendsRecord told ∷ xs) old → AreReady xs new
happened_ready told xs old new moved room sites placed placed_new ready =
    let handles : handles_in new.handles ≡ map (offer told.entry) (handles_in old.handles) = ap (λ c. c.handles) moved in
    let records : new.records ≡ old.records + 1 = ap (λ c. c.records) moved in
    let few : old.records + length (told.entry ∷ entries_in xs) < 2 ^ 64 = ready.numbers in
    record {
      able = subst (λ c. CanBeginAll c xs) (sym moved) ready.able.1;
      room = room (entries_in xs) ready.room;
      lines = plain_lines xs new.names ready.lines.1;
      shared = shared_all old.handles new.handles sites
          (λ f. subst (λ n. n ≤ length (handles_at f old.handles)) (sym (ap length (placed_new f ∙ ap (filter (is_on f)) handles) ∙ same-left told.entry f (handles_in old.handles)))
          (subst (λ hs. length (filter (is_on f) (handles_in old.handles)) ≤ length hs) (sym (placed f)) (le_refl (length (filter (is_on f) (handles_in old.handles))))))
          (λ e f. subst (λ n. n ≤ length (filter (λ (h : OpenHandle Progress). visible h e) (handles_at f old.handles)))
          (sym (ap (λ hs. length (filter (λ (h : OpenHandle Progress). visible h e) hs)) (placed_new f ∙ ap (filter (is_on f)) handles) ∙ same-offered e told.entry f (handles_in old.handles)))
          (subst (λ hs. length (filter (λ (h : OpenHandle Progress). visible h e) (filter (is_on f) (handles_in old.handles))) ≤ length (filter (λ (h : OpenHandle Progress). visible h e) hs)) (sym (placed f)) (le_refl (length (filter (λ (h : OpenHandle Progress). visible h e) (filter (is_on f) (handles_in old.handles)))))))
          xs ready.shared.1;
      numbers = omega (arith, records, few);
    }

-- what is ready for all is ready for the first
pub first_ready : (x : Beginning) (xs : List Beginning) (t : Tabled) → AreReady (x ∷ xs) t → AreReady (x ∷ []) t
first_ready (Closes conn n parked) xs t ready = record {
  able = (ready.able.0, tt);
  room = no_room t.handles;
  lines = tt;
  shared = (tt, tt);
  numbers = let few : t.records + length (entries_in xs) < 2 ^ 64 = ready.numbers in omega arith;
}
  where
    no_room : (w : Whole) → HasRoom [] w
    no_room w f s at = λ handles some. absurd (omega (arith, some))
first_ready (AppendsRecord told) xs t ready = record {
  able = (ready.able.0, tt);
  room = room_first told.entry (entries_in xs) t.handles ready.room;
  lines = (ready.lines.0, refl);
  shared = (ready.shared.0, tt);
  numbers = let few : t.records + length (told.entry ∷ entries_in xs) < 2 ^ 64 = ready.numbers in omega arith;
}

-- ---- a handle that is to be opened

pub open_stays : (f : Found) (o : Opening) (old new : Tabled) → KeepsHandleRoom old new → CanOpen f o old → CanOpen f o new
open_stays f o old new kept can = record {
  number = can.number ∙ sym kept.rows.next;
  room = le_trans can.room kept.rows.room;
  place = le_trans can.place (kept.places f);
  suits = subst (λ (s : Option Site). IfSome s (λ s. suits o.kind (is_directory f) s.service ≡ true)) (sym (kept.sites.sites f)) can.suits;
  connection = kept.connections o.connection 1 can.connection;
}
