-- All that an open wants is there, once its memory is taken.
use Rattle.std.specs.Prelude.{◌≡◌, ◌<◌, ◌+◌, ◌^◌, ◌++◌, ℕ, Bool, true, false, List, [], ◌∷◌, Option, Some, None, Ok, is_some, not, ◌&&◌, option_map, IfSome, IsSome, IsSomeAnd, map}
use Rattle.std.specs.Option.{option_map_or}
use Rattle.std.specs.List.{flat_map, list_all}
use Rattle.std.proofs.Common.{Vec, Global, refl, sym, ◌∙◌, ap, subst, cond, arith, eqb, eqb-true, le_trans}
use Rattle.pps_types.specs.declared.found.Found.{Found}
use Rattle.pps_types.specs.declared.found.Found.TheVariants.{Object as FoundObject, Directory as FoundDirectory}
use Rattle.pps_types.specs.declared.record.Kind.{Kind}
use Rattle.pps_types.specs.declared.record.Kind.TheVariants.{Created, Change, Truncated, Dropped, Deleted, Opened, Closed, FromClient, ToClient, ToAll}
use Rattle.pps_types.specs.declared.handle_kind.HandleKind.{HandleKind}
use Rattle.pps_types.specs.History.{Entry}
use Rattle.pps_types.specs.Names.{Path, parent, last_name, find_at}
use Rattle.pps_types.specs.Content.{Content, LiveObject, at, object_numbered}
use Rattle.pps_types.specs.WellFormed.{IsContent, RiseBetween}
use Rattle.pps_types.specs.Plan.{Move, Creates, AppendsRecord, Opens as OpensHandle, entry_of, creation}
use Rattle.service_laws.proofs.Finds.{find-true}
use Rattle.name_table.specs.Laws.{QuestionsAreTold}
use Rattle.name_table.specs.Standing.{Placed, Named, IsReadyToCreate as IsPathReady, known_of, placed_at}
use Rattle.server_queue.specs.Shared.{Shared}
use Rattle.sub_reader.specs.declared.opening.Opening.{Opening}
use Rattle.sub_reader.specs.Opened.{opened, number_of, is_directory, suits}
use Rattle.open_handles.specs.Whole.{Whole, Site, HasRoom, IsShared, KeepsSites, site_at, room_at}
use Rattle.service_state.specs.declared.beginning.Beginning.{Beginning}
use Rattle.service_state.specs.declared.beginning.Beginning.TheVariants.{AppendsRecord as HappensTo}
use Rattle.service_state.specs.declared.creating.NewObject.{NewObject}
use Rattle.service_state.specs.declared.creating.Replacement.{Replacement}
use Rattle.service_state.specs.Beginning.{AreReady, is_keeping, moves_of as beginning_of}
use Rattle.service_state.specs.Lines.{HasLines, HasLinesFor, deletes, is_change}
use Rattle.service_state.specs.Objects.{object_of, CanCreate, CanCreateUnheard, replacing_object, CanReplace}
use Rattle.service_state.specs.Tables.{Tabled, content_in}
use Rattle.service_state.specs.Tied.{HasRoomForHandle, KeepsHandleRoom, CanOpen}
use Rattle.path_requests.specs.Planned.{IsReadyOn, IsReadyToCreate, IsReadyToReplace, CanOpenNew, opens_new}
use Rattle.path_requests.specs.Ways.{SuitsOn, CanTell}
use Rattle.path_requests.proofs.Carried.{opens_at}

-- ---- on what stands

suits_on : (kind : HandleKind) (f : Found) (old new : Whole) → SuitsOn kind f old → site_at f new ≡ site_at f old → IfSome (site_at f new) (λ s. suits kind (is_directory f) s.service ≡ true)
suits_on kind f old new fits same = by (site_at f new) (site_at f old) same fits
  where
    by : (n o : Option Site) → n ≡ o → IsSomeAnd o (λ s. suits kind (is_directory f) s.service ≡ true) → IfSome n (λ s. suits kind (is_directory f) s.service ≡ true)
    by n None same fits = absurd fits
    by n (Some s) same fits = rw same fits

pub is_there : (kind : HandleKind) (f : Found) (w : Whole) → SuitsOn kind f w → is_some (site_at f w) ≡ true
is_there kind f w fits = by (site_at f w) fits
  where
    by : (o : Option Site) → IsSomeAnd o (λ s. suits kind (is_directory f) s.service ≡ true) → is_some o ≡ true
    by None fits = absurd fits
    by (Some s) fits = refl

pub can_open_there : (t m : Tabled) (f : Found) (o : Opening) → content_in m ≡ content_in t → KeepsHandleRoom t m → o.number ≡ (content_in t).next_handle → SuitsOn o.kind f t.handles
    → (is_some (site_at f t.handles) ≡ true → 0 < m.handles.rows.room) → (is_some (site_at f t.handles) ≡ true → 0 < room_at f m.handles) → HasRoomForHandle o.connection m.connections → CanOpen f o m
can_open_there t m f o same kept number fits room place connection = record {
  number = number ∙ ap (λ (c : Content). c.next_handle) (sym same);
  room = room (is_there o.kind f t.handles fits);
  place = place (is_there o.kind f t.handles fits);
  suits = suits_on o.kind f t.handles m.handles fits (kept.sites.sites f);
  connection = connection;
}

-- more memory leaves it open
pub still_open : (m n : Tabled) (f : Found) (o : Opening) → content_in n ≡ content_in m → KeepsHandleRoom m n → CanOpen f o m → CanOpen f o n
still_open m n f o same kept can = record {
  number = can.number ∙ ap (λ (c : Content). c.next_handle) (sym same);
  room = le_trans can.room kept.rows.room;
  place = le_trans can.place (kept.places f);
  suits = rw (kept.sites.sites f) can.suits;
  connection = kept.connections o.connection 1 can.connection;
}

pub name_stays : (f : Found) (o : Opening) (t m : Tabled) → KeepsSites t.handles m.handles → opens_at f m o ≡ opens_at f t o
name_stays f o t m kept = ap (λ (s : Option Site). OpensHandle (opened (number_of f) (option_map_or (λ (s : Site). s.name) s []) o) ∷ []) (kept.sites f)

pub nothing_begins : (t m : Tabled) → content_in m ≡ content_in t → t.records < 2 ^ 64 → AreReady [] m
nothing_begins t m same few = record {
  able = tt;
  room = λ f s at handles some. absurd (omega (arith, some));
  lines = tt;
  shared = tt;
  numbers = let e : m.records ≡ t.records = ap (λ (c : Content). c.records) same in omega (arith, e, few);
}

-- ---- a record first

no_lines : (kind : Kind) (number : ℕ) (n : Named) → is_change kind ≡ false → HasLinesFor kind number n
no_lines Created number n e = tt
no_lines (Change lines) number n e = absurd (let no = e in cc)
no_lines Truncated number n e = tt
no_lines Dropped number n e = tt
no_lines Deleted number n e = tt
no_lines (Opened h) number n e = tt
no_lines (Closed h) number n e = tt
no_lines (FromClient h lines) number n e = tt
no_lines (ToClient h lines) number n e = tt
no_lines (ToAll lines) number n e = tt

pub record_begins : (t n : Tabled) (told : Shared) (e : Entry) → content_in n ≡ content_in t → t.records + 1 < 2 ^ 64 → told.entry ≡ e → is_change e.record_of.kind ≡ false
    → HasRoom (e ∷ []) n.handles → IsShared told.count e n.handles → AreReady (HappensTo told ∷ []) n
record_begins t n told e same few is plain room shared = record {
  able = (tt, tt);
  room = subst (λ (e : Entry). HasRoom (e ∷ []) n.handles) (sym is) room;
  lines = (subst (λ (e : Entry). HasLines e n.names) (sym is) (no_lines e.record_of.kind e.record_of.object n.names plain), refl);
  shared = (subst (λ (e : Entry). IsShared told.count e n.handles) (sym is) shared, tt);
  numbers = let r : n.records ≡ t.records = ap (λ (c : Content). c.records) same in rw r few;
}

pub record_kept : (told : Shared) (e : Entry) → told.entry ≡ e → deletes e.record_of.kind ≡ false → (not (deletes told.entry.record_of.kind) && true) ≡ true
record_kept told e is keeps = rw (is, keeps) refl

-- ---- a new object

pub created_ready : (t n : Tabled) (o : NewObject) → QuestionsAreTold → content_in n ≡ content_in t → IsContent (content_in t) → IsPathReady n.names o.path.items
    → find_at (at (content_in t)) (parent o.path.items) ≡ Ok (FoundDirectory o.directory) → (content_in t).next_object + 1 < 2 ^ 64 → 0 < n.handles.objects.room → o.site.object ≡ (content_in t).next_object
    → o.site.site ≡ record { name = last_name o.path.items; service = is_some o.server } → o.creation.entry ≡ creation (object_of o (content_in t).next_object)
    → HasRoom (o.creation.entry ∷ []) n.handles → IsShared o.creation.count o.creation.entry n.handles → t.records + 1 < 2 ^ 64 → CanCreate o n
created_ready t n o told same is ready above last place number site entry room shared records =
    let next : (content_in n).next_object ≡ (content_in t).next_object = ap (λ (c : Content). c.next_object) same in
    let counted : n.records ≡ t.records = ap (λ (c : Content). c.records) same in
    record {
      order = subst (λ (c : Content). RiseBetween 0 (map (λ (o : LiveObject). o.object.number) c.objects) c.next_object) (sym same) is.order.objects_rise;
      ready = ready;
      above = ap (λ (a : Path → Option Found). find_at a (parent o.path.items)) (told.at (content_in n) ∙ ap at same) ∙ above;
      last = rw next last;
      place = place;
      number = number ∙ sym next;
      site = site;
      record_is = entry ∙ ap (λ (k : ℕ). creation (object_of o k)) (sym next);
      room = room;
      shared = shared;
      records = rw counted records;
    }

-- the same where nobody is told of it
pub unheard_ready : (t n : Tabled) (path : Path) (directory : ℕ) (name : List ℕ) → QuestionsAreTold → content_in n ≡ content_in t → IsContent (content_in t) → IsPathReady n.names path
    → find_at (at (content_in t)) (parent path) ≡ Ok (FoundDirectory directory) → (content_in t).next_object + 1 < 2 ^ 64 → 0 < n.handles.objects.room → name ≡ last_name path
    → (content_in t).handles ≡ [] → t.records + 1 < 2 ^ 64 → CanCreateUnheard path directory name n
unheard_ready t n path directory name told same is ready above last place named nobody records =
    let next : (content_in n).next_object ≡ (content_in t).next_object = ap (λ (c : Content). c.next_object) same in
    let counted : n.records ≡ t.records = ap (λ (c : Content). c.records) same in
    record {
      order = subst (λ (c : Content). RiseBetween 0 (map (λ (o : LiveObject). o.object.number) c.objects) c.next_object) (sym same) is.order.objects_rise;
      ready = ready;
      above = ap (λ (a : Path → Option Found). find_at a (parent path)) (told.at (content_in n) ∙ ap at same) ∙ above;
      last = rw next last;
      place = place;
      named = named;
      nobody = ap (λ (c : Content). c.handles) same ∙ nobody;
      records = rw counted records;
    }

pub new_ready : (t n : Tabled) (o : Opening) (service : Bool) → content_in n ≡ content_in t → o.number ≡ (content_in t).next_handle → 0 < n.handles.rows.room → suits o.kind false service ≡ true → HasRoomForHandle o.connection n.connections → CanOpenNew service o n
new_ready t n o service same number room fits connection = record {
  number = number ∙ ap (λ (c : Content). c.next_handle) (sym same);
  room = room;
  suits = fits;
  connection = connection;
}

-- a new object with its first handle, once each part is made
pub creates_ready : (t m n : Tabled) (o : NewObject) (opening : Opening) (service : Bool) (number : ℕ) (name : List ℕ) (path : Path) (e : Entry) → QuestionsAreTold → content_in m ≡ content_in t → content_in n ≡ content_in m → IsContent (content_in t)
    → IsPathReady m.names path → n.names ≡ m.names → path ≡ o.path.items → find_at (at (content_in t)) (parent o.path.items) ≡ Ok (FoundDirectory o.directory) → (content_in t).next_object + 1 < 2 ^ 64
    → 0 < m.handles.objects.room → KeepsHandleRoom m n → number ≡ (content_in t).next_object → o.site.object ≡ number → o.site.site ≡ record { name = name; service = service } → name ≡ last_name o.path.items
    → o.server ≡ cond service (Some opening.number) None → o.creation.entry ≡ e → e ≡ record { directory = o.directory; name = name; record_of = record { object = number; kind = Created; writer = None } }
    → HasRoom (e ∷ []) n.handles → IsShared o.creation.count e n.handles → t.records + 1 < 2 ^ 64 → 0 < m.handles.rows.room → HasRoomForHandle opening.connection m.connections → n.connections ≡ m.connections
    → opening.number ≡ (content_in t).next_handle → suits opening.kind false service ≡ true → IsReadyToCreate o opening n
creates_ready t m n o opening service number name path e told first second is ready names same_path above last place kept numbered object site named server told_entry entry room shared records row connection connections handle fits =
    record {
      creates = created_ready t n o told (second ∙ first) is (subst (λ (x : Named). IsPathReady x o.path.items) (sym names) (subst (IsPathReady m.names) same_path ready)) above last
          (le_trans place kept.sites.objects.room) (object ∙ numbered) (site ∙ (λ i. record { name = named i; service = sym is_served i }))
          (told_entry ∙ entry ∙ (λ i. record { directory = o.directory; name = named i; record_of = record { object = numbered i; kind = Created; writer = None } }))
          (subst (λ (x : Entry). HasRoom (x ∷ []) n.handles) (sym told_entry) room) (subst (λ (x : Entry). IsShared o.creation.count x n.handles) (sym told_entry) shared) records;
      opens = new_ready t n opening (is_some o.server) (second ∙ first) handle (le_trans row kept.rows.room) (ap (suits opening.kind false) is_served ∙ fits) (subst (HasRoomForHandle opening.connection) (sym connections) connection);
    }
  where
    by : (b : Bool) → is_some (cond b (Some opening.number) None) ≡ b
    by true = refl
    by false = refl

    is_served : is_some o.server ≡ service
    is_served = ap is_some server ∙ by service

-- ---- in another's place

module _ (t n : Tabled) (r : Replacement) (same : content_in n ≡ content_in t) (is : IsContent (content_in t)) (known : option_map known_of (placed_at r.object n.names) ≡ object_numbered (content_in n) r.object) where
  pub gone_there : IsSome (object_numbered (content_in t) r.object) → (gone : Placed) × (placed_at r.object n.names ≡ Some gone) × (object_numbered (content_in t) r.object ≡ Some (known_of gone))
  gone_there some = by (placed_at r.object n.names) refl (known ∙ ap (λ (c : Content). object_numbered c r.object) same)
    where
      by : (x : Option Placed) → placed_at r.object n.names ≡ x → option_map known_of x ≡ object_numbered (content_in t) r.object → (gone : Placed) × (placed_at r.object n.names ≡ Some gone) × (object_numbered (content_in t) r.object ≡ Some (known_of gone))
      by None f e = absurd (let no = subst IsSome (sym e) some in cc)
      by (Some gone) f e = (gone, f, sym e)

  pub replaced_ready : IsSome (object_numbered (content_in t) r.object) → 0 < n.names.objects.room → (content_in t).next_object + 1 < 2 ^ 64 → 0 < n.handles.objects.room → r.site.object ≡ (content_in t).next_object
      → IfSome (object_numbered (content_in t) r.object) (λ o. r.site.site ≡ record { name = o.object.name; service = is_some r.server })
      → IfSome (object_numbered (content_in t) r.object) (λ o. r.deletion.entry ≡ entry_of o.object Deleted None)
      → IfSome (object_numbered (content_in t) r.object) (λ o. r.creation.entry ≡ record { directory = o.object.directory; name = o.object.name; record_of = record { object = (content_in t).next_object; kind = Created; writer = None } })
      → HasRoom (r.deletion.entry ∷ r.creation.entry ∷ []) n.handles → IsShared r.deletion.count r.deletion.entry n.handles → IsShared r.creation.count r.creation.entry n.handles → t.records + 2 < 2 ^ 64
      → IsSomeAnd (placed_at r.object n.names) (CanReplace r n)
  replaced_ready some object_room last place number site deletion made room deletion_shared creation_shared records =
      let there = gone_there some in
      let gone = there.0 in
      let next : (content_in n).next_object ≡ (content_in t).next_object = ap (λ (c : Content). c.next_object) same in
      let counted : n.records ≡ t.records = ap (λ (c : Content). c.records) same in
      let its : r.deletion.entry ≡ entry_of gone.object Deleted None = subst (λ (x : Option LiveObject). IfSome x (λ o. r.deletion.entry ≡ entry_of o.object Deleted None)) there.2 deletion in
      let own : gone.object.number ≡ r.object = eqb-true gone.object.number r.object (find-true (λ (o : LiveObject). eqb o.object.number r.object) (content_in t).objects (known_of gone) there.2) in
      subst (λ (x : Option Placed). IsSomeAnd x (CanReplace r n)) (sym there.1) (record {
        order = subst (λ (c : Content). RiseBetween 0 (map (λ (o : LiveObject). o.object.number) c.objects) c.next_object) (sym same) is.order.objects_rise;
        object_room = object_room;
        last = rw next last;
        place = place;
        number = number ∙ sym next;
        site = subst (λ (x : Option LiveObject). IfSome x (λ o. r.site.site ≡ record { name = o.object.name; service = is_some r.server })) there.2 site;
        deletes = ap (λ (e : Entry). e.record_of.kind) its;
        deleted = ap (λ (e : Entry). e.record_of.object) its ∙ own;
        record_is = subst (λ (x : Option LiveObject). IfSome x (λ o. r.creation.entry ≡ record { directory = o.object.directory; name = o.object.name; record_of = record { object = (content_in t).next_object; kind = Created; writer = None } })) there.2 made
            ∙ ap (λ (k : ℕ). creation (record { number = k; directory = gone.object.directory; name = gone.object.name; nopersist = r.nopersist; server = r.server })) (sym next);
        room = room;
        deletion_shared = deletion_shared;
        creation_shared = creation_shared;
        records = rw counted (omega (arith, records));
      })

  -- its moves
  pub replaced_moves : IsSome (object_numbered (content_in t) r.object) → (o : Opening) → r.server ≡ Some (content_in t).next_handle → IfSome (object_numbered (content_in t) r.object) (λ o. r.deletion.entry ≡ entry_of o.object Deleted None)
      → IfSome (object_numbered (content_in t) r.object) (λ known. option_map_or (λ gone. AppendsRecord r.deletion.entry ∷ Creates (replacing_object r gone.object n) ∷ opens_new n gone.object.name o) (placed_at r.object n.names) []
      ≡ AppendsRecord (entry_of known.object Deleted None) ∷ Creates (record { number = (content_in t).next_object; directory = known.object.directory; name = known.object.name; nopersist = r.nopersist; server = Some (content_in t).next_handle })
      ∷ OpensHandle (opened (content_in t).next_object known.object.name o) ∷ [])
  replaced_moves some o server deletion =
      let there = gone_there some in
      let gone = there.0 in
      let next : (content_in n).next_object ≡ (content_in t).next_object = ap (λ (c : Content). c.next_object) same in
      let its : r.deletion.entry ≡ entry_of gone.object Deleted None = subst (λ (x : Option LiveObject). IfSome x (λ o. r.deletion.entry ≡ entry_of o.object Deleted None)) there.2 deletion in
      subst (λ (x : Option LiveObject). IfSome x (λ known. option_map_or (λ gone. AppendsRecord r.deletion.entry ∷ Creates (replacing_object r gone.object n) ∷ opens_new n gone.object.name o) (placed_at r.object n.names) []
      ≡ AppendsRecord (entry_of known.object Deleted None) ∷ Creates (record { number = (content_in t).next_object; directory = known.object.directory; name = known.object.name; nopersist = r.nopersist; server = Some (content_in t).next_handle })
      ∷ OpensHandle (opened (content_in t).next_object known.object.name o) ∷ [])) (sym there.2)
      (ap (λ (x : Option Placed). option_map_or (λ gone. AppendsRecord r.deletion.entry ∷ Creates (replacing_object r gone.object n) ∷ opens_new n gone.object.name o) x []) there.1
      ∙ (λ i. AppendsRecord (its i) ∷ Creates (record { number = next i; directory = gone.object.directory; name = gone.object.name; nopersist = r.nopersist; server = server i }) ∷ OpensHandle (opened (next i) gone.object.name o) ∷ []))

if_some : {X : Type 0} (o : Option X) (P Q : X → Type 0) → ((x : X) → P x → Q x) → IfSome o P → IfSome o Q
if_some None P Q go has = tt
if_some (Some x) P Q go has = go x has

-- an object in another's place with its server's handle, once each part is made
pub replaces_ready : (t m n : Tabled) (r : Replacement) (opening : Opening) (number : ℕ) (first second : Entry) → content_in m ≡ content_in t → content_in n ≡ content_in m → IsContent (content_in t)
    → option_map known_of (placed_at r.object n.names) ≡ object_numbered (content_in n) r.object → IsSome (object_numbered (content_in t) r.object) → 0 < m.names.objects.room → n.names ≡ m.names → (content_in t).next_object + 1 < 2 ^ 64
    → 0 < m.handles.objects.room → KeepsHandleRoom m n → r.site.object ≡ number → number ≡ (content_in t).next_object
    → IfSome (object_numbered (content_in m) r.object) (λ o. r.site.site ≡ record { name = o.object.name; service = true }) → is_some r.server ≡ true
    → r.deletion.entry ≡ first → IfSome (object_numbered (content_in m) r.object) (λ o. first ≡ entry_of o.object Deleted None)
    → r.creation.entry ≡ second → IfSome (object_numbered (content_in m) r.object) (λ o. second ≡ record { directory = o.object.directory; name = o.object.name; record_of = record { object = number; kind = Created; writer = None } })
    → HasRoom (first ∷ second ∷ []) n.handles → IsShared r.deletion.count first n.handles → IsShared r.creation.count second n.handles → t.records + 2 < 2 ^ 64
    → 0 < m.handles.rows.room → HasRoomForHandle opening.connection m.connections → n.connections ≡ m.connections → opening.number ≡ (content_in t).next_handle → suits opening.kind false true ≡ true → IsReadyToReplace r opening n
replaces_ready t m n r opening number first second one two is known some object_room names last place kept object numbered site served told_first deleted told_second made room first_shared second_shared records row connection connections handle fits =
    record {
      replaces = replaced_ready t n r (two ∙ one) is known some (subst (λ (x : Named). 0 < x.objects.room) (sym names) object_room) last (le_trans place kept.sites.objects.room) (object ∙ numbered)
          (if_some (object_numbered (content_in t) r.object) _ _ (λ o e. e ∙ (λ i. record { name = o.object.name; service = sym served i })) (at_first _ site))
          (if_some (object_numbered (content_in t) r.object) _ _ (λ o e. told_first ∙ e) (at_first _ deleted))
          (if_some (object_numbered (content_in t) r.object) _ _ (λ o e. told_second ∙ e ∙ (λ i. record { directory = o.object.directory; name = o.object.name; record_of = record { object = numbered i; kind = Created; writer = None } })) (at_first _ made))
          (subst (λ (x : Entry). HasRoom (x ∷ r.creation.entry ∷ []) n.handles) (sym told_first) (subst (λ (x : Entry). HasRoom (first ∷ x ∷ []) n.handles) (sym told_second) room))
          (subst (λ (x : Entry). IsShared r.deletion.count x n.handles) (sym told_first) first_shared) (subst (λ (x : Entry). IsShared r.creation.count x n.handles) (sym told_second) second_shared) records;
      opens = new_ready t n opening (is_some r.server) (two ∙ one) handle (le_trans row kept.rows.room) (ap (suits opening.kind false) served ∙ fits) (subst (HasRoomForHandle opening.connection) (sym connections) connection);
    }
  where
    at_first : (P : LiveObject → Type 0) → IfSome (object_numbered (content_in m) r.object) P → IfSome (object_numbered (content_in t) r.object) P
    at_first P has = subst (λ (c : Content). IfSome (object_numbered c r.object) P) one has

-- what is deleted, by what stood before
pub deleted_there : (t m : Tabled) (object : ℕ) (told first : Entry) → content_in m ≡ content_in t → told ≡ first → IfSome (object_numbered (content_in m) object) (λ o. first ≡ entry_of o.object Deleted None)
    → IfSome (object_numbered (content_in t) object) (λ o. told ≡ entry_of o.object Deleted None)
deleted_there t m object told first one is deleted =
    if_some (object_numbered (content_in t) object) (λ o. first ≡ entry_of o.object Deleted None) (λ o. told ≡ entry_of o.object Deleted None) (λ o e. is ∙ e)
    (subst (λ (c : Content). IfSome (object_numbered c object) (λ o. first ≡ entry_of o.object Deleted None)) one deleted)

-- ---- a handle behind a record

kind_told : (o : Option LiveObject) (e : Entry) (kind : Kind) → IsSome o → IfSome o (λ o. e ≡ entry_of o.object kind None) → e.record_of.kind ≡ kind
kind_told None e kind some is = absurd (let no = some in cc)
kind_told (Some o) e kind some is = ap (λ (e : Entry). e.record_of.kind) is

pub told_ready : (t m n : Tabled) (xs : Vec Beginning Global) (told : Shared) (conn object : ℕ) (kind : Kind) (opening : Opening) (e : Entry) → xs.items ≡ HappensTo told ∷ [] → content_in m ≡ content_in t → content_in n ≡ content_in m
    → CanTell t opening.kind object kind → opening.connection ≡ conn → opening.number ≡ (content_in t).next_handle → t.records + 1 < 2 ^ 64 → told.entry ≡ e → IfSome (object_numbered (content_in t) object) (λ o. e ≡ entry_of o.object kind None)
    → KeepsHandleRoom t m → KeepsHandleRoom m n → (is_some (site_at (FoundObject object) t.handles) ≡ true → 0 < m.handles.rows.room) → (is_some (site_at (FoundObject object) t.handles) ≡ true → 0 < room_at (FoundObject object) m.handles) → HasRoomForHandle conn m.connections
    → HasRoom (e ∷ []) n.handles → IsShared told.count e n.handles → IsReadyOn xs.items (FoundObject object) opening n
told_ready t m n xs told conn object kind opening e items one two can same_conn number few is its first second row place connection room shared =
    let kinds : e.record_of.kind ≡ kind = kind_told (object_numbered (content_in t) object) e kind can.alive its in
    record {
      begins = subst (λ (ys : List Beginning). AreReady ys n) (sym items) (record_begins t n told e (two ∙ one) few is (ap is_change kinds ∙ can.plain) room shared);
      keeps = ap (list_all is_keeping) items ∙ record_kept told e is (ap deletes kinds ∙ can.keeps);
      opens = still_open m n (FoundObject object) opening two second (can_open_there t m (FoundObject object) opening one first number can.suits row place (subst (λ (k : ℕ). HasRoomForHandle k m.connections) (sym same_conn) connection));
    }

pub told_moved : (t m n : Tabled) (xs : Vec Beginning Global) (told : Shared) (object : ℕ) (kind : Kind) (opening : Opening) (e : Entry) → xs.items ≡ HappensTo told ∷ [] → told.entry ≡ e → IfSome (object_numbered (content_in t) object) (λ o. e ≡ entry_of o.object kind None)
    → KeepsHandleRoom t m → KeepsHandleRoom m n
    → IfSome (object_numbered (content_in t) object) (λ known. flat_map beginning_of xs.items ++ opens_at (FoundObject object) n opening ≡ AppendsRecord (entry_of known.object kind None) ∷ opens_at (FoundObject object) t opening)
told_moved t m n xs told object kind opening e items is its first second =
    if_some (object_numbered (content_in t) object) (λ o. e ≡ entry_of o.object kind None)
    (λ known. flat_map beginning_of xs.items ++ opens_at (FoundObject object) n opening ≡ AppendsRecord (entry_of known.object kind None) ∷ opens_at (FoundObject object) t opening)
    (λ o same. ap (λ (ys : List Beginning). flat_map beginning_of ys ++ opens_at (FoundObject object) n opening) items
    ∙ ap (λ (x : Entry). AppendsRecord x ∷ opens_at (FoundObject object) n opening) (is ∙ same)
    ∙ ap (λ (ms : List Move). AppendsRecord (entry_of o.object kind None) ∷ ms) (name_stays (FoundObject object) opening m n second.sites ∙ name_stays (FoundObject object) opening t m first.sites))
    its
