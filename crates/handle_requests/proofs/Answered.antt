-- What a read answers, by what it is read from and what is owed.
use Rattle.std.specs.Prelude.{◌≡◌, ◌≢◌, ◌⊎◌, ◌∷◌, [], ℕ, List, Bool, true, false, not, ◌&&◌, Option, Some, None, is_some, is_none, IfSome, IfOk, IfErr, Result, Ok, Err, map, if◌then◌else◌}
use Rattle.std.specs.Option.{option_map_or}
use Rattle.std.specs.List.{filter_map}
use Rattle.std.proofs.Common.{refl, sym, ◌∙◌, ap, subst, inl, inr}
use Rattle.pps_types.specs.declared.refusal.Refusal.{Refusal}
use Rattle.pps_types.specs.declared.refusal.Refusal.TheVariants.{OutOfMemory}
use Rattle.pps_types.specs.Names.{refusal_of}
use Rattle.pps_types.specs.History.{line_of}
use Rattle.pps_types.specs.Reading as reading
use Rattle.pps_types.specs.Reading.{OpenHandle, is_directory_kind, Member, idle_answer}
use Rattle.pps_types.specs.Rests.{Progress, News, Unread, Over, Owed, is_over, news_in, answer}
use Rattle.pps_types.specs.WellFormed.{RiseBetween}
use Rattle.pps_types.specs.Content.{Content, LiveObject, own_handle, object_numbered, attributes_of, member, members, everything, target_is_dead, read_answer, news}
use Rattle.sub_reader.specs.Opened.{handle_at, as_opened, number_of}
use Rattle.open_handles.specs.Whole.{name_at}
use Rattle.service_state.specs.Tables.{Tabled, content_in}
use Rattle.whole_texts.specs.Whole.{Source, source_of}
use Rattle.whole_texts.specs.Answered.{AnswersAreRead, Owes, answer_by, meant, refusal_in, wants_memory}
use Rattle.whole_texts.specs.declared.answer.Answer.{Answer}
use Rattle.server_queue.specs.declared.plan.GivenBlocks.{GivenBlocks}
use Rattle.handle_requests.specs.declared.own.Own.{Own}
use Rattle.handle_requests.specs.Own.{opened_as, IsOwn}
use Rattle.handle_requests.specs.Directories.{directory_source}
use Rattle.handle_requests.specs.Reads.{Refuses, takes_memory, IsReader}
use Rattle.handle_requests.proofs.Owns.{own_numbered, own_known}
use Rattle.service_state.proofs.Memory.{memory_or}

-- an answer that wants memory takes it
wanted : (a : reading.Answer) → wants_memory a ≡ true → takes_memory a ≡ true
wanted (reading.Everything text) e = refl
wanted (reading.Blocks count text) e = refl
wanted (reading.Needs n) e = e
wanted reading.TargetGone e = absurd (let bad = e in cc)
wanted reading.Waits e = absurd (let bad = e in cc)
wanted reading.Nothing e = absurd (let bad = e in cc)

module _ (law : AnswersAreRead) (c : Content) (next : ℕ) (rise : RiseBetween 0 (map (λ h. h.number) c.handles) next) (conn n size : ℕ) (waits : Bool) (w : Source) (reader : IfSome (own_handle c conn n) (IsReader c waits w)) where
  -- it is by what the handle of that number is owed
  pub answer_told : (owed : Option GivenBlocks) → IfSome (handle_at n c.handles) (λ h. h.reads ≡ true → Owes size h h.seen owed)
      → IfSome (own_handle c conn n) (λ h. read_answer c h size ≡ answer_by w waits size owed)
  answer_told owed owes = by (own_handle c conn n) refl reader
    where
      by : (o : Option (OpenHandle Progress)) → own_handle c conn n ≡ o → IfSome o (IsReader c waits w) → IfSome o (λ h. read_answer c h size ≡ answer_by w waits size owed)
      by None e reader = tt
      by (Some h) e reader =
          let at : handle_at n c.handles ≡ Some h = own_numbered c.handles next rise conn n h e in
          let owes-it : h.reads ≡ true → Owes size h h.seen owed = subst (λ o. IfSome o (λ h. h.reads ≡ true → Owes size h h.seen owed)) at owes in
          law c h size owed (owes-it reader.reads) ∙ ap (λ s. answer_by s h.options.wait size owed) (sym reader.source) ∙ ap (λ b. answer_by w b size owed) reader.wait

  -- so is what refuses it
  pub owed_told : (r : Refusal) → IfSome (handle_at n c.handles) (λ h. h.reads ≡ true → (text : List ℕ) (dead : Bool) → Refuses (answer h h.seen text dead size) r)
      → IfSome (own_handle c conn n) (λ h. Refuses (read_answer c h size) r)
  owed_told r refuses = by (own_handle c conn n) refl reader
    where
      by : (o : Option (OpenHandle Progress)) → own_handle c conn n ≡ o → IfSome o (IsReader c waits w) → IfSome o (λ h. Refuses (read_answer c h size) r)
      by None e reader = tt
      by (Some h) e reader =
          let at : handle_at n c.handles ≡ Some h = own_numbered c.handles next rise conn n h e in
          let refuses-it : h.reads ≡ true → (text : List ℕ) (dead : Bool) → Refuses (answer h h.seen text dead size) r =
          subst (λ o. IfSome o (λ h. h.reads ≡ true → (text : List ℕ) (dead : Bool) → Refuses (answer h h.seen text dead size) r)) at refuses in
          refuses-it reader.reads (everything c h) (target_is_dead c h)

module _ (c : Content) (o : Option (OpenHandle Progress)) (size : ℕ) (a : reading.Answer) where
  -- a result by the answer is one by the handle
  pub ok_told : (result : Result Answer Refusal) → IfOk result (λ given. meant given ≡ a) → IfSome o (λ h. read_answer c h size ≡ a) → IfOk result (λ given. IfSome o (λ h. meant given ≡ read_answer c h size))
  ok_told (Err r) given is = tt
  ok_told (Ok x) given is = by o is
    where
      by : (o : Option (OpenHandle Progress)) → IfSome o (λ h. read_answer c h size ≡ a) → IfSome o (λ h. meant x ≡ read_answer c h size)
      by None is = tt
      by (Some h) is = given ∙ sym is

  pub err_taken : (result : Result Answer Refusal) → (refusal_of result ≢ Some OutOfMemory → refusal_of result ≡ refusal_in a) → (refusal_of result ≡ Some OutOfMemory → takes_memory a ≡ true)
      → IfSome o (λ h. read_answer c h size ≡ a) → IfErr result (λ r. IfSome o (λ h. Refuses (read_answer c h size) r))
  err_taken (Ok x) full lacking is = tt
  err_taken (Err r) full lacking is = by o is
    where
      refuses : (r ≡ OutOfMemory) ⊎ (Some r ≢ Some OutOfMemory) → Refuses a r
      refuses (inl is) = inr (is, lacking (ap Some is))
      refuses (inr other) = inl (sym (full other))

      by : (o : Option (OpenHandle Progress)) → IfSome o (λ h. read_answer c h size ≡ a) → IfSome o (λ h. Refuses (read_answer c h size) r)
      by None is = tt
      by (Some h) is = subst (λ b. Refuses b r) (sym is) (refuses (memory_or r))

  pub err_told : (result : Result Answer Refusal) → (refusal_of result ≢ Some OutOfMemory → refusal_of result ≡ refusal_in a) → (refusal_of result ≡ Some OutOfMemory → wants_memory a ≡ true)
      → IfSome o (λ h. read_answer c h size ≡ a) → IfErr result (λ r. IfSome o (λ h. Refuses (read_answer c h size) r))
  err_told result full lacking is = err_taken result full (λ e. wanted a (lacking e)) is

-- ---- what everything of an object is read from

alive_told : (o : Option LiveObject) → not (true && is_none o) ≡ is_some o
alive_told None = refl
alive_told (Some x) = refl

object_source : (c : Content) (h : OpenHandle Progress) → is_directory_kind h.kind ≡ false
    → source_of c h ≡ record { kind = h.kind; parts = h.options.filter; over = is_over h.seen; alive = is_some (object_numbered c h.target); members = record { name = h.name; lines = map line_of (attributes_of c h.target) } ∷ [] }
object_source c h plain =
    ap (λ (b : Bool). record { kind = h.kind; parts = h.options.filter; over = is_over h.seen; alive = not (not b && is_none (object_numbered c h.target)); members = if b then map member (members c h.target) else record { name = h.name; lines = map line_of (attributes_of c h.target) } ∷ [] }) plain
    ∙ ap (λ (b : Bool). record { kind = h.kind; parts = h.options.filter; over = is_over h.seen; alive = b; members = record { name = h.name; lines = map line_of (attributes_of c h.target) } ∷ [] }) (alive_told (object_numbered c h.target))

-- ---- what everything of a directory is read from

directory_source_of : (c : Content) (h : OpenHandle Progress) → is_directory_kind h.kind ≡ true
    → source_of c h ≡ record { kind = h.kind; parts = h.options.filter; over = is_over h.seen; alive = true; members = map member (members c h.target) }
directory_source_of c h directory =
    ap (λ (b : Bool). record { kind = h.kind; parts = h.options.filter; over = is_over h.seen; alive = not (not b && is_none (object_numbered c h.target)); members = if b then map member (members c h.target) else record { name = h.name; lines = map line_of (attributes_of c h.target) } ∷ [] }) directory

module _ (t : Tabled) (next : ℕ) (rise : RiseBetween 0 (map (λ h. h.number) (content_in t).handles) next) (conn n : ℕ) (own : Own) (is : IsOwn t conn n own) where
  pub object_reader : own.opening.now.reads ≡ true → is_directory_kind own.opening.now.kind ≡ false → (over : Bool) → over ≡ option_map_or (λ (h : OpenHandle Progress). is_over h.seen) (handle_at n (content_in t).handles) false
      → (known : Option LiveObject) → known ≡ object_numbered (content_in t) (number_of own.found) → (m : Member) → m.name ≡ name_at own.found t.handles → m.lines ≡ map line_of (option_map_or (λ (o : LiveObject). o.attributes) known [])
      → (w : Source) → w ≡ record { kind = own.opening.now.kind; parts = own.opening.now.options.filter; over = over; alive = is_some known; members = m ∷ [] }
      → IfSome (own_handle (content_in t) conn n) (IsReader (content_in t) own.opening.now.options.wait w)
  object_reader reads plain over over-is known known-is m name lines w w-is =
      subst (λ o. IfSome o (IsReader (content_in t) own.opening.now.options.wait w)) (sym own-is)
      (record {
        reads = ap (λ (x : OpenHandle (Unit {0})). x.reads) same ∙ reads;
        wait = ap (λ (x : OpenHandle (Unit {0})). x.options.wait) same;
        source = w-is ∙ alike ∙ sym (object_source (content_in t) h (ap is_directory_kind kind-is ∙ plain));
      })
    where
      known-own : (h : OpenHandle Progress) × ((own_handle (content_in t) conn n ≡ Some h) × (as_opened h ≡ opened_as t own))
      known-own = own_known (own_handle (content_in t) conn n) (opened_as t own) is

      h : OpenHandle Progress
      h = known-own.0

      own-is : own_handle (content_in t) conn n ≡ Some h
      own-is = known-own.1.0

      same : as_opened h ≡ opened_as t own
      same = known-own.1.1

      kind-is : h.kind ≡ own.opening.now.kind
      kind-is = ap (λ (x : OpenHandle (Unit {0})). x.kind) same

      target-is : h.target ≡ number_of own.found
      target-is = ap (λ (x : OpenHandle (Unit {0})). x.target) same

      over-told : over ≡ is_over h.seen
      over-told = over-is ∙ ap (λ o. option_map_or (λ (h : OpenHandle Progress). is_over h.seen) o false) (own_numbered (content_in t).handles next rise conn n h own-is)

      known-told : known ≡ object_numbered (content_in t) h.target
      known-told = known-is ∙ ap (object_numbered (content_in t)) (sym target-is)

      name-told : m.name ≡ h.name
      name-told = name ∙ sym (ap (λ (x : OpenHandle (Unit {0})). x.name) same)

      lines-told : m.lines ≡ map line_of (attributes_of (content_in t) h.target)
      lines-told = lines ∙ ap (λ o. map line_of (option_map_or (λ (o : LiveObject). o.attributes) o [])) known-told

      filter-told : own.opening.now.options.filter ≡ h.options.filter
      filter-told = sym (ap (λ (x : OpenHandle (Unit {0})). x.options.filter) same)

      alike : ◌≡◌ {A = Source}
          (record { kind = own.opening.now.kind; parts = own.opening.now.options.filter; over = over; alive = is_some known; members = m ∷ [] })
          (record { kind = h.kind; parts = h.options.filter; over = is_over h.seen; alive = is_some (object_numbered (content_in t) h.target); members = record { name = h.name; lines = map line_of (attributes_of (content_in t) h.target) } ∷ [] })
      alike = λ i. record { kind = sym kind-is i; parts = filter-told i; over = over-told i; alive = is_some (known-told i); members = record { name = name-told i; lines = lines-told i } ∷ [] }

  pub directory_reader : own.opening.now.reads ≡ true → is_directory_kind own.opening.now.kind ≡ true → (over : Bool) → over ≡ option_map_or (λ (h : OpenHandle Progress). is_over h.seen) (handle_at n (content_in t).handles) false
      → (os : List (Option LiveObject)) → filter_map (λ o. o) os ≡ members (content_in t) (number_of own.found)
      → IfSome (own_handle (content_in t) conn n) (IsReader (content_in t) own.opening.now.options.wait (directory_source own.opening.now.kind own.opening.now.options.filter over os))
  directory_reader reads directory over over-is os lent =
      let known = own_known (own_handle (content_in t) conn n) (opened_as t own) is in
      let h = known.0 in
      let same = known.1.1 in
      let kind-is : h.kind ≡ own.opening.now.kind = ap (λ (x : OpenHandle (Unit {0})). x.kind) same in
      let target-is : h.target ≡ number_of own.found = ap (λ (x : OpenHandle (Unit {0})). x.target) same in
      let over-told : over ≡ is_over h.seen = over-is ∙ ap (λ o. option_map_or (λ (h : OpenHandle Progress). is_over h.seen) o false) (own_numbered (content_in t).handles next rise conn n h known.1.0) in
      let members-told : map member (filter_map (λ o. o) os) ≡ map member (members (content_in t) h.target) = ap (map member) (lent ∙ ap (members (content_in t)) (sym target-is)) in
      let filter-told : own.opening.now.options.filter ≡ h.options.filter = sym (ap (λ (x : OpenHandle (Unit {0})). x.options.filter) same) in
      subst (λ o. IfSome o (IsReader (content_in t) own.opening.now.options.wait (directory_source own.opening.now.kind own.opening.now.options.filter over os))) (sym known.1.0)
      (record {
        reads = ap (λ (x : OpenHandle (Unit {0})). x.reads) same ∙ reads;
        wait = ap (λ (x : OpenHandle (Unit {0})). x.options.wait) same;
        source = (λ i. record { kind = sym kind-is i; parts = filter-told i; over = over-told i; alive = true; members = members-told i }) ∙ sym (directory_source_of (content_in t) h (ap is_directory_kind kind-is ∙ directory));
      })

-- ---- where nothing is new

-- a read of a handle without news is answered by its target alone, whatever everything is
idle_of : (h : OpenHandle Progress) → h.reads ≡ true → (s : Progress) → news_in h.reads s ≡ false → (text : List ℕ) (dead : Bool) (size : ℕ) → answer h s text dead size ≡ idle_answer dead h.options.wait
idle_of h reads (News true) quiet text dead size = absurd (let bad = quiet in cc)
idle_of h reads (News false) quiet text dead size = refl
idle_of h reads Unread quiet text dead size = absurd (let bad : true ≡ false = sym reads ∙ quiet in cc)
idle_of h reads Over quiet text dead size = absurd (let bad = quiet in cc)
idle_of h reads (Owed []) quiet text dead size = refl
idle_of h reads (Owed (x ∷ xs)) quiet text dead size = absurd (let bad = quiet in cc)

not_dead : (plain : Bool) → plain ≡ false → (o : Option LiveObject) → is_some o ≡ true → (not plain && is_none o) ≡ false
not_dead true e o alive = absurd (let bad = e in cc)
not_dead false e None alive = absurd (let bad = alive in cc)
not_dead false e (Some x) alive = refl

-- of an alive object, it waits or gives nothing
pub idle_told : (t : Tabled) (conn n : ℕ) (own : Own) → IsOwn t conn n own → own.opening.now.reads ≡ true → is_directory_kind own.opening.now.kind ≡ false
    → is_some (object_numbered (content_in t) (number_of own.found)) ≡ true → (b : Bool) → b ≡ false → IfSome (own_handle (content_in t) conn n) (λ h. b ≡ news h)
    → (size : ℕ) (a : reading.Answer) → a ≡ idle_answer false own.opening.now.options.wait → IfSome (own_handle (content_in t) conn n) (λ h. a ≡ read_answer (content_in t) h size)
idle_told t conn n own is reads plain alive b quiet tells size a a-is =
    let known = own_known (own_handle (content_in t) conn n) (opened_as t own) is in
    let h = known.0 in
    let same : as_opened h ≡ opened_as t own = known.1.1 in
    let kind-is : h.kind ≡ own.opening.now.kind = ap (λ (x : OpenHandle (Unit {0})). x.kind) same in
    let target-is : h.target ≡ number_of own.found = ap (λ (x : OpenHandle (Unit {0})). x.target) same in
    let reads-is : h.reads ≡ true = ap (λ (x : OpenHandle (Unit {0})). x.reads) same ∙ reads in
    let wait-is : h.options.wait ≡ own.opening.now.options.wait = ap (λ (x : OpenHandle (Unit {0})). x.options.wait) same in
    let none-new : b ≡ news h = subst (λ o. IfSome o (λ h. b ≡ news h)) known.1.0 tells in
    let dead-not : target_is_dead (content_in t) h ≡ false =
    not_dead (is_directory_kind h.kind) (ap is_directory_kind kind-is ∙ plain) (object_numbered (content_in t) h.target) (ap (λ k. is_some (object_numbered (content_in t) k)) target-is ∙ alive) in
    subst (λ o. IfSome o (λ h. a ≡ read_answer (content_in t) h size)) (sym known.1.0)
    (a-is ∙ (λ i. idle_answer (sym dead-not i) (sym wait-is i))
    ∙ sym (idle_of h reads-is h.seen (sym none-new ∙ quiet) (everything (content_in t) h) (target_is_dead (content_in t) h) size))
