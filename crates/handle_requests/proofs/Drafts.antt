-- What a text comes to, by who writes it.
use Rattle.std.proofs.Common.{◌≡◌, ◌∙◌, ◌⊎◌, ℕ, Bool, true, false, not, cond, List, [], Option, Some, None, Result, Ok, Err, refl, sym, ap, subst, inl, inr}
use Rattle.std.specs.Prelude.{◌&&◌, ◌==◌, nat_lt, is_none, is_some, length, option_map, option_and_then, IfOk, IfErr, IsSomeAnd}
use Rattle.pps_types.specs.declared.handle_kind.HandleKind.{HandleKind}
use Rattle.pps_types.specs.declared.handle_kind.HandleKind.TheVariants.{Object as ObjectHandle, Directory as DirectoryHandle, Names as NamesHandle, Server as ServerHandle, Client as ClientHandle}
use Rattle.pps_types.specs.declared.event.Request.TheVariants.{Write}
use Rattle.pps_types.specs.declared.outcome.Outcome.{Outcome}
use Rattle.pps_types.specs.declared.outcome.Outcome.TheVariants.{Wrote}
use Rattle.pps_types.specs.declared.record.Kind.{Kind}
use Rattle.pps_types.specs.declared.refusal.Refusal.{Refusal}
use Rattle.pps_types.specs.declared.refusal.Refusal.TheVariants.{OutOfMemory, TableFull}
use Rattle.pps_types.specs.Bytes.{is_empty}
use Rattle.pps_types.specs.Text.{WriteText, write_text}
use Rattle.pps_types.specs.Reading.{OpenHandle, is_directory_kind}
use Rattle.pps_types.specs.Rests.{Progress}
use Rattle.pps_types.specs.Content.{LiveObject, Content, own_handle, object_numbered}
use Rattle.pps_types.specs.Checks.{Check, first_refusal, reaches_memory, parsed, text_checks, is_server}
use Rattle.pps_types.specs.Plan.{Move, effect, writing, on_target, written_kind}
use Rattle.pps_types.specs.WellFormed.{IsContent, may_be_on, server_of}
use Rattle.service_laws.proofs.Finds.{all-find}
use Rattle.service_state.specs.Refused.{Fails, all_request_checks}
use Rattle.handle_requests.proofs.Owns.{own_is}
use Rattle.name_table.specs.Standing.{known_of}
use Rattle.open_handles.specs.Whole.{Whole}
use Rattle.handle_requests.specs.declared.draft.Draft.{Draft}
use Rattle.handle_requests.specs.declared.writer.Writer.{Writer}
use Rattle.handle_requests.specs.Backlogs.{server_in}
use Rattle.handle_requests.specs.Writes.{Author, author, author_of, checks_by, kind_by, late_refusal, FailsLate, IsAuthor, IsWriter, IsDrafted, IsDraftOf, IsDraft, on_object, told_by, is_past}
use Rattle.handle_requests.proofs.Refusals.{short_early, all_want, memory_fails, text_fails, past_fails, all_pass, effect_told}

-- ---- the same checks and the same record

pub checks_same : (c : Content) (h : OpenHandle Progress) (kind : HandleKind) (text : WriteText) → checks_by c (author h) kind text ≡ text_checks c h kind text
checks_same c h (ObjectHandle delta) text = refl
checks_same c h (DirectoryHandle delta) text = refl
checks_same c h NamesHandle text = refl
checks_same c h ServerHandle text = refl
checks_same c h ClientHandle text = refl

pub kind_same : (c : Content) (h : OpenHandle Progress) (kind : HandleKind) (text : WriteText) → kind_by c (author h) kind text ≡ written_kind c h kind text
kind_same c h (ObjectHandle delta) text = refl
kind_same c h (DirectoryHandle delta) text = refl
kind_same c h NamesHandle text = refl
kind_same c h ServerHandle text = refl
kind_same c h ClientHandle text = refl

not_cond : {X : Type 0} (b : Bool) (x y : X) → cond (not b) x y ≡ cond b y x
not_cond true x y = refl
not_cond false x y = refl

pub not_alive : (o : Option LiveObject) → is_none o ≡ true → o ≡ None
not_alive None e = refl
not_alive (Some o) e = absurd (let bad = e in cc)

-- ---- who writes

-- a server's object is its own
server_owned : (kind : HandleKind) (number : ℕ) (s : Option ℕ) → is_server kind ≡ true → may_be_on kind number (Some s) ≡ true → is_some s ≡ true
server_owned ServerHandle number (Some s) is may = refl
server_owned ServerHandle number None is may = absurd (let bad = may in cc)
server_owned (ObjectHandle delta) number s is may = absurd (let bad = is in cc)
server_owned (DirectoryHandle delta) number s is may = absurd (let bad = is in cc)
server_owned NamesHandle number s is may = absurd (let bad = is in cc)
server_owned ClientHandle number s is may = absurd (let bad = is in cc)

module _ (c : Content) (whole : Whole) (content : IsContent c) (conn n : ℕ) (bytes : List ℕ) (w : Writer) (h : OpenHandle Progress) (own : own_handle c conn n ≡ Some h) (writer : IsWriter c whole bytes w h) where
  target_is : h.target ≡ w.object.now.object.number
  target_is = ap (λ (a : Author). a.object) (sym writer.author_is)

  -- its object stands as it was found
  pub is_author : IsAuthor c w
  is_author = record {
    known = subst (λ m. object_numbered c m ≡ Some (known_of w.object.now)) target_is writer.known;
    plain = ap is_directory_kind writer.kind ∙ writer.plain;
    served = λ is.
        let may : may_be_on h.kind h.number (server_of c h.target) ≡ true = all-find (λ (h : OpenHandle Progress). may_be_on h.kind h.number (server_of c h.target) ≡ true) (λ h. (h.number == n) && (h.connection == conn)) c.handles h content.served.users own in
        let here : may_be_on h.kind h.number (Some w.object.now.object.server) ≡ true = ap (λ (o : Option LiveObject). may_be_on h.kind h.number (option_map (λ (o : LiveObject). o.object.server) o)) (sym writer.known) ∙ may in
        ap (λ m. is_some (server_in c m)) (sym target_is) ∙ ap (λ (o : Option LiveObject). is_some (option_and_then (λ (o : LiveObject). o.object.server) o)) writer.known
        ∙ server_owned h.kind h.number w.object.now.object.server (ap is_server (sym writer.kind) ∙ is) here;
  }

  -- what its text is refused for refuses the write
  pub draft_fails : (r : Refusal) → FailsLate (parsed (write_text bytes) (checks_by c (author_of whole w) w.kind)) r → Fails (all_request_checks c conn (Write n bytes)) r
  draft_fails r fails =
      text_fails c conn n bytes h own writer.early r
      (subst (λ (checks : WriteText → List Check). FailsLate (parsed (write_text bytes) checks) r) (λ i text. checks_same c h h.kind text i)
      (subst (λ (k : HandleKind). FailsLate (parsed (write_text bytes) (checks_by c (author h) k)) r) writer.kind
      (subst (λ (a : Author). FailsLate (parsed (write_text bytes) (checks_by c a w.kind)) r) writer.author_is fails)))

  -- and what it comes to is the write's
  pub is_draft : (d : Draft) → IsDrafted c (author_of whole w) w.kind bytes d → IsDraft c conn n bytes d
  is_draft d drafted =
      subst (λ (o : Option (OpenHandle Progress)). IsSomeAnd o (IsDraftOf c bytes d)) (sym own)
      (record {
        early = writer.early;
        alive = ap is_some writer.known;
        drafted = subst (λ (k : HandleKind). IsDrafted c (author h) k bytes d) writer.kind (subst (λ (a : Author). IsDrafted c a w.kind bytes d) writer.author_is drafted);
      })

  pub are_drafts : (r : Result Draft Refusal) → IfOk r (λ d. IsDrafted c (author_of whole w) w.kind bytes d) → IfOk r (λ d. IsDraft c conn n bytes d)
  are_drafts (Ok d) drafted = is_draft d drafted
  are_drafts (Err e) drafted = tt

  pub drafts_fail : (r : Result Draft Refusal) → IfErr r (λ e. FailsLate (parsed (write_text bytes) (checks_by c (author_of whole w) w.kind)) e) → IfErr r (λ e. Fails (all_request_checks c conn (Write n bytes)) e)
  drafts_fail (Ok d) fails = tt
  drafts_fail (Err e) fails = draft_fails e fails

-- ---- a draft

-- the handle of a draft
pub drafted_by : (c : Content) (conn n : ℕ) (bytes : List ℕ) (d : Draft) → IsDraft c conn n bytes d → (h : OpenHandle Progress) × (own_handle c conn n ≡ Some h) × IsDraftOf c bytes d h
drafted_by c conn n bytes d draft = by (own_handle c conn n) refl draft
  where
    by : (o : Option (OpenHandle Progress)) → own_handle c conn n ≡ o → IsSomeAnd o (IsDraftOf c bytes d) → (h : OpenHandle Progress) × (own_handle c conn n ≡ Some h) × IsDraftOf c bytes d h
    by None e draft = elim draft [ ]
    by (Some h) e draft = (h, e, draft)

module _ (c : Content) (conn n : ℕ) (bytes : List ℕ) (d : Draft) (h : OpenHandle Progress) (own : own_handle c conn n ≡ Some h) (is : IsDraftOf c bytes d h) where
  told_of : told_by c n d ≡ writing c h is.drafted.text
  told_of =
      ap (λ b. cond b (on_object c d.object d.kind n) []) is.drafted.lines
      ∙ not_cond (is_empty is.drafted.text.lines) (on_object c d.object d.kind n) []
      ∙ (λ i. cond (is_empty is.drafted.text.lines) [] (on_object c (is.drafted.object i) (is.drafted.kind i) (sym (own_is c.handles conn n h own).0 i)))
      ∙ ap (λ (k : Kind). cond (is_empty is.drafted.text.lines) [] (on_target c h k (Some h.number))) (kind_same c h h.kind is.drafted.text)

  effect_of : effect c conn (Write n bytes) ≡ (Wrote (length bytes), told_by c n d)
  effect_of = effect_told c conn n bytes h own is.drafted.text is.drafted.reads ∙ ap (λ (ms : List Move). (Wrote (length bytes), ms)) (sym told_of)

  past_of : is_past c (effect c conn (Write n bytes)).1 ≡ is_past c (told_by c n d)
  past_of = ap (λ (e : Outcome × List Move). is_past c e.1) effect_of

  text_of : first_refusal (parsed (write_text bytes) (text_checks c h h.kind)) ≡ late_refusal c d.object d.kind
  text_of =
      ap (λ (r : Result WriteText Refusal). first_refusal (parsed r (text_checks c h h.kind))) is.drafted.reads
      ∙ ap first_refusal (sym (checks_same c h h.kind is.drafted.text)) ∙ is.drafted.late ∙ ap (λ m. late_refusal c m d.kind) (sym is.drafted.object)

module _ (c : Content) (conn n : ℕ) (bytes : List ℕ) (d : Draft) (draft : IsDraft c conn n bytes d) where
  abbrev by_whom : (h : OpenHandle Progress) × (own_handle c conn n ≡ Some h) × IsDraftOf c bytes d h
  by_whom = drafted_by c conn n bytes d draft

  pub draft_alive : is_some (object_numbered c d.object) ≡ true
  draft_alive = ap (λ m. is_some (object_numbered c m)) by_whom.2.drafted.object ∙ by_whom.2.alive

  pub draft_short : nat_lt 65536 (length bytes) ≡ false
  draft_short = short_early c bytes by_whom.0 by_whom.2.early

  pub draft_wants : reaches_memory (all_request_checks c conn (Write n bytes)) ≡ true
  draft_wants = all_want c conn n bytes by_whom.0 by_whom.1 by_whom.2.early

  pub memory_wanting : (r : Refusal) → r ≡ OutOfMemory → Fails (all_request_checks c conn (Write n bytes)) r
  memory_wanting r memory = memory_fails c conn n bytes by_whom.0 by_whom.1 by_whom.2.early r memory

  pub limits_fail : (r : Refusal) → (late_refusal c d.object d.kind ≡ Some r) ⊎ (r ≡ OutOfMemory) → Fails (all_request_checks c conn (Write n bytes)) r
  limits_fail r (inl some) = text_fails c conn n bytes by_whom.0 by_whom.1 by_whom.2.early r (inl (text_of c conn n bytes d by_whom.0 by_whom.1 by_whom.2 ∙ some))
  limits_fail r (inr memory) = memory_wanting r memory

  -- what it answers and tells
  pub draft_does : effect c conn (Write n bytes) ≡ (Wrote (length bytes), told_by c n d)
  draft_does = effect_of c conn n bytes d by_whom.0 by_whom.1 by_whom.2

  module _ (late : late_refusal c d.object d.kind ≡ None) where
    pub last_fails : (r : Refusal) → ((r ≡ TableFull) × (is_past c (told_by c n d) ≡ true)) ⊎ (r ≡ OutOfMemory) → Fails (all_request_checks c conn (Write n bytes)) r
    last_fails r (inl p) =
        past_fails c conn n bytes by_whom.0 by_whom.1 by_whom.2.early (text_of c conn n bytes d by_whom.0 by_whom.1 by_whom.2 ∙ late)
        (past_of c conn n bytes d by_whom.0 by_whom.1 by_whom.2 ∙ p.1) r p.0
    last_fails r (inr memory) = memory_wanting r memory

    pub draft_passes : is_past c (told_by c n d) ≡ false → first_refusal (all_request_checks c conn (Write n bytes)) ≡ None
    draft_passes past =
        all_pass c conn n bytes by_whom.0 by_whom.1 by_whom.2.early (text_of c conn n bytes d by_whom.0 by_whom.1 by_whom.2 ∙ late)
        (past_of c conn n bytes d by_whom.0 by_whom.1 by_whom.2 ∙ past)
