-- What a text comes to, by the kind of its handle.
use Rattle.std.proofs.Common.{◌≡◌, ◌∙◌, ne_eqb, arith, ℕ, Bool, true, false, List, [], ◌∷◌, map, Option, Some, None, Result, Ok, Err, refl, sym, ap, subst, inl, inr}
use Rattle.std.specs.Prelude.{◌==◌, length, fold, IfOk, IfErr, OnOk, IsSomeAnd}
use Rattle.pps_types.specs.declared.handle_kind.HandleKind.{HandleKind}
use Rattle.pps_types.specs.declared.handle_kind.HandleKind.TheVariants.{Object as ObjectHandle, Directory as DirectoryHandle, Names as NamesHandle, Server as ServerHandle, Client as ClientHandle}
use Rattle.pps_types.specs.declared.line.Line.{Line}
use Rattle.pps_types.specs.declared.line.WriteLine.{WriteLine}
use Rattle.pps_types.specs.declared.record.Kind.{Kind}
use Rattle.pps_types.specs.declared.record.Kind.TheVariants.{Change, FromClient}
use Rattle.pps_types.specs.declared.refusal.Refusal.{Refusal}
use Rattle.pps_types.specs.Bytes.{is_empty}
use Rattle.pps_types.specs.Text.{WriteText}
use Rattle.attr_text.specs.ReadWrite.{text_of_line, IsSingle}
use Rattle.pps_types.specs.History.{Attribute, apply_line, resolve, resolved, message_line}
use Rattle.pps_types.specs.Reading.{is_directory_kind}
use Rattle.pps_types.specs.Content.{Content, attributes_of}
use Rattle.pps_types.specs.Checks.{Addressee, Everyone, OneClient, Nobody, Check, first_refusal, parsed, own_header, limit_checks, addressee}
use Rattle.pps_types.specs.Plan.{sent}
use Rattle.handle_requests.specs.Writes.{Author, server_text_checks, client_text_checks, checks_by, kind_by, late_refusal, FailsLate, IsDrafted}
use Rattle.handle_requests.specs.declared.draft.Draft.{Draft}
use Rattle.handle_requests.proofs.Refusals.{first_none, first_some}

-- a message passes no limits
late_sent : (c : Content) (object : ℕ) (to : Addressee) (lines : List Line) → None ≡ late_refusal c object (sent to lines)
late_sent c object Everyone lines = refl
late_sent c object (OneClient id) lines = refl
late_sent c object Nobody lines = refl

module _ (c : Content) (a : Author) (k : HandleKind) (text : WriteText) (r : Result Kind Refusal) where
  -- ---- a server's

  module _ (is : k ≡ ServerHandle) (o : ℕ) (on : o ≡ a.object) where
    abbrev server_kind : Kind
    server_kind = sent (addressee a.name text.header) (map message_line text.lines)

    pub server_passes : OnOk r (first_refusal (server_text_checks c a.name o text) ≡ None) → IfOk r (λ kind. kind ≡ server_kind) → IfOk r (λ kind. first_refusal (checks_by c a k text) ≡ late_refusal c a.object kind)
    server_passes passes does = by r passes does
      where
        by : (r : Result Kind Refusal) → OnOk r (first_refusal (server_text_checks c a.name o text) ≡ None) → IfOk r (λ kind. kind ≡ server_kind) → IfOk r (λ kind. first_refusal (checks_by c a k text) ≡ late_refusal c a.object kind)
        by (Ok kind) passes does =
            ap (λ k. first_refusal (checks_by c a k text)) is ∙ ap (λ o. first_refusal (server_text_checks c a.name o text)) (sym on) ∙ passes
            ∙ late_sent c a.object (addressee a.name text.header) (map message_line text.lines) ∙ ap (late_refusal c a.object) (sym does)
        by (Err e) passes does = tt

    pub server_does : IfOk r (λ kind. kind ≡ server_kind) → IfOk r (λ kind. kind ≡ kind_by c a k text)
    server_does does = subst (λ k. IfOk r (λ kind. kind ≡ kind_by c a k text)) (sym is) does

    pub server_fails : IfErr r (λ e. FailsLate (server_text_checks c a.name o text) e) → IfErr r (λ e. FailsLate (checks_by c a k text) e)
    server_fails fails = subst (λ k. IfErr r (λ e. FailsLate (checks_by c a k text) e)) (sym is) (subst (λ o. IfErr r (λ e. FailsLate (server_text_checks c a.name o text) e)) on fails)

  -- ---- a client's

  module _ (is : k ≡ ClientHandle) (o : ℕ) (on : o ≡ a.object) where
    pub client_passes : OnOk r (first_refusal (client_text_checks c a.handle a.name o text) ≡ None) → IfOk r (λ kind. kind ≡ FromClient a.handle (map message_line text.lines)) → IfOk r (λ kind. first_refusal (checks_by c a k text) ≡ late_refusal c a.object kind)
    client_passes passes does = by r passes does
      where
        by : (r : Result Kind Refusal) → OnOk r (first_refusal (client_text_checks c a.handle a.name o text) ≡ None) → IfOk r (λ kind. kind ≡ FromClient a.handle (map message_line text.lines)) → IfOk r (λ kind. first_refusal (checks_by c a k text) ≡ late_refusal c a.object kind)
        by (Ok kind) passes does =
            ap (λ k. first_refusal (checks_by c a k text)) is ∙ ap (λ o. first_refusal (client_text_checks c a.handle a.name o text)) (sym on) ∙ passes
            ∙ ap (late_refusal c a.object) (sym does)
        by (Err e) passes does = tt

    pub client_does : IfOk r (λ kind. kind ≡ FromClient a.handle (map message_line text.lines)) → IfOk r (λ kind. kind ≡ kind_by c a k text)
    client_does does = subst (λ k. IfOk r (λ kind. kind ≡ kind_by c a k text)) (sym is) does

    pub client_fails : IfErr r (λ e. FailsLate (client_text_checks c a.handle a.name o text) e) → IfErr r (λ e. FailsLate (checks_by c a k text) e)
    client_fails fails = subst (λ k. IfErr r (λ e. FailsLate (checks_by c a k text) e)) (sym is) (subst (λ o. IfErr r (λ e. FailsLate (client_text_checks c a.handle a.name o text) e)) on fails)

-- ---- any other's, which is on no directory

module _ (c : Content) (a : Author) (text : WriteText) (attributes : List Attribute) (are : attributes_of c a.object ≡ attributes) where
  abbrev Advances : HandleKind → Kind → Type 0
  Advances k kind = first_refusal (checks_by c a k text) ≡ late_refusal c a.object kind

  object_first : first_refusal (own_header a.name text.header) ≡ None → (delta : Bool) (kind : Kind) → kind ≡ Change (resolve attributes text.lines) → Advances (ObjectHandle delta) kind
  object_first passes delta kind does =
      first_none (own_header a.name text.header) (limit_checks (fold apply_line (attributes_of c a.object) (resolve (attributes_of c a.object) text.lines))) passes
      ∙ ap (λ (xs : List Attribute). late_refusal c a.object (Change (resolve xs text.lines))) are ∙ ap (late_refusal c a.object) (sym does)

  pub object_passes : (k : HandleKind) → is_directory_kind k ≡ false → (k ≡ ServerHandle → ⊥) → (k ≡ ClientHandle → ⊥) → (r : Result Kind Refusal)
      → OnOk r (first_refusal (own_header a.name text.header) ≡ None) → IfOk r (λ kind. kind ≡ Change (resolve attributes text.lines)) → IfOk r (λ kind. first_refusal (checks_by c a k text) ≡ late_refusal c a.object kind)
  object_passes k plain server client (Err e) passes does = tt
  object_passes (ObjectHandle delta) plain server client (Ok kind) passes does = object_first passes delta kind does
  object_passes (DirectoryHandle delta) plain server client (Ok kind) passes does = absurd (let bad = plain in cc)
  object_passes NamesHandle plain server client (Ok kind) passes does = absurd (let bad = plain in cc)
  object_passes ServerHandle plain server client (Ok kind) passes does = absurd (server refl)
  object_passes ClientHandle plain server client (Ok kind) passes does = absurd (client refl)

  object_made : (kind : Kind) → kind ≡ Change (resolve attributes text.lines) → kind ≡ Change (resolve (attributes_of c a.object) text.lines)
  object_made kind does = does ∙ ap (λ (xs : List Attribute). Change (resolve xs text.lines)) (sym are)

  pub object_does : (k : HandleKind) → is_directory_kind k ≡ false → (k ≡ ServerHandle → ⊥) → (k ≡ ClientHandle → ⊥) → (r : Result Kind Refusal)
      → IfOk r (λ kind. kind ≡ Change (resolve attributes text.lines)) → IfOk r (λ kind. kind ≡ kind_by c a k text)
  object_does k plain server client (Err e) does = tt
  object_does (ObjectHandle delta) plain server client (Ok kind) does = object_made kind does
  object_does (DirectoryHandle delta) plain server client (Ok kind) does = absurd (let bad = plain in cc)
  object_does NamesHandle plain server client (Ok kind) does = absurd (let bad = plain in cc)
  object_does ServerHandle plain server client (Ok kind) does = absurd (server refl)
  object_does ClientHandle plain server client (Ok kind) does = absurd (client refl)

  object_refused : (e : Refusal) → FailsLate (own_header a.name text.header) e → (delta : Bool) → FailsLate (checks_by c a (ObjectHandle delta) text) e
  object_refused e (inl some) delta = inl (first_some (own_header a.name text.header) (limit_checks (fold apply_line (attributes_of c a.object) (resolve (attributes_of c a.object) text.lines))) e some)
  object_refused e (inr memory) delta = inr memory

  pub object_fails : (k : HandleKind) → is_directory_kind k ≡ false → (k ≡ ServerHandle → ⊥) → (k ≡ ClientHandle → ⊥) → (r : Result Kind Refusal)
      → IfErr r (λ e. FailsLate (own_header a.name text.header) e) → IfErr r (λ e. FailsLate (checks_by c a k text) e)
  object_fails k plain server client (Ok kind) fails = tt
  object_fails (ObjectHandle delta) plain server client (Err e) fails = object_refused e fails delta
  object_fails (DirectoryHandle delta) plain server client (Err e) fails = absurd (let bad = plain in cc)
  object_fails NamesHandle plain server client (Err e) fails = absurd (let bad = plain in cc)
  object_fails ServerHandle plain server client (Err e) fails = absurd (server refl)
  object_fails ClientHandle plain server client (Err e) fails = absurd (client refl)

-- ---- a line alone, through an object's handle

module _ (c : Content) (a : Author) (line : WriteLine) (attributes : List Attribute) (are : attributes_of c a.object ≡ attributes) where
  pub line_drafted : (delta : Bool) (k : HandleKind) → k ≡ ObjectHandle delta → (bytes : List ℕ) → IsSingle bytes line → (d : Draft) → d.object ≡ a.object → d.has_lines ≡ true
      → d.kind ≡ Change (resolved attributes line ∷ []) → IsDrafted c a k bytes d
  line_drafted delta k is bytes reads d object lines kind =
      subst (λ (k : HandleKind). IsDrafted c a k bytes d) (sym is)
      (record {
        text = text_of_line line;
        reads = reads;
        object = object;
        lines = lines;
        kind = object_made c a (text_of_line line) attributes are d.kind kind;
        late = object_first c a (text_of_line line) attributes are refl delta d.kind kind;
      })

-- ---- a text that is read

pub unread_fails : (w : Result WriteText Refusal) (checks : WriteText → List Check) (e : Refusal) → FailsLate (parsed w (λ text. [])) e → FailsLate (parsed w checks) e
unread_fails w checks e (inr memory) = inr memory
unread_fails (Err x) checks e (inl some) = inl some
unread_fails (Ok text) checks e (inl some) = absurd (let bad = some in cc)

pub read_fails : (w : Result WriteText Refusal) (checks : WriteText → List Check) (text : WriteText) → w ≡ Ok text → (e : Refusal) → FailsLate (checks text) e → FailsLate (parsed w checks) e
read_fails w checks text is e fails = subst (λ (w : Result WriteText Refusal). FailsLate (parsed w checks) e) (sym is) fails

pub empty_same : {X : Type 0} (xs : List X) → (length xs == 0) ≡ is_empty xs
empty_same [] = refl
empty_same (x ∷ xs) = ne_eqb (length (x ∷ xs)) 0 (λ e. let bad : length (x ∷ xs) ≡ 0 = e in absurd (omega arith))

-- who it is of
pub who : {X : Type 0} (P : X → Type 0) (o : Option X) → IsSomeAnd o P → (x : X) × ((o ≡ Some x) × P x)
who P None is = elim is [ ]
who P (Some x) is = (x, (refl, is))
