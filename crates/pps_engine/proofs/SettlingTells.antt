-- The moves of an event: it tells no record, or its moves only tell, open and close; and none but a creation creates.
use Rattle.std.proofs.Common.{◌≡◌, ℕ, Bool, true, false, ◌&&◌, List, [], ◌∷◌, Option, Some, None, refl, ◌⊎◌, inl, inr}
use Rattle.std.specs.Prelude.{is_some}
use Rattle.std.specs.List.{AllByRecursion, list_all}
use Rattle.pps_types.specs.Bytes.{is_empty}
use Rattle.pps_types.specs.declared.event.Mode.{Mode}
use Rattle.pps_types.specs.declared.event.Request.{Request}
use Rattle.pps_types.specs.declared.event.Request.TheVariants.{Attach, Detach, Open as OpenRequest, Read, Write, Close, Unlink, Mkdir, List as ListRequest, Notify, Receive}
use Rattle.pps_types.specs.declared.outcome.Item.{Item}
use Rattle.pps_types.specs.declared.line.Line.{Line}
use Rattle.pps_types.specs.declared.record.Kind.{Kind}
use Rattle.pps_types.specs.declared.record.Kind.TheVariants.{Created, Dropped, Deleted, Closed}
use Rattle.pps_types.specs.declared.handle_kind.HandleKind.{HandleKind}
use Rattle.pps_types.specs.declared.handle_kind.HandleKind.TheVariants.{Object as ObjectHandle, Directory as DirectoryHandle, Names as NamesHandle, Server as ServerHandle, Client as ClientHandle}
use Rattle.pps_types.specs.OpenText.{OpenSpec, open_text, path_text}
use Rattle.pps_types.specs.Text.{WriteText, write_text}
use Rattle.pps_types.specs.Outbox.{first_of}
use Rattle.pps_types.specs.Reading.{OpenHandle}
use Rattle.pps_types.specs.Rests.{Progress}
use Rattle.pps_types.specs.Checks.{Addressee, Everyone, OneClient, Nobody, addressee}
use Rattle.pps_types.specs.Content.{Content, LiveObject, Directory, object_numbered, object_at, directory_at, own_handle, handles_of, queue_of, read_answer}
use Rattle.pps_types.specs.Plan.{Move, AppendsRecord, apply_all_seen, effect, preparing, written_kind, sent, on_target, closing, closings, parting, unlinking, received, found_object}
use Rattle.service_laws.proofs.Settlings.{all-append}
use Rattle.service_laws.specs.Told.{entries_told, only_tells}
use Rattle.service_laws.proofs.SettlingEvents.{of-outcome, of-result, of-option, of-either, read_effect-silent}

-- it is a record of a new object
abbrev pub creates : Kind → Bool
creates Created = true
creates _ = false

-- a move that creates no object tells of none that is new
abbrev pub IsPlain : Move → Type 0
IsPlain (AppendsRecord e) = creates e.record_of.kind ≡ false
IsPlain _ = Unit {0}

abbrev IsTelling : Move → Type 0
IsTelling x = (only_tells x ≡ true) × IsPlain x

abbrev pub AreTelling : List Move → Type 0
AreTelling xs = AllByRecursion IsTelling xs

pub telling-only : (xs : List Move) → AreTelling xs → list_all only_tells xs ≡ true
telling-only [] p = refl
telling-only (x ∷ xs) p = rw p.0.0 (telling-only xs p.1)

sent-plain : (a : Addressee) (lines : List Line) → creates (sent a lines) ≡ false
sent-plain Everyone lines = refl
sent-plain (OneClient id) lines = refl
sent-plain Nobody lines = refl

written-plain : (c : Content) (h : OpenHandle Progress) (k : HandleKind) (text : WriteText) → creates (written_kind c h k text) ≡ false
written-plain c h ServerHandle text = sent-plain (addressee h.name text.header) _
written-plain c h ClientHandle text = refl
written-plain c h NamesHandle text = refl
written-plain c h (ObjectHandle delta) text = refl
written-plain c h (DirectoryHandle delta) text = refl

on_target-tells : (c : Content) (h : OpenHandle Progress) (kind : Kind) (writer : Option ℕ) → creates kind ≡ false → AreTelling (on_target c h kind writer)
on_target-tells c h kind writer plain = of-option AreTelling tt _ (λ o. ((refl, plain), tt)) (object_numbered c h.target)

parting-tells : (c : Content) (h : OpenHandle Progress) (k : HandleKind) → AreTelling (parting c h k)
parting-tells c h ServerHandle = on_target-tells c h Deleted None refl
parting-tells c h ClientHandle = on_target-tells c h (Closed h.number) None refl
parting-tells c h NamesHandle = tt
parting-tells c h (ObjectHandle delta) = of-either AreTelling (h.options.critical && h.writes) _ [] (on_target-tells c h Dropped None refl) tt
parting-tells c h (DirectoryHandle delta) = tt

closing-tells : (c : Content) (h : OpenHandle Progress) → AreTelling (closing c h)
closing-tells c h = ((refl, tt), all-append IsTelling _ (parting c h h.kind) (of-either AreTelling (is_some h.parked) _ [] ((refl, tt), tt) tt) (parting-tells c h h.kind))

closings-tells : (c : Content) (hs : List (OpenHandle Progress)) → AreTelling (closings c hs)
closings-tells c [] = tt
closings-tells c (h ∷ hs) = all-append IsTelling (closing c h) (closings (apply_all_seen (closing c h) c) hs) (closing-tells c h) (closings-tells (apply_all_seen (closing c h) c) hs)

preparing-tells : (c : Content) (mode : Mode) (spec : OpenSpec) (found : Option LiveObject) → AreTelling (preparing c mode spec found)
preparing-tells c mode spec None = of-either AreTelling spec.all [] _ tt ((refl, tt), tt)
preparing-tells c mode spec (Some o) =
    of-either AreTelling spec.options.server _ _ ((refl, refl), ((refl, tt), tt)) (of-either AreTelling (is_some o.object.server) _ _ ((refl, refl), tt) (of-either AreTelling mode.t _ [] ((refl, refl), tt) tt))

unlinking-tells : (o : Option LiveObject) (d : Option Directory) → AreTelling (unlinking o d)
unlinking-tells (Some o) d = ((refl, refl), tt)
unlinking-tells None (Some d) = ((refl, tt), tt)
unlinking-tells None None = tt

received-tells : (conn : ℕ) (i : Option Item) → AreTelling (received conn i).1
received-tells conn None = tt
received-tells conn (Some i) = ((refl, tt), tt)

abbrev IsSilent : List Move → Type 0
IsSilent xs = entries_told xs ≡ []

-- an event's moves only tell, open and close, or tell nothing
pub effect-tells : (c : Content) (conn : ℕ) (request : Request) → AreTelling (effect c conn request).1 ⊎ (entries_told (effect c conn request).1 ≡ [])
unfolding effect
effect-tells c conn Attach = inl ((refl, tt), tt)
effect-tells c conn Detach = inl (all-append IsTelling (closings c (handles_of c conn)) _ (closings-tells c (handles_of c conn)) ((refl, tt), tt))
effect-tells c conn (OpenRequest mode text) =
    inl (of-result AreTelling tt _ (λ spec. all-append IsTelling (preparing c mode spec (found_object c spec)) _ (preparing-tells c mode spec (found_object c spec)) ((refl, tt), tt)) (open_text text))
effect-tells c conn (Read handle size) = inr (of-outcome IsSilent refl _ (λ h. read_effect-silent h size (read_answer c h size)) (own_handle c conn handle))
effect-tells c conn (Write handle bytes) =
    inl (of-outcome AreTelling tt _ (λ h. of-result AreTelling tt _ (λ text. of-either AreTelling (is_empty text.lines) [] _ tt (on_target-tells c h (written_kind c h h.kind text) (Some h.number) (written-plain c h h.kind text))) (write_text bytes)) (own_handle c conn handle))
effect-tells c conn (Close handle) = inl (of-outcome AreTelling tt _ (λ h. closing-tells c h) (own_handle c conn handle))
effect-tells c conn (Unlink path) = inl (of-outcome AreTelling tt _ (λ names. unlinking-tells (object_at c names) (directory_at c names)) (path_text path))
effect-tells c conn (Mkdir path) = inl (of-outcome AreTelling tt _ (λ names. ((refl, tt), tt)) (path_text path))
effect-tells c conn (ListRequest path) = inl (of-outcome AreTelling tt _ (λ names. tt) (path_text path))
effect-tells c conn (Notify handle action code value) = inr (of-outcome IsSilent refl _ (λ h. refl) (own_handle c conn handle))
effect-tells c conn Receive = inl (received-tells conn (first_of (queue_of c conn)))
