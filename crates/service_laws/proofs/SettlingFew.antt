-- What an event tells: one record, or none; or two of one directory; but a Detach may tell more.
use Rattle.std.proofs.Common.{◌≡◌, ℕ, Bool, true, false, cond, ◌&&◌, eqb, List, [], ◌∷◌, ◌++◌, Option, Some, None, Err, refl, sym, ap, ◌∙◌}
use Rattle.std.specs.Prelude.{is_some, unwrap_or}
use Rattle.std.proofs.lemmas.Bool.{eqb-true}
use Rattle.pps_types.specs.Bytes.{is_empty, same}
use Rattle.pps_types.specs.declared.refusal.Refusal.TheVariants.{BadHandle}
use Rattle.pps_types.specs.declared.event.Mode.{Mode}
use Rattle.pps_types.specs.declared.event.Request.{Request}
use Rattle.pps_types.specs.declared.event.Request.TheVariants.{Attach, Detach, Open as OpenRequest, Read, Write, Close, Unlink, Mkdir, List as ListRequest, Notify, Receive}
use Rattle.pps_types.specs.declared.outcome.Item.{Item}
use Rattle.pps_types.specs.declared.record.Kind.{Kind}
use Rattle.pps_types.specs.declared.record.Kind.TheVariants.{Deleted, Truncated, Dropped, Opened}
use Rattle.pps_types.specs.declared.handle_kind.HandleKind.{HandleKind}
use Rattle.pps_types.specs.declared.handle_kind.HandleKind.TheVariants.{Object as ObjectHandle, Directory as DirectoryHandle, Names as NamesHandle, Server as ServerHandle, Client as ClientHandle}
use Rattle.pps_types.specs.Names.{last_name}
use Rattle.pps_types.specs.OpenText.{OpenSpec, open_text, path_text}
use Rattle.pps_types.specs.Text.{write_text}
use Rattle.pps_types.specs.Outbox.{first_of}
use Rattle.pps_types.specs.Reading.{OpenHandle, Answer}
use Rattle.pps_types.specs.Rests.{Progress}
use Rattle.pps_types.specs.Content.{Content, LiveObject, Directory, object_numbered, object_at, directory_at, parent_number, own_handle, queue_of, read_answer}
use Rattle.pps_types.specs.Plan.{Move, Creates, AppendsRecord, Opens, Closes, Queues, entry_of, effect, opening, new_object, new_handle, written_kind, on_target, closing, parting, unlinking, received, read_effect, found_object}
use Rattle.service_laws.proofs.Finds.{and-both, find-true}
use Rattle.service_laws.proofs.Passes.{object-found}
use Rattle.service_laws.proofs.Trees.{of_name}
use Rattle.service_laws.specs.Told.{entries_told}
use Rattle.service_laws.specs.Concerned.{AreFew}
use Rattle.service_laws.proofs.SettlingEvents.{of-outcome, of-result, of-option, of-either, read_effect-silent}

module _ (c : Content) where
  abbrev Few : List Move → Type 0
  Few xs = AreFew c (entries_told xs)

  few-target : (h : OpenHandle Progress) (kind : Kind) (writer : Option ℕ) → Few (on_target c h kind writer)
  few-target h kind writer = of-option Few tt _ (λ o. tt) (object_numbered c h.target)

  few-parting : (h : OpenHandle Progress) (k : HandleKind) → Few (parting c h k)
  few-parting h ServerHandle = few-target h _ None
  few-parting h ClientHandle = few-target h _ None
  few-parting h NamesHandle = tt
  few-parting h (ObjectHandle delta) = of-either Few (h.options.critical && h.writes) _ [] (few-target h Dropped None) tt
  few-parting h (DirectoryHandle delta) = tt

  few-closing : (h : OpenHandle Progress) → Few (closing c h)
  few-closing h = by (is_some h.parked)
    where
      by : (b : Bool) → Few (Closes h.number ∷ (cond b (Queues h.connection (Item.ReadDone h.number (Err BadHandle)) ∷ []) []) ++ parting c h h.kind)
      by true = few-parting h h.kind
      by false = few-parting h h.kind

  -- the object that a server's takes the place of lies in the same directory
  same-directory : (spec : OpenSpec) (o : LiveObject) → found_object c spec ≡ Some o → (new_object c spec).directory ≡ o.object.directory
  same-directory spec o found = by spec.all found
    where
      at : object_at c spec.names ≡ Some o → unwrap_or (parent_number c spec.names) 0 ≡ o.object.directory
      at is =
          let place = object-found c spec.names o is in
          let own = and-both (eqb o.object.directory place.0) (same o.object.name (last_name spec.names)) (find-true (of_name (last_name spec.names) place.0) c.objects o place.2) in
          ap (λ k. unwrap_or k 0) place.1 ∙ sym (eqb-true o.object.directory place.0 own.0)

      by : (b : Bool) → cond b None (object_at c spec.names) ≡ Some o → unwrap_or (parent_number c spec.names) 0 ≡ o.object.directory
      by true is = absurd (let no = is in cc)
      by false is = at is

  few-opening : (conn : ℕ) (mode : Mode) (spec : OpenSpec) → Few (opening c conn mode spec (found_object c spec))
  few-opening conn mode spec = go (found_object c spec) refl
    where
      go : (found : Option LiveObject) → found_object c spec ≡ found → Few (opening c conn mode spec found)
      go None is = by spec.all
        where
          by : (b : Bool) → Few ((cond b [] (Creates (new_object c spec) ∷ [])) ++ Opens (new_handle c conn mode spec None) ∷ [])
          by true = tt
          by false = tt
      go (Some o) is = by spec.options.server (is_some o.object.server) mode.t
        where
          by : (s k t : Bool) → Few ((cond s (AppendsRecord (entry_of o.object Deleted None) ∷ Creates (new_object c spec) ∷ [])
              (cond k (AppendsRecord (entry_of o.object (Opened c.next_handle) None) ∷ []) (cond t (AppendsRecord (entry_of o.object Truncated None) ∷ []) []))) ++ Opens (new_handle c conn mode spec (Some o)) ∷ [])
          by true k t = (same-directory spec o is, refl)
          by false true t = tt
          by false false true = tt
          by false false false = tt

  few-read : (h : OpenHandle Progress) (size : ℕ) (a : Answer) → Few (read_effect h size a).1
  few-read h size a = rw (read_effect-silent h size a) tt

  few-unlinking : (o : Option LiveObject) (d : Option Directory) → Few (unlinking o d)
  few-unlinking (Some o) d = tt
  few-unlinking None (Some d) = tt
  few-unlinking None None = tt

  few-received : (conn : ℕ) (i : Option Item) → Few (received conn i).1
  few-received conn None = tt
  few-received conn (Some i) = tt

  pub effect-few : (conn : ℕ) (request : Request) → (request ≡ Detach → ⊥) → Few (effect c conn request).1
  unfolding effect
  effect-few conn Attach other = tt
  effect-few conn Detach other = absurd (other refl)
  effect-few conn (OpenRequest mode text) other = of-result Few tt _ (λ spec. few-opening conn mode spec) (open_text text)
  effect-few conn (Read handle size) other = of-outcome Few tt _ (λ h. few-read h size (read_answer c h size)) (own_handle c conn handle)
  effect-few conn (Write handle bytes) other =
      of-outcome Few tt _ (λ h. of-result Few tt _ (λ text. of-either Few (is_empty text.lines) [] _ tt (few-target h (written_kind c h h.kind text) (Some h.number))) (write_text bytes)) (own_handle c conn handle)
  effect-few conn (Close handle) other = of-outcome Few tt _ (λ h. few-closing h) (own_handle c conn handle)
  effect-few conn (Unlink path) other = of-outcome Few tt _ (λ names. few-unlinking (object_at c names) (directory_at c names)) (path_text path)
  effect-few conn (Mkdir path) other = of-outcome Few tt _ (λ names. tt) (path_text path)
  effect-few conn (ListRequest path) other = of-outcome Few tt _ (λ names. tt) (path_text path)
  effect-few conn (Notify handle action code value) other = of-outcome Few tt _ (λ h. tt) (own_handle c conn handle)
  effect-few conn Receive other = few-received conn (first_of (queue_of c conn))
