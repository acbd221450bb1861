-- What is made of each step is what the open does.
use Rattle.std.specs.Prelude.{◌≡◌, ◌++◌, ℕ, Bool, true, List, [], ◌∷◌, Option, Some, None, Result, Ok, Err, IfOk, OnOk, IfSome, IsSome, IsSomeAnd}
use Rattle.std.specs.Option.{option_map_or}
use Rattle.std.proofs.Common.{refl, sym, ◌∙◌, ap, subst, cond}
use Rattle.pps_types.specs.declared.refusal.Refusal.{Refusal}
use Rattle.pps_types.specs.declared.event.Mode.{Mode}
use Rattle.pps_types.specs.declared.found.Found.{Found}
use Rattle.pps_types.specs.declared.found.Found.TheVariants.{Object as FoundObject}
use Rattle.pps_types.specs.declared.handle_kind.HandleKind.{HandleKind}
use Rattle.pps_types.specs.declared.record.Kind.{Kind}
use Rattle.pps_types.specs.declared.record.Kind.TheVariants.{Deleted}
use Rattle.pps_types.specs.Names.{Path, last_name}
use Rattle.pps_types.specs.OpenText.{OpenSpec}
use Rattle.pps_types.specs.Reading.{OpenHandle}
use Rattle.pps_types.specs.Content.{LiveObject, object_numbered}
use Rattle.pps_types.specs.Plan.{Move, Creates as CreatesObject, AppendsRecord, Opens as OpensHandle, entry_of, new_object}
use Rattle.sub_reader.specs.declared.opening.Opening.{Opening}
use Rattle.sub_reader.specs.Opened.{opened, number_of}
use Rattle.open_handles.specs.Whole.{name_at}
use Rattle.service_state.specs.Tables.{Tabled, content_in}
use Rattle.path_requests.specs.declared.planned_open.Opens.{Opens}
use Rattle.path_requests.specs.declared.ways.Step.{Step}
use Rattle.path_requests.specs.declared.ways.Step.TheVariants.{Stays, Tells, Creates, Replaces}
use Rattle.path_requests.specs.Asked.{handle_by}
use Rattle.path_requests.specs.Planned.{moves_of}
use Rattle.path_requests.specs.Ways.{CanStep, IsFollowedBy, step_moves, step_target}

pub ok_to : {X : Type 0} (r : Result X Refusal) (P Q : X → Type 0) → ((x : X) → P x → Q x) → IfOk r P → IfOk r Q
ok_to (Err e) P Q go has = tt
ok_to (Ok x) P Q go has = go x has

pub on_ok : {X : Type 0} (r : Result X Refusal) (P : Type 0) → P → OnOk r P
on_ok (Err e) P p = tt
on_ok (Ok x) P p = p

module _ (t n : Tabled) (conn : ℕ) (mode : Mode) (spec : OpenSpec) (kind : HandleKind) (opening : Opening)
    (fixed : (target : ℕ) (name : List ℕ) → opened target name opening ≡ handle_by (content_in t) conn mode spec kind (target, name)) where
  abbrev GoesBy : Step → Opens → Type 0
  GoesBy s o = moves_of o n ≡ step_moves (content_in t) spec s ++ OpensHandle (handle_by (content_in t) conn mode spec kind (step_target t spec s)) ∷ []

  pub stays_by : (found : Found) (s : Step) (r : Result Opens Refusal) → s ≡ Stays found
      → IfOk r (λ o. moves_of o n ≡ OpensHandle (opened (number_of found) (name_at found t.handles) opening) ∷ []) → IfOk r (GoesBy s)
  stays_by found s r is moved =
      subst (λ (s : Step). IfOk r (GoesBy s)) (sym is)
      (ok_to r (λ o. moves_of o n ≡ OpensHandle (opened (number_of found) (name_at found t.handles) opening) ∷ []) (GoesBy (Stays found))
      (λ o e. e ∙ ap (λ (h : OpenHandle (Unit {0})). OpensHandle h ∷ []) (fixed (number_of found) (name_at found t.handles))) moved)

  -- where an object is known
  known_by : (x : Option LiveObject) (o : Opens) (P : LiveObject → List Move) (ms : List Move) → IsSome x → ((k : LiveObject) → x ≡ Some k → P k ≡ ms) → IfSome x (λ k. moves_of o n ≡ P k) → moves_of o n ≡ ms
  known_by None o P ms some go has = absurd (let no = some in cc)
  known_by (Some k) o P ms some go has = has ∙ go k refl

  pub tells_by : (object : ℕ) (told : Kind) (s : Step) (r : Result Opens Refusal) → s ≡ Tells object told → CanStep t spec kind s
      → IfOk r (λ o. IfSome (object_numbered (content_in t) object) (λ known. moves_of o n ≡ AppendsRecord (entry_of known.object told None) ∷ OpensHandle (opened object (name_at (FoundObject object) t.handles) opening) ∷ [])) → IfOk r (GoesBy s)
  tells_by object told s r is able moved =
      subst (λ (s : Step). IfOk r (GoesBy s)) (sym is)
      (ok_to r (λ o. IfSome (object_numbered (content_in t) object) (λ known. moves_of o n ≡ AppendsRecord (entry_of known.object told None) ∷ OpensHandle (opened object (name_at (FoundObject object) t.handles) opening) ∷ [])) (GoesBy (Tells object told))
      (λ o e. known_by (object_numbered (content_in t) object) o (λ known. AppendsRecord (entry_of known.object told None) ∷ OpensHandle (opened object (name_at (FoundObject object) t.handles) opening) ∷ []) _
      (subst (CanStep t spec kind) is able).alive
      (λ k same. ap (λ (h : OpenHandle (Unit {0})). AppendsRecord (entry_of k.object told None) ∷ OpensHandle h ∷ []) (fixed object (name_at (FoundObject object) t.handles)) ∙ plain k same) e) moved)
    where
      plain : (k : LiveObject) → object_numbered (content_in t) object ≡ Some k
          → AppendsRecord (entry_of k.object told None) ∷ OpensHandle (handle_by (content_in t) conn mode spec kind (object, name_at (FoundObject object) t.handles)) ∷ []
          ≡ step_moves (content_in t) spec (Tells object told) ++ OpensHandle (handle_by (content_in t) conn mode spec kind (object, name_at (FoundObject object) t.handles)) ∷ []
      plain k same = rw same refl

  pub creates_by : (directory : ℕ) (path : Path) (nopersist served : Bool) (s : Step) (r : Result Opens Refusal) → s ≡ Creates directory → CanStep t spec kind s → path ≡ spec.names → nopersist ≡ spec.options.nopersist → served ≡ spec.options.server
      → IfOk r (λ o. moves_of o n ≡ CreatesObject (record { number = (content_in t).next_object; directory = directory; name = last_name path; nopersist = nopersist; server = cond served (Some (content_in t).next_handle) None }) ∷ OpensHandle (opened (content_in t).next_object (last_name path) opening) ∷ [])
      → IfOk r (GoesBy s)
  creates_by directory path nopersist served s r is able names keeps serves moved =
      subst (λ (s : Step). IfOk r (GoesBy s)) (sym is)
      (ok_to r (λ o. moves_of o n ≡ CreatesObject (record { number = (content_in t).next_object; directory = directory; name = last_name path; nopersist = nopersist; server = cond served (Some (content_in t).next_handle) None }) ∷ OpensHandle (opened (content_in t).next_object (last_name path) opening) ∷ []) (GoesBy (Creates directory))
      (λ o e. e
      ∙ (λ i. CreatesObject (record { number = (content_in t).next_object; directory = sym (subst (CanStep t spec kind) is able).within i; name = last_name (names i); nopersist = keeps i; server = cond (serves i) (Some (content_in t).next_handle) None })
      ∷ OpensHandle (opened (content_in t).next_object (last_name (names i)) opening) ∷ [])
      ∙ ap (λ (h : OpenHandle (Unit {0})). CreatesObject (new_object (content_in t) spec) ∷ OpensHandle h ∷ []) (fixed (content_in t).next_object (last_name spec.names))) moved)

  pub replaces_by : (object : ℕ) (nopersist : Bool) (s : Step) (r : Result Opens Refusal) → s ≡ Replaces object → CanStep t spec kind s → nopersist ≡ spec.options.nopersist
      → IfOk r (λ o. IfSome (object_numbered (content_in t) object) (λ known. moves_of o n ≡ AppendsRecord (entry_of known.object Deleted None)
      ∷ CreatesObject (record { number = (content_in t).next_object; directory = known.object.directory; name = known.object.name; nopersist = nopersist; server = Some (content_in t).next_handle }) ∷ OpensHandle (opened (content_in t).next_object known.object.name opening) ∷ []))
      → IfOk r (GoesBy s)
  replaces_by object nopersist s r is able keeps moved =
      subst (λ (s : Step). IfOk r (GoesBy s)) (sym is)
      (ok_to r (λ o. IfSome (object_numbered (content_in t) object) (λ known. moves_of o n ≡ AppendsRecord (entry_of known.object Deleted None)
      ∷ CreatesObject (record { number = (content_in t).next_object; directory = known.object.directory; name = known.object.name; nopersist = nopersist; server = Some (content_in t).next_handle }) ∷ OpensHandle (opened (content_in t).next_object known.object.name opening) ∷ [])) (GoesBy (Replaces object))
      (λ o e. by (object_numbered (content_in t) object) refl o (subst (CanStep t spec kind) is able).alive (subst (CanStep t spec kind) is able).server e) moved)
    where
      by : (x : Option LiveObject) → object_numbered (content_in t) object ≡ x → (o : Opens) → IsSomeAnd x (λ o. IsFollowedBy (new_object (content_in t) spec) o.object) → spec.options.server ≡ true
          → IfSome x (λ known. moves_of o n ≡ AppendsRecord (entry_of known.object Deleted None)
          ∷ CreatesObject (record { number = (content_in t).next_object; directory = known.object.directory; name = known.object.name; nopersist = nopersist; server = Some (content_in t).next_handle }) ∷ OpensHandle (opened (content_in t).next_object known.object.name opening) ∷ [])
          → GoesBy (Replaces object) o
      by None f o some server e = absurd some
      by (Some k) f o followed server e =
          e
          ∙ (λ i. AppendsRecord (entry_of k.object Deleted None)
          ∷ CreatesObject (record { number = (content_in t).next_object; directory = sym followed.directory i; name = sym followed.name i; nopersist = keeps i; server = cond (sym server i) (Some (content_in t).next_handle) None })
          ∷ OpensHandle (opened (content_in t).next_object (sym followed.name i) opening) ∷ [])
          ∙ ap (λ (h : OpenHandle (Unit {0})). AppendsRecord (entry_of k.object Deleted None) ∷ CreatesObject (new_object (content_in t) spec) ∷ OpensHandle h ∷ []) (fixed (content_in t).next_object (last_name spec.names))
          ∙ ap (λ (y : Option LiveObject). option_map_or (λ o. AppendsRecord (entry_of o.object Deleted None) ∷ CreatesObject (new_object (content_in t) spec) ∷ []) y [] ++ OpensHandle (handle_by (content_in t) conn mode spec kind ((content_in t).next_object, last_name spec.names)) ∷ []) (sym f)
