-- How an open goes is how it is planned, and it can go so.
use Rattle.std.specs.Prelude.{◌≡◌, ◌&&◌, ◌||◌, ℕ, Bool, true, false, not, [], ◌∷◌, Option, Some, None, Ok, is_some, option_map, unwrap_or, IsSome, IsSomeAnd}
use Rattle.std.specs.Option.{option_map_or}
use Rattle.std.proofs.Common.{refl, sym, ◌∙◌, ap, subst, cond}
use Rattle.pps_types.specs.declared.event.Mode.{Mode}
use Rattle.pps_types.specs.declared.found.Found.{Found}
use Rattle.pps_types.specs.declared.found.Found.TheVariants.{Object as FoundObject, Directory as FoundDirectory}
use Rattle.pps_types.specs.declared.handle_kind.HandleKind.{HandleKind}
use Rattle.pps_types.specs.declared.handle_kind.HandleKind.TheVariants.{Object as ObjectHandle, Directory as DirectoryHandle, Names as NamesHandle}
use Rattle.pps_types.specs.declared.record.Kind.{Kind}
use Rattle.pps_types.specs.declared.record.Kind.TheVariants.{Deleted, Opened, Truncated}
use Rattle.pps_types.specs.Names.{Name, parent, last_name, place, find_at, same_path}
use Rattle.pps_types.specs.OpenText.{OpenSpec}
use Rattle.pps_types.specs.Content.{Content, Directory, LiveObject, at, directory_at, object_numbered}
use Rattle.pps_types.specs.WellFormed.{IsContent}
use Rattle.pps_types.specs.Checks.{mode_fits}
use Rattle.pps_types.specs.Plan.{Creates as CreatesObject, AppendsRecord, entry_of, new_object, new_handle, preparing, found_object, kind_opened, target_of}
use Rattle.service_laws.proofs.Finds.{all-find}
use Rattle.service_laws.proofs.Passes.{place-at}
use Rattle.service_laws.proofs.Trees.{of_name}
use Rattle.sub_reader.specs.Opened.{is_directory, suits}
use Rattle.open_handles.specs.Whole.{Whole, Site, name_at, site_at}
use Rattle.service_state.specs.Lines.{deletes, is_change}
use Rattle.service_state.specs.Tables.{Tabled, content_in, AreTied, IsOpenable, IsOpenableDirectory}
use Rattle.path_requests.specs.declared.ways.Step.{Step}
use Rattle.path_requests.specs.declared.ways.Step.TheVariants.{Stays, Tells, Creates, Replaces}
use Rattle.path_requests.specs.declared.ways.Way.{Way}
use Rattle.path_requests.specs.Asked.{kind_by, handle_by}
use Rattle.path_requests.specs.Ways.{IsWay, SuitsOn, IsFollowedBy, step_on}
use Rattle.path_requests.proofs.Places.{IsAlive, directory_there, nothing_there, above_number}

-- the handle, by its kind and its target
handle_is : (c : Content) (conn : ℕ) (mode : Mode) (spec : OpenSpec) (found : Option LiveObject) (kind : HandleKind) (target : ℕ) (name : Name)
    → kind_opened spec found ≡ kind → target_of c spec found ≡ target → cond spec.all [] (last_name spec.names) ≡ name → new_handle c conn mode spec found ≡ handle_by c conn mode spec kind (target, name)
handle_is c conn mode spec found kind target name k t n = λ i. record {
  number = c.next_handle;
  connection = conn;
  target = t i;
  name = n i;
  kind = k i;
  reads = mode.r;
  writes = mode.w;
  options = spec.options.of_handle;
  limit = unwrap_or spec.options.limit c.default_limit;
  seen = tt;
  parked = None;
  armed = None;
}

-- the name that a place has
name_there : (w : Whole) (f : Found) (s : Site) → site_at f w ≡ Some s → name_at f w ≡ s.name
name_there w f s e = ap (λ (o : Option Site). option_map_or (λ (s : Site). s.name) o []) e

suits_there : (w : Whole) (f : Found) (s : Site) (kind : HandleKind) → site_at f w ≡ Some s → suits kind (is_directory f) s.service ≡ true → SuitsOn kind f w
suits_there w f s kind e fits = subst (λ (o : Option Site). IsSomeAnd o (λ s. suits kind (is_directory f) s.service ≡ true)) (sym e) fits

-- ---- all of a directory

served_no : (mode : Mode) (spec : OpenSpec) → mode_fits mode spec ≡ true → spec.all ≡ true → spec.options.server ≡ false
served_no mode spec fits all = by spec.all spec.options.server mode.r mode.w mode.c mode.t fits all
  where
    by : (a s r w k t : Bool) → (not (a && (w || k || t)) && not (s && not (r && w))) ≡ true → a ≡ true → s ≡ false
    by a false r w k t fits all = refl
    by false true r w k t fits all = absurd (let no = all in cc)
    by true true r true k t fits all = absurd (let no = fits in cc)
    by true true r false true t fits all = absurd (let no = fits in cc)
    by true true r false false true fits all = absurd (let no = fits in cc)
    by true true true false false false fits all = absurd (let no = fits in cc)
    by true true false false false false fits all = absurd (let no = fits in cc)

suits_all : (spec : OpenSpec) → spec.all ≡ true → spec.options.server ≡ false → suits (kind_by spec false) true false ≡ true
suits_all spec all server = rw (server, all) (by spec.options.deltadir spec.options.delta)
  where
    by : (deltadir delta : Bool) → suits (cond deltadir NamesHandle (DirectoryHandle delta)) true false ≡ true
    by true delta = refl
    by false true = refl
    by false false = refl

number_there : (o : Option Directory) (n : ℕ) → option_map (λ (d : Directory). d.number) o ≡ Some n → option_map_or (λ (d : Directory). d.number) o 0 ≡ n
number_there None n e = absurd (let no = e in cc)
number_there (Some d) n e = let is : d.number ≡ n = cc in is

pub all_goes : (t : Tabled) → AreTied t → (mode : Mode) (spec : OpenSpec) (directory : ℕ) → mode_fits mode spec ≡ true → spec.all ≡ true → place (at (content_in t)) spec.names ≡ Ok (Some (FoundDirectory directory))
    → (kind : HandleKind) (f : Found) → kind ≡ kind_by spec false → f ≡ FoundDirectory directory → IsWay t mode spec (record { kind = kind; step = Stays f })
all_goes t tied mode spec directory fits all placed kind f k g = subst (λ (w : Way). IsWay t mode spec w) (λ i. record { kind = sym k i; step = Stays (sym g i) }) whole
  where
    there : option_map (λ (d : Directory). d.number) (directory_at (content_in t) spec.names) ≡ Some directory
    there = directory_there (content_in t) spec.names directory (place-at (at (content_in t)) spec.names (Some (FoundDirectory directory)) placed)

    site : site_at (FoundDirectory directory) t.handles ≡ Some (record { name = []; service = false })
    site = by (directory_at (content_in t) spec.names) refl there
      where
        by : (o : Option Directory) → directory_at (content_in t) spec.names ≡ o → option_map (λ (d : Directory). d.number) o ≡ Some directory → site_at (FoundDirectory directory) t.handles ≡ Some (record { name = []; service = false })
        by None e n = absurd (let no = n in cc)
        by (Some d) e n =
            let is : d.number ≡ directory = cc in
            subst (λ (n : ℕ). site_at (FoundDirectory n) t.handles ≡ Some (record { name = []; service = false })) is
            (all-find (IsOpenableDirectory t.handles) (λ (d : Directory). same_path d.path spec.names) (content_in t).directories d tied.directories e)

    found : found_object (content_in t) spec ≡ None
    found = rw all refl

    whole : IsWay t mode spec (record { kind = kind_by spec false; step = Stays (FoundDirectory directory) })
    whole = record {
      moves = ap (preparing (content_in t) mode spec) found ∙ rw all refl;
      handle = λ conn. ap (new_handle (content_in t) conn mode spec) found
          ∙ handle_is (content_in t) conn mode spec None (kind_by spec false) directory (name_at (FoundDirectory directory) t.handles) refl
          (rw all (number_there (directory_at (content_in t) spec.names) directory there))
          (rw all (sym (name_there t.handles (FoundDirectory directory) (record { name = []; service = false }) site)));
      able = suits_there t.handles (FoundDirectory directory) (record { name = []; service = false }) (kind_by spec false) site (suits_all spec all (served_no mode spec fits all));
    }

-- ---- an object that is alive

module _ (t : Tabled) (tied : AreTied t) (is : IsContent (content_in t)) (mode : Mode) (spec : OpenSpec) (n : ℕ) (all : spec.all ≡ false) (a : IsAlive (content_in t) spec.names n) where
  abbrev served : Bool
  served = is_some a.o.object.server

  site : site_at (FoundObject n) t.handles ≡ Some (record { name = a.o.object.name; service = served })
  site = subst (λ (n : ℕ). site_at (FoundObject n) t.handles ≡ Some (record { name = a.o.object.name; service = served })) a.number
      (all-find (IsOpenable t.handles) (of_name (last_name spec.names) a.k) (content_in t).objects a.o tied.objects a.among)

  found : found_object (content_in t) spec ≡ Some a.o
  found = rw all a.here

  name : cond spec.all [] (last_name spec.names) ≡ name_at (FoundObject n) t.handles
  name = rw all (a.name ∙ sym (name_there t.handles (FoundObject n) (record { name = a.o.object.name; service = served }) site))

  on_server : spec.options.server ≡ true → IsWay t mode spec (record { kind = kind_by spec served; step = Replaces n })
  on_server v = record {
    moves = ap (preparing (content_in t) mode spec) found
        ∙ ap (λ (b : Bool). cond b (AppendsRecord (entry_of a.o.object Deleted None) ∷ CreatesObject (new_object (content_in t) spec) ∷ []) (cond served (AppendsRecord (entry_of a.o.object (Opened (content_in t).next_handle) None) ∷ []) (cond mode.t (AppendsRecord (entry_of a.o.object Truncated None) ∷ []) []))) v
        ∙ sym (ap (λ (o : Option LiveObject). option_map_or (λ o. AppendsRecord (entry_of o.object Deleted None) ∷ CreatesObject (new_object (content_in t) spec) ∷ []) o []) a.numbered);
    handle = λ conn. ap (new_handle (content_in t) conn mode spec) found ∙ handle_is (content_in t) conn mode spec (Some a.o) (kind_by spec served) (content_in t).next_object (last_name spec.names) refl (rw (all, v) refl) (rw all refl);
    able = record {
      alive = subst (λ (o : Option LiveObject). IsSomeAnd o (λ o. IsFollowedBy (new_object (content_in t) spec) o.object)) (sym a.numbered) (record { directory = a.directory; name = a.name });
      suits = rw v refl;
      server = v;
    };
  }

  -- the record leaves it alive
  told_goes : (told : Kind) → (kind : HandleKind) → kind ≡ kind_by spec served → suits kind false served ≡ true → deletes told ≡ false → is_change told ≡ false → spec.options.server ≡ false
      → preparing (content_in t) mode spec (Some a.o) ≡ AppendsRecord (entry_of a.o.object told None) ∷ [] → IsWay t mode spec (record { kind = kind; step = Tells n told })
  told_goes told kind k fits keeps plain v moved = record {
    moves = ap (preparing (content_in t) mode spec) found ∙ moved ∙ sym (ap (λ (o : Option LiveObject). option_map_or (λ o. AppendsRecord (entry_of o.object told None) ∷ []) o []) a.numbered);
    handle = λ conn. ap (new_handle (content_in t) conn mode spec) found ∙ handle_is (content_in t) conn mode spec (Some a.o) kind n (name_at (FoundObject n) t.handles) (sym k) (rw (all, v) a.number) name;
    able = record {
      suits = suits_there t.handles (FoundObject n) (record { name = a.o.object.name; service = served }) kind site fits;
      alive = subst IsSome (sym a.numbered) refl;
      keeps = keeps;
      plain = plain;
    };
  }

  -- it stays as it is
  still_goes : (kind : HandleKind) → kind ≡ kind_by spec served → suits kind false served ≡ true → spec.options.server ≡ false
      → preparing (content_in t) mode spec (Some a.o) ≡ [] → IsWay t mode spec (record { kind = kind; step = Stays (FoundObject n) })
  still_goes kind k fits v moved = record {
    moves = ap (preparing (content_in t) mode spec) found ∙ moved;
    handle = λ conn. ap (new_handle (content_in t) conn mode spec) found ∙ handle_is (content_in t) conn mode spec (Some a.o) kind n (name_at (FoundObject n) t.handles) (sym k) (rw (all, v) a.number) name;
    able = suits_there t.handles (FoundObject n) (record { name = a.o.object.name; service = served }) kind site fits;
  }

  suits_plain : (delta : Bool) → suits (ObjectHandle delta) false false ≡ true
  suits_plain true = refl
  suits_plain false = refl

  goes : (v : Bool) → spec.options.server ≡ v → (k : Bool) → served ≡ k → (cut : Bool) → mode.t ≡ cut
      → IsWay t mode spec (record { kind = kind_by spec served; step = cond v (Replaces n) (cond k (Tells n (Opened (content_in t).next_handle)) (cond cut (Tells n Truncated) (Stays (FoundObject n)))) })
  goes true v k e cut f = on_server v
  goes false v true e cut f = told_goes (Opened (content_in t).next_handle) (kind_by spec served) refl (rw (v, all, e) refl) refl refl v (rw (v, e) refl)
  goes false v false e true f = told_goes Truncated (kind_by spec served) refl (rw (v, all, e) (suits_plain spec.options.delta)) refl refl v (rw (v, e, f) refl)
  goes false v false e false f = still_goes (kind_by spec served) refl (rw (v, all, e) (suits_plain spec.options.delta)) v (rw (v, e, f) refl)

  pub alive_goes : (s : Bool) (number : ℕ) (kind : HandleKind) (step : Step) → s ≡ option_map_or (λ (o : LiveObject). is_some o.object.server) (object_numbered (content_in t) n) false → number ≡ (content_in t).next_handle
      → kind ≡ kind_by spec s → step ≡ step_on mode spec n s number → IsWay t mode spec (record { kind = kind; step = step })
  alive_goes s number kind step e m k g =
      let is : s ≡ served = e ∙ ap (λ (o : Option LiveObject). option_map_or (λ (o : LiveObject). is_some o.object.server) o false) a.numbered in
      subst (λ (w : Way). IsWay t mode spec w) (λ i. record { kind = (ap (kind_by spec) (sym is) ∙ sym k) i; step = ((λ j. step_on mode spec n (sym is j) (sym m j)) ∙ sym g) i })
      (goes spec.options.server refl served refl mode.t refl)

-- ---- a free name

suits_new : (spec : OpenSpec) → spec.all ≡ false → suits (kind_by spec false) false spec.options.server ≡ true
suits_new spec all = by spec.options.server refl
  where
    plain : (delta : Bool) → suits (ObjectHandle delta) false false ≡ true
    plain true = refl
    plain false = refl

    by : (v : Bool) → spec.options.server ≡ v → suits (kind_by spec false) false spec.options.server ≡ true
    by true v = rw v refl
    by false v = rw (v, all) (plain spec.options.delta)

pub free_goes : (t : Tabled) → (mode : Mode) (spec : OpenSpec) (directory : ℕ) → spec.all ≡ false → place (at (content_in t)) spec.names ≡ Ok None → find_at (at (content_in t)) (parent spec.names) ≡ Ok (FoundDirectory directory)
    → (kind : HandleKind) → kind ≡ kind_by spec false → IsWay t mode spec (record { kind = kind; step = Creates directory })
free_goes t mode spec directory all placed above kind k = subst (λ (w : Way). IsWay t mode spec w) (λ i. record { kind = sym k i; step = Creates directory }) whole
  where
    found : found_object (content_in t) spec ≡ None
    found = rw all (nothing_there (content_in t) spec.names (place-at (at (content_in t)) spec.names None placed))

    target : (v : Bool) (n : ℕ) → cond v n n ≡ n
    target true n = refl
    target false n = refl

    whole : IsWay t mode spec (record { kind = kind_by spec false; step = Creates directory })
    whole = record {
      moves = ap (preparing (content_in t) mode spec) found ∙ rw all refl;
      handle = λ conn. ap (new_handle (content_in t) conn mode spec) found
          ∙ handle_is (content_in t) conn mode spec None (kind_by spec false) (content_in t).next_object (last_name spec.names) refl (rw all (target spec.options.server (content_in t).next_object)) (rw all refl);
      able = record { above = above; suits = suits_new spec all; within = above_number (content_in t) spec.names directory above };
    }
