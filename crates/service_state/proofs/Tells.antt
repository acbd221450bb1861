-- Records that are told.
use Rattle.std.specs.Prelude.{◌≡◌, ◌+◌, ◌==◌, ℕ, List, [], ◌∷◌, Bool, true, false, Option, Some, None, is_some, map, IsSome, IfSome}
use Rattle.std.specs.List.{AllByRecursion, filter_map, cons_option}
use Rattle.std.proofs.Common.{refl, sym, ◌∙◌, ap, subst, cond}
use Rattle.pps_types.specs.declared.line.Line.{Line}
use Rattle.pps_types.specs.declared.record.Kind.{Kind}
use Rattle.pps_types.specs.declared.record.Kind.TheVariants.{Created, Change, Truncated, Dropped, Deleted, Opened, Closed, FromClient, ToClient, ToAll}
use Rattle.pps_types.specs.declared.found.Found.TheVariants.{Object as FoundObject, Directory as FoundDirectory}
use Rattle.pps_types.specs.History.{Entry, after_kind}
use Rattle.pps_types.specs.Content.{LiveObject, Directory}
use Rattle.pps_types.specs.Plan.{AppendsRecord, apply_seen, touched, still_known, offer}
use Rattle.name_table.specs.Standing.{Standing, Named, standing_of, standing_in as names_in, happened, bare_entry}
use Rattle.name_table.specs.Laws.{MovesAreTold}
use Rattle.open_handles.specs.Whole.{Whole, site_at, handles_in}
use Rattle.notify_box.specs.Connections.{connections_of, ConnectionsRise}
use Rattle.notify_box.specs.ConnectionLaws.{ConnectionsAreFound, ConnectionsAreTold}
use Rattle.std.proofs.lemmas.Bool.{eq-eqb}
use Rattle.service_state.specs.Lines.{deletes}
use Rattle.service_state.specs.Tables.{Tabled, content_in, AreTied, IsOpenable, IsOpenableDirectory}
use Rattle.service_state.proofs.Ties.{Meets, Step, meets_content}

-- a record that changes no attributes leaves all objects as they are
same_objects : (n : ℕ) (kind : Kind) → ((o : LiveObject) → still_known o kind ≡ Some o) → (os : List LiveObject) → filter_map (touched (bare_entry n kind)) os ≡ os
same_objects n kind still [] = refl
same_objects n kind still (o ∷ os) = by (n == o.object.number) (same_objects n kind still os)
  where
    by : (b : Bool) → filter_map (touched (bare_entry n kind)) os ≡ os → cons_option (cond b (still_known o kind) (Some o)) (filter_map (touched (bare_entry n kind)) os) ≡ o ∷ os
    by true rest = (λ i. cons_option (still o i) (rest i))
    by false rest = ap (λ xs. o ∷ xs) rest

same_standing : (n : ℕ) (kind : Kind) → ((o : LiveObject) → still_known o kind ≡ Some o) → (s : Standing) → happened n kind s ≡ s
same_standing n kind still s = (λ i. record { objects = same_objects n kind still s.objects i; next_object = s.next_object; directories = s.directories; next_directory = s.next_directory })

-- a record of a kind that changes no attributes leaves what stands of names as it is
pub unchanged_by : (n : ℕ) (kind : Kind) (s : Standing) → (kind ≡ Created → ⊥) → ((lines : List Line) → kind ≡ Change lines → ⊥) → (kind ≡ Truncated → ⊥) → (kind ≡ Dropped → ⊥)
    → (kind ≡ Deleted → ⊥) → happened n kind s ≡ s
unchanged_by n Created s created change truncated dropped deleted = absurd (created refl)
unchanged_by n (Change lines) s created change truncated dropped deleted = absurd (change lines refl)
unchanged_by n Truncated s created change truncated dropped deleted = absurd (truncated refl)
unchanged_by n Dropped s created change truncated dropped deleted = absurd (dropped refl)
unchanged_by n Deleted s created change truncated dropped deleted = absurd (deleted refl)
unchanged_by n (Opened id) s created change truncated dropped deleted = same_standing n (Opened id) (λ o. refl) s
unchanged_by n (Closed id) s created change truncated dropped deleted = same_standing n (Closed id) (λ o. refl) s
unchanged_by n (FromClient id lines) s created change truncated dropped deleted = same_standing n (FromClient id lines) (λ o. refl) s
unchanged_by n (ToClient id lines) s created change truncated dropped deleted = same_standing n (ToClient id lines) (λ o. refl) s
unchanged_by n (ToAll lines) s created change truncated dropped deleted = same_standing n (ToAll lines) (λ o. refl) s

-- ---- places for handles

-- each object that a record leaves alive keeps its place
abbrev pub StaysOpenable : Entry → Whole → Whole → Type 0
StaysOpenable e old new = (o : LiveObject) → is_some (touched e o) ≡ true → site_at (FoundObject o.object.number) new ≡ site_at (FoundObject o.object.number) old

-- an object that a record deletes is gone
pub deleted_gone : (e : Entry) (o : LiveObject) → deletes e.record_of.kind ≡ true → o.object.number ≡ e.record_of.object → is_some (touched e o) ≡ true → ⊥
deleted_gone e o deleted same alive = by e.record_of.kind (e.record_of.object == o.object.number) (eq-eqb e.record_of.object o.object.number (sym same)) deleted alive
  where
    by : (kind : Kind) (b : Bool) → b ≡ true → deletes kind ≡ true → is_some (cond b (still_known o kind) (Some o)) ≡ true → ⊥
    by Deleted true is deleted alive = let bad = alive in cc
    by Deleted false is deleted alive = let bad = is in cc
    by Created b is deleted alive = let bad = deleted in cc
    by (Change lines) b is deleted alive = let bad = deleted in cc
    by Truncated b is deleted alive = let bad = deleted in cc
    by Dropped b is deleted alive = let bad = deleted in cc
    by (Opened id) b is deleted alive = let bad = deleted in cc
    by (Closed id) b is deleted alive = let bad = deleted in cc
    by (FromClient id lines) b is deleted alive = let bad = deleted in cc
    by (ToClient id lines) b is deleted alive = let bad = deleted in cc
    by (ToAll lines) b is deleted alive = let bad = deleted in cc

-- what a record leaves of an object is the object still
still_same : (o : LiveObject) (kind : Kind) (p : LiveObject) → still_known o kind ≡ Some p → p.object ≡ o.object
still_same o Deleted p e = absurd (let bad = e in cc)
still_same o Created p e = let is : record o { attributes = [] } ≡ p = cc in ap (λ x. x.object) (sym is)
still_same o (Change lines) p e = let is : record o { attributes = after_kind o.attributes (Change lines) } ≡ p = cc in ap (λ x. x.object) (sym is)
still_same o Truncated p e = let is : record o { attributes = [] } ≡ p = cc in ap (λ x. x.object) (sym is)
still_same o Dropped p e = let is : record o { attributes = after_kind o.attributes Dropped } ≡ p = cc in ap (λ x. x.object) (sym is)
still_same o (Opened id) p e = let is : o ≡ p = cc in ap (λ x. x.object) (sym is)
still_same o (Closed id) p e = let is : o ≡ p = cc in ap (λ x. x.object) (sym is)
still_same o (FromClient id lines) p e = let is : o ≡ p = cc in ap (λ x. x.object) (sym is)
still_same o (ToClient id lines) p e = let is : o ≡ p = cc in ap (λ x. x.object) (sym is)
still_same o (ToAll lines) p e = let is : o ≡ p = cc in ap (λ x. x.object) (sym is)

pub touched_same : (e : Entry) (o p : LiveObject) → touched e o ≡ Some p → p.object ≡ o.object
touched_same e o p is = by (e.record_of.object == o.object.number) is
  where
    by : (b : Bool) → cond b (still_known o e.record_of.kind) (Some o) ≡ Some p → p.object ≡ o.object
    by true is = still_same o e.record_of.kind p is
    by false is = let same : o ≡ p = cc in ap (λ x. x.object) (sym same)

pub openable_touched : (e : Entry) (old new : Whole) → StaysOpenable e old new → (os : List LiveObject) → AllByRecursion (IsOpenable old) os → AllByRecursion (IsOpenable new) (filter_map (touched e) os)
openable_touched e old new stays [] all = tt
openable_touched e old new stays (o ∷ os) all = by (touched e o) refl (openable_touched e old new stays os all.1)
  where
    by : (t : Option LiveObject) → touched e o ≡ t → AllByRecursion (IsOpenable new) (filter_map (touched e) os) → AllByRecursion (IsOpenable new) (cons_option t (filter_map (touched e) os))
    by None is rest = rest
    by (Some p) is rest =
        let same : p.object ≡ o.object = touched_same e o p is in
        (subst (λ x. site_at (FoundObject x.number) new ≡ Some (record { name = x.name; service = is_some x.server })) (sym same) (stays o (ap is_some is) ∙ all.0), rest)

openable_directories : (old new : Whole) → ((d : ℕ) → site_at (FoundDirectory d) new ≡ site_at (FoundDirectory d) old) → (ds : List Directory) → AllByRecursion (IsOpenableDirectory old) ds → AllByRecursion (IsOpenableDirectory new) ds
openable_directories old new sites [] all = tt
openable_directories old new sites (d ∷ ds) all = (sites d.number ∙ all.0, openable_directories old new sites ds all.1)

-- ---- a record that happens

module _ (found : ConnectionsAreFound) (told : ConnectionsAreTold) (named : MovesAreTold) where
  pub happened_step : (t : Tabled) (n : Named) (w : Whole) (e : Entry) → AreTied t
      → standing_of n ≡ happened e.record_of.object e.record_of.kind (standing_of t.names) → handles_in w ≡ map (offer e) (handles_in t.handles) → w.rows.next ≡ t.handles.rows.next
      → StaysOpenable e t.handles w → ((d : ℕ) → site_at (FoundDirectory d) w ≡ site_at (FoundDirectory d) t.handles)
      → w.objects.next ≡ t.handles.objects.next → w.directories.next ≡ t.handles.directories.next
      → Step (AppendsRecord e ∷ []) t (record t { records = t.records + 1; names = n; handles = w })
  happened_step t n w e tied standing handles next stays directories next_object next_directory =
      let after = apply_seen (AppendsRecord e) (content_in t) in
      let new = record t { records = t.records + 1; names = n; handles = w } in
      let same : standing_of n ≡ names_in after = standing ∙ sym (named.happened e (content_in t)) in
      let meets : Meets new after = record {
        default_limit = refl;
        records = refl;
        standing = same;
        handles = handles;
        next_handle = next;
        connected = tied.connected ∙ sym (told.kept (content_in t) (AppendsRecord e ∷ []) refl);
        rise = tied.rise;
      } in
      record {
        moved = meets_content found new after meets;
        tied = record {
          connected = meets.connected ∙ ap connections_of (sym (meets_content found new after meets));
          rise = subst ConnectionsRise (sym (meets_content found new after meets)) tied.rise;
          objects = subst (AllByRecursion (IsOpenable w)) (sym (ap (λ s. s.objects) same)) (openable_touched e t.handles w stays (content_in t).objects tied.objects);
          directories = subst (AllByRecursion (IsOpenableDirectory w)) (sym (ap (λ s. s.directories) same)) (openable_directories t.handles w directories (content_in t).directories tied.directories);
          next_object = next_object ∙ tied.next_object ∙ sym (ap (λ s. s.next_object) same);
          next_directory = next_directory ∙ tied.next_directory ∙ sym (ap (λ s. s.next_directory) same);
        };
      }

-- ---- changes by lines

-- what lines make of names is what a record of that change makes of them
pub changed_by : (lines : List Line) (n : ℕ) (kind : Kind) (old new : Standing) → kind ≡ Change lines → new ≡ happened n (Change lines) old → new ≡ happened n kind old
changed_by lines n kind old new is standing = standing ∙ ap (λ k. happened n k old) (sym is)

-- there is such a record
pub change_exists : {T : Type 0} → (lines : List Line) (n : ℕ) → ((e : Entry) → e.record_of.object ≡ n → e.record_of.kind ≡ Change lines → T) → T
change_exists lines n by = by (bare_entry n (Change lines)) refl refl
