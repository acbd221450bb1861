-- An object that takes another's place.
use Rattle.std.specs.Prelude.{◌≡◌, ◌+◌, ℕ, List, [], ◌∷◌, true, Option, Some, None, is_some, map, IsSomeAnd, IfSome}
use Rattle.std.specs.List.{AllByRecursion, filter_map, cons_option}
use Rattle.std.proofs.Common.{refl, sym, ◌∙◌, ap, subst}
use Rattle.pps_types.specs.declared.found.Found.TheVariants.{Object as FoundObject, Directory as FoundDirectory}
use Rattle.pps_types.specs.History.{Entry}
use Rattle.pps_types.specs.Content.{Object, LiveObject}
use Rattle.pps_types.specs.WellFormed.{RiseBetween}
use Rattle.pps_types.specs.Plan.{AppendsRecord, Creates, apply_seen, touched, offer, creation}
use Rattle.name_table.specs.Standing.{Named, standing_of, standing_in as names_in, happened, after}
use Rattle.name_table.specs.Laws.{MovesAreTold}
use Rattle.open_handles.specs.Whole.{Whole, site_at, handles_in}
use Rattle.notify_box.specs.Connections.{connections_of, ConnectionsRise}
use Rattle.notify_box.specs.ConnectionLaws.{ConnectionsAreFound, ConnectionsAreTold}
use Rattle.service_state.specs.Tables.{Tabled, content_in, AreTied, IsOpenable, IsOpenableDirectory}
use Rattle.service_state.proofs.Ties.{Meets, Step, meets_content}
use Rattle.service_state.proofs.Tells.{touched_same}
use Rattle.service_state.proofs.Comes.{not_above_objects, directories_stay, all_push}

-- the objects that a record leaves keep their places, where those of other numbers do
openable_left : (e : Entry) (n : ℕ) (old new : Whole) → ((o : LiveObject) → (o.object.number ≡ n → ⊥) → is_some (touched e o) ≡ true → site_at (FoundObject o.object.number) new ≡ site_at (FoundObject o.object.number) old)
    → (os : List LiveObject) → AllByRecursion (λ (o : LiveObject). o.object.number ≡ n → ⊥) os → AllByRecursion (IsOpenable old) os → AllByRecursion (IsOpenable new) (filter_map (touched e) os)
openable_left e n old new stays [] apart all = tt
openable_left e n old new stays (o ∷ os) apart all = by (touched e o) refl (openable_left e n old new stays os apart.1 all.1)
  where
    by : (t : Option LiveObject) → touched e o ≡ t → AllByRecursion (IsOpenable new) (filter_map (touched e) os) → AllByRecursion (IsOpenable new) (cons_option t (filter_map (touched e) os))
    by None is rest = rest
    by (Some p) is rest =
        let same : p.object ≡ o.object = touched_same e o p is in
        (subst (λ x. site_at (FoundObject x.number) new ≡ Some (record { name = x.name; service = is_some x.server })) (sym same) (stays o apart.0 (ap is_some is) ∙ all.0), rest)

module _ (found : ConnectionsAreFound) (told : ConnectionsAreTold) (named : MovesAreTold) where
  pub replaced_step : (t : Tabled) (n : Named) (w : Whole) (e : Entry) (o : Object) (r : ℕ) → r ≡ t.records + 1 + 1 → AreTied t → o.number ≡ (content_in t).next_object
      → RiseBetween 0 (map (λ (o : LiveObject). o.object.number) (content_in t).objects) (content_in t).next_object
      → standing_of n ≡ after (Creates o) (happened e.record_of.object e.record_of.kind (standing_of t.names))
      → handles_in w ≡ map (offer (creation o)) (map (offer e) (handles_in t.handles)) → w.rows ≡ t.handles.rows
      → site_at (FoundObject o.number) w ≡ Some (record { name = o.name; service = is_some o.server })
      → ((p : LiveObject) → (p.object.number ≡ o.number → ⊥) → is_some (touched e p) ≡ true → site_at (FoundObject p.object.number) w ≡ site_at (FoundObject p.object.number) t.handles)
      → ((d : ℕ) → site_at (FoundDirectory d) w ≡ site_at (FoundDirectory d) t.handles)
      → w.objects.next ≡ o.number + 1 → w.directories.next ≡ t.handles.directories.next → Step (AppendsRecord e ∷ Creates o ∷ []) t (record t { records = r; names = n; handles = w })
  replaced_step t n w e o r count tied number rise standing handles rows added stays directories next_object next_directory =
      let c = content_in t in
      let middle = apply_seen (AppendsRecord e) c in
      let then = apply_seen (Creates o) middle in
      let new = record t { records = r; names = n; handles = w } in
      let same : standing_of n ≡ names_in then = standing ∙ ap (after (Creates o)) (sym (named.happened e c)) ∙ sym (named.created o middle) in
      let meets : Meets new then = record {
        default_limit = refl;
        records = count;
        standing = same;
        handles = handles;
        next_handle = ap (λ r. r.next) rows;
        connected = tied.connected ∙ sym (told.kept c (AppendsRecord e ∷ Creates o ∷ []) refl);
        rise = tied.rise;
      } in
      record {
        moved = meets_content found new then meets;
        tied = record {
          connected = meets.connected ∙ ap connections_of (sym (meets_content found new then meets));
          rise = subst ConnectionsRise (sym (meets_content found new then meets)) tied.rise;
          objects = subst (λ s. AllByRecursion (IsOpenable w) s.objects) (sym same)
              (all_push (IsOpenable w) (filter_map (touched e) c.objects) (record { object = o; attributes = [] })
              (openable_left e o.number t.handles w stays c.objects (subst (λ m. AllByRecursion (λ (p : LiveObject). p.object.number ≡ m → ⊥) c.objects) (sym number) (not_above_objects c.next_object 0 c.objects rise)) tied.objects) added);
          directories = subst (λ s. AllByRecursion (IsOpenableDirectory w) s.directories) (sym same) (directories_stay t.handles w directories c.directories tied.directories);
          next_object = next_object ∙ ap (λ m. m + 1) number ∙ sym (ap (λ s. s.next_object) same);
          next_directory = next_directory ∙ tied.next_directory ∙ sym (ap (λ s. s.next_directory) same);
        };
      }

-- what holds of something that is there
pub there : {X : Type 0} (o : Option X) (P : X → Type 0) → IsSomeAnd o P → (x : X) × ((o ≡ Some x) × P x)
there None P p = absurd p
there (Some x) P p = (x, (refl, p))

pub if_there : {X : Type 0} (o : Option X) (x : X) (P : X → Type 0) → o ≡ Some x → P x → IfSome o P
if_there o x P is p = subst (λ o. IfSome o P) (sym is) p
