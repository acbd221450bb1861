-- An open is carried out step by step.
use Rattle.std.specs.Prelude.{◌≡◌, ◌<◌, ◌++◌, ℕ, Bool, true, List, [], ◌∷◌, Option, Some, None, is_some, IfSome, IsSomeAnd}
use Rattle.std.specs.Option.{option_map_or}
use Rattle.std.specs.List.{flat_map, list_all}
use Rattle.std.proofs.Common.{refl, sym, ◌∙◌, ap, subst}
use Rattle.pps_types.specs.declared.found.Found.{Found}
use Rattle.pps_types.specs.declared.found.Found.TheVariants.{Object as FoundObject}
use Rattle.pps_types.specs.Content.{Content}
use Rattle.pps_types.specs.Plan.{Move, Creates, AppendsRecord, Opens as OpensHandle, apply_all_seen}
use Rattle.service_laws.proofs.Settlings.{moves-append}
use Rattle.sub_reader.specs.declared.opening.Opening.{Opening}
use Rattle.sub_reader.specs.Opened.{opened, number_of}
use Rattle.name_table.specs.Standing.{Placed, placed_at}
use Rattle.open_handles.specs.Whole.{Site, KeepsSites, name_at, site_at, room_at}
use Rattle.service_state.specs.declared.beginning.Beginning.{Beginning}
use Rattle.service_state.specs.declared.creating.Replacement.{Replacement}
use Rattle.service_state.specs.Beginning.{moves_of as beginning_of, is_keeping}
use Rattle.service_state.specs.Objects.{replacing_object, CanReplace}
use Rattle.service_state.specs.Tables.{Tabled, content_in}
use Rattle.service_state.specs.Tied.{Moves, CanOpen}
use Rattle.path_requests.specs.Planned.{IsReadyOn, IsReadyToReplace, CanOpenNew, opens_new}

-- the handle that opens, under the name of its place
abbrev pub opens_at : Found → Tabled → Opening → List Move
opens_at f t o = OpensHandle (opened (number_of f) (name_at f t.handles) o) ∷ []

pub found_moved : (xs : List Beginning) (f : Found) (o : Opening) (t m n : Tabled) → IsReadyOn xs f o t → Moves (flat_map beginning_of xs) t m
    → (list_all is_keeping xs ≡ true → KeepsSites t.handles m.handles) → Moves (opens_at f m o) m n → Moves (flat_map beginning_of xs ++ opens_at f t o) t n
found_moved xs f o t m n ready begun sites done =
    done ∙ ap (apply_all_seen (opens_at f m o)) begun ∙ sym (moves-append (flat_map beginning_of xs) (opens_at f m o) (content_in t))
    ∙ ap (λ (name : List ℕ). apply_all_seen (flat_map beginning_of xs ++ OpensHandle (opened (number_of f) name o) ∷ []) (content_in t))
    (ap (λ (s : Option Site). option_map_or (λ (s : Site). s.name) s []) ((sites ready.keeps).sites f))

-- ---- on what has come

pub record Came (t m : Tabled) (s : Site) (f : Found) : Type 0 where
  pub is : f ≡ FoundObject (content_in t).next_object
  pub site : site_at (FoundObject (content_in t).next_object) m.handles ≡ Some s
  pub place : 0 < room_at (FoundObject (content_in t).next_object) m.handles
  pub rows : m.handles.rows ≡ t.handles.rows
  pub connections : m.connections ≡ t.connections
  pub next : (content_in m).next_handle ≡ (content_in t).next_handle

pub can_open : (t m : Tabled) (site : Site) (f : Found) (service : Bool) (o : Opening) → Came t m site f → site.service ≡ service → CanOpenNew service o t → CanOpen f o m
can_open t m site f service o came same can = subst (λ (f : Found). CanOpen f o m) (sym came.is) (record {
  number = can.number ∙ sym came.next;
  room = rw came.rows can.room;
  place = came.place;
  suits = rw (came.site, same) can.suits;
  connection = rw came.connections can.connection;
})

pub came_moved : (t m n : Tabled) (site : Site) (f : Found) (name : List ℕ) (o : Opening) (ms : List Move) → Came t m site f → site.name ≡ name → Moves ms t m → Moves (opens_at f m o) m n → Moves (ms ++ opens_new t name o) t n
came_moved t m n site f name o ms came same moved done =
    done
    ∙ ap (λ (f : Found). apply_all_seen (opens_at f m o) (content_in m)) came.is
    ∙ ap (λ (s : Option Site). apply_all_seen (OpensHandle (opened (content_in t).next_object (option_map_or (λ (s : Site). s.name) s []) o) ∷ []) (content_in m)) came.site
    ∙ ap (λ (name : List ℕ). apply_all_seen (opens_new t name o) (content_in m)) same
    ∙ ap (apply_all_seen (opens_new t name o)) moved
    ∙ sym (moves-append ms (opens_new t name o) (content_in t))

-- ---- in another's place

abbrev pub replacing : Replacement → Tabled → Placed → List Move
replacing r t gone = AppendsRecord r.deletion.entry ∷ Creates (replacing_object r gone.object t) ∷ []

-- what is known of an object that gives way
pub with_gone : (r : Replacement) (t : Tabled) (P : Placed → Type 0) (Q : Type 0) → IsSomeAnd (placed_at r.object t.names) (CanReplace r t) → IfSome (placed_at r.object t.names) P
    → ((gone : Placed) → placed_at r.object t.names ≡ Some gone → CanReplace r t gone → P gone → Q) → Q
with_gone r t P Q can known go = by (placed_at r.object t.names) refl can known
  where
    by : (x : Option Placed) → placed_at r.object t.names ≡ x → IsSomeAnd x (CanReplace r t) → IfSome x P → Q
    by None e can known = absurd can
    by (Some gone) e can known = go gone e can known

pub replaced_moved : (r : Replacement) (o : Opening) (t m n : Tabled) (f : Found) → IsReadyToReplace r o t → Came t m r.site.site f → IfSome (placed_at r.object t.names) (λ gone. Moves (replacing r t gone) t m) → Moves (opens_at f m o) m n
    → Moves (option_map_or (λ gone. AppendsRecord r.deletion.entry ∷ Creates (replacing_object r gone.object t) ∷ opens_new t gone.object.name o) (placed_at r.object t.names) []) t n
replaced_moved r o t m n f ready came known done =
    with_gone r t (λ gone. Moves (replacing r t gone) t m) _ ready.replaces known (λ gone e can moved.
    came_moved t m n r.site.site f gone.object.name o (replacing r t gone) came (ap (λ (s : Site). s.name) can.site) moved done
    ∙ sym (ap (λ (x : Option Placed). apply_all_seen (option_map_or (λ gone. AppendsRecord r.deletion.entry ∷ Creates (replacing_object r gone.object t) ∷ opens_new t gone.object.name o) x []) (content_in t)) e))

pub replaced_came : (r : Replacement) (o : Opening) (t m : Tabled) (f : Found) → IsReadyToReplace r o t → f ≡ FoundObject (content_in t).next_object → IfSome (placed_at r.object t.names) (λ gone. Moves (replacing r t gone) t m)
    → site_at (FoundObject (content_in t).next_object) m.handles ≡ Some r.site.site → 0 < room_at (FoundObject (content_in t).next_object) m.handles → m.handles.rows ≡ t.handles.rows → m.connections ≡ t.connections → Came t m r.site.site f
replaced_came r o t m f ready is known site place rows connections = record {
  is = is;
  site = site;
  place = place;
  rows = rows;
  connections = connections;
  next = with_gone r t (λ gone. Moves (replacing r t gone) t m) _ ready.replaces known (λ gone e can moved. ap (λ (c : Content). c.next_handle) moved);
}

pub replaced_service : (r : Replacement) (o : Opening) (t : Tabled) → IsReadyToReplace r o t → r.site.site.service ≡ is_some r.server
replaced_service r o t ready = by (placed_at r.object t.names) ready.replaces
  where
    by : (x : Option Placed) → IsSomeAnd x (CanReplace r t) → r.site.site.service ≡ is_some r.server
    by None can = absurd can
    by (Some gone) can = ap (λ (s : Site). s.service) can.site
