-- Closes one after the other, planned from what stood before them all.
use Rattle.std.proofs.Common.{◌≡◌, ℕ, Bool, true, false, cond, ◌&&◌, ◌||◌, List, [], ◌∷◌, ◌++◌, Option, Some, None, refl, sym, ap, ◌∙◌}
use Rattle.std.specs.Prelude.{◌==◌, is_some, option_map, option_and_then}
use Rattle.std.proofs.lemmas.Bool.{eqb-true}
use Rattle.std.specs.Option.{option_map_or}
use Rattle.pps_types.specs.declared.record.Kind.{Kind}
use Rattle.pps_types.specs.declared.record.Kind.TheVariants.{Dropped, Deleted, Closed}
use Rattle.pps_types.specs.declared.refusal.Refusal.TheVariants.{BadHandle}
use Rattle.pps_types.specs.declared.outcome.Item.TheVariants.{ReadDone}
use Rattle.pps_types.specs.declared.event.Request.TheVariants.{Detach}
use Rattle.pps_types.specs.declared.handle_kind.HandleKind.{HandleKind}
use Rattle.pps_types.specs.declared.handle_kind.HandleKind.TheVariants.{Object as ObjectHandle, Directory as DirectoryHandle, Names as NamesHandle, Server as ServerHandle, Client as ClientHandle}
use Rattle.pps_types.specs.Reading.{OpenHandle}
use Rattle.pps_types.specs.Rests.{Progress}
use Rattle.std.specs.Prelude.{Err}
use Rattle.pps_types.specs.Content.{Object, LiveObject, Content, object_numbered, handles_of}
use Rattle.pps_types.specs.Plan.{Move, Leaves, Closes, Queues, AppendsRecord, entry_of, on_target, parting, closing, closings, still_known, effect, apply_all_seen}
use Rattle.pps_types.specs.Checks.{is_server}
use Rattle.service_laws.proofs.Finds.{find-true}
use Rattle.service_laws.specs.SettlingTargets.{object_after}
use Rattle.service_laws.specs.Closings.{server_closed, closing_behind, closings_behind}
use Rattle.service_laws.proofs.SettlingObjects.{found-all}

abbrev object_of : Option LiveObject → Option Object
object_of k = option_map (λ (o : LiveObject). o.object) k

-- what stands after closes: the objects that stood before, but those whose servers closed
abbrev Ends : Content → List (OpenHandle Progress) → Content → Type 0
Ends c before d = (n : ℕ) → object_of (object_numbered d n) ≡ cond (server_closed before n) None (object_of (object_numbered c n))

-- ---- a close tells of its target alone

target-told : (c : Content) (h : OpenHandle Progress) (kind : Kind) → on_target c h kind None ≡ option_map_or (λ (o : Object). AppendsRecord (entry_of o kind None) ∷ []) (object_of (object_numbered c h.target)) []
target-told c h kind = go (object_numbered c h.target)
  where
    go : (k : Option LiveObject) → option_map_or (λ (o : LiveObject). AppendsRecord (entry_of o.object kind None) ∷ []) k [] ≡ option_map_or (λ (o : Object). AppendsRecord (entry_of o kind None) ∷ []) (object_of k) []
    go None = refl
    go (Some o) = refl

target-behind : (c d : Content) (before : List (OpenHandle Progress)) (h : OpenHandle Progress) (kind : Kind) → Ends c before d → on_target d h kind None ≡ cond (server_closed before h.target) [] (on_target c h kind None)
target-behind c d before h kind ends =
    target-told d h kind ∙ ap tell (ends h.target) ∙ by (server_closed before h.target) ∙ ap (cond (server_closed before h.target) []) (sym (target-told c h kind))
  where
    tell : Option Object → List Move
    tell k = option_map_or (λ (o : Object). AppendsRecord (entry_of o kind None) ∷ []) k []

    by : (b : Bool) → tell (cond b None (object_of (object_numbered c h.target))) ≡ cond b [] (tell (object_of (object_numbered c h.target)))
    by true = refl
    by false = refl

parting-behind : (c d : Content) (before : List (OpenHandle Progress)) (h : OpenHandle Progress) (k : HandleKind) → Ends c before d → parting d h k ≡ cond (server_closed before h.target) [] (parting c h k)
parting-behind c d before h ServerHandle ends = target-behind c d before h Deleted ends
parting-behind c d before h ClientHandle ends = target-behind c d before h (Closed h.number) ends
parting-behind c d before h NamesHandle ends = elim (server_closed before h.target) as (λ b. [] ≡ cond {A = List Move} b [] []) [ true ↦ refl | false ↦ refl ]
parting-behind c d before h (DirectoryHandle delta) ends = elim (server_closed before h.target) as (λ b. [] ≡ cond {A = List Move} b [] []) [ true ↦ refl | false ↦ refl ]
parting-behind c d before h (ObjectHandle delta) ends = ap (λ ms. cond (h.options.critical && h.writes) ms []) (target-behind c d before h Dropped ends) ∙ by (h.options.critical && h.writes) (server_closed before h.target)
  where
    by : (a b : Bool) → cond a (cond b [] (on_target c h Dropped None)) [] ≡ cond b [] (cond a (on_target c h Dropped None) [])
    by true b = refl
    by false true = refl
    by false false = refl

closing-behind : (c d : Content) (before : List (OpenHandle Progress)) (h : OpenHandle Progress) → Ends c before d → closing d h ≡ closing_behind c before h
closing-behind c d before h ends = ap (λ ms. Closes h.number ∷ (cond (is_some h.parked) (Queues h.connection (ReadDone h.number (Err BadHandle)) ∷ []) []) ++ ms) (parting-behind c d before h h.kind ends)

-- ---- what a close leaves of the objects

same-cond : {X : Type 0} (b : Bool) (x y : X) → y ≡ x → cond b y x ≡ x
same-cond true x y e = e
same-cond false x y e = refl

kept-closed : (id : ℕ) (k : Option LiveObject) → object_of (option_and_then (λ (o : LiveObject). still_known o (Closed id)) k) ≡ object_of k
kept-closed id None = refl
kept-closed id (Some o) = refl

kept-dropped : (k : Option LiveObject) → object_of (option_and_then (λ (o : LiveObject). still_known o Dropped) k) ≡ object_of k
kept-dropped None = refl
kept-dropped (Some o) = refl

gone-deleted : (k : Option LiveObject) → object_of (option_and_then (λ (o : LiveObject). still_known o Deleted) k) ≡ None
gone-deleted None = refl
gone-deleted (Some o) = refl

of-cond : (b : Bool) (y k : Option LiveObject) → object_of (cond b y k) ≡ cond b (object_of y) (object_of k)
of-cond true y k = refl
of-cond false y k = refl

-- a record that ends no object
told-kept : (d : Content) (h : OpenHandle Progress) (kind : Kind) (n : ℕ) → ((k : Option LiveObject) → object_of (option_and_then (λ (o : LiveObject). still_known o kind) k) ≡ object_of k) → object_of (object_after (on_target d h kind None) n (object_numbered d n)) ≡ object_of (object_numbered d n)
told-kept d h kind n kept = go (object_numbered d h.target)
  where
    go : (t : Option LiveObject) → object_of (object_after (option_map_or (λ (o : LiveObject). AppendsRecord (entry_of o.object kind None) ∷ []) t []) n (object_numbered d n)) ≡ object_of (object_numbered d n)
    go None = refl
    go (Some o) = of-cond (o.object.number == n) (option_and_then (λ (o : LiveObject). still_known o kind) (object_numbered d n)) (object_numbered d n) ∙ same-cond (o.object.number == n) (object_of (object_numbered d n)) (object_of (option_and_then (λ (o : LiveObject). still_known o kind) (object_numbered d n))) (kept (object_numbered d n))

told-ended : (d : Content) (h : OpenHandle Progress) (n : ℕ) → object_of (object_after (on_target d h Deleted None) n (object_numbered d n)) ≡ cond (h.target == n) None (object_of (object_numbered d n))
told-ended d h n = go (object_numbered d h.target) refl
  where
    none : object_numbered d h.target ≡ None → (b : Bool) → (h.target == n) ≡ b → object_of (object_numbered d n) ≡ cond b None (object_of (object_numbered d n))
    none is true e = ap (λ n. object_of (object_numbered d n)) (sym (eqb-true h.target n e)) ∙ ap object_of is
    none is false e = refl

    go : (t : Option LiveObject) → object_numbered d h.target ≡ t → object_of (object_after (option_map_or (λ (o : LiveObject). AppendsRecord (entry_of o.object Deleted None) ∷ []) t []) n (object_numbered d n)) ≡ cond (h.target == n) None (object_of (object_numbered d n))
    go None is = none is (h.target == n) refl
    go (Some o) is =
        of-cond (o.object.number == n) (option_and_then (λ (o : LiveObject). still_known o Deleted) (object_numbered d n)) (object_numbered d n)
        ∙ ap (λ k. cond (o.object.number == n) k (object_of (object_numbered d n))) (gone-deleted (object_numbered d n))
        ∙ ap (λ m. cond (m == n) None (object_of (object_numbered d n))) (eqb-true o.object.number h.target (find-true (λ (o : LiveObject). o.object.number == h.target) d.objects o is))

parted : (d : Content) (h : OpenHandle Progress) (kind : HandleKind) (n : ℕ) → object_of (object_after (parting d h kind) n (object_numbered d n)) ≡ cond (is_server kind && (h.target == n)) None (object_of (object_numbered d n))
parted d h ServerHandle n = told-ended d h n
parted d h ClientHandle n = told-kept d h (Closed h.number) n (kept-closed h.number)
parted d h NamesHandle n = refl
parted d h (DirectoryHandle delta) n = refl
parted d h (ObjectHandle delta) n = by (h.options.critical && h.writes)
  where
    by : (b : Bool) → object_of (object_after (cond b (on_target d h Dropped None) []) n (object_numbered d n)) ≡ object_of (object_numbered d n)
    by true = told-kept d h Dropped n kept-dropped
    by false = refl

closed-objects : (d : Content) (h : OpenHandle Progress) (n : ℕ) → object_of (object_numbered (apply_all_seen (closing d h) d) n) ≡ cond (is_server h.kind && (h.target == n)) None (object_of (object_numbered d n))
closed-objects d h n = ap object_of (found-all (closing d h) d n) ∙ by (is_some h.parked) ∙ parted d h h.kind n
  where
    by : (b : Bool) → object_of (object_after (Closes h.number ∷ (cond b (Queues h.connection (ReadDone h.number (Err BadHandle)) ∷ []) []) ++ parting d h h.kind) n (object_numbered d n)) ≡ object_of (object_after (parting d h h.kind) n (object_numbered d n))
    by true = refl
    by false = refl

ends-on : (c d : Content) (before : List (OpenHandle Progress)) (h : OpenHandle Progress) → Ends c before d → Ends c (h ∷ before) (apply_all_seen (closing d h) d)
ends-on c d before h ends n = closed-objects d h n ∙ ap (cond (is_server h.kind && (h.target == n)) None) (ends n) ∙ by (is_server h.kind && (h.target == n))
  where
    by : (a : Bool) → cond a None (cond (server_closed before n) None (object_of (object_numbered c n))) ≡ cond (a || server_closed before n) None (object_of (object_numbered c n))
    by true = refl
    by false = refl

closings-on : (hs : List (OpenHandle Progress)) (c d : Content) (before : List (OpenHandle Progress)) → Ends c before d → closings d hs ≡ closings_behind c before hs
closings-on [] c d before ends = refl
closings-on (h ∷ hs) c d before ends = λ i. closing-behind c d before h ends i ++ closings-on hs c (apply_all_seen (closing d h) d) (h ∷ before) (ends-on c d before h ends) i

-- Closes one after the other, all by what stood before the first.
pub closings-planned : (c : Content) (hs : List (OpenHandle Progress)) → closings c hs ≡ closings_behind c [] hs
closings-planned c hs = closings-on hs c c [] (λ n. refl)

pub detach-planned : (c : Content) (conn : ℕ) → (effect c conn Detach).1 ≡ closings_behind c [] (handles_of c conn) ++ Leaves conn ∷ []
unfolding effect
detach-planned c conn = ap (λ ms. ms ++ Leaves conn ∷ []) (closings-planned c (handles_of c conn))
