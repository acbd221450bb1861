-- How a close and a detach are checked, and what they do, by what they begin with.
use Rattle.std.specs.Prelude.{◌≡◌, ◌==◌, ◌≤◌, ◌&&◌, ◌⊎◌, ℕ, List, [], ◌∷◌, ◌++◌, Bool, true, false, not, Option, Some, None, is_some, is_none, IfSome, length, map, option_map}
use Rattle.std.specs.Option.{option_map_or}
use Rattle.std.specs.List.{flat_map, list_all}
use Rattle.std.proofs.Common.{refl, sym, ◌∙◌, ap, subst, cond, inl, inr, drop}
use Rattle.std.proofs.Math.ListN.{drop_of_length-le}
use Rattle.std.proofs.lemmas.Bool.{eqb-true}
use Rattle.pps_types.specs.declared.refusal.Refusal.{Refusal}
use Rattle.pps_types.specs.declared.refusal.Refusal.TheVariants.{BadHandle, OutOfMemory, TableFull}
use Rattle.pps_types.specs.declared.event.Request.{Request}
use Rattle.pps_types.specs.declared.event.Request.TheVariants.{Close, Detach}
use Rattle.pps_types.specs.declared.outcome.Outcome.{Outcome}
use Rattle.pps_types.specs.declared.outcome.Outcome.TheVariants.{Done}
use Rattle.pps_types.specs.declared.outcome.Item.TheVariants.{ReadDone}
use Rattle.pps_types.specs.declared.handle_kind.HandleKind.{HandleKind}
use Rattle.pps_types.specs.declared.handle_kind.HandleKind.TheVariants.{Object as ObjectHandle, Directory as DirectoryHandle, Names as NamesHandle, Server as ServerHandle, Client as ClientHandle}
use Rattle.std.specs.Prelude.{Err}
use Rattle.pps_types.specs.declared.record.Kind.TheVariants.{Dropped}
use Rattle.pps_types.specs.Reading.{OpenHandle}
use Rattle.pps_types.specs.Rests.{Progress}
use Rattle.pps_types.specs.History.{Entry}
use Rattle.pps_types.specs.Content.{LiveObject, Content, object_numbered, own_handle, handles_of}
use Rattle.pps_types.specs.Checks.{Refuse, Memory, first_refusal, reaches_memory, close_checks}
use Rattle.pps_types.specs.Plan.{Move, Closes as ClosesHandle, Queues, Leaves, closing as closing_of, parting, effect, apply_all_seen, passes_last_number}
use Rattle.pps_types.specs.WellFormed.{IsContent}
use Rattle.service_laws.proofs.Finds.{find-true, and-both}
use Rattle.service_laws.specs.SettlingTargets.{last_number_passed, last_number_passed_after}
use Rattle.service_laws.specs.SettlingLaws.{EventsAreSettled, ClosesArePlanned}
use Rattle.service_state.specs.declared.beginning.Beginning.{Beginning}
use Rattle.service_state.specs.Moves.{closing}
use Rattle.service_state.specs.declared.beginning.Beginning.TheVariants.{Closes}
use Rattle.service_state.specs.Beginning.{moves_of, entries_in, CanBegin, CanBeginAll, is_plain}
use Rattle.sub_reader.specs.Opened.{as_opened}
use Rattle.service_state.specs.Refused.{Fails, all_request_checks}
use Rattle.handle_requests.proofs.Owns.{own_known}
use Rattle.handle_requests.specs.Told.{record_told, told_of, told_behind}
use Rattle.service_state.specs.Begun.{bare, telling}
use Rattle.handle_requests.specs.Begun.{begun, begun_behind}
use Rattle.handle_requests.proofs.Orphans.{parting_told}
use Rattle.service_state.proofs.Begun.{bare_moves, bare_plain, bare_able, numbers_begun, told_moves}
use Rattle.handle_requests.proofs.Begins.{plain_told, plain_all, able_begun, moves_begun}

-- ---- the checks of a close

last_alone : (c : Content) (h : OpenHandle Progress) (kind : HandleKind) (last : Bool) → first_refusal (close_checks c (record h { kind = kind }) ++ Refuse last TableFull ∷ []) ≡ cond last (Some TableFull) None
last_alone c h ServerHandle last = refl
last_alone c h ClientHandle last = refl
last_alone c h (DirectoryHandle delta) last = refl
last_alone c h NamesHandle last = refl
last_alone c h (ObjectHandle delta) last = by (h.options.critical && h.writes && not (is_none (object_numbered c h.target)))
  where
    by : (drops : Bool) → first_refusal (cond drops (Memory ∷ []) [] ++ Refuse last TableFull ∷ []) ≡ cond last (Some TableFull) None
    by true = refl
    by false = refl

told_wants : (c : Content) (h : OpenHandle Progress) (kind : HandleKind) (last : Bool) → is_some (told_of c (record h { kind = kind })) ≡ true → reaches_memory (close_checks c (record h { kind = kind }) ++ Refuse last TableFull ∷ []) ≡ true
told_wants c h ServerHandle last told = refl
told_wants c h ClientHandle last told = refl
told_wants c h (DirectoryHandle delta) last told = absurd (let bad = told in cc)
told_wants c h NamesHandle last told = absurd (let bad = told in cc)
told_wants c h (ObjectHandle delta) last told = by (h.options.critical && h.writes) (object_numbered c h.target) told
  where
    by : (drops : Bool) (o : Option LiveObject) → is_some (record_told (cond drops (Some Dropped) None) o) ≡ true → reaches_memory (cond (drops && not (is_none o)) (Memory ∷ []) [] ++ Refuse last TableFull ∷ []) ≡ true
    by true (Some o) some = refl
    by true None some = absurd (let bad = some in cc)
    by false o some = absurd (let bad = some in cc)

-- the last number is not passed where nothing more is counted
abbrev pub last_check : Content → ℕ → Request → Bool
last_check c conn request = passes_last_number (apply_all_seen (effect c conn request).1 c)

pub close_absent : (c : Content) (conn handle : ℕ) → own_handle c conn handle ≡ None → first_refusal (all_request_checks c conn (Close handle)) ≡ Some BadHandle
close_absent c conn handle none = ap (λ o. first_refusal (option_map_or (close_checks c) o (Refuse true BadHandle ∷ []) ++ Refuse (last_check c conn (Close handle)) TableFull ∷ [])) none

module _ (c : Content) (conn handle : ℕ) (h : OpenHandle Progress) (own : own_handle c conn handle ≡ Some h) where
  checks_own : all_request_checks c conn (Close handle) ≡ close_checks c h ++ Refuse (last_check c conn (Close handle)) TableFull ∷ []
  checks_own = ap (λ o. option_map_or (close_checks c) o (Refuse true BadHandle ∷ []) ++ Refuse (last_check c conn (Close handle)) TableFull ∷ []) own

  own_numbers : (h.number ≡ handle) × ((h.connection ≡ conn) × Unit {0})
  own_numbers =
      let is = and-both (h.number == handle) (h.connection == conn) (find-true (λ (g : OpenHandle Progress). (g.number == handle) && (g.connection == conn)) c.handles h own) in
      (eqb-true h.number handle is.0, (eqb-true h.connection conn is.1, tt))

  effect_own : effect c conn (Close handle) ≡ (Done, closing_of c h)
  unfolding effect
  effect_own = ap (λ o. option_map_or {U = Outcome × List Move} (λ (h : OpenHandle Progress). (Done, closing_of c h)) o (Done, [])) own

  closing_told : closing_of c h ≡ flat_map moves_of (begun conn handle (is_some h.parked) (told_of c h))
  closing_told =
      ap (λ k. ClosesHandle k ∷ (cond (is_some h.parked) (Queues h.connection (ReadDone k (Err BadHandle)) ∷ []) []) ++ parting c h h.kind) own_numbers.0
      ∙ ap (λ k. ClosesHandle handle ∷ (cond (is_some h.parked) (Queues k (ReadDone handle (Err BadHandle)) ∷ []) []) ++ parting c h h.kind) own_numbers.1.0
      ∙ ap (λ ms. closing conn handle (is_some h.parked) ++ ms) (parting_told c h ∙ told_moves (told_of c h))

  -- it does what is begun with
  pub close_does : (xs : List Beginning) → map bare xs ≡ begun conn handle (is_some h.parked) (told_of c h) → effect c conn (Close handle) ≡ (Done, flat_map moves_of xs)
  close_does xs is = effect_own ∙ (λ i. (Done, (closing_told ∙ sym (ap (flat_map moves_of) is) ∙ bare_moves xs) i))

  -- it takes memory where somebody is told
  pub close_wants : is_some (told_of c h) ≡ true → reaches_memory (all_request_checks c conn (Close handle)) ≡ true
  close_wants told = ap reaches_memory checks_own ∙ told_wants c h h.kind (last_check c conn (Close handle)) told

  module _ (settled : EventsAreSettled) where
    close_last : (xs : List Beginning) → map bare xs ≡ begun conn handle (is_some h.parked) (told_of c h) → last_check c conn (Close handle) ≡ last_number_passed c (length (entries_in xs)) 0 0
    close_last xs is =
        settled.numbers (effect c conn (Close handle)).1 c ∙ ap (λ m. last_number_passed_after c (m.1)) (close_does xs is) ∙ ap (last_number_passed_after c) (sym (append_none (flat_map moves_of xs))) ∙ numbers_begun c xs [] refl refl refl
      where
        append_none : (ms : List Move) → ms ++ [] ≡ ms
        append_none [] = refl
        append_none (m ∷ ms) = ap (λ xs. m ∷ xs) (append_none ms)

    -- only the last check may refuse it
    pub close_refusal : (xs : List Beginning) → map bare xs ≡ begun conn handle (is_some h.parked) (told_of c h) → (last : Bool) → last_number_passed c (length (entries_in xs)) 0 0 ≡ last
        → first_refusal (all_request_checks c conn (Close handle)) ≡ cond last (Some TableFull) None
    close_refusal xs is last passed = ap first_refusal checks_own ∙ last_alone c h h.kind (last_check c conn (Close handle)) ∙ ap (λ b. cond b (Some TableFull) None) (close_last xs is ∙ passed)

-- ---- a detach

module _ (c : Content) (w : IsContent c) (conn : ℕ) (xs : List Beginning) (is : map bare xs ≡ flat_map (begun_behind c conn) (map (λ (h : OpenHandle Progress). h.number) (handles_of c conn))) where
  pub detach_able : CanBeginAll c xs
  detach_able = bare_able xs c (subst (CanBeginAll c) (sym is) (able_begun c conn w))

  pub detach_plain : list_all is_plain xs ≡ true
  detach_plain = sym (bare_plain xs) ∙ ap (list_all is_plain) is ∙ plain_all c conn (map (λ (h : OpenHandle Progress). h.number) (handles_of c conn))

  module _ (settled : EventsAreSettled) (planned : ClosesArePlanned) where
    pub detach_does : effect c conn Detach ≡ (Done, flat_map moves_of xs ++ Leaves conn ∷ [])
    unfolding effect
    detach_does = λ i. (Done, (planned.detach c conn ∙ ap (λ ms. ms ++ Leaves conn ∷ []) (moves_begun c conn w ∙ sym (ap (flat_map moves_of) is) ∙ bare_moves xs)) i)

    detach_last : last_check c conn Detach ≡ last_number_passed c (length (entries_in xs)) 0 0
    detach_last = settled.numbers (effect c conn Detach).1 c ∙ ap (λ m. last_number_passed_after c (m.1)) detach_does ∙ numbers_begun c xs (Leaves conn ∷ []) refl refl refl

    pub detach_refusal : (last : Bool) → last_number_passed c (length (entries_in xs)) 0 0 ≡ last → first_refusal (all_request_checks c conn Detach) ≡ cond last (Some TableFull) None
    detach_refusal last passed = ap (λ b. cond b (Some TableFull) None) (detach_last ∙ passed)

    pub detach_fails : (r : Refusal) → (r ≡ OutOfMemory) ⊎ ((r ≡ TableFull) × (last_number_passed c (length (entries_in xs)) 0 0 ≡ true)) → Fails (all_request_checks c conn Detach) r
    detach_fails r (inl memory) = inr (memory, refl)
    detach_fails r (inr full) = inl (detach_refusal true full.1 ∙ ap Some (sym full.0))

-- ---- a handle that closes, by what the tables know of it

-- it is the connection's own, a read waits on it or not, and this is told of its close
pub record IsClosing (c : Content) (conn handle : ℕ) (parked : Bool) (told : Option Entry) (h : OpenHandle Progress) : Type 0 where
  pub own : own_handle c conn handle ≡ Some h
  pub parked_is : is_some h.parked ≡ parked
  pub told_is : told_of c h ≡ told

pub closing_known : (c : Content) (conn handle : ℕ) (x : OpenHandle (Unit {0})) → Some x ≡ option_map as_opened (own_handle c conn handle)
    → (parked : Bool) → IfSome (own_handle c conn handle) (λ h. parked ≡ is_some h.parked) → (told : Option Entry) → told ≡ told_of c x → (h : OpenHandle Progress) × IsClosing c conn handle parked told h
closing_known c conn handle x e parked parked-is told told-is =
    let known = own_known (own_handle c conn handle) x e in
    let at : own_handle c conn handle ≡ Some known.0 = known.1.0 in
    let waits : parked ≡ is_some known.0.parked = subst (λ (o : Option (OpenHandle Progress)). IfSome o (λ h. parked ≡ is_some h.parked)) at parked-is in
    (known.0, record { own = at; parked_is = sym waits; told_is = ap (λ (y : OpenHandle (Unit {0})). told_of c y) known.1.1 ∙ sym told-is })

module _ (c : Content) (conn handle : ℕ) (parked : Bool) (told : Option Entry) (h : OpenHandle Progress) (is : IsClosing c conn handle parked told h) where
  begun_is : begun conn handle parked told ≡ begun conn handle (is_some h.parked) (told_of c h)
  begun_is = λ i. begun conn handle (sym is.parked_is i) (sym is.told_is i)

  pub closing_wants : is_some told ≡ true → reaches_memory (all_request_checks c conn (Close handle)) ≡ true
  closing_wants some = close_wants c conn handle h is.own (ap is_some is.told_is ∙ some)

  module _ (xs : List Beginning) (begins : map bare xs ≡ begun conn handle parked told) where
    pub closing_able : CanBeginAll c xs
    closing_able = bare_able xs c (subst (CanBeginAll c) (sym begins) (first, by told))
      where
        first : CanBegin c (Closes conn handle parked)
        first = ap (option_map (λ (g : OpenHandle Progress). is_some g.parked)) is.own ∙ ap Some is.parked_is

        by : (told : Option Entry) → CanBeginAll (apply_all_seen (closing conn handle parked) c) (telling told)
        by None = tt
        by (Some e) = (tt, tt)

    pub closing_plain : list_all is_plain xs ≡ true
    closing_plain = sym (bare_plain xs) ∙ ap (list_all is_plain) begins ∙ ap (λ o. list_all is_plain (telling o)) (sym is.told_is) ∙ plain_told c h

    module _ (settled : EventsAreSettled) where
      pub closing_does : effect c conn (Close handle) ≡ (Done, flat_map moves_of xs)
      closing_does = close_does c conn handle h is.own xs (begins ∙ begun_is)

      pub closing_refusal : (last : Bool) → last_number_passed c (length (entries_in xs)) 0 0 ≡ last → first_refusal (all_request_checks c conn (Close handle)) ≡ cond last (Some TableFull) None
      closing_refusal last passed = close_refusal c conn handle h is.own settled xs (begins ∙ begun_is) last passed

      pub closing_fails : is_some told ≡ true → (r : Refusal) → (r ≡ OutOfMemory) ⊎ ((r ≡ TableFull) × (last_number_passed c (length (entries_in xs)) 0 0 ≡ true)) → Fails (all_request_checks c conn (Close handle)) r
      closing_fails some r (inl memory) = inr (memory, closing_wants some)
      closing_fails some r (inr full) = inl (closing_refusal true full.1 ∙ ap Some (sym full.0))

-- nobody is told
module _ (c : Content) (conn handle : ℕ) (parked : Bool) (h : OpenHandle Progress) (is : IsClosing c conn handle parked None h) (settled : EventsAreSettled) where
  pub alone_passes : last_number_passed c 0 0 0 ≡ false → first_refusal (all_request_checks c conn (Close handle)) ≡ None
  alone_passes within = closing_refusal c conn handle parked None h is (Closes conn handle parked ∷ []) refl settled false within

  pub alone_does : effect c conn (Close handle) ≡ (Done, closing conn handle parked)
  alone_does = closing_does c conn handle parked None h is (Closes conn handle parked ∷ []) refl settled ∙ ap {B = Outcome × List Move} (λ (ms : List Move). (Done, ms)) (by parked)
    where
      by : (parked : Bool) → closing conn handle parked ++ [] ≡ closing conn handle parked
      by true = refl
      by false = refl

-- what a connection's own handle begins with where those of lower numbers close before it
pub begun_known : (c : Content) (conn handle : ℕ) (x : OpenHandle (Unit {0})) → Some x ≡ option_map as_opened (own_handle c conn handle)
    → (parked : Bool) → IfSome (own_handle c conn handle) (λ h. parked ≡ is_some h.parked) → (told : Option Entry) → told ≡ told_behind c conn x → begun conn handle parked told ≡ begun_behind c conn handle
begun_known c conn handle x e parked parked-is told told-is =
    let known = own_known (own_handle c conn handle) x e in
    let at : own_handle c conn handle ≡ Some known.0 = known.1.0 in
    let waits : parked ≡ is_some known.0.parked = subst (λ (o : Option (OpenHandle Progress)). IfSome o (λ h. parked ≡ is_some h.parked)) at parked-is in
    let tells : told ≡ told_behind c conn known.0 = told-is ∙ ap (λ (y : OpenHandle (Unit {0})). told_behind c conn y) (sym known.1.1) in
    (λ i. begun conn handle (waits i) (tells i)) ∙ sym (ap (λ o. option_map_or (λ (h : OpenHandle Progress). begun conn handle (is_some h.parked) (told_behind c conn h)) o []) at)

-- nothing is left to gather
pub gathered : (f : ℕ → List Beginning) (ns : List ℕ) (i : ℕ) → length ns ≤ i → (xs ys : List Beginning) → xs ++ flat_map f (drop i ns) ≡ ys → xs ≡ ys
gathered f ns i ended xs ys e = sym (append_none xs) ∙ ap (λ ms. xs ++ flat_map f ms) (sym (drop_of_length-le ns ended)) ∙ e
  where
    append_none : (xs : List Beginning) → xs ++ [] ≡ xs
    append_none [] = refl
    append_none (x ∷ xs) = ap (λ ys. x ∷ ys) (append_none xs)
