-- What closings tell by what stood before them all: the record of each handle, but not of an object whose server closed before.
use Rattle.std.specs.Prelude.{◌≡◌, ◌==◌, ◌&&◌, ◌||◌, ◌+◌, ◌<◌, ℕ, List, [], ◌∷◌, Bool, true, false, nat_lt, Option, Some, None, is_some, filter, find, map, option_map}
use Rattle.std.specs.Option.{option_map_or}
use Rattle.std.specs.List.{AllByRecursion, list_any}
use Rattle.std.proofs.Common.{refl, sym, ◌∙◌, ap, cond, arith}
use Rattle.std.proofs.lemmas.Bool.{eqb-true, ne_eqb}
use Rattle.std.proofs.lemmas.Bool.Decides.{nat_tests}
use Rattle.pps_types.specs.declared.handle_kind.HandleKind.{HandleKind}
use Rattle.pps_types.specs.declared.handle_kind.HandleKind.TheVariants.{Object as ObjectHandle, Directory as DirectoryHandle, Names as NamesHandle, Server as ServerHandle, Client as ClientHandle}
use Rattle.pps_types.specs.declared.record.Kind.{Kind}
use Rattle.pps_types.specs.declared.record.Kind.TheVariants.{Dropped, Deleted, Closed}
use Rattle.pps_types.specs.History.{Entry}
use Rattle.pps_types.specs.Reading.{OpenHandle}
use Rattle.pps_types.specs.Rests.{Progress}
use Rattle.pps_types.specs.Content.{LiveObject, Content, object_numbered, handle_numbered, own_handle, handles_of}
use Rattle.pps_types.specs.Checks.{is_server}
use Rattle.pps_types.specs.Plan.{Move, AppendsRecord, entry_of, on_target, parting}
use Rattle.pps_types.specs.WellFormed.{RiseBetween, IsContent, is_server_of, has_server, server_of, may_be_on}
use Rattle.service_laws.proofs.Finds.{and-both, all-find, find-true}
use Rattle.service_laws.specs.Closings.{server_closed}
use Rattle.notify_box.proofs.ConnectionLists.{found-both}
use Rattle.service_state.proofs.Begun.{moves_told}
use Rattle.handle_requests.specs.Told.{kind_told, record_told, told_of, closes_before, told_behind}

target-told : (c : Content) (h : OpenHandle Progress) (kind : Kind) → on_target c h kind None ≡ moves_told (record_told (Some kind) (object_numbered c h.target))
target-told c h kind = by (object_numbered c h.target)
  where
    by : (o : Option LiveObject) → option_map_or (λ (o : LiveObject). AppendsRecord (entry_of o.object kind None) ∷ []) o [] ≡ moves_told (option_map (λ (o : LiveObject). entry_of o.object kind None) o)
    by None = refl
    by (Some o) = refl

parted : (c : Content) (h : OpenHandle Progress) (kind : HandleKind) → parting c h kind ≡ moves_told (record_told (kind_told (h.options.critical && h.writes) h.number kind) (object_numbered c h.target))
parted c h ServerHandle = target-told c h Deleted
parted c h ClientHandle = target-told c h (Closed h.number)
parted c h (ObjectHandle delta) = by (h.options.critical && h.writes)
  where
    by : (b : Bool) → cond b (on_target c h Dropped None) [] ≡ moves_told (record_told (cond b (Some Dropped) None) (object_numbered c h.target))
    by true = target-told c h Dropped
    by false = refl
parted c h (DirectoryHandle delta) = refl
parted c h NamesHandle = refl

-- the close of a handle alone
pub parting_told : (c : Content) (h : OpenHandle Progress) → parting c h h.kind ≡ moves_told (told_of c h)
parting_told c h = parted c h h.kind

-- ---- handles of one connection that close one after the other

both : (a b : Bool) → a ≡ true → b ≡ true → (a && b) ≡ true
both true true p q = refl
both true false p q = q
both false b p q = p

either : (a b : Bool) → (a || b) ≡ true → b ≡ false → a ≡ true
either true b p q = refl
either false true p q = absurd (let bad = q in cc)
either false false p q = p

same_bool : (a b : Bool) → (a ≡ true → b ≡ true) → (b ≡ true → a ≡ true) → a ≡ b
same_bool true b p q = sym (p refl)
same_bool false true p q = q refl
same_bool false false p q = refl

moved_on : (a b x y : Bool) → (x || ((a && b) || y)) ≡ true → ((b || x) || y) ≡ true
moved_on a true x y e = refl
moved_on a false true y e = refl
moved_on true false false y e = e
moved_on false false false y e = e

is_server_kind : (k : HandleKind) → is_server k ≡ true → k ≡ ServerHandle
is_server_kind ServerHandle e = refl
is_server_kind ClientHandle e = absurd (let bad = e in cc)
is_server_kind (ObjectHandle delta) e = absurd (let bad = e in cc)
is_server_kind (DirectoryHandle delta) e = absurd (let bad = e in cc)
is_server_kind NamesHandle e = absurd (let bad = e in cc)

module _ (c : Content) (conn : ℕ) where
  -- the connection's own, with a lower number than those to come
  abbrev pub IsBehind : ℕ → OpenHandle Progress → Type 0
  IsBehind low g = (own_handle c conn g.number ≡ Some g) × (g.number < low)

  abbrev serves : ℕ → OpenHandle Progress → Bool
  serves object g = is_server g.kind && (g.target == object)

  abbrev is_numbered : ℕ → (OpenHandle Progress → Bool) → OpenHandle Progress → Bool
  is_numbered s test g = (g.number == s) && test g

  -- each own handle closed before or is still to close
  abbrev pub AreRest : List (OpenHandle Progress) → List (OpenHandle Progress) → Type 0
  AreRest before hs = (s : ℕ) (g : OpenHandle Progress) → own_handle c conn s ≡ Some g → (test : OpenHandle Progress → Bool) → test g ≡ true → (list_any test before || list_any (is_numbered s test) hs) ≡ true

  pub rest_on : (before : List (OpenHandle Progress)) (h : OpenHandle Progress) (hs : List (OpenHandle Progress)) → AreRest before (h ∷ hs) → AreRest (h ∷ before) hs
  rest_on before h hs rest s g own test passes = moved_on (h.number == s) (test h) (list_any test before) (list_any (is_numbered s test) hs) (rest s g own test passes)

  -- at first all are still to close
  pub rest_first : AreRest [] (handles_of c conn)
  rest_first s g own test passes = by c.handles own
    where
      by : (hs : List (OpenHandle Progress)) → find (λ h. (h.number == s) && (h.connection == conn)) hs ≡ Some g → list_any (is_numbered s test) (filter (λ h. h.connection == conn) hs) ≡ true
      by [] e = absurd (let bad = e in cc)
      by (h ∷ hs) e = one (h.number == s) refl (h.connection == conn) e (by hs)
        where
          one : (a : Bool) → (h.number == s) ≡ a → (b : Bool) → cond (a && b) (Some h) (find (λ h. (h.number == s) && (h.connection == conn)) hs) ≡ Some g
              → (find (λ h. (h.number == s) && (h.connection == conn)) hs ≡ Some g → list_any (is_numbered s test) (filter (λ h. h.connection == conn) hs) ≡ true)
              → list_any (is_numbered s test) (cond b (h ∷ filter (λ h. h.connection == conn) hs) (filter (λ h. h.connection == conn) hs)) ≡ true
          one true is true found more =
              let same : h ≡ g = cc in
              ap (λ x. (x || list_any (is_numbered s test) (filter (λ h. h.connection == conn) hs))) (both (h.number == s) (test h) is (ap test same ∙ passes))
          one true is false found more = more found
          one false is true found more = ap (λ b. ((b && test h) || list_any (is_numbered s test) (filter (λ h. h.connection == conn) hs))) is ∙ more found
          one false is false found more = more found

  -- those to come have higher numbers
  none_lower : (s : ℕ) (test : OpenHandle Progress → Bool) (low high : ℕ) (hs : List (OpenHandle Progress)) → s < low → RiseBetween low (map (λ h. h.number) hs) high → list_any (is_numbered s test) hs ≡ false
  none_lower s test low high [] lower rise = refl
  none_lower s test low high (h ∷ hs) lower rise =
      ap (λ b. ((b && test h) || list_any (is_numbered s test) hs)) (ne_eqb h.number s (λ same. omega (arith, same, lower, rise.0)))
      ∙ none_lower s test (h.number + 1) high hs (omega (arith, lower, rise.0)) rise.1

  module _ (w : IsContent c) where
    -- an own handle is found by its number
    own_is_numbered : (s : ℕ) (g : OpenHandle Progress) → own_handle c conn s ≡ Some g → handle_numbered c s ≡ Some g
    own_is_numbered s g own = found-both (λ (g : OpenHandle Progress). g.number) s (λ g. g.connection == conn) 0 c.next_handle c.handles g w.order.handles_rise own

    -- the server of an alive object that closed before has a lower number
    one_before : (t low : ℕ) (o : LiveObject) → object_numbered c t ≡ Some o → (g : OpenHandle Progress) → IsBehind low g → serves t g ≡ true → closes_before c conn low o.object.server ≡ true
    one_before t low o alive g behind serving =
        let is = and-both (is_server g.kind) (g.target == t) serving in
        let may : may_be_on g.kind g.number (server_of c g.target) ≡ true = all-find (λ (h : OpenHandle Progress). may_be_on h.kind h.number (server_of c h.target) ≡ true) (λ h. (h.number == g.number) && (h.connection == conn)) c.handles g w.served.users behind.0 in
        by o.object.server (ap (λ k. may_be_on k g.number (Some o.object.server)) (sym (is_server_kind g.kind is.0)) ∙ ap (λ x. may_be_on g.kind g.number (option_map (λ (o : LiveObject). o.object.server) x)) (sym alive)
        ∙ ap (λ n. may_be_on g.kind g.number (server_of c n)) (sym (eqb-true g.target t is.1)) ∙ may)
      where
        by : (o : Option ℕ) → may_be_on ServerHandle g.number (Some o) ≡ true → closes_before c conn low o ≡ true
        by None e = absurd (let bad = e in cc)
        by (Some s) e =
            let same : s ≡ g.number = eqb-true s g.number e in
            let lower : nat_lt s low ≡ true = grind (arith, nat_tests, same, behind.1) in
            both (nat_lt s low) (is_some (own_handle c conn s)) lower (ap (λ n. is_some (own_handle c conn n)) same ∙ ap is_some behind.0)

    before_lower : (t low : ℕ) (o : LiveObject) → object_numbered c t ≡ Some o → (before : List (OpenHandle Progress)) → AllByRecursion (IsBehind low) before → server_closed before t ≡ true → closes_before c conn low o.object.server ≡ true
    before_lower t low o alive [] behind closed = absurd (let bad = closed in cc)
    before_lower t low o alive (g ∷ before) behind closed = by (serves t g) refl closed (before_lower t low o alive before behind.1)
      where
        by : (b : Bool) → serves t g ≡ b → (b || server_closed before t) ≡ true → (server_closed before t ≡ true → closes_before c conn low o.object.server ≡ true) → closes_before c conn low o.object.server ≡ true
        by true is e rest = one_before t low o alive g behind.0 is
        by false is e rest = rest e

    -- and the other way round
    lower_before : (t : ℕ) (o : LiveObject) → object_numbered c t ≡ Some o → (before : List (OpenHandle Progress)) (h : OpenHandle Progress) (hs : List (OpenHandle Progress)) (high : ℕ)
        → AreRest before (h ∷ hs) → RiseBetween (h.number + 1) (map (λ h. h.number) hs) high → closes_before c conn h.number o.object.server ≡ true → server_closed before t ≡ true
    lower_before t o alive before h hs high rest rise closed = by o.object.server refl closed
      where
        found : (s : ℕ) → o.object.server ≡ Some s → nat_lt s h.number ≡ true → (f : Option (OpenHandle Progress)) → own_handle c conn s ≡ f → is_some f ≡ true → server_closed before t ≡ true
        found s is lower None own some = absurd (let bad = some in cc)
        found s is lower (Some g) own some =
            let has : has_server c o.object ≡ true = all-find (λ (o : LiveObject). has_server c o.object ≡ true) (λ o. o.object.number == t) c.objects o w.served.servers alive in
            let serving : (is_server g.kind && (g.target == o.object.number)) ≡ true =
            ap (λ x. option_map_or (λ (h : OpenHandle Progress). is_server h.kind && (h.target == o.object.number)) x false) (sym (own_is_numbered s g own)) ∙ ap (λ x. option_map_or (is_server_of c o.object.number) x true) (sym is) ∙ has in
            let here : serves t g ≡ true = ap (λ n. is_server g.kind && (g.target == n)) (sym (eqb-true o.object.number t (find-true (λ (o : LiveObject). o.object.number == t) c.objects o alive))) ∙ serving in
            let below : s < h.number = grind (arith, nat_tests, lower) in
            either (server_closed before t) (list_any (is_numbered s (serves t)) (h ∷ hs)) (rest s g own (serves t) here)
            (none_lower s (serves t) (s + 1) high (h ∷ hs) (omega arith) (omega (arith, below), rise))

        by : (p : Option ℕ) → o.object.server ≡ p → closes_before c conn h.number p ≡ true → server_closed before t ≡ true
        by None is e = absurd (let bad = e in cc)
        by (Some s) is e =
            let tests = and-both (nat_lt s h.number) (is_some (own_handle c conn s)) e in
            found s is tests.0 (own_handle c conn s) refl tests.1

    -- what the close of a handle tells behind these others
    pub behind_told : (before : List (OpenHandle Progress)) (h : OpenHandle Progress) (hs : List (OpenHandle Progress)) (high : ℕ) → AllByRecursion (IsBehind h.number) before → AreRest before (h ∷ hs) → RiseBetween (h.number + 1) (map (λ h. h.number) hs) high
        → cond (server_closed before h.target) [] (parting c h h.kind) ≡ moves_told (told_behind c conn h)
    behind_told before h hs high behind rest rise = ap (cond (server_closed before h.target) []) (parting_told c h) ∙ by (object_numbered c h.target) refl
      where
        kind : Option Kind
        kind = kind_told (h.options.critical && h.writes) h.number h.kind

        cut : (b : Bool) (o : Option Entry) → cond b [] (moves_told o) ≡ moves_told (cond b None o)
        cut true o = refl
        cut false o = refl

        dead : (k : Option Kind) → record_told k None ≡ None
        dead None = refl
        dead (Some k) = refl

        none : (b : Bool) → cond {A = List Move} b [] [] ≡ []
        none true = refl
        none false = refl

        by : (o : Option LiveObject) → object_numbered c h.target ≡ o
            → cond (server_closed before h.target) [] (moves_told (record_told kind o)) ≡ moves_told (cond (option_map_or (λ (o : LiveObject). closes_before c conn h.number o.object.server) o false) None (record_told kind o))
        by None e = ap (λ r. cond (server_closed before h.target) [] (moves_told r)) (dead kind) ∙ none (server_closed before h.target) ∙ ap moves_told (sym (dead kind))
        by (Some o) e =
            ap (λ b. cond b [] (moves_told (record_told kind (Some o)))) (same_bool (server_closed before h.target) (closes_before c conn h.number o.object.server) (before_lower h.target h.number o e before behind) (lower_before h.target o e before h hs high rest rise))
            ∙ cut (closes_before c conn h.number o.object.server) (record_told kind (Some o))
