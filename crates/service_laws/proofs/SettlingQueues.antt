-- The queues behind moves, and what a woken handle is given.
use Rattle.std.proofs.Common.{◌≡◌, ℕ, ◌+◌, Bool, true, false, cond, List, [], ◌∷◌, ◌++◌, length, length-append, Option, Some, None, refl, sym, ap, ◌∙◌, append_assoc}
use Rattle.std.specs.Prelude.{◌==◌, ◌&&◌, find, is_some, option_map, nat_lt}
use Rattle.std.proofs.lemmas.Bool.{eqb-true, eq-eqb}
use Rattle.std.proofs.lemmas.Grind.{flat_map-append}
use Rattle.std.proofs.lemmas.List.Folds.{list_all-append}
use Rattle.std.specs.Option.{option_map_or}
use Rattle.std.specs.List.{flat_map, list_any, list_all}
use Rattle.pps_types.specs.declared.outcome.Item.{Item}
use Rattle.pps_types.specs.History.{Entry}
use Rattle.pps_types.specs.Reading.{OpenHandle, Member, visible, Answer, Everything, Blocks, Needs, TargetGone, Waits, Nothing}
use Rattle.pps_types.specs.Rests.{Progress}
use Rattle.pps_types.specs.Content.{Connection, Content, connection_numbered, queue_of}
use Rattle.pps_types.specs.Outbox.{behind_first}
use Rattle.pps_types.specs.Runs.{queued_by}
use Rattle.pps_types.specs.Plan.{Move, Attaches, Leaves, Creates, AppendsRecord, Opens, Closes, CatchesUp, Advances, Parks, Arms, Queues, Takes, MakesDirectory, RemovesDirectory, on_connection, with_connection, without_connection, requeued, apply_seen, apply_all_seen, fired, late_reply}
use Rattle.service_laws.proofs.Finds.{and-both}
use Rattle.pps_types.proofs.Lists.{append-nil}
use Rattle.pps_types.specs.SettlingReplies.{late_answer, pulse_and_reply}
use Rattle.service_laws.specs.SettlingQueues.{keeps_queue}
use Rattle.service_laws.proofs.SettlingReplies.{is_given, late-given}
use Rattle.service_laws.proofs.SettlingEvents.{turned}

abbrev find_queue : ℕ → List Connection → Option Connection
find_queue conn xs = find (λ x. x.number == conn) xs

abbrev longer : List Item → Connection → Connection
longer items x = requeued (λ queue. queue ++ items) x

longer-nil : (o : Option Connection) → option_map (longer []) o ≡ o
longer-nil None = refl
longer-nil (Some x) = ap (λ q. Some (record x { queue = q })) (append-nil x.queue)

queues-by : (k conn : ℕ) (item : Item) (xs : List Connection) → find_queue conn (on_connection k (λ items. items ++ item ∷ []) xs) ≡ option_map (longer (flat_map (queued_by conn) (Queues k item ∷ []))) (find_queue conn xs)
queues-by k conn item [] = refl
queues-by k conn item (x ∷ xs) = by (x.number == k) refl (x.number == conn) refl (k == conn) refl (queues-by k conn item xs)
  where
    one : Bool → List Item
    one b = cond b (item ∷ []) [] ++ []

    by : (p : Bool) → (x.number == k) ≡ p → (q : Bool) → (x.number == conn) ≡ q → (s : Bool) → (k == conn) ≡ s
        → find_queue conn (on_connection k (λ items. items ++ item ∷ []) xs) ≡ option_map (longer (flat_map (queued_by conn) (Queues k item ∷ []))) (find_queue conn xs)
        → find_queue conn (cond p (requeued (λ items. items ++ item ∷ []) x ∷ xs) (x ∷ on_connection k (λ items. items ++ item ∷ []) xs)) ≡ option_map (longer (one s)) (cond q (Some x) (find_queue conn xs))
    by true p true q true s rest = ap (λ b. cond b (Some (longer (item ∷ []) x)) (find_queue conn xs)) q
    by true p true q false s rest = absurd (let a : x.number ≡ k = eqb-true x.number k p in let b : x.number ≡ conn = eqb-true x.number conn q in let yes : (k == conn) ≡ true = eq-eqb k conn (sym a ∙ b) in cc)
    by true p false q true s rest = absurd (let a : x.number ≡ k = eqb-true x.number k p in let b : k ≡ conn = eqb-true k conn s in let yes : (x.number == conn) ≡ true = eq-eqb x.number conn (a ∙ b) in cc)
    by true p false q false s rest = ap (λ b. cond b (Some (longer (item ∷ []) x)) (find_queue conn xs)) q ∙ sym (longer-nil (find_queue conn xs))
    by false p true q true s rest = absurd (let a : x.number ≡ conn = eqb-true x.number conn q in let b : k ≡ conn = eqb-true k conn s in let yes : (x.number == k) ≡ true = eq-eqb x.number k (a ∙ sym b) in cc)
    by false p true q false s rest = ap (λ b. cond b (Some x) (find_queue conn (on_connection k (λ items. items ++ item ∷ []) xs))) q ∙ sym (longer-nil (Some x))
    by false p false q s' s rest = ap (λ b. cond b (Some x) (find_queue conn (on_connection k (λ items. items ++ item ∷ []) xs))) q ∙ rest ∙ ap (λ b. option_map (longer (one b)) (find_queue conn xs)) s

module _ (conn to : ℕ) (other : (to == conn) ≡ false) where
  skipped : (x : Connection) (o : Option Connection) → (x.number == to) ≡ true → (found : Connection) → cond (x.number == conn) (Some found) o ≡ o
  skipped x o own found = ap (λ b. cond b (Some found) o) (ap (λ n. n == conn) (eqb-true x.number to own) ∙ other)

  attached-other : (xs : List Connection) → find_queue conn (with_connection to xs) ≡ find_queue conn xs
  attached-other [] = ap (λ b. cond b (Some (record { number = to; queue = [] })) None) other
  attached-other (x ∷ xs) = by (nat_lt to x.number) (attached-other xs)
    where
      by : (b : Bool) → find_queue conn (with_connection to xs) ≡ find_queue conn xs
          → find_queue conn (cond b (record { number = to; queue = [] } ∷ x ∷ xs) (x ∷ with_connection to xs)) ≡ find_queue conn (x ∷ xs)
      by true rest = ap (λ b. cond b (Some (record { number = to; queue = [] })) (find_queue conn (x ∷ xs))) other
      by false rest = ap (λ o. cond (x.number == conn) (Some x) o) rest

  left-other : (xs : List Connection) → find_queue conn (without_connection to xs) ≡ find_queue conn xs
  left-other [] = refl
  left-other (x ∷ xs) = by (x.number == to) refl (left-other xs)
    where
      by : (b : Bool) → (x.number == to) ≡ b → find_queue conn (without_connection to xs) ≡ find_queue conn xs → find_queue conn (cond b xs (x ∷ without_connection to xs)) ≡ find_queue conn (x ∷ xs)
      by true own rest = sym (skipped x (find_queue conn xs) own x)
      by false own rest = ap (λ o. cond (x.number == conn) (Some x) o) rest

  taken-other : (xs : List Connection) → find_queue conn (on_connection to behind_first xs) ≡ find_queue conn xs
  taken-other [] = refl
  taken-other (x ∷ xs) = by (x.number == to) refl (taken-other xs)
    where
      by : (b : Bool) → (x.number == to) ≡ b → find_queue conn (on_connection to behind_first xs) ≡ find_queue conn xs
          → find_queue conn (cond b (requeued behind_first x ∷ xs) (x ∷ on_connection to behind_first xs)) ≡ find_queue conn (x ∷ xs)
      by true own rest = skipped x (find_queue conn xs) own (requeued behind_first x) ∙ sym (skipped x (find_queue conn xs) own x)
      by false own rest = ap (λ o. cond (x.number == conn) (Some x) o) rest

connection-by : (c : Content) (x : Move) (conn : ℕ) → keeps_queue conn x ≡ true → connection_numbered (apply_seen x c) conn ≡ option_map (longer (flat_map (queued_by conn) (x ∷ []))) (connection_numbered c conn)
connection-by c (Attaches to) conn e = attached-other conn to (turned (to == conn) e) c.connections ∙ sym (longer-nil (connection_numbered c conn))
connection-by c (Leaves to) conn e = left-other conn to (turned (to == conn) e) c.connections ∙ sym (longer-nil (connection_numbered c conn))
connection-by c (Takes to) conn e = taken-other conn to (turned (to == conn) e) c.connections ∙ sym (longer-nil (connection_numbered c conn))
connection-by c (Queues k item) conn e = queues-by k conn item c.connections
connection-by c (Creates o) conn e = sym (longer-nil (connection_numbered c conn))
connection-by c (AppendsRecord x) conn e = sym (longer-nil (connection_numbered c conn))
connection-by c (Opens h) conn e = sym (longer-nil (connection_numbered c conn))
connection-by c (Closes number) conn e = sym (longer-nil (connection_numbered c conn))
connection-by c (CatchesUp number) conn e = sym (longer-nil (connection_numbered c conn))
connection-by c (Advances number count) conn e = sym (longer-nil (connection_numbered c conn))
connection-by c (Parks number size) conn e = sym (longer-nil (connection_numbered c conn))
connection-by c (Arms number pulse) conn e = sym (longer-nil (connection_numbered c conn))
connection-by c (MakesDirectory path) conn e = sym (longer-nil (connection_numbered c conn))
connection-by c (RemovesDirectory number) conn e = sym (longer-nil (connection_numbered c conn))

longer-twice : (xs ys : List Item) (o : Option Connection) → option_map (longer ys) (option_map (longer xs) o) ≡ option_map (longer (xs ++ ys)) o
longer-twice xs ys None = refl
longer-twice xs ys (Some x) = ap (λ q. Some (record x { queue = q })) (append_assoc x.queue xs ys)

connection-after : (xs : List Move) (c : Content) (conn : ℕ) → list_all (keeps_queue conn) xs ≡ true → connection_numbered (apply_all_seen xs c) conn ≡ option_map (longer (flat_map (queued_by conn) xs)) (connection_numbered c conn)
connection-after [] c conn e = sym (longer-nil (connection_numbered c conn))
connection-after (x ∷ xs) c conn e =
    let parts = and-both (keeps_queue conn x) (list_all (keeps_queue conn) xs) e in
    connection-after xs (apply_seen x c) conn parts.1
    ∙ ap (option_map (longer (flat_map (queued_by conn) xs))) (connection-by c x conn parts.0)
    ∙ longer-twice (flat_map (queued_by conn) (x ∷ [])) (flat_map (queued_by conn) xs) (connection_numbered c conn)
    ∙ ap (λ items. option_map (longer items) (connection_numbered c conn)) (sym (flat_map-append (queued_by conn) (x ∷ []) xs))

-- A connection's queue after moves: what it was, and behind it what they queue, in their order.
pub queue-after : (xs : List Move) (c : Content) (conn : ℕ) → list_all (keeps_queue conn) xs ≡ true → queue_of (apply_all_seen xs c) conn ≡ option_map_or (λ x. x.queue ++ flat_map (queued_by conn) xs) (connection_numbered c conn) []
queue-after xs c conn e = ap (λ o. option_map_or (λ (x : Connection). x.queue) o []) (connection-after xs c conn e) ∙ go (connection_numbered c conn)
  where
    go : (o : Option Connection) → option_map_or (λ (x : Connection). x.queue) (option_map (longer (flat_map (queued_by conn) xs)) o) [] ≡ option_map_or (λ x. x.queue ++ flat_map (queued_by conn) xs) o []
    go None = refl
    go (Some x) = refl

-- ---- what a woken handle is given

module _ (h : OpenHandle Progress) (es : List Entry) (dead : Bool) (members : List Member) where
  abbrev pulses : Option (ℕ × ℕ) → List Move
  pulses a = option_map_or (λ pulse. Arms h.number None ∷ Queues h.connection (Item.Pulse pulse.0 pulse.1) ∷ []) a []

  abbrev replies : Option ℕ → List Move
  replies p = option_map_or (λ size. late_reply h (late_answer h es dead members size)) p []

  -- its moves take nothing from a queue
  pub follows-keeps : (conn : ℕ) → list_all (keeps_queue conn) (pulse_and_reply h es dead members) ≡ true
  follows-keeps conn = list_all-append (keeps_queue conn) (fired h) (replies h.parked) ∙ (λ i. armed h.armed i && parked h.parked i)
    where
      armed : (a : Option (ℕ × ℕ)) → list_all (keeps_queue conn) (pulses a) ≡ true
      armed None = refl
      armed (Some a) = refl

      moves : (a : Answer) → list_all (keeps_queue conn) (late_reply h a) ≡ true
      moves (Everything text) = refl
      moves (Blocks count text) = refl
      moves (Needs need) = refl
      moves TargetGone = refl
      moves Waits = refl
      moves Nothing = refl

      parked : (p : Option ℕ) → list_all (keeps_queue conn) (replies p) ≡ true
      parked None = refl
      parked (Some size) = moves (late_answer h es dead members size)

  -- how many items: one for its pulse, and one for its read
  pub follows-counts : list_any (visible h) es ≡ true → length (flat_map (queued_by h.connection) (pulse_and_reply h es dead members)) ≡ cond (is_some h.armed) 1 0 + cond (is_some h.parked) 1 0
  follows-counts any =
      ap length (flat_map-append (queued_by h.connection) (fired h) (replies h.parked))
      ∙ length-append (flat_map (queued_by h.connection) (fired h)) (flat_map (queued_by h.connection) (replies h.parked))
      ∙ (λ i. armed h.armed i + parked h.parked i)
    where
      one : (item : Item) → length (cond (h.connection == h.connection) (item ∷ []) [] ++ []) ≡ 1
      one item = ap (λ b. length (cond b (item ∷ []) [] ++ [])) (eq-eqb h.connection h.connection refl)

      armed : (a : Option (ℕ × ℕ)) → length (flat_map (queued_by h.connection) (pulses a)) ≡ cond (is_some a) 1 0
      armed None = refl
      armed (Some a) = one _

      moves : (a : Answer) → is_given a ≡ true → length (flat_map (queued_by h.connection) (late_reply h a)) ≡ 1
      moves (Everything text) e = one _
      moves (Blocks count text) e = one _
      moves (Needs need) e = one _
      moves TargetGone e = absurd (let bad = e in cc)
      moves Waits e = absurd (let bad = e in cc)
      moves Nothing e = absurd (let bad = e in cc)

      parked : (p : Option ℕ) → length (flat_map (queued_by h.connection) (replies p)) ≡ cond (is_some p) 1 0
      parked None = refl
      parked (Some size) = moves (late_answer h es dead members size) (late-given h es dead members size any)

  -- and no other connection is given any
  pub follows-elsewhere : (conn : ℕ) → (h.connection == conn) ≡ false → flat_map (queued_by conn) (pulse_and_reply h es dead members) ≡ []
  follows-elsewhere conn other = flat_map-append (queued_by conn) (fired h) (replies h.parked) ∙ (λ i. armed h.armed i ++ parked h.parked i)
    where
      none : (item : Item) → cond (h.connection == conn) (item ∷ []) [] ++ [] ≡ []
      none item = ap (λ b. cond b (item ∷ []) [] ++ []) other

      armed : (a : Option (ℕ × ℕ)) → flat_map (queued_by conn) (pulses a) ≡ []
      armed None = refl
      armed (Some a) = none _

      moves : (a : Answer) → flat_map (queued_by conn) (late_reply h a) ≡ []
      moves (Everything text) = none _
      moves (Blocks count text) = none _
      moves (Needs need) = none _
      moves TargetGone = refl
      moves Waits = refl
      moves Nothing = refl

      parked : (p : Option ℕ) → flat_map (queued_by conn) (replies p) ≡ []
      parked None = refl
      parked (Some size) = moves (late_answer h es dead members size)
