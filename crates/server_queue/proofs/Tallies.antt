-- How the counts of messages change with a record.
use Rattle.std.proofs.Common.{◌≡◌, ◌≢◌, ℕ, zero, suc, ◌+◌, ◌≤◌, ◌==◌, Bool, true, false, if◌then◌else◌, List, [], ◌∷◌, ◌++◌, Some, unwrap_or, filter, length, refl, sym, ap, subst, ◌∙◌, arith, add-one, nat_eq, inl, inr}
use Rattle.std.specs.HashMap.{get}
use Rattle.std.proofs.lemmas.Bool.Decides.{eqb_tells}
use Rattle.pps_types.specs.declared.record.Kind.{Kind}
use Rattle.pps_types.specs.declared.record.Kind.TheVariants.{Created, Change, Truncated, Dropped, Deleted, Opened, Closed, FromClient, ToClient, ToAll}
use Rattle.pps_types.specs.History.{Entry}
use Rattle.server_queue.specs.Senders.{sender_of}
use Rattle.server_queue.specs.Messages.{is_from, message_count}
use Rattle.server_queue.specs.Tally.{counter, IsTally}
use Rattle.server_queue.specs.declared.sender.Sender.TheVariants.{Server, Client}
use Rattle.server_queue.specs.declared.counts.Counts.{Counts}

-- ---- what a record adds

filter_more : (p : Entry → Bool) (owed : List Entry) (e : Entry) → length (filter p (owed ++ e ∷ [])) ≡ length (filter p owed) + (if p e then 1 else 0)
filter_more p [] e = by (p e)
  where
    by : (b : Bool) → length (if b then e ∷ [] else []) ≡ 0 + (if b then 1 else 0)
    by true = refl
    by false = refl
filter_more p (x ∷ owed) e = by (p x) (filter_more p owed e)
  where
    by : (b : Bool) → length (filter p (owed ++ e ∷ [])) ≡ length (filter p owed) + (if p e then 1 else 0) → length (if b then x ∷ filter p (owed ++ e ∷ []) else filter p (owed ++ e ∷ [])) ≡ length (if b then x ∷ filter p owed else filter p owed) + (if p e then 1 else 0)
    by true more = omega (arith, more)
    by false more = more

-- no sender has more messages than there are records
pub filter_few : (p : Entry → Bool) (owed : List Entry) → length (filter p owed) ≤ length owed
filter_few p [] = omega arith
filter_few p (x ∷ owed) = by (p x) (filter_few p owed)
  where
    by : (b : Bool) → length (filter p owed) ≤ length owed → length (if b then x ∷ filter p owed else filter p owed) ≤ suc (length owed)
    by true few = omega (arith, few)
    by false few = omega (arith, few)

-- ---- whose a record is

record IsServers (e : Entry) : Type 0 where
  pub server : is_from Server e ≡ true
  pub clients : (c : ℕ) → is_from (Client c) e ≡ false

record IsClients (e : Entry) (id : ℕ) : Type 0 where
  pub server : is_from Server e ≡ false
  pub clients : (c : ℕ) → is_from (Client c) e ≡ (id == c)

-- the same record, of that kind
abbrev with_kind : Entry → Kind → Entry
with_kind e k = record { directory = e.directory; name = e.name; record_of = record { object = e.record_of.object; kind = k; writer = e.record_of.writer } }

servers : (e : Entry) (k : Kind) → Some Server ≡ sender_of k → IsServers (with_kind e k)
servers e Created h = absurd cc
servers e (Change lines) h = absurd cc
servers e Truncated h = absurd cc
servers e Dropped h = absurd cc
servers e Deleted h = absurd cc
servers e (Opened id) h = absurd cc
servers e (Closed id) h = absurd cc
servers e (FromClient id lines) h = absurd cc
servers e (ToClient id lines) h = record { server = refl; clients = λ c. refl }
servers e (ToAll lines) h = record { server = refl; clients = λ c. refl }

clients_own : (e : Entry) (k : Kind) (id : ℕ) → Some (Client id) ≡ sender_of k → IsClients (with_kind e k) id
clients_own e Created id h = absurd cc
clients_own e (Change lines) id h = absurd cc
clients_own e Truncated id h = absurd cc
clients_own e Dropped id h = absurd cc
clients_own e Deleted id h = absurd cc
clients_own e (Opened client) id h = absurd cc
clients_own e (Closed client) id h = absurd cc
clients_own e (FromClient client lines) id h = let same : client ≡ id = cc in record { server = refl; clients = λ c. ap (λ n. n == c) same }
clients_own e (ToClient client lines) id h = absurd cc
clients_own e (ToAll lines) id h = absurd cc

-- ---- the counts with one record more

pub added_servers : (old new : Counts) (owed : List Entry) (e : Entry) → Some Server ≡ sender_of e.record_of.kind → new.from_server ≡ old.from_server + 1 → new.from_clients ≡ old.from_clients → IsTally old owed → IsTally new (owed ++ e ∷ [])
added_servers old new owed e h one same tally =
    let own : IsServers e = servers e e.record_of.kind h in
    record {
      server = one ∙ ap (λ n. n + 1) tally.server ∙ sym (filter_more (is_from Server) owed e ∙ rw own.server refl);
      clients = λ c. ap (λ m. get nat_eq m c) same ∙ tally.clients c ∙ ap counter (sym (filter_more (is_from (Client c)) owed e ∙ rw (own.clients c) (omega arith)));
    }

counter_back : (n : ℕ) → unwrap_or (counter n) 0 ≡ n
counter_back zero = refl
counter_back (suc n) = refl

counter_more : (n : ℕ) → Some (n + 1) ≡ counter (n + 1)
counter_more n = subst (λ m. Some m ≡ counter m) (sym (add-one n)) refl

pub added_clients : (old new : Counts) (owed : List Entry) (e : Entry) (id : ℕ) → Some (Client id) ≡ sender_of e.record_of.kind → new.from_server ≡ old.from_server → get nat_eq new.from_clients id ≡ Some (unwrap_or (get nat_eq old.from_clients id) 0 + 1) → ((other : ℕ) → other ≢ id → get nat_eq new.from_clients other ≡ get nat_eq old.from_clients other) → IsTally old owed → IsTally new (owed ++ e ∷ [])
added_clients old new owed e id h server one others tally =
    let own : IsClients e id = clients_own e e.record_of.kind id h in
    record {
      server = server ∙ tally.server ∙ sym (filter_more (is_from Server) owed e ∙ rw own.server (omega arith));
      clients = λ c. elim (eqb_tells id c) [
        | inl same ↦
            let count : length (filter (is_from (Client c)) (owed ++ e ∷ [])) ≡ message_count (Client c) owed + 1 = filter_more (is_from (Client c)) owed e ∙ rw (own.clients c, same.0) refl in
            let before : unwrap_or (get nat_eq old.from_clients id) 0 ≡ message_count (Client c) owed = ap (λ o. unwrap_or o 0) (ap (λ n. get nat_eq old.from_clients n) same.1 ∙ tally.clients c) ∙ counter_back (message_count (Client c) owed) in
            ap (λ n. get nat_eq new.from_clients n) (sym same.1) ∙ one ∙ ap (λ n. Some (n + 1)) before ∙ counter_more (message_count (Client c) owed) ∙ ap counter (sym count)
        | inr other ↦
            let count : length (filter (is_from (Client c)) (owed ++ e ∷ [])) ≡ message_count (Client c) owed = filter_more (is_from (Client c)) owed e ∙ rw (own.clients c, other.0) (omega arith) in
            others c (λ is. other.1 (sym is)) ∙ tally.clients c ∙ ap counter (sym count)
      ];
    }

-- no client has more messages than there are records
pub few_of_client : (counts : Counts) (owed : List Entry) (id : ℕ) → IsTally counts owed → unwrap_or (get nat_eq counts.from_clients id) 0 ≤ length owed
few_of_client counts owed id tally =
    let count : unwrap_or (get nat_eq counts.from_clients id) 0 ≡ message_count (Client id) owed = ap (λ o. unwrap_or o 0) (tally.clients id) ∙ counter_back (message_count (Client id) owed) in
    omega (arith, count, filter_few (is_from (Client id)) owed)

pub few_of_server : (counts : Counts) (owed : List Entry) → IsTally counts owed → counts.from_server ≤ length owed
few_of_server counts owed tally = omega (arith, tally.server, filter_few (is_from Server) owed)
