-- What the counts say of the records that are owed.
use Rattle.std.specs.Prelude.{◌≡◌, ◌≢◌, ◌<◌, ◌+◌, ◌^◌, ℕ, zero, suc, List, [], ◌∷◌, ◌++◌, Option, Some, None, length, nat_eq, unwrap_or}
use Rattle.std.specs.HashMap.{get, spare}
use Rattle.pps_types.specs.declared.record.Kind.{Kind}
use Rattle.pps_types.specs.History.{Entry}
use Rattle.server_queue.specs.Messages.{message_count}
use Rattle.server_queue.specs.declared.sender.Sender.TheVariants.{Server, Client}
use Rattle.server_queue.specs.declared.counts.Counts.{Counts}

-- a client without messages has no count
abbrev pub counter : ℕ → Option ℕ
counter zero = None
counter (suc n) = Some (suc n)

pub record IsTally (counts : Counts) (owed : List Entry) : Type 0 where
  pub server : counts.from_server ≡ message_count Server owed
  pub clients : (client : ℕ) → get nat_eq counts.from_clients client ≡ counter (message_count (Client client) owed)

-- ---- what counts say of a client

-- its count, where it has messages
abbrev pub count_of : Counts → ℕ → Option ℕ
count_of counts client = get nat_eq counts.from_clients client

-- how many messages it has
abbrev pub messages_of : Counts → ℕ → ℕ
messages_of counts client = unwrap_or (get nat_eq counts.from_clients client) 0

-- for how many more messages of clients there is memory to count them
abbrev pub counters_in : Counts → ℕ
counters_in counts = spare counts.from_clients

-- ---- how counts change

-- the counts of the other clients are as before
abbrev pub KeepsOtherCounts : ℕ → Counts → Counts → Type 0
KeepsOtherCounts client old new = (other : ℕ) → other ≢ client → count_of new other ≡ count_of old other

-- one more record, of this kind, is counted after those that were
abbrev pub CountsOneMore : Kind → Counts → Counts → Type 0
CountsOneMore kind old new =
    (owed : List Entry) (e : Entry) → length owed + 1 < 2 ^ 64 → kind ≡ e.record_of.kind → IsTally old owed → IsTally new (owed ++ e ∷ [])

-- the first record, which is of this kind, is no longer counted
abbrev pub CountsOneLess : Kind → Counts → Counts → Type 0
CountsOneLess kind old new = (owed : List Entry) (e : Entry) → kind ≡ e.record_of.kind → IsTally old (e ∷ owed) → IsTally new owed
