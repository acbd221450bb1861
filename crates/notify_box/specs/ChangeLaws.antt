-- Laws of what stands of connections: what is found after a change, and what a content says of the same changes.
use Rattle.std.specs.Prelude.{◌≡◌, ◌≢◌, ℕ, List, [], Some, option_map, map}
use Rattle.pps_types.specs.declared.outcome.Item.{Item}
use Rattle.pps_types.specs.Outbox.{Outbox, empty_outbox, put_rising}
use Rattle.pps_types.specs.Content.{Connection}
use Rattle.pps_types.specs.Plan.{without_first, on_connection, with_connection, without_connection}
use Rattle.notify_box.specs.Standing.{Standing, is_numbered, standing_at, with_outbox, with_handles}

-- Only the connection of that number is found changed.
pub record ChangesAreFound : Type 0 where
  pub own_outbox : (conn : ℕ) (change : Outbox → Outbox) (xs : List Standing)
      → standing_at conn (with_outbox conn change xs) ≡ option_map {T = Standing} (λ x. record x { outbox = change x.outbox }) (standing_at conn xs)
  pub other_outbox : (conn other : ℕ) (change : Outbox → Outbox) (xs : List Standing)
      → other ≢ conn → standing_at other (with_outbox conn change xs) ≡ standing_at other xs
  pub own_handles : (conn : ℕ) (change : List ℕ → List ℕ) (xs : List Standing)
      → standing_at conn (with_handles conn change xs) ≡ option_map {T = Standing} (λ x. record x { handles = change x.handles }) (standing_at conn xs)
  pub other_handles : (conn other : ℕ) (change : List ℕ → List ℕ) (xs : List Standing)
      → other ≢ conn → standing_at other (with_handles conn change xs) ≡ standing_at other xs

-- what a content says of connections: their queues alone
abbrev pub queues_of : List Standing → List Connection
queues_of xs = map (λ x. record { number = x.number; queue = x.outbox.items }) xs

-- The changes are those of a content, whose lists of connections have the queues alone.
pub record QueuesAreTold : Type 0 where
  pub attached : (conn : ℕ) (xs : List Standing)
      → queues_of (put_rising (λ x. x.number) (record { number = conn; outbox = empty_outbox; handles = [] }) xs) ≡ with_connection conn (queues_of xs)
  pub left : (conn : ℕ) (xs : List Standing)
      → queues_of (without_first (is_numbered conn) xs) ≡ without_connection conn (queues_of xs)
  pub requeued : (conn : ℕ) (change : Outbox → Outbox) (queue : List Item → List Item) (xs : List Standing)
      → ((x : Standing) → standing_at conn xs ≡ Some x → (change x.outbox).items ≡ queue x.outbox.items)
      → queues_of (with_outbox conn change xs) ≡ on_connection conn queue (queues_of xs)
  pub kept : (conn : ℕ) (change : List ℕ → List ℕ) (xs : List Standing)
      → queues_of (with_handles conn change xs) ≡ queues_of xs
