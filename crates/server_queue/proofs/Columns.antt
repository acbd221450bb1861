-- What a handle sees of a record in its queue is what the queue shows of it.
use Rattle.std.proofs.Common.{◌≡◌, ℕ, Bool, true, false, not, ◌&&◌, ◌||◌, ◌==◌, if◌then◌else◌, List, [], ◌∷◌, Option, None, map, refl, ap, sym, ◌∙◌}
use Rattle.std.specs.Prelude.{is_some}
use Rattle.pps_types.specs.declared.handle_kind.HandleKind.{HandleKind}
use Rattle.pps_types.specs.declared.handle_kind.HandleKind.TheVariants.{Object as ObjectHandle, Directory as DirectoryHandle, Names as NamesHandle, Server as ServerHandle, Client as ClientHandle}
use Rattle.pps_types.specs.declared.line.Line.{Line}
use Rattle.pps_types.specs.declared.record.Kind.{Kind}
use Rattle.pps_types.specs.declared.record.Kind.TheVariants.{Created, Change, Truncated, Dropped, Deleted, Opened, Closed, FromClient, ToClient, ToAll}
use Rattle.pps_types.specs.declared.record.Record.{Record}
use Rattle.pps_types.specs.Filter.{Part}
use Rattle.pps_types.specs.History.{Entry}
use Rattle.pps_types.specs.Reading.{OpenHandle, Queue, style, concerns, sees, is_writer, is_object_kind, shown, with_lines, shown_to_server, shown_to_client, print_shown, block}
use Rattle.pps_types.specs.Rests.{Progress}
use Rattle.pps_block.specs.Queue.{queue_shown}
use Rattle.server_queue.specs.Blocks.{queue_blocks}
use Rattle.server_queue.specs.OwedTo.{IsOwedTo}

last_of : (a b c : Bool) → (a && (b && c)) ≡ true → c ≡ true
last_of true true c h = h
last_of true false c h = absurd cc
last_of false b c h = absurd cc

right_of : (a b : Bool) → (a && b) ≡ true → b ≡ true
right_of true b h = h
right_of false b h = absurd cc

to_server : (k : Kind) → is_some (shown_to_server k) ≡ true → shown_to_server k ≡ queue_shown k
to_server Created h = refl
to_server (Change lines) h = refl
to_server Truncated h = refl
to_server Dropped h = refl
to_server Deleted h = absurd cc
to_server (Opened id) h = refl
to_server (Closed id) h = refl
to_server (FromClient id lines) h = refl
to_server (ToClient id lines) h = absurd cc
to_server (ToAll lines) h = absurd cc

own_message : (b : Bool) (lines : List Line) → is_some (if b then with_lines lines else None) ≡ true → (if b then with_lines lines else None) ≡ with_lines lines
own_message true lines h = refl
own_message false lines h = absurd cc

to_client : (number : ℕ) (k : Kind) → is_some (shown_to_client number k) ≡ true → shown_to_client number k ≡ queue_shown k
to_client number Created h = absurd cc
to_client number (Change lines) h = absurd cc
to_client number Truncated h = absurd cc
to_client number Dropped h = absurd cc
to_client number Deleted h = refl
to_client number (Opened id) h = absurd cc
to_client number (Closed id) h = absurd cc
to_client number (FromClient id lines) h = absurd cc
to_client number (ToClient id lines) h = own_message (id == number) lines h
to_client number (ToAll lines) h = refl

column : (kind : HandleKind) (number : ℕ) (parts : Option (List Part)) (k : Kind) → style kind ≡ Queue → is_some (shown kind number parts k) ≡ true → shown kind number parts k ≡ queue_shown k
column (ObjectHandle true) number parts k is h = absurd cc
column (ObjectHandle false) number parts k is h = absurd cc
column (DirectoryHandle true) number parts k is h = absurd cc
column (DirectoryHandle false) number parts k is h = absurd cc
column NamesHandle number parts k is h = absurd cc
column ServerHandle number parts k is h = to_server k h
column ClientHandle number parts k is h = to_client number k h

sees_is : (h : OpenHandle Progress) (r : Record) → (h.reads && ((not (is_writer h.number r.writer) || (h.options.reflect && is_object_kind h.kind)) && is_some (shown h.kind h.number h.options.filter r.kind))) ≡ sees h r
sees_is h r = by h.reads (not (is_writer h.number r.writer)) (h.options.reflect && is_object_kind h.kind) (is_some (shown h.kind h.number h.options.filter r.kind))
  where
    by : (a b c d : Bool) → (a && ((b || c) && d)) ≡ ((a && (b || c)) && d)
    by true b c d = refl
    by false b c d = refl

pub blocks_are : (h : OpenHandle Progress) (owed : List Entry) → IsOwedTo h owed → queue_blocks owed ≡ map (block h) owed
blocks_are h [] is = refl
blocks_are h (e ∷ owed) is =
    let sees_it : sees h e.record_of ≡ true = right_of (concerns h e) (sees h e.record_of) is.seen.0 in
    let same : shown h.kind h.number h.options.filter e.record_of.kind ≡ queue_shown e.record_of.kind = column h.kind h.number h.options.filter e.record_of.kind is.kind (last_of h.reads (not (is_writer h.number e.record_of.writer) || (h.options.reflect && is_object_kind h.kind)) (is_some (shown h.kind h.number h.options.filter e.record_of.kind)) (sees_is h e.record_of ∙ sees_it)) in
    ap (λ s. print_shown e.name s ∷ queue_blocks owed) (sym same) ∙ ap (λ bs. block h e ∷ bs) (blocks_are h owed record { kind = is.kind; seen = is.seen.1 })
