-- The attached connections of what stands, each with its outbox and with the numbers of its open handles. Own.
use Rattle.std.specs.Prelude.{◌≡◌, List, Bool, true, false, map}
use Rattle.std.specs.List.{AllByRecursion}
use Rattle.pps_types.specs.Content.{Connection, Content, is_attached, handles_of, outbox_of}
use Rattle.pps_types.specs.WellFormed.{RiseBetween}
use Rattle.pps_types.specs.Plan.{Move, Attaches, Creates, AppendsRecord, CatchesUp, Advances, MakesDirectory, RemovesDirectory}
use Rattle.notify_box.specs.Standing.{Standing}

-- a connection with what it has to come, and with its handles
abbrev pub standing_of : Content → Connection → Standing
standing_of c x =
    record { number = x.number; outbox = outbox_of c x.number; handles = map (λ handle. handle.number) (handles_of c x.number) }

-- all that are attached
abbrev pub connections_of : Content → List Standing
connections_of c = map (standing_of c) c.connections

-- ---- what is always so

-- the connections stand in rising number
abbrev pub ConnectionsRise : Content → Type 0
ConnectionsRise c = RiseBetween 1 (map (λ x. x.number) c.connections) 1025

-- the connection of each handle is attached
abbrev pub AreOwned : Content → Type 0
AreOwned c = AllByRecursion (λ handle. is_attached c handle.connection ≡ true) c.handles

-- ---- moves

-- a move that is of no connection: it tells a record, is of what a handle has seen, or is of a directory
abbrev pub is_of_none : Move → Bool
is_of_none (Creates o) = true
is_of_none (AppendsRecord e) = true
is_of_none (CatchesUp number) = true
is_of_none (Advances number count) = true
is_of_none (MakesDirectory path) = true
is_of_none (RemovesDirectory number) = true
is_of_none _ = false

-- a move by which no connection comes
abbrev pub attaches_none : Move → Bool
attaches_none (Attaches conn) = false
attaches_none _ = true
