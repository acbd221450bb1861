-- How a root and what is ready make a tree.
use Rattle.std.specs.Prelude.{Option, Some, None}
use Rattle.std.specs.FinMap.{from_entries}
use Rattle.pps_types.specs.Names.{Name}
use Rattle.alloc_tree.specs.Contents.{Contents, whole}
use Rattle.alloc_tree.specs.Held.{Held}
use Rattle.alloc_tree.specs.declared.directory.Ready.{Ready}
use Rattle.alloc_tree.specs.declared.directory.Ready.TheVariants.{Object as ReadyObject, Directory as ReadyDirectory}
use Rattle.alloc_tree.specs.declared.kind.NodeKind.{NodeKind}
use Rattle.alloc_tree.specs.declared.kind.NodeKind.TheVariants.{Object, Directory}

abbrev pub ready_seen : {A : Type 0} → Option (Ready A) → Option (NodeKind × Name)
ready_seen None = None
ready_seen (Some (ReadyObject name)) = Some (Object, name.items)
ready_seen (Some (ReadyDirectory name place allocator)) = Some (Directory, name.items)

abbrev pub held : {A : Type 0} → Contents → Option (Ready A) → Held
held root ready = record { map = from_entries (whole root); ready = ready_seen ready; rooms = root.rooms }
