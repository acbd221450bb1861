-- What there is of an object that is alive, over the tables.
use Rattle.std.specs.Prelude.{◌≡◌, ◌⊎◌, ℕ, List, Bool, true, false, Option, Some, None, is_some, IfSome, option_map, fold}
use Rattle.std.specs.Option.{option_map_or}
use Rattle.std.specs.List.{list_any}
use Rattle.pps_types.specs.declared.line.Line.{Line}
use Rattle.pps_types.specs.declared.record.Kind.{Kind}
use Rattle.pps_types.specs.declared.record.Kind.TheVariants.{Created, Deleted}
use Rattle.pps_types.specs.declared.refusal.Refusal.{Refusal}
use Rattle.pps_types.specs.declared.refusal.Refusal.TheVariants.{OutOfMemory}
use Rattle.pps_types.specs.Bytes.{same}
use Rattle.pps_types.specs.History.{Entry, apply_line}
use Rattle.pps_types.specs.Content.{LiveObject, object_numbered}
use Rattle.pps_types.specs.Checks.{first_refusal, limit_checks}
use Rattle.pps_types.specs.Plan.{entry_of}
use Rattle.open_handles.specs.Whole.{Site}
use Rattle.service_state.specs.Entries.{entry_about}
use Rattle.service_state.specs.Tables.{Tabled, content_in}

-- whether a server has the object
abbrev pub is_served_in : Tabled → ℕ → Bool
is_served_in t object = option_map_or (λ (o : LiveObject). is_some o.object.server) (object_numbered (content_in t) object) false

-- whether it has an attribute of that name
abbrev pub has_attribute : List ℕ → LiveObject → Bool
has_attribute name o = list_any (λ a. same a.name name) o.attributes

-- a server's object in its place has this site
abbrev pub IsServersSite : Site → ℕ → Tabled → Type 0
IsServersSite site object t =
    IfSome (object_numbered (content_in t) object) (λ o. site ≡ record { name = o.object.name; service = true })

-- ---- its records

-- the record of its deletion
abbrev pub deletion_in : Tabled → ℕ → Option Entry
deletion_in t object = option_map (λ (o : LiveObject). entry_of o.object Deleted None) (object_numbered (content_in t) object)

-- it is a record of that kind of the object
abbrev pub IsRecordOf : Entry → ℕ → Kind → Tabled → Type 0
IsRecordOf e object kind t = IfSome (object_numbered (content_in t) object) (λ o. e ≡ entry_of o.object kind None)

-- it is the record of the creation of the object of this number in the place of the other
abbrev pub IsCreationFor : Entry → ℕ → ℕ → Tabled → Type 0
IsCreationFor e number gone t =
    IfSome (object_numbered (content_in t) gone) (λ o. e ≡ entry_about number o.object.directory o.object.name Created None)

-- ---- its limits

-- it passes no limit of objects after these lines
abbrev pub StaysWithinLimits : ℕ → List Line → Tabled → Type 0
StaysWithinLimits object lines t =
    IfSome (object_numbered (content_in t) object) (λ o. first_refusal (limit_checks (fold apply_line o.attributes lines)) ≡ None)

-- it passes a limit after these lines, or memory lacks
abbrev pub FailsAtLimits : ℕ → List Line → Tabled → Refusal → Type 0
FailsAtLimits object lines t r =
    IfSome (object_numbered (content_in t) object) (λ o. first_refusal (limit_checks (fold apply_line o.attributes lines)) ≡ Some r)
    ⊎ (r ≡ OutOfMemory)
