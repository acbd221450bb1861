-- An attribute that is lent, as an attribute.
use Rattle.pps_types.specs.History.{Attribute}
use Rattle.object_state.specs.declared.lent.AttributeRef.{AttributeRef}

abbrev pub lent : AttributeRef → Attribute
lent a = record { name = a.name.now; enc = a.enc.now; value = a.value.now; n = a.n }
