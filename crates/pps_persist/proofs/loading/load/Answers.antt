use Rattle.std.proofs.Common.{◌≡◌, true, Result, Ok, Err, inl, inr, arith}
use Rattle.pps_types.specs.Device.{device_failed}
use Rattle.pps_engine.specs.Serving.{Serving}
use Rattle.pps_types.specs.declared.device.Device.{Device}
use Rattle.pps_persist.specs.declared.errors.LoadError.{LoadError}
use Rattle.pps_persist.specs.declared.errors.LoadError.TheVariants.{OutOfMemory, BadImage, ReadFault}
use Rattle.pps_persist.specs.Loads.{HasRead, InputFaultIs, AnswersReadFault}
use Rattle.pps_persist.proofs.loading.load.Goals as goal

-- what is said of an input is said of a device
of-device : {R : Type 0} (old new : Device R) (result : Result Serving LoadError) → InputFaultIs (HasRead old new) (device_failed new ≡ true) result
    → AnswersReadFault old new result
of-device old new (Ok engine) is = is.1.0
of-device old new (Err OutOfMemory) is = is.1.0
of-device old new (Err (BadImage line)) is = is.1.0
of-device old new (Err ReadFault) is = elim is [ inl failed ↦ inl failed | inr works ↦ inr works.1 ]

pub load_input-requires : goal.load_input-requires
load_input-requires g c = (c.requires, omega arith)

pub returns-clause-fault : goal.returns-clause-fault
returns-clause-fault g c = of-device c.args.device.now c.load_input.new.input c.load_input.result c.load_input.ensures.fault
