use Rattle.std.proofs.Common.{◌≡◌, true, ◌++◌, Result, Ok, Err, refl}
use Rattle.std.specs.Prelude.{OnOk}
use Rattle.std.specs.Result.{is_ok}
use Rattle.pps_types.specs.Device.{device_inner}
use Rattle.pps_types.specs.Image.{print_saved}
use Rattle.pps_persist.specs.declared.output.Output.{Output}
use Rattle.pps_persist.proofs.Sendings.{printed, flushed-on}
use Rattle.pps_persist.proofs.saving.add_entry.Goals as goal

was-ok : {X E : Type 0} (r : Result X E) (P : Type 0) → is_ok r ≡ true → OnOk r P → P
was-ok (Ok x) P is p = p
was-ok (Err e) P is p = absurd cc

pub returns-clause-prints : goal.returns-clause-prints
returns-clause-prints g c =
    let contents = g.W.Write.contents in
    let old = c.args.output.now in
    let more = print_saved c.args.entry.now in
    let now : Output = record { buffer = c.push_entry.new.out; sent = old.sent } in
    let middle = contents (device_inner c.args.device.now) in
    λ before text p. flushed-on before middle (contents (device_inner c.flush.new.device)) (text ++ more) now
    (printed before middle text more old now p (was-ok c.push_entry.result _ c.if-is_err.ensures.negation c.push_entry.ensures) refl) c.flush.new.self c.flush.result c.flush.ensures.flushed
