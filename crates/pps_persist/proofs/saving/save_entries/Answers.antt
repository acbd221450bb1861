use Rattle.std.proofs.Common.{◌≡◌, true, ◌≤◌, length, Option, Result, Ok, Err, List, ℕ, ◌+◌, ◌++◌, refl, subst, ◌∙◌}
use Rattle.std.specs.Prelude.{OnOk}
use Rattle.std.specs.Result.{is_ok}
use Rattle.std.proofs.lemmas.Result.{err_from_is_err_and}
use Rattle.pps_types.specs.Device.{device_inner}
use Rattle.pps_types.specs.Image.{Saved, image_text}
use Rattle.pps_persist.specs.declared.output.Output.{Output}
use Rattle.pps_persist.specs.Sent.{sent_of, SendsPart, Prints}
use Rattle.pps_persist.proofs.Sendings.{until, end_of, until-more, part-of-image, whole-image, stops-here, printed, flushed, flushed-part, saved-all}
use Rattle.pps_persist.proofs.saving.save_entries.Goals as goal

pub returns-in_err-add_entry-clause-saves : goal.returns-in_err-add_entry-clause-saves
returns-in_err-add_entry-clause-saves g c =
    let p = err_from_is_err_and c.from_residual.result c.from_residual.ensures.1 in
    let contents = g.W.Write.contents in
    let before = contents (device_inner c.args.device.now) in
    let after = contents (device_inner c.add_entry.new.device) in
    let d = c.args.default_limit in
    let entries = c.args.entries.now in
    let at = c.entries.entry-index in
    let error = c.in_err-add_entry.field-0.0 in
    rw (p.1, p.2)
    (part-of-image before after d entries (at + 1) (sent_of error)
    (subst (λ (x : List ℕ). SendsPart before after x (sent_of error)) (until-more d entries at c.entry-item.result c.entries-test.true c.entry-item.is)
    (c.in_err-add_entry.ensures.prints before (until d entries at) c.entries.invariant.prints)))

pub entries-preserved : goal.entries-preserved
entries-preserved g c =
    let contents = g.W.Write.contents in
    let before = contents (device_inner c.args.device.now) in
    let after = contents (device_inner c.add_entry.new.device) in
    let d = c.args.default_limit in
    let entries = c.args.entries.now in
    let at = c.entries.entry-index in
    record {
      prints = subst (λ (x : List ℕ). Prints before after x c.add_entry.new.output) (until-more d entries at c.entry-item.result c.entries-test.true c.entry-item.is)
          (c.in_ok-add_entry.ensures.prints before (until d entries at) c.entries.invariant.prints);
      works = c.in_ok-add_entry.ensures.fault.0;
      stalls = c.in_ok-add_entry.ensures.fault.1 ∙ c.entries.invariant.stalls;
    }

pub returns-then-is_err-2-clause-saves : goal.returns-then-is_err-2-clause-saves
returns-then-is_err-2-clause-saves g c =
    let contents = g.W.Write.contents in
    let before = contents (device_inner c.args.device.now) in
    let after = contents (device_inner c.entries.device) in
    let d = c.args.default_limit in
    let entries = c.args.entries.now in
    let at = c.entries.entry-index in
    part-of-image before after d entries at c.entries.output.sent (stops-here before after (until d entries at) c.entries.output c.entries.invariant.prints)

-- what stands in the buffer at the end is the rest of the image
whole : (before after : Option (List ℕ)) (d : ℕ) (entries : List Saved) (at : ℕ) (old now : Output) → length entries ≤ at → Prints before after (until d entries at) old
    → now.buffer.items ≡ old.buffer.items ++ end_of entries → now.sent ≡ old.sent → Prints before after (image_text d entries) now
whole before after d entries at old now past p buffer sent =
    subst (λ (x : List ℕ). Prints before after x now) (whole-image d entries at past) (printed before after (until d entries at) (end_of entries) old now p buffer sent)

was-ok : {X E : Type 0} (r : Result X E) (P : Type 0) → is_ok r ≡ true → OnOk r P → P
was-ok (Ok x) P is p = p
was-ok (Err e) P is p = absurd cc

pub returns-in_err-flush-clause-saves : goal.returns-in_err-flush-clause-saves
returns-in_err-flush-clause-saves g c =
    let p = err_from_is_err_and c.from_residual-in_err-flush.result c.from_residual-in_err-flush.ensures.1 in
    let contents = g.W.Write.contents in
    let before = contents (device_inner c.args.device.now) in
    let middle = contents (device_inner c.entries.device) in
    let after = contents (device_inner c.flush.new.device) in
    let d = c.args.default_limit in
    let entries = c.args.entries.now in
    let now : Output = record { buffer = c.push_end.new.out; sent = c.entries.output.sent } in
    let prints = whole before middle d entries c.entries.entry-index c.entries.output now c.entries-test.false c.entries.invariant.prints
    (was-ok c.push_end.result _ c.if-is_err-2.ensures.negation c.push_end.ensures) refl in
    rw (p.1, p.2) (flushed-part before middle after (image_text d entries) now prints c.in_err-flush.field-0.0 c.in_err-flush.ensures.flushed)

pub returns-clause-saves : goal.returns-clause-saves
returns-clause-saves g c =
    let contents = g.W.Write.contents in
    let before = contents (device_inner c.args.device.now) in
    let middle = contents (device_inner c.entries.device) in
    let after = contents (device_inner c.flush.new.device) in
    let d = c.args.default_limit in
    let entries = c.args.entries.now in
    let now : Output = record { buffer = c.push_end.new.out; sent = c.entries.output.sent } in
    let prints = whole before middle d entries c.entries.entry-index c.entries.output now c.entries-test.false c.entries.invariant.prints
    (was-ok c.push_end.result _ c.if-is_err-2.ensures.negation c.push_end.ensures) refl in
    let f = c.in_ok-flush.ensures.flushed in
    saved-all before after (image_text d entries) c.flush.new.self (flushed before middle after (image_text d entries) now prints c.flush.new.self f) f.none
