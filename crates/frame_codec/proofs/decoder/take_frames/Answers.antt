use Rattle.std.proofs.Common.{◌≡◌, ◌+◌, ap, sym, ◌∙◌, subst, drop, arith, true, false, List}
use Rattle.std.proofs.lemmas.List.{length-drop}
use Rattle.std.specs.List.{All}
use Rattle.pps_types.specs.declared.event.Event.{Event}
use Rattle.pps_types.specs.Frame as frames
use Rattle.pps_types.specs.Frame.{IsBytes, HasFrame, stream_of}
use Rattle.frame_codec.specs.declared.decoder.Front.TheVariants.{Whole, Partial, Malformed}
use Rattle.frame_codec.proofs.FrameEvents.{IsBytes-drop}
use Rattle.frame_codec.proofs.Fronts.{front_is, first_at, goes_on, one_more}
use Rattle.frame_codec.proofs.decoder.take_frames.Goals as goal

pub returns-in-Partial : goal.returns-in-Partial
returns-in-Partial c =
    let fits : IsBytes c.args.bytes.now = λ i. omega (arith, c.type_inv.bytes i) in
    let rest = drop c.frames.used c.args.bytes.now in
    let first = first_at c.args.bytes.now c.frames.used c.frames.events.items c.first_frame.new.events.items c.in_ok-first_frame.field-0 Partial
    c.in-Partial.is c.in_ok-first_frame.ensures in
    let partial = front_is rest frames.Partial (IsBytes-drop c.frames.used c.args.bytes.now fits) first.0 in
    record {
      within = c.frames.invariant.within;
      stream = c.frames.invariant.stream ∙ ap (λ (es : List Event). stream_of es rest) (sym first.1);
      each = λ all. subst (All HasFrame) (sym first.1) (c.frames.invariant.each all);
      good = λ _. partial;
      malformed = λ q. absurd (let e : false ≡ true = q in cc);
    }

pub returns-in-Malformed : goal.returns-in-Malformed
returns-in-Malformed c =
    let fits : IsBytes c.args.bytes.now = λ i. omega (arith, c.type_inv.bytes i) in
    let rest = drop c.frames.used c.args.bytes.now in
    let first = first_at c.args.bytes.now c.frames.used c.frames.events.items c.first_frame.new.events.items c.in_ok-first_frame.field-0 Malformed
    c.in-Malformed.is c.in_ok-first_frame.ensures in
    let malformed = front_is rest frames.Wrong (IsBytes-drop c.frames.used c.args.bytes.now fits) first.0 in
    record {
      within = c.frames.invariant.within;
      stream = c.frames.invariant.stream ∙ ap (λ (es : List Event). stream_of es rest) (sym first.1);
      each = λ all. subst (All HasFrame) (sym first.1) (c.frames.invariant.each all);
      good = λ q. absurd (let e : true ≡ false = q in cc);
      malformed = λ _. malformed;
    }

pub frames-preserved : goal.frames-preserved
frames-preserved c =
    let fits : IsBytes c.args.bytes.now = λ i. omega (arith, c.type_inv.bytes i) in
    let rest = drop c.frames.used c.args.bytes.now in
    let first = first_at c.args.bytes.now c.frames.used c.frames.events.items c.first_frame.new.events.items c.in_ok-first_frame.field-0 (Whole c.in-Whole.len)
    c.in-Whole.is c.in_ok-first_frame.ensures in
    let whole = front_is rest (frames.Whole first.0 (drop c.in-Whole.len rest)) (IsBytes-drop c.frames.used c.args.bytes.now fits) first.1 in
    let more = goes_on c.args.events.now.items c.frames.events.items c.args.bytes.now c.frames.used c.in-Whole.len first.0 c.frames.invariant.stream whole.1 in
    let added = sym first.2 in
    record {
      within = omega (arith, first.4, length-drop c.frames.used c.args.bytes.now, c.frames.invariant.within);
      stream = more ∙ ap (λ (es : List Event). stream_of es (drop (c.frames.used + c.in-Whole.len) c.args.bytes.now)) added;
      each = λ all. subst (All HasFrame) added (one_more c.frames.events.items first.0 (c.frames.invariant.each all) whole.0);
    }
