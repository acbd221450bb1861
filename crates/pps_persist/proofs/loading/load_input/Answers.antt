use Rattle.std.proofs.Common.{◌≡◌, ℕ, ◌+◌, ◌*◌, ◌≤◌, Err, List, ◌++◌, length, take, drop, subst, ap, ◌∙◌, inr, arith}
use Rattle.std.proofs.lemmas.List.{length-take-le}
use Rattle.std.proofs.lemmas.Result.{err_from_is_err_and}
use Rattle.pps_persist.specs.Begun.{IsReading, GoesOn}
use Rattle.pps_persist.specs.Loads.{Gone}
use Rattle.pps_persist.proofs.Inputs.{front_of, few-numbers, piece-told, piece-fault, piece-many, piece-taken, nothing-more, ends, ends-fault, ends-many, reads-many}
use Rattle.pps_persist.proofs.loading.load_input.Goals as goal

pub returns-then-count-eq0-clause-loads : goal.returns-then-count-eq0-clause-loads
returns-then-count-eq0-clause-loads g c =
    let bytes = g.I.Input.remaining in
    let from = bytes c.args.input.now in
    let to = bytes c.pieces.input in
    let next = bytes c.read_some.new.self in
    let gone = c.pieces.invariant.gone in
    ends from to c.pieces.reading c.pieces.counter (65536 * c.pieces.counter) gone next c.finish.result
    (nothing-more from to c.pieces.reading c.pieces.counter (65536 * c.pieces.counter) gone next (take c.in-Ok.count c.read_some.new.buf) (ap (λ (n : ℕ). take n c.read_some.new.buf) c.if-count-eq0.true) c.in-Ok.ensures.bytes.0)
    (c.in-Ok.ensures.bytes.1 c.if-count-eq0.true (omega (arith, c.as_mut_slice.ensures.len, c.read_some.auto.buf, c.pieces.invariant.room)))
    c.finish.ensures

pub returns-then-count-eq0-clause-fault : goal.returns-then-count-eq0-clause-fault
returns-then-count-eq0-clause-fault g c =
    let bytes = g.I.Input.remaining in
    ends-fault (bytes c.args.input.now) (bytes c.pieces.input) c.pieces.reading c.pieces.counter (65536 * c.pieces.counter) c.pieces.invariant.gone
    (g.I.Input.works c.args.input.now c.read_some.new.self) (g.I.Input.fails c.args.input.now c.read_some.new.self) c.finish.result (c.pieces.counter + 1) c.finish.ensures
    (c.in-Ok.ensures.works c.args.input.now c.pieces.counter c.pieces.invariant.works)

pub returns-then-count-eq0-clause-many : goal.returns-then-count-eq0-clause-many
returns-then-count-eq0-clause-many g c =
    let bytes = g.I.Input.remaining in
    ends-many (bytes c.args.input.now) (bytes c.pieces.input) c.pieces.reading c.pieces.counter (65536 * c.pieces.counter) c.pieces.invariant.gone
    (bytes c.read_some.new.self) (g.I.Input.fails c.args.input.now c.read_some.new.self) c.finish.result c.finish.ensures

pub take_piece-requires-clause-number : goal.take_piece-requires-clause-number
take_piece-requires-clause-number g c =
    let bytes = g.I.Input.remaining in
    let same = ap (take c.in-Ok.count) c.deref.ensures.value
    ∙ front_of c.in-Ok.count c.pieces.buffer.len c.read_some.new.buf (drop (length c.read_some.new.buf) c.pieces.buffer.items) c.in-Ok.ensures.bound.0 (omega (arith, c.in-Ok.ensures.bound, c.as_mut_slice.ensures.len, c.read_some.auto.buf)) in
    let size : length (take c.in-Ok.count c.read_some.new.buf) ≤ 65536 =
    omega (arith, length-take-le c.in-Ok.count c.read_some.new.buf c.in-Ok.ensures.bound.0, c.in-Ok.ensures.bound, c.as_mut_slice.ensures.len, c.read_some.auto.buf, c.pieces.invariant.room) in
    few-numbers (bytes c.args.input.now) (bytes c.pieces.input) c.pieces.reading c.pieces.counter (65536 * c.pieces.counter) c.pieces.invariant.gone
    (length (take c.in-Ok.count c.deref.result.now)) (omega (arith, ap length same, size, c.pieces-test.true))

pub returns-in_err-reading-clause-loads : goal.returns-in_err-reading-clause-loads
returns-in_err-reading-clause-loads g c =
    let p = err_from_is_err_and c.from_residual-in_err-reading.result c.from_residual-in_err-reading.ensures.1 in
    let bytes = g.I.Input.remaining in
    let same = ap (take c.in-Ok.count) c.deref.ensures.value
    ∙ front_of c.in-Ok.count c.pieces.buffer.len c.read_some.new.buf (drop (length c.read_some.new.buf) c.pieces.buffer.items) c.in-Ok.ensures.bound.0 (omega (arith, c.in-Ok.ensures.bound, c.as_mut_slice.ensures.len, c.read_some.auto.buf)) in
    let told = subst (λ (piece : List ℕ). (taken : List ℕ) → IsReading taken c.pieces.reading → GoesOn (taken ++ piece) (Err c.in_err-reading.field-0.0)) same c.in_err-reading.ensures in
    rw (p.1, p.2)
    (piece-told (bytes c.args.input.now) (bytes c.pieces.input) c.pieces.reading c.pieces.counter (65536 * c.pieces.counter) c.pieces.invariant.gone
    (bytes c.read_some.new.self) (take c.in-Ok.count c.read_some.new.buf) c.in-Ok.ensures.bytes.0 c.in_err-reading.field-0.0 told)

pub returns-in_err-reading-clause-fault : goal.returns-in_err-reading-clause-fault
returns-in_err-reading-clause-fault g c =
    let p = err_from_is_err_and c.from_residual-in_err-reading.result c.from_residual-in_err-reading.ensures.1 in
    let bytes = g.I.Input.remaining in
    let same = ap (take c.in-Ok.count) c.deref.ensures.value
    ∙ front_of c.in-Ok.count c.pieces.buffer.len c.read_some.new.buf (drop (length c.read_some.new.buf) c.pieces.buffer.items) c.in-Ok.ensures.bound.0 (omega (arith, c.in-Ok.ensures.bound, c.as_mut_slice.ensures.len, c.read_some.auto.buf)) in
    let told = subst (λ (piece : List ℕ). (taken : List ℕ) → IsReading taken c.pieces.reading → GoesOn (taken ++ piece) (Err c.in_err-reading.field-0.0)) same c.in_err-reading.ensures in
    rw (p.1, p.2)
    (piece-fault (bytes c.args.input.now) (bytes c.pieces.input) c.pieces.reading c.pieces.counter (65536 * c.pieces.counter) c.pieces.invariant.gone
    (bytes c.read_some.new.self) (take c.in-Ok.count c.read_some.new.buf) c.in-Ok.ensures.bytes.0
    (g.I.Input.works c.args.input.now c.read_some.new.self) (g.I.Input.fails c.args.input.now c.read_some.new.self) c.in_err-reading.field-0.0 (c.pieces.counter + 1) told
    (c.in-Ok.ensures.works c.args.input.now c.pieces.counter c.pieces.invariant.works))

pub returns-in_err-reading-clause-many : goal.returns-in_err-reading-clause-many
returns-in_err-reading-clause-many g c =
    let p = err_from_is_err_and c.from_residual-in_err-reading.result c.from_residual-in_err-reading.ensures.1 in
    let bytes = g.I.Input.remaining in
    let same = ap (take c.in-Ok.count) c.deref.ensures.value
    ∙ front_of c.in-Ok.count c.pieces.buffer.len c.read_some.new.buf (drop (length c.read_some.new.buf) c.pieces.buffer.items) c.in-Ok.ensures.bound.0 (omega (arith, c.in-Ok.ensures.bound, c.as_mut_slice.ensures.len, c.read_some.auto.buf)) in
    let told = subst (λ (piece : List ℕ). (taken : List ℕ) → IsReading taken c.pieces.reading → GoesOn (taken ++ piece) (Err c.in_err-reading.field-0.0)) same c.in_err-reading.ensures in
    rw (p.1, p.2)
    (piece-many (bytes c.args.input.now) (bytes c.pieces.input) c.pieces.reading c.pieces.counter (65536 * c.pieces.counter) c.pieces.invariant.gone
    (bytes c.read_some.new.self) (take c.in-Ok.count c.read_some.new.buf) c.in-Ok.ensures.bytes.0
    (g.I.Input.fails c.args.input.now c.read_some.new.self) c.in_err-reading.field-0.0 told)

pub pieces-preserved : goal.pieces-preserved
pieces-preserved g c =
    let bytes = g.I.Input.remaining in
    let same = ap (take c.in-Ok.count) c.deref.ensures.value
    ∙ front_of c.in-Ok.count c.pieces.buffer.len c.read_some.new.buf (drop (length c.read_some.new.buf) c.pieces.buffer.items) c.in-Ok.ensures.bound.0 (omega (arith, c.in-Ok.ensures.bound, c.as_mut_slice.ensures.len, c.read_some.auto.buf)) in
    let size : length (take c.in-Ok.count c.read_some.new.buf) ≤ 65536 =
    omega (arith, length-take-le c.in-Ok.count c.read_some.new.buf c.in-Ok.ensures.bound.0, c.in-Ok.ensures.bound, c.as_mut_slice.ensures.len, c.read_some.auto.buf, c.pieces.invariant.room) in
    let some : 1 ≤ length (take c.in-Ok.count c.read_some.new.buf) =
    omega (arith, length-take-le c.in-Ok.count c.read_some.new.buf c.in-Ok.ensures.bound.0, c.if-count-eq0.false) in
    let goes = subst (λ (piece : List ℕ). (taken : List ℕ) → IsReading taken c.pieces.reading → IsReading (taken ++ piece) c.in_ok-reading.reading) same c.in_ok-reading.ensures in
    let more : 65536 * c.pieces.counter + 65536 ≡ 65536 * (c.pieces.counter + 1) = omega arith in
    record {
      gone = subst (Gone (bytes c.args.input.now) (bytes c.read_some.new.self) c.in_ok-reading.reading (c.pieces.counter + 1)) more
          (piece-taken (bytes c.args.input.now) (bytes c.pieces.input) c.pieces.reading c.pieces.counter (65536 * c.pieces.counter) c.pieces.invariant.gone
          (bytes c.read_some.new.self) (take c.in-Ok.count c.read_some.new.buf) c.in-Ok.ensures.bytes.0 c.in_ok-reading.reading 65536 some size goes);
      works = c.in-Ok.ensures.works c.args.input.now c.pieces.counter c.pieces.invariant.works;
      room = c.pieces.invariant.room;
    }

pub returns-clause-many : goal.returns-clause-many
returns-clause-many g c =
    let bytes = g.I.Input.remaining in
    inr (reads-many (bytes c.args.input.now) (bytes c.pieces.input) c.pieces.reading c.pieces.counter (65536 * c.pieces.counter) c.pieces.invariant.gone (omega arith))
