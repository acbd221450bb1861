use Rattle.std.proofs.Common.{◌≡◌, ◌≤◌, ℕ, List, [], ◌++◌, length, take, drop, subst, sym, ap, ◌∙◌, inr, length-append, arith}
use Rattle.std.proofs.lemmas.List.{length-take-le}
use Rattle.std.specs.Io.KnownBytes.{Consumes}
use Rattle.pps_types.proofs.KnownBytes.{Consumes-then}
use Rattle.pps_persist.proofs.Inputs.{front_of}
use Rattle.pps_jobs.proofs.FilesRead.{whole, read-long}
use Rattle.pps_jobs.proofs.script_file.read_rest.Goals as goal

pub returns-then-count-eq0-clause-text : goal.returns-then-count-eq0-clause-text
returns-then-count-eq0-clause-text g c =
    let bytes = g.R.Read.remaining in
    whole (bytes c.args.script.now) (bytes c.pieces.script) (bytes c.read_some.new.self) c.pieces.text.items (take c.in-Ok.count c.read_some.new.buf)
    (ap (λ (n : ℕ). take n c.read_some.new.buf) c.if-count-eq0.true) c.pieces.invariant.read c.in-Ok.ensures.bytes.0
    (c.in-Ok.ensures.bytes.1 c.if-count-eq0.true (omega (arith, c.as_mut_slice.ensures.len, c.read_some.auto.buf, c.pieces.invariant.room)))

pub pieces-preserved : goal.pieces-preserved
pieces-preserved g c =
    let bytes = g.R.Read.remaining in
    let same = ap (take c.in-Ok.count) c.deref.ensures.value
    ∙ front_of c.in-Ok.count c.pieces.buffer.len c.read_some.new.buf (drop (length c.read_some.new.buf) c.pieces.buffer.items) c.in-Ok.ensures.bound.0 (omega (arith, c.in-Ok.ensures.bound, c.as_mut_slice.ensures.len, c.read_some.auto.buf)) in
    let piece = take c.in-Ok.count c.read_some.new.buf in
    let text = c.pieces.text.items in
    let some : 1 ≤ length piece = omega (arith, length-take-le c.in-Ok.count c.read_some.new.buf c.in-Ok.ensures.bound.0, c.if-count-eq0.false) in
    let items : c.extend_from_slice.new.self.items ≡ text ++ piece = c.in_ok-extend_from_slice.ensures.items ∙ ap (λ (l : List ℕ). text ++ l) same in
    record {
      read = subst (Consumes (bytes c.args.script.now) (bytes c.read_some.new.self)) (sym items)
          (Consumes-then (bytes c.args.script.now) (bytes c.pieces.script) (bytes c.read_some.new.self) text piece c.pieces.invariant.read c.in-Ok.ensures.bytes.0);
      many = omega (arith, ap length items, length-append text piece, some, c.pieces.invariant.many);
      fails = λ may. c.pieces.invariant.fails (c.in-Ok.ensures.stays may);
      room = c.pieces.invariant.room;
    }

pub returns-clause-fault : goal.returns-clause-fault
returns-clause-fault g c =
    inr (read-long (g.R.Read.remaining c.args.script.now) (g.R.Read.remaining c.pieces.script) c.pieces.text.items c.pieces.invariant.read
    (omega (arith, c.pieces.invariant.many)))
