use Rattle.std.proofs.Common.{arith}
use Rattle.script_text.proofs.Unescaping.{unescaped-all, unescaped-bad, unescaped-more, split-lengths, escape-shorter, rest-shorter}
use Rattle.script_text.proofs.escapes.read_few.Goals as goal

pub put_bytes-len-requires : goal.put_bytes-len-requires
put_bytes-len-requires c =
    let lengths = split-lengths c.escapes.rest.now c.in-Some.plain.now c.in-Some.escape.now c.in-Some.ensures in
    omega (arith, lengths, c.escapes.invariant.room)

pub put_byte-len-requires : goal.put_byte-len-requires
put_byte-len-requires c =
    let lengths = split-lengths c.escapes.rest.now c.in-Some.plain.now c.in-Some.escape.now c.in-Some.ensures in
    omega (arith, lengths, c.escapes.invariant.room, c.put_bytes-len.ensures.len)

pub returns-in_default-read_escape : goal.returns-in_default-read_escape
returns-in_default-read_escape c =
    unescaped-bad _ c.escapes.rest.now c.in-Some.plain.now c.in-Some.escape.now _ c.escapes.invariant.read c.in-Some.ensures c.in_default-read_escape.ensures

pub escapes-smaller : goal.escapes-smaller
escapes-smaller c = rest-shorter c.escapes.rest.now c.in-Some.plain.now c.in-Some.escape.now c.in-Some-read_escape.behind.now c.in-Some-read_escape.byte c.in-Some.ensures c.in-Some-read_escape.ensures

pub escapes-preserved : goal.escapes-preserved
escapes-preserved c =
    let lengths = split-lengths c.escapes.rest.now c.in-Some.plain.now c.in-Some.escape.now c.in-Some.ensures in
    let shorter = escape-shorter c.in-Some-read_escape.byte c.in-Some.escape.now c.in-Some-read_escape.behind.now c.in-Some-read_escape.ensures in
    record {
      room = omega (arith, lengths, shorter, c.escapes.invariant.room, c.put_bytes-len.ensures.len, c.put_byte-len.ensures.len);
      read = rw (c.put_byte-len.ensures.text, c.put_bytes-len.ensures.text) (
          unescaped-more _ c.escapes.rest.now c.in-Some.plain.now c.in-Some.escape.now c.in-Some-read_escape.behind.now c.in-Some-read_escape.byte _
          c.escapes.invariant.read c.in-Some.ensures c.in-Some-read_escape.ensures
          );
    }

pub returns : goal.returns
returns c =
    rw (c.in_ok-from_slice.ensures, c.put_bytes-len-2.ensures.text) (unescaped-all _ c.escapes.rest.now _ c.escapes.invariant.read c.in_default.ensures)
