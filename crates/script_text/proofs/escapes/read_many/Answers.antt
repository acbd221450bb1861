use Rattle.script_text.proofs.Unescaping.{unescaped-all, unescaped-bad, unescaped-more, rest-shorter}
use Rattle.script_text.proofs.escapes.read_many.Goals as goal

pub returns-in_default-read_escape : goal.returns-in_default-read_escape
returns-in_default-read_escape c = unescaped-bad c.escapes.bytes.items c.escapes.rest.now c.in-Some.plain.now c.in-Some.escape.now _ c.escapes.invariant c.in-Some.ensures c.in_default-read_escape.ensures

pub escapes-smaller : goal.escapes-smaller
escapes-smaller c = rest-shorter c.escapes.rest.now c.in-Some.plain.now c.in-Some.escape.now c.in-Some-read_escape.behind.now c.in-Some-read_escape.byte c.in-Some.ensures c.in-Some-read_escape.ensures

pub escapes-preserved : goal.escapes-preserved
escapes-preserved c =
    rw (c.in_ok-push.ensures.ok, c.in_ok-extend_from_slice.ensures.ok) (
    unescaped-more c.escapes.bytes.items c.escapes.rest.now c.in-Some.plain.now c.in-Some.escape.now c.in-Some-read_escape.behind.now c.in-Some-read_escape.byte _
    c.escapes.invariant c.in-Some.ensures c.in-Some-read_escape.ensures
    )

pub returns : goal.returns
returns c = rw (c.in_ok-into_bytes.ensures, c.in_ok-extend_from_slice-2.ensures.ok) (unescaped-all c.escapes.bytes.items c.escapes.rest.now _ c.escapes.invariant c.in_default.ensures)
