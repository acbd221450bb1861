use Rattle.std.proofs.Common.{rules, ℕ, List, ◌≡◌, ◌≤◌, ◌++◌, ◌-◌, ◌∙◌, ap, sym, arith, length, drop, take, replicate, length-drop, append_assoc}
use Rattle.std.proofs.lemmas.List.{take_rest, length-append, length-take-le}
use Rattle.script_text.specs.Escapes.{escaped}
use Rattle.script_text.proofs.Escaping.{chunks-more, padded-is, without-spaces}
use Rattle.script_text.proofs.chunks.put_few.Goals as goal

pub few-preserved : goal.few-preserved
few-preserved c =
    let bytes = c.args.bytes.now in
    let spaces : List ℕ = replicate 32 32 in
    let padded = c.copy_from_slice.new.self ++ drop (length bytes) spaces in
    let taken = c.few.taken in
    let next = c.write_chunk-more.result.0 in
    let front = take c.args.at c.args.text.now in
    let long : length padded ≡ 32 = length-append c.copy_from_slice.new.self (drop (length bytes) spaces) ∙ omega (arith, c.copy_from_slice.ensures.len, length-take-le (length bytes) spaces (omega (arith, c.requires.few)), length-drop (length bytes) spaces, c.requires.few) in
    let tail : take (32 - taken) (drop taken padded) ≡ drop taken padded = ap (λ n. take (n - taken) (drop taken padded)) (sym long) ∙ take_rest padded taken in
    let more = rw tail at c.write_chunk-more.ensures.taken in
    let text = rw tail at c.write_chunk-more.ensures.text in
    record {
      room = omega (arith, c.write_chunk-more.auto.text, c.few.invariant.room);
      taken = omega (arith, more, length-drop taken padded, long, c.few.invariant.taken);
      within = omega (arith, c.write_chunk-more.ensures.within, c.few.invariant.short, c.few-test.true, c.requires.few);
      short = omega (arith, c.write_chunk-more.ensures.short, c.few.invariant.short);
      text = text ∙ rw c.few.invariant.text (append_assoc front (escaped (take taken padded)) (escaped (take next (drop taken padded))) ∙ ap (λ all. front ++ all) (chunks-more padded taken next));
    }

-- what stands at the end, without the spaces
shown : (c : goal.After-few) → (c.few.taken - length c.args.bytes.now ≤ c.few.end)
    × (take (c.few.end - (c.few.taken - length c.args.bytes.now)) c.few.text ≡ take c.args.at c.args.text.now ++ escaped c.args.bytes.now)
shown c =
    let bytes = c.args.bytes.now in
    let over : c.copy_from_slice.new.self ≡ bytes = search rules in
    let text = rw (padded-is bytes c.copy_from_slice.new.self 32 over (omega (arith, c.requires.few))) at c.few.invariant.text in
    without-spaces (take c.args.at c.args.text.now) bytes c.few.text c.few.end c.few.taken (32 - length bytes)
    (omega (arith, c.few.invariant.within, c.few.invariant.room)) c.few-test.false (omega (arith, c.few.invariant.taken, c.requires.few)) text

pub overflow_sub-result-2 : goal.overflow_sub-result-2
overflow_sub-result-2 c = (shown c).0

pub returns-clause-text : goal.returns-clause-text
returns-clause-text c = (shown c).1
