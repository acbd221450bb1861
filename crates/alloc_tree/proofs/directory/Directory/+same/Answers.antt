use Rattle.std.proofs.Common.{◌≡◌, ◌<◌, ◌≤◌, [], ◌∷◌, ◌++◌, map, length, refl, sym, ap, ◌∙◌, arith}
use Rattle.std.proofs.lemmas.List.{take_all, length-map}
use Rattle.alloc_tree.specs.Contents.{whole}
use Rattle.alloc_tree.specs.View.{standing, made_of}
use Rattle.alloc_tree.proofs.Keys.{key, keys_same, number_same, key_at, made_by_keys, no_object_is, says_no, refuted}
use Rattle.alloc_tree.proofs.Ordered.{whole_is}
use Rattle.alloc_tree.proofs.Steps.{map_one_more}
use Rattle.alloc_tree.proofs.directory.Directory.+same.Goals.{in-Object+else-not-same_object, in-Directory+in-Directory-node+else-not-same}
use Rattle.alloc_tree.proofs.directory.Directory.+same.Goals as goal

pub returns-then-number : goal.returns-then-number
returns-then-number g t c = says_no _ (λ e. c.if-number.true (c.number.ensures.same ∙ number_same c.self.inside.id c.other.inside.id _ _ (sym (whole_is c.self.inside.id c.self.inside.entries _ c.self.view_is c.self.invariant) ∙ e ∙ (whole_is c.other.inside.id c.other.inside.entries _ c.other.view_is c.other.invariant)) ∙ sym c.number-2.ensures.same))

pub returns-then-len : goal.returns-then-len
returns-then-len g t c = says_no _ (λ e.
    let keys = keys_same c.self.inside.id c.other.inside.id _ _ c.self.invariant c.other.invariant (sym (whole_is c.self.inside.id c.self.inside.entries _ c.self.view_is c.self.invariant) ∙ e ∙ (whole_is c.other.inside.id c.other.inside.entries _ c.other.view_is c.other.invariant)) in
    c.if-len.true (c.len.ensures ∙ c.self.inside.entries.ok.0 ∙ sym (length-map c.self.inside.entries.items key) ∙ ap length keys ∙ length-map c.other.inside.entries.items key ∙ sym (c.len-2.ensures ∙ c.other.inside.entries.ok.0)))

pub loop-i-init : goal.loop-i-init
loop-i-init g t c = refl

pub returns-then-not-same_name : goal.returns-then-not-same_name
returns-then-not-same_name g t c = says_no _ (λ e.
    let keys = key_at c.deref-entry-items.result.now c.other.inside.entries.items c.loop-i.i c.entry-item.result c.index-beside.result.now (ap (map key) c.deref-entry-items.ensures.value ∙ keys_same c.self.inside.id c.other.inside.id _ _ c.self.invariant c.other.invariant (sym (whole_is c.self.inside.id c.self.inside.entries _ c.self.view_is c.self.invariant) ∙ e ∙ (whole_is c.other.inside.id c.other.inside.entries _ c.other.view_is c.other.invariant))) c.loop-i-test.true c.entry-item.is c.index-beside.ensures in
    refuted c.same_name.result (cc) c.same_name.ensures (c.deref.ensures.value ∙ ap (λ k. k.0) keys ∙ sym c.deref-in-loop-i.ensures.value))

pub returns-then-not-same_object : goal.returns-then-not-same_object
returns-then-not-same_object g t c = says_no _ (λ e.
    let keys = key_at c.deref-entry-items.result.now c.other.inside.entries.items c.loop-i.i c.entry-item.result c.index-beside.result.now (ap (map key) c.deref-entry-items.ensures.value ∙ keys_same c.self.inside.id c.other.inside.id _ _ c.self.invariant c.other.invariant (sym (whole_is c.self.inside.id c.self.inside.entries _ c.self.view_is c.self.invariant) ∙ e ∙ (whole_is c.other.inside.id c.other.inside.entries _ c.other.view_is c.other.invariant))) c.loop-i-test.true c.entry-item.is c.index-beside.ensures in
    refuted c.same_object.result (cc) c.same_object.ensures (sym (ap (λ k. k.1) keys) ∙ ap standing c.in-Object.is))

pub returns-in_default : goal.returns-in_default
returns-in_default g t c = says_no _ (λ e.
    let keys = key_at c.deref-entry-items.result.now c.other.inside.entries.items c.loop-i.i c.entry-item.result c.index-beside.result.now (ap (map key) c.deref-entry-items.ensures.value ∙ keys_same c.self.inside.id c.other.inside.id _ _ c.self.invariant c.other.invariant (sym (whole_is c.self.inside.id c.self.inside.entries _ c.self.view_is c.self.invariant) ∙ e ∙ (whole_is c.other.inside.id c.other.inside.entries _ c.other.view_is c.other.invariant))) c.loop-i-test.true c.entry-item.is c.index-beside.ensures in
    no_object_is g.row.A.Denot c.in-Directory.inner c.in_default.field-0 (sym (ap standing c.in-Directory.is) ∙ ap (λ k. k.1) keys ∙ ap standing c.in_default.is))

pub returns-then-not-same : goal.returns-then-not-same
returns-then-not-same g t c = says_no _ (λ e.
    let keys = key_at c.deref-entry-items.result.now c.other.inside.entries.items c.loop-i.i c.entry-item.result c.index-beside.result.now (ap (map key) c.deref-entry-items.ensures.value ∙ keys_same c.self.inside.id c.other.inside.id _ _ c.self.invariant c.other.invariant (sym (whole_is c.self.inside.id c.self.inside.entries _ c.self.view_is c.self.invariant) ∙ e ∙ (whole_is c.other.inside.id c.other.inside.entries _ c.other.view_is c.other.invariant))) c.loop-i-test.true c.entry-item.is c.index-beside.ensures in
    refuted c.same.result (cc) c.same.ensures (ap whole c.deref-in-Directory.ensures ∙ sym (ap standing c.in-Directory.is) ∙ ap (λ k. k.1) keys ∙ ap standing c.in-Directory-node.is ∙ ap whole (sym c.as_ref.ensures)))

pub loop-i-preserved : goal.loop-i-preserved
loop-i-preserved g t c =
    let within : c.loop-i.i < length c.other.inside.entries.items = omega (arith, c.loop-i-test.true, c.deref-entry-items.ensures.len, c.self.inside.entries.ok.0, c.other.inside.entries.ok.0, c.len.ensures, c.len-2.ensures, c.if-len.false) in
    let names : c.entry-item.result.name.items ≡ c.index-beside.result.now.name.items = sym c.deref.ensures.value ∙ c.same_name.ensures.0 (cc) ∙ c.deref-in-loop-i.ensures.value in
    let step = λ (s : standing c.entry-item.result.node ≡ standing c.index-beside.result.now.node).
    map_one_more key c.deref-entry-items.result.now c.loop-i.i c.entry-item.result c.loop-i-test.true c.entry-item.is
    ∙ (λ j. c.loop-i.invariant j ++ (names j, s j) ∷ [])
    ∙ sym (map_one_more key c.other.inside.entries.items c.loop-i.i c.index-beside.result.now within c.index-beside.ensures) in
    elim c.match-entry.branch [
      | in-Object+else-not-same_object w ↦ step (ap standing w.in-Object.is ∙ sym (w.same_object.ensures.0 (cc)))
      | in-Directory+in-Directory-node+else-not-same w ↦ step (ap standing w.in-Directory.is ∙ ap whole (sym w.deref-in-Directory.ensures) ∙ w.same.ensures.0 (cc) ∙ ap whole w.as_ref.ensures ∙ sym (ap standing w.in-Directory-node.is))
    ]

pub returns : goal.returns
returns g t c =
    let past : length c.other.inside.entries.items ≤ c.loop-i.i = omega (arith, c.loop-i-test.false, c.deref-entry-items.ensures.len, c.self.inside.entries.ok.0, c.other.inside.entries.ok.0, c.len.ensures, c.len-2.ensures, c.if-len.false) in
    let keys : map key c.self.inside.entries.items ≡ map key c.other.inside.entries.items =
    ap (map key) (sym (take_all c.loop-i.i c.deref-entry-items.result.now c.loop-i-test.false ∙ c.deref-entry-items.ensures.value)) ∙ c.loop-i.invariant ∙ ap (map key) (take_all c.loop-i.i c.other.inside.entries.items past) in
    let number : c.self.inside.id ≡ c.other.inside.id = sym c.number.ensures.same ∙ c.if-number.false ∙ c.number-2.ensures.same in
    (λ _. (whole_is c.self.inside.id c.self.inside.entries _ c.self.view_is c.self.invariant) ∙ made_by_keys c.self.inside.id _ _ keys ∙ ap (λ k. made_of k c.other.inside.entries.items) number ∙ sym (whole_is c.other.inside.id c.other.inside.entries _ c.other.view_is c.other.invariant), λ _. refl)
