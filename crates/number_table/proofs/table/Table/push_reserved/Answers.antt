use Rattle.std.proofs.Common.{◌∙◌, length, [], ◌∷◌, ◌++◌, map, sym, ap, subst, arith, length-append}
use Rattle.std.proofs.lemmas.List.{map-append}
use Rattle.number_table.specs.declared.index.Place.{Place}
use Rattle.number_table.specs.Numbered.{Entry, AllTell}
use Rattle.number_table.specs.Index.{entries_in, numbers_in, slots_in}
use Rattle.number_table.proofs.Entries.{entries_push}
use Rattle.number_table.proofs.Standing.{rises_push}
use Rattle.number_table.proofs.Held.{slots_pushed}
use Rattle.number_table.proofs.Told.{tell_push}
use Rattle.number_table.proofs.table.Table.push_reserved.Goals as goal

-- the entries after, by the fields
pushed : goal.returns-clause-entries
pushed g c =
    let ps = c.self.inside.index.items in
    let next = ap (λ t. t.next) c.self.view_is in
    ap (λ ps. entries_in (slots_in c.insert_reserved-key.new.self ps)) c.push_reserved.ensures.items
    ∙ ap entries_in (slots_pushed c.args.number c.insert_reserved-key.result 0 c.args.value c.self.inside.values c.insert_reserved-key.new.self ps c.self.inside.next c.self.invariant.rises (omega arith) c.insert_reserved-key.ensures.was_vacant c.insert_reserved-key.ensures.updates)
    ∙ entries_push (slots_in c.self.inside.values ps) c.args.number c.args.value
    ∙ ap (λ t. t.entries ++ record { number = c.args.number; value = c.args.value } ∷ []) c.self.view_is

pub invariant_of-self : goal.invariant_of-self
invariant_of-self g c =
    let ps = c.self.inside.index.items in
    let p : Place = record { number = c.args.number; key = c.insert_reserved-key.result } in
    let next = ap (λ t. t.next) c.self.view_is in
    let more = ap length (pushed g c) in
    record {
      rises = rw (c.push_reserved.ensures.items, map-append (λ (p : Place). p.number) ps (p ∷ [])) (rises_push 0 (numbers_in ps) c.self.inside.next c.args.number c.self.invariant.rises (omega arith));
      counted =
          let h = c.self.invariant.counted in
          let v = ap (λ t. length t.entries) c.self.view_is in
          let l = c.insert_reserved-key.ensures.len in
          omega (arith, length-append c.args.self.now.entries (record { number = c.args.number; value = c.args.value } ∷ []));
      dense =
          let h = c.self.invariant.dense in
          let l = c.insert_reserved-key.ensures.len in
          rw c.push_reserved.ensures.items (omega (arith, length-append ps (p ∷ [])));
      fits =
          let r = c.requires.room in
          let v = ap (λ t. t.room) c.self.view_is in
          let l = c.insert_reserved-key.ensures.len in
          let k = c.insert_reserved-key.ensures.capacity in
          omega arith;
    }

pub returns-clause-entries : goal.returns-clause-entries
returns-clause-entries = pushed

pub returns-clause-values : goal.returns-clause-values
returns-clause-values g c = ap (map (λ (e : Entry _). e.value)) (pushed g c) ∙ map-append (λ (e : Entry _). e.value) c.args.self.now.entries (record { number = c.args.number; value = c.args.value } ∷ [])

pub returns-clause-told : goal.returns-clause-told
returns-clause-told g c f h k = subst (AllTell f) (sym (pushed g c)) (tell_push f c.args.self.now.entries c.args.number c.args.value h k)
