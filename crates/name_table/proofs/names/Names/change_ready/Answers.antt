use Rattle.std.proofs.Common.{Some, refl, ap, sym, ◌≡◌, ◌≢◌, ◌∙◌}
use Rattle.std.specs.Prelude.{fold}
use Rattle.std.specs.Option.{option_copied_mut}
use Rattle.pps_types.specs.Names as paths
use Rattle.pps_types.specs.Checks.{first_refusal, limit_checks}
use Rattle.pps_types.specs.History.{apply_line}
use Rattle.pps_types.specs.Content.{LiveObject}
use Rattle.pps_types.specs.declared.refusal.Refusal.TheVariants.{OutOfMemory}
use Rattle.pps_types.specs.declared.record.Kind.TheVariants.{Opened}
use Rattle.number_table.specs.Numbered.{has_number, on_first, value_under}
use Rattle.name_table.specs.contracts.named.NamedObject.{the_view}
use Rattle.name_table.specs.Standing.{Placed, AreReadyAt}
use Rattle.name_table.proofs.Happened.{set_knowns, set_named, standing_with, knowns}
use Rattle.name_table.proofs.Changed.{noticed, found_set, said, on_ok}
use Rattle.name_table.proofs.names.Names.change_ready.Goals as goal

pub invariant_of-self-2 : goal.invariant_of-self-2
invariant_of-self-2 c =
    set_named c.self.inside.tree.map c.self.inside.objects.entries c.self.inside.objects.next c.self.inside.directories.entries c.self.inside.directories.next c.self.invariant c.number.result (Opened 0) (the_view c.known.inside) (the_view record { number = c.known.inside.number; path = c.known.inside.path; directory = c.known.inside.directory; nopersist = c.known.inside.nopersist; server = c.known.inside.server; attributes = c.apply_ready.new.self }) (sym c.get_mut.ensures.value ∙ ap option_copied_mut c.in-Some.is ∙ ap Some (sym c.known.view_is)) refl refl (ap (λ attributes. Some (record { object = (the_view c.known.inside).object; attributes = attributes })) (sym c.apply_ready.ensures.same)) (λ (o : LiveObject). refl)

pub returns-clause-ok : goal.returns-clause-ok
returns-clause-ok c =
    rw (← c.number.ensures.same)
    (on_ok c.apply_ready.result _ _
    (λ ready. said (value_under c.number.result (on_first (has_number c.number.result) (λ e. record e { value = (the_view record { number = c.known.inside.number; path = c.known.inside.path; directory = c.known.inside.directory; nopersist = c.known.inside.nopersist; server = c.known.inside.server; attributes = c.apply_ready.new.self }) }) c.self.inside.objects.entries)) (the_view record { number = c.known.inside.number; path = c.known.inside.path; directory = c.known.inside.directory; nopersist = c.known.inside.nopersist; server = c.known.inside.server; attributes = c.apply_ready.new.self })
    (AreReadyAt c.args.lines.now)
    (found_set c.number.result (the_view record { number = c.known.inside.number; path = c.known.inside.path; directory = c.known.inside.directory; nopersist = c.known.inside.nopersist; server = c.known.inside.server; attributes = c.apply_ready.new.self }) (the_view c.known.inside) c.self.inside.objects.entries (sym c.get_mut.ensures.value ∙ ap option_copied_mut c.in-Some.is ∙ ap Some (sym c.known.view_is)))
    ready)
    c.apply_ready.ensures.ok)

pub returns-clause-refusal : goal.returns-clause-refusal
returns-clause-refusal c =
    rw (← c.self.view_is, ← c.number.ensures.same)
    (said (value_under c.number.result c.self.inside.objects.entries) (the_view c.known.inside)
    (λ (x : Placed). paths.refusal_of c.apply_ready.result ≢ Some OutOfMemory → paths.refusal_of c.apply_ready.result ≡ first_refusal (limit_checks (fold apply_line x.held.attributes c.args.lines.now)))
    (sym c.get_mut.ensures.value ∙ ap option_copied_mut c.in-Some.is ∙ ap Some (sym c.known.view_is)) c.apply_ready.ensures.refusal)

pub returns-clause-same : goal.returns-clause-same
returns-clause-same c =
    rw (← c.self.view_is)
    (record {
      standing = ap (standing_with c.self.inside.objects.next c.self.inside.directories.entries c.self.inside.directories.next) (set_knowns c.self.inside.tree.map c.self.inside.objects.entries c.self.inside.objects.next c.self.inside.directories.entries c.self.inside.directories.next c.self.invariant c.number.result (Opened 0) (the_view c.known.inside) (the_view record { number = c.known.inside.number; path = c.known.inside.path; directory = c.known.inside.directory; nopersist = c.known.inside.nopersist; server = c.known.inside.server; attributes = c.apply_ready.new.self }) (sym c.get_mut.ensures.value ∙ ap option_copied_mut c.in-Some.is ∙ ap Some (sym c.known.view_is)) refl refl (ap (λ attributes. Some (record { object = (the_view c.known.inside).object; attributes = attributes })) (sym c.apply_ready.ensures.same)) ∙ noticed c.number.result (knowns c.self.inside.objects.entries));
      tree = refl;
      directories = refl;
      room = refl;
    })
