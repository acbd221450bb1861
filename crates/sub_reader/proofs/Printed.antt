-- Lines that are printed for all handles without a filter are what each of them is given.
use Rattle.std.proofs.Common.{◌≡◌, ℕ, true, false, not, ◌&&◌, ◌||◌, List, [], Option, Some, None, refl, sym, ap, ◌∙◌, Bool}
use Rattle.std.specs.Prelude.{is_some, is_none, option_map}
use Rattle.pps_types.specs.declared.handle_kind.HandleKind.{HandleKind}
use Rattle.pps_types.specs.declared.handle_kind.HandleKind.TheVariants.{Object as ObjectHandle, Directory as DirectoryHandle, Names as NamesHandle, Server as ServerHandle, Client as ClientHandle}
use Rattle.pps_types.specs.Filter.{Part}
use Rattle.pps_types.specs.History.{Entry}
use Rattle.pps_types.specs.declared.record.Kind.{Kind}
use Rattle.pps_types.specs.declared.record.Kind.TheVariants.{Created, Change, Truncated, Dropped, Deleted, Opened, Closed, FromClient, ToClient, ToAll}
use Rattle.pps_types.specs.Reading.{Shown, shown, visible, concerns, block, is_writer, is_object_kind, shown_to_object, shown_to_directory, matching_lines, print_shown}
use Rattle.server_queue.specs.Printed.{printed_text}
use Rattle.sub_reader.specs.declared.opening.Opening.{Opening}
use Rattle.sub_reader.specs.Opened.{opened}
use Rattle.sub_reader.specs.Lines.{takes_lines, is_told, TakesLines}

-- the lines of a kind are shown to an object's handles and to a directory's
pub record IsPlain (name : List ℕ) (kind : Kind) (text : List ℕ) : Type 0 where
  pub some : is_some (shown_to_object None kind) ≡ true
  pub printed : print_shown name (shown_to_object None kind) ≡ text
  pub same : shown_to_directory None kind ≡ shown_to_object None kind

by-shown : (name : List ℕ) (s : Option Shown) (text : List ℕ) → option_map (λ x. print_shown name (Some x)) s ≡ Some text → (is_some s ≡ true) × (print_shown name s ≡ text)
by-shown name None text e = absurd cc
by-shown name (Some s) text e = (refl, cc)

pub plain : (name : List ℕ) (kind : Kind) (text : List ℕ) → printed_text name kind ≡ Some text → IsPlain name kind text
plain name (Change lines) text e = let b = by-shown name (matching_lines None lines) text e in record { some = b.0; printed = b.1; same = refl }
plain name Created text e = absurd cc
plain name Truncated text e = absurd cc
plain name Dropped text e = absurd cc
plain name Deleted text e = absurd cc
plain name (Opened id) text e = absurd cc
plain name (Closed id) text e = absurd cc
plain name (FromClient id lines) text e = absurd cc
plain name (ToClient id lines) text e = absurd cc
plain name (ToAll lines) text e = absurd cc

shown-lines : (name : List ℕ) (kind : Kind) (text : List ℕ) (k : HandleKind) (number : ℕ) (filter : Option (List Part)) → takes_lines k ≡ true → is_none filter ≡ true → IsPlain name kind text
    → (is_some (shown k number filter kind) ≡ true) × (print_shown name (shown k number filter kind) ≡ text)
shown-lines name kind text k number (Some parts) takes all p = absurd cc
shown-lines name kind text (ObjectHandle delta) number None takes all p = (p.some, p.printed)
shown-lines name kind text (DirectoryHandle delta) number None takes all p = (ap is_some p.same ∙ p.some, ap (print_shown name) p.same ∙ p.printed)
shown-lines name kind text NamesHandle number None takes all p = absurd cc
shown-lines name kind text ServerHandle number None takes all p = absurd cc
shown-lines name kind text ClientHandle number None takes all p = absurd cc

and-all : (a b c d : Bool) → d ≡ true → (a && (b && c)) ≡ (a && (b && c && d))
and-all false b c d e = refl
and-all true false c d e = refl
and-all true true false d e = refl
and-all true true true d e = sym e

-- a handle without a filter that is told of lines is given them as they are printed
pub lines_are_seen : (target : ℕ) (o : Opening) (e : Entry) (text : List ℕ) → TakesLines o e text
    → (is_told (opened target [] o) e ≡ visible (opened target [] o) e) × (text ≡ block (opened target [] o) e)
lines_are_seen target o e text takes =
    let h = opened target [] o in
    let both = shown-lines e.name e.record_of.kind text o.kind o.number o.options.filter takes.kind takes.all (plain e.name e.record_of.kind text takes.printed) in
    (and-all (concerns h e) h.reads (not (is_writer h.number e.record_of.writer) || (h.options.reflect && is_object_kind h.kind)) (is_some (shown o.kind o.number o.options.filter e.record_of.kind)) both.0, sym both.1)
