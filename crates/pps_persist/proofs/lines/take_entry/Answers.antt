use Rattle.std.proofs.Common.{◌≡◌, ℕ, [], ◌∷◌, ◌++◌, Option, Some, refl, sym, ap, subst, ◌∙◌}
use Rattle.std.specs.Prelude.{IfSome}
use Rattle.std.proofs.lemmas.Result.{err_from_is_err_and}
use Rattle.pps_types.specs.Names.{Path}
use Rattle.image_text.specs.declared.reading.EntryLine.{EntryLine}
use Rattle.image_text.specs.declared.reading.EntryLine.TheVariants.{Directory, Object}
use Rattle.image_text.specs.Lines.{IsReadPath, NamesReadPath}
use Rattle.pps_persist.proofs.Taken.{loaded-is, leads-nowhere, leads-behind-directory, leads-into-object, leads-to-end, leads-to-no-end, directory-fault, object-fault}
use Rattle.pps_persist.proofs.lines.take_entry.Goals as goal

-- what was read, by its parts
read-directory : (read : Option EntryLine) (entry : EntryLine) (path names : Path) → read ≡ Some entry → entry ≡ Directory path → names ≡ path → read ≡ Some (Directory names)
read-directory read entry path names a b e = a ∙ ap Some b ∙ ap (λ (p : Path). Some (Directory p)) (sym e)

read-object : (read : Option EntryLine) (entry : EntryLine) (path names : Path) (count : ℕ) → read ≡ Some entry → entry ≡ Object path count → names ≡ path → read ≡ Some (Object names count)
read-object read entry path names count a b e = a ∙ ap Some b ∙ ap (λ (p : Path). Some (Object p count)) (sym e)

pub take_directory-requires-clause-loaded : goal.take_directory-requires-clause-loaded
take_directory-requires-clause-loaded c = loaded-is c.args.loaded c.requires

pub take_object-requires-clause-loaded : goal.take_object-requires-clause-loaded
take_object-requires-clause-loaded c = loaded-is c.args.loaded c.requires

pub returns-in_default : goal.returns-in_default
returns-in_default c = λ lines b. leads-nowhere c.args.line.now c.in_ok-entry.field-0 c.in_ok-entry.ensures.position lines c.args.loaded b c.in_default.is

pub take_directory-requires-clause-path : goal.take_directory-requires-clause-path
take_directory-requires-clause-path c =
    let named = subst (λ (read : Option EntryLine). IfSome read NamesReadPath) c.in-Some.is c.in_ok-entry.ensures.path in
    subst IsReadPath (sym c.into_names.ensures) (subst NamesReadPath c.in-Directory.is named)

pub take_object-requires-clause-path : goal.take_object-requires-clause-path
take_object-requires-clause-path c =
    let named = subst (λ (read : Option EntryLine). IfSome read NamesReadPath) c.in-Some.is c.in_ok-entry.ensures.path in
    subst IsReadPath (sym c.into_names-in-Object.ensures) (subst NamesReadPath c.in-Object.is named)

pub returns-in_err-loaded-in-Directory : goal.returns-in_err-loaded-in-Directory
returns-in_err-loaded-in-Directory c =
    let p = err_from_is_err_and c.from_residual-in_err-loaded-in-Directory.result c.from_residual-in_err-loaded-in-Directory.ensures.1 in
    let names = c.into_names.result.items in
    let is = read-directory c.in_ok-entry.field-0 c.in-Some.entry c.in-Directory.path names c.in-Some.is c.in-Directory.is c.into_names.ensures in
    rw (p.1, p.2) (directory-fault c.args.line.now c.in_ok-entry.field-0 c.in_ok-entry.ensures.position c.args.loaded names c.in_err-loaded-in-Directory.field-0.0 is c.in_err-loaded-in-Directory.ensures)

pub returns-in_ok-loaded-in-Directory : goal.returns-in_ok-loaded-in-Directory
returns-in_ok-loaded-in-Directory c =
    let names = c.into_names.result.items in
    let is = read-directory c.in_ok-entry.field-0 c.in-Some.entry c.in-Directory.path names c.in-Some.is c.in-Directory.is c.into_names.ensures in
    λ lines b. leads-behind-directory c.args.line.now c.in_ok-entry.field-0 c.in_ok-entry.ensures.position lines c.args.loaded b names c.in_ok-loaded-in-Directory.loaded is c.in_ok-loaded-in-Directory.ensures

pub returns-in_err-loaded-in-Object : goal.returns-in_err-loaded-in-Object
returns-in_err-loaded-in-Object c =
    let p = err_from_is_err_and c.from_residual-in_err-loaded-in-Object.result c.from_residual-in_err-loaded-in-Object.ensures.1 in
    let names = c.into_names-in-Object.result.items in
    let is = read-object c.in_ok-entry.field-0 c.in-Some.entry c.in-Object.path names c.in-Object.to_come c.in-Some.is c.in-Object.is c.into_names-in-Object.ensures in
    rw (p.1, p.2) (object-fault c.args.line.now c.in_ok-entry.field-0 c.in_ok-entry.ensures.position c.args.loaded names c.in-Object.to_come c.in_err-loaded-in-Object.field-0.0 is c.in_err-loaded-in-Object.ensures)

pub returns-then-count-loaded : goal.returns-then-count-loaded
returns-then-count-loaded c =
    λ lines b. leads-to-no-end c.args.line.now c.in_ok-entry.field-0 c.in_ok-entry.ensures.position lines c.args.loaded b c.in-End.count (c.in-Some.is ∙ ap Some c.in-End.is) c.if-count-loaded.true

pub returns-else-count-loaded : goal.returns-else-count-loaded
returns-else-count-loaded c =
    λ lines b. leads-to-end c.args.line.now c.in_ok-entry.field-0 c.in_ok-entry.ensures.position lines c.args.loaded b c.in-End.count (c.in-Some.is ∙ ap Some c.in-End.is) c.if-count-loaded.false

pub returns-in_ok-loaded-in-Object : goal.returns-in_ok-loaded-in-Object
returns-in_ok-loaded-in-Object c =
    let names = c.into_names-in-Object.result.items in
    let is = read-object c.in_ok-entry.field-0 c.in-Some.entry c.in-Object.path names c.in-Object.to_come c.in-Some.is c.in-Object.is c.into_names-in-Object.ensures in
    λ lines b. c.in_object.ensures (lines ++ c.args.line.now ∷ [])
    (leads-into-object c.args.line.now c.in_ok-entry.field-0 c.in_ok-entry.ensures.position lines c.args.loaded b names c.in-Object.to_come c.in_ok-loaded-in-Object.loaded _ refl is c.in_ok-loaded-in-Object.ensures)
