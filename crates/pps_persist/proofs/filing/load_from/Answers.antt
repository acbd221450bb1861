use Rattle.pps_persist.proofs.FromFiles.{loads-file, fault-of-file}
use Rattle.pps_persist.proofs.filing.load_from.Goals as goal

pub returns-in-Ok-clause-loads : goal.returns-in-Ok-clause-loads
returns-in-Ok-clause-loads g c =
    let remaining = g.F.Image.Read.remaining in
    let held = g.F.ImageFiles.held c.args.files.now c.args.file.now in
    loads-file held (remaining c.in-Ok.image) (remaining c.load_input.new.input.file) c.load_input.result c.in-Ok.ensures.opens c.load_input.ensures.loads

pub returns-in-Ok-clause-fault : goal.returns-in-Ok-clause-fault
returns-in-Ok-clause-fault g c =
    let remaining = g.F.Image.Read.remaining in
    let held = g.F.ImageFiles.held c.args.files.now c.args.file.now in
    fault-of-file held (remaining c.in-Ok.image) (remaining c.load_input.new.input.file)
    (g.F.Image.OpenedFile.may_fail c.in-Ok.image) (g.F.ImageFiles.may_fail c.args.files.now c.args.file.now)
    c.load_input.result c.in-Ok.ensures.opens c.in-Ok.ensures.reads c.load_input.ensures.many
