use Rattle.std.proofs.Common.{sym, subst}
use Rattle.go_handle_core.specs.Declarations.{site_shown}
use Rattle.go_reference_core.specs.References.{AreFileReferences}
use Rattle.go_reference_core.specs.mirrors.Adding.{Adds, IsOfUses}
use Rattle.go_reference_core.proofs.Found.{of_no_file, of_one_file}
use Rattle.go_reference_core.proofs.finding.file_references.Goals as goal

pub returns-in_ok-add_uses-in-Some : goal.returns-in_ok-add_uses-in-Some
returns-in_ok-add_uses-in-Some c =
    let s = c.args.snapshot.now in
    let d = site_shown c.args.site in
    let found = c.in-Some.ensures in
    let uses = subst (λ us. Adds (IsOfUses d c.args.«package» c.args.file us) c.new-references.result.items c.add_uses.new.references.items) found.2 c.in_ok-add_uses-in-Some.ensures in
    of_one_file s d c.args.«package» c.args.file found.0 c.add_uses.new.references.items found.1 (subst (λ old. Adds (IsOfUses d c.args.«package» c.args.file found.0.answers.uses) old c.add_uses.new.references.items) c.new-references.ensures.items uses)

pub returns-in-None : goal.returns-in-None
returns-in-None c =
    subst (AreFileReferences c.args.snapshot.now c.args.«package» c.args.file (site_shown c.args.site)) (sym c.new-references.ensures.items) (of_no_file c.args.snapshot.now (site_shown c.args.site) c.args.«package» c.args.file c.in-None.ensures)
