use Rattle.go_handle_core.specs.Declarations.{site_shown}
use Rattle.go_reference_core.proofs.Found.{is_used, not_used}
use Rattle.go_reference_core.proofs.finding.add_use.Goals as goal

pub returns-then-not-has_declaration : goal.returns-then-not-has_declaration
returns-then-not-has_declaration c = not_used (site_shown c.args.site) c.args.«package» c.args.file c.args.number c.args.answer.now c.args.references.now.items c.has_declaration.result c.if-not-has_declaration.true c.has_declaration.ensures

pub returns : goal.returns
returns c =
    is_used (site_shown c.args.site) c.args.«package» c.args.file c.args.number c.args.answer.now c.args.references.now.items c.has_declaration.result c.push.new.self.items c.if-not-has_declaration.false c.has_declaration.ensures c.in_ok-push.ensures.items
