use Rattle.std.proofs.Common.{◌∙◌}
use Rattle.go_handle_core.specs.Declarations.{site_shown}
use Rattle.go_reference_core.proofs.Sameness.{compared, no_identifier, refused}
use Rattle.go_reference_core.proofs.sites.has_declaration.Goals as goal

pub returns-then-not-is_identifier : goal.returns-then-not-is_identifier
returns-then-not-is_identifier c = no_identifier c.args.answer.now (site_shown c.args.site) c.is_identifier.result c.is_identifier.ensures c.if-not-is_identifier.true

pub returns-in-Some : goal.returns-in-Some
returns-in-Some c = compared c.args.answer.now (site_shown c.args.site) c.is_identifier.result c.is_same_declaration.result c.in-Some.own.now (site_shown c.site.result) c.is_identifier.ensures c.if-not-is_identifier.false c.in-Some.ensures (c.site.ensures ∙ c.decl.ensures) c.is_same_declaration.ensures

pub returns-in-None : goal.returns-in-None
returns-in-None c = refused c.args.answer.now (site_shown c.args.site) c.in-None.ensures
