use Rattle.std.proofs.Common.{ap, ◌∙◌}
use Rattle.std.specs.List.{list_any}
use Rattle.go_query_core.specs.Defining.{is_over}
use Rattle.go_query_core.proofs.Using.{identifier_is, no_identifier}
use Rattle.go_query_core.proofs.defining.is_identifier_at.Goals as goal

pub returns-in-Ok : goal.returns-in-Ok
returns-in-Ok c = identifier_is c.args.text.now c.args.offset c.in-Ok.tokens.items c.any_over.result c.in-Ok.ensures.value (c.any_over.ensures ∙ ap (list_any (is_over c.args.offset)) c.deref.ensures.value)

pub returns-in-Err-Fault : goal.returns-in-Err-Fault
returns-in-Err-Fault c =
    let scanned = rw c.in-Err-Fault.field-0-is at c.in-Err-Fault.ensures in
    no_identifier c.args.text.now c.args.offset _ scanned.value
