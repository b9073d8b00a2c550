use Rattle.go_names_core.proofs.DeclareLemmas.{taken_declared}
use Rattle.go_names_core.proofs.declaring.declare_local.Goals as goal

pub returns-in-Err-B1 : goal.returns-in-Err-B1
returns-in-Err-B1 g c = taken_declared c.args.scopes.now c.declare.new.self c.args.locals.now.items c.push.new.self.items c.as_str.result.now c.args.ident.now c.args.meaning c.in-Err-B1.field-0 c.in-Err-B1.field-0-is c.in-Err-B1.ensures.err.0 c.in_ok-push.ensures.items c.as_str.ensures c.in-Err-B1.ensures.err.1
