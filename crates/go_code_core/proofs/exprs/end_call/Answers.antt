use Rattle.std.proofs.Common.{◌++◌, ◌∙◌, ap, sym}
use Rattle.std.proofs.lemmas.Result.{on_ok_weaker}
use Rattle.go_code_core.specs.Code.{call_end}
use Rattle.go_code_core.specs.fragments.Names.{frame_of}
use Rattle.go_tree_nodes.specs.Shapes.{items_of}
use Rattle.go_code_core.proofs.Loops.{called_function, called_method}
use Rattle.go_code_core.proofs.exprs.end_call.Goals as goal

pub returns-in-Function : goal.returns-in-Function
returns-in-Function g c =
    let f = (frame_of (g.N.CodeNames.looks c.args.frame.now.names.now) c.args.frame.now.slots.now) in
    on_ok_weaker c.put.result (λ e. e ∙ ap (λ l. l ++ c.args.code.now)
    (called_function f c.in-Function.field-0 c.args.reference c.args.items.now.items c.len.result (c.len.ensures ∙ c.args.items.now.ok.0)
    ∙ ap (λ m. call_end f m c.args.reference (items_of c.args.items.now.items)) (sym c.in-Function.is))) c.put.ensures.written

pub returns-in-Method : goal.returns-in-Method
returns-in-Method g c =
    let f = (frame_of (g.N.CodeNames.looks c.args.frame.now.names.now) c.args.frame.now.slots.now) in
    on_ok_weaker c.put-in-Method.result (λ e. e ∙ ap (λ l. l ++ c.args.code.now)
    (called_method f c.in-Method.field-0 c.args.reference c.args.items.now.items c.len-in-Method.result (c.len-in-Method.ensures ∙ c.args.items.now.ok.0)
    ∙ ap (λ m. call_end f m c.args.reference (items_of c.args.items.now.items)) (sym c.in-Method.is))) c.put-in-Method.ensures.written
