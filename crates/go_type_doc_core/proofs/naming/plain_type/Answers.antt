use Rattle.std.proofs.Common.{sym, inr}
use Rattle.std.specs.Prelude.{option_map}
use Rattle.std.proofs.lemmas.Result.{IfErr-weaker, IfOk-weaker}
use Rattle.go_names_core.specs.scope_core.Scopes.{denoted_of}
use Rattle.go_term_core.specs.Shapes.{shape}
use Rattle.go_type_doc_core.proofs.Answered.{refused_in, typed_in, undeclared}
use Rattle.go_type_doc_core.proofs.naming.plain_type.Goals as goal

pub returns-in-Some-clause-ok : goal.returns-in-Some-clause-ok
returns-in-Some-clause-ok c =
    let e = c.in-Some.ensures in
    IfOk-weaker c.found_type.result _ _ (λ t h. typed_in c.args.part.now e.made e.trees c.args.name.now c.requires.plain (denoted_of c.in-Some.found) (sym e.value) (option_map shape t) h) c.found_type.ensures.ok

pub returns-in-Some-clause-err : goal.returns-in-Some-clause-err
returns-in-Some-clause-err c =
    let e = c.in-Some.ensures in
    IfErr-weaker c.found_type.result _ _ (λ rule h. refused_in c.args.part.now e.made e.trees c.args.name.now c.requires.plain (denoted_of c.in-Some.found) (sym e.value) rule h) c.found_type.ensures.err

pub returns-in-None-clause-err : goal.returns-in-None-clause-err
returns-in-None-clause-err c = (let e = c.in-None.ensures in inr (undeclared c.args.part.now e.made e.trees c.args.name.now c.requires.plain (sym e.value)))
