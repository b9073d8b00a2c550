use Rattle.std.proofs.lemmas.Result.{IfOk-weaker}
use Rattle.go_type_doc_core.proofs.Zipped.{of_method, of_none}
use Rattle.go_type_doc_core.proofs.telling.member_doc.Goals as goal

pub returns-in-Some-clause-doc : goal.returns-in-Some-clause-doc
returns-in-Some-clause-doc c = IfOk-weaker c.method_doc.result _ _ (λ doc h. of_method c.args.snapshot.now c.args.method c.in-Some.place c.in-Some.is doc.now h) c.method_doc.ensures.doc

pub returns-in-None-clause-doc : goal.returns-in-None-clause-doc
returns-in-None-clause-doc c = of_none c.args.snapshot.now c.args.method c.in-None.is
