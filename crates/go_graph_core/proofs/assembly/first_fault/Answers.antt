use Rattle.std.proofs.Common.{refl, sym, ◌≡◌, ◌∙◌, ap, Err, []}
use Rattle.go_collections_core.specs.text_core.declared.rule.Rule.TheVariants.{K4}
use Rattle.go_graph_core.specs.Sources.{source}
use Rattle.go_graph_core.specs.mirrors.Clauses.{place_in}
use Rattle.go_graph_core.specs.mirrors.Flaws.{has_flaw, is_flawed}
use Rattle.go_graph_core.proofs.Faults.{none_more, first_here, first_nowhere}
use Rattle.go_graph_core.proofs.assembly.first_fault.Goals as goal

pub loop-file-preserved : goal.loop-file-preserved
loop-file-preserved c =
    let is : c.has_flaw.result ≡ is_flawed c.args.flaw c.index-files-file.result = c.has_flaw.ensures ∙ ap (has_flaw c.args.flaw) c.clause-clause.ensures in
    none_more c.args.flaw c.args.files.now c.loop-file.file c.index-files-file.result c.loop-file-test.true c.index-files-file.is c.loop-file.invariant (sym is ∙ c.if-has_flaw.false)

pub returns-in-Some : goal.returns-in-Some
returns-in-Some c =
    let is : c.has_flaw.result ≡ is_flawed c.args.flaw c.index-files-file.result = c.has_flaw.ensures ∙ ap (has_flaw c.args.flaw) c.clause-clause.ensures in
    (refl, first_here c.args.flaw c.args.files.now c.loop-file.file c.index-files-file.result c.loop-file-test.true c.index-files-file.is c.loop-file.invariant (sym is ∙ c.if-has_flaw.true), (c.index-files-file.result, c.index-files-file.is, ap place_in c.in-Some.ensures))

pub returns-in-None : goal.returns-in-None
returns-in-None c =
    let is : c.has_flaw.result ≡ is_flawed c.args.flaw c.index-files-file.result = c.has_flaw.ensures ∙ ap (has_flaw c.args.flaw) c.clause-clause.ensures in
    (refl, first_here c.args.flaw c.args.files.now c.loop-file.file c.index-files-file.result c.loop-file-test.true c.index-files-file.is c.loop-file.invariant (sym is ∙ c.if-has_flaw.true), (c.index-files-file.result, c.index-files-file.is, ap place_in c.in-None.ensures))

pub returns : goal.returns
returns c = first_nowhere c.args.flaw c.args.files.now c.loop-file.file (source [] [] (Err (record { rule = K4; offset = 0 }))) c.loop-file-test.false c.loop-file.invariant
