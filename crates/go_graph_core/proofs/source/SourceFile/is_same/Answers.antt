use Rattle.std.proofs.Common.{◌≡◌, ◌∙◌, sym}
use Rattle.go_graph_core.proofs.Contents.{no_other, source_test}
use Rattle.go_graph_core.proofs.source.SourceFile.is_same.Goals as goal

pub returns : goal.returns
returns c =
    let name : c.args.self.now.name ≡ c.args.other.now.name = sym c.name.ensures ∙ (no_other c.name.result.now c.name-2.result.now c.if-ne.ensures ∙ c.name-2.ensures) in
    let text : c.args.self.now.text ≡ c.args.other.now.text = sym c.text.ensures ∙ (no_other c.text.result.now c.text-2.result.now c.if-ne-2.ensures ∙ c.text-2.ensures) in
    source_test c.args.self.now c.args.other.now c.have_same_fault.result _ _ c.requires.own c.requires.other name text c.tree.ensures.value c.tree-2.ensures.value c.have_same_fault.ensures
