use Rattle.std.proofs.Common.{rules, ◌∙◌, ap, Err}
use Rattle.go_graph_core.proofs.Contents.{refused_is_content}
use Rattle.go_graph_core.proofs.source.SourceFile.read.Goals as goal
use Rattle.go_graph_core.proofs.source.SourceFile.read.Goals.{in-Ok, in-Err-Fault}

pub returns-clause-content : goal.returns-clause-content
returns-clause-content c = elim c.match-tree_of.branch [
  | in-Ok w ↦ search rules
  | in-Err-Fault w ↦
      refused_is_content c.as_str.result.now _ c.tree_of.result w.in-Err-Fault.fault _ (w.in-Err-Fault.is ∙ ap Err w.in-Err-Fault.field-0-is) c.tree_of.ensures.answer c.tree_of.ensures.read (search rules) (search rules)
]
