use Rattle.std.proofs.Common.{map, sym, ◌∙◌}
use Rattle.go_term_core.specs.Shapes.{shape}
use Rattle.go_term_core.proofs.SameLists.{counted}
use Rattle.go_term_core.proofs.params.count.Goals as goal

pub returns : goal.returns
returns c = (let a = c.args.params.now in c.len.ensures ∙ a.lines.ok.0 ∙ sym (counted (map shape a.terms.items) a.lines.items))
