use Rattle.std.proofs.Common.{◌≡◌, ◌∙◌, sym, ap, subst, List, ℕ, map, take}
use Rattle.std.proofs.lemmas.List.{take_all}
use Rattle.go_tree_nodes.specs.declared.files.ImportLine.{ImportLine}
use Rattle.go_tree_nodes.specs.Terminals.{value_of}
use Rattle.go_tree_nodes.specs.Shapes.{shape_import_specs}
use Rattle.go_graph_core.specs.Imports.{IsTarget, texts_in}
use Rattle.go_graph_core.specs.mirrors.Targets.{Adds}
use Rattle.go_graph_core.proofs.Additions.{adds_more, group_texts}
use Rattle.go_graph_core.proofs.imports.add_targets.Goals as goal

pub loop-line-preserved : goal.loop-line-preserved
loop-line-preserved c =
    adds_more (IsTarget c.args.packages.now c.args.from.now) (λ (i : ImportLine). value_of i.spec.path) c.deref-line-items.result.now c.loop-line.line-index c.line-item.result c.in_ok-spec_target-in-Group.field-0 c.args.targets.now.items c.loop-line.targets.items c.push-in-loop-line.new.self.items c.loop-line-test.true c.line-item.is c.loop-line.invariant c.in_ok-push-in-Group.ensures.items c.in_ok-spec_target-in-Group.ensures.target

pub returns-after-loop-line : goal.returns-after-loop-line
returns-after-loop-line c =
    let all : take c.loop-line.line-index c.deref-line-items.result.now ≡ c.in-Group.lines.items = take_all c.loop-line.line-index c.deref-line-items.result.now c.loop-line-test.false ∙ c.deref-line-items.ensures.value in
    let texts : texts_in (shape_import_specs c.args.specs.now) ≡ map (λ (i : ImportLine). value_of i.spec.path) c.in-Group.lines.items = ap (λ s. texts_in (shape_import_specs s)) c.in-Group.is ∙ group_texts c.in-Group.lines.items in
    subst (λ (l : List (List ℕ)). Adds (IsTarget c.args.packages.now c.args.from.now) l c.args.targets.now.items c.loop-line.targets.items) (ap (map (λ (i : ImportLine). value_of i.spec.path)) all ∙ sym texts) c.loop-line.invariant
