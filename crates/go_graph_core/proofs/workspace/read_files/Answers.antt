use Rattle.std.proofs.Common.{◌≡◌, ◌∙◌, ◌∷◌, [], ◌++◌, All, sym, ap, subst, append_assoc, rules}
use Rattle.std.proofs.lemmas.List.Elements.{All-push}
use Rattle.std.specs.Vec.Iter.{into_iter_items}
use Rattle.go_graph_core.specs.Sources.{IsRead}
use Rattle.go_graph_core.specs.Workspaces.{given_files}
use Rattle.go_graph_core.proofs.Reading.{drained, read_more}
use Rattle.go_graph_core.proofs.workspace.read_files.Goals as goal

pub loop-name-preserved : goal.loop-name-preserved
loop-name-preserved c =
    let at = c.loop-name in
    let items : c.add.new.all.items ≡ at.sources.items ++ c.in_ok-read.field-0 ∷ [] = c.in_ok-add.ensures in (
      read_more at.sources.items c.add.new.all.items at.yielded c.in_ok-read.field-0 (c.in-Some.name, c.in-Some.text) items at.invariant.0 c.in_ok-read.ensures.name c.in_ok-read.ensures.text,
      subst (All IsRead) (sym items) (All-push IsRead at.sources.items c.in_ok-read.field-0 at.invariant.1 c.in_ok-read.ensures.content),
      append_assoc at.yielded ((c.in-Some.name, c.in-Some.text) ∷ []) _ ∙ (ap (λ l. at.yielded ++ l) (sym c.in-Some.ensures.steps.0) ∙ at.invariant.2),
    )

pub returns-clause-texts : goal.returns-clause-texts
returns-clause-texts c =
    c.loop-name.invariant.0 ∙ ap given_files (drained c.loop-name.yielded (into_iter_items c.loop-name.name-iterator) c.args.files.items (search rules) c.loop-name.invariant.2)

pub returns-clause-read : goal.returns-clause-read
returns-clause-read c = c.loop-name.invariant.1
