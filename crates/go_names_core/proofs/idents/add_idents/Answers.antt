use Rattle.std.proofs.Common.{◌≡◌, ◌∷◌, ◌++◌, Bor, List, [], map, refl, ap, ◌∙◌}
use Rattle.std.proofs.lemmas.List.{take_all}
use Rattle.go_tree_nodes.specs.declared.names.Ident.{Ident}
use Rattle.go_tree_nodes.specs.declared.names.NextIdent.{NextIdent}
use Rattle.go_tree_nodes.specs.TypeShapes.{idents_from}
use Rattle.go_local_core.specs.Outline.{idents}
use Rattle.go_names_core.proofs.idents.add_idents.Goals as goal

listed : (x : Ident) (ns : List NextIdent) → x ∷ map (λ n. n.ident) ns ≡ idents (idents_from x ns)
listed x [] = refl
listed x (n ∷ ns) = ap (λ l. x ∷ l) (listed n.ident ns)

pub returns : goal.returns
returns c =
    let first = c.args.names.now.first in
    c.loop-next.invariant
    ∙ ap (λ l. map (λ (i : Bor Ident). i.now) c.args.list.now.items ++ l) (ap (λ ns. first ∷ map (λ (n : NextIdent). n.ident) ns) (take_all c.loop-next.next-index c.deref-next-items.result.now c.loop-next-test.false ∙ c.deref-next-items.ensures.value) ∙ listed first c.args.names.now.more.items)
