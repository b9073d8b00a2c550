use Rattle.std.proofs.Common.{ℕ, Bool, List, map, sym, ap, ◌∙◌}
use Rattle.go_tree_nodes.specs.declared.files.ImportDecl.{ImportDecl}
use Rattle.go_tree_nodes.specs.Shapes.{file_of, import_of}
use Rattle.go_import_core.specs.head.Heads.{spelled_imports, spelled_in}
use Rattle.go_import_core.proofs.HeadTexts.{decls_spelled, list_told}
use Rattle.go_import_core.proofs.head.heads.same_of_trees.Goals as goal

pub returns : goal.returns
returns c =
    let xs : List (Bool × List (List ℕ)) = map (λ (i : ImportDecl). spelled_in (import_of i).specs) c.as_slice.result.now in
    let ys : List (Bool × List (List ℕ)) = map (λ (i : ImportDecl). spelled_in (import_of i).specs) c.as_slice-2.result.now in
    list_told c.same_imports.result xs ys (spelled_imports (file_of c.args.one.now)) (spelled_imports (file_of c.args.other.now))
    (decls_spelled c.args.one.now.imports.items ∙ ap (map (λ (i : ImportDecl). spelled_in (import_of i).specs)) (sym c.as_slice.ensures.value))
    (decls_spelled c.args.other.now.imports.items ∙ ap (map (λ (i : ImportDecl). spelled_in (import_of i).specs)) (sym c.as_slice-2.ensures.value))
    c.same_imports.ensures
