-- What a package is to those that import it.
use Rattle.std.proofs.Common.{◌≡◌, ℕ, ◌<◌, List, [], ◌∷◌, length, get_or, All, refl, sym, ◌∙◌, ap, subst, arith}
use Rattle.std.proofs.lemmas.List.Elements.{All-head}
use Rattle.go_graph_core.specs.Sources.{SourceModel, clause_in}
use Rattle.go_graph_core.specs.Packages.{Trees, trees_of, HasNoClause, IsAssembled, IsNameOf, IsPackageName}
use Rattle.std.proofs.lemmas.Option.{get_or_from_slice_get, slice_get_within}
use Rattle.go_graph_core.specs.declared.imports.Standing.{Standing}
use Rattle.go_graph_core.specs.Workspaces.{PackageModel}
use Rattle.go_graph_core.specs.Imports.{IsNumbered}
use Rattle.go_graph_core.specs.mirrors.Targets.{IsStanding, HaveStandings}
use Rattle.go_graph_core.proofs.Assemblies.{tree_of, one_more}
use Rattle.go_graph_core.proofs.Zips.{zip_at, zip_length}

-- the name of the trees is that of the first file
pub name_of_trees : (files : List SourceModel) (trees : Trees) (name : List ℕ) → 0 < length files → trees ≡ trees_of files → IsAssembled files → IsPackageName trees name → IsNameOf name files
name_of_trees [] trees name some view well named = absurd (omega arith)
name_of_trees (s ∷ ss) trees name some view well named =
    let tree = tree_of s (All-head (λ x. HasNoClause x → ⊥) s ss well.trees) in
    let all : All (λ t. t.1.name.name ≡ name) ((s.name, tree.0) ∷ trees_of ss) = subst (λ (l : Trees). All (λ t. t.1.name.name ≡ name) l) (one_more s ss tree.0 tree.1) (subst (λ (l : Trees). All (λ t. t.1.name.name ≡ name) l) view named.same) in
    let same : tree.0.name.name ≡ name = All-head (λ t. t.1.name.name ≡ name) (s.name, tree.0) (trees_of ss) all in
    (s, tree.0.name, refl, ap clause_in tree.1, sym same)

-- the standing at a package's number is that of the package
pub standing_at : (ps : List PackageModel) (standings : List Standing) (path : List ℕ) (i : ℕ) (files : List SourceModel) (d s : Standing) → HaveStandings ps standings → IsNumbered ps path i files → get_or standings i d ≡ s → IsStanding (path, files) s
standing_at ps standings path i files d s have numbered is =
    let found = zip_at IsStanding ps standings i (path, files) have numbered in
    let same : found.0 ≡ s = sym (get_or_from_slice_get standings i found.0 d found.1) ∙ is in
    subst (IsStanding (path, files)) same found.2

-- there is a standing at a package's number
pub has_standing : (ps : List PackageModel) (standings : List Standing) (path : List ℕ) (i : ℕ) (files : List SourceModel) → HaveStandings ps standings → IsNumbered ps path i files → i < length standings
has_standing ps standings path i files have numbered =
    let n : length ps ≡ length standings = zip_length IsStanding ps standings have in
    let lt : i < length ps = slice_get_within ps i (path, files) numbered in
    omega (arith, n, lt)
