-- What a package is to those that import it.
use Rattle.std.proofs.Common.{◌≡◌, ℕ, ◌<◌, inl, inr, Bool, false, List, length, get_or, Some, refl, sym, ◌∙◌, ap, subst}
use Rattle.std.specs.Prelude.{◌↔◌, IsTrue}
use Rattle.std.proofs.lemmas.Bool.{true≢false}
use Rattle.std.proofs.lemmas.Option.{slice_get-get_or}
use Rattle.go_path_core.specs.text_core.declared.rule.Rule.TheVariants.{I5, I6}
use Rattle.go_path_core.specs.Path.{MayImport, elements}
use Rattle.go_graph_core.specs.declared.imports.ImportOutcome.TheVariants.{Package, Refused}
use Rattle.go_graph_core.specs.Imports.{AreFaulty, AreLibrary, AreMain, main}
use Rattle.go_graph_core.specs.Packages.{IsAssembled, IsNameOf, IsPackageName, Trees, trees_of}
use Rattle.go_graph_core.specs.Sources.{SourceModel}
use Rattle.go_graph_core.specs.Workspaces.{PackageModel}
use Rattle.go_graph_core.proofs.OneTarget.{not_faulty}
use Rattle.go_graph_core.proofs.Assemblies.{one_name}
use Rattle.go_graph_core.proofs.Standings.{name_of_trees}
use Rattle.go_import_core.specs.declared.list.standing.Standing.{Standing}
use Rattle.go_import_core.specs.declared.list.standing.Standing.TheVariants.{Faulty, Library, Main}
use Rattle.go_import_core.specs.list.mirrors.Standings.{ComesTo, IsStanding, MayUse, is_library, outcome_by}

-- what an import of a package comes to, by its standing
pub comes_to_library : (ps : List PackageModel) (number : ℕ) (p : PackageModel) → number < length ps → p ≡ get_or ps number p → AreLibrary p.1 → ComesTo ps number (Package number)
comes_to_library ps number p lt is library = (refl, (p, slice_get-get_or ps number p lt ∙ ap Some (sym is), library))

pub comes_to_main : (ps : List PackageModel) (number : ℕ) (p : PackageModel) → number < length ps → p ≡ get_or ps number p → AreMain p.1 → ComesTo ps number (Refused I5)
comes_to_main ps number p lt is program = (p, slice_get-get_or ps number p lt ∙ ap Some (sym is), inr (refl, program))

pub comes_to_none : (ps : List PackageModel) (number : ℕ) (p : PackageModel) → number < length ps → p ≡ get_or ps number p → AreFaulty p.1 → ComesTo ps number (Refused I6)
comes_to_none ps number p lt is faulty = (p, slice_get-get_or ps number p lt ∙ ap Some (sym is), inl (refl, faulty))

-- a package that is none to use is no library

pub main_is_none : (files : List SourceModel) → AreMain files → AreLibrary files → ⊥
main_is_none files program library = library.1.2 (one_name files library.1.0 _ library.1.1 program.1)

pub faulty_is_none : (files : List SourceModel) → AreFaulty files → AreLibrary files → ⊥
faulty_is_none files faulty library = not_faulty files library.0 faulty

-- by the standing

pub comes_to : (ps : List PackageModel) (number : ℕ) (p : PackageModel) (s : Standing) → number < length ps → p ≡ get_or ps number p → IsStanding p s → ComesTo ps number (outcome_by s number)
comes_to ps number p Library lt is h = comes_to_library ps number p lt is h
comes_to ps number p Main lt is h = comes_to_main ps number p lt is h
comes_to ps number p Faulty lt is h = comes_to_none ps number p lt is h

pub usable : (q : List ℕ) (p : PackageModel) (s : Standing) (b : Bool) → MayImport (elements q) (elements p.0) → IsStanding p s → b ≡ is_library s → IsTrue b ↔ MayUse q p
usable q p Library b may h is = (λ on. (may, h), λ may_use. is)
usable q p Main b may h is = (λ on. absurd (true≢false (sym on ∙ is)), λ may_use. absurd (main_is_none p.1 h may_use.1))
usable q p Faulty b may h is = (λ on. absurd (true≢false (sym on ∙ is)), λ may_use. absurd (faulty_is_none p.1 h may_use.1))

pub hidden_is_none : (q : List ℕ) (p : PackageModel) → ¬ MayImport (elements q) (elements p.0) → IsTrue false ↔ MayUse q p
hidden_is_none q p not = (λ on. absurd (true≢false (sym on)), λ may_use. absurd (not may_use.0))

-- the name of an assembled package

pub named : (p : PackageModel) (trees : Trees) (name : List ℕ) → 0 < length p.1 → trees ≡ trees_of p.1 → IsAssembled p.1 → IsPackageName trees name → IsNameOf name p.1
named p trees name some are assembled is = name_of_trees p.1 trees name some are assembled is

pub is_main : (p : PackageModel) (name : List ℕ) → IsAssembled p.1 → IsNameOf name p.1 → name ≡ main → AreMain p.1
is_main p name assembled named is = (assembled, subst (λ (n : List ℕ). IsNameOf n p.1) is named)

pub is_library_named : (p : PackageModel) (name : List ℕ) → IsAssembled p.1 → IsNameOf name p.1 → ¬ (name ≡ main) → AreLibrary p.1
is_library_named p name assembled named not = (assembled, (name, named, not))
