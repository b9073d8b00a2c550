-- How imports are spelled, declaration by declaration, and the texts that follow from it.
use Rattle.std.proofs.Common.{◌≡◌, ℕ, Bool, true, List, [], ◌∷◌, ◌++◌, map, Option, Some, None, Result, Ok, Err, refl, sym, ap, ◌∙◌}
use Rattle.std.specs.Prelude.{◌↔◌, IsTrue}
use Rattle.std.specs.List.{flat_map}
use Rattle.std.specs.Str.{chars}
use Rattle.go_tree_nodes.specs.declared.files.ImportDecl.{ImportDecl}
use Rattle.go_tree_nodes.specs.declared.files.ImportLine.{ImportLine}
use Rattle.go_tree_nodes.specs.Shapes.{import_of, shape_import_line}
use Rattle.go_tree_nodes.specs.Terminals.{value_of}
use Rattle.go_tree_nodes.specs.Trees.{FileTree, ImportSpecTree, ImportTree, Specs, Single, Group}
use Rattle.go_tree_nodes.specs.token_core.Values.{string_value_of}
use Rattle.go_path_core.specs.text_core.declared.span.Span.{Span}
use Rattle.go_graph_core.specs.parse_core.declared.error.SynFault.{SynFault}
use Rattle.go_graph_core.specs.Imports.{content_texts, texts_in, texts_of}
use Rattle.go_graph_core.specs.Sources.{SourceModel, clause_in}
use Rattle.go_graph_core.specs.Workspaces.{PackageModel}
use Rattle.go_import_core.specs.head.Heads.{AreSpelledAlike, HaveSameHeads, head_of, head_of_file, name_in, spelled_head_of, spelled_head_of_file, spelled_in, spelled_of}

-- what trees show of declarations

pub lines_spelled : (ls : List ImportLine) → map (λ i. i.0.path.spelled) (map shape_import_line ls) ≡ map (λ l. l.spec.path.spelled) ls
lines_spelled [] = refl
lines_spelled (l ∷ ls) = ap (λ t. l.spec.path.spelled ∷ t) (lines_spelled ls)

pub decls_spelled : (is : List ImportDecl) → map (λ i. spelled_in i.specs) (map import_of is) ≡ map (λ i. spelled_in (import_of i).specs) is
decls_spelled [] = refl
decls_spelled (i ∷ is) = ap (λ t. spelled_in (import_of i).specs ∷ t) (decls_spelled is)

-- a test of what stands in a group, or in a tree

pub group_told : (b : Bool) (xs ys : List (List ℕ)) (s t : Bool × List (List ℕ)) → s ≡ (true, xs) → t ≡ (true, ys) → IsTrue b ↔ (xs ≡ ys) → IsTrue b ↔ (s ≡ t)
group_told b xs ys s t one other says = ((λ yes. one ∙ ap (λ (l : List (List ℕ)). (true, l)) (says.0 yes) ∙ sym other), (λ e. says.1 (ap (λ (p : Bool × List (List ℕ)). p.1) (sym one ∙ e ∙ other))))

pub list_told : {A : Type 0} (b : Bool) (xs ys ss ts : List A) → ss ≡ xs → ts ≡ ys → IsTrue b ↔ (xs ≡ ys) → IsTrue b ↔ (ss ≡ ts)
list_told b xs ys ss ts one other says = ((λ yes. one ∙ says.0 yes ∙ sym other), (λ e. says.1 (sym one ∙ e ∙ other)))

-- texts follow from how they are spelled

abbrev text_of : List ℕ → List ℕ
text_of spelled = string_value_of (chars spelled)

lines_read : (is : List (ImportSpecTree × Option Span)) → map (λ i. value_of i.0.path) is ≡ map text_of (map (λ i. i.0.path.spelled) is)
lines_read [] = refl
lines_read (i ∷ is) = ap (λ t. value_of i.0.path ∷ t) (lines_read is)

specs_read : (s : Specs ImportSpecTree) → texts_in s ≡ map text_of (spelled_in s).1
specs_read (Single i) = refl
specs_read (Group first is last) = lines_read is

abbrev texts_by : List (Bool × List (List ℕ)) → List (List ℕ)
texts_by ds = flat_map (λ d. map text_of d.1) ds

imports_read : (is : List ImportTree) → texts_of is ≡ texts_by (map (λ (i : ImportTree). spelled_in i.specs) is)
imports_read [] = refl
imports_read (i ∷ is) =
    ap (λ t. t ++ texts_of is) (specs_read i.specs)
    ∙ ap (λ l. map text_of (spelled_in i.specs).1 ++ l) (imports_read is)

abbrev texts_told : Option (List (Bool × List (List ℕ))) → List (List ℕ)
texts_told None = []
texts_told (Some ds) = texts_by ds

content_read : (c : Result FileTree SynFault) → content_texts c ≡ texts_told (spelled_of c)
content_read (Ok f) = imports_read f.imports
content_read (Err fault) = refl

abbrev head_told : Option (List ℕ) × Option (List (Bool × List (List ℕ))) → Option (List ℕ) × List (List ℕ)
head_told h = (h.0, texts_told h.1)

files_read : (fs : List SourceModel) → map head_of_file fs ≡ map head_told (map spelled_head_of_file fs)
files_read [] = refl
files_read (f ∷ fs) =
    ap (λ t. (name_in (clause_in f.content), t) ∷ map head_of_file fs) (content_read f.content)
    ∙ ap (λ l. head_told (spelled_head_of_file f) ∷ l) (files_read fs)

abbrev package_told : List ℕ × List (Option (List ℕ) × Option (List (Bool × List (List ℕ)))) → List ℕ × List (Option (List ℕ) × List (List ℕ))
package_told h = (h.0, map head_told h.1)

packages_read : (ps : List PackageModel) → map head_of ps ≡ map package_told (map spelled_head_of ps)
packages_read [] = refl
packages_read (p ∷ ps) =
    ap (λ hs. (p.0, hs) ∷ map head_of ps) (files_read p.1)
    ∙ ap (λ l. package_told (spelled_head_of p) ∷ l) (packages_read ps)

pub heads_alike : (ps qs : List PackageModel) → AreSpelledAlike ps qs → HaveSameHeads ps qs
heads_alike ps qs alike = packages_read ps ∙ ap (map package_told) alike ∙ sym (packages_read qs)
