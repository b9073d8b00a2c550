-- Where the sources of objects stand: each is a function that a file of a part declares of which nothing is reported.
use Rattle.std.proofs.Common.{◌≡◌, inl, inr, ℕ, ◌+◌, Bool, true, false, List, [], ◌∷◌, Option, Some, refl, sym, subst, arith, if◌then◌else◌}
use Rattle.std.specs.Prelude.{slice_get}
use Rattle.std.specs.List.{flat_map}
use Rattle.go_tree_nodes.specs.Trees.{FileTree, FuncTree, TopTree}
use Rattle.go_term_core.specs.decl_core.TopDecls.{top_decls}
use Rattle.go_machine_core.specs.link.Functions.{PlaceModel, all_functions, number_of}
use Rattle.go_meaning_laws.specs.source_meaning.Meaning.{SourceOf}
use Rattle.go_meaning_laws.specs.handle_core.Declarations.{Declaration}
use Rattle.go_body_core.specs.file.Stands.{decl_funcs}
use Rattle.go_emit_core.specs.package_core.PreparePackages.{trees_in}
use Rattle.go_report_core.specs.summary_core.Summaries.{SummaryModel}
use Rattle.go_emit_core.specs.package_core.PackagePartParts.{FileOf, PartModel}
use Rattle.go_emit_core.specs.Emitted.{are_clean, code_scene_over, objects_of, told_by}
use Rattle.go_emit_core.specs.meaning.Looking.{looks_of}
use Rattle.go_workspace_laws.proofs.ConstantLists.{HasItem, from_flat, has_get, has_left, has_right}
use Rattle.go_workspace_laws.proofs.Declaring.{Declares, declared_in}
use Rattle.go_meaning_laws.specs.object_sources.Sources.{file_sources, package_sources, part_sources, source_in, sources_of}
use Rattle.go_program_laws.proofs.CheckedSourcesSources.{IsAt, at_file, of_decls}

-- a source of a part, where a declaration is the function of a number and packages tell this
pub record IsSourceOf (number : Declaration → Option ℕ) (all : List SummaryModel) (p : PartModel) (s : SourceOf) : Type 0 where
  pub clean : are_clean p.content.files ≡ true
  pub place : ℕ
  pub tree : FileTree
  pub file : FileOf
  pub in_package : slice_get (trees_in p.input.source) place ≡ Some tree
  pub made : slice_get p.content.files place ≡ Some file
  pub func : FuncTree
  pub declared : Declares tree.decls func
  pub is : s ≡ source_in number file.answers.uses (looks_of (code_scene_over all p.input p.content) place file.answers.uses file.answers.locals) func

pub func_there : (ds : List TopTree) (g : FuncTree) → Declares ds g → HasItem (flat_map (λ (d : TopTree). decl_funcs d.decl) ds) g
func_there [] g h = absurd h
func_there (t ∷ ts) g (inl e) = has_left (decl_funcs t.decl) (flat_map (λ (d : TopTree). decl_funcs d.decl) ts) g (subst (λ d. HasItem (decl_funcs d) g) (sym e) (inl refl))
func_there (t ∷ ts) g (inr h) = has_right (decl_funcs t.decl) (flat_map (λ (d : TopTree). decl_funcs d.decl) ts) g (func_there ts g h)

module _ (number : Declaration → Option ℕ) (all : List SummaryModel) (p : PartModel) (s : SourceOf) where
  file_source : are_clean p.content.files ≡ true → IsAt number (code_scene_over all p.input p.content) 0 (trees_in p.input.source) p.content.files s → IsSourceOf number all p s
  file_source clean at =
      let sc = code_scene_over all p.input p.content in
      let sum : 0 + at.place ≡ at.place = omega arith in
      let here = subst (λ n. HasItem (file_sources number sc n (top_decls at.tree) at.file) s) sum at.here in
      let r = of_decls number at.file.answers.uses (looks_of sc at.place at.file.answers.uses at.file.answers.locals) s (top_decls at.tree) here in
      record {
        clean = clean;
        place = at.place;
        tree = at.tree;
        file = at.file;
        in_package = at.in_package;
        made = at.made;
        func = r.func;
        declared = (declared_in at.tree r.decl r.func r.among r.form).0;
        is = r.is;
      }

  part_source : HasItem (part_sources number all p) s → IsSourceOf number all p s
  part_source h = go (are_clean p.content.files) refl h
    where
      go : (t : Bool) → are_clean p.content.files ≡ t → HasItem (if t then package_sources number (code_scene_over all p.input p.content) 0 (trees_in p.input.source) p.content.files else []) s → IsSourceOf number all p s
      go true is h = file_source is (at_file number (code_scene_over all p.input p.content) 0 (trees_in p.input.source) p.content.files s h)
      go false is h = absurd h

-- a source of the objects of parts is one of such a part
pub record IsSourceAmong (place : Declaration → Option PlaceModel) (ps : List PartModel) (s : SourceOf) : Type 0 where
  pub part : PartModel
  pub there : HasItem ps part
  pub source : IsSourceOf (number_of place (all_functions (objects_of ps))) (told_by ps) part s

pub source_among : (place : Declaration → Option PlaceModel) (ps : List PartModel) (n : ℕ) (s : SourceOf) → slice_get (sources_of place ps) n ≡ Some s → IsSourceAmong place ps s
source_among place ps n s is =
    let number = number_of place (all_functions (objects_of ps)) in
    let r = from_flat (part_sources number (told_by ps)) ps s (has_get (sources_of place ps) n s is) in
    record { part = r.item; there = r.there; source = part_source number (told_by ps) r.item s r.here }
