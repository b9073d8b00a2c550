-- What holds of each function of a package of which nothing is reported holds of the sources of objects.
use Rattle.std.proofs.Common.{◌≡◌, inl, inr, ℕ, suc, ◌+◌, Bool, true, false, List, [], ◌∷◌, Option, Some, refl, sym, subst, arith, if◌then◌else◌}
use Rattle.std.specs.Prelude.{slice_get}
use Rattle.std.specs.List.{flat_map}
use Rattle.go_tree_nodes.specs.Rules.{Wf_file}
use Rattle.go_tree_nodes.specs.Spelling.{IsPlaced}
use Rattle.go_tree_nodes.specs.Trees.{FileTree, FuncTree, TopTree}
use Rattle.go_term_core.specs.decl_core.TopDecls.{TopDeclTree, FormTree, ValueForm, TypeForm, FuncForm, top_decls}
use Rattle.go_code_core.specs.fragments.Names.{CodeLooks}
use Rattle.go_machine_core.specs.link.Functions.{all_functions, number_of}
use Rattle.go_meaning_laws.specs.source_meaning.Meaning.{SourceOf}
use Rattle.go_meaning_laws.specs.handle_core.Declarations.{Declaration}
use Rattle.go_body_core.specs.Notes.{TheUse}
use Rattle.go_body_core.specs.file.Stands.{decl_funcs, file_funcs}
use Rattle.go_emit_core.specs.package_core.PreparePackages.{trees_in}
use Rattle.go_report_core.specs.summary_core.Summaries.{SummaryModel}
use Rattle.go_body_core.specs.typexpr_core.EntryAmong.{Among}
use Rattle.go_emit_core.specs.package_core.PackagePartParts.{FileOf, PartModel}
use Rattle.go_emit_core.specs.Emitted.{are_clean, body_first, code_scene_over, objects_of, told_by}
use Rattle.go_emit_core.specs.meaning.Looking.{looks_of}
use Rattle.go_emit_core.specs.meaning.Scenes.{CodeScene}
use Rattle.go_workspace_laws.proofs.ConstantLists.{HasItem, contained, from_flat, has_either, has_get, has_left, has_of_all, has_right}
use Rattle.go_workspace_laws.proofs.Declaring.{Declares, declared_in}
use Rattle.go_meaning_laws.specs.object_sources.Sources.{source_in, form_source, sources_in, file_sources, package_sources, part_sources, sources_of}
use Rattle.go_program_laws.specs.checked_sources.Laws.{EndsWell, FunctionsEndWell, IsOfGrammar, SourcesEndWell}

func_there : (ds : List TopTree) (g : FuncTree) → Declares ds g → HasItem (flat_map (λ (d : TopTree). decl_funcs d.decl) ds) g
func_there [] g h = absurd h
func_there (t ∷ ts) g (inl e) = has_left (decl_funcs t.decl) (flat_map (λ (d : TopTree). decl_funcs d.decl) ts) g (subst (λ d. HasItem (decl_funcs d) g) (sym e) (inl refl))
func_there (t ∷ ts) g (inr h) = has_right (decl_funcs t.decl) (flat_map (λ (d : TopTree). decl_funcs d.decl) ts) g (func_there ts g h)

module _ (number : Declaration → Option ℕ) where
  module _ (uses : List TheUse) (looking : ℕ → CodeLooks) (s : SourceOf) where
    -- it is the source of a function among these declarations
    pub record IsOf (ds : List TopDeclTree) : Type 0 where
      pub decl : TopDeclTree
      pub func : FuncTree
      pub among : Among ds decl
      pub form : decl.form ≡ FuncForm func
      pub is : s ≡ source_in number uses looking func

    of_form : (d : TopDeclTree) (ds : List TopDeclTree) (t : FormTree) → d.form ≡ t → HasItem (form_source number uses looking t) s → IsOf (d ∷ ds)
    of_form d ds (ValueForm k v at) e h = absurd h
    of_form d ds (TypeForm t) e h = absurd h
    of_form d ds (FuncForm g) e (inl same) = record { decl = d; func = g; among = inl refl; form = e; is = sym same }
    of_form d ds (FuncForm g) e (inr none) = absurd none

    pub of_decls : (ds : List TopDeclTree) → HasItem (sources_in number uses looking ds) s → IsOf ds
    of_decls [] h = absurd h
    of_decls (d ∷ ds) h = elim (has_either (form_source number uses looking d.form) (sources_in number uses looking ds) s h) [
      | inl here ↦ of_form d ds d.form refl here
      | inr later ↦ (let r = of_decls ds later in record { decl = r.decl; func = r.func; among = inr r.among; form = r.form; is = r.is })
    ]

  -- it is of the file of a number
  pub record IsAt (sc : CodeScene) (first : ℕ) (ts : List FileTree) (fs : List FileOf) (s : SourceOf) : Type 0 where
    pub place : ℕ
    pub tree : FileTree
    pub file : FileOf
    pub in_package : slice_get ts place ≡ Some tree
    pub made : slice_get fs place ≡ Some file
    pub here : HasItem (file_sources number sc (first + place) (top_decls tree) file) s

  pub at_file : (sc : CodeScene) (first : ℕ) (ts : List FileTree) (fs : List FileOf) (s : SourceOf) → HasItem (package_sources number sc first ts fs) s → IsAt sc first ts fs s
  at_file sc first [] fs s h = absurd h
  at_file sc first (t ∷ ts) [] s h = absurd h
  at_file sc first (t ∷ ts) (f ∷ fs) s h = elim (has_either (file_sources number sc first (top_decls t) f) (package_sources number sc (suc first) ts fs) s h) [
    | inl here ↦ (let sum : first ≡ first + 0 = omega arith in record { place = 0; tree = t; file = f; in_package = refl; made = refl; here = subst (λ n. HasItem (file_sources number sc n (top_decls t) f) s) sum here })
    | inr later ↦ (
        let r = at_file sc (suc first) ts fs s later in
        let sum : suc first + r.place ≡ first + suc r.place = omega arith in
        record { place = suc r.place; tree = r.tree; file = r.file; in_package = r.in_package; made = r.made; here = subst (λ n. HasItem (file_sources number sc n (top_decls r.tree) r.file) s) sum r.here }
        )
  ]

  module _ (law : FunctionsEndWell) (all : List SummaryModel) (p : PartModel) (right : IsOfGrammar p) (s : SourceOf) where
    file_ends : are_clean p.content.files ≡ true → IsAt (code_scene_over all p.input p.content) 0 (trees_in p.input.source) p.content.files s → EndsWell s.looks s.tree
    file_ends clean at =
        let sc = code_scene_over all p.input p.content in
        let sum : 0 + at.place ≡ at.place = omega arith in
        let here = subst (λ n. HasItem (file_sources number sc n (top_decls at.tree) at.file) s) sum at.here in
        let r = of_decls at.file.answers.uses (looks_of sc at.place at.file.answers.uses at.file.answers.locals) s (top_decls at.tree) here in
        let k = declared_in at.tree r.decl r.func r.among r.form in
        subst (λ (x : SourceOf). EndsWell x.looks x.tree) (sym r.is)
        (law all p.input p.content right.input right.part clean at.place at.tree at.file at.in_package at.made
        (has_of_all Wf_file (trees_in p.input.source) at.tree right.files.grammar (has_get (trees_in p.input.source) at.place at.tree at.in_package))
        (has_of_all IsPlaced (trees_in p.input.source) at.tree right.files.placed (has_get (trees_in p.input.source) at.place at.tree at.in_package))
        r.func (contained (file_funcs at.tree) r.func (func_there at.tree.decls r.func k.0)) (body_first at.file.answers.uses r.func))

    part_ends : HasItem (part_sources number all p) s → EndsWell s.looks s.tree
    part_ends h = go (are_clean p.content.files) refl h
      where
        go : (t : Bool) → are_clean p.content.files ≡ t → HasItem (if t then package_sources number (code_scene_over all p.input p.content) 0 (trees_in p.input.source) p.content.files else []) s → EndsWell s.looks s.tree
        go true is h = file_ends is (at_file (code_scene_over all p.input p.content) 0 (trees_in p.input.source) p.content.files s h)
        go false is h = absurd h

pub sources_end_well : FunctionsEndWell → SourcesEndWell
sources_end_well law place ps right n s is =
    let number = number_of place (all_functions (objects_of ps)) in
    let r = from_flat (part_sources number (told_by ps)) ps s (has_get (sources_of place ps) n s is) in
    part_ends number law (told_by ps) r.item (right r.item (contained ps r.item r.there)) s r.here
