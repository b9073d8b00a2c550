-- The sources of the objects of parts fit.
use Rattle.std.proofs.Common.{◌≡◌, inl, inr, ℕ, ◌+◌, Bool, true, false, List, [], ◌∷◌, map, Option, Some, refl, sym, ap, ◌∙◌, subst, arith, if◌then◌else◌}
use Rattle.std.specs.Prelude.{slice_get}
use Rattle.std.specs.List.{flat_map}
use Rattle.go_tree_nodes.specs.Rules.{Wf_file}
use Rattle.go_tree_nodes.specs.Spelling.{IsPlaced}
use Rattle.go_tree_nodes.specs.Trees.{FileTree, FuncTree, TopTree}
use Rattle.go_term_core.specs.decl_core.TopDecls.{top_decls}
use Rattle.go_names_core.specs.local_core.Binding.{Local}
use Rattle.go_body_core.specs.env_core.declared.meaning.Meaning.{Meaning as NameMeaning}
use Rattle.go_meaning_laws.specs.handle_core.Declarations.{Declaration}
use Rattle.go_body_core.specs.function.Functions.{walked_func}
use Rattle.go_body_core.specs.file.Stands.{decl_funcs, file_funcs}
use Rattle.go_emit_core.specs.package_core.PreparePackages.{trees_in}
use Rattle.go_code_core.specs.fragments.Inside.{in_fragment}
use Rattle.go_code_core.specs.fragments.Names.{CodeLooks}
use Rattle.go_code_core.specs.Code.{frame_in}
use Rattle.go_meaning_laws.specs.source_meaning.Meaning.{SourceOf}
use Rattle.go_meaning_laws.specs.fitting_sources.Laws.{FunctionFits}
use Rattle.go_machine_core.specs.link.Functions.{PlaceModel, all_functions, number_of}
use Rattle.go_emit_core.specs.package_core.PackagePartParts.{FileOf, PartModel}
use Rattle.go_emit_core.specs.meaning.Looking.{looks_of}
use Rattle.go_emit_core.specs.Emitted.{are_clean, body_first, body_uses, code_scene_over, declarations_in, objects_of, told_by}
use Rattle.go_meaning_laws.specs.object_sources.Sources.{package_sources, part_sources, sources_of}
use Rattle.go_workspace_laws.specs.ConstantLaws.{code_names_of}
use Rattle.go_workspace_laws.specs.Standing.{stand_in_part}
use Rattle.go_workspace_laws.proofs.ConstantLists.{HasItem, contained, from_flat, has_get, has_left, has_of_all, has_right}
use Rattle.go_workspace_laws.proofs.Declaring.{Declares, declared_in}
use Rattle.go_program_laws.proofs.CheckedSourcesSources.{IsAt, at_file, of_decls}
use Rattle.go_program_laws.specs.types.Functions.{IsFunction, source_with}
use Rattle.go_program_laws.specs.types.Sources.{AreServed, IsAmongParts, SourcesFit}
use Rattle.go_program_laws.proofs.TypesReady.{AreGiven}
use Rattle.go_program_laws.proofs.TypesStatements.{functions_fit}

func_there : (ds : List TopTree) (g : FuncTree) → Declares ds g → HasItem (flat_map (λ (d : TopTree). decl_funcs d.decl) ds) g
func_there [] g h = absurd h
func_there (t ∷ ts) g (inl e) = has_left (decl_funcs t.decl) (flat_map (λ (d : TopTree). decl_funcs d.decl) ts) g (subst (λ d. HasItem (decl_funcs d) g) (sym e) (inl refl))
func_there (t ∷ ts) g (inr h) = has_right (decl_funcs t.decl) (flat_map (λ (d : TopTree). decl_funcs d.decl) ts) g (func_there ts g h)

module _ (laws : AreGiven) (place : Declaration → Option PlaceModel) (ps : List PartModel) (p : PartModel) (right : IsAmongParts ps p) (served : AreServed place ps p) (s : SourceOf) (inside : in_fragment (frame_in s.looks s.tree) s.tree ≡ true) where
  abbrev number : Declaration → Option ℕ
  number = number_of place (all_functions (objects_of ps))

  -- a function of a file, by what its names come to in the part alone
  alone_fits : (clean : are_clean p.content.files ≡ true) (n : ℕ) (t : FileTree) (f : FileOf) (g : FuncTree) → slice_get (trees_in p.input.source) n ≡ Some t → slice_get p.content.files n ≡ Some f → HasItem (file_funcs t) g
      → s ≡ source_with (code_names_of p.input p.content n f g) (map number (declarations_in (body_uses f.answers.uses g))) g → FunctionFits (sources_of place ps) s
  alone_fits clean n t f g tree file there is =
      let grammar = has_of_all Wf_file (trees_in p.input.source) t right.files.grammar (has_get (trees_in p.input.source) n t tree) in
      let order = has_of_all IsPlaced (trees_in p.input.source) t right.files.placed (has_get (trees_in p.input.source) n t tree) in
      let func = contained (file_funcs t) g there in
      let all : List (Local NameMeaning) = (walked_func (stand_in_part p.input p.content n t) g).declares in
      let h : IsFunction p.input p.content n t f g all = record {
        input = right.input;
        others = right.others;
        part = right.part;
        clean = clean;
        tree = tree;
        file = file;
        grammar = grammar;
        placed = order;
        func = func;
        right = (laws.one.table (stand_in_part p.input p.content n t) g (laws.funcs t order g func) all).1 refl;
      } in
      subst (λ x. FunctionFits (sources_of place ps) x) (sym is)
      (functions_fit laws (sources_of place ps) (map number (declarations_in (body_uses f.answers.uses g))) p.input p.content n t f g all h right.shows (served n t f g all h) (subst (λ (x : SourceOf). in_fragment (frame_in x.looks x.tree) x.tree ≡ true) is inside))

  file_fits : are_clean p.content.files ≡ true → IsAt number (code_scene_over (told_by ps) p.input p.content) 0 (trees_in p.input.source) p.content.files s → FunctionFits (sources_of place ps) s
  file_fits clean at =
      let sc = code_scene_over (told_by ps) p.input p.content in
      let sum : 0 + at.place ≡ at.place = omega arith in
      let r = of_decls number at.file.answers.uses (looks_of sc (0 + at.place) at.file.answers.uses at.file.answers.locals) s (top_decls at.tree) at.here in
      let k = declared_in at.tree r.decl r.func r.among r.form in
      let callees : List (Option ℕ) = map number (declarations_in (body_uses at.file.answers.uses r.func)) in
      let before : ℕ = body_first at.file.answers.uses r.func in
      let same : looks_of sc (0 + at.place) at.file.answers.uses at.file.answers.locals before ≡ code_names_of p.input p.content at.place at.file r.func =
      ap (λ (m : ℕ). looks_of sc m at.file.answers.uses at.file.answers.locals before) sum ∙ right.alike at.place at.file before at.made in
      alone_fits clean at.place at.tree at.file r.func at.in_package at.made (func_there at.tree.decls r.func k.0) (r.is ∙ ap (λ (l : CodeLooks). source_with l callees r.func) same)

  part_fits : HasItem (part_sources number (told_by ps) p) s → FunctionFits (sources_of place ps) s
  part_fits there = go (are_clean p.content.files) refl there
    where
      go : (t : Bool) → are_clean p.content.files ≡ t → HasItem (if t then package_sources number (code_scene_over (told_by ps) p.input p.content) 0 (trees_in p.input.source) p.content.files else []) s → FunctionFits (sources_of place ps) s
      go true is k = file_fits is (at_file number (code_scene_over (told_by ps) p.input p.content) 0 (trees_in p.input.source) p.content.files s k)
      go false is k = absurd k

pub sources_fit : AreGiven → SourcesFit
sources_fit laws place ps right served n s is inside =
    let number = number_of place (all_functions (objects_of ps)) in
    let r = from_flat (part_sources number (told_by ps)) ps s (has_get (sources_of place ps) n s is) in
    part_fits laws place ps r.item (right r.item (contained ps r.item r.there)) (served r.item (contained ps r.item r.there)) s inside r.here
