-- A function of a part of which nothing is reported has a number.
use Rattle.std.proofs.Common.{◌≡◌, ◌⊎◌, inl, inr, ℕ, zero, suc, ◌+◌, ◌&&◌, Bool, true, false, cond, List, [], ◌∷◌, map, Some, None, refl, sym, ap, ap₂, ◌∙◌, subst, arith, if◌then◌else◌}
use Rattle.std.specs.Prelude.{slice_get}
use Rattle.std.specs.List.{position_from}
use Rattle.std.proofs.lemmas.Bool.{eq-eqb}
use Rattle.std.proofs.lemmas.Option.{none-some}
use Rattle.std.proofs.lemmas.Slice.Eq.{bytes_eq-Decides}
use Rattle.go_tree_nodes.specs.Trees.{FileTree, FuncTree}
use Rattle.go_term_core.specs.decl_core.TopDecls.{FormTree, FuncForm, TopDeclTree, top_decls}
use Rattle.go_graph_core.specs.Lists.{AllNumbered}
use Rattle.go_term_core.specs.declared.term.MemberPlace.TheVariants as places
use Rattle.go_object_core.specs.Objects.{FunctionOf, ObjectOf}
use Rattle.go_meaning_laws.specs.handle_core.Declarations.{Declaration, InFile}
use Rattle.go_code_core.specs.fragments.Names.{CodeLooks}
use Rattle.go_emit_core.specs.package_core.PreparePackages.{trees_in}
use Rattle.go_report_core.specs.summary_core.Summaries.{SummaryModel}
use Rattle.go_emit_core.specs.package_core.PackagePartInputs.{path_in}
use Rattle.go_emit_core.specs.package_core.PackagePartParts.{FileOf, PartModel}
use Rattle.go_emit_core.specs.package_core.PackagePartSlots.{if_there}
use Rattle.go_body_core.specs.typexpr_core.EntryAmong.{Among, among_from, among_left, among_right, flat_among, map_among}
use Rattle.go_machine_core.specs.link.Functions.{PlaceModel, all_functions, is_at}
use Rattle.go_session_core.specs.launches.Located.{place_declared}
use Rattle.go_emit_core.specs.meaning.Looking.{looks_of}
use Rattle.go_emit_core.specs.meaning.Scenes.{CodeScene, decl_at}
use Rattle.go_emit_core.specs.Emitted.{are_clean, code_scene_over, file_functions, form_function, function_of, object_over, objects_of, objects_over, package_functions, told_by, whole_object}
use Rattle.go_program_laws.specs.references.Shown.{FunctionsHaveNumbers}
use Rattle.go_program_laws.proofs.ReferencesOwn.{own_declared}

position_there : {A : Type 0} (test : A → Bool) (xs : List A) (from : ℕ) (x : A) → Among xs x → test x ≡ true → (n : ℕ) × (position_from test from xs ≡ Some n)
position_there test [] from x h e = absurd h
position_there test (y ∷ xs) from x h e = by (test y) refl h (λ k. position_there test xs (from + 1) x k e)
  where
    by : (b : Bool) → test y ≡ b → (y ≡ x) ⊎ Among xs x → (Among xs x → (n : ℕ) × (position_from test (from + 1) xs ≡ Some n)) → (n : ℕ) × (cond b (Some from) (position_from test (from + 1) xs) ≡ Some n)
    by true t k rest = (from, refl)
    by false t (inl s) rest = absurd (let no : false ≡ true = sym t ∙ (ap test s ∙ e) in cc)
    by false t (inr k) rest = rest k

-- a function of this declaration is among some
record IsThere (fs : List (FunctionOf Declaration)) (e : Declaration) : Type 0 where
  function : FunctionOf Declaration
  among : Among fs function
  is : function.declaration ≡ e

module _ (scene : CodeScene) where
  file_there : (place : ℕ) (ds : List TopDeclTree) (f : FileOf) (d : TopDeclTree) (g : FuncTree) → Among ds d → d.form ≡ FuncForm g → IsThere (file_functions scene place ds f) (InFile scene.path (places.Declared (decl_at place d)))
  file_there place ds f d g h form =
      let looking : ℕ → CodeLooks = looks_of scene place f.answers.uses f.answers.locals in
      let it = function_of scene.path place f.answers.uses looking d g in
      record {
        function = it;
        among = flat_among (λ (x : TopDeclTree). form_function scene.path place f.answers.uses looking x x.form) ds it d h (subst (λ (t : FormTree). Among (form_function scene.path place f.answers.uses looking d t) it) (sym form) (inl refl));
        is = refl;
      }

  package_there : (R : ℕ → FileTree → FileOf → Type 0) (n : ℕ) (ts : List FileTree) (files : List FileOf) → AllNumbered R n ts files → (k : ℕ) (t : FileTree) → slice_get ts k ≡ Some t
      → (d : TopDeclTree) (g : FuncTree) → Among (top_decls t) d → d.form ≡ FuncForm g → IsThere (package_functions scene n ts files) (InFile scene.path (places.Declared (decl_at (n + k) d)))
  package_there R n [] files h k t e d g a form = absurd (none-some t e)
  package_there R n (u ∷ ts) [] h k t e d g a form = absurd h
  package_there R n (u ∷ ts) (f ∷ files) h zero t e d g a form =
      let some : Some u ≡ Some t = e in
      let same : u ≡ t = cc some in
      let sum : n ≡ n + 0 = omega arith in
      let r = file_there n (top_decls u) f d g (subst (λ (x : FileTree). Among (top_decls x) d) (sym same) a) form in
      record {
        function = r.function;
        among = among_left (file_functions scene n (top_decls u) f) (package_functions scene (suc n) ts files) r.function r.among;
        is = r.is ∙ ap (λ m. InFile scene.path (places.Declared (decl_at m d))) sum;
      }
  package_there R n (u ∷ ts) (f ∷ files) h (suc k) t e d g a form =
      let sum : suc n + k ≡ n + suc k = omega arith in
      let r = package_there R (suc n) ts files h.1 k t e d g a form in
      record {
        function = r.function;
        among = among_right (file_functions scene n (top_decls u) f) (package_functions scene (suc n) ts files) r.function r.among;
        is = r.is ∙ ap (λ m. InFile scene.path (places.Declared (decl_at m d))) sum;
      }

-- a part of which nothing is reported has an object
pub object_there : (all : List SummaryModel) (ps : List PartModel) (q : PartModel) → Among ps q → are_clean q.content.files ≡ true
    → Among (objects_over all ps) (whole_object (code_scene_over all q.input q.content) q.input q.content)
object_there all ps q h clean =
    let o = whole_object (code_scene_over all q.input q.content) q.input q.content in
    flat_among (λ (p : PartModel). if_there (object_over all p.input p.content)) ps o q h (subst (λ (b : Bool). Among (if_there (if b then Some o else None)) o) (sym clean) (inl refl))

pub have_numbers : FunctionsHaveNumbers
have_numbers ps q h part placed clean d s own =
    let x = own_declared q.input q.content part placed d s own in
    let scene = code_scene_over (told_by ps) q.input q.content in
    let fn = package_there scene _ 0 (trees_in q.input.source) q.content.files part.files d.file x.tree x.in_package x.decl x.func (among_from (top_decls x.tree) x.decl x.among) x.form in
    let object = whole_object scene q.input q.content in
    let there : Among (all_functions (objects_of ps)) fn.function =
    flat_among (λ (o : ObjectOf Declaration). o.functions) (objects_of ps) fn.function object (object_there (told_by ps) ps q (among_from ps q h) clean) fn.among in
    let wanted : PlaceModel = record { path = path_in q.input; file = d.file; number = d.number } in
    let sum : d.file ≡ 0 + d.file = omega arith in
    let same : is_at wanted (place_declared (InFile (path_in q.input) (places.Declared (decl_at (0 + d.file) x.decl)))) ≡ true =
    ap₂ (λ (a b : Bool). a && b) ((bytes_eq-Decides (path_in q.input) (path_in q.input)).1 refl) (ap₂ (λ (a b : Bool). a && b) (eq-eqb d.file (0 + d.file) sum) (eq-eqb d.number x.decl.number (sym x.number))) in
    position_there (is_at wanted) (map (λ (f : FunctionOf Declaration). place_declared f.declaration) (all_functions (objects_of ps))) 0 (place_declared fn.function.declaration)
    (map_among (λ (f : FunctionOf Declaration). place_declared f.declaration) (all_functions (objects_of ps)) (place_declared fn.function.declaration) fn.function there refl)
    (ap (λ (e : Declaration). is_at wanted (place_declared e)) fn.is ∙ same)
