-- What holds of each function that a file of a package declares holds of each function of its object.
use Rattle.std.proofs.Common.{◌≡◌, ℕ, suc, ◌+◌, Bool, true, false, if◌then◌else◌, List, [], ◌∷◌, All, Some, None, inl, inr, refl, subst, arith}
use Rattle.std.specs.Prelude.{slice_get}
use Rattle.std.proofs.lemmas.List.Elements.{All-nil, All-cons, All-append}
use Rattle.go_tree_nodes.specs.Trees.{FileTree, FuncTree}
use Rattle.go_term_core.specs.decl_core.TopDecls.{FormTree, FuncForm, TopDeclTree, TypeForm, ValueForm, top_decls}
use Rattle.govisd_resolve.specs.handle_core.Declarations.{Declaration}
use Rattle.go_body_core.specs.typexpr_core.EntryAmong.{Among}
use Rattle.go_body_core.specs.Notes.{TheUse}
use Rattle.go_emit_core.specs.package_core.PreparePackages.{trees_in}
use Rattle.go_report_core.specs.summary_core.Summaries.{SummaryModel}
use Rattle.go_emit_core.specs.package_core.PackagePartInputs.{InputModel}
use Rattle.go_emit_core.specs.package_core.PackagePartParts.{ContentOf, FileOf}
use Rattle.go_code_core.specs.fragments.Names.{CodeLooks}
use Rattle.go_object_core.specs.Objects.{FunctionOf, ObjectOf}
use Rattle.go_emit_core.specs.meaning.Looking.{looks_of}
use Rattle.go_emit_core.specs.meaning.Scenes.{CodeScene}
use Rattle.go_emit_core.specs.Emitted.{are_clean, file_functions, form_function, function_of, functions_of, object_over, package_functions, code_scene_over, whole_object}
use Rattle.go_workspace_laws.proofs.Declaring.{Declares, declared_in}

module _ (Q : FunctionOf Declaration → Type 0) where
  module _ (path : List ℕ) (file : ℕ) (uses : List TheUse) (looking : ℕ → CodeLooks) where
    form_all : (d : TopDeclTree) (form : FormTree) → d.form ≡ form → ((g : FuncTree) → d.form ≡ FuncForm g → Q (function_of path file uses looking d g)) → All Q (form_function path file uses looking d form)
    form_all d (ValueForm k v i) e step = All-nil Q
    form_all d (TypeForm t) e step = All-nil Q
    form_all d (FuncForm g) e step = All-cons Q (function_of path file uses looking d g) [] (step g e) (All-nil Q)

    decls_all : (ds : List TopDeclTree) → ((d : TopDeclTree) (g : FuncTree) → Among ds d → d.form ≡ FuncForm g → Q (function_of path file uses looking d g)) → All Q (functions_of path file uses looking ds)
    decls_all [] step = All-nil Q
    decls_all (d ∷ ds) step =
        All-append Q (form_function path file uses looking d d.form) (functions_of path file uses looking ds)
        (form_all d d.form refl (λ g e. step d g (inl refl) e)) (decls_all ds (λ x g a e. step x g (inr a) e))

  -- what is shown of a function, of the file of a number
  abbrev IsShown : CodeScene → ℕ → FileTree → FileOf → Type 0
  IsShown s n t f = (g : FuncTree) → Declares t.decls g → (d : TopDeclTree) → d.ident ≡ g.name → Q (function_of s.path n f.answers.uses (looks_of s n f.answers.uses f.answers.locals) d g)

  package_all : (s : CodeScene) (first : ℕ) (ts : List FileTree) (fs : List FileOf)
      → ((n k : ℕ) (t : FileTree) (f : FileOf) → n ≡ first + k → slice_get ts k ≡ Some t → slice_get fs k ≡ Some f → IsShown s n t f) → All Q (package_functions s first ts fs)
  package_all s first [] fs step = All-nil Q
  package_all s first (t ∷ ts) [] step = All-nil Q
  package_all s first (t ∷ ts) (f ∷ fs) step =
      All-append Q (file_functions s first (top_decls t) f) (package_functions s (suc first) ts fs)
      (decls_all s.path first f.answers.uses (looks_of s first f.answers.uses f.answers.locals) (top_decls t) (λ d g a e. (let k = declared_in t d g a e in step first 0 t f (omega arith) refl refl g k.0 d k.1)))
      (package_all s (suc first) ts fs (λ n k u x e a b. step n (suc k) u x (omega (arith, e)) a b))

  object_is : (b : Bool) (one o : ObjectOf Declaration) → (if b then Some one else None) ≡ Some o → one ≡ o
  object_is true one o e = cc
  object_is false one o e = cc

  pub object_all : (all : List SummaryModel) (i : InputModel) (c : ContentOf) (o : ObjectOf Declaration) → object_over all i c ≡ Some o
      → ((n : ℕ) (t : FileTree) (f : FileOf) → slice_get (trees_in i.source) n ≡ Some t → slice_get c.files n ≡ Some f → IsShown (code_scene_over all i c) n t f) → All Q o.functions
  object_all all i c o is step =
      let s : CodeScene = code_scene_over all i c in
      let same : whole_object s i c ≡ o = object_is (are_clean c.files) (whole_object s i c) o is in
      subst (λ (x : ObjectOf Declaration). All Q x.functions) same
      (package_all s 0 (trees_in i.source) c.files (λ n k t f e a b. (let at : k ≡ n = omega (arith, e) in step n t f (subst (λ m. slice_get (trees_in i.source) m ≡ Some t) at a) (subst (λ m. slice_get c.files m ≡ Some f) at b))))
