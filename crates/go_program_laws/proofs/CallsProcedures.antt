-- In a package of which nothing is reported `init`, and `main` in package main, is a function without parameters and results.
use Rattle.std.proofs.Common.{◌≡◌, inl, inr, ℕ, zero, suc, ◌+◌, Bool, true, false, ◌&&◌, not, List, [], ◌∷◌, map, Some, nat_eq, refl, sym, ap, ap₂, subst, ◌∙◌, arith}
use Rattle.std.specs.Prelude.{if◌then◌else◌, slice_get}
use Rattle.std.specs.Str.{bytes_eq}
use Rattle.std.proofs.lemmas.Bool.{eq-eqb}
use Rattle.std.proofs.lemmas.Option.{none-some}
use Rattle.go_tree_nodes.specs.Trees.{FileTree, FuncTree}
use Rattle.go_term_core.specs.decl_core.declared.keys.DeclRef.{DeclRef}
use Rattle.go_term_core.specs.decl_core.TopDecls.{FuncForm, TopDeclTree, top_decls}
use Rattle.go_names_core.specs.block_core.declared.fault.BlockFault.{BlockFault}
use Rattle.go_names_core.specs.block_core.declared.fault.BlockRule.TheVariants.{B3}
use Rattle.go_names_core.specs.block_core.Declarations.{PackageDeclaration, declaration, file_declared, files_declared, has_fixed_form, has_receiver, is_main_package, is_method_form, is_procedure, is_procedure_form, package_declared, top_declared, unless_method}
use Rattle.go_names_core.specs.block_core.Exports.{clause_name}
use Rattle.go_names_core.specs.block_core.Faults.{all_block_faults, block_decl_faults, block_fault, block_file_faults, decl_faults_at, fault_if}
use Rattle.go_names_core.specs.block_core.Holding.{package_block, with_declared}
use Rattle.go_names_core.specs.block_core.Naming.{package_named}
use Rattle.go_report_core.specs.answer.Outer.{block_faults_in}
use Rattle.go_graph_core.specs.Imports.{main}
use Rattle.go_graph_core.specs.Packages.{Trees, tree_shown, trees_of}
use Rattle.go_emit_core.specs.package_core.PreparePackages.{trees_in}
use Rattle.go_emit_core.specs.package_core.PackagePartInputs.{InputModel}
use Rattle.go_emit_core.specs.package_core.PackagePartParts.{ContentOf, FileOf, IsPart}
use Rattle.go_emit_core.specs.Emitted.{are_clean}
use Rattle.go_emit_core.specs.Laws.{ObjectsAreOfFaultless}
use Rattle.go_workspace_laws.proofs.ConstantLists.{HasItem, contained, has, has_flat, has_left, has_right}
use Rattle.go_program_laws.proofs.CallsBeside.{no_block_fault}

-- faults in blocks

first_out : {A : Type 0} (b : Bool) (x : A) (xs : List A) → (if b then x ∷ xs else xs) ≡ [] → b ≡ true → ⊥
first_out true x xs e h = absurd cc
first_out false x xs e h = absurd (cc h)

rest_out : {A : Type 0} (b : Bool) (x : A) (xs : List A) → (if b then x ∷ xs else xs) ≡ [] → xs ≡ []
rest_out true x xs e = absurd cc
rest_out false x xs e = e

none_of_file : (n : ℕ) (fs : List BlockFault) (f : BlockFault) → f.file ≡ n → HasItem fs f → block_faults_in n fs ≡ [] → ⊥
none_of_file n [] f same h e = h
none_of_file n (g ∷ fs) f same (inl s) e = first_out (nat_eq g.file n) _ (block_faults_in n fs) e (eq-eqb g.file n (ap (λ (x : BlockFault). x.file) s ∙ same))
none_of_file n (g ∷ fs) f same (inr h) e = none_of_file n fs f same h (rest_out (nat_eq g.file n) _ (block_faults_in n fs) e)

-- B3 is among the faults of declarations
abbrev breaks : Bool → PackageDeclaration → Bool
breaks is_main d = has_fixed_form is_main d.name && not d.is_procedure

b3_at : (is_main : Bool) (block : List (List ℕ × DeclRef)) (d : PackageDeclaration) → breaks is_main d ≡ true → HasItem (decl_faults_at is_main block d) (block_fault d.decl.file d.at B3)
b3_at is_main block d e = has_right _ (fault_if (breaks is_main d) (block_fault d.decl.file d.at B3)) _ (subst (λ b. HasItem (fault_if b (block_fault d.decl.file d.at B3)) (block_fault d.decl.file d.at B3)) (sym e) (inl refl))

b3_among : (is_main : Bool) (block : List (List ℕ × DeclRef)) (ds : List PackageDeclaration) (d : PackageDeclaration) → HasItem ds d → breaks is_main d ≡ true → HasItem (block_decl_faults is_main block ds) (block_fault d.decl.file d.at B3)
b3_among is_main block [] d h e = absurd h
b3_among is_main block (x ∷ ds) d (inl s) e =
    has_left (decl_faults_at is_main block x) (block_decl_faults is_main (with_declared block x) ds) (block_fault d.decl.file d.at B3)
    (subst (λ (y : PackageDeclaration). HasItem (decl_faults_at is_main block y) (block_fault d.decl.file d.at B3)) (sym s) (b3_at is_main block d e))
b3_among is_main block (x ∷ ds) d (inr h) e = has_right (decl_faults_at is_main block x) (block_decl_faults is_main (with_declared block x) ds) (block_fault d.decl.file d.at B3) (b3_among is_main (with_declared block x) ds d h e)

-- declarations

files_have : (k : ℕ) (ts : Trees) (n : ℕ) (t : FileTree) (x : PackageDeclaration) → slice_get (map tree_shown ts) n ≡ Some t → HasItem (file_declared (k + n) t) x → HasItem (files_declared k ts) x
files_have k [] n t x e h = absurd (none-some t e)
files_have k (u ∷ ts) zero t x e h =
    let same : t ≡ tree_shown u = cc in
    let sum : k + 0 ≡ k = omega arith in
    has_left (file_declared k u.1) (files_declared (k + 1) ts) x (subst (λ m. HasItem (file_declared m u.1) x) sum (subst (λ v. HasItem (file_declared (k + 0) v) x) same h))
files_have k (u ∷ ts) (suc n) t x e h =
    let sum : k + suc n ≡ k + 1 + n = omega arith in
    has_right (file_declared k u.1) (files_declared (k + 1) ts) x (files_have (k + 1) ts n t x e (subst (λ m. HasItem (file_declared m t) x) sum h))

file_has : (n : ℕ) (t : FileTree) (d : TopDeclTree) → HasItem (top_decls t) d → is_method_form d.form ≡ false → HasItem (file_declared n t) (declaration n d)
file_has n t d h e = has_flat (top_declared n) (top_decls t) d (declaration n d) h (subst (λ b. HasItem (unless_method b (declaration n d)) (declaration n d)) (sym e) (inl refl))

pub main_by_name : (ts : Trees) → is_main_package ts ≡ bytes_eq (clause_name ts) main
main_by_name [] = refl
main_by_name (t ∷ ts) = refl

-- such a function is one without parameters and results
abbrev pub IsRightDecl : Bool → TopDeclTree → Type 0
IsRightDecl is_main d = (g : FuncTree) → d.form ≡ FuncForm g → has_receiver g.receiver ≡ false → has_fixed_form is_main d.ident.name ≡ true → is_procedure g.signature ≡ true

module _ (law : ObjectsAreOfFaultless) (i : InputModel) (c : ContentOf) (part : IsPart i c) (clean : are_clean c.files ≡ true) (n : ℕ) (t : FileTree) (f : FileOf) (tree : slice_get (trees_in i.source) n ≡ Some t) (there : slice_get c.files n ≡ Some f) where
  abbrev trees : Trees
  trees = trees_of i.source.1

  none_broken : (d : TopDeclTree) → HasItem (top_decls t) d → is_method_form d.form ≡ false → breaks (is_main_package trees) (declaration n d) ≡ true → ⊥
  none_broken d h e b =
      let x = declaration n d in
      let fault = block_fault x.decl.file x.at B3 in
      let sum : n ≡ 0 + n = omega arith in
      let here = files_have 0 trees n t x tree (subst (λ m. HasItem (file_declared m t) x) sum (file_has n t d h e)) in
      let given = has_left (block_decl_faults (is_main_package trees) [] (package_declared trees)) (block_file_faults (package_block trees) 0 (package_named trees i.imports)) fault (b3_among (is_main_package trees) [] (package_declared trees) x here b) in
      let among = (part.blocks.faults.same fault).1 (contained (all_block_faults trees (package_named trees i.imports)) fault given) in
      none_of_file n c.blocks.faults fault refl (has c.blocks.faults fault among) (no_block_fault law i c part clean n t f tree there)

  by_form : (b : Bool) (d : TopDeclTree) → HasItem (top_decls t) d → is_method_form d.form ≡ false → has_fixed_form (is_main_package trees) d.ident.name ≡ true → is_procedure_form d.form ≡ b → b ≡ true
  by_form true d h e fixed is = refl
  by_form false d h e fixed is = absurd (none_broken d h e (ap₂ (λ (x y : Bool). x && not y) fixed is))

  pub right_decl : (d : TopDeclTree) → HasItem (top_decls t) d → IsRightDecl (is_main_package trees) d
  right_decl d h g form no_receiver fixed =
      sym (ap is_procedure_form form) ∙ by_form (is_procedure_form d.form) d h (ap is_method_form form ∙ no_receiver) fixed refl
