-- What imports bind is of the packages that they come to.
use Rattle.std.proofs.Common.{◌≡◌, ℕ, zero, suc, Bool, true, false, List, [], ◌∷◌, ◌++◌, inl, inr, if◌then◌else◌, refl, sym, ap, subst, ◌∙◌}
use Rattle.std.specs.Prelude.{Option, Some, None, slice_get}
use Rattle.go_tree_nodes.specs.Trees.{ImportSpecTree}
use Rattle.go_graph_core.specs.Packages.{Trees}
use Rattle.go_path_core.specs.text_core.Text.{is_blank}
use Rattle.go_names_core.specs.block_core.declared.binding.Binding.{Binding}
use Rattle.go_names_core.specs.block_core.declared.binding.Target.{Target}
use Rattle.go_names_core.specs.block_core.declared.imports.Imported.{Imported}
use Rattle.go_names_core.specs.block_core.declared.imports.Imported.TheVariants as given
use Rattle.go_names_core.specs.block_core.declared.imports.ImportForm.{ImportForm}
use Rattle.go_names_core.specs.block_core.declared.imports.ImportForm.TheVariants as forms
use Rattle.go_names_core.specs.block_core.declared.imports.NamedImport.{NamedImport}
use Rattle.go_names_core.specs.block_core.Bindings.{Bound, bound_as, bound_if, dot_bound, exported_bound, file_bound, form_bound, import_bound, import_target}
use Rattle.go_names_core.specs.block_core.Holding.{file_block}
use Rattle.go_names_core.specs.block_core.Laws.{HasBinding}
use Rattle.go_names_core.specs.block_core.Naming.{file_named, file_specs, package_named, specs_named}
use Rattle.go_names_core.specs.block_core.Tables.{in_block}
use Rattle.go_names_core.specs.block_core.BindingLemmas.{imports_list}
use Rattle.go_names_core.specs.block_core.HoldingLaws.{file_answers, file_holds}
use Rattle.go_body_core.specs.typexpr_core.EntryAmong.{Among, among_to, among_flat, among_map, among_right}
use Rattle.go_emit_core.specs.package_core.PrepareLists.{mapped_at}
use Rattle.go_snap_core.specs.whole_workspace.Known.{IsImportedPath, IsTargetIn}
use Rattle.go_snap_core.specs.whole_workspace.LocalLaws.{ImportsBindTheirs}

-- an import of a file comes to one of these
module _ (imports : List (List Imported)) where
  abbrev IsOurs : Imported → Type 0
  IsOurs i = IsTargetIn (IsImportedPath imports) (import_target i)

  ours : (of_file : List Imported) (i : Imported) → Among imports of_file → Among of_file i → IsOurs i
  ours of_file (given.«Package» e) h at = record { of_file = of_file; file = among_to imports of_file h; shown = e; there = among_to of_file (given.«Package» e) at; is = refl }
  ours of_file (given.Refused rule) h at = tt

  abbrev IsBoundOurs : Bound → Type 0
  IsBoundOurs b = IsTargetIn (IsImportedPath imports) b.binding.target

  lone : (at : ℕ) (name : List ℕ) (target : Target) (b : Bound) → IsTargetIn (IsImportedPath imports) target → Among (bound_as at name target ∷ []) b → IsBoundOurs b
  lone at name target b is h = elim h [
    | inl e ↦ subst IsBoundOurs e is
    | inr none ↦ absurd none
  ]

  own_bound : (at : ℕ) (o : Option (List ℕ)) (target : Target) (b : Bound) → IsTargetIn (IsImportedPath imports) target → Among (bound_if at o target) b → IsBoundOurs b
  own_bound at None target b is h = absurd h
  own_bound at (Some name) target b is h = lone at name target b is h

  other_bound : (blank : Bool) (at : ℕ) (name : List ℕ) (target : Target) (b : Bound) → IsTargetIn (IsImportedPath imports) target → Among (if blank then [] else bound_as at name target ∷ []) b → IsBoundOurs b
  other_bound true at name target b is h = absurd h
  other_bound false at name target b is h = lone at name target b is h

  dotted : (at : ℕ) (i : Imported) (b : Bound) → IsOurs i → Among (dot_bound at i) b → IsBoundOurs b
  dotted at (given.«Package» e) b is h = (let x = among_map (exported_bound at e.path) e.names b h in subst IsBoundOurs x.2 is)
  dotted at (given.Refused rule) b is h = absurd h

  in_form : (at : ℕ) (i : Imported) (form : ImportForm) (b : Bound) → IsOurs i → Among (form_bound at i form) b → IsBoundOurs b
  in_form at i (forms.Own name) b is h = own_bound at name (import_target i) b is h
  in_form at i (forms.Named name) b is h = other_bound (is_blank name) at name (import_target i) b is h
  in_form at i forms.Dot b is h = dotted at i b is h

  -- of an import of a file

  in_specs : (ss : List ImportSpecTree) (is : List Imported) (i : NamedImport) → Among (specs_named ss is) i → Among is i.imported
  in_specs [] is i h = absurd h
  in_specs (s ∷ ss) [] i h = absurd h
  in_specs (s ∷ ss) (x ∷ is) i h = elim h [
    | inl e ↦ inl (ap (λ (n : NamedImport). n.imported) e)
    | inr r ↦ inr (in_specs ss is i r)
  ]

  in_file : (of_file : List Imported) (ss : List ImportSpecTree) (b : Bound) → Among imports of_file → Among (file_bound (specs_named ss of_file)) b → IsBoundOurs b
  in_file of_file ss b h at =
      let x = among_flat import_bound (specs_named ss of_file) b (subst (λ (l : List Bound). Among l b) (imports_list (specs_named ss of_file)) at) in
      in_form x.0.at x.0.imported x.0.form b (ours of_file x.0.imported h (in_specs ss of_file x.0 x.1)) x.2

-- the imports of the file of a number
of_number : (trees : Trees) (files : List (List Imported)) (n : ℕ) (is : List NamedImport) → slice_get (package_named trees files) n ≡ Some is
    → (ss : List ImportSpecTree) × (of_file : List Imported) × Among files of_file × (is ≡ specs_named ss of_file)
of_number [] files n is h = absurd (let no : None ≡ Some is = h in cc)
of_number (t ∷ ts) [] n is h = absurd (let no : None ≡ Some is = h in cc)
of_number (t ∷ ts) (x ∷ files) zero is h = (file_specs t.1, x, inl refl, (let s : Some (file_named t.1 x) ≡ Some is = h in let e : is ≡ file_named t.1 x = cc in e))
of_number (t ∷ ts) (x ∷ files) (suc n) is h = (let r = of_number ts files n is h in (r.0, r.1, inr r.2, r.3))

pub bind_theirs : ImportsBindTheirs
bind_theirs trees imports b blocks = λ file name x is.
    let has : HasBinding b.files file name x = ((file_answers b file name x).0 is).1 in
    let at = mapped_at file_block (package_named trees imports) file has.block (ap (λ (fs : List (List (List ℕ × Binding))). slice_get fs file) (sym blocks.file_names) ∙ has.of_file) in
    let first = (file_holds at.0 name x).0 (ap (λ (l : List (List ℕ × Binding)). in_block l name) at.2 ∙ has.holds) in
    let of_file = of_number trees imports file at.0 at.1 in
    let among : Among (file_bound at.0) first.first = subst (λ (l : List Bound). Among l first.first) (sym first.split) (among_right first.before (first.first ∷ first.after) first.first (inl refl)) in
    let bound = in_file imports of_file.1 of_file.0 first.first of_file.2 (subst (λ (l : List NamedImport). Among (file_bound l) first.first) of_file.3 among) in
    subst (λ (y : Binding). IsTargetIn (IsImportedPath imports) y.target) first.is bound
