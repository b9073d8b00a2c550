-- A package in which one identifier of an initialiser is spelled anew, or which has another body of a function, has the types that it had.
use Rattle.std.proofs.Common.{◌≡◌, ℕ, inl, inr, List, ◌∷◌, ◌++◌, sym, ap, subst, ◌∙◌}
use Rattle.std.specs.List.{enumerate_from}
use Rattle.go_tree_nodes.specs.declared.names.Ident.{Ident}
use Rattle.go_tree_nodes.specs.Trees.{ValueSpecTree, FuncTree, Lines, FileTree}
use Rattle.go_term_core.specs.decl_core.declared.places.Place.{Place}
use Rattle.go_term_core.specs.decl_core.TopDecls.{TopDeclTree, FormTree, FuncForm}
use Rattle.go_type_core.specs.table_core.Entries.{Entry, find_entry}
use Rattle.go_package_core.specs.report_core.declared.type_faults.places.PackageFault.{PackageFault}
use Rattle.go_type_core.specs.Built.{IsBuilt}
use Rattle.go_type_core.proofs.Meanings.{one_settled}
use Rattle.go_typexpr_core.specs.written.Written.{InFile}
use Rattle.go_typexpr_core.specs.entry.Entries.{Received, Meanings, file_at, decl_methods, package_methods, entry_of, entries_with, package_meanings, declared_entries}
use Rattle.go_typexpr_core.specs.entry.Meanings.{Shows}
use Rattle.go_typexpr_core.specs.entry.Outlines.{FileOutline}
use Rattle.go_candidate_core.specs.declared_core.Laws.{FileDecl, package_decls}
use Rattle.go_package_core.specs.prepare.Packages.{PackageIn, outlines_in, shows_in, entries_in}
use Rattle.go_package_core.specs.prepare.Types.{AreTypes}
use Rattle.go_package_core.specs.prepare.Values.{decls_in}
use Rattle.go_complete_core.specs.spelling.Files.{with_decls, with_trees}
use Rattle.go_complete_core.specs.spelling.Packages.{TypesStay}
use Rattle.go_complete_core.proofs.SpellingBodyListed.{IsOther, AllOther, files_other}
use Rattle.go_complete_core.proofs.SpellingFileListed.{IsAnew, AllAnew, package_anew}
use Rattle.go_complete_core.proofs.SpellingGiven.{of_files, AllGive, all_anew, all_other}
use Rattle.go_complete_core.proofs.SpellingNames.{anew_names, other_names}

module _ (means : Meanings) (path : List ℕ) where
  -- by the number of the file, the places of what it declares, and the declaration
  abbrev stood : ℕ → List Place → InFile
  stood file places = record { path = path; file = file; places = places }

  abbrev methods_of : FileDecl → List Received
  methods_of d = decl_methods (means d.file) (file_at path d.file d.outline) d.decl d.decl.form

  abbrev entries_of : List Received → FileDecl → List Entry
  entries_of rs d = entry_of (means d.file) (file_at path d.file d.outline) rs d.decl d.decl.form

  entries_are : (ds es : List FileOutline) → AllGive methods_of (package_decls ds) (package_decls es) → ((rs : List Received) → AllGive (entries_of rs) (package_decls ds) (package_decls es))
      → entries_with means path (package_methods means path ds) ds ≡ entries_with means path (package_methods means path es) es
  entries_are ds es methods entries =
      let same : package_methods means path ds ≡ package_methods means path es = sym (of_files methods_of (enumerate_from 0 ds)) ∙ (methods ∙ of_files methods_of (enumerate_from 0 es)) in
      ap (λ rs. entries_with means path rs ds) same
      ∙ (sym (of_files (entries_of (package_methods means path es)) (enumerate_from 0 ds)) ∙ (entries (package_methods means path es) ∙ of_files (entries_of (package_methods means path es)) (enumerate_from 0 es)))

  -- methods and types

  abbrev give_methods : ℕ → List Place → TopDeclTree → List Received
  give_methods file places d = decl_methods (means file) (stood file places) d d.form

  abbrev give_entries : List Received → ℕ → List Place → TopDeclTree → List Entry
  give_entries rs file places d = entry_of (means file) (stood file places) rs d d.form

  anew_methods : (v w : ValueSpecTree) (file : ℕ) (places : List Place) (d e : TopDeclTree) → IsAnew v w d e → give_methods file places d ≡ give_methods file places e
  anew_methods v w file places d e h = ap (decl_methods (means file) (stood file places) d) h.before ∙ ap (decl_methods (means file) (stood file places) e) (sym h.after)

  anew_entries : (rs : List Received) (v w : ValueSpecTree) (file : ℕ) (places : List Place) (d e : TopDeclTree) → IsAnew v w d e → give_entries rs file places d ≡ give_entries rs file places e
  anew_entries rs v w file places d e h = ap (entry_of (means file) (stood file places) rs d) h.before ∙ ap (entry_of (means file) (stood file places) rs e) (sym h.after)

  abbrev made : Ident → ℕ → FormTree → TopDeclTree
  made x number form = record { ident = x; number = number; form = form }

  other_methods : (f : FuncTree) (body : Lines) (file : ℕ) (places : List Place) (d e : TopDeclTree) → IsOther f body d e → give_methods file places d ≡ give_methods file places e
  other_methods f body file places d e (inl same) = ap (give_methods file places) same
  other_methods f body file places d e (inr h) =
      ap (λ tree. give_methods file places (made d.ident d.number tree)) h.1
      ∙ (ap (λ k. give_methods file places (made d.ident k (FuncForm f))) h.0
      ∙ (ap (λ y. give_methods file places (made y e.number (FuncForm f))) h.3 ∙ ap (λ tree. give_methods file places (made e.ident e.number tree)) (sym h.2)))

  other_entries : (rs : List Received) (f : FuncTree) (body : Lines) (file : ℕ) (places : List Place) (d e : TopDeclTree) → IsOther f body d e → give_entries rs file places d ≡ give_entries rs file places e
  other_entries rs f body file places d e (inl same) = ap (give_entries rs file places) same
  other_entries rs f body file places d e (inr h) = ap (entry_of (means file) (stood file places) rs d) h.1 ∙ ap (entry_of (means file) (stood file places) rs e) (sym h.2)

-- packages

built_same : (p q : PackageIn) (far one other : List Entry) (faults others : List PackageFault) → entries_in p ≡ entries_in q → AreTypes p far one faults → AreTypes q far other others → one ≡ other
built_same p q far one other faults others same a b =
    (one_settled (find_entry far) (entries_in q) one other a.loops b.loops (subst (λ es. IsBuilt (find_entry far) es one a.loops) same a.built) b.built).0

module _ (p : PackageIn) (front back : List FileTree) (g h : FileTree) where
  abbrev old : PackageIn
  old = with_trees p (front ++ g ∷ back)

  abbrev new : PackageIn
  new = with_trees p (front ++ h ∷ back)

  -- by what names mean in the first
  abbrev means : Meanings
  means = package_meanings (shows_in old) p.path p.blocks

  with_names : shows_in old ≡ shows_in new → declared_entries (shows_in old) p.path p.blocks (outlines_in new) ≡ entries_in new
  with_names same = ap (λ (k : Shows). declared_entries k p.path p.blocks (outlines_in new)) same

  pub anew_same : (n : ℕ) (v w : ValueSpecTree) → AllAnew n v w (decls_in old) (decls_in new) → entries_in old ≡ entries_in new
  anew_same n v w all =
      entries_are means p.path (outlines_in old) (outlines_in new)
      (all_anew (give_methods means p.path) n v w (anew_methods means p.path v w) (decls_in old) (decls_in new) all)
      (λ rs. all_anew (give_entries means p.path rs) n v w (anew_entries means p.path rs v w) (decls_in old) (decls_in new) all)
      ∙ with_names (anew_names p front back g h n v w all)

  pub other_same : (f : FuncTree) (body : Lines) → AllOther f body (decls_in old) (decls_in new) → entries_in old ≡ entries_in new
  other_same f body all =
      entries_are means p.path (outlines_in old) (outlines_in new)
      (all_other (give_methods means p.path) f body (other_methods means p.path f body) (decls_in old) (decls_in new) all)
      (λ rs. all_other (give_entries means p.path rs) f body (other_entries means p.path rs f body) (decls_in old) (decls_in new) all)
      ∙ with_names (other_names p front back g h f body all)

pub types_stay : TypesStay
types_stay = record {
  initialisers = λ x name v w n p q far one other faults others r h a b.
      let old_is : p ≡ with_trees p (h.front ++ h.file ∷ h.back) = ap (with_trees p) h.before in
      let same : entries_in (with_trees p (h.front ++ h.file ∷ h.back)) ≡ entries_in (with_trees p (h.front ++ with_decls h.file h.decls ∷ h.back)) =
      anew_same p h.front h.back h.file (with_decls h.file h.decls) n v w (package_anew x name v w r h.front h.back h.file h.decls h.writes n h.number) in
      built_same p q far one other faults others (ap entries_in old_is ∙ (same ∙ ap entries_in (sym h.after))) a b;
  bodies = λ f body n p q far one other faults others h a b.
      let old_is : p ≡ with_trees p (h.front ++ h.file ∷ h.back) = ap (with_trees p) h.before in
      let same : entries_in (with_trees p (h.front ++ h.file ∷ h.back)) ≡ entries_in (with_trees p (h.front ++ with_decls h.file h.decls ∷ h.back)) =
      other_same p h.front h.back h.file (with_decls h.file h.decls) f body (files_other f body 0 h.front h.back h.file h.decls h.writes) in
      built_same p q far one other faults others (ap entries_in old_is ∙ (same ∙ ap entries_in (sym h.after))) a b;
}
