-- What names of types mean in a package in which one identifier of an initialiser is spelled anew, or which has another body of a function: what they
-- meant, since its aliases are what they were.
use Rattle.std.proofs.Common.{◌≡◌, ℕ, inl, inr, List, ◌∷◌, ◌++◌, length, refl, sym, ap, ◌∙◌}
use Rattle.std.specs.List.{enumerate_from}
use Rattle.go_tree_nodes.specs.declared.names.Ident.{Ident}
use Rattle.go_tree_nodes.specs.Trees.{ValueSpecTree, FuncTree, Lines, TopTree, FileTree}
use Rattle.go_term_core.specs.decl_core.declared.keys.DeclRef.{DeclRef}
use Rattle.go_term_core.specs.decl_core.declared.places.Place.{Place}
use Rattle.go_term_core.specs.decl_core.TopDecls.{TopDeclTree}
use Rattle.go_term_core.specs.Terms.{Term}
use Rattle.go_typexpr_core.specs.written.Written.{InFile}
use Rattle.go_typexpr_core.specs.entry.Entries.{Meanings, package_meanings}
use Rattle.go_typexpr_core.specs.entry.Meanings.{Shows, declared_alone}
use Rattle.go_typexpr_core.specs.entry.Outlines.{FileOutline}
use Rattle.go_typexpr_core.specs.aliases.Aliases.{alias_ends, target_by}
use Rattle.go_typexpr_core.specs.aliases.Outlined.{alias_of, aliases_with}
use Rattle.go_candidate_core.specs.declared_core.Here.{far_type}
use Rattle.go_candidate_core.specs.declared_core.Laws.{package_decls}
use Rattle.go_package_core.specs.prepare.Packages.{PackageIn, outlines_in, shows_in}
use Rattle.go_package_core.specs.prepare.Values.{decls_in}
use Rattle.go_complete_core.specs.spelling.Files.{WritesInTops, WritesBody, with_decls, with_trees}
use Rattle.go_complete_core.specs.spelling.Trees.{RespellsValues}
use Rattle.go_complete_core.proofs.SpellingBodyListed.{IsOther, AllOther, files_other}
use Rattle.go_complete_core.proofs.SpellingFileListed.{IsAnew, AllAnew, package_anew}
use Rattle.go_complete_core.proofs.SpellingGiven.{of_files, AllGive, given, all_anew, all_other}

-- aliases

module _ (means : Meanings) (path : List ℕ) where
  abbrev give_aliases : ℕ → List Place → TopDeclTree → List (DeclRef × Term)
  give_aliases file places d = (let f : InFile = record { path = path; file = file; places = places } in alias_of (means file) f d d.form)

  aliases_are : (os ps : List FileOutline) → AllGive (given give_aliases) (package_decls os) (package_decls ps) → aliases_with means path os ≡ aliases_with means path ps
  aliases_are os ps same = sym (of_files (given give_aliases) (enumerate_from 0 os)) ∙ (same ∙ of_files (given give_aliases) (enumerate_from 0 ps))

  anew_aliases : (v w : ValueSpecTree) (file : ℕ) (places : List Place) (d e : TopDeclTree) → IsAnew v w d e → give_aliases file places d ≡ give_aliases file places e
  anew_aliases v w file places d e h =
      let f : InFile = record { path = path; file = file; places = places } in
      ap (alias_of (means file) f d) h.before ∙ ap (alias_of (means file) f e) (sym h.after)

  other_aliases : (f : FuncTree) (body : Lines) (file : ℕ) (places : List Place) (d e : TopDeclTree) → IsOther f body d e → give_aliases file places d ≡ give_aliases file places e
  other_aliases f body file places d e (inl same) = ap (give_aliases file places) same
  other_aliases f body file places d e (inr h) =
      let o : InFile = record { path = path; file = file; places = places } in
      ap (alias_of (means file) o d) h.1 ∙ ap (alias_of (means file) o e) (sym h.2)

-- packages

module _ (p : PackageIn) (front back : List FileTree) (g h : FileTree) where
  abbrev old : PackageIn
  old = with_trees p (front ++ g ∷ back)

  abbrev new : PackageIn
  new = with_trees p (front ++ h ∷ back)

  abbrev raws : Meanings
  raws = package_meanings (declared_alone p.shows) p.path p.blocks

  abbrev names_by : List (DeclRef × Term) → Shows
  names_by xs = record { shown = p.shows; target = target_by p.path (alias_ends xs p.path) (far_type p.others) }

  pub anew_names : (n : ℕ) (v w : ValueSpecTree) → AllAnew n v w (decls_in old) (decls_in new) → shows_in old ≡ shows_in new
  anew_names n v w all =
      ap names_by (aliases_are raws p.path (outlines_in old) (outlines_in new) (all_anew (give_aliases raws p.path) n v w (anew_aliases raws p.path v w) (decls_in old) (decls_in new) all))

  pub other_names : (f : FuncTree) (body : Lines) → AllOther f body (decls_in old) (decls_in new) → shows_in old ≡ shows_in new
  other_names f body all =
      ap names_by (aliases_are raws p.path (outlines_in old) (outlines_in new) (all_other (give_aliases raws p.path) f body (other_aliases raws p.path f body) (decls_in old) (decls_in new) all))

-- by what is written there
module _ (p : PackageIn) (front back : List FileTree) (g : FileTree) (ds : List TopTree) where
  pub names_anew : (x : Ident) (name : List ℕ) (v w : ValueSpecTree) → RespellsValues x name v w → WritesInTops v w g.decls ds
      → shows_in (with_trees p (front ++ g ∷ back)) ≡ shows_in (with_trees p (front ++ with_decls g ds ∷ back))
  names_anew x name v w r writes = anew_names p front back g (with_decls g ds) (length front) v w (package_anew x name v w r front back g ds writes (length front) refl)

  pub names_other : (f : FuncTree) (body : Lines) → WritesBody f body g.decls ds
      → shows_in (with_trees p (front ++ g ∷ back)) ≡ shows_in (with_trees p (front ++ with_decls g ds ∷ back))
  names_other f body writes = other_names p front back g (with_decls g ds) f body (files_other f body 0 front back g ds writes)
