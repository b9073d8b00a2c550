-- Where the declarations of a package stand among them, whatever is written of each.
use Rattle.std.proofs.Common.{◌≡◌, ℕ, suc, List, [], ◌∷◌, map, Option, Some, refl, sym, ap, ◌∙◌, if◌then◌else◌}
use Rattle.std.specs.Prelude.{option_map}
use Rattle.go_term_core.specs.decl_core.declared.keys.DeclRef.{DeclRef}
use Rattle.go_term_core.specs.decl_core.TopDecls.{kind_of_form}
use Rattle.go_names_core.specs.block_core.Blocks.{BlocksModel}
use Rattle.go_names_core.specs.block_core.Declarations.{decl_ref}
use Rattle.go_summary_core.specs.table_core.Entries.{Entry}
use Rattle.go_typexpr_core.specs.entry.Meanings.{Shows}
use Rattle.go_typexpr_core.specs.entry.Outlines.{FileOutline}
use Rattle.go_summary_core.specs.declared_core.Laws.{FileDecl, package_decls, written_there}
use Rattle.go_summary_core.specs.declared_core.Places.{positions_are_exact}
use Rattle.go_summary_core.specs.declared_core.Written.{WrittenOf, package_written, position_of, same_decl_place}

module _ (s o : Shows) (p q : List ℕ) (b c : BlocksModel) (es fs : List Entry) (d : DeclRef) where
  placed_alike : (xs : List FileDecl) → position_of (map (written_there s p b es) xs) d ≡ position_of (map (written_there o q c fs) xs) d
  placed_alike [] = refl
  placed_alike (x ∷ xs) = ap (λ (n : Option ℕ). if same_decl_place (decl_ref x.file x.decl.number (kind_of_form x.decl.form)) d then Some 0 else option_map suc n) (placed_alike xs)

  pub written_alike : (os : List FileOutline) → position_of (package_written s p b es os) d ≡ position_of (package_written o q c fs os) d
  written_alike os =
      ap (λ (ws : List WrittenOf). position_of ws d) (positions_are_exact.listed s p b es os)
      ∙ (placed_alike (package_decls os) ∙ sym (ap (λ (ws : List WrittenOf). position_of ws d) (positions_are_exact.listed o q c fs os)))
