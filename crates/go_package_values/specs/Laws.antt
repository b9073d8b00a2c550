-- Laws of the places of a package's declarations.
use Rattle.std.specs.Prelude.{◌≡◌, ℕ, List, length, map}
use Rattle.go_decl_core.specs.declared.keys.DeclRef.{DeclRef}
use Rattle.go_decl_core.specs.TopDecls.{kind_of_form}
use Rattle.go_block_core.specs.Blocks.{BlocksModel}
use Rattle.go_table_core.specs.Entries.{Entry}
use Rattle.go_typexpr_core.specs.entry.Outlines.{FileOutline}
use Rattle.go_typexpr_core.specs.entry.Meanings.{Shows}
use Rattle.go_declared_core.specs.Written.{decls_of, package_written}
use Rattle.go_inline_core.specs.Types.{InlineOf}
use Rattle.go_value_core.specs.Package.{PlacedOf, placed_decls}
use Rattle.go_block_core.specs.Declarations.{decl_ref}

-- which declaration of its package a placed one is
abbrev pub decl_placed : PlacedOf → DeclRef
decl_placed p = decl_ref p.file p.decl.number (kind_of_form p.decl.form)

-- in the list of what is written and in that of the declarations with their places the same declaration stands at each position, whatever
-- types the files write: so both have as many
pub record DeclsStandAlike : Type 0 where
  pub same : (shows : Shows) (path : List ℕ) (b : BlocksModel) (es : List Entry) (types : List (List (ℕ × InlineOf))) (os : List FileOutline)
      → decls_of (package_written shows path b es os) ≡ map decl_placed (placed_decls types os)
  pub as_many : (shows : Shows) (path : List ℕ) (b : BlocksModel) (es : List Entry) (types : List (List (ℕ × InlineOf))) (os : List FileOutline)
      → length (package_written shows path b es os) ≡ length (placed_decls types os)
