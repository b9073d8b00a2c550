-- What a contract sees of the blocks that are open at a place of a file.
use Rattle.std.specs.Prelude.{refl, ℕ, List}
use Rattle.std.specs.Coded.{Coded, code_by, coded×, coded_list, coded_ℕ}
use Rattle.go_block_core.specs.Blocks.{BlocksModel, coded_blocks}
use Rattle.go_block_core.specs.scope_stack.declared.DeclId.{DeclId}
use Rattle.go_block_core.specs.scope_stack.contracts.DeclId as decl_id

-- the blocks of the package, the number of the file, and the open blocks of the function, the outermost first
pub record ScopesModel : Type 0 where
  pub blocks : BlocksModel
  pub file : ℕ
  pub open_blocks : List (List (List ℕ × DeclId))

abbrev pub scopes_model : BlocksModel → ℕ → List (List (List ℕ × DeclId)) → ScopesModel
scopes_model blocks file open_blocks = record { blocks = blocks; file = file; open_blocks = open_blocks }

abbrev pub coded_scopes : Coded ScopesModel
coded_scopes = code_by (BlocksModel × (ℕ × List (List (List ℕ × DeclId)))) (coded× coded_blocks (coded× coded_ℕ (coded_list (coded_list (coded× (coded_list coded_ℕ) decl_id.the_row.coded))))) (λ s. (s.blocks, (s.file, s.open_blocks))) (λ p. scopes_model p.0 p.1.0 p.1.1) (λ _. refl)
