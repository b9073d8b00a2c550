-- What a package shows to those that import it.
use Rattle.std.specs.Prelude.{refl, ℕ, List, [], ◌∷◌}
use Rattle.std.specs.List.{filter}
use Rattle.std.specs.Str.{chars}
use Rattle.std.specs.Coded.{Coded, code_by, coded×, coded_list, coded_ℕ}
use Rattle.go_tree_nodes.specs.text_core.Text.{exported}
use Rattle.go_decl_core.specs.declared.keys.DeclRef.{DeclRef}
use Rattle.go_decl_core.specs.contracts.keys.DeclRef as decl_ref
use Rattle.go_graph_core.specs.Packages.{Trees}
use Rattle.go_block_core.specs.declared.exports.NamedDecl.{NamedDecl}

-- the path of a package, the name in its clauses, and names of its package block with their declarations
pub record ExportsModel : Type 0 where
  pub path : List ℕ
  pub name : List ℕ
  pub names : List (List ℕ × DeclRef)

abbrev pub exports_model : List ℕ → List ℕ → List (List ℕ × DeclRef) → ExportsModel
exports_model path name names = record { path = path; name = name; names = names }

abbrev pub coded_exports : Coded ExportsModel
coded_exports = code_by (List ℕ × (List ℕ × List (List ℕ × DeclRef))) (coded× (coded_list coded_ℕ) (coded× (coded_list coded_ℕ) (coded_list (coded× (coded_list coded_ℕ) decl_ref.the_row.coded)))) (λ e. (e.path, (e.name, e.names))) (λ p. exports_model p.0 p.1.0 p.1.1) (λ _. refl)

-- a name and its declaration
abbrev pub name_and_decl : NamedDecl → List ℕ × DeclRef
name_and_decl n = (n.name, n.decl)

-- the exported names of a block, with their declarations
abbrev pub exported_names : List (List ℕ × DeclRef) → List (List ℕ × DeclRef)
exported_names block = filter (λ e. exported (chars e.0)) block

-- the name in the clause of the first file, which is that in each clause
abbrev pub clause_name : Trees → List ℕ
clause_name [] = []
clause_name (t ∷ ts) = t.1.name.name
