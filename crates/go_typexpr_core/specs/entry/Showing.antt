-- What packages show to those that import them.
use Rattle.std.specs.Prelude.{◌≡◌, ℕ, List, [], ◌∷◌, Option, None, if◌then◌else◌}
use Rattle.std.specs.Str.{bytes_eq, chars}
use Rattle.go_path_core.specs.text_core.Text.{exported}
use Rattle.go_term_core.specs.decl_core.declared.keys.DeclRef.{DeclRef}
use Rattle.go_scope_core.specs.block_core.Blocks.{BlocksModel, exports_of}
use Rattle.go_scope_core.specs.block_core.Exports.{ExportsModel}
use Rattle.go_scope_core.specs.block_core.Tables.{in_block}
use Rattle.go_graph_core.specs.Workspaces.{PackageModel}

-- the names that the package of a path shows with their declarations, and none where there is no such package
abbrev pub names_shown : List ExportsModel → List ℕ → List (List ℕ × DeclRef)
names_shown [] path = []
names_shown (p ∷ ps) path = if bytes_eq path p.path then p.names else names_shown ps path

-- the declaration of a name behind the name of the package of a path and a dot: only exported names are seen from other packages
abbrev pub shown_in : List ExportsModel → List ℕ → List ℕ → Option DeclRef
shown_in ps path name = if exported (chars name) then in_block (names_shown ps path) name else None

-- packages with one more behind them, or with another in place of that of its path
abbrev pub with_shown : List ExportsModel → ExportsModel → List ExportsModel
with_shown [] e = e ∷ []
with_shown (p ∷ ps) e = if bytes_eq e.path p.path then e ∷ ps else p ∷ with_shown ps e

-- what a package of these blocks shows behind a dot is what its package block has, where the name is exported
abbrev pub ShowsItsBlock : Type 0
ShowsItsBlock =
    (ps : List ExportsModel) (p : PackageModel) (b : BlocksModel) (name : List ℕ)
    → shown_in (with_shown ps (exports_of p b)) p.0 name ≡ (if exported (chars name) then in_block b.names name else None)

-- and what the others show is as it was
abbrev pub KeepsOthers : Type 0
KeepsOthers =
    (ps : List ExportsModel) (e : ExportsModel) (path name : List ℕ)
    → (path ≡ e.path → ⊥) → shown_in (with_shown ps e) path name ≡ shown_in ps path name
