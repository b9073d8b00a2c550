-- What may go to a thread (`IsSend`), and be seen by several at one time (`IsSync`), as the logic has the two.
use denote.Ref.{NamedLft}
use denote.Param.Send.{IsSend, IsSync}
use Rattle.go_tree_nodes.specs.contracts.files.TopDecl as top_decl
use Rattle.go_handle_core.specs.contracts.types.TypeRef as type_ref
use Rattle.go_handle_core.specs.contracts.signatures.SignatureRef as signature_ref
use Rattle.go_handle_core.specs.contracts.decls.Decl as decl
use Rattle.go_select_core.specs.contracts.levels.path.EmbedPath as embed_path
use Rattle.go_declared_core.specs.contracts.face.Face as face
use Rattle.go_inline_core.specs.contracts.types.InlineTypes as inline_types
use Rattle.go_env_core.specs.contracts.scene.Scene as scene
use Rattle.go_expr_core.specs.contracts.things.Use as use_of
use Rattle.go_body_core.specs.contracts.locals.Local as local

abbrev pub TreesAreSeen : Type 0
TreesAreSeen = IsSync top_decl.the_row

abbrev pub ScenesAreSeen : Type 0
ScenesAreSeen = (κ : NamedLft) → IsSync (scene.the_row κ)

abbrev pub InlineTypesAreSeen : Type 0
InlineTypesAreSeen = IsSync inline_types.the_row

abbrev pub FacesAreSeen : Type 0
FacesAreSeen = (κ μ : NamedLft) → IsSync (face.the_row (type_ref.the_row κ) (signature_ref.the_row μ))

abbrev pub UsesGo : Type 0
UsesGo = (κ : NamedLft) → IsSend (use_of.the_row (decl.the_row κ) embed_path.the_row)

abbrev pub LocalsGo : Type 0
LocalsGo = (κ : NamedLft) → IsSend (local.the_row κ)
