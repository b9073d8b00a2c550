-- What may cross threads, and be seen by several: trees, tables, faces and scenes, and what is noted of bodies. A level at a time, so that no search is long.
use denote.RattleType.{RattleType}
use denote.Ref.{NamedLft}
use denote.Param.Send.{IsSend, IsSync, sendable}
use Rattle.std.proofs.Crossing as std
use Rattle.std.proofs.MapsCrossing as maps
use Rattle.std.proofs.MapsCrossing.{HashMap-send, HashMap-sync}
use Rattle.go_tree_nodes.proofs.types.Fields.TheLaws.TheKnot as types
use Rattle.go_tree_nodes.proofs.exprs.Expr.TheLaws.TheKnot as exprs
use Rattle.go_tree_nodes.proofs.stmts.Otherwise.TheLaws.TheKnot as stmts
use Rattle.go_term_core.proofs.term.TypeTerm.TheLaws.TheKnot as terms
pub use Rattle.go_block_core.proofs.binding.Binding.TheSendSync as block_Binding
pub use Rattle.go_block_core.proofs.binding.Target.TheSendSync as block_Target
pub use Rattle.go_block_core.proofs.block.Blocks.TheSendSync as block_Blocks
pub use Rattle.go_block_core.proofs.exports.Exports.TheSendSync as block_Exports
pub use Rattle.go_block_core.proofs.exports.ExportsContent.TheSendSync as block_ExportsContent
pub use Rattle.go_block_core.proofs.exports.NamedDecl.TheSendSync as block_NamedDecl
pub use Rattle.go_block_core.proofs.fault.BlockFault.TheSendSync as block_BlockFault
pub use Rattle.go_block_core.proofs.fault.BlockRule.TheSendSync as block_BlockRule
pub use Rattle.go_block_core.proofs.imports.Imported.TheSendSync as block_Imported
pub use Rattle.go_constant_core.proofs.parts.Parts.TheSendSync as constant_Parts
pub use Rattle.go_constant_core.proofs.pieces.Block.TheSendSync as constant_Block
pub use Rattle.go_constant_core.proofs.pieces.Piece.TheSendSync as constant_Piece
pub use Rattle.go_constant_core.proofs.texts.ConstantText.TheSendSync as constant_ConstantText
pub use Rattle.go_constant_core.proofs.texts.Form.TheSendSync as constant_Form
pub use Rattle.go_constant_core.proofs.values.Constant.TheSendSync as constant_Constant
pub use Rattle.go_decl_core.proofs.keys.DeclKey.TheSendSync as decl_DeclKey
pub use Rattle.go_decl_core.proofs.keys.DeclRef.TheSendSync as decl_DeclRef
pub use Rattle.go_decl_core.proofs.places.DeclKind.TheSendSync as decl_DeclKind
pub use Rattle.go_denote_core.proofs.things.Outcome.TheSendSync as denote_Outcome
pub use Rattle.go_expr_core.proofs.things.Use.TheSendSync as expr_Use
pub use Rattle.go_declared_core.proofs.face.Face.TheSendSync as face_Face
pub use Rattle.go_declared_core.proofs.seen.SeenNames.TheSendSync as face_SeenNames
pub use Rattle.go_collections_core.proofs.spelling_index.spellings.Spelling.TheSendSync as index_Spelling
pub use Rattle.go_collections_core.proofs.spelling_index.spellings.Spellings.TheSendSync as index_Spellings
pub use Rattle.go_select_core.proofs.levels.path.EmbedPath.TheSendSync as level_EmbedPath
pub use Rattle.go_collections_core.proofs.name_table.named.NameTable.TheSendSync as named_NameTable
pub use Rattle.go_collections_core.proofs.name_table.places.Places.TheSendSync as named_Places
pub use Rattle.go_local_core.proofs.Fault.TheSendSync as local_Fault
pub use Rattle.go_operand_core.proofs.types.Operand.TheSendSync as operand_Operand
pub use Rattle.go_operand_core.proofs.types.ValueType.TheSendSync as operand_ValueType
pub use Rattle.go_path_core.proofs.import_path.ImportPath.TheSendSync as path_ImportPath
pub use Rattle.go_term_core.proofs.tag.Tag.TheSendSync as term_Tag
pub use Rattle.go_term_core.proofs.term.Basic.TheSendSync as term_Basic
pub use Rattle.go_term_core.proofs.term.Field.TheSendSync as term_Field
pub use Rattle.go_term_core.proofs.term.LocalPlace.TheSendSync as term_LocalPlace
pub use Rattle.go_term_core.proofs.term.MemberPlace.TheSendSync as term_MemberPlace
pub use Rattle.go_text_core.proofs.name.Form.TheSendSync as text_Form
pub use Rattle.go_text_core.proofs.name.Name.TheSendSync as text_Name
pub use Rattle.go_text_core.proofs.rule.Rule.TheSendSync as text_Rule
pub use Rattle.go_text_core.proofs.span.Span.TheSendSync as text_Span
pub use Rattle.go_token_core.proofs.kind.Operator.TheSendSync as token_Operator
pub use Rattle.go_tree_core.proofs.occurrence.Role.TheSendSync as tree_Role
pub use Rattle.go_tree_nodes.proofs.decls.ValueKind.TheSendSync as tree_nodes_ValueKind
pub use Rattle.go_tree_nodes.proofs.exprs.Key.TheSendSync as tree_nodes_Key
pub use Rattle.go_tree_nodes.proofs.files.ImportDecl.TheSendSync as tree_nodes_ImportDecl
pub use Rattle.go_tree_nodes.proofs.files.ImportLine.TheSendSync as tree_nodes_ImportLine
pub use Rattle.go_tree_nodes.proofs.files.ImportName.TheSendSync as tree_nodes_ImportName
pub use Rattle.go_tree_nodes.proofs.files.ImportSpec.TheSendSync as tree_nodes_ImportSpec
pub use Rattle.go_tree_nodes.proofs.files.ImportSpecs.TheSendSync as tree_nodes_ImportSpecs
pub use Rattle.go_tree_nodes.proofs.files.Receiver.TheSendSync as tree_nodes_Receiver
pub use Rattle.go_tree_nodes.proofs.names.Ident.TheSendSync as tree_nodes_Ident
pub use Rattle.go_tree_nodes.proofs.names.Idents.TheSendSync as tree_nodes_Idents
pub use Rattle.go_tree_nodes.proofs.names.NextIdent.TheSendSync as tree_nodes_NextIdent
pub use Rattle.go_tree_nodes.proofs.names.TextLiteral.TheSendSync as tree_nodes_TextLiteral
pub use Rattle.go_tree_nodes.proofs.types.TypeName.TheSendSync as tree_nodes_TypeName
pub use Rattle.go_tree_nodes.proofs.usage.Usage.TheSendSync as tree_nodes_Usage
pub use Rattle.go_universe_core.proofs.Predeclared.TheSendSync as universe_Predeclared
pub use Rattle.std.proofs.alloc.Global.TheSendSync as std_Global
pub use Rattle.std.proofs.boxed.Box.TheSendSync as std_Box
pub use Rattle.std.proofs.hash.BuildHasherDefault.TheSendSync as std_BuildHasherDefault
pub use Rattle.std.proofs.hash.FoldHasher.TheSendSync as std_FoldHasher
pub use Rattle.std.proofs.option.Option.TheSendSync as std_Option
pub use Rattle.std.proofs.result.Result.TheSendSync as std_Result
pub use Rattle.std.proofs.rt.Memory.TheSendSync as std_Memory
pub use Rattle.std.proofs.string.String.TheSendSync as std_String
pub use Rattle.std.proofs.sync.Arc.TheSendSync as std_Arc
pub use Rattle.std.proofs.vec.Vec.TheSendSync as std_Vec
use Rattle.go_tree_nodes.specs.contracts.types.Fields as fields
use Rattle.go_tree_nodes.specs.contracts.types.Results as results
use Rattle.go_tree_nodes.specs.contracts.types.TypeExpr as type_expr
use Rattle.go_tree_nodes.specs.contracts.types.Params as params
use Rattle.go_tree_nodes.specs.contracts.types.Signature as signature
use Rattle.go_tree_nodes.specs.contracts.exprs.Expr as expr
use Rattle.go_tree_nodes.specs.contracts.exprs.CallExpr as call
use Rattle.go_tree_nodes.specs.contracts.exprs.NextExpr as next_expr
use Rattle.go_tree_nodes.specs.contracts.exprs.Exprs as exprs_of
use Rattle.go_tree_nodes.specs.contracts.decls.ValueSpec as value_spec
use Rattle.go_tree_nodes.specs.contracts.decls.Values as values
use Rattle.go_tree_nodes.specs.contracts.decls.ValueLine as value_line
use Rattle.go_tree_nodes.specs.contracts.decls.ValueSpecs as value_specs
use Rattle.go_tree_nodes.specs.contracts.decls.ValueDecl as value_decl
use Rattle.go_tree_nodes.specs.contracts.stmts.Assignment as assignment
use Rattle.go_tree_nodes.specs.contracts.stmts.Update as update
use Rattle.go_tree_nodes.specs.contracts.stmts.Definition as definition
use Rattle.go_tree_nodes.specs.contracts.stmts.Simple as simple
use Rattle.go_tree_nodes.specs.contracts.stmts.InitPart as init_part
use Rattle.go_tree_nodes.specs.contracts.stmts.IfHead as if_head
use Rattle.go_tree_nodes.specs.contracts.stmts.ForHead as for_head
use Rattle.go_tree_nodes.specs.contracts.stmts.Stmt as stmt
use Rattle.go_tree_nodes.specs.contracts.stmts.Line as line
use Rattle.go_tree_nodes.specs.contracts.decls.TypeSpec as type_spec
use Rattle.go_tree_nodes.specs.contracts.decls.TypeLine as type_line
use Rattle.go_tree_nodes.specs.contracts.decls.TypeSpecs as type_specs
use Rattle.go_tree_nodes.specs.contracts.decls.TypeDecl as type_decl
use Rattle.go_tree_nodes.specs.contracts.files.FuncDecl as func_decl
use Rattle.go_tree_nodes.specs.contracts.files.Decl as decl
use Rattle.go_tree_nodes.specs.contracts.files.TopDecl as top_decl
use Rattle.go_tree_nodes.specs.contracts.files.File as file
use Rattle.go_term_core.specs.contracts.term.TypeTerm as term
use Rattle.go_term_core.specs.contracts.term.Signature as term_signature
use Rattle.go_table_core.specs.contracts.entry.DeclaredMethod as declared_method
use Rattle.go_table_core.specs.contracts.entry.TypeEntry as type_entry
use Rattle.go_table_core.specs.contracts.indexed.IndexedTerm as indexed_term
use Rattle.go_table_core.specs.contracts.entry.DefinedType as defined
use Rattle.go_table_core.specs.contracts.table.PackageTypes as package_types
use Rattle.go_declared_core.specs.contracts.shown.DeclaredFace as declared_face
use Rattle.go_declared_core.specs.contracts.shown.PackageFaces as package_faces
use Rattle.go_declared_core.specs.contracts.seen.SeenNames as seen_names
use Rattle.go_collections_core.specs.contracts.name_table.places.Places as name_places
use Rattle.go_decl_core.specs.contracts.places.Places as decl_places
use Rattle.go_typexpr_core.specs.contracts.entry.shown_packages.ShownPackages as shown_packages
use Rattle.go_typexpr_core.specs.contracts.aliases.targets.Aliases as aliases
use Rattle.go_handle_core.specs.contracts.home.Home as home
use Rattle.go_handle_core.specs.contracts.types.TypeRef as type_ref
use Rattle.go_handle_core.specs.contracts.signatures.SignatureRef as signature_ref
use Rattle.go_handle_core.specs.contracts.decls.Decl as decl_of
use Rattle.go_table_core.specs.contracts.table.TypeTable as type_table
use Rattle.go_declared_core.specs.contracts.table.FaceTable as face_table
use Rattle.go_declared_core.specs.contracts.written.WrittenFaces as written_faces
use Rattle.go_declared_core.specs.contracts.types_here.TypesHere as types_here
use Rattle.go_declared_core.specs.contracts.face.Face as face
use Rattle.go_inline_core.specs.contracts.types.InlineTypes as inline_types
use Rattle.go_env_core.specs.contracts.scene.Scene as scene
use Rattle.go_select_core.specs.contracts.levels.path.EmbedPath as embed_path
use Rattle.go_expr_core.specs.contracts.things.Use as use_of
use Rattle.go_body_core.specs.contracts.locals.Local as local

pub ruleset leaves = (index_Spelling.the_send, index_Spelling.the_sync, index_Spellings.the_send, index_Spellings.the_sync, std_BuildHasherDefault.the_field_send, std_BuildHasherDefault.the_send, std_BuildHasherDefault.the_field_sync, std_BuildHasherDefault.the_sync, std_FoldHasher.the_field_send, std_FoldHasher.the_send, std_FoldHasher.the_field_sync, std_FoldHasher.the_sync, std_Option.the_field_send, std_Option.the_send, std_Option.the_field_sync, std_Option.the_sync, std_Result.the_field_send, std_Result.the_send, std_Result.the_field_sync, std_Result.the_sync, std_Memory.the_field_send, std_Memory.the_send, std_Memory.the_field_sync, std_Memory.the_sync, block_Binding.the_field_send, block_Binding.the_send, block_Binding.the_field_sync, block_Binding.the_sync, block_Target.the_field_send, block_Target.the_send, block_Target.the_field_sync, block_Target.the_sync, block_Blocks.the_send, block_Blocks.the_sync, block_Exports.the_send, block_Exports.the_sync, block_ExportsContent.the_field_send, block_ExportsContent.the_send, block_ExportsContent.the_field_sync, block_ExportsContent.the_sync, block_NamedDecl.the_field_send, block_NamedDecl.the_send, block_NamedDecl.the_field_sync, block_NamedDecl.the_sync, block_BlockFault.the_field_send, block_BlockFault.the_send, block_BlockFault.the_field_sync, block_BlockFault.the_sync, block_BlockRule.the_field_send, block_BlockRule.the_send, block_BlockRule.the_field_sync, block_BlockRule.the_sync, block_Imported.the_field_send, block_Imported.the_send, block_Imported.the_field_sync, block_Imported.the_sync, constant_Parts.the_send, constant_Parts.the_sync, constant_Block.the_send, constant_Block.the_sync, constant_Piece.the_send, constant_Piece.the_sync, constant_ConstantText.the_send, constant_ConstantText.the_sync, constant_Form.the_field_send, constant_Form.the_send, constant_Form.the_field_sync, constant_Form.the_sync, constant_Constant.the_field_send, constant_Constant.the_send, constant_Constant.the_field_sync, constant_Constant.the_sync, decl_DeclKey.the_field_send, decl_DeclKey.the_send, decl_DeclKey.the_field_sync, decl_DeclKey.the_sync, decl_DeclRef.the_field_send, decl_DeclRef.the_send, decl_DeclRef.the_field_sync, decl_DeclRef.the_sync, decl_DeclKind.the_field_send, decl_DeclKind.the_send, decl_DeclKind.the_field_sync, decl_DeclKind.the_sync, denote_Outcome.the_field_send, denote_Outcome.the_send, denote_Outcome.the_field_sync, denote_Outcome.the_sync, expr_Use.the_field_send, expr_Use.the_send, expr_Use.the_field_sync, expr_Use.the_sync, face_Face.the_field_send, face_Face.the_send, face_Face.the_field_sync, face_Face.the_sync, level_EmbedPath.the_send, level_EmbedPath.the_sync, local_Fault.the_field_send, local_Fault.the_send, local_Fault.the_field_sync, local_Fault.the_sync, operand_Operand.the_field_send, operand_Operand.the_send, operand_Operand.the_field_sync, operand_Operand.the_sync, operand_ValueType.the_field_send, operand_ValueType.the_send, operand_ValueType.the_field_sync, operand_ValueType.the_sync, path_ImportPath.the_send, path_ImportPath.the_sync, term_Tag.the_send, term_Tag.the_sync, term_Basic.the_field_send, term_Basic.the_send, term_Basic.the_field_sync, term_Basic.the_sync, term_Field.the_field_send, term_Field.the_send, term_Field.the_field_sync, term_Field.the_sync, term_LocalPlace.the_field_send, term_LocalPlace.the_send, term_LocalPlace.the_field_sync, term_LocalPlace.the_sync, term_MemberPlace.the_field_send, term_MemberPlace.the_send, term_MemberPlace.the_field_sync, term_MemberPlace.the_sync, text_Form.the_field_send, text_Form.the_send, text_Form.the_field_sync, text_Form.the_sync, text_Name.the_send, text_Name.the_sync, text_Rule.the_field_send, text_Rule.the_send, text_Rule.the_field_sync, text_Rule.the_sync, text_Span.the_field_send, text_Span.the_send, text_Span.the_field_sync, text_Span.the_sync, token_Operator.the_field_send, token_Operator.the_send, token_Operator.the_field_sync, token_Operator.the_sync, tree_Role.the_field_send, tree_Role.the_send, tree_Role.the_field_sync, tree_Role.the_sync, tree_nodes_ValueKind.the_field_send, tree_nodes_ValueKind.the_send, tree_nodes_ValueKind.the_field_sync, tree_nodes_ValueKind.the_sync, tree_nodes_Key.the_field_send, tree_nodes_Key.the_send, tree_nodes_Key.the_field_sync, tree_nodes_Key.the_sync, tree_nodes_ImportDecl.the_field_send, tree_nodes_ImportDecl.the_send, tree_nodes_ImportDecl.the_field_sync, tree_nodes_ImportDecl.the_sync, tree_nodes_ImportLine.the_field_send, tree_nodes_ImportLine.the_send, tree_nodes_ImportLine.the_field_sync, tree_nodes_ImportLine.the_sync, tree_nodes_ImportName.the_field_send, tree_nodes_ImportName.the_send, tree_nodes_ImportName.the_field_sync, tree_nodes_ImportName.the_sync, tree_nodes_ImportSpec.the_field_send, tree_nodes_ImportSpec.the_send, tree_nodes_ImportSpec.the_field_sync, tree_nodes_ImportSpec.the_sync, tree_nodes_ImportSpecs.the_field_send, tree_nodes_ImportSpecs.the_send, tree_nodes_ImportSpecs.the_field_sync, tree_nodes_ImportSpecs.the_sync, tree_nodes_Receiver.the_field_send, tree_nodes_Receiver.the_send, tree_nodes_Receiver.the_field_sync, tree_nodes_Receiver.the_sync, tree_nodes_Ident.the_field_send, tree_nodes_Ident.the_send, tree_nodes_Ident.the_field_sync, tree_nodes_Ident.the_sync, tree_nodes_Idents.the_field_send, tree_nodes_Idents.the_send, tree_nodes_Idents.the_field_sync, tree_nodes_Idents.the_sync, tree_nodes_NextIdent.the_field_send, tree_nodes_NextIdent.the_send, tree_nodes_NextIdent.the_field_sync, tree_nodes_NextIdent.the_sync, tree_nodes_TextLiteral.the_field_send, tree_nodes_TextLiteral.the_send, tree_nodes_TextLiteral.the_field_sync, tree_nodes_TextLiteral.the_sync, tree_nodes_TypeName.the_field_send, tree_nodes_TypeName.the_send, tree_nodes_TypeName.the_field_sync, tree_nodes_TypeName.the_sync, tree_nodes_Usage.the_field_send, tree_nodes_Usage.the_send, tree_nodes_Usage.the_field_sync, tree_nodes_Usage.the_sync, universe_Predeclared.the_field_send, universe_Predeclared.the_send, universe_Predeclared.the_field_sync, universe_Predeclared.the_sync, HashMap-send, HashMap-sync, std_Arc.the_send, std_Arc.the_sync, std_Box.the_send, std_Box.the_sync, std_String.the_field_send, std_String.the_send, std_String.the_field_sync, std_String.the_sync, std_Vec.the_send, std_Vec.the_sync, std_Global.the_field_send, std_Global.the_send, std_Global.the_field_sync, std_Global.the_sync)

pub fields_row_send : IsSend fields.the_row
fields_row_send = search (leaves, std.crosses, types.crosses, sendable) depth 60 fits 20000

pub fields_send : IsSend (fields.the_field).row
fields_send = search (fields_row_send, leaves, std.crosses, types.crosses, sendable) depth 60 fits 20000

pub fields_row_sync : IsSync fields.the_row
fields_row_sync = search (leaves, std.crosses, types.crosses, sendable) depth 60 fits 20000

pub fields_sync : IsSync (fields.the_field).row
fields_sync = search (fields_row_sync, leaves, std.crosses, types.crosses, sendable) depth 60 fits 20000

pub results_row_send : IsSend results.the_row
results_row_send = search (fields_send, fields_sync, fields_row_send, fields_row_sync, leaves, std.crosses, types.crosses, sendable) depth 60 fits 20000

pub results_send : IsSend (results.the_field).row
results_send = search (results_row_send, fields_send, fields_sync, fields_row_send, fields_row_sync, leaves, std.crosses, types.crosses, sendable) depth 60 fits 20000

pub results_row_sync : IsSync results.the_row
results_row_sync = search (fields_send, fields_sync, fields_row_send, fields_row_sync, leaves, std.crosses, types.crosses, sendable) depth 60 fits 20000

pub results_sync : IsSync (results.the_field).row
results_sync = search (results_row_sync, fields_send, fields_sync, fields_row_send, fields_row_sync, leaves, std.crosses, types.crosses, sendable) depth 60 fits 20000

pub type_expr_row_send : IsSend type_expr.the_row
type_expr_row_send = search (results_send, results_sync, results_row_send, results_row_sync, fields_send, fields_sync, fields_row_send, fields_row_sync, leaves, std.crosses, types.crosses, sendable) depth 60 fits 20000

pub type_expr_send : IsSend (type_expr.the_field).row
type_expr_send = search (type_expr_row_send, results_send, results_sync, results_row_send, results_row_sync, fields_send, fields_sync, fields_row_send, fields_row_sync, leaves, std.crosses, types.crosses, sendable) depth 60 fits 20000

pub type_expr_row_sync : IsSync type_expr.the_row
type_expr_row_sync = search (results_send, results_sync, results_row_send, results_row_sync, fields_send, fields_sync, fields_row_send, fields_row_sync, leaves, std.crosses, types.crosses, sendable) depth 60 fits 20000

pub type_expr_sync : IsSync (type_expr.the_field).row
type_expr_sync = search (type_expr_row_sync, results_send, results_sync, results_row_send, results_row_sync, fields_send, fields_sync, fields_row_send, fields_row_sync, leaves, std.crosses, types.crosses, sendable) depth 60 fits 20000

pub params_row_send : IsSend params.the_row
params_row_send = search (type_expr_send, type_expr_sync, type_expr_row_send, type_expr_row_sync, results_send, results_sync, results_row_send, results_row_sync, fields_send, fields_sync, fields_row_send, fields_row_sync, leaves, std.crosses, types.crosses, sendable) depth 60 fits 20000

pub params_send : IsSend (params.the_field).row
params_send = search (params_row_send, type_expr_send, type_expr_sync, type_expr_row_send, type_expr_row_sync, results_send, results_sync, results_row_send, results_row_sync, fields_send, fields_sync, fields_row_send, fields_row_sync, leaves, std.crosses, types.crosses, sendable) depth 60 fits 20000

pub params_row_sync : IsSync params.the_row
params_row_sync = search (type_expr_send, type_expr_sync, type_expr_row_send, type_expr_row_sync, results_send, results_sync, results_row_send, results_row_sync, fields_send, fields_sync, fields_row_send, fields_row_sync, leaves, std.crosses, types.crosses, sendable) depth 60 fits 20000

pub params_sync : IsSync (params.the_field).row
params_sync = search (params_row_sync, type_expr_send, type_expr_sync, type_expr_row_send, type_expr_row_sync, results_send, results_sync, results_row_send, results_row_sync, fields_send, fields_sync, fields_row_send, fields_row_sync, leaves, std.crosses, types.crosses, sendable) depth 60 fits 20000

pub signature_row_send : IsSend signature.the_row
signature_row_send = search (params_send, params_sync, params_row_send, params_row_sync, type_expr_send, type_expr_sync, type_expr_row_send, type_expr_row_sync, results_send, results_sync, results_row_send, results_row_sync, fields_send, fields_sync, fields_row_send, fields_row_sync, leaves, std.crosses, types.crosses, sendable) depth 60 fits 20000

pub signature_send : IsSend (signature.the_field).row
signature_send = search (signature_row_send, params_send, params_sync, params_row_send, params_row_sync, type_expr_send, type_expr_sync, type_expr_row_send, type_expr_row_sync, results_send, results_sync, results_row_send, results_row_sync, fields_send, fields_sync, fields_row_send, fields_row_sync, leaves, std.crosses, types.crosses, sendable) depth 60 fits 20000

pub signature_row_sync : IsSync signature.the_row
signature_row_sync = search (params_send, params_sync, params_row_send, params_row_sync, type_expr_send, type_expr_sync, type_expr_row_send, type_expr_row_sync, results_send, results_sync, results_row_send, results_row_sync, fields_send, fields_sync, fields_row_send, fields_row_sync, leaves, std.crosses, types.crosses, sendable) depth 60 fits 20000

pub signature_sync : IsSync (signature.the_field).row
signature_sync = search (signature_row_sync, params_send, params_sync, params_row_send, params_row_sync, type_expr_send, type_expr_sync, type_expr_row_send, type_expr_row_sync, results_send, results_sync, results_row_send, results_row_sync, fields_send, fields_sync, fields_row_send, fields_row_sync, leaves, std.crosses, types.crosses, sendable) depth 60 fits 20000

pub expr_row_send : IsSend expr.the_row
expr_row_send = search (signature_send, signature_sync, signature_row_send, signature_row_sync, params_send, params_sync, params_row_send, params_row_sync, type_expr_send, type_expr_sync, type_expr_row_send, type_expr_row_sync, results_send, results_sync, results_row_send, results_row_sync, fields_send, fields_sync, fields_row_send, fields_row_sync, leaves, std.crosses, exprs.crosses, sendable) depth 60 fits 20000

pub expr_send : IsSend (expr.the_field).row
expr_send = search (expr_row_send, signature_send, signature_sync, signature_row_send, signature_row_sync, params_send, params_sync, params_row_send, params_row_sync, type_expr_send, type_expr_sync, type_expr_row_send, type_expr_row_sync, results_send, results_sync, results_row_send, results_row_sync, fields_send, fields_sync, fields_row_send, fields_row_sync, leaves, std.crosses, exprs.crosses, sendable) depth 60 fits 20000

pub expr_row_sync : IsSync expr.the_row
expr_row_sync = search (signature_send, signature_sync, signature_row_send, signature_row_sync, params_send, params_sync, params_row_send, params_row_sync, type_expr_send, type_expr_sync, type_expr_row_send, type_expr_row_sync, results_send, results_sync, results_row_send, results_row_sync, fields_send, fields_sync, fields_row_send, fields_row_sync, leaves, std.crosses, exprs.crosses, sendable) depth 60 fits 20000

pub expr_sync : IsSync (expr.the_field).row
expr_sync = search (expr_row_sync, signature_send, signature_sync, signature_row_send, signature_row_sync, params_send, params_sync, params_row_send, params_row_sync, type_expr_send, type_expr_sync, type_expr_row_send, type_expr_row_sync, results_send, results_sync, results_row_send, results_row_sync, fields_send, fields_sync, fields_row_send, fields_row_sync, leaves, std.crosses, exprs.crosses, sendable) depth 60 fits 20000

pub call_row_send : IsSend call.the_row
call_row_send = search (expr_send, expr_sync, expr_row_send, expr_row_sync, signature_send, signature_sync, signature_row_send, signature_row_sync, params_send, params_sync, params_row_send, params_row_sync, type_expr_send, type_expr_sync, type_expr_row_send, type_expr_row_sync, results_send, results_sync, results_row_send, results_row_sync, fields_send, fields_sync, fields_row_send, fields_row_sync, leaves, std.crosses, exprs.crosses, sendable) depth 60 fits 20000

pub call_send : IsSend (call.the_field).row
call_send = search (call_row_send, expr_send, expr_sync, expr_row_send, expr_row_sync, signature_send, signature_sync, signature_row_send, signature_row_sync, params_send, params_sync, params_row_send, params_row_sync, type_expr_send, type_expr_sync, type_expr_row_send, type_expr_row_sync, results_send, results_sync, results_row_send, results_row_sync, fields_send, fields_sync, fields_row_send, fields_row_sync, leaves, std.crosses, exprs.crosses, sendable) depth 60 fits 20000

pub call_row_sync : IsSync call.the_row
call_row_sync = search (expr_send, expr_sync, expr_row_send, expr_row_sync, signature_send, signature_sync, signature_row_send, signature_row_sync, params_send, params_sync, params_row_send, params_row_sync, type_expr_send, type_expr_sync, type_expr_row_send, type_expr_row_sync, results_send, results_sync, results_row_send, results_row_sync, fields_send, fields_sync, fields_row_send, fields_row_sync, leaves, std.crosses, exprs.crosses, sendable) depth 60 fits 20000

pub call_sync : IsSync (call.the_field).row
call_sync = search (call_row_sync, expr_send, expr_sync, expr_row_send, expr_row_sync, signature_send, signature_sync, signature_row_send, signature_row_sync, params_send, params_sync, params_row_send, params_row_sync, type_expr_send, type_expr_sync, type_expr_row_send, type_expr_row_sync, results_send, results_sync, results_row_send, results_row_sync, fields_send, fields_sync, fields_row_send, fields_row_sync, leaves, std.crosses, exprs.crosses, sendable) depth 60 fits 20000

pub next_expr_row_send : IsSend next_expr.the_row
next_expr_row_send = search (call_send, call_sync, call_row_send, call_row_sync, expr_send, expr_sync, expr_row_send, expr_row_sync, signature_send, signature_sync, signature_row_send, signature_row_sync, params_send, params_sync, params_row_send, params_row_sync, type_expr_send, type_expr_sync, type_expr_row_send, type_expr_row_sync, results_send, results_sync, results_row_send, results_row_sync, fields_send, fields_sync, fields_row_send, fields_row_sync, leaves, std.crosses, sendable) depth 60 fits 20000

pub next_expr_send : IsSend (next_expr.the_field).row
next_expr_send = search (next_expr_row_send, call_send, call_sync, call_row_send, call_row_sync, expr_send, expr_sync, expr_row_send, expr_row_sync, signature_send, signature_sync, signature_row_send, signature_row_sync, params_send, params_sync, params_row_send, params_row_sync, type_expr_send, type_expr_sync, type_expr_row_send, type_expr_row_sync, results_send, results_sync, results_row_send, results_row_sync, fields_send, fields_sync, fields_row_send, fields_row_sync, leaves, std.crosses, sendable) depth 60 fits 20000

pub next_expr_row_sync : IsSync next_expr.the_row
next_expr_row_sync = search (call_send, call_sync, call_row_send, call_row_sync, expr_send, expr_sync, expr_row_send, expr_row_sync, signature_send, signature_sync, signature_row_send, signature_row_sync, params_send, params_sync, params_row_send, params_row_sync, type_expr_send, type_expr_sync, type_expr_row_send, type_expr_row_sync, results_send, results_sync, results_row_send, results_row_sync, fields_send, fields_sync, fields_row_send, fields_row_sync, leaves, std.crosses, sendable) depth 60 fits 20000

pub next_expr_sync : IsSync (next_expr.the_field).row
next_expr_sync = search (next_expr_row_sync, call_send, call_sync, call_row_send, call_row_sync, expr_send, expr_sync, expr_row_send, expr_row_sync, signature_send, signature_sync, signature_row_send, signature_row_sync, params_send, params_sync, params_row_send, params_row_sync, type_expr_send, type_expr_sync, type_expr_row_send, type_expr_row_sync, results_send, results_sync, results_row_send, results_row_sync, fields_send, fields_sync, fields_row_send, fields_row_sync, leaves, std.crosses, sendable) depth 60 fits 20000

pub exprs_of_row_send : IsSend exprs_of.the_row
exprs_of_row_send = search (next_expr_send, next_expr_sync, next_expr_row_send, next_expr_row_sync, call_send, call_sync, call_row_send, call_row_sync, expr_send, expr_sync, expr_row_send, expr_row_sync, signature_send, signature_sync, signature_row_send, signature_row_sync, params_send, params_sync, params_row_send, params_row_sync, type_expr_send, type_expr_sync, type_expr_row_send, type_expr_row_sync, results_send, results_sync, results_row_send, results_row_sync, fields_send, fields_sync, fields_row_send, fields_row_sync, leaves, std.crosses, sendable) depth 60 fits 20000

pub exprs_of_send : IsSend (exprs_of.the_field).row
exprs_of_send = search (exprs_of_row_send, next_expr_send, next_expr_sync, next_expr_row_send, next_expr_row_sync, call_send, call_sync, call_row_send, call_row_sync, expr_send, expr_sync, expr_row_send, expr_row_sync, signature_send, signature_sync, signature_row_send, signature_row_sync, params_send, params_sync, params_row_send, params_row_sync, type_expr_send, type_expr_sync, type_expr_row_send, type_expr_row_sync, results_send, results_sync, results_row_send, results_row_sync, fields_send, fields_sync, fields_row_send, fields_row_sync, leaves, std.crosses, sendable) depth 60 fits 20000

pub exprs_of_row_sync : IsSync exprs_of.the_row
exprs_of_row_sync = search (next_expr_send, next_expr_sync, next_expr_row_send, next_expr_row_sync, call_send, call_sync, call_row_send, call_row_sync, expr_send, expr_sync, expr_row_send, expr_row_sync, signature_send, signature_sync, signature_row_send, signature_row_sync, params_send, params_sync, params_row_send, params_row_sync, type_expr_send, type_expr_sync, type_expr_row_send, type_expr_row_sync, results_send, results_sync, results_row_send, results_row_sync, fields_send, fields_sync, fields_row_send, fields_row_sync, leaves, std.crosses, sendable) depth 60 fits 20000

pub exprs_of_sync : IsSync (exprs_of.the_field).row
exprs_of_sync = search (exprs_of_row_sync, next_expr_send, next_expr_sync, next_expr_row_send, next_expr_row_sync, call_send, call_sync, call_row_send, call_row_sync, expr_send, expr_sync, expr_row_send, expr_row_sync, signature_send, signature_sync, signature_row_send, signature_row_sync, params_send, params_sync, params_row_send, params_row_sync, type_expr_send, type_expr_sync, type_expr_row_send, type_expr_row_sync, results_send, results_sync, results_row_send, results_row_sync, fields_send, fields_sync, fields_row_send, fields_row_sync, leaves, std.crosses, sendable) depth 60 fits 20000

pub value_spec_row_send : IsSend value_spec.the_row
value_spec_row_send = search (exprs_of_send, exprs_of_sync, exprs_of_row_send, exprs_of_row_sync, next_expr_send, next_expr_sync, next_expr_row_send, next_expr_row_sync, call_send, call_sync, call_row_send, call_row_sync, expr_send, expr_sync, expr_row_send, expr_row_sync, signature_send, signature_sync, signature_row_send, signature_row_sync, params_send, params_sync, params_row_send, params_row_sync, type_expr_send, type_expr_sync, type_expr_row_send, type_expr_row_sync, results_send, results_sync, results_row_send, results_row_sync, fields_send, fields_sync, fields_row_send, fields_row_sync, leaves, std.crosses, sendable) depth 60 fits 20000

pub value_spec_send : IsSend (value_spec.the_field).row
value_spec_send = search (value_spec_row_send, exprs_of_send, exprs_of_sync, exprs_of_row_send, exprs_of_row_sync, next_expr_send, next_expr_sync, next_expr_row_send, next_expr_row_sync, call_send, call_sync, call_row_send, call_row_sync, expr_send, expr_sync, expr_row_send, expr_row_sync, signature_send, signature_sync, signature_row_send, signature_row_sync, params_send, params_sync, params_row_send, params_row_sync, type_expr_send, type_expr_sync, type_expr_row_send, type_expr_row_sync, results_send, results_sync, results_row_send, results_row_sync, fields_send, fields_sync, fields_row_send, fields_row_sync, leaves, std.crosses, sendable) depth 60 fits 20000

pub value_spec_row_sync : IsSync value_spec.the_row
value_spec_row_sync = search (exprs_of_send, exprs_of_sync, exprs_of_row_send, exprs_of_row_sync, next_expr_send, next_expr_sync, next_expr_row_send, next_expr_row_sync, call_send, call_sync, call_row_send, call_row_sync, expr_send, expr_sync, expr_row_send, expr_row_sync, signature_send, signature_sync, signature_row_send, signature_row_sync, params_send, params_sync, params_row_send, params_row_sync, type_expr_send, type_expr_sync, type_expr_row_send, type_expr_row_sync, results_send, results_sync, results_row_send, results_row_sync, fields_send, fields_sync, fields_row_send, fields_row_sync, leaves, std.crosses, sendable) depth 60 fits 20000

pub value_spec_sync : IsSync (value_spec.the_field).row
value_spec_sync = search (value_spec_row_sync, exprs_of_send, exprs_of_sync, exprs_of_row_send, exprs_of_row_sync, next_expr_send, next_expr_sync, next_expr_row_send, next_expr_row_sync, call_send, call_sync, call_row_send, call_row_sync, expr_send, expr_sync, expr_row_send, expr_row_sync, signature_send, signature_sync, signature_row_send, signature_row_sync, params_send, params_sync, params_row_send, params_row_sync, type_expr_send, type_expr_sync, type_expr_row_send, type_expr_row_sync, results_send, results_sync, results_row_send, results_row_sync, fields_send, fields_sync, fields_row_send, fields_row_sync, leaves, std.crosses, sendable) depth 60 fits 20000

pub values_row_send : IsSend values.the_row
values_row_send = search (value_spec_send, value_spec_sync, value_spec_row_send, value_spec_row_sync, exprs_of_send, exprs_of_sync, exprs_of_row_send, exprs_of_row_sync, next_expr_send, next_expr_sync, next_expr_row_send, next_expr_row_sync, call_send, call_sync, call_row_send, call_row_sync, expr_send, expr_sync, expr_row_send, expr_row_sync, signature_send, signature_sync, signature_row_send, signature_row_sync, params_send, params_sync, params_row_send, params_row_sync, type_expr_send, type_expr_sync, type_expr_row_send, type_expr_row_sync, results_send, results_sync, results_row_send, results_row_sync, fields_send, fields_sync, fields_row_send, fields_row_sync, leaves, std.crosses, sendable) depth 60 fits 20000

pub values_send : IsSend (values.the_field).row
values_send = search (values_row_send, value_spec_send, value_spec_sync, value_spec_row_send, value_spec_row_sync, exprs_of_send, exprs_of_sync, exprs_of_row_send, exprs_of_row_sync, next_expr_send, next_expr_sync, next_expr_row_send, next_expr_row_sync, call_send, call_sync, call_row_send, call_row_sync, expr_send, expr_sync, expr_row_send, expr_row_sync, signature_send, signature_sync, signature_row_send, signature_row_sync, params_send, params_sync, params_row_send, params_row_sync, type_expr_send, type_expr_sync, type_expr_row_send, type_expr_row_sync, results_send, results_sync, results_row_send, results_row_sync, fields_send, fields_sync, fields_row_send, fields_row_sync, leaves, std.crosses, sendable) depth 60 fits 20000

pub values_row_sync : IsSync values.the_row
values_row_sync = search (value_spec_send, value_spec_sync, value_spec_row_send, value_spec_row_sync, exprs_of_send, exprs_of_sync, exprs_of_row_send, exprs_of_row_sync, next_expr_send, next_expr_sync, next_expr_row_send, next_expr_row_sync, call_send, call_sync, call_row_send, call_row_sync, expr_send, expr_sync, expr_row_send, expr_row_sync, signature_send, signature_sync, signature_row_send, signature_row_sync, params_send, params_sync, params_row_send, params_row_sync, type_expr_send, type_expr_sync, type_expr_row_send, type_expr_row_sync, results_send, results_sync, results_row_send, results_row_sync, fields_send, fields_sync, fields_row_send, fields_row_sync, leaves, std.crosses, sendable) depth 60 fits 20000

pub values_sync : IsSync (values.the_field).row
values_sync = search (values_row_sync, value_spec_send, value_spec_sync, value_spec_row_send, value_spec_row_sync, exprs_of_send, exprs_of_sync, exprs_of_row_send, exprs_of_row_sync, next_expr_send, next_expr_sync, next_expr_row_send, next_expr_row_sync, call_send, call_sync, call_row_send, call_row_sync, expr_send, expr_sync, expr_row_send, expr_row_sync, signature_send, signature_sync, signature_row_send, signature_row_sync, params_send, params_sync, params_row_send, params_row_sync, type_expr_send, type_expr_sync, type_expr_row_send, type_expr_row_sync, results_send, results_sync, results_row_send, results_row_sync, fields_send, fields_sync, fields_row_send, fields_row_sync, leaves, std.crosses, sendable) depth 60 fits 20000

pub value_line_row_send : IsSend value_line.the_row
value_line_row_send = search (values_send, values_sync, values_row_send, values_row_sync, value_spec_send, value_spec_sync, value_spec_row_send, value_spec_row_sync, exprs_of_send, exprs_of_sync, exprs_of_row_send, exprs_of_row_sync, next_expr_send, next_expr_sync, next_expr_row_send, next_expr_row_sync, call_send, call_sync, call_row_send, call_row_sync, expr_send, expr_sync, expr_row_send, expr_row_sync, signature_send, signature_sync, signature_row_send, signature_row_sync, params_send, params_sync, params_row_send, params_row_sync, type_expr_send, type_expr_sync, type_expr_row_send, type_expr_row_sync, results_send, results_sync, results_row_send, results_row_sync, fields_send, fields_sync, fields_row_send, fields_row_sync, leaves, std.crosses, sendable) depth 60 fits 20000

pub value_line_send : IsSend (value_line.the_field).row
value_line_send = search (value_line_row_send, values_send, values_sync, values_row_send, values_row_sync, value_spec_send, value_spec_sync, value_spec_row_send, value_spec_row_sync, exprs_of_send, exprs_of_sync, exprs_of_row_send, exprs_of_row_sync, next_expr_send, next_expr_sync, next_expr_row_send, next_expr_row_sync, call_send, call_sync, call_row_send, call_row_sync, expr_send, expr_sync, expr_row_send, expr_row_sync, signature_send, signature_sync, signature_row_send, signature_row_sync, params_send, params_sync, params_row_send, params_row_sync, type_expr_send, type_expr_sync, type_expr_row_send, type_expr_row_sync, results_send, results_sync, results_row_send, results_row_sync, fields_send, fields_sync, fields_row_send, fields_row_sync, leaves, std.crosses, sendable) depth 60 fits 20000

pub value_line_row_sync : IsSync value_line.the_row
value_line_row_sync = search (values_send, values_sync, values_row_send, values_row_sync, value_spec_send, value_spec_sync, value_spec_row_send, value_spec_row_sync, exprs_of_send, exprs_of_sync, exprs_of_row_send, exprs_of_row_sync, next_expr_send, next_expr_sync, next_expr_row_send, next_expr_row_sync, call_send, call_sync, call_row_send, call_row_sync, expr_send, expr_sync, expr_row_send, expr_row_sync, signature_send, signature_sync, signature_row_send, signature_row_sync, params_send, params_sync, params_row_send, params_row_sync, type_expr_send, type_expr_sync, type_expr_row_send, type_expr_row_sync, results_send, results_sync, results_row_send, results_row_sync, fields_send, fields_sync, fields_row_send, fields_row_sync, leaves, std.crosses, sendable) depth 60 fits 20000

pub value_line_sync : IsSync (value_line.the_field).row
value_line_sync = search (value_line_row_sync, values_send, values_sync, values_row_send, values_row_sync, value_spec_send, value_spec_sync, value_spec_row_send, value_spec_row_sync, exprs_of_send, exprs_of_sync, exprs_of_row_send, exprs_of_row_sync, next_expr_send, next_expr_sync, next_expr_row_send, next_expr_row_sync, call_send, call_sync, call_row_send, call_row_sync, expr_send, expr_sync, expr_row_send, expr_row_sync, signature_send, signature_sync, signature_row_send, signature_row_sync, params_send, params_sync, params_row_send, params_row_sync, type_expr_send, type_expr_sync, type_expr_row_send, type_expr_row_sync, results_send, results_sync, results_row_send, results_row_sync, fields_send, fields_sync, fields_row_send, fields_row_sync, leaves, std.crosses, sendable) depth 60 fits 20000

pub value_specs_row_send : IsSend value_specs.the_row
value_specs_row_send = search (value_line_send, value_line_sync, value_line_row_send, value_line_row_sync, values_send, values_sync, values_row_send, values_row_sync, value_spec_send, value_spec_sync, value_spec_row_send, value_spec_row_sync, exprs_of_send, exprs_of_sync, exprs_of_row_send, exprs_of_row_sync, next_expr_send, next_expr_sync, next_expr_row_send, next_expr_row_sync, call_send, call_sync, call_row_send, call_row_sync, expr_send, expr_sync, expr_row_send, expr_row_sync, signature_send, signature_sync, signature_row_send, signature_row_sync, params_send, params_sync, params_row_send, params_row_sync, type_expr_send, type_expr_sync, type_expr_row_send, type_expr_row_sync, results_send, results_sync, results_row_send, results_row_sync, fields_send, fields_sync, fields_row_send, fields_row_sync, leaves, std.crosses, sendable) depth 60 fits 20000

pub value_specs_send : IsSend (value_specs.the_field).row
value_specs_send = search (value_specs_row_send, value_line_send, value_line_sync, value_line_row_send, value_line_row_sync, values_send, values_sync, values_row_send, values_row_sync, value_spec_send, value_spec_sync, value_spec_row_send, value_spec_row_sync, exprs_of_send, exprs_of_sync, exprs_of_row_send, exprs_of_row_sync, next_expr_send, next_expr_sync, next_expr_row_send, next_expr_row_sync, call_send, call_sync, call_row_send, call_row_sync, expr_send, expr_sync, expr_row_send, expr_row_sync, signature_send, signature_sync, signature_row_send, signature_row_sync, params_send, params_sync, params_row_send, params_row_sync, type_expr_send, type_expr_sync, type_expr_row_send, type_expr_row_sync, results_send, results_sync, results_row_send, results_row_sync, fields_send, fields_sync, fields_row_send, fields_row_sync, leaves, std.crosses, sendable) depth 60 fits 20000

pub value_specs_row_sync : IsSync value_specs.the_row
value_specs_row_sync = search (value_line_send, value_line_sync, value_line_row_send, value_line_row_sync, values_send, values_sync, values_row_send, values_row_sync, value_spec_send, value_spec_sync, value_spec_row_send, value_spec_row_sync, exprs_of_send, exprs_of_sync, exprs_of_row_send, exprs_of_row_sync, next_expr_send, next_expr_sync, next_expr_row_send, next_expr_row_sync, call_send, call_sync, call_row_send, call_row_sync, expr_send, expr_sync, expr_row_send, expr_row_sync, signature_send, signature_sync, signature_row_send, signature_row_sync, params_send, params_sync, params_row_send, params_row_sync, type_expr_send, type_expr_sync, type_expr_row_send, type_expr_row_sync, results_send, results_sync, results_row_send, results_row_sync, fields_send, fields_sync, fields_row_send, fields_row_sync, leaves, std.crosses, sendable) depth 60 fits 20000

pub value_specs_sync : IsSync (value_specs.the_field).row
value_specs_sync = search (value_specs_row_sync, value_line_send, value_line_sync, value_line_row_send, value_line_row_sync, values_send, values_sync, values_row_send, values_row_sync, value_spec_send, value_spec_sync, value_spec_row_send, value_spec_row_sync, exprs_of_send, exprs_of_sync, exprs_of_row_send, exprs_of_row_sync, next_expr_send, next_expr_sync, next_expr_row_send, next_expr_row_sync, call_send, call_sync, call_row_send, call_row_sync, expr_send, expr_sync, expr_row_send, expr_row_sync, signature_send, signature_sync, signature_row_send, signature_row_sync, params_send, params_sync, params_row_send, params_row_sync, type_expr_send, type_expr_sync, type_expr_row_send, type_expr_row_sync, results_send, results_sync, results_row_send, results_row_sync, fields_send, fields_sync, fields_row_send, fields_row_sync, leaves, std.crosses, sendable) depth 60 fits 20000

pub value_decl_row_send : IsSend value_decl.the_row
value_decl_row_send = search (value_specs_send, value_specs_sync, value_specs_row_send, value_specs_row_sync, value_line_send, value_line_sync, value_line_row_send, value_line_row_sync, values_send, values_sync, values_row_send, values_row_sync, value_spec_send, value_spec_sync, value_spec_row_send, value_spec_row_sync, exprs_of_send, exprs_of_sync, exprs_of_row_send, exprs_of_row_sync, next_expr_send, next_expr_sync, next_expr_row_send, next_expr_row_sync, call_send, call_sync, call_row_send, call_row_sync, expr_send, expr_sync, expr_row_send, expr_row_sync, signature_send, signature_sync, signature_row_send, signature_row_sync, params_send, params_sync, params_row_send, params_row_sync, type_expr_send, type_expr_sync, type_expr_row_send, type_expr_row_sync, results_send, results_sync, results_row_send, results_row_sync, fields_send, fields_sync, fields_row_send, fields_row_sync, leaves, std.crosses, sendable) depth 60 fits 20000

pub value_decl_send : IsSend (value_decl.the_field).row
value_decl_send = search (value_decl_row_send, value_specs_send, value_specs_sync, value_specs_row_send, value_specs_row_sync, value_line_send, value_line_sync, value_line_row_send, value_line_row_sync, values_send, values_sync, values_row_send, values_row_sync, value_spec_send, value_spec_sync, value_spec_row_send, value_spec_row_sync, exprs_of_send, exprs_of_sync, exprs_of_row_send, exprs_of_row_sync, next_expr_send, next_expr_sync, next_expr_row_send, next_expr_row_sync, call_send, call_sync, call_row_send, call_row_sync, expr_send, expr_sync, expr_row_send, expr_row_sync, signature_send, signature_sync, signature_row_send, signature_row_sync, params_send, params_sync, params_row_send, params_row_sync, type_expr_send, type_expr_sync, type_expr_row_send, type_expr_row_sync, results_send, results_sync, results_row_send, results_row_sync, fields_send, fields_sync, fields_row_send, fields_row_sync, leaves, std.crosses, sendable) depth 60 fits 20000

pub value_decl_row_sync : IsSync value_decl.the_row
value_decl_row_sync = search (value_specs_send, value_specs_sync, value_specs_row_send, value_specs_row_sync, value_line_send, value_line_sync, value_line_row_send, value_line_row_sync, values_send, values_sync, values_row_send, values_row_sync, value_spec_send, value_spec_sync, value_spec_row_send, value_spec_row_sync, exprs_of_send, exprs_of_sync, exprs_of_row_send, exprs_of_row_sync, next_expr_send, next_expr_sync, next_expr_row_send, next_expr_row_sync, call_send, call_sync, call_row_send, call_row_sync, expr_send, expr_sync, expr_row_send, expr_row_sync, signature_send, signature_sync, signature_row_send, signature_row_sync, params_send, params_sync, params_row_send, params_row_sync, type_expr_send, type_expr_sync, type_expr_row_send, type_expr_row_sync, results_send, results_sync, results_row_send, results_row_sync, fields_send, fields_sync, fields_row_send, fields_row_sync, leaves, std.crosses, sendable) depth 60 fits 20000

pub value_decl_sync : IsSync (value_decl.the_field).row
value_decl_sync = search (value_decl_row_sync, value_specs_send, value_specs_sync, value_specs_row_send, value_specs_row_sync, value_line_send, value_line_sync, value_line_row_send, value_line_row_sync, values_send, values_sync, values_row_send, values_row_sync, value_spec_send, value_spec_sync, value_spec_row_send, value_spec_row_sync, exprs_of_send, exprs_of_sync, exprs_of_row_send, exprs_of_row_sync, next_expr_send, next_expr_sync, next_expr_row_send, next_expr_row_sync, call_send, call_sync, call_row_send, call_row_sync, expr_send, expr_sync, expr_row_send, expr_row_sync, signature_send, signature_sync, signature_row_send, signature_row_sync, params_send, params_sync, params_row_send, params_row_sync, type_expr_send, type_expr_sync, type_expr_row_send, type_expr_row_sync, results_send, results_sync, results_row_send, results_row_sync, fields_send, fields_sync, fields_row_send, fields_row_sync, leaves, std.crosses, sendable) depth 60 fits 20000

pub assignment_row_send : IsSend assignment.the_row
assignment_row_send = search (value_decl_send, value_decl_sync, value_decl_row_send, value_decl_row_sync, value_specs_send, value_specs_sync, value_specs_row_send, value_specs_row_sync, value_line_send, value_line_sync, value_line_row_send, value_line_row_sync, values_send, values_sync, values_row_send, values_row_sync, value_spec_send, value_spec_sync, value_spec_row_send, value_spec_row_sync, exprs_of_send, exprs_of_sync, exprs_of_row_send, exprs_of_row_sync, next_expr_send, next_expr_sync, next_expr_row_send, next_expr_row_sync, call_send, call_sync, call_row_send, call_row_sync, expr_send, expr_sync, expr_row_send, expr_row_sync, signature_send, signature_sync, signature_row_send, signature_row_sync, params_send, params_sync, params_row_send, params_row_sync, type_expr_send, type_expr_sync, type_expr_row_send, type_expr_row_sync, results_send, results_sync, results_row_send, results_row_sync, fields_send, fields_sync, fields_row_send, fields_row_sync, leaves, std.crosses, sendable) depth 60 fits 20000

pub assignment_send : IsSend (assignment.the_field).row
assignment_send = search (assignment_row_send, value_decl_send, value_decl_sync, value_decl_row_send, value_decl_row_sync, value_specs_send, value_specs_sync, value_specs_row_send, value_specs_row_sync, value_line_send, value_line_sync, value_line_row_send, value_line_row_sync, values_send, values_sync, values_row_send, values_row_sync, value_spec_send, value_spec_sync, value_spec_row_send, value_spec_row_sync, exprs_of_send, exprs_of_sync, exprs_of_row_send, exprs_of_row_sync, next_expr_send, next_expr_sync, next_expr_row_send, next_expr_row_sync, call_send, call_sync, call_row_send, call_row_sync, expr_send, expr_sync, expr_row_send, expr_row_sync, signature_send, signature_sync, signature_row_send, signature_row_sync, params_send, params_sync, params_row_send, params_row_sync, type_expr_send, type_expr_sync, type_expr_row_send, type_expr_row_sync, results_send, results_sync, results_row_send, results_row_sync, fields_send, fields_sync, fields_row_send, fields_row_sync, leaves, std.crosses, sendable) depth 60 fits 20000

pub assignment_row_sync : IsSync assignment.the_row
assignment_row_sync = search (value_decl_send, value_decl_sync, value_decl_row_send, value_decl_row_sync, value_specs_send, value_specs_sync, value_specs_row_send, value_specs_row_sync, value_line_send, value_line_sync, value_line_row_send, value_line_row_sync, values_send, values_sync, values_row_send, values_row_sync, value_spec_send, value_spec_sync, value_spec_row_send, value_spec_row_sync, exprs_of_send, exprs_of_sync, exprs_of_row_send, exprs_of_row_sync, next_expr_send, next_expr_sync, next_expr_row_send, next_expr_row_sync, call_send, call_sync, call_row_send, call_row_sync, expr_send, expr_sync, expr_row_send, expr_row_sync, signature_send, signature_sync, signature_row_send, signature_row_sync, params_send, params_sync, params_row_send, params_row_sync, type_expr_send, type_expr_sync, type_expr_row_send, type_expr_row_sync, results_send, results_sync, results_row_send, results_row_sync, fields_send, fields_sync, fields_row_send, fields_row_sync, leaves, std.crosses, sendable) depth 60 fits 20000

pub assignment_sync : IsSync (assignment.the_field).row
assignment_sync = search (assignment_row_sync, value_decl_send, value_decl_sync, value_decl_row_send, value_decl_row_sync, value_specs_send, value_specs_sync, value_specs_row_send, value_specs_row_sync, value_line_send, value_line_sync, value_line_row_send, value_line_row_sync, values_send, values_sync, values_row_send, values_row_sync, value_spec_send, value_spec_sync, value_spec_row_send, value_spec_row_sync, exprs_of_send, exprs_of_sync, exprs_of_row_send, exprs_of_row_sync, next_expr_send, next_expr_sync, next_expr_row_send, next_expr_row_sync, call_send, call_sync, call_row_send, call_row_sync, expr_send, expr_sync, expr_row_send, expr_row_sync, signature_send, signature_sync, signature_row_send, signature_row_sync, params_send, params_sync, params_row_send, params_row_sync, type_expr_send, type_expr_sync, type_expr_row_send, type_expr_row_sync, results_send, results_sync, results_row_send, results_row_sync, fields_send, fields_sync, fields_row_send, fields_row_sync, leaves, std.crosses, sendable) depth 60 fits 20000

pub update_row_send : IsSend update.the_row
update_row_send = search (assignment_send, assignment_sync, assignment_row_send, assignment_row_sync, value_decl_send, value_decl_sync, value_decl_row_send, value_decl_row_sync, value_specs_send, value_specs_sync, value_specs_row_send, value_specs_row_sync, value_line_send, value_line_sync, value_line_row_send, value_line_row_sync, values_send, values_sync, values_row_send, values_row_sync, value_spec_send, value_spec_sync, value_spec_row_send, value_spec_row_sync, exprs_of_send, exprs_of_sync, exprs_of_row_send, exprs_of_row_sync, next_expr_send, next_expr_sync, next_expr_row_send, next_expr_row_sync, call_send, call_sync, call_row_send, call_row_sync, expr_send, expr_sync, expr_row_send, expr_row_sync, signature_send, signature_sync, signature_row_send, signature_row_sync, params_send, params_sync, params_row_send, params_row_sync, type_expr_send, type_expr_sync, type_expr_row_send, type_expr_row_sync, results_send, results_sync, results_row_send, results_row_sync, fields_send, fields_sync, fields_row_send, fields_row_sync, leaves, std.crosses, sendable) depth 60 fits 20000

pub update_send : IsSend (update.the_field).row
update_send = search (update_row_send, assignment_send, assignment_sync, assignment_row_send, assignment_row_sync, value_decl_send, value_decl_sync, value_decl_row_send, value_decl_row_sync, value_specs_send, value_specs_sync, value_specs_row_send, value_specs_row_sync, value_line_send, value_line_sync, value_line_row_send, value_line_row_sync, values_send, values_sync, values_row_send, values_row_sync, value_spec_send, value_spec_sync, value_spec_row_send, value_spec_row_sync, exprs_of_send, exprs_of_sync, exprs_of_row_send, exprs_of_row_sync, next_expr_send, next_expr_sync, next_expr_row_send, next_expr_row_sync, call_send, call_sync, call_row_send, call_row_sync, expr_send, expr_sync, expr_row_send, expr_row_sync, signature_send, signature_sync, signature_row_send, signature_row_sync, params_send, params_sync, params_row_send, params_row_sync, type_expr_send, type_expr_sync, type_expr_row_send, type_expr_row_sync, results_send, results_sync, results_row_send, results_row_sync, fields_send, fields_sync, fields_row_send, fields_row_sync, leaves, std.crosses, sendable) depth 60 fits 20000

pub update_row_sync : IsSync update.the_row
update_row_sync = search (assignment_send, assignment_sync, assignment_row_send, assignment_row_sync, value_decl_send, value_decl_sync, value_decl_row_send, value_decl_row_sync, value_specs_send, value_specs_sync, value_specs_row_send, value_specs_row_sync, value_line_send, value_line_sync, value_line_row_send, value_line_row_sync, values_send, values_sync, values_row_send, values_row_sync, value_spec_send, value_spec_sync, value_spec_row_send, value_spec_row_sync, exprs_of_send, exprs_of_sync, exprs_of_row_send, exprs_of_row_sync, next_expr_send, next_expr_sync, next_expr_row_send, next_expr_row_sync, call_send, call_sync, call_row_send, call_row_sync, expr_send, expr_sync, expr_row_send, expr_row_sync, signature_send, signature_sync, signature_row_send, signature_row_sync, params_send, params_sync, params_row_send, params_row_sync, type_expr_send, type_expr_sync, type_expr_row_send, type_expr_row_sync, results_send, results_sync, results_row_send, results_row_sync, fields_send, fields_sync, fields_row_send, fields_row_sync, leaves, std.crosses, sendable) depth 60 fits 20000

pub update_sync : IsSync (update.the_field).row
update_sync = search (update_row_sync, assignment_send, assignment_sync, assignment_row_send, assignment_row_sync, value_decl_send, value_decl_sync, value_decl_row_send, value_decl_row_sync, value_specs_send, value_specs_sync, value_specs_row_send, value_specs_row_sync, value_line_send, value_line_sync, value_line_row_send, value_line_row_sync, values_send, values_sync, values_row_send, values_row_sync, value_spec_send, value_spec_sync, value_spec_row_send, value_spec_row_sync, exprs_of_send, exprs_of_sync, exprs_of_row_send, exprs_of_row_sync, next_expr_send, next_expr_sync, next_expr_row_send, next_expr_row_sync, call_send, call_sync, call_row_send, call_row_sync, expr_send, expr_sync, expr_row_send, expr_row_sync, signature_send, signature_sync, signature_row_send, signature_row_sync, params_send, params_sync, params_row_send, params_row_sync, type_expr_send, type_expr_sync, type_expr_row_send, type_expr_row_sync, results_send, results_sync, results_row_send, results_row_sync, fields_send, fields_sync, fields_row_send, fields_row_sync, leaves, std.crosses, sendable) depth 60 fits 20000

pub definition_row_send : IsSend definition.the_row
definition_row_send = search (update_send, update_sync, update_row_send, update_row_sync, assignment_send, assignment_sync, assignment_row_send, assignment_row_sync, value_decl_send, value_decl_sync, value_decl_row_send, value_decl_row_sync, value_specs_send, value_specs_sync, value_specs_row_send, value_specs_row_sync, value_line_send, value_line_sync, value_line_row_send, value_line_row_sync, values_send, values_sync, values_row_send, values_row_sync, value_spec_send, value_spec_sync, value_spec_row_send, value_spec_row_sync, exprs_of_send, exprs_of_sync, exprs_of_row_send, exprs_of_row_sync, next_expr_send, next_expr_sync, next_expr_row_send, next_expr_row_sync, call_send, call_sync, call_row_send, call_row_sync, expr_send, expr_sync, expr_row_send, expr_row_sync, signature_send, signature_sync, signature_row_send, signature_row_sync, params_send, params_sync, params_row_send, params_row_sync, type_expr_send, type_expr_sync, type_expr_row_send, type_expr_row_sync, results_send, results_sync, results_row_send, results_row_sync, fields_send, fields_sync, fields_row_send, fields_row_sync, leaves, std.crosses, sendable) depth 60 fits 20000

pub definition_send : IsSend (definition.the_field).row
definition_send = search (definition_row_send, update_send, update_sync, update_row_send, update_row_sync, assignment_send, assignment_sync, assignment_row_send, assignment_row_sync, value_decl_send, value_decl_sync, value_decl_row_send, value_decl_row_sync, value_specs_send, value_specs_sync, value_specs_row_send, value_specs_row_sync, value_line_send, value_line_sync, value_line_row_send, value_line_row_sync, values_send, values_sync, values_row_send, values_row_sync, value_spec_send, value_spec_sync, value_spec_row_send, value_spec_row_sync, exprs_of_send, exprs_of_sync, exprs_of_row_send, exprs_of_row_sync, next_expr_send, next_expr_sync, next_expr_row_send, next_expr_row_sync, call_send, call_sync, call_row_send, call_row_sync, expr_send, expr_sync, expr_row_send, expr_row_sync, signature_send, signature_sync, signature_row_send, signature_row_sync, params_send, params_sync, params_row_send, params_row_sync, type_expr_send, type_expr_sync, type_expr_row_send, type_expr_row_sync, results_send, results_sync, results_row_send, results_row_sync, fields_send, fields_sync, fields_row_send, fields_row_sync, leaves, std.crosses, sendable) depth 60 fits 20000

pub definition_row_sync : IsSync definition.the_row
definition_row_sync = search (update_send, update_sync, update_row_send, update_row_sync, assignment_send, assignment_sync, assignment_row_send, assignment_row_sync, value_decl_send, value_decl_sync, value_decl_row_send, value_decl_row_sync, value_specs_send, value_specs_sync, value_specs_row_send, value_specs_row_sync, value_line_send, value_line_sync, value_line_row_send, value_line_row_sync, values_send, values_sync, values_row_send, values_row_sync, value_spec_send, value_spec_sync, value_spec_row_send, value_spec_row_sync, exprs_of_send, exprs_of_sync, exprs_of_row_send, exprs_of_row_sync, next_expr_send, next_expr_sync, next_expr_row_send, next_expr_row_sync, call_send, call_sync, call_row_send, call_row_sync, expr_send, expr_sync, expr_row_send, expr_row_sync, signature_send, signature_sync, signature_row_send, signature_row_sync, params_send, params_sync, params_row_send, params_row_sync, type_expr_send, type_expr_sync, type_expr_row_send, type_expr_row_sync, results_send, results_sync, results_row_send, results_row_sync, fields_send, fields_sync, fields_row_send, fields_row_sync, leaves, std.crosses, sendable) depth 60 fits 20000

pub definition_sync : IsSync (definition.the_field).row
definition_sync = search (definition_row_sync, update_send, update_sync, update_row_send, update_row_sync, assignment_send, assignment_sync, assignment_row_send, assignment_row_sync, value_decl_send, value_decl_sync, value_decl_row_send, value_decl_row_sync, value_specs_send, value_specs_sync, value_specs_row_send, value_specs_row_sync, value_line_send, value_line_sync, value_line_row_send, value_line_row_sync, values_send, values_sync, values_row_send, values_row_sync, value_spec_send, value_spec_sync, value_spec_row_send, value_spec_row_sync, exprs_of_send, exprs_of_sync, exprs_of_row_send, exprs_of_row_sync, next_expr_send, next_expr_sync, next_expr_row_send, next_expr_row_sync, call_send, call_sync, call_row_send, call_row_sync, expr_send, expr_sync, expr_row_send, expr_row_sync, signature_send, signature_sync, signature_row_send, signature_row_sync, params_send, params_sync, params_row_send, params_row_sync, type_expr_send, type_expr_sync, type_expr_row_send, type_expr_row_sync, results_send, results_sync, results_row_send, results_row_sync, fields_send, fields_sync, fields_row_send, fields_row_sync, leaves, std.crosses, sendable) depth 60 fits 20000

pub simple_row_send : IsSend simple.the_row
simple_row_send = search (definition_send, definition_sync, definition_row_send, definition_row_sync, update_send, update_sync, update_row_send, update_row_sync, assignment_send, assignment_sync, assignment_row_send, assignment_row_sync, value_decl_send, value_decl_sync, value_decl_row_send, value_decl_row_sync, value_specs_send, value_specs_sync, value_specs_row_send, value_specs_row_sync, value_line_send, value_line_sync, value_line_row_send, value_line_row_sync, values_send, values_sync, values_row_send, values_row_sync, value_spec_send, value_spec_sync, value_spec_row_send, value_spec_row_sync, exprs_of_send, exprs_of_sync, exprs_of_row_send, exprs_of_row_sync, next_expr_send, next_expr_sync, next_expr_row_send, next_expr_row_sync, call_send, call_sync, call_row_send, call_row_sync, expr_send, expr_sync, expr_row_send, expr_row_sync, signature_send, signature_sync, signature_row_send, signature_row_sync, params_send, params_sync, params_row_send, params_row_sync, type_expr_send, type_expr_sync, type_expr_row_send, type_expr_row_sync, results_send, results_sync, results_row_send, results_row_sync, fields_send, fields_sync, fields_row_send, fields_row_sync, leaves, std.crosses, sendable) depth 60 fits 20000

pub simple_send : IsSend (simple.the_field).row
simple_send = search (simple_row_send, definition_send, definition_sync, definition_row_send, definition_row_sync, update_send, update_sync, update_row_send, update_row_sync, assignment_send, assignment_sync, assignment_row_send, assignment_row_sync, value_decl_send, value_decl_sync, value_decl_row_send, value_decl_row_sync, value_specs_send, value_specs_sync, value_specs_row_send, value_specs_row_sync, value_line_send, value_line_sync, value_line_row_send, value_line_row_sync, values_send, values_sync, values_row_send, values_row_sync, value_spec_send, value_spec_sync, value_spec_row_send, value_spec_row_sync, exprs_of_send, exprs_of_sync, exprs_of_row_send, exprs_of_row_sync, next_expr_send, next_expr_sync, next_expr_row_send, next_expr_row_sync, call_send, call_sync, call_row_send, call_row_sync, expr_send, expr_sync, expr_row_send, expr_row_sync, signature_send, signature_sync, signature_row_send, signature_row_sync, params_send, params_sync, params_row_send, params_row_sync, type_expr_send, type_expr_sync, type_expr_row_send, type_expr_row_sync, results_send, results_sync, results_row_send, results_row_sync, fields_send, fields_sync, fields_row_send, fields_row_sync, leaves, std.crosses, sendable) depth 60 fits 20000

pub simple_row_sync : IsSync simple.the_row
simple_row_sync = search (definition_send, definition_sync, definition_row_send, definition_row_sync, update_send, update_sync, update_row_send, update_row_sync, assignment_send, assignment_sync, assignment_row_send, assignment_row_sync, value_decl_send, value_decl_sync, value_decl_row_send, value_decl_row_sync, value_specs_send, value_specs_sync, value_specs_row_send, value_specs_row_sync, value_line_send, value_line_sync, value_line_row_send, value_line_row_sync, values_send, values_sync, values_row_send, values_row_sync, value_spec_send, value_spec_sync, value_spec_row_send, value_spec_row_sync, exprs_of_send, exprs_of_sync, exprs_of_row_send, exprs_of_row_sync, next_expr_send, next_expr_sync, next_expr_row_send, next_expr_row_sync, call_send, call_sync, call_row_send, call_row_sync, expr_send, expr_sync, expr_row_send, expr_row_sync, signature_send, signature_sync, signature_row_send, signature_row_sync, params_send, params_sync, params_row_send, params_row_sync, type_expr_send, type_expr_sync, type_expr_row_send, type_expr_row_sync, results_send, results_sync, results_row_send, results_row_sync, fields_send, fields_sync, fields_row_send, fields_row_sync, leaves, std.crosses, sendable) depth 60 fits 20000

pub simple_sync : IsSync (simple.the_field).row
simple_sync = search (simple_row_sync, definition_send, definition_sync, definition_row_send, definition_row_sync, update_send, update_sync, update_row_send, update_row_sync, assignment_send, assignment_sync, assignment_row_send, assignment_row_sync, value_decl_send, value_decl_sync, value_decl_row_send, value_decl_row_sync, value_specs_send, value_specs_sync, value_specs_row_send, value_specs_row_sync, value_line_send, value_line_sync, value_line_row_send, value_line_row_sync, values_send, values_sync, values_row_send, values_row_sync, value_spec_send, value_spec_sync, value_spec_row_send, value_spec_row_sync, exprs_of_send, exprs_of_sync, exprs_of_row_send, exprs_of_row_sync, next_expr_send, next_expr_sync, next_expr_row_send, next_expr_row_sync, call_send, call_sync, call_row_send, call_row_sync, expr_send, expr_sync, expr_row_send, expr_row_sync, signature_send, signature_sync, signature_row_send, signature_row_sync, params_send, params_sync, params_row_send, params_row_sync, type_expr_send, type_expr_sync, type_expr_row_send, type_expr_row_sync, results_send, results_sync, results_row_send, results_row_sync, fields_send, fields_sync, fields_row_send, fields_row_sync, leaves, std.crosses, sendable) depth 60 fits 20000

pub init_part_row_send : IsSend init_part.the_row
init_part_row_send = search (simple_send, simple_sync, simple_row_send, simple_row_sync, definition_send, definition_sync, definition_row_send, definition_row_sync, update_send, update_sync, update_row_send, update_row_sync, assignment_send, assignment_sync, assignment_row_send, assignment_row_sync, value_decl_send, value_decl_sync, value_decl_row_send, value_decl_row_sync, value_specs_send, value_specs_sync, value_specs_row_send, value_specs_row_sync, value_line_send, value_line_sync, value_line_row_send, value_line_row_sync, values_send, values_sync, values_row_send, values_row_sync, value_spec_send, value_spec_sync, value_spec_row_send, value_spec_row_sync, exprs_of_send, exprs_of_sync, exprs_of_row_send, exprs_of_row_sync, next_expr_send, next_expr_sync, next_expr_row_send, next_expr_row_sync, call_send, call_sync, call_row_send, call_row_sync, expr_send, expr_sync, expr_row_send, expr_row_sync, signature_send, signature_sync, signature_row_send, signature_row_sync, params_send, params_sync, params_row_send, params_row_sync, type_expr_send, type_expr_sync, type_expr_row_send, type_expr_row_sync, results_send, results_sync, results_row_send, results_row_sync, fields_send, fields_sync, fields_row_send, fields_row_sync, leaves, std.crosses, sendable) depth 60 fits 20000

pub init_part_send : IsSend (init_part.the_field).row
init_part_send = search (init_part_row_send, simple_send, simple_sync, simple_row_send, simple_row_sync, definition_send, definition_sync, definition_row_send, definition_row_sync, update_send, update_sync, update_row_send, update_row_sync, assignment_send, assignment_sync, assignment_row_send, assignment_row_sync, value_decl_send, value_decl_sync, value_decl_row_send, value_decl_row_sync, value_specs_send, value_specs_sync, value_specs_row_send, value_specs_row_sync, value_line_send, value_line_sync, value_line_row_send, value_line_row_sync, values_send, values_sync, values_row_send, values_row_sync, value_spec_send, value_spec_sync, value_spec_row_send, value_spec_row_sync, exprs_of_send, exprs_of_sync, exprs_of_row_send, exprs_of_row_sync, next_expr_send, next_expr_sync, next_expr_row_send, next_expr_row_sync, call_send, call_sync, call_row_send, call_row_sync, expr_send, expr_sync, expr_row_send, expr_row_sync, signature_send, signature_sync, signature_row_send, signature_row_sync, params_send, params_sync, params_row_send, params_row_sync, type_expr_send, type_expr_sync, type_expr_row_send, type_expr_row_sync, results_send, results_sync, results_row_send, results_row_sync, fields_send, fields_sync, fields_row_send, fields_row_sync, leaves, std.crosses, sendable) depth 60 fits 20000

pub init_part_row_sync : IsSync init_part.the_row
init_part_row_sync = search (simple_send, simple_sync, simple_row_send, simple_row_sync, definition_send, definition_sync, definition_row_send, definition_row_sync, update_send, update_sync, update_row_send, update_row_sync, assignment_send, assignment_sync, assignment_row_send, assignment_row_sync, value_decl_send, value_decl_sync, value_decl_row_send, value_decl_row_sync, value_specs_send, value_specs_sync, value_specs_row_send, value_specs_row_sync, value_line_send, value_line_sync, value_line_row_send, value_line_row_sync, values_send, values_sync, values_row_send, values_row_sync, value_spec_send, value_spec_sync, value_spec_row_send, value_spec_row_sync, exprs_of_send, exprs_of_sync, exprs_of_row_send, exprs_of_row_sync, next_expr_send, next_expr_sync, next_expr_row_send, next_expr_row_sync, call_send, call_sync, call_row_send, call_row_sync, expr_send, expr_sync, expr_row_send, expr_row_sync, signature_send, signature_sync, signature_row_send, signature_row_sync, params_send, params_sync, params_row_send, params_row_sync, type_expr_send, type_expr_sync, type_expr_row_send, type_expr_row_sync, results_send, results_sync, results_row_send, results_row_sync, fields_send, fields_sync, fields_row_send, fields_row_sync, leaves, std.crosses, sendable) depth 60 fits 20000

pub init_part_sync : IsSync (init_part.the_field).row
init_part_sync = search (init_part_row_sync, simple_send, simple_sync, simple_row_send, simple_row_sync, definition_send, definition_sync, definition_row_send, definition_row_sync, update_send, update_sync, update_row_send, update_row_sync, assignment_send, assignment_sync, assignment_row_send, assignment_row_sync, value_decl_send, value_decl_sync, value_decl_row_send, value_decl_row_sync, value_specs_send, value_specs_sync, value_specs_row_send, value_specs_row_sync, value_line_send, value_line_sync, value_line_row_send, value_line_row_sync, values_send, values_sync, values_row_send, values_row_sync, value_spec_send, value_spec_sync, value_spec_row_send, value_spec_row_sync, exprs_of_send, exprs_of_sync, exprs_of_row_send, exprs_of_row_sync, next_expr_send, next_expr_sync, next_expr_row_send, next_expr_row_sync, call_send, call_sync, call_row_send, call_row_sync, expr_send, expr_sync, expr_row_send, expr_row_sync, signature_send, signature_sync, signature_row_send, signature_row_sync, params_send, params_sync, params_row_send, params_row_sync, type_expr_send, type_expr_sync, type_expr_row_send, type_expr_row_sync, results_send, results_sync, results_row_send, results_row_sync, fields_send, fields_sync, fields_row_send, fields_row_sync, leaves, std.crosses, sendable) depth 60 fits 20000

pub if_head_row_send : IsSend if_head.the_row
if_head_row_send = search (init_part_send, init_part_sync, init_part_row_send, init_part_row_sync, simple_send, simple_sync, simple_row_send, simple_row_sync, definition_send, definition_sync, definition_row_send, definition_row_sync, update_send, update_sync, update_row_send, update_row_sync, assignment_send, assignment_sync, assignment_row_send, assignment_row_sync, value_decl_send, value_decl_sync, value_decl_row_send, value_decl_row_sync, value_specs_send, value_specs_sync, value_specs_row_send, value_specs_row_sync, value_line_send, value_line_sync, value_line_row_send, value_line_row_sync, values_send, values_sync, values_row_send, values_row_sync, value_spec_send, value_spec_sync, value_spec_row_send, value_spec_row_sync, exprs_of_send, exprs_of_sync, exprs_of_row_send, exprs_of_row_sync, next_expr_send, next_expr_sync, next_expr_row_send, next_expr_row_sync, call_send, call_sync, call_row_send, call_row_sync, expr_send, expr_sync, expr_row_send, expr_row_sync, signature_send, signature_sync, signature_row_send, signature_row_sync, params_send, params_sync, params_row_send, params_row_sync, type_expr_send, type_expr_sync, type_expr_row_send, type_expr_row_sync, results_send, results_sync, results_row_send, results_row_sync, fields_send, fields_sync, fields_row_send, fields_row_sync, leaves, std.crosses, sendable) depth 60 fits 20000

pub if_head_send : IsSend (if_head.the_field).row
if_head_send = search (if_head_row_send, init_part_send, init_part_sync, init_part_row_send, init_part_row_sync, simple_send, simple_sync, simple_row_send, simple_row_sync, definition_send, definition_sync, definition_row_send, definition_row_sync, update_send, update_sync, update_row_send, update_row_sync, assignment_send, assignment_sync, assignment_row_send, assignment_row_sync, value_decl_send, value_decl_sync, value_decl_row_send, value_decl_row_sync, value_specs_send, value_specs_sync, value_specs_row_send, value_specs_row_sync, value_line_send, value_line_sync, value_line_row_send, value_line_row_sync, values_send, values_sync, values_row_send, values_row_sync, value_spec_send, value_spec_sync, value_spec_row_send, value_spec_row_sync, exprs_of_send, exprs_of_sync, exprs_of_row_send, exprs_of_row_sync, next_expr_send, next_expr_sync, next_expr_row_send, next_expr_row_sync, call_send, call_sync, call_row_send, call_row_sync, expr_send, expr_sync, expr_row_send, expr_row_sync, signature_send, signature_sync, signature_row_send, signature_row_sync, params_send, params_sync, params_row_send, params_row_sync, type_expr_send, type_expr_sync, type_expr_row_send, type_expr_row_sync, results_send, results_sync, results_row_send, results_row_sync, fields_send, fields_sync, fields_row_send, fields_row_sync, leaves, std.crosses, sendable) depth 60 fits 20000

pub if_head_row_sync : IsSync if_head.the_row
if_head_row_sync = search (init_part_send, init_part_sync, init_part_row_send, init_part_row_sync, simple_send, simple_sync, simple_row_send, simple_row_sync, definition_send, definition_sync, definition_row_send, definition_row_sync, update_send, update_sync, update_row_send, update_row_sync, assignment_send, assignment_sync, assignment_row_send, assignment_row_sync, value_decl_send, value_decl_sync, value_decl_row_send, value_decl_row_sync, value_specs_send, value_specs_sync, value_specs_row_send, value_specs_row_sync, value_line_send, value_line_sync, value_line_row_send, value_line_row_sync, values_send, values_sync, values_row_send, values_row_sync, value_spec_send, value_spec_sync, value_spec_row_send, value_spec_row_sync, exprs_of_send, exprs_of_sync, exprs_of_row_send, exprs_of_row_sync, next_expr_send, next_expr_sync, next_expr_row_send, next_expr_row_sync, call_send, call_sync, call_row_send, call_row_sync, expr_send, expr_sync, expr_row_send, expr_row_sync, signature_send, signature_sync, signature_row_send, signature_row_sync, params_send, params_sync, params_row_send, params_row_sync, type_expr_send, type_expr_sync, type_expr_row_send, type_expr_row_sync, results_send, results_sync, results_row_send, results_row_sync, fields_send, fields_sync, fields_row_send, fields_row_sync, leaves, std.crosses, sendable) depth 60 fits 20000

pub if_head_sync : IsSync (if_head.the_field).row
if_head_sync = search (if_head_row_sync, init_part_send, init_part_sync, init_part_row_send, init_part_row_sync, simple_send, simple_sync, simple_row_send, simple_row_sync, definition_send, definition_sync, definition_row_send, definition_row_sync, update_send, update_sync, update_row_send, update_row_sync, assignment_send, assignment_sync, assignment_row_send, assignment_row_sync, value_decl_send, value_decl_sync, value_decl_row_send, value_decl_row_sync, value_specs_send, value_specs_sync, value_specs_row_send, value_specs_row_sync, value_line_send, value_line_sync, value_line_row_send, value_line_row_sync, values_send, values_sync, values_row_send, values_row_sync, value_spec_send, value_spec_sync, value_spec_row_send, value_spec_row_sync, exprs_of_send, exprs_of_sync, exprs_of_row_send, exprs_of_row_sync, next_expr_send, next_expr_sync, next_expr_row_send, next_expr_row_sync, call_send, call_sync, call_row_send, call_row_sync, expr_send, expr_sync, expr_row_send, expr_row_sync, signature_send, signature_sync, signature_row_send, signature_row_sync, params_send, params_sync, params_row_send, params_row_sync, type_expr_send, type_expr_sync, type_expr_row_send, type_expr_row_sync, results_send, results_sync, results_row_send, results_row_sync, fields_send, fields_sync, fields_row_send, fields_row_sync, leaves, std.crosses, sendable) depth 60 fits 20000

pub for_head_row_send : IsSend for_head.the_row
for_head_row_send = search (if_head_send, if_head_sync, if_head_row_send, if_head_row_sync, init_part_send, init_part_sync, init_part_row_send, init_part_row_sync, simple_send, simple_sync, simple_row_send, simple_row_sync, definition_send, definition_sync, definition_row_send, definition_row_sync, update_send, update_sync, update_row_send, update_row_sync, assignment_send, assignment_sync, assignment_row_send, assignment_row_sync, value_decl_send, value_decl_sync, value_decl_row_send, value_decl_row_sync, value_specs_send, value_specs_sync, value_specs_row_send, value_specs_row_sync, value_line_send, value_line_sync, value_line_row_send, value_line_row_sync, values_send, values_sync, values_row_send, values_row_sync, value_spec_send, value_spec_sync, value_spec_row_send, value_spec_row_sync, exprs_of_send, exprs_of_sync, exprs_of_row_send, exprs_of_row_sync, next_expr_send, next_expr_sync, next_expr_row_send, next_expr_row_sync, call_send, call_sync, call_row_send, call_row_sync, expr_send, expr_sync, expr_row_send, expr_row_sync, signature_send, signature_sync, signature_row_send, signature_row_sync, params_send, params_sync, params_row_send, params_row_sync, type_expr_send, type_expr_sync, type_expr_row_send, type_expr_row_sync, results_send, results_sync, results_row_send, results_row_sync, fields_send, fields_sync, fields_row_send, fields_row_sync, leaves, std.crosses, sendable) depth 60 fits 20000

pub for_head_send : IsSend (for_head.the_field).row
for_head_send = search (for_head_row_send, if_head_send, if_head_sync, if_head_row_send, if_head_row_sync, init_part_send, init_part_sync, init_part_row_send, init_part_row_sync, simple_send, simple_sync, simple_row_send, simple_row_sync, definition_send, definition_sync, definition_row_send, definition_row_sync, update_send, update_sync, update_row_send, update_row_sync, assignment_send, assignment_sync, assignment_row_send, assignment_row_sync, value_decl_send, value_decl_sync, value_decl_row_send, value_decl_row_sync, value_specs_send, value_specs_sync, value_specs_row_send, value_specs_row_sync, value_line_send, value_line_sync, value_line_row_send, value_line_row_sync, values_send, values_sync, values_row_send, values_row_sync, value_spec_send, value_spec_sync, value_spec_row_send, value_spec_row_sync, exprs_of_send, exprs_of_sync, exprs_of_row_send, exprs_of_row_sync, next_expr_send, next_expr_sync, next_expr_row_send, next_expr_row_sync, call_send, call_sync, call_row_send, call_row_sync, expr_send, expr_sync, expr_row_send, expr_row_sync, signature_send, signature_sync, signature_row_send, signature_row_sync, params_send, params_sync, params_row_send, params_row_sync, type_expr_send, type_expr_sync, type_expr_row_send, type_expr_row_sync, results_send, results_sync, results_row_send, results_row_sync, fields_send, fields_sync, fields_row_send, fields_row_sync, leaves, std.crosses, sendable) depth 60 fits 20000

pub for_head_row_sync : IsSync for_head.the_row
for_head_row_sync = search (if_head_send, if_head_sync, if_head_row_send, if_head_row_sync, init_part_send, init_part_sync, init_part_row_send, init_part_row_sync, simple_send, simple_sync, simple_row_send, simple_row_sync, definition_send, definition_sync, definition_row_send, definition_row_sync, update_send, update_sync, update_row_send, update_row_sync, assignment_send, assignment_sync, assignment_row_send, assignment_row_sync, value_decl_send, value_decl_sync, value_decl_row_send, value_decl_row_sync, value_specs_send, value_specs_sync, value_specs_row_send, value_specs_row_sync, value_line_send, value_line_sync, value_line_row_send, value_line_row_sync, values_send, values_sync, values_row_send, values_row_sync, value_spec_send, value_spec_sync, value_spec_row_send, value_spec_row_sync, exprs_of_send, exprs_of_sync, exprs_of_row_send, exprs_of_row_sync, next_expr_send, next_expr_sync, next_expr_row_send, next_expr_row_sync, call_send, call_sync, call_row_send, call_row_sync, expr_send, expr_sync, expr_row_send, expr_row_sync, signature_send, signature_sync, signature_row_send, signature_row_sync, params_send, params_sync, params_row_send, params_row_sync, type_expr_send, type_expr_sync, type_expr_row_send, type_expr_row_sync, results_send, results_sync, results_row_send, results_row_sync, fields_send, fields_sync, fields_row_send, fields_row_sync, leaves, std.crosses, sendable) depth 60 fits 20000

pub for_head_sync : IsSync (for_head.the_field).row
for_head_sync = search (for_head_row_sync, if_head_send, if_head_sync, if_head_row_send, if_head_row_sync, init_part_send, init_part_sync, init_part_row_send, init_part_row_sync, simple_send, simple_sync, simple_row_send, simple_row_sync, definition_send, definition_sync, definition_row_send, definition_row_sync, update_send, update_sync, update_row_send, update_row_sync, assignment_send, assignment_sync, assignment_row_send, assignment_row_sync, value_decl_send, value_decl_sync, value_decl_row_send, value_decl_row_sync, value_specs_send, value_specs_sync, value_specs_row_send, value_specs_row_sync, value_line_send, value_line_sync, value_line_row_send, value_line_row_sync, values_send, values_sync, values_row_send, values_row_sync, value_spec_send, value_spec_sync, value_spec_row_send, value_spec_row_sync, exprs_of_send, exprs_of_sync, exprs_of_row_send, exprs_of_row_sync, next_expr_send, next_expr_sync, next_expr_row_send, next_expr_row_sync, call_send, call_sync, call_row_send, call_row_sync, expr_send, expr_sync, expr_row_send, expr_row_sync, signature_send, signature_sync, signature_row_send, signature_row_sync, params_send, params_sync, params_row_send, params_row_sync, type_expr_send, type_expr_sync, type_expr_row_send, type_expr_row_sync, results_send, results_sync, results_row_send, results_row_sync, fields_send, fields_sync, fields_row_send, fields_row_sync, leaves, std.crosses, sendable) depth 60 fits 20000

pub stmt_row_send : IsSend stmt.the_row
stmt_row_send = search (for_head_send, for_head_sync, for_head_row_send, for_head_row_sync, if_head_send, if_head_sync, if_head_row_send, if_head_row_sync, init_part_send, init_part_sync, init_part_row_send, init_part_row_sync, simple_send, simple_sync, simple_row_send, simple_row_sync, definition_send, definition_sync, definition_row_send, definition_row_sync, update_send, update_sync, update_row_send, update_row_sync, assignment_send, assignment_sync, assignment_row_send, assignment_row_sync, value_decl_send, value_decl_sync, value_decl_row_send, value_decl_row_sync, value_specs_send, value_specs_sync, value_specs_row_send, value_specs_row_sync, value_line_send, value_line_sync, value_line_row_send, value_line_row_sync, values_send, values_sync, values_row_send, values_row_sync, value_spec_send, value_spec_sync, value_spec_row_send, value_spec_row_sync, exprs_of_send, exprs_of_sync, exprs_of_row_send, exprs_of_row_sync, next_expr_send, next_expr_sync, next_expr_row_send, next_expr_row_sync, call_send, call_sync, call_row_send, call_row_sync, expr_send, expr_sync, expr_row_send, expr_row_sync, signature_send, signature_sync, signature_row_send, signature_row_sync, params_send, params_sync, params_row_send, params_row_sync, type_expr_send, type_expr_sync, type_expr_row_send, type_expr_row_sync, results_send, results_sync, results_row_send, results_row_sync, fields_send, fields_sync, fields_row_send, fields_row_sync, leaves, std.crosses, stmts.crosses, sendable) depth 60 fits 20000

pub stmt_send : IsSend (stmt.the_field).row
stmt_send = search (stmt_row_send, for_head_send, for_head_sync, for_head_row_send, for_head_row_sync, if_head_send, if_head_sync, if_head_row_send, if_head_row_sync, init_part_send, init_part_sync, init_part_row_send, init_part_row_sync, simple_send, simple_sync, simple_row_send, simple_row_sync, definition_send, definition_sync, definition_row_send, definition_row_sync, update_send, update_sync, update_row_send, update_row_sync, assignment_send, assignment_sync, assignment_row_send, assignment_row_sync, value_decl_send, value_decl_sync, value_decl_row_send, value_decl_row_sync, value_specs_send, value_specs_sync, value_specs_row_send, value_specs_row_sync, value_line_send, value_line_sync, value_line_row_send, value_line_row_sync, values_send, values_sync, values_row_send, values_row_sync, value_spec_send, value_spec_sync, value_spec_row_send, value_spec_row_sync, exprs_of_send, exprs_of_sync, exprs_of_row_send, exprs_of_row_sync, next_expr_send, next_expr_sync, next_expr_row_send, next_expr_row_sync, call_send, call_sync, call_row_send, call_row_sync, expr_send, expr_sync, expr_row_send, expr_row_sync, signature_send, signature_sync, signature_row_send, signature_row_sync, params_send, params_sync, params_row_send, params_row_sync, type_expr_send, type_expr_sync, type_expr_row_send, type_expr_row_sync, results_send, results_sync, results_row_send, results_row_sync, fields_send, fields_sync, fields_row_send, fields_row_sync, leaves, std.crosses, stmts.crosses, sendable) depth 60 fits 20000

pub stmt_row_sync : IsSync stmt.the_row
stmt_row_sync = search (for_head_send, for_head_sync, for_head_row_send, for_head_row_sync, if_head_send, if_head_sync, if_head_row_send, if_head_row_sync, init_part_send, init_part_sync, init_part_row_send, init_part_row_sync, simple_send, simple_sync, simple_row_send, simple_row_sync, definition_send, definition_sync, definition_row_send, definition_row_sync, update_send, update_sync, update_row_send, update_row_sync, assignment_send, assignment_sync, assignment_row_send, assignment_row_sync, value_decl_send, value_decl_sync, value_decl_row_send, value_decl_row_sync, value_specs_send, value_specs_sync, value_specs_row_send, value_specs_row_sync, value_line_send, value_line_sync, value_line_row_send, value_line_row_sync, values_send, values_sync, values_row_send, values_row_sync, value_spec_send, value_spec_sync, value_spec_row_send, value_spec_row_sync, exprs_of_send, exprs_of_sync, exprs_of_row_send, exprs_of_row_sync, next_expr_send, next_expr_sync, next_expr_row_send, next_expr_row_sync, call_send, call_sync, call_row_send, call_row_sync, expr_send, expr_sync, expr_row_send, expr_row_sync, signature_send, signature_sync, signature_row_send, signature_row_sync, params_send, params_sync, params_row_send, params_row_sync, type_expr_send, type_expr_sync, type_expr_row_send, type_expr_row_sync, results_send, results_sync, results_row_send, results_row_sync, fields_send, fields_sync, fields_row_send, fields_row_sync, leaves, std.crosses, stmts.crosses, sendable) depth 60 fits 20000

pub stmt_sync : IsSync (stmt.the_field).row
stmt_sync = search (stmt_row_sync, for_head_send, for_head_sync, for_head_row_send, for_head_row_sync, if_head_send, if_head_sync, if_head_row_send, if_head_row_sync, init_part_send, init_part_sync, init_part_row_send, init_part_row_sync, simple_send, simple_sync, simple_row_send, simple_row_sync, definition_send, definition_sync, definition_row_send, definition_row_sync, update_send, update_sync, update_row_send, update_row_sync, assignment_send, assignment_sync, assignment_row_send, assignment_row_sync, value_decl_send, value_decl_sync, value_decl_row_send, value_decl_row_sync, value_specs_send, value_specs_sync, value_specs_row_send, value_specs_row_sync, value_line_send, value_line_sync, value_line_row_send, value_line_row_sync, values_send, values_sync, values_row_send, values_row_sync, value_spec_send, value_spec_sync, value_spec_row_send, value_spec_row_sync, exprs_of_send, exprs_of_sync, exprs_of_row_send, exprs_of_row_sync, next_expr_send, next_expr_sync, next_expr_row_send, next_expr_row_sync, call_send, call_sync, call_row_send, call_row_sync, expr_send, expr_sync, expr_row_send, expr_row_sync, signature_send, signature_sync, signature_row_send, signature_row_sync, params_send, params_sync, params_row_send, params_row_sync, type_expr_send, type_expr_sync, type_expr_row_send, type_expr_row_sync, results_send, results_sync, results_row_send, results_row_sync, fields_send, fields_sync, fields_row_send, fields_row_sync, leaves, std.crosses, stmts.crosses, sendable) depth 60 fits 20000

pub line_row_send : IsSend line.the_row
line_row_send = search (stmt_send, stmt_sync, stmt_row_send, stmt_row_sync, for_head_send, for_head_sync, for_head_row_send, for_head_row_sync, if_head_send, if_head_sync, if_head_row_send, if_head_row_sync, init_part_send, init_part_sync, init_part_row_send, init_part_row_sync, simple_send, simple_sync, simple_row_send, simple_row_sync, definition_send, definition_sync, definition_row_send, definition_row_sync, update_send, update_sync, update_row_send, update_row_sync, assignment_send, assignment_sync, assignment_row_send, assignment_row_sync, value_decl_send, value_decl_sync, value_decl_row_send, value_decl_row_sync, value_specs_send, value_specs_sync, value_specs_row_send, value_specs_row_sync, value_line_send, value_line_sync, value_line_row_send, value_line_row_sync, values_send, values_sync, values_row_send, values_row_sync, value_spec_send, value_spec_sync, value_spec_row_send, value_spec_row_sync, exprs_of_send, exprs_of_sync, exprs_of_row_send, exprs_of_row_sync, next_expr_send, next_expr_sync, next_expr_row_send, next_expr_row_sync, call_send, call_sync, call_row_send, call_row_sync, expr_send, expr_sync, expr_row_send, expr_row_sync, signature_send, signature_sync, signature_row_send, signature_row_sync, params_send, params_sync, params_row_send, params_row_sync, type_expr_send, type_expr_sync, type_expr_row_send, type_expr_row_sync, results_send, results_sync, results_row_send, results_row_sync, fields_send, fields_sync, fields_row_send, fields_row_sync, leaves, std.crosses, stmts.crosses, sendable) depth 60 fits 20000

pub line_send : IsSend (line.the_field).row
line_send = search (line_row_send, stmt_send, stmt_sync, stmt_row_send, stmt_row_sync, for_head_send, for_head_sync, for_head_row_send, for_head_row_sync, if_head_send, if_head_sync, if_head_row_send, if_head_row_sync, init_part_send, init_part_sync, init_part_row_send, init_part_row_sync, simple_send, simple_sync, simple_row_send, simple_row_sync, definition_send, definition_sync, definition_row_send, definition_row_sync, update_send, update_sync, update_row_send, update_row_sync, assignment_send, assignment_sync, assignment_row_send, assignment_row_sync, value_decl_send, value_decl_sync, value_decl_row_send, value_decl_row_sync, value_specs_send, value_specs_sync, value_specs_row_send, value_specs_row_sync, value_line_send, value_line_sync, value_line_row_send, value_line_row_sync, values_send, values_sync, values_row_send, values_row_sync, value_spec_send, value_spec_sync, value_spec_row_send, value_spec_row_sync, exprs_of_send, exprs_of_sync, exprs_of_row_send, exprs_of_row_sync, next_expr_send, next_expr_sync, next_expr_row_send, next_expr_row_sync, call_send, call_sync, call_row_send, call_row_sync, expr_send, expr_sync, expr_row_send, expr_row_sync, signature_send, signature_sync, signature_row_send, signature_row_sync, params_send, params_sync, params_row_send, params_row_sync, type_expr_send, type_expr_sync, type_expr_row_send, type_expr_row_sync, results_send, results_sync, results_row_send, results_row_sync, fields_send, fields_sync, fields_row_send, fields_row_sync, leaves, std.crosses, stmts.crosses, sendable) depth 60 fits 20000

pub line_row_sync : IsSync line.the_row
line_row_sync = search (stmt_send, stmt_sync, stmt_row_send, stmt_row_sync, for_head_send, for_head_sync, for_head_row_send, for_head_row_sync, if_head_send, if_head_sync, if_head_row_send, if_head_row_sync, init_part_send, init_part_sync, init_part_row_send, init_part_row_sync, simple_send, simple_sync, simple_row_send, simple_row_sync, definition_send, definition_sync, definition_row_send, definition_row_sync, update_send, update_sync, update_row_send, update_row_sync, assignment_send, assignment_sync, assignment_row_send, assignment_row_sync, value_decl_send, value_decl_sync, value_decl_row_send, value_decl_row_sync, value_specs_send, value_specs_sync, value_specs_row_send, value_specs_row_sync, value_line_send, value_line_sync, value_line_row_send, value_line_row_sync, values_send, values_sync, values_row_send, values_row_sync, value_spec_send, value_spec_sync, value_spec_row_send, value_spec_row_sync, exprs_of_send, exprs_of_sync, exprs_of_row_send, exprs_of_row_sync, next_expr_send, next_expr_sync, next_expr_row_send, next_expr_row_sync, call_send, call_sync, call_row_send, call_row_sync, expr_send, expr_sync, expr_row_send, expr_row_sync, signature_send, signature_sync, signature_row_send, signature_row_sync, params_send, params_sync, params_row_send, params_row_sync, type_expr_send, type_expr_sync, type_expr_row_send, type_expr_row_sync, results_send, results_sync, results_row_send, results_row_sync, fields_send, fields_sync, fields_row_send, fields_row_sync, leaves, std.crosses, stmts.crosses, sendable) depth 60 fits 20000

pub line_sync : IsSync (line.the_field).row
line_sync = search (line_row_sync, stmt_send, stmt_sync, stmt_row_send, stmt_row_sync, for_head_send, for_head_sync, for_head_row_send, for_head_row_sync, if_head_send, if_head_sync, if_head_row_send, if_head_row_sync, init_part_send, init_part_sync, init_part_row_send, init_part_row_sync, simple_send, simple_sync, simple_row_send, simple_row_sync, definition_send, definition_sync, definition_row_send, definition_row_sync, update_send, update_sync, update_row_send, update_row_sync, assignment_send, assignment_sync, assignment_row_send, assignment_row_sync, value_decl_send, value_decl_sync, value_decl_row_send, value_decl_row_sync, value_specs_send, value_specs_sync, value_specs_row_send, value_specs_row_sync, value_line_send, value_line_sync, value_line_row_send, value_line_row_sync, values_send, values_sync, values_row_send, values_row_sync, value_spec_send, value_spec_sync, value_spec_row_send, value_spec_row_sync, exprs_of_send, exprs_of_sync, exprs_of_row_send, exprs_of_row_sync, next_expr_send, next_expr_sync, next_expr_row_send, next_expr_row_sync, call_send, call_sync, call_row_send, call_row_sync, expr_send, expr_sync, expr_row_send, expr_row_sync, signature_send, signature_sync, signature_row_send, signature_row_sync, params_send, params_sync, params_row_send, params_row_sync, type_expr_send, type_expr_sync, type_expr_row_send, type_expr_row_sync, results_send, results_sync, results_row_send, results_row_sync, fields_send, fields_sync, fields_row_send, fields_row_sync, leaves, std.crosses, stmts.crosses, sendable) depth 60 fits 20000

pub type_spec_row_send : IsSend type_spec.the_row
type_spec_row_send = search (line_send, line_sync, line_row_send, line_row_sync, stmt_send, stmt_sync, stmt_row_send, stmt_row_sync, for_head_send, for_head_sync, for_head_row_send, for_head_row_sync, if_head_send, if_head_sync, if_head_row_send, if_head_row_sync, init_part_send, init_part_sync, init_part_row_send, init_part_row_sync, simple_send, simple_sync, simple_row_send, simple_row_sync, definition_send, definition_sync, definition_row_send, definition_row_sync, update_send, update_sync, update_row_send, update_row_sync, assignment_send, assignment_sync, assignment_row_send, assignment_row_sync, value_decl_send, value_decl_sync, value_decl_row_send, value_decl_row_sync, value_specs_send, value_specs_sync, value_specs_row_send, value_specs_row_sync, value_line_send, value_line_sync, value_line_row_send, value_line_row_sync, values_send, values_sync, values_row_send, values_row_sync, value_spec_send, value_spec_sync, value_spec_row_send, value_spec_row_sync, exprs_of_send, exprs_of_sync, exprs_of_row_send, exprs_of_row_sync, next_expr_send, next_expr_sync, next_expr_row_send, next_expr_row_sync, call_send, call_sync, call_row_send, call_row_sync, expr_send, expr_sync, expr_row_send, expr_row_sync, signature_send, signature_sync, signature_row_send, signature_row_sync, params_send, params_sync, params_row_send, params_row_sync, type_expr_send, type_expr_sync, type_expr_row_send, type_expr_row_sync, results_send, results_sync, results_row_send, results_row_sync, fields_send, fields_sync, fields_row_send, fields_row_sync, leaves, std.crosses, sendable) depth 60 fits 20000

pub type_spec_send : IsSend (type_spec.the_field).row
type_spec_send = search (type_spec_row_send, line_send, line_sync, line_row_send, line_row_sync, stmt_send, stmt_sync, stmt_row_send, stmt_row_sync, for_head_send, for_head_sync, for_head_row_send, for_head_row_sync, if_head_send, if_head_sync, if_head_row_send, if_head_row_sync, init_part_send, init_part_sync, init_part_row_send, init_part_row_sync, simple_send, simple_sync, simple_row_send, simple_row_sync, definition_send, definition_sync, definition_row_send, definition_row_sync, update_send, update_sync, update_row_send, update_row_sync, assignment_send, assignment_sync, assignment_row_send, assignment_row_sync, value_decl_send, value_decl_sync, value_decl_row_send, value_decl_row_sync, value_specs_send, value_specs_sync, value_specs_row_send, value_specs_row_sync, value_line_send, value_line_sync, value_line_row_send, value_line_row_sync, values_send, values_sync, values_row_send, values_row_sync, value_spec_send, value_spec_sync, value_spec_row_send, value_spec_row_sync, exprs_of_send, exprs_of_sync, exprs_of_row_send, exprs_of_row_sync, next_expr_send, next_expr_sync, next_expr_row_send, next_expr_row_sync, call_send, call_sync, call_row_send, call_row_sync, expr_send, expr_sync, expr_row_send, expr_row_sync, signature_send, signature_sync, signature_row_send, signature_row_sync, params_send, params_sync, params_row_send, params_row_sync, type_expr_send, type_expr_sync, type_expr_row_send, type_expr_row_sync, results_send, results_sync, results_row_send, results_row_sync, fields_send, fields_sync, fields_row_send, fields_row_sync, leaves, std.crosses, sendable) depth 60 fits 20000

pub type_spec_row_sync : IsSync type_spec.the_row
type_spec_row_sync = search (line_send, line_sync, line_row_send, line_row_sync, stmt_send, stmt_sync, stmt_row_send, stmt_row_sync, for_head_send, for_head_sync, for_head_row_send, for_head_row_sync, if_head_send, if_head_sync, if_head_row_send, if_head_row_sync, init_part_send, init_part_sync, init_part_row_send, init_part_row_sync, simple_send, simple_sync, simple_row_send, simple_row_sync, definition_send, definition_sync, definition_row_send, definition_row_sync, update_send, update_sync, update_row_send, update_row_sync, assignment_send, assignment_sync, assignment_row_send, assignment_row_sync, value_decl_send, value_decl_sync, value_decl_row_send, value_decl_row_sync, value_specs_send, value_specs_sync, value_specs_row_send, value_specs_row_sync, value_line_send, value_line_sync, value_line_row_send, value_line_row_sync, values_send, values_sync, values_row_send, values_row_sync, value_spec_send, value_spec_sync, value_spec_row_send, value_spec_row_sync, exprs_of_send, exprs_of_sync, exprs_of_row_send, exprs_of_row_sync, next_expr_send, next_expr_sync, next_expr_row_send, next_expr_row_sync, call_send, call_sync, call_row_send, call_row_sync, expr_send, expr_sync, expr_row_send, expr_row_sync, signature_send, signature_sync, signature_row_send, signature_row_sync, params_send, params_sync, params_row_send, params_row_sync, type_expr_send, type_expr_sync, type_expr_row_send, type_expr_row_sync, results_send, results_sync, results_row_send, results_row_sync, fields_send, fields_sync, fields_row_send, fields_row_sync, leaves, std.crosses, sendable) depth 60 fits 20000

pub type_spec_sync : IsSync (type_spec.the_field).row
type_spec_sync = search (type_spec_row_sync, line_send, line_sync, line_row_send, line_row_sync, stmt_send, stmt_sync, stmt_row_send, stmt_row_sync, for_head_send, for_head_sync, for_head_row_send, for_head_row_sync, if_head_send, if_head_sync, if_head_row_send, if_head_row_sync, init_part_send, init_part_sync, init_part_row_send, init_part_row_sync, simple_send, simple_sync, simple_row_send, simple_row_sync, definition_send, definition_sync, definition_row_send, definition_row_sync, update_send, update_sync, update_row_send, update_row_sync, assignment_send, assignment_sync, assignment_row_send, assignment_row_sync, value_decl_send, value_decl_sync, value_decl_row_send, value_decl_row_sync, value_specs_send, value_specs_sync, value_specs_row_send, value_specs_row_sync, value_line_send, value_line_sync, value_line_row_send, value_line_row_sync, values_send, values_sync, values_row_send, values_row_sync, value_spec_send, value_spec_sync, value_spec_row_send, value_spec_row_sync, exprs_of_send, exprs_of_sync, exprs_of_row_send, exprs_of_row_sync, next_expr_send, next_expr_sync, next_expr_row_send, next_expr_row_sync, call_send, call_sync, call_row_send, call_row_sync, expr_send, expr_sync, expr_row_send, expr_row_sync, signature_send, signature_sync, signature_row_send, signature_row_sync, params_send, params_sync, params_row_send, params_row_sync, type_expr_send, type_expr_sync, type_expr_row_send, type_expr_row_sync, results_send, results_sync, results_row_send, results_row_sync, fields_send, fields_sync, fields_row_send, fields_row_sync, leaves, std.crosses, sendable) depth 60 fits 20000

pub type_line_row_send : IsSend type_line.the_row
type_line_row_send = search (type_spec_send, type_spec_sync, type_spec_row_send, type_spec_row_sync, line_send, line_sync, line_row_send, line_row_sync, stmt_send, stmt_sync, stmt_row_send, stmt_row_sync, for_head_send, for_head_sync, for_head_row_send, for_head_row_sync, if_head_send, if_head_sync, if_head_row_send, if_head_row_sync, init_part_send, init_part_sync, init_part_row_send, init_part_row_sync, simple_send, simple_sync, simple_row_send, simple_row_sync, definition_send, definition_sync, definition_row_send, definition_row_sync, update_send, update_sync, update_row_send, update_row_sync, assignment_send, assignment_sync, assignment_row_send, assignment_row_sync, value_decl_send, value_decl_sync, value_decl_row_send, value_decl_row_sync, value_specs_send, value_specs_sync, value_specs_row_send, value_specs_row_sync, value_line_send, value_line_sync, value_line_row_send, value_line_row_sync, values_send, values_sync, values_row_send, values_row_sync, value_spec_send, value_spec_sync, value_spec_row_send, value_spec_row_sync, exprs_of_send, exprs_of_sync, exprs_of_row_send, exprs_of_row_sync, next_expr_send, next_expr_sync, next_expr_row_send, next_expr_row_sync, call_send, call_sync, call_row_send, call_row_sync, expr_send, expr_sync, expr_row_send, expr_row_sync, signature_send, signature_sync, signature_row_send, signature_row_sync, params_send, params_sync, params_row_send, params_row_sync, type_expr_send, type_expr_sync, type_expr_row_send, type_expr_row_sync, results_send, results_sync, results_row_send, results_row_sync, fields_send, fields_sync, fields_row_send, fields_row_sync, leaves, std.crosses, sendable) depth 60 fits 20000

pub type_line_send : IsSend (type_line.the_field).row
type_line_send = search (type_line_row_send, type_spec_send, type_spec_sync, type_spec_row_send, type_spec_row_sync, line_send, line_sync, line_row_send, line_row_sync, stmt_send, stmt_sync, stmt_row_send, stmt_row_sync, for_head_send, for_head_sync, for_head_row_send, for_head_row_sync, if_head_send, if_head_sync, if_head_row_send, if_head_row_sync, init_part_send, init_part_sync, init_part_row_send, init_part_row_sync, simple_send, simple_sync, simple_row_send, simple_row_sync, definition_send, definition_sync, definition_row_send, definition_row_sync, update_send, update_sync, update_row_send, update_row_sync, assignment_send, assignment_sync, assignment_row_send, assignment_row_sync, value_decl_send, value_decl_sync, value_decl_row_send, value_decl_row_sync, value_specs_send, value_specs_sync, value_specs_row_send, value_specs_row_sync, value_line_send, value_line_sync, value_line_row_send, value_line_row_sync, values_send, values_sync, values_row_send, values_row_sync, value_spec_send, value_spec_sync, value_spec_row_send, value_spec_row_sync, exprs_of_send, exprs_of_sync, exprs_of_row_send, exprs_of_row_sync, next_expr_send, next_expr_sync, next_expr_row_send, next_expr_row_sync, call_send, call_sync, call_row_send, call_row_sync, expr_send, expr_sync, expr_row_send, expr_row_sync, signature_send, signature_sync, signature_row_send, signature_row_sync, params_send, params_sync, params_row_send, params_row_sync, type_expr_send, type_expr_sync, type_expr_row_send, type_expr_row_sync, results_send, results_sync, results_row_send, results_row_sync, fields_send, fields_sync, fields_row_send, fields_row_sync, leaves, std.crosses, sendable) depth 60 fits 20000

pub type_line_row_sync : IsSync type_line.the_row
type_line_row_sync = search (type_spec_send, type_spec_sync, type_spec_row_send, type_spec_row_sync, line_send, line_sync, line_row_send, line_row_sync, stmt_send, stmt_sync, stmt_row_send, stmt_row_sync, for_head_send, for_head_sync, for_head_row_send, for_head_row_sync, if_head_send, if_head_sync, if_head_row_send, if_head_row_sync, init_part_send, init_part_sync, init_part_row_send, init_part_row_sync, simple_send, simple_sync, simple_row_send, simple_row_sync, definition_send, definition_sync, definition_row_send, definition_row_sync, update_send, update_sync, update_row_send, update_row_sync, assignment_send, assignment_sync, assignment_row_send, assignment_row_sync, value_decl_send, value_decl_sync, value_decl_row_send, value_decl_row_sync, value_specs_send, value_specs_sync, value_specs_row_send, value_specs_row_sync, value_line_send, value_line_sync, value_line_row_send, value_line_row_sync, values_send, values_sync, values_row_send, values_row_sync, value_spec_send, value_spec_sync, value_spec_row_send, value_spec_row_sync, exprs_of_send, exprs_of_sync, exprs_of_row_send, exprs_of_row_sync, next_expr_send, next_expr_sync, next_expr_row_send, next_expr_row_sync, call_send, call_sync, call_row_send, call_row_sync, expr_send, expr_sync, expr_row_send, expr_row_sync, signature_send, signature_sync, signature_row_send, signature_row_sync, params_send, params_sync, params_row_send, params_row_sync, type_expr_send, type_expr_sync, type_expr_row_send, type_expr_row_sync, results_send, results_sync, results_row_send, results_row_sync, fields_send, fields_sync, fields_row_send, fields_row_sync, leaves, std.crosses, sendable) depth 60 fits 20000

pub type_line_sync : IsSync (type_line.the_field).row
type_line_sync = search (type_line_row_sync, type_spec_send, type_spec_sync, type_spec_row_send, type_spec_row_sync, line_send, line_sync, line_row_send, line_row_sync, stmt_send, stmt_sync, stmt_row_send, stmt_row_sync, for_head_send, for_head_sync, for_head_row_send, for_head_row_sync, if_head_send, if_head_sync, if_head_row_send, if_head_row_sync, init_part_send, init_part_sync, init_part_row_send, init_part_row_sync, simple_send, simple_sync, simple_row_send, simple_row_sync, definition_send, definition_sync, definition_row_send, definition_row_sync, update_send, update_sync, update_row_send, update_row_sync, assignment_send, assignment_sync, assignment_row_send, assignment_row_sync, value_decl_send, value_decl_sync, value_decl_row_send, value_decl_row_sync, value_specs_send, value_specs_sync, value_specs_row_send, value_specs_row_sync, value_line_send, value_line_sync, value_line_row_send, value_line_row_sync, values_send, values_sync, values_row_send, values_row_sync, value_spec_send, value_spec_sync, value_spec_row_send, value_spec_row_sync, exprs_of_send, exprs_of_sync, exprs_of_row_send, exprs_of_row_sync, next_expr_send, next_expr_sync, next_expr_row_send, next_expr_row_sync, call_send, call_sync, call_row_send, call_row_sync, expr_send, expr_sync, expr_row_send, expr_row_sync, signature_send, signature_sync, signature_row_send, signature_row_sync, params_send, params_sync, params_row_send, params_row_sync, type_expr_send, type_expr_sync, type_expr_row_send, type_expr_row_sync, results_send, results_sync, results_row_send, results_row_sync, fields_send, fields_sync, fields_row_send, fields_row_sync, leaves, std.crosses, sendable) depth 60 fits 20000

pub type_specs_row_send : IsSend type_specs.the_row
type_specs_row_send = search (type_line_send, type_line_sync, type_line_row_send, type_line_row_sync, type_spec_send, type_spec_sync, type_spec_row_send, type_spec_row_sync, line_send, line_sync, line_row_send, line_row_sync, stmt_send, stmt_sync, stmt_row_send, stmt_row_sync, for_head_send, for_head_sync, for_head_row_send, for_head_row_sync, if_head_send, if_head_sync, if_head_row_send, if_head_row_sync, init_part_send, init_part_sync, init_part_row_send, init_part_row_sync, simple_send, simple_sync, simple_row_send, simple_row_sync, definition_send, definition_sync, definition_row_send, definition_row_sync, update_send, update_sync, update_row_send, update_row_sync, assignment_send, assignment_sync, assignment_row_send, assignment_row_sync, value_decl_send, value_decl_sync, value_decl_row_send, value_decl_row_sync, value_specs_send, value_specs_sync, value_specs_row_send, value_specs_row_sync, value_line_send, value_line_sync, value_line_row_send, value_line_row_sync, values_send, values_sync, values_row_send, values_row_sync, value_spec_send, value_spec_sync, value_spec_row_send, value_spec_row_sync, exprs_of_send, exprs_of_sync, exprs_of_row_send, exprs_of_row_sync, next_expr_send, next_expr_sync, next_expr_row_send, next_expr_row_sync, call_send, call_sync, call_row_send, call_row_sync, expr_send, expr_sync, expr_row_send, expr_row_sync, signature_send, signature_sync, signature_row_send, signature_row_sync, params_send, params_sync, params_row_send, params_row_sync, type_expr_send, type_expr_sync, type_expr_row_send, type_expr_row_sync, results_send, results_sync, results_row_send, results_row_sync, fields_send, fields_sync, fields_row_send, fields_row_sync, leaves, std.crosses, sendable) depth 60 fits 20000

pub type_specs_send : IsSend (type_specs.the_field).row
type_specs_send = search (type_specs_row_send, type_line_send, type_line_sync, type_line_row_send, type_line_row_sync, type_spec_send, type_spec_sync, type_spec_row_send, type_spec_row_sync, line_send, line_sync, line_row_send, line_row_sync, stmt_send, stmt_sync, stmt_row_send, stmt_row_sync, for_head_send, for_head_sync, for_head_row_send, for_head_row_sync, if_head_send, if_head_sync, if_head_row_send, if_head_row_sync, init_part_send, init_part_sync, init_part_row_send, init_part_row_sync, simple_send, simple_sync, simple_row_send, simple_row_sync, definition_send, definition_sync, definition_row_send, definition_row_sync, update_send, update_sync, update_row_send, update_row_sync, assignment_send, assignment_sync, assignment_row_send, assignment_row_sync, value_decl_send, value_decl_sync, value_decl_row_send, value_decl_row_sync, value_specs_send, value_specs_sync, value_specs_row_send, value_specs_row_sync, value_line_send, value_line_sync, value_line_row_send, value_line_row_sync, values_send, values_sync, values_row_send, values_row_sync, value_spec_send, value_spec_sync, value_spec_row_send, value_spec_row_sync, exprs_of_send, exprs_of_sync, exprs_of_row_send, exprs_of_row_sync, next_expr_send, next_expr_sync, next_expr_row_send, next_expr_row_sync, call_send, call_sync, call_row_send, call_row_sync, expr_send, expr_sync, expr_row_send, expr_row_sync, signature_send, signature_sync, signature_row_send, signature_row_sync, params_send, params_sync, params_row_send, params_row_sync, type_expr_send, type_expr_sync, type_expr_row_send, type_expr_row_sync, results_send, results_sync, results_row_send, results_row_sync, fields_send, fields_sync, fields_row_send, fields_row_sync, leaves, std.crosses, sendable) depth 60 fits 20000

pub type_specs_row_sync : IsSync type_specs.the_row
type_specs_row_sync = search (type_line_send, type_line_sync, type_line_row_send, type_line_row_sync, type_spec_send, type_spec_sync, type_spec_row_send, type_spec_row_sync, line_send, line_sync, line_row_send, line_row_sync, stmt_send, stmt_sync, stmt_row_send, stmt_row_sync, for_head_send, for_head_sync, for_head_row_send, for_head_row_sync, if_head_send, if_head_sync, if_head_row_send, if_head_row_sync, init_part_send, init_part_sync, init_part_row_send, init_part_row_sync, simple_send, simple_sync, simple_row_send, simple_row_sync, definition_send, definition_sync, definition_row_send, definition_row_sync, update_send, update_sync, update_row_send, update_row_sync, assignment_send, assignment_sync, assignment_row_send, assignment_row_sync, value_decl_send, value_decl_sync, value_decl_row_send, value_decl_row_sync, value_specs_send, value_specs_sync, value_specs_row_send, value_specs_row_sync, value_line_send, value_line_sync, value_line_row_send, value_line_row_sync, values_send, values_sync, values_row_send, values_row_sync, value_spec_send, value_spec_sync, value_spec_row_send, value_spec_row_sync, exprs_of_send, exprs_of_sync, exprs_of_row_send, exprs_of_row_sync, next_expr_send, next_expr_sync, next_expr_row_send, next_expr_row_sync, call_send, call_sync, call_row_send, call_row_sync, expr_send, expr_sync, expr_row_send, expr_row_sync, signature_send, signature_sync, signature_row_send, signature_row_sync, params_send, params_sync, params_row_send, params_row_sync, type_expr_send, type_expr_sync, type_expr_row_send, type_expr_row_sync, results_send, results_sync, results_row_send, results_row_sync, fields_send, fields_sync, fields_row_send, fields_row_sync, leaves, std.crosses, sendable) depth 60 fits 20000

pub type_specs_sync : IsSync (type_specs.the_field).row
type_specs_sync = search (type_specs_row_sync, type_line_send, type_line_sync, type_line_row_send, type_line_row_sync, type_spec_send, type_spec_sync, type_spec_row_send, type_spec_row_sync, line_send, line_sync, line_row_send, line_row_sync, stmt_send, stmt_sync, stmt_row_send, stmt_row_sync, for_head_send, for_head_sync, for_head_row_send, for_head_row_sync, if_head_send, if_head_sync, if_head_row_send, if_head_row_sync, init_part_send, init_part_sync, init_part_row_send, init_part_row_sync, simple_send, simple_sync, simple_row_send, simple_row_sync, definition_send, definition_sync, definition_row_send, definition_row_sync, update_send, update_sync, update_row_send, update_row_sync, assignment_send, assignment_sync, assignment_row_send, assignment_row_sync, value_decl_send, value_decl_sync, value_decl_row_send, value_decl_row_sync, value_specs_send, value_specs_sync, value_specs_row_send, value_specs_row_sync, value_line_send, value_line_sync, value_line_row_send, value_line_row_sync, values_send, values_sync, values_row_send, values_row_sync, value_spec_send, value_spec_sync, value_spec_row_send, value_spec_row_sync, exprs_of_send, exprs_of_sync, exprs_of_row_send, exprs_of_row_sync, next_expr_send, next_expr_sync, next_expr_row_send, next_expr_row_sync, call_send, call_sync, call_row_send, call_row_sync, expr_send, expr_sync, expr_row_send, expr_row_sync, signature_send, signature_sync, signature_row_send, signature_row_sync, params_send, params_sync, params_row_send, params_row_sync, type_expr_send, type_expr_sync, type_expr_row_send, type_expr_row_sync, results_send, results_sync, results_row_send, results_row_sync, fields_send, fields_sync, fields_row_send, fields_row_sync, leaves, std.crosses, sendable) depth 60 fits 20000

pub type_decl_row_send : IsSend type_decl.the_row
type_decl_row_send = search (type_specs_send, type_specs_sync, type_specs_row_send, type_specs_row_sync, type_line_send, type_line_sync, type_line_row_send, type_line_row_sync, type_spec_send, type_spec_sync, type_spec_row_send, type_spec_row_sync, line_send, line_sync, line_row_send, line_row_sync, stmt_send, stmt_sync, stmt_row_send, stmt_row_sync, for_head_send, for_head_sync, for_head_row_send, for_head_row_sync, if_head_send, if_head_sync, if_head_row_send, if_head_row_sync, init_part_send, init_part_sync, init_part_row_send, init_part_row_sync, simple_send, simple_sync, simple_row_send, simple_row_sync, definition_send, definition_sync, definition_row_send, definition_row_sync, update_send, update_sync, update_row_send, update_row_sync, assignment_send, assignment_sync, assignment_row_send, assignment_row_sync, value_decl_send, value_decl_sync, value_decl_row_send, value_decl_row_sync, value_specs_send, value_specs_sync, value_specs_row_send, value_specs_row_sync, value_line_send, value_line_sync, value_line_row_send, value_line_row_sync, values_send, values_sync, values_row_send, values_row_sync, value_spec_send, value_spec_sync, value_spec_row_send, value_spec_row_sync, exprs_of_send, exprs_of_sync, exprs_of_row_send, exprs_of_row_sync, next_expr_send, next_expr_sync, next_expr_row_send, next_expr_row_sync, call_send, call_sync, call_row_send, call_row_sync, expr_send, expr_sync, expr_row_send, expr_row_sync, signature_send, signature_sync, signature_row_send, signature_row_sync, params_send, params_sync, params_row_send, params_row_sync, type_expr_send, type_expr_sync, type_expr_row_send, type_expr_row_sync, results_send, results_sync, results_row_send, results_row_sync, fields_send, fields_sync, fields_row_send, fields_row_sync, leaves, std.crosses, sendable) depth 60 fits 20000

pub type_decl_send : IsSend (type_decl.the_field).row
type_decl_send = search (type_decl_row_send, type_specs_send, type_specs_sync, type_specs_row_send, type_specs_row_sync, type_line_send, type_line_sync, type_line_row_send, type_line_row_sync, type_spec_send, type_spec_sync, type_spec_row_send, type_spec_row_sync, line_send, line_sync, line_row_send, line_row_sync, stmt_send, stmt_sync, stmt_row_send, stmt_row_sync, for_head_send, for_head_sync, for_head_row_send, for_head_row_sync, if_head_send, if_head_sync, if_head_row_send, if_head_row_sync, init_part_send, init_part_sync, init_part_row_send, init_part_row_sync, simple_send, simple_sync, simple_row_send, simple_row_sync, definition_send, definition_sync, definition_row_send, definition_row_sync, update_send, update_sync, update_row_send, update_row_sync, assignment_send, assignment_sync, assignment_row_send, assignment_row_sync, value_decl_send, value_decl_sync, value_decl_row_send, value_decl_row_sync, value_specs_send, value_specs_sync, value_specs_row_send, value_specs_row_sync, value_line_send, value_line_sync, value_line_row_send, value_line_row_sync, values_send, values_sync, values_row_send, values_row_sync, value_spec_send, value_spec_sync, value_spec_row_send, value_spec_row_sync, exprs_of_send, exprs_of_sync, exprs_of_row_send, exprs_of_row_sync, next_expr_send, next_expr_sync, next_expr_row_send, next_expr_row_sync, call_send, call_sync, call_row_send, call_row_sync, expr_send, expr_sync, expr_row_send, expr_row_sync, signature_send, signature_sync, signature_row_send, signature_row_sync, params_send, params_sync, params_row_send, params_row_sync, type_expr_send, type_expr_sync, type_expr_row_send, type_expr_row_sync, results_send, results_sync, results_row_send, results_row_sync, fields_send, fields_sync, fields_row_send, fields_row_sync, leaves, std.crosses, sendable) depth 60 fits 20000

pub type_decl_row_sync : IsSync type_decl.the_row
type_decl_row_sync = search (type_specs_send, type_specs_sync, type_specs_row_send, type_specs_row_sync, type_line_send, type_line_sync, type_line_row_send, type_line_row_sync, type_spec_send, type_spec_sync, type_spec_row_send, type_spec_row_sync, line_send, line_sync, line_row_send, line_row_sync, stmt_send, stmt_sync, stmt_row_send, stmt_row_sync, for_head_send, for_head_sync, for_head_row_send, for_head_row_sync, if_head_send, if_head_sync, if_head_row_send, if_head_row_sync, init_part_send, init_part_sync, init_part_row_send, init_part_row_sync, simple_send, simple_sync, simple_row_send, simple_row_sync, definition_send, definition_sync, definition_row_send, definition_row_sync, update_send, update_sync, update_row_send, update_row_sync, assignment_send, assignment_sync, assignment_row_send, assignment_row_sync, value_decl_send, value_decl_sync, value_decl_row_send, value_decl_row_sync, value_specs_send, value_specs_sync, value_specs_row_send, value_specs_row_sync, value_line_send, value_line_sync, value_line_row_send, value_line_row_sync, values_send, values_sync, values_row_send, values_row_sync, value_spec_send, value_spec_sync, value_spec_row_send, value_spec_row_sync, exprs_of_send, exprs_of_sync, exprs_of_row_send, exprs_of_row_sync, next_expr_send, next_expr_sync, next_expr_row_send, next_expr_row_sync, call_send, call_sync, call_row_send, call_row_sync, expr_send, expr_sync, expr_row_send, expr_row_sync, signature_send, signature_sync, signature_row_send, signature_row_sync, params_send, params_sync, params_row_send, params_row_sync, type_expr_send, type_expr_sync, type_expr_row_send, type_expr_row_sync, results_send, results_sync, results_row_send, results_row_sync, fields_send, fields_sync, fields_row_send, fields_row_sync, leaves, std.crosses, sendable) depth 60 fits 20000

pub type_decl_sync : IsSync (type_decl.the_field).row
type_decl_sync = search (type_decl_row_sync, type_specs_send, type_specs_sync, type_specs_row_send, type_specs_row_sync, type_line_send, type_line_sync, type_line_row_send, type_line_row_sync, type_spec_send, type_spec_sync, type_spec_row_send, type_spec_row_sync, line_send, line_sync, line_row_send, line_row_sync, stmt_send, stmt_sync, stmt_row_send, stmt_row_sync, for_head_send, for_head_sync, for_head_row_send, for_head_row_sync, if_head_send, if_head_sync, if_head_row_send, if_head_row_sync, init_part_send, init_part_sync, init_part_row_send, init_part_row_sync, simple_send, simple_sync, simple_row_send, simple_row_sync, definition_send, definition_sync, definition_row_send, definition_row_sync, update_send, update_sync, update_row_send, update_row_sync, assignment_send, assignment_sync, assignment_row_send, assignment_row_sync, value_decl_send, value_decl_sync, value_decl_row_send, value_decl_row_sync, value_specs_send, value_specs_sync, value_specs_row_send, value_specs_row_sync, value_line_send, value_line_sync, value_line_row_send, value_line_row_sync, values_send, values_sync, values_row_send, values_row_sync, value_spec_send, value_spec_sync, value_spec_row_send, value_spec_row_sync, exprs_of_send, exprs_of_sync, exprs_of_row_send, exprs_of_row_sync, next_expr_send, next_expr_sync, next_expr_row_send, next_expr_row_sync, call_send, call_sync, call_row_send, call_row_sync, expr_send, expr_sync, expr_row_send, expr_row_sync, signature_send, signature_sync, signature_row_send, signature_row_sync, params_send, params_sync, params_row_send, params_row_sync, type_expr_send, type_expr_sync, type_expr_row_send, type_expr_row_sync, results_send, results_sync, results_row_send, results_row_sync, fields_send, fields_sync, fields_row_send, fields_row_sync, leaves, std.crosses, sendable) depth 60 fits 20000

pub func_decl_row_send : IsSend func_decl.the_row
func_decl_row_send = search (type_decl_send, type_decl_sync, type_decl_row_send, type_decl_row_sync, type_specs_send, type_specs_sync, type_specs_row_send, type_specs_row_sync, type_line_send, type_line_sync, type_line_row_send, type_line_row_sync, type_spec_send, type_spec_sync, type_spec_row_send, type_spec_row_sync, line_send, line_sync, line_row_send, line_row_sync, stmt_send, stmt_sync, stmt_row_send, stmt_row_sync, for_head_send, for_head_sync, for_head_row_send, for_head_row_sync, if_head_send, if_head_sync, if_head_row_send, if_head_row_sync, init_part_send, init_part_sync, init_part_row_send, init_part_row_sync, simple_send, simple_sync, simple_row_send, simple_row_sync, definition_send, definition_sync, definition_row_send, definition_row_sync, update_send, update_sync, update_row_send, update_row_sync, assignment_send, assignment_sync, assignment_row_send, assignment_row_sync, value_decl_send, value_decl_sync, value_decl_row_send, value_decl_row_sync, value_specs_send, value_specs_sync, value_specs_row_send, value_specs_row_sync, value_line_send, value_line_sync, value_line_row_send, value_line_row_sync, values_send, values_sync, values_row_send, values_row_sync, value_spec_send, value_spec_sync, value_spec_row_send, value_spec_row_sync, exprs_of_send, exprs_of_sync, exprs_of_row_send, exprs_of_row_sync, next_expr_send, next_expr_sync, next_expr_row_send, next_expr_row_sync, call_send, call_sync, call_row_send, call_row_sync, expr_send, expr_sync, expr_row_send, expr_row_sync, signature_send, signature_sync, signature_row_send, signature_row_sync, params_send, params_sync, params_row_send, params_row_sync, type_expr_send, type_expr_sync, type_expr_row_send, type_expr_row_sync, results_send, results_sync, results_row_send, results_row_sync, fields_send, fields_sync, fields_row_send, fields_row_sync, leaves, std.crosses, sendable) depth 60 fits 20000

pub func_decl_send : IsSend (func_decl.the_field).row
func_decl_send = search (func_decl_row_send, type_decl_send, type_decl_sync, type_decl_row_send, type_decl_row_sync, type_specs_send, type_specs_sync, type_specs_row_send, type_specs_row_sync, type_line_send, type_line_sync, type_line_row_send, type_line_row_sync, type_spec_send, type_spec_sync, type_spec_row_send, type_spec_row_sync, line_send, line_sync, line_row_send, line_row_sync, stmt_send, stmt_sync, stmt_row_send, stmt_row_sync, for_head_send, for_head_sync, for_head_row_send, for_head_row_sync, if_head_send, if_head_sync, if_head_row_send, if_head_row_sync, init_part_send, init_part_sync, init_part_row_send, init_part_row_sync, simple_send, simple_sync, simple_row_send, simple_row_sync, definition_send, definition_sync, definition_row_send, definition_row_sync, update_send, update_sync, update_row_send, update_row_sync, assignment_send, assignment_sync, assignment_row_send, assignment_row_sync, value_decl_send, value_decl_sync, value_decl_row_send, value_decl_row_sync, value_specs_send, value_specs_sync, value_specs_row_send, value_specs_row_sync, value_line_send, value_line_sync, value_line_row_send, value_line_row_sync, values_send, values_sync, values_row_send, values_row_sync, value_spec_send, value_spec_sync, value_spec_row_send, value_spec_row_sync, exprs_of_send, exprs_of_sync, exprs_of_row_send, exprs_of_row_sync, next_expr_send, next_expr_sync, next_expr_row_send, next_expr_row_sync, call_send, call_sync, call_row_send, call_row_sync, expr_send, expr_sync, expr_row_send, expr_row_sync, signature_send, signature_sync, signature_row_send, signature_row_sync, params_send, params_sync, params_row_send, params_row_sync, type_expr_send, type_expr_sync, type_expr_row_send, type_expr_row_sync, results_send, results_sync, results_row_send, results_row_sync, fields_send, fields_sync, fields_row_send, fields_row_sync, leaves, std.crosses, sendable) depth 60 fits 20000

pub func_decl_row_sync : IsSync func_decl.the_row
func_decl_row_sync = search (type_decl_send, type_decl_sync, type_decl_row_send, type_decl_row_sync, type_specs_send, type_specs_sync, type_specs_row_send, type_specs_row_sync, type_line_send, type_line_sync, type_line_row_send, type_line_row_sync, type_spec_send, type_spec_sync, type_spec_row_send, type_spec_row_sync, line_send, line_sync, line_row_send, line_row_sync, stmt_send, stmt_sync, stmt_row_send, stmt_row_sync, for_head_send, for_head_sync, for_head_row_send, for_head_row_sync, if_head_send, if_head_sync, if_head_row_send, if_head_row_sync, init_part_send, init_part_sync, init_part_row_send, init_part_row_sync, simple_send, simple_sync, simple_row_send, simple_row_sync, definition_send, definition_sync, definition_row_send, definition_row_sync, update_send, update_sync, update_row_send, update_row_sync, assignment_send, assignment_sync, assignment_row_send, assignment_row_sync, value_decl_send, value_decl_sync, value_decl_row_send, value_decl_row_sync, value_specs_send, value_specs_sync, value_specs_row_send, value_specs_row_sync, value_line_send, value_line_sync, value_line_row_send, value_line_row_sync, values_send, values_sync, values_row_send, values_row_sync, value_spec_send, value_spec_sync, value_spec_row_send, value_spec_row_sync, exprs_of_send, exprs_of_sync, exprs_of_row_send, exprs_of_row_sync, next_expr_send, next_expr_sync, next_expr_row_send, next_expr_row_sync, call_send, call_sync, call_row_send, call_row_sync, expr_send, expr_sync, expr_row_send, expr_row_sync, signature_send, signature_sync, signature_row_send, signature_row_sync, params_send, params_sync, params_row_send, params_row_sync, type_expr_send, type_expr_sync, type_expr_row_send, type_expr_row_sync, results_send, results_sync, results_row_send, results_row_sync, fields_send, fields_sync, fields_row_send, fields_row_sync, leaves, std.crosses, sendable) depth 60 fits 20000

pub func_decl_sync : IsSync (func_decl.the_field).row
func_decl_sync = search (func_decl_row_sync, type_decl_send, type_decl_sync, type_decl_row_send, type_decl_row_sync, type_specs_send, type_specs_sync, type_specs_row_send, type_specs_row_sync, type_line_send, type_line_sync, type_line_row_send, type_line_row_sync, type_spec_send, type_spec_sync, type_spec_row_send, type_spec_row_sync, line_send, line_sync, line_row_send, line_row_sync, stmt_send, stmt_sync, stmt_row_send, stmt_row_sync, for_head_send, for_head_sync, for_head_row_send, for_head_row_sync, if_head_send, if_head_sync, if_head_row_send, if_head_row_sync, init_part_send, init_part_sync, init_part_row_send, init_part_row_sync, simple_send, simple_sync, simple_row_send, simple_row_sync, definition_send, definition_sync, definition_row_send, definition_row_sync, update_send, update_sync, update_row_send, update_row_sync, assignment_send, assignment_sync, assignment_row_send, assignment_row_sync, value_decl_send, value_decl_sync, value_decl_row_send, value_decl_row_sync, value_specs_send, value_specs_sync, value_specs_row_send, value_specs_row_sync, value_line_send, value_line_sync, value_line_row_send, value_line_row_sync, values_send, values_sync, values_row_send, values_row_sync, value_spec_send, value_spec_sync, value_spec_row_send, value_spec_row_sync, exprs_of_send, exprs_of_sync, exprs_of_row_send, exprs_of_row_sync, next_expr_send, next_expr_sync, next_expr_row_send, next_expr_row_sync, call_send, call_sync, call_row_send, call_row_sync, expr_send, expr_sync, expr_row_send, expr_row_sync, signature_send, signature_sync, signature_row_send, signature_row_sync, params_send, params_sync, params_row_send, params_row_sync, type_expr_send, type_expr_sync, type_expr_row_send, type_expr_row_sync, results_send, results_sync, results_row_send, results_row_sync, fields_send, fields_sync, fields_row_send, fields_row_sync, leaves, std.crosses, sendable) depth 60 fits 20000

pub decl_row_send : IsSend decl.the_row
decl_row_send = search (func_decl_send, func_decl_sync, func_decl_row_send, func_decl_row_sync, type_decl_send, type_decl_sync, type_decl_row_send, type_decl_row_sync, type_specs_send, type_specs_sync, type_specs_row_send, type_specs_row_sync, type_line_send, type_line_sync, type_line_row_send, type_line_row_sync, type_spec_send, type_spec_sync, type_spec_row_send, type_spec_row_sync, line_send, line_sync, line_row_send, line_row_sync, stmt_send, stmt_sync, stmt_row_send, stmt_row_sync, for_head_send, for_head_sync, for_head_row_send, for_head_row_sync, if_head_send, if_head_sync, if_head_row_send, if_head_row_sync, init_part_send, init_part_sync, init_part_row_send, init_part_row_sync, simple_send, simple_sync, simple_row_send, simple_row_sync, definition_send, definition_sync, definition_row_send, definition_row_sync, update_send, update_sync, update_row_send, update_row_sync, assignment_send, assignment_sync, assignment_row_send, assignment_row_sync, value_decl_send, value_decl_sync, value_decl_row_send, value_decl_row_sync, value_specs_send, value_specs_sync, value_specs_row_send, value_specs_row_sync, value_line_send, value_line_sync, value_line_row_send, value_line_row_sync, values_send, values_sync, values_row_send, values_row_sync, value_spec_send, value_spec_sync, value_spec_row_send, value_spec_row_sync, exprs_of_send, exprs_of_sync, exprs_of_row_send, exprs_of_row_sync, next_expr_send, next_expr_sync, next_expr_row_send, next_expr_row_sync, call_send, call_sync, call_row_send, call_row_sync, expr_send, expr_sync, expr_row_send, expr_row_sync, signature_send, signature_sync, signature_row_send, signature_row_sync, params_send, params_sync, params_row_send, params_row_sync, type_expr_send, type_expr_sync, type_expr_row_send, type_expr_row_sync, results_send, results_sync, results_row_send, results_row_sync, fields_send, fields_sync, fields_row_send, fields_row_sync, leaves, std.crosses, sendable) depth 60 fits 20000

pub decl_send : IsSend (decl.the_field).row
decl_send = search (decl_row_send, func_decl_send, func_decl_sync, func_decl_row_send, func_decl_row_sync, type_decl_send, type_decl_sync, type_decl_row_send, type_decl_row_sync, type_specs_send, type_specs_sync, type_specs_row_send, type_specs_row_sync, type_line_send, type_line_sync, type_line_row_send, type_line_row_sync, type_spec_send, type_spec_sync, type_spec_row_send, type_spec_row_sync, line_send, line_sync, line_row_send, line_row_sync, stmt_send, stmt_sync, stmt_row_send, stmt_row_sync, for_head_send, for_head_sync, for_head_row_send, for_head_row_sync, if_head_send, if_head_sync, if_head_row_send, if_head_row_sync, init_part_send, init_part_sync, init_part_row_send, init_part_row_sync, simple_send, simple_sync, simple_row_send, simple_row_sync, definition_send, definition_sync, definition_row_send, definition_row_sync, update_send, update_sync, update_row_send, update_row_sync, assignment_send, assignment_sync, assignment_row_send, assignment_row_sync, value_decl_send, value_decl_sync, value_decl_row_send, value_decl_row_sync, value_specs_send, value_specs_sync, value_specs_row_send, value_specs_row_sync, value_line_send, value_line_sync, value_line_row_send, value_line_row_sync, values_send, values_sync, values_row_send, values_row_sync, value_spec_send, value_spec_sync, value_spec_row_send, value_spec_row_sync, exprs_of_send, exprs_of_sync, exprs_of_row_send, exprs_of_row_sync, next_expr_send, next_expr_sync, next_expr_row_send, next_expr_row_sync, call_send, call_sync, call_row_send, call_row_sync, expr_send, expr_sync, expr_row_send, expr_row_sync, signature_send, signature_sync, signature_row_send, signature_row_sync, params_send, params_sync, params_row_send, params_row_sync, type_expr_send, type_expr_sync, type_expr_row_send, type_expr_row_sync, results_send, results_sync, results_row_send, results_row_sync, fields_send, fields_sync, fields_row_send, fields_row_sync, leaves, std.crosses, sendable) depth 60 fits 20000

pub decl_row_sync : IsSync decl.the_row
decl_row_sync = search (func_decl_send, func_decl_sync, func_decl_row_send, func_decl_row_sync, type_decl_send, type_decl_sync, type_decl_row_send, type_decl_row_sync, type_specs_send, type_specs_sync, type_specs_row_send, type_specs_row_sync, type_line_send, type_line_sync, type_line_row_send, type_line_row_sync, type_spec_send, type_spec_sync, type_spec_row_send, type_spec_row_sync, line_send, line_sync, line_row_send, line_row_sync, stmt_send, stmt_sync, stmt_row_send, stmt_row_sync, for_head_send, for_head_sync, for_head_row_send, for_head_row_sync, if_head_send, if_head_sync, if_head_row_send, if_head_row_sync, init_part_send, init_part_sync, init_part_row_send, init_part_row_sync, simple_send, simple_sync, simple_row_send, simple_row_sync, definition_send, definition_sync, definition_row_send, definition_row_sync, update_send, update_sync, update_row_send, update_row_sync, assignment_send, assignment_sync, assignment_row_send, assignment_row_sync, value_decl_send, value_decl_sync, value_decl_row_send, value_decl_row_sync, value_specs_send, value_specs_sync, value_specs_row_send, value_specs_row_sync, value_line_send, value_line_sync, value_line_row_send, value_line_row_sync, values_send, values_sync, values_row_send, values_row_sync, value_spec_send, value_spec_sync, value_spec_row_send, value_spec_row_sync, exprs_of_send, exprs_of_sync, exprs_of_row_send, exprs_of_row_sync, next_expr_send, next_expr_sync, next_expr_row_send, next_expr_row_sync, call_send, call_sync, call_row_send, call_row_sync, expr_send, expr_sync, expr_row_send, expr_row_sync, signature_send, signature_sync, signature_row_send, signature_row_sync, params_send, params_sync, params_row_send, params_row_sync, type_expr_send, type_expr_sync, type_expr_row_send, type_expr_row_sync, results_send, results_sync, results_row_send, results_row_sync, fields_send, fields_sync, fields_row_send, fields_row_sync, leaves, std.crosses, sendable) depth 60 fits 20000

pub decl_sync : IsSync (decl.the_field).row
decl_sync = search (decl_row_sync, func_decl_send, func_decl_sync, func_decl_row_send, func_decl_row_sync, type_decl_send, type_decl_sync, type_decl_row_send, type_decl_row_sync, type_specs_send, type_specs_sync, type_specs_row_send, type_specs_row_sync, type_line_send, type_line_sync, type_line_row_send, type_line_row_sync, type_spec_send, type_spec_sync, type_spec_row_send, type_spec_row_sync, line_send, line_sync, line_row_send, line_row_sync, stmt_send, stmt_sync, stmt_row_send, stmt_row_sync, for_head_send, for_head_sync, for_head_row_send, for_head_row_sync, if_head_send, if_head_sync, if_head_row_send, if_head_row_sync, init_part_send, init_part_sync, init_part_row_send, init_part_row_sync, simple_send, simple_sync, simple_row_send, simple_row_sync, definition_send, definition_sync, definition_row_send, definition_row_sync, update_send, update_sync, update_row_send, update_row_sync, assignment_send, assignment_sync, assignment_row_send, assignment_row_sync, value_decl_send, value_decl_sync, value_decl_row_send, value_decl_row_sync, value_specs_send, value_specs_sync, value_specs_row_send, value_specs_row_sync, value_line_send, value_line_sync, value_line_row_send, value_line_row_sync, values_send, values_sync, values_row_send, values_row_sync, value_spec_send, value_spec_sync, value_spec_row_send, value_spec_row_sync, exprs_of_send, exprs_of_sync, exprs_of_row_send, exprs_of_row_sync, next_expr_send, next_expr_sync, next_expr_row_send, next_expr_row_sync, call_send, call_sync, call_row_send, call_row_sync, expr_send, expr_sync, expr_row_send, expr_row_sync, signature_send, signature_sync, signature_row_send, signature_row_sync, params_send, params_sync, params_row_send, params_row_sync, type_expr_send, type_expr_sync, type_expr_row_send, type_expr_row_sync, results_send, results_sync, results_row_send, results_row_sync, fields_send, fields_sync, fields_row_send, fields_row_sync, leaves, std.crosses, sendable) depth 60 fits 20000

pub top_decl_row_send : IsSend top_decl.the_row
top_decl_row_send = search (decl_send, decl_sync, decl_row_send, decl_row_sync, func_decl_send, func_decl_sync, func_decl_row_send, func_decl_row_sync, type_decl_send, type_decl_sync, type_decl_row_send, type_decl_row_sync, type_specs_send, type_specs_sync, type_specs_row_send, type_specs_row_sync, type_line_send, type_line_sync, type_line_row_send, type_line_row_sync, type_spec_send, type_spec_sync, type_spec_row_send, type_spec_row_sync, line_send, line_sync, line_row_send, line_row_sync, stmt_send, stmt_sync, stmt_row_send, stmt_row_sync, for_head_send, for_head_sync, for_head_row_send, for_head_row_sync, if_head_send, if_head_sync, if_head_row_send, if_head_row_sync, init_part_send, init_part_sync, init_part_row_send, init_part_row_sync, simple_send, simple_sync, simple_row_send, simple_row_sync, definition_send, definition_sync, definition_row_send, definition_row_sync, update_send, update_sync, update_row_send, update_row_sync, assignment_send, assignment_sync, assignment_row_send, assignment_row_sync, value_decl_send, value_decl_sync, value_decl_row_send, value_decl_row_sync, value_specs_send, value_specs_sync, value_specs_row_send, value_specs_row_sync, value_line_send, value_line_sync, value_line_row_send, value_line_row_sync, values_send, values_sync, values_row_send, values_row_sync, value_spec_send, value_spec_sync, value_spec_row_send, value_spec_row_sync, exprs_of_send, exprs_of_sync, exprs_of_row_send, exprs_of_row_sync, next_expr_send, next_expr_sync, next_expr_row_send, next_expr_row_sync, call_send, call_sync, call_row_send, call_row_sync, expr_send, expr_sync, expr_row_send, expr_row_sync, signature_send, signature_sync, signature_row_send, signature_row_sync, params_send, params_sync, params_row_send, params_row_sync, type_expr_send, type_expr_sync, type_expr_row_send, type_expr_row_sync, results_send, results_sync, results_row_send, results_row_sync, fields_send, fields_sync, fields_row_send, fields_row_sync, leaves, std.crosses, sendable) depth 60 fits 20000

pub top_decl_send : IsSend (top_decl.the_field).row
top_decl_send = search (top_decl_row_send, decl_send, decl_sync, decl_row_send, decl_row_sync, func_decl_send, func_decl_sync, func_decl_row_send, func_decl_row_sync, type_decl_send, type_decl_sync, type_decl_row_send, type_decl_row_sync, type_specs_send, type_specs_sync, type_specs_row_send, type_specs_row_sync, type_line_send, type_line_sync, type_line_row_send, type_line_row_sync, type_spec_send, type_spec_sync, type_spec_row_send, type_spec_row_sync, line_send, line_sync, line_row_send, line_row_sync, stmt_send, stmt_sync, stmt_row_send, stmt_row_sync, for_head_send, for_head_sync, for_head_row_send, for_head_row_sync, if_head_send, if_head_sync, if_head_row_send, if_head_row_sync, init_part_send, init_part_sync, init_part_row_send, init_part_row_sync, simple_send, simple_sync, simple_row_send, simple_row_sync, definition_send, definition_sync, definition_row_send, definition_row_sync, update_send, update_sync, update_row_send, update_row_sync, assignment_send, assignment_sync, assignment_row_send, assignment_row_sync, value_decl_send, value_decl_sync, value_decl_row_send, value_decl_row_sync, value_specs_send, value_specs_sync, value_specs_row_send, value_specs_row_sync, value_line_send, value_line_sync, value_line_row_send, value_line_row_sync, values_send, values_sync, values_row_send, values_row_sync, value_spec_send, value_spec_sync, value_spec_row_send, value_spec_row_sync, exprs_of_send, exprs_of_sync, exprs_of_row_send, exprs_of_row_sync, next_expr_send, next_expr_sync, next_expr_row_send, next_expr_row_sync, call_send, call_sync, call_row_send, call_row_sync, expr_send, expr_sync, expr_row_send, expr_row_sync, signature_send, signature_sync, signature_row_send, signature_row_sync, params_send, params_sync, params_row_send, params_row_sync, type_expr_send, type_expr_sync, type_expr_row_send, type_expr_row_sync, results_send, results_sync, results_row_send, results_row_sync, fields_send, fields_sync, fields_row_send, fields_row_sync, leaves, std.crosses, sendable) depth 60 fits 20000

pub top_decl_row_sync : IsSync top_decl.the_row
top_decl_row_sync = search (decl_send, decl_sync, decl_row_send, decl_row_sync, func_decl_send, func_decl_sync, func_decl_row_send, func_decl_row_sync, type_decl_send, type_decl_sync, type_decl_row_send, type_decl_row_sync, type_specs_send, type_specs_sync, type_specs_row_send, type_specs_row_sync, type_line_send, type_line_sync, type_line_row_send, type_line_row_sync, type_spec_send, type_spec_sync, type_spec_row_send, type_spec_row_sync, line_send, line_sync, line_row_send, line_row_sync, stmt_send, stmt_sync, stmt_row_send, stmt_row_sync, for_head_send, for_head_sync, for_head_row_send, for_head_row_sync, if_head_send, if_head_sync, if_head_row_send, if_head_row_sync, init_part_send, init_part_sync, init_part_row_send, init_part_row_sync, simple_send, simple_sync, simple_row_send, simple_row_sync, definition_send, definition_sync, definition_row_send, definition_row_sync, update_send, update_sync, update_row_send, update_row_sync, assignment_send, assignment_sync, assignment_row_send, assignment_row_sync, value_decl_send, value_decl_sync, value_decl_row_send, value_decl_row_sync, value_specs_send, value_specs_sync, value_specs_row_send, value_specs_row_sync, value_line_send, value_line_sync, value_line_row_send, value_line_row_sync, values_send, values_sync, values_row_send, values_row_sync, value_spec_send, value_spec_sync, value_spec_row_send, value_spec_row_sync, exprs_of_send, exprs_of_sync, exprs_of_row_send, exprs_of_row_sync, next_expr_send, next_expr_sync, next_expr_row_send, next_expr_row_sync, call_send, call_sync, call_row_send, call_row_sync, expr_send, expr_sync, expr_row_send, expr_row_sync, signature_send, signature_sync, signature_row_send, signature_row_sync, params_send, params_sync, params_row_send, params_row_sync, type_expr_send, type_expr_sync, type_expr_row_send, type_expr_row_sync, results_send, results_sync, results_row_send, results_row_sync, fields_send, fields_sync, fields_row_send, fields_row_sync, leaves, std.crosses, sendable) depth 60 fits 20000

pub top_decl_sync : IsSync (top_decl.the_field).row
top_decl_sync = search (top_decl_row_sync, decl_send, decl_sync, decl_row_send, decl_row_sync, func_decl_send, func_decl_sync, func_decl_row_send, func_decl_row_sync, type_decl_send, type_decl_sync, type_decl_row_send, type_decl_row_sync, type_specs_send, type_specs_sync, type_specs_row_send, type_specs_row_sync, type_line_send, type_line_sync, type_line_row_send, type_line_row_sync, type_spec_send, type_spec_sync, type_spec_row_send, type_spec_row_sync, line_send, line_sync, line_row_send, line_row_sync, stmt_send, stmt_sync, stmt_row_send, stmt_row_sync, for_head_send, for_head_sync, for_head_row_send, for_head_row_sync, if_head_send, if_head_sync, if_head_row_send, if_head_row_sync, init_part_send, init_part_sync, init_part_row_send, init_part_row_sync, simple_send, simple_sync, simple_row_send, simple_row_sync, definition_send, definition_sync, definition_row_send, definition_row_sync, update_send, update_sync, update_row_send, update_row_sync, assignment_send, assignment_sync, assignment_row_send, assignment_row_sync, value_decl_send, value_decl_sync, value_decl_row_send, value_decl_row_sync, value_specs_send, value_specs_sync, value_specs_row_send, value_specs_row_sync, value_line_send, value_line_sync, value_line_row_send, value_line_row_sync, values_send, values_sync, values_row_send, values_row_sync, value_spec_send, value_spec_sync, value_spec_row_send, value_spec_row_sync, exprs_of_send, exprs_of_sync, exprs_of_row_send, exprs_of_row_sync, next_expr_send, next_expr_sync, next_expr_row_send, next_expr_row_sync, call_send, call_sync, call_row_send, call_row_sync, expr_send, expr_sync, expr_row_send, expr_row_sync, signature_send, signature_sync, signature_row_send, signature_row_sync, params_send, params_sync, params_row_send, params_row_sync, type_expr_send, type_expr_sync, type_expr_row_send, type_expr_row_sync, results_send, results_sync, results_row_send, results_row_sync, fields_send, fields_sync, fields_row_send, fields_row_sync, leaves, std.crosses, sendable) depth 60 fits 20000

pub file_row_send : IsSend file.the_row
file_row_send = search (top_decl_send, top_decl_sync, top_decl_row_send, top_decl_row_sync, decl_send, decl_sync, decl_row_send, decl_row_sync, func_decl_send, func_decl_sync, func_decl_row_send, func_decl_row_sync, type_decl_send, type_decl_sync, type_decl_row_send, type_decl_row_sync, type_specs_send, type_specs_sync, type_specs_row_send, type_specs_row_sync, type_line_send, type_line_sync, type_line_row_send, type_line_row_sync, type_spec_send, type_spec_sync, type_spec_row_send, type_spec_row_sync, line_send, line_sync, line_row_send, line_row_sync, stmt_send, stmt_sync, stmt_row_send, stmt_row_sync, for_head_send, for_head_sync, for_head_row_send, for_head_row_sync, if_head_send, if_head_sync, if_head_row_send, if_head_row_sync, init_part_send, init_part_sync, init_part_row_send, init_part_row_sync, simple_send, simple_sync, simple_row_send, simple_row_sync, definition_send, definition_sync, definition_row_send, definition_row_sync, update_send, update_sync, update_row_send, update_row_sync, assignment_send, assignment_sync, assignment_row_send, assignment_row_sync, value_decl_send, value_decl_sync, value_decl_row_send, value_decl_row_sync, value_specs_send, value_specs_sync, value_specs_row_send, value_specs_row_sync, value_line_send, value_line_sync, value_line_row_send, value_line_row_sync, values_send, values_sync, values_row_send, values_row_sync, value_spec_send, value_spec_sync, value_spec_row_send, value_spec_row_sync, exprs_of_send, exprs_of_sync, exprs_of_row_send, exprs_of_row_sync, next_expr_send, next_expr_sync, next_expr_row_send, next_expr_row_sync, call_send, call_sync, call_row_send, call_row_sync, expr_send, expr_sync, expr_row_send, expr_row_sync, signature_send, signature_sync, signature_row_send, signature_row_sync, params_send, params_sync, params_row_send, params_row_sync, type_expr_send, type_expr_sync, type_expr_row_send, type_expr_row_sync, results_send, results_sync, results_row_send, results_row_sync, fields_send, fields_sync, fields_row_send, fields_row_sync, leaves, std.crosses, sendable) depth 60 fits 20000

pub file_send : IsSend (file.the_field).row
file_send = search (file_row_send, top_decl_send, top_decl_sync, top_decl_row_send, top_decl_row_sync, decl_send, decl_sync, decl_row_send, decl_row_sync, func_decl_send, func_decl_sync, func_decl_row_send, func_decl_row_sync, type_decl_send, type_decl_sync, type_decl_row_send, type_decl_row_sync, type_specs_send, type_specs_sync, type_specs_row_send, type_specs_row_sync, type_line_send, type_line_sync, type_line_row_send, type_line_row_sync, type_spec_send, type_spec_sync, type_spec_row_send, type_spec_row_sync, line_send, line_sync, line_row_send, line_row_sync, stmt_send, stmt_sync, stmt_row_send, stmt_row_sync, for_head_send, for_head_sync, for_head_row_send, for_head_row_sync, if_head_send, if_head_sync, if_head_row_send, if_head_row_sync, init_part_send, init_part_sync, init_part_row_send, init_part_row_sync, simple_send, simple_sync, simple_row_send, simple_row_sync, definition_send, definition_sync, definition_row_send, definition_row_sync, update_send, update_sync, update_row_send, update_row_sync, assignment_send, assignment_sync, assignment_row_send, assignment_row_sync, value_decl_send, value_decl_sync, value_decl_row_send, value_decl_row_sync, value_specs_send, value_specs_sync, value_specs_row_send, value_specs_row_sync, value_line_send, value_line_sync, value_line_row_send, value_line_row_sync, values_send, values_sync, values_row_send, values_row_sync, value_spec_send, value_spec_sync, value_spec_row_send, value_spec_row_sync, exprs_of_send, exprs_of_sync, exprs_of_row_send, exprs_of_row_sync, next_expr_send, next_expr_sync, next_expr_row_send, next_expr_row_sync, call_send, call_sync, call_row_send, call_row_sync, expr_send, expr_sync, expr_row_send, expr_row_sync, signature_send, signature_sync, signature_row_send, signature_row_sync, params_send, params_sync, params_row_send, params_row_sync, type_expr_send, type_expr_sync, type_expr_row_send, type_expr_row_sync, results_send, results_sync, results_row_send, results_row_sync, fields_send, fields_sync, fields_row_send, fields_row_sync, leaves, std.crosses, sendable) depth 60 fits 20000

pub file_row_sync : IsSync file.the_row
file_row_sync = search (top_decl_send, top_decl_sync, top_decl_row_send, top_decl_row_sync, decl_send, decl_sync, decl_row_send, decl_row_sync, func_decl_send, func_decl_sync, func_decl_row_send, func_decl_row_sync, type_decl_send, type_decl_sync, type_decl_row_send, type_decl_row_sync, type_specs_send, type_specs_sync, type_specs_row_send, type_specs_row_sync, type_line_send, type_line_sync, type_line_row_send, type_line_row_sync, type_spec_send, type_spec_sync, type_spec_row_send, type_spec_row_sync, line_send, line_sync, line_row_send, line_row_sync, stmt_send, stmt_sync, stmt_row_send, stmt_row_sync, for_head_send, for_head_sync, for_head_row_send, for_head_row_sync, if_head_send, if_head_sync, if_head_row_send, if_head_row_sync, init_part_send, init_part_sync, init_part_row_send, init_part_row_sync, simple_send, simple_sync, simple_row_send, simple_row_sync, definition_send, definition_sync, definition_row_send, definition_row_sync, update_send, update_sync, update_row_send, update_row_sync, assignment_send, assignment_sync, assignment_row_send, assignment_row_sync, value_decl_send, value_decl_sync, value_decl_row_send, value_decl_row_sync, value_specs_send, value_specs_sync, value_specs_row_send, value_specs_row_sync, value_line_send, value_line_sync, value_line_row_send, value_line_row_sync, values_send, values_sync, values_row_send, values_row_sync, value_spec_send, value_spec_sync, value_spec_row_send, value_spec_row_sync, exprs_of_send, exprs_of_sync, exprs_of_row_send, exprs_of_row_sync, next_expr_send, next_expr_sync, next_expr_row_send, next_expr_row_sync, call_send, call_sync, call_row_send, call_row_sync, expr_send, expr_sync, expr_row_send, expr_row_sync, signature_send, signature_sync, signature_row_send, signature_row_sync, params_send, params_sync, params_row_send, params_row_sync, type_expr_send, type_expr_sync, type_expr_row_send, type_expr_row_sync, results_send, results_sync, results_row_send, results_row_sync, fields_send, fields_sync, fields_row_send, fields_row_sync, leaves, std.crosses, sendable) depth 60 fits 20000

pub file_sync : IsSync (file.the_field).row
file_sync = search (file_row_sync, top_decl_send, top_decl_sync, top_decl_row_send, top_decl_row_sync, decl_send, decl_sync, decl_row_send, decl_row_sync, func_decl_send, func_decl_sync, func_decl_row_send, func_decl_row_sync, type_decl_send, type_decl_sync, type_decl_row_send, type_decl_row_sync, type_specs_send, type_specs_sync, type_specs_row_send, type_specs_row_sync, type_line_send, type_line_sync, type_line_row_send, type_line_row_sync, type_spec_send, type_spec_sync, type_spec_row_send, type_spec_row_sync, line_send, line_sync, line_row_send, line_row_sync, stmt_send, stmt_sync, stmt_row_send, stmt_row_sync, for_head_send, for_head_sync, for_head_row_send, for_head_row_sync, if_head_send, if_head_sync, if_head_row_send, if_head_row_sync, init_part_send, init_part_sync, init_part_row_send, init_part_row_sync, simple_send, simple_sync, simple_row_send, simple_row_sync, definition_send, definition_sync, definition_row_send, definition_row_sync, update_send, update_sync, update_row_send, update_row_sync, assignment_send, assignment_sync, assignment_row_send, assignment_row_sync, value_decl_send, value_decl_sync, value_decl_row_send, value_decl_row_sync, value_specs_send, value_specs_sync, value_specs_row_send, value_specs_row_sync, value_line_send, value_line_sync, value_line_row_send, value_line_row_sync, values_send, values_sync, values_row_send, values_row_sync, value_spec_send, value_spec_sync, value_spec_row_send, value_spec_row_sync, exprs_of_send, exprs_of_sync, exprs_of_row_send, exprs_of_row_sync, next_expr_send, next_expr_sync, next_expr_row_send, next_expr_row_sync, call_send, call_sync, call_row_send, call_row_sync, expr_send, expr_sync, expr_row_send, expr_row_sync, signature_send, signature_sync, signature_row_send, signature_row_sync, params_send, params_sync, params_row_send, params_row_sync, type_expr_send, type_expr_sync, type_expr_row_send, type_expr_row_sync, results_send, results_sync, results_row_send, results_row_sync, fields_send, fields_sync, fields_row_send, fields_row_sync, leaves, std.crosses, sendable) depth 60 fits 20000

pub term_row_send : IsSend term.the_row
term_row_send = first_of (search (path_ImportPath.the_send, path_ImportPath.the_sync, text_Name.the_send, text_Name.the_sync, std.crosses, terms.crosses, sendable) depth 60 fits 20000, search (leaves, std.crosses, terms.crosses, sendable) depth 60 fits 20000, search (leaves, std.crosses, terms.crosses, sendable) depth 60 fits 20000)

pub term_send : IsSend (term.the_field).row
term_send = first_of (search (term_row_send, path_ImportPath.the_send, path_ImportPath.the_sync, text_Name.the_send, text_Name.the_sync, std.crosses, terms.crosses, sendable) depth 60 fits 20000, search (term_row_send, leaves, std.crosses, terms.crosses, sendable) depth 60 fits 20000, search (term_row_send, leaves, std.crosses, terms.crosses, sendable) depth 60 fits 20000)

pub term_row_sync : IsSync term.the_row
term_row_sync = first_of (search (path_ImportPath.the_send, path_ImportPath.the_sync, text_Name.the_send, text_Name.the_sync, std.crosses, terms.crosses, sendable) depth 60 fits 20000, search (leaves, std.crosses, terms.crosses, sendable) depth 60 fits 20000, search (leaves, std.crosses, terms.crosses, sendable) depth 60 fits 20000)

pub term_sync : IsSync (term.the_field).row
term_sync = first_of (search (term_row_sync, path_ImportPath.the_send, path_ImportPath.the_sync, text_Name.the_send, text_Name.the_sync, std.crosses, terms.crosses, sendable) depth 60 fits 20000, search (term_row_sync, leaves, std.crosses, terms.crosses, sendable) depth 60 fits 20000, search (term_row_sync, leaves, std.crosses, terms.crosses, sendable) depth 60 fits 20000)

pub term_signature_row_send : IsSend term_signature.the_row
term_signature_row_send = first_of (search (term_row_send, term_row_sync, term_send, term_sync, path_ImportPath.the_send, path_ImportPath.the_sync, text_Name.the_send, text_Name.the_sync, std.crosses, terms.crosses, sendable) depth 60 fits 20000, search (term_row_send, term_row_sync, term_send, term_sync, leaves, std.crosses, terms.crosses, sendable) depth 60 fits 20000, search (term_row_send, term_row_sync, term_send, term_sync, leaves, std.crosses, terms.crosses, sendable) depth 60 fits 20000)

pub term_signature_send : IsSend (term_signature.the_field).row
term_signature_send = first_of (search (term_signature_row_send, term_row_send, term_row_sync, term_send, term_sync, path_ImportPath.the_send, path_ImportPath.the_sync, text_Name.the_send, text_Name.the_sync, std.crosses, terms.crosses, sendable) depth 60 fits 20000, search (term_signature_row_send, term_row_send, term_row_sync, term_send, term_sync, leaves, std.crosses, terms.crosses, sendable) depth 60 fits 20000, search (term_signature_row_send, term_row_send, term_row_sync, term_send, term_sync, leaves, std.crosses, terms.crosses, sendable) depth 60 fits 20000)

pub term_signature_row_sync : IsSync term_signature.the_row
term_signature_row_sync = first_of (search (term_row_send, term_row_sync, term_send, term_sync, path_ImportPath.the_send, path_ImportPath.the_sync, text_Name.the_send, text_Name.the_sync, std.crosses, terms.crosses, sendable) depth 60 fits 20000, search (term_row_send, term_row_sync, term_send, term_sync, leaves, std.crosses, terms.crosses, sendable) depth 60 fits 20000, search (term_row_send, term_row_sync, term_send, term_sync, leaves, std.crosses, terms.crosses, sendable) depth 60 fits 20000)

pub term_signature_sync : IsSync (term_signature.the_field).row
term_signature_sync = first_of (search (term_signature_row_sync, term_row_send, term_row_sync, term_send, term_sync, path_ImportPath.the_send, path_ImportPath.the_sync, text_Name.the_send, text_Name.the_sync, std.crosses, terms.crosses, sendable) depth 60 fits 20000, search (term_signature_row_sync, term_row_send, term_row_sync, term_send, term_sync, leaves, std.crosses, terms.crosses, sendable) depth 60 fits 20000, search (term_signature_row_sync, term_row_send, term_row_sync, term_send, term_sync, leaves, std.crosses, terms.crosses, sendable) depth 60 fits 20000)

pub declared_method_row_send : IsSend declared_method.the_row
declared_method_row_send = first_of (search (term_row_send, term_row_sync, term_send, term_sync, term_signature_row_send, term_signature_row_sync, term_signature_send, term_signature_sync, path_ImportPath.the_send, path_ImportPath.the_sync, text_Name.the_send, text_Name.the_sync, std.crosses, sendable) depth 60 fits 20000, search (term_row_send, term_row_sync, term_send, term_sync, term_signature_row_send, term_signature_row_sync, term_signature_send, term_signature_sync, leaves, std.crosses, sendable) depth 60 fits 20000, search (term_row_send, term_row_sync, term_send, term_sync, term_signature_row_send, term_signature_row_sync, term_signature_send, term_signature_sync, leaves, std.crosses, sendable) depth 60 fits 20000)

pub declared_method_send : IsSend (declared_method.the_field).row
declared_method_send = first_of (search (declared_method_row_send, term_row_send, term_row_sync, term_send, term_sync, term_signature_row_send, term_signature_row_sync, term_signature_send, term_signature_sync, path_ImportPath.the_send, path_ImportPath.the_sync, text_Name.the_send, text_Name.the_sync, std.crosses, sendable) depth 60 fits 20000, search (declared_method_row_send, term_row_send, term_row_sync, term_send, term_sync, term_signature_row_send, term_signature_row_sync, term_signature_send, term_signature_sync, leaves, std.crosses, sendable) depth 60 fits 20000, search (declared_method_row_send, term_row_send, term_row_sync, term_send, term_sync, term_signature_row_send, term_signature_row_sync, term_signature_send, term_signature_sync, leaves, std.crosses, sendable) depth 60 fits 20000)

pub declared_method_row_sync : IsSync declared_method.the_row
declared_method_row_sync = first_of (search (term_row_send, term_row_sync, term_send, term_sync, term_signature_row_send, term_signature_row_sync, term_signature_send, term_signature_sync, path_ImportPath.the_send, path_ImportPath.the_sync, text_Name.the_send, text_Name.the_sync, std.crosses, sendable) depth 60 fits 20000, search (term_row_send, term_row_sync, term_send, term_sync, term_signature_row_send, term_signature_row_sync, term_signature_send, term_signature_sync, leaves, std.crosses, sendable) depth 60 fits 20000, search (term_row_send, term_row_sync, term_send, term_sync, term_signature_row_send, term_signature_row_sync, term_signature_send, term_signature_sync, leaves, std.crosses, sendable) depth 60 fits 20000)

pub declared_method_sync : IsSync (declared_method.the_field).row
declared_method_sync = first_of (search (declared_method_row_sync, term_row_send, term_row_sync, term_send, term_sync, term_signature_row_send, term_signature_row_sync, term_signature_send, term_signature_sync, path_ImportPath.the_send, path_ImportPath.the_sync, text_Name.the_send, text_Name.the_sync, std.crosses, sendable) depth 60 fits 20000, search (declared_method_row_sync, term_row_send, term_row_sync, term_send, term_sync, term_signature_row_send, term_signature_row_sync, term_signature_send, term_signature_sync, leaves, std.crosses, sendable) depth 60 fits 20000, search (declared_method_row_sync, term_row_send, term_row_sync, term_send, term_sync, term_signature_row_send, term_signature_row_sync, term_signature_send, term_signature_sync, leaves, std.crosses, sendable) depth 60 fits 20000)

pub type_entry_row_send : IsSend type_entry.the_row
type_entry_row_send = first_of (search (term_row_send, term_row_sync, term_send, term_sync, term_signature_row_send, term_signature_row_sync, term_signature_send, term_signature_sync, declared_method_row_send, declared_method_row_sync, declared_method_send, declared_method_sync, path_ImportPath.the_send, path_ImportPath.the_sync, text_Name.the_send, text_Name.the_sync, std.crosses, sendable) depth 60 fits 20000, search (term_row_send, term_row_sync, term_send, term_sync, term_signature_row_send, term_signature_row_sync, term_signature_send, term_signature_sync, declared_method_row_send, declared_method_row_sync, declared_method_send, declared_method_sync, leaves, std.crosses, sendable) depth 60 fits 20000, search (term_row_send, term_row_sync, term_send, term_sync, term_signature_row_send, term_signature_row_sync, term_signature_send, term_signature_sync, declared_method_row_send, declared_method_row_sync, declared_method_send, declared_method_sync, leaves, std.crosses, sendable) depth 60 fits 20000)

pub type_entry_send : IsSend (type_entry.the_field).row
type_entry_send = first_of (search (type_entry_row_send, term_row_send, term_row_sync, term_send, term_sync, term_signature_row_send, term_signature_row_sync, term_signature_send, term_signature_sync, declared_method_row_send, declared_method_row_sync, declared_method_send, declared_method_sync, path_ImportPath.the_send, path_ImportPath.the_sync, text_Name.the_send, text_Name.the_sync, std.crosses, sendable) depth 60 fits 20000, search (type_entry_row_send, term_row_send, term_row_sync, term_send, term_sync, term_signature_row_send, term_signature_row_sync, term_signature_send, term_signature_sync, declared_method_row_send, declared_method_row_sync, declared_method_send, declared_method_sync, leaves, std.crosses, sendable) depth 60 fits 20000, search (type_entry_row_send, term_row_send, term_row_sync, term_send, term_sync, term_signature_row_send, term_signature_row_sync, term_signature_send, term_signature_sync, declared_method_row_send, declared_method_row_sync, declared_method_send, declared_method_sync, leaves, std.crosses, sendable) depth 60 fits 20000)

pub type_entry_row_sync : IsSync type_entry.the_row
type_entry_row_sync = first_of (search (term_row_send, term_row_sync, term_send, term_sync, term_signature_row_send, term_signature_row_sync, term_signature_send, term_signature_sync, declared_method_row_send, declared_method_row_sync, declared_method_send, declared_method_sync, path_ImportPath.the_send, path_ImportPath.the_sync, text_Name.the_send, text_Name.the_sync, std.crosses, sendable) depth 60 fits 20000, search (term_row_send, term_row_sync, term_send, term_sync, term_signature_row_send, term_signature_row_sync, term_signature_send, term_signature_sync, declared_method_row_send, declared_method_row_sync, declared_method_send, declared_method_sync, leaves, std.crosses, sendable) depth 60 fits 20000, search (term_row_send, term_row_sync, term_send, term_sync, term_signature_row_send, term_signature_row_sync, term_signature_send, term_signature_sync, declared_method_row_send, declared_method_row_sync, declared_method_send, declared_method_sync, leaves, std.crosses, sendable) depth 60 fits 20000)

pub type_entry_sync : IsSync (type_entry.the_field).row
type_entry_sync = first_of (search (type_entry_row_sync, term_row_send, term_row_sync, term_send, term_sync, term_signature_row_send, term_signature_row_sync, term_signature_send, term_signature_sync, declared_method_row_send, declared_method_row_sync, declared_method_send, declared_method_sync, path_ImportPath.the_send, path_ImportPath.the_sync, text_Name.the_send, text_Name.the_sync, std.crosses, sendable) depth 60 fits 20000, search (type_entry_row_sync, term_row_send, term_row_sync, term_send, term_sync, term_signature_row_send, term_signature_row_sync, term_signature_send, term_signature_sync, declared_method_row_send, declared_method_row_sync, declared_method_send, declared_method_sync, leaves, std.crosses, sendable) depth 60 fits 20000, search (type_entry_row_sync, term_row_send, term_row_sync, term_send, term_sync, term_signature_row_send, term_signature_row_sync, term_signature_send, term_signature_sync, declared_method_row_send, declared_method_row_sync, declared_method_send, declared_method_sync, leaves, std.crosses, sendable) depth 60 fits 20000)

pub indexed_term_row_send : IsSend indexed_term.the_row
indexed_term_row_send = first_of (search (term_row_send, term_row_sync, term_send, term_sync, index_Spelling.the_send, index_Spelling.the_sync, index_Spellings.the_send, index_Spellings.the_sync, std.crosses, sendable) depth 60 fits 20000, search (term_row_send, term_row_sync, term_send, term_sync, leaves, std.crosses, sendable) depth 60 fits 20000)

pub indexed_term_row_sync : IsSync indexed_term.the_row
indexed_term_row_sync = first_of (search (term_row_send, term_row_sync, term_send, term_sync, index_Spelling.the_send, index_Spelling.the_sync, index_Spellings.the_send, index_Spellings.the_sync, std.crosses, sendable) depth 60 fits 20000, search (term_row_send, term_row_sync, term_send, term_sync, leaves, std.crosses, sendable) depth 60 fits 20000)

pub defined_row_send : IsSend defined.the_row
defined_row_send = first_of (search (indexed_term_row_send, indexed_term_row_sync, index_Spellings.the_send, index_Spellings.the_sync, term_row_send, term_row_sync, term_send, term_sync, declared_method_row_send, declared_method_row_sync, declared_method_send, declared_method_sync, type_entry_row_send, type_entry_row_sync, type_entry_send, type_entry_sync, path_ImportPath.the_send, path_ImportPath.the_sync, text_Name.the_send, text_Name.the_sync, std.crosses, sendable) depth 60 fits 20000, search (indexed_term_row_send, indexed_term_row_sync, index_Spellings.the_send, index_Spellings.the_sync, term_row_send, term_row_sync, term_send, term_sync, declared_method_row_send, declared_method_row_sync, declared_method_send, declared_method_sync, type_entry_row_send, type_entry_row_sync, type_entry_send, type_entry_sync, leaves, std.crosses, sendable) depth 60 fits 20000, search (indexed_term_row_send, indexed_term_row_sync, index_Spellings.the_send, index_Spellings.the_sync, term_row_send, term_row_sync, term_send, term_sync, declared_method_row_send, declared_method_row_sync, declared_method_send, declared_method_sync, type_entry_row_send, type_entry_row_sync, type_entry_send, type_entry_sync, term_signature_row_send, term_signature_row_sync, term_signature_send, term_signature_sync, leaves, std.crosses, sendable) depth 60 fits 20000)

pub defined_row_sync : IsSync defined.the_row
defined_row_sync = first_of (search (indexed_term_row_send, indexed_term_row_sync, index_Spellings.the_send, index_Spellings.the_sync, term_row_send, term_row_sync, term_send, term_sync, declared_method_row_send, declared_method_row_sync, declared_method_send, declared_method_sync, type_entry_row_send, type_entry_row_sync, type_entry_send, type_entry_sync, path_ImportPath.the_send, path_ImportPath.the_sync, text_Name.the_send, text_Name.the_sync, std.crosses, sendable) depth 60 fits 20000, search (indexed_term_row_send, indexed_term_row_sync, index_Spellings.the_send, index_Spellings.the_sync, term_row_send, term_row_sync, term_send, term_sync, declared_method_row_send, declared_method_row_sync, declared_method_send, declared_method_sync, type_entry_row_send, type_entry_row_sync, type_entry_send, type_entry_sync, leaves, std.crosses, sendable) depth 60 fits 20000, search (indexed_term_row_send, indexed_term_row_sync, index_Spellings.the_send, index_Spellings.the_sync, term_row_send, term_row_sync, term_send, term_sync, declared_method_row_send, declared_method_row_sync, declared_method_send, declared_method_sync, type_entry_row_send, type_entry_row_sync, type_entry_send, type_entry_sync, term_signature_row_send, term_signature_row_sync, term_signature_send, term_signature_sync, leaves, std.crosses, sendable) depth 60 fits 20000)

pub package_types_row_send : IsSend package_types.the_row
package_types_row_send = first_of (search (defined_row_send, defined_row_sync, path_ImportPath.the_send, path_ImportPath.the_sync, text_Name.the_send, text_Name.the_sync, std.crosses, sendable) depth 60 fits 20000, search (defined_row_send, defined_row_sync, leaves, std.crosses, sendable) depth 60 fits 20000, search (defined_row_send, defined_row_sync, term_row_send, term_row_sync, term_send, term_sync, term_signature_row_send, term_signature_row_sync, term_signature_send, term_signature_sync, declared_method_row_send, declared_method_row_sync, declared_method_send, declared_method_sync, type_entry_row_send, type_entry_row_sync, type_entry_send, type_entry_sync, leaves, std.crosses, sendable) depth 60 fits 20000)

pub package_types_row_sync : IsSync package_types.the_row
package_types_row_sync = first_of (search (defined_row_send, defined_row_sync, path_ImportPath.the_send, path_ImportPath.the_sync, text_Name.the_send, text_Name.the_sync, std.crosses, sendable) depth 60 fits 20000, search (defined_row_send, defined_row_sync, leaves, std.crosses, sendable) depth 60 fits 20000, search (defined_row_send, defined_row_sync, term_row_send, term_row_sync, term_send, term_sync, term_signature_row_send, term_signature_row_sync, term_signature_send, term_signature_sync, declared_method_row_send, declared_method_row_sync, declared_method_send, declared_method_sync, type_entry_row_send, type_entry_row_sync, type_entry_send, type_entry_sync, leaves, std.crosses, sendable) depth 60 fits 20000)

pub declared_face_row_send : IsSend declared_face.the_row
declared_face_row_send = first_of (search (term_row_send, term_row_sync, term_send, term_sync, term_signature_row_send, term_signature_row_sync, term_signature_send, term_signature_sync, path_ImportPath.the_send, path_ImportPath.the_sync, text_Name.the_send, text_Name.the_sync, std.crosses, sendable) depth 60 fits 20000, search (term_row_send, term_row_sync, term_send, term_sync, term_signature_row_send, term_signature_row_sync, term_signature_send, term_signature_sync, leaves, std.crosses, sendable) depth 60 fits 20000, search (term_row_send, term_row_sync, term_send, term_sync, term_signature_row_send, term_signature_row_sync, term_signature_send, term_signature_sync, declared_method_row_send, declared_method_row_sync, declared_method_send, declared_method_sync, type_entry_row_send, type_entry_row_sync, type_entry_send, type_entry_sync, defined_row_send, defined_row_sync, package_types_row_send, package_types_row_sync, leaves, std.crosses, sendable) depth 60 fits 20000)

pub declared_face_send : IsSend (declared_face.the_field).row
declared_face_send = first_of (search (declared_face_row_send, term_row_send, term_row_sync, term_send, term_sync, term_signature_row_send, term_signature_row_sync, term_signature_send, term_signature_sync, path_ImportPath.the_send, path_ImportPath.the_sync, text_Name.the_send, text_Name.the_sync, std.crosses, sendable) depth 60 fits 20000, search (declared_face_row_send, term_row_send, term_row_sync, term_send, term_sync, term_signature_row_send, term_signature_row_sync, term_signature_send, term_signature_sync, leaves, std.crosses, sendable) depth 60 fits 20000, search (declared_face_row_send, term_row_send, term_row_sync, term_send, term_sync, term_signature_row_send, term_signature_row_sync, term_signature_send, term_signature_sync, declared_method_row_send, declared_method_row_sync, declared_method_send, declared_method_sync, type_entry_row_send, type_entry_row_sync, type_entry_send, type_entry_sync, defined_row_send, defined_row_sync, package_types_row_send, package_types_row_sync, leaves, std.crosses, sendable) depth 60 fits 20000)

pub declared_face_row_sync : IsSync declared_face.the_row
declared_face_row_sync = first_of (search (term_row_send, term_row_sync, term_send, term_sync, term_signature_row_send, term_signature_row_sync, term_signature_send, term_signature_sync, path_ImportPath.the_send, path_ImportPath.the_sync, text_Name.the_send, text_Name.the_sync, std.crosses, sendable) depth 60 fits 20000, search (term_row_send, term_row_sync, term_send, term_sync, term_signature_row_send, term_signature_row_sync, term_signature_send, term_signature_sync, leaves, std.crosses, sendable) depth 60 fits 20000, search (term_row_send, term_row_sync, term_send, term_sync, term_signature_row_send, term_signature_row_sync, term_signature_send, term_signature_sync, declared_method_row_send, declared_method_row_sync, declared_method_send, declared_method_sync, type_entry_row_send, type_entry_row_sync, type_entry_send, type_entry_sync, defined_row_send, defined_row_sync, package_types_row_send, package_types_row_sync, leaves, std.crosses, sendable) depth 60 fits 20000)

pub declared_face_sync : IsSync (declared_face.the_field).row
declared_face_sync = first_of (search (declared_face_row_sync, term_row_send, term_row_sync, term_send, term_sync, term_signature_row_send, term_signature_row_sync, term_signature_send, term_signature_sync, path_ImportPath.the_send, path_ImportPath.the_sync, text_Name.the_send, text_Name.the_sync, std.crosses, sendable) depth 60 fits 20000, search (declared_face_row_sync, term_row_send, term_row_sync, term_send, term_sync, term_signature_row_send, term_signature_row_sync, term_signature_send, term_signature_sync, leaves, std.crosses, sendable) depth 60 fits 20000, search (declared_face_row_sync, term_row_send, term_row_sync, term_send, term_sync, term_signature_row_send, term_signature_row_sync, term_signature_send, term_signature_sync, declared_method_row_send, declared_method_row_sync, declared_method_send, declared_method_sync, type_entry_row_send, type_entry_row_sync, type_entry_send, type_entry_sync, defined_row_send, defined_row_sync, package_types_row_send, package_types_row_sync, leaves, std.crosses, sendable) depth 60 fits 20000)

-- names as other packages see them, with the places where they stand

name_places_row_send : IsSend name_places.the_row
name_places_row_send = first_of (search (named_Places.the_send, maps.crosses, std.crosses, sendable) depth 60 fits 20000, search (maps.crosses, std.crosses, sendable) depth 60 fits 20000)

name_places_send : IsSend (name_places.the_field).row
name_places_send = first_of (search (named_Places.the_field_send, maps.crosses, std.crosses, sendable) depth 60 fits 20000, search (name_places_row_send, maps.crosses, std.crosses, sendable) depth 60 fits 20000)

seen_names_row_send : IsSend seen_names.the_row
seen_names_row_send = first_of (search (face_SeenNames.the_send, named_NameTable.the_send, name_places_row_send, name_places_send, decl_DeclRef.the_field_send, decl_DeclRef.the_send, std_Option.the_field_send, std_Option.the_send, maps.crosses, std.crosses, sendable) depth 60 fits 20000, search (name_places_row_send, name_places_send, leaves, maps.crosses, std.crosses, sendable) depth 60 fits 20000)

seen_names_send : IsSend (seen_names.the_field).row
seen_names_send = search (seen_names_row_send, std.crosses, sendable) depth 60 fits 20000

name_places_row_sync : IsSync name_places.the_row
name_places_row_sync = first_of (search (named_Places.the_sync, maps.crosses, std.crosses, sendable) depth 60 fits 20000, search (maps.crosses, std.crosses, sendable) depth 60 fits 20000)

name_places_sync : IsSync (name_places.the_field).row
name_places_sync = first_of (search (named_Places.the_field_sync, maps.crosses, std.crosses, sendable) depth 60 fits 20000, search (name_places_row_sync, maps.crosses, std.crosses, sendable) depth 60 fits 20000)

seen_names_row_sync : IsSync seen_names.the_row
seen_names_row_sync = first_of (search (face_SeenNames.the_sync, named_NameTable.the_sync, name_places_row_sync, name_places_sync, decl_DeclRef.the_field_sync, decl_DeclRef.the_sync, std_Option.the_field_sync, std_Option.the_sync, maps.crosses, std.crosses, sendable) depth 60 fits 20000, search (name_places_row_sync, name_places_sync, leaves, maps.crosses, std.crosses, sendable) depth 60 fits 20000)

seen_names_sync : IsSync (seen_names.the_field).row
seen_names_sync = search (seen_names_row_sync, std.crosses, sendable) depth 60 fits 20000

pub package_faces_row_send : IsSend package_faces.the_row
package_faces_row_send = first_of (search (seen_names_row_send, seen_names_row_sync, seen_names_send, seen_names_sync, declared_face_row_send, declared_face_row_sync, declared_face_send, declared_face_sync, path_ImportPath.the_send, path_ImportPath.the_sync, text_Name.the_send, text_Name.the_sync, std.crosses, sendable) depth 60 fits 20000, search (seen_names_row_send, seen_names_row_sync, seen_names_send, seen_names_sync, declared_face_row_send, declared_face_row_sync, declared_face_send, declared_face_sync, leaves, std.crosses, sendable) depth 60 fits 20000, search (seen_names_row_send, seen_names_row_sync, seen_names_send, seen_names_sync, declared_face_row_send, declared_face_row_sync, declared_face_send, declared_face_sync, term_row_send, term_row_sync, term_send, term_sync, term_signature_row_send, term_signature_row_sync, term_signature_send, term_signature_sync, declared_method_row_send, declared_method_row_sync, declared_method_send, declared_method_sync, type_entry_row_send, type_entry_row_sync, type_entry_send, type_entry_sync, defined_row_send, defined_row_sync, package_types_row_send, package_types_row_sync, leaves, std.crosses, sendable) depth 60 fits 20000)

pub package_faces_row_sync : IsSync package_faces.the_row
package_faces_row_sync = first_of (search (seen_names_row_send, seen_names_row_sync, seen_names_send, seen_names_sync, declared_face_row_send, declared_face_row_sync, declared_face_send, declared_face_sync, path_ImportPath.the_send, path_ImportPath.the_sync, text_Name.the_send, text_Name.the_sync, std.crosses, sendable) depth 60 fits 20000, search (seen_names_row_send, seen_names_row_sync, seen_names_send, seen_names_sync, declared_face_row_send, declared_face_row_sync, declared_face_send, declared_face_sync, leaves, std.crosses, sendable) depth 60 fits 20000, search (seen_names_row_send, seen_names_row_sync, seen_names_send, seen_names_sync, declared_face_row_send, declared_face_row_sync, declared_face_send, declared_face_sync, term_row_send, term_row_sync, term_send, term_sync, term_signature_row_send, term_signature_row_sync, term_signature_send, term_signature_sync, declared_method_row_send, declared_method_row_sync, declared_method_send, declared_method_sync, type_entry_row_send, type_entry_row_sync, type_entry_send, type_entry_sync, defined_row_send, defined_row_sync, package_types_row_send, package_types_row_sync, leaves, std.crosses, sendable) depth 60 fits 20000)

-- what is lent of a package

pub home_row_sync : IsSync home.the_row
home_row_sync = first_of (search (path_ImportPath.the_sync, term_row_sync, term_signature_row_sync, std.crosses, sendable) depth 60 fits 20000, search (term_row_send, term_row_sync, term_send, term_sync, term_signature_row_send, term_signature_row_sync, term_signature_send, term_signature_sync, leaves, std.crosses, sendable) depth 60 fits 20000)

pub type_table_row_sync : IsSync type_table.the_row
type_table_row_sync = first_of (search (named_NameTable.the_send, named_NameTable.the_sync, name_places_row_send, name_places_row_sync, package_types_row_send, package_types_row_sync, term_row_send, term_row_sync, maps.crosses, std.crosses, sendable) depth 60 fits 20000, search (name_places_row_send, name_places_row_sync, name_places_send, name_places_sync, package_types_row_send, package_types_row_sync, term_row_send, term_row_sync, term_send, term_sync, leaves, maps.crosses, std.crosses, sendable) depth 60 fits 20000)

pub face_table_row_sync : IsSync face_table.the_row
face_table_row_sync = first_of (search (named_NameTable.the_send, named_NameTable.the_sync, name_places_row_send, name_places_row_sync, package_faces_row_send, package_faces_row_sync, maps.crosses, std.crosses, sendable) depth 60 fits 20000, search (name_places_row_send, name_places_row_sync, name_places_send, name_places_sync, package_faces_row_send, package_faces_row_sync, leaves, maps.crosses, std.crosses, sendable) depth 60 fits 20000)

pub shown_packages_row_sync : IsSync shown_packages.the_row
shown_packages_row_sync = first_of (search (named_NameTable.the_send, named_NameTable.the_sync, name_places_row_send, name_places_row_sync, block_Exports.the_send, block_Exports.the_sync, maps.crosses, std.crosses, sendable) depth 60 fits 20000, search (name_places_row_send, name_places_row_sync, name_places_send, name_places_sync, leaves, maps.crosses, std.crosses, sendable) depth 60 fits 20000)

pub written_faces_row_sync : IsSync written_faces.the_row
written_faces_row_sync = first_of (search (decl_DeclRef.the_field_sync, decl_DeclRef.the_sync, std_Option.the_field_sync, std_Option.the_sync, term_row_sync, term_sync, term_signature_row_sync, term_signature_sync, std.crosses, sendable) depth 60 fits 20000, search (term_row_send, term_row_sync, term_send, term_sync, term_signature_row_send, term_signature_row_sync, term_signature_send, term_signature_sync, leaves, std.crosses, sendable) depth 60 fits 20000)

pub scene_row_sync : (κ : NamedLft) → IsSync (scene.the_row κ)
scene_row_sync κ = search (home_row_sync, block_Blocks.the_sync, type_table_row_sync, face_table_row_sync, written_faces_row_sync, std.crosses, sendable) depth 60 fits 20000

pub inline_types_row_sync : IsSync inline_types.the_row
inline_types_row_sync = first_of (search (term_row_sync, local_Fault.the_sync, HashMap-sync, std.crosses, sendable) depth 60 fits 20000, search (term_row_send, term_row_sync, term_send, term_sync, leaves, maps.crosses, std.crosses, sendable) depth 60 fits 20000)

pub decl_places_row_sync : IsSync decl_places.the_row
decl_places_row_sync = search (decl_DeclKind.the_field_sync, decl_DeclKind.the_sync, std.crosses, sendable) depth 60 fits 20000

-- what names of types lead to

pub aliases_row_sync : IsSync aliases.the_row
aliases_row_sync = search (term_row_send, term_row_sync, term_send, term_sync, leaves, std.crosses, sendable) depth 60 fits 20000

pub types_here_row_sync : (κ : NamedLft) (T : RattleType) → IsSync T → IsSync (types_here.the_row κ T)
types_here_row_sync κ T y = search (aliases_row_sync, face_table_row_sync, leaves, std.crosses, sendable) depth 60 fits 20000

-- types, signatures and declarations that are lent

pub type_ref_row_send : (κ : NamedLft) → IsSend (type_ref.the_row κ)
type_ref_row_send κ = search (term_row_send, term_row_sync, std.crosses, sendable) depth 60 fits 20000

pub type_ref_row_sync : (κ : NamedLft) → IsSync (type_ref.the_row κ)
type_ref_row_sync κ = search (term_row_send, term_row_sync, std.crosses, sendable) depth 60 fits 20000

pub signature_ref_row_sync : (κ : NamedLft) → IsSync (signature_ref.the_row κ)
signature_ref_row_sync κ = search (term_signature_row_send, term_signature_row_sync, std.crosses, sendable) depth 60 fits 20000

pub decl_of_row_send : (κ : NamedLft) → IsSend (decl_of.the_row κ)
decl_of_row_send κ = search (universe_Predeclared.the_field_send, universe_Predeclared.the_send, term_MemberPlace.the_field_send, term_MemberPlace.the_send, path_ImportPath.the_send, path_ImportPath.the_sync, std.crosses, sendable) depth 60 fits 20000

-- what the declarations of a package are

pub known_row_sync : (κ μ : NamedLft) → IsSync (face.the_row (type_ref.the_row κ) (signature_ref.the_row μ))
known_row_sync κ μ = first_of (search (face_Face.the_field_sync, face_Face.the_sync, operand_Operand.the_field_sync, operand_Operand.the_sync, operand_ValueType.the_field_sync, operand_ValueType.the_sync, constant_Constant.the_field_sync, constant_Constant.the_sync, std_Option.the_field_sync, std_Option.the_sync, type_ref_row_sync, signature_ref_row_sync, std.crosses, sendable) depth 60 fits 20000, search (type_ref_row_send, type_ref_row_sync, signature_ref_row_sync, leaves, std.crosses, sendable) depth 60 fits 20000)

-- what is noted of bodies

pub use_row_send : (κ : NamedLft) → IsSend (use_of.the_row (decl_of.the_row κ) embed_path.the_row)
use_row_send κ = first_of (search (expr_Use.the_field_send, expr_Use.the_send, denote_Outcome.the_field_send, denote_Outcome.the_send, tree_Role.the_field_send, tree_Role.the_send, text_Rule.the_field_send, text_Rule.the_send, decl_of_row_send, level_EmbedPath.the_send, std.crosses, sendable) depth 60 fits 20000, search (decl_of_row_send, leaves, std.crosses, sendable) depth 60 fits 20000)

pub local_row_send : (κ : NamedLft) → IsSend (local.the_row κ)
local_row_send κ = first_of (search (operand_Operand.the_field_send, operand_Operand.the_send, operand_ValueType.the_field_send, operand_ValueType.the_send, constant_Constant.the_field_send, constant_Constant.the_send, std_Option.the_field_send, std_Option.the_send, type_ref_row_send, std.crosses, sendable) depth 60 fits 20000, search (type_ref_row_send, type_ref_row_sync, leaves, std.crosses, sendable) depth 60 fits 20000)

pub ruleset scenes = (scene_row_sync, decl_places_row_sync, inline_types_row_sync, known_row_sync, top_decl_row_send, top_decl_row_sync, use_row_send, local_row_send, local_Fault.the_field_send, local_Fault.the_send, block_Imported.the_field_sync, block_Imported.the_sync, block_Exports.the_send, block_Exports.the_sync, text_Rule.the_field_send, text_Rule.the_send, text_Rule.the_field_sync, text_Rule.the_sync, std_Option.the_field_send, std_Option.the_send, std_Option.the_field_sync, std_Option.the_sync, std_Result.the_field_send, std_Result.the_send)

pub ruleset trees = (file_row_sync, value_spec_row_sync, type_spec_row_sync, func_decl_row_sync, tree_nodes_Ident.the_field_sync, tree_nodes_Ident.the_sync, tree_nodes_ValueKind.the_field_sync, tree_nodes_ValueKind.the_sync, text_Rule.the_field_sync, text_Rule.the_sync, block_Blocks.the_sync)
