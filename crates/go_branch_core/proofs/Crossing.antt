-- What threads see of a function while its parts are checked, and what they give back.
use denote.Ref.{NamedLft}
use denote.Param.Send.{IsSend, IsSync, sendable}
use Rattle.std.proofs.Crossing as std
use Rattle.std.proofs.MapsCrossing as maps
use Rattle.go_collections_core.proofs.name_table.named.NameTable.TheSendSync as named_NameTable
use Rattle.go_scope_stack.proofs.DeclId.TheSendSync as stack_DeclId
use Rattle.go_scope_stack.proofs.OpenBlocks.TheSendSync as stack_OpenBlocks
use Rattle.go_block_core.proofs.block.Blocks.TheSendSync as block_Blocks
use Rattle.go_scope_core.proofs.scope.Scopes.TheSendSync as scope_Scopes
use Rattle.go_names_core.proofs.meaning.Outside.TheSendSync as names_Outside
use Rattle.go_names_core.proofs.function.Checked.TheSendSync as names_Checked
use Rattle.go_local_core.proofs.Fault.TheSendSync as local_Fault
use Rattle.go_scope_core.specs.contracts.scope.Scopes as scopes
use Rattle.go_env_core.specs.contracts.meaning.Meaning as meaning
use Rattle.go_body_core.specs.contracts.notes.Note as note
use Rattle.go_body_core.specs.contracts.pieces.Pieces as pieces
use Rattle.go_body_core.proofs.CrossingCrossing.{leaves, line_row_sync, scene_row_sync, inline_types_row_sync, known_row_sync, type_ref_row_sync, use_row_send, local_row_send}

pub scopes_row_sync : (κ : NamedLft) → IsSync (scopes.the_row κ)
scopes_row_sync κ = first_of (search (scope_Scopes.the_sync, std.crosses, sendable) depth 60 fits 20000, search (scope_Scopes.the_sync, block_Blocks.the_sync, stack_OpenBlocks.the_sync, std.crosses, sendable) depth 60 fits 20000, search (block_Blocks.the_sync, stack_OpenBlocks.the_sync, stack_DeclId.the_sync, stack_DeclId.the_field_sync, named_NameTable.the_sync, leaves, maps.crosses, std.crosses, sendable) depth 60 fits 20000)

pub meaning_row_sync : (κ : NamedLft) → IsSync (meaning.the_row κ)
meaning_row_sync κ = search (names_Outside.the_field_sync, type_ref_row_sync, leaves, std.crosses, sendable) depth 60 fits 20000

pub pieces_row_sync : (κ μ : NamedLft) → IsSync (pieces.the_row κ μ)
pieces_row_sync κ μ = search (scene_row_sync, inline_types_row_sync, known_row_sync, type_ref_row_sync, leaves, std.crosses, sendable) depth 60 fits 20000

pub note_row_send : (κ : NamedLft) → IsSend (note.the_row κ)
note_row_send κ = search (use_row_send, local_row_send, local_Fault.the_send, std.crosses, sendable) depth 60 fits 20000

pub ruleset branches_cross = (line_row_sync, scopes_row_sync, meaning_row_sync, pieces_row_sync, note_row_send, names_Checked.the_send, local_Fault.the_field_send, local_Fault.the_send)
