-- What a thread is given, and what it gives back: inputs, parts, and what is seen of packages. A level at a time, so that no search is long.
use denote.Param.Send.{IsSend, sendable}
use Rattle.std.proofs.Crossing as std
use Rattle.std.proofs.MapsCrossing as maps
use Rattle.go_thread_core.proofs.Crossing.{input_row_send, leaves, package_faces_row_send, package_faces_row_sync, package_types_row_send, package_types_row_sync, part_row_send, summary_row_send, term_row_send, term_row_sync, term_send, term_sync}
pub use Rattle.go_block_core.proofs.exports.Exports.TheSendSync as block_Exports
pub use Rattle.go_collections_core.proofs.name_table.named.NameTable.TheSendSync as named_NameTable
pub use Rattle.go_collections_core.proofs.name_table.places.Places.TheSendSync as named_Places
use Rattle.go_collections_core.specs.contracts.name_table.places.Places as name_places
use Rattle.go_table_core.specs.contracts.table.TypeTable as type_table
use Rattle.go_typexpr_core.specs.contracts.entry.shown_packages.ShownPackages as shown_packages
use Rattle.go_declared_core.specs.contracts.table.FaceTable as face_table
use Rattle.go_summary_core.specs.contracts.view.View as view
use Rattle.go_batch_core.specs.contracts.read.ReadInput as read_input
use Rattle.go_batch_core.specs.contracts.read.ReadPart as read_part
use Rattle.go_batch_core.specs.contracts.seen.sight.Sight as sight

name_places_row_send : IsSend name_places.the_row
name_places_row_send = first_of (search (named_Places.the_send, maps.crosses, std.crosses, sendable) depth 60 fits 20000, search (maps.crosses, std.crosses, sendable) depth 60 fits 20000)

name_places_send : IsSend (name_places.the_field).row
name_places_send = first_of (search (named_Places.the_field_send, maps.crosses, std.crosses, sendable) depth 60 fits 20000, search (name_places_row_send, maps.crosses, std.crosses, sendable) depth 60 fits 20000)

ruleset places = (name_places_row_send, name_places_send, named_NameTable.the_send)

type_table_row_send : IsSend type_table.the_row
type_table_row_send = first_of (search (places, package_types_row_send, term_send, maps.crosses, std.crosses, sendable) depth 60 fits 20000, search (places, package_types_row_send, package_types_row_sync, term_row_send, term_row_sync, term_send, term_sync, leaves, maps.crosses, std.crosses, sendable) depth 60 fits 20000)

shown_packages_row_send : IsSend shown_packages.the_row
shown_packages_row_send = first_of (search (places, block_Exports.the_send, maps.crosses, std.crosses, sendable) depth 60 fits 20000, search (places, leaves, maps.crosses, std.crosses, sendable) depth 60 fits 20000)

face_table_row_send : IsSend face_table.the_row
face_table_row_send = first_of (search (places, package_faces_row_send, maps.crosses, std.crosses, sendable) depth 60 fits 20000, search (places, package_faces_row_send, package_faces_row_sync, leaves, maps.crosses, std.crosses, sendable) depth 60 fits 20000)

view_row_send : IsSend view.the_row
view_row_send = search (type_table_row_send, shown_packages_row_send, face_table_row_send, sendable) depth 60 fits 20000

view_send : IsSend (view.the_field).row
view_send = first_of (search (type_table_row_send, shown_packages_row_send, face_table_row_send, sendable) depth 60 fits 20000, search (view_row_send, type_table_row_send, shown_packages_row_send, face_table_row_send, std.crosses, sendable) depth 60 fits 20000)

pub sight_row_send : IsSend sight.the_row
sight_row_send = search (view_send, summary_row_send, std.crosses, sendable) depth 60 fits 20000

pub read_input_row_send : IsSend read_input.the_row
read_input_row_send = search (input_row_send, part_row_send, std.crosses, sendable) depth 60 fits 20000

pub read_part_row_send : IsSend read_part.the_row
read_part_row_send = search (part_row_send, sendable) depth 60 fits 20000

pub ruleset given = (sight_row_send, read_input_row_send, read_part_row_send)
