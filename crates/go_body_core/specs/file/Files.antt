-- What the occurrences of a file have, its faults beside these outcomes, and the locals of its functions.
--
-- docs/RULES.md, "Occurrences", "Imports", "Types inside functions", "Bodies of functions", "Declarations outside functions". The Go
-- specification, "Import declarations", "Declarations and scope", "Package initialization", "Function declarations".
use Rattle.std.specs.Prelude.{List, [], ◌++◌}
use Rattle.std.specs.List.{flat_map}
use Rattle.go_tree_nodes.specs.Trees.{DeclTree, Value, Types, Func, TopTree, FileTree}
use Rattle.go_block_core.specs.declared.imports.Imported.{Imported}
use Rattle.go_block_core.specs.Naming.{file_specs}
use Rattle.go_local_core.specs.declared.Fault.{Fault}
use Rattle.go_stmt_core.specs.toplevel.Tops.{value_decl_uses, value_decl_faults, type_decl_uses, type_decl_faults}
use Rattle.go_body_core.specs.Notes.{TheUse, TheLocal}
use Rattle.go_body_core.specs.function.Stands.{FileStand, outer_looks}
use Rattle.go_body_core.specs.function.Functions.{checked_func}
use Rattle.go_body_core.specs.file.Imports.{imports_uses}

-- a declaration: outside functions names mean what they mean at the top of the file, and inside one what its declarations make them
abbrev pub decl_uses : FileStand → DeclTree → List TheUse
decl_uses st (Value v) = value_decl_uses (outer_looks st) v
decl_uses st (Types t) = type_decl_uses (outer_looks st) t
decl_uses st (Func f) = (checked_func st f).uses

abbrev pub decl_faults : FileStand → DeclTree → List Fault
decl_faults st (Value v) = value_decl_faults (outer_looks st) v
decl_faults st (Types t) = type_decl_faults t
decl_faults st (Func f) = (checked_func st f).faults

-- the locals that it declares: those of a function
abbrev pub decl_locals : FileStand → DeclTree → List TheLocal
decl_locals st (Value v) = []
decl_locals st (Types t) = []
decl_locals st (Func f) = (checked_func st f).locals

-- declarations, one behind another
abbrev pub tops_uses : FileStand → List TopTree → List TheUse
tops_uses st ds = flat_map (λ d. decl_uses st d.decl) ds

abbrev pub tops_faults : FileStand → List TopTree → List Fault
tops_faults st ds = flat_map (λ d. decl_faults st d.decl) ds

abbrev pub tops_locals : FileStand → List TopTree → List TheLocal
tops_locals st ds = flat_map (λ d. decl_locals st d.decl) ds

-- a file, whose imports come to these
abbrev pub file_uses : FileStand → List Imported → FileTree → List TheUse
file_uses st imports f = imports_uses (file_specs f) imports ++ tops_uses st f.decls

abbrev pub file_faults : FileStand → FileTree → List Fault
file_faults st f = tops_faults st f.decls

abbrev pub file_locals : FileStand → FileTree → List TheLocal
file_locals st f = tops_locals st f.decls
