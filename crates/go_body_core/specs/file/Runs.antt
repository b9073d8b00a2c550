-- Runs of declarations of a file: declarations that follow one another, with the types that are written in their functions.
use Rattle.std.specs.Prelude.{◌≡◌, ℕ, List, All, length, map}
use Rattle.std.specs.List.{flat_map}
use Rattle.go_tree_nodes.specs.declared.files.TopDecl.{TopDecl}
use Rattle.go_tree_nodes.specs.Shapes.{top_of}
use Rattle.go_inline_core.specs.Types.{InlineOf}
use Rattle.go_body_core.specs.function.Stands.{FileStand}
use Rattle.go_body_core.specs.declared.file.runs.Run.{Run}
use Rattle.go_body_core.specs.file.Files.{tops_uses, tops_faults, tops_locals}
use Rattle.go_body_core.specs.file.Package.{CheckedFileOf}
use Rattle.go_body_core.specs.file.Stands.{tops_funcs}
use Rattle.go_body_core.specs.file.mirrors.Steps.{AreMade}

-- there are types for each of its functions
abbrev pub IsRun : Run → Type 0
IsRun r = length r.functions.now ≡ length (tops_funcs (map top_of r.decls.now))

-- these runs, one behind another, are these declarations, with these types
pub record AreRuns (decls : List TopDecl) (functions : List (List (ℕ × InlineOf))) (rs : List Run) : Type 0 where
  pub all : flat_map (λ r. r.decls.now) rs ≡ decls
  pub types : flat_map (λ r. r.functions.now) rs ≡ functions
  pub each : All IsRun rs

-- the types that it writes are made, and its functions are placed
abbrev pub IsRunMade : FileStand → List (ℕ × InlineOf) → Run → Type 0
IsRunMade st initial r = AreMade st initial r.functions.now (map top_of r.decls.now)

-- what its occurrences have, its faults, and the locals of its functions
abbrev pub run_checked : FileStand → Run → CheckedFileOf
run_checked st r = record { uses = tops_uses st (map top_of r.decls.now); faults = tops_faults st (map top_of r.decls.now); locals = tops_locals st (map top_of r.decls.now) }
