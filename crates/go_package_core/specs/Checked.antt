-- What the check of a package gives.
--
-- docs/RULES.md, "Types", "Constants and variables of a package", "Bodies of functions", "Faces of declarations". The Go specification,
-- "Packages", "Declarations and scope", "Package initialization".
use Rattle.std.specs.Prelude.{◌≡◌, ◌++◌, ℕ, Bool, List, [], Option, drop, length, map, slice_index_or, take}
use Rattle.std.specs.Arc.{arc_value}
use Rattle.std.specs.List.{AllZip, enumerate_from}
use Rattle.std.specs.Option.{option_map}
use Rattle.go_tree_nodes.specs.Trees.{FileTree}
use Rattle.go_term_core.specs.decl_core.TopDecls.{top_decls}
use Rattle.go_block_core.specs.declared.imports.Imported.{Imported}
use Rattle.go_type_core.specs.table_core.Entries.{Entry}
use Rattle.go_body_core.specs.typexpr_core.EntryOutlines.{outline_of}
use Rattle.go_report_core.specs.declared.type_faults.places.PackageFault.{PackageFault}
use Rattle.go_report_core.specs.handle_core.Declarations.{Declaration}
use Rattle.go_local_core.specs.declared.Fault.{Fault}
use Rattle.go_report_core.specs.Faults.{IsSettled}
use Rattle.go_report_core.specs.declared.answer.locals.HeldLocal.{HeldLocal}
use Rattle.go_report_core.specs.declared_core.Faces.{TheFace, face_shown, operand_shown}
use Rattle.go_report_core.specs.declared_core.Laws.{package_decls}
use Rattle.go_report_core.specs.declared_core.Packages.{PackageFacesModel}
use Rattle.go_report_core.specs.declared_core.Written.{decls_of}
use Rattle.go_body_core.specs.Notes.{TheUse, TheLocal}
use Rattle.go_body_core.specs.function.Stands.{FileStand}
use Rattle.go_body_core.specs.file.Files.{file_uses, file_faults, file_locals}
use Rattle.go_report_core.specs.answer.Outer.{outer_faults}
use Rattle.go_report_core.specs.answer.Shown.{package_shown}
use Rattle.go_package_core.specs.prepare.Packages.{PackageIn, outlines_in, scene_in, stand_in}
use Rattle.go_package_core.specs.prepare.Types.{AreTypes}
use Rattle.go_package_core.specs.prepare.Values.{AreDeclared, AreLooped}
use Rattle.go_package_core.specs.declared.checked.CheckedPackage.{CheckedPackage}
use Rattle.go_package_core.specs.declared.checked.FileAnswers.{FileAnswers}

-- of a file what its occurrences have, its faults that are no outcome of one, and the locals that its functions declare
pub record AnswersOf : Type 0 where
  pub uses : List TheUse
  pub faults : List Fault
  pub locals : List TheLocal

-- of a package its types, what its declarations outside functions are, by their places among these, what it shows to those that import it, and
-- what stands in its files, in order of name
pub record CheckedOf : Type 0 where
  pub types : List Entry
  pub declared : List (Option TheFace)
  pub faces : PackageFacesModel
  pub files : List AnswersOf

-- a local that is held, as contracts see it
abbrev pub local_shown : HeldLocal → TheLocal
local_shown l = record { offset = l.offset; value = option_map operand_shown (arc_value l.value) }

abbrev pub answers_shown : FileAnswers → AnswersOf
answers_shown a = record { uses = a.answers.items; faults = a.faults.items; locals = map local_shown a.locals.items }

abbrev pub checked_shown : CheckedPackage → CheckedOf
checked_shown c = record { types = c.types.entries; declared = map (option_map face_shown) c.declared.items; faces = c.faces; files = map answers_shown c.files.items }

-- a file

-- what the imports of the file of a number come to
abbrev pub imports_at : PackageIn → ℕ → List Imported
imports_at p n = slice_index_or p.imports n []

-- how many declarations outside functions the files before the one of a number have
abbrev pub decls_before : PackageIn → ℕ → ℕ
decls_before p n = length (package_decls (take n (outlines_in p)))

-- the file of a number and a tree, where these are the types of the package and of those that it reaches and what its declarations are
abbrev pub stand_at : PackageIn → List Entry → List (Option TheFace) → ℕ × FileTree → FileStand
stand_at p types known f = stand_in p types known f.0 (outline_of f.1)

-- its faults: those of its declarations, and those that are asked of the package as a whole, by the faults of its types and by which of its
-- constants are defined through themselves
abbrev pub all_faults : PackageIn → List Entry → List (Option TheFace) → List PackageFault → List Bool → ℕ × FileTree → List Fault
all_faults p types known faults looped f =
    file_faults (stand_at p types known f) f.1 ++ outer_faults f.0 p.blocks faults (top_decls f.1) (drop (decls_before p f.0) looped)

-- what stands in a file: each occurrence has what its place gives it, the faults are in order, each once, without those that an outcome says, and each
-- local is what its declaration makes it
pub record IsFileChecked (p : PackageIn) (types : List Entry) (known : List (Option TheFace)) (faults : List PackageFault) (looped : List Bool) (f : ℕ × FileTree) (a : AnswersOf) : Type 0 where
  pub uses : a.uses ≡ file_uses (stand_at p types known f) (imports_at p f.0) f.1
  pub settled : IsSettled Declaration (List ℕ) a.uses (all_faults p types known faults looped f) a.faults
  pub locals : a.locals ≡ file_locals (stand_at p types known f) f.1

-- a package, where these are the types of those that it reaches
pub record IsChecked (p : PackageIn) (far : List Entry) (c : CheckedOf) : Type 0 where
  -- its types follow from what is written of them
  pub type_faults : List PackageFault
  pub types : AreTypes p far c.types type_faults
  -- each declaration is what is written of it, or what its initialiser makes it
  pub declared : AreDeclared p (far ++ c.types) c.declared
  pub looped : List Bool
  pub constants : AreLooped p (far ++ c.types) looped
  -- each file is checked
  pub files : AllZip (IsFileChecked p (far ++ c.types) c.declared type_faults looped) (enumerate_from 0 p.trees) c.files
  -- it shows what its package block has under exported names
  pub faces : c.faces ≡ package_shown p.path p.blocks (decls_of (scene_in p (far ++ c.types)).written) c.declared
