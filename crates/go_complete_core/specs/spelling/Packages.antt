-- The initialisers of a package in which one identifier is spelled anew.
--
-- docs/RULES.md, "Constants and variables of a package". The Go specification, "Constant declarations", "Variable declarations", "Package
-- initialization".
use Rattle.std.specs.Prelude.{◌≡◌, ℕ, List, Option}
use Rattle.go_tree_nodes.specs.declared.names.Ident.{Ident}
use Rattle.go_tree_nodes.specs.Trees.{ValueSpecTree, FuncTree, Lines}
use Rattle.go_type_core.specs.table_core.Entries.{Entry}
use Rattle.go_term_core.specs.Terms.{Term, Sign}
use Rattle.go_candidate_core.specs.handle_core.Declarations.{Declaration}
use Rattle.go_typexpr_core.specs.entry.Outlines.{outline_of}
use Rattle.go_candidate_core.specs.declared_core.Faces.{TheFace}
use Rattle.go_stmt_core.specs.piece.Specifications.{spec_uses}
use Rattle.go_package_core.specs.body_core.FunctionStands.{outer_looks}
use Rattle.go_package_core.specs.prepare.Packages.{PackageIn, stand_in}
use Rattle.go_package_core.specs.prepare.Types.{AreTypes}
use Rattle.go_package_core.specs.prepare.Values.{AreDeclared}
use Rattle.go_package_core.specs.report_core.declared.type_faults.places.PackageFault.{PackageFault}
use Rattle.go_complete_core.specs.spelling.Contexts.{ContextStays}
use Rattle.go_complete_core.specs.spelling.PieceSpots.{spec_spots}
use Rattle.go_complete_core.specs.spelling.Trees.{RespellsValues}
use Rattle.go_package_core.specs.body_core.FileFiles.{tops_uses}
use Rattle.go_complete_core.specs.spelling.Trees.{RespellsLines, RespellsSteps, with_body}
use Rattle.go_names_core.specs.local_core.Outline.{func_steps}
use Rattle.go_package_core.specs.body_core.FunctionStands.{looks_where}
use Rattle.go_complete_core.specs.spelling.Files.{IsWrittenIn, IsBodyIn, with_decls}
use Rattle.go_complete_core.specs.spelling.Functions.{names_before}
use Rattle.go_complete_core.specs.spelling.Spots.{tops_spots}

-- One identifier of one initialiser of a package is spelled anew. Then what the package's declarations are may differ, before and after; but the
-- identifier stands in the context in which it stood, and has what this context's rule gives for the new spelling, by what the declarations are then.
abbrev pub PackageInitialisersStay : Type 0
PackageInitialisersStay =
    (x : Ident) (name : List ℕ) (v w : ValueSpecTree) (n : ℕ) (p q : PackageIn) (types : List Entry) (t u : List (Option TheFace))
    → RespellsValues x name v w → (r : IsWrittenIn v w n p q) → AreDeclared p types t → AreDeclared q types u
    → ContextStays Term Sign Declaration (List ℕ) (outer_looks (stand_in q types u n (outline_of (with_decls r.file r.decls)))) x name
    (spec_spots (outer_looks (stand_in p types t n (outline_of r.file))) v) (spec_uses (outer_looks (stand_in q types u n (outline_of (with_decls r.file r.decls)))) w)

-- the same of all that the declarations of its file have, in order: behind what the imports have
abbrev pub FileInitialisersStay : Type 0
FileInitialisersStay =
    (x : Ident) (name : List ℕ) (v w : ValueSpecTree) (n : ℕ) (p q : PackageIn) (types : List Entry) (t u : List (Option TheFace))
    → RespellsValues x name v w → (r : IsWrittenIn v w n p q) → AreDeclared p types t → AreDeclared q types u
    → ContextStays Term Sign Declaration (List ℕ) (outer_looks (stand_in q types u n (outline_of (with_decls r.file r.decls)))) x name
    (tops_spots (stand_in p types t n (outline_of r.file)) r.file.decls) (tops_uses (stand_in q types u n (outline_of (with_decls r.file r.decls))) r.decls)

-- One identifier of the body of a function is spelled anew. Then the declarations of the package are what they were, and the identifier stands in the
-- context in which it stood, among all that its file has.
pub record BodyStays (x : Ident) (name : List ℕ) (f : FuncTree) (body : Lines) (n : ℕ) (p q : PackageIn) (types : List Entry) (t u : List (Option TheFace)) (r : IsBodyIn f body n p q) : Type 0 where
  pub known : t ≡ u
  pub respells : RespellsSteps x name (func_steps f) (func_steps (with_body f body))
  pub stays : ContextStays Term Sign Declaration (List ℕ) (looks_where (stand_in q types u n (outline_of (with_decls r.file r.decls))) (names_before (stand_in q types u n (outline_of (with_decls r.file r.decls))) x name f (with_body f body) respells)) x name
      (tops_spots (stand_in p types t n (outline_of r.file)) r.file.decls) (tops_uses (stand_in q types u n (outline_of (with_decls r.file r.decls))) r.decls)

abbrev pub PackageBodiesStay : Type 0
PackageBodiesStay =
    (x : Ident) (name : List ℕ) (f : FuncTree) (body : Lines) (n : ℕ) (p q : PackageIn) (types : List Entry) (t u : List (Option TheFace))
    → RespellsLines x name f.body body → (r : IsBodyIn f body n p q) → AreDeclared p types t → AreDeclared q types u → BodyStays x name f body n p q types t u r

-- Such a package has the types that it had, so that all of these speak of the types of either.
pub record TypesStay : Type 0 where
  pub initialisers : (x : Ident) (name : List ℕ) (v w : ValueSpecTree) (n : ℕ) (p q : PackageIn) (far one other : List Entry) (faults others : List PackageFault)
      → RespellsValues x name v w → IsWrittenIn v w n p q → AreTypes p far one faults → AreTypes q far other others → one ≡ other
  pub bodies : (f : FuncTree) (body : Lines) (n : ℕ) (p q : PackageIn) (far one other : List Entry) (faults others : List PackageFault)
      → IsBodyIn f body n p q → AreTypes p far one faults → AreTypes q far other others → one ≡ other
