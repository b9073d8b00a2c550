-- Laws of locality in types: what is asked of the table of types is asked of what is near alone.
use Rattle.std.specs.Prelude.{◌≡◌, ℕ, List, Option}
use Rattle.go_tree_nodes.specs.Trees.{ExprTree, FuncTree, FileTree}
use Rattle.go_names_core.specs.block_core.declared.imports.Imported.{Imported}
use Rattle.go_body_core.specs.typexpr_core.WrittenWritten as types
use Rattle.go_body_core.specs.typexpr_core.WrittenWritten.{InFile}
use Rattle.go_report_core.specs.denote_core.declared.things.Stand.{Stand}
use Rattle.go_report_core.specs.expr_core.Looks.{Looks}
use Rattle.go_report_core.specs.expr_core.Denoting as denoting
use Rattle.go_report_core.specs.expr_core.Uses as all_uses
use Rattle.go_report_core.specs.expr_core.Faults as all_faults
use Rattle.go_term_core.specs.Terms.{Term, Sign}
use Rattle.go_body_core.specs.table_core.Entries.{Entry, find_entry}
use Rattle.go_body_core.specs.table_core.Laws.{AgreeFrom}
use Rattle.go_report_core.specs.handle_core.DecidingRules.{term_rules, param_types_of, results_of}
use Rattle.go_report_core.specs.handle_core.Names.{selection_in}
use Rattle.go_names_core.specs.local_core.Binding.{NameLook}
use Rattle.go_report_core.specs.expr_core.Looks.{WrittenRules}
use Rattle.go_emit_core.specs.declared_core.Faces.{TheFace}
use Rattle.go_body_core.specs.env_core.declared.meaning.Meaning.{Meaning}
use Rattle.go_body_core.specs.env_core.Scenes.{SceneModel}
use Rattle.go_body_core.specs.env_core.Fields.{literals_in}
use Rattle.go_body_core.specs.env_core.Looks.{TheLooks, looks_in}
use Rattle.go_snap_core.specs.near.Near.{NearRest, IfAny, NearField, NearSelection, NearDenoted}
use Rattle.go_snap_core.specs.near.Looks.{AreRulesClosed, AreClosed, RulesAgree, LooksAgree}
use Rattle.go_snap_core.specs.near.Tables.{NearTests, near_by, IsNear, IsNearSign, near_rest, AgreeOn}
use Rattle.go_names_core.specs.local_core.Steps.{Piece}
use Rattle.go_snap_core.specs.near.Pieces.{IsPieceNearby}
use Rattle.go_body_core.specs.function.Functions.{checked_func}
use Rattle.go_body_core.specs.file.Files.{file_uses, file_faults, file_locals}
use Rattle.go_body_core.specs.typexpr_core.EntryOutlines.{FileOutline}
use Rattle.go_emit_core.specs.declared_core.Written.{package_written}
use Rattle.go_snap_core.specs.near.Packages.{PackageOf, stand_over, IsPackageNear}
use Rattle.go_snap_core.specs.near.Functions.{stand, with_types, IsStandNear, StandsAgree}
use Rattle.go_snap_core.specs.near.Scenes.{ScenesAgree, NamesAgree, WrittenAgree}
use Rattle.go_body_core.specs.stmt_core.StatementLocality.{Each}

-- what is asked of near types is the same in two tables that agree on what is near, and is near: what lies under a type, what is decided of types, what
-- a selector chooses, the types of parameters and of results
pub record TablesLookNearby : Type 0 where
  -- what a near type leads to is near: two tables that agree on what is near have the same of all of it, and it makes no difference which is first
  pub reached : (near : NearTests) (es others : List Entry) (t : Term) → AgreeOn (near_by near) es others → IsNear (near_by near) t → AgreeFrom (find_entry es) (find_entry others) t
  pub turned : (near : NearTests) (es others : List Entry) → AgreeOn (near_by near) es others → AgreeOn (near_by near) others es
  pub closed : (near : NearTests) (es others : List Entry) (path : List ℕ) → AgreeOn (near_by near) es others → AreRulesClosed (IsNear (near_by near)) (term_rules es path)
  pub same : (near : NearTests) (es others : List Entry) (path : List ℕ) → AgreeOn (near_by near) es others → RulesAgree (IsNear (near_by near)) (term_rules es path) (term_rules others path)
  pub selected : (near : NearTests) (es others : List Entry) (from : List ℕ) (t : Term) (name : List ℕ) → AgreeOn (near_by near) es others → IsNear (near_by near) t
      → NearSelection (IsNear (near_by near)) (near_rest (near_by near)) (selection_in es from t name) × (selection_in es from t name ≡ selection_in others from t name)
  pub params : (near : NearTests) (es others : List Entry) (g : Sign) → AgreeOn (near_by near) es others → IsNearSign (near_by near) g
      → Each (IfAny (IsNear (near_by near))) (param_types_of (find_entry es) g) × (param_types_of (find_entry es) g ≡ param_types_of (find_entry others) g)
  pub results : (near : NearTests) (es others : List Entry) (g : Sign) → AgreeOn (near_by near) es others → IsNearSign (near_by near) g
      → Each (IfAny (IsNear (near_by near))) (results_of (find_entry es) g) × (results_of (find_entry es) g ≡ results_of (find_entry others) g)
  pub fields : (near : NearTests) (s t : SceneModel) (u : Term) → ScenesAgree (near_by near) s t → IsNear (near_by near) u
      → Each (NearField (IsNear (near_by near))) ((literals_in s).fields u) × ((literals_in s).fields u ≡ (literals_in t).fields u)

-- what an expression comes to is the same, and is near
pub record IsNearby {T S D P : Type 0} (Near : T → Type 0) (Rest : NearRest S D) (looks others : Looks T S D P) (p : Stand) (e : ExprTree) : Type 0 where
  pub near : NearDenoted Near Rest (denoting.denoted looks p e)
  pub denoted : denoting.denoted looks p e ≡ denoting.denoted others p e
  pub uses : all_uses.uses looks p e ≡ all_uses.uses others p e
  pub faults : all_faults.faults looks p e ≡ all_faults.faults others p e

-- look-ups that lead from near things to near ones, and others that have the same of these, make the same of an expression, and what it denotes
-- is near
abbrev pub ExpressionsLookNearby : Type 0
ExpressionsLookNearby = (near : NearTests) (looks others : TheLooks) (p : Stand) (e : ExprTree)
    → AreClosed (IsNear (near_by near)) (near_rest (near_by near)) looks → LooksAgree (IsNear (near_by near)) (near_rest (near_by near)) looks others → IsNearby (IsNear (near_by near)) (near_rest (near_by near)) looks others p e

-- so in two scenes of one package that agree on what is near, where names stand for the same near things and written types are the same near types,
-- an expression comes to the same, and what it denotes is near
abbrev pub ScenesLookNearby : Type 0
ScenesLookNearby = (near : NearTests) (s t : SceneModel) (file : ℕ) (known others : List (Option TheFace)) (look other : NameLook Meaning) (written made : WrittenRules Term) (p : Stand) (e : ExprTree)
    → ScenesAgree (near_by near) s t → NamesAgree (near_by near) s t file known others look other → WrittenAgree (near_by near) written made
    → IsNearby (IsNear (near_by near)) (near_rest (near_by near)) (looks_in s file known written look) (looks_in t file others made other) p e

-- and so does a piece of a function: its names stand for near values, the same ones
abbrev pub PiecesLookNearby : Type 0
PiecesLookNearby = (near : NearTests) (looks others : TheLooks) (p : Piece)
    → AreClosed (IsNear (near_by near)) (near_rest (near_by near)) looks → LooksAgree (IsNear (near_by near)) (near_rest (near_by near)) looks others → IsPieceNearby (IsNear (near_by near)) looks others p

-- what the occurrences of a function have, and its faults, are the same in two stands of its file that agree on what is near
abbrev pub FunctionsLookNearby : Type 0
FunctionsLookNearby = (near : NearTests) (file : InFile) (s t : SceneModel) (known others : List (Option TheFace)) (top other : types.Meaning) (f : FuncTree)
    → StandsAgree (near_by near) file s t known others top other → checked_func (stand file s known top) f ≡ checked_func (stand file t others other) f

-- and so are those of a file, with the same imports
pub record FilesLookNearby : Type 0 where
  pub uses : (near : NearTests) (file : InFile) (s t : SceneModel) (known others : List (Option TheFace)) (top other : types.Meaning) (imports : List Imported) (f : FileTree)
      → StandsAgree (near_by near) file s t known others top other → file_uses (stand file s known top) imports f ≡ file_uses (stand file t others other) imports f
  pub faults : (near : NearTests) (file : InFile) (s t : SceneModel) (known others : List (Option TheFace)) (top other : types.Meaning) (f : FileTree)
      → StandsAgree (near_by near) file s t known others top other → file_faults (stand file s known top) f ≡ file_faults (stand file t others other) f
  pub locals : (near : NearTests) (file : InFile) (s t : SceneModel) (known others : List (Option TheFace)) (top other : types.Meaning) (f : FileTree)
      → StandsAgree (near_by near) file s t known others top other → file_locals (stand file s known top) f ≡ file_locals (stand file t others other) f

-- so a file comes to the same over any table that has the same of what its names mean and of what that leads to: what else a table has does not
-- count, be it there or not
pub record OtherTypesDoNotCount : Type 0 where
  pub uses : (near : NearTests) (file : InFile) (s : SceneModel) (es : List Entry) (known : List (Option TheFace)) (top : types.Meaning) (imports : List Imported) (f : FileTree)
      → IsStandNear (near_by near) file s known top → AgreeOn (near_by near) s.types es → file_uses (stand file s known top) imports f ≡ file_uses (stand file (with_types s es) known top) imports f
  pub faults : (near : NearTests) (file : InFile) (s : SceneModel) (es : List Entry) (known : List (Option TheFace)) (top : types.Meaning) (f : FileTree)
      → IsStandNear (near_by near) file s known top → AgreeOn (near_by near) s.types es → file_faults (stand file s known top) f ≡ file_faults (stand file (with_types s es) known top) f
  pub locals : (near : NearTests) (file : InFile) (s : SceneModel) (es : List Entry) (known : List (Option TheFace)) (top : types.Meaning) (f : FileTree)
      → IsStandNear (near_by near) file s known top → AgreeOn (near_by near) s.types es → file_locals (stand file s known top) f ≡ file_locals (stand file (with_types s es) known top) f

-- what is written of a package, and what stands in its files where the same is known of its declarations, are the same over two tables of types that
-- agree on what is near
pub record PackagesLookNearby : Type 0 where
  pub written : (near : NearTests) (p : PackageOf) (es fs : List Entry) (known : List (Option TheFace)) → IsPackageNear (near_by near) p es known → AgreeOn (near_by near) es fs
      → package_written p.shows p.path p.blocks es p.outlines ≡ package_written p.shows p.path p.blocks fs p.outlines
  pub uses : (near : NearTests) (p : PackageOf) (es fs : List Entry) (known : List (Option TheFace)) (n : ℕ) (o : FileOutline) (imports : List Imported) (f : FileTree)
      → IsPackageNear (near_by near) p es known → AgreeOn (near_by near) es fs → file_uses (stand_over p es known n o) imports f ≡ file_uses (stand_over p fs known n o) imports f
  pub faults : (near : NearTests) (p : PackageOf) (es fs : List Entry) (known : List (Option TheFace)) (n : ℕ) (o : FileOutline) (f : FileTree)
      → IsPackageNear (near_by near) p es known → AgreeOn (near_by near) es fs → file_faults (stand_over p es known n o) f ≡ file_faults (stand_over p fs known n o) f
  pub locals : (near : NearTests) (p : PackageOf) (es fs : List Entry) (known : List (Option TheFace)) (n : ℕ) (o : FileOutline) (f : FileTree)
      → IsPackageNear (near_by near) p es known → AgreeOn (near_by near) es fs → file_locals (stand_over p es known n o) f ≡ file_locals (stand_over p fs known n o) f
