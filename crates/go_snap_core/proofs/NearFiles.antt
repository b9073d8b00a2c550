-- A file is the same in two stands that agree on what is near.
use Rattle.std.proofs.Common.{◌≡◌, List, ◌++◌, refl}
use Rattle.std.specs.Prelude.{Option}
use Rattle.std.specs.List.{flat_map}
use Rattle.go_tree_nodes.specs.Trees.{DeclTree, Value, Types, Func, FileTree}
use Rattle.go_names_core.specs.block_core.declared.imports.Imported.{Imported}
use Rattle.go_names_core.specs.block_core.Naming.{file_specs}
use Rattle.go_body_core.specs.typexpr_core.WrittenWritten as types
use Rattle.go_body_core.specs.typexpr_core.WrittenWritten.{InFile}
use Rattle.go_emit_core.specs.declared_core.Faces.{TheFace}
use Rattle.go_body_core.specs.env_core.Scenes.{SceneModel}
use Rattle.go_body_core.specs.function.Stands.{outer_looks}
use Rattle.go_body_core.specs.file.Imports.{imports_uses}
use Rattle.go_body_core.specs.file.Files.{decl_uses, decl_faults, decl_locals, file_uses, file_faults, file_locals}
use Rattle.go_body_core.specs.table_core.Entries.{Entry}
use Rattle.go_snap_core.specs.near.Tables.{near_by, Nearby, IsNear, near_rest, AgreeOn}
use Rattle.go_snap_core.specs.near.Functions.{stand, with_types, IsStandNear, StandsAgree}
use Rattle.go_snap_core.specs.near.Laws.{FunctionsLookNearby, FilesLookNearby, OtherTypesDoNotCount}
use Rattle.go_snap_core.proofs.NearFunctions.{outer_closed, outer_agree, function_same}
use Rattle.go_snap_core.proofs.NearTops.{values_used, values_break, types_used}

module _ (near : Nearby) (file : InFile) (s t : SceneModel) (known others : List (Option TheFace)) (top other : types.Meaning) (law : StandsAgree near file s t known others top other) where
  decl_used : (d : DeclTree) → decl_uses (stand file s known top) d ≡ decl_uses (stand file t others other) d
  decl_used (Value v) = values_used (IsNear near) (near_rest near) (outer_looks (stand file s known top)) (outer_looks (stand file t others other)) (outer_closed near file s t known others top other law) (outer_agree near file s t known others top other law) v
  decl_used (Types d) = types_used (IsNear near) (near_rest near) (outer_looks (stand file s known top)) (outer_looks (stand file t others other)) (outer_closed near file s t known others top other law) (outer_agree near file s t known others top other law) d
  decl_used (Func f) = λ j. (function_same near file s t known others top other law f j).uses

  decl_breaks : (d : DeclTree) → decl_faults (stand file s known top) d ≡ decl_faults (stand file t others other) d
  decl_breaks (Value v) = values_break (IsNear near) (near_rest near) (outer_looks (stand file s known top)) (outer_looks (stand file t others other)) (outer_closed near file s t known others top other law) (outer_agree near file s t known others top other law) v
  decl_breaks (Types d) = refl
  decl_breaks (Func f) = λ j. (function_same near file s t known others top other law f j).faults

  decl_declares : (d : DeclTree) → decl_locals (stand file s known top) d ≡ decl_locals (stand file t others other) d
  decl_declares (Value v) = refl
  decl_declares (Types d) = refl
  decl_declares (Func f) = λ j. (function_same near file s t known others top other law f j).locals

  pub file_used : (imports : List Imported) (f : FileTree) → file_uses (stand file s known top) imports f ≡ file_uses (stand file t others other) imports f
  file_used imports f = λ j. imports_uses (file_specs f) imports ++ flat_map (λ d. decl_used d.decl j) f.decls

  pub file_breaks : (f : FileTree) → file_faults (stand file s known top) f ≡ file_faults (stand file t others other) f
  file_breaks f = λ j. flat_map (λ d. decl_breaks d.decl j) f.decls

  pub file_declares : (f : FileTree) → file_locals (stand file s known top) f ≡ file_locals (stand file t others other) f
  file_declares f = λ j. flat_map (λ d. decl_declares d.decl j) f.decls

pub functions_nearby : FunctionsLookNearby
functions_nearby near file s t known others top other f law = function_same (near_by near) file s t known others top other law f

pub files_nearby : FilesLookNearby
files_nearby = record {
  uses = λ near file s t known others top other imports f law. file_used (near_by near) file s t known others top other law imports f;
  faults = λ near file s t known others top other f law. file_breaks (near_by near) file s t known others top other law f;
  locals = λ near file s t known others top other f law. file_declares (near_by near) file s t known others top other law f;
}

-- with another table of types alone

with_table : (near : Nearby) (file : InFile) (s : SceneModel) (es : List Entry) (known : List (Option TheFace)) (top : types.Meaning)
    → IsStandNear near file s known top → AgreeOn near s.types es → StandsAgree near file s (with_types s es) known known top top
with_table near file s es known top law agree = record {
  scenes = record { path = refl; types = agree; exported = λ d name h. refl; exported_near = law.exported };
  names = λ name. refl;
  outside = λ name o. refl;
  outside_near = law.outside;
  meanings = λ n. refl;
  meanings_near = law.meanings;
}

pub other_types : OtherTypesDoNotCount
other_types = record {
  uses = λ near file s es known top imports f law agree. file_used (near_by near) file s (with_types s es) known known top top (with_table (near_by near) file s es known top law agree) imports f;
  faults = λ near file s es known top f law agree. file_breaks (near_by near) file s (with_types s es) known known top top (with_table (near_by near) file s es known top law agree) f;
  locals = λ near file s es known top f law agree. file_declares (near_by near) file s (with_types s es) known known top top (with_table (near_by near) file s es known top law agree) f;
}
