-- Packages that differ in the spelling of one identifier: one that is used, in one place of one file. Names that are declared keep their spelling.
--
-- docs/RULES.md, "Occurrences".
use Rattle.std.specs.Prelude.{◌≡◌, ℕ, List, ◌∷◌, ◌++◌, length}
use Rattle.go_tree_nodes.specs.declared.names.Ident.{Ident}
use Rattle.go_tree_nodes.specs.Trees.{ValueSpecTree, FuncTree, Lines, TopTree, FileTree}
use Rattle.go_complete_core.specs.spelling.Trees.{RespellsValues, RespellsLines}
use Rattle.go_package_core.specs.prepare.Packages.{PackageIn}
use Rattle.go_complete_core.specs.spelling.Files.{WritesInTops, WritesBody, with_decls, with_trees}
use Rattle.go_complete_core.specs.spelling.Outer.{RespellsOuterTops}

-- the declarations of a file: in an initialiser, in a type outside functions, a header or a receiver, or in the body of a function
pub data RespellsTops (x : Ident) (name : List ℕ) (ds es : List TopTree) : Type 0 where
  InInitialiser : {v w : ValueSpecTree} → RespellsValues x name v w → WritesInTops v w ds es → RespellsTops x name ds es
  InOuterTypes : RespellsOuterTops x name ds es → RespellsTops x name ds es
  InBody : {f : FuncTree} {body : Lines} → RespellsLines x name f.body body → WritesBody f body ds es → RespellsTops x name ds es

-- a package in whose file of a number, in order of name from 0, the identifier x has this name; all else is as it was
pub record RespellsPackage (x : Ident) (name : List ℕ) (n : ℕ) (p q : PackageIn) : Type 0 where
  pub front : List FileTree
  pub back : List FileTree
  pub file : FileTree
  pub decls : List TopTree
  pub respells : RespellsTops x name file.decls decls
  pub number : n ≡ length front
  pub before : p.trees ≡ front ++ file ∷ back
  pub after : q ≡ with_trees p (front ++ with_decls file decls ∷ back)
