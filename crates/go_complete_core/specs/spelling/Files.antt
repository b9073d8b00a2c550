-- Files and packages in which one specification is written anew: it stands in one place, and all else is the same.
use Rattle.std.specs.Prelude.{◌≡◌, ℕ, List, ◌∷◌, ◌++◌, Option, length}
use Rattle.go_tree_nodes.specs.text_core.declared.span.Span.{Span}
use Rattle.go_tree_nodes.specs.declared.decls.ValueKind.{ValueKind}
use Rattle.go_tree_nodes.specs.Trees.{ValueSpecTree, Specs, Single, Group, Value, Func, FuncTree, Lines, TopTree, FileTree}
use Rattle.go_package_core.specs.prepare.Packages.{PackageIn}
use Rattle.go_complete_core.specs.spelling.Trees.{with_body}

-- among specifications in parentheses, alone or in parentheses, and among the declarations of a file: w where v stood

pub data WritesInGroup (v w : ValueSpecTree) : List (ValueSpecTree × Option Span) → List (ValueSpecTree × Option Span) → Type 0 where
  AtFirst : {s : Option Span} {more : List (ValueSpecTree × Option Span)} → WritesInGroup v w ((v, s) ∷ more) ((w, s) ∷ more)
  AtLater : {u : ValueSpecTree × Option Span} {more rest : List (ValueSpecTree × Option Span)} → WritesInGroup v w more rest → WritesInGroup v w (u ∷ more) (u ∷ rest)

pub data WritesInSpecs (v w : ValueSpecTree) : Specs ValueSpecTree → Specs ValueSpecTree → Type 0 where
  InTheOnly : WritesInSpecs v w (Single v) (Single w)
  InTheGroup : {first last : Span} {vs ws : List (ValueSpecTree × Option Span)} → WritesInGroup v w vs ws → WritesInSpecs v w (Group first vs last) (Group first ws last)

abbrev pub value_top : ValueKind → Span → Specs ValueSpecTree → Span → TopTree
value_top k place vs semicolon = record { decl = Value (record { kind = k; keyword = place; specs = vs }); semicolon = semicolon }

pub data WritesInTops (v w : ValueSpecTree) : List TopTree → List TopTree → Type 0 where
  InTop : {k : ValueKind} {place semicolon : Span} {vs ws : Specs ValueSpecTree} {more : List TopTree} → WritesInSpecs v w vs ws → WritesInTops v w (value_top k place vs semicolon ∷ more) (value_top k place ws semicolon ∷ more)
  InLaterTops : {d : TopTree} {more rest : List TopTree} → WritesInTops v w more rest → WritesInTops v w (d ∷ more) (d ∷ rest)

abbrev pub with_decls : FileTree → List TopTree → FileTree
with_decls f ds = record { clause = f.clause; name = f.name; semicolon = f.semicolon; imports = f.imports; decls = ds }

abbrev pub with_trees : PackageIn → List FileTree → PackageIn
with_trees p fs = record { path = p.path; trees = fs; blocks = p.blocks; imports = p.imports; shows = p.shows; others = p.others }

-- a package whose file of a number, in order of name from 0, has the specification w where it had v
pub record IsWrittenIn (v w : ValueSpecTree) (n : ℕ) (p q : PackageIn) : Type 0 where
  pub front : List FileTree
  pub back : List FileTree
  pub file : FileTree
  pub decls : List TopTree
  pub writes : WritesInTops v w file.decls decls
  pub number : n ≡ length front
  pub before : p.trees ≡ front ++ file ∷ back
  pub after : q ≡ with_trees p (front ++ with_decls file decls ∷ back)

-- the declarations of a file with one function that has another body

abbrev pub func_top : FuncTree → Span → TopTree
func_top f semicolon = record { decl = Func f; semicolon = semicolon }

pub data WritesBody (f : FuncTree) (body : Lines) : List TopTree → List TopTree → Type 0 where
  InFunc : {semicolon : Span} {more : List TopTree} → WritesBody f body (func_top f semicolon ∷ more) (func_top (with_body f body) semicolon ∷ more)
  BehindTop : {d : TopTree} {more rest : List TopTree} → WritesBody f body more rest → WritesBody f body (d ∷ more) (d ∷ rest)

-- a package in whose file of a number, in order of name from 0, a function has another body
pub record IsBodyIn (f : FuncTree) (body : Lines) (n : ℕ) (p q : PackageIn) : Type 0 where
  pub front : List FileTree
  pub back : List FileTree
  pub file : FileTree
  pub decls : List TopTree
  pub writes : WritesBody f body file.decls decls
  pub number : n ≡ length front
  pub before : p.trees ≡ front ++ file ∷ back
  pub after : q ≡ with_trees p (front ++ with_decls file decls ∷ back)
