-- Laws of the constants and variables of a package.
use Rattle.std.specs.Prelude.{◌≡◌, ℕ, ⊤, true, List, [], ◌∷◌, Option, None, IsSome, Contains}
use Rattle.std.specs.List.{list_all}
use Rattle.go_tree_nodes.specs.declared.decls.ValueKind.{ValueKind}
use Rattle.go_tree_nodes.specs.declared.decls.ValueKind.TheVariants as kinds
use Rattle.go_tree_nodes.specs.Trees.{ValueSpecTree}
use Rattle.go_term_core.specs.decl_core.TopDecls.{FormTree, ValueForm, TypeForm, FuncForm}
use Rattle.go_stmt_core.specs.denote_core.declared.things.Found.{Found}
use Rattle.go_stmt_core.specs.statement.Declarations.{is_initial}
use Rattle.go_stmt_core.specs.expr_core.Looks.{Looks}
use Rattle.go_stmt_core.specs.expr_core.Laws.{AgreeOnIdents, LooksAtNames, finding}
use Rattle.go_env_core.specs.declared_core.Faces.{TheFace}
use Rattle.go_env_core.specs.Scenes.{SceneModel}
use Rattle.go_digraph_core.specs.needs.Needs.{AreValues, known_in, needed}
use Rattle.go_value_core.specs.Initial.{initialiser_values, initial, initial_idents, some_written_type}
use Rattle.go_stmt_core.specs.piece.Specifications as pieces
use Rattle.go_value_core.specs.Package.{PlacedOf, package_needs, declared_face, IsThroughItself}

-- what the declarations of a package are, by their positions
abbrev pub AreFaces : SceneModel → List PlacedOf → List (Option TheFace) → Type 0
AreFaces s ds table = AreValues TheFace (package_needs s ds) (declared_face s ds) table

-- there is one answer
abbrev pub PackageHasOneTable : Type 0
PackageHasOneTable = (s : SceneModel) (ds : List PlacedOf) (t u : List (Option TheFace)) → AreFaces s ds t → AreFaces s ds u → t ≡ u

-- a declaration looks at those that it needs alone
abbrev pub NeedsDecide : Type 0
NeedsDecide = (s : SceneModel) (ds : List PlacedOf) (known other : ℕ → Option TheFace) (n : ℕ)
    → ((m : ℕ) → Contains (needed (package_needs s ds) n) m → known m ≡ other m) → declared_face s ds known n ≡ declared_face s ds other n

-- a constant that is defined through itself has no type
abbrev pub ThroughItselfHasNone : Type 0
ThroughItselfHasNone = (s : SceneModel) (ds : List PlacedOf) (t : List (Option TheFace)) (n : ℕ) → AreFaces s ds t → IsThroughItself s ds n → known_in t n ≡ None

-- what a name of a specification stands for takes of the look-ups of names what they give for the identifiers that it needs, where they stand
abbrev pub NeededNamesDecide : (T S D P : Type 0) → Type 0
NeededNamesDecide T S D P = (looks : Looks T S D P) (find : List ℕ → ℕ → Found T S D) (kind : ValueKind) (v : ValueSpecTree) (i : ℕ)
    → LooksAtNames T looks.written → some_written_type looks v.type_expr ≡ some_written_type (finding find looks) v.type_expr → AgreeOnIdents looks.find find (initial_idents v i)
    → initial looks kind v i ≡ initial (finding find looks) kind v i

-- what the names of a specification stand for is what they stand for in a function, but that what a variable is given that is no constant
-- is refused
pub record SpecificationsAreAlike (T S D P : Type 0) : Type 0 where
  pub outer : (looks : Looks T S D P) (kind : ValueKind) (v : ValueSpecTree) → initialiser_values looks kind v ≡ pieces.outer_values looks kind v
  pub constants : (looks : Looks T S D P) (v : ValueSpecTree) → initialiser_values looks kinds.Const v ≡ pieces.spec_values looks kinds.Const v
  pub variables : (looks : Looks T S D P) (v : ValueSpecTree) → list_all is_initial (pieces.values_given looks v.values) ≡ true → initialiser_values looks kinds.Var v ≡ pieces.spec_values looks kinds.Var v
  -- with a written type it has this type
  pub written : (looks : Looks T S D P) (v : ValueSpecTree) → IsSome v.type_expr → initialiser_values looks kinds.Var v ≡ pieces.spec_values looks kinds.Var v

-- two declarations are the same, but that the trees of types and functions may differ
abbrev pub FormsAlike : FormTree → FormTree → Type 0
FormsAlike (ValueForm k v i) g = ValueForm k v i ≡ g
FormsAlike (TypeForm t) (TypeForm u) = ⊤
FormsAlike (TypeForm t) (ValueForm k v i) = ⊥
FormsAlike (TypeForm t) (FuncForm f) = ⊥
FormsAlike (FuncForm f) (FuncForm g) = ⊤
FormsAlike (FuncForm f) (ValueForm k v i) = ⊥
FormsAlike (FuncForm f) (TypeForm t) = ⊥

pub record PlacedAlike (p q : PlacedOf) : Type 0 where
  pub files : p.file ≡ q.file
  pub types : p.types ≡ q.types
  pub forms : FormsAlike p.decl.form q.decl.form

abbrev pub AllAlike : List PlacedOf → List PlacedOf → Type 0
AllAlike [] [] = ⊤
AllAlike [] (q ∷ qs) = ⊥
AllAlike (p ∷ ps) [] = ⊥
AllAlike (p ∷ ps) (q ∷ qs) = PlacedAlike p q × AllAlike ps qs

-- names, bodies of functions and trees of types do not count
pub record NamesAndBodiesDoNotCount : Type 0 where
  pub needs : (s : SceneModel) (ds es : List PlacedOf) → AllAlike ds es → package_needs s ds ≡ package_needs s es
  pub faces : (s : SceneModel) (ds es : List PlacedOf) (known : ℕ → Option TheFace) (n : ℕ) → AllAlike ds es → declared_face s ds known n ≡ declared_face s es known n
