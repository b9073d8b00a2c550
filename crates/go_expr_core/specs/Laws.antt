-- What holds of expressions.
use Rattle.std.specs.Prelude.{◌≡◌, ℕ, ⊤, Bool, List, [], ◌∷◌, map, Option}
use Rattle.go_tree_nodes.specs.declared.names.Ident.{Ident}
use Rattle.go_tree_nodes.specs.declared.types.TypeName.{TypeName}
use Rattle.go_tree_nodes.specs.declared.types.TypeName.TheVariants as type_names
use Rattle.go_tree_nodes.specs.Rules.{Wf}
use Rattle.go_tree_nodes.specs.Trees.{TypeTree, ExprTree}
use Rattle.go_tree_core.specs.declared.occurrence.Role.{Role}
use Rattle.go_tree_core.specs.declared.occurrence.Context as tree_context
use Rattle.go_tree_core.specs.declared.occurrence.Context.TheVariants as contexts
use Rattle.go_tree_core.specs.declared.occurrence.Occ.{Occ}
use Rattle.go_tree_core.specs.Occurrences.{expr_occs, type_occs}
use Rattle.go_denote_core.specs.declared.things.Stand.{Stand}
use Rattle.go_denote_core.specs.declared.things.Stand.TheVariants as stands
use Rattle.go_denote_core.specs.declared.things.Found.{Found}
use Rattle.go_expr_core.specs.declared.things.Use.{Use}
use Rattle.go_expr_core.specs.Looks.{WrittenRules, Looks}
use Rattle.go_expr_core.specs.Denoting.{denoted}
use Rattle.go_expr_core.specs.Uses.{uses}
use Rattle.go_expr_core.specs.TypeUses.{type_uses}
use Rattle.go_expr_core.specs.Faults.{faults}
use Rattle.go_tree_nodes.specs.TypeNames.{type_names_in}
use Rattle.go_tree_nodes.specs.Idents.{expr_idents}

-- each occurrence has exactly one outcome, and no other place has one

-- where an expression stands, as occurrences say it
abbrev pub context_of : Stand → tree_context.Context
context_of stands.«Type» = contexts.«Type»
context_of stands.TypeDot = contexts.BeforeDot
context_of stands.«Value» = contexts.«Value»
context_of stands.Callee = contexts.Callee
context_of stands.BeforeDot = contexts.BeforeDot

abbrev pub use_place : {D P : Type 0} → Use D P → ℕ × Role
use_place u = (u.offset, u.role)

abbrev pub occurrence_place : Occ → ℕ × Role
occurrence_place o = (o.span.start, o.role)

pub record UsesAreOccurrences (T S D P : Type 0) : Type 0 where
  -- of an expression of the grammar
  pub expressions : (looks : Looks T S D P) (p : Stand) (header : Bool) (e : ExprTree) → Wf header e → map use_place (uses looks p e) ≡ map occurrence_place (expr_occs (context_of p) e)
  pub types : (looks : Looks T S D P) (t : TypeTree) → map use_place (type_uses looks t) ≡ map occurrence_place (type_occs t)

-- names are looked up where they stand, and nothing else is looked up by a name

-- two look-ups of names agree on each of these identifiers, where it stands
abbrev pub AgreeOnIdents : {T S D : Type 0} → (List ℕ → ℕ → Found T S D) → (List ℕ → ℕ → Found T S D) → List Ident → Type 0
AgreeOnIdents find other [] = ⊤
AgreeOnIdents find other (x ∷ xs) = (find x.name x.span.start ≡ other x.name x.span.start) × AgreeOnIdents find other xs

abbrev pub SameTypes : {T : Type 0} → (TypeName → Option T) → (TypeName → Option T) → List TypeName → Type 0
SameTypes types other [] = ⊤
SameTypes types other (n ∷ ns) = (types n ≡ other n) × SameTypes types other ns

-- what is made of a type that is written out looks at the names in it alone
pub record LooksAtNames (T : Type 0) (written : WrittenRules T) : Type 0 where
  pub type_of : (types other : TypeName → Option T) (t : TypeTree) → SameTypes types other (type_names_in t) → written.type_of types t ≡ written.type_of other t
  pub faults_of : (types other : TypeName → Option T) (t : TypeTree) → SameTypes types other (type_names_in t) → written.faults_of types t ≡ written.faults_of other t

-- the look-ups with another look-up of names
abbrev pub finding : {T S D P : Type 0} → (List ℕ → ℕ → Found T S D) → Looks T S D P → Looks T S D P
finding find looks = record { find = find; exported = looks.exported; select = looks.select; params = looks.params; results = looks.results; types = looks.types; literals = looks.literals; written = looks.written }

pub record Same (T S D P : Type 0) (looks other : Looks T S D P) (p : Stand) (e : ExprTree) : Type 0 where
  pub denoted : denoted looks p e ≡ denoted other p e
  pub uses : uses looks p e ≡ uses other p e
  pub faults : faults looks p e ≡ faults other p e

-- look-ups that agree on each name of an expression, where it stands, make the same of it
abbrev pub ExpressionsAreLocal : (T S D P : Type 0) → Type 0
ExpressionsAreLocal T S D P = (looks : Looks T S D P) (find : List ℕ → ℕ → Found T S D) (p : Stand) (e : ExprTree)
    → LooksAtNames T looks.written → AgreeOnIdents looks.find find (expr_idents e) → Same T S D P looks (finding find looks) p e
