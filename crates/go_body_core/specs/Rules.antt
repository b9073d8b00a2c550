-- The rules by which the pieces of a function of a package are checked.
--
-- docs/RULES.md, "Bodies of functions". The Go specification, "Declarations and scope", "Statements", "Function declarations".
use Rattle.std.specs.Prelude.{ℕ, zero, suc, Bool, true, false, List, [], ◌∷◌, ◌++◌, Option, Some, None}
use Rattle.go_tree_nodes.specs.Trees.{FuncTree}
use Rattle.go_operand_core.specs.declared.types.Operand.{Operand}
use Rattle.go_term_core.specs.Terms.{Term}
use Rattle.go_tree_nodes.specs.declared.names.Ident.{Ident}
use Rattle.go_local_core.specs.Steps.{Piece}
use Rattle.go_local_core.specs.Pieces.{ident_place, piece_declares}
use Rattle.go_local_core.specs.Binding.{NameLook}
use Rattle.go_local_core.specs.Law.{Rules}
use Rattle.go_names_core.specs.Scope.{beyond_in}
use Rattle.go_names_core.specs.Body.{each_means}
use Rattle.go_expr_core.specs.Looks.{WrittenRules}
use Rattle.go_stmt_core.specs.piece.Pieces.{piece_uses, piece_faults, piece_values}
use Rattle.go_stmt_core.specs.piece.Headers.{returned_types, returned_names}
use Rattle.go_declared_core.specs.Faces.{TheFace}
use Rattle.go_env_core.specs.declared.meaning.Meaning.{Meaning}
use Rattle.go_env_core.specs.declared.meaning.Meaning.TheVariants as meanings
use Rattle.go_env_core.specs.Scenes.{SceneModel, scene_shown}
use Rattle.go_env_core.specs.Looks.{TheLooks, looks_in, inline_rules}
use Rattle.go_body_core.specs.declared.pieces.Pieces.{Pieces}
use Rattle.go_body_core.specs.Notes.{TheLocal, NoteOf, note}

-- the n-th of some values
abbrev pub value_at : List (Option (Operand Term)) → ℕ → Option (Operand Term)
value_at [] n = None
value_at (v ∷ vs) zero = v
value_at (v ∷ vs) (suc n) = value_at vs n

-- some names as locals, each by the offset of its identifier, which stand for these values in order
abbrev pub locals_of : List Ident → List (Option (Operand Term)) → List Meaning
locals_of [] vs = []
locals_of (x ∷ xs) [] = meanings.Local x.span.start None ∷ locals_of xs []
locals_of (x ∷ xs) (v ∷ vs) = meanings.Local x.span.start v ∷ locals_of xs vs

-- what a name means, as a local
abbrev pub local_meant : Meaning → List TheLocal
local_meant (meanings.Outside o) = []
local_meant (meanings.Local at value) = record { offset = at; value = value } ∷ []

-- the same, where the name is the first of its block
abbrev pub local_if : Bool → Meaning → List TheLocal
local_if true m = local_meant m
local_if false m = []

-- the locals among what some names mean: of those that are the first of their block
abbrev pub declared_among : List Bool → List Meaning → List TheLocal
declared_among [] ms = []
declared_among (first ∷ firsts) [] = []
declared_among (first ∷ firsts) (m ∷ ms) = local_if first m ++ declared_among firsts ms

-- what the n-th name means that a piece declares, where its names stand for these values: a local, by the offset of its identifier
abbrev pub local_at : Piece → List (Option (Operand Term)) → ℕ → Meaning
local_at p vs n = meanings.Local (ident_place (piece_declares p) n) (value_at vs n)

-- the locals that a piece declares, by which of its names are the first of their block, and what the n-th means
abbrev pub piece_locals : List Bool → Piece → (ℕ → Meaning) → List TheLocal
piece_locals firsts p means = declared_among firsts (each_means means 0 (piece_declares p))

-- by look-ups that are made of what names mean, the types of the function's results, and whether these have names: of a piece its uses, its faults
-- and the locals that it declares are noted, and a name that it declares is a local, by the offset of its identifier, which stands for its value
abbrev pub rules_by : (NameLook Meaning → TheLooks) → List (Option Term) → Bool → Rules Meaning NoteOf
rules_by looks results has_names = record {
  notes = λ look firsts p. note (piece_uses (looks look) p) (piece_faults (looks look) results has_names firsts p) (piece_locals firsts p (local_at p (piece_values (looks look) firsts p))) ∷ [];
  means = λ look firsts p. local_at p (piece_values (looks look) firsts p);
}

-- in a file of a package, by its scene, the file's number, what is known of the package's own declarations, and what stands for types that are
-- written inside the function
abbrev pub body_rules : SceneModel → ℕ → List (Option TheFace) → WrittenRules Term → List (Option Term) → Bool → Rules Meaning NoteOf
body_rules s file known written = rules_by (λ look. looks_in s file known written look)

-- what names mean outside the functions of a file
abbrev pub outside_in : SceneModel → ℕ → List ℕ → Option Meaning
outside_in s file = beyond_in meanings.Outside s.blocks file

abbrev pub outside_looks : SceneModel → ℕ → List (Option TheFace) → WrittenRules Term → TheLooks
outside_looks s file known written = looks_in s file known written (λ name place. outside_in s file name)

-- the rules of a function: its results are those of its header, whose types are written outside it
abbrev pub func_body_rules : SceneModel → ℕ → List (Option TheFace) → WrittenRules Term → FuncTree → Rules Meaning NoteOf
func_body_rules s file known written f = body_rules s file known written (returned_types (outside_looks s file known written) f.signature) (returned_names f.signature)

-- those of the checker of pieces
abbrev pub rules_of : Pieces → Rules Meaning NoteOf
rules_of a = body_rules (scene_shown a.scene.now) a.file a.known.now (inline_rules (scene_shown a.scene.now) a.inline.now) a.results.now a.has_names
