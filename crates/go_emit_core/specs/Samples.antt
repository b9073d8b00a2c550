-- The functions of a package, worked out by hand.
--
--     package a
--
--     func add(a, b int) int { return a + b }
--     func five() int { return add(2, 3) }
--
-- It is the file `a.go` of the package `ex.com/a`. Offsets count from the file's start; places that no code asks for are one `s`, whatever it is.
use Rattle.std.specs.Prelude.{◌≡◌, ℕ, List, [], ◌∷◌, Option, Some, None, false, true, pos, codes, map}
use Rattle.go_constant_core.specs.text_core.declared.span.Span.{Span}
use Rattle.go_tree_nodes.specs.Trees.{Binary, Call, FuncTree, Integer, Lines, NoItems, NoLines, NoParams, OneResult, ParamTrees, ResultTree, Signed}
use Rattle.go_tree_nodes.specs.token_core.declared.kind.Operator.TheVariants as operators
use Rattle.go_universe_core.specs.declared.Predeclared.TheVariants as predeclared
use Rattle.go_tree_core.specs.declared.occurrence.Role.{Role}
use Rattle.go_tree_core.specs.declared.occurrence.Role.TheVariants as roles
use Rattle.go_term_core.specs.decl_core.declared.places.DeclKind.TheVariants as kinds
use Rattle.go_term_core.specs.decl_core.TopDecls.{TopDeclTree, FuncForm}
use Rattle.go_term_core.specs.declared.term.Basic.TheVariants as basics
use Rattle.go_term_core.specs.declared.term.MemberPlace.TheVariants as places
use Rattle.go_term_core.specs.Terms.{Term, Predeclared, Sign, SignOf, NoTerm, ATerm}
use Rattle.go_expr_core.specs.operand_core.declared.types.ValueType.TheVariants as value_types
use Rattle.go_expr_core.specs.denote_core.declared.things.Outcome.TheVariants as outcomes
use Rattle.go_declared_core.specs.handle_core.Declarations.{Declaration, Universe, InFile}
use Rattle.go_declared_core.specs.declared.face.Face.TheVariants as faces
use Rattle.go_declared_core.specs.Faces.{TheFace}
use Rattle.go_declared_core.specs.Packages.{PackageFacesModel}
use Rattle.go_package_core.specs.body_core.Notes.{TheUse, TheLocal}
use Rattle.go_object_core.specs.declared.instructions.instruction.Instruction.TheVariants as instructions
use Rattle.go_code_core.specs.Samples.{argument, ident_at, int_written, line, name, paren, returns, two_params}
use Rattle.go_object_core.specs.Objects.{FunctionOf}
use Rattle.go_emit_core.specs.Emitted.{functions_of}
use Rattle.go_emit_core.specs.meaning.Looking.{looks_of}
use Rattle.go_emit_core.specs.meaning.Scenes.{CodeScene, decl_at, scene_by}

abbrev pub path : List ℕ
path = codes "ex.com/a"

-- trees

abbrev pub sample_function : Span → List ℕ → ℕ → ParamTrees → ResultTree → ℕ → Lines → ℕ → FuncTree
sample_function s text at params results first body last =
    record { func = s; receiver = None; name = ident_at text at; signature = Signed s params s results; open_brace = paren first; body = body; close_brace = paren last }

abbrev pub sample_add : Span → FuncTree
sample_add s =
    sample_function s (codes "add") 16 (two_params s (codes "a") 20 (codes "b") 23 (int_written 25) NoParams) (OneResult (int_written 30)) 34
    (line s (returns s (Binary (name (codes "a") 43) operators.Plus s (name (codes "b") 47))) NoLines) 49

abbrev pub five : Span → FuncTree
five s =
    sample_function s (codes "five") 56 NoParams (OneResult (int_written 63)) 67
    (line s (returns s (Call (name (codes "add") 76) (paren 79) (argument s (Integer 2 s) (argument s (Integer 3 s) NoItems)) s)) NoLines) 86

-- the identifiers that the file declares outside bodies are add, a, b and five
abbrev pub decls : Span → List TopDeclTree
decls s = record { ident = ident_at (codes "add") 16; number = 0; form = FuncForm (sample_add s) } ∷ record { ident = ident_at (codes "five") 56; number = 3; form = FuncForm (five s) } ∷ []

-- what the check gives

abbrev pub int_term : Term
int_term = Predeclared basics.Int

abbrev pub add_sign : Sign
add_sign = SignOf (ATerm int_term (ATerm int_term NoTerm)) (ATerm int_term NoTerm)

abbrev pub five_sign : Sign
five_sign = SignOf NoTerm (ATerm int_term NoTerm)

abbrev pub sample_faces : List (Option TheFace)
sample_faces = Some (faces.Func add_sign) ∷ Some (faces.Func five_sign) ∷ []

-- the package and those that it reaches declare no types
abbrev pub sample_scene : Span → List PackageFacesModel → CodeScene
sample_scene s others = scene_by path (map (decl_at 0) (decls s)) sample_faces [] others

abbrev pub of_file : ℕ → Declaration
of_file number = InFile path (places.Declared (record { file = 0; number = number; kind = kinds.Func }))

abbrev pub of_function : ℕ → Declaration
of_function offset = InFile path (places.Local (record { file = 0; offset = offset }))

abbrev pub sample_use : ℕ → Role → Declaration → TheUse
sample_use offset role d = record { offset = offset; role = role; outcome = outcomes.Declared d }

abbrev pub int_variable : ℕ → TheLocal
int_variable offset = record { offset = offset; value = Some (record { value_type = value_types.Typed int_term; constant = None; addressable = true }) }

abbrev pub sample_uses : List TheUse
sample_uses =
    sample_use 25 roles.«Type» (Universe predeclared.Int)
    ∷ sample_use 30 roles.«Type» (Universe predeclared.Int)
    ∷ sample_use 43 roles.«Value» (of_function 20)
    ∷ sample_use 47 roles.«Value» (of_function 23)
    ∷ sample_use 63 roles.«Type» (Universe predeclared.Int)
    ∷ sample_use 76 roles.Callee (of_file 0)
    ∷ sample_use 79 roles.Call (of_file 0)
    ∷ []

abbrev pub sample_locals : List TheLocal
sample_locals = int_variable 20 ∷ int_variable 23 ∷ []

-- what is emitted

abbrev pub add_function : FunctionOf Declaration
add_function = record {
  declaration = of_file 0;
  name = codes "add";
  has_receiver = false;
  slots = 2;
  references = of_function 20 ∷ of_function 23 ∷ [];
  code = instructions.Load 0 ∷ instructions.Load 1 ∷ instructions.Add ∷ instructions.Return true ∷ instructions.Return false ∷ [];
}

-- the call's own reference is the second
abbrev pub five_function : FunctionOf Declaration
five_function = record {
  declaration = of_file 3;
  name = codes "five";
  has_receiver = false;
  slots = 0;
  references = of_file 0 ∷ of_file 0 ∷ [];
  code = instructions.Push (pos 2) ∷ instructions.Push (pos 3) ∷ instructions.Call 1 2 ∷ instructions.Return true ∷ instructions.Return false ∷ [];
}

abbrev pub emitted : List (FunctionOf Declaration)
emitted = add_function ∷ five_function ∷ []

-- the two functions are the file's, whatever is shown: the package's own declarations count before
abbrev pub SampleIsEmitted : Type 0
SampleIsEmitted = (s : Span) (others : List PackageFacesModel) → functions_of path 0 sample_uses (looks_of (sample_scene s others) 0 sample_uses sample_locals) (decls s) ≡ emitted
