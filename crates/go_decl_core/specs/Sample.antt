-- A file with its table and the numbers of its declarations, worked out by hand, and the same file with another body at its front.
use Rattle.std.specs.Prelude.{◌≡◌, ℕ, ◌+◌, suc, List, [], ◌∷◌, map, Option, Some, None, codes}
use Rattle.go_path_core.specs.text_core.declared.span.Span.{Span}
use Rattle.go_tree_nodes.specs.declared.names.Ident.{Ident}
use Rattle.go_tree_nodes.specs.declared.types.TypeName.TheVariants as type_name
use Rattle.go_tree_nodes.specs.declared.decls.ValueKind.TheVariants as value_kinds
use Rattle.go_tree_nodes.specs.Samples.{at, called, int_at, type_spec_of}
use Rattle.go_tree_nodes.specs.Trees as tree
use Rattle.go_tree_nodes.specs.Trees.{One, Then, TypeTree, NamedType, Struct, Interface, NoFields, NamedFields, EmbeddedField, NoMethods, Method, ParamTrees, NoParams, Param, SignatureTree, Signed, NoResult, Integer, Named, Binary, Single, Define, Lines, NoLines, Line, FuncTree, Types, Func, TopTree, FileTree}
use Rattle.go_decl_core.specs.declared.places.DeclKind.{DeclKind}
use Rattle.go_decl_core.specs.declared.places.DeclKind.TheVariants as kinds
use Rattle.go_decl_core.specs.declared.places.Place.{Place}
use Rattle.go_decl_core.specs.Outer.{places_of}
use Rattle.go_decl_core.specs.TopDecls.{FormTree, ValueForm, TypeForm, FuncForm, top_decls}
use Rattle.go_decl_core.specs.Bodies.{outside}
use Rattle.go_decl_core.specs.Laws.{name_and_number}

-- one parameter of type int, with the parentheses round it
abbrev pub one_param : List ℕ → ℕ → SignatureTree
one_param name n = Signed (at n) (Param (Some (One (called name (n + 1)))) (int_at (n + 2)) None NoParams) (at (n + 3)) NoResult

abbrev pub top : tree.DeclTree → ℕ → TopTree
top d n = record { decl = d; semicolon = at n }

-- func early(n int) { .. }
abbrev pub early : ℕ → Lines → TopTree
early d body = top (Func (record { func = at 3; receiver = None; name = called (codes "early") 4; signature = one_param (codes "n") 5; open_brace = at 9; body = body; close_brace = at (d + 13) })) (d + 14)

-- type T struct { Base; a, b int }
abbrev pub decl_sample_struct : ℕ → TopTree
decl_sample_struct d = top (Types (record { keyword = at (d + 15); specs = Single (type_spec_of (called (codes "T") (d + 16)) (Struct (at (d + 17)) (at (d + 18)) (EmbeddedField None (type_name.Plain (called (codes "Base") (d + 19))) None (Some (at (d + 20))) (NamedFields (Then (called (codes "a") (d + 21)) (at (d + 22)) (One (called (codes "b") (d + 23)))) (int_at (d + 24)) None None NoFields)) (at (d + 25)))) })) (d + 26)

-- func (t *T) m(q int) {}
abbrev pub decl_sample_method : ℕ → TopTree
decl_sample_method d = top (Func (record { func = at (d + 27); receiver = Some (record { open_paren = at (d + 28); name = Some (called (codes "t") (d + 29)); star = Some (at (d + 30)); base = type_name.Plain (called (codes "T") (d + 31)); comma = None; close_paren = at (d + 32) }); name = called (codes "m") (d + 33); signature = one_param (codes "q") (d + 34); open_brace = at (d + 38); body = NoLines; close_brace = at (d + 39) })) (d + 40)

-- type I interface { g(x int) }
abbrev pub interface_type : ℕ → TopTree
interface_type d = top (Types (record { keyword = at (d + 41); specs = Single (type_spec_of (called (codes "I") (d + 42)) (Interface (at (d + 43)) (at (d + 44)) (Method (called (codes "g") (d + 45)) (one_param (codes "x") (d + 46)) None NoMethods) (at (d + 50)))) })) (d + 51)

-- var last, other int
abbrev pub variables : ℕ → TopTree
variables d = top (tree.Value (record { kind = value_kinds.Var; keyword = at (d + 52); specs = Single (record { names = Then (called (codes "last") (d + 53)) (at (d + 54)) (One (called (codes "other") (d + 55))); type_expr = Some (int_at (d + 56)); values = None }) })) (d + 57)

-- the file, whose first function has this body: what stands behind the body is moved by a distance
abbrev pub decl_sample : ℕ → Lines → FileTree
decl_sample d body = record { clause = at 0; name = called (codes "p") 1; semicolon = at 2; imports = []; decls = early d body ∷ (decl_sample_struct d ∷ (decl_sample_method d ∷ (interface_type d ∷ (variables d ∷ [])))) }

-- { x := 1 }
abbrev pub short_body : Lines
short_body = Line (tree.Simple (Define (One (called (codes "x") 10)) (at 11) (One (Integer 1 (at 12))))) None NoLines

-- { var y, z int; x := y }
abbrev pub long_body : Lines
long_body = Line (tree.Declare (record { kind = value_kinds.Var; keyword = at 10; specs = Single (record { names = Then (called (codes "y") 11) (at 12) (One (called (codes "z") 13)); type_expr = Some (int_at 14); values = None }) })) (Some (at 15)) (Line (tree.Simple (Define (One (called (codes "x") 16)) (at 17) (One (Named (called (codes "y") 18))))) None NoLines)

abbrev pub place_at_offset : ℕ → DeclKind → Place
place_at_offset n k = record { at = n; kind = k }

abbrev pub sample_places : ℕ → List Place
sample_places d = place_at_offset 4 kinds.Func ∷ (place_at_offset 6 kinds.Param ∷ (place_at_offset (d + 16) kinds.«Type» ∷ (place_at_offset (d + 19) kinds.Field ∷ (place_at_offset (d + 21) kinds.Field ∷ (place_at_offset (d + 23) kinds.Field ∷ (place_at_offset (d + 29) kinds.Param ∷ (place_at_offset (d + 33) kinds.Method ∷ (place_at_offset (d + 35) kinds.Param ∷ (place_at_offset (d + 42) kinds.«Type» ∷ (place_at_offset (d + 45) kinds.Method ∷ (place_at_offset (d + 47) kinds.Param ∷ (place_at_offset (d + 53) kinds.Var ∷ (place_at_offset (d + 55) kinds.Var ∷ [])))))))))))))

abbrev pub sample_decls : List (List ℕ × ℕ × DeclKind)
sample_decls = (codes "early", 0, kinds.Func) ∷ ((codes "T", 2, kinds.«Type») ∷ ((codes "m", 7, kinds.Method) ∷ ((codes "I", 9, kinds.«Type») ∷ ((codes "last", 12, kinds.Var) ∷ ((codes "other", 13, kinds.Var) ∷ [])))))

-- the place of a constant or a variable among the names of its specification
abbrev pub place_in_spec : FormTree → Option ℕ
place_in_spec (ValueForm k v i) = Some i
place_in_spec (TypeForm t) = None
place_in_spec (FuncForm f) = None

pub record SampleIsRight : Type 0 where
  pub places : places_of (decl_sample 0 short_body) ≡ sample_places 0
  pub moved : places_of (decl_sample 6 long_body) ≡ sample_places 6
  pub decls : map name_and_number (top_decls (decl_sample 0 short_body)) ≡ sample_decls
  pub same_decls : map name_and_number (top_decls (decl_sample 6 long_body)) ≡ sample_decls
  pub in_specs : map (λ d. place_in_spec d.form) (top_decls (decl_sample 0 short_body)) ≡ None ∷ (None ∷ (None ∷ (None ∷ (Some 0 ∷ (Some 1 ∷ [])))))
  pub same_outside : outside (decl_sample 0 short_body) ≡ outside (decl_sample 6 long_body)
