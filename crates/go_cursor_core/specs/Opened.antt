-- The identifiers that are used in a function and in a file, each with the spot where it stands and the locals that are open there, in
-- order of their places.
--
-- docs/RULES.md, "Occurrences", "Bodies of functions". The Go specification, "Blocks", "Declarations and scope".
use Rattle.std.specs.Prelude.{ℕ, Bool, ◌&&◌, not, List, [], ◌∷◌, ◌++◌, map, Option, Some, None, find, if◌then◌else◌}
use Rattle.std.specs.List.{flat_map, list_any}
use Rattle.std.specs.Str.{bytes_eq}
use Rattle.go_tree_nodes.specs.text_core.Text.{is_blank}
use Rattle.go_tree_nodes.specs.declared.names.Ident.{Ident}
use Rattle.go_tree_nodes.specs.Trees.{FuncTree, DeclTree, Value, Types, Func, TopTree, FileTree, of_specs}
use Rattle.go_expr_core.specs.local_core.Steps.{Piece, Steps, Done, Check, Declare, Inner}
use Rattle.go_expr_core.specs.local_core.Outline.{func_steps}
use Rattle.go_cursor_core.specs.Used.{Used, begins_at, type_used, spec_used, piece_used}

-- the locals of a block, in order of their declarations: a name that is not blank is declared by the first of its block

abbrev pub is_new : List Ident → Ident → Bool
is_new block x = not (is_blank x.name) && not (list_any (λ y. bytes_eq x.name y.name) block)

abbrev pub with_ident : List Ident → Ident → List Ident
with_ident block x = if is_new block x then block ++ x ∷ [] else block

abbrev pub with_idents : List Ident → List Ident → List Ident
with_idents block [] = block
with_idents block (x ∷ xs) = with_idents (with_ident block x) xs

-- an identifier with the locals that are open there: those of outer blocks first
pub record OpenUsed : Type 0 where
  pub used : Used
  pub open_names : List Ident

abbrev pub open_used : List Ident → Used → OpenUsed
open_used xs u = record { used = u; open_names = xs }

abbrev pub first_open : ℕ → List OpenUsed → Option OpenUsed
first_open start os = find (λ o. begins_at start o.used) os

-- those of a piece in front of which these locals are open
abbrev pub piece_opened : List Ident → Piece → List OpenUsed
piece_opened xs p = map (open_used xs) (piece_used p)

-- those of the steps of a block: with the locals of the blocks around it, and those of the block itself in front of the steps
abbrev pub steps_opened : List Ident → List Ident → Steps → List OpenUsed
steps_opened outer block Done = []
steps_opened outer block (Check p rest) = piece_opened (outer ++ block) p ++ steps_opened outer block rest
steps_opened outer block (Declare m from p xs rest) = piece_opened (outer ++ block) p ++ steps_opened outer (with_idents block xs) rest
steps_opened outer block (Inner o c steps rest) = steps_opened (outer ++ block) [] steps ++ steps_opened outer block rest

abbrev pub func_opened : FuncTree → List OpenUsed
func_opened f = steps_opened [] [] (func_steps f)

-- an identifier of a file: with the locals that are open there, and the function in which it stands, the header included
pub record FileUsed : Type 0 where
  pub used : Used
  pub open_names : List Ident
  pub func : Option FuncTree

abbrev pub file_name : Used → List Ident → Option FuncTree → FileUsed
file_name u xs f = record { used = u; open_names = xs; func = f }

abbrev pub outside : Used → FileUsed
outside u = file_name u [] None

abbrev pub in_func : FuncTree → OpenUsed → FileUsed
in_func f o = file_name o.used o.open_names (Some f)

abbrev pub decl_names : DeclTree → List FileUsed
decl_names (Value v) = map outside (of_specs spec_used v.specs)
decl_names (Types t) = map outside (of_specs (λ s. type_used s.type_expr) t.specs)
decl_names (Func f) = map (in_func f) (func_opened f)

abbrev pub tops_names : List TopTree → List FileUsed
tops_names ds = flat_map (λ d. decl_names d.decl) ds

abbrev pub file_names : FileTree → List FileUsed
file_names f = tops_names f.decls

-- the first of some that begins at an offset
abbrev pub first_name : ℕ → List FileUsed → Option FileUsed
first_name start ns = find (λ n. begins_at start n.used) ns
