-- Two functions with what each name in them denotes, worked out by hand. The n-th token of a function stands at n.
use Rattle.std.specs.Prelude.{◌≡◌, ℕ, zero, suc, List, [], ◌∷◌, ◌++◌, Option, Some, None, codes}
use Rattle.go_tree_nodes.specs.text_core.declared.span.Span.{Span}
use Rattle.go_tree_nodes.specs.text_core.declared.rule.Rule.TheVariants.{B1, B4}
use Rattle.go_tree_nodes.specs.token_core.declared.kind.Operator.TheVariants as operator
use Rattle.go_tree_nodes.specs.declared.names.Ident.{Ident}
use Rattle.go_tree_nodes.specs.declared.decls.ValueKind.TheVariants as kinds
use Rattle.go_tree_nodes.specs.Samples.{at, called}
use Rattle.go_tree_nodes.specs.Terminals.{Terminal, TerminalKind, Spelled, Number, Quoted, Word, Mark, Stray}
use Rattle.go_tree_nodes.specs.Trees as tree
use Rattle.go_tree_nodes.specs.Trees.{Separated, One, Then, Signed, NoParams, NoResult, ExprTree, Integer, Named, Binary, SimpleTree, Alone, Step, Assign, Update, Define, Clauses, Lines, Simple, Return, Block, If, For, Branch, NoElse, ElseIf, NoLines, Line, FuncTree, Group, ValueSpecTree}
use Rattle.go_local_core.specs.declared.Fault.{Fault}
use Rattle.go_local_core.specs.Steps.{spell_piece}
use Rattle.go_local_core.specs.Pieces.{piece_declares, ident_place}
use Rattle.go_local_core.specs.Binding.{NameLook}
use Rattle.go_local_core.specs.Law.{Rules}
use Rattle.go_local_core.specs.Tables.{walked, out_by_intervals}

abbrev pub x_at : ℕ → Ident
x_at = called (codes "x")

abbrev pub y_at : ℕ → Ident
y_at = called (codes "y")

-- the rules note what each name means where it stands, which is the offset of its declaration
abbrev pub seen_at : NameLook ℕ → TerminalKind → Span → List (ℕ × Option ℕ)
seen_at look (Spelled n) p = (p.start, look n p.start) ∷ []
seen_at look (Number n) p = []
seen_at look (Quoted bs) p = []
seen_at look (Word k) p = []
seen_at look (Mark o) p = []
seen_at look Stray p = []

abbrev pub seen : NameLook ℕ → List Terminal → List (ℕ × Option ℕ)
seen look [] = []
seen look (t ∷ ts) = seen_at look t.kind t.span ++ seen look ts

abbrev pub places : Rules ℕ (ℕ × Option ℕ)
places = record { notes = λ look firsts p. seen look (spell_piece p); means = λ look firsts p n. ident_place (piece_declares p) n }

abbrev pub none : List ℕ → Option ℕ
none n = None

abbrev pub local_sample_function : Lines → FuncTree
local_sample_function ls = record { func = at 0; receiver = None; name = record { name = codes "f"; span = at 1 }; signature = Signed (at 2) NoParams (at 3) NoResult; open_brace = at 4; body = ls; close_brace = at 90 }

-- func f() { for x := 0; x < 3; x++ { x := x; if y := x; y == x { return y } else if x := y; x == 1 { } } }
abbrev pub loop : FuncTree
loop = local_sample_function (Line (For (at 10) (Clauses (Some (Define (One (x_at 11)) (at 12) (One (Integer 0 (at 13))))) (at 14) (Some (Binary (Named (x_at 15)) operator.Less (at 16) (Integer 3 (at 17)))) (at 18) (Some (Step (Named (x_at 19)) operator.Increment (at 20)))) (at 21)
    (Line (Simple (Define (One (x_at 22)) (at 23) (One (Named (x_at 24))))) (Some (at 25))
    (Line (If (Branch (at 26) (record { init = Some (Some (Define (One (y_at 27)) (at 28) (One (Named (x_at 29)))), at 30); condition = Binary (Named (y_at 31)) operator.Equal (at 32) (Named (x_at 33)) }) (at 34) (Line (Return (at 35) (Some (One (Named (y_at 36))))) None NoLines) (at 37)
    (ElseIf (at 38) (Branch (at 39) (record { init = Some (Some (Define (One (x_at 40)) (at 41) (One (Named (y_at 42)))), at 43); condition = Binary (Named (x_at 44)) operator.Equal (at 45) (Integer 1 (at 46)) }) (at 47) NoLines (at 48) NoElse)))) None NoLines)) (at 50)) None NoLines)

abbrev pub loop_names : List (ℕ × Option ℕ)
loop_names = (11, None) ∷ (15, Some 11) ∷ (19, Some 11) ∷ (22, Some 11) ∷ (24, Some 11) ∷ (27, None) ∷ (29, Some 22) ∷ (31, Some 27) ∷ (33, Some 22) ∷ (36, Some 27) ∷ (40, Some 22) ∷ (42, Some 27) ∷ (44, Some 40) ∷ []

-- func f() { var ( x = x; y = x ); x, y := y, x; { x, y := 1, 2; y, y := x, y } }
abbrev pub sample_spec : Ident → ℕ → Ident → ValueSpecTree
sample_spec x p v = record { names = One x; type_expr = None; values = Some (at p, One (Named v)) }

abbrev pub group_function : FuncTree
group_function = local_sample_function (Line (tree.Declare (record { kind = kinds.Var; keyword = at 5; specs = Group (at 6) ((sample_spec (x_at 7) 8 (x_at 9), Some (at 10)) ∷ (sample_spec (y_at 11) 12 (x_at 13), None) ∷ []) (at 14) })) (Some (at 15))
    (Line (Simple (Define (Then (x_at 16) (at 17) (One (y_at 18))) (at 19) (Then (Named (y_at 20)) (at 21) (One (Named (x_at 22)))))) (Some (at 23))
    (Line (Block (at 24) (Line (Simple (Define (Then (x_at 25) (at 26) (One (y_at 27))) (at 28) (Then (Integer 1 (at 29)) (at 30) (One (Integer 2 (at 31)))))) (Some (at 32))
    (Line (Simple (Define (Then (y_at 33) (at 34) (One (y_at 35))) (at 36) (Then (Named (x_at 37)) (at 38) (One (Named (y_at 39)))))) None NoLines)) (at 40)) None NoLines)))

abbrev pub group_names : List (ℕ × Option ℕ)
group_names = (7, None) ∷ (9, None) ∷ (11, None) ∷ (13, Some 7) ∷ (16, Some 7) ∷ (18, Some 11) ∷ (20, Some 11) ∷ (22, Some 7) ∷ (25, Some 7) ∷ (27, Some 11) ∷ (33, Some 27) ∷ (35, Some 27) ∷ (37, Some 25) ∷ (39, Some 27) ∷ []

abbrev pub group_faults : List Fault
group_faults = record { offset = 16; rule = B4 } ∷ record { offset = 33; rule = B4 } ∷ record { offset = 35; rule = B1 } ∷ []

-- in both functions each name has the declaration that is written here, and the faults are these: on the way through the function, and
-- by the intervals of its declarations
pub record WorkedFunctions : Type 0 where
  pub loop_walked : (walked places none loop).notes ≡ loop_names
  pub loop_given : (out_by_intervals places none loop (walked places none loop).declares).notes ≡ loop_names
  pub loop_faults : (walked places none loop).faults ≡ []
  pub group_walked : (walked places none group_function).notes ≡ group_names
  pub group_given : (out_by_intervals places none group_function (walked places none group_function).declares).notes ≡ group_names
  pub group_faulty : (walked places none group_function).faults ≡ group_faults
  pub group_faults_given : (out_by_intervals places none group_function (walked places none group_function).declares).faults ≡ group_faults
