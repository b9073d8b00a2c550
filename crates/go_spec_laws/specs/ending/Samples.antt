-- Functions with the fault at their end, where there is one, and with those of `break` and `continue` in them, worked out by hand. The n-th token of a
-- function stands at n. The name `c` is a variable of the type bool.
--
-- docs/RULES.md, "Bodies of functions". The Go specification, "Terminating statements", "Break statements", "Continue statements".
use Rattle.std.specs.Prelude.{◌≡◌, ℕ, suc, false, List, [], ◌∷◌, Some, None, codes}
use Rattle.go_universe_core.specs.declared.Predeclared.TheVariants as predeclared
use Rattle.go_tree_nodes.specs.Trees.{One, Signed, ResultTree, NoResult, OneResult, Results, NoParams, Param, ExprTree, Integer, Named, Paren, Call, ItemTrees, NoItems, Item, Alone, Forever, While, Clauses, StmtTree, ElseTree, Lines, Empty, Simple, Return, Break, Continue, Block, If, For, Branch, NoElse, ElseBlock, ElseIf, NoLines, Line, FuncTree}
use Rattle.go_tree_nodes.specs.Samples.{at, called, int_at}
use Rattle.go_term_core.specs.decl_core.declared.places.DeclKind.TheVariants as decl_kind
use Rattle.go_term_core.specs.declared.term.MemberPlace.TheVariants as places
use Rattle.go_tree_core.specs.declared.occurrence.Role.TheVariants as roles
use Rattle.go_denote_core.specs.declared.things.Outcome.{Outcome}
use Rattle.go_denote_core.specs.declared.things.Outcome.TheVariants as outcomes
use Rattle.go_handle_core.specs.Declarations.{Declaration, Universe, InFile}
use Rattle.go_body_core.specs.Ends.{end_faults}
use Rattle.go_body_core.specs.Notes.{TheUse}
use Rattle.go_spec_laws.specs.ending.Standing.{stray_at}
use Rattle.go_spec_laws.specs.ending.Functions.{lack_at}
use Rattle.go_local_core.specs.walks.Ends.{lines_loop_faults}

-- func f() RESULT { BODY }, with the places of its braces
abbrev pub func_f : ResultTree → ℕ → Lines → ℕ → FuncTree
func_f result before body behind = record { func = at 0; receiver = None; name = called (codes "f") 1; signature = Signed (at 2) NoParams (at 3) result; open_brace = at before; body = body; close_brace = at behind }

-- func f() int { BODY }
abbrev pub giving : Lines → ℕ → FuncTree
giving body behind = func_f (OneResult (int_at 4)) 5 body behind

-- func f() { BODY }
abbrev pub giving_nothing : Lines → ℕ → FuncTree
giving_nothing body behind = func_f NoResult 4 body behind

-- one statement, without a semicolon behind it
abbrev pub lone : StmtTree → Lines
lone s = Line s None NoLines

-- a statement with a semicolon at a place, before others
abbrev pub first : StmtTree → ℕ → Lines → Lines
first s n more = Line s (Some (at n)) more

-- return 1
abbrev pub sample_return : ℕ → StmtTree
sample_return n = Return (at n) (Some (One (Integer 1 (at (suc n)))))

-- c
abbrev pub sample_condition : ℕ → ExprTree
sample_condition n = Named (called (codes "c") n)

-- if c { LINES } OTHERWISE
abbrev pub sample_if : ℕ → Lines → ℕ → ElseTree → StmtTree
sample_if n ls behind otherwise = If (Branch (at n) (record { init = None; condition = sample_condition (suc n) }) (at (suc (suc n))) ls (at behind) otherwise)

-- else { LINES }
abbrev pub sample_else : ℕ → Lines → ℕ → ElseTree
sample_else n ls behind = ElseBlock (at n) (at (suc n)) ls (at behind)

-- else if c { LINES } OTHERWISE
abbrev pub sample_else_if : ℕ → Lines → ℕ → ElseTree → ElseTree
sample_else_if n ls behind otherwise = ElseIf (at n) (Branch (at (suc n)) (record { init = None; condition = sample_condition (suc (suc n)) }) (at (suc (suc (suc n)))) ls (at behind) otherwise)

-- for { LINES }
abbrev pub sample_endless : ℕ → Lines → ℕ → StmtTree
sample_endless n ls behind = For (at n) Forever (at (suc n)) ls (at behind)

-- { LINES }
abbrev pub sample_block : ℕ → Lines → ℕ → StmtTree
sample_block n ls behind = Block (at n) ls (at behind)

-- (1)
abbrev pub sample_argument : ℕ → ItemTrees
sample_argument n = Item None (Integer 1 (at n)) None NoItems

-- (panic(1))
abbrev pub panics_inside : Lines
panics_inside = lone (Simple (Alone (Paren (at 6) (Call (Named (called (codes "panic") 7)) (at 8) (sample_argument 9) (at 10)) (at 11))))

-- (panic)(1)
abbrev pub panics_behind : Lines
panics_behind = lone (Simple (Alone (Call (Paren (at 6) (Named (called (codes "panic") 7)) (at 8)) (at 9) (sample_argument 10) (at 11))))

-- the identifier at 7 has this
abbrev pub seventh : Outcome Declaration (List ℕ) → List TheUse
seventh o = record { offset = 7; role = roles.Callee; outcome = o } ∷ []

abbrev pub predeclared_panic : List TheUse
predeclared_panic = seventh (outcomes.Declared (Universe predeclared.Panic))

-- a function that the package declares
abbrev pub own_panic : List TheUse
own_panic = seventh (outcomes.Declared (InFile (codes "p") (places.Declared (record { file = 0; number = 0; kind = decl_kind.Func }))))

-- there is no fault at the end, or that of the return that is lacked, at the closing brace
pub record WorkedEnds : Type 0 where
  -- func f() int { return 1 }
  pub returned : end_faults [] (giving (lone (sample_return 6)) 8) ≡ []
  -- func f() int { }
  pub nothing : end_faults [] (giving NoLines 6) ≡ lack_at (at 6) ∷ []
  -- func f() (x int) { }
  pub named_result : end_faults [] (func_f (Results (at 4) (Param (Some (One (called (codes "x") 5))) (int_at 6) None NoParams) (at 7)) 8 NoLines 9) ≡ lack_at (at 9) ∷ []
  -- func f() () { }
  pub no_results_listed : end_faults [] (func_f (Results (at 4) NoParams (at 5)) 6 NoLines 7) ≡ []
  -- func f() { }
  pub no_results : end_faults [] (giving_nothing NoLines 5) ≡ []
  -- func f() int { if c { return 1 } }
  pub without_else : end_faults [] (giving (lone (sample_if 6 (lone (sample_return 9)) 11 NoElse)) 12) ≡ lack_at (at 12) ∷ []
  -- func f() int { if c { return 1 } else { return 1 } }
  pub both_return : end_faults [] (giving (lone (sample_if 6 (lone (sample_return 9)) 11 (sample_else 12 (lone (sample_return 14)) 16))) 17) ≡ []
  -- func f() int { if c { return 1 } else { } }
  pub one_returns : end_faults [] (giving (lone (sample_if 6 (lone (sample_return 9)) 11 (sample_else 12 NoLines 14))) 15) ≡ lack_at (at 15) ∷ []
  -- func f() int { if c { return 1 } else if c { return 1 } else { return 1 } }
  pub each_returns : end_faults [] (giving (lone (sample_if 6 (lone (sample_return 9)) 11 (sample_else_if 12 (lone (sample_return 16)) 18 (sample_else 19 (lone (sample_return 21)) 23)))) 24) ≡ []
  -- func f() int { if c { return 1 } else if c { return 1 } }
  pub without_last_else : end_faults [] (giving (lone (sample_if 6 (lone (sample_return 9)) 11 (sample_else_if 12 (lone (sample_return 16)) 18 NoElse))) 19) ≡ lack_at (at 19) ∷ []
  -- func f() int { for { } }
  pub endless : end_faults [] (giving (lone (sample_endless 6 NoLines 8)) 9) ≡ []
  -- func f() int { for ; ; { } }
  pub endless_clauses : end_faults [] (giving (lone (For (at 6) (Clauses None (at 7) None (at 8) None) (at 9) NoLines (at 10))) 11) ≡ []
  -- func f() int { for c { } }
  pub conditioned : end_faults [] (giving (lone (For (at 6) (While (sample_condition 7)) (at 8) NoLines (at 9))) 10) ≡ lack_at (at 10) ∷ []
  -- func f() int { for ; c; { } }
  pub conditioned_clauses : end_faults [] (giving (lone (For (at 6) (Clauses None (at 7) (Some (sample_condition 8)) (at 9) None) (at 10) NoLines (at 11))) 12) ≡ lack_at (at 12) ∷ []
  -- func f() int { for { break } }
  pub left : end_faults [] (giving (lone (sample_endless 6 (lone (Break (at 8))) 9)) 10) ≡ lack_at (at 10) ∷ []
  -- func f() int { for { for { break } } }
  pub inner_left : end_faults [] (giving (lone (sample_endless 6 (lone (sample_endless 8 (lone (Break (at 10))) 11)) 12)) 13) ≡ []
  -- func f() int { for { if c { break } } }
  pub left_in_then : end_faults [] (giving (lone (sample_endless 6 (lone (sample_if 8 (lone (Break (at 11))) 12 NoElse)) 13)) 14) ≡ lack_at (at 14) ∷ []
  -- func f() int { for { if c { } else { break } } }
  pub left_in_else : end_faults [] (giving (lone (sample_endless 6 (lone (sample_if 8 NoLines 11 (sample_else 12 (lone (Break (at 14))) 15))) 16)) 17) ≡ lack_at (at 17) ∷ []
  -- func f() int { for { { break } } }
  pub left_in_block : end_faults [] (giving (lone (sample_endless 6 (lone (sample_block 8 (lone (Break (at 9))) 10)) 11)) 12) ≡ lack_at (at 12) ∷ []
  -- func f() int { for { continue } }
  pub continued : end_faults [] (giving (lone (sample_endless 6 (lone (Continue (at 8))) 9)) 10) ≡ []
  -- func f() int { { return 1 } }
  pub block_returns : end_faults [] (giving (lone (sample_block 6 (lone (sample_return 7)) 9)) 10) ≡ []
  -- func f() int { return 1; { } }
  pub block_behind : end_faults [] (giving (first (sample_return 6) 8 (lone (sample_block 9 NoLines 10))) 11) ≡ lack_at (at 11) ∷ []
  -- func f() int { return 1; ; }
  pub empty_behind : end_faults [] (giving (first (sample_return 6) 8 (first Empty 9 NoLines)) 10) ≡ []
  -- func f() int { (panic(1)) }
  pub panic_in_parens : end_faults predeclared_panic (giving panics_inside 12) ≡ []
  -- func f() int { (panic)(1) }
  pub callee_in_parens : end_faults predeclared_panic (giving panics_behind 12) ≡ []
  -- the same, where the package declares a function of this name
  pub other_panic : end_faults own_panic (giving panics_inside 12) ≡ lack_at (at 12) ∷ []

-- the faults of each `break` and `continue` that no `for` is around, at their places
pub record WorkedJumps : Type 0 where
  -- func f() { break }
  pub outside : lines_loop_faults false (giving_nothing (lone (Break (at 5))) 6).body ≡ stray_at (at 5) ∷ []
  -- func f() { if c { break } else { continue } }
  pub in_branches : lines_loop_faults false (giving_nothing (lone (sample_if 5 (lone (Break (at 8))) 9 (sample_else 10 (lone (Continue (at 12))) 13))) 14).body ≡ stray_at (at 8) ∷ (stray_at (at 12) ∷ [])
  -- func f() { for { if c { break }; continue } }
  pub inside : lines_loop_faults false (giving_nothing (lone (sample_endless 5 (first (sample_if 7 (lone (Break (at 10))) 11 NoElse) 12 (lone (Continue (at 13)))) 14)) 15).body ≡ []
  -- func f() { for { break }; continue }
  pub behind : lines_loop_faults false (giving_nothing (first (sample_endless 5 (lone (Break (at 7))) 8) 9 (lone (Continue (at 10)))) 11).body ≡ stray_at (at 10) ∷ []
