-- An empty statement is read only before a semicolon.
use Rattle.std.proofs.Common.{◌≡◌, ℕ, zero, suc, Bool, true, false, List, Option, Some, None, Ok, refl, ap, ◌∙◌, cond}
use Rattle.go_tree_nodes.specs.text_core.declared.span.Span.{Span}
use Rattle.go_tree_nodes.specs.token_core.declared.kind.Keyword.TheVariants as keyword
use Rattle.go_tree_nodes.specs.token_core.declared.kind.Operator.TheVariants as operator
use Rattle.go_tree_nodes.specs.declared.decls.ValueKind.{ValueKind}
use Rattle.go_tree_nodes.specs.Terminals.{Terminal}
use Rattle.go_tree_nodes.specs.Trees.{ForTree, StmtTree, BranchTree, Lines, Empty, Declare, Simple, Return, Break, Continue, Block, If, For}
use Rattle.go_parse_reader.specs.types.mirrors.Marks.{◌>>=◌, Reading, MarkAhead, mark_at, keyword_at}
use Rattle.go_parse_reader.proofs.TypesMarks.{bind_ok}
use Rattle.go_parse_reader.specs.exprs.mirrors.ExprReading.{exprs_at}
use Rattle.go_parse_core.specs.stmts.mirrors.StmtReading.{value_at, value_word, simple_at, for_at, ends_here, returned, Braced, braced, branch_by, by_simple, as_block, by_block, by_for, by_if, by_continue, by_break, by_return, by_value, stmt_at, block_at, branch_at}
use Rattle.go_parse_core.specs.stmts.mirrors.CodeShapes.{lines_above}

-- behind what was read a semicolon stands, if it is an empty statement
pub record Kept (y : StmtTree × List Terminal) : Type 0 where
  pub kept : y.0 ≡ Empty → None ≡ mark_at operator.Semicolon y.1 → ⊥

-- what was read is no empty statement
differs : (c : StmtTree) (rest : List Terminal) (y : StmtTree × List Terminal) → (c ≡ Empty → ⊥) → ◌≡◌ {A = Reading StmtTree} (Ok (c, rest)) (Ok y) → Kept y
differs c rest y not e =
    let same : (c, rest) ≡ y = cc in
    record { kept = λ is free. not (ap (λ (y : StmtTree × List Terminal). y.0) same ∙ is) }

simple_kept : (b : ℕ) (ts : List Terminal) (m : MarkAhead) → mark_at operator.Semicolon ts ≡ m → (y : StmtTree × List Terminal) → by_simple b ts m ≡ Ok y → Kept y
simple_kept b ts None at y e =
    let w = bind_ok (simple_at b false ts) (λ x. Ok (Simple x.0, x.1)) y e in
    differs (Simple w.0.0) w.0.1 y (λ z. cc) w.2
simple_kept b ts (Some s) at y e =
    let same : (Empty, ts) ≡ y = cc in
    let path : mark_at operator.Semicolon ts ≡ mark_at operator.Semicolon y.1 = ap (λ (y : StmtTree × List Terminal). mark_at operator.Semicolon y.1) same in
    record { kept = λ is free. cc (path, at, free) }

block_kept : (b : ℕ) (lines : List Terminal → Reading Lines) (ts : List Terminal) (m : MarkAhead) (y : StmtTree × List Terminal) → by_block b lines ts m ≡ Ok y → Kept y
block_kept b lines ts None y e = simple_kept b ts (mark_at operator.Semicolon ts) refl y e
block_kept b lines ts (Some brace) y e =
    let w = bind_ok (braced lines ts) as_block y e in
    differs (Block w.0.0.0 w.0.0.1 w.0.0.2) w.0.1 y (λ z. cc) w.2

for_kept : (b : ℕ) (lines block : List Terminal → Reading Lines) (ts : List Terminal) (m : MarkAhead) (y : StmtTree × List Terminal) → by_for b lines block ts m ≡ Ok y → Kept y
for_kept b lines block ts None y e = block_kept b lines ts (mark_at operator.OpenBrace ts) y e
for_kept b lines block ts (Some k) y e =
    let made : ForTree → Braced × List Terminal → Reading StmtTree = λ head x. Ok (For k.0 head x.0.0 x.0.1 x.0.2, x.1) in
    let v = bind_ok (for_at b k.1) (λ head. braced block head.1 >>= made head.0) y e in
    let w = bind_ok (braced block v.0.1) (made v.0.0) y v.2 in
    differs (For k.0 v.0.0 w.0.0.0 w.0.0.1 w.0.0.2) w.0.1 y (λ z. cc) w.2

if_kept : (b : ℕ) (lines block : List Terminal → Reading Lines) (branch : Span → List Terminal → Reading BranchTree) (ts : List Terminal) (m : MarkAhead) (y : StmtTree × List Terminal) → by_if b lines block branch ts m ≡ Ok y → Kept y
if_kept b lines block branch ts None y e = for_kept b lines block ts (keyword_at keyword.For ts) y e
if_kept b lines block branch ts (Some k) y e =
    let w = bind_ok (branch_by b block branch k.0 k.1) (λ x. Ok (If x.0, x.1)) y e in
    differs (If w.0.0) w.0.1 y (λ z. cc) w.2

continue_kept : (b : ℕ) (lines block : List Terminal → Reading Lines) (branch : Span → List Terminal → Reading BranchTree) (ts : List Terminal) (m : MarkAhead) (y : StmtTree × List Terminal) → by_continue b lines block branch ts m ≡ Ok y → Kept y
continue_kept b lines block branch ts None y e = if_kept b lines block branch ts (keyword_at keyword.If ts) y e
continue_kept b lines block branch ts (Some k) y e = differs (Continue k.0) k.1 y (λ z. cc) e

break_kept : (b : ℕ) (lines block : List Terminal → Reading Lines) (branch : Span → List Terminal → Reading BranchTree) (ts : List Terminal) (m : MarkAhead) (y : StmtTree × List Terminal) → by_break b lines block branch ts m ≡ Ok y → Kept y
break_kept b lines block branch ts None y e = continue_kept b lines block branch ts (keyword_at keyword.Continue ts) y e
break_kept b lines block branch ts (Some k) y e = differs (Break k.0) k.1 y (λ z. cc) e

returned_kept : (b : ℕ) (s : Span) (ts : List Terminal) (ends : Bool) (y : StmtTree × List Terminal) → cond ends (Ok (Return s None, ts)) (exprs_at b false ts >>= returned s) ≡ Ok y → Kept y
returned_kept b s ts true y e = differs (Return s None) ts y (λ z. cc) e
returned_kept b s ts false y e =
    let w = bind_ok (exprs_at b false ts) (returned s) y e in
    differs (Return s (Some w.0.0)) w.0.1 y (λ z. cc) w.2

return_kept : (b : ℕ) (lines block : List Terminal → Reading Lines) (branch : Span → List Terminal → Reading BranchTree) (ts : List Terminal) (m : MarkAhead) (y : StmtTree × List Terminal) → by_return b lines block branch ts m ≡ Ok y → Kept y
return_kept b lines block branch ts None y e = break_kept b lines block branch ts (keyword_at keyword.Break ts) y e
return_kept b lines block branch ts (Some s) y e = returned_kept b s.0 s.1 (ends_here s.1) y e

value_kept : (b : ℕ) (lines block : List Terminal → Reading Lines) (branch : Span → List Terminal → Reading BranchTree) (ts : List Terminal) (v : Option (ValueKind × Span × List Terminal)) (y : StmtTree × List Terminal) → by_value b lines block branch ts v ≡ Ok y → Kept y
value_kept b lines block branch ts None y e = return_kept b lines block branch ts (keyword_at keyword.Return ts) y e
value_kept b lines block branch ts (Some v) y e =
    let w = bind_ok (value_at b v.0 v.1 v.2) (λ x. Ok (Declare x.0, x.1)) y e in
    differs (Declare w.0.0) w.0.1 y (λ z. cc) w.2

pub stmt_kept : (b : ℕ) (ts : List Terminal) (y : StmtTree × List Terminal) → stmt_at b ts ≡ Ok y → Kept y
unfolding stmt_at
stmt_kept zero ts y e = cc
stmt_kept (suc b) ts y e = value_kept b (lines_above b) (block_at b) (branch_at b) ts (value_word ts) y e
