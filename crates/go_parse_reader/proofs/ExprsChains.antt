-- One turn of what stands behind an operand, and reading as far as it.
use Rattle.std.proofs.Common.{◌≡◌, ℕ, zero, suc, ◌+◌, ◌-◌, ◌<◌, ◌≤◌, Bool, List, ◌∷◌, Some, None, Ok, Err, refl, ap, ◌∙◌, arith, cond, ◌⊎◌, inl, inr}
use Rattle.std.proofs.lemmas.Bool.{lt-ltb, le-ltb, le-leb, lt-leb, cases_lt}
use Rattle.go_tree_nodes.specs.text_core.declared.span.Span.{Span}
use Rattle.go_tree_nodes.specs.token_core.declared.kind.Operator.{Operator}
use Rattle.go_tree_nodes.specs.token_core.declared.kind.Operator.TheVariants as operator
use Rattle.go_tree_nodes.specs.Terminals.{Terminal}
use Rattle.go_tree_nodes.specs.Trees.{ExprTree}
use Rattle.go_tree_nodes.specs.Spelling.{mark}
use Rattle.go_tree_nodes.specs.Rules.{rank_of}
use Rattle.go_tree_nodes.specs.Heights.{height}
use Rattle.go_parse_reader.specs.types.mirrors.Marks.{TooHigh, ◌>>=◌, Reading}
use Rattle.go_parse_reader.specs.exprs.mirrors.ExprReading.{Inner, operand_at, Next, Operate, Pick, Apply, next_apply, next_pick, next_operate, has_rank, next_at, step, turn, chain, expr_at}
use Rattle.go_parse_reader.proofs.TypesMarks.{mark_here, mark_that_here, mark_that_not, AgreesAt, bind_agrees, agrees_along}

-- what comes next, by the mark in front

pub next_operator : (least : ℕ) (o : Operator) (s : Span) (ts : List Terminal) → least ≤ rank_of o → next_at least (mark o s ∷ ts) ≡ Some (Operate o s ts)
next_operator least o s ts h = ap (next_operate (mark o s ∷ ts)) (mark_that_here (has_rank least) o s ts (le-leb _ _ h))

pub next_dot : (least : ℕ) (s : Span) (ts : List Terminal) → 0 < least → next_at least (mark operator.Dot s ∷ ts) ≡ Some (Pick s ts)
next_dot least s ts some =
    ap (next_operate (mark operator.Dot s ∷ ts)) (mark_that_not (has_rank least) operator.Dot s ts (lt-leb _ _ some))
    ∙ ap (next_pick (mark operator.Dot s ∷ ts)) (mark_here operator.Dot s ts)

pub next_open : (least : ℕ) (s : Span) (ts : List Terminal) → 0 < least → next_at least (mark operator.OpenParen s ∷ ts) ≡ Some (Apply s ts)
next_open least s ts some =
    ap (next_operate (mark operator.OpenParen s ∷ ts)) (mark_that_not (has_rank least) operator.OpenParen s ts (lt-leb _ _ some))
    ∙ ap next_apply (mark_here operator.OpenParen s ts)

-- one turn of a chain

turn_goes : (inner : Inner) (header : Bool) (more : ExprTree → List Terminal → Reading ExprTree) (budget : ℕ) (t : ExprTree) (ts : List Terminal) (o : Next) → height t < budget → turn inner header more budget t ts (Some o) ≡ (step inner header t o >>= λ x. more x.0 x.1)
turn_goes inner header more budget t ts o low = ap (λ c. cond c (step inner header t o >>= λ x. more x.0 x.1) (Err TooHigh)) (lt-ltb _ _ low)

turn_high : (inner : Inner) (header : Bool) (more : ExprTree → List Terminal → Reading ExprTree) (budget : ℕ) (t : ExprTree) (ts : List Terminal) (o : Next) → budget ≤ height t → turn inner header more budget t ts (Some o) ≡ Err TooHigh
turn_high inner header more budget t ts o high = ap (λ c. cond c (step inner header t o >>= λ x. more x.0 x.1) (Err TooHigh)) (le-ltb _ _ high)

pub chain_goes : (inner : Inner) (header : Bool) (budget least k : ℕ) (t : ExprTree) (ts : List Terminal) (o : Next) → next_at least ts ≡ Some o → height t < budget → budget ≤ k + height t → chain inner header budget least k t ts ≡ (step inner header t o >>= λ x. chain inner header budget least (k - 1) x.0 x.1)
unfolding chain
chain_goes inner header budget least zero t ts o ahead low enough = absurd (omega arith)
chain_goes inner header budget least (suc k) t ts o ahead low enough =
    let less : k ≡ suc k - 1 = omega arith in
    ap (turn inner header (chain inner header budget least k) budget t ts) ahead
    ∙ turn_goes inner header (chain inner header budget least k) budget t ts o low
    ∙ ap (λ k. step inner header t o >>= λ x. chain inner header budget least k x.0 x.1) less

pub chain_high : (inner : Inner) (header : Bool) (budget least k : ℕ) (t : ExprTree) (ts : List Terminal) (o : Next) → next_at least ts ≡ Some o → budget ≤ height t → chain inner header budget least k t ts ≡ Err TooHigh
unfolding chain
chain_high inner header budget least zero t ts o ahead high =
    ap (turn inner header (λ _ _. Err TooHigh) zero t ts) ahead ∙ turn_high inner header (λ _ _. Err TooHigh) zero t ts o (omega arith)
chain_high inner header budget least (suc k) t ts o ahead high =
    ap (turn inner header (chain inner header budget least k) budget t ts) ahead ∙ turn_high inner header (chain inner header budget least k) budget t ts o high

pub chain_stops : (inner : Inner) (header : Bool) (budget least k : ℕ) (t : ExprTree) (ts : List Terminal) → next_at least ts ≡ None → chain inner header budget least k t ts ≡ Ok (t, ts)
unfolding chain
chain_stops inner header budget least zero t ts ahead = ap (turn inner header (λ _ _. Err TooHigh) zero t ts) ahead
chain_stops inner header budget least (suc k) t ts ahead = ap (turn inner header (chain inner header budget least k) budget t ts) ahead

-- r goes on with t as the left side of what comes behind it, or it stopped at what is too high
pub record LeadsAt (b : ℕ) (header : Bool) (least : ℕ) (t : ExprTree) (rest : List Terminal) (r : Reading ExprTree) : Type 0 where
  pub turns : ℕ
  pub enough : suc b ≤ turns + height t
  pub agrees : AgreesAt r (chain (expr_at b) header (suc b) least turns t rest) (suc b) (height t)

-- one step further
pub leads_step : (b : ℕ) (header : Bool) (least : ℕ) (t new : ExprTree) (ts rest : List Terminal) (o : Next) (r : Reading ExprTree) → LeadsAt b header least t ts r → next_at least ts ≡ Some o → AgreesAt (step (expr_at b) header t o) (Ok (new, rest)) (suc b) (height new) → height t < height new → LeadsAt b header least new rest r
leads_step b header least t new ts rest o r lead ahead goes grows =
    record { turns = lead.turns - 1; enough = omega (arith, lead.enough); agrees = by_cases lead.agrees (cases_lt (height t) (suc b)) }
  where
    by_cases : AgreesAt r (chain (expr_at b) header (suc b) least lead.turns t ts) (suc b) (height t) → ((height t < suc b) ⊎ (suc b ≤ height t)) → AgreesAt r (chain (expr_at b) header (suc b) least (lead.turns - 1) new rest) (suc b) (height new)
    by_cases (inr g) c = inr (g.0, omega (arith, g.1))
    by_cases (inl e) (inr high) = inr (e ∙ chain_high (expr_at b) header (suc b) least lead.turns t ts o ahead high, omega arith)
    by_cases (inl e) (inl low) =
        agrees_along r _ _ (suc b) (height new) (e ∙ chain_goes (expr_at b) header (suc b) least lead.turns t ts o ahead low lead.enough)
        (bind_agrees (step (expr_at b) header t o) (new, rest) (λ x. chain (expr_at b) header (suc b) least (lead.turns - 1) x.0 x.1) _ (suc b) (height new) (suc b) (height new) goes (inl refl) (λ h. h))

-- what is read as an operand leads
pub leads_operand : (b : ℕ) (header : Bool) (least : ℕ) (t : ExprTree) (ts rest : List Terminal) → AgreesAt (operand_at (expr_at b) b header ts) (Ok (t, rest)) (suc b) (height t) → LeadsAt b header least t rest (expr_at (suc b) header least ts)
unfolding expr_at
leads_operand b header least t ts rest goes =
    record { turns = suc b; enough = omega arith; agrees = bind_agrees (operand_at (expr_at b) b header ts) (t, rest) (λ x. chain (expr_at b) header (suc b) least (suc b) x.0 x.1) _ (suc b) (height t) (suc b) (height t) goes (inl refl) (λ h. h) }
