-- A body without faults of `break`, `continue` and at its end is left in a `for` alone, or ends in a terminating statement.
use Rattle.std.proofs.Common.{◌≡◌, ◌⊎◌, inl, inr, ℕ, Bool, true, false, not, ◌&&◌, ◌||◌, List, [], ◌∷◌, ◌++◌, Some, None, is_none, refl, sym, ap, ◌∙◌, nat_eq, if◌then◌else◌}
use Rattle.std.proofs.lemmas.Bool.{eqb-true}
use Rattle.go_tree_nodes.specs.Trees.{ExprTree, Integer, Text, Named, Paren, Unary, Binary, Select, Call, Literal, StructLiteral, Alone, Step, Assign, Update, Define, ForTree, Forever, While, Clauses, SignatureTree, Signed, ResultTree, NoResult, OneResult, Results, ParamTrees, NoParams, Param, StmtTree, Empty, Declare, Simple, Return, Break, Continue, Block, If, For, BranchTree, Branch, ElseTree, NoElse, ElseBlock, ElseIf, Lines, NoLines, Line, FuncTree}
use Rattle.go_code_core.specs.declared.fragments.names.Gives.TheVariants as gives
use Rattle.go_code_core.specs.declared.fragments.names.Meaning.TheVariants as meanings
use Rattle.go_code_core.specs.fragments.Names.{CodeLooks, callee_meaning}
use Rattle.go_code_core.specs.Code.{head_test}
use Rattle.go_names_core.specs.local_core.declared.Fault.{Fault}
use Rattle.go_names_core.specs.local_core.WalksEnds.{has_break, branch_has_break, else_has_break, lines_have_break, has_no_condition, are_empty, is_terminating, is_branch_terminating, is_else_terminating, are_terminating, loop_faults, branch_loop_faults, else_loop_faults, lines_loop_faults}
use Rattle.go_body_core.specs.Ends.{are_some, has_result, returns_some, panics_at, names_one, calls_one, end_faults, has_panic}
use Rattle.go_body_core.specs.Notes.{TheUse}
use Rattle.go_meaning_laws.specs.fitting_sources.Ends.{breaks, branch_breaks, else_breaks, lines_break, continues, branch_continues, else_continues, lines_continue, is_panic, panics, terminates, branch_terminates, else_terminates, lines_terminate}
use Rattle.go_meaning_laws.specs.fitting_sources.Fitting.{listed_gives, result_gives, signature_gives}
use Rattle.go_workspace_laws.proofs.ConstantLists.{HasItem}

pub no_left : {A : Type 0} (xs ys : List A) → xs ++ ys ≡ [] → xs ≡ []
no_left [] ys e = refl
no_left (x ∷ xs) ys e = absurd (cc e)

pub no_right : {A : Type 0} (xs ys : List A) → xs ++ ys ≡ [] → ys ≡ []
no_right [] ys e = e
no_right (x ∷ xs) ys e = absurd (cc e)

neither : (a b : Bool) → a ≡ false → b ≡ false → (a || b) ≡ false
neither a b e f = ap (λ t. t || b) e ∙ f

or_left : (a b : Bool) → a ≡ true → (a || b) ≡ true
or_left a b e = ap (λ t. t || b) e

or_right : (a b : Bool) → b ≡ true → (a || b) ≡ true
or_right true b e = refl
or_right false b e = e

and_both : (a b : Bool) → (a && b) ≡ true → (a ≡ true) × (b ≡ true)
and_both true true e = (refl, refl)
and_both true false e = absurd (cc e)
and_both false true e = absurd (cc e)
and_both false false e = absurd (cc e)

and_all : (a b : Bool) → a ≡ true → b ≡ true → (a && b) ≡ true
and_all a b e f = ap (λ t. t && b) e ∙ f

-- `break` and `continue`

abbrev Stays : Bool → Bool → Type 0
Stays b c = (b ≡ false) × (c ≡ false)

both_stay : (a b c d : Bool) → Stays a b → Stays c d → Stays (a || c) (b || d)
both_stay a b c d h k = (neither a c h.0 k.0, neither b d h.1 k.1)

mutual
  stmt_stays : (t : StmtTree) → loop_faults false t ≡ [] → Stays (breaks t) (continues t)
  stmt_stays Empty e = (refl, refl)
  stmt_stays (Declare v) e = (refl, refl)
  stmt_stays (Simple t) e = (refl, refl)
  stmt_stays (Return s es) e = (refl, refl)
  stmt_stays (Break s) e = absurd (cc e)
  stmt_stays (Continue s) e = absurd (cc e)
  stmt_stays (Block first ls last) e = lines_stay ls e
  stmt_stays (If b) e = branch_stays b e
  stmt_stays (For k head first ls last) e = (refl, refl)

  branch_stays : (t : BranchTree) → branch_loop_faults false t ≡ [] → Stays (branch_breaks t) (branch_continues t)
  branch_stays (Branch k head first ls last other) e =
      both_stay (lines_break ls) (lines_continue ls) (else_breaks other) (else_continues other)
      (lines_stay ls (no_left (lines_loop_faults false ls) (else_loop_faults false other) e)) (else_stays other (no_right (lines_loop_faults false ls) (else_loop_faults false other) e))

  else_stays : (t : ElseTree) → else_loop_faults false t ≡ [] → Stays (else_breaks t) (else_continues t)
  else_stays NoElse e = (refl, refl)
  else_stays (ElseBlock k first ls last) e = lines_stay ls e
  else_stays (ElseIf k b) e = branch_stays b e

  pub lines_stay : (ls : Lines) → lines_loop_faults false ls ≡ [] → Stays (lines_break ls) (lines_continue ls)
  lines_stay NoLines e = (refl, refl)
  lines_stay (Line t semicolon more) e =
      both_stay (breaks t) (continues t) (lines_break more) (lines_continue more)
      (stmt_stays t (no_left (loop_faults false t) (lines_loop_faults false more) e)) (lines_stay more (no_right (loop_faults false t) (lines_loop_faults false more) e))

-- what breaks out of a `for` is the same to both

both_same : (a b c d : Bool) → a ≡ b → c ≡ d → (a || c) ≡ (b || d)
both_same a b c d e f = ap (λ t. t || c) e ∙ ap (λ t. b || t) f

mutual
  stmt_same : (t : StmtTree) → has_break t ≡ breaks t
  stmt_same Empty = refl
  stmt_same (Declare v) = refl
  stmt_same (Simple t) = refl
  stmt_same (Return s es) = refl
  stmt_same (Break s) = refl
  stmt_same (Continue s) = refl
  stmt_same (Block first ls last) = lines_same ls
  stmt_same (If b) = branch_same b
  stmt_same (For k head first ls last) = refl

  branch_same : (t : BranchTree) → branch_has_break t ≡ branch_breaks t
  branch_same (Branch k head first ls last other) = both_same (lines_have_break ls) (lines_break ls) (else_has_break other) (else_breaks other) (lines_same ls) (else_same other)

  else_same : (t : ElseTree) → else_has_break t ≡ else_breaks t
  else_same NoElse = refl
  else_same (ElseBlock k first ls last) = lines_same ls
  else_same (ElseIf k b) = branch_same b

  lines_same : (ls : Lines) → lines_have_break ls ≡ lines_break ls
  lines_same NoLines = refl
  lines_same (Line t semicolon more) = both_same (has_break t) (breaks t) (lines_have_break more) (lines_break more) (stmt_same t) (lines_same more)

-- endings

no_test : (head : ForTree) → has_no_condition head ≡ true → is_none (head_test head) ≡ true
no_test Forever e = refl
no_test (While t) e = absurd (cc e)
no_test (Clauses init a None b post) e = refl
no_test (Clauses init a (Some t) b post) e = absurd (cc e)

module _ (found : ExprTree → Bool) (looks : CodeLooks) (known : (e : ExprTree) → found e ≡ true → panics looks e ≡ true) where
  one_of : (t : StmtTree) (more : Lines) (b : Bool) → (is_terminating found t ≡ true → terminates looks t ≡ true) → (are_terminating found more ≡ true → lines_terminate looks more ≡ true)
      → (if b then is_terminating found t else are_terminating found more) ≡ true → (terminates looks t || lines_terminate looks more) ≡ true
  one_of t more true here later e = or_left (terminates looks t) (lines_terminate looks more) (here e)
  one_of t more false here later e = or_right (terminates looks t) (lines_terminate looks more) (later e)

  mutual
    stmt_ends : (t : StmtTree) → is_terminating found t ≡ true → terminates looks t ≡ true
    stmt_ends Empty e = absurd (cc e)
    stmt_ends (Declare v) e = absurd (cc e)
    stmt_ends (Simple (Alone t)) e = known t e
    stmt_ends (Simple (Step t op s)) e = absurd (cc e)
    stmt_ends (Simple (Assign ts s es)) e = absurd (cc e)
    stmt_ends (Simple (Update t op s v)) e = absurd (cc e)
    stmt_ends (Simple (Define xs s es)) e = absurd (cc e)
    stmt_ends (Return s es) e = refl
    stmt_ends (Break s) e = absurd (cc e)
    stmt_ends (Continue s) e = absurd (cc e)
    stmt_ends (Block first ls last) e = lines_end ls e
    stmt_ends (If b) e = branch_ends b e
    stmt_ends (For k head first ls last) e =
        let p = and_both (has_no_condition head) (not (lines_have_break ls)) e in
        and_all (is_none (head_test head)) (not (lines_break ls)) (no_test head p.0) (sym (ap not (lines_same ls)) ∙ p.1)

    branch_ends : (t : BranchTree) → is_branch_terminating found t ≡ true → branch_terminates looks t ≡ true
    branch_ends (Branch k head first ls last other) e =
        let p = and_both (are_terminating found ls) (is_else_terminating found other) e in
        and_all (lines_terminate looks ls) (else_terminates looks other) (lines_end ls p.0) (else_ends other p.1)

    else_ends : (t : ElseTree) → is_else_terminating found t ≡ true → else_terminates looks t ≡ true
    else_ends NoElse e = absurd (cc e)
    else_ends (ElseBlock k first ls last) e = lines_end ls e
    else_ends (ElseIf k b) e = branch_ends b e

    pub lines_end : (ls : Lines) → are_terminating found ls ≡ true → lines_terminate looks ls ≡ true
    lines_end NoLines e = absurd (cc e)
    lines_end (Line t semicolon more) e = one_of t more (are_empty more) (stmt_ends t) (lines_end more) e

-- calls of `panic`

module _ (at : ℕ → Bool) (looks : CodeLooks) (known : (offset : ℕ) → at offset ≡ true → looks.meaning offset ≡ meanings.Panic) where
  name_panics : (e : ExprTree) → names_one at e ≡ true → is_panic (callee_meaning looks e) ≡ true
  name_panics (Named x) h = ap is_panic (known x.span.start h)
  name_panics (Paren first e last) h = name_panics e h
  name_panics (Integer n s) h = absurd (cc h)
  name_panics (Text t) h = absurd (cc h)
  name_panics (Unary op s e) h = absurd (cc h)
  name_panics (Binary a op s b) h = absurd (cc h)
  name_panics (Select e dot x) h = absurd (cc h)
  name_panics (Call e first items last) h = absurd (cc h)
  name_panics (Literal n first items last) h = absurd (cc h)
  name_panics (StructLiteral t first items last) h = absurd (cc h)

  pub call_panics : (e : ExprTree) → calls_one at e ≡ true → panics looks e ≡ true
  call_panics (Call e first items last) h = name_panics e h
  call_panics (Paren first e last) h = call_panics e h
  call_panics (Named x) h = absurd (cc h)
  call_panics (Integer n s) h = absurd (cc h)
  call_panics (Text t) h = absurd (cc h)
  call_panics (Unary op s e) h = absurd (cc h)
  call_panics (Binary a op s b) h = absurd (cc h)
  call_panics (Select e dot x) h = absurd (cc h)
  call_panics (Literal n first items last) h = absurd (cc h)
  call_panics (StructLiteral t first items last) h = absurd (cc h)

-- without results nothing is given

listed_give : (looks : CodeLooks) (ps : ParamTrees) → are_some ps ≡ false → listed_gives looks ps ≡ gives.Nothing
listed_give looks NoParams e = refl
listed_give looks (Param xs t comma rest) e = absurd (cc e)

results_give : (looks : CodeLooks) (r : ResultTree) → has_result r ≡ false → result_gives looks r ≡ gives.Nothing
results_give looks NoResult e = refl
results_give looks (OneResult t) e = absurd (cc e)
results_give looks (Results first ps last) e = listed_give looks ps e

signature_give : (looks : CodeLooks) (s : SignatureTree) → returns_some s ≡ false → signature_gives looks s ≡ gives.Nothing
signature_give looks (Signed first _ last r) e = results_give looks r e

-- a function without a fault at its end
pub function_ends : (us : List TheUse) (looks : CodeLooks) (g : FuncTree) → ((offset : ℕ) → panics_at us offset ≡ true → looks.meaning offset ≡ meanings.Panic) → end_faults us g ≡ []
    → (signature_gives looks g.signature ≡ gives.Nothing) ⊎ (lines_terminate looks g.body ≡ true)
function_ends us looks g known e = go (returns_some g.signature) (are_terminating (calls_one (panics_at us)) g.body) _ refl refl e
  where
    go : (r t : Bool) (f : Fault) → returns_some g.signature ≡ r → are_terminating (calls_one (panics_at us)) g.body ≡ t → (if r && not t then f ∷ [] else []) ≡ [] → (signature_gives looks g.signature ≡ gives.Nothing) ⊎ (lines_terminate looks g.body ≡ true)
    go false t f er et e = inl (signature_give looks g.signature er)
    go true true f er et e = inr (lines_end (calls_one (panics_at us)) looks (call_panics (panics_at us) looks known) g.body et)
    go true false f er et e = absurd (cc e)

-- an occurrence that denotes `panic`
pub record IsPanicAt (us : List TheUse) (offset : ℕ) : Type 0 where
  pub occurrence : TheUse
  pub there : HasItem us occurrence
  pub here : offset ≡ occurrence.offset
  pub denotes : has_panic occurrence.outcome ≡ true

pub panic_at : (us : List TheUse) (offset : ℕ) → panics_at us offset ≡ true → IsPanicAt us offset
panic_at [] offset e = absurd (cc e)
panic_at (u ∷ us) offset e = go (nat_eq offset u.offset && has_panic u.outcome) refl (panic_at us offset) e
  where
    go : (t : Bool) → (nat_eq offset u.offset && has_panic u.outcome) ≡ t → (panics_at us offset ≡ true → IsPanicAt us offset) → (t || panics_at us offset) ≡ true → IsPanicAt (u ∷ us) offset
    go true is more e =
        let p = and_both (nat_eq offset u.offset) (has_panic u.outcome) is in
        record { occurrence = u; there = inl refl; here = eqb-true offset u.offset p.0; denotes = p.1 }
    go false is more e = let r = more e in record { occurrence = r.occurrence; there = inr r.there; here = r.here; denotes = r.denotes }
