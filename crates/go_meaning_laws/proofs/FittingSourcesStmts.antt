-- Statements and functions that fit mean something.
use Rattle.std.proofs.Common.{◌≡◌, inr, ℕ, ◌+◌, Bool, true, false, not, ◌&&◌, ◌||◌, List, [], ◌∷◌, ◌++◌, Option, Some, None, is_some, is_none, refl, sym, ◌∙◌, subst}
use Rattle.go_constant_core.specs.text_core.declared.span.Span.{Span}
use Rattle.go_tree_nodes.specs.Trees.{Separated, ExprTree, SimpleTree, Alone, Step, Assign, Update, Define, ValueSpecTree, Specs, Single, Group, ForTree, Forever, While, Clauses, StmtTree, Empty, Declare, Simple, Return, Break, Continue, Block, If, For, BranchTree, Branch, ElseTree, NoElse, ElseBlock, ElseIf, Lines, NoLines, Line}
use Rattle.go_tree_nodes.specs.declared.decls.ValueKind.{ValueKind}
use Rattle.go_object_core.specs.declared.instructions.letters.Word.TheVariants as words
use Rattle.go_code_core.specs.fragments.Fragment.{is_one, expr_gives}
use Rattle.go_code_core.specs.fragments.Inside.{some_simple_inside, init_inside, test_inside, results_given, head_inside, stmt_inside, branch_inside, else_inside, lines_inside}
use Rattle.go_code_core.specs.fragments.Names.{CodeLooks}
use Rattle.go_code_core.specs.fragments.Slots.{define_slots, value_spec_slots}
use Rattle.go_code_core.specs.Code.{head_init, head_post, head_test}
use Rattle.go_meaning_laws.specs.source_meaning.Meaning.{Outcome, Done, Variables, Calls, SourceOf, scene_of, Flow, init_meaning, some_simple_meaning, test_meaning, turns, returned, stmt_meaning, branch_meaning, else_meaning, lines_meaning}
use Rattle.go_meaning_laws.specs.fitting_sources.Fitting.{IsAmong, Typing, simple_after, some_simple_after, init_after, lines_after, specs_after, stmt_after, the_frame, TestFits, ReturnFits, InitFits, StmtFits, BranchFits, ElseFits, LinesFit, given_by}
use Rattle.go_meaning_laws.specs.fitting_sources.Ends.{breaks, branch_breaks, else_breaks, lines_break, continues, branch_continues, else_continues, lines_continue, terminates, branch_terminates, else_terminates, lines_terminate}
use Rattle.go_meaning_laws.proofs.FittingSourcesValued.{and_both, Means, means_then, Gave, one_means, truth_means, Sound, fewer}
use Rattle.go_meaning_laws.proofs.FittingSourcesExprs.{CallsMean}
use Rattle.go_meaning_laws.proofs.FittingSourcesFlows.{FlowFits, lesser, flow_means, first_means, either_means, turns_mean}
use Rattle.go_meaning_laws.proofs.FittingSourcesSimples.{some_panics, one_fits_means, only_means, simple_means, some_simple_means, specs_mean}

-- what is declared stays declared

behind_all : (xs ds : List (Option ℕ)) (at : ℕ) → IsAmong ds at → IsAmong (xs ++ ds) at
behind_all [] ds at h = h
behind_all (x ∷ xs) ds at h = inr (behind_all xs ds at h)

simple_keeps : (looks : CodeLooks) (ds : List (Option ℕ)) (t : SimpleTree) (at : ℕ) → IsAmong ds at → IsAmong (simple_after looks ds t) at
simple_keeps looks ds (Define xs s es) at h = behind_all (define_slots looks xs) ds at h
simple_keeps looks ds (Alone e) at h = h
simple_keeps looks ds (Step e op s) at h = h
simple_keeps looks ds (Assign ts s es) at h = h
simple_keeps looks ds (Update t op s e) at h = h

some_simple_keeps : (looks : CodeLooks) (ds : List (Option ℕ)) (t : Option SimpleTree) (at : ℕ) → IsAmong ds at → IsAmong (some_simple_after looks ds t) at
some_simple_keeps looks ds None at h = h
some_simple_keeps looks ds (Some t) at h = simple_keeps looks ds t at h

init_keeps : (looks : CodeLooks) (ds : List (Option ℕ)) (i : Option (Option SimpleTree × Span)) (at : ℕ) → IsAmong ds at → IsAmong (init_after looks ds i) at
init_keeps looks ds None at h = h
init_keeps looks ds (Some i) at h = some_simple_keeps looks ds i.0 at h

spec_lines_keep : (kind : ValueKind) (ds : List (Option ℕ)) (ls : List (ValueSpecTree × Option Span)) (at : ℕ) → IsAmong ds at → IsAmong (lines_after kind ds ls) at
spec_lines_keep kind ds [] at h = h
spec_lines_keep kind ds (l ∷ ls) at h = spec_lines_keep kind (value_spec_slots kind l.0 ++ ds) ls at (behind_all (value_spec_slots kind l.0) ds at h)

specs_keep : (kind : ValueKind) (ds : List (Option ℕ)) (vs : Specs ValueSpecTree) (at : ℕ) → IsAmong ds at → IsAmong (specs_after kind ds vs) at
specs_keep kind ds (Single v) at h = behind_all (value_spec_slots kind v) ds at h
specs_keep kind ds (Group first ls last) at h = spec_lines_keep kind ds ls at h

stmt_keeps : (looks : CodeLooks) (ds : List (Option ℕ)) (t : StmtTree) (at : ℕ) → IsAmong ds at → IsAmong (stmt_after looks ds t) at
stmt_keeps looks ds Empty at h = h
stmt_keeps looks ds (Declare v) at h = specs_keep v.kind ds v.specs at h
stmt_keeps looks ds (Simple t) at h = simple_keeps looks ds t at h
stmt_keeps looks ds (Return s es) at h = h
stmt_keeps looks ds (Break s) at h = h
stmt_keeps looks ds (Continue s) at h = h
stmt_keeps looks ds (Block first ls last) at h = h
stmt_keeps looks ds (If b) at h = h
stmt_keeps looks ds (For k head first ls last) at h = h

not_none : {A : Type 0} (o : Option A) → not (is_some o) ≡ is_none o
not_none None = refl
not_none (Some a) = refl

module _ (program : List SourceOf) (s : SourceOf) (typing : Typing) (calls : Calls) (mean : CallsMean program s calls) where
  -- the variables hold what they are over where these are declared
  abbrev pub Are : List (Option ℕ) → Variables → Type 0
  Are ds values = Sound typing (the_frame program s typing).slots ds values

  -- a statement from where some are declared to where others are
  abbrev pub Goes : List (Option ℕ) → List (Option ℕ) → Bool → Bool → Bool → Outcome Flow → Type 0
  Goes ds es b c t o = Means (FlowFits (Are ds) (Are es) (given_by s) b c t) o

  less : (ds es : List (Option ℕ)) → ((at : ℕ) → IsAmong ds at → IsAmong es at) → (values : Variables) → Are es values → Are ds values
  less ds es k values h = fewer typing (the_frame program s typing).slots es ds values k h

  -- the same to where fewer are declared
  to_fewer : (ds es fs : List (Option ℕ)) (b c t : Bool) (o : Outcome Flow) → ((at : ℕ) → IsAmong fs at → IsAmong es at) → Goes ds es b c t o → Goes ds fs b c t o
  to_fewer ds es fs b c t o k h = lesser (given_by s) (Are ds) (Are es) (Are ds) (Are fs) b c t (λ values h. h) (less fs es k) o h

  -- the same from where fewer are declared
  from_fewer : (ds es fs : List (Option ℕ)) (b c t : Bool) (o : Outcome Flow) → ((at : ℕ) → IsAmong fs at → IsAmong ds at) → Goes ds es b c t o → Goes fs es b c t o
  from_fewer ds es fs b c t o k h = lesser (given_by s) (Are ds) (Are es) (Are fs) (Are es) b c t (less fs ds k) (λ values h. h) o h

  test_means : (ds : List (Option ℕ)) (t : Option ExprTree) (values : Variables) (out : List ℕ) → Are ds values → TestFits program s typing ds t → Means (λ (holds : Bool). holds ≡ false → is_some t ≡ true) (test_meaning (scene_of calls s) t values out)
  test_means ds None values out sound fits = λ e. cc e
  test_means ds (Some e) values out sound fits = truth_means (λ (holds : Bool). holds ≡ false → true ≡ true) _ (λ b out. Done b out) (one_fits_means program s typing calls mean ds e words.Bool values out sound fits.0 fits.1) (λ b out e. refl)

  returned_means : (ds : List (Option ℕ)) (es : Option (Separated ExprTree)) (values : Variables) (out : List ℕ) → Are ds values → results_given (the_frame program s typing) es ≡ true → ReturnFits program s typing ds es → Goes ds ds false false true (returned (scene_of calls s) es values out)
  returned_means ds None values out sound inside fits = subst (λ g. Gave g []) (sym fits) tt
  returned_means ds (Some es) values out sound inside fits =
      let m = only_means program s typing calls mean ds es values out sound inside fits.1 in
      one_means (FlowFits (Are ds) (Are ds) (given_by s) false false true) m.word _ _ m.means (λ v out h. subst (λ g. Gave g (v ∷ [])) (sym (fits.0 ∙ m.is)) (h, tt))

  init_means : (ds : List (Option ℕ)) (i : Option (Option SimpleTree × Span)) (values : Variables) (out : List ℕ) → Are ds values → init_inside (the_frame program s typing) i ≡ true → InitFits program s typing ds i → (t : Bool) × Goes ds (init_after s.looks ds i) false false t (init_meaning (scene_of calls s) i values out)
  init_means ds None values out sound inside fits = (false, (sound, refl))
  init_means ds (Some i) values out sound inside fits = (some_panics program s typing calls mean i.0, some_simple_means program s typing calls mean ds i.0 values out sound inside fits)

  head_parts : (head : ForTree) → head_inside (the_frame program s typing) head ≡ true → (some_simple_inside (the_frame program s typing) (head_init head) ≡ true) × (some_simple_inside (the_frame program s typing) (head_post head) ≡ true)
  head_parts Forever i = (refl, refl)
  head_parts (While e) i = (refl, refl)
  head_parts (Clauses init a test b post) i =
      let f = the_frame program s typing in
      let p = and_both (some_simple_inside f init && test_inside f test) (some_simple_inside f post) i in
      let q = and_both (some_simple_inside f init) (test_inside f test) p.0 in
      (q.0, p.1)

  mutual
    stmt_means : (n : ℕ) (ds : List (Option ℕ)) (t : StmtTree) (values : Variables) (out : List ℕ) → Are ds values → stmt_inside (the_frame program s typing) t ≡ true → StmtFits program s typing ds t → Goes ds (stmt_after s.looks ds t) (breaks t) (continues t) (terminates s.looks t) (stmt_meaning n (scene_of calls s) t values out)
    stmt_means n ds Empty values out sound inside fits = (sound, refl)
    stmt_means n ds (Declare v) values out sound inside fits = specs_mean program s typing calls mean ds v.kind v.specs values out sound inside fits
    stmt_means n ds (Simple t) values out sound inside fits = simple_means program s typing calls mean ds t values out sound inside fits
    stmt_means n ds (Return span es) values out sound inside fits = returned_means ds es values out sound inside fits
    stmt_means n ds (Break span) values out sound inside fits = (sound, refl)
    stmt_means n ds (Continue span) values out sound inside fits = (sound, refl)
    stmt_means n ds (Block first ls last) values out sound inside fits = lines_mean n ds ls values out sound inside fits
    stmt_means n ds (If b) values out sound inside fits = branch_means n ds b values out sound inside fits
    stmt_means n ds (For k head first ls last) values out sound inside fits =
        let f = the_frame program s typing in
        let p = and_both (head_inside f head) (lines_inside f ls) inside in
        let q = head_parts head p.0 in
        let es = some_simple_after s.looks ds (head_init head) in
        let gs = some_simple_after s.looks es (head_post head) in
        first_means (given_by s) (Are ds) (Are es) (Are ds) (Are ds) false false (is_none (head_test head) && not (lines_break ls)) (some_simple_meaning (scene_of calls s) (head_init head) values out) _ (some_panics program s typing calls mean (head_init head)) (some_simple_means program s typing calls mean ds (head_init head) values out sound q.0 fits.0)
        (λ values out sound. to_fewer ds es ds false false (is_none (head_test head) && not (lines_break ls)) _ (some_simple_keeps s.looks ds (head_init head))
        (subst (λ t. Goes ds es false false (t && not (lines_break ls)) (turns n (test_meaning (scene_of calls s) (head_test head)) (lines_meaning n (scene_of calls s) ls) (some_simple_meaning (scene_of calls s) (head_post head)) values out)) (not_none (head_test head))
        (turns_mean (given_by s) (Are ds) (Are es) (Are gs) (less es gs (some_simple_keeps s.looks es (head_post head))) (is_some (head_test head)) (lines_break ls) (lines_continue ls) (lines_terminate s.looks ls) (test_meaning (scene_of calls s) (head_test head)) (lines_meaning n (scene_of calls s) ls) (some_simple_meaning (scene_of calls s) (head_post head)) (some_panics program s typing calls mean (head_post head))
        (λ values out sound. test_means es (head_test head) values out sound fits.1)
        (λ values out sound. lines_mean n es ls values out sound p.1 fits.3)
        (λ values out sound. some_simple_means program s typing calls mean es (head_post head) values out sound q.1 fits.2)
        n values out sound)))

    branch_means : (n : ℕ) (ds : List (Option ℕ)) (t : BranchTree) (values : Variables) (out : List ℕ) → Are ds values → branch_inside (the_frame program s typing) t ≡ true → BranchFits program s typing ds t → Goes ds ds (branch_breaks t) (branch_continues t) (branch_terminates s.looks t) (branch_meaning n (scene_of calls s) t values out)
    branch_means n ds (Branch k head first ls last other) values out sound inside fits =
        let f = the_frame program s typing in
        let p = and_both (init_inside f head.init && is_one (expr_gives f head.condition)) (lines_inside f ls && else_inside f other) inside in
        let q = and_both (init_inside f head.init) (is_one (expr_gives f head.condition)) p.0 in
        let r = and_both (lines_inside f ls) (else_inside f other) p.1 in
        let es = init_after s.looks ds head.init in
        let i = init_means ds head.init values out sound q.0 fits.0 in
        let b = lines_break ls || else_breaks other in
        let c = lines_continue ls || else_continues other in
        let t = lines_terminate s.looks ls && else_terminates s.looks other in
        first_means (given_by s) (Are ds) (Are es) (Are ds) (Are ds) b c t (init_meaning (scene_of calls s) head.init values out) _ i.0 i.1
        (λ values out sound. means_then (λ (holds : Bool). holds ≡ false → true ≡ true) (FlowFits (Are ds) (Are ds) (given_by s) b c t) (test_meaning (scene_of calls s) (Some head.condition) values out) _ (test_means es (Some head.condition) values out sound fits.1)
        (λ holds out h. lesser (given_by s) (Are es) (Are es) (Are ds) (Are ds) b c t (less ds es (init_keeps s.looks ds head.init)) (less ds es (init_keeps s.looks ds head.init)) _
        (either_means (given_by s) (Are es) (Are es) holds (lines_break ls) (lines_continue ls) (lines_terminate s.looks ls) (else_breaks other) (else_continues other) (else_terminates s.looks other) (lines_meaning n (scene_of calls s) ls values out) (else_meaning n (scene_of calls s) other values out)
        (lines_mean n es ls values out sound r.0 fits.2) (else_means n es other values out sound r.1 fits.3))))

    else_means : (n : ℕ) (ds : List (Option ℕ)) (t : ElseTree) (values : Variables) (out : List ℕ) → Are ds values → else_inside (the_frame program s typing) t ≡ true → ElseFits program s typing ds t → Goes ds ds (else_breaks t) (else_continues t) (else_terminates s.looks t) (else_meaning n (scene_of calls s) t values out)
    else_means n ds NoElse values out sound inside fits = (sound, refl)
    else_means n ds (ElseBlock k first ls last) values out sound inside fits = lines_mean n ds ls values out sound inside fits
    else_means n ds (ElseIf k b) values out sound inside fits = branch_means n ds b values out sound inside fits

    pub lines_mean : (n : ℕ) (ds : List (Option ℕ)) (ls : Lines) (values : Variables) (out : List ℕ) → Are ds values → lines_inside (the_frame program s typing) ls ≡ true → LinesFit program s typing ds ls → Goes ds ds (lines_break ls) (lines_continue ls) (lines_terminate s.looks ls) (lines_meaning n (scene_of calls s) ls values out)
    lines_mean n ds NoLines values out sound inside fits = (sound, refl)
    lines_mean n ds (Line t semicolon rest) values out sound inside fits =
        let f = the_frame program s typing in
        let p = and_both (stmt_inside f t) (lines_inside f rest) inside in
        let es = stmt_after s.looks ds t in
        let keeps = stmt_keeps s.looks ds t in
        flow_means (given_by s) (Are ds) (Are es) (Are ds) (breaks t) (continues t) (terminates s.looks t) (lines_break rest) (lines_continue rest) (lines_terminate s.looks rest) (stmt_meaning n (scene_of calls s) t values out) (lines_meaning n (scene_of calls s) rest) (less ds es keeps)
        (stmt_means n ds t values out sound p.0 fits.0)
        (λ values out sound. to_fewer es es ds (lines_break rest) (lines_continue rest) (lines_terminate s.looks rest) _ keeps (lines_mean n es rest values out sound p.1 fits.1))
