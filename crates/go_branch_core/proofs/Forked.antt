-- Statements that declare nothing in their block, and those behind them: what comes of all is what comes of the first, and then of the others.
use Rattle.std.proofs.Common.{◌≡◌, ℕ, Bool, true, false, ◌&&◌, Result, Ok, Err, IfOk, Option, List, [], ◌∷◌, ◌++◌, refl, sym, ap, subst, ◌∙◌}
use Rattle.std.proofs.lemmas.List.{append_assoc}
use Rattle.std.specs.Result.{OnOk, is_err}
use Rattle.std.specs.declared.alloc.AllocError.{AllocError}
use Rattle.go_tree_nodes.specs.Trees as tree
use Rattle.go_tree_nodes.specs.Trees.{SimpleTree, Alone, Step, Assign, Update, Define, StmtTree, Empty, Simple, Return, Break, Continue, Block, BranchTree, Branch, If, For, Lines, NoLines, Line}
use Rattle.go_tree_nodes.specs.declared.stmts.«Line» as declared_line
use Rattle.go_tree_nodes.specs.Shapes.{shape_stmt, lines_of}
use Rattle.go_scope_core.specs.Models.{ScopesModel}
use Rattle.go_local_core.specs.declared.Fault.{Fault}
use Rattle.go_tree_nodes.specs.Spelling.{spell_branch}
use Rattle.go_local_core.specs.Steps.{Piece, Act, Given, Steps, Done, Check, Inner}
use Rattle.go_local_core.specs.Outline.{end_of, if_steps, for_steps, stmt_steps, else_steps, lines_steps}
use Rattle.go_local_core.specs.Law.{Rules}
use Rattle.go_local_core.specs.mirrors.Walk.{Names, look_in, walk_out}
use Rattle.go_local_core.proofs.WalksStepLemmas.{listed}
use Rattle.go_names_core.specs.declared.meaning.Outside.{Outside}
use Rattle.go_names_core.specs.Scope.{beyond_in}
use Rattle.go_names_core.specs.mirrors.Run.{Noted, noted, also}
use Rattle.go_names_core.specs.declared.function.Checked.{Checked}
use Rattle.go_names_core.specs.Scenes.{name_scene}
use Rattle.go_names_core.specs.mirrors.States.{State, state}
use Rattle.go_names_core.proofs.BodyLemmas.{when_ok}
use Rattle.go_names_core.specs.mirrors.StateLaws.{also_assoc, also_none}
use Rattle.go_names_core.proofs.Runs.{flat, noted_of}
use Rattle.go_branch_core.specs.Quiet.{is_quiet_simple, is_quiet, are_quiet}
use Rattle.go_branch_core.specs.mirrors.Ways.{IsOpen, Ends, ComesTo, EndsTo, IsNotedOf, IsAdded}
use Rattle.go_branch_core.specs.mirrors.WayLaws.{ends_more}

pub and_parts : (a b : Bool) → (a && b) ≡ true → (a ≡ true) × (b ≡ true)
and_parts true b h = (refl, h)
and_parts false b h = absurd (cc)

-- steps that declare nothing in their block are none, a piece that is checked, or a block
module _ {X N : Type 0} (rules : Rules X N) (beyond : List ℕ → Option X) (outer block : Names X) (o e : ℕ) where
  abbrev out : Steps → Noted N
  out ss = noted_of (walk_out rules beyond outer block o e ss)

  -- what comes of these steps comes of them alone, and then of those behind them
  abbrev IsApart : (Steps → Steps) → Type 0
  IsApart f = (rest : Steps) → out (f rest) ≡ also (out (f Done)) (out rest)

  -- one step that notes this
  apart : (n : Noted N) (rest : Steps) → also n (out rest) ≡ also (also n (noted [] [])) (out rest)
  apart n rest = ap (λ k. also k (out rest)) (sym (also_none n))

  checks : (p : Piece) (rest : Steps) → out (Check p rest) ≡ also (out (Check p Done)) (out rest)
  checks p rest = apart (noted (rules.notes (look_in beyond (outer ++ block)) [] p) []) rest

  inside : (first last : ℕ) (ss rest : Steps) → out (Inner first last ss rest) ≡ also (out (Inner first last ss Done)) (out rest)
  inside first last ss rest = apart (noted_of (walk_out rules beyond (outer ++ block) [] first last ss)) rest

  quiet_simple : (s : SimpleTree) → is_quiet_simple s ≡ true → IsApart (stmt_steps (Simple s))
  quiet_simple (Alone t) h rest = checks (Act (Alone t)) rest
  quiet_simple (Step t op s) h rest = checks (Act (Step t op s)) rest
  quiet_simple (Assign ts s es) h rest = checks (Act (Assign ts s es)) rest
  quiet_simple (Update t op s x) h rest = checks (Act (Update t op s x)) rest
  quiet_simple (Define xs s es) h rest = absurd (cc)

  quiet_branch : (b : BranchTree) → IsApart (stmt_steps (If b))
  quiet_branch (Branch k head first ls last otherwise) rest =
      inside k.start (end_of (spell_branch (Branch k head first ls last otherwise))) (if_steps head (Inner first.start last.start (lines_steps ls Done) (else_steps otherwise Done))) rest

  quiet_stmt : (s : StmtTree) → is_quiet s ≡ true → IsApart (stmt_steps s)
  quiet_stmt Empty h rest = refl
  quiet_stmt (tree.Declare v) h rest = absurd (cc)
  quiet_stmt (Simple s) h rest = quiet_simple s h rest
  quiet_stmt (Return s es) h rest = checks (Given s es) rest
  quiet_stmt (Break s) h rest = refl
  quiet_stmt (Continue s) h rest = refl
  quiet_stmt (Block first ls last) h rest = inside first.start last.start (lines_steps ls Done) rest
  quiet_stmt (If b) h rest = quiet_branch b rest
  quiet_stmt (For k head first ls last) h rest = inside k.start last.end (for_steps head (Inner first.start last.start (lines_steps ls Done) Done)) rest

  pub quiet_lines : (ls : Lines) → are_quiet ls ≡ true → IsApart (lines_steps ls)
  quiet_lines NoLines h rest = refl
  quiet_lines (Line s semicolon more) h rest =
      let both = and_parts (is_quiet s) (are_quiet more) h in
      quiet_stmt s both.0 (lines_steps more rest)
      ∙ (ap (also (out (stmt_steps s Done))) (quiet_lines more both.1 rest)
      ∙ (sym (also_assoc (out (stmt_steps s Done)) (out (lines_steps more Done)) (out rest))
      ∙ ap (λ k. also k (out rest)) (sym (quiet_stmt s both.0 (lines_steps more Done)))))

listed_more : (xs ys : List declared_line.Line) → ◌≡◌ {A = Steps → Steps} (listed (xs ++ ys)) (λ rest. listed xs (listed ys rest))
listed_more [] ys = refl
listed_more (x ∷ xs) ys = ap (λ (f : Steps → Steps). λ rest. stmt_steps (shape_stmt x.stmt) (f rest)) (listed_more xs ys)

module _ {X N : Type 0} (outside : Outside → X) where
  -- some of the last lines of a block, and then the others
  pub ends_behind : (a b c : State X N) (all front back : List declared_line.Line) → all ≡ front ++ back → ComesTo outside a (listed front) b → EndsTo outside b (listed back) c → EndsTo outside a (listed all) c
  ends_behind a b c all front back is comes ends =
      subst (λ f. EndsTo outside a f c) (sym (ap listed is ∙ listed_more front back)) (ends_more outside a b c (listed front) (listed back) comes ends)

  -- what comes of a list, where it is known what comes of its parts
  forked : (a b : State X N) (front back : List declared_line.Line) (n m : Noted N) → are_quiet (lines_of front) ≡ true
      → b.rules ≡ a.rules → b.scene ≡ a.scene → b.noted ≡ also (also a.noted n) m
      → IsNotedOf outside a.rules a.scene (listed front Done) n → IsNotedOf outside a.rules a.scene (listed back Done) m
      → Ends X N outside a (listed (front ++ back)) b
  forked a b front back n m quiet rules scene said of_front of_back = record {
    rules = rules;
    goes = λ around file cs c opens.
        let beyond = beyond_in outside around file in
        let out : ℕ → ℕ → Steps → Noted N = λ o e ss. noted_of (walk_out a.rules beyond (flat cs) c o e ss) in (
          c,
          (
            subst (λ s. IsOpen X around file s cs c) (sym scene) opens,
            λ o e.
                ap (λ (f : Steps → Steps). also a.noted (out o e (f Done))) (listed_more front back)
                ∙ (ap (also a.noted) (quiet_lines a.rules beyond (flat cs) c o e (lines_of front) quiet (listed back Done))
                ∙ (ap (λ k. also a.noted (also k (out o e (listed back Done)))) (of_front around file cs c opens o e)
                ∙ (ap (λ k. also a.noted (also n k)) (of_back around file cs c opens o e)
                ∙ (sym (also_assoc a.noted n m) ∙ sym said)))),
          ),
        );
  }

  -- the same, as the code has it
  pub forked_ends : {T E : Type 0} (r : Result T E) (first second : Result (Checked N) AllocError) (rules rules' : Rules X N) (s s' : ScopesModel) (ls ls' held : List X) (ns ns' : List N) (fs fs' : List Fault) (lacks lacks' is_quiet : Bool) (all front back : List declared_line.Line)
      → all ≡ front ++ back → is_quiet ≡ are_quiet (lines_of front) → is_quiet ≡ true → lacks ≡ false → lacks' ≡ is_err r
      → rules' ≡ rules → s' ≡ s → ls' ≡ ls → held ≡ ls
      → IfOk first (λ c. IsNotedOf outside rules (name_scene s held) (listed front Done) (noted c.notes.items c.faults.items))
      → IfOk second (λ c. IsNotedOf outside rules (name_scene s held) (listed back Done) (noted c.notes.items c.faults.items))
      → OnOk r (IsAdded first second ns fs ns' fs')
      → EndsTo outside (state rules s ls ns fs lacks) (listed all) (state rules' s' ls' ns' fs' lacks')
  forked_ends r (Err e) second rules rules' s s' ls ls' held ns ns' fs fs' lacks lacks' is_quiet all front back parts quiet so ample lacking same_rules same_scopes same_locals is_held of_first of_second added ok =
      absurd ((when_ok r lacks' lacking ok added).1.1.0)
  forked_ends r (Ok n) (Err e) rules rules' s s' ls ls' held ns ns' fs fs' lacks lacks' is_quiet all front back parts quiet so ample lacking same_rules same_scopes same_locals is_held of_first of_second added ok =
      absurd ((when_ok r lacks' lacking ok added).1.1.0)
  forked_ends r (Ok n) (Ok m) rules rules' s s' ls ls' held ns ns' fs fs' lacks lacks' is_quiet all front back parts quiet so ample lacking same_rules same_scopes same_locals is_held of_first of_second added ok =
      let more = when_ok r lacks' lacking ok added in
      let a : State X N = state rules s ls ns fs lacks in
      let b : State X N = state rules' s' ls' ns' fs' lacks' in
      let scene : b.scene ≡ a.scene = ap (λ t. name_scene t ls') same_scopes ∙ ap (name_scene s) same_locals in
      let front_noted = subst (λ l. IsNotedOf outside rules (name_scene s l) (listed front Done) (noted n.notes.items n.faults.items)) is_held of_first in
      let back_noted = subst (λ l. IsNotedOf outside rules (name_scene s l) (listed back Done) (noted m.notes.items m.faults.items)) is_held of_second in
      let notes : ns' ≡ (ns ++ n.notes.items) ++ m.notes.items = more.1.1.1.0 ∙ (ap (λ l. ns ++ l) more.1.1.0.0 ∙ sym (append_assoc ns n.notes.items m.notes.items)) in
      let faults : fs' ≡ (fs ++ n.faults.items) ++ m.faults.items = more.1.1.1.1 ∙ (ap (λ l. fs ++ l) more.1.1.0.1 ∙ sym (append_assoc fs n.faults.items m.faults.items)) in
      let said : b.noted ≡ also (also a.noted (noted n.notes.items n.faults.items)) (noted m.notes.items m.faults.items) = ap (λ l. noted l fs') notes ∙ ap (noted ((ns ++ n.notes.items) ++ m.notes.items)) faults in (
        ample,
        subst (λ l. Ends X N outside a (listed l) b) (sym parts)
            (forked a b front back (noted n.notes.items n.faults.items) (noted m.notes.items m.faults.items) (sym quiet ∙ so) same_rules scene said front_noted back_noted),
      )

  -- what was noted of the last steps of a block, of which nothing was noted before
  pub rest_noted : (r : Result (Checked N) AllocError) (rules rules0 rules' : Rules X N) (s s0 s' : ScopesModel) (ls ls0 ls' : List X) (ns ns' : List N) (fs fs' : List Fault) (lacks lacks' : Bool) (lines : List declared_line.Line)
      → rules0 ≡ rules → s0 ≡ s → ls0 ≡ ls → ns ≡ [] → fs ≡ []
      → EndsTo outside (state rules0 s0 ls0 ns fs lacks) (listed lines) (state rules' s' ls' ns' fs' lacks')
      → OnOk r (lacks' ≡ false) → IfOk r (λ c. c.notes.items ≡ ns') → IfOk r (λ c. c.faults.items ≡ fs')
      → IfOk r (λ c. IsNotedOf outside rules (name_scene s ls) (listed lines Done) (noted c.notes.items c.faults.items))
  rest_noted (Err e) rules rules0 rules' s s0 s' ls ls0 ls' ns ns' fs fs' lacks lacks' lines same_rules same_scopes same_locals no_notes no_faults ends ample notes faults = tt
  rest_noted (Ok c) rules rules0 rules' s s0 s' ls ls0 ls' ns ns' fs fs' lacks lacks' lines same_rules same_scopes same_locals no_notes no_faults ends ample notes faults =
      λ around file cs n opens o e.
      let out : Rules X N → Noted N = λ r. noted_of (walk_out r (beyond_in outside around file) (flat cs) n o e (listed lines Done)) in
      let scene : name_scene s ls ≡ name_scene s0 ls0 = sym (ap (λ t. name_scene t ls0) same_scopes ∙ ap (name_scene s) same_locals) in
      let here = subst (λ t. IsOpen X around file t cs n) scene opens in
      let none : noted ns fs ≡ noted [] [] = ap (λ l. noted l fs) no_notes ∙ ap (noted []) no_faults in
      ap out (sym same_rules)
      ∙ (ap (λ k. also k (out rules0)) (sym none)
      ∙ (((ends ample).1.goes around file cs n here).1.1 o e
      ∙ (ap (λ l. noted l fs') (sym notes) ∙ ap (noted c.notes.items) (sym faults))))
