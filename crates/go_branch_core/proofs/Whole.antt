-- From the states of a walk to what is noted of a function.
use Rattle.std.proofs.Common.{◌≡◌, ℕ, Bool, false, Result, Ok, Err, IfOk, List, [], ◌∷◌, ◌++◌, refl, sym, ap, subst, ◌∙◌}
use Rattle.std.specs.Result.{OnOk, is_err}
use Rattle.std.specs.declared.alloc.AllocError.{AllocError}
use Rattle.go_tree_nodes.specs.declared.files.FuncDecl.{FuncDecl}
use Rattle.go_tree_nodes.specs.Shapes.{func_of, lines_of}
use Rattle.go_scope_core.specs.block_core.Blocks.{BlocksModel}
use Rattle.go_scope_core.specs.Models.{ScopesModel, scopes_model}
use Rattle.go_scope_core.specs.Scopes.{with_open}
use Rattle.go_local_core.specs.declared.Fault.{Fault}
use Rattle.go_local_core.specs.Steps.{Declare, EachFirst}
use Rattle.go_local_core.specs.Law.{Rules}
use Rattle.go_local_core.specs.Outline.{lines_steps, func_opens, func_closes}
use Rattle.go_local_core.specs.Alike.{LookAtNames}
use Rattle.go_local_core.specs.Tables.{IsFuncPlaced, walked}
use Rattle.go_names_core.specs.declared.function.Checked.{Checked}
use Rattle.go_names_core.specs.declared.meaning.Outside.{Outside}
use Rattle.go_names_core.specs.Scope.{beyond_in}
use Rattle.go_names_core.specs.Body.{func_idents, func_header, AreWalked, AreGiven}
use Rattle.go_names_core.specs.mirrors.Run.{Noted, noted, also}
use Rattle.go_names_core.specs.mirrors.States.{State, state}
use Rattle.go_names_core.proofs.BodyLemmas.{when_ok, are_walked, are_given}
use Rattle.go_names_core.proofs.Runs.{noted_of}
use Rattle.go_branch_core.specs.mirrors.Ways.{IsOpen, Comes, EndsTo}
use Rattle.go_branch_core.specs.mirrors.WayLaws.{ends_more}

module _ {X N : Type 0} (outside : Outside → X) (rules : Rules X N) (around : BlocksModel) (file : ℕ) (f : FuncDecl) where
  -- what is noted in the end
  pub noted_is : {T E : Type 0} (r : Result T E) (rules' : Rules X N) (s s' : ScopesModel) (ls ls' : List X) (ns ns' : List N) (fs fs' : List Fault) (lacks : Bool) (c : State X N) → s ≡ scopes_model around file [] → ls ≡ [] → ns ≡ [] → fs ≡ [] → lacks ≡ is_err r
      → OnOk r (Comes X N outside (state rules (with_open s (s.open_blocks ++ [] ∷ [])) ls ns fs false) (λ rest. Declare EachFirst f.open_brace.start (func_header f) (func_idents f) rest) (state rules' s' ls' ns' fs' false))
      → EndsTo outside (state rules' s' ls' ns' fs' lacks) (λ rest. lines_steps (lines_of f.body.items) rest) c → c.lacks_memory ≡ false
      → c.noted ≡ noted_of (walked rules (beyond_in outside around file) (func_of f))
  noted_is r rules' s s' ls ls' ns ns' fs fs' lacks c begins no_locals no_notes no_faults is_lacking header ends ok =
      let before : State X N = state rules (with_open s (s.open_blocks ++ [] ∷ [])) ls ns fs false in
      let between : State X N = state rules' s' ls' ns' fs' lacks in
      let ample = (ends ok).0 in
      let head : Comes X N outside before (λ rest. Declare EachFirst f.open_brace.start (func_header f) (func_idents f) rest) between =
      subst (λ l. Comes X N outside before (λ rest. Declare EachFirst f.open_brace.start (func_header f) (func_idents f) rest) (state rules' s' ls' ns' fs' l)) (sym ample) (when_ok r lacks is_lacking ample header) in
      let all = ends_more outside before between c (λ rest. Declare EachFirst f.open_brace.start (func_header f) (func_idents f) rest) (λ rest. lines_steps (lines_of f.body.items) rest) (λ l. (refl, head)) ends ok in
      let opens : IsOpen X around file before.scene [] [] = record {
        outer = [];
        block = [];
        is = ap (λ t. with_open t (t.open_blocks ++ [] ∷ [])) begins;
        shown = tt;
        here = tt;
        distinct = tt;
        first = λ n. refl;
      } in
      let none : noted ns fs ≡ noted [] [] = ap (λ l. noted l fs) no_notes ∙ ap (noted []) no_faults in
      let out : Noted N = noted_of (walked rules (beyond_in outside around file) (func_of f)) in
      sym (ap (λ k. also k out) (sym none) ∙ (all.1.goes around file [] [] opens).1.1 (func_opens (func_of f)) (func_closes (func_of f)))

  -- the same of what a call answers
  noted_in : (k : Result (Checked N) AllocError) (c : State X N) → (c.lacks_memory ≡ false → c.noted ≡ noted_of (walked rules (beyond_in outside around file) (func_of f)))
      → OnOk k (c.lacks_memory ≡ false) → IfOk k (λ w. w.notes.items ≡ c.noted.notes) → IfOk k (λ w. w.faults.items ≡ c.noted.faults)
      → IfOk k (λ w. noted w.notes.items w.faults.items ≡ noted_of (walked rules (beyond_in outside around file) (func_of f)))
  noted_in (Err e) c said ample notes faults = tt
  noted_in (Ok w) c said ample notes faults = ap (λ l. noted l w.faults.items) notes ∙ (ap (noted c.noted.notes) faults ∙ said ample)

  walked_in : (k : Result (Checked N) AllocError) → LookAtNames X N rules → IfOk k (λ w. noted w.notes.items w.faults.items ≡ noted_of (walked rules (beyond_in outside around file) (func_of f)))
      → IfOk k (λ w. AreWalked rules (beyond_in outside around file) (func_of f) w.notes.items w.faults.items)
  walked_in (Err e) at_names h = tt
  walked_in (Ok w) at_names h = are_walked outside rules at_names around file f w.notes.items w.faults.items h

  given_in : (k : Result (Checked N) AllocError) → LookAtNames X N rules → IsFuncPlaced (func_of f) → IfOk k (λ w. noted w.notes.items w.faults.items ≡ noted_of (walked rules (beyond_in outside around file) (func_of f)))
      → IfOk k (λ w. AreGiven rules (beyond_in outside around file) (func_of f) w.notes.items w.faults.items)
  given_in (Err e) at_names placed h = tt
  given_in (Ok w) at_names placed h = are_given outside rules at_names around file f placed w.notes.items w.faults.items h

  pub walked_ok : (k : Result (Checked N) AllocError) (c : State X N) → LookAtNames X N rules → (c.lacks_memory ≡ false → c.noted ≡ noted_of (walked rules (beyond_in outside around file) (func_of f)))
      → OnOk k (c.lacks_memory ≡ false) → IfOk k (λ w. w.notes.items ≡ c.noted.notes) → IfOk k (λ w. w.faults.items ≡ c.noted.faults)
      → IfOk k (λ w. AreWalked rules (beyond_in outside around file) (func_of f) w.notes.items w.faults.items)
  walked_ok k c at_names said ample notes faults = walked_in k at_names (noted_in k c said ample notes faults)

  pub given_ok : (k : Result (Checked N) AllocError) (c : State X N) → LookAtNames X N rules → IsFuncPlaced (func_of f) → (c.lacks_memory ≡ false → c.noted ≡ noted_of (walked rules (beyond_in outside around file) (func_of f)))
      → OnOk k (c.lacks_memory ≡ false) → IfOk k (λ w. w.notes.items ≡ c.noted.notes) → IfOk k (λ w. w.faults.items ≡ c.noted.faults)
      → IfOk k (λ w. AreGiven rules (beyond_in outside around file) (func_of f) w.notes.items w.faults.items)
  given_ok k c at_names placed said ample notes faults = given_in k at_names placed (noted_in k c said ample notes faults)
