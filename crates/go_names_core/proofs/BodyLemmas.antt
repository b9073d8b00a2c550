-- From the states of a walk to what is noted of a function.
use Rattle.std.proofs.Common.{◌≡◌, ℕ, Bool, false, Option, Result, Ok, Err, List, [], ◌∷◌, ◌++◌, refl, sym, ap, ◌∙◌}
use Rattle.std.specs.Result.{OnOk, is_err}
use Rattle.std.proofs.lemmas.Bool.{true≢false}
use Rattle.go_tree_nodes.specs.declared.files.FuncDecl.{FuncDecl}
use Rattle.go_tree_nodes.specs.Shapes.{func_of, lines_of}
use Rattle.go_scope_core.specs.block_core.Blocks.{BlocksModel}
use Rattle.go_scope_core.specs.Models.{ScopesModel, scopes_model}
use Rattle.go_scope_core.specs.Scopes.{with_open}
use Rattle.go_local_core.specs.declared.Fault.{Fault}
use Rattle.go_local_core.specs.Steps.{Steps, Done, Declare, EachFirst}
use Rattle.go_local_core.specs.Law.{Rules, Out}
use Rattle.go_local_core.specs.Outline.{lines_steps, func_steps, func_opens, func_closes}
use Rattle.go_local_core.specs.Alike.{LookAtNames}
use Rattle.go_local_core.specs.Tables.{IsFuncPlaced, walked, out_by_intervals}
use Rattle.go_local_core.proofs.Tables.{one_table}
use Rattle.go_names_core.specs.declared.meaning.Outside.{Outside}
use Rattle.go_names_core.specs.Scope.{beyond_in}
use Rattle.go_names_core.specs.Body.{func_idents, func_header, AreWalked, AreGiven}
use Rattle.go_names_core.specs.Scenes.{NameScene, name_scene}
use Rattle.go_names_core.specs.mirrors.Run.{Noted, noted, Ran, ran, before, run}
use Rattle.go_names_core.specs.mirrors.States.{State, state, IsAhead, LeadsTo}
use Rattle.go_names_core.specs.mirrors.StateLaws.{also_none}
use Rattle.go_names_core.proofs.Runs.{noted_of, run_is}

-- a fact of a result that is no error
pub when_ok : {T E P : Type 0} (r : Result T E) (b : Bool) → b ≡ is_err r → b ≡ false → OnOk r P → P
when_ok (Ok x) b e none h = h
when_ok (Err x) b e none h = absurd (true≢false (sym e ∙ none))

module _ {X N : Type 0} (outside : Outside → X) (rules : Rules X N) (at_names : LookAtNames X N rules) (around : BlocksModel) (file : ℕ) (f : FuncDecl) where
  abbrev beyond : List ℕ → Option X
  beyond = beyond_in outside around file

  -- what is noted in the end
  pub noted_is : {T E : Type 0} (r : Result T E) (rules' : Rules X N) (s s' : ScopesModel) (ls ls' : List X) (ns ns' : List N) (fs fs' : List Fault) (lacks : Bool) (c : State X N) → s ≡ scopes_model around file [] → ls ≡ [] → ns ≡ [] → fs ≡ [] → lacks ≡ is_err r
      → OnOk r (IsAhead X N outside (state rules (with_open s (s.open_blocks ++ [] ∷ [])) ls ns fs false) (λ rest. Declare EachFirst f.open_brace.start (func_header f) (func_idents f) rest) (state rules' s' ls' ns' fs' false))
      → LeadsTo outside (state rules' s' ls' ns' fs' lacks) (λ rest. lines_steps (lines_of f.body.items) rest) c → c.lacks_memory ≡ false
      → c.noted ≡ noted_of (walked rules beyond (func_of f))
  noted_is r rules' s s' ls ls' ns ns' fs fs' lacks c begins no_locals no_notes no_faults is_lacking header leads ok =
      let steps : Steps = func_steps (func_of f) in
      let along = leads ok in
      let ahead = when_ok r lacks is_lacking along.0 header in
      let first : NameScene X = name_scene (scopes_model around file ([] ∷ [])) [] in
      let same : name_scene (with_open s (s.open_blocks ++ [] ∷ [])) ls ≡ first = ap (λ t. name_scene (with_open t (t.open_blocks ++ [] ∷ [])) ls) begins ∙ ap (name_scene (scopes_model around file ([] ∷ []))) no_locals in
      let all : before (noted [] []) (run rules outside first steps) ≡ ran c.noted c.scene.locals =
      ap (λ l. before (noted l []) (run rules outside first steps)) (sym no_notes)
      ∙ (ap (λ l. before (noted ns l) (run rules outside first steps)) (sym no_faults)
      ∙ (ap (λ t. before (noted ns fs) (run rules outside t steps)) (sym same)
      ∙ (ahead.noted (lines_steps (lines_of f.body.items) Done) ∙ (along.1.noted Done ∙ ap (λ n. ran n c.scene.locals) (also_none c.noted))))) in
      sym (ap (λ (n : Ran X N). n.noted) all) ∙ (run_is X N rules at_names outside around file steps [] [] [] [] [] (func_opens (func_of f)) (func_closes (func_of f)) tt tt tt (λ n. refl)).0

  pub are_walked : (ns : List N) (fs : List Fault) → noted ns fs ≡ noted_of (walked rules beyond (func_of f)) → AreWalked rules beyond (func_of f) ns fs
  are_walked ns fs e = (ap (λ (n : Noted N). n.notes) e, ap (λ (n : Noted N). n.faults) e)

  pub are_given : IsFuncPlaced (func_of f) → (ns : List N) (fs : List Fault) → noted ns fs ≡ noted_of (walked rules beyond (func_of f)) → AreGiven rules beyond (func_of f) ns fs
  are_given placed ns fs e all right =
      let table = one_table X N rules at_names beyond (func_of f) placed in
      let same : out_by_intervals rules beyond (func_of f) all ≡ walked rules beyond (func_of f) = ap (out_by_intervals rules beyond (func_of f)) ((table.0 all).0 right) ∙ table.1 in
      (ap (λ (n : Noted N). n.notes) e ∙ ap (λ (o : Out X N). o.notes) (sym same), ap (λ (n : Noted N). n.faults) e ∙ ap (λ (o : Out X N). o.faults) (sym same))
