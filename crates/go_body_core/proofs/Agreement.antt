-- Two rules that say the same of each piece of a function say the same of the function.
use Rattle.std.proofs.Common.{◌≡◌, ℕ, List, [], Option, map, refl, sym, ap, ◌∙◌}
use Rattle.go_local_core.specs.Steps.{Steps, Done, Check, Declare, Inner}
use Rattle.go_local_core.specs.Outline.{func_steps, func_opens, func_closes}
use Rattle.go_local_core.specs.Binding.{Local, bound, is_first}
use Rattle.go_local_core.specs.Faults.{name_faults}
use Rattle.go_local_core.specs.Law.{Rules, Out, out, both, declared_from, law_out}
use Rattle.go_body_core.specs.Agreement.{NoteAlike, AlikeRulesGiveOne}

module _ (X N : Type 0) (rules other : Rules X N) (beyond : List ℕ → Option X) (all : List (Local X)) where
  steps_alike : (steps : Steps) (opens closes : ℕ) → NoteAlike rules other beyond all opens steps → law_out other beyond all opens closes steps ≡ law_out rules beyond all opens closes steps
  steps_alike Done opens closes h = refl
  steps_alike (Check p rest) opens closes h =
      ap (λ ns. both (out [] ns []) (law_out other beyond all opens closes rest)) (sym h.0)
      ∙ ap (both (out [] (rules.notes (bound beyond all) [] p) [])) (steps_alike rest opens closes h.1)
  steps_alike (Declare m from p xs rest) opens closes h =
      let firsts = map (is_first all opens) xs in
      ap (λ ns. both (out (declared_from opens closes from (other.means (bound beyond all) firsts p) 0 xs) ns (name_faults m firsts xs)) (law_out other beyond all opens closes rest)) (sym h.0)
      ∙ (ap (λ ms. both (out (declared_from opens closes from ms 0 xs) (rules.notes (bound beyond all) firsts p) (name_faults m firsts xs)) (law_out other beyond all opens closes rest)) (sym h.1)
      ∙ ap (both (out (declared_from opens closes from (rules.means (bound beyond all) firsts p) 0 xs) (rules.notes (bound beyond all) firsts p) (name_faults m firsts xs))) (steps_alike rest opens closes h.2))
  steps_alike (Inner o c steps rest) opens closes h =
      ap (λ first. both first (law_out other beyond all opens closes rest)) (steps_alike steps o c h.0)
      ∙ ap (both (law_out rules beyond all o c steps)) (steps_alike rest opens closes h.1)

pub alike_rules_give_one : (X N : Type 0) → AlikeRulesGiveOne X N
alike_rules_give_one X N rules other beyond f all right alike =
    let same = steps_alike X N rules other beyond all (func_steps f) (func_opens f) (func_closes f) alike in
    (right ∙ ap (λ (o : Out X N). o.declares) (sym same), same)
