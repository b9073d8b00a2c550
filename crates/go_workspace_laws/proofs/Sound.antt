-- Each instruction of some code is sound, where its calls are.
use Rattle.std.proofs.Common.{◌≡◌, ◌<◌, ℕ, suc, Bool, true, false, List, [], ◌∷◌, ◌++◌, length, refl, sym, subst, ◌∙◌}
use Rattle.go_tree_nodes.specs.Trees.{FuncTree}
use Rattle.go_object_core.specs.declared.instructions.instruction.Distance.TheVariants as distances
use Rattle.go_object_core.specs.declared.instructions.instruction.Instruction.{Instruction}
use Rattle.go_object_core.specs.declared.instructions.instruction.Instruction.TheVariants as instructions
use Rattle.go_code_core.specs.fragments.Inside.{in_fragment}
use Rattle.go_code_core.specs.fragments.Names.{CodeLooks}
use Rattle.go_code_core.specs.fragments.Slots.{slots_of}
use Rattle.go_code_core.specs.Code.{code_of, frame_in}
use Rattle.go_code_core.specs.Laws.{CodeIsWhole, IsOfFunction, JumpsStayInside, LeadsInside, OutsideIsAlone}
use Rattle.go_code_core.proofs.Each.{Each, each_there}
use Rattle.go_object_core.specs.Objects.{FunctionOf}
use Rattle.go_workspace_laws.specs.CodeLaws.{IsSound, IsWellFormed}

-- an instruction looks at one of so many slots, if at any
abbrev LooksInside : ℕ → Instruction → Type 0
LooksInside slots (instructions.Load s) = s < slots
LooksInside slots (instructions.Store s) = s < slots
LooksInside slots _ = Unit {0}

looks_inside : (looks : CodeLooks) (slots : ℕ) (i : Instruction) → IsOfFunction looks slots i → LooksInside slots i
looks_inside looks slots (instructions.Load s) h = h
looks_inside looks slots (instructions.Store s) h = h
looks_inside looks slots _ h = tt

sound : {D : Type 0} (f : FunctionOf D) (before behind : ℕ) (i : Instruction) → LeadsInside before behind i → LooksInside f.slots i → ((r n : ℕ) → i ≡ instructions.Call r n → r < length f.references) → IsSound f before behind i
sound f before behind (instructions.Load s) l k c = k
sound f before behind (instructions.Store s) l k c = k
sound f before behind (instructions.Call r n) l k c = c r n refl
sound f before behind (instructions.Jump (distances.Forward n)) l k c = l
sound f before behind (instructions.Jump (distances.Back n)) l k c = l
sound f before behind (instructions.JumpFalse n) l k c = l
sound f before behind _ l k c = tt

module _ (jumps : JumpsStayInside) (whole : CodeIsWhole) (outside : OutsideIsAlone) (looks : CodeLooks) (func : FuncTree) where
  abbrev slots : ℕ
  slots = length (slots_of looks func)

  slots_inside : (front rest : List Instruction) (i : Instruction) → code_of looks func ≡ front ++ i ∷ rest → LooksInside slots i
  slots_inside front rest i is = by (in_fragment (frame_in looks func) func) refl
    where
      by : (b : Bool) → in_fragment (frame_in looks func) func ≡ b → LooksInside slots i
      by true e = looks_inside looks slots i ((whole looks func e).each front rest i is)
      by false e =
          let IsOutside : Instruction → Type 0 = λ j. j ≡ instructions.Outside in
          let all : Each IsOutside (instructions.Outside ∷ []) = (refl, tt) in
          let one : i ≡ instructions.Outside = each_there IsOutside front rest i (subst (Each IsOutside) (sym (outside looks func e) ∙ is) all) in
          subst (LooksInside slots) (sym one) tt

  -- code of a function whose calls are of so many references
  pub well_formed : {D : Type 0} (f : FunctionOf D) → f.slots ≡ slots → f.code ≡ code_of looks func
      → ((front rest : List Instruction) (r n : ℕ) → f.code ≡ front ++ instructions.Call r n ∷ rest → r < length f.references) → IsWellFormed f
  well_formed f many is calls front rest i at =
      sound f (suc (length front)) (length rest) i (jumps looks func front rest i (sym is ∙ at)) (subst (λ m. LooksInside m i) (sym many) (slots_inside front rest i (sym is ∙ at)))
      (λ r n e. calls front rest r n (subst (λ j. f.code ≡ front ++ j ∷ rest) e at))
