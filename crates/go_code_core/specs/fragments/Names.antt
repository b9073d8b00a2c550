-- What code asks of names, and the slots of a function.
use Rattle.std.specs.Prelude.{ℕ, suc, Bool, true, false, nat_eq, List, [], ◌∷◌, Option, Some, None, if◌then◌else◌}
use Rattle.go_constant_core.specs.text_core.Text.{is_blank}
use Rattle.go_tree_nodes.specs.declared.names.Ident.{Ident}
use Rattle.go_tree_nodes.specs.Trees.{ExprTree, Integer, Text, Named, Paren, Unary, Binary, Select, Call, Literal, StructLiteral}
use Rattle.go_object_core.specs.declared.instructions.letters.Word.{Word}
use Rattle.go_object_core.specs.declared.instructions.letters.Word.TheVariants as words
use Rattle.go_code_core.specs.declared.fragments.names.ConstantWord.{ConstantWord}
use Rattle.go_code_core.specs.declared.fragments.names.ConstantWord.TheVariants as constants
use Rattle.go_code_core.specs.declared.fragments.names.Meaning.{Meaning}
use Rattle.go_code_core.specs.declared.fragments.names.Meaning.TheVariants as meanings
use Rattle.go_code_core.specs.declared.fragments.targets.Target.{Target}
use Rattle.go_code_core.specs.declared.fragments.targets.Target.TheVariants as targets

-- what the identifier at an offset comes to; which reference of the function the call is whose opening parenthesis stands at an offset; and
-- whether the identifier at an offset, to the left of `:=`, is declared there
pub record CodeLooks : Type 0 where
  pub meaning : ℕ → Meaning
  pub reference : ℕ → ℕ
  pub is_new : ℕ → Bool

-- a function: its names, and what its slots are for, each by the offset of its identifier
pub record Frame : Type 0 where
  pub looks : CodeLooks
  pub slots : List (Option ℕ)

abbrev pub frame_of : CodeLooks → List (Option ℕ) → Frame
frame_of looks slots = record { looks = looks; slots = slots }

-- the number of the first of some slots that is for what is declared at an offset, where the first of all has this number
abbrev pub slot_from : ℕ → List (Option ℕ) → ℕ → Option ℕ
slot_from n [] at = None
slot_from n (None ∷ slots) at = slot_from (suc n) slots at
slot_from n (Some declared ∷ slots) at = if nat_eq declared at then Some n else slot_from (suc n) slots at

abbrev pub slot_of : List (Option ℕ) → ℕ → Option ℕ
slot_of slots at = slot_from 0 slots at

abbrev pub word_of : ConstantWord → Word
word_of (constants.Int z) = words.Int
word_of (constants.Bool b) = words.Bool

-- what is called: a name, or what is selected, in parentheses too
abbrev pub callee_meaning : CodeLooks → ExprTree → Meaning
callee_meaning looks (Named x) = looks.meaning x.span.start
callee_meaning looks (Select e dot x) = looks.meaning x.span.start
callee_meaning looks (Paren first e last) = callee_meaning looks e
callee_meaning looks (Integer n s) = meanings.Other
callee_meaning looks (Text t) = meanings.Other
callee_meaning looks (Unary op s e) = meanings.Other
callee_meaning looks (Binary a op s b) = meanings.Other
callee_meaning looks (Call e first items last) = meanings.Other
callee_meaning looks (Literal n first items last) = meanings.Other
callee_meaning looks (StructLiteral t first items last) = meanings.Other

-- what is assigned to: nothing, a variable of the function by its slot, or something else

abbrev pub slot_target : Option ℕ → Target
slot_target None = targets.Other
slot_target (Some slot) = targets.Slot slot

abbrev pub meant_target : List (Option ℕ) → Meaning → Target
meant_target slots (meanings.Variable at word) = slot_target (slot_of slots at)
meant_target slots _ = targets.Other

-- a name that is assigned to, and one that is declared
abbrev pub named_target : Frame → Ident → Target
named_target f x = if is_blank x.name then targets.Blank else meant_target f.slots (f.looks.meaning x.span.start)

abbrev pub declared_slot : Frame → Ident → Target
declared_slot f x = if is_blank x.name then targets.Blank else slot_target (slot_of f.slots x.span.start)

-- the left side of an assignment, in parentheses too
abbrev pub slot_assigned : Frame → ExprTree → Target
slot_assigned f (Named x) = named_target f x
slot_assigned f (Paren first e last) = slot_assigned f e
slot_assigned f (Integer n s) = targets.Other
slot_assigned f (Text t) = targets.Other
slot_assigned f (Unary op s e) = targets.Other
slot_assigned f (Binary a op s b) = targets.Other
slot_assigned f (Select e dot x) = targets.Other
slot_assigned f (Call e first items last) = targets.Other
slot_assigned f (Literal n first items last) = targets.Other
slot_assigned f (StructLiteral t first items last) = targets.Other

abbrev pub is_slot : Target → Bool
is_slot (targets.Slot n) = true
is_slot targets.Blank = false
is_slot targets.Other = false

abbrev pub is_target : Target → Bool
is_target (targets.Slot n) = true
is_target targets.Blank = true
is_target targets.Other = false
