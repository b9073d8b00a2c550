-- What holds of names, selectors and calls.
use Rattle.std.specs.Prelude.{◌≡◌, ℕ, Bool, true, false, List, [], ◌∷◌, Option, Some, None, MatchOption, ⊤}
use Rattle.go_text_core.specs.Text.{is_blank}
use Rattle.go_tree_nodes.specs.declared.usage.Usage.{Usage}
use Rattle.go_operand_core.specs.declared.types.ValueType.{ValueType}
use Rattle.go_operand_core.specs.TypeRules.{TypeRules}
use Rattle.go_operand_core.specs.Values.{default_type}
use Rattle.go_denote_core.specs.declared.things.Stand.{Stand}
use Rattle.go_denote_core.specs.declared.things.Builtin.TheVariants as builtins
use Rattle.go_denote_core.specs.declared.things.Outcome.{Outcome}
use Rattle.go_denote_core.specs.declared.things.Outcome.TheVariants as outcomes
use Rattle.go_denote_core.specs.declared.things.Denoted.{Denoted}
use Rattle.go_denote_core.specs.declared.things.Denoted.TheVariants as denotes
use Rattle.go_denote_core.specs.declared.things.Answer.{Answer}
use Rattle.go_denote_core.specs.declared.things.Dot.{Dot}
use Rattle.go_denote_core.specs.declared.things.Dot.TheVariants as dots
use Rattle.go_denote_core.specs.declared.things.Argument.{Argument}
use Rattle.go_denote_core.specs.declared.things.Argument.TheVariants as arguments
use Rattle.go_denote_core.specs.Look.{Look}
use Rattle.go_denote_core.specs.Answers.{name_answer}
use Rattle.go_denote_core.specs.Selectors.{selector_answer}
use Rattle.go_denote_core.specs.Calls.{call_answer}
use Rattle.go_denote_core.specs.Contexts.{NameAt, SelectorBehind, name_outcome}
use Rattle.go_denote_core.specs.Rules.{HasFirst, IsDeclared, IsChosen, name_rules, declaration_in, selector_rules, call_rules, declaration_called}

-- a name has the first rule that it breaks, and its declaration where it breaks none
abbrev pub FirstRuleOfName : (T S D P : Type 0) → Type 0
FirstRuleOfName T S D P = (look : Look T S D P) (place : Stand) (name : List ℕ)
    → HasFirst (name_rules look place name) (IsDeclared (declaration_in (look.names.find name))) (name_answer look place name).outcome

-- a selector has the first rule that it breaks, and where it breaks none the declaration in the package, or the member
abbrev pub FirstRuleOfSelector : (T S D P : Type 0) → Type 0
FirstRuleOfSelector T S D P = (look : Look T S D P) (usage : Usage) (dot : Dot T D) (name : List ℕ)
    → HasFirst (selector_rules look usage dot name) (IsChosen look dot name) (selector_answer look usage dot name).outcome

-- a call has the first rule that it breaks, and the declaration of what it calls where it breaks none
abbrev pub FirstRuleOfCall : (T S D P : Type 0) → Type 0
FirstRuleOfCall T S D P = (look : Look T S D P) (callee : Denoted T S D) (is_free : Bool) (given : List (Argument T))
    → HasFirst (call_rules look callee is_free given) (IsDeclared (declaration_called callee)) (call_answer look callee is_free given).outcome

-- a rule is broken exactly where nothing is denoted

abbrev pub is_rule : {D P : Type 0} → Outcome D P → Bool
is_rule (outcomes.Declared d) = false
is_rule (outcomes.Selected d path) = false
is_rule (outcomes.Refused r) = true

abbrev pub is_nothing : {T S D : Type 0} → Denoted T S D → Bool
is_nothing denotes.Refused = true
is_nothing _ = false

abbrev pub Agree : {T S D P : Type 0} → Answer T S D P → Type 0
Agree answer = is_nothing answer.denoted ≡ is_rule answer.outcome

pub record RefusedDenotesNothing (T S D P : Type 0) : Type 0 where
  pub names : (look : Look T S D P) (place : Stand) (name : List ℕ) → Agree (name_answer look place name)
  pub selectors : (look : Look T S D P) (usage : Usage) (dot : Dot T D) (name : List ℕ) → Agree (selector_answer look usage dot name)
  pub calls : (look : Look T S D P) (callee : Denoted T S D) (is_free : Bool) (given : List (Argument T)) → Agree (call_answer look callee is_free given)

-- What an identifier has is its context's rule at its own name; and this looks at the name only for whether it is `_`, and for what the
-- look-up of the context says of it.

-- two types are the same, and the members that two names select in them
abbrev pub MembersAlike : {T S D P : Type 0} → Look T S D P → Look T S D P → Option T → Option T → List ℕ → List ℕ → Type 0
MembersAlike look other t u name name' = (t ≡ u) × MatchOption u ⊤ (λ v. look.names.select v name ≡ other.names.select v name')

-- two names stand for the same behind what is left of a dot
abbrev pub SaysAlike : {T S D P : Type 0} → Look T S D P → Look T S D P → Dot T D → List ℕ → List ℕ → Type 0
SaysAlike look other (dots.«Package» d) name name' = look.names.exported d name ≡ other.names.exported d name'
SaysAlike look other dots.Refused name name' = ⊤
SaysAlike look other dots.Untyped name name' = ⊤
SaysAlike look other (dots.«Value» operand) name name' =
    MembersAlike look other (default_type look.types operand.value_type) (default_type other.types operand.value_type) name name'

pub record OwnNameDecidesName (T S D P : Type 0) : Type 0 where
  pub by_rule : (look : Look T S D P) (place : Stand) (name : List ℕ) → (name_answer look place name).outcome ≡ name_outcome look (NameAt place) name
  pub own_name : (look : Look T S D P) (place : Stand) (name name' : List ℕ)
      → is_blank name ≡ is_blank name' → look.names.find name ≡ look.names.find name' → name_outcome look (NameAt place) name ≡ name_outcome look (NameAt place) name'

pub record OwnNameDecidesSelector (T S D P : Type 0) : Type 0 where
  pub by_rule : (look : Look T S D P) (usage : Usage) (dot : Dot T D) (name : List ℕ)
      → (selector_answer look usage dot name).outcome ≡ name_outcome look (SelectorBehind usage dot) name
  pub own_name : (look : Look T S D P) (usage : Usage) (dot : Dot T D) (name name' : List ℕ)
      → is_blank name ≡ is_blank name' → SaysAlike look look dot name name' → name_outcome look (SelectorBehind usage dot) name ≡ name_outcome look (SelectorBehind usage dot) name'

-- answers are the same under look-ups that agree on what is asked

abbrev pub NamesAreLocal : (T S D P : Type 0) → Type 0
NamesAreLocal T S D P = (look other : Look T S D P) (place : Stand) (name : List ℕ)
    → look.names.find name ≡ other.names.find name → name_answer look place name ≡ name_answer other place name

abbrev pub SelectorsAreLocal : (T S D P : Type 0) → Type 0
SelectorsAreLocal T S D P = (look other : Look T S D P) (usage : Usage) (dot : Dot T D) (name : List ℕ)
    → SaysAlike look other dot name name → selector_answer look usage dot name ≡ selector_answer other usage dot name

-- two look-ups on types agree on the type of a value, or on the default type of an untyped one; nil has none
abbrev pub ValueAlike : {T : Type 0} → TypeRules T → TypeRules T → ValueType T → Type 0
ValueAlike rules others v = (default_type rules v ≡ default_type others v) × MatchOption (default_type others v) ⊤ (λ s. rules.form s ≡ others.form s)

-- and on what becomes of it where a type is wanted
abbrev pub GivenAlike : {T : Type 0} → TypeRules T → TypeRules T → ValueType T → T → Type 0
GivenAlike rules others v t =
    ValueAlike rules others v
    × (rules.form t ≡ others.form t)
    × MatchOption (default_type others v) ⊤ (λ s. (rules.assignable s t ≡ others.assignable s t) × (rules.convertible s t ≡ others.convertible s t))

-- they agree on each value among the arguments
abbrev pub EachAlike : {T : Type 0} → (ValueType T → Type 0) → List (Argument T) → Type 0
EachAlike Alike [] = ⊤
EachAlike Alike (arguments.Refused ∷ given) = EachAlike Alike given
EachAlike Alike (arguments.Void ∷ given) = EachAlike Alike given
EachAlike Alike (arguments.«Value» operand ∷ given) = Alike operand.value_type × EachAlike Alike given

abbrev pub ArgumentAlike : {T : Type 0} → TypeRules T → TypeRules T → Argument T → Option T → Type 0
ArgumentAlike rules others arguments.Refused param = ⊤
ArgumentAlike rules others arguments.Void param = ⊤
ArgumentAlike rules others (arguments.«Value» operand) None = ⊤
ArgumentAlike rules others (arguments.«Value» operand) (Some t) = GivenAlike rules others operand.value_type t

-- they agree on each argument with its parameter
abbrev pub ArgumentsAlike : {T : Type 0} → TypeRules T → TypeRules T → List (Argument T) → List (Option T) → Type 0
ArgumentsAlike rules others [] params = ⊤
ArgumentsAlike rules others (argument ∷ given) [] = ⊤
ArgumentsAlike rules others (argument ∷ given) (param ∷ params) = ArgumentAlike rules others argument param × ArgumentsAlike rules others given params

abbrev pub CallsAlike : {T S D P : Type 0} → Look T S D P → Look T S D P → Denoted T S D → List (Argument T) → Type 0
CallsAlike look other (denotes.«Type» d None) given = ⊤
CallsAlike look other (denotes.«Type» d (Some t)) given = EachAlike (λ v. GivenAlike look.types other.types v t) given
CallsAlike look other (denotes.Func d s) given =
    (look.names.params s ≡ other.names.params s) × (look.names.results s ≡ other.names.results s) × ArgumentsAlike look.types other.types given (other.names.params s)
CallsAlike look other (denotes.Builtin d builtins.Len) given = (look.types.int ≡ other.types.int) × EachAlike (ValueAlike look.types other.types) given
CallsAlike look other (denotes.Builtin d builtins.Panic) given =
    (look.types.any ≡ other.types.any) × EachAlike (λ v. GivenAlike look.types other.types v other.types.any) given
CallsAlike look other (denotes.Builtin d builtins.Print) given = EachAlike (ValueAlike look.types other.types) given
CallsAlike look other denotes.Refused given = ⊤
CallsAlike look other denotes.Typeless given = ⊤
CallsAlike look other (denotes.«Package» d) given = ⊤
CallsAlike look other (denotes.«Value» operand) given = ⊤
CallsAlike look other (denotes.Several s) given = ⊤
CallsAlike look other denotes.Nothing given = ⊤

abbrev pub CallsAreLocal : (T S D P : Type 0) → Type 0
CallsAreLocal T S D P = (look other : Look T S D P) (callee : Denoted T S D) (is_free : Bool) (given : List (Argument T))
    → CallsAlike look other callee given → call_answer look callee is_free given ≡ call_answer other callee is_free given
