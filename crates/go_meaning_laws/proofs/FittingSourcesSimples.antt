-- Simple statements and declarations that fit mean something.
use Rattle.std.proofs.Common.{◌≡◌, inr, ℕ, Bool, true, false, not, ◌&&◌, List, [], ◌∷◌, ◌++◌, ℤ, Option, Some, None, is_some, refl, sym, ap, ◌∙◌, subst, if◌then◌else◌}
use Rattle.go_constant_core.specs.text_core.Text.{is_blank}
use Rattle.go_constant_core.specs.text_core.declared.span.Span.{Span}
use Rattle.go_tree_nodes.specs.token_core.declared.kind.Operator.{Operator}
use Rattle.go_tree_nodes.specs.token_core.declared.kind.Operator.TheVariants as operators
use Rattle.go_tree_nodes.specs.declared.names.Ident.{Ident}
use Rattle.go_tree_nodes.specs.declared.decls.ValueKind.{ValueKind}
use Rattle.go_tree_nodes.specs.declared.decls.ValueKind.TheVariants as value_kinds
use Rattle.go_tree_nodes.specs.Trees.{TypeTree, Separated, One, Then, ExprTree, Integer, Text, Named, Paren, Unary, Binary, Select, Call, Literal, StructLiteral, ValueSpecTree, Specs, Single, Group, SimpleTree, Alone, Step, Assign, Update, Define}
use Rattle.go_object_core.specs.declared.instructions.letters.Word.{Word}
use Rattle.go_object_core.specs.declared.instructions.letters.Word.TheVariants as words
use Rattle.go_code_core.specs.declared.fragments.names.Gives.{Gives}
use Rattle.go_code_core.specs.declared.fragments.names.Gives.TheVariants as gives
use Rattle.go_code_core.specs.declared.fragments.names.Meaning.{Meaning}
use Rattle.go_code_core.specs.declared.fragments.names.Meaning.TheVariants as meanings
use Rattle.go_code_core.specs.fragments.Fragment.{is_one, is_other, over, expr_gives, some_type_inside}
use Rattle.go_code_core.specs.fragments.Inside.{one_value, one_target, one_declared, simple_inside, some_simple_inside, values_inside, value_spec_inside, value_lines_inside, value_specs_inside}
use Rattle.go_code_core.specs.declared.fragments.targets.Target.{Target}
use Rattle.go_code_core.specs.declared.fragments.targets.Target.TheVariants as targets
use Rattle.go_machine_core.specs.Words.{sum, difference, product, quotient, remainder}
use Rattle.go_code_core.specs.fragments.Names.{Frame, slot_of, slot_target, meant_target, slot_assigned, is_slot, is_target}
use Rattle.go_code_core.specs.fragments.Operators.{step_operator, update_operator}
use Rattle.go_code_core.specs.fragments.Slots.{local_slots, define_slots, value_spec_slots}
use Rattle.go_meaning_laws.specs.source_meaning.Values.{Value, Number, binary_applied, step_binary, update_binary}
use Rattle.go_meaning_laws.specs.source_meaning.Meaning.{Outcome, with_one, if_some, if_yields, Variables, assigned, Calls, gives_one, SourceOf, scene_of, expr_meaning, Flow, falls, Goal, ToVariable, ToNothing, Elsewhere, meant_goal, goal_of, assign_to, one_meaning, assign_one, declare_one, update_meaning, let_go, simple_meaning, some_simple_meaning, zero_value, some_type_word, initial_meaning, value_spec_meaning, value_lines_meaning, value_specs_meaning}
use Rattle.go_meaning_laws.specs.fitting_sources.Fitting.{IsGiven, Typing, simple_after, some_simple_after, lines_after, specs_after, the_frame, ExprFits, OneFits, one_gives, GoalFits, TargetsFit, DeclaredFit, UpdatedFits, SimpleFits, SomeSimpleFits, initial_gives, InitialFits, SpecFits, SpecLinesFit, SpecsFit, given_by}
use Rattle.go_meaning_laws.specs.fitting_sources.Ends.{panics, simple_panics}
use Rattle.go_meaning_laws.proofs.FittingSourcesValued.{and_both, Means, means_then, IsOver, AreOver, Gave, NotOther, the_word, just_means, none_means, one_means, Sound, fewer, has_value, is_assigned, sound_assigned}
use Rattle.go_meaning_laws.proofs.FittingSourcesExprs.{Applies, result_applies, numbers, yields_means, CallsMean, expr_means}
use Rattle.go_meaning_laws.proofs.FittingSourcesPanics.{never_means, panic_never}
use Rattle.go_meaning_laws.proofs.FittingSourcesFlows.{FlowFits, lesser, unjumped, first_means}

other_not : (g : Gives) → not (is_other g) ≡ true → NotOther g
other_not (gives.One w) e = tt
other_not gives.Nothing e = tt
other_not gives.Other e = absurd (cc e)

-- an operator gives a number of two numbers, or panics
abbrev IsOnNumbers : Option Operator → Type 0
IsOnNumbers None = ⊥
IsOnNumbers (Some op) = (x y : Value) → IsOver words.Int x → IsOver words.Int y → Applies words.Int (binary_applied op x y)

-- where a goal is a variable it has a slot
abbrev HasSlot : List (Option ℕ) → Goal → Type 0
HasSlot slots (ToVariable at) = is_some (slot_of slots at) ≡ true
HasSlot slots ToNothing = Unit {0}
HasSlot slots Elsewhere = ⊥

abbrev IsVariable : Goal → Type 0
IsVariable (ToVariable at) = Unit {0}
IsVariable ToNothing = ⊥
IsVariable Elsewhere = ⊥

slot_there : (o : Option ℕ) → is_target (slot_target o) ≡ true → is_some o ≡ true
slot_there None e = absurd (cc e)
slot_there (Some n) e = refl

meant_there : (slots : List (Option ℕ)) (m : Meaning) → is_target (meant_target slots m) ≡ true → HasSlot slots (meant_goal m)
meant_there slots (meanings.Variable at w) e = slot_there (slot_of slots at) e
meant_there slots (meanings.Constant v) e = absurd (cc e)
meant_there slots (meanings.Function g) e = absurd (cc e)
meant_there slots (meanings.Method g) e = absurd (cc e)
meant_there slots (meanings.«Type» w) e = absurd (cc e)
meant_there slots meanings.Println e = absurd (cc e)
meant_there slots meanings.Panic e = absurd (cc e)
meant_there slots meanings.Other e = absurd (cc e)

meant_variable : (slots : List (Option ℕ)) (m : Meaning) → is_slot (meant_target slots m) ≡ true → IsVariable (meant_goal m)
meant_variable slots (meanings.Variable at w) e = tt
meant_variable slots (meanings.Constant v) e = absurd (cc e)
meant_variable slots (meanings.Function g) e = absurd (cc e)
meant_variable slots (meanings.Method g) e = absurd (cc e)
meant_variable slots (meanings.«Type» w) e = absurd (cc e)
meant_variable slots meanings.Println e = absurd (cc e)
meant_variable slots meanings.Panic e = absurd (cc e)
meant_variable slots meanings.Other e = absurd (cc e)

named_there : (slots : List (Option ℕ)) (t : Bool) (m : Meaning) → is_target (if t then targets.Blank else meant_target slots m) ≡ true → HasSlot slots (if t then ToNothing else meant_goal m)
named_there slots true m e = tt
named_there slots false m e = meant_there slots m e

named_variable : (slots : List (Option ℕ)) (t : Bool) (m : Meaning) → is_slot (if t then targets.Blank else meant_target slots m) ≡ true → IsVariable (if t then ToNothing else meant_goal m)
named_variable slots true m e = absurd (cc e)
named_variable slots false m e = meant_variable slots m e

goal_there : (f : Frame) (e : ExprTree) → is_target (slot_assigned f e) ≡ true → HasSlot f.slots (goal_of f.looks e)
goal_there f (Named x) i = named_there f.slots (is_blank x.name) (f.looks.meaning x.span.start) i
goal_there f (Paren first e last) i = goal_there f e i
goal_there f (Integer n s) i = absurd (cc i)
goal_there f (Text t) i = absurd (cc i)
goal_there f (Unary op s e) i = absurd (cc i)
goal_there f (Binary a op s b) i = absurd (cc i)
goal_there f (Select e dot x) i = absurd (cc i)
goal_there f (Call e first items last) i = absurd (cc i)
goal_there f (Literal n first items last) i = absurd (cc i)
goal_there f (StructLiteral t first items last) i = absurd (cc i)

goal_variable : (f : Frame) (e : ExprTree) → is_slot (slot_assigned f e) ≡ true → IsVariable (goal_of f.looks e)
goal_variable f (Named x) i = named_variable f.slots (is_blank x.name) (f.looks.meaning x.span.start) i
goal_variable f (Paren first e last) i = goal_variable f e i
goal_variable f (Integer n s) i = absurd (cc i)
goal_variable f (Text t) i = absurd (cc i)
goal_variable f (Unary op s e) i = absurd (cc i)
goal_variable f (Binary a op s b) i = absurd (cc i)
goal_variable f (Select e dot x) i = absurd (cc i)
goal_variable f (Call e first items last) i = absurd (cc i)
goal_variable f (Literal n first items last) i = absurd (cc i)
goal_variable f (StructLiteral t first items last) i = absurd (cc i)

slot_is_target : (t : Target) → is_slot t ≡ true → is_target t ≡ true
slot_is_target (targets.Slot n) e = refl
slot_is_target targets.Blank e = absurd (cc e)
slot_is_target targets.Other e = absurd (cc e)

given_one : (u v : Word) → gives.One u ≡ gives.One v → u ≡ v
given_one u v e = cc e

on_numbers : (op : Operator) → ((a b : ℤ) → Applies words.Int (binary_applied op (Number a) (Number b))) → IsOnNumbers (Some op)
on_numbers op k = λ x y hx hy. numbers words.Int x y hx hy (λ x y. Applies words.Int (binary_applied op x y)) k

step_on : (op : Operator) → is_some (step_operator op) ≡ true → IsOnNumbers (step_binary op)
step_on operators.Increment e = on_numbers operators.Plus (λ a b. result_applies (sum a b))
step_on operators.Decrement e = on_numbers operators.Minus (λ a b. result_applies (difference a b))
step_on _ e = absurd (cc e)

update_on : (op : Operator) → is_some (update_operator op) ≡ true → IsOnNumbers (update_binary op)
update_on operators.PlusAssign e = on_numbers operators.Plus (λ a b. result_applies (sum a b))
update_on operators.MinusAssign e = on_numbers operators.Minus (λ a b. result_applies (difference a b))
update_on operators.StarAssign e = on_numbers operators.Star (λ a b. result_applies (product a b))
update_on operators.SlashAssign e = on_numbers operators.Slash (λ a b. result_applies (quotient a b))
update_on operators.PercentAssign e = on_numbers operators.Percent (λ a b. result_applies (remainder a b))
update_on _ e = absurd (cc e)

zero_over : (w : Word) → IsOver w (zero_value w)
zero_over words.Int = tt
zero_over words.Bool = tt

module _ (program : List SourceOf) (s : SourceOf) (typing : Typing) (calls : Calls) (mean : CallsMean program s calls) where
  -- the variables hold what they are over where these are declared so far
  abbrev pub At : List (Option ℕ) → Variables → Type 0
  At ds values = Sound typing (the_frame program s typing).slots ds values

  -- a statement from where some are declared to where others are, which ends in so many ways
  abbrev pub Leads : List (Option ℕ) → List (Option ℕ) → Bool → Outcome Flow → Type 0
  Leads ds es t o = Means (FlowFits (At ds) (At es) (given_by s) false false t) o

  pub one_fits_means : (ds : List (Option ℕ)) (e : ExprTree) (w : Word) (values : Variables) (out : List ℕ) → At ds values → expr_gives (the_frame program s typing) e ≡ gives.One w → ExprFits program s typing ds e → Means (AreOver (w ∷ [])) (expr_meaning (scene_of calls s) e values out)
  one_fits_means ds e w values out sound is fits =
      subst (λ g. Means (Gave g) (expr_meaning (scene_of calls s) e values out)) is
      (expr_means program s typing calls mean ds e values out sound fits (subst NotOther (sym is) tt))

  -- one value over the word that it gives
  pub record OneMeans (g : Gives) (o : Outcome (List Value)) : Type 0 where
    pub word : Word
    pub is : g ≡ gives.One word
    pub means : Means (AreOver (word ∷ [])) o

  pub only_means : (ds : List (Option ℕ)) (es : Separated ExprTree) (values : Variables) (out : List ℕ) → At ds values → one_value (the_frame program s typing) es ≡ true → OneFits program s typing ds es → OneMeans (one_gives program s typing es) (one_meaning (scene_of calls s) es values out)
  only_means ds (One e) values out sound inside fits =
      let w = the_word (expr_gives (the_frame program s typing) e) inside in
      record { word = w.0; is = w.1; means = one_fits_means ds e w.0 values out sound w.1 fits }
  only_means ds (Then e comma more) values out sound inside fits = absurd (cc inside)

  assigned_means : (ds : List (Option ℕ)) (at : ℕ) (w : Word) (v : Value) (values : Variables) (out : List ℕ) → At ds values → is_some (slot_of (the_frame program s typing).slots at) ≡ true → typing at ≡ Some w → IsOver w v → Leads ds (Some at ∷ ds) false (falls (assigned (the_frame program s typing).slots values at v) out)
  assigned_means ds at w v values out sound has is over =
      let r = is_assigned (the_frame program s typing).slots 0 values at v sound.long has in
      subst (λ o. Leads ds (Some at ∷ ds) false (falls o out)) (sym r.is) (sound_assigned typing (the_frame program s typing).slots ds values at w v sound is over r, refl)

  behind_first : (ds : List (Option ℕ)) (at : ℕ) (values : Variables) → At (Some at ∷ ds) values → At ds values
  behind_first ds at values h = fewer typing (the_frame program s typing).slots (Some at ∷ ds) ds values (λ other i. inr i) h

  target_means : (ds : List (Option ℕ)) (goal : Goal) (g : Gives) (w : Word) (v : Value) (values : Variables) (out : List ℕ) → At ds values → HasSlot (the_frame program s typing).slots goal → GoalFits program s typing goal g → g ≡ gives.One w → IsOver w v → Leads ds ds false (assign_to (the_frame program s typing).slots goal v values out)
  target_means ds (ToVariable at) g w v values out sound has fits is over =
      let same : fits.0 ≡ w = given_one fits.0 w (sym fits.2 ∙ is) in
      lesser (given_by s) (At ds) (At (Some at ∷ ds)) (At ds) (At ds) false false false (λ values h. h) (behind_first ds at) (falls (assigned (the_frame program s typing).slots values at v) out)
      (assigned_means ds at w v values out sound has (fits.1 ∙ ap Some same) over)
  target_means ds ToNothing g w v values out sound has fits is over = (sound, refl)
  target_means ds Elsewhere g w v values out sound has fits is over = absurd has

  assign_means : (ds : List (Option ℕ)) (ts : Separated ExprTree) (g : Gives) (w : Word) (v : Value) (values : Variables) (out : List ℕ) → At ds values → one_target (the_frame program s typing) ts ≡ true → TargetsFit program s typing ts g → g ≡ gives.One w → IsOver w v → Leads ds ds false (assign_one (scene_of calls s) ts v values out)
  assign_means ds (One e) g w v values out sound inside fits is over = target_means ds (goal_of s.looks e) g w v values out sound (goal_there (the_frame program s typing) e inside) fits is over
  assign_means ds (Then e comma more) g w v values out sound inside fits is over = absurd (cc inside)

  declare_case : (ds : List (Option ℕ)) (t : Bool) (at : ℕ) (g : Gives) (w : Word) (v : Value) (values : Variables) (out : List ℕ) → At ds values → is_target (if t then targets.Blank else slot_target (slot_of (the_frame program s typing).slots at)) ≡ true → GoalFits program s typing (if t then ToNothing else ToVariable at) g → g ≡ gives.One w → IsOver w v
      → Leads ds ((if t then [] else Some at ∷ []) ++ ds) false (assign_to (the_frame program s typing).slots (if t then ToNothing else ToVariable at) v values out)
  declare_case ds true at g w v values out sound inside fits is over = (sound, refl)
  declare_case ds false at g w v values out sound inside fits is over =
      let same : fits.0 ≡ w = given_one fits.0 w (sym fits.2 ∙ is) in
      assigned_means ds at w v values out sound (slot_there (slot_of (the_frame program s typing).slots at) inside) (fits.1 ∙ ap Some same) over

  declare_means : (ds : List (Option ℕ)) (xs : Separated Ident) (g : Gives) (w : Word) (v : Value) (values : Variables) (out : List ℕ) → At ds values → one_declared (the_frame program s typing) xs ≡ true → DeclaredFit program s typing xs g → g ≡ gives.One w → IsOver w v → Leads ds (local_slots xs ++ ds) false (declare_one (scene_of calls s) xs v values out)
  declare_means ds (One x) g w v values out sound inside fits is over = declare_case ds (is_blank x.name) x.span.start g w v values out sound inside fits is over
  declare_means ds (Then x comma more) g w v values out sound inside fits is over = absurd (cc inside)

  define_means : (ds : List (Option ℕ)) (xs : Separated Ident) (g : Gives) (w : Word) (v : Value) (values : Variables) (out : List ℕ) → At ds values → one_declared (the_frame program s typing) xs ≡ true → DeclaredFit program s typing xs g → g ≡ gives.One w → IsOver w v → Leads ds (define_slots s.looks xs ++ ds) false (declare_one (scene_of calls s) xs v values out)
  define_means ds (One x) g w v values out sound inside fits is over = declare_case ds (is_blank x.name) x.span.start g w v values out sound inside fits is over
  define_means ds (Then x comma more) g w v values out sound inside fits is over = absurd (cc inside)

  update_means : (ds : List (Option ℕ)) (goal : Goal) (op : Option Operator) (value : List ℕ → Outcome (List Value)) (values : Variables) (out : List ℕ) → At ds values → IsVariable goal → HasSlot (the_frame program s typing).slots goal → UpdatedFits program s typing ds goal → IsOnNumbers op → Means (AreOver (words.Int ∷ [])) (value out) → Leads ds ds false (update_meaning (the_frame program s typing).slots goal op value values out)
  update_means ds (ToVariable at) None value values out sound is has fits on m = absurd on
  update_means ds (ToVariable at) (Some op) value values out sound is has fits on m =
      let v = has_value typing (the_frame program s typing).slots ds values at words.Int sound fits.0 fits.1 in
      subst (λ o. Leads ds ds false (if_some o (λ x. with_one (value out) (λ y out. if_yields (binary_applied op x y) out (λ v. falls (assigned (the_frame program s typing).slots values at v) out))))) (sym v.1)
      (one_means (FlowFits (At ds) (At ds) (given_by s) false false false) words.Int (value out) _ m
      (λ y out hy. yields_means (FlowFits (At ds) (At ds) (given_by s) false false false) words.Int (binary_applied op v.0 y) out _ (on v.0 y v.2 hy)
      (λ x hx. lesser (given_by s) (At ds) (At (Some at ∷ ds)) (At ds) (At ds) false false false (λ values h. h) (behind_first ds at) (falls (assigned (the_frame program s typing).slots values at x) out) (assigned_means ds at words.Int x values out sound has fits.1 hx))))
  update_means ds ToNothing op value values out sound is has fits on m = absurd is
  update_means ds Elsewhere op value values out sound is has fits on m = absurd is

  let_go_means : (ds : List (Option ℕ)) (r : Gives) (vs : List Value) (values : Variables) (out : List ℕ) → At ds values → Gave r vs → Leads ds ds false (let_go r vs values out)
  let_go_means ds (gives.One w) vs values out sound h = just_means (FlowFits (At ds) (At ds) (given_by s) false false false) w vs _ h (λ v i. (sound, refl))
  let_go_means ds gives.Nothing vs values out sound h = none_means (FlowFits (At ds) (At ds) (given_by s) false false false) vs _ h (sound, refl)
  let_go_means ds gives.Other vs values out sound h = absurd h

  alone_means : (ds : List (Option ℕ)) (e : ExprTree) (values : Variables) (out : List ℕ) (t : Bool) → panics s.looks e ≡ t → At ds values → NotOther (expr_gives (the_frame program s typing) e) → ExprFits program s typing ds e → Leads ds ds t (simple_meaning (scene_of calls s) (Alone e) values out)
  alone_means ds e values out false is sound other fits =
      means_then (Gave (expr_gives (the_frame program s typing) e)) (FlowFits (At ds) (At ds) (given_by s) false false false) (expr_meaning (scene_of calls s) e values out) _
      (expr_means program s typing calls mean ds e values out sound fits other) (λ vs out h. let_go_means ds (expr_gives (the_frame program s typing) e) vs values out sound h)
  alone_means ds e values out true is sound other fits =
      never_means (Gave (expr_gives (the_frame program s typing) e)) (FlowFits (At ds) (At ds) (given_by s) false false true) (expr_meaning (scene_of calls s) e values out) _
      (expr_means program s typing calls mean ds e values out sound fits other) (panic_never (scene_of calls s) e values out is)

  pub simple_means : (ds : List (Option ℕ)) (t : SimpleTree) (values : Variables) (out : List ℕ) → At ds values → simple_inside (the_frame program s typing) t ≡ true → SimpleFits program s typing ds t → Leads ds (simple_after s.looks ds t) (simple_panics s.looks t) (simple_meaning (scene_of calls s) t values out)
  simple_means ds (Alone e) values out sound inside fits = alone_means ds e values out (panics s.looks e) refl sound (other_not (expr_gives (the_frame program s typing) e) inside) fits
  simple_means ds (Step e op span) values out sound inside fits =
      let f = the_frame program s typing in
      let p = and_both (is_slot (slot_assigned f e)) (is_some (step_operator op)) inside in
      update_means ds (goal_of s.looks e) (step_binary op) _ values out sound (goal_variable f e p.0) (goal_there f e (slot_is_target (slot_assigned f e) p.0)) fits (step_on op p.1) (tt, tt)
  simple_means ds (Assign ts span es) values out sound inside fits =
      let f = the_frame program s typing in
      let p = and_both (one_target f ts) (one_value f es) inside in
      let m = only_means ds es values out sound p.1 fits.1 in
      one_means (FlowFits (At ds) (At ds) (given_by s) false false false) m.word (one_meaning (scene_of calls s) es values out) _ m.means (λ v out h. assign_means ds ts (one_gives program s typing es) m.word v values out sound p.0 fits.0 m.is h)
  simple_means ds (Update t op span e) values out sound inside fits =
      let f = the_frame program s typing in
      let p = and_both (is_slot (slot_assigned f t) && is_one (expr_gives f e)) (is_some (update_operator op)) inside in
      let q = and_both (is_slot (slot_assigned f t)) (is_one (expr_gives f e)) p.0 in
      update_means ds (goal_of s.looks t) (update_binary op) (expr_meaning (scene_of calls s) e values) values out sound (goal_variable f t q.0) (goal_there f t (slot_is_target (slot_assigned f t) q.0)) fits.0 (update_on op p.1)
      (one_fits_means ds e words.Int values out sound fits.1 fits.2)
  simple_means ds (Define xs span es) values out sound inside fits =
      let f = the_frame program s typing in
      let p = and_both (one_declared f xs) (one_value f es) inside in
      let m = only_means ds es values out sound p.1 fits.1 in
      one_means (FlowFits (At ds) (At (define_slots s.looks xs ++ ds)) (given_by s) false false false) m.word (one_meaning (scene_of calls s) es values out) _ m.means (λ v out h. define_means ds xs (one_gives program s typing es) m.word v values out sound p.0 fits.0 m.is h)

  -- whether a simple statement that may be missing never ends
  abbrev pub some_panics : Option SimpleTree → Bool
  some_panics None = false
  some_panics (Some t) = simple_panics s.looks t

  pub some_simple_means : (ds : List (Option ℕ)) (t : Option SimpleTree) (values : Variables) (out : List ℕ) → At ds values → some_simple_inside (the_frame program s typing) t ≡ true → SomeSimpleFits program s typing ds t → Leads ds (some_simple_after s.looks ds t) (some_panics t) (some_simple_meaning (scene_of calls s) t values out)
  some_simple_means ds None values out sound inside fits = (sound, refl)
  some_simple_means ds (Some t) values out sound inside fits = simple_means ds t values out sound inside fits

  zero_means : (o : Option Word) (out : List ℕ) → IsGiven o → OneMeans (over o) (if_some o (λ w. gives_one (zero_value w) out))
  zero_means None out given = absurd given
  zero_means (Some w) out given = record { word = w; is = refl; means = (zero_over w, tt) }

  initial_means : (ds : List (Option ℕ)) (t : Option TypeTree) (vs : Option (Span × Separated ExprTree)) (values : Variables) (out : List ℕ) → At ds values → values_inside (the_frame program s typing) vs ≡ true → InitialFits program s typing ds t vs → OneMeans (initial_gives program s typing t vs) (initial_meaning (scene_of calls s) t vs values out)
  initial_means ds t None values out sound inside fits = zero_means (some_type_word s.looks t) out fits
  initial_means ds t (Some v) values out sound inside fits = only_means ds v.1 values out sound inside fits

  spec_means : (ds : List (Option ℕ)) (kind : ValueKind) (v : ValueSpecTree) (values : Variables) (out : List ℕ) → At ds values → value_spec_inside (the_frame program s typing) kind v ≡ true → SpecFits program s typing ds kind v → Leads ds (value_spec_slots kind v ++ ds) false (value_spec_meaning (scene_of calls s) kind v values out)
  spec_means ds value_kinds.Const v values out sound inside fits = (sound, refl)
  spec_means ds value_kinds.Var v values out sound inside fits =
      let f = the_frame program s typing in
      let p = and_both (one_declared f v.names && some_type_inside s.looks v.type_expr) (values_inside f v.values) inside in
      let q = and_both (one_declared f v.names) (some_type_inside s.looks v.type_expr) p.0 in
      let m = initial_means ds v.type_expr v.values values out sound p.1 fits.1 in
      one_means (FlowFits (At ds) (At (local_slots v.names ++ ds)) (given_by s) false false false) m.word (initial_meaning (scene_of calls s) v.type_expr v.values values out) _ m.means
      (λ x out h. declare_means ds v.names (initial_gives program s typing v.type_expr v.values) m.word x values out sound q.0 fits.0 m.is h)

  spec_lines_mean : (ds : List (Option ℕ)) (kind : ValueKind) (ls : List (ValueSpecTree × Option Span)) (values : Variables) (out : List ℕ) → At ds values → value_lines_inside (the_frame program s typing) kind ls ≡ true → SpecLinesFit program s typing ds kind ls → Leads ds (lines_after kind ds ls) false (value_lines_meaning (scene_of calls s) kind ls values out)
  spec_lines_mean ds kind [] values out sound inside fits = (sound, refl)
  spec_lines_mean ds kind (l ∷ ls) values out sound inside fits =
      let f = the_frame program s typing in
      let p = and_both (value_spec_inside f kind l.0) (value_lines_inside f kind ls) inside in
      let es = value_spec_slots kind l.0 ++ ds in
      first_means (given_by s) (At ds) (At es) (At ds) (At (lines_after kind es ls)) false false false (value_spec_meaning (scene_of calls s) kind l.0 values out) (value_lines_meaning (scene_of calls s) kind ls) false
      (spec_means ds kind l.0 values out sound p.0 fits.0)
      (λ values out sound. never_jumps (At es) (At ds) (At (lines_after kind es ls)) (value_lines_meaning (scene_of calls s) kind ls values out) (spec_lines_mean es kind ls values out sound p.1 fits.1))
    where
      never_jumps : (P P' Q : Variables → Type 0) (o : Outcome Flow) → Means (FlowFits P Q (given_by s) false false false) o → Means (FlowFits P' Q (given_by s) false false false) o
      never_jumps P P' Q o h = unjumped (given_by s) P P' Q false o h

  pub specs_mean : (ds : List (Option ℕ)) (kind : ValueKind) (vs : Specs ValueSpecTree) (values : Variables) (out : List ℕ) → At ds values → value_specs_inside (the_frame program s typing) kind vs ≡ true → SpecsFit program s typing ds kind vs → Leads ds (specs_after kind ds vs) false (value_specs_meaning (scene_of calls s) kind vs values out)
  specs_mean ds kind (Single v) values out sound inside fits = spec_means ds kind v values out sound inside fits
  specs_mean ds kind (Group first ls last) values out sound inside fits = spec_lines_mean ds kind ls values out sound inside fits
