-- Operators that break no rule take what their operands give.
use Rattle.std.proofs.Common.{◌≡◌, inl, inr, ℕ, Bool, true, false, ◌&&◌, ◌||◌, List, [], ◌∷◌, map, Option, Some, None, Result, Err, refl, sym, ap, ◌∙◌, subst, if◌then◌else◌}
use Rattle.std.specs.List.{AllByRecursion}
use Rattle.go_constant_core.specs.text_core.declared.rule.Rule.{Rule}
use Rattle.go_tree_nodes.specs.token_core.declared.kind.Operator.{Operator}
use Rattle.go_tree_nodes.specs.token_core.declared.kind.Operator.TheVariants as operators
use Rattle.go_tree_nodes.specs.Trees.{ExprTree, Integer, Text, Named, Paren, Unary, Binary, Select, Call, Literal, StructLiteral}
use Rattle.go_constant_core.specs.declared.values.Constant.{Constant}
use Rattle.go_object_core.specs.declared.instructions.letters.Word.{Word}
use Rattle.go_object_core.specs.declared.instructions.letters.Word.TheVariants as words
use Rattle.go_code_core.specs.declared.fragments.names.Gives.TheVariants as gives
use Rattle.go_code_core.specs.declared.fragments.names.Meaning.{Meaning}
use Rattle.go_code_core.specs.fragments.Fragment.{is_one, over, unary_word, binary_word, expr_gives}
use Rattle.go_code_core.specs.fragments.Names as code_names
use Rattle.go_code_core.specs.fragments.Names.{frame_of}
use Rattle.go_term_core.specs.declared.term.Basic.{Basic}
use Rattle.go_term_core.specs.declared.term.Basic.TheVariants as basics
use Rattle.go_report_core.specs.operand_core.declared.types.ValueType.{ValueType}
use Rattle.go_report_core.specs.operand_core.declared.types.ValueType.TheVariants as types
use Rattle.go_report_core.specs.operand_core.declared.types.Operand.{Operand}
use Rattle.go_report_core.specs.operand_core.TypeRules.{TypeRules}
use Rattle.go_report_core.specs.operand_core.Values.{is_over, basic_under, basic_type}
use Rattle.go_report_core.specs.operand_core.Assign.{untyped_assignable, common, comparable}
use Rattle.go_report_core.specs.operand_core.Operators as binaries
use Rattle.go_report_core.specs.operand_core.Prefixes as unaries
use Rattle.go_report_core.specs.denote_core.declared.things.Denoted.TheVariants as denotes
use Rattle.go_report_core.specs.denote_core.declared.things.Outcome.{Outcome}
use Rattle.go_report_core.specs.denote_core.declared.things.Stand.{Stand}
use Rattle.go_report_core.specs.denote_core.declared.things.Stand.TheVariants as stands
use Rattle.go_report_core.specs.expr_core.Operators.{of_operand, unary_of, binary_of}
use Rattle.go_report_core.specs.expr_core.Looks.{Looks}
use Rattle.go_report_core.specs.expr_core.Places.{under_place, is_literal}
use Rattle.go_report_core.specs.expr_core.Denoting.{denoted}
use Rattle.go_report_core.specs.expr_core.Uses.{use_of, uses, spots}
use Rattle.go_workspace_laws.specs.folding.Reading.{basic_of, AreReadOver}
use Rattle.go_workspace_laws.specs.folding.Parts.{parts}
use Rattle.go_workspace_laws.specs.folding.Laws.{IsMeant, AreMeant}
use Rattle.go_workspace_laws.specs.folding.Typed.{AreTyped, KeepBasics, IsTyped, ExpressionsAreTyped}
use Rattle.go_workspace_laws.proofs.FoldingInside.{IsFine, fine, fine_inside, no_fault, none_right}
use Rattle.go_meaning_laws.specs.fitting_sources.Fitting.{UnaryFits, BothGive, BinaryFits}
use Rattle.go_workspace_laws.proofs.ConstantLists.{HasItem, contained, has, has_left, has_right}
use Rattle.go_program_laws.specs.checked_sources.Operators.{OperatorFits, KeepIdentity, OperatorsFit}
use Rattle.go_program_laws.proofs.CheckedSourcesWords.{word_same, some_same, is_int, is_bool, untyped_over, kind_over, no_word, one_word, if_one, and_both, or_cases, parts_first}

-- words

is_int_or_text : (u : Word) → (is_over basics.Int (Some (basic_of u)) || is_over basics.Text (Some (basic_of u))) ≡ true → u ≡ words.Int
is_int_or_text words.Int e = refl
is_int_or_text words.Bool e = absurd (cc e)

both_of : (w u v : Word) → u ≡ w → v ≡ u → BothGive w (gives.One u) (gives.One v)
both_of w u v e f = (ap gives.One e, ap gives.One (f ∙ e))

-- what an operator before an operand takes

abbrev IsSound : {T : Type 0} (S D : Type 0) → Result (Operand T) Rule → Type 0
IsSound {T} S D r = (of_operand {T = T} {S = S} {D = D} r).fault ≡ None

module _ {T : Type 0} (S D : Type 0) where
  -- what is taken under a condition that breaks a rule where it fails
  unless_broken : (t : Bool) (r : Result (Operand T) Rule) (rule : Rule) → IsSound S D (if t then r else Err rule) → t ≡ true
  unless_broken true r rule sound = refl
  unless_broken false r rule sound = absurd (cc sound)

  module _ (rules : TypeRules T) where
    -- both operands have something in common that the operator takes
    abbrev Taken : Operator → Option (ValueType T) → Type 0
    Taken op m = (v : ValueType T) × (m ≡ Some v) × (binaries.takes (binaries.group op) (basic_under rules v) ≡ true)

    arithmetic_takes : (op : Operator) (m : Option (ValueType T)) (x y : Option Constant) → IsSound S D (binaries.arithmetic rules op m x y) → Taken op m
    arithmetic_takes op None x y sound = absurd (cc sound)
    arithmetic_takes op (Some v) x y sound = (v, refl, unless_broken (binaries.takes (binaries.group op) (basic_under rules v)) _ _ sound)

    ordered_takes : (op : Operator) (m : Option (ValueType T)) (x y : Option Constant) → IsSound S D (binaries.ordered rules op m x y) → Taken op m
    ordered_takes op None x y sound = absurd (cc sound)
    ordered_takes op (Some v) x y sound = (v, refl, unless_broken (binaries.takes (binaries.group op) (basic_under rules v)) _ _ sound)

    equated_takes : (op : Operator) (b : Bool) (x y : Option Constant) → IsSound S D (binaries.equated {T = T} op b x y) → b ≡ true
    equated_takes op b x y sound = unless_broken b _ _ sound

module _ {T : Type 0} (rules : TypeRules T) (keep : KeepBasics rules) (identity : KeepIdentity rules) where
  abbrev Over : ValueType T → Word → Type 0
  Over v u = basic_under rules v ≡ Some (basic_of u)

  -- what two operands have in common is over what both are over
  record AreOne (m : Option (ValueType T)) (both : ValueType T) (s t : Word) : Type 0 where
    pub same : t ≡ s
    pub over : Over both s

  found : (x both : ValueType T) → Some x ≡ Some both → x ≡ both
  found x both e = cc e

  if_taken : (b : Bool) (x both : ValueType T) → (if b then Some x else None) ≡ Some both → (b ≡ true) × (x ≡ both)
  if_taken true x both e = (refl, found x both e)
  if_taken false x both e = absurd (cc e)

  typed_kind : (s : T) (b : Basic) (u t : Word) (m : Option (ValueType T)) (both : ValueType T) → Over (types.Typed s) u → Some b ≡ Some (basic_of t) → (if untyped_assignable rules b s then Some (types.Typed s) else None) ≡ Some both → AreOne m both u t
  typed_kind s b u t m both is k h =
      let p = if_taken (untyped_assignable rules b s) (types.Typed s) both h in
      record { same = word_same t u (sym (kind_over b t k) ∙ sym (untyped_over b (rules.assignable (basic_type rules b) s) (rules.form s) u is p.0)); over = subst (λ v. Over v u) p.1 is }

  kind_typed : (s : T) (b : Basic) (u t : Word) (m : Option (ValueType T)) (both : ValueType T) → Some b ≡ Some (basic_of u) → Over (types.Typed s) t → (if untyped_assignable rules b s then Some (types.Typed s) else None) ≡ Some both → AreOne m both u t
  kind_typed s b u t m both k is h =
      let r = typed_kind s b t u m both is k h in
      record { same = sym r.same; over = subst (λ w. Over both w) (sym r.same) r.over }

  kinds : (b : Basic) (v both : ValueType T) (u t : Word) (m : Option (ValueType T)) → Some b ≡ Some (basic_of u) → Some b ≡ Some (basic_of t) → basic_under rules v ≡ Some b → Some v ≡ Some both → AreOne m both u t
  kinds b v both u t m k l is h = record { same = word_same t u (sym (kind_over b t l) ∙ kind_over b u k); over = subst (λ w. Over w u) (found v both h) (is ∙ k) }

  common_one : (v w both : ValueType T) (s t : Word) → Over v s → Over w t → common rules v w ≡ Some both → AreOne (common rules v w) both s t
  common_one (types.Typed x) (types.Typed y) both s t hv hw h =
      let p = if_taken (rules.identical x y) (types.Typed x) both h in
      record { same = word_same t s (some_same (basic_of t) (basic_of s) (sym hw ∙ sym (identity x y p.0) ∙ hv)); over = subst (λ v. Over v s) p.1 hv }
  common_one (types.Typed x) types.UntypedInt both s t hv hw h = typed_kind x basics.Int s t _ both hv hw h
  common_one (types.Typed x) types.UntypedText both s t hv hw h = no_word t hw
  common_one (types.Typed x) types.UntypedBool both s t hv hw h = typed_kind x basics.Bool s t _ both hv hw h
  common_one v types.Nil both s t hv hw h = absurd (cc hw)
  common_one types.Nil w both s t hv hw h = absurd (cc hv)
  common_one types.UntypedText w both s t hv hw h = no_word s hv
  common_one types.UntypedInt (types.Typed y) both s t hv hw h = kind_typed y basics.Int s t _ both hv hw h
  common_one types.UntypedBool (types.Typed y) both s t hv hw h = kind_typed y basics.Bool s t _ both hv hw h
  common_one types.UntypedInt types.UntypedInt both s t hv hw h = kinds basics.Int types.UntypedInt both s t _ hv hw refl h
  common_one types.UntypedBool types.UntypedBool both s t hv hw h = kinds basics.Bool types.UntypedBool both s t _ hv hw refl h
  common_one types.UntypedInt types.UntypedBool both s t hv hw h = absurd (cc h)
  common_one types.UntypedBool types.UntypedInt both s t hv hw h = absurd (cc h)
  common_one types.UntypedInt types.UntypedText both s t hv hw h = absurd (cc h)
  common_one types.UntypedBool types.UntypedText both s t hv hw h = absurd (cc h)

  -- operands that are compared are over the same
  compared_one : (v w : ValueType T) (s t : Word) → Over v s → Over w t → comparable rules v w ≡ true → t ≡ s
  compared_one (types.Typed x) (types.Typed y) s t hv hw h =
      or_cases (rules.assignable x y) (rules.assignable y x) h (λ a. word_same t s (sym (keep.assignable x y (basic_of s) (basic_of t) a hv hw))) (λ a. word_same t s (keep.assignable y x (basic_of t) (basic_of s) a hw hv))
  compared_one (types.Typed x) types.UntypedInt s t hv hw h = word_same t s (sym (kind_over basics.Int t hw) ∙ sym (untyped_over basics.Int (rules.assignable (basic_type rules basics.Int) x) (rules.form x) s hv h))
  compared_one (types.Typed x) types.UntypedText s t hv hw h = no_word t hw
  compared_one (types.Typed x) types.UntypedBool s t hv hw h = word_same t s (sym (kind_over basics.Bool t hw) ∙ sym (untyped_over basics.Bool (rules.assignable (basic_type rules basics.Bool) x) (rules.form x) s hv h))
  compared_one v types.Nil s t hv hw h = absurd (cc hw)
  compared_one types.Nil w s t hv hw h = absurd (cc hv)
  compared_one types.UntypedText w s t hv hw h = no_word s hv
  compared_one types.UntypedInt (types.Typed y) s t hv hw h = word_same t s (untyped_over basics.Int (rules.assignable (basic_type rules basics.Int) y) (rules.form y) t hw h ∙ kind_over basics.Int s hv)
  compared_one types.UntypedBool (types.Typed y) s t hv hw h = word_same t s (untyped_over basics.Bool (rules.assignable (basic_type rules basics.Bool) y) (rules.form y) t hw h ∙ kind_over basics.Bool s hv)
  compared_one types.UntypedInt types.UntypedInt s t hv hw h = word_same t s (sym (kind_over basics.Int t hw) ∙ kind_over basics.Int s hv)
  compared_one types.UntypedBool types.UntypedBool s t hv hw h = word_same t s (sym (kind_over basics.Bool t hw) ∙ kind_over basics.Bool s hv)
  compared_one types.UntypedInt types.UntypedBool s t hv hw h = absurd (cc h)
  compared_one types.UntypedBool types.UntypedInt s t hv hw h = absurd (cc h)
  compared_one types.UntypedInt types.UntypedText s t hv hw h = absurd (cc h)
  compared_one types.UntypedBool types.UntypedText s t hv hw h = absurd (cc h)

  module _ (S D : Type 0) (a b : Operand T) (s t : Word) (left : Over a.value_type s) (right : Over b.value_type t) where
    taken_one : (op : Operator) (w : Word) → ((u : Word) → binaries.takes (binaries.group op) (Some (basic_of u)) ≡ true → u ≡ w) → Taken S D rules op (common rules a.value_type b.value_type) → BothGive w (gives.One s) (gives.One t)
    taken_one op w k h =
        let r = common_one a.value_type b.value_type h.0 s t left right h.1 in
        both_of w s t (k s (subst (λ o. binaries.takes (binaries.group op) o ≡ true) r.over h.2)) r.same

    equal_one : comparable rules a.value_type b.value_type ≡ true → gives.One s ≡ gives.One t
    equal_one h = ap gives.One (sym (compared_one a.value_type b.value_type s t left right h))

    pub binary_takes : (op : Operator) → (binary_of {T = T} {S = S} {D = D} rules op (denotes.«Value» a) (denotes.«Value» b)).fault ≡ None → BinaryFits op (gives.One s) (gives.One t)
    binary_takes operators.Plus h = taken_one operators.Plus words.Int is_int_or_text (arithmetic_takes S D rules operators.Plus (common rules a.value_type b.value_type) a.constant b.constant h)
    binary_takes operators.Minus h = taken_one operators.Minus words.Int is_int (arithmetic_takes S D rules operators.Minus (common rules a.value_type b.value_type) a.constant b.constant h)
    binary_takes operators.Star h = taken_one operators.Star words.Int is_int (arithmetic_takes S D rules operators.Star (common rules a.value_type b.value_type) a.constant b.constant h)
    binary_takes operators.Slash h = taken_one operators.Slash words.Int is_int (arithmetic_takes S D rules operators.Slash (common rules a.value_type b.value_type) a.constant b.constant h)
    binary_takes operators.Percent h = taken_one operators.Percent words.Int is_int (arithmetic_takes S D rules operators.Percent (common rules a.value_type b.value_type) a.constant b.constant h)
    binary_takes operators.LogicalAnd h = taken_one operators.LogicalAnd words.Bool is_bool (arithmetic_takes S D rules operators.LogicalAnd (common rules a.value_type b.value_type) a.constant b.constant h)
    binary_takes operators.LogicalOr h = taken_one operators.LogicalOr words.Bool is_bool (arithmetic_takes S D rules operators.LogicalOr (common rules a.value_type b.value_type) a.constant b.constant h)
    binary_takes operators.Less h = taken_one operators.Less words.Int is_int_or_text (ordered_takes S D rules operators.Less (common rules a.value_type b.value_type) a.constant b.constant h)
    binary_takes operators.LessEqual h = taken_one operators.LessEqual words.Int is_int_or_text (ordered_takes S D rules operators.LessEqual (common rules a.value_type b.value_type) a.constant b.constant h)
    binary_takes operators.Greater h = taken_one operators.Greater words.Int is_int_or_text (ordered_takes S D rules operators.Greater (common rules a.value_type b.value_type) a.constant b.constant h)
    binary_takes operators.GreaterEqual h = taken_one operators.GreaterEqual words.Int is_int_or_text (ordered_takes S D rules operators.GreaterEqual (common rules a.value_type b.value_type) a.constant b.constant h)
    binary_takes operators.Equal h = equal_one (equated_takes S D rules operators.Equal (comparable rules a.value_type b.value_type) a.constant b.constant h)
    binary_takes operators.NotEqual h = equal_one (equated_takes S D rules operators.NotEqual (comparable rules a.value_type b.value_type) a.constant b.constant h)
    binary_takes _ h = tt

    signed_word : (c : Basic) (op : Operator) → IsSound S D (unaries.signed_over rules c op a) → is_over c (Some (basic_of s)) ≡ true
    signed_word c op h = subst (λ o. is_over c o ≡ true) left (unless_broken S D (is_over c (basic_under rules a.value_type)) _ _ h)

    pub unary_takes : (op : Operator) (literal : Bool) → (unary_of {T = T} {S = S} {D = D} rules op literal (denotes.«Value» a)).fault ≡ None → UnaryFits op (gives.One s)
    unary_takes operators.Plus literal h = ap gives.One (is_int s (signed_word basics.Int operators.Plus h))
    unary_takes operators.Minus literal h = ap gives.One (is_int s (signed_word basics.Int operators.Minus h))
    unary_takes operators.Not literal h = ap gives.One (is_bool s (signed_word basics.Bool operators.Not h))
    unary_takes _ literal h = tt

-- expressions

mapped_has : {A B : Type 0} (P : B → Type 0) (f : A → B) (xs : List A) (u : B) → AllByRecursion (λ x. P (f x)) xs → HasItem (map f xs) u → P u
mapped_has P f [] u all h = absurd h
mapped_has P f (x ∷ xs) u all (inl e) = subst P e all.0
mapped_has P f (x ∷ xs) u all (inr h) = mapped_has P f xs u all.1 h

-- each occurrence of an expression is meant
pub meant_of : {T S D P : Type 0} (looks : Looks T S D P) (code : code_names.CodeLooks) (mean : Outcome D P → Meaning) (q : Stand) (x : ExprTree) → IsFine T S D P looks code mean q x → AreMeant code mean (uses looks q x)
meant_of {T} {S} {D} {P} looks code mean q x h u c = mapped_has (IsMeant D P code mean) (use_of looks) (spots looks q x) u h.meant (has (map (use_of looks) (spots looks q x)) u c)

module _ {T S D P : Type 0} (law : ExpressionsAreTyped T S D P) (looks : Looks T S D P) (code : code_names.CodeLooks) (mean : Outcome D P → Meaning) (slots : List (Option ℕ)) (read : AreReadOver T S D P looks mean) (typed : AreTyped T S D P looks mean) (keep : KeepBasics looks.types)
    (identity : KeepIdentity looks.types) where
  abbrev Fine : Stand → ExprTree → Type 0
  Fine p e = IsFine T S D P looks code mean p e

  part_typed : (q r : Stand) (x y : ExprTree) (w : Word) → Fine q x → HasItem (parts q x) (r, y) → expr_gives (frame_of code slots) y ≡ gives.One w → IsTyped T S D P looks code r y w
  part_typed q r x y w h there one = law looks code mean slots q x read typed keep (meant_of looks code mean q x h) h.sound r y (contained (parts q x) (r, y) there) w one

  operator_fits : (q : Stand) (x : ExprTree) (w : Word) → Fine q x → expr_gives (frame_of code slots) x ≡ gives.One w → OperatorFits (frame_of code slots) x
  operator_fits q (Unary op span e) w h one =
      let f = frame_of code slots in
      let u = one_word (expr_gives f e) (if_one (is_one (expr_gives f e)) (over (unary_word op)) w one) in
      let t = part_typed q (under_place op q) (Unary op span e) e u.0 h (inr (parts_first (under_place op q) e)) u.1 in
      let sound : (unary_of looks.types op (is_literal e) (denoted looks (under_place op q) e)).fault ≡ None = no_fault span.start _ (none_right _ _ h.sound) in
      let here = subst (λ d. (unary_of looks.types op (is_literal e) d).fault ≡ None) t.denotes sound in
      subst (λ g. UnaryFits op g) (sym u.1) (unary_takes looks.types keep identity S D t.operand t.operand u.0 u.0 t.over t.over op (is_literal e) here)
  operator_fits q (Binary a op span b) w h one =
      let f = frame_of code slots in
      let both = and_both (is_one (expr_gives f a)) (is_one (expr_gives f b)) (if_one (is_one (expr_gives f a) && is_one (expr_gives f b)) (over (binary_word op)) w one) in
      let u = one_word (expr_gives f a) both.0 in
      let v = one_word (expr_gives f b) both.1 in
      let s = part_typed q stands.«Value» (Binary a op span b) a u.0 h (inr (has_left (parts stands.«Value» a) (parts stands.«Value» b) (stands.«Value», a) (parts_first stands.«Value» a))) u.1 in
      let t = part_typed q stands.«Value» (Binary a op span b) b v.0 h (inr (has_right (parts stands.«Value» a) (parts stands.«Value» b) (stands.«Value», b) (parts_first stands.«Value» b))) v.1 in
      let sound : (binary_of looks.types op (denoted looks stands.«Value» a) (denoted looks stands.«Value» b)).fault ≡ None = no_fault _ _ (none_right _ _ (none_right _ _ h.sound)) in
      let first = subst (λ d. (binary_of looks.types op d (denoted looks stands.«Value» b)).fault ≡ None) s.denotes sound in
      let here = subst (λ d. (binary_of looks.types op (denotes.«Value» s.operand) d).fault ≡ None) t.denotes first in
      subst (λ g. BinaryFits op g (expr_gives f b)) (sym u.1) (subst (λ g. BinaryFits op (gives.One u.0) g) (sym v.1) (binary_takes looks.types keep identity S D s.operand t.operand u.0 v.0 s.over t.over op here))
  operator_fits q (Integer n span) w h one = tt
  operator_fits q (Text t) w h one = tt
  operator_fits q (Named x) w h one = tt
  operator_fits q (Paren first e last) w h one = tt
  operator_fits q (Select e dot x) w h one = tt
  operator_fits q (Call e first items last) w h one = tt
  operator_fits q (Literal n first items last) w h one = tt
  operator_fits q (StructLiteral t first items last) w h one = tt

pub operators_fit : (T S D P : Type 0) → ExpressionsAreTyped T S D P → OperatorsFit T S D P
operators_fit T S D P law looks code mean slots p e read typed keep identity meant sound q x there w one =
    operator_fits law looks code mean slots read typed keep identity q x w (fine_inside looks code mean p e (fine looks code mean p e meant sound) q x there) one
