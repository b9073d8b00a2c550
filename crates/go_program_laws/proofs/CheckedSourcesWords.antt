-- Words against the types that the check gives.
use Rattle.std.proofs.Common.{◌≡◌, inl, Bool, true, false, ◌&&◌, ◌||◌, Some, refl, sym, ◌∙◌, if◌then◌else◌}
use Rattle.go_tree_nodes.specs.Trees.{ExprTree, Integer, Text, Named, Paren, Unary, Binary, Select, Call, Literal, StructLiteral}
use Rattle.go_object_core.specs.declared.instructions.letters.Word.{Word}
use Rattle.go_object_core.specs.declared.instructions.letters.Word.TheVariants as words
use Rattle.go_code_core.specs.declared.fragments.names.Gives.{Gives}
use Rattle.go_code_core.specs.declared.fragments.names.Gives.TheVariants as gives
use Rattle.go_code_core.specs.fragments.Fragment.{is_one}
use Rattle.go_term_core.specs.declared.term.Basic.{Basic}
use Rattle.go_term_core.specs.declared.term.Basic.TheVariants as basics
use Rattle.go_report_core.specs.operand_core.declared.types.ValueType.{ValueType}
use Rattle.go_report_core.specs.operand_core.declared.types.ValueType.TheVariants as types
use Rattle.go_report_core.specs.operand_core.declared.types.TypeForm.{TypeForm}
use Rattle.go_report_core.specs.operand_core.declared.types.TypeForm.TheVariants as forms
use Rattle.go_report_core.specs.operand_core.TypeRules.{TypeRules}
use Rattle.go_report_core.specs.operand_core.Values.{is_over, form_basic, basic_under, basic_type}
use Rattle.go_report_core.specs.operand_core.Assign.{takes_untyped, assignable}
use Rattle.go_report_core.specs.denote_core.declared.things.Stand.{Stand}
use Rattle.go_workspace_laws.specs.folding.Reading.{basic_of}
use Rattle.go_workspace_laws.specs.folding.Parts.{parts}
use Rattle.go_workspace_laws.specs.folding.Typed.{KeepBasics}
use Rattle.go_workspace_laws.proofs.FoldingWords.{basic_same}
use Rattle.go_workspace_laws.proofs.ConstantLists.{HasItem}

-- words

pub word_same : (u v : Word) → basic_of u ≡ basic_of v → u ≡ v
word_same words.Int words.Int e = refl
word_same words.Bool words.Bool e = refl
word_same words.Int words.Bool e = absurd (cc e)
word_same words.Bool words.Int e = absurd (cc e)

pub some_same : (b c : Basic) → Some b ≡ Some c → b ≡ c
some_same b c e = cc e

pub is_int : (u : Word) → is_over basics.Int (Some (basic_of u)) ≡ true → u ≡ words.Int
is_int words.Int e = refl
is_int words.Bool e = absurd (cc e)

pub is_bool : (u : Word) → is_over basics.Bool (Some (basic_of u)) ≡ true → u ≡ words.Bool
is_bool words.Bool e = refl
is_bool words.Int e = absurd (cc e)

-- what takes an untyped value is over its kind
pub untyped_over : {T : Type 0} (b : Basic) (implements : Bool) (f : TypeForm T) (u : Word) → form_basic f ≡ Some (basic_of u) → takes_untyped b implements f ≡ true → basic_of u ≡ b
untyped_over b implements (forms.Basic c) u is h = some_same (basic_of u) b (sym is ∙ basic_same b c h)
untyped_over b implements forms.Nothing u is h = absurd (cc is)
untyped_over b implements (forms.Pointer t) u is h = absurd (cc is)
untyped_over b implements forms.Struct u is h = absurd (cc is)
untyped_over b implements forms.Interface u is h = absurd (cc is)

-- an untyped operand is over its kind
pub kind_over : (b : Basic) (u : Word) → Some b ≡ Some (basic_of u) → b ≡ basic_of u
kind_over b u e = some_same b (basic_of u) e

pub no_word : {A : Type 0} (u : Word) → Some basics.Text ≡ Some (basic_of u) → A
no_word words.Int e = absurd (cc e)
no_word words.Bool e = absurd (cc e)

module _ {T : Type 0} (rules : TypeRules T) (keep : KeepBasics rules) where
  -- a value that is assignable to what is over a word is over this word
  pub assigned_over : (v : ValueType T) (t : T) (u c : Word) → basic_under rules v ≡ Some (basic_of u) → form_basic (rules.form t) ≡ Some (basic_of c) → assignable rules v t ≡ true → u ≡ c
  assigned_over (types.Typed s) t u c hv ht h = word_same u c (keep.assignable s t (basic_of u) (basic_of c) h hv ht)
  assigned_over types.UntypedInt t u c hv ht h = word_same u c (sym (kind_over basics.Int u hv) ∙ sym (untyped_over basics.Int (rules.assignable (basic_type rules basics.Int) t) (rules.form t) c ht h))
  assigned_over types.UntypedBool t u c hv ht h = word_same u c (sym (kind_over basics.Bool u hv) ∙ sym (untyped_over basics.Bool (rules.assignable (basic_type rules basics.Bool) t) (rules.form t) c ht h))
  assigned_over types.UntypedText t u c hv ht h = no_word u hv
  assigned_over types.Nil t u c hv ht h = absurd (cc hv)

-- one value

pub one_word : (g : Gives) → is_one g ≡ true → (w : Word) × (g ≡ gives.One w)
one_word (gives.One w) h = (w, refl)
one_word gives.Nothing h = absurd (cc h)
one_word gives.Other h = absurd (cc h)

pub if_one : (b : Bool) (g : Gives) (w : Word) → (if b then g else gives.Other) ≡ gives.One w → b ≡ true
if_one true g w h = refl
if_one false g w h = absurd (cc h)

pub and_both : (a b : Bool) → (a && b) ≡ true → (a ≡ true) × (b ≡ true)
and_both true true e = (refl, refl)
and_both true false e = absurd (cc e)
and_both false true e = absurd (cc e)
and_both false false e = absurd (cc e)

pub or_cases : {A : Type 0} (a b : Bool) → (a || b) ≡ true → (a ≡ true → A) → (b ≡ true → A) → A
or_cases true b e f g = f refl
or_cases false b e f g = g e

-- an expression is the first of those in it
pub parts_first : (p : Stand) (e : ExprTree) → HasItem (parts p e) (p, e)
parts_first p (Integer n span) = inl refl
parts_first p (Text t) = inl refl
parts_first p (Named x) = inl refl
parts_first p (Paren first e last) = inl refl
parts_first p (Unary op span e) = inl refl
parts_first p (Binary a op span b) = inl refl
parts_first p (Select e dot x) = inl refl
parts_first p (Call e first items last) = inl refl
parts_first p (Literal n first items last) = inl refl
parts_first p (StructLiteral t first items last) = inl refl
