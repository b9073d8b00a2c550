-- A call of `panic` comes to no value.
use Rattle.std.proofs.Common.{◌≡◌, ℕ, true, List, ◌++◌, Option, Some, None}
use Rattle.go_tree_nodes.specs.Trees.{ExprTree, ItemTrees, Integer, Text, Named, Paren, Unary, Binary, Select, Call, Literal, StructLiteral}
use Rattle.go_machine_core.specs.declared.state.PanicValue.{PanicValue}
use Rattle.go_code_core.specs.declared.fragments.names.ConstantWord.{ConstantWord}
use Rattle.go_code_core.specs.declared.fragments.names.Meaning.{Meaning}
use Rattle.go_code_core.specs.declared.fragments.names.Meaning.TheVariants as meanings
use Rattle.go_code_core.specs.fragments.Constants.{converted, folded_one}
use Rattle.go_code_core.specs.fragments.Names.{Frame, callee_meaning}
use Rattle.go_code_core.specs.Code.{letters}
use Rattle.go_meaning_laws.specs.source_meaning.Values.{Value, panicked_with}
use Rattle.go_meaning_laws.specs.source_meaning.Meaning.{Outcome, Done, Panicked, Unfinished, Nonsense, and_then, if_some, Variables, Calls, constant_else, call_meaning, Scene, expr_meaning, receiver_meaning, items_meaning}
use Rattle.go_meaning_laws.specs.fitting_sources.Ends.{is_panic, panics}
use Rattle.go_meaning_laws.proofs.FittingSourcesValued.{Means}

-- it comes to nothing that is done
abbrev pub Never : {A : Type 0} → Outcome A → Type 0
Never (Done a out) = ⊥
Never (Panicked value out) = Unit {0}
Never (Unfinished out) = Unit {0}
Never Nonsense = Unit {0}

never_then : {A B : Type 0} (o : Outcome A) (go : A → List ℕ → Outcome B) → ((a : A) (out : List ℕ) → Never (go a out)) → Never (and_then o go)
never_then (Done a out) go k = k a out
never_then (Panicked value out) go k = tt
never_then (Unfinished out) go k = tt
never_then Nonsense go k = tt

-- what means something and is never done means whatever follows
pub never_means : {A B : Type 0} (P : A → Type 0) (Q : B → Type 0) (o : Outcome A) (go : A → List ℕ → Outcome B) → Means P o → Never o → Means Q (and_then o go)
never_means P Q (Done a out) go m n = absurd n
never_means P Q (Panicked value out) go m n = tt
never_means P Q (Unfinished out) go m n = tt
never_means P Q Nonsense go m n = absurd m

not_constant : (m : Meaning) (o : Option ConstantWord) (out : List ℕ) (u : Outcome (List Value)) → is_panic m ≡ true → Never u → Never (constant_else (converted m o) out u)
not_constant meanings.Panic o out u p n = n
not_constant (meanings.Variable at w) o out u p n = absurd (cc p)
not_constant (meanings.Constant v) o out u p n = absurd (cc p)
not_constant (meanings.Function g) o out u p n = absurd (cc p)
not_constant (meanings.Method g) o out u p n = absurd (cc p)
not_constant (meanings.«Type» w) o out u p n = absurd (cc p)
not_constant meanings.Println o out u p n = absurd (cc p)
not_constant meanings.Other o out u p n = absurd (cc p)

abbrev panicking : Option PanicValue → List ℕ → Outcome (List Value)
panicking o out = if_some o (λ value. Panicked value out)

never_panics : (o : Option PanicValue) (out : List ℕ) → Never (panicking o out)
never_panics None out = tt
never_panics (Some value) out = tt

panic_ends : (calls : Calls) (f : Frame) (m : Meaning) (d : Option ℕ) (items : ItemTrees) (vs : List Value) (out : List ℕ) → is_panic m ≡ true → Never (call_meaning calls f m d items vs out)
panic_ends calls f meanings.Panic d items vs out p = never_panics (panicked_with (letters f items) vs) out
panic_ends calls f (meanings.Variable at w) d items vs out p = absurd (cc p)
panic_ends calls f (meanings.Constant v) d items vs out p = absurd (cc p)
panic_ends calls f (meanings.Function g) d items vs out p = absurd (cc p)
panic_ends calls f (meanings.Method g) d items vs out p = absurd (cc p)
panic_ends calls f (meanings.«Type» w) d items vs out p = absurd (cc p)
panic_ends calls f meanings.Println d items vs out p = absurd (cc p)
panic_ends calls f meanings.Other d items vs out p = absurd (cc p)

pub panic_never : (c : Scene) (e : ExprTree) (values : Variables) (out : List ℕ) → panics c.frame.looks e ≡ true → Never (expr_meaning c e values out)
panic_never c (Call e first items last) values out p =
    not_constant (callee_meaning c.frame.looks e) (folded_one c.frame.looks items) out _ p
    (never_then (receiver_meaning c e values out) _ (λ us out. never_then (items_meaning c items values out) _ (λ vs out. panic_ends c.calls c.frame (callee_meaning c.frame.looks e) (c.declared first.start) items (us ++ vs) out p)))
panic_never c (Paren first e last) values out p = panic_never c e values out p
panic_never c (Integer n s) values out p = absurd (cc p)
panic_never c (Text t) values out p = absurd (cc p)
panic_never c (Named x) values out p = absurd (cc p)
panic_never c (Unary op s e) values out p = absurd (cc p)
panic_never c (Binary a op s b) values out p = absurd (cc p)
panic_never c (Select e dot x) values out p = absurd (cc p)
panic_never c (Literal n first items last) values out p = absurd (cc p)
panic_never c (StructLiteral t first items last) values out p = absurd (cc p)
