-- What holds of an expression's occurrences and faults holds of each expression in it.
use Rattle.std.proofs.Common.{◌≡◌, ℕ, suc, Bool, List, [], ◌∷◌, ◌++◌, map, Option, Some, None, refl}
use Rattle.std.specs.Prelude.{⊤}
use Rattle.std.specs.List.{Contains, AllByRecursion}
use Rattle.std.proofs.lemmas.List.Elements.{recursion_from_All, All-from_recursion, All-weaker, All-contains, All-contains_itself}
use Rattle.go_path_core.specs.text_core.declared.rule.Rule.{Rule}
use Rattle.go_path_core.specs.text_core.declared.span.Span.{Span}
use Rattle.go_tree_nodes.specs.token_core.declared.kind.Operator.{Operator}
use Rattle.go_tree_nodes.specs.declared.names.Ident.{Ident}
use Rattle.go_tree_nodes.specs.Trees.{ExprTree, ItemTrees, Integer, Text, Named, Paren, Unary, Binary, Select, Call, Literal, StructLiteral, NoItems, Item}
use Rattle.go_report_core.specs.denote_core.declared.composite.things.Mode.{Mode}
use Rattle.go_report_core.specs.denote_core.declared.things.Stand.{Stand}
use Rattle.go_report_core.specs.denote_core.declared.things.Stand.TheVariants as stands
use Rattle.go_report_core.specs.denote_core.declared.things.Outcome.{Outcome}
use Rattle.go_report_core.specs.expr_core.Looks.{Looks}
use Rattle.go_report_core.specs.expr_core.Places.{inside, under_place, left_place, is_several}
use Rattle.go_report_core.specs.expr_core.Elements.{key_names, all_keys}
use Rattle.go_report_core.specs.expr_core.Uses.{Spot, use_of, uses, spots, args_spots, items_spots, key_spots, type_name_spots, type_spots}
use Rattle.go_report_core.specs.expr_core.Faults.{fault_at, faults, args_faults, items_faults}
use Rattle.go_code_core.specs.declared.fragments.names.Meaning.{Meaning}
use Rattle.go_code_core.specs.fragments.Names as code_names
use Rattle.go_workspace_laws.specs.folding.Parts.{parts, item_parts}
use Rattle.go_workspace_laws.specs.folding.Laws.{IsMeant, AreMeant}

-- lists

pub each_left : {A : Type 0} (P : A → Type 0) (xs ys : List A) → AllByRecursion P (xs ++ ys) → AllByRecursion P xs
each_left P [] ys h = tt
each_left P (x ∷ xs) ys h = (h.0, each_left P xs ys h.1)

pub each_right : {A : Type 0} (P : A → Type 0) (xs ys : List A) → AllByRecursion P (xs ++ ys) → AllByRecursion P ys
each_right P [] ys h = h
each_right P (x ∷ xs) ys h = each_right P xs ys h.1

each_both : {A : Type 0} (P : A → Type 0) (xs ys : List A) → AllByRecursion P xs → AllByRecursion P ys → AllByRecursion P (xs ++ ys)
each_both P [] ys h k = k
each_both P (x ∷ xs) ys h k = (h.0, each_both P xs ys h.1 k)

each_mapped : {A B : Type 0} (P : B → Type 0) (f : A → B) (xs : List A) → AllByRecursion P (map f xs) → AllByRecursion (λ x. P (f x)) xs
each_mapped P f [] h = tt
each_mapped P f (x ∷ xs) h = (h.0, each_mapped P f xs h.1)

pub none_left : {A : Type 0} (xs ys : List A) → xs ++ ys ≡ [] → xs ≡ []
none_left [] ys h = refl
none_left (x ∷ xs) ys h = absurd cc

pub none_right : {A : Type 0} (xs ys : List A) → xs ++ ys ≡ [] → ys ≡ []
none_right [] ys h = h
none_right (x ∷ xs) ys h = absurd cc

pub no_fault : (n : ℕ) (rule : Option Rule) → fault_at n rule ≡ [] → rule ≡ None
no_fault n None h = refl
no_fault n (Some rule) h = absurd cc

-- expressions

-- an occurrence in its context, or a call, denotes a declaration, which code takes for what it is
abbrev pub IsMeantAt : (T S D P : Type 0) → Looks T S D P → code_names.CodeLooks → (Outcome D P → Meaning) → Spot T D P → Type 0
IsMeantAt T S D P looks code mean s = IsMeant D P code mean (use_of looks s)

-- so does each of an expression, and it has no fault
pub record IsFine (T S D P : Type 0) (looks : Looks T S D P) (code : code_names.CodeLooks) (mean : Outcome D P → Meaning) (p : Stand) (e : ExprTree) : Type 0 where
  pub meant : AllByRecursion (IsMeantAt T S D P looks code mean) (spots looks p e)
  pub sound : faults looks p e ≡ []

module _ {T S D P : Type 0} (looks : Looks T S D P) (code : code_names.CodeLooks) (mean : Outcome D P → Meaning) where
  abbrev Fine : Stand → ExprTree → Type 0
  Fine p e = IsFine T S D P looks code mean p e

  abbrev Meant : Spot T D P → Type 0
  Meant s = IsMeantAt T S D P looks code mean s

  pub fine : (p : Stand) (e : ExprTree) → AreMeant code mean (uses looks p e) → faults looks p e ≡ [] → Fine p e
  fine p e meant sound = record {
    meant = each_mapped (IsMeant D P code mean) (use_of looks) (spots looks p e) (recursion_from_All (IsMeant D P code mean) (uses looks p e) (All-weaker (Contains (uses looks p e)) (IsMeant D P code mean) meant (uses looks p e) (All-contains_itself (uses looks p e))));
    sound = sound;
  }

  -- each expression of a list
  abbrev pub ItemsAreFine : ItemTrees → Type 0
  ItemsAreFine NoItems = ⊤
  ItemsAreFine (Item key e comma rest) = Fine stands.«Value» e × ItemsAreFine rest

  pub fine_args : (listed : Bool) (items : ItemTrees) → AllByRecursion Meant (args_spots looks items) → args_faults looks listed items ≡ [] → ItemsAreFine items
  fine_args listed NoItems h sound = tt
  fine_args listed (Item key e comma rest) h sound = (
    record { meant = each_left Meant (spots looks stands.«Value» e) (args_spots looks rest) h; sound = none_left _ _ (none_left _ _ sound) },
    fine_args listed rest (each_right Meant (spots looks stands.«Value» e) (args_spots looks rest) h) (none_right _ _ sound),
  )

  fine_elements : (t : Option T) (mode : Mode) (mixed other : Bool) (n : ℕ) (before others : List (List ℕ)) (items : ItemTrees)
      → AllByRecursion Meant (items_spots looks t mixed before items) → items_faults looks t mode other n others items ≡ [] → ItemsAreFine items
  fine_elements t mode mixed other n before others NoItems h sound = tt
  fine_elements t mode mixed other n before others (Item key e comma rest) h sound =
      let inner : AllByRecursion Meant (spots looks stands.«Value» e ++ items_spots looks t mixed (before ++ key_names key) rest) =
      each_right Meant (key_spots {T = T} {D = D} {P = P} t mixed (before ++ all_keys rest) key) (spots looks stands.«Value» e ++ items_spots looks t mixed (before ++ key_names key) rest) h in (
        record { meant = each_left Meant (spots looks stands.«Value» e) (items_spots looks t mixed (before ++ key_names key) rest) inner; sound = none_left _ _ (none_left _ _ (none_left _ _ sound)) },
        fine_elements t mode mixed other (suc n) (before ++ key_names key) (others ++ key_names key) rest (each_right Meant (spots looks stands.«Value» e) (items_spots looks t mixed (before ++ key_names key) rest) inner) (none_right _ _ sound),
      )

  -- the expressions in an expression

  pub fine_operand : (p : Stand) (op : Operator) (span : Span) (e : ExprTree) → Fine p (Unary op span e) → Fine (under_place op p) e
  fine_operand p op span e h = record { meant = h.meant; sound = none_left _ _ (none_left _ _ h.sound) }

  pub fine_first : (p : Stand) (a : ExprTree) (op : Operator) (span : Span) (b : ExprTree) → Fine p (Binary a op span b) → Fine stands.«Value» a
  fine_first p a op span b h = record { meant = each_left Meant (spots looks stands.«Value» a) (spots looks stands.«Value» b) h.meant; sound = none_left _ _ (none_left _ _ h.sound) }

  pub fine_second : (p : Stand) (a : ExprTree) (op : Operator) (span : Span) (b : ExprTree) → Fine p (Binary a op span b) → Fine stands.«Value» b
  fine_second p a op span b h = record { meant = each_right Meant (spots looks stands.«Value» a) (spots looks stands.«Value» b) h.meant; sound = none_left _ _ (none_left _ _ (none_right _ _ h.sound)) }

  pub fine_left : (p : Stand) (e : ExprTree) (dot : Span) (x : Ident) → Fine p (Select e dot x) → Fine (left_place p e) e
  fine_left p e dot x h = record { meant = each_left Meant (spots looks (left_place p e) e) _ h.meant; sound = h.sound }

  pub fine_callee : (p : Stand) (e : ExprTree) (first : Span) (items : ItemTrees) (last : Span) → Fine p (Call e first items last) → Fine stands.Callee e
  fine_callee p e first items last h = record { meant = each_left Meant (spots looks stands.Callee e) _ h.meant; sound = none_left _ _ h.sound }

  pub fine_arguments : (p : Stand) (e : ExprTree) (first : Span) (items : ItemTrees) (last : Span) → Fine p (Call e first items last) → ItemsAreFine items
  fine_arguments p e first items last h = fine_args (is_several items) items (each_right Meant (spots looks stands.Callee e) _ h.meant).1 (none_right (faults looks stands.Callee e) _ h.sound)

  abbrev FinePart : Stand × ExprTree → Type 0
  FinePart part = Fine part.0 part.1

  mutual
    fine_parts : (p : Stand) (e : ExprTree) → Fine p e → AllByRecursion FinePart (parts p e)
    fine_parts p (Integer n span) h = (h, tt)
    fine_parts p (Text t) h = (h, tt)
    fine_parts p (Named x) h = (h, tt)
    fine_parts p (Paren first e last) h = (h, fine_parts (inside p) e (record { meant = h.meant; sound = h.sound }))
    fine_parts p (Unary op span e) h = (h, fine_parts (under_place op p) e (fine_operand p op span e h))
    fine_parts p (Binary a op span b) h = (h, each_both FinePart (parts stands.«Value» a) (parts stands.«Value» b) (fine_parts stands.«Value» a (fine_first p a op span b h)) (fine_parts stands.«Value» b (fine_second p a op span b h)))
    fine_parts p (Select e dot x) h = (h, fine_parts (left_place p e) e (fine_left p e dot x h))
    fine_parts p (Call e first items last) h =
        (h, each_both FinePart (parts stands.Callee e) (item_parts items) (fine_parts stands.Callee e (fine_callee p e first items last h)) (fine_item_parts items (fine_arguments p e first items last h)))
    fine_parts p (Literal n first items last) h =
        (h, fine_item_parts items (fine_elements _ _ _ _ 0 [] [] items (each_right Meant (type_name_spots looks n) _ h.meant) (none_right _ _ h.sound)))
    fine_parts p (StructLiteral t first items last) h =
        (h, fine_item_parts items (fine_elements _ _ _ _ 0 [] [] items (each_right Meant (type_spots looks t) _ h.meant) (none_right _ _ (none_right _ _ h.sound))))

    fine_item_parts : (items : ItemTrees) → ItemsAreFine items → AllByRecursion FinePart (item_parts items)
    fine_item_parts NoItems h = tt
    fine_item_parts (Item key e comma rest) h = each_both FinePart (parts stands.«Value» e) (item_parts rest) (fine_parts stands.«Value» e h.0) (fine_item_parts rest h.1)

  pub fine_inside : (p : Stand) (e : ExprTree) → Fine p e → (q : Stand) (x : ExprTree) → Contains (parts p e) (q, x) → Fine q x
  fine_inside p e h q x there = All-contains FinePart (parts p e) (q, x) (All-from_recursion FinePart (parts p e) (fine_parts p e h)) there
