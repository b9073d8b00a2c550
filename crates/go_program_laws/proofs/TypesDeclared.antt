-- Variables are declared before they are used.
use Rattle.std.proofs.Common.{◌≡◌, inl, inr, ℕ, zero, suc, ◌+◌, ◌<◌, nat_eq, Bool, true, false, cond, List, [], ◌∷◌, ◌++◌, map, replicate, length, ◌==◌, Option, Some, None, is_some, Contains, refl, sym, ap, ◌∙◌, subst, arith, if◌then◌else◌}
use Rattle.std.specs.List.{flat_map, position_from}
use Rattle.std.proofs.lemmas.Bool.{and_parts, eq-eqb}
use Rattle.go_constant_core.specs.text_core.Text.{is_blank}
use Rattle.go_tree_nodes.specs.declared.names.Ident.{Ident}
use Rattle.go_tree_nodes.specs.declared.files.Receiver.{Receiver}
use Rattle.go_tree_nodes.specs.declared.decls.ValueKind.TheVariants as value_kinds
use Rattle.go_tree_nodes.specs.Trees.{FileTree, FuncTree, Named, Separated, One, Then, ParamTrees, NoParams, Param, ResultTree, NoResult, OneResult, Results, SignatureTree, Signed, Alone, Step, Assign, Update, Define}
use Rattle.go_tree_nodes.proofs.InOrder.{in_order_ends}
use Rattle.go_names_core.specs.local_core.Binding.{Local, bound, is_first, is_second}
use Rattle.go_names_core.specs.local_core.Denoted as denoted
use Rattle.go_names_core.specs.local_core.Law.{declared_from, law_out}
use Rattle.go_names_core.specs.local_core.Outline.{func_closes, func_opens, header_idents, idents, lines_steps, param_idents, receiver_idents, result_idents, signature_idents, some_ident}
use Rattle.go_names_core.specs.local_core.Pieces.{ident_place, piece_declares}
use Rattle.go_names_core.specs.local_core.Steps.{Piece, Header, Spec, Act, Condition, Given, Steps, Done, Check, Declare, Inner, spell_piece}
use Rattle.go_names_core.specs.local_core.DenotedLemmas.{one_is_denoted}
use Rattle.go_names_core.specs.local_core.Placed.{func_placed}
use Rattle.go_term_core.specs.Terms.{Term}
use Rattle.go_term_core.specs.declared.term.Basic.{Basic}
use Rattle.go_constant_core.specs.declared.values.Constant.{Constant}
use Rattle.go_report_core.specs.operand_core.declared.types.Operand.{Operand}
use Rattle.go_report_core.specs.operand_core.declared.types.ValueType.{ValueType}
use Rattle.go_report_core.specs.operand_core.Assign.{assignable_to}
use Rattle.go_report_core.specs.operand_core.TypeRules.{TypeRules}
use Rattle.go_report_core.specs.operand_core.Values.{form_basic}
use Rattle.go_report_core.specs.denote_core.declared.things.Argument.{Argument}
use Rattle.go_report_core.specs.denote_core.declared.things.Argument.TheVariants as arguments
use Rattle.go_report_core.specs.denote_core.declared.things.Stand.TheVariants as stands
use Rattle.go_body_core.specs.stmt_core.StatementConstants.{constant_answer, operand_constant, own_value, answer_of_value, of_type}
use Rattle.go_body_core.specs.stmt_core.PiecePieces.{piece_values}
use Rattle.go_body_core.specs.stmt_core.PieceSpecifications.{constant_value, constant_values}
use Rattle.go_body_core.specs.table_core.Entries.{Entry}
use Rattle.go_body_core.specs.env_core.declared.meaning.Meaning.{Meaning as NameMeaning}
use Rattle.go_body_core.specs.env_core.declared.meaning.Meaning.TheVariants as means
use Rattle.go_body_core.specs.env_core.Looks.{TheLooks}
use Rattle.go_body_core.specs.Notes.{NoteOf, TheLocal, TheValue}
use Rattle.go_body_core.specs.Rules.{value_at}
use Rattle.go_body_core.specs.function.Functions.{func_rules}
use Rattle.go_body_core.specs.function.Stands.{FileStand, outer_meanings}
use Rattle.go_body_core.specs.function.Types.{is_local_meaning}
use Rattle.go_body_core.proofs.FunctionRegions.{none_outside}
use Rattle.go_emit_core.specs.package_core.PackagePartInputs.{InputModel}
use Rattle.go_emit_core.specs.package_core.PackagePartParts.{ContentOf, FileOf}
use Rattle.go_code_core.specs.fragments.Inside.{params_inside, results_inside, signature_inside}
use Rattle.go_code_core.specs.fragments.Names.{CodeLooks}
use Rattle.go_code_core.specs.fragments.Slots.{local_slot, local_slots, new_slot, new_slots, param_names_slots, param_slots, receiver_slots, signature_slots, some_name_slot}
use Rattle.go_workspace_laws.specs.folding.Parts.{parts}
use Rattle.go_emit_core.specs.meaning.Looking.{locals_meant}
use Rattle.go_meaning_laws.specs.source_meaning.Meaning.{params_of}
use Rattle.go_meaning_laws.specs.fitting_sources.Fitting.{IsAmong}
use Rattle.go_workspace_laws.specs.ConstantLaws.{code_names_of}
use Rattle.go_workspace_laws.specs.Standing.{piece_exprs, pieces_in, pieces_of, stand_in_part}
use Rattle.go_workspace_laws.proofs.ConstantLists.{HasItem, contained, has, has_either, has_get, has_left, has_right}
use Rattle.go_program_laws.specs.types.Functions.{IsFunction, function_looks, known_types}
use Rattle.go_program_laws.specs.types.Scope.{AreDeclaredBefore, EachPiece, VariablesAreDeclared, piece_slots}
use Rattle.go_program_laws.proofs.TypesChecks.{lines_of}
use Rattle.go_program_laws.proofs.TypesNaming.{IsVariable, IsVariableValue, variable_bound}
use Rattle.go_program_laws.proofs.TypesOuter.{local_of}
use Rattle.go_program_laws.proofs.TypesPlaces.{name_between}
use Rattle.go_program_laws.proofs.TypesReady.{AreGiven, held_local, law, placed}
use Rattle.go_program_laws.proofs.TypesScoping.{Covers, Slotted, Stands, scoped, slots_left, slots_right}
use Rattle.go_program_laws.proofs.TypesSteps.{IsHeld, among_either, among_left, ident_at, is_named}

-- slots

local_has : (x : Ident) → is_blank x.name ≡ false → IsAmong (local_slot x) x.span.start
local_has x named = by (is_blank x.name) named
  where
    by : (b : Bool) → b ≡ false → IsAmong (if b then [] else Some x.span.start ∷ []) x.span.start
    by true e = absurd (cc e)
    by false e = inl refl

param_has : (x : Ident) → is_blank x.name ≡ false → (ds : List (Option ℕ)) → IsAmong ((if is_blank x.name then None else Some x.span.start) ∷ ds) x.span.start
param_has x named ds = by (is_blank x.name) named
  where
    by : (b : Bool) → b ≡ false → IsAmong ((if b then None else Some x.span.start) ∷ ds) x.span.start
    by true e = absurd (cc e)
    by false e = inl refl

same_slot : (ds : List (Option ℕ)) (y x : Ident) → y ≡ x → IsAmong ds y.span.start → IsAmong ds x.span.start
same_slot ds y x e h = subst (λ (z : Ident). IsAmong ds z.span.start) e h

blank_same : (y x : Ident) → y ≡ x → is_blank x.name ≡ false → is_blank y.name ≡ false
blank_same y x e h = ap (λ (z : Ident). is_blank z.name) e ∙ h

flat_has : (xs : List Ident) (x : Ident) → HasItem xs x → is_blank x.name ≡ false → IsAmong (flat_map local_slot xs) x.span.start
flat_has [] x h named = absurd h
flat_has (y ∷ ys) x (inl e) named = same_slot (local_slot y ++ flat_map local_slot ys) y x e (slots_left (local_slot y) (flat_map local_slot ys) y.span.start (local_has y (blank_same y x e named)))
flat_has (y ∷ ys) x (inr h) named = slots_right (local_slot y) (flat_map local_slot ys) x.span.start (flat_has ys x h named)

locals_have : (xs : Separated Ident) (x : Ident) → HasItem (idents xs) x → is_blank x.name ≡ false → IsAmong (local_slots xs) x.span.start
locals_have (One y) x (inl e) named = same_slot (local_slot y) y x e (local_has y (blank_same y x e named))
locals_have (One y) x (inr h) named = absurd h
locals_have (Then y comma ys) x (inl e) named = same_slot (local_slot y ++ local_slots ys) y x e (slots_left (local_slot y) (local_slots ys) y.span.start (local_has y (blank_same y x e named)))
locals_have (Then y comma ys) x (inr h) named = slots_right (local_slot y) (local_slots ys) x.span.start (locals_have ys x h named)

names_have : (xs : Separated Ident) (x : Ident) → HasItem (idents xs) x → is_blank x.name ≡ false → IsAmong (param_names_slots xs) x.span.start
names_have (One y) x (inl e) named = same_slot (param_names_slots (One y)) y x e (param_has y (blank_same y x e named) [])
names_have (One y) x (inr h) named = absurd h
names_have (Then y comma ys) x (inl e) named = same_slot (param_names_slots (Then y comma ys)) y x e (param_has y (blank_same y x e named) (param_names_slots ys))
names_have (Then y comma ys) x (inr h) named = inr (names_have ys x h named)

params_have : (ps : ParamTrees) (x : Ident) → HasItem (param_idents ps) x → is_blank x.name ≡ false → IsAmong (param_slots ps) x.span.start
params_have NoParams x h named = absurd h
params_have (Param None u comma rest) x h named = inr (params_have rest x h named)
params_have (Param (Some xs) u comma rest) x h named = elim (has_either (idents xs) (param_idents rest) x h) [
  | inl k ↦ slots_left (param_names_slots xs) (param_slots rest) x.span.start (names_have xs x k named)
  | inr k ↦ slots_right (param_names_slots xs) (param_slots rest) x.span.start (params_have rest x k named)
]

results_have_none : (code : CodeLooks) (r : ResultTree) (x : Ident) → results_inside code r ≡ true → HasItem (result_idents r) x → ⊥
results_have_none code NoResult x inside h = h
results_have_none code (OneResult u) x inside h = h
results_have_none code (Results a NoParams b) x inside h = h
results_have_none code (Results a (Param None u comma NoParams) b) x inside h = h
results_have_none code (Results a (Param None u comma (Param xs v comma' rest)) b) x inside h = cc inside
results_have_none code (Results a (Param (Some xs) u comma rest) b) x inside h = cc inside

signature_has : (code : CodeLooks) (s : SignatureTree) (x : Ident) → signature_inside code s ≡ true → HasItem (signature_idents s) x → is_blank x.name ≡ false → IsAmong (signature_slots s) x.span.start
signature_has code (Signed first ps last r) x inside h named = elim (has_either (param_idents ps) (result_idents r) x h) [
  | inl k ↦ params_have ps x k named
  | inr k ↦ absurd (results_have_none code r x (and_parts (params_inside code ps) (results_inside code r) inside).1 k)
]

receiver_has : (o : Option Receiver) (ds : List (Option ℕ)) (x : Ident) → HasItem (receiver_idents o) x → is_blank x.name ≡ false → IsAmong (receiver_slots o ++ ds) x.span.start
receiver_has None ds x h named = absurd h
receiver_has (Some r) ds x h named = by r.name h
  where
    by : (o : Option Ident) → HasItem (some_ident o) x → IsAmong (some_name_slot o ∷ ds) x.span.start
    by None k = absurd k
    by (Some y) (inl e) = same_slot (some_name_slot (Some y) ∷ ds) y x e (param_has y (blank_same y x e named) ds)
    by (Some y) (inr k) = absurd k

-- constants are no variables

module _ {T : Type 0} (rules : TypeRules T) where
  abbrev IsConstant : Option (Operand T) → Type 0
  IsConstant None = Unit {0}
  IsConstant (Some o) = o.constant ≡ None → ⊥

  own_constant : (v : ValueType T) (k : Option Constant) → IsConstant (own_value v k).value
  own_constant v None = tt
  own_constant v (Some k) = λ e. cc e

  typed_constant : (t : T) (fits : Bool) (k : Option Constant) → IsConstant (answer_of_value t fits k).value
  typed_constant t fits None = λ e. cc e
  typed_constant t true (Some k) = λ e. cc e
  typed_constant t false (Some k) = λ e. cc e

  of_type_constant : (t : T) (b : Option Basic) (a : Argument T) → IsConstant (of_type rules t b a).value
  of_type_constant t None a = tt
  of_type_constant t (Some b) arguments.Refused = λ e. cc e
  of_type_constant t (Some b) arguments.Void = λ e. cc e
  of_type_constant t (Some b) (arguments.«Value» o) = typed_constant t (assignable_to rules o t) (operand_constant rules o)

  answer_constant : (written : Option (Option T)) (a : Argument T) → IsConstant (constant_answer rules written a).value
  answer_constant None arguments.Refused = tt
  answer_constant None arguments.Void = tt
  answer_constant None (arguments.«Value» o) = own_constant o.value_type (operand_constant rules o)
  answer_constant (Some None) arguments.Refused = tt
  answer_constant (Some None) arguments.Void = tt
  answer_constant (Some None) (arguments.«Value» o) = tt
  answer_constant (Some (Some t)) a = of_type_constant t (form_basic (rules.form t)) a

-- at a place of some values

value_of_none : (k : ℕ) → IsVariableValue (value_at [] k) → ⊥
value_of_none zero h = h
value_of_none (suc k) h = h

not_variable : (rules : TypeRules Term) (o : TheValue) → IsConstant rules o → IsVariableValue o → ⊥
not_variable rules None c h = h
not_variable rules (Some o) c h = c h

mapped_constant : (rules : TypeRules Term) (written : Option (Option Term)) (args : List (Argument Term)) (k : ℕ) → IsVariableValue (value_at (map (constant_value rules written) args) k) → ⊥
mapped_constant rules written [] k h = value_of_none k h
mapped_constant rules written (a ∷ args) zero h = not_variable rules (constant_value rules written a) (answer_constant rules written a) h
mapped_constant rules written (a ∷ args) (suc k) h = mapped_constant rules written args k h

repeated_constant : (rules : TypeRules Term) (o : TheValue) → IsConstant rules o → (n k : ℕ) → IsVariableValue (value_at (replicate n o) k) → ⊥
repeated_constant rules o c zero k h = value_of_none k h
repeated_constant rules o c (suc n) zero h = not_variable rules o c h
repeated_constant rules o c (suc n) (suc k) h = repeated_constant rules o c n k h

values_constant : (rules : TypeRules Term) (written : Option (Option Term)) (n : ℕ) (args : List (Argument Term)) (k : ℕ) → IsVariableValue (value_at (constant_values rules written n args) k) → ⊥
values_constant rules written n args k = by (n == length args)
  where
    by : (b : Bool) → IsVariableValue (value_at (if b then map (constant_value rules written) args else replicate n (constant_value rules written arguments.Refused)) k) → ⊥
    by true h = mapped_constant rules written args k h
    by false h = repeated_constant rules (constant_value rules written arguments.Refused) (answer_constant rules written arguments.Refused) n k h

-- a local of the file is new where it is declared

position_some : (es : List Entry) (ls : List TheLocal) (k : ℕ) (l : TheLocal) → HasItem ls l → is_some (position_from (λ e. nat_eq l.offset e.0) k (locals_meant es ls)) ≡ true
position_some es [] k l h = absurd h
position_some es (m ∷ ls) k l h = by (nat_eq l.offset m.offset) refl h (position_some es ls (k + 1) l)
  where
    by : (b : Bool) → nat_eq l.offset m.offset ≡ b → HasItem (m ∷ ls) l → (HasItem ls l → is_some (position_from (λ e. nat_eq l.offset e.0) (k + 1) (locals_meant es ls)) ≡ true)
        → is_some (cond b (Some k) (position_from (λ e. nat_eq l.offset e.0) (k + 1) (locals_meant es ls))) ≡ true
    by true e h rest = refl
    by false e (inl same) rest = absurd (let is : nat_eq l.offset m.offset ≡ true = eq-eqb l.offset m.offset (sym (ap (λ (x : TheLocal). x.offset) same)) in let lie : true ≡ false = sym is ∙ e in cc lie)
    by false e (inr k) rest = rest k

new_has : (code : CodeLooks) (x : Ident) → code.is_new x.span.start ≡ true → is_blank x.name ≡ false → IsAmong (new_slot code x) x.span.start
new_has code x new named = subst (λ b. IsAmong (if b then local_slot x else []) x.span.start) (sym new) (local_has x named)

news_have : (code : CodeLooks) (xs : Separated Ident) (x : Ident) → HasItem (idents xs) x → code.is_new x.span.start ≡ true → is_blank x.name ≡ false → IsAmong (new_slots code xs) x.span.start
news_have code (One y) x (inl e) new named = same_slot (new_slot code y) y x e (new_has code y (ap (λ (z : Ident). code.is_new z.span.start) e ∙ new) (blank_same y x e named))
news_have code (One y) x (inr h) new named = absurd h
news_have code (Then y comma ys) x (inl e) new named =
    same_slot (new_slot code y ++ new_slots code ys) y x e (slots_left (new_slot code y) (new_slots code ys) y.span.start (new_has code y (ap (λ (z : Ident). code.is_new z.span.start) e ∙ new) (blank_same y x e named)))
news_have code (Then y comma ys) x (inr h) new named = slots_right (new_slot code y) (new_slots code ys) x.span.start (news_have code ys x h new named)

-- what holds of pieces

pub each_piece : (P Q : List (Option ℕ) → Piece → Type 0) (code : CodeLooks) (ds : List (Option ℕ)) (steps : Steps) → ((ds : List (Option ℕ)) (p : Piece) → HasItem (pieces_in steps) p → P ds p → Q ds p) → EachPiece P code ds steps → EachPiece Q code ds steps
each_piece P Q code ds Done on h = tt
each_piece P Q code ds (Check p rest) on h = (on ds p (inl refl) h.0, each_piece P Q code ds rest (λ es q k. on es q (inr k)) h.1)
each_piece P Q code ds (Declare m from p xs rest) on h = (on ds p (inl refl) h.0, each_piece P Q code (piece_slots code p ++ ds) rest (λ es q k. on es q (inr k)) h.1)
each_piece P Q code ds (Inner o c steps rest) on h = (
  each_piece P Q code ds steps (λ es q k. on es q (has_left (pieces_in steps) (pieces_in rest) q k)) h.0,
  each_piece P Q code ds rest (λ es q k. on es q (has_right (pieces_in steps) (pieces_in rest) q k)) h.1,
)

local_parts : (at k : ℕ) (v u : TheValue) → means.Local at v ≡ means.Local k u → (at ≡ k) × (v ≡ u)
local_parts at k v u e = (cc e, cc e)

module _ (laws : AreGiven) (i : InputModel) (c : ContentOf) (n : ℕ) (t : FileTree) (f : FileOf) (g : FuncTree) (all : List (Local NameMeaning)) (h : IsFunction i c n t f g all) where
  abbrev st : FileStand
  st = stand_in_part i c n t

  abbrev looks : TheLooks
  looks = function_looks i c n t all

  abbrev code : CodeLooks
  code = code_names_of i c n f g

  abbrev beyond : List ℕ → Option NameMeaning
  beyond = outer_meanings st

  -- a name that a piece declares which means a variable
  record IsDeclaredAt (xs : List Ident) (vs : List TheValue) (at : ℕ) : Type 0 where
    ident : Ident
    there : HasItem xs ident
    named : is_blank ident.name ≡ false
    place : ℕ
    variable : IsVariableValue (value_at vs place)
    is : ident.span.start ≡ at

  declared_at : (o cl from : ℕ) (firsts : List Bool) (p : Piece) (d : Local NameMeaning) → denoted.IsAmong d (declared_from o cl from ((func_rules st g).means (bound beyond all) firsts p) 0 (piece_declares p)) → (at : ℕ) → IsVariable d.means at
      → IsDeclaredAt (piece_declares p) (piece_values looks firsts p) at
  declared_at o cl from firsts p d there at var =
      let r = is_named o cl from ((func_rules st g).means (bound beyond all) firsts p) 0 (piece_declares p) d there in
      let zero_is : 0 + r.place ≡ r.place = omega arith in
      let index : r.index ≡ r.place = r.index_is ∙ zero_is in
      let both : means.Local at var.0 ≡ means.Local (ident_place (piece_declares p) r.index) (value_at (piece_values looks firsts p) r.index) = sym var.1 ∙ r.means_is in
      let parts = local_parts at (ident_place (piece_declares p) r.index) var.0 (value_at (piece_values looks firsts p) r.index) both in
      record {
        ident = r.ident;
        there = has_get (piece_declares p) r.place r.ident r.there;
        named = r.named;
        place = r.index;
        variable = subst IsVariableValue parts.1 var.2;
        is = sym (ident_at (piece_declares p) r.place r.ident r.there) ∙ (ap (ident_place (piece_declares p)) (sym index) ∙ sym parts.0);
      }

  -- a variable that holds is a local of the file
  is_new : (d : Local NameMeaning) → denoted.IsAmong d all → is_second all d.opens d.name d.at ≡ false → (at : ℕ) → IsVariable d.means at → code.is_new at ≡ true
  is_new d there holds at var =
      let held : IsHeld all (law laws i c n t f g all h).declares (means.Local at var.0) = record { item = d; there = subst (λ ds. denoted.IsAmong d ds) h.right there; holds = holds; means_is = var.1 } in
      position_some (known_types i c) f.answers.locals 0 (record { offset = at; value = var.0 }) (held_local laws i c n t f g all h at var.0 held)

  by_piece : (firsts : List Bool) (p : Piece) (at : ℕ) → code.is_new at ≡ true → IsDeclaredAt (piece_declares p) (piece_values looks firsts p) at → IsAmong (piece_slots code p) at
  by_piece firsts (Header r s) at new d = subst (λ k. IsAmong (piece_slots code (Header r s)) k) d.is (flat_has (header_idents r s) d.ident d.there d.named)
  by_piece firsts (Spec value_kinds.Var v) at new d = subst (λ k. IsAmong (piece_slots code (Spec value_kinds.Var v)) k) d.is (locals_have v.names d.ident d.there d.named)
  by_piece firsts (Spec value_kinds.Const v) at new d = absurd (values_constant looks.types _ _ _ d.place d.variable)
  by_piece firsts (Act (Define (One x) s es)) at new d = subst (λ k. IsAmong (piece_slots code (Act (Define (One x) s es))) k) d.is (locals_have (One x) d.ident d.there d.named)
  by_piece firsts (Act (Define (Then x comma xs) s es)) at new d =
      subst (λ k. IsAmong (piece_slots code (Act (Define (Then x comma xs) s es))) k) d.is (news_have code (Then x comma xs) d.ident d.there (ap code.is_new d.is ∙ new) d.named)
  by_piece firsts (Act (Alone e)) at new d = absurd d.there
  by_piece firsts (Act (Step e op s)) at new d = absurd d.there
  by_piece firsts (Act (Assign ts s es)) at new d = absurd d.there
  by_piece firsts (Act (Update e op s v)) at new d = absurd d.there
  by_piece firsts (Condition e) at new d = absurd d.there
  by_piece firsts (Given place es) at new d = absurd d.there

  slotted : Slotted (func_rules st g) beyond all code IsVariable
  slotted o cl from p d there holds own at var =
      by_piece (map (is_first all o) (piece_declares p)) p at (is_new d there holds at var) (declared_at o cl from (map (is_first all o) (piece_declares p)) p d own at var)

  -- where the body begins

  abbrev body : Steps
  body = lines_steps g.body Done

  header_has : signature_inside code g.signature ≡ true → (x : Ident) → HasItem (header_idents g.receiver g.signature) x → is_blank x.name ≡ false → IsAmong (params_of g) x.span.start
  header_has inside x there named = elim (has_either (receiver_idents g.receiver) (signature_idents g.signature) x there) [
    | inl k ↦ receiver_has g.receiver (signature_slots g.signature) x k named
    | inr k ↦ slots_right (receiver_slots g.receiver) (signature_slots g.signature) x.span.start (signature_has code g.signature x inside k named)
  ]

  begins : signature_inside code g.signature ≡ true → Covers (func_rules st g) beyond all code IsVariable g.open_brace.start (params_of g) ((law_out (func_rules st g) beyond all (func_opens g) (func_closes g) body).declares ++ [])
  begins inside d there holds at var =
      let o = func_opens g in
      let firsts = map (is_first all o) (header_idents g.receiver g.signature) in
      let header = Header g.receiver g.signature in
      let own = declared_from o (func_closes g) g.open_brace.start ((func_rules st g).means (bound beyond all) firsts header) 0 (header_idents g.receiver g.signature) in
      let rest = (law_out (func_rules st g) beyond all o (func_closes g) body).declares in
      elim (among_either own rest d (subst (λ ds. denoted.IsAmong d ds) h.right there)) [
        | inl k ↦ (let r = declared_at o (func_closes g) g.open_brace.start firsts header d k at var in inl (subst (λ j. IsAmong (params_of g) j) r.is (header_has inside r.ident r.there r.named)))
        | inr k ↦ inr (inl (among_left rest [] d k))
      ]

  each_stands : signature_inside code g.signature ≡ true → EachPiece (Stands (func_rules st g) beyond all code IsVariable) code (params_of g) body
  each_stands inside =
      let order = placed laws i c n t f g all h in
      let steps = func_placed g order.0 order.1.0 order.1.1 in
      let starts = in_order_ends (spell_piece (Header g.receiver g.signature)) (g.func.start + 1) g.open_brace.start steps.0 in
      let before : func_opens g < g.open_brace.start = omega (arith, starts) in
      scoped (func_rules st g) beyond all code IsVariable slotted body (func_opens g) (func_closes g) g.open_brace.start g.close_brace.start (params_of g) [] before steps.2 (lines_of g.body Done tt) (λ d k. absurd k) (begins inside)

  outer_never_local : (name : List ℕ) (at : ℕ) (value : TheValue) → beyond name ≡ Some (means.Local at value) → ⊥
  outer_never_local name at value e = (let lie : false ≡ true = sym (none_outside st.scene.blocks st.file.file name) ∙ ap is_local_meaning e in cc lie)

  declared_before : (ds : List (Option ℕ)) (p : Piece) → Contains (pieces_of g) p → Stands (func_rules st g) beyond all code IsVariable ds p → AreDeclaredBefore code ds p
  declared_before ds p piece s e expr q x inside at w is =
      let b = variable_bound laws i c n t f g all h p piece e expr q x inside at w is in
      let one = one_is_denoted NameMeaning NoteOf (func_rules st g) beyond g (placed laws i c n t f g all h) all h.right x.name x.span.start in
      let r = (one.0 (means.Local at b.0)).0 (local_of beyond all x.name x.span.start at b.0 (outer_never_local x.name at b.0) b.1) in
      let between = name_between p s.low s.high s.order e (has (piece_exprs p) e expr) q x (has (parts stands.«Value» e) (q, Named x) inside) in
      s.seen x.span.start between.0 between.1 r.0 r.1.0.0 r.1.0.3 r.1.0.2 at (b.0, r.2, b.2)

  pub variables_are_declared : signature_inside code g.signature ≡ true → EachPiece (AreDeclaredBefore code) code (params_of g) body
  variables_are_declared inside =
      each_piece (Stands (func_rules st g) beyond all code IsVariable) (AreDeclaredBefore code) code (params_of g) body
      (λ ds p k s. declared_before ds p (contained (pieces_of g) p (inr k)) s) (each_stands inside)

  -- the same, with the pieces of the function
  pub pieces_declared : signature_inside code g.signature ≡ true → EachPiece (λ ds p. Contains (pieces_of g) p × AreDeclaredBefore code ds p) code (params_of g) body
  pieces_declared inside =
      each_piece (Stands (func_rules st g) beyond all code IsVariable) (λ ds p. Contains (pieces_of g) p × AreDeclaredBefore code ds p) code (params_of g) body
      (λ ds p k s. (let there = contained (pieces_of g) p (inr k) in (there, declared_before ds p there s))) (each_stands inside)

pub variables_declared : AreGiven → VariablesAreDeclared
variables_declared laws i c n t f g all h inside = variables_are_declared laws i c n t f g all h inside
