-- The names behind a value are those of the members of its type, as far as the use of the selector allows.
use Rattle.std.proofs.Common.{◌≡◌, ℕ, zero, suc, ◌<◌, Bool, true, false, not, ◌&&◌, ◌||◌, List, [], Result, Ok, Err, Option, Some, None, refl, sym, ap, ◌∙◌, subst, arith}
use Rattle.std.specs.Prelude.{◌↔◌, Contains, if◌then◌else◌}
use Rattle.std.specs.List.Sorted.{IsStrictlySortedBy}
use Rattle.std.proofs.lemmas.Option.{same_Some}
use Rattle.go_tree_nodes.specs.text_core.Text.{is_blank}
use Rattle.go_tree_nodes.specs.text_core.declared.name.Name.{Name}
use Rattle.go_tree_nodes.specs.text_core.declared.rule.Rule.{Rule}
use Rattle.go_tree_nodes.specs.text_core.declared.rule.Rule.TheVariants as rules
use Rattle.go_tree_nodes.specs.declared.usage.Usage.{Usage}
use Rattle.go_tree_nodes.specs.declared.usage.Usage.TheVariants as usages
use Rattle.go_term_core.specs.Terms.{Term, PointerTo, Sign}
use Rattle.go_table_core.specs.Entries.{Entry, EntryLook, find_entry}
use Rattle.go_select_core.specs.embed_core.Owners.{Found, AFieldOf, AMethodOf, AnInterfaces, TheErrorMethod}
use Rattle.go_select_core.specs.embed_core.OwnersShown.{found_shown}
use Rattle.go_select_core.specs.declared.levels.search.Selected.{Selected}
use Rattle.go_select_core.specs.Selections.{IsListing}
use Rattle.go_expr_core.specs.operand_core.declared.types.Operand.{Operand}
use Rattle.go_expr_core.specs.operand_core.TypeRules.{TypeRules}
use Rattle.go_expr_core.specs.operand_core.Values.{default_type}
use Rattle.go_expr_core.specs.denote_core.declared.things.Dot.TheVariants as dots
use Rattle.go_expr_core.specs.denote_core.declared.things.Outcome.TheVariants as outcomes
use Rattle.go_expr_core.specs.denote_core.declared.things.Selection.{Selection}
use Rattle.go_expr_core.specs.denote_core.Answers.{refused}
use Rattle.go_expr_core.specs.denote_core.Selectors.{member_answer, method_answer, value_selector}
use Rattle.go_summary_core.specs.handle_core.DecidingSelecting.{Choice, choice, selected_of}
use Rattle.go_summary_core.specs.handle_core.DecidingChoosing.{selectors_decided}
use Rattle.go_summary_core.specs.handle_core.DecidingRules.{term_rules}
use Rattle.go_summary_core.specs.handle_core.Declarations.{Declaration}
use Rattle.go_summary_core.specs.handle_core.Names.{shown_choice, selection_in}
use Rattle.go_summary_core.specs.handle_core.Stars.{starred}
use Rattle.go_expr_core.specs.Looks.{look_of_place}
use Rattle.go_expr_core.specs.Uses.{SelectorBehind, rule}
use Rattle.go_candidate_core.specs.after_dot.Names.{AreNames, SeesTypes, TheLooks, is_declared}
use Rattle.go_candidate_core.specs.after_dot.mirrors.Usable.{is_usable, is_usable_here, listed_name, usable_names, is_behind, AreBehind}
use Rattle.go_candidate_core.proofs.AfterDotKeeping.{are_names, nothing_in}

-- the same names, and none

pub same_names : (p q : List ℕ → Bool) (names : List (List ℕ)) → ((name : List ℕ) → q name ≡ p name) → AreNames p names → AreNames q names
same_names p q names h a = record { rising = a.rising; each = λ name. ((λ c. h name ∙ (a.each name).0 c), (λ e. (a.each name).1 (sym (h name) ∙ e))) }

pub no_names : (p : List ℕ → Bool) → ((name : List ℕ) → p name ≡ false) → AreNames p []
unfolding IsStrictlySortedBy
no_names p h = record { rising = tt; each = λ name. ((λ c. absurd (nothing_in name c)), (λ e. (let lie : false ≡ true = sym (h name) ∙ e in absurd cc))) }

-- a member that is chosen

abbrev outcome_of : EntryLook → Usage → Bool → Result Choice Rule → Bool
outcome_of look usage a r = is_declared (member_answer usage a (shown_choice look r)).outcome

called : (d : Declaration) (path : List ℕ) (s : Sign) (b : Bool) → is_declared (method_answer {T = Term} usages.Callee d path s b).outcome ≡ b
called d path s true = refl
called d path s false = refl

usable_is : (look : EntryLook) (usage : Usage) (a passes : Bool) (path : List ℕ) (f : Found) → outcome_of look usage a (Ok (choice path passes f)) ≡ is_usable usage a passes f
usable_is look usages.Callee a passes path (AFieldOf home place t) = refl
usable_is look usages.«Type» a passes path (AFieldOf home place t) = refl
usable_is look usages.«Value» a passes path (AFieldOf home place t) = refl
usable_is look usages.Callee a passes path (AMethodOf home place pointer g) = called _ _ _ (not pointer || (passes || a))
usable_is look usages.«Type» a passes path (AMethodOf home place pointer g) = refl
usable_is look usages.«Value» a passes path (AMethodOf home place pointer g) = refl
usable_is look usages.Callee a passes path (AnInterfaces home place g) = refl
usable_is look usages.«Type» a passes path (AnInterfaces home place g) = refl
usable_is look usages.«Value» a passes path (AnInterfaces home place g) = refl
usable_is look usages.Callee a passes path TheErrorMethod = refl
usable_is look usages.«Type» a passes path TheErrorMethod = refl
usable_is look usages.«Value» a passes path TheErrorMethod = refl

none_chosen : (b : Bool) → (b && false) ≡ true → ⊥
none_chosen true h = (let lie : false ≡ true = h in absurd cc)
none_chosen false h = (let lie : false ≡ true = h in absurd cc)

-- all members of a type

pub listed_behind : (es : List Entry) (from : List ℕ) (usage : Usage) (a : Bool) (t : Term) (listed : List (Name × Selected)) → IsListing (find_entry es) t from listed → AreBehind es from usage a t (usable_names usage a listed)
listed_behind es from usage a t listed h = are_names listed_name (is_usable_here usage a) (is_behind es from usage a t) listed h.rising sound whole
  where
    sound : (n : Name × Selected) → Contains listed n → is_behind es from usage a t (listed_name n) ≡ is_usable_here usage a n
    sound n c =
        let answer = h.sound n c in
        let chosen = (selectors_decided.denoted es t n.0 from n.1.path n.1.through_pointer (found_shown n.1.member)).1 answer in
        ap (λ (b : Bool). not b && outcome_of (find_entry es) usage a (selected_of es t n.0 from)) answer.0
        ∙ (ap (λ (r : Result Choice Rule). outcome_of (find_entry es) usage a r) chosen ∙ usable_is (find_entry es) usage a n.1.through_pointer n.1.path (found_shown n.1.member))

    whole : (m : List ℕ) → is_behind es from usage a t m ≡ true → (n : Name × Selected) × Contains listed n × (listed_name n ≡ m)
    whole m e = by (selected_of es t m from) refl e
      where
        by : (r : Result Choice Rule) → selected_of es t m from ≡ r → (not (is_blank m) && outcome_of (find_entry es) usage a r) ≡ true → (n : Name × Selected) × Contains listed n × (listed_name n ≡ m)
        by (Err rule) is k = absurd (none_chosen (not (is_blank m)) k)
        by (Ok c) is k = h.whole m c.path c.passes c.member ((selectors_decided.denoted es t m from c.path c.passes c.member).0 is)

-- a pointer to a pointer has no members
pub far_behind : (es : List Entry) (from : List ℕ) (usage : Usage) (a : Bool) (stars : ℕ) (t : Term) → 1 < stars → AreBehind es from usage a (starred stars t) []
far_behind es from usage a zero t h = absurd (omega (arith, h))
far_behind es from usage a (suc zero) t h = absurd (omega (arith, h))
far_behind es from usage a (suc (suc stars)) t h = no_names (is_behind es from usage a (PointerTo (PointerTo (starred stars t)))) (λ m. by (is_blank m))
  where
    by : (b : Bool) → (not b && outcome_of (find_entry es) usage a (if b then Err rules.S8 else Err rules.S6)) ≡ false
    by true = refl
    by false = refl

-- by any look-ups over the table

module _ (looks : TheLooks) (offset : ℕ) (es : List Entry) (path : List ℕ) (sees : SeesTypes looks es path) (usage : Usage) (operand : Operand Term) where
  abbrev pub Behind : List (List ℕ) → Type 0
  Behind names = AreNames (λ name. is_declared (rule looks (SelectorBehind usage (dots.«Value» operand)) offset name)) names

  pub untyped_names : default_type (term_rules es path) operand.value_type ≡ None → Behind []
  untyped_names is =
      no_names (λ name. is_declared (rule looks (SelectorBehind usage (dots.«Value» operand)) offset name)) (λ name. by (is_blank name) (default_type looks.types operand.value_type) (ap (λ (r : TypeRules Term). default_type r operand.value_type) sees.types ∙ is) name)
    where
      by : (b : Bool) (t : Option Term) → t ≡ None → (name : List ℕ) → is_declared (if b then refused rules.S8 else value_selector (look_of_place looks offset) usage operand.addressable t name).outcome ≡ false
      by true t e name = refl
      by false None e name = refl
      by false (Some u) e name = absurd (let no : Some u ≡ None = e in cc)

  pub typed_names : (u : Term) (names : List (List ℕ)) → default_type (term_rules es path) operand.value_type ≡ Some u → AreBehind es path usage operand.addressable u names → Behind names
  typed_names u names is are =
      same_names (is_behind es path usage operand.addressable u) _ names (λ name. by (is_blank name) (default_type looks.types operand.value_type) (ap (λ (r : TypeRules Term). default_type r operand.value_type) sees.types ∙ is) name) are
    where
      by : (b : Bool) (t : Option Term) → t ≡ Some u → (name : List ℕ)
          → is_declared (if b then refused rules.S8 else value_selector (look_of_place looks offset) usage operand.addressable t name).outcome ≡ (not b && is_declared (member_answer usage operand.addressable (selection_in es path u name)).outcome)
      by true t e name = refl
      by false None e name = absurd (let no : None ≡ Some u = e in cc)
      by false (Some v) e name =
          ap (λ (s : Term → List ℕ → Selection Term Sign Declaration (List ℕ)). is_declared (member_answer usage operand.addressable (s v name)).outcome) sees.select
          ∙ ap (λ (w : Term). is_declared (member_answer usage operand.addressable (selection_in es path w name)).outcome) (same_Some v u e)
