-- What is listed is what selectors behind a variable have.
use Rattle.std.proofs.Common.{◌≡◌, ◌||◌, ℕ, Bool, true, false, not, List, [], ◌∷◌, Result, Ok, Err, map, Less, refl, sym, ap, ◌∙◌, subst, if◌then◌else◌}
use Rattle.std.specs.Prelude.{Contains}
use Rattle.std.specs.Cmp.Lexicographic.{slice_cmp}
use Rattle.std.specs.Ordering.{nat_cmp}
use Rattle.std.proofs.lemmas.Bool.{true≢false}
use Rattle.go_path_core.specs.text_core.Text.{is_blank}
use Rattle.go_path_core.specs.text_core.declared.name.Name.{Name}
use Rattle.go_path_core.specs.text_core.declared.rule.Rule.{Rule}
use Rattle.go_path_core.specs.text_core.declared.rule.Rule.TheVariants.{C1, S8, X1}
use Rattle.go_tree_nodes.specs.declared.usage.Usage.TheVariants as usages
use Rattle.go_term_core.specs.Terms.{Term, Sign}
use Rattle.go_term_core.proofs.Members.{Rises, contained_in, in_contained, in_map, map_in, pairs_rise, rising_pairs}
use Rattle.go_summary_core.specs.table_core.Entries.{Entry, EntryLook, find_entry}
use Rattle.go_select_core.specs.embed_core.Owners.{Found, AFieldOf, AMethodOf, AnInterfaces, TheErrorMethod}
use Rattle.go_select_core.specs.embed_core.OwnersShown.{found_shown}
use Rattle.go_select_core.specs.declared.levels.search.Selected.{Selected}
use Rattle.go_select_core.specs.levels.Selectors.{IsDenoted, IsSelectorAnswer}
use Rattle.go_select_core.specs.Selections.{IsListing}
use Rattle.go_expr_core.specs.denote_core.declared.things.Answer.{Answer}
use Rattle.go_expr_core.specs.denote_core.declared.things.Outcome.{Outcome}
use Rattle.go_expr_core.specs.denote_core.declared.things.Outcome.TheVariants as outcomes
use Rattle.go_expr_core.specs.denote_core.declared.things.Selection.{Selection}
use Rattle.go_expr_core.specs.denote_core.Answers.{refused}
use Rattle.go_expr_core.specs.denote_core.Selectors.{member_answer, method_answer}
use Rattle.go_summary_core.specs.handle_core.DecidingRules.{selection_of}
use Rattle.go_summary_core.specs.handle_core.DecidingSelecting.{Choice, choice, selected_of}
use Rattle.go_summary_core.specs.handle_core.DecidingChoosing.{denoted_decided}
use Rattle.go_summary_core.specs.handle_core.Declarations.{Declaration, InFile, declaration_found}
use Rattle.go_type_doc_core.specs.declared.members.listing.MemberKind.{MemberKind}
use Rattle.go_type_doc_core.specs.declared.members.listing.MemberKind.TheVariants as kinds
use Rattle.go_type_doc_core.specs.members.Members.{AreLooks, AreMembers, IsMember, MemberOf, TheLook, behind_variable, kind_found, member_with, start_of, usage_of}

abbrev TheOutcome : Type 0
TheOutcome = Outcome Declaration (List ℕ)

abbrev TheSelection : Type 0
TheSelection = Selection Term Sign Declaration (List ℕ)

-- what a selector has, by whether its name is blank and by what it chooses
abbrev had : MemberKind → Bool → TheSelection → TheOutcome
had kind blank s = (if blank then refused S8 else member_answer (usage_of kind) true s).outcome

abbrev given : EntryLook → Result Choice Rule → TheSelection
given look r = selection_of declaration_found (λ path. path) look r

-- a variable is addressable, so that each method has the receiver that it needs
receiver : (pointer passes : Bool) → (not pointer || (passes || true)) ≡ true
receiver true true = refl
receiver true false = refl
receiver false passes = refl

abbrev method_given : List ℕ → Declaration → Sign → Bool → Answer Term Sign Declaration (List ℕ)
method_given path d g has = method_answer usages.Callee d path g has

is_had : (look : EntryLook) (path : List ℕ) (passes : Bool) (f : Found) → had (kind_found f) false (given look (Ok (choice path passes f))) ≡ outcomes.Selected (declaration_found f) path
is_had look path passes (AFieldOf home place t) = refl
is_had look path passes (AMethodOf home place pointer g) = ap (λ b. (method_given path (InFile home place) g b).outcome) (receiver pointer passes)
is_had look path passes (AnInterfaces home place g) = refl
is_had look path passes TheErrorMethod = refl

abbrev is_refusal : TheOutcome → Bool
is_refusal (outcomes.Declared d) = false
is_refusal (outcomes.Selected d path) = false
is_refusal (outcomes.Refused rule) = true

never : (rule : Rule) (d : Declaration) (path : List ℕ) → outcomes.Refused rule ≡ outcomes.Selected d path → ⊥
never rule d path h = true≢false (ap is_refusal h)

-- a field is no function, and a method no operand
only_kind : (look : EntryLook) (c : Choice) (f : Found) (kind : MemberKind) (d : Declaration) (path : List ℕ) → had kind false (given look (Ok (choice c.path c.passes f))) ≡ outcomes.Selected d path → kind ≡ kind_found f
only_kind look c (AFieldOf home place t) kinds.«Field» d path h = refl
only_kind look c (AFieldOf home place t) kinds.Method d path h = absurd (never C1 d path h)
only_kind look c (AMethodOf home place pointer g) kinds.«Field» d path h = absurd (never X1 d path h)
only_kind look c (AMethodOf home place pointer g) kinds.Method d path h = refl
only_kind look c (AnInterfaces home place g) kinds.«Field» d path h = absurd (never X1 d path h)
only_kind look c (AnInterfaces home place g) kinds.Method d path h = refl
only_kind look c TheErrorMethod kinds.«Field» d path h = absurd (never X1 d path h)
only_kind look c TheErrorMethod kinds.Method d path h = refl

abbrev member_in : Result Choice Rule → Found
member_in (Ok c) = c.member
member_in (Err rule) = TheErrorMethod

module _ (es : List Entry) (t : Term) (from : List ℕ) where
  -- a selector behind a variable, by what is selected
  had_is : (look : TheLook) → AreLooks es from look → (kind : MemberKind) (name : List ℕ) → behind_variable look t kind name ≡ had kind (is_blank name) (given (find_entry es) (selected_of es t name from))
  had_is look are kind name = ap (λ s. had kind (is_blank name) (s t name)) are.select

  pub is_selected : (look : TheLook) → AreLooks es from look → (name path : List ℕ) (passes : Bool) (f : Found) → IsDenoted (find_entry es) t name from path passes f
      → behind_variable look t (kind_found f) name ≡ outcomes.Selected (declaration_found f) path
  is_selected look are name path passes f h =
      had_is look are (kind_found f) name ∙ (ap (λ b. had (kind_found f) b (given (find_entry es) (selected_of es t name from))) h.0
      ∙ (ap (λ r. had (kind_found f) false (given (find_entry es) r)) ((denoted_decided es t name from path passes f).1 h) ∙ is_had (find_entry es) path passes f))

  abbrev ByName : MemberOf → MemberOf → Type 0
  ByName a b = slice_cmp nat_cmp a.name b.name ≡ Less

  module _ (names : List (Name × Selected)) (listing : IsListing (find_entry es) t from names) where
    abbrev shown : Name × Selected → MemberOf
    shown n = member_with (find_entry es) (start_of (find_entry es) t) n

    one : (n : Name × Selected) → IsSelectorAnswer (find_entry es) t n.0 from (Ok n.1) → IsMember es t from (shown n)
    one n h = record {
      path = n.1.path;
      passes = n.1.through_pointer;
      f = found_shown n.1.member;
      denoted = h;
      selected = λ look are. is_selected look are n.0 n.1.path n.1.through_pointer (found_shown n.1.member) h;
      kind_is = refl;
      through_is = refl;
      method_is = refl;
    }

    each : (m : MemberOf) → Contains (map shown names) m → IsMember es t from m
    each m there =
        let n = map_in shown names m (in_contained (map shown names) m there) in
        subst (IsMember es t from) n.2 (one n.0 (listing.sound n.0 (contained_in names n.0 n.1)))

    rise : (ns : List (Name × Selected)) → Rises (λ a b. slice_cmp nat_cmp a.0 b.0 ≡ Less) ns → Rises ByName (map shown ns)
    rise [] h = tt
    rise (n ∷ ns) h = (λ m there. let o = map_in shown ns m there in subst (λ q. ByName (shown n) q) o.2 (h.0 o.0 o.1), rise ns h.1)

    abbrev IsListed : MemberKind → List ℕ → Type 0
    IsListed kind name = (m : MemberOf) × Contains (map shown names) m × (m.name ≡ name) × (m.kind ≡ kind)

    by_choice : (kind : MemberKind) (name : List ℕ) (d : Declaration) (path : List ℕ) (r : Result Choice Rule) → selected_of es t name from ≡ r → had kind false (given (find_entry es) r) ≡ outcomes.Selected d path → IsListed kind name
    by_choice kind name d path (Err rule) e h = absurd (never rule d path h)
    by_choice kind name d path (Ok c) e h =
        let denoted : IsDenoted (find_entry es) t name from c.path c.passes c.member = (denoted_decided es t name from c.path c.passes c.member).0 e in
        let n = listing.whole name c.path c.passes c.member denoted in
        let answer : IsSelectorAnswer (find_entry es) t name from (Ok n.0.1) = subst (λ q. IsSelectorAnswer (find_entry es) t q from (Ok n.0.1)) n.2 (listing.sound n.0 n.1) in
        let same : selected_of es t name from ≡ Ok (choice n.0.1.path n.0.1.through_pointer (found_shown n.0.1.member)) = (denoted_decided es t name from n.0.1.path n.0.1.through_pointer (found_shown n.0.1.member)).1 answer in
        let member : found_shown n.0.1.member ≡ c.member = ap member_in (sym same ∙ e) in (
          shown n.0,
          contained_in (map shown names) (shown n.0) (in_map shown names n.0 (in_contained names n.0 n.1)),
          n.2,
          ap kind_found member ∙ sym (only_kind (find_entry es) c c.member kind d path h),
        )

    by_blank : (kind : MemberKind) (name : List ℕ) (d : Declaration) (path : List ℕ) (b : Bool) → had kind b (given (find_entry es) (selected_of es t name from)) ≡ outcomes.Selected d path → IsListed kind name
    by_blank kind name d path true h = absurd (never S8 d path h)
    by_blank kind name d path false h = by_choice kind name d path (selected_of es t name from) refl h

    pub are_members : AreMembers es t from (map shown names)
    are_members = record {
      rising = rising_pairs ByName (map shown names) (rise names (pairs_rise (λ a b. slice_cmp nat_cmp a.0 b.0 ≡ Less) names listing.rising));
      each = each;
      whole = λ look are kind name d path h. by_blank kind name d path (is_blank name) (sym (had_is look are kind name) ∙ h);
    }
