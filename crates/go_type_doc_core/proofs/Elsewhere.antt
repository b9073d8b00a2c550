-- What selectors behind a variable have depends on what its type reaches alone.
use Rattle.std.proofs.Common.{◌≡◌, ℕ, Bool, true, false, List, Result, Ok, Err, refl, sym, ap, ◌∙◌, if◌then◌else◌}
use Rattle.go_path_core.specs.text_core.Text.{is_blank}
use Rattle.go_path_core.specs.text_core.declared.rule.Rule.{Rule}
use Rattle.go_path_core.specs.text_core.declared.rule.Rule.TheVariants.{S8}
use Rattle.go_term_core.specs.Terms.{Term, Sign}
use Rattle.go_summary_core.specs.table_core.Entries.{Entry, EntryLook, find_entry}
use Rattle.go_summary_core.specs.table_core.Laws.{AgreeFrom}
use Rattle.go_select_core.specs.embed_core.Owners.{Found, AFieldOf, AMethodOf, AnInterfaces, TheErrorMethod}
use Rattle.go_expr_core.specs.denote_core.declared.things.Outcome.{Outcome}
use Rattle.go_expr_core.specs.denote_core.declared.things.Selection.{Selection}
use Rattle.go_expr_core.specs.denote_core.Answers.{refused}
use Rattle.go_expr_core.specs.denote_core.Selectors.{member_answer}
use Rattle.go_summary_core.specs.handle_core.DecidingRules.{term_rules}
use Rattle.go_summary_core.specs.handle_core.DecidingSelecting.{Choice, choice, selected_of}
use Rattle.go_summary_core.specs.handle_core.DecidingLocalities.{decisions_local}
use Rattle.go_summary_core.specs.handle_core.Declarations.{Declaration, declaration_found}
use Rattle.go_summary_core.specs.handle_core.Names.{selection_in, shown_choice}
use Rattle.go_type_doc_core.specs.declared.members.listing.MemberKind.{MemberKind}
use Rattle.go_type_doc_core.specs.declared.members.listing.MemberKind.TheVariants as kinds
use Rattle.go_type_doc_core.specs.members.Members.{AreLooks, AreMembers, MemberOf, TheLook, behind_variable, usage_of}
use Rattle.go_type_doc_core.specs.Names.{TheAnswer}
use Rattle.go_type_doc_core.specs.Laws.{AreMembersOver, MembersAreLocal}

abbrev TheOutcome : Type 0
TheOutcome = Outcome Declaration (List ℕ)

abbrev TheSelection : Type 0
TheSelection = Selection Term Sign Declaration (List ℕ)

-- what a selector behind a variable answers, by whether its name is blank and by what it chooses
abbrev answered : MemberKind → Bool → TheSelection → TheAnswer
answered kind blank s = if blank then refused S8 else member_answer (usage_of kind) true s

abbrev had : MemberKind → Bool → TheSelection → TheOutcome
had kind blank s = (answered kind blank s).outcome

-- of what is chosen a table says the type of a field alone
by_member : (look other : EntryLook) (kind : MemberKind) (path : List ℕ) (passes : Bool) (f : Found) → had kind false (shown_choice look (Ok (choice path passes f))) ≡ had kind false (shown_choice other (Ok (choice path passes f)))
by_member look other kinds.«Field» path passes (AFieldOf home place t) = refl
by_member look other kinds.Method path passes (AFieldOf home place t) = refl
by_member look other kind path passes (AMethodOf home place pointer g) = refl
by_member look other kind path passes (AnInterfaces home place g) = refl
by_member look other kind path passes TheErrorMethod = refl

by_choice : (look other : EntryLook) (kind : MemberKind) (blank : Bool) (r : Result Choice Rule) → had kind blank (shown_choice look r) ≡ had kind blank (shown_choice other r)
by_choice look other kind true r = refl
by_choice look other kind false (Ok c) = by_member look other kind c.path c.passes c.member
by_choice look other kind false (Err rule) = refl

had_is : (es : List Entry) (t : Term) (from : List ℕ) (look : TheLook) → AreLooks es from look → (kind : MemberKind) (name : List ℕ) → behind_variable look t kind name ≡ had kind (is_blank name) (selection_in es from t name)
had_is es t from look are kind name = ap (λ s. had kind (is_blank name) (s t name)) are.select

module _ (es fs : List Entry) (t : Term) (from : List ℕ) (agree : AgreeFrom (find_entry es) (find_entry fs) t) where
  chosen : (kind : MemberKind) (name : List ℕ) → had kind (is_blank name) (selection_in es from t name) ≡ had kind (is_blank name) (selection_in fs from t name)
  chosen kind name =
      ap (λ (r : Result Choice Rule). had kind (is_blank name) (shown_choice (find_entry es) r)) (decisions_local.selected es fs t name from agree)
      ∙ by_choice (find_entry es) (find_entry fs) kind (is_blank name) (selected_of fs t name from)

  -- the same look-ups over the first types
  abbrev over : TheLook → TheLook
  over look = record {
    types = term_rules es from;
    names = record { find = look.names.find; exported = look.names.exported; select = selection_in es from; params = look.names.params; results = look.names.results };
  }

  over_is : (look : TheLook) → AreLooks es from (over look)
  over_is look = record { types = refl; select = refl }

  same : (look : TheLook) → AreLooks fs from look → (kind : MemberKind) (name : List ℕ) → behind_variable (over look) t kind name ≡ behind_variable look t kind name
  same look are kind name = had_is es t from (over look) (over_is look) kind name ∙ (chosen kind name ∙ sym (had_is fs t from look are kind name))

  pub members_over : (ms : List MemberOf) → AreMembers es t from ms → AreMembersOver fs t from ms
  members_over ms h = record {
    each = λ look are m there. (
        let is = h.each m there in
        let selected = sym (same look are m.kind m.name) ∙ is.selected (over look) (over_is look) in
        (declaration_found is.f, is.path, selected)
        );
    whole = λ look are kind name d path is. h.whole (over look) (over_is look) kind name d path (same look are kind name ∙ is);
  }

pub members_local : MembersAreLocal
members_local es fs t from ms agree h = members_over es fs t from agree ms h
