-- Selectors are decided.
use Rattle.std.proofs.Common.{◌≡◌, ◌↔◌, ℕ, Bool, true, false, ◌||◌, List, Result, Ok, Err, refl, sym, ap, ◌∙◌, subst, ◌⊎◌, inl, inr, if◌then◌else◌}
use Rattle.go_denote_core.specs.text_core.Text.{is_blank}
use Rattle.go_denote_core.specs.text_core.declared.rule.Rule.{Rule}
use Rattle.go_denote_core.specs.text_core.declared.rule.Rule.TheVariants.{M0, S8}
use Rattle.go_term_core.specs.Terms.{Term}
use Rattle.go_table_core.specs.Entries.{Entry, EntryLook, find_entry}
use Rattle.go_mset_core.specs.embed_core.Owners.{Found, AFieldOf, AMethodOf, AnInterfaces, TheErrorMethod}
use Rattle.go_mset_core.specs.embed_core.OwnersShown.{found_shown}
use Rattle.go_mset_core.specs.select_core.declared.levels.search.Selected.{Selected}
use Rattle.go_mset_core.specs.select_core.LevelsPaths.{IsSelected}
use Rattle.go_mset_core.specs.select_core.LevelsSelectors.{Searched, Refused, In, FieldsIn, searched, IsFieldFound, IsFoundAs, IsDenoted, IsRefused, IsRule, IsSelectorAnswer}
use Rattle.go_mset_core.specs.select_core.LevelsListLemmas.{true_false}
use Rattle.go_mset_core.specs.select_core.Meanings.{selected_same, missing_or_selected, one_answer}
use Rattle.go_handle_core.specs.deciding.Selecting.{Choice, choice, match_in, passing, field_alone, fields_alone, match_where, selected_of, chosen_of}
use Rattle.go_handle_core.specs.deciding.Laws.{SelectorsAreDecided}
use Rattle.go_handle_core.proofs.DecidingSearching.{IsMatched, matched_in}

-- where a selector is searched

abbrev IsWhere : EntryLook → Searched → List ℕ → List ℕ → Result Choice Rule → Type 0
IsWhere look w name from (Ok c) = IsFoundAs look w name from c.path c.passes c.member
IsWhere look w name from (Err rule) = IsRefused look w name from rule

in_type : (look : EntryLook) (t : Term) (by_pointer : Bool) (name from : List ℕ) (r : Result Choice Rule) → IsMatched look t name from r → IsWhere look (In t by_pointer) name from (passing by_pointer r)
in_type look t by_pointer name from (Ok c) h = (c.passes, h, refl)
in_type look t by_pointer name from (Err rule) h = h

field_in : (look : EntryLook) (t : Term) (name from path : List ℕ) (pointer : Bool) (f : Found) → IsSelected look t name from path pointer f
    → IsWhere look (FieldsIn t) name from (field_alone f (choice path (true || pointer) f))
field_in look t name from path pointer (AFieldOf home place u) h = ((pointer, h, refl), tt)
field_in look t name from path pointer (AMethodOf home place starred g) h = inr ((path, pointer, AMethodOf home place starred g, h, λ x. x), refl)
field_in look t name from path pointer (AnInterfaces home place g) h = inr ((path, pointer, AnInterfaces home place g, h, λ x. x), refl)
field_in look t name from path pointer TheErrorMethod h = inr ((path, pointer, TheErrorMethod, h, λ x. x), refl)

in_fields : (look : EntryLook) (t : Term) (name from : List ℕ) (r : Result Choice Rule) → IsMatched look t name from r → IsWhere look (FieldsIn t) name from (fields_alone (passing true r))
in_fields look t name from (Ok c) h = field_in look t name from c.path c.passes c.member h
in_fields look t name from (Err rule) h = inl h

where_found : (es : List Entry) (w : Searched) (name from : List ℕ) → IsWhere (find_entry es) w name from (match_where es w name from)
where_found es (Refused why) name from = refl
where_found es (In t by_pointer) name from = in_type (find_entry es) t by_pointer name from (match_in es t name from) (matched_in es t name from)
where_found es (FieldsIn t) name from = in_fields (find_entry es) t name from (match_in es t name from) (matched_in es t name from)

-- what the whole answers

abbrev pub IsOutcome : EntryLook → Term → List ℕ → List ℕ → Result Choice Rule → Type 0
IsOutcome look t name from (Ok c) = IsDenoted look t name from c.path c.passes c.member
IsOutcome look t name from (Err rule) = IsRule look t name from rule

unless_blank : (look : EntryLook) (t : Term) (name from : List ℕ) (b : Bool) (r : Result Choice Rule) → is_blank name ≡ b → IsWhere look (searched look t) name from r → IsOutcome look t name from (if b then Err S8 else r)
unless_blank look t name from true r is h = inl (is, refl)
unless_blank look t name from false (Ok c) is h = (is, h)
unless_blank look t name from false (Err rule) is h = inr (is, h)

pub outcome : (es : List Entry) (t : Term) (name from : List ℕ) → IsOutcome (find_entry es) t name from (selected_of es t name from)
outcome es t name from = unless_blank (find_entry es) t name from (is_blank name) (match_where es (searched (find_entry es) t) name from) refl (where_found es (searched (find_entry es) t) name from)

-- at most one thing is denoted, and then no rule is broken

found_same : (look : EntryLook) (w : Searched) (name from p q : List ℕ) (a b : Bool) (f g : Found) → IsFoundAs look w name from p a f → IsFoundAs look w name from q b g → choice p a f ≡ choice q b g
found_same look (Refused why) name from p q a b f g x y = absurd x
found_same look (In t by_pointer) name from p q a b f g x y =
    let s = selected_same look t name from p q x.0 y.0 f g x.1 y.1 in
    let passes : a ≡ b = x.2 ∙ ap (λ c. by_pointer || c) s.1 ∙ sym y.2 in
    λ i. choice (s.0 i) (passes i) (s.2 i)
found_same look (FieldsIn t) name from p q a b f g x y =
    let s = selected_same look t name from p q x.0.0 y.0.0 f g x.0.1 y.0.1 in
    let passes : a ≡ b = x.0.2 ∙ sym y.0.2 in
    λ i. choice (s.0 i) (passes i) (s.2 i)

never_refused : (look : EntryLook) (w : Searched) (name from p : List ℕ) (a : Bool) (f : Found) (r : Rule) → IsFoundAs look w name from p a f → IsRefused look w name from r → ⊥
never_refused look (Refused why) name from p a f r x y = x
never_refused look (In t by_pointer) name from p a f r x y = missing_or_selected look t name from p x.0 f r x.1 y
never_refused look (FieldsIn t) name from p a f r x (inl y) = missing_or_selected look t name from p x.0.0 f r x.0.1 y
never_refused look (FieldsIn t) name from p a f r x (inr y) =
    let s = selected_same look t name from p y.0.0 x.0.0 y.0.1 f y.0.2 x.0.1 y.0.3 in
    y.0.4 (subst (λ g. IsFieldFound g) s.2 x.1)

pub never_rule : (look : EntryLook) (t : Term) (name from p : List ℕ) (a : Bool) (f : Found) (r : Rule) → IsDenoted look t name from p a f → IsRule look t name from r → ⊥
never_rule look t name from p a f r x (inl y) = true_false (is_blank name) y.0 x.0
never_rule look t name from p a f r x (inr y) = never_refused look (searched look t) name from p a f r x.1 y.1

pub denoted_is : (look : EntryLook) (t : Term) (name from p : List ℕ) (a : Bool) (f : Found) (r : Result Choice Rule) → IsOutcome look t name from r → IsDenoted look t name from p a f → r ≡ Ok (choice p a f)
denoted_is look t name from p a f (Ok c) h d = ap Ok (found_same look (searched look t) name from c.path p c.passes a c.member f h.1 d.1)
denoted_is look t name from p a f (Err rule) h d = absurd (never_rule look t name from p a f rule d h)

rule_is : (look : EntryLook) (t : Term) (name from : List ℕ) (rule : Rule) (r : Result Choice Rule) → IsOutcome look t name from r → IsRule look t name from rule → r ≡ Err rule
rule_is look t name from rule (Ok c) h d = absurd (never_rule look t name from c.path c.passes c.member rule h d)
rule_is look t name from rule (Err why) h d = ap Err (one_answer.refused look t name from why rule h d)

pub denoted_decided : (es : List Entry) (t : Term) (name from path : List ℕ) (passes : Bool) (f : Found) → (selected_of es t name from ≡ Ok (choice path passes f)) ↔ IsDenoted (find_entry es) t name from path passes f
denoted_decided es t name from path passes f = (
  λ e. subst (λ r. IsOutcome (find_entry es) t name from r) e (outcome es t name from),
  λ d. denoted_is (find_entry es) t name from path passes f (selected_of es t name from) (outcome es t name from) d,
)

pub refused_decided : (es : List Entry) (t : Term) (name from : List ℕ) (rule : Rule) → (selected_of es t name from ≡ Err rule) ↔ IsRule (find_entry es) t name from rule
refused_decided es t name from rule = (
  λ e. subst (λ r. IsOutcome (find_entry es) t name from r) e (outcome es t name from),
  λ d. rule_is (find_entry es) t name from rule (selected_of es t name from) (outcome es t name from) d,
)

answered : (es : List Entry) (t : Term) (name from : List ℕ) (r : Result Selected Rule) → IsSelectorAnswer (find_entry es) t name from r → (r ≡ Err M0) ⊎ (selected_of es t name from ≡ chosen_of r)
answered es t name from (Ok s) h = inr ((denoted_decided es t name from s.path s.through_pointer (found_shown s.member)).1 h)
answered es t name from (Err rule) (inl e) = inl (ap Err e)
answered es t name from (Err rule) (inr h) = inr ((refused_decided es t name from rule).1 h)

answering : (es : List Entry) (t : Term) (name from : List ℕ) (r : Result Selected Rule) → selected_of es t name from ≡ chosen_of r → IsSelectorAnswer (find_entry es) t name from r
answering es t name from (Ok s) e = (denoted_decided es t name from s.path s.through_pointer (found_shown s.member)).0 e
answering es t name from (Err rule) e = inr ((refused_decided es t name from rule).0 e)

pub selectors_decided : SelectorsAreDecided
selectors_decided = record { denoted = denoted_decided; refused = refused_decided; answered = answered; answering = answering }
