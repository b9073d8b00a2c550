-- The types of two tables that have the same of what is near: what is asked of near types is the same, and near.
use Rattle.std.proofs.Common.{◌≡◌, ℕ, Bool, List, [], ◌∷◌, refl, sym, ap, ◌∙◌, arith, Contains}
use Rattle.std.specs.Prelude.{Some, None, Result, Ok, Err, ⊤, if◌then◌else◌, not}
use Rattle.std.proofs.lemmas.List.Elements.{Contains-append_left, Contains-append_right}
use Rattle.go_term_core.specs.decl_core.declared.keys.DeclKey.{DeclKey}
use Rattle.go_term_core.specs.Terms.{Term, NoType, Predeclared, ErrorType, Defined, PointerTo, StructOf, InterfaceOf, Sign, SignOf, Terms, NoTerm, ATerm, is_no_type, term_keys, terms_keys}
use Rattle.go_body_core.specs.table_core.Entries.{Entry, find_entry, underlying_in, entry_keys}
use Rattle.go_body_core.specs.table_core.Assign.{AValue}
use Rattle.go_body_core.specs.table_core.Laws.{LeadsTo, IsReached, AgreeFrom}
use Rattle.go_body_core.specs.table_core.Meanings.{underlying_local}
use Rattle.go_select_core.specs.embed_core.Owners.{Found, AFieldOf, AMethodOf, AnInterfaces, TheErrorMethod}
use Rattle.go_select_core.specs.levels.Selectors.{Searched, Refused, In, FieldsIn, searched, IsFoundAs}
use Rattle.go_select_core.specs.Laws.{found_keys}
use Rattle.go_select_core.proofs.Local.{ReachesWhat, reach_searched, leads_covered, named_covered}
use Rattle.go_path_core.specs.text_core.declared.rule.Rule.{Rule}
use Rattle.go_report_core.specs.handle_core.DecidingConversion.{is_type_term}
use Rattle.go_report_core.specs.handle_core.DecidingSelecting.{Choice, selected_of}
use Rattle.go_report_core.specs.handle_core.DecidingRules.{form_under, term_rules, typed, all_typed, param_types_of, results_of, member_selection}
use Rattle.go_report_core.specs.handle_core.DecidingLocalities.{decisions_local}
use Rattle.go_report_core.specs.handle_core.DecidingChoosing.{IsOutcome, outcome}
use Rattle.go_report_core.specs.denote_core.declared.things.Selection.{Selection}
use Rattle.go_report_core.specs.denote_core.declared.things.Selection.TheVariants as selections
use Rattle.go_report_core.specs.handle_core.Declarations.{Declaration, declaration_found}
use Rattle.go_report_core.specs.handle_core.Names.{shown_choice, selection_in}
use Rattle.go_snap_core.specs.near.Near.{IfAny, NearForm, NearSelection}
use Rattle.go_snap_core.specs.near.Looks.{AreRulesClosed, RulesAgree}
use Rattle.go_snap_core.specs.near.Tables.{Nearby, IsNear, IsNearSign, near_rest, AgreeOn}
use Rattle.go_snap_core.proofs.NearClosing.{either}
use Rattle.go_body_core.specs.stmt_core.StatementLocality.{Each}

none_in : (near : Nearby) (k : DeclKey) → Contains [] k → near.types k
none_in near k h = absurd (omega (arith, h.1))

-- what is reached from near types is near

module _ (near : Nearby) (es others : List Entry) (law : AgreeOn near es others) where
  led_near : (mentioned : List DeclKey) (through : List DeclKey) (k : DeclKey) → ((j : DeclKey) → Contains mentioned j → near.types j) → LeadsTo (find_entry es) mentioned through k → near.types k
  led_near mentioned [] k h r = h k r
  led_near mentioned (j ∷ js) k h r = led_near (entry_keys r.1.0) js k (law.closed j r.1.0 (h j r.0) r.1.1) r.1.2

  pub reached_near : (t : Term) (k : DeclKey) → IsNear near t → IsReached (find_entry es) t k → near.types k
  reached_near t k h r = led_near (term_keys t) r.0 k h r.1

  pub agree_from : (t : Term) → IsNear near t → AgreeFrom (find_entry es) (find_entry others) t
  agree_from t h k r = law.same k (reached_near t k h r)

  pub turned : AgreeOn near others es
  turned = record { same = λ k h. sym (law.same k h); closed = λ k e h is. law.closed k e h (law.same k h ∙ is) }

  pub under_near : (t : Term) → IsNear near t → IsNear near (underlying_in (find_entry es) t)
  under_near t h k m = reached_near t k h (underlying_local.inside (find_entry es) t k m)

  pub under_same : (t : Term) → IsNear near t → underlying_in (find_entry es) t ≡ underlying_in (find_entry others) t
  under_same t h = underlying_local.same (find_entry es) (find_entry others) t (agree_from t h)

  -- the rules of types

  form_near : (u : Term) → IsNear near u → NearForm (IsNear near) (form_under u)
  form_near NoType h = tt
  form_near (Predeclared b) h = tt
  form_near ErrorType h = tt
  form_near (Defined k) h = tt
  form_near (PointerTo t) h = h
  form_near (StructOf path fs) h = tt
  form_near (InterfaceOf path ms) h = tt

  pub rules_closed : (path : List ℕ) → AreRulesClosed (IsNear near) (term_rules es path)
  rules_closed path = record {
    form = λ t h. form_near (underlying_in (find_entry es) t) (under_near t h);
    pointer_to = λ t h. h;
    int = none_in near;
    string = none_in near;
    bool = none_in near;
    any = none_in near;
  }

  pub rules_agree : (path : List ℕ) → RulesAgree (IsNear near) (term_rules es path) (term_rules others path)
  rules_agree path = record {
    form = λ t h. ap form_under (under_same t h);
    pointer_to = λ t h. refl;
    int = refl;
    string = refl;
    bool = refl;
    any = refl;
    identical = λ s t h k. refl;
    assignable = λ s t h k. decisions_local.assignable es others (AValue s) t (agree_from s h) (agree_from t k);
    convertible = λ s t h k. decisions_local.convertible (find_entry es) (find_entry others) s t (agree_from s h) (agree_from t k);
  }

  -- signatures

  pub typed_near : (t : Term) → IsNear near t → IfAny (IsNear near) (typed (find_entry es) t)
  typed_near t h = either (IfAny (IsNear near)) (is_type_term (find_entry es) t) _ _ h tt

  pub typed_same : (t : Term) → IsNear near t → typed (find_entry es) t ≡ typed (find_entry others) t
  typed_same t h = λ j. if not (is_no_type (under_same t h j)) then Some t else None

  first_near : (t : Term) (ts : Terms) → ((k : DeclKey) → Contains (terms_keys (ATerm t ts)) k → near.types k) → IsNear near t
  first_near t ts h k m = h k (Contains-append_left (term_keys t) (terms_keys ts) k m)

  more_near : (t : Term) (ts : Terms) → ((k : DeclKey) → Contains (terms_keys (ATerm t ts)) k → near.types k) → (k : DeclKey) → Contains (terms_keys ts) k → near.types k
  more_near t ts h k m = h k (Contains-append_right (term_keys t) (terms_keys ts) k m)

  all_near : (ts : Terms) → ((k : DeclKey) → Contains (terms_keys ts) k → near.types k) → Each (IfAny (IsNear near)) (all_typed (find_entry es) ts)
  all_near NoTerm h = tt
  all_near (ATerm t ts) h = (typed_near t (first_near t ts h), all_near ts (more_near t ts h))

  all_same : (ts : Terms) → ((k : DeclKey) → Contains (terms_keys ts) k → near.types k) → all_typed (find_entry es) ts ≡ all_typed (find_entry others) ts
  all_same NoTerm h = refl
  all_same (ATerm t ts) h = λ j. typed_same t (first_near t ts h) j ∷ all_same ts (more_near t ts h) j

  pub params_near : (g : Sign) → IsNearSign near g → Each (IfAny (IsNear near)) (param_types_of (find_entry es) g)
  params_near (SignOf ps rs) h = all_near ps (λ k m. h k (Contains-append_left (terms_keys ps) (terms_keys rs) k m))

  pub results_near : (g : Sign) → IsNearSign near g → Each (IfAny (IsNear near)) (results_of (find_entry es) g)
  results_near (SignOf ps rs) h = all_near rs (λ k m. h k (Contains-append_right (terms_keys ps) (terms_keys rs) k m))

  pub params_same : (g : Sign) → IsNearSign near g → param_types_of (find_entry es) g ≡ param_types_of (find_entry others) g
  params_same (SignOf ps rs) h = all_same ps (λ k m. h k (Contains-append_left (terms_keys ps) (terms_keys rs) k m))

  pub results_same : (g : Sign) → IsNearSign near g → results_of (find_entry es) g ≡ results_of (find_entry others) g
  results_same (SignOf ps rs) h = all_same rs (λ k m. h k (Contains-append_right (terms_keys ps) (terms_keys rs) k m))

  -- selectors

  found_inside : (t : Term) (w : Searched) (name from path : List ℕ) (passes : Bool) (f : Found) → ReachesWhat (find_entry es) t w → IsFoundAs (find_entry es) w name from path passes f
      → (k : DeclKey) → Contains (found_keys f) k → IsReached (find_entry es) t k
  found_inside t (Refused why) name from path passes f inside h = absurd h
  found_inside t (In u by_pointer) name from path passes f inside h =
      let i = h.1.hit in
      λ j m. inside j (leads_covered (find_entry es) u path h.0 i.at i.leads j (named_covered (find_entry es) i.at name from h.1.number f i.has j m))
  found_inside t (FieldsIn u) name from path passes f inside h =
      let i = h.0.1.hit in
      λ j m. inside j (leads_covered (find_entry es) u path h.0.0 i.at i.leads j (named_covered (find_entry es) i.at name from h.0.1.number f i.has j m))

  -- what a choice has is near
  abbrev IsChosen : Result Choice Rule → Type 0
  IsChosen (Ok c) = (k : DeclKey) → Contains (found_keys c.member) k → near.types k
  IsChosen (Err rule) = ⊤

  chosen_by : (t : Term) (name from : List ℕ) (r : Result Choice Rule) → IsNear near t → IsOutcome (find_entry es) t name from r → IsChosen r
  chosen_by t name from (Ok c) h o = λ k m. reached_near t k h (found_inside t (searched (find_entry es) t) name from c.path c.passes c.member (reach_searched (find_entry es) t) o.1 k m)
  chosen_by t name from (Err rule) h o = tt

  chosen : (t : Term) (name from : List ℕ) → IsNear near t → IsChosen (selected_of es t name from)
  chosen t name from h = chosen_by t name from (selected_of es t name from) h (outcome es t name from)

  abbrev Picks : Selection Term Sign Declaration (List ℕ) → Type 0
  Picks s = NearSelection (IsNear near) (near_rest near) s

  member_near : (path : List ℕ) (passes : Bool) (f : Found) → ((k : DeclKey) → Contains (found_keys f) k → near.types k) → Picks (member_selection declaration_found (λ p. p) (find_entry es) path passes f)
  member_near path passes (AFieldOf home place t) h = typed_near t h
  member_near path passes (AMethodOf home place pointer g) h = h
  member_near path passes (AnInterfaces home place g) h = h
  member_near path passes TheErrorMethod h = none_in near

  member_same : (path : List ℕ) (passes : Bool) (f : Found) → ((k : DeclKey) → Contains (found_keys f) k → near.types k)
      → member_selection declaration_found (λ (p : List ℕ). p) (find_entry es) path passes f ≡ member_selection declaration_found (λ (p : List ℕ). p) (find_entry others) path passes f
  member_same path passes (AFieldOf home place t) h =
      ap (λ u. selections.«Field» (declaration_found (AFieldOf home place t)) path u passes) (typed_same t h)
  member_same path passes (AMethodOf home place pointer g) h = refl
  member_same path passes (AnInterfaces home place g) h = refl
  member_same path passes TheErrorMethod h = refl

  shown_near : (r : Result Choice Rule) → IsChosen r → Picks (shown_choice (find_entry es) r)
  shown_near (Ok c) h = member_near c.path c.passes c.member h
  shown_near (Err rule) h = tt

  shown_same : (r : Result Choice Rule) → IsChosen r → shown_choice (find_entry es) r ≡ shown_choice (find_entry others) r
  shown_same (Ok c) h = member_same c.path c.passes c.member h
  shown_same (Err rule) h = refl

  pub select_near : (from : List ℕ) (t : Term) (name : List ℕ) → IsNear near t → Picks (selection_in es from t name)
  select_near from t name h = shown_near (selected_of es t name from) (chosen t name from h)

  pub select_same : (from : List ℕ) (t : Term) (name : List ℕ) → IsNear near t → selection_in es from t name ≡ selection_in others from t name
  select_same from t name h =
      shown_same (selected_of es t name from) (chosen t name from h) ∙ ap (shown_choice (find_entry others)) (decisions_local.selected es others t name from (agree_from t h))
