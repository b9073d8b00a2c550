-- What a selector chooses is declared under the selector's name, where the members of the types of a table are.
use Rattle.std.proofs.Common.{◌≡◌, ℕ, zero, suc, Bool, true, false, List, [], ◌∷◌, map, refl, subst}
use Rattle.std.specs.Prelude.{Option, Some, None, Result, Ok, Err, ⊤, not, ◌&&◌, codes, if◌then◌else◌}
use Rattle.std.specs.Str.{bytes_eq}
use Rattle.std.proofs.lemmas.Bool.{and_parts}
use Rattle.go_site_core.specs.text_core.Text.{is_blank}
use Rattle.go_site_core.specs.text_core.declared.rule.Rule.{Rule}
use Rattle.go_term_core.specs.decl_core.declared.keys.DeclKey.{DeclKey}
use Rattle.go_term_core.specs.declared.term.MemberPlace.{MemberPlace}
use Rattle.go_term_core.specs.Terms.{Term, NoType, Predeclared, ErrorType, Defined, PointerTo, StructOf, InterfaceOf, Fields, NoField, AField, Methods, NoMethod, AMethod, Sign, SignOf, Terms, NoTerm, ATerm}
use Rattle.go_value_core.specs.table_core.Entries.{Entry, Member, find_entry, term_in, methods_in, underlying_in, has_method, same_id}
use Rattle.go_select_core.specs.embed_core.Owners.{OwnerModel, EmbeddedEdge, off, owner_in, embedded_edges, term_embedded, embedded_in, Found, AFieldOf, AMethodOf, AnInterfaces, TheErrorMethod, Named, fields_found, methods_found, declared_found, term_found, members_of}
use Rattle.go_select_core.specs.levels.Selectors.{Searched, Refused, In, FieldsIn, term_kind_in, searched, searched_under, unless_refused}
use Rattle.go_term_core.specs.declared.settling.kind.Kind.{Kind}
use Rattle.go_term_core.specs.declared.settling.kind.Kind.TheVariants as kinds
use Rattle.go_site_core.specs.handle_core.DecidingConversion.{is_type_term}
use Rattle.go_site_core.specs.handle_core.DecidingRules.{all_typed, param_types_of, results_of, typed}
use Rattle.go_site_core.specs.handle_core.DecidingSelecting.{Choice, Match, Trail, behind_edge, behind_edges, field_alone, fields_alone, first_matches, last_depth, match_in, match_where, matches_among, matches_behind, matches_of, only_match, passing, match_at, selected_of, some_spelled, spelled_from, trails_of, unless_some}
use Rattle.go_query_core.specs.snap_core.NearNear.{IfAny}
use Rattle.go_answer_laws.proofs.DeclarationsLists.{each_both, either, same_bytes}
use Rattle.go_answer_laws.proofs.DeclarationsTerms.{AreFieldsIn, AreMethodsIn, AreTermsIn, IsSignIn, IsTermIn}
use Rattle.go_answer_laws.proofs.DeclarationsTables.{AreEntriesIn, AreMembersIn, find_in, found_members}
use Rattle.go_stmt_core.specs.statement.Locality.{Each}

module _ (Stands : List ℕ → List ℕ → MemberPlace → Type 0) where
  -- a member, under a name
  abbrev pub IsFoundIn : List ℕ → Found → Type 0
  IsFoundIn name (AFieldOf home place t) = Stands home name place × IsTermIn Stands t
  IsFoundIn name (AMethodOf home place pointer g) = Stands home name place × IsSignIn Stands g
  IsFoundIn name (AnInterfaces home place g) = Stands home name place × IsSignIn Stands g
  IsFoundIn name TheErrorMethod = name ≡ codes "Error"

  abbrev IsNamedIn : Named → Type 0
  IsNamedIn n = IsFoundIn n.0 n.1.1

  abbrev IsEdgeIn : EmbeddedEdge → Type 0
  IsEdgeIn e = IsTermIn Stands e.target

  abbrev IsTrailIn : Trail → Type 0
  IsTrailIn w = IsTermIn Stands w.node

  abbrev IsMatchIn : List ℕ → Match → Type 0
  IsMatchIn name m = IsFoundIn name m.member

  -- what a choice has
  abbrev pub IsChoiceIn : List ℕ → Result Choice Rule → Type 0
  IsChoiceIn name (Ok c) = IsFoundIn name c.member
  IsChoiceIn name (Err rule) = ⊤

  -- members

  declared_in : (home : List ℕ) (ms : List Member) → AreMembersIn Stands home ms → Each IsNamedIn (declared_found home ms)
  declared_in home [] h = tt
  declared_in home (m ∷ ms) h = ((h.0, h.1), declared_in home ms h.2)

  fields_in : (o : OwnerModel) (home : List ℕ) (fs : Fields) → AreFieldsIn Stands home fs → Each IsNamedIn (fields_found o home fs)
  fields_in o home NoField h = tt
  fields_in o home (AField name place embedded t tag fs) h =
      either (Each IsNamedIn) (has_method o.path o.methods name home) _ _ (fields_in o home fs h.2) ((h.0, h.1), fields_in o home fs h.2)

  interface_in : (home : List ℕ) (ms : Methods) → AreMethodsIn Stands home ms → Each IsNamedIn (methods_found home ms)
  interface_in home NoMethod h = tt
  interface_in home (AMethod name place g ms) h = ((h.0, h.1), interface_in home ms h.2)

  term_found_in : (o : OwnerModel) (u : Term) → IsTermIn Stands u → Each IsNamedIn (term_found o u)
  term_found_in o NoType h = tt
  term_found_in o (Predeclared b) h = tt
  term_found_in o ErrorType h = (refl, tt)
  term_found_in o (Defined k) h = tt
  term_found_in o (PointerTo t) h = tt
  term_found_in o (StructOf home fs) h = fields_in o home fs h
  term_found_in o (InterfaceOf home ms) h = interface_in home ms h

  -- embedded fields

  off_in : (t : Term) → IsTermIn Stands t → IsTermIn Stands (off t)
  off_in NoType h = h
  off_in (Predeclared b) h = h
  off_in ErrorType h = h
  off_in (Defined k) h = h
  off_in (PointerTo t) h = h
  off_in (StructOf home fs) h = h
  off_in (InterfaceOf home ms) h = h

  edges_in : (o : OwnerModel) (home : List ℕ) (i : ℕ) (fs : Fields) → AreFieldsIn Stands home fs → Each IsEdgeIn (embedded_edges o home i fs)
  edges_in o home i NoField h = tt
  edges_in o home i (AField name place embedded t tag fs) h =
      either (Each IsEdgeIn) (embedded && not (has_method o.path o.methods name home)) _ _ (off_in t h.1, edges_in o home (suc i) fs h.2) (edges_in o home (suc i) fs h.2)

  term_edges_in : (o : OwnerModel) (u : Term) → IsTermIn Stands u → Each IsEdgeIn (term_embedded o u)
  term_edges_in o NoType h = tt
  term_edges_in o (Predeclared b) h = tt
  term_edges_in o ErrorType h = tt
  term_edges_in o (Defined k) h = tt
  term_edges_in o (PointerTo t) h = tt
  term_edges_in o (StructOf home fs) h = edges_in o home 0 fs h
  term_edges_in o (InterfaceOf home ms) h = tt

  -- in a table

  module _ (es : List Entry) (table : AreEntriesIn Stands es) where
    term_by : (k : DeclKey) (o : Option Entry) → find_entry es k ≡ o → IsTermIn Stands (term_in o)
    term_by k None is = tt
    term_by k (Some e) is = (find_in Stands es k e table is).0

    pub under_in : (t : Term) → IsTermIn Stands t → IsTermIn Stands (underlying_in (find_entry es) t)
    under_in NoType h = h
    under_in (Predeclared b) h = h
    under_in ErrorType h = h
    under_in (Defined k) h = term_by k (find_entry es k) refl
    under_in (PointerTo t) h = h
    under_in (StructOf home fs) h = h
    under_in (InterfaceOf home ms) h = h

    members_by : (k : DeclKey) (o : Option Entry) → find_entry es k ≡ o → Each IsNamedIn (declared_found k.path (methods_in o))
    members_by k None is = tt
    members_by k (Some e) is = declared_in k.path e.methods (found_members Stands es k e table is)

    members_in : (t : Term) → IsTermIn Stands t → Each IsNamedIn (members_of (owner_in (find_entry es) t))
    members_in NoType h = tt
    members_in (Predeclared b) h = tt
    members_in ErrorType h = (refl, tt)
    members_in (Defined k) h =
        let o = owner_in (find_entry es) (Defined k) in
        each_both IsNamedIn (declared_found k.path (methods_in (find_entry es k))) (term_found o (term_in (find_entry es k))) (members_by k (find_entry es k) refl) (term_found_in o (term_in (find_entry es k)) (term_by k (find_entry es k) refl))
    members_in (PointerTo t) h = tt
    members_in (StructOf home fs) h = term_found_in (owner_in (find_entry es) (StructOf home fs)) (StructOf home fs) h
    members_in (InterfaceOf home ms) h = term_found_in (owner_in (find_entry es) (InterfaceOf home ms)) (InterfaceOf home ms) h

    edges_of_in : (t : Term) → IsTermIn Stands t → Each IsEdgeIn (embedded_in (owner_in (find_entry es) t))
    edges_of_in t h = term_edges_in (owner_in (find_entry es) t) (underlying_in (find_entry es) t) (under_in t h)

    -- the search

    behind_in : (e : EmbeddedEdge) (ws : List Trail) → Each IsTrailIn ws → Each IsTrailIn (map (behind_edge e) ws)
    behind_in e [] h = tt
    behind_in e (w ∷ ws) h = (h.0, behind_in e ws h.1)

    edges_trails : (trails : Term → List Trail) → ((t : Term) → IsTermIn Stands t → Each IsTrailIn (trails t)) → (xs : List EmbeddedEdge) → Each IsEdgeIn xs → Each IsTrailIn (behind_edges trails xs)
    edges_trails trails each [] h = tt
    edges_trails trails each (x ∷ xs) h =
        each_both IsTrailIn (map (behind_edge x) (trails x.target)) (behind_edges trails xs) (behind_in x (trails x.target) (each x.target h.0)) (edges_trails trails each xs h.1)

    trails_in : (depth : ℕ) (t : Term) → IsTermIn Stands t → Each IsTrailIn (trails_of (find_entry es) depth t)
    trails_in zero t h = (h, tt)
    trails_in (suc depth) t h = edges_trails (trails_of (find_entry es) depth) (λ u k. trails_in depth u k) (embedded_in (owner_in (find_entry es) t)) (edges_of_in t h)

    among_in : (w : Trail) (name from : List ℕ) (i : ℕ) (ns : List Named) → Each IsNamedIn ns → Each (IsMatchIn name) (matches_among w name from i ns)
    among_in w name from i [] h = tt
    among_in w name from i (n ∷ ns) h = by (same_id n.0 n.1.0 name from) refl (among_in w name from (suc i) ns h.1)
      where
        by : (b : Bool) → same_id n.0 n.1.0 name from ≡ b → Each (IsMatchIn name) (matches_among w name from (suc i) ns)
            → Each (IsMatchIn name) (if b then match_at w i n.1.1 ∷ matches_among w name from (suc i) ns else matches_among w name from (suc i) ns)
        by true e rest = (subst (λ (x : List ℕ). IsFoundIn x n.1.1) (same_bytes n.0 name (and_parts (bytes_eq n.0 name) _ e).0) h.0, rest)
        by false e rest = rest

    matches_in : (name from : List ℕ) (ws : List Trail) → Each IsTrailIn ws → Each (IsMatchIn name) (matches_behind (find_entry es) name from ws)
    matches_in name from [] h = tt
    matches_in name from (w ∷ ws) h =
        each_both (IsMatchIn name) (matches_among w name from 0 (members_of (owner_in (find_entry es) w.node))) (matches_behind (find_entry es) name from ws)
        (among_in w name from 0 (members_of (owner_in (find_entry es) w.node)) (members_in w.node h.0)) (matches_in name from ws h.1)

    some_in : (name : List ℕ) (ms deeper : List Match) → Each (IsMatchIn name) ms → Each (IsMatchIn name) deeper → Each (IsMatchIn name) (unless_some ms deeper)
    some_in name [] deeper h k = k
    some_in name (m ∷ ms) deeper h k = h

    first_in : (name : List ℕ) (matches : ℕ → List Match) → ((n : ℕ) → Each (IsMatchIn name) (matches n)) → (depth more : ℕ) → Each (IsMatchIn name) (first_matches matches depth more)
    first_in name matches h depth zero = h depth
    first_in name matches h depth (suc more) = some_in name (matches depth) (first_matches matches (suc depth) more) (h depth) (first_in name matches h (suc depth) more)

    only_in : (name : List ℕ) (spelled : Bool) (ms : List Match) → Each (IsMatchIn name) ms → IsChoiceIn name (only_match spelled ms)
    only_in name spelled [] h = tt
    only_in name spelled (m ∷ []) h = h.0
    only_in name spelled (m ∷ (n ∷ ms)) h = tt

    matched_in : (t : Term) (name from : List ℕ) → IsTermIn Stands t → IsChoiceIn name (match_in es t name from)
    matched_in t name from h =
        only_in name (spelled_from (λ depth. some_spelled (find_entry es) name (trails_of (find_entry es) depth t)) 0 (last_depth es t)) (first_matches (matches_of (find_entry es) t name from) 0 (last_depth es t))
        (first_in name (matches_of (find_entry es) t name from) (λ depth. matches_in name from (trails_of (find_entry es) depth t) (trails_in depth t h)) 0 (last_depth es t))

    passing_in : (name : List ℕ) (b : Bool) (r : Result Choice Rule) → IsChoiceIn name r → IsChoiceIn name (passing b r)
    passing_in name b (Err rule) h = h
    passing_in name b (Ok c) h = h

    alone_in : (name : List ℕ) (f : Found) (c : Choice) → IsFoundIn name c.member → IsChoiceIn name (field_alone f c)
    alone_in name (AFieldOf home place t) c h = h
    alone_in name (AMethodOf home place pointer g) c h = tt
    alone_in name (AnInterfaces home place g) c h = tt
    alone_in name TheErrorMethod c h = tt

    fields_alone_in : (name : List ℕ) (r : Result Choice Rule) → IsChoiceIn name r → IsChoiceIn name (fields_alone r)
    fields_alone_in name (Err rule) h = h
    fields_alone_in name (Ok c) h = alone_in name c.member c h

    -- where a selector is searched
    abbrev IsSearchedIn : Searched → Type 0
    IsSearchedIn (Refused rule) = ⊤
    IsSearchedIn (In t by_pointer) = IsTermIn Stands t
    IsSearchedIn (FieldsIn t) = IsTermIn Stands t

    unless_in : (k : Kind) (s : Searched) → IsSearchedIn s → IsSearchedIn (unless_refused k s)
    unless_in kinds.Nothing s h = tt
    unless_in kinds.Pointer s h = tt
    unless_in kinds.Interface s h = tt
    unless_in kinds.Other s h = h

    searched_under_in : (t u : Term) → IsTermIn Stands t → IsTermIn Stands u → IsSearchedIn (searched_under (find_entry es) t u)
    searched_under_in t NoType h k = tt
    searched_under_in t (Predeclared b) h k = h
    searched_under_in t ErrorType h k = h
    searched_under_in t (Defined j) h k = h
    searched_under_in t (PointerTo b) h k = unless_in (term_kind_in (find_entry es) b) (FieldsIn b) k
    searched_under_in t (StructOf home fs) h k = h
    searched_under_in t (InterfaceOf home ms) h k = h

    searched_in : (t : Term) → IsTermIn Stands t → IsSearchedIn (searched (find_entry es) t)
    searched_in NoType h = tt
    searched_in (Predeclared b) h = h
    searched_in ErrorType h = h
    searched_in (Defined k) h = searched_under_in (Defined k) (underlying_in (find_entry es) (Defined k)) h (under_in (Defined k) h)
    searched_in (PointerTo t) h = unless_in (term_kind_in (find_entry es) t) (In t true) h
    searched_in (StructOf home fs) h = h
    searched_in (InterfaceOf home ms) h = h

    where_in : (s : Searched) (name from : List ℕ) → IsSearchedIn s → IsChoiceIn name (match_where es s name from)
    where_in (Refused rule) name from h = tt
    where_in (In t by_pointer) name from h = passing_in name by_pointer (match_in es t name from) (matched_in t name from h)
    where_in (FieldsIn t) name from h = fields_alone_in name (passing true (match_in es t name from)) (passing_in name true (match_in es t name from) (matched_in t name from h))

    pub selected_in : (t : Term) (name from : List ℕ) → IsTermIn Stands t → IsChoiceIn name (selected_of es t name from)
    selected_in t name from h = either (IsChoiceIn name) (is_blank name) _ _ tt (where_in (searched (find_entry es) t) name from (searched_in t h))

    -- types, where they are some

    pub typed_in : (t : Term) → IsTermIn Stands t → IfAny (IsTermIn Stands) (typed (find_entry es) t)
    typed_in t h = either (IfAny (IsTermIn Stands)) (is_type_term (find_entry es) t) _ _ h tt

    all_typed_in : (ts : Terms) → AreTermsIn Stands ts → Each (IfAny (IsTermIn Stands)) (all_typed (find_entry es) ts)
    all_typed_in NoTerm h = tt
    all_typed_in (ATerm t ts) h = (typed_in t h.0, all_typed_in ts h.1)

    pub params_in : (g : Sign) → IsSignIn Stands g → Each (IfAny (IsTermIn Stands)) (param_types_of (find_entry es) g)
    params_in (SignOf ps rs) h = all_typed_in ps h.0

    pub results_in : (g : Sign) → IsSignIn Stands g → Each (IfAny (IsTermIn Stands)) (results_of (find_entry es) g)
    results_in (SignOf ps rs) h = all_typed_in rs h.1
