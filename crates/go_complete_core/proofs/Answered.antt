-- What is answered by the spot of an identifier are the names that have a declaration there.
use Rattle.std.proofs.Common.{◌≡◌, ℕ, Bool, true, false, not, ◌&&◌, List, [], ◌∷◌, ◌++◌, map, Option, Some, None, refl, sym, ap, subst, ◌∙◌}
use Rattle.std.specs.Prelude.{Contains, ◌↔◌}
use Rattle.std.specs.Option.{option_map}
use Rattle.std.specs.List.Sorted.{IsStrictlySortedBy}
use Rattle.go_tree_nodes.specs.text_core.Text.{is_blank}
use Rattle.go_tree_nodes.specs.text_core.declared.rule.Rule.TheVariants.{S8}
use Rattle.go_graph_core.specs.Packages.{trees_of}
use Rattle.go_graph_core.specs.Workspaces.{by_bytes}
use Rattle.go_tree_nodes.specs.declared.names.Ident.{Ident}
use Rattle.go_tree_nodes.specs.declared.usage.Usage.{Usage}
use Rattle.go_tree_nodes.specs.declared.usage.Usage.TheVariants as usages
use Rattle.go_tree_nodes.specs.Trees.{ExprTree, Integer, Text, Named, Paren, Unary, Binary, Select, Call, Literal, StructLiteral, FileTree}
use Rattle.go_cursor_core.specs.scope_stack.Blocks.{found_in}
use Rattle.go_names_core.specs.scope_core.Models.{ScopesModel, scopes_model}
use Rattle.go_names_core.specs.scope_core.Scopes.{scope_blocks}
use Rattle.go_names_core.specs.local_core.Binding.{NameLook}
use Rattle.go_names_core.specs.local_core.mirrors.Walk.{look_in}
use Rattle.go_term_core.specs.Terms.{Term, Sign}
use Rattle.go_candidate_core.specs.handle_core.Declarations.{Declaration, Package as PackageOf}
use Rattle.go_cursor_core.specs.denote_core.declared.things.Stand.{Stand}
use Rattle.go_cursor_core.specs.denote_core.declared.things.Stand.TheVariants as stands
use Rattle.go_cursor_core.specs.denote_core.declared.things.Dot.{Dot}
use Rattle.go_cursor_core.specs.denote_core.declared.things.Dot.TheVariants as dots
use Rattle.go_cursor_core.specs.denote_core.Selectors.{exported_answer}
use Rattle.go_stmt_core.specs.expr_core.Looks.{look_of_place}
use Rattle.go_stmt_core.specs.expr_core.Places.{is_name}
use Rattle.go_stmt_core.specs.expr_core.Denoting.{ident_answer}
use Rattle.go_stmt_core.specs.expr_core.Uses.{Context, NameAt, SelectorBehind, rule}
use Rattle.go_candidate_core.specs.declared_core.Packages.{PackageFacesModel, exported_in}
use Rattle.go_package_core.specs.env_core.declared.meaning.Meaning.{Meaning}
use Rattle.go_package_core.specs.env_core.Looks.{TheLooks}
use Rattle.go_package_core.specs.env_core.Found.{exported_shown, found_exported}
use Rattle.go_package_core.specs.body_core.FunctionStands.{FileStand, looks_where, outer_meanings}
use Rattle.go_package_core.specs.summary_core.Views.{faces_told}
use Rattle.go_package_core.specs.package_part.Parts.{IsPart, PartModel, package_seen, seen_by}
use Rattle.go_candidate_core.specs.context.Alone.{HasLocals, fits_some}
use Rattle.go_candidate_core.specs.context.Laws.{is_declared}
use Rattle.go_candidate_core.proofs.ContextDeciding.{things_decide}
use Rattle.go_cursor_core.specs.Used.{SpotTree, NameSpot, BehindSpot, BehindNameSpot, KeySpot}
use Rattle.go_cursor_core.specs.Contexts.{context_of_spot}
use Rattle.go_cursor_core.specs.Opened.{FileUsed, file_names}
use Rattle.go_candidate_core.specs.fitting.Fitting.{fits_alone, fits_behind, fits_shown, package_at, thing_at}
use Rattle.go_complete_core.specs.place.Completed.{Completes}
use Rattle.go_complete_core.specs.place.Completions.{AreNamesFor, is_of_types, stand_of}
use Rattle.go_complete_core.specs.place.Laws.{IsPlacedIn}
use Rattle.go_complete_core.proofs.PlacePlacing.{none_has, spots_are_places}
use Rattle.go_complete_core.specs.mirrors.Answering.{ArePassing, name_of, AreBehind, AreBehindName, AreBehindSome, AreAnswered}
use Rattle.go_complete_core.proofs.Dots.{dot_answer, name_refused, name_package, name_typed, declared_unless, shown_fits}
use Rattle.go_complete_core.proofs.OwnThings.{own_thing}
use Rattle.go_complete_core.proofs.NoPackage.{operand_typed}
use Rattle.go_complete_core.proofs.Standing.{Sight, package_found, sight_found, sight_at, name_sight}

none_sorted : IsStrictlySortedBy by_bytes []
unfolding IsStrictlySortedBy
none_sorted = tt

not_blank : (b t : Bool) → (not b && t) ≡ true → b ≡ false
not_blank true t h = absurd (cc)
not_blank false t h = refl

same_iff : (found : List (List ℕ)) (m : List ℕ) (a b : Bool) → a ≡ b → Contains found m ↔ (b ≡ true) → Contains found m ↔ (a ≡ true)
same_iff found m a b e h = (λ c. e ∙ h.0 c, λ t. h.1 (sym e ∙ t))

other_name : (e : ExprTree) → name_of e ≡ None → is_name e ≡ false
other_name (Integer n span) h = refl
other_name (Text t) h = refl
other_name (Named x) h = absurd (cc)
other_name (Paren first e last) h = refl
other_name (Unary op span e) h = refl
other_name (Binary a op span b) h = refl
other_name (Select e dot x) h = refl
other_name (Call e first items last) h = refl
other_name (Literal n first items last) h = refl
other_name (StructLiteral t first items last) h = refl

this_name : (e : ExprTree) (y : Ident) → name_of e ≡ Some y → e ≡ Named y
this_name (Integer n span) y h = absurd (cc)
this_name (Text t) y h = absurd (cc)
this_name (Named x) y h = cc
this_name (Paren first e last) y h = absurd (cc)
this_name (Unary op span e) y h = absurd (cc)
this_name (Binary a op span b) y h = absurd (cc)
this_name (Select e dot x) y h = absurd (cc)
this_name (Call e first items last) y h = absurd (cc)
this_name (Literal n first items last) y h = absurd (cc)
this_name (StructLiteral t first items last) y h = absurd (cc)

module _ (st : FileStand) (names : NameLook Meaning) (scopes : ScopesModel)
    (sees : (name : List ℕ) → is_blank name ≡ false → (place : ℕ) → sight_found ((looks_where st names).find name place) ≡ sight_at st.scene (found_in (scope_blocks scopes) name)) where
  -- names alone
  alone_declared : (p : Stand) (offset : ℕ) (m : List ℕ) → is_declared (rule (looks_where st names) (NameAt p) offset m) ≡ fits_alone scopes st.scene.others p m
  alone_declared p offset m = things_decide Term Sign Declaration (List ℕ) (look_of_place (looks_where st names) offset) p m ∙ by (is_blank m) refl
    where
      by : (b : Bool) → is_blank m ≡ b
          → (not (is_blank m) && fits_some p (sight_found ((looks_where st names).find m offset)).0) ≡ fits_alone scopes st.scene.others p m
      by true k = ap (λ b. not b && fits_some p (sight_found ((looks_where st names).find m offset)).0) k ∙ sym (ap (λ b. not b && fits_some p (thing_at st.scene.others (found_in (scope_blocks scopes) m))) k)
      by false k = ap (λ (t : Sight). not (is_blank m) && fits_some p t.0) (sees m k offset)

  -- behind a package
  behind_declared : (u : Usage) (path : List ℕ) (offset : ℕ) (m : List ℕ) → is_declared (rule (looks_where st names) (SelectorBehind u (dots.«Package» (PackageOf path))) offset m) ≡ fits_behind st.scene.others path u m
  behind_declared u path offset m =
      declared_unless Term Sign Declaration (List ℕ) (is_blank m) S8 (exported_answer {T = Term} {S = Sign} {P = List ℕ} u (exported_shown path (exported_in st.scene.others path m)))
      ∙ ap (λ b. not (is_blank m) && b) (shown_fits (List ℕ) u path (exported_in st.scene.others path m))

  -- left of a dot

  abbrev DotResult : Usage → Dot Term Declaration → Ident → Option (List (List ℕ)) → Type 0
  DotResult u dot x None = is_of_types (SelectorBehind u dot) ≡ true
  DotResult u dot x (Some found) = (is_of_types (SelectorBehind u dot) ≡ false) × AreNamesFor st names (SelectorBehind u dot) x found

  abbrev dot_named : Stand → Ident → Dot Term Declaration
  dot_named p y = dot_answer (ident_answer (looks_where st names) p y)

  behind_result : (u : Usage) (p : Stand) (y x : Ident) (r : Option (List (List ℕ))) → AreBehindName scopes st.scene.others u p y r → DotResult u (dot_named p y) x r
  behind_result u p y x r h = by (fits_alone scopes st.scene.others p y.name) refl (package_at (found_in (scope_blocks scopes) y.name)) refl r h
    where
      declared : is_declared (ident_answer (looks_where st names) p y).outcome ≡ fits_alone scopes st.scene.others p y.name
      declared = alone_declared p y.span.start y.name

      seen : fits_alone scopes st.scene.others p y.name ≡ true → package_found ((looks_where st names).find y.name y.span.start) ≡ option_map PackageOf (package_at (found_in (scope_blocks scopes) y.name))
      seen k = ap (λ (t : Sight). t.1) (sees y.name (not_blank (is_blank y.name) (fits_some p (thing_at st.scene.others (found_in (scope_blocks scopes) y.name))) k) y.span.start)

      by : (b : Bool) → fits_alone scopes st.scene.others p y.name ≡ b → (q : Option (List ℕ)) → package_at (found_in (scope_blocks scopes) y.name) ≡ q → (r : Option (List (List ℕ))) → AreBehind st.scene.others u b q r → DotResult u (dot_named p y) x r
      by false k q l r is =
          subst (λ (dot : Dot Term Declaration). DotResult u dot x r) (sym (name_refused Term Sign Declaration (List ℕ) (look_of_place (looks_where st names) y.span.start) p y.name (declared ∙ k)))
          (subst (λ (o : Option (List (List ℕ))). DotResult u dots.Refused x o) (sym is) (refl, record { rising = none_sorted; each = λ m. (λ c. absurd (none_has m c), λ t. absurd (cc)) }))
      by true k None l r is =
          subst (λ (o : Option (List (List ℕ))). DotResult u (dot_named p y) x o) (sym is) (name_typed Term Sign Declaration (List ℕ) (look_of_place (looks_where st names) y.span.start) p y.name u (declared ∙ k) (seen k ∙ ap (option_map PackageOf) l))
      by true k (Some path) l None is = absurd is
      by true k (Some path) l (Some found) is =
          subst (λ (dot : Dot Term Declaration). DotResult u dot x (Some found)) (sym (name_package Term Sign Declaration (List ℕ) (look_of_place (looks_where st names) y.span.start) p y.name (PackageOf path) (declared ∙ k) (seen k ∙ ap (option_map PackageOf) l)))
          (refl, record { rising = is.0; each = λ m. same_iff found m _ _ (behind_declared u path x.span.start m) (is.1 m) })

  -- any spot

  abbrev SpotResult : SpotTree → Ident → Option (List (List ℕ)) → Type 0
  SpotResult sp x None = is_of_types (context_of_spot (looks_where st names) sp) ≡ true
  SpotResult sp x (Some found) = (is_of_types (context_of_spot (looks_where st names) sp) ≡ false) × AreNamesFor st names (context_of_spot (looks_where st names) sp) x found

  of_dot : (u : Usage) (p : Stand) (y x : Ident) (r : Option (List (List ℕ))) → DotResult u (dot_named p y) x r → SpotResult (BehindSpot u p (Named y)) x r
  of_dot u p y x None h = h
  of_dot u p y x (Some found) h = h

  of_type : (y x : Ident) (r : Option (List (List ℕ))) → DotResult usages.«Type» (dot_named stands.TypeDot y) x r → SpotResult (BehindNameSpot y) x r
  of_type y x None h = h
  of_type y x (Some found) h = h

  operand_result : (u : Usage) (p : Stand) (e : ExprTree) (x : Ident) (r : Option (List (List ℕ))) (o : Option Ident) → name_of e ≡ o → AreBehindSome scopes st.scene.others u p o r → SpotResult (BehindSpot u p e) x r
  operand_result u p e x r None k is = subst (λ (o : Option (List (List ℕ))). SpotResult (BehindSpot u p e) x o) (sym is) (operand_typed Term Sign Declaration (List ℕ) (looks_where st names) u p e (other_name e k))
  operand_result u p e x r (Some y) k is = subst (λ (f : ExprTree). SpotResult (BehindSpot u p f) x r) (sym (this_name e y k)) (of_dot u p y x r (behind_result u p y x r is))

  spot_result : (sp : SpotTree) (x : Ident) (r : Option (List (List ℕ))) → AreAnswered scopes st.scene.others sp r → SpotResult sp x r
  spot_result (NameSpot p) x None h = absurd h
  spot_result (NameSpot p) x (Some found) h = (refl, record { rising = h.0; each = λ m. same_iff found m _ _ (alone_declared p x.span.start m) (h.1 m) })
  spot_result (BehindSpot u p e) x r h = operand_result u p e x r (name_of e) refl h
  spot_result (BehindNameSpot y) x r h = of_type y x r (behind_result usages.«Type» stands.TypeDot y x r h)
  spot_result (KeySpot l items n) x r h = subst (λ (o : Option (List (List ℕ))). SpotResult (KeySpot l items n) x o) (sym h) refl

module _ (p : PartModel) (made : IsPart p.input p.content) (n : ℕ) (f : FileTree) (u : FileUsed) (placed : IsPlacedIn (stand_of p made n f) f u) (scopes : ScopesModel) (has : HasLocals p.content.blocks n u.open_names scopes) where
  abbrev stand : FileStand
  stand = stand_of p made n f

  abbrev names_there : NameLook Meaning
  names_there = look_in (outer_meanings (stand_of p made n f)) placed.meant

  seen : (name : List ℕ) → is_blank name ≡ false → (place : ℕ) → sight_found ((looks_where stand names_there).find name place) ≡ sight_at stand.scene (found_in (scope_blocks scopes) name)
  seen name k place =
      name_sight stand.scene n stand.known (own_thing (package_seen p.input p.content.blocks (seen_by p.input)) ((seen_by p.input).types ++ made.checked.types) made.checked.declared made.is_checked.declared (trees_of p.input.source.1) refl made.blocks.package_names)
      placed.meant has.block u.open_names has.names placed.same placed.local name k place
      ∙ ap (λ (s : ScopesModel). sight_at stand.scene (found_in (scope_blocks s) name)) (sym has.scopes)

  found : (r : Option (List (List ℕ))) → SpotResult stand names_there scopes seen u.used.spot u.used.ident r → Completes p n f u r
  found None k = record { made = made; placed = placed; of_types = k }
  found (Some list) k = record { made = made; names = names_there; place = placed.place; of_names = k.0; are = k.1 }

  pub complete : (r : Option (List (List ℕ))) → AreAnswered scopes (faces_told p.input.reached) u.used.spot r → Completes p n f u r
  complete r h = found r (spot_result stand names_there scopes seen u.used.spot u.used.ident r h)

pub completes : (p : PartModel) (made : IsPart p.input p.content) (n : ℕ) (f : FileTree) (u : FileUsed) (scopes : ScopesModel) (r : Option (List (List ℕ)))
    → Contains (file_names f) u → HasLocals p.content.blocks n u.open_names scopes → AreAnswered scopes (faces_told p.input.reached) u.used.spot r → Completes p n f u r
completes p made n f u scopes r there has h = complete p made n f u (spots_are_places (stand_of p made n f) f u there) scopes has r h
