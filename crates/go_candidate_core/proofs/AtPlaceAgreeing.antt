-- What an expression denotes rests on the struct types that it writes by what they are alone.
use Rattle.std.proofs.Common.{◌≡◌, ℕ, Bool, false, List, [], ◌∷◌, ◌++◌, Option, Some, None, refl, sym, ap, ap₂, ◌∙◌}
use Rattle.std.specs.Prelude.{Contains, if◌then◌else◌}
use Rattle.std.proofs.lemmas.List.Elements.{Contains-append_left, Contains-append_right}
use Rattle.go_tree_nodes.specs.declared.types.TypeName.{TypeName}
use Rattle.go_tree_nodes.specs.declared.types.TypeName.TheVariants as type_names
use Rattle.go_tree_nodes.specs.Trees.{TypeTree, ExprTree, ItemTrees, Integer, Text, Named, Paren, Unary, Binary, Select, Call, Literal, StructLiteral, NoItems, Item}
use Rattle.go_term_core.specs.Terms.{Term, NoType, Sign}
use Rattle.go_term_core.specs.settling.Settled.{settled}
use Rattle.go_body_core.specs.typexpr_core.WrittenWritten as types
use Rattle.go_body_core.specs.typexpr_core.WrittenWritten.{term_of}
use Rattle.go_cursor_core.specs.scope_stack.Blocks.{or_else}
use Rattle.go_expr_core.specs.local_core.Binding.{NameLook}
use Rattle.go_expr_core.specs.local_core.mirrors.Walk.{Names, latest, look_in}
use Rattle.go_expr_core.specs.denote_core.declared.things.Stand.{Stand}
use Rattle.go_expr_core.specs.denote_core.declared.things.Stand.TheVariants as stands
use Rattle.go_expr_core.specs.denote_core.declared.things.Denoted.{Denoted}
use Rattle.go_expr_core.specs.denote_core.Selectors.{dot_of, selector_answer}
use Rattle.go_expr_core.specs.denote_core.Arguments.{arguments_of, is_free}
use Rattle.go_expr_core.specs.denote_core.Calls.{call_answer}
use Rattle.go_expr_core.specs.denote_core.CompositeLiterals.{literal_denotes}
use Rattle.go_summary_core.specs.handle_core.Declarations.{Declaration}
use Rattle.go_expr_core.specs.Looks.{WrittenRules, look_of_place}
use Rattle.go_expr_core.specs.Places.{inside, under_place, left_place, whole, is_name, is_literal, is_lone_call}
use Rattle.go_expr_core.specs.Operators.{unary_of, binary_of}
use Rattle.go_expr_core.specs.Denoting.{named_type, written_type, denoted, denoted_items}
use Rattle.go_expr_core.specs.Elements.{is_mixed, keys_of, key_context}
use Rattle.go_expr_core.specs.Locality.{needed_types, needed_types_in}
use Rattle.go_expr_core.specs.Uses.{Context, NameAt, SelectorBehind, KeyAmong, rule}
use Rattle.go_summary_core.specs.declared_core.Faces.{TheFace}
use Rattle.go_cursor_core.specs.Used.{OfName, OfWritten, SpotTree, NameSpot, BehindSpot, BehindNameSpot, KeySpot}
use Rattle.go_cursor_core.specs.Contexts.{context_of_spot, other_keys}
use Rattle.go_body_core.specs.env_core.declared.meaning.Meaning.{Meaning}
use Rattle.go_body_core.specs.env_core.Scenes.{SceneModel}
use Rattle.go_body_core.specs.env_core.Looks.{TheLooks, looks_in}
use Rattle.go_body_core.specs.function.Stands.{FileStand, kinds_in_scene, types_where, looks_where, outer_meanings}
use Rattle.go_body_core.specs.function.Types.{is_local_meaning, named_where}
use Rattle.go_body_core.proofs.FunctionRegions.{none_outside}
use Rattle.go_inline_core.specs.Functions.{looked_up_ident}
use Rattle.go_candidate_core.specs.after_dot.Names.{is_declared}
use Rattle.go_candidate_core.proofs.AfterDotChosen.{same_names}
use Rattle.go_candidate_core.proofs.AfterDotKeeping.{in_first}
use Rattle.go_candidate_core.specs.at_place.Types.{AreNoted, meaning_around, noted_rules, noted_type}
use Rattle.go_candidate_core.specs.at_place.Arounds.{ListsAround, rests_on_types, spot_types}

module _ (s : SceneModel) (file : ℕ) (known : List (Option TheFace)) (look : NameLook Meaning) (w v : WrittenRules Term) where
  abbrev one : TheLooks
  one = looks_in s file known w look

  abbrev other : TheLooks
  other = looks_in s file known v look

  -- they make the same of these types
  abbrev pub Agree : List TypeTree → Type 0
  Agree ts = (t : TypeTree) → Contains ts t → written_type one t ≡ written_type other t

  type_name_same : (n : TypeName) → named_type one n ≡ named_type other n
  type_name_same (type_names.Plain x) = refl
  type_name_same (type_names.Qualified p dot x) = refl

  front : (ts us : List TypeTree) → Agree (ts ++ us) → Agree ts
  front ts us h = λ t c. h t (Contains-append_left ts us t c)

  back : (ts us : List TypeTree) → Agree (ts ++ us) → Agree us
  back ts us h = λ t c. h t (Contains-append_right ts us t c)

  mutual
    denoted_same : (p : Stand) (e : ExprTree) → Agree (needed_types e) → denoted one p e ≡ denoted other p e
    denoted_same p (Integer n span) h = refl
    denoted_same p (Text t) h = refl
    denoted_same p (Named x) h = refl
    denoted_same p (Paren first e last) h = denoted_same (inside p) e h
    denoted_same p (Unary op span e) h = ap (λ (d : Denoted Term Sign Declaration). (unary_of one.types op (is_literal e) d).denoted) (denoted_same (under_place op p) e h)
    denoted_same p (Binary a op span b) h =
        ap₂ (λ (c d : Denoted Term Sign Declaration). (binary_of one.types op c d).denoted) (denoted_same stands.«Value» a (front (needed_types a) (needed_types b) h)) (denoted_same stands.«Value» b (back (needed_types a) (needed_types b) h))
    denoted_same p (Select e dot x) h =
        ap (λ (d : Denoted Term Sign Declaration). (selector_answer (look_of_place one x.span.start) (whole p) (dot_of (is_name e) d) x.name).denoted) (denoted_same (left_place p e) e h)
    denoted_same p (Call e first items last) h =
        ap₂ (λ (d : Denoted Term Sign Declaration) (ds : List (Denoted Term Sign Declaration)). (call_answer (look_of_place one first.start) d (is_free (is_lone_call items) ds) (arguments_of (look_of_place one first.start) ds)).denoted)
        (denoted_same stands.Callee e (front (needed_types e) (needed_types_in items) h)) (items_same items (back (needed_types e) (needed_types_in items) h))
    denoted_same p (Literal n first items last) h = ap literal_denotes (type_name_same n)
    denoted_same p (StructLiteral t first items last) h = ap literal_denotes (h t (in_first t []))

    items_same : (items : ItemTrees) → Agree (needed_types_in items) → denoted_items one items ≡ denoted_items other items
    items_same NoItems h = refl
    items_same (Item key e comma rest) h =
        ap₂ (λ (d : Denoted Term Sign Declaration) (ds : List (Denoted Term Sign Declaration)). d ∷ ds) (denoted_same stands.«Value» e (front (needed_types e) (needed_types_in rest) h)) (items_same rest (back (needed_types e) (needed_types_in rest) h))

  -- so are the contexts of spots, and what their rules give

  context_same : (sp : SpotTree) → Agree (spot_types sp) → context_of_spot one sp ≡ context_of_spot other sp
  context_same (NameSpot p) h = refl
  context_same (BehindSpot u p e) h = ap (λ (d : Denoted Term Sign Declaration). SelectorBehind u (dot_of (is_name e) d)) (denoted_same p e h)
  context_same (BehindNameSpot x) h = refl
  context_same (KeySpot (OfName n) items k) h = ap (λ (t : Option Term). KeyAmong (key_context t (is_mixed (keys_of items)) (other_keys k items))) (type_name_same n)
  context_same (KeySpot (OfWritten t) items k) h = ap (λ (u : Option Term). KeyAmong (key_context u (is_mixed (keys_of items)) (other_keys k items))) (h t (in_first t []))

  rule_same : (c : Context Term Declaration) (offset : ℕ) (name : List ℕ) → rule one c offset name ≡ rule other c offset name
  rule_same (NameAt p) offset name = refl
  rule_same (SelectorBehind u dot) offset name = refl
  rule_same (KeyAmong k) offset name = refl

  pub lists_same : (sp : SpotTree) (names : List (List ℕ)) → Agree (spot_types sp) → ListsAround other sp names → ListsAround one sp names
  lists_same sp names h lists = λ rests offset.
      let e = context_same sp h in
      same_names (λ name. is_declared (rule other (context_of_spot other sp) offset name)) (λ name. is_declared (rule one (context_of_spot one sp) offset name)) names
      (λ name. ap (λ (c : Context Term Declaration). is_declared (rule one c offset name)) e ∙ ap is_declared (rule_same (context_of_spot other sp) offset name))
      (lists (sym (ap rests_on_types e) ∙ rests) offset)

-- types that are noted are what their names make them where they stand

module _ (st : FileStand) (locals : Names Meaning) where
  abbrev there : NameLook Meaning
  there = look_in (outer_meanings st) locals

  hidden_alike : (found outside : Option Meaning) → is_local_meaning outside ≡ false → is_local_meaning found ≡ is_local_meaning (or_else found outside)
  hidden_alike None outside h = sym h
  hidden_alike (Some m) outside h = refl

  mean_same : (n : TypeName) → meaning_around locals st.top n ≡ named_where there st.top n
  mean_same n =
      ap (λ (b : Bool). if b then NoType else st.top n)
      (hidden_alike (latest locals (looked_up_ident n).name) (outer_meanings st (looked_up_ident n).name) (none_outside st.scene.blocks st.file.file (looked_up_ident n).name))

  pub noted_agree : (trees : List TypeTree) (noted : List (ℕ × Term)) → AreNoted (kinds_in_scene st.scene) st.file (meaning_around locals st.top) trees noted
      → Agree st.scene st.file.file st.known there (types_where st there) (noted_rules st.scene.types noted) trees
  noted_agree trees noted h = λ t c.
      let means : meaning_around locals st.top ≡ named_where there st.top = λ i n. mean_same n i in
      sym (ap (noted_type st.scene.types) (h t c) ∙ ap (λ (m : types.Meaning). noted_type st.scene.types (Some (settled (kinds_in_scene st.scene) (term_of m st.file t)))) means)

  -- what is listed by them is what is listed there
  pub names_there : (sp : SpotTree) (noted : List (ℕ × Term)) (names : List (List ℕ)) → AreNoted (kinds_in_scene st.scene) st.file (meaning_around locals st.top) (spot_types sp) noted
      → ListsAround (looks_in st.scene st.file.file st.known (noted_rules st.scene.types noted) there) sp names → ListsAround (looks_where st there) sp names
  names_there sp noted names h lists = lists_same st.scene st.file.file st.known there (types_where st there) (noted_rules st.scene.types noted) sp names (noted_agree (spot_types sp) noted h) lists
