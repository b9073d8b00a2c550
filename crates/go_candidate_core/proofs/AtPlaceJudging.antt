-- The names that are judged at a place.
use Rattle.std.proofs.Common.{◌≡◌, ℕ, Bool, true, false, List, [], Option, refl, sym, ap, ◌∙◌, subst}
use Rattle.std.specs.Prelude.{if◌then◌else◌}
use Rattle.go_tree_nodes.specs.text_core.Text.{is_blank}
use Rattle.go_tree_nodes.specs.text_core.declared.rule.Rule.TheVariants as rules
use Rattle.go_tree_nodes.specs.declared.names.Ident.{Ident}
use Rattle.go_tree_nodes.specs.declared.usage.Usage.{Usage}
use Rattle.go_tree_nodes.specs.declared.usage.Usage.TheVariants as usages
use Rattle.go_tree_nodes.specs.Trees.{ExprTree, ItemTrees}
use Rattle.go_term_core.specs.Terms.{Term, Sign}
use Rattle.go_inline_core.specs.scope_core.Models.{ScopesModel, scopes_model}
use Rattle.go_inline_core.specs.scope_core.Laws.{denotes}
use Rattle.go_expr_core.specs.local_core.mirrors.Walk.{Names, look_in}
use Rattle.go_expr_core.specs.operand_core.declared.types.Operand.{Operand}
use Rattle.go_expr_core.specs.denote_core.declared.things.Stand.{Stand}
use Rattle.go_expr_core.specs.denote_core.declared.things.Stand.TheVariants as stands
use Rattle.go_expr_core.specs.denote_core.declared.things.Found.{Found}
use Rattle.go_expr_core.specs.denote_core.declared.things.Found.TheVariants as founds
use Rattle.go_expr_core.specs.denote_core.declared.things.Dot.{Dot}
use Rattle.go_expr_core.specs.denote_core.declared.things.Dot.TheVariants as dots
use Rattle.go_expr_core.specs.denote_core.declared.things.Denoted.{Denoted}
use Rattle.go_expr_core.specs.denote_core.Answers.{found_answer, refused}
use Rattle.go_expr_core.specs.denote_core.Selectors.{dot_of}
use Rattle.go_summary_core.specs.handle_core.Declarations.{Declaration}
use Rattle.go_expr_core.specs.denote_core.CompositeKeys.{KeyContext, key_rule}
use Rattle.go_expr_core.specs.Denoting.{denoted}
use Rattle.go_expr_core.specs.Elements.{is_mixed, key_context, keys_of}
use Rattle.go_expr_core.specs.Looks.{WrittenRules, literals_at}
use Rattle.go_expr_core.specs.Places.{is_name}
use Rattle.go_expr_core.specs.Uses.{Context, SelectorBehind, rule}
use Rattle.go_summary_core.specs.declared_core.Faces.{TheFace}
use Rattle.go_cursor_core.specs.Used.{LiteralType, BehindNameSpot, BehindSpot, KeySpot}
use Rattle.go_cursor_core.specs.Contexts.{context_of_spot, other_keys, type_of_literal}
use Rattle.go_inline_core.specs.names_core.Scope.{some_meaning}
use Rattle.go_body_core.specs.env_core.declared.meaning.Meaning.{Meaning}
use Rattle.go_body_core.specs.env_core.declared.meaning.Meaning.TheVariants as meanings
use Rattle.go_body_core.specs.env_core.Scenes.{SceneModel}
use Rattle.go_body_core.specs.env_core.Looks.{TheLooks, looks_in}
use Rattle.go_candidate_core.specs.after_dot.Names.{AreNames, is_declared}
use Rattle.go_candidate_core.proofs.AfterDotChosen.{no_names}
use Rattle.go_candidate_core.specs.at_place.Types.{noted_rules}
use Rattle.go_candidate_core.specs.at_place.Arounds.{ListsAround, rests_on_types}

-- behind an operand, by what stands left of the dot

abbrev pub behind_context : Usage → Dot Term Declaration → Context Term Declaration
behind_context usage dot = SelectorBehind usage dot

module _ (looks : TheLooks) (usage : Usage) (place : Stand) (e : ExprTree) where
  abbrev pub Lists : Dot Term Declaration → List (List ℕ) → Type 0
  Lists dot names = rests_on_types (behind_context usage dot) ≡ true → (offset : ℕ) → AreNames (λ name. is_declared (rule looks (SelectorBehind usage dot) offset name)) names

  pub lists_by : (d : Denoted Term Sign Declaration) (dot : Dot Term Declaration) (names : List (List ℕ)) → d ≡ denoted looks place e → dot ≡ dot_of (is_name e) d → Lists dot names → ListsAround looks (BehindSpot usage place e) names
  lists_by d dot names is dots_are h =
      subst (λ (x : Dot Term Declaration). Lists x names) (dots_are ∙ ap (dot_of (is_name e)) is) h

  pub value_lists : (o : Operand Term) (names : List (List ℕ)) → ((offset : ℕ) → AreNames (λ name. is_declared (rule looks (SelectorBehind usage (dots.«Value» o)) offset name)) names) → Lists (dots.«Value» o) names
  value_lists o names h = λ rests. h

  pub package_lists : (d : Declaration) (names : List (List ℕ)) → Lists (dots.«Package» d) names
  package_lists d names = λ rests. (let lie : false ≡ true = rests in absurd cc)

  pub refused_lists : (names : List (List ℕ)) → Lists dots.Refused names
  refused_lists names = λ rests. (let lie : false ≡ true = rests in absurd cc)

  pub untyped_lists : Lists dots.Untyped []
  untyped_lists = λ rests offset. no_names (λ name. is_declared (rule looks (SelectorBehind usage dots.Untyped) offset name)) (λ name. by (is_blank name))
    where
      by : (b : Bool) → is_declared (if b then refused {T = Term} {S = Sign} {D = Declaration} {P = List ℕ} rules.S8 else refused rules.S4).outcome ≡ false
      by true = refl
      by false = refl

-- the look-ups of a place, by what they are made of

module _ (locals : Names Meaning) (types : List (ℕ × Term)) where
  abbrev seen_by : SceneModel → ℕ → List (Option TheFace) → List Meaning → ScopesModel → TheLooks
  seen_by s file known top scopes = looks_in s file known (noted_rules s.types types) (look_in (λ name. some_meaning meanings.Outside top (denotes scopes name)) locals)

  pub seen_same : (s t : SceneModel) (file number : ℕ) (known faces : List (Option TheFace)) (top : List Meaning) (scopes : ScopesModel) → s ≡ t → file ≡ number → known ≡ faces → top ≡ [] → scopes ≡ scopes_model t.blocks number []
      → seen_by s file known top scopes ≡ seen_by t number faces [] (scopes_model t.blocks number [])
  seen_same s t file number known faces top scopes a b c d e = λ i. seen_by (a i) (b i) (c i) (d i) (e i)

-- behind the dot of a type's name nothing rests on types

found_rests : (f : Found Term Sign Declaration) → rests_on_types (behind_context usages.«Type» (dot_of true (found_answer {P = List ℕ} stands.TypeDot f).denoted)) ≡ false
found_rests founds.Missing = refl
found_rests founds.BadImport = refl
found_rests founds.Outside = refl
found_rests (founds.«Package» d) = refl
found_rests (founds.«Type» d t) = refl
found_rests (founds.Func d s) = refl
found_rests (founds.Builtin d b) = refl
found_rests (founds.«Value» d value) = refl

pub name_rests : (looks : TheLooks) (x : Ident) → rests_on_types (context_of_spot looks (BehindNameSpot x)) ≡ false
name_rests looks x = by (is_blank x.name)
  where
    by : (b : Bool) → rests_on_types (behind_context usages.«Type» (dot_of true (if b then refused {T = Term} {S = Sign} {D = Declaration} {P = List ℕ} rules.N8 else found_answer stands.TypeDot (looks.find x.name x.span.start)).denoted)) ≡ false
    by true = refl
    by false = found_rests (looks.find x.name x.span.start)

-- the keys of an element

module _ (s : SceneModel) (file : ℕ) (known : List (Option TheFace)) (w : WrittenRules Term) (beyond : List ℕ → Option Meaning) (locals : Names Meaning) where
  abbrev pub there : TheLooks
  there = looks_in s file known w (look_in beyond locals)

  pub key_lists : (l : LiteralType) (items : ItemTrees) (at : ℕ) (t : Option Term) (mixed : Bool) (others names copies : List (List ℕ)) → t ≡ type_of_literal there l → mixed ≡ is_mixed (keys_of items) → others ≡ other_keys at items → copies ≡ names
      → AreNames (λ name. is_declared (key_rule (literals_at there 0) (key_context t mixed others) name)) names → ListsAround there (KeySpot l items at) copies
  key_lists l items at t mixed others names copies a b c d are = λ rests offset.
      subst (λ (ns : List (List ℕ)). AreNames (λ name. is_declared (rule there (context_of_spot there (KeySpot l items at)) offset name)) ns) (sym d)
      (subst (λ (k : KeyContext Term). AreNames (λ name. is_declared (key_rule (literals_at there 0) k name)) names) (λ i. key_context (a i) (b i) (c i)) are)
