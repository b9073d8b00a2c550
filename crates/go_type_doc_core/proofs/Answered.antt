-- What a text names where a type is written at the top of a file that imports nothing.
use Rattle.std.proofs.Common.{◌≡◌, ◌⊎◌, inl, inr, ℕ, ◌≤◌, true, false, List, [], ◌∷◌, length, Option, Some, None, sym, ap, ◌∙◌, subst, arith, if◌then◌else◌}
use Rattle.std.proofs.lemmas.List.{length-map}
use Rattle.go_path_core.specs.text_core.Text.{is_blank}
use Rattle.go_path_core.specs.text_core.declared.rule.Rule.{Rule}
use Rattle.go_path_core.specs.text_core.declared.rule.Rule.TheVariants.{M0, N1, N8}
use Rattle.go_graph_core.specs.Packages.{AllHaveTrees, Trees, trees_of}
use Rattle.go_graph_core.proofs.Assemblies.{as_many}
use Rattle.go_names_core.specs.block_core.declared.imports.Imported.{Imported}
use Rattle.go_names_core.specs.block_core.Blocks.{BlocksModel}
use Rattle.go_names_core.specs.block_core.Holding.{file_block}
use Rattle.go_names_core.specs.block_core.Naming.{package_named}
use Rattle.go_scope_stack.specs.Blocks.{found_in}
use Rattle.go_names_core.specs.scope_core.Laws.{denotes}
use Rattle.go_names_core.specs.scope_core.Models.{ScopesModel, scopes_model}
use Rattle.go_names_core.specs.scope_core.Scopes.{Denoted, scope_blocks}
use Rattle.go_term_core.specs.Terms.{Term}
use Rattle.go_expr_core.specs.denote_core.declared.things.Stand.TheVariants as stands
use Rattle.go_expr_core.specs.denote_core.Answers.{found_answer, refused}
use Rattle.go_term_core.specs.decl_core.declared.keys.DeclRef.{DeclRef}
use Rattle.go_package_core.specs.env_core.Found.{face_at}
use Rattle.go_summary_core.specs.declared_core.Faces.{TheFace}
use Rattle.go_summary_core.specs.declared_core.Written.{WrittenOf}
use Rattle.go_package_core.specs.prepare.Packages.{PackageIn}
use Rattle.go_package_core.specs.package_part.Inputs.{path_in}
use Rattle.go_package_core.specs.package_part.Parts.{IsPart, PartModel, package_seen, seen_by}
use Rattle.go_type_doc_core.specs.Naming.{IsOwnRefusal, IsOwnType, fresh_look, own_answer, types_seen}
use Rattle.go_type_doc_core.specs.Names.{BreaksRule, NamesType, TheAnswer}
use Rattle.go_type_doc_core.specs.mirrors.Named.{HasOwnPlaces, IsRuleIn, IsRuleOf, IsTypeIn, IsTypeOf, known_of, own_known}
use Rattle.go_type_doc_core.proofs.Fresh.{given, refused_given, typed_given}

-- files have no more blocks than there are files

named_count : (ts : Trees) (files : List (List Imported)) → length (package_named ts files) ≤ length ts
named_count [] files = omega arith
named_count (t ∷ ts) [] = omega arith
named_count (t ∷ ts) (is ∷ files) = let le = named_count ts files in omega (arith, le)

module _ (p : PartModel) (made : IsPart p.input p.content) (have : AllHaveTrees p.input.source.1) (name : List ℕ) where
  abbrev number : ℕ
  number = length p.input.source.1

  few : length p.content.blocks.files ≤ number
  few =
      let ts = trees_of p.input.source.1 in
      let files = ap length made.blocks.file_names ∙ length-map (package_named ts p.input.imports) file_block in
      let most = named_count ts p.input.imports in
      let trees = as_many p.input.source.1 have in
      omega (arith, files, most, trees)

  abbrev seen : PackageIn
  seen = package_seen p.input p.content.blocks (seen_by p.input)

  abbrev answer : Option Denoted → TheAnswer
  answer o = given seen (types_seen p) p.content.declared number few name o

  module _ (plain : is_blank name ≡ false) where
    answer_is : (o : Option Denoted) → denotes (scopes_model p.content.blocks number []) name ≡ o → own_answer p name ≡ answer o
    answer_is o e = ap (λ b. if b then refused N8 else answer (denotes (scopes_model p.content.blocks number []) name)) plain ∙ ap answer e

    pub undeclared : denotes (scopes_model p.content.blocks number []) name ≡ None → IsOwnRefusal p name N1
    undeclared e = ap (λ (a : TheAnswer). a.outcome) (answer_is None e)

    -- by what is known of the package's own declarations
    module _ (den : Denoted) (e : denotes (scopes_model p.content.blocks number []) name ≡ Some den) where
      pub typed_in : (t : Option Term) → IsTypeIn p den t → IsOwnType p name t
      typed_in t h = subst (λ (a : TheAnswer). NamesType a t) (sym (answer_is (Some den) e)) (typed_given seen (types_seen p) p.content.declared number few name den e t h)

      pub refused_in : (rule : Rule) → (rule ≡ M0) ⊎ IsRuleIn p den rule → (rule ≡ M0) ⊎ IsOwnRefusal p name rule
      refused_in rule (inl memory) = inl memory
      refused_in rule (inr h) = inr (subst (λ (a : TheAnswer). BreaksRule a rule) (sym (answer_is (Some den) e)) (refused_given seen (types_seen p) p.content.declared number few name den e rule h))

-- the same by any list that has the declarations at their places
module _ (p : PartModel) (den : Denoted) (path : List ℕ) (is : path ≡ path_in p.input) (ws : List WrittenOf) (placed : HasOwnPlaces p ws) (known : List (Option TheFace)) (all : known ≡ p.content.declared) where
  own_is : known_of ws known ≡ own_known p
  own_is = λ j d. face_at (all j) (placed d j)

  pub typed_own : (t : Option Term) → IsTypeOf path (known_of ws known) den t → IsTypeIn p den t
  typed_own t h = subst (λ (q : List ℕ). IsTypeOf q (own_known p) den t) is (subst (λ (f : DeclRef → Option TheFace). IsTypeOf path f den t) own_is h)

  pub refused_own : (rule : Rule) → (rule ≡ M0) ⊎ IsRuleOf path (known_of ws known) den rule → (rule ≡ M0) ⊎ IsRuleIn p den rule
  refused_own rule (inl memory) = inl memory
  refused_own rule (inr h) = inr (subst (λ (q : List ℕ). IsRuleOf q (own_known p) den rule) is (subst (λ (f : DeclRef → Option TheFace). IsRuleOf path f den rule) own_is h))

pub own_blank : (p : PartModel) (name : List ℕ) → is_blank name ≡ true → IsOwnRefusal p name N8
own_blank p name is =
    let whole : own_answer p name ≡ refused N8 = ap (λ b. if b then refused N8 else found_answer stands.«Type» ((fresh_look p (seen_by p.input) (types_seen p)).names.find name)) is in
    ap (λ (a : TheAnswer). a.outcome) whole

-- the scope in which it is looked up
pub scope_is : (p : PartModel) (b : BlocksModel) (n : ℕ) (s : ScopesModel) (name : List ℕ) (o : Option Denoted) → s ≡ scopes_model b n [] → b ≡ p.content.blocks → n ≡ length p.input.source.1 → o ≡ found_in (scope_blocks s) name
    → denotes (scopes_model p.content.blocks (length p.input.source.1) []) name ≡ o
scope_is p b n s name o is blocks number found =
    sym (found ∙ ap (λ (m : ScopesModel). found_in (scope_blocks m) name) (is ∙ (ap (λ (x : BlocksModel). scopes_model x n []) blocks ∙ ap (λ (k : ℕ). scopes_model p.content.blocks k []) number)))
