-- What a text stands for where a type is written at the top of a file that imports nothing.
use Rattle.std.proofs.Common.{◌≡◌, ℕ, ◌≤◌, Bool, true, false, List, [], length, Option, Some, None, slice_get, refl, sym, ap, ◌∙◌, subst, if◌then◌else◌}
use Rattle.std.proofs.lemmas.Option.{same_Some, slice_get_past}
use Rattle.go_path_core.specs.text_core.declared.rule.Rule.{Rule}
use Rattle.go_path_core.specs.text_core.declared.rule.Rule.TheVariants.{N6}
use Rattle.go_universe_core.specs.declared.Predeclared.{Predeclared}
use Rattle.go_universe_core.specs.Universe.{found}
use Rattle.go_term_core.specs.decl_core.declared.keys.DeclRef.{DeclRef}
use Rattle.go_names_core.specs.block_core.Blocks.{file_binding, in_some}
use Rattle.go_names_core.specs.block_core.Tables.{has, in_block}
use Rattle.go_names_core.specs.scope_core.Laws.{denotes}
use Rattle.go_names_core.specs.scope_core.Models.{scopes_model}
use Rattle.go_names_core.specs.scope_core.Scopes.{Denoted, Universe, Package}
use Rattle.go_names_core.specs.scope_core.Lookups.{by_parts, in_scope}
use Rattle.go_term_core.specs.Terms.{Term}
use Rattle.go_term_core.specs.declared.term.MemberPlace.TheVariants as places
use Rattle.go_summary_core.specs.table_core.Entries.{Entry}
use Rattle.go_expr_core.specs.denote_core.declared.things.Denoted.TheVariants as denotes_as
use Rattle.go_expr_core.specs.denote_core.declared.things.Outcome.TheVariants as outcomes
use Rattle.go_expr_core.specs.denote_core.declared.things.Stand.TheVariants as stands
use Rattle.go_expr_core.specs.denote_core.Answers.{found_answer}
use Rattle.go_summary_core.specs.handle_core.Declarations as declarations
use Rattle.go_summary_core.specs.handle_core.Declarations.{Declaration, InFile}
use Rattle.go_names_core.specs.Scope.{some_meaning}
use Rattle.go_summary_core.specs.declared_core.declared.face.Face.TheVariants as faces
use Rattle.go_summary_core.specs.declared_core.Faces.{TheFace}
use Rattle.go_package_core.specs.env_core.declared.meaning.Meaning.TheVariants as meanings
use Rattle.go_package_core.specs.env_core.Found.{TheFound, found_face, found_of, own_face}
use Rattle.go_package_core.specs.prepare.Packages.{PackageIn, scene_in}
use Rattle.go_type_doc_core.specs.Names.{BreaksRule, NamesType, TheAnswer}
use Rattle.go_type_doc_core.specs.mirrors.Named.{IsNoType, IsRuleOf, IsTypeOf}

-- what something has where a type is written; what is no type breaks N6
abbrev pub named_by : TheFound → TheAnswer
named_by f = found_answer stands.«Type» f

none_named : (d : Declaration) (o : Option TheFace) → IsNoType o → BreaksRule (named_by (found_face d o)) N6
none_named d None h = refl
none_named d (Some (faces.«Type» t)) h = absurd h
none_named d (Some (faces.Func g)) h = refl
none_named d (Some (faces.«Value» o)) h = refl

module _ (seen : PackageIn) (es : List Entry) (known : List (Option TheFace))
    (number : ℕ) (few : length seen.blocks.files ≤ number) (name : List ℕ)
  where
    abbrev block : Option DeclRef
    block = in_block seen.blocks.names name

    -- the file of the number binds nothing
    unbound : file_binding seen.blocks number name ≡ None
    unbound = by (has seen.blocks.names name)
      where
        by : (b : Bool) → (if b then None else in_some (slice_get seen.blocks.files number) name) ≡ None
        by true = refl
        by false = ap (λ o. in_some o name) (slice_get_past seen.blocks.files number few)

    abbrev scope_denotes : Option Denoted
    scope_denotes = denotes (scopes_model seen.blocks number []) name

    -- what the name denotes there, by the package block and the universe block
    denoted_is : scope_denotes ≡ by_parts None None block (found name)
    denoted_is = in_scope (scopes_model seen.blocks number []) name ∙ ap (λ f. by_parts None f block (found name)) unbound

    abbrev stands_for : Option Denoted → TheFound
    stands_for o = found_of (scene_in seen es) number known name (some_meaning meanings.Outside [] o)

    abbrev pub given : Option Denoted → TheAnswer
    given o = named_by (stands_for o)

    -- a name that denotes something is a declaration of the package block or a predeclared one
    module _ (den : Denoted) (e : scope_denotes ≡ Some den) where
      abbrev Given : (Denoted → Type 0) → Type 0
      Given P = ((d : DeclRef) → block ≡ Some d → P (Package d)) → ((u : Predeclared) → P (Universe u)) → P den

      by_block : (P : Denoted → Type 0) (o : Option DeclRef) (u : Option Predeclared) → block ≡ o → by_parts None None o u ≡ Some den → Given P
      by_block P (Some d) u at is own universe = subst P (same_Some (Package d) den is) (own d at)
      by_block P None (Some u) at is own universe = subst P (same_Some (Universe u) den is) (universe u)
      by_block P None None at is own universe = (let empty : ◌≡◌ {A = Option Denoted} None (Some den) = is in cc)

      abbrev own : DeclRef → Option TheFace
      own d = own_face (scene_in seen es) known d

      package_typed : (t : Option Term) (d : DeclRef) → block ≡ Some d → IsTypeOf seen.path own (Package d) t → NamesType (given (Some (Package d))) t
      package_typed t d at h = (let decl : Declaration = InFile seen.path (places.Declared d) in (decl, ap (λ (o : Option TheFace). (named_by (found_face decl o)).denoted) h))

      universe_typed : (t : Option Term) (u : Predeclared) → IsTypeOf seen.path own (Universe u) t → NamesType (given (Some (Universe u))) t
      universe_typed t u h = (declarations.Universe u, ap (λ (f : TheFound). (named_by f).denoted) h.2 ∙ ap (denotes_as.«Type» (declarations.Universe u)) (sym h.1))

      pub typed_given : (t : Option Term) → IsTypeOf seen.path own den t → NamesType (given (Some den)) t
      typed_given t h = by_block (λ x. IsTypeOf seen.path own x t → NamesType (given (Some x)) t) block (found name) refl (sym denoted_is ∙ e) (package_typed t) (universe_typed t) h

      package_refused : (rule : Rule) (d : DeclRef) → block ≡ Some d → IsRuleOf seen.path own (Package d) rule → BreaksRule (given (Some (Package d))) rule
      package_refused rule d at h = none_named (InFile seen.path (places.Declared d)) (own_face (scene_in seen es) known d) h.1 ∙ ap outcomes.Refused (sym h.0)

      universe_refused : (rule : Rule) (u : Predeclared) → IsRuleOf seen.path own (Universe u) rule → BreaksRule (given (Some (Universe u))) rule
      universe_refused rule u h = h

      pub refused_given : (rule : Rule) → IsRuleOf seen.path own den rule → BreaksRule (given (Some den)) rule
      refused_given rule h = by_block (λ x. IsRuleOf seen.path own x rule → BreaksRule (given (Some x)) rule) block (found name) refl (sym denoted_is ∙ e) (package_refused rule) (universe_refused rule) h
