-- When a name uses the import that binds it.
use Rattle.std.proofs.Common.{◌≡◌, ◌⊎◌, inl, inr, ℕ, true, false, true≢false, ◌&&◌, List, Option, Some, None, refl, sym, ap, ◌∙◌}
use Rattle.std.specs.Str.{bytes_eq}
use Rattle.std.proofs.lemmas.Bool.{and_from, and_parts}
use Rattle.std.proofs.lemmas.Slice.Eq.{bytes_eq-Decides}
use Rattle.go_path_core.specs.text_core.declared.rule.Rule.{Rule}
use Rattle.go_tree_core.specs.declared.occurrence.Role.{Role}
use Rattle.go_tree_core.specs.declared.occurrence.Role.TheVariants as roles
use Rattle.go_term_core.specs.decl_core.declared.keys.DeclRef.{DeclRef}
use Rattle.go_term_core.specs.decl_core.declared.keys.DeclKey.{DeclKey}
use Rattle.go_term_core.specs.declared.term.MemberPlace.{MemberPlace}
use Rattle.go_term_core.specs.declared.term.MemberPlace.TheVariants as member
use Rattle.go_block_core.specs.declared.binding.Target.{Target}
use Rattle.go_block_core.specs.declared.binding.Target.TheVariants as targets
use Rattle.go_summary_core.specs.handle_core.Declarations.{Universe, OfError, Package, InFile}
use Rattle.go_expr_core.specs.denote_core.declared.things.Outcome.TheVariants as outcomes
use Rattle.go_summary_core.specs.declared_core.Written.{same_decl_place}
use Rattle.go_report_core.specs.usage.Used.{TheOutcome, FileUse, has_next, is_declared, is_exported, is_qualifier, uses_binding}

-- a qualifier of a package, with a selector behind it that has a declaration
pub record Qualifies (r : Role) (o : TheOutcome) (next : Option FileUse) : Type 0 where
  pub role : r ≡ roles.Qualifier
  pub path : List ℕ
  pub denotes : o ≡ outcomes.Declared (Package path)
  pub selector : FileUse
  pub behind : next ≡ Some selector
  pub declared : (rule : Rule) → selector.outcome ≡ outcomes.Refused rule → ⊥

-- a declaration that a dot import binds
pub record Dots (t : Target) (o : TheOutcome) : Type 0 where
  pub key : DeclKey
  pub dot : t ≡ targets.Exported key
  pub decl : DeclRef
  pub outcome : o ≡ outcomes.Declared (InFile key.path (member.Declared decl))
  pub same : same_decl_place key.decl decl ≡ true

is_left : (r : Role) → is_qualifier r ≡ true → r ≡ roles.Qualifier
is_left roles.Qualifier h = refl
is_left roles.Import h = absurd (true≢false (sym h))
is_left roles.«Type» h = absurd (true≢false (sym h))
is_left roles.«Value» h = absurd (true≢false (sym h))
is_left roles.Callee h = absurd (true≢false (sym h))
is_left (roles.Selector usage) h = absurd (true≢false (sym h))
is_left roles.Key h = absurd (true≢false (sym h))
is_left roles.Call h = absurd (true≢false (sym h))

not_refused : (o : TheOutcome) → is_declared o ≡ true → (rule : Rule) → o ≡ outcomes.Refused rule → ⊥
not_refused o h rule e = true≢false (sym h ∙ ap is_declared e)

has_declared : (o : TheOutcome) → ((rule : Rule) → o ≡ outcomes.Refused rule → ⊥) → is_declared o ≡ true
has_declared (outcomes.Declared d) h = refl
has_declared (outcomes.Selected d path) h = refl
has_declared (outcomes.Refused rule) h = absurd (h rule refl)

qualified : (r : Role) (path : List ℕ) (next : Option FileUse) → (is_qualifier r && has_next next) ≡ true → Qualifies r (outcomes.Declared (Package path)) next
qualified r path None h = absurd (true≢false (sym (and_parts (is_qualifier r) false h).1))
qualified r path (Some s) h =
    let parts = and_parts (is_qualifier r) (is_declared s.outcome) h in
    record { role = is_left r parts.0; path = path; denotes = refl; selector = s; behind = refl; declared = not_refused s.outcome parts.1 }

dotted : (t : Target) (path : List ℕ) (d : DeclRef) → is_exported t path d ≡ true → Dots t (outcomes.Declared (InFile path (member.Declared d)))
dotted (targets.«Package» p) path d h = absurd (true≢false (sym h))
dotted (targets.Refused rule) path d h = absurd (true≢false (sym h))
dotted (targets.Exported k) path d h =
    let parts = and_parts (same_decl_place k.decl d) (bytes_eq k.path path) h in
    let same : k.path ≡ path = (bytes_eq-Decides k.path path).0 parts.1 in
    record { key = k; dot = refl; decl = d; outcome = ap (λ (p : List ℕ). let o : TheOutcome = outcomes.Declared (InFile p (member.Declared d)) in o) (sym same); same = parts.0 }

placed : (t : Target) (path : List ℕ) (place : MemberPlace) (r : Role) (next : Option FileUse) → uses_binding t r (outcomes.Declared (InFile path place)) next ≡ true → Dots t (outcomes.Declared (InFile path place))
placed t path (member.Declared d) r next h = dotted t path d h
placed t path (member.Local l) r next h = absurd (true≢false (sym h))

pub used_is : (t : Target) (r : Role) (o : TheOutcome) (next : Option FileUse) → uses_binding t r o next ≡ true → Qualifies r o next ⊎ Dots t o
used_is t r (outcomes.Declared (Package path)) next h = inl (qualified r path next h)
used_is t r (outcomes.Declared (InFile path place)) next h = inr (placed t path place r next h)
used_is t r (outcomes.Declared (Universe name)) next h = absurd (true≢false (sym h))
used_is t r (outcomes.Declared OfError) next h = absurd (true≢false (sym h))
used_is t r (outcomes.Selected d path) next h = absurd (true≢false (sym h))
used_is t r (outcomes.Refused rule) next h = absurd (true≢false (sym h))

pub qualifies_used : (t : Target) (r : Role) (o : TheOutcome) (next : Option FileUse) → Qualifies r o next → uses_binding t r o next ≡ true
qualifies_used t r o next q =
    let there : has_next (Some q.selector) ≡ true = has_declared q.selector.outcome q.declared in
    ap (λ x. uses_binding t x o next) q.role
    ∙ (ap (λ x. uses_binding t roles.Qualifier x next) q.denotes
    ∙ (ap has_next q.behind ∙ there))

pub dots_used : (t : Target) (r : Role) (o : TheOutcome) (next : Option FileUse) → Dots t o → uses_binding t r o next ≡ true
dots_used t r o next d =
    ap (λ x. uses_binding t r x next) d.outcome
    ∙ (ap (λ x. is_exported x d.key.path d.decl) d.dot
    ∙ and_from (same_decl_place d.key.decl d.decl) (bytes_eq d.key.path d.key.path) d.same ((bytes_eq-Decides d.key.path d.key.path).1 refl))
