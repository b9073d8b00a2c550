-- Aliases with their targets.
use Rattle.std.proofs.Common.{◌≡◌, ℕ, ◌⊎◌, inl, inr, Bool, true, false, List, [], ◌∷◌, Option, Some, None, option_map, map, length, refl, sym, ap, ◌∙◌, subst}
use Rattle.std.specs.Prelude.{if◌then◌else◌}
use Rattle.go_term_core.specs.decl_core.declared.keys.DeclKey.{DeclKey}
use Rattle.go_term_core.specs.decl_core.declared.keys.DeclRef.{DeclRef}
use Rattle.go_term_core.specs.Terms.{Term, NoType, Defined}
use Rattle.go_type_core.specs.table_core.Entries.{same_decl}
use Rattle.go_typexpr_core.specs.aliases.Aliases.{alias_in, own_alias, aliased, alias_ends, end_of}
use Rattle.go_typexpr_core.specs.aliases.Laws.{AliasesLead, IsTarget, TargetsAreEnds, OneTarget}
use Rattle.go_typexpr_core.proofs.AliasesChains.{end_is, target_end}
use Rattle.go_typexpr_core.proofs.AliasesNumbers.{numbered}

abbrev with_ends : (Term → Term) → List (DeclRef × Term) → List (DeclRef × Term)
with_ends f xs = map (λ a. (a.0, f a.1)) xs

in_either : (f : Term → Term) (b : Bool) (x : Term) (o : Option Term) → (if b then Some (f x) else option_map f o) ≡ option_map f (if b then Some x else o)
in_either f true x o = refl
in_either f false x o = refl

in_all : (f : Term → Term) (xs : List (DeclRef × Term)) (d : DeclRef) → alias_in (with_ends f xs) d ≡ option_map f (alias_in xs d)
in_all f [] d = refl
in_all f (a ∷ xs) d = ap (λ o. if same_decl a.0 d then Some (f a.1) else o) (in_all f xs d) ∙ in_either f (same_decl a.0 d) a.1 (alias_in xs d)

module _ (xs : List (DeclRef × Term)) (path : List ℕ) where
  abbrev end : Term → Term
  end t = end_of (length xs) xs path t

  pub end_in : (d : DeclRef) → alias_in (alias_ends xs path) d ≡ option_map end (alias_in xs d)
  end_in d = in_all end xs d

  pub target_in : (d : DeclRef) (w u : Term) → alias_in xs d ≡ Some w → IsTarget xs path w u → alias_in (alias_ends xs path) d ≡ Some u
  target_in d w u h g =
      let n = numbered xs d w h in
      let same : end n.1.1 ≡ u = target_end xs path n.0 n.1 u n.3 (subst (λ (x : Term). IsTarget xs path x u) (sym n.4) g) in
      end_in d ∙ (ap (option_map end) h ∙ ap Some (ap end (sym n.4) ∙ same))

  abbrev Ends : Term → Term → Type 0
  Ends t u = IsTarget xs path t u ⊎ ((u ≡ NoType) × ((v : Term) → IsTarget xs path t v → ⊥))

  ends_of : (d : DeclRef) (w : Term) → alias_in xs d ≡ Some w → Ends w (end w)
  ends_of d w h = (let n = numbered xs d w h in subst (λ (x : Term). Ends x (end x)) n.4 (end_is xs path n.0 n.1 n.3))

  endless_in : (d : DeclRef) (w : Term) → alias_in xs d ≡ Some w → ((u : Term) → IsTarget xs path w u → ⊥) → alias_in (alias_ends xs path) d ≡ Some NoType
  endless_in d w h z = end_in d ∙ (ap (option_map end) h ∙ ap Some (elim (ends_of d w h) [ inl g ↦ absurd (z (end w) g) | inr r ↦ r.0 ]))

  only_in : (d : DeclRef) (u : Term) (o : Option Term) → alias_in xs d ≡ o → option_map end o ≡ Some u → (w : Term) × (alias_in xs d ≡ Some w) × Ends w u
  only_in d u None h e = absurd (cc)
  only_in d u (Some w) h e = (let same : end w ≡ u = cc in (w, h, subst (Ends w) same (ends_of d w h)))

  pub target_from : (d : DeclRef) (u : Term) → alias_in (alias_ends xs path) d ≡ Some u → (w : Term) × (alias_in xs d ≡ Some w) × Ends w u
  target_from d u h = only_in d u (alias_in xs d) refl (sym (end_in d) ∙ h)

  pub none_in : (d : DeclRef) → alias_in xs d ≡ None → alias_in (alias_ends xs path) d ≡ None
  none_in d h = end_in d ∙ ap (option_map end) h

pub targets_are_ends : TargetsAreEnds
targets_are_ends = record {
  ends = λ xs path d w u h g. target_in xs path d w u h g;
  endless = λ xs path d w h z. endless_in xs path d w h z;
  only = λ xs path d u h. target_from xs path d u h;
  others = λ xs path d h. none_in xs path d h;
}

leads_no_more : (xs : List (DeclRef × Term)) (path : List ℕ) (t u : Term) (k : DeclKey) (ks : List DeclKey) (v : Term) → t ≡ u → aliased xs path u ≡ None → AliasesLead xs path t (k ∷ ks) v → ⊥
leads_no_more xs path t u k ks v e none h =
    let both : None ≡ Some h.1.0 = sym none ∙ (ap (aliased xs path) (sym e ∙ h.0) ∙ h.1.1) in
    cc

one : (xs : List (DeclRef × Term)) (path : List ℕ) (ks js : List DeclKey) (t u v : Term) → AliasesLead xs path t ks u → aliased xs path u ≡ None → AliasesLead xs path t js v → aliased xs path v ≡ None → u ≡ v
one xs path [] [] t u v g none h gone = sym g ∙ h
one xs path [] (j ∷ js) t u v g none h gone = absurd (leads_no_more xs path t u j js v g none h)
one xs path (k ∷ ks) [] t u v g none h gone = absurd (leads_no_more xs path t v k ks u h gone g)
one xs path (k ∷ ks) (j ∷ js) t u v g none h gone =
    let keys : Defined k ≡ Defined j = sym g.0 ∙ h.0 in
    let kj : k ≡ j = cc in
    let both : Some g.1.0 ≡ Some h.1.0 = sym g.1.1 ∙ (ap (own_alias xs path) kj ∙ h.1.1) in
    let same : g.1.0 ≡ h.1.0 = cc in
    one xs path ks js h.1.0 u v (subst (λ (x : Term). AliasesLead xs path x ks u) same g.1.2) none h.1.2 gone

pub one_target : OneTarget
one_target xs path t u v g h = one xs path g.0 h.0 t u v g.1 g.2 h.1 h.2
