use Rattle.std.proofs.Common.{◌≡◌, ◌↔◌, ℕ, List, Bool, true, All, length, map, refl, subst, sym, ◌∙◌, ap, arith}
use Rattle.go_digraph_core.specs.declared.cycle.edge.Edge.{Edge}
use Rattle.go_digraph_core.specs.cycle.mirrors.Certificate.{marks_along, Holds}
use Rattle.go_digraph_core.specs.cycle.Cycle.{InRange, reversed}
use Rattle.go_digraph_core.proofs.CycleWalks.{reversed_in_range}
use Rattle.go_digraph_core.proofs.CycleCertified.{ranking_from_certificate}
use Rattle.go_digraph_core.proofs.cycle.certify.is_certified.Goals as goal

pub marks_along-requires-2 : goal.marks_along-requires-2
marks_along-requires-2 c =
    let P : List Edge → Type 0 = λ l. InRange (length c.deref-4.result.now) l in
    let Q : ℕ → Type 0 = λ n. InRange n c.args.edges.now in
    subst P (sym (c.deref-3.ensures.value ∙ c.in_ok-back_edges.ensures)) (reversed_in_range c.args.edges.now (length c.deref-4.result.now) (subst Q (omega arith) c.requires.edges))

-- what a test of all edges says, where its arguments are known to be these
at_these : (r : Bool) (g : List Edge) (a ranks b roots : List ℕ) (m out n back : List Bool) → a ≡ ranks → b ≡ roots → m ≡ out → n ≡ back → ((r ≡ true) ↔ All (Holds a b m n) g) → (r ≡ true) ↔ All (Holds ranks roots out back) g
at_these r g a ranks b roots m out n back p q s t h =
    let A : List ℕ → Type 0 = λ x. (r ≡ true) ↔ All (Holds x b m n) g in
    let B : List ℕ → Type 0 = λ x. (r ≡ true) ↔ All (Holds ranks x m n) g in
    let C : List Bool → Type 0 = λ x. (r ≡ true) ↔ All (Holds ranks roots x n) g in
    let D : List Bool → Type 0 = λ x. (r ≡ true) ↔ All (Holds ranks roots out x) g in
    subst D t (subst C s (subst B q (subst A p h)))

marks_at : (marks : List Bool) (g g' : List Edge) (roots roots' places places' : List ℕ) → marks ≡ marks_along g roots places → g ≡ g' → roots ≡ roots' → places ≡ places' → marks ≡ marks_along g' roots' places'
marks_at marks g g' roots roots' places places' e p q r = e ∙ (ap (λ x. marks_along x roots places) p ∙ (ap (λ x. marks_along g' x places) q ∙ ap (λ x. marks_along g' roots' x) r))

pub returns-clause-exact : goal.returns-clause-exact
returns-clause-exact c =
    at_these c.all_hold.result c.args.edges.now _ c.args.guess.now.ranks.items _ c.args.guess.now.roots.items _
    (marks_along c.args.edges.now c.args.guess.now.roots.items c.args.guess.now.out.items) _
    (marks_along (map reversed c.args.edges.now) c.args.guess.now.roots.items c.args.guess.now.back.items)
    c.deref-6.ensures.value c.deref-7.ensures.value
    (c.deref-8.ensures.value ∙ marks_at _ _ _ _ _ _ _ c.in_ok-out.ensures.marks refl c.deref.ensures.value c.deref-2.ensures.value)
    (c.deref-9.ensures.value ∙ marks_at _ _ _ _ _ _ _ c.in_ok-back.ensures.marks (c.deref-3.ensures.value ∙ c.in_ok-back_edges.ensures) c.deref-4.ensures.value c.deref-5.ensures.value)
    c.all_hold.ensures

pub returns-clause-sound : goal.returns-clause-sound
returns-clause-sound c = λ h. ranking_from_certificate c.args.edges.now c.args.guess.now.ranks.items c.args.guess.now.roots.items c.args.guess.now.out.items c.args.guess.now.back.items ((returns-clause-exact c).0 h)
