-- Files have exactly one assembly.
use Rattle.std.proofs.Common.{◌≡◌, ℕ, zero, suc, All, ◌≤◌, inl, inr, List, [], ◌∷◌, get_or, Option, Some, None, Result, Ok, Err, slice_get, refl, sym, ◌∙◌, ap, subst, arith}
use Rattle.std.specs.List.{position}
use Rattle.std.proofs.lemmas.Bool.{ltb-true, ltb-false}
use lib.Dec.{ltb}
use Rattle.go_collections_core.specs.text_core.declared.rule.Rule.TheVariants.{K2, K3, K4}
use Rattle.go_collections_core.specs.text_core.Each.{true_or_false}
use Rattle.go_graph_core.specs.declared.assembly.KFault.{KFault}
use Rattle.go_graph_core.specs.Sources.{SourceModel, clause_of}
use Rattle.go_graph_core.specs.mirrors.Clauses.{place_in, lacks_clause, is_named, is_other}
use Rattle.go_graph_core.specs.Packages.{Trees, trees_of, HasNoClause, IsBlankAt, IsBlank, blank, DiffersAt, Differs, IsFirst, AllHaveTrees, NoneIsBlank, IsNameOf, IsK4, IsK3, IsK2, IsAssembled, IsAssembly, HasAssembly, HasNoOtherAssembly}
use Rattle.go_graph_core.proofs.Assemblies.{none_passes, has_clause, all_at, k4_of, k3_of, k2_of, assembled_of, name_of_first, one_name}

abbrev Answer : List SourceModel → Type 0
Answer files = (answer : Result Trees KFault) × IsAssembly files answer

-- the element at a place does not turn on what stands for a missing one
again : (files : List SourceModel) (i : ℕ) (d : SourceModel) → get_or files i d ≡ get_or files i (get_or files i d)
again [] i d = refl
again (x ∷ xs) zero d = refl
again (x ∷ xs) (suc i) d = again xs i d

-- there is an assembly

by_name : (files : List SourceModel) (r : SourceModel) (name : List ℕ) (o : Option ℕ) → position lacks_clause files ≡ None → position (is_named blank) files ≡ None → IsNameOf name files → position (is_other name) files ≡ o → Answer files
by_name files r name None whole fine first h = (Ok (trees_of files), (refl, assembled_of files name whole fine first h))
by_name files r name (Some i) whole fine first h = (Err (record { rule = K2; file = i; offset = place_in (clause_of (get_or files i r)) }), inr (inr (k2_of files name i (place_in (clause_of (get_or files i r))) (get_or files i r) whole fine first h (again files i r) refl)))

by_blank : (s : SourceModel) (ss : List SourceModel) (o : Option ℕ) → position lacks_clause (s ∷ ss) ≡ None → position (is_named blank) (s ∷ ss) ≡ o → Answer (s ∷ ss)
by_blank s ss (Some i) whole h = (Err (record { rule = K3; file = i; offset = place_in (clause_of (get_or (s ∷ ss) i s)) }), inr (inl (k3_of (s ∷ ss) i (place_in (clause_of (get_or (s ∷ ss) i s))) (get_or (s ∷ ss) i s) whole h (again (s ∷ ss) i s) refl)))
by_blank s ss None whole h =
    let first = has_clause (clause_of s) (none_passes lacks_clause (s ∷ ss) whole 0 s (omega arith)) in
    by_name (s ∷ ss) s first.0.name (position (is_other first.0.name) (s ∷ ss)) whole h (name_of_first (s ∷ ss) s first.0 first.0.name (omega arith) refl (sym first.1) refl) refl

by_trees : (s : SourceModel) (ss : List SourceModel) (o : Option ℕ) → position lacks_clause (s ∷ ss) ≡ o → Answer (s ∷ ss)
by_trees s ss (Some i) h = (Err (record { rule = K4; file = i; offset = 0 }), inl (k4_of (s ∷ ss) i h))
by_trees s ss None h = by_blank s ss (position (is_named blank) (s ∷ ss)) h refl

pub has_assembly : HasAssembly
has_assembly [] some = absurd (omega arith)
has_assembly (s ∷ ss) some = by_trees s ss (position lacks_clause (s ∷ ss)) refl

-- and one at most

-- two first files of one kind are the same
first_same : (P : SourceModel → Type 0) (files : List SourceModel) (i j : ℕ) (s r : SourceModel) → IsFirst P files i s → IsFirst P files j r → (i ≡ j) × (s ≡ r)
first_same P files i j s r f g = elim (true_or_false (ltb i j)) [
  | inl lt ↦ absurd (g.before i s (ltb-true _ _ lt) f.at f.holds)
  | inr ge ↦ elim (true_or_false (ltb j i)) [
    | inl lt ↦ absurd (f.before j r (ltb-true _ _ lt) g.at g.holds)
    | inr le ↦
        let down : j ≤ i = ltb-false _ _ ge in
        let up : i ≤ j = ltb-false _ _ le in
        let same : i ≡ j = omega arith in
        let found : Some s ≡ Some r = sym f.at ∙ (ap (λ k. slice_get files k) same ∙ g.at) in
        (same, (cc))
  ]
]

one_fault : (f g : KFault) → f.rule ≡ g.rule → f.file ≡ g.file → f.offset ≡ g.offset → f ≡ g
one_fault f g a b c i = record { rule = a i; file = b i; offset = c i }

one_blank : (s r : SourceModel) (a b : ℕ) → s ≡ r → IsBlankAt s a → IsBlankAt r b → a ≡ b
one_blank s r a b same p q =
    let id : p.0 ≡ q.0 = (let j : Some p.0 ≡ Some q.0 = sym p.1 ∙ (ap clause_of same ∙ q.1) in cc) in
    p.3 ∙ (ap (λ x. x.span.start) id ∙ sym q.3)

one_other : (n m : List ℕ) (s r : SourceModel) (a b : ℕ) → s ≡ r → DiffersAt n s a → DiffersAt m r b → a ≡ b
one_other n m s r a b same p q =
    let id : p.0 ≡ q.0 = (let j : Some p.0 ≡ Some q.0 = sym p.1 ∙ (ap clause_of same ∙ q.1) in cc) in
    p.3 ∙ (ap (λ x. x.span.start) id ∙ sym q.3)

same_k4 : (files : List SourceModel) (f g : KFault) → IsK4 files f → IsK4 files g → f ≡ g
same_k4 files f g p q = one_fault f g (p.rule ∙ sym q.rule) (first_same HasNoClause files f.file g.file p.file q.file p.first q.first).0 (p.offset ∙ sym q.offset)

same_k3 : (files : List SourceModel) (f g : KFault) → IsK3 files f → IsK3 files g → f ≡ g
same_k3 files f g p q =
    let same = first_same IsBlank files f.file g.file p.file q.file p.first q.first in
    one_fault f g (p.rule ∙ sym q.rule) same.0 (one_blank p.file q.file f.offset g.offset same.1 p.offset q.offset)

same_k2 : (files : List SourceModel) (f g : KFault) → IsK2 files f → IsK2 files g → f ≡ g
same_k2 files f g p q =
    let name : q.name ≡ p.name = one_name files q.name p.name q.is_name p.is_name in
    let same = first_same (Differs p.name) files f.file g.file p.file q.file p.first (subst (λ n. IsFirst (Differs n) files g.file q.file) name q.first) in
    one_fault f g (p.rule ∙ sym q.rule) same.0 (one_other p.name q.name p.file q.file f.offset g.offset same.1 p.offset q.offset)

not_whole : (files : List SourceModel) (f : KFault) → IsK4 files f → AllHaveTrees files → ⊥
not_whole files f p all = all_at (λ s. HasNoClause s → ⊥) files f.file p.file all p.first.at p.first.holds

not_fine : (files : List SourceModel) (f : KFault) → IsK3 files f → NoneIsBlank files → ⊥
not_fine files f p all = all_at (λ s. IsBlank s → ⊥) files f.file p.file all p.first.at p.first.holds

not_same : (files : List SourceModel) (f : KFault) → IsK2 files f → IsAssembled files → ⊥
not_same files f p q = all_at (λ s. Differs p.name s → ⊥) files f.file p.file (subst (λ n. All (λ s. Differs n s → ⊥) files) (one_name files q.name p.name q.is_name p.is_name) q.same) p.first.at p.first.holds

pub has_no_other_assembly : HasNoOtherAssembly
has_no_other_assembly files (Ok t) (Ok u) p q = ap Ok (p.0 ∙ sym q.0)
has_no_other_assembly files (Ok t) (Err g) p (inl q) = absurd (not_whole files g q p.1.trees)
has_no_other_assembly files (Ok t) (Err g) p (inr (inl q)) = absurd (not_fine files g q p.1.named)
has_no_other_assembly files (Ok t) (Err g) p (inr (inr q)) = absurd (not_same files g q p.1)
has_no_other_assembly files (Err f) (Ok u) (inl p) q = absurd (not_whole files f p q.1.trees)
has_no_other_assembly files (Err f) (Ok u) (inr (inl p)) q = absurd (not_fine files f p q.1.named)
has_no_other_assembly files (Err f) (Ok u) (inr (inr p)) q = absurd (not_same files f p q.1)
has_no_other_assembly files (Err f) (Err g) (inl p) (inl q) = ap Err (same_k4 files f g p q)
has_no_other_assembly files (Err f) (Err g) (inl p) (inr (inl q)) = absurd (not_whole files f p q.trees)
has_no_other_assembly files (Err f) (Err g) (inl p) (inr (inr q)) = absurd (not_whole files f p q.trees)
has_no_other_assembly files (Err f) (Err g) (inr (inl p)) (inl q) = absurd (not_whole files g q p.trees)
has_no_other_assembly files (Err f) (Err g) (inr (inl p)) (inr (inl q)) = ap Err (same_k3 files f g p q)
has_no_other_assembly files (Err f) (Err g) (inr (inl p)) (inr (inr q)) = absurd (not_fine files f p q.named)
has_no_other_assembly files (Err f) (Err g) (inr (inr p)) (inl q) = absurd (not_whole files g q p.trees)
has_no_other_assembly files (Err f) (Err g) (inr (inr p)) (inr (inl q)) = absurd (not_fine files g q p.named)
has_no_other_assembly files (Err f) (Err g) (inr (inr p)) (inr (inr q)) = ap Err (same_k2 files f g p q)
