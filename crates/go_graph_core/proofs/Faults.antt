-- The first file with a flaw in its clause, and the rule that it breaks.
use Rattle.std.proofs.Common.{◌≡◌, ℕ, ◌<◌, ◌≤◌, ◌+◌, inl, inr, true, false, cond, List, length, get_or, Option, Some, None, slice_get, sym, ◌∙◌, ap, subst, arith}
use Rattle.std.specs.List.{position, position_or_len}
use Rattle.std.proofs.lemmas.List.Sums.{position_or_len_is}
use Rattle.std.proofs.lemmas.List.Quantifiers.{position-Some}
use Rattle.std.proofs.lemmas.Option.{slice_get-get_or, get_or_from_slice_get}
use Rattle.std.proofs.lemmas.Bool.{ltb-true, ltb-false, lt-ltb}
use lib.Dec.{ltb}
use denote.Ref.{Bor}
use Rattle.go_collections_core.specs.text_core.declared.rule.Rule.TheVariants.{K2, K3, K4}
use Rattle.go_collections_core.specs.text_core.Each.{true_or_false}
use Rattle.go_graph_core.specs.declared.assembly.ClauseFlaw.{ClauseFlaw}
use Rattle.go_graph_core.specs.declared.assembly.ClauseFlaw.TheVariants.{NotNamed}
use Rattle.go_graph_core.specs.declared.assembly.KFault.{KFault}
use Rattle.go_graph_core.specs.Sources.{SourceModel, clause_of}
use Rattle.go_graph_core.specs.mirrors.Clauses.{place_in, lacks_clause, is_named, is_other}
use Rattle.go_graph_core.specs.mirrors.Flaws.{is_flawed, IsFirstFault, IsFlaw}
use Rattle.go_graph_core.specs.Packages.{blank, IsNameOf, IsK2, IsK3, IsK4}
use Rattle.go_graph_core.proofs.Assemblies.{lacks-true, k2_of, k3_of, k4_of, assembled_of}

-- no file before this number has the flaw
abbrev pub NoneBefore : ClauseFlaw → List SourceModel → ℕ → Type 0
NoneBefore flaw files i = (k : ℕ) (d : SourceModel) → k < i → is_flawed flaw (get_or files k d) ≡ false

pub none_more : (flaw : ClauseFlaw) (files : List SourceModel) (i : ℕ) (s : SourceModel) → i < length files → s ≡ get_or files i s → NoneBefore flaw files i → is_flawed flaw s ≡ false → NoneBefore flaw files (i + 1)
none_more flaw files i s lt is before fine k d up = elim (true_or_false (ltb k i)) [
  | inl e ↦ before k d (ltb-true k i e)
  | inr e ↦
      let from : i ≤ k = ltb-false k i e in
      let same : i ≡ k = omega arith in
      let at : slice_get files i ≡ Some s = slice_get-get_or files i s lt ∙ ap Some (sym is) in
      subst (λ n. is_flawed flaw (get_or files n d) ≡ false) same (subst (λ x. is_flawed flaw x ≡ false) (sym (get_or_from_slice_get files i s d at)) fine)
]

pub first_here : (flaw : ClauseFlaw) (files : List SourceModel) (i : ℕ) (s : SourceModel) → i < length files → s ≡ get_or files i s → NoneBefore flaw files i → is_flawed flaw s ≡ true → position (is_flawed flaw) files ≡ Some i
first_here flaw files i s lt is before has =
    let at : position_or_len (is_flawed flaw) files ≡ i = position_or_len_is (is_flawed flaw) files i s (omega (arith, lt)) (λ k up. before k s up) (λ _. subst (λ x. is_flawed flaw x ≡ true) is has) in
    ap (λ n. cond (ltb n (length files)) (Some n) None) at ∙ ap (λ b. cond b (Some i) None) (lt-ltb i (length files) lt)

pub first_nowhere : (flaw : ClauseFlaw) (files : List SourceModel) (i : ℕ) (d : SourceModel) → length files ≤ i → NoneBefore flaw files i → position (is_flawed flaw) files ≡ None
first_nowhere flaw files i d all before = elim (true_or_false (ltb (position_or_len (is_flawed flaw) files) (length files))) [
  | inl e ↦
      let found : position (is_flawed flaw) files ≡ Some (position_or_len (is_flawed flaw) files) = ap (λ b. cond b (Some (position_or_len (is_flawed flaw) files)) None) e in
      let at = position-Some (is_flawed flaw) files (position_or_len (is_flawed flaw) files) d found in
      (let no : true ≡ false = sym at.1 ∙ before (position_or_len (is_flawed flaw) files) d (omega (arith, at.0, all)) in cc)
  | inr e ↦ ap (λ b. cond b (Some (position_or_len (is_flawed flaw) files)) None) e
]

-- the clause of the file with the fault begins at its offset
abbrev IsAtClause : List SourceModel → KFault → Type 0
IsAtClause files fault = (s : SourceModel) × (s ≡ get_or files fault.file s) × (fault.offset ≡ place_in (clause_of s))

pub k4_first : (files : List SourceModel) (fault : KFault) → (fault.rule ≡ K4) × (position lacks_clause files ≡ Some fault.file) × IsAtClause files fault → IsK4 files fault
k4_first files fault h =
    let s = h.2.0 in
    let k = k4_of files fault.file h.1 in
    let lacks : lacks_clause s ≡ true = subst (λ x. lacks_clause x ≡ true) (sym h.2.1) (position-Some lacks_clause files fault.file s h.1).1 in
    record { rule = h.0; file = k.file; first = k.first; offset = h.2.2 ∙ ap place_in (lacks-true (clause_of s) lacks) }

pub k3_first : (files : List SourceModel) (fault : KFault) → position lacks_clause files ≡ None → (fault.rule ≡ K3) × (position (is_named blank) files ≡ Some fault.file) × IsAtClause files fault → IsK3 files fault
k3_first files fault none h =
    let k = k3_of files fault.file fault.offset h.2.0 none h.1 h.2.1 h.2.2 in
    record { rule = h.0; trees = k.trees; file = k.file; first = k.first; offset = k.offset }

pub k2_first : (files : List SourceModel) (name : List ℕ) (fault : KFault) → position lacks_clause files ≡ None → position (is_named blank) files ≡ None → IsNameOf name files → (fault.rule ≡ K2) × (position (is_other name) files ≡ Some fault.file) × IsAtClause files fault → IsK2 files fault
k2_first files name fault none fine first h =
    let k = k2_of files name fault.file fault.offset h.2.0 none fine first h.1 h.2.1 h.2.2 in
    record { rule = h.0; trees = k.trees; named = k.named; name = k.name; is_name = k.is_name; file = k.file; first = k.first; offset = k.offset }

-- where the first two rules are met, the third is broken, or the files are assembled
pub last_flaw : (files : List SourceModel) (name : Bor (List ℕ)) (found : Option KFault) → position lacks_clause files ≡ None → position (is_named blank) files ≡ None → IsNameOf name.now files → IsFirstFault files (NotNamed name) K2 found → IsFlaw files found
last_flaw files name None none fine first h = assembled_of files name.now none fine first h
last_flaw files name (Some fault) none fine first h = inr (inr (k2_first files name.now fault none fine first h))
