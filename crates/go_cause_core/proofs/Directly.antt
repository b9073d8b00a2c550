-- What each fault follows from directly.
use Rattle.std.proofs.Common.{◌≡◌, ◌<◌, ℕ, List, [], ◌∷◌, ◌++◌, length, Bool, true, false, Option, Some, None, refl, sym, ap, ◌∙◌, subst, arith}
use Rattle.std.specs.Prelude.{IfSome, IsTrue}
use Rattle.std.specs.List.{slice_get}
use Rattle.std.proofs.lemmas.Option.{slice_get_within}
use Rattle.std.proofs.lemmas.List.Elements.{All-push}
use Rattle.go_digraph_core.specs.chain.Chains.{AllInside}
use Rattle.go_digraph_core.specs.chain.Laws.{EndsAreCounted}
use Rattle.go_digraph_core.specs.declared.cycle.edge.Edge.{Edge}
use Rattle.go_digraph_core.specs.cycle.Cycle.{InRange}
use Rattle.go_snap_core.specs.declared.fault.PlacedFault.{PlacedFault}
use Rattle.go_cause_core.specs.declared.cause.Cause.{Cause}
use Rattle.go_cause_core.specs.Causes.{AreCauses, AreDirect, AreRoots, HaveRoots, IsDirect, fits}
use Rattle.go_cause_core.specs.Names.{IsAgain}
use Rattle.go_cause_core.proofs.Growing.{held_more}

-- what fits is there
there : (o p : Option PlacedFault) → IsTrue (fits o p) → (f : PlacedFault) × (o ≡ Some f)
there None p h = absurd (cc)
there (Some f) p h = (f, refl)

pub all_inside : (faults : List PlacedFault) (direct : List (Option ℕ)) → AreDirect faults direct → AllInside direct
all_inside faults direct are i j h =
    let found = there (slice_get faults j) (slice_get faults i) ((are.each i j h).1) in
    let within : j < length faults = slice_get_within faults j found.0 found.1 in
    let many : length direct ≡ length faults = are.as_many in
    omega (arith, within, many)

pub inside_given : (faults : List PlacedFault) (direct given : List (Option ℕ)) → given ≡ direct → AreDirect faults direct → AllInside given
inside_given faults direct given same are = subst AllInside (sym same) (all_inside faults direct are)

pub direct_more : (faults : List PlacedFault) (old new : List (Option ℕ)) (n : ℕ) (o : Option ℕ) → length old ≡ n → new ≡ old ++ o ∷ [] → IfSome o (λ cause. IsDirect faults n cause)
    → ((i j : ℕ) → slice_get old i ≡ Some (Some j) → IsDirect faults i j) → (i j : ℕ) → slice_get new i ≡ Some (Some j) → IsDirect faults i j
direct_more faults old new n o len is held each i j h = held_more (IsDirect faults) old new n o len is held each i j h

pub next_more : (m : ℕ) (old new : List (Option ℕ)) (n : ℕ) (o : Option ℕ) → length old ≡ n → new ≡ old ++ o ∷ [] → IfSome o (λ number. number < m)
    → ((i j : ℕ) → slice_get old i ≡ Some (Some j) → j < m) → (i j : ℕ) → slice_get new i ≡ Some (Some j) → j < m
next_more m old new n o len is held each i j h = held_more (λ _ number. number < m) old new n o len is held each i j h

pub edge_more : (count : ℕ) (old new : List Edge) (e : Edge) → InRange count old → new ≡ old ++ e ∷ [] → e.from < count → e.to < count → InRange count new
edge_more count old new e all is from to = subst (InRange count) (sym is) (All-push (λ e. (e.from < count) × (e.to < count)) old e all (from, to))

pub again_more : (faults : List PlacedFault) (old new : List (Option ℕ)) (n : ℕ) (o : Option ℕ) → length old ≡ n → new ≡ old ++ o ∷ [] → IfSome o (λ first. IsAgain faults n first)
    → ((i j : ℕ) → slice_get old i ≡ Some (Some j) → IsAgain faults i j) → (i j : ℕ) → slice_get new i ≡ Some (Some j) → IsAgain faults i j
again_more faults old new n o len is held each i j h = held_more (IsAgain faults) old new n o len is held each i j h

pub are_causes : (faults : List PlacedFault) (direct : List (Option ℕ)) (causes : List Cause) → AreDirect faults direct → AreRoots direct causes → HaveRoots causes → AreCauses faults causes
are_causes faults direct causes are exact have =
    let many : length causes ≡ length faults = exact.as_many ∙ are.as_many in
    record {
      as_many = many;
      direct = direct;
      allowed = are;
      exact = exact;
      named = have.named;
      never_silent = λ some. have.never_silent (omega (arith, some, many));
    }

pub are_causes_given : (faults : List PlacedFault) (direct given : List (Option ℕ)) (causes : List Cause) → given ≡ direct → AreDirect faults direct → AreRoots given causes → HaveRoots causes → AreCauses faults causes
are_causes_given faults direct given causes same are exact have =
    let P : List (Option ℕ) → Type 0 = λ d. AreRoots d causes in
    are_causes faults direct causes are (subst P same exact) have
