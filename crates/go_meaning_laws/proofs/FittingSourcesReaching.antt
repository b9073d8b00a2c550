-- Of a program that can be run all functions that are reached stand in the run fragment.
use Rattle.std.proofs.Common.{◌≡◌, ◌⊎◌, inl, inr, ℕ, zero, suc, ◌+◌, ◌<◌, Bool, true, false, List, [], ◌∷◌, ◌++◌, length, map, get_or, Contains, Option, Some, None, refl, sym, ap, ◌∙◌, subst, arith, if◌then◌else◌}
use Rattle.std.specs.Prelude.{option_map, slice_get}
use Rattle.std.specs.List.{flat_map}
use Rattle.std.proofs.lemmas.Option.{slice_get-map}
use Rattle.go_digraph_core.specs.declared.cycle.edge.Edge.{Edge}
use Rattle.go_digraph_core.specs.cycle.Cycle.{Leads, Reaches}
use Rattle.go_machine_core.specs.Programs.{LinkedOf}
use Rattle.go_object_core.specs.declared.instructions.instruction.Instruction.TheVariants as instructions
use Rattle.go_code_core.specs.fragments.Inside.{in_fragment}
use Rattle.go_code_core.specs.Code.{body_code, frame_in}
use Rattle.go_machine_core.specs.link.Reaching.{edge, edge_if, edges_from, call_edges, is_outside, ReachesOutside}
use Rattle.go_machine_core.specs.link.Linked.{ProgramOf, RunnableOf}
use Rattle.go_meaning_laws.specs.source_meaning.Meaning.{SourceOf}
use Rattle.go_meaning_laws.specs.source_meaning.Whole.{linked_source, code_of_program}
use Rattle.go_meaning_laws.specs.program_meaning.Laws.{ProgramsRunAsMeant, RunsAsMeant}
use Rattle.go_meaning_laws.specs.fitting_sources.Laws.{IsReached, Begins, IsCalled, FittingMeansSomething}
use Rattle.go_meaning_laws.specs.fitting_sources.RunLaws.{FitsAsRun, FittingProgramsRunAsMeant}

-- items of lists

abbrev Has : {A : Type 0} → List A → A → Type 0
Has [] x = ⊥
Has (y ∷ ys) x = (y ≡ x) ⊎ Has ys x

has_at : {A : Type 0} (xs : List A) (x : A) (k : ℕ) → k < length xs → get_or xs k x ≡ x → Has xs x
has_at [] x k lt e = absurd (omega (arith, lt))
has_at (y ∷ ys) x zero lt e = inl e
has_at (y ∷ ys) x (suc k) lt e = inr (has_at ys x k (omega (arith, lt)) e)

has : {A : Type 0} (xs : List A) (x : A) → Contains xs x → Has xs x
has xs x h = has_at xs x h.0 h.1 h.2

contained : {A : Type 0} (xs : List A) (x : A) → Has xs x → Contains xs x
contained [] x h = absurd h
contained (y ∷ ys) x (inl e) = (let lt : 0 < suc (length ys) = omega arith in (0, lt, e))
contained (y ∷ ys) x (inr h) =
    let rest = contained ys x h in
    let low = rest.1 in
    let lt : suc rest.0 < suc (length ys) = omega (arith, low) in
    (suc rest.0, lt, rest.2)

has_left : {A : Type 0} (xs ys : List A) (x : A) → Has xs x → Has (xs ++ ys) x
has_left [] ys x h = absurd h
has_left (a ∷ xs) ys x (inl e) = inl e
has_left (a ∷ xs) ys x (inr h) = inr (has_left xs ys x h)

has_right : {A : Type 0} (xs ys : List A) (x : A) → Has ys x → Has (xs ++ ys) x
has_right [] ys x h = h
has_right (a ∷ xs) ys x h = inr (has_right xs ys x h)

-- edges from functions to those that they refer to

row_has : (n : ℕ) (row : List (Option ℕ)) (to : ℕ) → Has row (Some to) → Has (flat_map (edge_if n) row) (edge n to)
row_has n [] to h = absurd h
row_has n (None ∷ row) to (inl e) = absurd (cc e)
row_has n (None ∷ row) to (inr h) = row_has n row to h
row_has n (Some m ∷ row) to (inl e) = let same : m ≡ to = cc e in inl (ap (edge n) same)
row_has n (Some m ∷ row) to (inr h) = inr (row_has n row to h)

edges_have : (rows : List (List (Option ℕ))) (n k : ℕ) (row : List (Option ℕ)) (to : ℕ) → slice_get rows k ≡ Some row → Has row (Some to) → Has (edges_from n rows) (edge (n + k) to)
edges_have [] n k row to is h = absurd cc
edges_have (r ∷ rows) n zero row to is h =
    let same : r ≡ row = cc is in
    let sum : n ≡ n + 0 = omega arith in
    has_left (flat_map (edge_if n) r) (edges_from (n + 1) rows) (edge (n + 0) to) (subst (λ m. Has (flat_map (edge_if n) r) (edge m to)) sum (row_has n r to (subst (λ l. Has l (Some to)) (sym same) h)))
edges_have (r ∷ rows) n (suc k) row to is h =
    let sum : n + 1 + k ≡ n + suc k = omega arith in
    has_right (flat_map (edge_if n) r) (edges_from (n + 1) rows) (edge (n + suc k) to) (subst (λ m. Has (edges_from (n + 1) rows) (edge m to)) sum (edges_have rows (n + 1) k row to is h))

leads_further : (edges es : List Edge) (a b c : ℕ) → Leads edges es a b → Contains edges (edge b c) → Leads edges (es ++ edge b c ∷ []) a c
leads_further edges [] a b c h k = (k, sym h, refl)
leads_further edges (e ∷ es) a b c h k = (h.0, h.1, leads_further edges es e.to b c h.2 k)

module _ (sources : List SourceOf) (starts : List ℕ) where
  abbrev edges : List Edge
  edges = call_edges (code_of_program sources)

  called_by : (number : ℕ) (s : SourceOf) (callee : ℕ) → slice_get sources number ≡ Some s → Contains s.callees (Some callee) → Contains edges (edge number callee)
  called_by number s callee is c =
      let row : slice_get (map (λ (f : LinkedOf). f.callees) (code_of_program sources)) number ≡ Some s.callees =
      slice_get-map (λ (f : LinkedOf). f.callees) (code_of_program sources) number
      ∙ ap (option_map (λ (f : LinkedOf). f.callees)) (slice_get-map linked_source sources number ∙ ap (option_map linked_source) is) in
      let sum : 0 + number ≡ number = omega arith in
      contained edges (edge number callee)
      (subst (λ n. Has edges (edge n callee)) sum (edges_have (map (λ (f : LinkedOf). f.callees) (code_of_program sources)) 0 number s.callees callee row (has s.callees (Some callee) c)))

  reached_by : {number : ℕ} → IsReached sources starts number → (start : ℕ) × Contains starts start × Reaches edges start number
  reached_by {number} (Begins c) = (number, c, ([], refl))
  reached_by (IsCalled {number} {callee} {s} reached is c) =
      let r = reached_by reached in
      (r.0, r.1, (r.2.0 ++ edge number callee ∷ [], leads_further edges r.2.0 r.0 number callee r.2.1 (called_by number s callee is c)))

  -- what is reached and outside the fragment leads outside
  leads_outside : (number : ℕ) (s : SourceOf) → IsReached sources starts number → slice_get sources number ≡ Some s → in_fragment (frame_in s.looks s.tree) s.tree ≡ false → ReachesOutside (code_of_program sources) starts
  leads_outside number s reached is out =
      let r = reached_by reached in
      record {
        start = r.0;
        number = number;
        function = linked_source s;
        begins = r.1;
        reached = r.2;
        is = slice_get-map linked_source sources number ∙ ap (option_map linked_source) is;
        outside = ap (λ t. is_outside (if t then body_code (frame_in s.looks s.tree) s.tree else instructions.Outside ∷ [])) out;
      }

module _ (something : FittingMeansSomething) (run : ProgramsRunAsMeant) (p : ProgramOf) (sources : List SourceOf) (r : RunnableOf) (fits : FitsAsRun p sources r) where
  inside : (number : ℕ) (s : SourceOf) → IsReached sources r.starts number → slice_get sources number ≡ Some s → in_fragment (frame_in s.looks s.tree) s.tree ≡ true
  inside number s reached is = go (in_fragment (frame_in s.looks s.tree) s.tree) refl
    where
      go : (t : Bool) → in_fragment (frame_in s.looks s.tree) s.tree ≡ t → in_fragment (frame_in s.looks s.tree) s.tree ≡ true
      go true e = e
      go false e = absurd (fits.runnable.inside (subst (λ fs. ReachesOutside fs r.starts) (sym (fits.runnable.begun.functions ∙ fits.functions)) (leads_outside sources r.starts number s reached is e)))

  runs : RunsAsMeant p sources r.starts
  runs = run p sources r (record {
    runnable = fits.runnable;
    functions = fits.functions;
    meant = something sources r.starts (record {
      inside = inside;
      functions = λ number s reached is. fits.fit number s is (inside number s reached is);
      starting = fits.starting;
    });
  })

pub fitting_run : FittingMeansSomething → ProgramsRunAsMeant → FittingProgramsRunAsMeant
fitting_run something run p sources r fits = runs something run p sources r fits
