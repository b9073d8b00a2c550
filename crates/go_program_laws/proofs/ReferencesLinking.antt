-- The packages that a program reaches which can be run have objects.
use Rattle.std.proofs.Common.{◌≡◌, ◌⊎◌, inl, inr, ℕ, zero, suc, ◌+◌, ◌<◌, Bool, true, false, cond, List, [], ◌∷◌, ◌++◌, length, map, take, drop, Contains, Option, Some, None, codes, refl, sym, ap, subst, ◌∙◌, arith}
use Rattle.std.specs.Prelude.{MatchOption, option_map, remove, slice_get, slice_index, slice_set}
use Rattle.std.specs.List.{flat_map, position_from}
use Rattle.std.specs.Str.{bytes_eq}
use Rattle.std.proofs.lemmas.List.{get_or_default}
use Rattle.std.proofs.lemmas.Option.{none-some, slice_get-map}
use Rattle.std.proofs.lemmas.Slice.Eq.{bytes_eq-Decides}
use Rattle.go_digraph_core.specs.cycle.Cycle.{Reaches}
use Rattle.go_graph_core.specs.collections_core.declared.spelling_index.spellings.Spelling.{Spelling}
use Rattle.go_graph_core.specs.collections_core.SpellingIndexSpelled.{joined, spelled_from, spelled_if}
use Rattle.go_object_core.specs.Objects.{FunctionOf, ObjectOf}
use Rattle.go_body_core.specs.typexpr_core.EntryAmong.{Among, among_cases, among_flat, among_from, among_to, map_among}
use Rattle.go_machine_core.specs.link.Functions.{PlaceModel, all_functions, is_called, number_if, numbers_called}
use Rattle.go_machine_core.specs.link.Packages.{PackageOf, entry_if, entry_in, entry_of, package_number, package_of, packages_from, packages_of}
use Rattle.go_machine_core.specs.link.Reaching.{ReachesMissing, edge, has_none, import_edges}
use Rattle.go_machine_core.specs.link.Order.{in_turn, initialised, inits_in, is_marked, is_ready, marked_in, taken}
use Rattle.go_machine_core.specs.link.Linked.{IsRunnable, RunnableOf, program_of}
use Rattle.go_program_laws.proofs.FaultlessReaching.{edges_have, leads_further}

-- the number of the package of a path

module _ (p : List ℕ) (ps : List (List ℕ)) (path : List ℕ) (k n : ℕ) where
  number_by : (b : Bool) → bytes_eq path p ≡ b → (o : Option Spelling) → option_map (λ (s : Spelling). s.first) (joined (spelled_if k b) o) ≡ Some n
      → (option_map (λ (s : Spelling). s.first) o ≡ Some n → (m : ℕ) × (n ≡ k + 1 + m) × (slice_get ps m ≡ Some path)) → (m : ℕ) × (n ≡ k + m) × (slice_get (p ∷ ps) m ≡ Some path)
  number_by true t None e rest = (let some : Some k ≡ Some n = e in let same : k ≡ n = cc some in let sum : n ≡ k + 0 = omega (arith, same) in (0, sum, ap (λ x. Some x) (sym ((bytes_eq-Decides path p).0 t))))
  number_by true t (Some s) e rest = (let some : Some k ≡ Some n = e in let same : k ≡ n = cc some in let sum : n ≡ k + 0 = omega (arith, same) in (0, sum, ap (λ x. Some x) (sym ((bytes_eq-Decides path p).0 t))))
  number_by false t o e rest = (let r = rest e in let at = r.1 in let sum : n ≡ k + suc r.0 = omega (arith, at) in (suc r.0, sum, r.2))

number_from : (ps : List (List ℕ)) (path : List ℕ) (k n : ℕ) → option_map (λ (s : Spelling). s.first) (spelled_from k ps path) ≡ Some n → (m : ℕ) × (n ≡ k + m) × (slice_get ps m ≡ Some path)
number_from [] path k n e = absurd (none-some n e)
number_from (p ∷ ps) path k n e = number_by p ps path k n (bytes_eq path p) refl (spelled_from (k + 1) ps path) e (λ h. number_from ps path (k + 1) n h)

-- lists one behind another

get_left : {A : Type 0} (xs ys : List A) (n : ℕ) (x : A) → slice_get xs n ≡ Some x → slice_get (xs ++ ys) n ≡ Some x
get_left [] ys n x e = absurd (none-some x e)
get_left (y ∷ xs) ys zero x e = e
get_left (y ∷ xs) ys (suc n) x e = get_left xs ys n x e

get_right : {A : Type 0} (xs ys : List A) (n : ℕ) (x : A) → slice_get ys n ≡ Some x → slice_get (xs ++ ys) (length xs + n) ≡ Some x
get_right [] ys n x e = (let sum : 0 + n ≡ n = omega arith in subst (λ m. slice_get ys m ≡ Some x) (sym sum) e)
get_right (y ∷ xs) ys n x e = (let sum : suc (length xs) + n ≡ suc (length xs + n) = omega arith in subst (λ m. slice_get (y ∷ (xs ++ ys)) m ≡ Some x) (sym sum) (get_right xs ys n x e))

pub among_get : {A : Type 0} (xs : List A) (n : ℕ) (x : A) → slice_get xs n ≡ Some x → Among xs x
among_get [] n x e = absurd (none-some x e)
among_get (y ∷ xs) zero x e = (let some : Some y ≡ Some x = e in inl (cc some))
among_get (y ∷ xs) (suc n) x e = inr (among_get xs n x e)

-- items of a list that is taken from another

pub among_taken : {A : Type 0} (i : ℕ) (xs : List A) (k : A) → Among (take i xs) k → Among xs k
among_taken zero xs k h = absurd h
among_taken (suc i) [] k h = absurd h
among_taken (suc i) (x ∷ xs) k (inl e) = inl e
among_taken (suc i) (x ∷ xs) k (inr h) = inr (among_taken i xs k h)

pub among_dropped : {A : Type 0} (i : ℕ) (xs : List A) (k : A) → Among (drop i xs) k → Among xs k
among_dropped zero xs k h = h
among_dropped (suc i) [] k h = absurd h
among_dropped (suc i) (x ∷ xs) k h = inr (among_dropped i xs k h)

among_removed : (xs : List ℕ) (i k : ℕ) → Among (remove xs i) k → Among xs k
among_removed xs i k h = elim (among_cases (take i xs) (drop (suc i) xs) k h) [
  | inl a ↦ among_taken i xs k a
  | inr a ↦ among_dropped (suc i) xs k a
]

place_within : (test : ℕ → Bool) (xs : List ℕ) (from k : ℕ) → position_from test from xs ≡ Some k → k < from + length xs
place_within test [] from k e = absurd (none-some k e)
place_within test (x ∷ xs) from k e = by (test x) e (λ h. place_within test xs (from + 1) k h)
  where
    by : (b : Bool) → cond b (Some from) (position_from test (from + 1) xs) ≡ Some k → (position_from test (from + 1) xs ≡ Some k → k < from + 1 + length xs) → k < from + suc (length xs)
    by true e rest = (let same : from ≡ k = cc e in omega (arith, same))
    by false e rest = (let low = rest e in omega (arith, low))

-- what is initialised waits
turn_from : (ps : List PackageOf) (n : ℕ) (done : List Bool) (waiting : List ℕ) (k : ℕ) → Among (in_turn ps n done waiting) k → Among waiting k
turn_from ps zero done waiting k h = absurd h
turn_from ps (suc n) done waiting k h = by (position_from (is_ready ps done) 0 waiting) refl h (λ place r. turn_from ps n (slice_set done (slice_index waiting place) true) (remove waiting place) k r)
  where
    by : (o : Option ℕ) → position_from (is_ready ps done) 0 waiting ≡ o → Among (taken o (λ place. slice_index waiting place ∷ in_turn ps n (slice_set done (slice_index waiting place) true) (remove waiting place))) k
        → ((place : ℕ) → Among (in_turn ps n (slice_set done (slice_index waiting place) true) (remove waiting place)) k → Among (remove waiting place) k) → Among waiting k
    by None e h rest = absurd h
    by (Some place) e (inl s) rest =
        let low = place_within (is_ready ps done) waiting 0 place e in
        let lt : place < length waiting = omega (arith, low) in
        subst (Among waiting) s (among_from waiting (slice_index waiting place) (place, lt, get_or_default waiting place (slice_index waiting place) 0 lt))
    by (Some place) e (inr r) rest = among_removed waiting place k (rest place r)

marked_from : (order : List ℕ) (marks : List Bool) (k : ℕ) → Among (marked_in order marks) k → is_marked marks k ≡ true
marked_from order marks k h =
    let r = among_flat (λ n. number_if (is_marked marks n) n) order k h in
    by r.0 (is_marked marks r.0) refl r.2
  where
    by : (n : ℕ) (b : Bool) → is_marked marks n ≡ b → Among (number_if b n) k → is_marked marks k ≡ true
    by n true e (inl s) = subst (λ m. is_marked marks m ≡ true) s e
    by n true e (inr none) = absurd none
    by n false e none = absurd none

none_there : (row : List (Option ℕ)) → Among row None → has_none row ≡ true
none_there [] h = absurd h
none_there (None ∷ row) h = refl
none_there (Some n ∷ row) (inl e) = absurd (cc e)
none_there (Some n ∷ row) (inr h) = none_there row h

module _ {D : Type 0} where
  -- the package of a number is that of the object of this number, and its functions are numbered on from one
  record IsPackageAt (number : List ℕ → Option ℕ) (os : List (ObjectOf D)) (first k : ℕ) (q : PackageOf) : Type 0 where
    object : ObjectOf D
    there : slice_get os k ≡ Some object
    from : ℕ
    is : q ≡ package_of number (first + from) object
    functions : (j : ℕ) (f : FunctionOf D) → slice_get object.functions j ≡ Some f → slice_get (all_functions os) (from + j) ≡ Some f

  package_at : (number : List ℕ → Option ℕ) (first : ℕ) (os : List (ObjectOf D)) (k : ℕ) (q : PackageOf) → slice_get (packages_from number first os) k ≡ Some q → IsPackageAt number os first k q
  package_at number first [] k q e = absurd (none-some q e)
  package_at number first (o ∷ os) zero q e =
      let same : package_of number first o ≡ q = cc e in
      let sum : first ≡ first + 0 = omega arith in
      record {
        object = o;
        there = refl;
        from = 0;
        is = sym same ∙ ap (λ n. package_of number n o) sum;
        functions = λ j f h. (let at : j ≡ 0 + j = omega arith in subst (λ m. slice_get (o.functions ++ all_functions os) m ≡ Some f) at (get_left o.functions (all_functions os) j f h));
      }
  package_at number first (o ∷ os) (suc k) q e =
      let r = package_at number (first + length o.functions) os k q e in
      let sum : first + length o.functions + r.from ≡ first + (length o.functions + r.from) = omega arith in
      record {
        object = r.object;
        there = r.there;
        from = length o.functions + r.from;
        is = r.is ∙ ap (λ n. package_of number n r.object) sum;
        functions = λ j f h. (
            let at : length o.functions + (r.from + j) ≡ length o.functions + r.from + j = omega arith in
            subst (λ m. slice_get (o.functions ++ all_functions os) m ≡ Some f) at (get_right o.functions (all_functions os) (r.from + j) f (r.functions j f h))
            );
      }

  package_there : (number : List ℕ → Option ℕ) (first : ℕ) (os : List (ObjectOf D)) (k : ℕ) (o : ObjectOf D) → slice_get os k ≡ Some o → (n : ℕ) × (slice_get (packages_from number first os) k ≡ Some (package_of number n o))
  package_there number first [] k o e = absurd (none-some o e)
  package_there number first (x ∷ os) zero o e = (let same : x ≡ o = cc e in (first, ap (λ (y : ObjectOf D). Some (package_of number first y)) same))
  package_there number first (x ∷ os) (suc k) o e = package_there number (first + length x.functions) os k o e

  called_at : (name : List ℕ) (n : ℕ) (fs : List (FunctionOf D)) (m : ℕ) → Among (numbers_called name n fs) m → (j : ℕ) × (f : FunctionOf D) × (m ≡ n + j) × (slice_get fs j ≡ Some f)
  called_at name n [] m h = absurd h
  called_at name n (f ∷ fs) m h = elim (among_cases (number_if (is_called name f) n) (numbers_called name (n + 1) fs) m h) [
    | inl here ↦ (0, f, one (is_called name f) here, refl)
    | inr later ↦ (let r = called_at name (n + 1) fs m later in let s = r.2 in let sum : m ≡ n + suc r.0 = omega (arith, s) in (suc r.0, r.1, sum, r.3))
  ]
    where
      one : (b : Bool) → Among (number_if b n) m → m ≡ n + 0
      one true (inl e) = omega (arith, e)
      one true (inr x) = absurd x
      one false x = absurd x

-- where a program begins

record IsMainOf (ps : List PackageOf) (root main : ℕ) : Type 0 where
  «package» : PackageOf
  there : slice_get ps root ≡ Some «package»
  has_it : Among «package».mains main

entry_there : (ps : List PackageOf) (root : ℕ) (o : Option PackageOf) → slice_get ps root ≡ o → MatchOption (entry_of root o) (Unit {0}) (λ e. IsMainOf ps e.root e.main)
entry_there ps root None is = tt
entry_there ps root (Some p) is = by p.is_main p.mains refl
  where
    by : (b : Bool) (mains : List ℕ) → p.mains ≡ mains → MatchOption (entry_if b root mains) (Unit {0}) (λ e. IsMainOf ps e.root e.main)
    by true [] h = tt
    by true (m ∷ others) h = record { «package» = p; there = is; has_it = subst (λ (ms : List ℕ). Among ms m) (sym h) (inl refl) }
    by false mains h = tt

entry_main : (ps : List PackageOf) (o : Option ℕ) → MatchOption (entry_in ps o) (Unit {0}) (λ e. IsMainOf ps e.root e.main)
entry_main ps None = tt
entry_main ps (Some root) = entry_there ps root (slice_get ps root) refl

-- a program of objects

module _ {D : Type 0} (os : List (ObjectOf D)) (root : ℕ) where
  -- the package of a path has an object, and is reached
  pub record IsReachedPath (path : List ℕ) : Type 0 where
    pub place : ℕ
    pub object : ObjectOf D
    pub there : slice_get os place ≡ Some object
    pub of_path : object.path ≡ path
    pub reached : Reaches (import_edges (packages_of os)) root place

  -- a function of such a package
  pub record IsOfReached (number : ℕ) : Type 0 where
    pub object : ObjectOf D
    pub «package» : IsReachedPath object.path
    pub same : «package».object ≡ object
    pub function : FunctionOf D
    pub is : slice_get (all_functions os) number ≡ Some function
    pub own : Among object.functions function

  called_in : (name : List ℕ) (k number : ℕ) (q : PackageOf) → Reaches (import_edges (packages_of os)) root k → (at : IsPackageAt (package_number os) os 0 k q) → Among (numbers_called name (0 + at.from) at.object.functions) number → IsOfReached number
  called_in name k number q reached at h =
      let c = called_at name (0 + at.from) at.object.functions number h in
      let s = c.2 in
      let sum : at.from + c.0 ≡ number = omega (arith, s) in
      record {
        object = at.object;
        «package» = record { place = k; object = at.object; there = at.there; of_path = refl; reached = reached };
        same = refl;
        function = c.1;
        is = subst (λ m. slice_get (all_functions os) m ≡ Some c.1) sum (at.functions c.0 c.1 c.3);
        own = among_get at.object.functions c.0 c.1 c.3;
      }

  init_in : (k number : ℕ) (o : Option PackageOf) → slice_get (packages_of os) k ≡ o → Reaches (import_edges (packages_of os)) root k → Among (inits_in o) number → IsOfReached number
  init_in k number None is reached h = absurd h
  init_in k number (Some q) is reached h =
      let at = package_at (package_number os) 0 os k q is in
      called_in (codes "init") k number q reached at (subst (λ (x : PackageOf). Among x.inits number) at.is h)

  main_in : (k number : ℕ) (q : PackageOf) → slice_get (packages_of os) k ≡ Some q → Reaches (import_edges (packages_of os)) root k → Among q.mains number → IsOfReached number
  main_in k number q is reached h =
      let at = package_at (package_number os) 0 os k q is in
      called_in (codes "main") k number q reached at (subst (λ (x : PackageOf). Among x.mains number) at.is h)

  module _ (whole : ReachesMissing (packages_of os) root → ⊥) where
    by_number : (k : ℕ) (o : ObjectOf D) → slice_get os k ≡ Some o → Reaches (import_edges (packages_of os)) root k → (path : List ℕ) → Among o.imports path → (m : Option ℕ) → package_number os path ≡ m → IsReachedPath path
    by_number k o is reached path h None e =
        let at = package_there (package_number os) 0 os k o is in
        absurd (whole (record {
          number = k;
          lacking = package_of (package_number os) at.0 o;
          reached = reached;
          is = at.1;
          lacks = none_there (map (package_number os) o.imports) (map_among (package_number os) o.imports None path h e);
        }))
    by_number k o is reached path h (Some m) e =
        let at = package_there (package_number os) 0 os k o is in
        let row : slice_get (map (λ (p : PackageOf). p.imports) (packages_of os)) k ≡ Some (map (package_number os) o.imports) =
        slice_get-map (λ (p : PackageOf). p.imports) (packages_of os) k ∙ ap (option_map (λ (p : PackageOf). p.imports)) at.1 in
        let sum : 0 + k ≡ k = omega arith in
        let leads : Contains (import_edges (packages_of os)) (edge k m) =
        among_to (import_edges (packages_of os)) (edge k m)
        (subst (λ n. Among (import_edges (packages_of os)) (edge n m)) sum
        (edges_have (map (λ (p : PackageOf). p.imports) (packages_of os)) 0 k (map (package_number os) o.imports) m row (map_among (package_number os) o.imports (Some m) path h e))) in
        let found = number_from (map (λ (x : ObjectOf D). x.path) os) path 0 m e in
        let s = found.1 in
        let zero_sum : found.0 ≡ m = omega (arith, s) in
        let there : slice_get (map (λ (x : ObjectOf D). x.path) os) m ≡ Some path = subst (λ n. slice_get (map (λ (x : ObjectOf D). x.path) os) n ≡ Some path) zero_sum found.2 in
        with_object m (slice_get os m) refl (sym (slice_get-map (λ (x : ObjectOf D). x.path) os m) ∙ there) (reached.0 ++ edge k m ∷ [], leads_further (import_edges (packages_of os)) reached.0 root k m reached.1 leads)
      where
        with_object : (m : ℕ) (x : Option (ObjectOf D)) → slice_get os m ≡ x → option_map (λ (y : ObjectOf D). y.path) x ≡ Some path → Reaches (import_edges (packages_of os)) root m → IsReachedPath path
        with_object m None at h r = absurd (none-some path h)
        with_object m (Some x) at h r = (let some : Some x.path ≡ Some path = h in record { place = m; object = x; there = at; of_path = cc some; reached = r })

    -- what a package imports that is reached has an object, and is reached
    pub import_reached : (k : ℕ) (o : ObjectOf D) → slice_get os k ≡ Some o → Reaches (import_edges (packages_of os)) root k → (path : List ℕ) → Among o.imports path → IsReachedPath path
    import_reached k o is reached path h = by_number k o is reached path h (package_number os path) refl

module _ {D : Type 0} (place : D → Option PlaceModel) (os : List (ObjectOf D)) (main : List ℕ) (r : RunnableOf) (runnable : IsRunnable (program_of place os main) r) where
  abbrev pub root : ℕ
  root = runnable.begun.entry.root

  pub none_missing : ReachesMissing (packages_of os) root → ⊥
  none_missing h = runnable.whole (runnable.begun.entry, runnable.begun.begins, h)

  -- what begins a program is of packages that are reached
  pub start_reached : (number : ℕ) → Contains r.starts number → IsOfReached os root number
  start_reached number h =
      let begun = runnable.begun in
      let order = initialised (packages_of os) (program_of place os main).order begun.marks in
      by (among_cases (flat_map (λ n. inits_in (slice_get (packages_of os) n)) order) (begun.entry.main ∷ []) number (among_from _ number (subst (λ ns. Contains ns number) begun.starts h)))
    where
      by : Among (flat_map (λ n. inits_in (slice_get (packages_of os) n)) (initialised (packages_of os) (program_of place os main).order runnable.begun.marks)) number ⊎ Among (runnable.begun.entry.main ∷ []) number → IsOfReached os root number
      by (inl early) =
          let begun = runnable.begun in
          let order = (program_of place os main).order in
          let one = among_flat (λ n. inits_in (slice_get (packages_of os) n)) (initialised (packages_of os) order begun.marks) number early in
          let waits = turn_from (packages_of os) (length (marked_in order begun.marks)) _ (marked_in order begun.marks) one.0 one.1 in
          let marked = marked_from order begun.marks one.0 waits in
          init_in os root one.0 number (slice_get (packages_of os) one.0) refl ((begun.reached.each one.0).0 marked) one.2
      by (inr (inl same)) =
          let m : IsMainOf (packages_of os) runnable.begun.entry.root runnable.begun.entry.main =
          subst (λ o. MatchOption o (Unit {0}) (λ e. IsMainOf (packages_of os) e.root e.main)) runnable.begun.begins (entry_main (packages_of os) (package_number os main)) in
          main_in os root root number m.«package» m.there ([], refl) (subst (λ n. Among m.«package».mains n) same m.has_it)
      by (inr (inr none)) = absurd none
