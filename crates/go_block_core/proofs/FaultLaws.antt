-- Which faults stand in the lists.
use Rattle.std.proofs.Common.{◌≡◌, ℕ, ◌+◌, ◌<◌, zero, suc, Bool, true, false, not, ◌&&◌, ◌⊎◌, inl, inr, ⊎_elim, List, [], ◌∷◌, ◌++◌, length, get_or, Some, is_some, refl, sym, ap, subst, ◌∙◌, arith}
use Rattle.std.specs.Prelude.{Any, Contains, slice_get}
use Rattle.std.proofs.lemmas.List.Elements.{Contains-append_left, Contains-append_right, Contains-append_cases}
use Rattle.go_decl_core.specs.declared.keys.DeclRef.{DeclRef}
use Rattle.go_block_core.specs.declared.binding.Binding.{Binding}
use Rattle.go_block_core.specs.declared.imports.NamedImport.{NamedImport}
use Rattle.go_block_core.specs.declared.fault.BlockRule.TheVariants.{B1, B2, B3}
use Rattle.go_block_core.specs.declared.fault.BlockFault.{BlockFault}
use Rattle.go_block_core.specs.Bindings.{Bound, file_bound}
use Rattle.go_block_core.specs.Declarations.{PackageDeclaration, is_bindable, has_fixed_form, package_declared, is_main_package}
use Rattle.go_block_core.specs.Faults.{block_fault, fault_if, decl_faults_at, block_decl_faults, bound_faults_at, bound_faults, block_file_faults}
use Rattle.go_block_core.specs.Holding.{with_declared, declared_block, with_bound, bound_block, package_block}
use Rattle.go_block_core.specs.Laws.{Declares, IsOfName, IsSecondDecl, IsMalformed, IsSecondBinding, IsHidden, FaultsAreThese}
use Rattle.go_block_core.specs.Tables.{has}
use Rattle.go_block_core.proofs.FaultLemmas.{both}
use Rattle.go_block_core.proofs.HoldingLaws.{some_any, any_some, declares, declares_yes, declares_back, in_declared, names, names_yes, names_back, in_bound}

-- lists of at most one fault

only : (x f : BlockFault) (k : ℕ) → k < 1 → get_or (x ∷ []) k f ≡ f → f ≡ x
only x f zero lt e = sym e
only x f (suc k) lt e = absurd (omega arith)

contains_if : (t : Bool) (x f : BlockFault) → Contains (fault_if t x) f → (t ≡ true) × (f ≡ x)
contains_if true x f h = (refl, only x f h.0 h.1 h.2)
contains_if false x f h = absurd (let lt : h.0 < 0 = h.1 in omega arith)

in_if : (t : Bool) (x f : BlockFault) → t ≡ true → f ≡ x → Contains (fault_if t x) f
in_if true x f e same = (0, omega arith, sym same)
in_if false x f e same = cc

one_of_two : (t u : Bool) (x y f : BlockFault) → Contains (fault_if t x ++ fault_if u y) f → ((t ≡ true) × (f ≡ x)) ⊎ ((u ≡ true) × (f ≡ y))
one_of_two t u x y f h = ⊎_elim (λ c. inl (contains_if t x f c)) (λ c. inr (contains_if u y f c)) (Contains-append_cases (fault_if t x) (fault_if u y) f h)

no_from_not : (b : Bool) → not b ≡ true → b ≡ false
no_from_not true h = (let j : false ≡ true = h in cc)
no_from_not false h = refl

-- an element and those before it
record FoundAt {T : Type 0} (xs : List T) (Q : List T → T → Type 0) : Type 0 where
  before : List T
  here : T
  after : List T
  split : xs ≡ before ++ here ∷ after
  holds : Q before here

module _ {T : Type 0} where
  found_first : (x : T) (xs : List T) (Q : List T → T → Type 0) → Q [] x → FoundAt (x ∷ xs) Q
  found_first x xs Q h = record { before = []; here = x; after = xs; split = refl; holds = h }

  found_later : (x : T) (xs : List T) (Q : List T → T → Type 0) → FoundAt xs (λ before y. Q (x ∷ before) y) → FoundAt (x ∷ xs) Q
  found_later x xs Q r = record { before = x ∷ r.before; here = r.here; after = r.after; split = ap (λ l. x ∷ l) r.split; holds = r.holds }

  split_at : (xs : List T) (k : ℕ) (x : T) → k < length xs → get_or xs k x ≡ x → FoundAt xs (λ before y. y ≡ x)
  split_at [] k x lt e = absurd (omega arith)
  split_at (y ∷ ys) zero x lt e = found_first y ys (λ before z. z ≡ x) e
  split_at (y ∷ ys) (suc k) x lt e = found_later y ys (λ before z. z ≡ x) (split_at ys k x (omega arith) e)

  among_split : (xs before : List T) (x : T) (after : List T) → xs ≡ before ++ x ∷ after → Contains xs x
  among_split xs before x after e = subst (λ l. Contains l x) (sym e) (Contains-append_right before (x ∷ after) x (0, omega arith, refl))

-- declarations

decl_found : (main : Bool) (b : List (List ℕ × DeclRef)) (ds : List PackageDeclaration) (f : BlockFault) → Contains (block_decl_faults main b ds) f → FoundAt ds (λ before d. Contains (decl_faults_at main (declared_block b before) d) f)
decl_found main b [] f h = absurd (let lt : h.0 < 0 = h.1 in omega arith)
decl_found main b (d ∷ ds) f h = ⊎_elim
    (found_first d ds (λ before e. Contains (decl_faults_at main (declared_block b before) e) f))
    (λ c. found_later d ds (λ before e. Contains (decl_faults_at main (declared_block b before) e) f) (decl_found main (with_declared b d) ds f c))
    (Contains-append_cases (decl_faults_at main b d) (block_decl_faults main (with_declared b d) ds) f h)

decl_put : (main : Bool) (b : List (List ℕ × DeclRef)) (before : List PackageDeclaration) (d : PackageDeclaration) (after : List PackageDeclaration) (f : BlockFault) → Contains (decl_faults_at main (declared_block b before) d) f → Contains (block_decl_faults main b (before ++ d ∷ after)) f
decl_put main b [] d after f h = Contains-append_left (decl_faults_at main b d) (block_decl_faults main (with_declared b d) after) f h
decl_put main b (e ∷ es) d after f h = Contains-append_right (decl_faults_at main b e) (block_decl_faults main (with_declared b e) (es ++ d ∷ after)) f (decl_put main (with_declared b e) es d after f h)

pub any_declared : (ds : List PackageDeclaration) (q : List ℕ) → has (declared_block [] ds) q ≡ true → Any (Declares q) ds
any_declared ds q h = some_any (declares q) (λ d. d.decl) (Declares q) (declares_yes q) (declares_back q) ds (sym (ap is_some (in_declared [] ds q)) ∙ h)

pub has_declared : (ds : List PackageDeclaration) (q : List ℕ) → Any (Declares q) ds → has (declared_block [] ds) q ≡ true
has_declared ds q h = ap is_some (in_declared [] ds q) ∙ any_some (declares q) (λ d. d.decl) (Declares q) (declares_yes q) (declares_back q) ds h

decl_meaning : (main : Bool) (ds : List PackageDeclaration) (f : BlockFault) → Contains (block_decl_faults main [] ds) f → IsSecondDecl ds f ⊎ IsMalformed main ds f
decl_meaning main ds f h =
    let r = decl_found main [] ds f h in
    let d = r.here in
    ⊎_elim
    (λ p. (let parts = both (is_bindable d.name) (has (declared_block [] r.before) d.name) p.0 in inl (record { before = r.before; decl = d; after = r.after; split = r.split; binds_name = parts.0; earlier = any_declared r.before d.name parts.1; fault = p.1 })))
    (λ p. (let parts = both (has_fixed_form main d.name) (not d.is_procedure) p.0 in inr (record { decl = d; among = among_split ds r.before d r.after r.split; fixed = parts.0; other = no_from_not d.is_procedure parts.1; fault = p.1 })))
    (one_of_two (is_bindable d.name && has (declared_block [] r.before) d.name) (has_fixed_form main d.name && not d.is_procedure) (block_fault d.decl.file d.at B1) (block_fault d.decl.file d.at B3) f r.holds)

second_decl_stands : (main : Bool) (ds : List PackageDeclaration) (f : BlockFault) → IsSecondDecl ds f → Contains (block_decl_faults main [] ds) f
second_decl_stands main ds f s =
    let d = s.decl in
    let is_second = ap (λ b. b && has (declared_block [] s.before) d.name) s.binds_name ∙ has_declared s.before d.name s.earlier in
    subst (λ l. Contains (block_decl_faults main [] l) f) (sym s.split) (decl_put main [] s.before d s.after f (Contains-append_left (fault_if (is_bindable d.name && has (declared_block [] s.before) d.name) (block_fault d.decl.file d.at B1)) (fault_if (has_fixed_form main d.name && not d.is_procedure) (block_fault d.decl.file d.at B3)) f (in_if _ _ f is_second s.fault)))

malformed_stands : (main : Bool) (ds : List PackageDeclaration) (f : BlockFault) → IsMalformed main ds f → Contains (block_decl_faults main [] ds) f
malformed_stands main ds f s =
    let r = split_at ds s.among.0 s.decl s.among.1 s.among.2 in
    let d = s.decl in
    let split : ds ≡ r.before ++ d ∷ r.after = r.split ∙ ap (λ x. r.before ++ x ∷ r.after) r.holds in
    let is_malformed = ap (λ b. b && not d.is_procedure) s.fixed ∙ ap not s.other in
    subst (λ l. Contains (block_decl_faults main [] l) f) (sym split) (decl_put main [] r.before d r.after f (Contains-append_right (fault_if (is_bindable d.name && has (declared_block [] r.before) d.name) (block_fault d.decl.file d.at B1)) (fault_if (has_fixed_form main d.name && not d.is_procedure) (block_fault d.decl.file d.at B3)) f (in_if _ _ f is_malformed s.fault)))

-- bindings

module _ (block : List (List ℕ × DeclRef)) where
  bound_found : (file : ℕ) (b : List (List ℕ × Binding)) (ns : List Bound) (f : BlockFault) → Contains (bound_faults block file b ns) f → FoundAt ns (λ before n. Contains (bound_faults_at block file (bound_block b before) n) f)
  bound_found file b [] f h = absurd (let lt : h.0 < 0 = h.1 in omega arith)
  bound_found file b (n ∷ ns) f h = ⊎_elim
      (found_first n ns (λ before m. Contains (bound_faults_at block file (bound_block b before) m) f))
      (λ c. found_later n ns (λ before m. Contains (bound_faults_at block file (bound_block b before) m) f) (bound_found file (with_bound b n) ns f c))
      (Contains-append_cases (bound_faults_at block file b n) (bound_faults block file (with_bound b n) ns) f h)

  bound_put : (file : ℕ) (b : List (List ℕ × Binding)) (before : List Bound) (n : Bound) (after : List Bound) (f : BlockFault) → Contains (bound_faults_at block file (bound_block b before) n) f → Contains (bound_faults block file b (before ++ n ∷ after)) f
  bound_put file b [] n after f h = Contains-append_left (bound_faults_at block file b n) (bound_faults block file (with_bound b n) after) f h
  bound_put file b (m ∷ ms) n after f h = Contains-append_right (bound_faults_at block file b m) (bound_faults block file (with_bound b m) (ms ++ n ∷ after)) f (bound_put file (with_bound b m) ms n after f h)

  -- a file with a fault
  record InFile (first : ℕ) (files : List (List NamedImport)) (f : BlockFault) : Type 0 where
    number : ℕ
    imports : List NamedImport
    file : slice_get files number ≡ Some imports
    holds : Contains (bound_faults block (first + number) [] (file_bound imports)) f

  file_found : (first : ℕ) (files : List (List NamedImport)) (f : BlockFault) → Contains (block_file_faults block first files) f → InFile first files f
  file_found first [] f h = absurd (let lt : h.0 < 0 = h.1 in omega arith)
  file_found first (g ∷ files) f h = ⊎_elim
      (λ c. (let e : first ≡ first + 0 = omega arith in record { number = 0; imports = g; file = refl; holds = subst (λ n. Contains (bound_faults block n [] (file_bound g)) f) e c }))
      (λ c. (let r = file_found (first + 1) files f c in let e : first + 1 + r.number ≡ first + suc r.number = omega arith in record { number = suc r.number; imports = r.imports; file = r.file; holds = subst (λ n. Contains (bound_faults block n [] (file_bound r.imports)) f) e r.holds }))
      (Contains-append_cases (bound_faults block first [] (file_bound g)) (block_file_faults block (first + 1) files) f h)

  file_put : (first : ℕ) (files : List (List NamedImport)) (number : ℕ) (imports : List NamedImport) (f : BlockFault) → slice_get files number ≡ Some imports → Contains (bound_faults block (first + number) [] (file_bound imports)) f → Contains (block_file_faults block first files) f
  file_put first [] number imports f at h = cc
  file_put first (g ∷ files) zero imports f at h =
      let same : g ≡ imports = (let j : Some g ≡ Some imports = at in cc) in
      let e : first + 0 ≡ first = omega arith in
      Contains-append_left (bound_faults block first [] (file_bound g)) (block_file_faults block (first + 1) files) f
      (subst (λ i. Contains (bound_faults block first [] (file_bound i)) f) (sym same) (subst (λ n. Contains (bound_faults block n [] (file_bound imports)) f) e h))
  file_put first (g ∷ files) (suc number) imports f at h =
      let e : first + suc number ≡ first + 1 + number = omega arith in
      Contains-append_right (bound_faults block first [] (file_bound g)) (block_file_faults block (first + 1) files) f
      (file_put (first + 1) files number imports f at (subst (λ n. Contains (bound_faults block n [] (file_bound imports)) f) e h))

any_bound : (ns : List Bound) (q : List ℕ) → has (bound_block [] ns) q ≡ true → Any (IsOfName q) ns
any_bound ns q h = some_any (names q) (λ n. n.binding) (IsOfName q) (names_yes q) (names_back q) ns (sym (ap is_some (in_bound [] ns q)) ∙ h)

has_bound : (ns : List Bound) (q : List ℕ) → Any (IsOfName q) ns → has (bound_block [] ns) q ≡ true
has_bound ns q h = ap is_some (in_bound [] ns q) ∙ any_some (names q) (λ n. n.binding) (IsOfName q) (names_yes q) (names_back q) ns h

bound_meaning : (ds : List PackageDeclaration) (files : List (List NamedImport)) (f : BlockFault) → Contains (block_file_faults (declared_block [] ds) 0 files) f → IsSecondBinding files f ⊎ IsHidden ds files f
bound_meaning ds files f h =
    let block = declared_block [] ds in
    let i = file_found block 0 files f h in
    let r = bound_found block i.number [] (file_bound i.imports) f (let e : 0 + i.number ≡ i.number = omega arith in subst (λ n. Contains (bound_faults block n [] (file_bound i.imports)) f) e i.holds) in
    let n = r.here in
    ⊎_elim
    (λ p. inl (record { number = i.number; imports = i.imports; file = i.file; before = r.before; bound = n; after = r.after; split = r.split; earlier = any_bound r.before n.name p.0; fault = p.1 }))
    (λ p. inr (record { number = i.number; imports = i.imports; file = i.file; bound = n; among = among_split (file_bound i.imports) r.before n r.after r.split; of_package = any_declared ds n.name p.0; fault = p.1 }))
    (one_of_two (has (bound_block [] r.before) n.name) (has block n.name) (block_fault i.number n.binding.at B1) (block_fault i.number n.binding.at B2) f r.holds)

second_binding_stands : (ds : List PackageDeclaration) (files : List (List NamedImport)) (f : BlockFault) → IsSecondBinding files f → Contains (block_file_faults (declared_block [] ds) 0 files) f
second_binding_stands ds files f s =
    let block = declared_block [] ds in
    let n = s.bound in
    let here : Contains (bound_faults block s.number [] (file_bound s.imports)) f = subst (λ l. Contains (bound_faults block s.number [] l) f) (sym s.split) (bound_put block s.number [] s.before n s.after f (Contains-append_left (fault_if (has (bound_block [] s.before) n.name) (block_fault s.number n.binding.at B1)) (fault_if (has block n.name) (block_fault s.number n.binding.at B2)) f (in_if _ _ f (has_bound s.before n.name s.earlier) s.fault))) in
    file_put block 0 files s.number s.imports f s.file (let e : s.number ≡ 0 + s.number = omega arith in subst (λ k. Contains (bound_faults block k [] (file_bound s.imports)) f) e here)

hidden_stands : (ds : List PackageDeclaration) (files : List (List NamedImport)) (f : BlockFault) → IsHidden ds files f → Contains (block_file_faults (declared_block [] ds) 0 files) f
hidden_stands ds files f s =
    let block = declared_block [] ds in
    let n = s.bound in
    let r = split_at (file_bound s.imports) s.among.0 n s.among.1 s.among.2 in
    let split : file_bound s.imports ≡ r.before ++ n ∷ r.after = r.split ∙ ap (λ x. r.before ++ x ∷ r.after) r.holds in
    let here : Contains (bound_faults block s.number [] (file_bound s.imports)) f = subst (λ l. Contains (bound_faults block s.number [] l) f) (sym split) (bound_put block s.number [] r.before n r.after f (Contains-append_right (fault_if (has (bound_block [] r.before) n.name) (block_fault s.number n.binding.at B1)) (fault_if (has block n.name) (block_fault s.number n.binding.at B2)) f (in_if _ _ f (has_declared ds n.name s.of_package) s.fault))) in
    file_put block 0 files s.number s.imports f s.file (let e : s.number ≡ 0 + s.number = omega arith in subst (λ k. Contains (bound_faults block k [] (file_bound s.imports)) f) e here)

pub faults_are_these : FaultsAreThese
faults_are_these trees files f =
    let ds = package_declared trees in
    let of_decls = block_decl_faults (is_main_package trees) [] ds in
    let of_files = block_file_faults (package_block trees) 0 files in (
      λ h. ⊎_elim
          (λ c. ⊎_elim inl (λ m. inr (inl m)) (decl_meaning (is_main_package trees) ds f c))
          (λ c. ⊎_elim (λ s. inr (inr (inl s))) (λ s. inr (inr (inr s))) (bound_meaning ds files f c))
          (Contains-append_cases of_decls of_files f h),
      λ h. ⊎_elim
          (λ s. Contains-append_left of_decls of_files f (second_decl_stands (is_main_package trees) ds f s))
          (⊎_elim
          (λ s. Contains-append_left of_decls of_files f (malformed_stands (is_main_package trees) ds f s))
          (⊎_elim
          (λ s. Contains-append_right of_decls of_files f (second_binding_stands ds files f s))
          (λ s. Contains-append_right of_decls of_files f (hidden_stands ds files f s))))
          h,
    )
