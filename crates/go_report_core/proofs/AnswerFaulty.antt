-- The faults of a file that are asked of its package as a whole.
use Rattle.std.proofs.Common.{◌≡◌, ◌⊎◌, inl, inr, ℕ, zero, suc, ◌+◌, Bool, true, false, List, [], ◌∷◌, ◌++◌, drop, Some, None, refl, sym, ap, ◌∙◌, arith, subst}
use Rattle.std.specs.Prelude.{Contains, slice_get, nat_eq, if◌then◌else◌}
use Rattle.std.proofs.lemmas.Bool.{eqb-true, eq-eqb}
use Rattle.go_term_core.specs.decl_core.TopDecls.{TopDeclTree}
use Rattle.go_path_core.specs.text_core.declared.rule.Rule.TheVariants.{Y7}
use Rattle.go_term_core.proofs.Members.{In, contained_in, in_back, in_contained, in_either, in_front}
use Rattle.go_block_core.specs.Blocks.{BlocksModel}
use Rattle.go_block_core.specs.Faults.{rule_of}
use Rattle.go_block_core.specs.declared.fault.BlockFault.{BlockFault}
use Rattle.go_expr_core.specs.local_core.declared.Fault.{Fault}
use Rattle.go_expr_core.proofs.Independence.{either}
use Rattle.go_report_core.specs.declared.type_faults.places.PackageFault.{PackageFault}
use Rattle.go_report_core.specs.answer.Laws.{IsOfBlocks, IsOfLooped, IsOfTypes, OuterFaultsAreThese}
use Rattle.go_report_core.specs.answer.Outer.{block_faults_in, fault, looped_decl_faults, looped_if, outer_faults, type_faults_in}

-- those that are in a file

module _ {A : Type 0} (file_of : A → ℕ) (fault_of : A → Fault) (file : ℕ) where
  abbrev pub faults_of_file : List A → List Fault
  faults_of_file [] = []
  faults_of_file (x ∷ xs) = if nat_eq (file_of x) file then fault_of x ∷ faults_of_file xs else faults_of_file xs

  pub of_file : (xs : List A) (f : Fault) → In (faults_of_file xs) f → (x : A) × In xs x × (file_of x ≡ file) × (f ≡ fault_of x)
  of_file [] f h = absurd h
  of_file (x ∷ xs) f h = by (nat_eq (file_of x) file) refl h (of_file xs f)
    where
      by : (b : Bool) → nat_eq (file_of x) file ≡ b → In (if b then fault_of x ∷ faults_of_file xs else faults_of_file xs) f → (In (faults_of_file xs) f → (y : A) × In xs y × (file_of y ≡ file) × (f ≡ fault_of y))
          → (y : A) × In (x ∷ xs) y × (file_of y ≡ file) × (f ≡ fault_of y)
      by true t (inl is) rest = (x, inl refl, eqb-true (file_of x) file t, sym is)
      by true t (inr k) rest = let r = rest k in (r.0, inr r.1, r.2, r.3)
      by false t k rest = let r = rest k in (r.0, inr r.1, r.2, r.3)

  pub in_file : (xs : List A) (x : A) → In xs x → file_of x ≡ file → In (faults_of_file xs) (fault_of x)
  in_file [] x h there = absurd h
  in_file (y ∷ xs) x (inl is) there =
      subst (λ (b : Bool). In (if b then fault_of y ∷ faults_of_file xs else faults_of_file xs) (fault_of x)) (sym (eq-eqb (file_of y) file (ap file_of is ∙ there))) (inl (ap fault_of is))
  in_file (y ∷ xs) x (inr h) there = by (nat_eq (file_of y) file) (in_file xs x h there)
    where
      by : (b : Bool) → In (faults_of_file xs) (fault_of x) → In (if b then fault_of y ∷ faults_of_file xs else faults_of_file xs) (fault_of x)
      by true k = inr k
      by false k = k

block_same : (file : ℕ) (fs : List BlockFault) → block_faults_in file fs ≡ faults_of_file (λ (f : BlockFault). f.file) (λ (f : BlockFault). fault f.offset (rule_of f.rule)) file fs
block_same file [] = refl
block_same file (f ∷ fs) = ap (λ l. if nat_eq f.file file then fault f.offset (rule_of f.rule) ∷ l else l) (block_same file fs)

type_same : (file : ℕ) (fs : List PackageFault) → type_faults_in file fs ≡ faults_of_file (λ (f : PackageFault). f.file) (λ (f : PackageFault). fault f.offset f.rule) file fs
type_same file [] = refl
type_same file (f ∷ fs) = ap (λ l. if nat_eq f.file file then fault f.offset f.rule ∷ l else l) (type_same file fs)

of_blocks : (file : ℕ) (b : BlocksModel) (f : Fault) → In (block_faults_in file b.faults) f → IsOfBlocks file b f
of_blocks file b f h =
    let r = of_file (λ (g : BlockFault). g.file) (λ (g : BlockFault). fault g.offset (rule_of g.rule)) file b.faults f (subst (λ l. In l f) (block_same file b.faults) h) in
    record { found = r.0; there = contained_in b.faults r.0 r.1; in_file = r.2; is = r.3 }

in_blocks : (file : ℕ) (b : BlocksModel) (f : Fault) → IsOfBlocks file b f → In (block_faults_in file b.faults) f
in_blocks file b f x =
    subst (λ l. In l f) (sym (block_same file b.faults))
    (subst (λ g. In (faults_of_file (λ (y : BlockFault). y.file) (λ (y : BlockFault). fault y.offset (rule_of y.rule)) file b.faults) g) (sym x.is)
    (in_file (λ (y : BlockFault). y.file) (λ (y : BlockFault). fault y.offset (rule_of y.rule)) file b.faults x.found (in_contained b.faults x.found x.there) x.in_file))

of_types : (file : ℕ) (types : List PackageFault) (f : Fault) → In (type_faults_in file types) f → IsOfTypes file types f
of_types file types f h =
    let r = of_file (λ (g : PackageFault). g.file) (λ (g : PackageFault). fault g.offset g.rule) file types f (subst (λ l. In l f) (type_same file types) h) in
    record { found = r.0; there = contained_in types r.0 r.1; in_file = r.2; is = r.3 }

in_types : (file : ℕ) (types : List PackageFault) (f : Fault) → IsOfTypes file types f → In (type_faults_in file types) f
in_types file types f x =
    subst (λ l. In l f) (sym (type_same file types))
    (subst (λ g. In (faults_of_file (λ (y : PackageFault). y.file) (λ (y : PackageFault). fault y.offset y.rule) file types) g) (sym x.is)
    (in_file (λ (y : PackageFault). y.file) (λ (y : PackageFault). fault y.offset y.rule) file types x.found (in_contained types x.found x.there) x.in_file))

-- constants that are defined through themselves

abbrev IsFlagged : List TopDeclTree → List Bool → Fault → Type 0
IsFlagged ds flags f = (n : ℕ) × (d : TopDeclTree) × (slice_get ds n ≡ Some d) × (slice_get flags n ≡ Some true) × (f ≡ fault d.ident.span.start Y7)

of_flags : (ds : List TopDeclTree) (flags : List Bool) (f : Fault) → In (looped_decl_faults ds flags) f → IsFlagged ds flags f
of_flags [] flags f h = absurd h
of_flags (d ∷ ds) [] f h = absurd h
of_flags (d ∷ ds) (flag ∷ flags) f h = by flag h (of_flags ds flags f)
  where
    by : (b : Bool) → In (looped_if b d ++ looped_decl_faults ds flags) f → (In (looped_decl_faults ds flags) f → IsFlagged ds flags f) → IsFlagged (d ∷ ds) (b ∷ flags) f
    by true (inl is) rest = (0, d, refl, refl, sym is)
    by true (inr k) rest = let r = rest k in (suc r.0, r.1, r.2, r.3, r.4)
    by false k rest = let r = rest k in (suc r.0, r.1, r.2, r.3, r.4)

in_flags : (ds : List TopDeclTree) (flags : List Bool) (n : ℕ) (d : TopDeclTree) → slice_get ds n ≡ Some d → slice_get flags n ≡ Some true → In (looped_decl_faults ds flags) (fault d.ident.span.start Y7)
in_flags [] flags n d at set = absurd (let no : None ≡ Some d = at in cc)
in_flags (e ∷ ds) [] n d at set = absurd (let no : None ≡ Some true = set in cc)
in_flags (e ∷ ds) (flag ∷ flags) zero d at set =
    let is : e ≡ d = (let s : Some e ≡ Some d = at in cc) in
    let on : true ≡ flag = (let s : Some flag ≡ Some true = set in cc) in
    subst (λ b. In (looped_if b e ++ looped_decl_faults ds flags) (fault d.ident.span.start Y7)) on (inl (ap (λ (x : TopDeclTree). fault x.ident.span.start Y7) is))
in_flags (e ∷ ds) (flag ∷ flags) (suc n) d at set = in_back (looped_if flag e) (looped_decl_faults ds flags) (fault d.ident.span.start Y7) (in_flags ds flags n d at set)

-- flags from a place on

behind : (flags : List Bool) (first n : ℕ) → slice_get (drop first flags) n ≡ slice_get flags (first + n)
behind flags zero n = (let e : n ≡ 0 + n = omega arith in ap (slice_get flags) e)
behind [] (suc first) n = refl
behind (flag ∷ flags) (suc first) n = (let e : suc (first + n) ≡ suc first + n = omega arith in behind flags first n ∙ ap (slice_get (flag ∷ flags)) e)

of_looped : (ds : List TopDeclTree) (first : ℕ) (looped : List Bool) (f : Fault) → In (looped_decl_faults ds (drop first looped)) f → IsOfLooped ds first looped f
of_looped ds first looped f h =
    let r = of_flags ds (drop first looped) f h in
    record { place = r.0; decl = r.1; there = r.2; flag = sym (behind looped first r.0) ∙ r.3; is = r.4 }

in_looped : (ds : List TopDeclTree) (first : ℕ) (looped : List Bool) (f : Fault) → IsOfLooped ds first looped f → In (looped_decl_faults ds (drop first looped)) f
in_looped ds first looped f x =
    subst (λ g. In (looped_decl_faults ds (drop first looped)) g) (sym x.is) (in_flags ds (drop first looped) x.place x.decl x.there (behind looped first x.place ∙ x.flag))

-- the law

module _ (file : ℕ) (b : BlocksModel) (types : List PackageFault) (ds : List TopDeclTree) (first : ℕ) (looped : List Bool) (f : Fault) where
  abbrev blocks : List Fault
  blocks = block_faults_in file b.faults

  abbrev of_type : List Fault
  of_type = type_faults_in file types

  abbrev loops : List Fault
  loops = looped_decl_faults ds (drop first looped)

  is_these : Contains (outer_faults file b types ds (drop first looped)) f → IsOfBlocks file b f ⊎ IsOfTypes file types f ⊎ IsOfLooped ds first looped f
  is_these h =
      either (in_either (blocks ++ of_type) loops f (in_contained ((blocks ++ of_type) ++ loops) f h))
      (λ k. either (in_either blocks of_type f k) (λ m. inl (of_blocks file b f m)) (λ m. inr (inl (of_types file types f m))))
      (λ k. inr (inr (of_looped ds first looped f k)))

  these_are : IsOfBlocks file b f ⊎ IsOfTypes file types f ⊎ IsOfLooped ds first looped f → Contains (outer_faults file b types ds (drop first looped)) f
  these_are (inl x) = contained_in ((blocks ++ of_type) ++ loops) f (in_front (blocks ++ of_type) loops f (in_front blocks of_type f (in_blocks file b f x)))
  these_are (inr (inl x)) = contained_in ((blocks ++ of_type) ++ loops) f (in_front (blocks ++ of_type) loops f (in_back blocks of_type f (in_types file types f x)))
  these_are (inr (inr x)) = contained_in ((blocks ++ of_type) ++ loops) f (in_back (blocks ++ of_type) loops f (in_looped ds first looped f x))

pub outer_faults_are_these : OuterFaultsAreThese
outer_faults_are_these file b types ds first looped f = (is_these file b types ds first looped f, these_are file b types ds first looped f)
