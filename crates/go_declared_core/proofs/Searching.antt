-- What a search among declarations in order finds.
use Rattle.std.proofs.Common.{◌≡◌, ℕ, ◌+◌, ◌<◌, ◌≤◌, zero, suc, Bool, true, false, inl, inr, List, [], ◌∷◌, length, map, get_or, Option, Some, None, Err, refl, sym, ap, ◌∙◌, subst, arith}
use Rattle.std.specs.Prelude.{slice_get, if◌then◌else◌}
use Rattle.std.specs.Option.{option_map}
use Rattle.std.specs.List.Sorted.{IsBinarySearchResult}
use Rattle.std.specs.Ordering.{is_lt}
use Rattle.std.specs.declared.cmp.Ordering.TheVariants.{Less, Equal, Greater}
use Rattle.std.proofs.lemmas.Bool.{cases_lt}
use Rattle.std.proofs.lemmas.List.Sorted.{searchable_from_sorted}
use Rattle.std.proofs.lemmas.Option.{slice_get_within, get_or_from_slice_get, slice_get-get_or}
use Rattle.go_term_core.specs.decl_core.declared.keys.DeclRef.{DeclRef}
use Rattle.go_declared_core.specs.declared.shown.DeclaredFace.{DeclaredFace}
use Rattle.go_declared_core.specs.declared.written.WrittenDecl.{WrittenDecl}
use Rattle.go_declared_core.specs.Faces.{face_shown}
use Rattle.go_declared_core.specs.Held.{declared_shown, written_shown}
use Rattle.go_declared_core.specs.Packages.{decls_declared, face_among}
use Rattle.go_declared_core.specs.Written.{DeclsRise, decls_of, position_of, same_decl_place}
use Rattle.go_term_core.specs.decl_core.Order.{place_cmp}
use Rattle.go_declared_core.proofs.Placed.{place_total, same_equal, equal_same, before_less, not_less_back, less_apart}

module _ {A : Type 0} (key : A → DeclRef) where
  -- the number of the first item of a place
  abbrev pub number_of : List A → DeclRef → Option ℕ
  number_of [] d = None
  number_of (x ∷ xs) d = if same_decl_place (key x) d then Some 0 else option_map suc (number_of xs d)

  abbrev pub Rises : List A → Type 0
  Rises xs = DeclsRise (map key xs)

  rise_tail : (x : A) (xs : List A) → Rises (x ∷ xs) → Rises xs
  rise_tail x [] rise = tt
  rise_tail x (y ∷ xs) rise = rise.1

  head_before : (x : A) (xs : List A) → Rises (x ∷ xs) → (j : ℕ) (y : A) → slice_get xs j ≡ Some y → place_cmp (key x) (key y) ≡ Less
  head_before x [] rise j y h = absurd (let no : None ≡ Some y = h in cc)
  head_before x (z ∷ xs) rise zero y h =
      let same : z ≡ y = (let s : Some z ≡ Some y = h in cc) in
      subst (λ w. place_cmp (key x) (key w) ≡ Less) same (before_less (key x) (key z) rise.0)
  head_before x (z ∷ xs) rise (suc j) y h =
      place_total.trans (key x) (key z) (key y) (before_less (key x) (key z) rise.0) (head_before z xs rise.1 j y h)

  rise_sorted : (xs : List A) → Rises xs → (k : ℕ) (d : A) → 0 ≤ k → k + 1 < length xs → is_lt (place_cmp (key (get_or xs (k + 1) d)) (key (get_or xs k d))) ≡ false
  rise_sorted [] rise k d low lt = absurd (omega (arith, lt))
  rise_sorted (x ∷ []) rise k d low lt = absurd (omega (arith, lt))
  rise_sorted (x ∷ y ∷ xs) rise zero d low lt = not_less_back (key x) (key y) (before_less (key x) (key y) rise.0)
  rise_sorted (x ∷ y ∷ xs) rise (suc k) d low lt =
      let lt' : k + 1 < length (y ∷ xs) = omega (arith, lt) in
      let next : suc k + 1 ≡ suc (k + 1) = omega arith in
      subst (λ (m : ℕ). is_lt (place_cmp (key (get_or (x ∷ y ∷ xs) m d)) (key (get_or (y ∷ xs) k d))) ≡ false) (sym next) (rise_sorted (y ∷ xs) rise.1 k d (omega arith) lt')

  -- an item stands at its place
  pub number_at : (xs : List A) (d : DeclRef) (n : ℕ) (x : A) → Rises xs → slice_get xs n ≡ Some x → same_decl_place (key x) d ≡ true → number_of xs d ≡ Some n
  number_at [] d n x rise at same = absurd (let no : None ≡ Some x = at in cc)
  number_at (y ∷ xs) d zero x rise at same =
      let is : y ≡ x = (let s : Some y ≡ Some x = at in cc) in
      ap (λ (b : Bool). if b then Some 0 else option_map suc (number_of xs d)) (ap (λ w. same_decl_place (key w) d) is ∙ same)
  number_at (y ∷ xs) d (suc n) x rise at same = by (same_decl_place (key y) d) refl (number_at xs d n x (rise_tail y xs rise) at same)
    where
      by : (b : Bool) → same_decl_place (key y) d ≡ b → number_of xs d ≡ Some n → (if b then Some 0 else option_map suc (number_of xs d)) ≡ Some (suc n)
      by true t rest = absurd (less_apart (key y) (key x) d (head_before y xs rise n x at) t same)
      by false t rest = ap (option_map suc) rest

  pub number_none : (xs : List A) (d : DeclRef) → ((i : ℕ) (x : A) → slice_get xs i ≡ Some x → same_decl_place (key x) d ≡ true → ⊥) → number_of xs d ≡ None
  number_none [] d none = refl
  number_none (y ∷ xs) d none = by (same_decl_place (key y) d) refl (number_none xs d (λ i x at same. none (suc i) x at same))
    where
      by : (b : Bool) → same_decl_place (key y) d ≡ b → number_of xs d ≡ None → (if b then Some 0 else option_map suc (number_of xs d)) ≡ None
      by true t rest = absurd (none 0 y refl t)
      by false t rest = ap (option_map suc) rest

  -- what a search answers
  pub answer_none : (xs : List A) (d : DeclRef) (n : ℕ) → Rises xs → IsBinarySearchResult (λ x. place_cmp (key x) d) xs (Err n) → number_of xs d ≡ None
  answer_none xs d n rise parted = number_none xs d (λ i x at same.
      let split = parted (searchable_from_sorted place_total key xs d (rise_sorted xs rise)) in
      let lt : i < length xs = slice_get_within xs i x at in
      let equal : place_cmp (key (get_or xs i x)) d ≡ Equal = ap (λ w. place_cmp (key w) d) (get_or_from_slice_get xs i x x at) ∙ same_equal (key x) d same in
      elim (cases_lt i n) [
        | inl before ↦ (let no : Less ≡ Equal = sym (split.0 i x (omega arith) before) ∙ equal in cc)
        | inr behind ↦ (let no : Greater ≡ Equal = sym (split.1 i x behind lt) ∙ equal in cc)
      ])

  pub answer_some : (xs : List A) (d : DeclRef) (n : ℕ) → Rises xs → n < length xs → ((x : A) → place_cmp (key (get_or xs n x)) d ≡ Equal) → number_of xs d ≡ Some n
  answer_some xs d n rise lt equal = by xs refl
    where
      by : (ys : List A) → xs ≡ ys → number_of xs d ≡ Some n
      by [] e = (let none : length xs ≡ 0 = ap length e in absurd (omega (arith, lt, none)))
      by (y ∷ ys) e = number_at xs d n (get_or xs n y) rise (slice_get-get_or xs n y lt) (equal_same (key (get_or xs n y)) d (equal y))

  -- what an item holds, found by its place
  module _ {B : Type 0} (held : A → B) where
    abbrev pub held_by : List A → DeclRef → Option B
    held_by [] d = None
    held_by (x ∷ xs) d = if same_decl_place (key x) d then Some (held x) else held_by xs d

    abbrev item_at : List A → Option ℕ → Option B
    item_at xs None = None
    item_at xs (Some n) = option_map held (slice_get xs n)

    item_behind : (x : A) (xs : List A) (o : Option ℕ) → item_at (x ∷ xs) (option_map suc o) ≡ item_at xs o
    item_behind x xs None = refl
    item_behind x xs (Some n) = refl

    held_is : (xs : List A) (d : DeclRef) → held_by xs d ≡ item_at xs (number_of xs d)
    held_is [] d = refl
    held_is (x ∷ xs) d = by (same_decl_place (key x) d) (held_is xs d)
      where
        by : (b : Bool) → held_by xs d ≡ item_at xs (number_of xs d) → (if b then Some (held x) else held_by xs d) ≡ item_at (x ∷ xs) (if b then Some 0 else option_map suc (number_of xs d))
        by true rest = refl
        by false rest = rest ∙ sym (item_behind x xs (number_of xs d))

    pub held_at : (xs : List A) (d : DeclRef) (n : ℕ) (x : A) → number_of xs d ≡ Some n → slice_get xs n ≡ Some x → held_by xs d ≡ Some (held x)
    held_at xs d n x number at = held_is xs d ∙ (ap (item_at xs) number ∙ ap (option_map held) at)

    pub held_none : (xs : List A) (d : DeclRef) → number_of xs d ≡ None → held_by xs d ≡ None
    held_none xs d number = held_is xs d ∙ ap (item_at xs) number

-- what is held of declarations

pub position_is : (ws : List WrittenDecl) (d : DeclRef) → position_of (map written_shown ws) d ≡ number_of (λ w. w.decl) ws d
position_is [] d = refl
position_is (w ∷ ws) d = ap (λ o. if same_decl_place w.decl d then Some 0 else option_map suc o) (position_is ws d)

decls_written : (ws : List WrittenDecl) → decls_of (map written_shown ws) ≡ map (λ w. w.decl) ws
decls_written [] = refl
decls_written (w ∷ ws) = ap (λ l. w.decl ∷ l) (decls_written ws)

pub rises_written : (ws : List WrittenDecl) → DeclsRise (decls_of (map written_shown ws)) → DeclsRise (map (λ w. w.decl) ws)
rises_written ws h = subst DeclsRise (decls_written ws) h

pub face_is : (es : List DeclaredFace) (d : DeclRef) → face_among (map declared_shown es) d ≡ held_by (λ e. e.decl) (λ e. face_shown e.face) es d
face_is [] d = refl
face_is (e ∷ es) d = ap (λ o. if same_decl_place e.decl d then Some (face_shown e.face) else o) (face_is es d)

decls_given : (es : List DeclaredFace) → decls_declared (map declared_shown es) ≡ map (λ e. e.decl) es
decls_given [] = refl
decls_given (e ∷ es) = ap (λ l. e.decl ∷ l) (decls_given es)

pub rises_given : (es : List DeclaredFace) → DeclsRise (decls_declared (map declared_shown es)) → DeclsRise (map (λ e. e.decl) es)
rises_given es h = subst DeclsRise (decls_given es) h

-- the answers of the two searches

pub place_found : (ws : List WrittenDecl) (d : DeclRef) (n : ℕ) → DeclsRise (decls_of (map written_shown ws)) → n < length ws → ((w : WrittenDecl) → place_cmp (get_or ws n w).decl d ≡ Equal) → Some n ≡ position_of (map written_shown ws) d
place_found ws d n rise lt equal = sym (position_is ws d ∙ answer_some (λ (w : WrittenDecl). w.decl) ws d n (rises_written ws rise) lt equal)

pub place_missing : (ws : List WrittenDecl) (d : DeclRef) (n : ℕ) → DeclsRise (decls_of (map written_shown ws)) → IsBinarySearchResult (λ w. place_cmp w.decl d) ws (Err n) → None ≡ position_of (map written_shown ws) d
place_missing ws d n rise parted = sym (position_is ws d ∙ answer_none (λ (w : WrittenDecl). w.decl) ws d n (rises_written ws rise) parted)

pub face_found : (es : List DeclaredFace) (d : DeclRef) (n : ℕ) (x : DeclaredFace) → DeclsRise (decls_declared (map declared_shown es)) → n < length es → ((e : DeclaredFace) → place_cmp (get_or es n e).decl d ≡ Equal)
    → Some (face_shown (get_or es n x).face) ≡ face_among (map declared_shown es) d
face_found es d n x rise lt equal =
    let number = answer_some (λ (e : DeclaredFace). e.decl) es d n (rises_given es rise) lt equal in
    sym (face_is es d ∙ held_at (λ (e : DeclaredFace). e.decl) (λ (e : DeclaredFace). face_shown e.face) es d n (get_or es n x) number (slice_get-get_or es n x lt))

pub face_missing : (es : List DeclaredFace) (d : DeclRef) (n : ℕ) → DeclsRise (decls_declared (map declared_shown es)) → IsBinarySearchResult (λ e. place_cmp e.decl d) es (Err n) → None ≡ face_among (map declared_shown es) d
face_missing es d n rise parted =
    let number = answer_none (λ (e : DeclaredFace). e.decl) es d n (rises_given es rise) parted in
    sym (face_is es d ∙ held_none (λ (e : DeclaredFace). e.decl) (λ (e : DeclaredFace). face_shown e.face) es d number)
