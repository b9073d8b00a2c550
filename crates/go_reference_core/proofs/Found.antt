-- References of a file, of a package and of a snapshot.
use Rattle.std.proofs.Common.{◌≡◌, ◌↔◌, ◌++◌, ◌+◌, ◌<◌, ◌≤◌, ◌∙◌, ℕ, Bool, true, false, List, [], ◌∷◌, length, get_or, map, Option, Some, None, refl, sym, ap, subst, arith}
use Rattle.std.specs.Borrow.{Bor}
use Rattle.std.specs.Option.{option_map}
use Rattle.std.specs.Prelude.{IsTrue, MatchOption, slice_get}
use Rattle.std.proofs.lemmas.Bool.{true≢false}
use Rattle.std.proofs.lemmas.Option.{none-some, slice_get-get_or, slice_get-map, slice_get_within}
use Rattle.go_handle_core.specs.Declarations.{Declaration}
use Rattle.go_query_core.specs.package_core.PackagePartParts.{FileOf, PartModel}
use Rattle.go_query_core.specs.report_core.UsageUsed.{FileUse}
use Rattle.go_query_core.specs.snap_core.WholeWorkspaceLists.{one_at}
use Rattle.go_query_core.specs.snap_core.Snapshots.{SnapshotModel}
use Rattle.go_reference_core.specs.declared.reference.Reference.{Reference}
use Rattle.go_reference_core.specs.References.{AreFileReferences, AreReferences, ByNumber, HasDeclaration, InFile, InPackage, IsBefore, IsFileOf, IsReference, IsReferenceIn}
use Rattle.go_reference_core.specs.mirrors.Adding.{Adds, IsOfFiles, IsOfSlot, IsOfUses, IsUseAt}
use Rattle.go_reference_core.proofs.Added.{adds_end, adds_none, adds_one, adds_same, adds_start, adds_step}

-- what a slice has at a number
read_at : {A : Type 0} (xs : List A) (i : ℕ) (x : A) → i < length xs → x ≡ get_or xs i x → slice_get xs i ≡ Some x
read_at xs i x lt is = slice_get-get_or xs i x lt ∙ ap Some (sym is)

pub mapped_at : {A B : Type 0} (f : A → B) (xs : List A) (i : ℕ) (x : A) → slice_get xs i ≡ Some x → slice_get (map f xs) i ≡ Some (f x)
mapped_at f xs i x at = slice_get-map f xs i ∙ ap (option_map f) at

pub mapped_past : {A B : Type 0} (f : A → B) (xs : List A) (i : ℕ) → slice_get xs i ≡ None → slice_get (map f xs) i ≡ None
mapped_past f xs i at = slice_get-map f xs i ∙ ap (option_map f) at

abbrev pub ref : ℕ → ℕ → ℕ → ℕ → Reference
ref number file n offset = record { «package» = number; file = file; number = n; offset = offset }

same_reference : (r s : Reference) → r.«package» ≡ s.«package» → r.file ≡ s.file → r.number ≡ s.number → r.offset ≡ s.offset → r ≡ s
same_reference r s a b c d =
    ap (λ (n : ℕ). ref n r.file r.number r.offset) a ∙ (ap (λ (n : ℕ). ref s.«package» n r.number r.offset) b ∙ (ap (λ (n : ℕ). ref s.«package» s.file n r.offset) c ∙ ap (λ (n : ℕ). ref s.«package» s.file s.number n) d))

-- ---- one occurrence

module _ (d : Declaration) (number file n : ℕ) (u : FileUse) (old : List Reference) where
  pub not_used : (b : Bool) → b ≡ false → IsTrue b ↔ HasDeclaration d u → Adds (IsUseAt d number file n u) old old
  not_used b off is = adds_none (IsUseAt d number file n u) old (λ r h. true≢false (sym (is.1 h.declares) ∙ off))

  pub is_used : (b : Bool) (new : List Reference) → b ≡ true → IsTrue b ↔ HasDeclaration d u → new ≡ old ++ ref number file n u.offset ∷ [] → Adds (IsUseAt d number file n u) old new
  is_used b new on is pushed =
      adds_one (IsUseAt d number file n u) old new (ref number file n u.offset) pushed (record { of_package = refl; of_file = refl; at = refl; declares = is.0 on; offset = refl })
      (λ r h. same_reference r (ref number file n u.offset) h.of_package h.of_file h.at h.offset)

-- ---- those of a file

module _ (d : Declaration) (number file : ℕ) (us : List FileUse) (old : List Reference) where
  abbrev InUses : Reference → Type 0
  InUses = IsOfUses d number file us

  uses_before : (a b : Reference) → InUses a → InUses b → a.number < b.number → IsBefore a b
  uses_before a b p q lt = ByNumber (p.of_package ∙ sym q.of_package) (p.of_file ∙ sym q.of_file) lt

  pub uses_start : Adds (λ r. IsOfUses d number file us r × (r.number < 0)) old old
  uses_start = adds_start InUses (λ r. r.number) old

  pub uses_step : (i : ℕ) (u : FileUse) (mid new : List Reference) → i < length us → u ≡ get_or us i u → Adds (λ r. IsOfUses d number file us r × (r.number < i)) old mid → Adds (IsUseAt d number file i u) mid new
      → Adds (λ r. IsOfUses d number file us r × (r.number < i + 1)) old new
  uses_step i u mid new lt is before added =
      adds_step InUses (λ r. r.number) i old mid new uses_before before (adds_same (IsUseAt d number file i u) (λ r. InUses r × (r.number ≡ i)) mid new (λ r. (to r, from r)) added)
    where
      there : slice_get us i ≡ Some u
      there = read_at us i u lt is

      to : (r : Reference) → IsUseAt d number file i u r → InUses r × (r.number ≡ i)
      to r h = (
        record { of_package = h.of_package; of_file = h.of_file; used = u; has = ap (slice_get us) h.at ∙ there; declares = h.declares; offset = h.offset },
        h.at,
      )

      from : (r : Reference) → InUses r × (r.number ≡ i) → IsUseAt d number file i u r
      from r h =
          let same : h.0.used ≡ u = one_at us i h.0.used u (sym (ap (slice_get us) h.1) ∙ h.0.has) there in
          record { of_package = h.0.of_package; of_file = h.0.of_file; at = h.1; declares = subst (HasDeclaration d) same h.0.declares; offset = h.0.offset ∙ ap (λ (v : FileUse). v.offset) same }

  pub uses_end : (i : ℕ) (new : List Reference) → length us ≤ i → Adds (λ r. IsOfUses d number file us r × (r.number < i)) old new → Adds (IsOfUses d number file us) old new
  uses_end i new le h = adds_end InUses (λ r. r.number) i old new (λ r q. (let lt = slice_get_within us r.number q.used q.has in omega (arith, lt))) h

-- ---- those of a package

module _ (d : Declaration) (number : ℕ) (fs : List FileOf) (old : List Reference) where
  abbrev InFiles : Reference → Type 0
  InFiles = IsOfFiles d number fs

  files_before : (a b : Reference) → InFiles a → InFiles b → a.file < b.file → IsBefore a b
  files_before a b p q lt = InFile (p.is.of_package ∙ sym q.is.of_package) lt

  pub files_start : Adds (λ r. IsOfFiles d number fs r × (r.file < 0)) old old
  files_start = adds_start InFiles (λ r. r.file) old

  pub files_step : (i : ℕ) (f : FileOf) (mid new : List Reference) → i < length fs → f ≡ get_or fs i f → Adds (λ r. IsOfFiles d number fs r × (r.file < i)) old mid → Adds (IsOfUses d number i f.answers.uses) mid new
      → Adds (λ r. IsOfFiles d number fs r × (r.file < i + 1)) old new
  files_step i f mid new lt is before added =
      adds_step InFiles (λ r. r.file) i old mid new files_before before (adds_same (IsOfUses d number i f.answers.uses) (λ r. InFiles r × (r.file ≡ i)) mid new (λ r. (to r, from r)) added)
    where
      there : slice_get fs i ≡ Some f
      there = read_at fs i f lt is

      to : (r : Reference) → IsOfUses d number i f.answers.uses r → InFiles r × (r.file ≡ i)
      to r h = (
        record { file = f; there = ap (slice_get fs) h.of_file ∙ there; is = record { of_package = h.of_package; of_file = refl; used = h.used; has = h.has; declares = h.declares; offset = h.offset } },
        h.of_file,
      )

      from : (r : Reference) → InFiles r × (r.file ≡ i) → IsOfUses d number i f.answers.uses r
      from r h =
          let same : h.0.file ≡ f = one_at fs i h.0.file f (sym (ap (slice_get fs) h.1) ∙ h.0.there) there in
          let u = h.0.is in
          record { of_package = u.of_package; of_file = h.1; used = u.used; has = ap (λ (x : FileOf). slice_get x.answers.uses r.number) (sym same) ∙ u.has; declares = u.declares; offset = u.offset }

  pub files_end : (i : ℕ) (new : List Reference) → length fs ≤ i → Adds (λ r. IsOfFiles d number fs r × (r.file < i)) old new → Adds (IsOfFiles d number fs) old new
  files_end i new le h = adds_end InFiles (λ r. r.file) i old new (λ r q. (let lt = slice_get_within fs r.file q.file q.there in omega (arith, lt))) h

-- ---- those of a snapshot

module _ (s : SnapshotModel) (d : Declaration) where
  parts_before : (a b : Reference) → IsReference s d a → IsReference s d b → a.«package» < b.«package» → IsBefore a b
  parts_before a b p q lt = InPackage lt

  pub parts_start : Adds (λ r. IsReference s d r × (r.«package» < 0)) [] []
  parts_start = adds_start (IsReference s d) (λ r. r.«package») []

  of_slot : (i : ℕ) (x : Option PartModel) → slice_get s.parts i ≡ Some x → (r : Reference) → IsOfSlot d i x r → IsReference s d r × (r.«package» ≡ i)
  of_slot i None there r h = absurd h
  of_slot i (Some p) there r h = (
    record {
      of_file = h.file;
      is_file = record { of_part = p; there = ap (slice_get s.parts) h.is.of_package ∙ there; in_package = h.there };
      used = h.is.used;
      has = h.is.has;
      declares = h.is.declares;
      offset = h.is.offset;
    },
    h.is.of_package,
  )

  to_slot : (i : ℕ) (x : Option PartModel) → slice_get s.parts i ≡ Some x → (r : Reference) → IsReference s d r → r.«package» ≡ i → IsOfSlot d i x r
  to_slot i None there r h at = absurd (let o : Some (Some h.is_file.of_part) ≡ Some None = sym h.is_file.there ∙ (ap (slice_get s.parts) at ∙ there) in cc)
  to_slot i (Some p) there r h at =
      let same : h.is_file.of_part ≡ p = (let o : Some (Some h.is_file.of_part) ≡ Some (Some p) = sym h.is_file.there ∙ (ap (slice_get s.parts) at ∙ there) in cc) in
      record {
        file = h.of_file;
        there = ap (λ (q : PartModel). slice_get q.content.files r.file) (sym same) ∙ h.is_file.in_package;
        is = record { of_package = at; of_file = refl; used = h.used; has = h.has; declares = h.declares; offset = h.offset };
      }

  pub parts_step : (i : ℕ) (x : Option PartModel) (mid new : List Reference) → i < length s.parts → x ≡ get_or s.parts i x → Adds (λ r. IsReference s d r × (r.«package» < i)) [] mid → Adds (IsOfSlot d i x) mid new
      → Adds (λ r. IsReference s d r × (r.«package» < i + 1)) [] new
  parts_step i x mid new lt is before added =
      let there = read_at s.parts i x lt is in
      adds_step (IsReference s d) (λ r. r.«package») i [] mid new parts_before before
      (adds_same (IsOfSlot d i x) (λ r. IsReference s d r × (r.«package» ≡ i)) mid new (λ r. (of_slot i x there r, λ h. to_slot i x there r h.0 h.1)) added)

  pub all_references : (i : ℕ) (rs : List Reference) → length s.parts ≤ i → Adds (λ r. IsReference s d r × (r.«package» < i)) [] rs → AreReferences s d rs
  all_references i rs le h =
      let all = adds_end (IsReference s d) (λ r. r.«package») i [] rs (λ r q. (let lt = slice_get_within s.parts r.«package» (Some q.is_file.of_part) q.is_file.there in omega (arith, lt))) h in
      subst (AreReferences s d) (sym all.is) (record { ordered = all.are.ordered; same = all.are.same })

  -- of one file
  pub of_one_file : (number file : ℕ) (f : FileOf) (rs : List Reference) → IsFileOf s number file f → Adds (IsOfUses d number file f.answers.uses) [] rs → AreFileReferences s number file d rs
  of_one_file number file f rs there added = subst (AreFileReferences s number file d) (sym added.is) (record { ordered = added.are.ordered; same = λ r. (λ c. to r ((added.are.same r).0 c), λ h. (added.are.same r).1 (from r h)) })
    where
      to : (r : Reference) → IsOfUses d number file f.answers.uses r → IsReferenceIn s number file d r
      to r h = record {
        of_package = h.of_package;
        of_file = h.of_file;
        is = record {
          of_file = f;
          is_file = record { of_part = there.of_part; there = ap (slice_get s.parts) h.of_package ∙ there.there; in_package = ap (slice_get there.of_part.content.files) h.of_file ∙ there.in_package };
          used = h.used;
          has = h.has;
          declares = h.declares;
          offset = h.offset;
        };
      }

      from : (r : Reference) → IsReferenceIn s number file d r → IsOfUses d number file f.answers.uses r
      from r h =
          let i = h.is in
          let part : i.is_file.of_part ≡ there.of_part = (let o : Some (Some i.is_file.of_part) ≡ Some (Some there.of_part) = sym i.is_file.there ∙ (ap (slice_get s.parts) h.of_package ∙ there.there) in cc) in
          let here : slice_get there.of_part.content.files file ≡ Some i.of_file = ap (λ (q : PartModel). slice_get q.content.files file) (sym part) ∙ (sym (ap (slice_get i.is_file.of_part.content.files) h.of_file) ∙ i.is_file.in_package) in
          let same : i.of_file ≡ f = one_at there.of_part.content.files file i.of_file f here there.in_package in
          record { of_package = h.of_package; of_file = h.of_file; used = i.used; has = ap (λ (x : FileOf). slice_get x.answers.uses r.number) (sym same) ∙ i.has; declares = i.declares; offset = i.offset }

  pub of_no_file : (number file : ℕ) → ((f : FileOf) → ¬ IsFileOf s number file f) → AreFileReferences s number file d []
  of_no_file number file none = record {
    ordered = λ i j e lt below. absurd (omega (arith, below));
    same = λ r. (
      λ c. absurd (omega (arith, c.1)),
      λ h. absurd (none h.is.of_file (record {
        of_part = h.is.is_file.of_part;
        there = sym (ap (slice_get s.parts) h.of_package) ∙ h.is.is_file.there;
        in_package = sym (ap (slice_get h.is.is_file.of_part.content.files) h.of_file) ∙ h.is.is_file.in_package;
      })),
    );
  }

-- ---- the file of two numbers

-- no file has the numbers where there is no part
pub no_file_of : (s : SnapshotModel) (number file : ℕ) (parts : List (Option PartModel)) → parts ≡ s.parts → ((p : PartModel) → ¬ (slice_get parts number ≡ Some (Some p))) → (f : FileOf) → ¬ IsFileOf s number file f
no_file_of s number file parts same none f h = none h.of_part (ap (λ (l : List (Option PartModel)). slice_get l number) same ∙ h.there)

pub answers_told : (s : SnapshotModel) (number file : ℕ) (parts : List (Option PartModel)) (p : PartModel) (r : Option (Bor (List FileUse))) → parts ≡ s.parts → slice_get parts number ≡ Some (Some p)
    → MatchOption r (slice_get p.content.files file ≡ None) (λ us. (f : FileOf) × (slice_get p.content.files file ≡ Some f) × (us.now ≡ f.answers.uses))
    → MatchOption r ((f : FileOf) → ¬ IsFileOf s number file f) (λ us. (f : FileOf) × IsFileOf s number file f × (us.now ≡ f.answers.uses))
answers_told s number file parts p r same at told = by r told
  where
    there : slice_get s.parts number ≡ Some (Some p)
    there = sym (ap (λ (l : List (Option PartModel)). slice_get l number) same) ∙ at

    by : (r : Option (Bor (List FileUse))) → MatchOption r (slice_get p.content.files file ≡ None) (λ us. (f : FileOf) × (slice_get p.content.files file ≡ Some f) × (us.now ≡ f.answers.uses))
        → MatchOption r ((f : FileOf) → ¬ IsFileOf s number file f) (λ us. (f : FileOf) × IsFileOf s number file f × (us.now ≡ f.answers.uses))
    by None none = λ f h.
        (let part : h.of_part ≡ p = (let o : Some (Some h.of_part) ≡ Some (Some p) = sym h.there ∙ there in cc) in
        none-some f (sym none ∙ (ap (λ (q : PartModel). slice_get q.content.files file) (sym part) ∙ h.in_package)))
    by (Some us) found = (found.0, record { of_part = p; there = there; in_package = found.1 }, found.2)
