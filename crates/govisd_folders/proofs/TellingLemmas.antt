-- Faults that are written one after another, each of the file in which it lies.
use Rattle.std.proofs.Common.{◌≡◌, ◌≢◌, ◌∙◌, ℕ, zero, suc, ◌+◌, ◌-◌, ◌<◌, ◌≤◌, ◌==◌, Bool, true, false, List, [], ◌∷◌, ◌++◌, length, drop, get_or, take, append_assoc, flat_map, All, Option, Some, None, Result, Ok, Err, OnOk, IfOk, refl, sym, ap, subst, arith}
use Rattle.std.specs.Prelude.{option_and_then, option_map, slice_get, string_bytes}
use Rattle.std.specs.List.{AllByRecursion}
use Rattle.std.proofs.lemmas.List.{append-nil, length-drop, take_more, take_all}
use Rattle.std.proofs.lemmas.List.Elements.{All-from_recursion, recursion_from_All}
use Rattle.std.proofs.lemmas.Bool.{eqb-false, eqb-true}
use Rattle.std.proofs.lemmas.Option.{none-some}
use Rattle.std.proofs.Math.Seq.{take-add}
use Rattle.go_folder_core.specs.Folders.{joined_path}
use Rattle.go_folder_core.specs.Places.{IsPosition}
use Rattle.go_graph_core.specs.Workspaces.{PackageModel}
use Rattle.go_diagnostic_core.specs.snap_core.declared.fault.PlacedFault.{PlacedFault}
use Rattle.go_diagnostic_core.specs.snap_core.Faults.{LiesIn}
use Rattle.go_graph_core.specs.Sources.{SourceModel}
use Rattle.govisd_disk.specs.Scopes.{ScopeModel, has_fault, source_at}
use Rattle.govisd_folders.specs.Selecting.{is_shown, shown_in, told_by, told_if, told_in}
use Rattle.govisd_folders.specs.Telling.{AddsFault, AddsLines, AddsOne, AreLines, IsFault, IsFolderOf, IsLine, LiesTold, file_text}
use Rattle.go_cause_core.specs.declared.cause.Cause.{Cause}
use Rattle.govisd_folders.specs.declared.looks.Look.{Look}
use Rattle.govisd_folders.specs.declared.selecting.Told.{Told}

-- a fault that lies in a file is found there
source_there : (ps : List PackageModel) (f : PlacedFault) (h : LiesIn ps f) → source_at ps f ≡ Some (h.of_package.0, h.source)
source_there ps f h =
    ap (λ (o : Option PackageModel). option_and_then (λ p. option_map (λ s. (p.0, s)) (slice_get p.1 f.file)) o) h.there
    ∙ ap (λ (o : Option SourceModel). option_map (λ s. (h.of_package.0, s)) o) h.in_package

pub lies_somewhere : (ps : List PackageModel) (f : PlacedFault) → LiesIn ps f → source_at ps f ≡ None → ⊥
lies_somewhere ps f h none = none-some _ (sym none ∙ source_there ps f h)

-- faults of one file are found in the same
pub source_beside : (ps : List PackageModel) (f g : PlacedFault) → f.«package» ≡ g.«package» → f.file ≡ g.file → source_at ps f ≡ source_at ps g
source_beside ps f g of_package of_file =
    ap (λ (n : ℕ). option_and_then (λ (p : PackageModel). option_map (λ s. (p.0, s)) (slice_get p.1 n)) (slice_get ps f.«package»)) of_file
    ∙ ap (λ (n : ℕ). option_and_then (λ (p : PackageModel). option_map (λ s. (p.0, s)) (slice_get p.1 g.file)) (slice_get ps n)) of_package

-- so many of the faults after the first ones
pub within_rest : (faults : List Told) (i n : ℕ) → n ≤ length (drop i faults) → i ≤ length faults → i + n ≤ length faults
within_rest faults i n few within = close i n (length faults) (subst (λ k. n ≤ k) (length-drop i faults) few) within
  where
    close : (i n k : ℕ) → n ≤ k - i → i ≤ k → i + n ≤ k
    close i n k few within = omega arith

-- faults that lie in files do so where they are told of
told_lie_in : (ps : List PackageModel) (every fs : List PlacedFault) (cs : List Cause) → AllByRecursion (LiesIn ps) fs → AllByRecursion (LiesTold ps) (told_by every fs cs)
told_lie_in ps every [] cs h = tt
told_lie_in ps every (f ∷ fs) [] h = tt
told_lie_in ps every (f ∷ fs) (c ∷ cs) h = (h.0, told_lie_in ps every fs cs h.1)

kept : (P : Told → Type 0) (q : Told → Bool) (ts : List Told) → AllByRecursion P ts → AllByRecursion P (flat_map (λ t. told_if (q t) t) ts)
kept P q [] h = tt
kept P q (t ∷ ts) h = by (q t) (kept P q ts h.1)
  where
    by : (b : Bool) → AllByRecursion P (flat_map (λ u. told_if (q u) u) ts) → AllByRecursion P (told_if b t ++ flat_map (λ u. told_if (q u) u) ts)
    by true rest = (h.0, rest)
    by false rest = rest

pub told_lie : (ps : List PackageModel) (scope : ScopeModel) (faults : List PlacedFault) (cs : List Cause) → All (LiesIn ps) faults → All (LiesTold ps) (told_in scope ps (told_by faults faults cs))
told_lie ps scope faults cs h =
    All-from_recursion (LiesTold ps) _ (kept (LiesTold ps) (λ t. has_fault scope ps t.fault) _ (told_lie_in ps faults faults cs (recursion_from_All (LiesIn ps) faults h)))

pub shown_lie : (ps : List PackageModel) (all : Bool) (scope : ScopeModel) (ts : List Told) → All (LiesTold ps) ts → All (LiesTold ps) (shown_in all scope ps ts)
shown_lie ps all scope ts h = All-from_recursion (LiesTold ps) _ (kept (LiesTold ps) (is_shown all scope ps) ts (recursion_from_All (LiesTold ps) ts h))

-- whether the next of some is the first
abbrev pub next_first : Bool → List Told → Bool
next_first is_first [] = is_first
next_first is_first (t ∷ ts) = false

never_first : (ts : List Told) → next_first false ts ≡ false
never_first [] = refl
never_first (t ∷ ts) = refl

pub none_first : (is_first : Bool) (n : ℕ) (ts : List Told) → 1 ≤ n → n < length ts → false ≡ next_first is_first (take n ts)
none_first is_first zero ts some lt = absurd (omega (arith, some))
none_first is_first (suc n) [] some lt = absurd (omega (arith, lt))
none_first is_first (suc n) (t ∷ ts) some lt = refl

pub first_at : (n : ℕ) (ts : List Told) → n < length ts → (n == 0) ≡ next_first true (take n ts)
first_at n ts lt = by (n == 0) refl
  where
    some : n ≢ 0 → 1 ≤ n
    some h = at n h
      where
        at : (m : ℕ) → m ≢ 0 → 1 ≤ m
        at zero h = absurd (h refl)
        at (suc m) h = omega arith

    by : (b : Bool) → (n == 0) ≡ b → (n == 0) ≡ next_first true (take n ts)
    by true e = e ∙ sym (ap (λ m. next_first true (take m ts)) (eqb-true n 0 e))
    by false e = e ∙ none_first true n ts (some (eqb-false n 0 e)) lt

module _ (look : Look) (own given : List ℕ) (ps : List PackageModel) where
  -- what is written of a fault
  pub line_added : (is_first : Bool) (t : Told) (path folder file text old new : List ℕ) (s : SourceModel)
      → source_at ps t.fault ≡ Some (path, s) → IsFolderOf own path folder → file ≡ file_text look.format given (joined_path folder s.name) → text ≡ s.text → AddsFault look path file text is_first t old new → AddsOne look own given ps is_first t old new
  line_added is_first t path folder file text old new s lies below named same h = (
    h.line,
    record {
      path = path;
      source = s;
      lies = lies;
      text = record {
        folder = folder;
        below = below;
        at = h.at;
        place = subst (λ l. IsPosition (take t.fault.offset l) h.at) same h.place;
        is = subst (λ f. IsFault look path f h.at is_first t h.line) named h.said;
      };
    },
    h.is,
  )

  -- one more line
  lines_more : (is_first : Bool) (ts : List Told) (t : Told) (text line : List ℕ) → AreLines look own given ps is_first ts text → IsLine look own given ps (next_first is_first ts) t line → AreLines look own given ps is_first (ts ++ t ∷ []) (text ++ line)
  lines_more is_first [] t text line h is = (line, [], is, refl, ap (λ l. l ++ line) h ∙ sym (append-nil line))
  lines_more is_first (u ∷ ts) t text line h is =
      (h.0, h.1 ++ line, h.2, lines_more false ts t h.1 line h.3 (subst (λ b. IsLine look own given ps b t line) (sym (never_first ts)) is), ap (λ l. l ++ line) h.4 ∙ append_assoc h.0 h.1 line)

  -- none
  pub adds_none : (is_first : Bool) (start : List ℕ) → AddsLines look own given ps is_first [] start start
  adds_none is_first start = ([], refl, sym (append-nil start))

  -- one more turn of a loop that writes faults
  pub adds_more : (is_first next : Bool) (ts : List Told) (i : ℕ) (t : Told) (start mid new : List ℕ) → i < length ts → next ≡ next_first is_first (take i ts) → AddsLines look own given ps is_first (take i ts) start mid → AddsOne look own given ps next (get_or ts i t) mid new → AddsLines look own given ps is_first (take (i + 1) ts) start new
  adds_more is_first next ts i t start mid new lt same h k = (
    h.0 ++ k.0,
    subst (λ l. AreLines look own given ps is_first l (h.0 ++ k.0)) (sym (take_more ts i t lt))
        (lines_more is_first (take i ts) (get_or ts i t) h.0 k.0 h.1 (subst (λ b. IsLine look own given ps b (get_or ts i t) k.0) same k.1)),
    k.2 ∙ ap (λ l. l ++ k.0) h.2 ∙ append_assoc start h.0 k.0,
  )

  -- the lines of some faults after those of others
  lines_joined : (is_first : Bool) (ts us : List Told) (text rest : List ℕ) → AreLines look own given ps is_first ts text → AreLines look own given ps (next_first is_first ts) us rest → AreLines look own given ps is_first (ts ++ us) (text ++ rest)
  lines_joined is_first [] us text rest h k = subst (λ l. AreLines look own given ps is_first us (l ++ rest)) (sym h) k
  lines_joined is_first (t ∷ ts) us text rest h k =
      (h.0, h.1 ++ rest, h.2, lines_joined false ts us h.1 rest h.3 (subst (λ b. AreLines look own given ps b us rest) (sym (never_first ts)) k), ap (λ l. l ++ rest) h.4 ∙ append_assoc h.0 h.1 rest)

  -- the faults of one more file
  pub adds_file : (is_first next : Bool) (ts : List Told) (i n : ℕ) (start mid new : List ℕ) → next ≡ next_first is_first (take i ts) → AddsLines look own given ps is_first (take i ts) start mid → AddsLines look own given ps next (take n (drop i ts)) mid new → AddsLines look own given ps is_first (take (i + n) ts) start new
  adds_file is_first next ts i n start mid new same h k = (
    h.0 ++ k.0,
    subst (λ l. AreLines look own given ps is_first l (h.0 ++ k.0)) (sym (take-add i n ts))
        (lines_joined is_first (take i ts) (take n (drop i ts)) h.0 k.0 h.1 (subst (λ b. AreLines look own given ps b (take n (drop i ts)) k.0) same k.1)),
    k.2 ∙ ap (λ l. l ++ k.0) h.2 ∙ append_assoc start h.0 k.0,
  )
