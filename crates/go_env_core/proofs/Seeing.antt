-- The fields of a struct type that no method keeps from a type, one by one.
use Rattle.std.proofs.Common.{◌≡◌, ℕ, zero, suc, ◌+◌, ◌-◌, ◌<◌, ◌≤◌, Bool, true, false, not, ◌||◌, List, [], ◌∷◌, ◌++◌, map, length, drop, get_or, Option, Some, None, if◌then◌else◌, refl, sym, ap, ◌∙◌, arith}
use Rattle.std.specs.Prelude.{slice_get, option_map, cond}
use Rattle.std.specs.List.{count_by}
use Rattle.std.specs.Borrow.{Bor}
use Rattle.std.proofs.lemmas.Bool.{true≢false}
use Rattle.std.proofs.lemmas.List.{drop_more, drop_all}
use Rattle.std.proofs.lemmas.List.Recursion.{is_count_by}
use Rattle.go_term_core.specs.declared.term.Field.{Field}
use Rattle.go_term_core.specs.Terms.{Term, NoType, Predeclared, ErrorType, Defined, PointerTo, StructOf, InterfaceOf, Fields, NoField, AField}
use Rattle.go_term_core.specs.Shapes.{Line, fields_in}
use Rattle.go_table_core.specs.Entries.{has_method}
use Rattle.go_table_core.specs.Shown.{hides_field, hides_some}
use Rattle.go_select_core.specs.embed_core.Owners.{OwnerModel, nobody}
use Rattle.go_env_core.specs.Scenes.{SceneModel}
use Rattle.go_env_core.specs.Fields.{TheField, field_seen, fields_seen, term_seen}
use Rattle.go_env_core.specs.mirrors.Seen.{is_kept, listed_field, name_unless}

-- where no method of a type has the identifier of a field, all fields are seen

all_step : (f : TheField) (kept all : List TheField) (b c : Bool) → (b || c) ≡ false → (c ≡ false → kept ≡ all)
    → (if b then kept else f ∷ kept) ≡ f ∷ all
all_step f kept all true c off same = absurd (true≢false off)
all_step f kept all false c off same = ap (λ l. f ∷ l) (same off)

pub all_seen : (s : SceneModel) (o : OwnerModel) (home : List ℕ) (fs : Fields) → hides_field o.path o.methods home fs ≡ false → fields_seen s o home fs ≡ fields_seen s nobody home fs
all_seen s o home NoField off = refl
all_seen s o home (AField name place embedded t tag fs) off =
    all_step (field_seen s home name place t) (fields_seen s o home fs) (fields_seen s nobody home fs) (has_method o.path o.methods name home) (hides_field o.path o.methods home fs) off (λ e. all_seen s o home fs e)

pub none_kept : (s : SceneModel) (o : OwnerModel) (t : Term) → hides_some o.path o.methods t ≡ false → term_seen s nobody t ≡ term_seen s o t
none_kept s o NoType off = refl
none_kept s o (Predeclared b) off = refl
none_kept s o ErrorType off = refl
none_kept s o (Defined k) off = refl
none_kept s o (PointerTo t) off = refl
none_kept s o (StructOf home fs) off = sym (all_seen s o home fs off)
none_kept s o (InterfaceOf path ms) off = refl

-- where none keeps any, they are as many as are listed, and each has its number

pub all_counted : (s : SceneModel) (home : List ℕ) (ls : List Line) (fs : List Field) → length fs ≡ length (fields_seen s nobody home (fields_in ls fs))
all_counted s home ls [] = refl
all_counted s home ls (f ∷ fs) = ap suc (all_counted s home ls fs)

pub all_numbered : (s : SceneModel) (home : List ℕ) (ls : List Line) (fs : List Field) (n : ℕ) → option_map (listed_field s home ls) (slice_get fs n) ≡ slice_get (fields_seen s nobody home (fields_in ls fs)) n
all_numbered s home ls [] n = refl
all_numbered s home ls (f ∷ fs) zero = refl
all_numbered s home ls (f ∷ fs) (suc n) = all_numbered s home ls fs n

pub listed_numbered : (s : SceneModel) (home : List ℕ) (ls : List Line) (fs : List Field) (n : ℕ) (r : Option (Bor Field)) → option_map (λ f. f.now) r ≡ slice_get fs n
    → option_map (λ f. listed_field s home ls f.now) r ≡ slice_get (fields_seen s nobody home (fields_in ls fs)) n
listed_numbered s home ls fs n r e = twice r ∙ (ap (option_map (listed_field s home ls)) e ∙ all_numbered s home ls fs n)
  where
    twice : (r : Option (Bor Field)) → option_map (λ f. listed_field s home ls f.now) r ≡ option_map (listed_field s home ls) (option_map (λ f. f.now) r)
    twice None = refl
    twice (Some f) = refl

module _ (s : SceneModel) (o : OwnerModel) (home : List ℕ) (ls : List Line) where
  abbrev pub seen_in : List Field → List TheField
  seen_in fs = fields_seen s o home (fields_in ls fs)

  -- how many are not kept from the type
  count_one : (f : Field) (fs : List Field) (b : Bool) → length (if b then seen_in fs else listed_field s home ls f ∷ seen_in fs) ≡ cond (not b) (1 + length (seen_in fs)) (length (seen_in fs))
  count_one f fs true = refl
  count_one f fs false = let more : (n : ℕ) → suc n ≡ 1 + n = λ n. omega arith in more (length (seen_in fs))

  pub kept_counted : (fs : List Field) → length (seen_in fs) ≡ count_by (λ f. not (is_kept o f.name home)) fs
  kept_counted fs = is_count_by (λ l. length (seen_in l)) (λ f. not (is_kept o f.name home)) refl (λ f l. count_one f l (is_kept o f.name home)) fs

  -- the next field is seen, or it is not
  module _ (fs : List Field) (i : ℕ) (f : Field) (lt : i < length fs) (is : f ≡ get_or fs i f) where
    next_is : drop i fs ≡ f ∷ drop (i + 1) fs
    next_is = drop_more fs i f lt ∙ ap (λ g. g ∷ drop (i + 1) fs) (sym is)

    pub next_named : map (λ (g : TheField). g.name) (seen_in (drop i fs)) ≡ name_unless (is_kept o f.name home) f.name ++ map (λ (g : TheField). g.name) (seen_in (drop (i + 1) fs))
    next_named = ap (λ l. map (λ (g : TheField). g.name) (seen_in l)) next_is ∙ by (is_kept o f.name home)
      where
        by : (b : Bool) → map (λ (g : TheField). g.name) (if b then seen_in (drop (i + 1) fs) else listed_field s home ls f ∷ seen_in (drop (i + 1) fs)) ≡ name_unless b f.name ++ map (λ (g : TheField). g.name) (seen_in (drop (i + 1) fs))
        by true = refl
        by false = refl

  pub none_left : (fs : List Field) (i : ℕ) → length fs ≤ i → seen_in (drop i fs) ≡ []
  none_left fs i le = ap seen_in (drop_all i fs le)

-- a list is asked for an item of a number, one item after the other
pub number_passed : {X : Type 0} (x : X) (xs : List X) (n : ℕ) → 0 < n → slice_get (x ∷ xs) n ≡ slice_get xs (n - 1)
number_passed x xs zero l = absurd (omega (arith, l))
number_passed x xs (suc n) l = let less : suc n - 1 ≡ n = omega arith in ap (λ (k : ℕ). slice_get xs k) (sym less)
