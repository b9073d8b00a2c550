-- The types of variables that are declared.
use Rattle.std.proofs.Common.{◌≡◌, ◌<◌, ℕ, zero, suc, Bool, true, false, ◌&&◌, ◌==◌, List, [], ◌∷◌, length, map, replicate, refl, sym, ap, ◌∙◌, inl, inr, arith}
use Rattle.std.specs.Prelude.{◌≢◌, Option, Some, None, option_map, slice_get, if◌then◌else◌}
use Rattle.std.specs.List.{list_all}
use Rattle.std.proofs.lemmas.Bool.{cases_Bool, eqb-true, eq-eqb, ne_eqb}
use Rattle.std.proofs.lemmas.List.{length-replicate, length-map}
use Rattle.std.proofs.lemmas.Option.{slice_get-map}
use Rattle.go_constant_core.specs.text_core.declared.rule.Rule.TheVariants.{Y4}
use Rattle.go_term_core.specs.declared.term.Basic.TheVariants as basics
use Rattle.go_expr_core.specs.operand_core.declared.types.ValueType.{ValueType}
use Rattle.go_expr_core.specs.operand_core.declared.types.ValueType.TheVariants as value_types
use Rattle.go_expr_core.specs.operand_core.declared.types.Operand.{Operand}
use Rattle.go_expr_core.specs.operand_core.TypeRules.{TypeRules}
use Rattle.go_expr_core.specs.operand_core.Values.{default_type}
use Rattle.go_expr_core.specs.operand_core.Relations.{IsAssignable, by_type, by_kind}
use Rattle.go_expr_core.specs.denote_core.declared.things.Argument.{Argument}
use Rattle.go_expr_core.specs.denote_core.declared.things.Argument.TheVariants as arguments
use Rattle.go_stmt_core.specs.declared.statement.targets.Target.{Target}
use Rattle.go_stmt_core.specs.declared.statement.targets.Target.TheVariants as targets
use Rattle.go_stmt_core.specs.statement.Assignments.{has_type, takes_argument, is_left_side, all_pairs, assignment_rule}
use Rattle.go_stmt_core.specs.statement.Declarations.{given_type, declared_types, declared_target, variables_rule, type_after, paired_types, short_types}
use Rattle.go_stmt_core.specs.statement.Laws.{KnowsTypes, Initialises, VariablesAreDeclared, ShortDeclarations}
use Rattle.go_stmt_core.proofs.StatementPairing.{all_each, counted, counted_only}

-- one thing so many times

all_same : {X : Type 0} (p : X → Bool) (n : ℕ) (x : X) → p x ≡ true → list_all p (replicate n x) ≡ true
all_same p zero x h = refl
all_same p (suc n) x h = ap (λ b. b && list_all p (replicate n x)) h ∙ all_same p n x h

get_same : {X : Type 0} (n i : ℕ) (x : X) → i < n → slice_get (replicate n x) i ≡ Some x
get_same zero i x lt = absurd (omega (arith, lt))
get_same (suc n) zero x lt = refl
get_same (suc n) (suc i) x lt = get_same n i x (omega (arith, lt))

map_same : {X Y : Type 0} (f : X → Y) (n : ℕ) (x : X) → map f (replicate n x) ≡ replicate n (f x)
map_same f zero x = refl
map_same f (suc n) x = ap (λ l. f x ∷ l) (map_same f n x)

pairs_same : {X Y : Type 0} (p : X → Y → Bool) (x : X) (ys : List Y) → all_pairs p (replicate (length ys) x) ys ≡ list_all (p x) ys
pairs_same p x [] = refl
pairs_same p x (y ∷ ys) = ap (λ b. p x y && b) (pairs_same p x ys)

pairs_one : {X Y : Type 0} (p : X → Y → Bool) (x : X) (ys : List Y) (n : ℕ) → n ≡ length ys → all_pairs p (replicate n x) ys ≡ list_all (p x) ys
pairs_one p x ys n e = ap (λ m. all_pairs p (replicate m x) ys) e ∙ pairs_same p x ys

counted_alike : {X Y : Type 0} (p : X → Y → Bool) (x : X) (ys : List Y) (n : ℕ) → counted (n == length ys) (all_pairs p (replicate n x) ys) ≡ counted (n == length ys) (list_all (p x) ys)
counted_alike p x ys n = elim (cases_Bool (n == length ys)) [
  | inl e ↦ ap (counted (n == length ys)) (pairs_one p x ys n (eqb-true n (length ys) e))
  | inr e ↦ ap (λ b. counted b (all_pairs p (replicate n x) ys)) e ∙ sym (ap (λ b. counted b (list_all (p x) ys)) e)
]

-- variables

left_declared : {T : Type 0} (written : Option (Option T)) → is_left_side (declared_target written) ≡ true
left_declared None = refl
left_declared (Some None) = refl
left_declared (Some (Some t)) = refl

as_assigned : {T : Type 0} (rules : TypeRules T) (target : Target T) (n : ℕ) (is_free : Bool) (given : List (Argument T)) → is_left_side target ≡ true
    → assignment_rule rules (replicate n target) is_free given ≡ (if is_free then None else counted (n == length given) (list_all (takes_argument rules target) given))
as_assigned rules target n is_free given h =
    let pairs = all_pairs (takes_argument rules) (replicate n target) given in
    ap (λ b. if b then (if is_free then None else counted (length (replicate n target) == length given) pairs) else Some Y4) (all_same is_left_side n target h)
    ∙ (ap (λ m. if is_free then None else counted (m == length given) pairs) (length-replicate n target)
    ∙ ap (λ r. if is_free then None else r) (counted_alike (takes_argument rules) target given n))

abbrev types_if : {T : Type 0} → TypeRules T → ℕ → List (Argument T) → Bool → List (Option T)
types_if rules n given same = if same then map (given_type rules) given else replicate n None

types_count : {T : Type 0} (rules : TypeRules T) (n : ℕ) (given : List (Argument T)) (same : Bool) → (n == length given) ≡ same → length (types_if rules n given same) ≡ n
types_count rules n given true e = length-map given (given_type rules) ∙ sym (eqb-true n (length given) e)
types_count rules n given false e = length-replicate n None

pub declared_count : {T : Type 0} (rules : TypeRules T) (written : Option (Option T)) (n : ℕ) (given : List (Argument T)) → length (declared_types rules written n given) ≡ n
declared_count rules None n given = types_count rules n given (n == length given) refl
declared_count rules (Some t) n given = length-replicate n t

own_type : {T : Type 0} (rules : TypeRules T) (n : ℕ) (given : List (Argument T)) (i : ℕ) (o : Operand T) → n ≡ length given
    → slice_get given i ≡ Some (arguments.«Value» o) → slice_get (declared_types rules None n given) i ≡ Some (default_type rules o.value_type)
own_type rules n given i o e h =
    ap (λ b. slice_get (types_if rules n given b) i) (eq-eqb n (length given) e) ∙ (slice_get-map (given_type rules) given i ∙ ap (option_map (given_type rules)) h)

unpaired_types : {T : Type 0} (rules : TypeRules T) (n i : ℕ) (given : List (Argument T)) → n ≢ length given → i < n → slice_get (declared_types rules None n given) i ≡ Some None
unpaired_types rules n i given e lt = ap (λ b. slice_get (types_if rules n given b) i) (ne_eqb n (length given) e) ∙ get_same n i None lt

abbrev HasDefault : {T : Type 0} → TypeRules T → ValueType T → Type 0
HasDefault {T} rules v = (t : T) × ((default_type rules v ≡ Some t) × IsAssignable rules v t)

has_default : {T : Type 0} (rules : TypeRules T) → KnowsTypes rules → (v : ValueType T) → has_type v ≡ true → HasDefault rules v
has_default rules knows (value_types.Typed s) h = (s, (refl, by_type s refl (knows.itself s)))
has_default rules knows value_types.UntypedInt h = (rules.int, (refl, by_kind basics.Int refl (knows.basic basics.Int)))
has_default rules knows value_types.UntypedText h = (rules.string, (refl, by_kind basics.Text refl (knows.basic basics.Text)))
has_default rules knows value_types.UntypedBool h = (rules.bool, (refl, by_kind basics.Bool refl (knows.basic basics.Bool)))
has_default rules knows value_types.Nil h = absurd cc

initialised : {T : Type 0} (rules : TypeRules T) (n : ℕ) (given : List (Argument T)) (i : ℕ) (o : Operand T) → KnowsTypes rules
    → variables_rule rules None n false given ≡ None → slice_get given i ≡ Some (arguments.«Value» o) → Initialises rules o (slice_get (declared_types rules None n given) i)
initialised rules n given i o knows h e =
    let parts = counted_only (n == length given) (list_all (takes_argument rules targets.New) given) h in
    let d = has_default rules knows o.value_type (all_each (takes_argument rules targets.New) given parts.1 i (arguments.«Value» o) e) in
    record { t = d.0; declared_is = own_type rules n given i o (eqb-true n (length given) parts.0) e ∙ ap Some d.1.0; assignable = d.1.1 }

pub variables : {T : Type 0} → VariablesAreDeclared T
variables = record {
  by_assignment = λ rules written n is_free given. sym (as_assigned rules (declared_target written) n is_free given (left_declared written));
  count = declared_count;
  written = λ rules t n i given lt. get_same n i t lt;
  own = λ rules given i o h. own_type rules (length given) given i o refl h;
  unpaired = unpaired_types;
  initialised = initialised;
}

-- short declarations

paired_new : {T : Type 0} (rules : TypeRules T) (given : List (Argument T)) → paired_types rules (replicate (length given) targets.New) given ≡ map (given_type rules) given
paired_new rules [] = refl
paired_new rules (a ∷ given) = ap (λ l. given_type rules a ∷ l) (paired_new rules given)

abbrev after : {T : Type 0} → TypeRules T → Target T → Option T
after rules target = type_after rules target arguments.Refused

abbrev short_if : {T : Type 0} → TypeRules T → List (Target T) → List (Argument T) → Bool → List (Option T)
short_if rules ts given same = if same then paired_types rules ts given else map (after rules) ts

new_alike : {T : Type 0} (rules : TypeRules T) (n : ℕ) (given : List (Argument T)) (same : Bool) → (n == length given) ≡ same
    → short_if rules (replicate n targets.New) given same ≡ types_if rules n given same
new_alike rules n given true e = ap (λ m. paired_types rules (replicate m targets.New) given) (eqb-true n (length given) e) ∙ paired_new rules given
new_alike rules n given false e = map_same (after rules) n targets.New

all_new : {T : Type 0} (rules : TypeRules T) (n : ℕ) (given : List (Argument T)) → short_types rules (replicate n targets.New) given ≡ declared_types rules None n given
all_new rules n given =
    ap (λ m. short_if rules (replicate n targets.New) given (m == length given)) (length-replicate n targets.New) ∙ new_alike rules n given (n == length given) refl

pub paired_count : {T : Type 0} (rules : TypeRules T) (ts : List (Target T)) (given : List (Argument T)) → length ts ≡ length given → length (paired_types rules ts given) ≡ length ts
paired_count rules [] given e = refl
paired_count rules (t ∷ ts) [] e = absurd cc
paired_count rules (t ∷ ts) (a ∷ given) e = let less : length ts ≡ length given = omega (arith, e) in ap suc (paired_count rules ts given less)

short_count : {T : Type 0} (rules : TypeRules T) (ts : List (Target T)) (given : List (Argument T)) (same : Bool) → (length ts == length given) ≡ same → length (short_if rules ts given same) ≡ length ts
short_count rules ts given true e = paired_count rules ts given (eqb-true (length ts) (length given) e)
short_count rules ts given false e = length-map ts (after rules)

paired_old : {T : Type 0} (rules : TypeRules T) (ts : List (Target T)) (given : List (Argument T)) (i : ℕ) (t : T) → length ts ≡ length given
    → slice_get ts i ≡ Some (targets.Variable t) → slice_get (paired_types rules ts given) i ≡ Some (Some t)
paired_old rules [] given i t e h = absurd cc
paired_old rules (s ∷ ts) [] i t e h = absurd cc
paired_old rules (s ∷ ts) (a ∷ given) zero t e h = let is : s ≡ targets.Variable t = cc in ap (λ target. Some (type_after rules target a)) is
paired_old rules (s ∷ ts) (a ∷ given) (suc i) t e h = let less : length ts ≡ length given = omega (arith, e) in paired_old rules ts given i t less h

short_old : {T : Type 0} (rules : TypeRules T) (ts : List (Target T)) (given : List (Argument T)) (i : ℕ) (t : T) (same : Bool) → (length ts == length given) ≡ same
    → slice_get ts i ≡ Some (targets.Variable t) → slice_get (short_if rules ts given same) i ≡ Some (Some t)
short_old rules ts given i t true e h = paired_old rules ts given i t (eqb-true (length ts) (length given) e) h
short_old rules ts given i t false e h = slice_get-map (after rules) ts i ∙ ap (option_map (after rules)) h

paired_at : {T : Type 0} (rules : TypeRules T) (ts : List (Target T)) (given : List (Argument T)) (i : ℕ) (o : Operand T)
    → slice_get ts i ≡ Some targets.New → slice_get given i ≡ Some (arguments.«Value» o) → slice_get (paired_types rules ts given) i ≡ Some (default_type rules o.value_type)
paired_at rules [] given i o h k = absurd cc
paired_at rules (s ∷ ts) [] i o h k = absurd cc
paired_at rules (s ∷ ts) (a ∷ given) zero o h k =
    let is : s ≡ targets.New = cc in
    let that : a ≡ arguments.«Value» o = cc in
    ap (λ target. Some (type_after rules target a)) is ∙ ap (λ argument. Some (given_type rules argument)) that
paired_at rules (s ∷ ts) (a ∷ given) (suc i) o h k = paired_at rules ts given i o h k

pub shorts : {T : Type 0} → ShortDeclarations T
shorts = record {
  all_new = all_new;
  count = λ rules ts given. short_count rules ts given (length ts == length given) refl;
  old = λ rules ts given i t h. short_old rules ts given i t (length ts == length given) refl h;
  new = λ rules ts given i o e h k. ap (λ b. slice_get (short_if rules ts given b) i) (eq-eqb (length ts) (length given) e) ∙ paired_at rules ts given i o h k;
  unpaired = λ rules ts given i e h.
      ap (λ b. slice_get (short_if rules ts given b) i) (ne_eqb (length ts) (length given) e) ∙ (slice_get-map (after rules) ts i ∙ ap (option_map (after rules)) h);
}
