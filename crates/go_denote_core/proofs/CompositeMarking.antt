-- Marks of keys: numbers of names, and what a key has by its mark.
use Rattle.std.proofs.Common.{◌≡◌, ℕ, zero, suc, ◌+◌, ◌<◌, ◌≤◌, Bool, true, false, List, [], ◌∷◌, ◌++◌, map, take, drop, length, get_or, is_some, if◌then◌else◌, refl, sym, ap, ◌∙◌, add-one}
use Rattle.std.specs.Prelude.{Option, Some, None, slice_get}
use Rattle.std.specs.Borrow.{Bor}
use Rattle.std.specs.Cmp.Lexicographic.{slice_cmp}
use Rattle.std.specs.Ordering.{is_eq, nat_cmp}
use Rattle.std.specs.Str.{bytes_eq}
use Rattle.std.proofs.lemmas.Bool.{false≢true}
use Rattle.std.proofs.lemmas.List.{drop_more, drop_all, map-append}
use Rattle.std.proofs.lemmas.Map.Text.{is_eq-slice_cmp}
use Rattle.go_text_core.specs.Text.{is_blank}
use Rattle.go_text_core.specs.declared.rule.Rule.TheVariants.{F1, F5, F8}
use Rattle.go_denote_core.specs.composite.Look.{FieldOf}
use Rattle.go_denote_core.specs.composite.Fields.{named_field, shown_field}
use Rattle.go_denote_core.specs.composite.Keys.{refused_key, found_key}
use Rattle.go_denote_core.specs.composite.Literals.{is_struct}
use Rattle.go_denote_core.specs.composite.Marks.{name_number_from, field_number, field_if, numbered_field}
use Rattle.go_denote_core.specs.composite.Laws.{MarksTellKeys}
use Rattle.go_denote_core.specs.composite.mirrors.Numbers.{number_of, first_known}
use Rattle.go_denote_core.proofs.CompositeNames.{bytes_same, names_more}

-- a name is added, or it is there

known_alone : (o : Option ℕ) → o ≡ first_known o None
known_alone None = refl
known_alone (Some n) = refl

pub name_known : (es : List (Bor (List ℕ) × ℕ)) (name : List ℕ) (at : ℕ) → true ≡ is_some (number_of es name)
    → (n : List ℕ) → number_of es n ≡ first_known (number_of es n) (if bytes_eq name n then Some at else None)
name_known es name at there n = by (bytes_eq name n) (bytes_same name n)
  where
    some : (o : Option ℕ) → true ≡ is_some o → o ≡ first_known o (Some at)
    some None h = absurd (false≢true (sym h))
    some (Some m) h = refl

    by : (b : Bool) → (b ≡ true → name ≡ n) → number_of es n ≡ first_known (number_of es n) (if b then Some at else None)
    by true same = some (number_of es n) (there ∙ ap (λ x. is_some (number_of es x)) (same refl))
    by false same = known_alone (number_of es n)

unknown : (o : Option ℕ) → false ≡ is_some o → o ≡ None
unknown None h = refl
unknown (Some m) h = absurd (false≢true h)

pub name_added : (old new : List (Bor (List ℕ) × ℕ)) (k : Bor (List ℕ)) (at : ℕ) → false ≡ is_some (number_of old k.now)
    → ((q : Bor (List ℕ)) → number_of new q.now ≡ (if is_eq (slice_cmp nat_cmp k.now q.now) then Some at else number_of old q.now))
    → (n : List ℕ) → number_of new n ≡ first_known (number_of old n) (if bytes_eq k.now n then Some at else None)
name_added old new k at absent adds n =
    adds (record { ref_ptr = (0, 0); now = n })
    ∙ (ap (λ b. if b then Some at else number_of old n) (is_eq-slice_cmp k.now n) ∙ by (bytes_eq k.now n) (bytes_same k.now n))
  where
    by : (b : Bool) → (b ≡ true → k.now ≡ n) → (if b then Some at else number_of old n) ≡ first_known (number_of old n) (if b then Some at else None)
    by true same = sym (ap (λ o. first_known o (Some at)) (ap (number_of old) (sym (same refl)) ∙ unknown (number_of old k.now) absent))
    by false same = known_alone (number_of old n)

-- the loop over names

pub number_turn : (xs : List (Bor (List ℕ))) (i : ℕ) (d : Bor (List ℕ)) (old new : List (Bor (List ℕ) × ℕ)) → i < length xs
    → ((n : List ℕ) → first_known (number_of old n) (name_number_from i (map (λ m. m.now) (drop i xs)) n) ≡ name_number_from 0 (map (λ m. m.now) xs) n)
    → ((n : List ℕ) → number_of new n ≡ first_known (number_of old n) (if bytes_eq (get_or xs i d).now n then Some i else None))
    → (n : List ℕ) → first_known (number_of new n) (name_number_from (i + 1) (map (λ m. m.now) (drop (i + 1) xs)) n) ≡ name_number_from 0 (map (λ m. m.now) xs) n
number_turn xs i d old new lt before adds n =
    ap (λ o. first_known o rest) (adds n)
    ∙ (by (number_of old n) (bytes_eq (get_or xs i d).now n)
    ∙ (ap (λ l. first_known (number_of old n) (name_number_from i (map (λ m. m.now) l) n)) (sym (drop_more xs i d lt)) ∙ before n))
  where
    rest : Option ℕ
    rest = name_number_from (i + 1) (map (λ m. m.now) (drop (i + 1) xs)) n

    by : (o : Option ℕ) (b : Bool) → first_known (first_known o (if b then Some i else None)) rest ≡ first_known o (if b then Some i else rest)
    by None true = refl
    by None false = refl
    by (Some m) b = refl

pub numbers_end : (xs : List (Bor (List ℕ))) (i : ℕ) (es : List (Bor (List ℕ) × ℕ)) → length xs ≤ i
    → ((n : List ℕ) → first_known (number_of es n) (name_number_from i (map (λ m. m.now) (drop i xs)) n) ≡ name_number_from 0 (map (λ m. m.now) xs) n)
    → (n : List ℕ) → number_of es n ≡ name_number_from 0 (map (λ m. m.now) xs) n
numbers_end xs i es past before n =
    known_alone (number_of es n)
    ∙ (ap (λ l. first_known (number_of es n) (name_number_from i (map (λ m. m.now) l) n)) (sym (drop_all i xs past)) ∙ before n)

-- the search along names

module _ (xs : List (Bor (List ℕ))) (i : ℕ) (d : Bor (List ℕ)) (name : List ℕ) (lt : i < length xs) where
  next_number : name_number_from i (map (λ m. m.now) (drop i xs)) name ≡ (if bytes_eq (get_or xs i d).now name then Some i else name_number_from (i + 1) (map (λ m. m.now) (drop (i + 1) xs)) name)
  next_number = ap (λ l. name_number_from i (map (λ m. m.now) l) name) (drop_more xs i d lt)

  pub number_passed : bytes_eq (get_or xs i d).now name ≡ false → name_number_from (i + 1) (map (λ m. m.now) (drop (i + 1) xs)) name ≡ name_number_from i (map (λ m. m.now) (drop i xs)) name
  number_passed off = sym (next_number ∙ ap (λ b. if b then Some i else name_number_from (i + 1) (map (λ m. m.now) (drop (i + 1) xs)) name) off)

  pub number_here : bytes_eq (get_or xs i d).now name ≡ true → Some i ≡ name_number_from i (map (λ m. m.now) (drop i xs)) name
  number_here on = sym (next_number ∙ ap (λ b. if b then Some i else name_number_from (i + 1) (map (λ m. m.now) (drop (i + 1) xs)) name) on)

pub number_none : (xs : List (Bor (List ℕ))) (i : ℕ) (name : List ℕ) → length xs ≤ i → None ≡ name_number_from i (map (λ m. m.now) (drop i xs)) name
number_none xs i name past = ap (λ l. name_number_from i (map (λ m. m.now) l) name) (sym (drop_all i xs past))

-- one more of some items that are made of names
pub made_turn : {X : Type 0} (f : List ℕ → X) (xs : List (Bor (List ℕ))) (i : ℕ) (d : Bor (List ℕ)) (ms ms' : List X) (m : X) → i < length xs
    → m ≡ f (get_or xs i d).now → ms ≡ map f (map (λ n. n.now) (take i xs)) → ms' ≡ ms ++ m ∷ [] → ms' ≡ map f (map (λ n. n.now) (take (i + 1) xs))
made_turn f xs i d ms ms' m lt this before after =
    let names = map (λ y. y.now) (take i xs) in
    let x = (get_or xs i d).now in
    after
    ∙ (ap (λ l. l ++ m ∷ []) before
    ∙ (ap (λ y. map f names ++ y ∷ []) this
    ∙ (sym (map-append f names (x ∷ [])) ∙ ap (map f) (sym (names_more xs i d lt)))))

-- the field of the number of a name is the field of the name

abbrev head_of : {X : Type 0} → List X → Option X
head_of [] = None
head_of (x ∷ xs) = Some x

abbrev tail_of : {X : Type 0} → List X → List X
tail_of [] = []
tail_of (x ∷ xs) = xs

from_none : {X : Type 0} (xs : List X) → xs ≡ drop 0 xs
from_none [] = refl
from_none (x ∷ xs) = refl

headed : {X : Type 0} (xs : List X) (k : ℕ) → slice_get xs k ≡ head_of (drop k xs)
headed [] zero = refl
headed [] (suc k) = refl
headed (x ∷ xs) zero = refl
headed (x ∷ xs) (suc k) = headed xs k

tailed : {X : Type 0} (xs : List X) (k : ℕ) → tail_of (drop k xs) ≡ drop (suc k) xs
tailed [] zero = refl
tailed [] (suc k) = refl
tailed (x ∷ xs) zero = from_none xs
tailed (x ∷ xs) (suc k) = tailed xs k

named_from : {T D : Type 0} (all fs : List (FieldOf T D)) (k : ℕ) (name : List ℕ) → fs ≡ drop k all → numbered_field all (name_number_from k (map (λ f. f.name) fs) name) ≡ named_field fs name
named_from all [] k name e = refl
named_from {T} {D} all (f ∷ fs) k name e =
    by (bytes_eq f.name name) (named_from all fs (k + 1) name (ap tail_of e ∙ (tailed all k ∙ ap (λ n. drop n all) (sym (add-one k)))))
  where
    by : (b : Bool) → numbered_field all (name_number_from (k + 1) (map (λ f. f.name) fs) name) ≡ named_field fs name
        → numbered_field all (if b then Some k else name_number_from (k + 1) (map (λ f. f.name) fs) name) ≡ (if b then shown_field f.known.is_visible f.known else named_field fs name)
    by true rest = ap field_if (headed all k ∙ ap head_of (sym e))
    by false rest = rest

pub named_by_number : {T D : Type 0} (fields : List (FieldOf T D)) (name : List ℕ) → numbered_field fields (field_number fields name) ≡ named_field fields name
named_by_number fields name = named_from fields fields 0 name (from_none fields)

pub marks_tell : {T S D P : Type 0} → MarksTellKeys T S D P
marks_tell look None is_mixed is_repeated name = refl
marks_tell look (Some t) is_mixed is_repeated name =
    ap (λ f. if is_struct (look.types.form t) then (if is_mixed then refused_key F5 else (if is_blank name then refused_key F1 else found_key look t is_repeated name f)) else refused_key F8)
    (named_by_number (look.literals.fields t) name)
