use Rattle.std.proofs.Common.{◌≡◌, ℕ, ◌<◌, ◌≤◌, ◌+◌, ◌-◌, ◌==◌, ◌⊎◌, inl, inr, Bool, true, false, ◌&&◌, ◌||◌, not, cond, List, [], ◌∷◌, ◌++◌, length, take, drop, All, Some, None, refl, sym, ◌∙◌, ap, subst, arith, length-drop}
use Rattle.std.specs.List.{position, position_or_len}
use Rattle.std.specs.Str.{bytes_eq}
use Rattle.std.proofs.lemmas.List.{take_all}
use Rattle.std.proofs.lemmas.List.Elements.{All-cons, All-head, All-tail}
use Rattle.std.proofs.lemmas.List.Splits.{slice_split_first, slice_split_none, length-slice_split}
use Rattle.std.proofs.lemmas.List.Sums.{fails_before_first}
use Rattle.std.proofs.lemmas.Bool.{and_parts, and_from, ltb-true, ltb-false}
use Rattle.std.proofs.lemmas.Slice.Eq.{bytes_eq-Decides}
use Rattle.go_text_core.proofs.Each.{true_or_false}
use lib.Dec.{ltb}
use Rattle.go_path_core.specs.Path.{elements, IsElement, internal, begins, IsPrefix, MayImport}
use Rattle.go_path_core.specs.mirrors.Steps.{is_first, tail_of, has_internal, importable}

-- what position says, in terms of where the first slash stands
cases_of : (p : ℕ → Bool) (xs : List ℕ) → ((position_or_len p xs < length xs) × (position p xs ≡ Some (position_or_len p xs))) ⊎ ((length xs ≤ position_or_len p xs) × (position p xs ≡ None))
cases_of p xs = elim (true_or_false (ltb (position_or_len p xs) (length xs))) [
  | inl e ↦ inl (ltb-true _ _ e, ap (λ b. cond b (Some (position_or_len p xs)) None) e)
  | inr e ↦ inr (ltb-false _ _ e, ap (λ b. cond b (Some (position_or_len p xs)) None) e)
]

pub cut_at : (text : List ℕ) (at : ℕ) → position (λ b. b == 47) text ≡ Some at → (at < length text) × (elements text ≡ take at text ∷ elements (take (length text - (at + 1)) (drop (at + 1) text)))
cut_at text at h = elim (cases_of (λ b. b == 47) text) [
  | inl c ↦
      let same : position_or_len (λ b. b == 47) text ≡ at = (let j : Some (position_or_len (λ b. b == 47) text) ≡ Some at = sym c.1 ∙ h in cc) in
      let lt : at < length text = subst (λ n. n < length text) same c.0 in
      let all : take (length text - (at + 1)) (drop (at + 1) text) ≡ drop (at + 1) text = take_all _ _ (omega (arith, length-drop (at + 1) text)) in
      (lt, subst (λ n. elements text ≡ take n text ∷ elements (drop (n + 1) text)) same (slice_split_first (λ b. b == 47) text 0 c.0) ∙ ap (λ l. take at text ∷ elements l) (sym all))
  | inr c ↦ (let j : None ≡ Some at = sym c.1 ∙ h in cc)
]

pub not_cut : (text : List ℕ) → position (λ b. b == 47) text ≡ None → elements text ≡ text ∷ []
not_cut text h = elim (cases_of (λ b. b == 47) text) [
  | inl c ↦ (let j : Some (position_or_len (λ b. b == 47) text) ≡ None = sym c.1 ∙ h in cc)
  | inr c ↦ slice_split_none (λ b. b == 47) text (λ k d lt. fails_before_first (λ b. b == 47) text k d (omega arith))
]

abbrev pub FitsIn : ℕ → List (List ℕ) → Type 0
FitsIn n es = (length es ≤ n) × All IsElement es

pub none_fits : (text : List ℕ) → FitsIn 0 (elements text) → ⊥
none_fits text f = omega (arith, f.0, length-slice_split (λ b. b == 47) text)

pub first_fits : (n : ℕ) (e : List ℕ) (es all : List (List ℕ)) → all ≡ e ∷ es → FitsIn n all → IsElement e
first_fits n e es all h f = All-head IsElement e es (subst (λ l. All IsElement l) h f.1)

pub rest_fits : (n : ℕ) (e : List ℕ) (es all : List (List ℕ)) → all ≡ e ∷ es → 0 < n → FitsIn n all → FitsIn (n - 1) es
rest_fits n e es all h up f = (let g : length (e ∷ es) ≤ n = subst (λ l. length l ≤ n) h f.0 in (omega arith, All-tail IsElement e es (subst (λ l. All IsElement l) h f.1)))

pub more_fits : (n : ℕ) (e : List ℕ) (es all : List (List ℕ)) → all ≡ e ∷ es → 0 < n → IsElement e → FitsIn (n - 1) es → FitsIn n all
more_fits n e es all h up i f = subst (λ l. FitsIn n l) (sym h) (omega arith, All-cons IsElement e es i f.1)

-- prefixes
pub prefix_of_one : (e f : List ℕ) (es : List (List ℕ)) → e ≡ f → IsPrefix (e ∷ []) (f ∷ es)
prefix_of_one e f es h = (es, ap (λ x. x ∷ es) (sym h))

pub same_first : (e f : List ℕ) (es fs : List (List ℕ)) → IsPrefix (e ∷ es) (f ∷ fs) → (f ≡ e) × IsPrefix es fs
same_first e f es fs h = (let g : f ∷ fs ≡ e ∷ (es ++ h.0) = h.1 in (cc, (h.0, cc)))

pub prefix_more : (e : List ℕ) (es fs : List (List ℕ)) → IsPrefix es fs → IsPrefix (e ∷ es) (e ∷ fs)
prefix_more e es fs h = (h.0, ap (λ l. e ∷ l) h.1)

-- MayImport, with what stands before
abbrev pub May : Bool → List (List ℕ) → List (List ℕ) → Type 0
May shared q p = (a b : List (List ℕ)) → p ≡ a ++ internal ∷ b → (shared ≡ true) × IsPrefix a q

not_empty : (a b : List (List ℕ)) → [] ≡ a ++ internal ∷ b → ⊥
not_empty [] b h = cc
not_empty (x ∷ a) b h = cc

or_parts : (x y : Bool) → (not x || y) ≡ true → x ≡ true → y ≡ true
or_parts true y h e = h
or_parts false y h e = cc

from_or : (x y : Bool) → (x ≡ true → y ≡ true) → (not x || y) ≡ true
from_or true y h = h refl
from_or false y h = refl

first_is : (e : List ℕ) (q a : List (List ℕ)) → is_first e q ≡ true → IsPrefix a (tail_of q) → IsPrefix (e ∷ a) q
first_is e [] a h i = cc
first_is e (x ∷ xs) a h i = (i.0, (let same : x ≡ e = (bytes_eq-Decides x e).0 h in (ap (λ l. x ∷ l) i.1) ∙ ap (λ y. y ∷ (a ++ i.0)) same))

is_first_from : (e : List ℕ) (q a : List (List ℕ)) → IsPrefix (e ∷ a) q → (is_first e q ≡ true) × IsPrefix a (tail_of q)
is_first_from e [] a h = (let g : [] ≡ e ∷ (a ++ h.0) = h.1 in cc)
is_first_from e (x ∷ xs) a h = (let g : x ∷ xs ≡ e ∷ (a ++ h.0) = h.1 in ((bytes_eq-Decides x e).1 cc, (h.0, cc)))

sound : (shared : Bool) (q p : List (List ℕ)) → importable shared q p ≡ true → May shared q p
sound shared q [] h a b e = absurd (not_empty a b e)
sound shared q (x ∷ p) h [] b e =
    let parts = and_parts (not (bytes_eq x internal) || shared) (importable (shared && is_first x q) (tail_of q) p) h in
    let same : x ≡ internal = cc in
    (or_parts (bytes_eq x internal) shared parts.0 ((bytes_eq-Decides x internal).1 same), (q, refl))
sound shared q (x ∷ p) h (y ∷ a) b e =
    let parts = and_parts (not (bytes_eq x internal) || shared) (importable (shared && is_first x q) (tail_of q) p) h in
    let g : x ∷ p ≡ y ∷ (a ++ internal ∷ b) = e in
    let rest : p ≡ a ++ internal ∷ b = cc in
    let same : x ≡ y = cc in
    let below = sound (shared && is_first x q) (tail_of q) p parts.1 a b rest in
    let both = and_parts shared (is_first x q) below.0 in
    (both.0, subst (λ w. IsPrefix (w ∷ a) q) same (first_is x q a both.1 below.1))

complete : (shared : Bool) (q p : List (List ℕ)) → May shared q p → importable shared q p ≡ true
complete shared q [] m = refl
complete shared q (x ∷ p) m =
    let here : (not (bytes_eq x internal) || shared) ≡ true = from_or (bytes_eq x internal) shared (λ i. (m [] p (ap (λ w. w ∷ p) ((bytes_eq-Decides x internal).0 i))).0) in
    let below : May (shared && is_first x q) (tail_of q) p =
    (λ a b e. (let w = m (x ∷ a) b (ap (λ l. x ∷ l) e) in let f = is_first_from x q a w.1 in (and_from shared (is_first x q) w.0 f.0, f.1))) in
    and_from _ _ here (complete (shared && is_first x q) (tail_of q) p below)

none_of : (x y : Bool) → (x || y) ≡ false → (x ≡ false) × (y ≡ false)
none_of true y h = cc
none_of false y h = (refl, h)

-- a path without an element internal may be imported by all
pub open_is : (shared : Bool) (q p : List (List ℕ)) → has_internal p ≡ false → importable shared q p ≡ true
open_is shared q [] h = refl
open_is shared q (e ∷ p) h =
    let parts = none_of (bytes_eq e internal) (has_internal p) h in
    and_from (not (bytes_eq e internal) || shared) (importable (shared && is_first e q) (tail_of q) p) (ap (λ b. not b || shared) parts.0) (open_is (shared && is_first e q) (tail_of q) p parts.1)

pub may_import_is : (q p : List (List ℕ)) (r : Bool) → r ≡ importable true q p → (r ≡ true → MayImport q p) × (MayImport q p → r ≡ true)
may_import_is q p r e = ((λ t a b h. (sound true q p (sym e ∙ t) a b h).1), (λ m. e ∙ complete true q p (λ a b h. (refl, m a b h))))

-- both first elements are the same: what holds behind them holds of the whole
pub first_only : (e f : List ℕ) (es fs all outer : List (List ℕ)) → outer ≡ e ∷ [] → all ≡ f ∷ fs → f ≡ e → IsPrefix outer all
first_only e f es fs all outer ho ha h = (fs, (let g : outer ++ fs ≡ e ∷ fs = ap (λ l. l ++ fs) ho in (ha ∙ ap (λ x. x ∷ fs) h) ∙ sym g))

pub past_end : (e f g : List ℕ) (es all outer : List (List ℕ)) → outer ≡ e ∷ (g ∷ es) → all ≡ f ∷ [] → IsPrefix outer all → ⊥
past_end e f g es all outer ho ha h =
    let w : all ≡ e ∷ ((g ∷ es) ++ h.0) = h.1 ∙ ap (λ l. l ++ h.0) ho in
    let v : f ∷ [] ≡ e ∷ ((g ∷ es) ++ h.0) = sym ha ∙ w in cc

pub elements_more : (text : List ℕ) → (e : List ℕ) × (es : List (List ℕ)) × (elements text ≡ e ∷ es)
elements_more text = elim (elements text) as (λ l. elements text ≡ l → (e : List ℕ) × (es : List (List ℕ)) × (elements text ≡ e ∷ es)) [
  | [] ↦ λ h. (let n : length (elements text) ≡ 0 = ap length h in absurd (omega (arith, n, length-slice_split (λ b. b == 47) text)))
  | e ∷ es ↦ λ h. (e, es, h)
] refl

pub ends_early : (e f : List ℕ) (text : List ℕ) (all outer : List (List ℕ)) → outer ≡ e ∷ elements text → all ≡ f ∷ [] → IsPrefix outer all → ⊥
ends_early e f text all outer ho ha h = (let m = elements_more text in past_end e f m.0 m.1 all outer (ho ∙ ap (λ l. e ∷ l) m.2) ha h)

pub unnot : (b : Bool) → false ≡ not b → b ≡ true
unnot true h = refl
unnot false h = cc

pub or_is : {P Q : Type 0} (r s : Bool) → (r ≡ true → Q) × (Q → r ≡ true) → r ≡ false → (s ≡ true → P) × (P → s ≡ true) → (s ≡ true → P ⊎ Q) × (P ⊎ Q → s ≡ true)
or_is {P} {Q} r s hr off hs = ((λ t. inl (hs.0 t)), (λ e. elim e [ inl p ↦ hs.1 p | inr q ↦ (let t : r ≡ true = hr.1 q in cc) ]))

-- the test of a prefix says what it is
pub begins_is : (a q : List (List ℕ)) → (begins a q ≡ true → IsPrefix a q) × (IsPrefix a q → begins a q ≡ true)
begins_is [] q = ((λ h. (q, refl)), (λ h. refl))
begins_is (e ∷ a) [] = ((λ h. cc), (λ h. let j : [] ≡ e ∷ (a ++ h.0) = h.1 in cc))
begins_is (e ∷ a) (x ∷ q) =
    let rest = begins_is a q in (
      (λ h. let parts = and_parts (bytes_eq e x) (begins a q) h in (let same : e ≡ x = (bytes_eq-Decides e x).0 parts.0 in let tail = rest.0 parts.1 in (tail.0, (ap (λ l. x ∷ l) tail.1) ∙ ap (λ y. y ∷ (a ++ tail.0)) (sym same)))),
      (λ h. let parts = same_first e x a q h in and_from (bytes_eq e x) (begins a q) ((bytes_eq-Decides e x).1 (sym parts.0)) (rest.1 parts.1)),
    )

-- a test that is true exactly where P or Q holds is the one or the other of their tests
pub or_test : {P Q : Type 0} (r x y : Bool) → (x ≡ true → P) × (P → x ≡ true) → (y ≡ true → Q) × (Q → y ≡ true) → (r ≡ true → P ⊎ Q) × (P ⊎ Q → r ≡ true) → r ≡ (x || y)
or_test {P} {Q} true true y hx hy h = refl
or_test {P} {Q} true false true hx hy h = refl
or_test {P} {Q} true false false hx hy h = elim (h.0 refl) [ inl p ↦ sym (hx.1 p) | inr q ↦ sym (hy.1 q) ]
or_test {P} {Q} false true y hx hy h = h.1 (inl (hx.0 refl))
or_test {P} {Q} false false true hx hy h = h.1 (inr (hy.0 refl))
or_test {P} {Q} false false false hx hy h = refl

pub or_both : {P Q : Type 0} (x y : Bool) → (x ≡ true → P) × (P → x ≡ true) → (y ≡ true → Q) × (Q → y ≡ true) → ((x || y) ≡ true → P ⊎ Q) × (P ⊎ Q → (x || y) ≡ true)
or_both {P} {Q} true y hx hy = ((λ h. inl (hx.0 refl)), (λ h. refl))
or_both {P} {Q} false y hx hy = ((λ h. inr (hy.0 h)), (λ h. elim h [ inl p ↦ (let t : false ≡ true = hx.1 p in cc) | inr q ↦ hy.1 q ]))

pub second_is : (r : Bool) (a b : List (List ℕ)) → r ≡ true → IsPrefix b a → r ≡ (begins a b || begins b a)
second_is r a b e h = e ∙ sym ((or_both _ _ (begins_is a b) (begins_is b a)).1 (inr h))
