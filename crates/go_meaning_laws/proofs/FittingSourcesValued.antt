-- Values over words, and variables that hold them.
use Rattle.std.proofs.Common.{◌≡◌, inl, inr, ℕ, suc, Bool, true, false, ◌&&◌, T, List, [], ◌∷◌, ◌++◌, length, Option, Some, None, is_some, refl, sym, ap, ◌∙◌, subst, arith, nat_eq, eqb→eq, if◌then◌else◌}
use Rattle.std.proofs.lemmas.Bool.{eq-eqb}
use Rattle.go_object_core.specs.declared.instructions.letters.Word.{Word}
use Rattle.go_object_core.specs.declared.instructions.letters.Word.TheVariants as words
use Rattle.go_machine_core.specs.declared.state.PanicValue.{PanicValue}
use Rattle.go_machine_core.specs.declared.state.PanicValue.TheVariants as panics
use Rattle.go_code_core.specs.declared.fragments.names.Gives.{Gives}
use Rattle.go_code_core.specs.declared.fragments.names.Gives.TheVariants as gives
use Rattle.go_code_core.specs.fragments.Fragment.{is_one}
use Rattle.go_code_core.specs.fragments.Names.{slot_from}
use Rattle.go_meaning_laws.specs.source_meaning.Values.{Value, Number, Truth, panic_value, panicked_with, truth_letters, value_text, in_front, behind_space, more_printed, line_printed}
use Rattle.std.specs.Fmt.{signed_decimal}
use Rattle.go_meaning_laws.specs.source_meaning.Meaning.{Outcome, Done, Panicked, Unfinished, Nonsense, and_then, just_one, just_none, with_one, just_truth, with_truth, Variables, value_of, behind, assigned}
use Rattle.go_meaning_laws.specs.fitting_sources.Fitting.{IsAmong, Typing}

pub and_both : (a b : Bool) → (a && b) ≡ true → (a ≡ true) × (b ≡ true)
and_both true true e = (refl, refl)
and_both true false e = absurd (cc e)
and_both false true e = absurd (cc e)
and_both false false e = absurd (cc e)

-- what means something, and what is so of its value
abbrev pub Means : {A : Type 0} → (A → Type 0) → Outcome A → Type 0
Means P (Done a out) = P a
Means P (Panicked value out) = Unit {0}
Means P (Unfinished out) = Unit {0}
Means P Nonsense = ⊥

pub means_then : {A B : Type 0} (P : A → Type 0) (Q : B → Type 0) (o : Outcome A) (go : A → List ℕ → Outcome B) → Means P o → ((a : A) (out : List ℕ) → P a → Means Q (go a out)) → Means Q (and_then o go)
means_then P Q (Done a out) go p k = k a out p
means_then P Q (Panicked value out) go p k = tt
means_then P Q (Unfinished out) go p k = tt
means_then P Q Nonsense go p k = absurd p

pub means_more : {A : Type 0} (P Q : A → Type 0) (o : Outcome A) → ((a : A) → P a → Q a) → Means P o → Means Q o
means_more P Q (Done a out) k p = k a p
means_more P Q (Panicked value out) k p = tt
means_more P Q (Unfinished out) k p = tt
means_more P Q Nonsense k p = p

-- values

abbrev pub IsOver : Word → Value → Type 0
IsOver words.Int (Number x) = Unit {0}
IsOver words.Int (Truth b) = ⊥
IsOver words.Bool (Number x) = ⊥
IsOver words.Bool (Truth b) = Unit {0}

abbrev pub AreOver : List Word → List Value → Type 0
AreOver [] [] = Unit {0}
AreOver [] (v ∷ vs) = ⊥
AreOver (w ∷ ws) [] = ⊥
AreOver (w ∷ ws) (v ∷ vs) = IsOver w v × AreOver ws vs

pub over_both : (us ws : List Word) (xs vs : List Value) → AreOver us xs → AreOver ws vs → AreOver (us ++ ws) (xs ++ vs)
over_both [] ws [] vs h k = k
over_both [] ws (x ∷ xs) vs h k = absurd h
over_both (u ∷ us) ws [] vs h k = absurd h
over_both (u ∷ us) ws (x ∷ xs) vs h k = (h.0, over_both us ws xs vs h.1 k)

pub over_count : (ws : List Word) (vs : List Value) → AreOver ws vs → length ws ≡ length vs
over_count [] [] h = refl
over_count [] (v ∷ vs) h = absurd h
over_count (w ∷ ws) [] h = absurd h
over_count (w ∷ ws) (v ∷ vs) h = ap suc (over_count ws vs h.1)

-- values as an expression gives them
abbrev pub Gave : Gives → List Value → Type 0
Gave (gives.One w) vs = AreOver (w ∷ []) vs
Gave gives.Nothing vs = AreOver [] vs
Gave gives.Other vs = ⊥

abbrev pub NotOther : Gives → Type 0
NotOther (gives.One w) = Unit {0}
NotOther gives.Nothing = Unit {0}
NotOther gives.Other = ⊥

pub not_other : (g : Gives) → is_one g ≡ true → NotOther g
not_other (gives.One w) e = tt
not_other gives.Nothing e = absurd (cc e)
not_other gives.Other e = absurd (cc e)

-- the word of what is one value
pub the_word : (g : Gives) → is_one g ≡ true → (w : Word) × (g ≡ gives.One w)
the_word (gives.One w) e = (w, refl)
the_word gives.Nothing e = absurd (cc e)
the_word gives.Other e = absurd (cc e)

pub just_means : {B : Type 0} (Q : B → Type 0) (w : Word) (vs : List Value) (go : Value → Outcome B) → AreOver (w ∷ []) vs → ((v : Value) → IsOver w v → Means Q (go v)) → Means Q (just_one vs go)
just_means Q w [] go h k = absurd h
just_means Q w (v ∷ []) go h k = k v h.0
just_means Q w (v ∷ x ∷ vs) go h k = absurd h.1

pub none_means : {B : Type 0} (Q : B → Type 0) (vs : List Value) (o : Outcome B) → AreOver [] vs → Means Q o → Means Q (just_none vs o)
none_means Q [] o h k = k
none_means Q (v ∷ vs) o h k = absurd h

pub one_means : {B : Type 0} (Q : B → Type 0) (w : Word) (o : Outcome (List Value)) (go : Value → List ℕ → Outcome B) → Means (AreOver (w ∷ [])) o → ((v : Value) (out : List ℕ) → IsOver w v → Means Q (go v out)) → Means Q (with_one o go)
one_means Q w o go p k = means_then (AreOver (w ∷ [])) Q o _ p (λ vs out h. just_means Q w vs (λ v. go v out) h (λ v i. k v out i))

truth_of : {B : Type 0} (Q : B → Type 0) (v : Value) (go : Bool → Outcome B) → IsOver words.Bool v → ((b : Bool) → Means Q (go b)) → Means Q (just_truth v go)
truth_of Q (Truth b) go h k = k b
truth_of Q (Number x) go h k = absurd h

pub truth_means : {B : Type 0} (Q : B → Type 0) (o : Outcome (List Value)) (go : Bool → List ℕ → Outcome B) → Means (AreOver (words.Bool ∷ [])) o → ((b : Bool) (out : List ℕ) → Means Q (go b out)) → Means Q (with_truth o go)
truth_means Q o go p k = one_means Q words.Bool o _ p (λ v out h. truth_of Q v (λ b. go b out) h (λ b. k b out))

-- lines are printed

text_is : (w : Word) (v : Value) → IsOver w v → (t : List ℕ) × (value_text w v ≡ Some t)
text_is words.Int (Number x) h = (signed_decimal x, refl)
text_is words.Int (Truth b) h = absurd h
text_is words.Bool (Number x) h = absurd h
text_is words.Bool (Truth b) h = (truth_letters b, refl)

more_is : (ws : List Word) (vs : List Value) → AreOver ws vs → (t : List ℕ) × (more_printed ws vs ≡ Some t)
more_is [] [] h = (10 ∷ [], refl)
more_is [] (v ∷ vs) h = absurd h
more_is (w ∷ ws) [] h = absurd h
more_is (w ∷ ws) (v ∷ vs) h =
    let a = text_is w v h.0 in
    let r = more_is ws vs h.1 in
    (32 ∷ (a.0 ++ r.0), ap (λ o. behind_space o (more_printed ws vs)) a.1 ∙ ap (behind_space (Some a.0)) r.1)

pub line_is : (ws : List Word) (vs : List Value) → AreOver ws vs → (t : List ℕ) × (line_printed ws vs ≡ Some t)
line_is [] [] h = (10 ∷ [], refl)
line_is [] (v ∷ vs) h = absurd h
line_is (w ∷ ws) [] h = absurd h
line_is (w ∷ ws) (v ∷ vs) h =
    let a = text_is w v h.0 in
    let r = more_is ws vs h.1 in
    (a.0 ++ r.0, ap (λ o. in_front o (more_printed ws vs)) a.1 ∙ ap (in_front (Some a.0)) r.1)

-- `panic` of a value

value_panics : (w : Word) (v : Value) → IsOver w v → (p : PanicValue) × (panic_value w v ≡ Some p)
value_panics words.Int (Number x) h = (panics.Int x, refl)
value_panics words.Int (Truth b) h = absurd h
value_panics words.Bool (Number x) h = absurd h
value_panics words.Bool (Truth b) h = (panics.Bool b, refl)

pub panic_is : (ws : List Word) (vs : List Value) → AreOver ws vs → length ws ≡ 1 → (p : PanicValue) × (panicked_with ws vs ≡ Some p)
panic_is [] vs h l = absurd (omega (arith, l))
panic_is (w ∷ []) [] h l = absurd h
panic_is (w ∷ []) (v ∷ []) h l = value_panics w v h.0
panic_is (w ∷ []) (v ∷ x ∷ vs) h l = absurd h.1
panic_is (w ∷ u ∷ ws) vs h l = absurd (omega (arith, l))

-- variables

abbrev pub IsTyped : Option Word → Value → Type 0
IsTyped None v = ⊥
IsTyped (Some w) v = IsOver w v

-- the variables hold what they are over, and each that is declared so far has a value
pub record Sound (typing : Typing) (slots ds : List (Option ℕ)) (values : Variables) : Type 0 where
  pub long : length values ≡ length slots
  pub typed : (at : ℕ) (v : Value) → value_of slots values at ≡ Some v → IsTyped (typing at) v
  pub there : (at : ℕ) → IsAmong ds at → (v : Value) × (value_of slots values at ≡ Some v)

pub fewer : (typing : Typing) (slots ds es : List (Option ℕ)) (values : Variables) → ((at : ℕ) → IsAmong es at → IsAmong ds at) → Sound typing slots ds values → Sound typing slots es values
fewer typing slots ds es values k h = record { long = h.long; typed = h.typed; there = λ at i. h.there at (k at i) }

-- one that is declared has a value over its word
pub has_value : (typing : Typing) (slots ds : List (Option ℕ)) (values : Variables) (at : ℕ) (w : Word) → Sound typing slots ds values → IsAmong ds at → typing at ≡ Some w → (v : Value) × (value_of slots values at ≡ Some v) × IsOver w v
has_value typing slots ds values at w h i e =
    let r = h.there at i in
    (r.0, r.1, subst (λ o. IsTyped o r.0) e (h.typed at r.0 r.1))

-- what is assigned is there, and all else is as it was
pub record IsAssigned (slots : List (Option ℕ)) (values : Variables) (at : ℕ) (x : Value) : Type 0 where
  pub after : Variables
  pub is : assigned slots values at x ≡ Some after
  pub long : length after ≡ length values
  pub each : (other : ℕ) → value_of slots after other ≡ (if nat_eq at other then Some x else value_of slots values other)

swapped : (t u : Bool) (y x z : Option Value) → (t ≡ true → u ≡ true → ⊥) → (if t then y else (if u then x else z)) ≡ (if u then x else (if t then y else z))
swapped true true y x z k = absurd (k refl refl)
swapped true false y x z k = refl
swapped false true y x z k = refl
swapped false false y x z k = refl

hidden : (t : Bool) (x y z : Option Value) → (if t then x else z) ≡ (if t then x else (if t then y else z))
hidden true x y z = refl
hidden false x y z = refl

equal_of : (a b : ℕ) → nat_eq a b ≡ true → a ≡ b
equal_of a b e = eqb→eq a b (subst T (sym e) tt)

pub is_assigned : (slots : List (Option ℕ)) (n : ℕ) (values : Variables) (at : ℕ) (x : Value) → length values ≡ length slots → is_some (slot_from n slots at) ≡ true → IsAssigned slots values at x
is_assigned [] n values at x l e = absurd (cc e)
is_assigned (d ∷ ds) n [] at x l e = absurd (omega arith)
is_assigned (None ∷ ds) n (y ∷ vs) at x l e =
    let r = is_assigned ds (suc n) vs at x (omega arith) e in
    record { after = y ∷ r.after; is = ap (behind y) r.is; long = ap suc r.long; each = r.each }
is_assigned (Some d ∷ ds) n (y ∷ vs) at x l e = go (is_assigned ds (suc n) vs at x (omega arith)) (nat_eq d at) refl e
  where
    go : (is_some (slot_from (suc n) ds at) ≡ true → IsAssigned ds vs at x) → (t : Bool) → nat_eq d at ≡ t → is_some (if t then Some n else slot_from (suc n) ds at) ≡ true → IsAssigned (Some d ∷ ds) (y ∷ vs) at x
    go more true is h = record {
      after = Some x ∷ vs;
      is = ap (λ t. if t then Some (Some x ∷ vs) else behind y (assigned ds vs at x)) is;
      long = refl;
      each = λ other.
          ap (λ t. if t then Some x else value_of ds vs other) (ap (λ k. nat_eq k other) (equal_of d at is))
          ∙ hidden (nat_eq at other) (Some x) y (value_of ds vs other)
          ∙ ap (λ t. if nat_eq at other then Some x else (if t then y else value_of ds vs other)) (sym (ap (λ k. nat_eq k other) (equal_of d at is)));
    }
    go more false is h =
        let r = more h in
        record {
          after = y ∷ r.after;
          is = ap (λ t. if t then Some (Some x ∷ vs) else behind y (assigned ds vs at x)) is ∙ ap (behind y) r.is;
          long = ap suc r.long;
          each = λ other.
              ap (λ o. if nat_eq d other then y else o) (r.each other)
              ∙ swapped (nat_eq d other) (nat_eq at other) y (Some x) (value_of ds vs other) (λ a b. cc (is, eq-eqb d at (equal_of d other a ∙ sym (equal_of at other b))));
        }

-- so they hold what they are over behind an assignment, and what is assigned to has a value
pub sound_assigned : (typing : Typing) (slots ds : List (Option ℕ)) (values : Variables) (at : ℕ) (w : Word) (x : Value) → Sound typing slots ds values → typing at ≡ Some w → IsOver w x → (r : IsAssigned slots values at x) → Sound typing slots (Some at ∷ ds) r.after
sound_assigned typing slots ds values at w x h e i r = record {
  long = r.long ∙ h.long;
  typed = λ other v is. typed other v (nat_eq at other) refl (sym (r.each other) ∙ is);
  there = λ other k. there other (nat_eq at other) refl k;
}
  where
    typed : (other : ℕ) (v : Value) (t : Bool) → nat_eq at other ≡ t → (if nat_eq at other then Some x else value_of slots values other) ≡ Some v → IsTyped (typing other) v
    typed other v true te is =
        let same : at ≡ other = equal_of at other te in
        let is' : Some x ≡ Some v = sym (ap (λ t. if t then Some x else value_of slots values other) te) ∙ is in
        let this : x ≡ v = cc is' in
        subst (λ k. IsTyped (typing k) v) same (subst (λ y. IsTyped (typing at) y) this (subst (λ o. IsTyped o x) (sym e) i))
    typed other v false te is = h.typed other v (sym (ap (λ t. if t then Some x else value_of slots values other) te) ∙ is)

    there : (other : ℕ) (t : Bool) → nat_eq at other ≡ t → IsAmong (Some at ∷ ds) other → (v : Value) × (value_of slots r.after other ≡ Some v)
    there other true te k = (x, r.each other ∙ ap (λ t. if t then Some x else value_of slots values other) te)
    there other false te (inl same) = absurd (let this : at ≡ other = cc same in cc (te, eq-eqb at other this))
    there other false te (inr k) = let v = h.there other k in (v.0, r.each other ∙ ap (λ t. if t then Some x else value_of slots values other) te ∙ v.1)
