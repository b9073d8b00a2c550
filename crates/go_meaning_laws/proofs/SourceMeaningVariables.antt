-- Variables and slots; operands and counts.
use Rattle.std.proofs.Common.{◌≡◌, ℕ, suc, ◌+◌, Bool, true, false, List, [], ◌∷◌, ◌++◌, length, ℤ, Option, Some, None, refl, ap, ◌∙◌, subst, arith, append-nil, if◌then◌else◌, nat_eq}
use Rattle.std.specs.Prelude.{slice_get, slice_set}
use Rattle.go_object_core.specs.declared.instructions.letters.Word.{Word}
use Rattle.go_object_core.specs.declared.instructions.letters.Word.TheVariants as words
use Rattle.go_machine_core.specs.Words.{bit, is_true, truth_text, word_text, rest_text, line_text}
use Rattle.go_machine_core.specs.Words as machines
use Rattle.go_machine_core.specs.Machine.{popped}
use Rattle.go_meaning_laws.specs.source_meaning.Values.{Value, Number, Truth, truth_letters, value_text, in_front, behind_space, more_printed, line_printed}
use Rattle.go_meaning_laws.specs.source_meaning.Meaning.{Outcome, Done, Panicked, Unfinished, Nonsense, and_then, with_one, Variables, value_of, behind, assigned}
use Rattle.go_meaning_laws.proofs.SourceMeaningSteps.{word, words_of, cell, cells, pushed}
use Rattle.go_code_core.specs.fragments.Names.{slot_from}

-- the slot of a variable has its value
pub record Reads (ds : List (Option ℕ)) (values : Variables) (n at : ℕ) (v : Value) : Type 0 where
  pub slot : ℕ
  pub is_slot : slot_from n ds at ≡ Some (n + slot)
  pub has : slice_get (cells values) slot ≡ Some (word v)

reads_further : (d : Option ℕ) (ds : List (Option ℕ)) (x : Option Value) (values : Variables) (n at : ℕ) (v : Value) → slot_from n (d ∷ ds) at ≡ slot_from (suc n) ds at → Reads ds values (suc n) at v → Reads (d ∷ ds) (x ∷ values) n at v
reads_further d ds x values n at v e r =
    let same : suc n + r.slot ≡ n + suc r.slot = omega arith in
    record { slot = suc r.slot; is_slot = e ∙ r.is_slot ∙ ap Some same; has = r.has }

pub reads : (ds : List (Option ℕ)) (values : Variables) (n at : ℕ) (v : Value) → value_of ds values at ≡ Some v → Reads ds values n at v
reads [] values n at v e = absurd (cc e)
reads (d ∷ ds) [] n at v e = absurd (cc e)
reads (None ∷ ds) (x ∷ values) n at v e = reads_further None ds x values n at v refl (reads ds values (suc n) at v e)
reads (Some d ∷ ds) (x ∷ values) n at v e = go (reads ds values (suc n) at v) (nat_eq d at) refl e
  where
    go : (value_of ds values at ≡ Some v → Reads ds values (suc n) at v) → (t : Bool) → nat_eq d at ≡ t → (if t then x else value_of ds values at) ≡ Some v → Reads (Some d ∷ ds) (x ∷ values) n at v
    go more true is h =
        let same : n ≡ n + 0 = omega arith in
        record { slot = 0; is_slot = ap (λ t. if t then Some n else slot_from (suc n) ds at) is ∙ ap Some same; has = ap (λ o. Some (cell o)) h }
    go more false is h = reads_further (Some d) ds x values n at v (ap (λ t. if t then Some n else slot_from (suc n) ds at) is) (more h)

-- an assigned value stands in the slot of its variable
pub record Writes (ds : List (Option ℕ)) (values : Variables) (n at : ℕ) (v : Value) (values' : Variables) : Type 0 where
  pub slot : ℕ
  pub old : ℤ
  pub is_slot : slot_from n ds at ≡ Some (n + slot)
  pub has : slice_get (cells values) slot ≡ Some old
  pub sets : slice_set (cells values) slot (word v) ≡ cells values'

writes_further : (d : Option ℕ) (ds : List (Option ℕ)) (x : Option Value) (values : Variables) (n at : ℕ) (v : Value) (values' : Variables) → slot_from n (d ∷ ds) at ≡ slot_from (suc n) ds at → Writes ds values (suc n) at v values' → Writes (d ∷ ds) (x ∷ values) n at v (x ∷ values')
writes_further d ds x values n at v values' e r =
    let same : suc n + r.slot ≡ n + suc r.slot = omega arith in
    record { slot = suc r.slot; old = r.old; is_slot = e ∙ r.is_slot ∙ ap Some same; has = r.has; sets = ap (λ l. cell x ∷ l) r.sets }

writes_behind : (d : Option ℕ) (ds : List (Option ℕ)) (x : Option Value) (values : Variables) (n at : ℕ) (v : Value) (values' : Variables) → slot_from n (d ∷ ds) at ≡ slot_from (suc n) ds at → ((rest : Variables) → assigned ds values at v ≡ Some rest → Writes ds values (suc n) at v rest) → (o : Option Variables) → assigned ds values at v ≡ o → behind x o ≡ Some values' → Writes (d ∷ ds) (x ∷ values) n at v values'
writes_behind d ds x values n at v values' e more None is h = absurd (cc h)
writes_behind d ds x values n at v values' e more (Some rest) is h =
    let same : x ∷ rest ≡ values' = cc h in
    subst (λ l. Writes (d ∷ ds) (x ∷ values) n at v l) same (writes_further d ds x values n at v rest e (more rest is))

pub writes : (ds : List (Option ℕ)) (values : Variables) (n at : ℕ) (v : Value) (values' : Variables) → assigned ds values at v ≡ Some values' → Writes ds values n at v values'
writes [] values n at v values' e = absurd (cc e)
writes (d ∷ ds) [] n at v values' e = absurd (cc e)
writes (None ∷ ds) (x ∷ values) n at v values' e = writes_behind None ds x values n at v values' refl (writes ds values (suc n) at v) (assigned ds values at v) refl e
writes (Some d ∷ ds) (x ∷ values) n at v values' e = go (writes ds values (suc n) at v) (nat_eq d at) refl e
  where
    go : ((rest : Variables) → assigned ds values at v ≡ Some rest → Writes ds values (suc n) at v rest) → (t : Bool) → nat_eq d at ≡ t → (if t then Some (Some v ∷ values) else behind x (assigned ds values at v)) ≡ Some values' → Writes (Some d ∷ ds) (x ∷ values) n at v values'
    go more true is h =
        let same : n ≡ n + 0 = omega arith in
        let new : Some v ∷ values ≡ values' = cc h in
        record { slot = 0; old = cell x; is_slot = ap (λ t. if t then Some n else slot_from (suc n) ds at) is ∙ ap Some same; has = refl; sets = ap cells new }
    go more false is h = writes_behind (Some d) ds x values n at v values' (ap (λ t. if t then Some n else slot_from (suc n) ds at) is) more (assigned ds values at v) refl h

-- operands

-- the words of values that lie on a stack, the lowest first
pub popped_all : (vs : List Value) (values stack : List ℤ) (n k : ℕ) → n ≡ length vs + k → popped n values (pushed vs stack) ≡ popped k (words_of vs ++ values) stack
popped_all [] values stack n k e = let same : n ≡ k = omega arith in ap (λ m. popped m values stack) same
popped_all (v ∷ vs) values stack n k e = let same : n ≡ length vs + suc k = omega arith in popped_all vs values (word v ∷ stack) n (suc k) same

pub pops : (vs : List Value) (stack : List ℤ) (n : ℕ) → n ≡ length vs → popped n [] (pushed vs stack) ≡ Some (words_of vs, stack)
pops vs stack n e =
    let same : n ≡ length vs + 0 = omega arith in
    popped_all vs [] stack n 0 same ∙ ap (λ l. Some (l, stack)) (append-nil (words_of vs))

pub pushed_behind : (vs ws : List Value) (stack : List ℤ) → pushed ws (pushed vs stack) ≡ pushed (vs ++ ws) stack
pushed_behind [] ws stack = refl
pushed_behind (v ∷ vs) ws stack = pushed_behind vs ws (word v ∷ stack)

-- a line that is printed: it has a value for each word, and its text is that of the values' words

pub record Prints (ws : List Word) (vs : List Value) (line : Option (List ℕ)) (t : List ℕ) : Type 0 where
  pub many : length ws ≡ length vs
  pub is : line ≡ Some t

pub is_truth : (b : Bool) → is_true (bit b) ≡ b
is_truth true = refl
is_truth false = refl

truth_is : (b : Bool) → truth_text b ≡ truth_letters b
truth_is true = refl
truth_is false = refl

value_is : (w : Word) (v : Value) (t : List ℕ) → value_text w v ≡ Some t → word_text w (word v) ≡ t
value_is words.Int (Number x) t e = cc e
value_is words.Int (Truth b) t e = absurd (cc e)
value_is words.Bool (Number x) t e = absurd (cc e)
value_is words.Bool (Truth b) t e = let same : truth_letters b ≡ t = cc e in ap truth_text (is_truth b) ∙ truth_is b ∙ same

behind_is : (w : Word) (ws : List Word) (v : Value) (vs : List Value) (a b : Option (List ℕ)) (t : List ℕ) → value_text w v ≡ a → more_printed ws vs ≡ b → ((t : List ℕ) → more_printed ws vs ≡ Some t → Prints ws vs (rest_text ws (words_of vs)) t) → behind_space a b ≡ Some t → Prints (w ∷ ws) (v ∷ vs) (machines.behind_space (word_text w (word v)) (rest_text ws (words_of vs))) t
behind_is w ws v vs None b t ea eb more e = absurd (cc e)
behind_is w ws v vs (Some s) None t ea eb more e = absurd (cc e)
behind_is w ws v vs (Some s) (Some u) t ea eb more e =
    let r = more u eb in
    let one = value_is w v s ea in
    let whole : 32 ∷ (s ++ u) ≡ t = cc e in
    record { many = ap suc r.many; is = ap (λ o. machines.behind_space (word_text w (word v)) o) r.is ∙ ap (λ l. Some (32 ∷ (l ++ u))) one ∙ ap Some whole }

more_is : (ws : List Word) (vs : List Value) (t : List ℕ) → more_printed ws vs ≡ Some t → Prints ws vs (rest_text ws (words_of vs)) t
more_is [] [] t e = record { many = refl; is = e }
more_is [] (v ∷ vs) t e = absurd (cc e)
more_is (w ∷ ws) [] t e = absurd (cc e)
more_is (w ∷ ws) (v ∷ vs) t e = behind_is w ws v vs (value_text w v) (more_printed ws vs) t refl refl (more_is ws vs) e

front_is : (w : Word) (ws : List Word) (v : Value) (vs : List Value) (a b : Option (List ℕ)) (t : List ℕ) → value_text w v ≡ a → more_printed ws vs ≡ b → in_front a b ≡ Some t → Prints (w ∷ ws) (v ∷ vs) (machines.in_front (word_text w (word v)) (rest_text ws (words_of vs))) t
front_is w ws v vs None b t ea eb e = absurd (cc e)
front_is w ws v vs (Some s) None t ea eb e = absurd (cc e)
front_is w ws v vs (Some s) (Some u) t ea eb e =
    let r = more_is ws vs u eb in
    let one = value_is w v s ea in
    let whole : s ++ u ≡ t = cc e in
    record { many = ap suc r.many; is = ap (λ o. machines.in_front (word_text w (word v)) o) r.is ∙ ap (λ l. Some (l ++ u)) one ∙ ap Some whole }

pub line_is : (ws : List Word) (vs : List Value) (t : List ℕ) → line_printed ws vs ≡ Some t → Prints ws vs (line_text ws (words_of vs)) t
line_is [] [] t e = record { many = refl; is = e }
line_is [] (v ∷ vs) t e = absurd (cc e)
line_is (w ∷ ws) [] t e = absurd (cc e)
line_is (w ∷ ws) (v ∷ vs) t e = front_is w ws v vs (value_text w v) (more_printed ws vs) t refl refl e

-- what is so of the value of what is done
abbrev pub Every : {A : Type 0} → (A → Type 0) → Outcome A → Type 0
Every P (Done a out) = P a
Every P (Panicked value out) = Unit {0}
Every P (Unfinished out) = Unit {0}
Every P Nonsense = Unit {0}

pub every_then : {A B : Type 0} (Q : A → Type 0) (P : B → Type 0) (o : Outcome A) (go : A → List ℕ → Outcome B) → Every Q o → ((a : A) (out : List ℕ) → Q a → Every P (go a out)) → Every P (and_then o go)
every_then Q P (Done a out) go q k = k a out q
every_then Q P (Panicked value out) go q k = tt
every_then Q P (Unfinished out) go q k = tt
every_then Q P Nonsense go q k = tt

pub every_one : {B : Type 0} (P : B → Type 0) (o : Outcome (List Value)) (go : Value → List ℕ → Outcome B) → ((v : Value) (out : List ℕ) → Every P (go v out)) → Every P (with_one o go)
every_one P (Done [] out) go k = tt
every_one P (Done (v ∷ []) out) go k = k v out
every_one P (Done (v ∷ w ∷ vs) out) go k = tt
every_one P (Panicked value out) go k = tt
every_one P (Unfinished out) go k = tt
every_one P Nonsense go k = tt
