-- Functions that fit mean something, and programs of them.
use Rattle.std.proofs.Common.{◌≡◌, ◌⊎◌, inl, inr, ℕ, zero, suc, ◌+◌, ◌<◌, Bool, true, false, ◌&&◌, T, List, [], ◌∷◌, ◌++◌, length, map, Contains, Option, Some, None, refl, sym, ap, ◌∙◌, subst, arith, nat_eq, eqb→eq, if◌then◌else◌}
use Rattle.std.specs.Prelude.{option_map, slice_get}
use Rattle.std.proofs.lemmas.Bool.{eq-eqb}
use Rattle.std.proofs.lemmas.Option.{slice_get-map}
use Rattle.go_object_core.specs.declared.instructions.letters.Word.{Word}
use Rattle.go_machine_core.specs.Machine.{Frame, begun, with_first, all_begun}
use Rattle.go_code_core.specs.declared.fragments.names.Gives.{Gives}
use Rattle.go_code_core.specs.declared.fragments.names.Gives.TheVariants as gives
use Rattle.go_code_core.specs.fragments.Inside.{receiver_inside, signature_inside, lines_inside, in_fragment}
use Rattle.go_code_core.specs.fragments.Slots.{lines_slots, receiver_slots, signature_slots}
use Rattle.go_code_core.specs.Code.{frame_in}
use Rattle.go_meaning_laws.specs.source_meaning.Values.{Value}
use Rattle.go_meaning_laws.specs.source_meaning.Meaning.{Outcome, Unfinished, Nonsense, and_then, if_some, Variables, value_of, Calls, SourceOf, callee_at, scene_of, Flow, Falls, Breaks, Continues, Returns, lines_meaning, results_of, locals_of, params_of}
use Rattle.go_machine_core.specs.Programs.{callee_in}
use Rattle.go_meaning_laws.specs.source_meaning.Whole.{body_meaning, function_meaning, calls_of, one_by_one, meaning, linked_source, code_of_program}
use Rattle.go_meaning_laws.specs.fitting_sources.Fitting.{AreTypedAs, IsAmong, IsDeclared, Typing, given_by, taken_by}
use Rattle.go_meaning_laws.specs.fitting_sources.Ends.{lines_break, lines_continue, lines_terminate}
use Rattle.go_meaning_laws.specs.fitting_sources.Laws.{FunctionFits, IsReached, Begins, IsCalled, ProgramFits, FittingMeansSomething}
use Rattle.go_meaning_laws.proofs.FittingSourcesValued.{and_both, Means, means_then, AreOver, over_count, Gave, none_means, IsTyped, Sound}
use Rattle.go_meaning_laws.proofs.FittingSourcesExprs.{CallsMean}
use Rattle.go_meaning_laws.proofs.FittingSourcesFlows.{FlowFits}
use Rattle.go_meaning_laws.proofs.FittingSourcesStmts.{Are, lines_mean}

-- items of lists

contains_first : {A : Type 0} (x : A) (xs : List A) → Contains (x ∷ xs) x
contains_first x xs = let lt : 0 < suc (length xs) = omega arith in (0, lt, refl)

contains_more : {A : Type 0} (y : A) (xs : List A) (x : A) → Contains xs x → Contains (y ∷ xs) x
contains_more y xs x c =
    let low = c.1 in
    let lt : suc c.0 < suc (length xs) = omega (arith, low) in
    (suc c.0, lt, c.2)

contains_get : {A : Type 0} (xs : List A) (n : ℕ) (x : A) → slice_get xs n ≡ Some x → Contains xs x
contains_get [] n x e = absurd cc
contains_get (y ∷ ys) zero x e = let same : y ≡ x = cc e in subst (λ z. Contains (y ∷ ys) z) same (contains_first y ys)
contains_get (y ∷ ys) (suc n) x e = contains_more y ys x (contains_get ys n x e)

contains_callee : (callees : List (Option ℕ)) (reference number : ℕ) → callee_at callees reference ≡ Some number → Contains callees (Some number)
contains_callee callees reference number e = go (slice_get callees reference) refl e
  where
    go : (o : Option (Option ℕ)) → slice_get callees reference ≡ o → callee_in o ≡ Some number → Contains callees (Some number)
    go None is e = absurd (cc e)
    go (Some c) is e = contains_get callees reference (Some number) (is ∙ ap Some e)

-- the variables as a function begins

abbrev none_each : List (Option ℕ) → Variables
none_each ls = map (λ d. None) ls

abbrev first_of : List Value → List (Option ℕ) → Variables
first_of vs ls = map Some vs ++ none_each ls

none_long : (ls : List (Option ℕ)) → length (none_each ls) ≡ length ls
none_long [] = refl
none_long (d ∷ ls) = ap suc (none_long ls)

none_of : (ls : List (Option ℕ)) (at : ℕ) (v : Value) → value_of ls (none_each ls) at ≡ Some v → ⊥
none_of [] at v e = cc e
none_of (None ∷ ls) at v e = none_of ls at v e
none_of (Some d ∷ ls) at v e = go (nat_eq d at) (none_of ls at v) e
  where
    go : (t : Bool) → (value_of ls (none_each ls) at ≡ Some v → ⊥) → (if t then None else value_of ls (none_each ls) at) ≡ Some v → ⊥
    go true more e = cc e
    go false more e = more e

first_sound : (typing : Typing) (ps ls : List (Option ℕ)) (ws : List Word) (vs : List Value) → AreTypedAs typing ps (map Some ws) → AreOver ws vs → Sound typing (ps ++ ls) ps (first_of vs ls)
first_sound typing [] ls [] [] t h = record { long = none_long ls; typed = λ at v e. absurd (none_of ls at v e); there = λ at i. absurd i }
first_sound typing [] ls [] (v ∷ vs) t h = absurd h
first_sound typing [] ls (w ∷ ws) vs t h = absurd t
first_sound typing (p ∷ ps) ls [] vs t h = absurd t
first_sound typing (p ∷ ps) ls (w ∷ ws) [] t h = absurd h
first_sound typing (None ∷ ps) ls (w ∷ ws) (v ∷ vs) t h =
    let r = first_sound typing ps ls ws vs t h.1 in
    record { long = ap suc r.long; typed = r.typed; there = there r }
  where
    there : Sound typing (ps ++ ls) ps (first_of vs ls) → (at : ℕ) → IsAmong (None ∷ ps) at → (x : Value) × (value_of (ps ++ ls) (first_of vs ls) at ≡ Some x)
    there r at (inl e) = absurd (cc e)
    there r at (inr i) = r.there at i
first_sound typing (Some d ∷ ps) ls (w ∷ ws) (v ∷ vs) t h =
    let r = first_sound typing ps ls ws vs t.1 h.1 in
    record { long = ap suc r.long; typed = λ at x e. typed r at x (nat_eq d at) refl e; there = λ at i. there r at (nat_eq d at) refl i }
  where
    typed : Sound typing (ps ++ ls) ps (first_of vs ls) → (at : ℕ) (x : Value) (b : Bool) → nat_eq d at ≡ b → (if b then Some v else value_of (ps ++ ls) (first_of vs ls) at) ≡ Some x → IsTyped (typing at) x
    typed r at x true is e =
        let same : d ≡ at = eqb→eq d at (subst T (sym is) tt) in
        let this : v ≡ x = cc e in
        subst (λ k. IsTyped (typing k) x) same (subst (λ y. IsTyped (typing d) y) this (subst (λ o. IsTyped o v) (sym t.0) h.0))
    typed r at x false is e = r.typed at x e

    there : Sound typing (ps ++ ls) ps (first_of vs ls) → (at : ℕ) (b : Bool) → nat_eq d at ≡ b → IsAmong (Some d ∷ ps) at → (x : Value) × ((if nat_eq d at then Some v else value_of (ps ++ ls) (first_of vs ls) at) ≡ Some x)
    there r at true is i = (v, ap (λ b. if b then Some v else value_of (ps ++ ls) (first_of vs ls) at) is)
    there r at false is (inl e) = let same : d ≡ at = cc e in absurd (cc (is, eq-eqb d at same))
    there r at false is (inr i) = let x = r.there at i in (x.0, ap (λ b. if b then Some v else value_of (ps ++ ls) (first_of vs ls) at) is ∙ x.1)

typed_count : (typing : Typing) (ps : List (Option ℕ)) (ws : List Word) → AreTypedAs typing ps (map Some ws) → length ps ≡ length ws
typed_count typing [] [] t = refl
typed_count typing [] (w ∷ ws) t = absurd t
typed_count typing (p ∷ ps) [] t = absurd t
typed_count typing (None ∷ ps) (w ∷ ws) t = ap suc (typed_count typing ps ws t)
typed_count typing (Some d ∷ ps) (w ∷ ws) t = ap suc (typed_count typing ps ws t.1)

joined : {A : Type 0} (a b c : List A) → (a ++ b) ++ c ≡ a ++ (b ++ c)
joined [] b c = refl
joined (x ∷ a) b c = ap (λ l. x ∷ l) (joined a b c)

module _ (program : List SourceOf) (s : SourceOf) (calls : Calls) (mean : CallsMean program s calls) (fits : FunctionFits program s) (inside : in_fragment (frame_in s.looks s.tree) s.tree ≡ true) where
  ends_mean : (P Q : Variables → Type 0) (b c t : Bool) (flow : Flow) (out : List ℕ) → b ≡ false → c ≡ false → (given_by s ≡ gives.Nothing) ⊎ (t ≡ true) → FlowFits P Q (given_by s) b c t flow → Means (Gave (given_by s)) (results_of flow out)
  ends_mean P Q b c t (Falls values) out nb nc (inl is) h = subst (λ g. Gave g []) (sym is) tt
  ends_mean P Q b c t (Falls values) out nb nc (inr is) h = absurd (cc (is, h.1))
  ends_mean P Q b c t (Breaks values) out nb nc e h = absurd (cc (nb, h.1))
  ends_mean P Q b c t (Continues values) out nb nc e h = absurd (cc (nc, h.1))
  ends_mean P Q b c t (Returns vs) out nb nc e h = h

  body_inside : lines_inside (frame_in s.looks s.tree) s.tree.body ≡ true
  body_inside = (and_both (receiver_inside s.looks s.tree.receiver && signature_inside s.looks s.tree.signature) (lines_inside (frame_in s.looks s.tree) s.tree.body) inside).1

  pub function_means : (n : ℕ) (ws : List Word) (arguments : List Value) (out : List ℕ) → taken_by s ≡ map Some ws → AreOver ws arguments → Means (Gave (given_by s)) (function_meaning n calls s arguments out)
  function_means n ws arguments out takes over = subst (λ t. Means (Gave (given_by s)) (if t then body_meaning n calls s arguments out else Nonsense)) (sym inside) (go (nat_eq (length arguments) (length (params_of s.tree))) refl)
    where
      ps : List (Option ℕ)
      ps = params_of s.tree

      typed : AreTypedAs fits.typing (params_of s.tree) (map Some ws)
      typed = subst (λ l. AreTypedAs fits.typing (params_of s.tree) l) takes fits.params

      sound : Are program s fits.typing calls mean (params_of s.tree) (first_of arguments (locals_of s))
      sound = subst (λ slots. Sound fits.typing slots (params_of s.tree) (first_of arguments (locals_of s))) (joined (receiver_slots s.tree.receiver) (signature_slots s.tree.signature) (lines_slots s.looks s.tree.body)) (first_sound fits.typing (params_of s.tree) (locals_of s) ws arguments typed over)

      many : length arguments ≡ length (params_of s.tree)
      many = sym (over_count ws arguments over) ∙ sym (typed_count fits.typing (params_of s.tree) ws typed)

      go : (t : Bool) → nat_eq (length arguments) (length (params_of s.tree)) ≡ t → Means (Gave (given_by s)) (if_some (if t then Some (first_of arguments (locals_of s)) else None) (λ values. and_then (lines_meaning n (scene_of calls s) s.tree.body values out) results_of))
      go true is =
          means_then (FlowFits (Are program s fits.typing calls mean (params_of s.tree)) (Are program s fits.typing calls mean (params_of s.tree)) (given_by s) (lines_break s.tree.body) (lines_continue s.tree.body) (lines_terminate s.looks s.tree.body)) (Gave (given_by s)) (lines_meaning n (scene_of calls s) s.tree.body (first_of arguments (locals_of s)) out) results_of
          (lines_mean program s fits.typing calls mean n (params_of s.tree) s.tree.body (first_of arguments (locals_of s)) out sound body_inside fits.body)
          (λ flow out h. ends_mean (Are program s fits.typing calls mean (params_of s.tree)) (Are program s fits.typing calls mean (params_of s.tree)) (lines_break s.tree.body) (lines_continue s.tree.body) (lines_terminate s.looks s.tree.body) flow out fits.no_break fits.no_continue fits.ends h)
      go false is = absurd (cc (is, eq-eqb (length arguments) (length (params_of s.tree)) many))

module _ (program : List SourceOf) (starts : List ℕ) (fits : ProgramFits program starts) where
  calls_mean : (n depth number : ℕ) → IsReached program starts number → (g : Gives) (ws : List Word) → IsDeclared program number g ws → (arguments : List Value) → AreOver ws arguments → (out : List ℕ) → Means (Gave g) (calls_of n program depth number arguments out)
  calls_mean n zero number reached g ws decl arguments over out = subst (λ o. Means (Gave g) (if_some o (λ s. Unfinished out))) (sym decl.is_source) tt
  calls_mean n (suc depth) number reached g ws decl arguments over out =
      subst (λ o. Means (Gave g) (if_some o (λ s. function_meaning n (calls_of n program depth) s arguments out))) (sym decl.is_source)
      (subst (λ r. Means (Gave r) (function_meaning n (calls_of n program depth) decl.source arguments out)) decl.given
      (function_means program decl.source (calls_of n program depth)
      (λ reference callee e g ws decl' arguments over out. calls_mean n depth callee (IsCalled reached decl.is_source (contains_callee decl.source.callees reference callee e)) g ws decl' arguments over out)
      (fits.functions number decl.source reached decl.is_source) (fits.inside number decl.source reached decl.is_source) n ws arguments out decl.takes over))

  -- all of these begin the program
  abbrev AllBegin : List ℕ → Type 0
  AllBegin ds = (number : ℕ) → Contains ds number → Contains starts number

  all_mean : (n : ℕ) (ds : List ℕ) (out : List ℕ) → AllBegin ds → Means (λ (u : Unit {0}). Unit {0}) (one_by_one (calls_of n program n) ds out)
  all_mean n [] out h = tt
  all_mean n (d ∷ ds) out h =
      let first = h d (contains_first d ds) in
      means_then (Gave gives.Nothing) (λ (u : Unit {0}). Unit {0}) (calls_of n program n d [] out) _ (calls_mean n n d (Begins first) gives.Nothing [] (fits.starting d first) [] tt out)
      (λ vs out none. none_means (λ (u : Unit {0}). Unit {0}) vs (one_by_one (calls_of n program n) ds out) none (all_mean n ds out (λ number c. h number (contains_more d ds number c))))

  all_there : (ds : List ℕ) → AllBegin ds → (frames : List Frame) × (all_begun (code_of_program program) ds ≡ Some frames)
  all_there [] h = ([], refl)
  all_there (d ∷ ds) h =
      let decl = fits.starting d (h d (contains_first d ds)) in
      let r = all_there ds (λ number c. h number (contains_more d ds number c)) in
      let is : slice_get (code_of_program program) d ≡ Some (linked_source decl.source) = slice_get-map linked_source program d ∙ ap (option_map linked_source) decl.is_source in
      (begun (linked_source decl.source) [] ∷ r.0, ap (λ o. with_first o (all_begun (code_of_program program) ds)) is ∙ ap (λ o. with_first (Some (linked_source decl.source)) o) r.1)

not_nonsense : (o : Outcome (Unit {0})) → Means (λ (u : Unit {0}). Unit {0}) o → o ≡ Nonsense → ⊥
not_nonsense o m e = subst (λ x. Means (λ (u : Unit {0}). Unit {0}) x) e m

pub fitting_means_something : FittingMeansSomething
fitting_means_something program starts fits =
    let there = all_there program starts fits starts (λ number c. c) in
    record {
      frames = there.0;
      all_there = there.1;
      meant = λ n. not_nonsense (meaning program starts n) (all_mean program starts fits n starts [] (λ number c. c));
    }
