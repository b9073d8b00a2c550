-- The machine follows functions, their calls, and whole programs.
use Rattle.std.proofs.Common.{◌≡◌, ℕ, zero, suc, pred, ◌+◌, ◌-◌, ◌≤◌, Bool, true, false, List, [], ◌∷◌, ◌++◌, length, map, replicate, ℤ, pos, Option, Some, None, refl, sym, ap, ◌∙◌, subst, arith, length-append, nat_eq, T, eqb→eq, if◌then◌else◌}
use Rattle.std.specs.Prelude.{option_map, slice_get}
use Rattle.std.proofs.lemmas.Option.{slice_get-map}
use Rattle.go_object_core.specs.declared.instructions.instruction.Instruction.TheVariants as instructions
use Rattle.go_machine_core.specs.Programs.{LinkedOf}
use Rattle.go_machine_core.specs.Machine.{Frame, Machine, At, Over, Ended, stuck_unless, first_slots, begun, entered, left, with_first, all_begun}
use Rattle.go_meaning_laws.specs.source_meaning.Values.{Value}
use Rattle.go_meaning_laws.specs.source_meaning.Meaning.{Unfinished, Nonsense, and_then, just_none, if_some, Variables, Calls, scene_of, Flow, Falls, Breaks, Continues, Returns, lines_meaning, results_of}
use Rattle.go_meaning_laws.specs.source_meaning.Whole.{body_meaning, function_meaning, calls_of, one_by_one}
use Rattle.go_meaning_laws.proofs.SourceMeaningSteps.{Runs, here, flow_at, HasAt, has_front, has_back, has_all, stays, leads_comes, then_runs, step_to, word, words_of, cells, left_with}
use Rattle.go_meaning_laws.proofs.SourceMeaningExprs.{Obeys}
use Rattle.go_meaning_laws.proofs.SourceMeaningStmts.{lines_runs}
use Rattle.go_code_core.specs.fragments.Inside.{in_fragment}
use Rattle.go_code_core.specs.fragments.Slots.{lines_slots, receiver_slots, signature_slots, slots_of}
use Rattle.go_code_core.specs.Code.{no_exits, lines_code, frame_in}
use Rattle.go_meaning_laws.specs.source_meaning.Meaning.{SourceOf, locals_of, params_of}
use Rattle.go_meaning_laws.specs.source_meaning.Whole.{linked_source, code_of_program}

undeclared_are : (ds : List (Option ℕ)) → cells (map (λ d. None) ds) ≡ replicate (length ds) (pos 0)
undeclared_are [] = refl
undeclared_are (d ∷ ds) = ap (λ l. pos 0 ∷ l) (undeclared_are ds)

-- arguments, and what stands behind them
given_are : (arguments : List Value) (rest : Variables) → cells (map Some arguments ++ rest) ≡ words_of arguments ++ cells rest
given_are [] rest = refl
given_are (v ∷ vs) rest = ap (λ l. word v ∷ l) (given_are vs rest)

words_count : (vs : List Value) → length (words_of vs) ≡ length vs
words_count [] = refl
words_count (v ∷ vs) = ap suc (words_count vs)

same_slots : (s : SourceOf) (arguments : List Value) → length arguments ≡ length (params_of s.tree) → first_slots (words_of arguments) (length (slots_of s.looks s.tree)) ≡ cells (map Some arguments ++ map (λ d. None) (locals_of s))
same_slots s arguments e =
    let r = receiver_slots s.tree.receiver in
    let g = signature_slots s.tree.signature in
    let l = lines_slots s.looks s.tree.body in
    let many : length (slots_of s.looks s.tree) - length (words_of arguments) ≡ length (locals_of s) = omega (arith, e, words_count arguments, length-append r (g ++ l), length-append g l, length-append r g) in
    ap (λ n. words_of arguments ++ replicate n (pos 0)) many
    ∙ ap (λ l. words_of arguments ++ l) (sym (undeclared_are (locals_of s)))
    ∙ sym (given_are arguments (map (λ d. None) (locals_of s)))

module _ (program : List LinkedOf) (s : SourceOf) (calls : Calls) (callers : List Frame) (b below : ℕ) (room : b ≤ suc below) (obeys : Obeys program below calls) (n : ℕ) (enough : b ≤ n) (inside : in_fragment (frame_in s.looks s.tree) s.tree ≡ true) where
  results_run : (p : ℕ) (out : List ℕ) (flow : Flow) → HasAt (linked_source s).code p (instructions.Return false ∷ []) → Runs program (left_with callers) b (flow_at (linked_source s) callers p p p [] flow out) (results_of flow out)
  results_run p out (Falls values) has = leads_comes program _ _ (step_to program (linked_source s) callers p [] (cells values) out (instructions.Return false) (left callers [] out) has.0 refl)
  results_run p out (Breaks values) has = tt
  results_run p out (Continues values) has = tt
  results_run p out (Returns vs) has = stays program _

  body_runs : (values : Variables) (out : List ℕ) → Runs program (left_with callers) b (here (linked_source s) callers 0 [] (cells values) out) (and_then (lines_meaning n (scene_of calls s) s.tree.body values out) results_of)
  body_runs values out =
      let cl = lines_code (frame_in s.looks s.tree) no_exits s.tree.body in
      let p : ℕ = 0 + length cl in
      let has : HasAt (linked_source s).code 0 (cl ++ instructions.Return false ∷ []) = subst (λ t. HasAt (if t then cl ++ instructions.Return false ∷ [] else instructions.Outside ∷ []) 0 (cl ++ instructions.Return false ∷ [])) (sym inside) (has_all (cl ++ instructions.Return false ∷ []) []) in
      then_runs program (flow_at (linked_source s) callers p p p []) (left_with callers) b (here (linked_source s) callers 0 [] (cells values) out) (lines_meaning n (scene_of calls s) s.tree.body values out) results_of
      (lines_runs program s calls callers b below room obeys n enough s.tree.body no_exits 0 p p p [] values out (has_front (linked_source s).code 0 cl (instructions.Return false ∷ []) has) refl (omega arith) (omega arith))
      (λ flow out. results_run p out flow (has_back (linked_source s).code 0 cl (instructions.Return false ∷ []) has))

  arguments_run : (arguments : List Value) (out : List ℕ) → Runs program (left_with callers) b (At (begun (linked_source s) (words_of arguments)) callers out) (body_meaning n calls s arguments out)
  arguments_run arguments out = go (nat_eq (length arguments) (length (params_of s.tree))) refl
    where
      go : (t : Bool) → nat_eq (length arguments) (length (params_of s.tree)) ≡ t → Runs program (left_with callers) b (At (begun (linked_source s) (words_of arguments)) callers out) (if_some (if t then Some (map Some arguments ++ map (λ d. None) (locals_of s)) else None) (λ values. and_then (lines_meaning n (scene_of calls s) s.tree.body values out) results_of))
      go true is =
          let many : length arguments ≡ length (params_of s.tree) = eqb→eq (length arguments) (length (params_of s.tree)) (subst T (sym is) tt) in
          subst (λ l. Runs program (left_with callers) b (here (linked_source s) callers 0 [] l out) (and_then (lines_meaning n (scene_of calls s) s.tree.body (map Some arguments ++ map (λ d. None) (locals_of s)) out) results_of)) (sym (same_slots s arguments many))
          (body_runs (map Some arguments ++ map (λ d. None) (locals_of s)) out)
      go false is = tt

function_runs : (program : List LinkedOf) (s : SourceOf) (calls : Calls) (callers : List Frame) (b below : ℕ) → b ≤ suc below → Obeys program below calls → (n : ℕ) → b ≤ n → (arguments : List Value) (out : List ℕ) → Runs program (left_with callers) b (At (begun (linked_source s) (words_of arguments)) callers out) (function_meaning n calls s arguments out)
function_runs program s calls callers b below room obeys n enough arguments out = go (in_fragment (frame_in s.looks s.tree) s.tree) refl
  where
    go : (t : Bool) → in_fragment (frame_in s.looks s.tree) s.tree ≡ t → Runs program (left_with callers) b (At (begun (linked_source s) (words_of arguments)) callers out) (if t then body_meaning n calls s arguments out else Nonsense)
    go true is = arguments_run program s calls callers b below room obeys n enough is arguments out
    go false is = tt

-- the function of a number is that of its source
entered_is : (ss : List SourceOf) (d : ℕ) (o : Option SourceOf) (arguments : List ℤ) (callers : List Frame) (out : List ℕ) → slice_get ss d ≡ o → entered (code_of_program ss) d arguments callers out ≡ stuck_unless (option_map linked_source o) out (λ g. At (begun g arguments) callers out)
entered_is ss d o arguments callers out e = ap (λ f. stuck_unless f out (λ g. At (begun g arguments) callers out)) (slice_get-map linked_source ss d ∙ ap (option_map linked_source) e)

-- calls do what they mean, with as many steps as there may be turns and calls
pub calls_obey : (program : List SourceOf) (n depth b : ℕ) → b ≤ n → b ≤ depth → Obeys (code_of_program program) b (calls_of n program depth)
calls_obey program n zero b le le' d arguments callers out = go (slice_get program d) refl
  where
    go : (o : Option SourceOf) → slice_get program d ≡ o → Runs (code_of_program program) (left_with callers) b (entered (code_of_program program) d (words_of arguments) callers out) (if_some o (λ s. Unfinished out))
    go None e = tt
    go (Some s) e = subst (λ c. Runs (code_of_program program) (left_with callers) b c (Unfinished out)) (sym (entered_is program d (Some s) (words_of arguments) callers out e)) (0, le', refl)
calls_obey program n (suc depth) b le le' d arguments callers out = go (calls_obey program n depth (pred b) (omega arith) (omega arith)) (slice_get program d) refl
  where
    go : Obeys (code_of_program program) (pred b) (calls_of n program depth) → (o : Option SourceOf) → slice_get program d ≡ o → Runs (code_of_program program) (left_with callers) b (entered (code_of_program program) d (words_of arguments) callers out) (if_some o (λ s. function_meaning n (calls_of n program depth) s arguments out))
    go obeys None e = tt
    go obeys (Some s) e =
        subst (λ c. Runs (code_of_program program) (left_with callers) b c (function_meaning n (calls_of n program depth) s arguments out)) (sym (entered_is program d (Some s) (words_of arguments) callers out e))
        (function_runs (code_of_program program) s (calls_of n program depth) callers b (pred b) (omega arith) obeys n le arguments out)

-- where a program ends
abbrev pub at_end : Unit {0} → List ℕ → Machine
at_end a out = Over (Ended out)

module _ (program : List LinkedOf) (b : ℕ) (calls : Calls) (obeys : Obeys program b calls) where
  pub all_run : (ds : List ℕ) (frames : List Frame) (out : List ℕ) → all_begun program ds ≡ Some frames → Runs program at_end b (left frames [] out) (one_by_one calls ds out)
  all_run [] [] out e = stays program _
  all_run [] (f ∷ fs) out e = absurd (cc e)
  all_run (d ∷ ds) frames out e = go (slice_get program d) (all_begun program ds) refl refl e (all_run ds)
    where
      go : (og : Option LinkedOf) (om : Option (List Frame)) → slice_get program d ≡ og → all_begun program ds ≡ om → with_first og om ≡ Some frames → ((more : List Frame) (out : List ℕ) → all_begun program ds ≡ Some more → Runs program at_end b (left more [] out) (one_by_one calls ds out)) → Runs program at_end b (left frames [] out) (one_by_one calls (d ∷ ds) out)
      go None om eg em ef ih = absurd (cc ef)
      go (Some g) None eg em ef ih = absurd (cc ef)
      go (Some g) (Some more) eg em ef ih =
          let same : begun g [] ∷ more ≡ frames = cc ef in
          let is : entered program d [] more out ≡ At (begun g []) more out = ap (λ o. stuck_unless o out (λ g. At (begun g []) more out)) eg in
          subst (λ fs. Runs program at_end b (left fs [] out) (one_by_one calls (d ∷ ds) out)) same
          (then_runs program (left_with more) at_end b (left (begun g [] ∷ more) [] out) (calls d [] out) (λ vs out. just_none vs (one_by_one calls ds out))
          (subst (λ c. Runs program (left_with more) b c (calls d [] out)) is (obeys d [] more out))
          (λ vs out. rest more vs out (ih more out em)))
        where
          rest : (more : List Frame) (vs : List Value) (out : List ℕ) → Runs program at_end b (left more [] out) (one_by_one calls ds out) → Runs program at_end b (left_with more vs out) (just_none vs (one_by_one calls ds out))
          rest more [] out r = r
          rest more (v ∷ vs) out r = tt
