-- Runs of declarations, one behind another.
use Rattle.std.proofs.Common.{◌≡◌, ℕ, suc, ◌+◌, ◌<◌, ◌≤◌, List, [], ◌∷◌, ◌++◌, map, length, take, drop, get_or, All, Contains, refl, sym, ap, subst, ◌∙◌, append_assoc, append-nil, arith}
use Rattle.std.specs.Prelude.{Result, OnOk}
use Rattle.std.specs.List.{flat_map, AllZip}
use Rattle.std.proofs.lemmas.List.{length-append, map-append, nil_from_length}
use Rattle.std.proofs.lemmas.List.Elements.{All-head, All-tail, All-nil, All-cons, All-push, Contains-append_left, Contains-append_right}
use Rattle.std.proofs.lemmas.Grind.{flat_map-append}
use Rattle.go_tree_nodes.specs.declared.files.TopDecl.{TopDecl}
use Rattle.go_tree_nodes.specs.Trees.{TypeTree, FuncTree, TopTree}
use Rattle.go_tree_nodes.specs.Shapes.{top_of, decl_of}
use Rattle.go_typexpr_core.proofs.EntryNumbered.{flat_item}
use Rattle.go_inline_core.specs.Types.{InlineOf}
use Rattle.go_inline_core.specs.Trees.{decl_types}
use Rattle.go_local_core.specs.declared.Fault.{Fault}
use Rattle.go_body_core.specs.Notes.{TheUse, TheLocal}
use Rattle.go_body_core.specs.function.Stands.{FileStand}
use Rattle.go_body_core.specs.function.Laws.{AreFuncTypes}
use Rattle.go_body_core.specs.declared.file.runs.Run.{Run}
use Rattle.go_body_core.specs.declared.file.whole.CheckedFile.{CheckedFile}
use Rattle.go_body_core.specs.file.Files.{decl_uses, decl_faults, decl_locals, tops_uses, tops_faults, tops_locals}
use Rattle.go_body_core.specs.file.Package.{checked_file_shown, CheckedFileOf}
use Rattle.go_body_core.specs.file.Runs.{IsRun, AreRuns, IsRunMade, run_checked}
use Rattle.go_body_core.specs.file.Stands.{decl_funcs, tops_funcs}
use Rattle.go_body_core.specs.file.mirrors.Steps.{AreMade, AreSeen}

-- how many functions are among declarations

pub funcs_more : (ds : List TopDecl) (i : ℕ) (d : TopDecl) (n k : ℕ) → i < length ds → d ≡ get_or ds i d → n ≡ length (tops_funcs (map top_of (take i ds))) → k ≡ length (decl_funcs (decl_of d.decl))
    → n + k ≡ length (tops_funcs (map top_of (take (i + 1) ds)))
funcs_more ds i d n k lt is before one =
    let more : length (tops_funcs (map top_of (take (i + 1) ds))) ≡ length (tops_funcs (map top_of (take i ds)) ++ decl_funcs (decl_of d.decl)) = ap length (flat_item top_of (λ (x : TopTree). decl_funcs x.decl) ds i d lt is) in
    let both = length-append (tops_funcs (map top_of (take i ds))) (decl_funcs (decl_of d.decl)) in
    omega (arith, before, one, more, both)

pub funcs_apart : (heads tails : List TopDecl) → length (tops_funcs (map top_of (heads ++ tails))) ≡ length (tops_funcs (map top_of heads)) + length (tops_funcs (map top_of tails))
funcs_apart heads tails =
    ap (λ (l : List TopTree). length (tops_funcs l)) (map-append top_of heads tails)
    ∙ (ap length (flat_map-append (λ (x : TopTree). decl_funcs x.decl) (map top_of heads) (map top_of tails)) ∙ length-append (tops_funcs (map top_of heads)) (tops_funcs (map top_of tails)))

-- the functions of the first declarations are not more than all have types
pub funcs_within : (ds heads tails : List TopDecl) (n k : ℕ) → ds ≡ heads ++ tails → n ≡ length (tops_funcs (map top_of ds)) → k ≡ length (tops_funcs (map top_of heads)) → k ≤ n
funcs_within ds heads tails n k apart all first =
    let both = ap (λ l. length (tops_funcs (map top_of l))) apart in
    let sum = funcs_apart heads tails in
    omega (arith, all, first, both, sum)

-- and the rest are as many as types are left
pub funcs_left : (ds heads tails : List TopDecl) (n k m : ℕ) → ds ≡ heads ++ tails → n ≡ length (tops_funcs (map top_of ds)) → k ≡ length (tops_funcs (map top_of heads)) → m + k ≡ n → m ≡ length (tops_funcs (map top_of tails))
funcs_left ds heads tails n k m apart all first left =
    let both = ap (λ l. length (tops_funcs (map top_of l))) apart in
    let sum = funcs_apart heads tails in
    omega (arith, all, first, both, sum, left)

-- lists that correspond are as long
pub zip_long : {A B : Type 0} (R : A → B → Type 0) (xs : List A) (ys : List B) → AllZip R xs ys → length ys ≡ length xs
zip_long R [] [] h = refl
zip_long R [] (y ∷ ys) h = absurd h
zip_long R (x ∷ xs) [] h = absurd h
zip_long R (x ∷ xs) (y ∷ ys) h = ap suc (zip_long R xs ys h.1)

-- one run more

pushed : {A B : Type 0} (g : A → List B) (rs new : List A) (r : A) (rest whole all : List B) → new ≡ rs ++ r ∷ [] → whole ≡ g r ++ rest → flat_map g rs ++ whole ≡ all → flat_map g new ++ rest ≡ all
pushed g rs new r rest whole all added split before =
    ap (λ l. flat_map g l ++ rest) added
    ∙ (ap (λ l. l ++ rest) (flat_map-append g rs (r ∷ []))
    ∙ (append_assoc (flat_map g rs) (flat_map g (r ∷ [])) rest
    ∙ (ap (λ l. flat_map g rs ++ (l ++ rest)) (append-nil (g r)) ∙ (ap (λ l. flat_map g rs ++ l) (sym split) ∙ before))))

-- these runs and what is left are these declarations, with these types
pub record AreLeft (decls : List TopDecl) (functions : List (List (ℕ × InlineOf))) (rs : List Run) (left : Run) : Type 0 where
  pub all : flat_map (λ r. r.decls.now) rs ++ left.decls.now ≡ decls
  pub types : flat_map (λ r. r.functions.now) rs ++ left.functions.now ≡ functions
  pub each : All IsRun rs
  pub rest : IsRun left

pub none_yet : (all : Run) (rs : List Run) → rs ≡ [] → IsRun all → AreLeft all.decls.now all.functions.now rs all
none_yet all rs none is = subst (λ l. AreLeft all.decls.now all.functions.now l all) (sym none) (record { all = refl; types = refl; each = All-nil IsRun; rest = is })

pub run_more : (ds : List TopDecl) (fs : List (List (ℕ × InlineOf))) (left first rest : Run) (rs new : List Run) → left.decls.now ≡ first.decls.now ++ rest.decls.now → left.functions.now ≡ first.functions.now ++ rest.functions.now → IsRun first → IsRun rest
    → new ≡ rs ++ first ∷ [] → AreLeft ds fs rs left → AreLeft ds fs new rest
run_more ds fs left first rest rs new split shared one others added before = record {
  all = pushed (λ (r : Run). r.decls.now) rs new first rest.decls.now left.decls.now ds added split before.all;
  types = pushed (λ (r : Run). r.functions.now) rs new first rest.functions.now left.functions.now fs added shared before.types;
  each = subst (All IsRun) (sym added) (All-push IsRun rs first before.each one);
  rest = others;
}

pub none_left : (ds : List TopDecl) (fs : List (List (ℕ × InlineOf))) (left : Run) (rs : List Run) → length left.decls.now ≡ 0 → AreLeft ds fs rs left → AreRuns ds fs rs
none_left ds fs left rs none before =
    let no : left.decls.now ≡ [] = nil_from_length left.decls.now none in
    let nor : left.functions.now ≡ [] = nil_from_length left.functions.now (before.rest ∙ ap (λ l. length (tops_funcs (map top_of l))) no) in
    record {
      all = sym (append-nil (flat_map (λ (r : Run). r.decls.now) rs)) ∙ (ap (λ l. flat_map (λ (r : Run). r.decls.now) rs ++ l) (sym no) ∙ before.all);
      types = sym (append-nil (flat_map (λ (r : Run). r.functions.now) rs)) ∙ (ap (λ l. flat_map (λ (r : Run). r.functions.now) rs ++ l) (sym nor) ∙ before.types);
      each = before.each;
    }

-- what runs have is what they have as one

zip_both : {A B : Type 0} (R : A → B → Type 0) (xs ys : List A) (us vs : List B) → length us ≡ length xs → AllZip R (xs ++ ys) (us ++ vs) → AllZip R xs us × AllZip R ys vs
zip_both R [] ys [] vs e h = (tt, h)
zip_both R [] ys (u ∷ us) vs e h = absurd (omega arith)
zip_both R (x ∷ xs) ys [] vs e h = absurd (omega arith)
zip_both R (x ∷ xs) ys (u ∷ us) vs e h =
    let rest = zip_both R xs ys us vs (let same : length us ≡ length xs = omega arith in same) h.1 in
    ((h.0, rest.0), rest.1)

module _ (st : FileStand) (initial : List (ℕ × InlineOf)) where
  made_both : (heads tails : List TopTree) (fs gs : List (List (ℕ × InlineOf))) → length fs ≡ length (tops_funcs heads) → AreMade st initial (fs ++ gs) (heads ++ tails) → AreMade st initial fs heads × AreMade st initial gs tails
  made_both heads tails fs gs many made =
      let types = flat_map-append (λ (d : TopTree). decl_types d.decl) heads tails in
      let funcs = flat_map-append (λ (d : TopTree). decl_funcs d.decl) heads tails in
      let seen : AreSeen st initial (flat_map (λ (d : TopTree). decl_types d.decl) heads ++ flat_map (λ (d : TopTree). decl_types d.decl) tails) = subst (λ l. AreSeen st initial l) types made.seen in
      let typed = zip_both (AreFuncTypes st) (tops_funcs heads) (tops_funcs tails) fs gs many (subst (λ l. AllZip (AreFuncTypes st) l (fs ++ gs)) funcs made.typed) in (
        record {
          seen = λ t there. seen t (Contains-append_left (flat_map (λ (d : TopTree). decl_types d.decl) heads) (flat_map (λ (d : TopTree). decl_types d.decl) tails) t there);
          placed = λ f there. made.placed f (subst (λ l. Contains l f) (sym funcs) (Contains-append_left (tops_funcs heads) (tops_funcs tails) f there));
          typed = typed.0;
        },
        record {
          seen = λ t there. seen t (Contains-append_right (flat_map (λ (d : TopTree). decl_types d.decl) heads) (flat_map (λ (d : TopTree). decl_types d.decl) tails) t there);
          placed = λ f there. made.placed f (subst (λ l. Contains l f) (sym funcs) (Contains-append_right (tops_funcs heads) (tops_funcs tails) f there));
          typed = typed.1;
        },
      )

  each_made : (rs : List Run) → All IsRun rs → AreMade st initial (flat_map (λ (r : Run). r.functions.now) rs) (map top_of (flat_map (λ (r : Run). r.decls.now) rs)) → All (IsRunMade st initial) rs
  each_made [] h made = All-nil (IsRunMade st initial)
  each_made (r ∷ rs) h made =
      let apart = map-append top_of r.decls.now (flat_map (λ (r : Run). r.decls.now) rs) in
      let both = made_both (map top_of r.decls.now) (map top_of (flat_map (λ (r : Run). r.decls.now) rs)) r.functions.now (flat_map (λ (r : Run). r.functions.now) rs) (All-head IsRun r rs h)
      (subst (λ l. AreMade st initial (r.functions.now ++ flat_map (λ (r : Run). r.functions.now) rs) l) apart made) in
      All-cons (IsRunMade st initial) r rs both.0 (each_made rs (All-tail IsRun r rs h) both.1)

  pub runs_made : (ds : List TopDecl) (types : List (List (ℕ × InlineOf))) (rs : List Run) → AreRuns ds types rs → AreMade st initial types (map top_of ds) → All (IsRunMade st initial) rs
  runs_made ds types rs are made =
      each_made rs are.each
      (subst (λ l. AreMade st initial (flat_map (λ (r : Run). r.functions.now) rs) (map top_of l)) (sym are.all)
      (subst (λ l. AreMade st initial l (map top_of ds)) (sym are.types) made))

-- what is noted of runs, in order

pub appended : {C B : Type 0} (f : C → List B) (c : C) (rest : List C) (old new all : List B) → new ≡ old ++ f c → old ++ flat_map f (c ∷ rest) ≡ all → new ++ flat_map f rest ≡ all
appended f c rest old new all added before = ap (λ l. l ++ flat_map f rest) added ∙ (append_assoc old (f c) (flat_map f rest) ∙ before)

behind_first : {A : Type 0} → List A → List A
behind_first [] = []
behind_first (x ∷ xs) = xs

gathered : {B : Type 0} (f : TopTree → List B) (field : CheckedFileOf → List B) (st : FileStand) → ((r : Run) → field (run_checked st r) ≡ flat_map f (map top_of r.decls.now)) → (rs : List Run) (cs : List CheckedFile)
    → map checked_file_shown cs ≡ map (run_checked st) rs → flat_map (λ c. field (checked_file_shown c)) cs ≡ flat_map f (map top_of (flat_map (λ (r : Run). r.decls.now) rs))
unfolding behind_first
gathered f field st is [] [] e = refl
gathered f field st is [] (c ∷ cs) e = absurd (let no = ap length e in omega (arith, no))
gathered f field st is (r ∷ rs) [] e = absurd (let no = ap length e in omega (arith, no))
gathered f field st is (r ∷ rs) (c ∷ cs) e =
    let first : checked_file_shown c ≡ run_checked st r = ap (λ l. get_or l 0 (run_checked st r)) e in
    let rest : map checked_file_shown cs ≡ map (run_checked st) rs = ap behind_first e in
    let tail = flat_map (λ (r : Run). r.decls.now) rs in
    (λ i. (ap field first ∙ is r) i ++ gathered f field st is rs cs rest i)
    ∙ (sym (flat_map-append f (map top_of r.decls.now) (map top_of tail)) ∙ ap (flat_map f) (sym (map-append top_of r.decls.now tail)))

abbrev noted : List TheUse → List Fault → List TheLocal → CheckedFileOf
noted us fs ls = record { uses = us; faults = fs; locals = ls }

pub checked_is : (st : FileStand) (r : Run) (c : CheckedFile) → c.uses.items ≡ tops_uses st (map top_of r.decls.now) → c.faults.items ≡ tops_faults st (map top_of r.decls.now) → c.locals.items ≡ tops_locals st (map top_of r.decls.now)
    → checked_file_shown c ≡ run_checked st r
checked_is st r c used broken declared = λ i. noted (used i) (broken i) (declared i)

module _ (st : FileStand) (ds : List TopDecl) (rs : List Run) (cs : List CheckedFile) (are : flat_map (λ (r : Run). r.decls.now) rs ≡ ds) (checked : map checked_file_shown cs ≡ map (run_checked st) rs) where
  pub runs_used : flat_map (λ (c : CheckedFile). c.uses.items) cs ≡ tops_uses st (map top_of ds)
  runs_used = gathered (λ (d : TopTree). decl_uses st d.decl) (λ (c : CheckedFileOf). c.uses) st (λ r. refl) rs cs checked ∙ ap (λ l. tops_uses st (map top_of l)) are

  pub runs_broken : flat_map (λ (c : CheckedFile). c.faults.items) cs ≡ tops_faults st (map top_of ds)
  runs_broken = gathered (λ (d : TopTree). decl_faults st d.decl) (λ (c : CheckedFileOf). c.faults) st (λ r. refl) rs cs checked ∙ ap (λ l. tops_faults st (map top_of l)) are

  pub runs_declare : flat_map (λ (c : CheckedFile). c.locals.items) cs ≡ tops_locals st (map top_of ds)
  runs_declare = gathered (λ (d : TopTree). decl_locals st d.decl) (λ (c : CheckedFileOf). c.locals) st (λ r. refl) rs cs checked ∙ ap (λ l. tops_locals st (map top_of l)) are

-- what is noted, where what is added is known under another name
pub noted_as : {B T E : Type 0} (r : Result T E) (old new got want : List B) → got ≡ want → OnOk r (new ≡ old ++ got) → OnOk r (new ≡ old ++ want)
noted_as r old new got want e h = subst (λ l. OnOk r (new ≡ old ++ l)) e h
