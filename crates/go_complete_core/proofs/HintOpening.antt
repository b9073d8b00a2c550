-- Each local that is open on the way through a function is one of those that are kept of it.
use Rattle.std.proofs.Common.{◌≡◌, ℕ, suc, Bool, true, false, ◌&&◌, ◌||◌, not, List, [], ◌∷◌, ◌++◌, Option, refl, sym, ap, ap₂, ◌∙◌, subst, arith, append-nil}
use Rattle.std.specs.Prelude.{All, Contains, if◌then◌else◌}
use Rattle.std.specs.List.{list_any}
use Rattle.std.specs.Str.{bytes_eq}
use Rattle.std.proofs.lemmas.Grind.{flat_map-append}
use Rattle.std.proofs.lemmas.List.Elements.{All-cons, All-append, Contains-append_left, Contains-append_right}
use Rattle.std.proofs.lemmas.Slice.Eq.{bytes_eq-Decides}
use Rattle.go_tree_nodes.specs.text_core.Text.{is_blank}
use Rattle.go_tree_nodes.specs.declared.names.Ident.{Ident}
use Rattle.go_tree_nodes.specs.Trees.{FuncTree}
use Rattle.go_term_core.specs.Terms.{Term}
use Rattle.go_names_core.specs.local_core.Binding.{NameLook}
use Rattle.go_names_core.specs.local_core.Law.{Rules}
use Rattle.go_names_core.specs.local_core.Steps.{Steps, Done, Check, Declare, Inner}
use Rattle.go_names_core.specs.local_core.Outline.{func_steps, func_opens, func_closes}
use Rattle.go_names_core.specs.local_core.Pieces.{ident_place, piece_declares}
use Rattle.go_names_core.specs.local_core.mirrors.Walk as walk
use Rattle.go_names_core.specs.local_core.mirrors.Walk.{Names, look_in, with_names, news, names_of, walk_out}
use Rattle.go_names_core.specs.Body.{each_means}
use Rattle.go_stmt_core.specs.piece.Headers.{returned_types, returned_names}
use Rattle.go_stmt_core.specs.piece.Pieces.{piece_values}
use Rattle.go_package_core.specs.env_core.declared.meaning.Meaning.{Meaning}
use Rattle.go_package_core.specs.env_core.declared.meaning.Meaning.TheVariants as meanings
use Rattle.go_package_core.specs.body_core.Notes.{NoteOf, TheLocal, TheValue, all_locals}
use Rattle.go_package_core.specs.body_core.Rules.{declared_among, local_if, value_at}
use Rattle.go_package_core.specs.body_core.FunctionFunctions.{checked_func, own_rules}
use Rattle.go_package_core.specs.body_core.FunctionStands.{FileStand, looks_where, outer_looks, outer_meanings}
use Rattle.go_package_core.specs.body_core.FunctionNamed.{AreNamed, steps_are_named}
use Rattle.go_cursor_core.specs.Opened as tree
use Rattle.go_cursor_core.specs.Opened.{with_idents}
use Rattle.go_cursor_core.specs.Walks.{PieceAt, pieces_at, func_pieces}
use Rattle.go_complete_core.specs.spelling.Places.{place_rules}
use Rattle.go_candidate_core.proofs.AfterDotKeeping.{in_first}

-- what a name means is that it is a local by the offset of its identifier, with a value that is kept
abbrev pub IsKept : List TheLocal → List ℕ × Meaning → Ident → Type 0
IsKept kept e x = (v : TheValue) × (e ≡ (x.name, meanings.Local x.span.start v)) × Contains kept (record { offset = x.span.start; value = v })

abbrev pub AreKept : List TheLocal → Names Meaning → List Ident → Type 0
AreKept kept [] [] = Unit {0}
AreKept kept [] (x ∷ xs) = ⊥
AreKept kept (e ∷ es) [] = ⊥
AreKept kept (e ∷ es) (x ∷ xs) = IsKept kept e x × AreKept kept es xs

abbrev Inside : List TheLocal → List TheLocal → Type 0
Inside ls kept = (l : TheLocal) → Contains ls l → Contains kept l

module _ (kept : List TheLocal) where
  both_kept : (es fs : Names Meaning) (xs ys : List Ident) → AreKept kept es xs → AreKept kept fs ys → AreKept kept (es ++ fs) (xs ++ ys)
  both_kept [] fs [] ys h k = k
  both_kept [] fs (x ∷ xs) ys h k = absurd h
  both_kept (e ∷ es) fs [] ys h k = absurd h
  both_kept (e ∷ es) fs (x ∷ xs) ys h k = (h.0, both_kept es fs xs ys h.1 k)

  -- the same names
  any_kept : (m : List ℕ) (es : Names Meaning) (xs : List Ident) → AreKept kept es xs → list_any (λ e. bytes_eq m e.0) es ≡ list_any (λ y. bytes_eq m y.name) xs
  any_kept m [] [] h = refl
  any_kept m [] (x ∷ xs) h = absurd h
  any_kept m (e ∷ es) [] h = absurd h
  any_kept m (e ∷ es) (x ∷ xs) h = ap₂ (λ (a b : Bool). a || b) (ap (λ (f : List ℕ × Meaning). bytes_eq m f.0) h.0.1) (any_kept m es xs h.1)

-- what is known of the names of a block: those seen, blank ones apart

abbrev SameSeen : List (List ℕ) → Names Meaning → Type 0
SameSeen seen block = (m : List ℕ) → is_blank m ≡ false → list_any (bytes_eq m) seen ≡ list_any (λ e. bytes_eq m e.0) block

seen_of : (block : Names Meaning) → SameSeen (names_of block) block
seen_of [] m h = refl
seen_of (e ∷ es) m h = ap (λ b. bytes_eq m e.0 || b) (seen_of es m h)

any_last : {A : Type 0} (t : A → Bool) (xs : List A) (x : A) → list_any t (xs ++ x ∷ []) ≡ (list_any t xs || t x)
any_last t [] x = by (t x)
  where
    by : (b : Bool) → (b || false) ≡ b
    by true = refl
    by false = refl
any_last t (y ∷ ys) x = by (t y) (any_last t ys x)
  where
    by : (b : Bool) → list_any t (ys ++ x ∷ []) ≡ (list_any t ys || t x) → (b || list_any t (ys ++ x ∷ [])) ≡ ((b || list_any t ys) || t x)
    by true h = refl
    by false h = h

no_or : (b : Bool) → (b || false) ≡ b
no_or true = refl
no_or false = refl

flag_same : (seen : List (List ℕ)) (block : Names Meaning) (z : Ident) → SameSeen seen block → (not (is_blank z.name) && not (list_any (bytes_eq z.name) seen)) ≡ walk.is_new block z
flag_same seen block z same = by (is_blank z.name) refl
  where
    by : (b : Bool) → is_blank z.name ≡ b → (not b && not (list_any (bytes_eq z.name) seen)) ≡ (not b && not (list_any (λ e. bytes_eq z.name e.0) block))
    by true h = refl
    by false h = ap not (same z.name h)

module _ (seen : List (List ℕ)) (block : Names Meaning) (z : Ident) (means : Meaning) (same : SameSeen seen block) where
  -- a new name
  seen_new : SameSeen (seen ++ z.name ∷ []) (block ++ (z.name, means) ∷ [])
  seen_new m h =
      any_last (bytes_eq m) seen z.name ∙ (ap (λ b. b || bytes_eq m z.name) (same m h) ∙ sym (any_last (λ (e : List ℕ × Meaning). bytes_eq m e.0) block (z.name, means)))

  -- one that is not: it is blank, or the block has it
  seen_old : walk.is_new block z ≡ false → SameSeen (seen ++ z.name ∷ []) block
  seen_old old m h = any_last (bytes_eq m) seen z.name ∙ (ap (λ b. b || bytes_eq m z.name) (same m h) ∙ by (bytes_eq m z.name) refl)
    where
      has : (a b : Bool) → (not a && not b) ≡ false → a ≡ false → b ≡ true
      has true b e k = absurd cc
      has false true e k = refl
      has false false e k = absurd cc

      by : (b : Bool) → bytes_eq m z.name ≡ b → (list_any (λ (e : List ℕ × Meaning). bytes_eq m e.0) block || b) ≡ list_any (λ (e : List ℕ × Meaning). bytes_eq m e.0) block
      by false e = no_or (list_any (λ (e : List ℕ × Meaning). bytes_eq m e.0) block)
      by true e =
          let name : m ≡ z.name = (bytes_eq-Decides m z.name).0 e in
          let blank : is_blank z.name ≡ false = sym (ap is_blank name) ∙ h in
          let there : list_any (λ (e : List ℕ × Meaning). bytes_eq m e.0) block ≡ true = ap (λ (n : List ℕ). list_any (λ (e : List ℕ × Meaning). bytes_eq n e.0) block) name ∙ has (is_blank z.name) (list_any (λ (e : List ℕ × Meaning). bytes_eq z.name e.0) block) old blank in
          ap (λ b. b || true) there ∙ sym there

-- what the names of a list mean, each as a local by its own offset

abbrev OwnMeans : (ℕ → Meaning) → ℕ → List Ident → Type 0
OwnMeans means n [] = Unit {0}
OwnMeans means n (z ∷ zs) = ((v : TheValue) × (means n ≡ meanings.Local z.span.start v)) × OwnMeans means (suc n) zs

further : (means : ℕ → Meaning) (n : ℕ) (zs : List Ident) → OwnMeans (λ k. means (suc k)) n zs → OwnMeans means (suc n) zs
further means n [] h = tt
further means n (z ∷ zs) h = (h.0, further means (suc n) zs h.1)

own : (zs : List Ident) (values : ℕ → TheValue) → OwnMeans (λ n. meanings.Local (ident_place zs n) (values n)) 0 zs
own [] values = tt
own (z ∷ zs) values = ((values 0, refl), further (λ n. meanings.Local (ident_place (z ∷ zs) n) (values n)) 0 zs (own zs (λ n. values (suc n))))

-- a block gets more names

module _ (kept : List TheLocal) where
  names_kept : (zs : List Ident) (block : Names Meaning) (ys : List Ident) (seen : List (List ℕ)) (means : ℕ → Meaning) (n : ℕ) → AreKept kept block ys → SameSeen seen block → OwnMeans means n zs
      → Inside (declared_among (news seen zs) (each_means means n zs)) kept → AreKept kept (with_names block means n zs) (with_idents ys zs)
  names_kept [] block ys seen means n h same mean all = h
  names_kept (z ∷ zs) block ys seen means n h same mean all =
      by (walk.is_new block z) refl (λ b c d e. names_kept zs b c (seen ++ z.name ∷ []) means (suc n) d e mean.1)
    where
      flag : (not (is_blank z.name) && not (list_any (bytes_eq z.name) seen)) ≡ walk.is_new block z
      flag = flag_same seen block z same

      fresh : tree.is_new ys z ≡ walk.is_new block z
      fresh = ap (λ b. not (is_blank z.name) && not b) (sym (any_kept kept z.name block ys h))

      by : (b : Bool) → walk.is_new block z ≡ b
          → ((next : Names Meaning) (open_now : List Ident) → AreKept kept next open_now → SameSeen (seen ++ z.name ∷ []) next → Inside (declared_among (news (seen ++ z.name ∷ []) zs) (each_means means (suc n) zs)) kept → AreKept kept (with_names next means (suc n) zs) (with_idents open_now zs))
          → AreKept kept (with_names (if walk.is_new block z then block ++ (z.name, means n) ∷ [] else block) means (suc n) zs) (with_idents (if tree.is_new ys z then ys ++ z ∷ [] else ys) zs)
      by true e more =
          let inside : Inside (local_if true (means n) ++ (declared_among (news (seen ++ z.name ∷ []) zs) (each_means means (suc n) zs))) kept = subst (λ (b : Bool). Inside (local_if b (means n) ++ (declared_among (news (seen ++ z.name ∷ []) zs) (each_means means (suc n) zs))) kept) (flag ∙ e) all in
          let first : Contains kept (record { offset = z.span.start; value = mean.0.0 }) =
          subst (λ (m : Meaning). Inside (local_if true m ++ (declared_among (news (seen ++ z.name ∷ []) zs) (each_means means (suc n) zs))) kept) mean.0.1 inside (record { offset = z.span.start; value = mean.0.0 }) (in_first (record { offset = z.span.start; value = mean.0.0 }) (declared_among (news (seen ++ z.name ∷ []) zs) (each_means means (suc n) zs))) in
          let one : IsKept kept (z.name, means n) z = (mean.0.0, ap (λ (m : Meaning). (z.name, m)) mean.0.1, first) in
          let now : AreKept kept (block ++ (z.name, means n) ∷ []) (ys ++ z ∷ []) = both_kept kept block ((z.name, means n) ∷ []) ys (z ∷ []) h (one, tt) in
          subst (λ (b : Bool). AreKept kept (with_names (if b then block ++ (z.name, means n) ∷ [] else block) means (suc n) zs) (with_idents (if tree.is_new ys z then ys ++ z ∷ [] else ys) zs)) (sym e)
          (subst (λ (b : Bool). AreKept kept (with_names (block ++ (z.name, means n) ∷ []) means (suc n) zs) (with_idents (if b then ys ++ z ∷ [] else ys) zs)) (sym (fresh ∙ e))
          (more (block ++ (z.name, means n) ∷ []) (ys ++ z ∷ []) now (seen_new seen block z (means n) same) (λ l c. inside l (Contains-append_right (local_if true (means n)) (declared_among (news (seen ++ z.name ∷ []) zs) (each_means means (suc n) zs)) l c))))
      by false e more =
          let inside : Inside (declared_among (news (seen ++ z.name ∷ []) zs) (each_means means (suc n) zs)) kept = subst (λ (b : Bool). Inside (local_if b (means n) ++ (declared_among (news (seen ++ z.name ∷ []) zs) (each_means means (suc n) zs))) kept) (flag ∙ e) all in
          subst (λ (b : Bool). AreKept kept (with_names (if b then block ++ (z.name, means n) ∷ [] else block) means (suc n) zs) (with_idents (if tree.is_new ys z then ys ++ z ∷ [] else ys) zs)) (sym e)
          (subst (λ (b : Bool). AreKept kept (with_names block means (suc n) zs) (with_idents (if b then ys ++ z ∷ [] else ys) zs)) (sym (fresh ∙ e))
          (more block ys h (seen_old seen block z (means n) same e) inside))

-- on the way through a function

module _ (st : FileStand) (results : List (Option Term)) (has_names : Bool) (beyond : List ℕ → Option Meaning) (kept : List TheLocal) where
  abbrev noted : Rules Meaning NoteOf
  noted = own_rules st results has_names

  abbrev OpenKept : PieceAt Meaning → Type 0
  OpenKept a = AreKept kept a.names a.locals

  pieces_kept : (steps : Steps) (outer block : Names Meaning) (xs ys : List Ident) (o c : ℕ) → AreNamed steps → AreKept kept outer xs → AreKept kept block ys
      → Inside (all_locals (walk_out noted beyond outer block o c steps).notes) kept → All OpenKept (pieces_at (place_rules st) beyond outer block xs ys steps)
  pieces_kept Done outer block xs ys o c named g h all = λ k d lt. absurd (omega arith)
  pieces_kept (Check p rest) outer block xs ys o c named g h all =
      let here = (noted.notes (look_in beyond (outer ++ block)) [] p) in
      let after = (walk_out noted beyond outer block o c rest).notes in
      All-cons OpenKept _ _ (both_kept kept outer block xs ys g h)
      (pieces_kept rest outer block xs ys o c named g h (λ l i. all l (subst (λ (ls : List TheLocal). Contains ls l) (sym (flat_map-append (λ (n : NoteOf). n.locals) here after)) (Contains-append_right (all_locals here) (all_locals after) l i))))
  pieces_kept (Declare m from p zs rest) outer block xs ys o c named g h all =
      let look : NameLook Meaning = look_in beyond (outer ++ block) in
      let firsts : List Bool = news (names_of block) zs in
      let values : ℕ → TheValue = value_at (piece_values (looks_where st look) firsts p) in
      let means : ℕ → Meaning = λ n. meanings.Local (ident_place (piece_declares p) n) (values n) in
      let next : Names Meaning = with_names block means 0 zs in
      let here = (noted.notes look firsts p) in
      let after = (walk_out noted beyond outer next o c rest).notes in
      let split = flat_map-append (λ (n : NoteOf). n.locals) here after in
      let declared : List TheLocal = declared_among firsts (each_means means 0 (piece_declares p)) in
      let own_inside : Inside (declared_among firsts (each_means means 0 zs)) kept =
      subst (λ (is : List Ident). Inside (declared_among firsts (each_means means 0 is)) kept) (sym named.0)
      (λ l i. all l (subst (λ (ls : List TheLocal). Contains ls l) (sym split) (Contains-append_left (all_locals here) (all_locals after) l (subst (λ (ls : List TheLocal). Contains ls l) (sym (append-nil declared)) i)))) in
      let mean : OwnMeans means 0 zs = subst (OwnMeans means 0) (sym named.0) (own (piece_declares p) values) in
      All-cons OpenKept _ _ (both_kept kept outer block xs ys g h)
      (pieces_kept rest outer next xs (with_idents ys zs) o c named.1 g (names_kept kept zs block ys (names_of block) means 0 h (seen_of block) mean own_inside)
      (λ l i. all l (subst (λ (ls : List TheLocal). Contains ls l) (sym split) (Contains-append_right (all_locals here) (all_locals after) l i))))
  pieces_kept (Inner a b steps rest) outer block xs ys o c named g h all =
      let first = (walk_out noted beyond (outer ++ block) [] a b steps).notes in
      let after = (walk_out noted beyond outer block o c rest).notes in
      let split = flat_map-append (λ (n : NoteOf). n.locals) first after in
      All-append OpenKept _ _
      (pieces_kept steps (outer ++ block) [] (xs ++ ys) [] a b named.0 (both_kept kept outer block xs ys g h) tt (λ l i. all l (subst (λ (ls : List TheLocal). Contains ls l) (sym split) (Contains-append_left (all_locals first) (all_locals after) l i))))
      (pieces_kept rest outer block xs ys o c named.1 g h (λ l i. all l (subst (λ (ls : List TheLocal). Contains ls l) (sym split) (Contains-append_right (all_locals first) (all_locals after) l i))))

-- so are those in front of each piece of it
pub func_kept : (st : FileStand) (g : FuncTree) (kept : List TheLocal) → Inside (checked_func st g).locals kept → All (λ (a : PieceAt Meaning). AreKept kept a.names a.locals) (func_pieces (place_rules st) (outer_meanings st) g)
func_kept st g kept h =
    pieces_kept st (returned_types (outer_looks st) g.signature) (returned_names g.signature) (outer_meanings st) kept (func_steps g) [] [] [] [] (func_opens g) (func_closes g) (steps_are_named g) tt tt h
