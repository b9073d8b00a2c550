-- States of a search, one behind the other: what the walk rests on.
use Rattle.std.proofs.Common.{◌≡◌, ℕ, ◌+◌, true, false, List, [], ◌∷◌, ◌++◌, length, take, drop, Option, Some, None, refl, sym, ap, ◌∙◌, subst, arith}
use Rattle.std.specs.Prelude.{is_some}
use Rattle.std.proofs.lemmas.Grind.{common_steps}
use Rattle.std.specs.Option.{option_map, option_or}
use Rattle.std.proofs.lemmas.List.{append-nil}
use Rattle.std.proofs.lemmas.List.Folds.{find-append}
use Rattle.go_tree_nodes.specs.declared.names.Ident.{Ident}
use Rattle.go_tree_nodes.specs.declared.stmts.«Simple» as declared_simple
use Rattle.go_tree_nodes.specs.declared.stmts.«Simple».TheVariants as simple
use Rattle.go_tree_nodes.specs.Shapes.{shape_simple}
use Rattle.go_tree_nodes.specs.TypeShapes.{shape_idents}
use Rattle.go_tree_nodes.specs.Spelling.{spell_simple}
use Rattle.go_expr_core.specs.local_core.Outline.{idents, end_of, simple_steps}
use Rattle.go_expr_core.specs.local_core.Steps.{Newness, OneNew, Act, Piece, Steps, Done, Check, Declare, Inner}
use Rattle.go_cursor_core.specs.declared.search.Search.{Search}
use Rattle.go_cursor_core.specs.declared.spot.UsedName.{UsedName}
use Rattle.go_cursor_core.proofs.Finding.{find_mapped}
use Rattle.go_cursor_core.specs.Blocks.{OpenBlock, opened}
use Rattle.go_cursor_core.specs.Shown.{used_shown, found_shown}
use Rattle.go_cursor_core.specs.Used.{begins_at, first_used, piece_used, simple_used}
use Rattle.go_cursor_core.specs.Opened.{OpenUsed, open_used, first_open, piece_opened, steps_opened, with_ident, with_idents}
use Rattle.go_cursor_core.specs.mirrors.Searching.{ahead_by, Leads, Declares, Enters, LeavesTo, left_by}

-- the first of a piece, with what is open there
pub piece_first : (start : ℕ) (xs : List Ident) (p : Piece) → first_open start (piece_opened xs p) ≡ option_map (open_used xs) (first_used start (piece_used p))
piece_first start xs p = find_mapped (λ o. begins_at start o.used) (open_used xs) (piece_used p)

-- what is found in a piece, or else behind it
pub piece_then : (start : ℕ) (xs : List Ident) (p : Piece) (r : Option UsedName) (more : List OpenUsed) → found_shown r ≡ first_used start (piece_used p)
    → first_open start (piece_opened xs p ++ more) ≡ option_or (option_map (λ u. open_used xs (used_shown u)) r) (first_open start more)
piece_then start xs p r more h =
    find-append (λ o. begins_at start o.used) (piece_opened xs p) more ∙ ap (λ o. option_or o (first_open start more)) (piece_first start xs p ∙ (ap (option_map (open_used xs)) (sym h) ∙ twice r))
  where
    twice : (r : Option UsedName) → option_map (open_used xs) (found_shown r) ≡ option_map (λ u. open_used xs (used_shown u)) r
    twice None = refl
    twice (Some u) = refl

pub leads_none : (a : Search) → Leads a (λ rest. rest) a
leads_none a = record { led = λ ok. record { memory = ok; start = refl; same = λ rest. refl; outer = λ n. (n, refl) } }

pub leads_more : (a b c : Search) (f g : Steps → Steps) → Leads a f b → Leads b g c → Leads a (λ rest. f (g rest)) c
leads_more a b c f g first second = record {
  led = λ ok.
      let there = second.led ok in
      let here = first.led there.memory in
      record {
        memory = here.memory;
        start = there.start ∙ here.start;
        same = λ rest. here.same (g rest) ∙ there.same rest;
        outer = λ n. let mid = there.outer n in let last = here.outer mid.0 in (last.0, mid.1 ∙ last.1);
      };
}

-- the same steps
pub same : (a b : Search) (f g : Steps → Steps) → f ≡ g → Leads a g b → Leads a f b
same a b f g e h = subst (λ s. Leads a s b) (sym e) h

-- blocks

some_is_not : {A : Type 0} (x : A) → ◌≡◌ {A = Option A} (Some x) None → ⊥
some_is_not x h = absurd (cc)

split : (oa oc : OpenBlock) (n : ℕ) → n ≡ length oa.outer → oc.outer ≡ oa.outer ++ oa.block → (take n oc.outer ≡ oa.outer) × (drop n oc.outer ≡ oa.block)
split oa oc n count same = (
  ap (λ l. take n l) same ∙ (ap (λ m. take m (oa.outer ++ oa.block)) count ∙ grind (arith, common_steps)),
  ap (λ l. drop n l) same ∙ (ap (λ m. drop m (oa.outer ++ oa.block)) count ∙ grind (arith, common_steps)),
)

-- inside a block and then behind it, where it is found already and where it is not
inner_ahead : (start : ℕ) (oa oc : OpenBlock) (fa fc : Option UsedName) (n o e : ℕ) (f : Steps → Steps) → n ≡ length oa.outer
    → ahead_by start (opened (oa.outer ++ oa.block) []) fa (f Done) ≡ ahead_by start oc fc Done → (fc ≡ None → (fa ≡ None) × (oc.outer ≡ oa.outer ++ oa.block))
    → (rest : Steps) → ahead_by start oa fa (Inner o e (f Done) rest) ≡ ahead_by start (left_by n oc fc) fc rest
inner_ahead start oa oc None None n o e f count inside around rest =
    find-append (λ u. begins_at start u.used) (steps_opened (oa.outer ++ oa.block) [] (f Done)) (steps_opened oa.outer oa.block rest)
    ∙ (ap (λ x. option_or x (first_open start (steps_opened oa.outer oa.block rest))) inside
    ∙ (ap (λ l. first_open start (steps_opened l oa.block rest)) (sym (split oa oc n count (around refl).1).0) ∙ ap (λ l. first_open start (steps_opened (take n oc.outer) l rest)) (sym (split oa oc n count (around refl).1).1)))
inner_ahead start oa oc None (Some v) n o e f count inside around rest =
    find-append (λ u. begins_at start u.used) (steps_opened (oa.outer ++ oa.block) [] (f Done)) (steps_opened oa.outer oa.block rest) ∙ ap (λ x. option_or x (first_open start (steps_opened oa.outer oa.block rest))) inside
inner_ahead start oa oc (Some u) None n o e f count inside around rest = absurd (some_is_not u (around refl).0)
inner_ahead start oa oc (Some u) (Some v) n o e f count inside around rest = ap (λ l. Some (open_used l (used_shown u))) (sym (append-nil (oa.outer ++ oa.block))) ∙ inside

outer_left : (n : ℕ) (oa oc : OpenBlock) (fc : Option UsedName) → n ≡ length oa.outer → oc.outer ≡ oa.outer ++ oa.block → fc ≡ None → (left_by n oc fc).outer ≡ oa.outer
outer_left n oa oc None count around none = (split oa oc n count around).0
outer_left n oa oc (Some u) count around none = absurd (some_is_not u none)

pub leads_inner : (a b c d : Search) (n o e : ℕ) (f : Steps → Steps) → Enters a n b → Leads b f c → LeavesTo c n d → Leads a (λ rest. Inner o e (f Done) rest) d
leads_inner a b c d n o e f enters leads leaves = record {
  led = λ ok.
      let along = leads.led (sym leaves.memory ∙ ok) in
      let starts : c.start ≡ a.start = along.start ∙ enters.start in
      let inside : ahead_by a.start (opened (a.names.outer ++ a.names.block) []) a.found (f Done) ≡ ahead_by a.start c.names c.found Done =
      ap (λ s. ahead_by s (opened (a.names.outer ++ a.names.block) []) a.found (f Done)) (sym enters.start)
      ∙ (ap (λ x. ahead_by b.start (opened (a.names.outer ++ a.names.block) []) x (f Done)) (sym enters.found)
      ∙ (ap (λ x. ahead_by b.start x b.found (f Done)) (sym enters.names)
      ∙ (along.same Done ∙ ap (λ s. ahead_by s c.names c.found Done) starts))) in
      let around : c.found ≡ None → (a.found ≡ None) × (c.names.outer ≡ a.names.outer ++ a.names.block) =
      λ gone. let back = along.outer gone in (sym enters.found ∙ back.0, back.1 ∙ ap (λ (x : OpenBlock). x.outer) enters.names) in
      record {
        memory = sym enters.memory ∙ along.memory;
        start = leaves.start ∙ starts;
        same = λ rest.
            inner_ahead a.start a.names c.names a.found c.found n o e f enters.count inside around rest
            ∙ (ap (λ s. ahead_by s (left_by n c.names c.found) c.found rest) (sym (leaves.start ∙ starts))
            ∙ (ap (λ x. ahead_by d.start x c.found rest) (sym leaves.names)
            ∙ ap (λ x. ahead_by d.start d.names x rest) (sym leaves.found)));
        outer = λ gone. let out = sym leaves.found ∙ gone in let back = around out in (back.0, ap (λ (x : OpenBlock). x.outer) leaves.names ∙ outer_left n a.names c.names c.found enters.count back.1 out);
      };
}

-- names

pub idents_more : (block xs ys : List Ident) → with_idents block (xs ++ ys) ≡ with_idents (with_idents block xs) ys
idents_more block [] ys = refl
idents_more block (x ∷ xs) ys = idents_more (with_ident block x) xs ys

pub declares_none : (a : Search) → Declares a [] a
declares_none a = record { made = λ ok. record { memory = ok; start = refl; found = refl; names = refl } }

pub declares_more : (a b c : Search) (xs ys : List Ident) → Declares a xs b → Declares b ys c → Declares a (xs ++ ys) c
declares_more a b c xs ys first second = record {
  made = λ ok.
      let there = second.made ok in
      let here = first.made there.memory in
      record {
        memory = here.memory;
        start = there.start ∙ here.start;
        found = there.found ∙ here.found;
        names = there.names ∙ (ap (λ (o : OpenBlock). opened o.outer (with_idents o.block ys)) here.names ∙ ap (opened a.names.outer) (sym (idents_more a.names.block xs ys)));
      };
}

pub declares_same : (a b : Search) (xs ys : List Ident) → xs ≡ ys → Declares a xs b → Declares a ys b
declares_same a b xs ys e h = subst (λ l. Declares a l b) e h

-- pieces

-- a piece that declares nothing is passed
check_ahead : (start : ℕ) (o : OpenBlock) (fa fb : Option UsedName) (p : Piece) → is_some fa ≡ false → found_shown fb ≡ first_used start (piece_used p) → (rest : Steps) → ahead_by start o fa (Check p rest) ≡ ahead_by start o fb rest
check_ahead start o (Some u) fb p before now rest = absurd (cc)
check_ahead start o None None p before now rest = piece_then start (o.outer ++ o.block) p None (steps_opened o.outer o.block rest) now
check_ahead start o None (Some u) p before now rest = piece_then start (o.outer ++ o.block) p (Some u) (steps_opened o.outer o.block rest) now

none_is : (r : Option UsedName) → is_some r ≡ false → r ≡ None
none_is None h = refl
none_is (Some u) h = absurd (cc)

pub checked : (a b : Search) (p : Piece) → is_some a.found ≡ false → found_shown b.found ≡ first_used a.start (piece_used p) → b.start ≡ a.start → b.names ≡ a.names → b.lacks_memory ≡ a.lacks_memory → Leads a (λ rest. Check p rest) b
checked a b p before now starts names memory = record {
  led = λ ok. record {
    memory = sym memory ∙ ok;
    start = starts;
    same = λ rest. check_ahead a.start a.names a.found b.found p before now rest ∙ (ap (λ s. ahead_by s a.names b.found rest) (sym starts) ∙ ap (λ x. ahead_by b.start x b.found rest) (sym names));
    outer = λ n. (none_is a.found before, ap (λ (o : OpenBlock). o.outer) names);
  };
}

-- a piece that declares names: it is found in the piece, or else its names are declared
declared_ahead : (start : ℕ) (oa ob : OpenBlock) (fa fb : Option UsedName) (m : Newness) (from : ℕ) (p : Piece) (xs : List Ident) → is_some fa ≡ false → found_shown fb ≡ first_used start (piece_used p) → is_some fb ≡ false
    → ob ≡ opened oa.outer (with_idents oa.block xs) → (rest : Steps) → ahead_by start oa fa (Declare m from p xs rest) ≡ ahead_by start ob fb rest
declared_ahead start oa ob (Some u) fb m from p xs before now gone names rest = absurd (cc)
declared_ahead start oa ob None (Some u) m from p xs before now gone names rest = absurd (cc)
declared_ahead start oa ob None None m from p xs before now gone names rest =
    piece_then start (oa.outer ++ oa.block) p None (steps_opened oa.outer (with_idents oa.block xs) rest) now ∙ ap (λ (o : OpenBlock). first_open start (steps_opened o.outer o.block rest)) (sym names)

found_ahead : (start : ℕ) (o : OpenBlock) (fa fb : Option UsedName) (m : Newness) (from : ℕ) (p : Piece) (xs : List Ident) → is_some fa ≡ false → found_shown fb ≡ first_used start (piece_used p) → is_some fb ≡ true
    → (rest : Steps) → ahead_by start o fa (Declare m from p xs rest) ≡ ahead_by start o fb rest
found_ahead start o (Some u) fb m from p xs before now there rest = absurd (cc)
found_ahead start o None None m from p xs before now there rest = absurd (cc)
found_ahead start o None (Some u) m from p xs before now there rest = piece_then start (o.outer ++ o.block) p (Some u) (steps_opened o.outer (with_idents o.block xs) rest) now

pub found_here : (a b : Search) (m : Newness) (from : ℕ) (p : Piece) (xs : List Ident) → is_some a.found ≡ false → found_shown b.found ≡ first_used a.start (piece_used p) → is_some b.found ≡ true
    → b.start ≡ a.start → b.names ≡ a.names → b.lacks_memory ≡ a.lacks_memory → Leads a (λ rest. Declare m from p xs rest) b
found_here a b m from p xs before now there starts names memory = record {
  led = λ ok. record {
    memory = sym memory ∙ ok;
    start = starts;
    same = λ rest. found_ahead a.start a.names a.found b.found m from p xs before now there rest ∙ (ap (λ s. ahead_by s a.names b.found rest) (sym starts) ∙ ap (λ x. ahead_by b.start x b.found rest) (sym names));
    outer = λ n. absurd (some_at b.found there n);
  };
}
  where
    some_at : (r : Option UsedName) → is_some r ≡ true → r ≡ None → ⊥
    some_at None h n = absurd (cc)
    some_at (Some u) h n = some_is_not u n

-- m is the state behind the piece, before its names are declared
pub declared_here : (a m b : Search) (kind : Newness) (from : ℕ) (p : Piece) (xs : List Ident) → is_some a.found ≡ false → found_shown m.found ≡ first_used a.start (piece_used p) → is_some m.found ≡ false
    → m.start ≡ a.start → m.names ≡ a.names → m.lacks_memory ≡ a.lacks_memory → Declares m xs b → Leads a (λ rest. Declare kind from p xs rest) b
declared_here a m b kind from p xs before now gone starts names memory declares = record {
  led = λ ok.
      let d = declares.made ok in
      let there : b.names ≡ opened a.names.outer (with_idents a.names.block xs) = d.names ∙ ap (λ (o : OpenBlock). opened o.outer (with_idents o.block xs)) names in
      record {
        memory = sym memory ∙ d.memory;
        start = d.start ∙ starts;
        same = λ rest.
            declared_ahead a.start a.names b.names a.found m.found kind from p xs before now gone there rest
            ∙ (ap (λ x. ahead_by a.start b.names x rest) (sym d.found) ∙ ap (λ s. ahead_by s b.names b.found rest) (sym (d.start ∙ starts)));
        outer = λ n. (none_is a.found before, ap (λ (o : OpenBlock). o.outer) there);
      };
}

-- a statement that may stand in a header: one that declares nothing, and one in which the identifier is found

pub simple_passed : (a b : Search) (s : declared_simple.Simple) → ((d : _) → s ≡ simple.Define d → ⊥) → is_some a.found ≡ false → found_shown b.found ≡ first_used a.start (simple_used (shape_simple s)) → b.start ≡ a.start → b.names ≡ a.names → b.lacks_memory ≡ a.lacks_memory
    → Leads a (λ rest. simple_steps (shape_simple s) rest) b
simple_passed a b (simple.Expr e) apart before now starts names memory = checked a b (Act (shape_simple (simple.Expr e))) before now starts names memory
simple_passed a b (simple.Step e op span) apart before now starts names memory = checked a b (Act (shape_simple (simple.Step e op span))) before now starts names memory
simple_passed a b (simple.Assign x) apart before now starts names memory = checked a b (Act (shape_simple (simple.Assign x))) before now starts names memory
simple_passed a b (simple.Update u) apart before now starts names memory = checked a b (Act (shape_simple (simple.Update u))) before now starts names memory
simple_passed a b (simple.Define d) apart before now starts names memory = absurd (apart d refl)

pub simple_found : (a b : Search) (s : declared_simple.Simple) → is_some a.found ≡ false → found_shown b.found ≡ first_used a.start (simple_used (shape_simple s)) → is_some b.found ≡ true → b.start ≡ a.start → b.names ≡ a.names → b.lacks_memory ≡ a.lacks_memory
    → Leads a (λ rest. simple_steps (shape_simple s) rest) b
simple_found a b (simple.Expr e) before now there starts names memory = checked a b (Act (shape_simple (simple.Expr e))) before now starts names memory
simple_found a b (simple.Step e op span) before now there starts names memory = checked a b (Act (shape_simple (simple.Step e op span))) before now starts names memory
simple_found a b (simple.Assign x) before now there starts names memory = checked a b (Act (shape_simple (simple.Assign x))) before now starts names memory
simple_found a b (simple.Update u) before now there starts names memory = checked a b (Act (shape_simple (simple.Update u))) before now starts names memory
simple_found a b (simple.Define d) before now there starts names memory =
    found_here a b OneNew (end_of (spell_simple (shape_simple (simple.Define d)))) (Act (shape_simple (simple.Define d))) (idents (shape_idents d.value.names)) before now there starts names memory
