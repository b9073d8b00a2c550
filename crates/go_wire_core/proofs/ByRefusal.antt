-- By which rule a line is refused, and in whose name.
use Rattle.std.proofs.Common.{◌≡◌, ◌≢◌, ◌⊎◌, inl, inr, ℕ, List, [], Bool, true, false, Option, Some, None, codes, bytes_eq, refl, sym, ap, subst, ◌∙◌}
use Rattle.std.specs.Prelude.{option_and_then}
use Rattle.std.proofs.lemmas.Slice.Eq.{bytes_eq-Decides}
use Rattle.serde_json.specs.Data.{Members, no_members, member}
use Rattle.serde_json.specs.Find.{as_str, get_member}
use Rattle.go_text_core.specs.declared.rule.Rule.{Rule}
use Rattle.go_text_core.specs.declared.rule.Rule.TheVariants.{V2, V3}
use Rattle.go_wire_core.specs.declared.request.Command.{Command}
use Rattle.go_wire_core.specs.declared.request.Command.TheVariants.{Open, Edit, Build, List as ListOf, Doc, Complete, Define, Run, Close}
use Rattle.go_wire_core.specs.declared.step.Step.TheVariants.{Refuse}
use Rattle.go_wire_core.specs.Requests.{Reading, asked, asked_by, asked_of, docs, edits, finished, known, lists, named, object_of, opens, places, reading_of, runs, session_of, without}
use Rattle.go_wire_core.specs.Table.{AreOfNoCommand, IsBy, IsOfSession, NamesNoCommand, RefusesByTable, name_of}
use Rattle.go_wire_core.proofs.ByTable.{and_then_is, session_is, session_there, text_back}

-- ---- names of no command

some_none : {A : Type 0} (a : A) → Some a ≡ None → ⊥
some_none a h = cc

is_read : (command : Command) (ms : Members) → reading_of (name_of command) ms ≡ None → ⊥
is_read (Open path) ms h = some_none (opens ms) h
is_read (Edit path file text) ms h = some_none (edits ms) h
is_read Build ms h = some_none {A = Reading} (Some (Build, ms)) h
is_read (ListOf from) ms h = some_none (lists ms) h
is_read (Doc from path type_name) ms h = some_none (docs ms) h
is_read (Complete path file offset) ms h = some_none (places Complete ms) h
is_read (Define path file offset) ms h = some_none (places Define ms) h
is_read (Run path steps) ms h = some_none (runs ms) h
is_read Close ms h = some_none {A = Reading} (Some (Close, ms)) h

not_equal : (a b : List ℕ) → a ≢ b → bytes_eq a b ≡ false
not_equal a b h = by (bytes_eq a b) refl
  where
    by : (v : Bool) → bytes_eq a b ≡ v → v ≡ false
    by true same = absurd (h ((bytes_eq-Decides a b).0 same))
    by false same = refl

not_read : (name : List ℕ) (ms : Members) → ((command : Command) → name ≢ name_of command) → reading_of name ms ≡ None
not_read name ms h =
    let open' = not_equal name (codes "open") (h (Open [])) in
    let edit = not_equal name (codes "edit") (h (Edit [] [] None)) in
    let build = not_equal name (codes "build") (h Build) in
    let list = not_equal name (codes "list") (h (ListOf [])) in
    let doc = not_equal name (codes "doc") (h (Doc [] [] None)) in
    let complete = not_equal name (codes "complete") (h (Complete [] [] 0)) in
    let define = not_equal name (codes "define") (h (Define [] [] 0)) in
    let run = not_equal name (codes "run") (h (Run [] 0)) in
    let close = not_equal name (codes "close") (h Close) in
    rw (open', edit, build, list, doc, complete, define, run, close) refl

-- ---- what a refusal comes from

finished_refuses : (session s : Option ℕ) (rule : Rule) (r : Reading) → finished session r ≡ Refuse s rule → (s ≡ session) × (rule ≡ V2)
finished_refuses session s rule None h = (cc, cc)
finished_refuses session s rule (Some (command, no_members)) h = cc
finished_refuses session s rule (Some (command, member k d ms)) h = (cc, cc)

known_refuses : (session s : Option ℕ) (rule : Rule) (r : Option Reading) → known session r ≡ Refuse s rule → (s ≡ session) × ((rule ≡ V2) ⊎ ((rule ≡ V3) × (r ≡ None)))
known_refuses session s rule None h = (cc, inr (cc, refl))
known_refuses session s rule (Some reading) h = let f = finished_refuses session s rule reading h in (f.0, inl f.1)

named_refuses : (session s : Option ℕ) (rule : Rule) (ms : Members) (o : Option (List ℕ)) → named session ms o ≡ Refuse s rule
    → (s ≡ session) × ((rule ≡ V2) ⊎ ((rule ≡ V3) × ((name : List ℕ) × (o ≡ Some name) × (reading_of name ms ≡ None))))
named_refuses session s rule ms None h = (cc, inl cc)
named_refuses session s rule ms (Some name) h = (let k = known_refuses session s rule (reading_of name ms) h in (k.0, by k.1))
  where
    by : (rule ≡ V2) ⊎ ((rule ≡ V3) × (reading_of name ms ≡ None)) → (rule ≡ V2) ⊎ ((rule ≡ V3) × ((n : List ℕ) × (Some name ≡ Some n) × (reading_of n ms ≡ None)))
    by (inl two) = inl two
    by (inr three) = inr (three.0, (name, refl, three.1))

-- the text of the member `cmd` is not read
names_none : (ms : Members) (name : List ℕ) → option_and_then as_str (get_member (codes "cmd") ms) ≡ Some name → reading_of name (without (codes "cmd") ms) ≡ None → NamesNoCommand ms
names_none ms name text none =
    let d = and_then_is as_str (get_member (codes "cmd") ms) name text in
    record {
      name = name;
      there = d.1 ∙ ap Some (text_back d.0 name d.2);
      none = λ command same. is_read command (without (codes "cmd") ms) (subst (λ n. reading_of n (without (codes "cmd") ms) ≡ None) same none);
    }

asked_refuses : (session s : Option ℕ) (rule : Rule) (ms : Members) → asked session ms ≡ Refuse s rule → (s ≡ session) × ((rule ≡ V2) ⊎ ((rule ≡ V3) × NamesNoCommand ms))
asked_refuses session s rule ms h = (n.0, by n.1)
  where
    n : (s ≡ session) × ((rule ≡ V2) ⊎ ((rule ≡ V3) × ((name : List ℕ) × (option_and_then as_str (get_member (codes "cmd") ms) ≡ Some name) × (reading_of name (without (codes "cmd") ms) ≡ None))))
    n = named_refuses session s rule (without (codes "cmd") ms) (option_and_then as_str (get_member (codes "cmd") ms)) h

    by : (rule ≡ V2) ⊎ ((rule ≡ V3) × ((name : List ℕ) × (option_and_then as_str (get_member (codes "cmd") ms) ≡ Some name) × (reading_of name (without (codes "cmd") ms) ≡ None)))
        → (rule ≡ V2) ⊎ ((rule ≡ V3) × NamesNoCommand ms)
    by (inl two) = inl two
    by (inr three) = inr (three.0, names_none ms three.1.0 three.1.1 three.1.2)

-- where lines are numbered or not, an object was found or not
pub record Refusal (numbered : Bool) (found : Option Members) (session : Option ℕ) (rule : Rule) : Type 0 where
  pub named' : IsOfSession numbered found session
  pub rule' : (rule ≡ V2) ⊎ ((rule ≡ V3) × ((ms : Members) × (found ≡ Some ms) × AreOfNoCommand numbered session ms))

-- a session is named by no other number
not_named : (ms : Members) → session_of ms ≡ None → (n : ℕ) → IsBy (Some n) ms → ⊥
not_named ms none n h =
    let there : session_of ms ≡ Some h.number' = session_there ms h.number' h.there h.least h.most in
    some_none h.number' (sym there ∙ none)

is_by : (ms : Members) (n : ℕ) → session_of ms ≡ Some n → IsBy (Some n) ms
is_by ms n h = let s = session_is ms n h in record { number' = n; is = refl; least = s.0; most = s.1; there = s.2 }

by_session_refuses : (ms : Members) (o s : Option ℕ) (rule : Rule) → session_of ms ≡ o → asked_by (without (codes "s") ms) o ≡ Refuse s rule → Refusal true (Some ms) s rule
by_session_refuses ms None s rule same h =
    let none : s ≡ None = cc in
    record {
      named' = subst (IsOfSession true (Some ms)) (sym none) (λ ms' is n. (let back : ms ≡ ms' = cc in λ k. not_named ms same n (subst (IsBy (Some n)) (sym back) k)));
      rule' = inl cc;
    }
by_session_refuses ms (Some n) s rule same h = record { named' = subst (IsOfSession true (Some ms)) (sym a.0) (ms, refl, is_by ms n same); rule' = by a.1 }
  where
    a : (s ≡ Some n) × ((rule ≡ V2) ⊎ ((rule ≡ V3) × NamesNoCommand (without (codes "s") ms)))
    a = asked_refuses (Some n) s rule (without (codes "s") ms) h

    by : (rule ≡ V2) ⊎ ((rule ≡ V3) × NamesNoCommand (without (codes "s") ms)) → (rule ≡ V2) ⊎ ((rule ≡ V3) × ((k : Members) × (Some ms ≡ Some k) × AreOfNoCommand true s k))
    by (inl two) = inl two
    by (inr three) = inr (three.0, (ms, refl, (subst (λ o. IsBy o ms) (sym a.0) (is_by ms n same), three.1)))

refuses : (numbered : Bool) (found : Option Members) (s : Option ℕ) (rule : Rule) → asked_of numbered found ≡ Refuse s rule → Refusal numbered found s rule
refuses true None s rule h =
    let none : s ≡ None = cc in
    record { named' = subst (IsOfSession true None) (sym none) (λ ms is n. (let no : ⊥ = cc in absurd no)); rule' = inl cc }
refuses false None s rule h = record { named' = cc; rule' = inl cc }
refuses true (Some ms) s rule h = by_session_refuses ms (session_of ms) s rule refl h
refuses false (Some ms) s rule h = record { named' = a.0; rule' = by a.1 }
  where
    a : (s ≡ None) × ((rule ≡ V2) ⊎ ((rule ≡ V3) × NamesNoCommand ms))
    a = asked_refuses None s rule ms h

    by : (rule ≡ V2) ⊎ ((rule ≡ V3) × NamesNoCommand ms) → (rule ≡ V2) ⊎ ((rule ≡ V3) × ((k : Members) × (Some ms ≡ Some k) × AreOfNoCommand false s k))
    by (inl two) = inl two
    by (inr three) = inr (three.0, (ms, refl, (a.0, three.1)))

-- ---- and back

asks_none : (session : Option ℕ) (ms : Members) → NamesNoCommand ms → asked session ms ≡ Refuse session V3
asks_none session ms h =
    ap (λ o. named session (without (codes "cmd") ms) (option_and_then as_str o)) h.there ∙ ap (known session) (not_read h.name (without (codes "cmd") ms) h.none)

refuses_back : (numbered : Bool) (ms : Members) (session : Option ℕ) → AreOfNoCommand numbered session ms → asked_of numbered (Some ms) ≡ Refuse session V3
refuses_back true ms session h =
    let s = h.0 in
    ap (asked_by (without (codes "s") ms)) (session_there ms s.number' s.there s.least s.most)
    ∙ (asks_none (Some s.number') (without (codes "s") ms) h.1 ∙ ap (λ (o : Option ℕ). Refuse o V3) (sym s.is))
refuses_back false ms session h = asks_none None ms h.1 ∙ ap (λ (o : Option ℕ). Refuse o V3) (sym h.0)

unknown_is : (numbered : Bool) (found : Option Members) (session : Option ℕ) → Refusal numbered found session V3 → (ms : Members) × (found ≡ Some ms) × AreOfNoCommand numbered session ms
unknown_is numbered found session h = by h.rule'
  where
    by : (◌≡◌ {A = Rule} V3 V2) ⊎ ((◌≡◌ {A = Rule} V3 V3) × ((ms : Members) × (found ≡ Some ms) × AreOfNoCommand numbered session ms)) → (ms : Members) × (found ≡ Some ms) × AreOfNoCommand numbered session ms
    by (inl two) = cc
    by (inr three) = three.1

one_of : (numbered : Bool) (found : Option Members) (session : Option ℕ) (rule : Rule) → Refusal numbered found session rule → (rule ≡ V2) ⊎ (rule ≡ V3)
one_of numbered found session rule h = by h.rule'
  where
    by : (rule ≡ V2) ⊎ ((rule ≡ V3) × ((ms : Members) × (found ≡ Some ms) × AreOfNoCommand numbered session ms)) → (rule ≡ V2) ⊎ (rule ≡ V3)
    by (inl two) = inl two
    by (inr three) = inr three.0

pub by_refusal : RefusesByTable
by_refusal = record {
  unknown = λ numbered line session. (
    λ h. unknown_is numbered (object_of line) session (refuses numbered (object_of line) session V3 h),
    λ h. ap (asked_of numbered) h.1 ∙ refuses_back numbered h.0 session h.2,
  );
  other = λ numbered line session rule h. one_of numbered (object_of line) session rule (refuses numbered (object_of line) session rule h);
  named' = λ numbered line session rule h. (refuses numbered (object_of line) session rule h).named';
}
